-- What may be put beside a new node.
use Rattle.std.proofs.Common.{◌≡◌, ℕ, ◌<◌, ◌≤◌, length, Some, true, refl, arith}
use Rattle.std.proofs.lemmas.Option.{slice_get-get_or}
use Rattle.ot_logic.specs.Trees.{TyVar, NVar, NConst, NApp, NAbs}
use Rattle.ot_logic.specs.Hol.{depth_ty, depth_limit}
use Rattle.ot_logic.specs.NamedTerms.{named_type, named_depth}
use Rattle.ot_logic.specs.Naming.{numbers}
use Rattle.ot_type.specs.TypeTable.{type_at}
use Rattle.ot_term.specs.Term.{TermTable}
use Rattle.ot_term.specs.TermTable.{term_at, variable_of, is_within_limit, Suits, IsTermTable}
use Rattle.ot_term.specs.declared.term.VarKey.{VarKey}
use Rattle.ot_term.proofs.Limit.{limit-variable, limit-constant, limit-application, limit-abstraction}

module _ (t : TermTable) (table : IsTermTable t) where
  -- each type of the table is within the limit, and so is each term
  pub shallow_at : (i : ℕ) → i < length t.types → depth_ty numbers (type_at t.types i) ≤ depth_limit
  shallow_at i h = table.types.shallow i _ (slice_get-get_or t.types i (TyVar 0) h)

  pub limit_at : (i : ℕ) → i < length t.terms → is_within_limit (term_at t.terms i) ≡ true
  limit_at i h = table.limit i _ (slice_get-get_or t.terms i (NConst 0 (TyVar 0)) h)

  pub suits-variable : (v : VarKey) → v.ty < length t.types → Suits t.types (NVar (variable_of t.types v)) v.ty 1
  suits-variable v h =
      record {
        below = h;
        typed = refl;
        depth = refl;
        limit = limit-variable (variable_of t.types v)
            (shallow_at v.ty h);
      }

  pub suits-constant : (n ty : ℕ) → ty < length t.types → Suits t.types (NConst n (type_at t.types ty)) ty 1
  suits-constant n ty h =
      record {
        below = h;
        typed = refl;
        depth = refl;
        limit = limit-constant n (type_at t.types ty)
            (shallow_at ty h);
      }

  pub suits-application : (f x ty depth : ℕ) → f < length t.terms → x < length t.terms → ty < length t.types
      → named_type numbers (NApp (term_at t.terms f) (term_at t.terms x)) ≡ Some (type_at t.types ty)
      → depth ≡ named_depth numbers (NApp (term_at t.terms f) (term_at t.terms x)) → depth ≤ depth_limit
      → Suits t.types (NApp (term_at t.terms f) (term_at t.terms x)) ty depth
  suits-application f x ty depth hf hx hty typed is d = record {
    below = hty;
    typed = typed;
    depth = is;
    limit = limit-application (term_at t.terms f) (term_at t.terms x) (type_at t.types ty) typed (shallow_at ty hty)
        (omega (arith, is, d)) (limit_at f hf) (limit_at x hx);
  }

  pub suits-abstraction : (v : VarKey) (b ty depth : ℕ) → b < length t.terms → ty < length t.types
      → named_type numbers (NAbs (variable_of t.types v) (term_at t.terms b)) ≡ Some (type_at t.types ty)
      → depth ≡ named_depth numbers (NAbs (variable_of t.types v) (term_at t.terms b)) → depth ≤ depth_limit
      → Suits t.types (NAbs (variable_of t.types v) (term_at t.terms b)) ty depth
  suits-abstraction v b ty depth hb hty typed is d = record {
    below = hty;
    typed = typed;
    depth = is;
    limit = limit-abstraction (variable_of t.types v) (term_at t.terms b) (type_at t.types ty) typed
        (shallow_at ty hty) (omega (arith, is, d)) (limit_at b hb);
  }
