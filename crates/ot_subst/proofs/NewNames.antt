-- A name that is past all that occur captures no variable.
use Rattle.std.proofs.Common.{◌≡◌, ℕ, ◌<◌, ◌≤◌, List, [], ◌∷◌, length, ap, inl, inr, arith}
use Rattle.ot_logic.specs.Lists.{IsMember}
use Rattle.ot_logic.specs.Trees.{Variable, Named}
use Rattle.ot_logic.specs.Bounds.{bound_named}
use Rattle.ot_logic.proofs.Members.{IsMember-map_back, All-at_member}
use Rattle.ot_laws.proofs.New.{IsOld, old-terms, apart-new}
use Rattle.ot_term.specs.Term.{TermTable}
use Rattle.ot_term.specs.TermTable.{term_at, variable_of}
use Rattle.ot_term.specs.declared.term.VarKey.{VarKey}
use Rattle.ot_term.proofs.NamesIn.{bound_named-term_at}
use Rattle.ot_subst.specs.Substitution.{Substitution, type_part, named_part, variable_part}
use Rattle.ot_subst.specs.Renamed.{renaming_of}
use Rattle.ot_subst.specs.Walk.{IsSetUp, bound_of}
use Rattle.ot_subst.specs.Clash.{StaysApart}

bound-binder : (k : ℕ) (t : TermTable) (r : List (VarKey × VarKey)) (p : Variable ℕ × Variable ℕ) → bound_of r ≤ k
    → IsMember p (renaming_of t.types r) → p.1.name < k
bound-binder k t [] p h i = absurd i
bound-binder k t (q ∷ r) p h (inl e) =
    let n : q.1.name ≡ p.1.name = ap (λ (z : Variable ℕ × Variable ℕ). z.1.name) e in omega arith
bound-binder k t (q ∷ r) p h (inr i) = bound-binder k t r p (omega arith) i

module _ {k : ℕ} {t : TermTable} {s : Substitution} {r : List (VarKey × VarKey)} (set : IsSetUp k t s r) where
  old : IsOld k (renaming_of t.types r) (variable_part t s)
  old = record {
    binders = λ p i. bound-binder k t r p set.bound i;
    terms = old-terms k (named_part t s) (λ p i.
        let (q, m, e) = IsMember-map_back (λ (z : VarKey × ℕ). (variable_of t.types z.0, term_at t.terms z.1)) p
        s.terms i in
        let within : q.1 < length t.terms =
        All-at_member (λ (z : VarKey × ℕ). z.1 < length t.terms) s.terms q set.ready.subst.terms m in
        let size = ap (λ (z : Variable ℕ × Named ℕ). bound_named z.1) e in
        let most = bound_named-term_at t.terms q.1 within in
        let all = set.names.terms in
        omega arith);
  }

  pub apart-new_name : (v : VarKey) (name ty body : ℕ) → body < length t.terms → k ≤ name
      → StaysApart t s r v (record { name = name; ty = ty }) body
  apart-new_name v name ty body within new =
      let most = bound_named-term_at t.terms body within in
      let all = set.names.terms in
      apart-new k (variable_of t.types (record { name = name; ty = ty })) (variable_of t.types v)
      (renaming_of t.types r) (type_part t s) (variable_part t s) (term_at t.terms body) new old (omega arith)
