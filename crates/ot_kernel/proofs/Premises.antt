-- The parts of a type operator's premise.
use Rattle.std.proofs.Common.{◌≡◌, ℕ, ◌<◌, List, [], length, slice_get, Some, sym, ap, subst, ◌∙◌}
use Rattle.std.proofs.lemmas.Option.{same_Some, get_or_from_slice_get}
use Rattle.ot_logic.specs.Trees.{TyVar, TyOp, Tm, App, NConst, NApp}
use Rattle.ot_logic.specs.Hol.{fun_ty, bool_ty, type_in, HasType, IsClosed, tys_of_vars, theorems_at, type_theorems}
use Rattle.ot_logic.specs.NamedTerms.{nameless, named_type}
use Rattle.ot_logic.specs.Naming.{numbers}
use Rattle.ot_laws.proofs.Tests.{tells_numbers}
use Rattle.ot_laws.proofs.Typing.{applied-some, type_of-is, type-nameless}
use Rattle.ot_type.specs.TypeTable.{type_at}
use Rattle.ot_term.specs.Term.{TermTable}
use Rattle.ot_term.specs.TermTable.{term_at}
use Rattle.ot_kernel.specs.Numbered.{tm_at}
use Rattle.ot_kernel.specs.Proved.{IsPremise, ArePartsOf}
use Rattle.ot_kernel.specs.Opening.{open_theorems, open_theorems_at, beta_over, beta_at}

-- the parts of the node, and the type of the argument
pub parts_are : (m : TermTable) (i p x u : ℕ)
    → slice_get m.terms i ≡ Some (NApp (term_at m.terms p) (term_at m.terms x)) → IsPremise numbers (tm_at m.terms i)
    → p < length m.terms → u < length m.types → named_type numbers (term_at m.terms x) ≡ Some (type_at m.types u)
    → ArePartsOf m (tm_at m.terms i) p u
parts_are m i p x u node h below within named =
    let P = tm_at m.terms p in
    let X = tm_at m.terms x in
    let tree : tm_at m.terms i ≡ App P X =
    ap (nameless numbers) (get_or_from_slice_get m.terms i _ (NConst 0 (TyVar 0)) node) in
    let both : App h.predicate h.argument ≡ App P X = sym h.parts ∙ tree in
    let same : h.predicate ≡ P = cc in
    let own : HasType numbers X (type_at m.types u) = type-nameless numbers tells_numbers (term_at m.terms x)
    ∙ named in
    let (a, f, y) = applied-some numbers tells_numbers (type_in numbers [] P) (type_in numbers [] X) (bool_ty numbers)
    (subst (λ z. HasType numbers z (bool_ty numbers)) tree h.typed) in
    let at : a ≡ type_at m.types u = same_Some a (type_at m.types u) (sym y ∙ own) in
    record {
      predicate_below = below;
      type_below = within;
      argument = X;
      parts = tree;
      closed = subst (IsClosed numbers) same h.closed;
      predicate = f ∙ ap (λ z. Some (fun_ty numbers z (bool_ty numbers))) at;
      own = own;
    }

-- the theorems that a definition from the premise has
pub theorems_from : (m : TermTable) (t : Tm ℕ) (p u : ℕ) → ArePartsOf m t p u → (n abs rep : ℕ) (vars : List ℕ)
    → theorems_at numbers n abs rep vars t ≡ type_theorems numbers (TyOp n (tys_of_vars numbers vars))
    (type_at m.types u) abs rep (tm_at m.terms p)
theorems_from m t p u h n abs rep vars =
    ap (theorems_at numbers n abs rep vars) h.parts
    ∙ ap (λ z. type_theorems numbers (TyOp n (tys_of_vars numbers vars)) z abs rep (tm_at m.terms p))
    (type_of-is numbers h.argument (type_at m.types u) h.own)

-- their open theorems, and the deepest term on the way
pub open_from : (m : TermTable) (t : Tm ℕ) (p u : ℕ) → ArePartsOf m t p u → (a r n abs rep : ℕ) (vars : List ℕ)
    → open_theorems_at numbers a r n abs rep vars t ≡ open_theorems numbers a r (TyOp n (tys_of_vars numbers vars))
    (type_at m.types u) abs rep (tm_at m.terms p)
open_from m t p u h a r n abs rep vars =
    ap (open_theorems_at numbers a r n abs rep vars) h.parts
    ∙ ap (λ z. open_theorems numbers a r (TyOp n (tys_of_vars numbers vars)) z abs rep (tm_at m.terms p))
    (type_of-is numbers h.argument (type_at m.types u) h.own)

pub deepest_from : (m : TermTable) (t : Tm ℕ) (p u : ℕ) → ArePartsOf m t p u → (r : ℕ)
    → beta_at numbers r t ≡ beta_over numbers (record { name = r; ty = type_at m.types u }) (tm_at m.terms p)
deepest_from m t p u h r = ap (beta_at numbers r) h.parts
    ∙ ap (λ z. beta_over numbers (record { name = r; ty = z }) (tm_at m.terms p))
    (type_of-is numbers h.argument (type_at m.types u) h.own)
