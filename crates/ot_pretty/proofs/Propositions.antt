-- A kernel's sequents are of propositions within the nesting limit, whose names have components.
use Rattle.std.specs.Prelude.{◌≡◌, ℕ, ◌<◌, ◌≤◌, true, List, [], ◌∷◌, length, slice_index_or, Option, Some, None}
use Rattle.std.specs.List.{All}
use Rattle.std.proofs.Common.{sym, ap, ◌∙◌, subst, arith}
use Rattle.std.proofs.lemmas.Option.{slice_get-get_or}
use Rattle.ot_logic.specs.Bounds.{bound_ty, bound_tys, bound_named}
use Rattle.ot_logic.specs.Hol.{bool_ty, HasType, IsSequent, is_shallow}
use Rattle.ot_logic.specs.NamedTerms.{nameless, nameless_in, at_place, place}
use Rattle.ot_logic.specs.Lists.{IsMember}
use Rattle.ot_logic.specs.Names.{Name, IsName}
use Rattle.ot_logic.specs.Naming.{names, numbers, name_of, IsNameTable}
use Rattle.ot_logic.specs.Renamed.{map_ty, map_tys, map_variable, map_named}
use Rattle.ot_logic.specs.Trees.{Ty, Tys, TyVar, TyOp, NoTys, MoreTys, Variable}
use Rattle.ot_logic.specs.Trees.{Named, NVar, NConst, NApp, NAbs, Sequent}
use Rattle.ot_logic.proofs.Naming.{naming}
use Rattle.ot_laws.proofs.Named.{nameless_in-nil}
use Rattle.ot_laws.proofs.Sets.{all-member}
use Rattle.ot_laws.proofs.Tests.{tells_names}
use Rattle.ot_term.specs.Term.{TermTable}
use Rattle.ot_term.specs.TermTable.{term_at as tree_at}
use Rattle.ot_kernel.specs.Spelled.{IsSpelled}
use Rattle.ot_kernel.specs.State.{State, term_at, terms_at}
use Rattle.ot_kernel.proofs.Carried.{carry-term}
use Rattle.ot_kernel.proofs.Namings.{bound_named-get}
use Rattle.ot_forms.specs.Forms.{HasNames, HaveNames, HaveTermNames}
use Rattle.ot_forms.specs.Laws.{IsProposition, ArePropositions}
use Rattle.ot_view.proofs.Spelled.{name_is, term_is, term_inside, lettered}
use Rattle.ot_logic.proofs.Members.{IsMember-map_back, All-at_member}

module _ (s : State) (t : TermTable) (k : IsSpelled s t) (table : IsNameTable s.names) where
  abbrev f : ℕ → Name
  f = name_of s.names

  -- ---- each name has a component
  named : (n : ℕ) → n < length s.names → IsName (f n)
  named n h = subst IsName (sym (name_is s t k table n h)) (table.each n [] h)

  mutual
    names-type : (u : Ty ℕ) → bound_ty u ≤ length s.names → HasNames (map_ty f u)
    names-type (TyVar n) h = named n (omega arith)
    names-type (TyOp n ts) h = (named n (omega arith), names-types ts (omega arith))

    names-types : (us : Tys ℕ) → bound_tys us ≤ length s.names → HaveNames (map_tys f us)
    names-types NoTys h = tt
    names-types (MoreTys u us) h = (names-type u (omega arith), names-types us (omega arith))

  names-term : (e : List (Variable Name)) (u : Named ℕ) → bound_named u ≤ length s.names
      → HaveTermNames (nameless_in names e (map_named f u))
  names-term e (NVar v) h = go (place names e (map_variable f v)) where
    go : (o : Option ℕ) → HaveTermNames (at_place names (map_variable f v) o)
    go None = (named v.name (omega arith), names-type v.ty (omega arith))
    go (Some i) = tt
  names-term e (NConst n u) h = (named n (omega arith), names-type u (omega arith))
  names-term e (NApp g x) h = (names-term e g (omega arith), names-term e x (omega arith))
  names-term e (NAbs v b) h = (names-type v.ty (omega arith), names-term (map_variable f v ∷ e) b (omega arith))

  -- ---- a term of the kernel
  module _ (i : ℕ) (within : i < length s.terms) where
    stands : map_named f (tree_at t.terms i) ≡ slice_index_or s.terms i (NConst [] (TyVar []))
    stands = term_is s t k table i (term_inside s t k table i within)

    names-at : HaveTermNames (term_at s i)
    names-at =
        let inside = term_inside s t k table i within in
        let b = bound_named-get t.terms i _ (slice_get-get_or t.terms i (NConst 0 (TyVar 0)) inside) in
        let most = k.bound.1 in
        let enough : bound_named (tree_at t.terms i) ≤ length s.names = omega arith in
        subst HaveTermNames (nameless_in-nil names tells_names (map_named f (tree_at t.terms i))
        ∙ ap (nameless names) stands) (names-term [] (tree_at t.terms i) enough)

    shallow-at : is_shallow names (term_at s i) ≡ true
    shallow-at =
        let inside = term_inside s t k table i within in
        let limit = k.table.limit i _ (slice_get-get_or t.terms i (NConst 0 (TyVar 0)) inside) in
        subst (λ u. is_shallow names (nameless names u) ≡ true) stands
        (carry-term (naming s.names) numbers names (lettered s t k table)
        (λ L a u. is_shallow a (nameless a u) ≡ true) (tree_at t.terms i) limit)

    pub proposition : HasType names (term_at s i) (bool_ty names) → IsProposition (term_at s i)
    proposition h = record { named = names-at; typed = h; shallow = shallow-at }

  -- ---- a sequent of the kernel
  pub propositions : (q : Sequent Name) (hs : List ℕ) (c : ℕ) → terms_at s hs ≡ q.hyps → term_at s c ≡ q.concl
      → All (λ i. i < length s.terms) hs → c < length s.terms → IsSequent names q → ArePropositions q
  propositions q hs c p r inside within typed = record {
    hyps = λ u m.
        let w = IsMember-map_back (term_at s) u hs (subst (IsMember u) (sym p) m) in
        let h = all-member (λ v. HasType names v (bool_ty names)) q.hyps typed.hyps u m in
        subst IsProposition w.2 (proposition w.0 (All-at_member (λ i. i < length s.terms) hs w.0 inside w.1)
        (subst (λ v. HasType names v (bool_ty names)) (sym w.2) h));
    concl = subst IsProposition r
        (proposition c within (subst (λ v. HasType names v (bool_ty names)) (sym r) typed.concl));
  }
