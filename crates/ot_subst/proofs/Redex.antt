-- Beta: what the nodes of a term tell, and what it costs.
use Rattle.std.proofs.Common.{◌≡◌, ℕ, suc, ◌+◌, ◌<◌, ◌≤◌, List, [], ◌∷◌, length, slice_get}
use Rattle.std.proofs.Common.{Some, None, refl, sym, ap, subst, ◌∙◌, inl, inr, arith}
use Rattle.std.proofs.lemmas.Option.{get_or_from_slice_get, slice_get-get_or}
use Rattle.std.proofs.lemmas.List.Elements.{All-cons, All-nil}
use Rattle.ot_logic.specs.Lists.{IsMember, AreDistinct}
use Rattle.ot_logic.specs.Trees.{Ty, TyVar, Named, NVar, NConst, NApp, NAbs}
use Rattle.ot_logic.specs.Hol.{fun_ty}
use Rattle.ot_logic.specs.NamedTerms.{nameless, named_type, parts, size, HasNoClash}
use Rattle.ot_logic.specs.Naming.{numbers}
use Rattle.ot_laws.proofs.Tests.{tells_numbers}
use Rattle.ot_laws.proofs.Size.{part-self}
use Rattle.ot_laws.proofs.Opened.{within-nameless, beta-subst}
use Rattle.ot_laws.proofs.Typing.{applied-some, abs-some, type-nameless}
use Rattle.ot_term.specs.Term.{TermTable}
use Rattle.ot_term.specs.TermTable.{term_at, term_of, variable_of, IsTermTable}
use Rattle.ot_term.specs.declared.term.VarKey.{VarKey}
use Rattle.ot_term.specs.declared.term.TermNode.{TermNode}
use Rattle.ot_term.specs.declared.term.TermNode.TheVariants.{Var, Const, App, Abs}
use Rattle.ot_subst.specs.Substitution.{Substitution, type_part, variable_part, substituted, with_pair, IsSubstOf}
use Rattle.ot_subst.specs.Memory.{CountsParts}
use Rattle.ot_subst.specs.Beta.{contracted, HasNoBetaClash}
use Rattle.ot_subst.proofs.Counting.{numbers-size}
use Rattle.ot_subst.proofs.Unchanged.{open-self}
use Rattle.ot_logic.proofs.Members.{IsMember-left}

-- a substitution of one pair
pub one_pair : (s start : Substitution) (types : List (ℕ × ℕ)) (v : VarKey) (x : ℕ) → s ≡ with_pair start v x
    → start ≡ record { types = types; terms = [] } → types ≡ [] → s ≡ record { types = []; terms = (v, x) ∷ [] }
one_pair s start types v x added new none = added ∙ ap (λ z. with_pair z v x) new
    ∙ ap (λ (z : List (ℕ × ℕ)). with_pair (record { types = z; terms = [] }) v x) none

module _ (t : TermTable) (table : IsTermTable t) (id : ℕ) (within : id < length t.terms) where
  at_id : (x : Named ℕ) → slice_get t.terms id ≡ Some x → term_at t.terms id ≡ x
  at_id x e = get_or_from_slice_get t.terms id x (NConst 0 (TyVar 0)) e

  -- ---- no redex
  no_redex : (n : TermNode) → ((f x : ℕ) → n ≡ App f x → ⊥)
      → contracted (nameless numbers (term_of t.types t.terms n)) ≡ None
  no_redex (Var v) h = refl
  no_redex (Const n ty) h = refl
  no_redex (App f x) h = absurd (h f x refl)
  no_redex (Abs v b) h = refl

  pub not-app : (n : TermNode) → slice_get t.terms id ≡ Some (term_of t.types t.terms n)
      → ((f x : ℕ) → n ≡ App f x → ⊥) → contracted (nameless numbers (term_at t.terms id)) ≡ None
  not-app n e h = ap (λ x. contracted (nameless numbers x)) (at_id (term_of t.types t.terms n) e) ∙ no_redex n h

  -- one step is no more than the size
  pub one_step : (from to : ℕ) → to ≤ from + 1 → to ≤ from + size numbers (term_at t.terms id)
  one_step from to h =
      let most = numbers-size t table.injective (term_at t.terms id) (id ∷ []) ((λ i. i), tt) (λ n i. elim i [
        | inl e ↦ (
          subst (λ k. k < length t.terms) e within,
          subst
              (λ k. IsMember (term_at t.terms k) (parts numbers (term_at t.terms id))) e
              (part-self numbers (term_at t.terms id)),
        )
        | inr z ↦ absurd z
      ]) in
      omega (arith, most, h)

  module _ (f x : ℕ) (low : f < id)
      (app : slice_get t.terms id ≡ Some (NApp (term_at t.terms f) (term_at t.terms x))) where
    tree : term_at t.terms id ≡ NApp (term_at t.terms f) (term_at t.terms x)
    tree = at_id (NApp (term_at t.terms f) (term_at t.terms x)) app

    at_f : (y : Named ℕ) → slice_get t.terms f ≡ Some y → term_at t.terms f ≡ y
    at_f y e = get_or_from_slice_get t.terms f y (NConst 0 (TyVar 0)) e

    not_abs : (n : TermNode) → ((v : VarKey) (b : ℕ) → n ≡ Abs v b → ⊥)
        → contracted (nameless numbers (NApp (term_of t.types t.terms n) (term_at t.terms x))) ≡ None
    not_abs (Var v) h = refl
    not_abs (Const n ty) h = refl
    not_abs (App g y) h = refl
    not_abs (Abs v b) h = absurd (h v b refl)

    pub not-abs : (n : TermNode) → slice_get t.terms f ≡ Some (term_of t.types t.terms n)
        → ((v : VarKey) (b : ℕ) → n ≡ Abs v b → ⊥) → contracted (nameless numbers (term_at t.terms id)) ≡ None
    not-abs n e h = ap (λ z. contracted (nameless numbers z))
        (tree ∙ ap (λ z. NApp z (term_at t.terms x)) (at_f (term_of t.types t.terms n) e)) ∙ not_abs n h

    f-part : IsMember (term_at t.terms f) (parts numbers (term_at t.terms id))
    f-part = subst (λ z. IsMember (term_at t.terms f) (parts numbers z)) (sym tree)
        (inr (IsMember-left (term_at t.terms f) (parts numbers (term_at t.terms f))
        (parts numbers (term_at t.terms x)) (part-self numbers (term_at t.terms f))))

    -- terms below f that are parts, and the two above
    with_both : (ks : List ℕ) → AreDistinct ks
        → ((n : ℕ) → IsMember n ks → (n < f) × IsMember (term_at t.terms n) (parts numbers (term_at t.terms id)))
        → length ks + 2 ≤ size numbers (term_at t.terms id)
    with_both ks d h =
        let apart : ¬ (IsMember f ks) = λ i. let l = (h f i).0 in absurd (omega (arith, l)) in
        let above : ¬ (IsMember id (f ∷ ks)) =
        λ i. elim i [
          | inl e ↦ absurd (omega (arith, low, e))
          | inr j ↦ let l = (h id j).0 in
              absurd (omega (arith, l, low))
        ] in
        let most = numbers-size t table.injective (term_at t.terms id) (id ∷ f ∷ ks) (above, (apart, d))
        (λ n i. elim i [
          | inl e ↦ (
            subst (λ k. k < length t.terms) e within,
            subst
                (λ k. IsMember (term_at t.terms k) (parts numbers (term_at t.terms id))) e
                (part-self numbers (term_at t.terms id)),
          )
          | inr j ↦ elim j [
            | inl e ↦ (
              omega (arith, e, low, within),
              subst
                  (λ k. IsMember (term_at t.terms k) (parts numbers (term_at t.terms id))) e f-part,
            )
            | inr k ↦ let l = (h n k).0 in (omega (arith, l, low, within), (h n k).1)
          ]
        ]) in
        omega (arith, most)

    pub two_steps : (from to : ℕ) → to ≤ from + 2 → to ≤ from + size numbers (term_at t.terms id)
    two_steps from to h = let most = with_both [] tt (λ n i. absurd i) in omega (arith, most, h)

    -- ---- a redex
    module _ (v : VarKey) (body : ℕ) (xin : x < length t.terms) (vin : v.ty < length t.types) (bin : body < f)
        (abs : slice_get t.terms f ≡ Some (NAbs (variable_of t.types v) (term_at t.terms body))) where
      whole : term_at t.terms id ≡ NApp (NAbs (variable_of t.types v) (term_at t.terms body)) (term_at t.terms x)
      whole = tree
          ∙ ap (λ z. NApp z (term_at t.terms x)) (at_f (NAbs (variable_of t.types v) (term_at t.terms body)) abs)

      pub is_redex : (s : Substitution) → s ≡ record { types = []; terms = (v, x) ∷ [] }
          → contracted (nameless numbers (term_at t.terms id))
          ≡ Some (substituted t s (nameless numbers (term_at t.terms body)))
      is_redex s e = ap (λ z. contracted (nameless numbers z)) whole
          ∙ ap Some (beta-subst numbers tells_numbers (variable_of t.types v) (term_at t.terms body)
          (term_at t.terms x)) ∙ ap (λ z. Some (substituted t z (nameless numbers (term_at t.terms body)))) (sym e)

      -- the variable itself put in
      pub same-redex : term_at t.terms x ≡ NVar (variable_of t.types v)
          → contracted (nameless numbers (term_at t.terms id)) ≡ Some (nameless numbers (term_at t.terms body))
      same-redex e =
          ap (λ z. contracted (nameless numbers z))
          (whole ∙ ap (NApp (NAbs (variable_of t.types v) (term_at t.terms body))) e)
          ∙ ap Some (open-self 0 (variable_of t.types v) (nameless numbers (term_at t.terms body))
          (within-nameless numbers tells_numbers (term_at t.terms body)))

      fun_parts : (a b c d : Ty ℕ) → fun_ty numbers a b ≡ fun_ty numbers c d → a ≡ c
      fun_parts a b c d e = cc

      argument-typed : named_type numbers (term_at t.terms x) ≡ Some (variable_of t.types v).ty
      argument-typed =
          let (ty, typed) =
          table.typed id (NApp (NAbs (variable_of t.types v) (term_at t.terms body)) (term_at t.terms x))
          (slice_get-get_or t.terms id (NConst 0 (TyVar 0)) within ∙ ap Some whole) in
          let (a, c, d) =
          applied-some numbers tells_numbers
          (named_type numbers (NAbs (variable_of t.types v) (term_at t.terms body)))
          (named_type numbers (term_at t.terms x)) ty typed in
          let (b, _, e) = abs-some numbers (variable_of t.types v).ty (named_type numbers (term_at t.terms body))
          (fun_ty numbers a ty) c in
          d ∙ ap Some (fun_parts a ty (variable_of t.types v).ty b e)

      pub redex-subst : (s : Substitution) → s ≡ record { types = []; terms = (v, x) ∷ [] } → IsSubstOf t s
      redex-subst s e = subst (IsSubstOf t) (sym e) (record {
        types = All-nil (λ (p : ℕ × ℕ). p.1 < length t.types);
        variables = All-cons (λ (p : VarKey × ℕ). p.0.ty < length t.types) (v, x) [] vin
            (All-nil (λ (p : VarKey × ℕ). p.0.ty < length t.types));
        terms = All-cons (λ (p : VarKey × ℕ). p.1 < length t.terms) (v, x) [] xin
            (All-nil (λ (p : VarKey × ℕ). p.1 < length t.terms));
        typed = (type-nameless numbers tells_numbers (term_at t.terms x) ∙ argument-typed, tt);
      })

      -- the two nodes that were taken up, and those of the body
      pub redex-steps : (s : Substitution) (from after to : ℕ) → s ≡ record { types = []; terms = (v, x) ∷ [] }
          → after ≤ from + 2
          → (HasNoClash numbers (type_part t s) (variable_part t s) (term_at t.terms body)
          → CountsParts t [] after to (term_at t.terms body) (suc body))
          → HasNoBetaClash (term_at t.terms id) → to ≤ from + size numbers (term_at t.terms id)
      redex-steps s from after to e two counted h =
          let clash : HasNoClash numbers [] ((variable_of t.types v, nameless numbers (term_at t.terms x)) ∷ []) (term_at t.terms body) = subst HasNoBetaClash whole h in
          let c = counted (subst (λ z. HasNoClash numbers (type_part t z) (variable_part t z) (term_at t.terms body))
          (sym e) clash) in
          let most = with_both c.terms c.distinct (λ n i. elim (c.known n i) [
            | inl z ↦ absurd z
            | inr p ↦
                let l = p.below in (
                  omega (arith, l, bin),
                  subst (λ z. IsMember (term_at t.terms n) (parts numbers z)) (sym whole)
                      (inr (IsMember-left (term_at t.terms n)
                      (parts numbers (NAbs (variable_of t.types v) (term_at t.terms body)))
                      (parts numbers (term_at t.terms x)) (inr p.part))),
                )
          ]) in
          omega (arith, most, c.most, two)
