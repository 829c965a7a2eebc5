-- What the parts of a term become gives what the term becomes, its type, and whether it is within the nesting limit.
use Rattle.std.specs.Prelude.{◌≢◌}
use Rattle.std.proofs.Common.{◌≡◌, ℕ, ◌<◌, false, [], ◌∷◌, Some, refl, sym, ap, subst, ◌∙◌, inl, inr}
use Rattle.ot_logic.specs.Lists.{IsMember}
use Rattle.ot_logic.specs.Trees.{Ty, Variable, Abs, Named, NAbs}
use Rattle.ot_logic.specs.Hol.{TypeMap, type_at, inst, inst_var, term_at, TermMap, close, IsFree}
use Rattle.ot_logic.specs.Hol.{IsTyped, HasType, is_shallow, type_in, depth_ty, depth_limit, IsWithin}
use Rattle.ot_logic.specs.NamedTerms.{Renaming, image, nameless, named_type, IsFreeIn}
use Rattle.ot_logic.specs.Naming.{numbers}
use Rattle.ot_laws.specs.Walk.{NamedMap, nameless_map, apply_by}
use Rattle.ot_laws.proofs.Tests.{tells_numbers, var_cases}
use Rattle.ot_laws.proofs.Terms.{bind-close_at}
use Rattle.ot_laws.proofs.Named.{free-nameless}
use Rattle.ot_laws.proofs.Apply.{apply_by-under}
use Rattle.ot_laws.proofs.Opened.{within-nameless}
use Rattle.ot_laws.proofs.Typing.{type-bind, type-nameless, abs-some}
use Rattle.ot_laws.proofs.New.{binders_of_numbers}
use Rattle.ot_subst.specs.Walk.{carried}
use Rattle.ot_subst.proofs.Shallow.{deep-body, deep-binder}

-- the new binders have the types that they should have
abbrev pub AreTyped : TypeMap numbers → Renaming numbers → Type 0
AreTyped s r = (p : Variable ℕ × Variable ℕ) → IsMember p r → p.1.ty ≡ inst numbers s p.0.ty

module _ (s : TypeMap numbers) (m : NamedMap numbers) where
  -- some named term has the nameless form that a term becomes
  pub named_form : (r : Renaming numbers) (t : Named ℕ)
      → (u : Named ℕ) × (nameless numbers u ≡ carried s m r (nameless numbers t))
  named_form r t =
      let (pick, ok) = binders_of_numbers s m in
      (apply_by numbers pick s m r t, apply_by-under numbers tells_numbers pick s m ok r t)

  pub within-carried : (r : Renaming numbers) (t : Named ℕ) → IsWithin numbers 0 (carried s m r (nameless numbers t))
  within-carried r t = let (u, e) = named_form r t in
      subst (IsWithin numbers 0) e (within-nameless numbers tells_numbers u)

  -- ---- types
  term_at-typed : (n : TermMap numbers) → IsTyped numbers n → (x : Variable ℕ)
      → HasType numbers (term_at numbers n x) x.ty
  term_at-typed [] typed x = refl
  term_at-typed (p ∷ n) typed x = elim (var_cases numbers tells_numbers x p.0) [
    | inl q ↦ rw q.0 (typed.0 ∙ ap (λ (v : Variable ℕ). Some v.ty) (sym q.1))
    | inr q ↦ rw q.0 (term_at-typed n typed.1 x)
  ]

  pub image-typed : IsTyped numbers (nameless_map numbers m) → (r : Renaming numbers) → AreTyped s r
      → (x : Variable ℕ) → HasType numbers (image numbers r s (nameless_map numbers m) x) (inst numbers s x.ty)
  image-typed typed [] new x = term_at-typed (nameless_map numbers m) typed (inst_var numbers s x)
  image-typed typed (p ∷ r) new x = elim (var_cases numbers tells_numbers x p.0) [
    | inl q ↦ rw q.0 (ap Some (new p (inl refl) ∙ ap (λ (v : Variable ℕ). inst numbers s v.ty) (sym q.1)))
    | inr q ↦ rw q.0 (image-typed typed r (λ z i. new z (inr i)) x)
  ]

  module _ (typed : IsTyped numbers (nameless_map numbers m)) (r : Renaming numbers) (new : AreTyped s r) where
    pub carried-typed : (t : Named ℕ) (ty : Ty ℕ) → named_type numbers t ≡ Some ty
        → type_in numbers [] (carried s m r (nameless numbers t)) ≡ Some (inst numbers s ty)
    carried-typed t ty h =
        type-bind numbers tells_numbers (type_at numbers s) (image numbers r s (nameless_map numbers m)) []
        (nameless numbers t) ty (λ v i. image-typed typed r new v) (type-nameless numbers tells_numbers t ∙ h)

    pub result-typed : (t u : Named ℕ) (ty : Ty ℕ) → named_type numbers t ≡ Some ty
        → nameless numbers u ≡ carried s m r (nameless numbers t) → named_type numbers u ≡ Some (inst numbers s ty)
    result-typed t u ty h e = sym (type-nameless numbers tells_numbers u) ∙ ap (type_in numbers []) e
        ∙ carried-typed t ty h

    -- a binder whose type is too deep
    pub deep-abs_type : (v : Variable ℕ) (b : Named ℕ) (ty : Ty ℕ) → named_type numbers (NAbs v b) ≡ Some ty
        → depth_limit < depth_ty numbers (inst numbers s v.ty)
        → is_shallow numbers (carried s m r (nameless numbers (NAbs v b))) ≡ false
    deep-abs_type v b ty h deep =
        let (c, body, whole) = abs-some numbers v.ty (named_type numbers b) ty h in
        deep-binder (inst numbers s v.ty) (inst numbers s c) (carried s m r (close numbers v (nameless numbers b)))
        (carried-typed (NAbs v b) ty h ∙ ap (λ u. Some (inst numbers s u)) whole) deep

  -- a body that is too deep once its binder v has become w
  pub deep-abs_body : (r : Renaming numbers) (v w : Variable ℕ) (b : Named ℕ) → w.ty ≡ inst numbers s v.ty
      → ((x : Variable ℕ) → IsFreeIn numbers x b → x ≢ v
      → ¬ (IsFree numbers w (image numbers r s (nameless_map numbers m) x)))
      → is_shallow numbers (carried s m ((v, w) ∷ r) (nameless numbers b)) ≡ false
      → is_shallow numbers (carried s m r (nameless numbers (NAbs v b))) ≡ false
  deep-abs_body r v w b ty apart deep =
      let moved = bind-close_at numbers tells_numbers (type_at numbers s) (image numbers r s (nameless_map numbers m))
      v w 0 (nameless numbers b) (λ x i. apart x (free-nameless numbers tells_numbers x b i)) in
      let body = carried s m ((v, w) ∷ r) (nameless numbers b) in
      let same : carried s m r (nameless numbers (NAbs v b)) ≡ Abs w.ty (close numbers w body) =
      λ i. Abs (sym ty i) (moved i) in
      ap (is_shallow numbers) same ∙ deep-body w body (within-carried ((v, w) ∷ r) b) deep
