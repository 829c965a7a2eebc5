-- Lists in which no sequent stands twice.
use Rattle.std.specs.Prelude.{◌≡◌, ◌⊎◌, ◌||◌, ℕ, zero, suc, Bool, true, false, cond}
use Rattle.std.specs.Prelude.{List, [], ◌∷◌, ◌++◌, length, find, Some, None, slice_get}
use Rattle.std.proofs.Common.{refl, sym, ap, ◌∙◌, inl, inr}
use Rattle.ot_logic.proofs.InternedLemmas.{slice_get-push}
use Rattle.ot_logic.specs.Names.{Name}
use Rattle.ot_logic.specs.Naming.{names}
use Rattle.ot_logic.specs.Trees.{Sequent}
use Rattle.ot_logic.specs.Hol.{same_sequent}
use Rattle.ot_laws.proofs.Tests.{tells_names}
use Rattle.ot_laws.proofs.Hypotheses.{same_sequent-is}
use Rattle.ot_machine.specs.States.{Export}
use Rattle.ot_machine.specs.Rows.{is_exported}
use Rattle.ot_machine.specs.Lawful.{AreApart}

pub same-turned : (q r : Sequent Name) → same_sequent names q r ≡ true → same_sequent names r q ≡ true
same-turned q r p =
    let s = (same_sequent-is names tells_names q r).0 p in
    (same_sequent-is names tells_names r q).1 (record { to = s.0.back; back = s.0.to }, sym s.1)

true-false : (b : Bool) → b ≡ true → b ≡ false → ⊥
true-false b p q = cc

module _ {X : Type 0} (sequent : X → Sequent Name) (xs : List X) (x : X) where
  -- none of the list is the new one
  abbrev pub IsNew : Type 0
  IsNew = (i : ℕ) (y : X) → slice_get xs i ≡ Some y → same_sequent names (sequent y) (sequent x) ≡ false

  pub apart-push : AreApart sequent xs → IsNew → AreApart sequent (xs ++ x ∷ [])
  apart-push apart new i j y z p q same = by (slice_get-push xs x i y p) (slice_get-push xs x j z q)
    where
      by : (slice_get xs i ≡ Some y) ⊎ ((i ≡ length xs) × (x ≡ y)) → (slice_get xs j ≡ Some z)
          ⊎ ((j ≡ length xs) × (x ≡ z)) → i ≡ j
      by (inl a) (inl b) = apart i j y z a b same
      by (inl a) (inr b) =
          absurd (true-false _ (ap (λ w. same_sequent names (sequent y) (sequent w)) b.1 ∙ same) (new i y a))
      by (inr a) (inl b) =
          absurd (true-false _
          (same-turned (sequent x) (sequent z) (ap (λ w. same_sequent names (sequent w) (sequent z)) a.1 ∙ same))
          (new j z b))
      by (inr a) (inr b) = a.0 ∙ sym b.0

-- what is not found is none of the list
pub not-found : {X : Type 0} (test : X → Bool) (xs : List X) → find test xs ≡ None → (i : ℕ) (y : X)
    → slice_get xs i ≡ Some y → test y ≡ false
not-found test [] p i y q = absurd (cc)
not-found {X = X} test (x ∷ xs) p i y q = by (test x) refl p i q (not-found test xs)
  where
    by : (b : Bool) → test x ≡ b → cond b (Some x) (find test xs) ≡ None → (i : ℕ) → slice_get (x ∷ xs) i ≡ Some y
        → (find test xs ≡ None → (i : ℕ) (y : X) → slice_get xs i ≡ Some y → test y ≡ false) → test y ≡ false
    by true e p i q go = absurd (cc)
    by false e p zero q go = let same : x ≡ y = cc in ap test (sym same) ∙ e
    by false e p (suc i) q go = go p i y q

pub not-exported : (q : Sequent Name) (es : List Export) → is_exported q es ≡ false → (i : ℕ) (e : Export)
    → slice_get es i ≡ Some e → same_sequent names e.sequent q ≡ false
not-exported q [] p i e r = absurd (cc)
not-exported q (x ∷ xs) p i e r = by (same_sequent names q x.sequent) refl p i r (not-exported q xs)
  where
    turned : (b : Bool) → same_sequent names e.sequent q ≡ b → same_sequent names q e.sequent ≡ false
        → same_sequent names e.sequent q ≡ false
    turned true s f = absurd (true-false _ (same-turned e.sequent q s) f)
    turned false s f = s

    by : (b : Bool) → same_sequent names q x.sequent ≡ b → (b || is_exported q xs) ≡ false → (i : ℕ)
        → slice_get (x ∷ xs) i ≡ Some e → (is_exported q xs ≡ false → (i : ℕ) (e : Export) → slice_get xs i ≡ Some e
        → same_sequent names e.sequent q ≡ false) → same_sequent names e.sequent q ≡ false
    by true f p i r go = absurd (cc)
    by false f p zero r go = let same : x ≡ e = cc in
        turned (same_sequent names e.sequent q) refl (ap (λ (z : Export). same_sequent names q z.sequent) (sym same)
        ∙ f)
    by false f p (suc i) r go = go p i e r
