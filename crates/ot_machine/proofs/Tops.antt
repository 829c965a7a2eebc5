-- The entries on the top of a stack.
use Rattle.std.specs.Prelude.{◌≡◌, ◌<◌, ◌≤◌, ◌-◌, ℕ, suc, List, [], ◌∷◌, length, drop, Result, Ok, Err}
use Rattle.std.specs.List.{All}
use Rattle.std.proofs.Common.{refl, ap, ◌∙◌, arith}
use Rattle.std.proofs.Math.Seq.{drop-cons}
use Rattle.std.proofs.lemmas.Bool.{lt-ltb}
use Rattle.std.proofs.lemmas.List.{drop_all}
use Rattle.std.proofs.lemmas.Option.{slice_get-get_or}
use Rattle.std.proofs.Math.ListN.{get_or}
use Rattle.ot_logic.specs.Answers.{◌>>=◌}
use Rattle.ot_machine.specs.States.{Entry}
use Rattle.ot_machine.specs.Places.{entry_at, top}

pub same-ok : {A E : Type 0} (r : Result A E) (x y : A) → r ≡ Ok x → r ≡ Ok y → x ≡ y
same-ok r x y p q = cc

pub no-ok : {A B E : Type 0} (r : Result A E) (e : E) (y : B) → (r >>= λ _. Err e) ≡ Ok y → ⊥
no-ok (Ok x) e y p = cc
no-ok (Err f) e y p = cc

module _ (P : Entry → Type 0) where
  -- what stands at a place inside is one of the stack
  pub at-place : (n : ℕ) (stack : List Entry) → All P stack → n < length stack → (e : Entry)
      × (entry_at n stack ≡ Ok e) × P e × (drop (length stack - suc n) stack ≡ e ∷ drop (length stack - n) stack)
  at-place n [] all lt = absurd (omega (arith, lt))
  at-place n (x ∷ xs) all lt =
      let stack = x ∷ xs in
      let i = length stack - suc n in
      let inside : i < length stack = omega (arith, lt) in
      let e = get_or stack i x in
      let next : suc i ≡ length stack - n = omega (arith, lt) in (
        e,
        rw (lt-ltb n (length stack) lt, slice_get-get_or stack i x inside) refl,
        all i x inside,
        drop-cons stack i x
            inside ∙ ap (λ j. e ∷ drop j stack) next,
      )

  pub top-none : (stack : List Entry) → top 0 stack ≡ []
  top-none stack = ap (λ j. drop j stack) (omega arith) ∙ drop_all (length stack) stack (omega arith)

  pub top-one : (stack : List Entry) → All P stack → 1 ≤ length stack → (e : Entry) × (entry_at 0 stack ≡ Ok e) × P e
      × (top 1 stack ≡ e ∷ [])
  top-one stack all le =
      let a = at-place 0 stack all (omega (arith, le)) in
      (a.0, a.1, a.2, a.3 ∙ ap (λ z. a.0 ∷ z) (top-none stack))

  pub top-two : (stack : List Entry) → All P stack → 2 ≤ length stack → (e f : Entry) × (entry_at 0 stack ≡ Ok e)
      × (entry_at 1 stack ≡ Ok f) × P e × P f × (top 2 stack ≡ f ∷ e ∷ [])
  top-two stack all le =
      let a = top-one stack all (omega (arith, le)) in
      let b = at-place 1 stack all (omega (arith, le)) in
      (a.0, b.0, a.1, b.1, a.2, b.2, b.3 ∙ ap (λ z. b.0 ∷ z) a.3)
