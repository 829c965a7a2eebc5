-- What was found for the elements of a list, one after another.
use Rattle.std.specs.Prelude.{IsErrAnd}
use Rattle.std.proofs.Common.{◌≡◌, Option, Some, None, refl, Result, Ok, Err, ℕ, zero, suc, ◌+◌, ◌<◌}
use Rattle.std.proofs.Common.{List, [], ◌∷◌, ◌++◌, length, get_or, take, sym, subst, arith}
use Rattle.std.proofs.lemmas.List.{take_more}
use Rattle.ot_logic.specs.Names.{Name}
use Rattle.ot_logic.specs.Naming.{names}
use Rattle.ot_log_format.specs.State.{LogState, Change}
use Rattle.ot_verify.specs.Asking.{AreEach}
use Rattle.ot_verify.specs.Finding.{FindsEach}
use Rattle.ot_verify.specs.Logged.{MadeBy}
use Rattle.ot_verify.specs.declared.log.Refusal.{Refusal}
use Rattle.ot_verify.specs.declared.log.Refusal.TheVariants as refusals
use Rattle.ot_verify.proofs.Collecting.{each-push}

-- the element at a place of the list, whatever stands for none
pub get-same : {X : Type 0} (xs : List X) (i : ℕ) (a b : X) → i < length xs → get_or xs i a ≡ get_or xs i b
get-same [] i a b h = absurd (omega arith)
get-same (x ∷ xs) zero a b h = refl
get-same (x ∷ xs) (suc i) a b h = get-same xs i a b (omega arith)

pub none-some : {X : Type 0} (o : Option X) (y : X) → o ≡ None → o ≡ Some y → ⊥
none-some o y p q = cc

module _ {X Y : Type 0} (is : X → Y → Type 0) where
  -- one more
  pub each-next : (xs : List X) (i : ℕ) (x : X) (ys : List Y) (y : Y) → i < length xs → x ≡ get_or xs i x
      → AreEach is (take i xs) ys → is x y → AreEach is (take (i + 1) xs) (ys ++ y ∷ [])
  each-next xs i x ys y h p a e =
      subst (λ zs. AreEach is zs (ys ++ y ∷ [])) (sym (take_more xs i x h))
      (each-push is (take i xs) ys (get_or xs i x) y a (subst (λ z. is z y) p e))

  -- one that stands for nothing
  pub each-none : (xs : List X) (i : ℕ) (x : X) → i < length xs → x ≡ get_or xs i x → ((y : Y) → is x y → ⊥)
      → (ys : List Y)
      → AreEach is xs ys → ⊥
  each-none [] i x h p fails ys a = absurd (omega arith)
  each-none (z ∷ xs) i x h p fails [] a = a
  each-none (z ∷ xs) zero x h p fails (y ∷ ys) a = fails y (subst (λ w. is w y) (sym p) a.0)
  each-none (z ∷ xs) (suc i) x h p fails (y ∷ ys) a = each-none xs i x (omega arith) p fails ys a.1

-- a refusal of what stands for something, handed on, can only be running out of memory
pub missed : {X Y : Type 0} (is : X → Y → Type 0) (e : Refusal) (xs : List X) (c : Change names)
    (old new : LogState Name) (r : Result (Unit {0}) Refusal)
    → IsErrAnd r (λ x. x ≡ e) → FindsEach is (Err e) xs → (ys : List Y) × AreEach is xs ys → MadeBy r c old new
missed is e xs c old new (Ok u) h f g = absurd h
missed is refusals.NoSuch xs c old new (Err x) h f g = absurd (f g.0 g.1)
missed is (refusals.Memory memory) xs c old new (Err x) h f g = subst (λ z. MadeBy (Err z) c old new) (sym h) tt
missed is refusals.BadStep xs c old new (Err x) h f g = absurd f
missed is refusals.LogNesting xs c old new (Err x) h f g = absurd f
