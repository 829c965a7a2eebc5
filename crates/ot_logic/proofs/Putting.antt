-- Texts that are put one after another, up to a limit, on a page that has bytes and room or is full.
use Rattle.std.specs.Prelude.{◌≡◌, ℕ, ◌-◌, ◌<◌, Bool, true, false, cond, nat_le, List, ◌++◌, length}
use Rattle.std.proofs.Common.{refl, sym, ap, ◌∙◌, arith, append_assoc, length-append}
use Rattle.std.proofs.lemmas.Bool.Decides.{nat_tests}
use Rattle.std.proofs.lemmas.Bool.{leb-true, le-leb, lt-leb}

le-false : (a b : ℕ) → nat_le a b ≡ false → b < a
le-false a b h = grind (arith, nat_tests)

module _ {P : Type 0} (Bytes : List ℕ → ℕ → P) (Full : P) where
  -- a text more, where there is room
  abbrev pub put_here : List ℕ → List ℕ → ℕ → P
  put_here x bs room = cond (nat_le (length x) room) (Bytes (bs ++ x) (room - length x)) Full

  pub put-twice : (put : List ℕ → P → P) → ((x : List ℕ) → put x Full ≡ Full)
      → ((x bs : List ℕ) (room : ℕ) → put x (Bytes bs room) ≡ put_here x bs room) → (x y bs : List ℕ) (room : ℕ)
      → put y (put x (Bytes bs room)) ≡ put (x ++ y) (Bytes bs room)
  put-twice put full here x y bs room =
      ap (put y) (here x bs room) ∙ go (nat_le (length x) room) refl ∙ sym (here (x ++ y) bs room)
    where
      fits : (e : Bool) → nat_le (length x) room ≡ true → nat_le (length y) (room - length x) ≡ e
          → cond e (Bytes ((bs ++ x) ++ y) (room - length x - length y)) Full ≡ put_here (x ++ y) bs room
      fits true h k =
          let a = leb-true _ _ h in
          let b = leb-true _ _ k in
          let n = length-append x y in
          let t = le-leb (length (x ++ y)) room (omega (arith, n, a, b)) in
          let d : room - length x - length y ≡ room - length (x ++ y) = omega (arith, n, a, b) in
          rw (t, append_assoc, d) refl
      fits false h k =
          let a = leb-true _ _ h in
          let b = le-false _ _ k in
          let n = length-append x y in
          let t = lt-leb (length (x ++ y)) room (omega (arith, n, a, b)) in
          rw t refl

      go : (e : Bool) → nat_le (length x) room ≡ e → put y (cond e (Bytes (bs ++ x) (room - length x)) Full)
          ≡ put_here (x ++ y) bs room
      go true h = here y (bs ++ x) (room - length x) ∙ fits (nat_le (length y) (room - length x)) h refl
      go false h =
          let b = le-false _ _ h in
          let n = length-append x y in
          let t = lt-leb (length (x ++ y)) room (omega (arith, n, b)) in
          full y ∙ rw t refl
