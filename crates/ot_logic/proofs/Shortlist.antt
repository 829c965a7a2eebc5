-- A look-up by a test finds the same among those that a coarser test keeps: a command by its length first.
use Rattle.std.proofs.Common.{◌≡◌, ℕ, List, [], ◌∷◌, length, sym, ap, ◌∙◌, refl, arith, cond, true≢false}
use Rattle.std.specs.Prelude.{Option, Some, None, Bool, true, false, find, ◌==◌}
use Rattle.std.specs.List.{filter, list_any}
use Rattle.std.specs.Cmp.{unsigned_Decides}
use Rattle.std.specs.Str.{bytes_eq}
use Rattle.std.proofs.lemmas.Slice.Eq.{bytes_eq-Decides}
use Rattle.std.proofs.lemmas.Bool.Decides.{nat_tests}
use Rattle.ot_logic.specs.Commands.{spelling, command_of, commands}

module _ {X : Type 0} (test : X → Bool) where
  missed : (x : X) (b : Bool) (rest : Option X) → (b ≡ true → false ≡ true) → cond b (Some x) rest ≡ rest
  missed x true rest h = absurd (true≢false (sym (h refl)))
  missed x false rest h = refl

  one_more : (x : X) (xs kept : List X) (b : Bool) → (test x ≡ true → b ≡ true) → find test xs ≡ find test kept
      → find test (x ∷ xs) ≡ find test (cond b (x ∷ kept) kept)
  one_more x xs kept true h same = ap (cond (test x) (Some x)) same
  one_more x xs kept false h same = missed x (test x) (find test xs) h ∙ same

  find-kept : (keep : X → Bool) → ((x : X) → test x ≡ true → keep x ≡ true) → (xs : List X)
      → find test xs ≡ find test (filter keep xs)
  find-kept keep coarser [] = refl
  find-kept keep coarser (x ∷ xs) = one_more x xs (filter keep xs) (keep x) (coarser x) (find-kept keep coarser xs)

pub command_of_length : (text : List ℕ) (n : ℕ) → length text ≡ n
    → command_of text ≡ find (λ c. bytes_eq (spelling c) text) (filter (λ c. length (spelling c) == n) commands)
command_of_length text n is =
    find-kept (λ c. bytes_eq (spelling c) text) (λ c. length (spelling c) == n)
    (λ c same. (unsigned_Decides (length (spelling c)) n).1 (ap length ((bytes_eq-Decides (spelling c) text).0 same)
    ∙ is))
    commands

-- no command has another length than these
pub no_command_of : (text : List ℕ) → list_any (λ n. n == length text)
    (3 ∷ 4 ∷ 5 ∷ 6 ∷ 7 ∷ 8 ∷ 9 ∷ 11 ∷ 12 ∷ 13 ∷ 15 ∷ []) ≡ false → None ≡ command_of text
no_command_of text other = sym (command_of_length text (length text) refl ∙ grind (arith, nat_tests))
