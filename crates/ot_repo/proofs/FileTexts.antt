-- The bytes of a file that was read up to a limit.
use Rattle.std.specs.Prelude.{nat_le, Option, Some, None, Ok, if◌then◌else◌}
use Rattle.std.proofs.Common.{◌≡◌, ◌<◌, ◌≤◌, ◌∙◌, ℕ, List, length, ap, refl, arith, inl, inr}
use Rattle.std.proofs.lemmas.Bool.Decides.{leb_tells}
use Rattle.ot_io.specs.Folder.{Folder, bytes_at}
use Rattle.ot_logic.specs.Answers.{some_or, ◌>>=◌}
use Rattle.ot_repo.specs.Reading.{sized_at}
use Rattle.ot_repo.specs.Required.{Missing}

-- bytes, where there are no more than so many
abbrev sized : ℕ → List ℕ → Option (List ℕ)
sized max bytes = if nat_le (length bytes) max then Some bytes else None

found-sized : (o : Option (List ℕ)) (max : ℕ) (path bytes : List ℕ) → o ≡ Some bytes
    → some_or (Missing path) o >>= (λ bytes. Ok (sized max bytes)) ≡ Ok (sized max bytes)
found-sized o max path bytes e = rw e refl

module _ (folder : Folder) (max : ℕ) (path bytes : List ℕ) (is : bytes_at folder path ≡ Some bytes) where
  pub text-small : length bytes ≤ max → sized_at folder max path ≡ Ok (Some bytes)
  text-small few = elim (leb_tells (length bytes) max) [
    | inl q ↦ found-sized (bytes_at folder path) max path bytes is ∙ ap (λ z. Ok (if z then Some bytes else None)) q.0
    | inr q ↦ absurd (omega (arith, few, q.1))
  ]

  pub text-large : max < length bytes → sized_at folder max path ≡ Ok None
  text-large many = elim (leb_tells (length bytes) max) [
    | inl q ↦ absurd (omega (arith, many, q.1))
    | inr q ↦ found-sized (bytes_at folder path) max path bytes is ∙ ap (λ z. Ok (if z then Some bytes else None)) q.0
  ]
