-- A file from the front of it that was read: one byte more than a limit tells whether it has more.
use Rattle.std.specs.Prelude.{IfSome}
use Rattle.std.proofs.Common.{◌≡◌, ◌+◌, ◌<◌, ◌≤◌, ◌∙◌, ℕ, List, Option, Some, Err, length, take, ap, sym, subst, arith}
use Rattle.std.proofs.lemmas.List.{take_all, length-take}
use Rattle.ot_io.specs.Folder.{Folder, bytes_at, GivesFile}
use Rattle.ot_io.specs.Reading.{HasRead}
use Rattle.ot_io.specs.Readings.{HasReadFiles}
use Rattle.ot_io.specs.Whole.{IsReadOf}
use Rattle.ot_io.specs.declared.whole.FileFault.{FileFault}
use Rattle.ot_io.proofs.Reading.{HasRead-map}
use Rattle.ot_io.proofs.Readings.{Files-map, Files-one}

-- within the limit it is all of them
whole-front : (max : ℕ) (text bytes : List ℕ) → text ≡ take (max + 1) bytes → length text ≤ max → bytes ≡ text
whole-front max text bytes front few =
    let all : length bytes ≤ max = omega (arith, few, ap length front, length-take (max + 1) bytes) in
    sym (front ∙ take_all (max + 1) bytes (omega (arith, all)))

many-front : (max : ℕ) (text bytes : List ℕ) → text ≡ take (max + 1) bytes → max < length text → max < length bytes
many-front max text bytes front many = omega (arith, many, ap length front, length-take (max + 1) bytes)

module _ (told : Option Folder) (path : List ℕ) (max : ℕ) (left left' : Option (List ℕ)) (E : Type 0) (text : List ℕ)
    (given : IfSome told (λ folder. GivesFile folder path left))
    (read : HasRead left left' E
    (λ all rest. (text ≡ take (max + 1) all) × (length all ≤ length rest + (max + 1)))) where
  fronts : HasReadFiles told
      (λ folder. (bytes : List ℕ) × (bytes_at folder path ≡ Some bytes) × (text ≡ take (max + 1) bytes))
  fronts =
      Files-one told path left left' E (λ all. text ≡ take (max + 1) all) given
      (HasRead-map read (λ e. e) (λ all rest front. front.0))

  pub file-whole : length text ≤ max
      → HasReadFiles told (λ folder. (bytes_at folder path ≡ Some text) × (length text ≤ max))
  file-whole few =
      Files-map told _ _ (λ folder f. (f.1 ∙ ap Some (whole-front max text f.0 f.2 few), few)) fronts

  pub file-large : max < length text
      → HasReadFiles told (λ folder. (bytes : List ℕ) × (bytes_at folder path ≡ Some bytes) × (max < length bytes))
  file-large many = Files-map told _ _ (λ folder f. (f.0, f.1, many-front max text f.0 f.2 many)) fronts

-- what was read where a file is refused, by its fault
pub file-refused : (told : Option Folder) (path : List ℕ) (max : ℕ) (e f : FileFault) → e ≡ f
    → HasReadFiles told (λ folder. IsReadOf (Err e) max (bytes_at folder path))
    → HasReadFiles told (λ folder. IsReadOf (Err f) max (bytes_at folder path))
file-refused told path max e f is =
    subst (λ e. HasReadFiles told (λ folder. IsReadOf (Err e) max (bytes_at folder path))) is
