use Rattle.std.proofs.Common.{◌≡◌, ◌∙◌, ◌<◌, ◌+◌, ◌++◌, ◌∷◌, ℕ, List, [], length, take, get_or, map, refl, sym, ap}
use Rattle.std.specs.Prelude.{string_bytes}
use Rattle.std.proofs.lemmas.List.{map-append}
use Rattle.ot_io.specs.Folder.{Folder}
use Rattle.ot_io.specs.FileList.{folder_of}
use Rattle.ot_blocks.proofs.Collecting.{map_more}
use Rattle.ot_kernel_rows.proofs.folder.files_of.Goals as goal

-- a path, and a text in two parts
abbrev file_at : {X : Type 0} → (X → List ℕ) → (X → List ℕ) → (X → List ℕ) → X → List ℕ × List ℕ
file_at p q r e = (p e, q e ++ r e)

-- one file more
one-more : {X : Type 0} (p q r : X → List ℕ) (xs : List X) (k : ℕ) (d : X) (a b : List ℕ) → k < length xs
    → a ≡ p (get_or xs k d) → b ≡ q (get_or xs k d) ++ r (get_or xs k d)
    → ◌++◌ {A = List ℕ × List ℕ} (map (file_at p q r) (take k xs)) ((a, b) ∷ [])
    ≡ map (file_at p q r) (take (k + 1) xs)
one-more p q r xs k d a b lt path bytes =
    let here : ◌≡◌ {A = List ℕ × List ℕ} (a, b) (file_at p q r (get_or xs k d)) = λ i. (path i, bytes i) in
    ap (λ (y : List ℕ × List ℕ). map (file_at p q r) (take k xs) ++ y ∷ []) here
    ∙ sym (map_more (file_at p q r) xs k (get_or xs k d) d lt refl)

pub each-preserved : goal.each-preserved
each-preserved c =
    let es = c.args.entries.now in
    let file = c.in_ok-file.file in
    ap folder_of c.in_ok-push.ensures.items
    ∙ map-append (λ f. (string_bytes f.0, f.1.items)) c.each.files.items (file ∷ [])
    ∙ ap (λ (fs : Folder). fs ++ (string_bytes file.0, file.1.items) ∷ []) c.each.invariant
    ∙ one-more (λ e. e.0.now) (λ e. e.1.now) (λ e. e.2.now) es c.each.entry-index _ (string_bytes file.0) file.1.items
    c.each-test.true c.in_ok-file.ensures.path c.in_ok-file.ensures.bytes
