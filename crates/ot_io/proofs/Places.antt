-- The place of a file.
use Rattle.std.proofs.Common.{◌≡◌, ◌<◌, ◌+◌, ℕ, zero, suc, List, [], ◌∷◌, length, drop}
use Rattle.std.proofs.Common.{get_or, Some, refl, sym, ap, ◌∙◌, true, false, arith, add-one}
use Rattle.std.specs.Prelude.{slice_get, string_bytes}
use Rattle.std.specs.Str.{bytes_eq}
use Rattle.std.proofs.lemmas.Slice.Eq.{bytes_eq-Decides}
use Rattle.ot_io.specs.Folder.{bytes_at}
use Rattle.ot_io.specs.FileList.{FileEntry, folder_of}

-- the path's first file is behind one with another path
skipped_one : (files : List FileEntry) (path : List ℕ) (place : ℕ) (file : FileEntry)
    → place < length files → file ≡ get_or files place file → bytes_eq path (string_bytes file.0) ≡ false
    → bytes_at (folder_of (drop (suc place) files)) path ≡ bytes_at (folder_of (drop place files)) path
skipped_one [] path place file lt is apart = absurd (omega (arith, lt))
skipped_one (x ∷ xs) path zero file lt is apart =
    let h : bytes_eq path (string_bytes x.0) ≡ false = ap (λ y. bytes_eq path (string_bytes y.0)) (sym is) ∙ apart in
    rw h refl
skipped_one (x ∷ xs) path (suc n) file lt is apart = skipped_one xs path n file (omega (arith, lt)) is apart

pub skipped : (files : List FileEntry) (path : List ℕ) (place : ℕ) (file : FileEntry)
    → place < length files → file ≡ get_or files place file → bytes_eq path (string_bytes file.0) ≡ false
    → bytes_at (folder_of (drop (place + 1) files)) path ≡ bytes_at (folder_of (drop place files)) path
skipped files path place file lt is apart =
    ap (λ n. bytes_at (folder_of (drop n files)) path) (add-one place) ∙ skipped_one files path place file lt is apart

-- the path's first file is at the place of one with this path
pub found_here : (files : List FileEntry) (path : List ℕ) (place : ℕ) (file : FileEntry)
    → place < length files → file ≡ get_or files place file → bytes_eq path (string_bytes file.0) ≡ true
    → bytes_at (folder_of (drop place files)) path ≡ Some file.1.items
found_here [] path place file lt is same = absurd (omega (arith, lt))
found_here (x ∷ xs) path zero file lt is same =
    let h : bytes_eq path (string_bytes x.0) ≡ true = ap (λ y. bytes_eq path (string_bytes y.0)) (sym is) ∙ same in
    rw h (ap (λ y. Some y.1.items) (sym is))
found_here (x ∷ xs) path (suc n) file lt is same = found_here xs path n file (omega (arith, lt)) is same

-- the folder has a file's path and bytes at its place
pub slice_get-folder_of : (files : List FileEntry) (place : ℕ) (file : FileEntry)
    → place < length files → file ≡ get_or files place file
    → slice_get (folder_of files) place ≡ Some (string_bytes file.0, file.1.items)
slice_get-folder_of [] place file lt is = absurd (omega (arith, lt))
slice_get-folder_of (x ∷ xs) zero file lt is = ap (λ y. Some (string_bytes y.0, y.1.items)) (sym is)
slice_get-folder_of (x ∷ xs) (suc n) file lt is = slice_get-folder_of xs n file (omega (arith, lt)) is

pub same_bytes : (xs ys : List ℕ) → bytes_eq xs ys ≡ true → xs ≡ ys
same_bytes xs ys h = (bytes_eq-Decides xs ys).0 h
