-- Laws of what was read of files.
use Rattle.std.proofs.Common.{◌≡◌, ◌++◌, ◌∙◌, ℕ, List, [], ◌∷◌, Bool, true, false, Option, Some, None, sym, ap, subst, refl}
use Rattle.std.proofs.Common.{append-nil}
use Rattle.std.specs.Prelude.{IfSome}
use Rattle.std.specs.Io.KnownBytes.{Consumes, IsAtEnd}
use Rattle.ot_io.specs.Folder.{Folder, bytes_at, GivesFile}
use Rattle.ot_io.specs.Keeping.{KeepsFiles}
use Rattle.ot_io.specs.Reading.{Reads, HasRead}
use Rattle.ot_io.specs.Readings.{Missing, Whole, Front, reading_of, MayBeOf, Readings, Agrees, HasReadFiles}

-- a folder that agrees with more readings agrees with fewer
agrees-first : (folder : Folder) (xs ys : Readings) → Agrees folder (xs ++ ys) → Agrees folder xs
agrees-first folder [] ys a = tt
agrees-first folder (x ∷ xs) ys a = (a.0, agrees-first folder xs ys a.1)

agrees-behind : (folder : Folder) (xs ys : Readings) → Agrees folder (xs ++ ys) → Agrees folder ys
agrees-behind folder [] ys a = a
agrees-behind folder (x ∷ xs) ys a = agrees-behind folder xs ys a.1

agrees-both : (folder : Folder) (xs ys : Readings) → Agrees folder xs → Agrees folder ys → Agrees folder (xs ++ ys)
agrees-both folder [] ys a b = b
agrees-both folder (x ∷ xs) ys a b = (a.0, agrees-both folder xs ys a.1 b)

told-both : (told : Option Folder) (xs ys : Readings) → IfSome told (λ folder. Agrees folder xs)
    → IfSome told (λ folder. Agrees folder ys) → IfSome told (λ folder. Agrees folder (xs ++ ys))
told-both None xs ys a b = tt
told-both (Some folder) xs ys a b = agrees-both folder xs ys a b

told-none : (told : Option Folder) → IfSome told (λ folder. Agrees folder [])
told-none None = tt
told-none (Some folder) = tt

-- where no file was asked for
pub Files-none : (told : Option Folder) (P : Folder → Type 0) → ((folder : Folder) → P folder) → HasReadFiles told P
Files-none told P here = record { readings = []; agrees = told-none told; holds = λ folder a. here folder }

pub Files-map : (told : Option Folder) (P Q : Folder → Type 0) → ((folder : Folder) → P folder → Q folder)
    → HasReadFiles told P → HasReadFiles told Q
Files-map told P Q to p = record {
  readings = p.readings;
  agrees = p.agrees;
  holds = λ folder a. to folder (p.holds folder a);
}

-- two calls, one after the other
pub Files-then : (told : Option Folder) (P Q R : Folder → Type 0)
    → ((folder : Folder) → P folder → Q folder → R folder) → HasReadFiles told P → HasReadFiles told Q
    → HasReadFiles told R
Files-then told P Q R both p q = record {
  readings = p.readings ++ q.readings;
  agrees = told-both told p.readings q.readings p.agrees q.agrees;
  holds = λ folder a. both folder (p.holds folder (agrees-first folder p.readings q.readings a))
      (q.holds folder (agrees-behind folder p.readings q.readings a));
}

-- the second call reads of the files that the first one left
pub Files-next : {F : Type 0} {folder : F → Option Folder} {faults misses : F → ℕ} {old mid : F}
    {P Q R : Folder → Type 0} → KeepsFiles folder faults misses old mid → HasReadFiles (folder old) P
    → HasReadFiles (folder mid) Q → ((f : Folder) → P f → Q f → R f) → HasReadFiles (folder old) R
Files-next {folder = folder} {old = old} {P = P} {Q = Q} {R = R} kept p q both =
    Files-then (folder old) P Q R both p (subst (λ told. HasReadFiles told Q) kept.same_folder q)

-- of a folder that is told
pub Files-told : (folder : Folder) (P : Folder → Type 0) → HasReadFiles (Some folder) P → P folder
Files-told folder P p = p.holds folder p.agrees

pub Files-if : (told : Option Folder) (P Q : Folder → Type 0) → HasReadFiles told P
    → ((folder : Folder) → P folder → Q folder) → IfSome told Q
Files-if None P Q h to = tt
Files-if (Some folder) P Q h to = to folder (Files-told folder P h)

-- ---- one file

-- the file that was opened may be what was read of
is-of : (ended : Bool) (read bytes : List ℕ) (left' : Option (List ℕ)) → Consumes (Some bytes) left' read
    → (ended ≡ true → IsAtEnd left') → MayBeOf (reading_of ended read) (Some bytes)
is-of true read bytes None lost end = absurd lost
is-of true read bytes (Some rest) lost end =
    ap Some (lost ∙ ap (λ z. read ++ z) (end refl) ∙ append-nil read)
is-of false read bytes None lost end = absurd lost
is-of false read bytes (Some rest) lost end = (rest, ap Some lost)

of-holds : (ended : Bool) (read : List ℕ) (file : Option (List ℕ)) (P : List ℕ → Type 0)
    → ((rest : List ℕ) → (ended ≡ true → rest ≡ []) → P (read ++ rest)) → MayBeOf (reading_of ended read) file
    → (bytes : List ℕ) × (file ≡ Some bytes) × P bytes
of-holds true read file P holds is = (read ++ [], is ∙ ap Some (sym (append-nil read)), holds [] (λ e. refl))
of-holds false read file P holds is = (read ++ is.0, is.1, holds is.0 (λ e. cc))

told-one : (told : Option Folder) (path : List ℕ) (ended : Bool) (read : List ℕ) (left left' : Option (List ℕ))
    → IfSome told (λ folder. GivesFile folder path left) → Consumes left left' read → (ended ≡ true → IsAtEnd left')
    → IfSome told (λ folder. Agrees folder ((path, reading_of ended read) ∷ []))
told-one None path ended read left left' given lost end = tt
told-one (Some folder) path ended read left left' given lost end = rw given.1 (
  is-of ended read given.0 left' (rw (sym given.2) lost) end,
  tt,
)

-- what holds of the bytes that were read of the file that was opened, and any that may follow, holds of its bytes in
-- every folder that agrees
pub Files-one : (told : Option Folder) (path : List ℕ) (left left' : Option (List ℕ)) (E : Type 0)
    (P : List ℕ → Type 0) → IfSome told (λ folder. GivesFile folder path left)
    → HasRead left left' E (λ bytes rest. P bytes)
    → HasReadFiles told (λ folder. (bytes : List ℕ) × (bytes_at folder path ≡ Some bytes) × P bytes)
Files-one told path left left' E P given h = record {
  readings = (path, reading_of h.ended h.reads.read) ∷ [];
  agrees = told-one told path h.ended h.reads.read left left' given h.reads.lost (h.reads.end (λ e. cc));
  holds = λ folder a. of-holds h.ended h.reads.read (bytes_at folder path) P h.reads.holds a.0;
}

told-missing : (told : Option Folder) (path : List ℕ) → IfSome told (λ folder. bytes_at folder path ≡ None)
    → IfSome told (λ folder. Agrees folder ((path, Missing) ∷ []))
told-missing None path none = tt
told-missing (Some folder) path none = (none, tt)

-- a file that was missing
pub Files-missing : (told : Option Folder) (path : List ℕ) → IfSome told (λ folder. bytes_at folder path ≡ None)
    → HasReadFiles told (λ folder. bytes_at folder path ≡ None)
Files-missing told path none = record {
  readings = (path, Missing) ∷ [];
  agrees = told-missing told path none;
  holds = λ folder a. a.0;
}
