-- Small folders and what is required in them.
use Rattle.std.specs.Prelude.{codes}
use Rattle.std.proofs.Common.{◌≡◌, ℕ, List, [], ◌∷◌, ◌++◌, Result, Ok, Err, refl}
use Rattle.ot_io.specs.Folder.{Folder}
use Rattle.ot_repo.specs.Required.{Refusal, NotInstalled, RequiresCycle, Missing, required}

abbrev main : List ℕ
main = codes "main {" ++ 10 ∷ 125 ∷ 10 ∷ []

abbrev needs : List ℕ → List ℕ
needs name = codes "requires: " ++ name ++ 10 ∷ main

abbrev listing : List ℕ
listing = codes "a-1" ++ 10 ∷ codes "b-1" ++ 10 ∷ codes "# b-3" ++ 10 ∷ codes "b-2" ++ 10 ∷ []

abbrev files : Folder
files =
    (codes "u.thy", codes "requires: a" ++ 10 ∷ needs (codes "b-1"))
    ∷ (codes "none.thy", main)
    ∷ (codes "gone.thy", needs (codes "gone"))
    ∷ (codes "round.thy", needs (codes "c"))
    ∷ (codes "p/installed", listing)
    ∷ (codes "p/a-1/a.thy", needs (codes "b"))
    ∷ (codes "p/b-1/b.thy", needs (codes "b-2"))
    ∷ (codes "p/b-2/b.thy", main)
    ∷ []

abbrev round : Folder
round =
    (codes "u.thy", needs (codes "a"))
    ∷ (codes "p/installed", listing)
    ∷ (codes "p/a-1/a.thy", needs (codes "b-1"))
    ∷ (codes "p/b-1/b.thy", needs (codes "a"))
    ∷ []

abbrev answer : Type 0
answer = Result (List (List ℕ)) Refusal

-- each once, behind its own requirements; a name picks the last line that has it
row-order : ◌≡◌ {A = answer} (required files 1000 (codes "p") (codes "u.thy"))
    (Ok (codes "b-2" ∷ codes "a-1" ∷ codes "b-1" ∷ []))
row-order = refl

row-none : ◌≡◌ {A = answer} (required files 1000 (codes "q") (codes "none.thy")) (Ok [])
row-none = refl

row-gone : ◌≡◌ {A = answer} (required files 1000 (codes "p") (codes "gone.thy"))
    (Err (NotInstalled (codes "gone.thy") 1))
row-gone = refl

-- the list is read before the value
row-list : ◌≡◌ {A = answer} (required files 1000 (codes "q") (codes "gone.thy")) (Err (Missing (codes "q/installed")))
row-list = refl

row-round : ◌≡◌ {A = answer} (required round 1000 (codes "p") (codes "u.thy"))
    (Err (RequiresCycle (codes "p/b-1/b.thy") 1))
row-round = refl
