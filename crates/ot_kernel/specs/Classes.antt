-- Terms found by the numbers of their alpha classes.
use Rattle.std.specs.Prelude.{◌≡◌, ℕ, ◌||◌, nat_eq, List, slice_get, Some}
use Rattle.std.specs.List.{list_any}
use Rattle.ot_logic.specs.Trees.{Tm}
use Rattle.ot_logic.specs.Hol.{same_tm, is_in}
use Rattle.ot_logic.specs.Naming.{numbers}
use Rattle.ot_term.specs.Term.{TermTable}
use Rattle.ot_kernel.specs.Numbered.{tm_at}

-- the classes of the terms us: a term of the table is one of these terms just where its class is one of these classes
abbrev pub AreClassesOf : TermTable → List (Tm ℕ) → List ℕ → Type 0
AreClassesOf m us ks = (i c : ℕ) → slice_get m.classes i ≡ Some c
    → list_any (nat_eq c) ks ≡ is_in numbers (tm_at m.terms i) us

-- the class of the term t is added to the classes
abbrev pub AddsClass : TermTable → ℕ → List ℕ → List ℕ → Type 0
AddsClass m t old new = (i c : ℕ) → slice_get m.classes i ≡ Some c
    → list_any (nat_eq c) new ≡ (same_tm numbers (tm_at m.terms t) (tm_at m.terms i) || list_any (nat_eq c) old)
