-- What is read as an object of a kind is one, and what is read of a good list is read.
use Rattle.std.proofs.Common.{◌≡◌, Result, Ok, Err, ap}
use Rattle.ot_logic.specs.Names.{Name}
use Rattle.ot_logic.specs.Trees.{Ty, Variable, Tm, Sequent}
use Rattle.ot_logic.specs.Faults.{Fault}
use Rattle.ot_machine.specs.Objects.{Object, Objects, name, list, a_type, variable, term, theorem}
use Rattle.ot_machine.specs.Places.{as_name, as_list, as_type, as_variable, as_term, as_theorem}
use Rattle.ot_machine.specs.Parts.{or_bad}
use Rattle.ot_logic.proofs.Results.{same_Ok}

pub name-is : (o : Object) (n : Name) → as_name o ≡ Ok n → o ≡ name n
name-is (name m) n e = ap name (same_Ok m n e)
name-is _ n e = absurd (cc)

pub list-is : (o : Object) (os : Objects) → as_list o ≡ Ok os → o ≡ list os
list-is (list ps) os e = ap list (same_Ok ps os e)
list-is _ os e = absurd (cc)

pub type-is : (o : Object) (t : Ty Name) → as_type o ≡ Ok t → o ≡ a_type t
type-is (a_type u) t e = ap a_type (same_Ok u t e)
type-is _ t e = absurd (cc)

pub variable-is : (o : Object) (v : Variable Name) → as_variable o ≡ Ok v → o ≡ variable v
variable-is (variable w) v e = ap variable (same_Ok w v e)
variable-is _ v e = absurd (cc)

pub term-is : (o : Object) (t : Tm Name) → as_term o ≡ Ok t → o ≡ term t
term-is (term u) t e = ap term (same_Ok u t e)
term-is _ t e = absurd (cc)

pub theorem-is : (o : Object) (q : Sequent Name) → as_theorem o ≡ Ok q → o ≡ theorem q
theorem-is (theorem r) q e = ap theorem (same_Ok r q e)
theorem-is _ q e = absurd (cc)

-- ---- a part of a list
pub or_bad-is : {A : Type 0} (bad : Fault Name) (r : Result A (Fault Name)) (a : A) → or_bad bad r ≡ Ok a → r ≡ Ok a
or_bad-is bad (Ok x) a h = h
or_bad-is bad (Err f) a h = absurd (cc)
