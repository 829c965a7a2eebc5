-- Names that are read from quoted texts.
use Rattle.std.specs.Prelude.{◌≡◌, ℕ, [], slice_get, Option, Some, Ok}
use Rattle.std.proofs.Common.{sym, ◌∙◌, ap}
use Rattle.std.proofs.lemmas.Option.{get_or_from_slice_get}
use Rattle.ot_logic.specs.Names.{Name}
use Rattle.ot_logic.specs.Faults as faults
use Rattle.ot_logic.specs.Answers.{some_or}
use Rattle.ot_kernel.specs.State as kernel

pub a_name : (o : Option Name) (k : kernel.State) (i : ℕ) (n : Name) → o ≡ Some n → slice_get k.names i ≡ Some n
    → some_or {E = faults.Fault Name} faults.BadName o ≡ Ok (kernel.name_at k i)
a_name o k i n p q = ap (some_or faults.BadName) p ∙ ap Ok (sym (get_or_from_slice_get k.names i n [] q))
