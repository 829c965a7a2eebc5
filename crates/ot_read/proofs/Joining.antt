-- Lines are read one after another.
use Rattle.std.specs.Prelude.{◌≡◌, ◌<◌, ◌+◌, ◌-◌, ℕ, List, ◌++◌, Result, Ok, Err}
use Rattle.std.proofs.Common.{◌∙◌, ap, arith}
use Rattle.ot_logic.specs.Names.{Name}
use Rattle.ot_logic.specs.Trees.{Sequent}
use Rattle.ot_forms.specs.declared.fault.TextFault.{TextFault}
use Rattle.ot_forms.specs.Meaning.{Refusal}
use Rattle.ot_read.specs.Lines.{at_line, RefusedLine}

-- sequents in front of those that are read
abbrev pub behind : List (Sequent Name) → Result (List (Sequent Name)) RefusedLine
    → Result (List (Sequent Name)) RefusedLine
behind qs (Ok rs) = Ok (qs ++ rs)
behind qs (Err refused) = Err refused

-- a refusal at a column, from 1
pub at-column : {A : Type 0} (number column : ℕ) (fault : TextFault) (read : Result A Refusal)
    → read ≡ Err (column - 1, fault) → 0 < column
    → at_line number read ≡ Err (record { line = number; column = column; fault = fault })
at-column number column fault read e some =
    let p : column - 1 + 1 ≡ column = omega (arith, some) in
    ap (at_line number) e ∙ ap (λ c. Err (record { line = number; column = c; fault = fault })) p
