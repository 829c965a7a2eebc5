-- The line that says a name.
use Rattle.std.specs.Prelude.{Some, Ok}
use Rattle.std.proofs.Common.{◌≡◌, ℕ, List, ap}
use Rattle.ot_logic.specs.Names.{Name}
use Rattle.ot_logic.specs.Reading.{name_read}
use Rattle.ot_logic.specs.Faults.{BadName}
use Rattle.ot_logic.specs.Answers.{◌>>=◌, some_or}
use Rattle.ot_scan.specs.Words.{Quoted}
use Rattle.ot_machine.specs.Step.{named, command_of}

pub said-of : (text : List ℕ) (n : Name) → name_read text ≡ Some n → command_of (Quoted text) ≡ Ok (named n)
said-of text n e = ap (λ o. some_or BadName o >>= λ m. Ok (named m)) e
