-- Any name may be used.
use Rattle.ot_logic.specs.Names.{Name}
use Rattle.ot_machine.specs.NamesIn.{HasVersion5}

pub all-named : HasVersion5 (λ (n : Name). Unit {0})
all-named =
    record { primitives = record { arrow = tt; bool_name = tt; equals = tt }; a = tt; r = tt; binders = λ k low. tt }
