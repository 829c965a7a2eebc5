-- That memory ran out.
use Rattle.ot_logic.specs.declared.memory.Memory.{Memory}

-- there is one way to say it
abbrev pub ran_out : Memory
ran_out = record { 0 = tt }
