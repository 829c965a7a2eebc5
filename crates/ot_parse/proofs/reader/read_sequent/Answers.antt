use Rattle.ot_parse.proofs.Refusing.{line-refused, line-meant, line-meant-wrong}
use Rattle.ot_parse.proofs.reader.read_sequent.Goals as goal

pub returns-in-Ok-clause-ok : goal.returns-in-Ok-clause-ok
returns-in-Ok-clause-ok c = line-meant c.args.notation.now c.sound.ensures c.args.line.now c.in-Ok.read
    c.in-Ok.ensures

pub returns-in-Ok-clause-refused : goal.returns-in-Ok-clause-refused
returns-in-Ok-clause-refused c = line-meant-wrong c.args.notation.now c.sound.ensures c.args.line.now c.in-Ok.read
    c.in-Ok.ensures

pub returns-in-Err-clause-refused : goal.returns-in-Err-clause-refused
returns-in-Err-clause-refused c = line-refused c.args.notation.now c.sound.ensures c.args.line.now c.in-Err.halt
    c.halted_at.result c.in-Err.ensures c.halted_at.ensures
