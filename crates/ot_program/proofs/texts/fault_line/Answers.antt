use Rattle.ot_kernel.specs.State.{name_at}
use Rattle.ot_machine.specs.Faults.{fault_of}
use Rattle.ot_program.proofs.TextLemmas.{fault_line_is}
use Rattle.ot_program.proofs.texts.fault_line.Goals as goal

pub returns : goal.returns
returns c =
    fault_line_is (fault_of (name_at c.args.kernel.now) c.args.fault) c.args.path.now c.args.number
    c.in_ok-line.line.items
    c.add_fault.new.out.items c.add_text.new.out.items c.in_ok-line.ensures c.in_ok-add_fault.ensures
    c.in_ok-add_text.ensures
