use Rattle.ot_scan.proofs.Held.{part-moved}
use Rattle.ot_scan.proofs.lines.move_to_front.Goals as goal

pub returns-then-start-gt0 : goal.returns-then-start-gt0
returns-then-start-gt0 c = part-moved c.args.buffer.now c.copy_within.new.self c.args.start c.args.end
    c.requires.ordered c.requires.within c.copy_within.ensures.after
