use Rattle.std.proofs.Common.{refl}
use Rattle.ot_log_rules.specs.Symbols.{mark_eq}
use Rattle.ot_log_rules.proofs.Gathering.{gathers-mark}
use Rattle.ot_log_rules.proofs.Signed.{mark-is}
use Rattle.ot_log_rules.proofs.parts.Parts.add_mark.Goals as goal

pub returns : goal.returns
returns c =
    gathers-mark c.args.nodes.now mark_eq mark-is c.args.self.now
    (record c.args.self.now { marks = c.insert.new.self }) c.args.mark c.requires.gone c.requires.mark
    c.in_ok-insert.ensures.keys refl refl
