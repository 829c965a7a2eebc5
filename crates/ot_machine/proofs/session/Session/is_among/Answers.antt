use Rattle.std.proofs.Common.{◌+◌, drop, map, sym, ap, ◌∙◌}
use Rattle.std.specs.Prelude.{◌||◌}
use Rattle.ot_kernel.specs.State.{theorem_at}
use Rattle.ot_machine.specs.Rows.{is_exported}
use Rattle.ot_machine.specs.Meaning.{export_of}
use Rattle.ot_machine.proofs.Exported.{exported_next}
use Rattle.ot_machine.proofs.session.Session.is_among.Goals as goal

pub returns-then-is_same : goal.returns-then-is_same
returns-then-is_same c =
    let k = c.args.self.now.kernel in
    let q = theorem_at k c.args.theorem in
    let rest =
    is_exported q (map (export_of c.args.self.now) (drop (c.loop-export.export-index + 1) c.args.exports.now)) in
    sym (c.loop-export.invariant ∙ exported_next c.args.self.now q c.args.exports.now c.loop-export.export-index
    c.export-item.result c.loop-export-test.true c.export-item.is
    ∙ ap (λ b. b || rest) (sym c.is_same.ensures ∙ c.if-is_same.true))

pub loop-export-preserved : goal.loop-export-preserved
loop-export-preserved c =
    let k = c.args.self.now.kernel in
    let q = theorem_at k c.args.theorem in
    let rest =
    is_exported q (map (export_of c.args.self.now) (drop (c.loop-export.export-index + 1) c.args.exports.now)) in
    c.loop-export.invariant ∙ exported_next c.args.self.now q c.args.exports.now c.loop-export.export-index
    c.export-item.result c.loop-export-test.true c.export-item.is
    ∙ ap (λ b. b || rest) (sym c.is_same.ensures ∙ c.if-is_same.false)
