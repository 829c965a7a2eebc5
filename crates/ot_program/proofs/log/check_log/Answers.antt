use Rattle.std.proofs.Common.{◌≡◌, false, sym}
use Rattle.ot_io.specs.Causes.{CountRose}
use Rattle.ot_program.specs.World.{is_standard}
use Rattle.ot_program.specs.Answer.{FileFailed}
use Rattle.ot_program.proofs.LogLemmas.{standard_checked, file_checked}
use Rattle.ot_program.proofs.TaskEnds.{asked_last}
use Rattle.ot_program.proofs.Worlds.{told_by}
use Rattle.ot_program.proofs.log.check_log.Goals as goal

pub returns-then-eq-clause-checked : goal.returns-then-eq-clause-checked
returns-then-eq-clause-checked g c =
    let path = c.args.path.now in
    let f = g.F.Source.faults c.args.files.now in
    let m = g.F.Source.misses c.args.files.now in
    λ told may. standard_checked path told
    (CountRose (g.S.Source.faults c.args.input.now) (g.S.Source.faults c.check_source.new.source))
    (FileFailed (g.F.Source.at c.args.files.now) f f) (CountRose m m) c.check_source.result
    (g.S.Source.left c.args.input.now) (g.S.Source.left c.check_source.new.source) _
    (cc (c.eq.ensures, c.if-eq.true)) c.check_source.ensures.checked (c.check_source.ensures.cause path)

pub returns-else-eq-clause-checked : goal.returns-else-eq-clause-checked
returns-else-eq-clause-checked g c =
    let path = c.args.path.now in
    let folder = g.F.Source.folder c.args.files.now in
    let standard : is_standard path ≡ false = cc (c.eq.ensures, c.if-eq.false) in
    let i = g.S.Source.faults c.args.input.now in
    let at = g.F.Source.at c.check_file.new.files in
    λ told may.
    let same = told_by (is_standard path) folder told standard may in
    file_checked path told (CountRose i i)
    (FileFailed at (g.F.Source.faults c.args.files.now) (g.F.Source.faults c.check_file.new.files))
    (CountRose (g.F.Source.misses c.args.files.now) (g.F.Source.misses c.check_file.new.files)) c.check_file.result
    (g.S.Source.left c.args.input.now) _ standard
    (λ rose. (rose, asked_last folder path at c.check_file.ensures.at)) (rw (sym same) at c.check_file.ensures.checked)
    c.check_file.ensures.cause
