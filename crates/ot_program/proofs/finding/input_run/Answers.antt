use Rattle.std.proofs.Common.{ℕ, List}
use Rattle.std.specs.Prelude.{IsSomeAnd}
use Rattle.ot_io.specs.Causes.{CountRose}
use Rattle.ot_program.specs.Command.{LastInput}
use Rattle.ot_program.specs.Answer.{FileFailed}
use Rattle.ot_program.specs.Endings.{end_at}
use Rattle.ot_program.specs.Verdicts.{IsStopVerdict}
use Rattle.ot_program.proofs.Worlds.{world_map}
use Rattle.ot_program.proofs.FindingLemmas.{ends_by, input_stopped, input_last}
use Rattle.ot_program.proofs.finding.input_run.Goals as goal

pub returns-in-Ok-clause-ran : goal.returns-in-Ok-clause-ran
returns-in-Ok-clause-ran g c =
    λ told may. world_map told (g.S.Source.left c.args.input.now) (g.S.Source.left c.run_noted.new.input) _ _
    (λ May ended. record { ended = tt; ran = ended.end }) (c.in-Ok.ensures.ran told may)

pub returns-in-Err-clause-ran : goal.returns-in-Err-clause-ran
returns-in-Err-clause-ran g c =
    let I : Type 0 = CountRose (g.S.Source.faults c.args.input.now) (g.S.Source.faults c.run_noted.new.input) in
    let F : List ℕ → Type 0 = FileFailed (g.F.Source.at c.run_noted.new.files)
    (g.F.Source.faults c.args.files.now) (g.F.Source.faults c.run_noted.new.files) in
    let Q : Type 0 = CountRose (g.F.Source.misses c.args.files.now) (g.F.Source.misses c.run_noted.new.files) in
    let s = c.run_noted.new.session in
    λ told may. rw c.ending_of.ensures (world_map told (g.S.Source.left c.args.input.now)
    (g.S.Source.left c.run_noted.new.input) _ _
    (λ May ended. input_stopped c.args.packages.now c.args.path.now s I F Q May (end_at s.kernel c.in-Err.stop)
    c.stopped.result ended (rw c.kernel.ensures at c.stopped.ensures)) (c.in-Err.ensures.ran told may))

pub returns-in-Err-clause-last : goal.returns-in-Err-clause-last
returns-in-Err-clause-last g c =
    let path = c.args.path.now in
    let told = g.F.Source.folder c.args.files.now in
    let at = g.F.Source.at c.run_noted.new.files in
    let o = end_at c.run_noted.new.session.kernel c.in-Err.stop in
    rw c.ending_of.ensures
    (ends_by (λ v. IsSomeAnd o (IsStopVerdict v)) (λ v. LastInput path told at) c.stopped.result
    (input_last (LastInput path told at) o c.in-Err.ensures.at) (rw c.kernel.ensures at c.stopped.ensures))
