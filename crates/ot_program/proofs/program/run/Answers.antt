use Rattle.std.proofs.Common.{◌≡◌, ◌⊎◌, inr, refl, sym, subst}
use Rattle.ot_args.specs.Grammar.{texts_of}
use Rattle.ot_io.specs.Causes.{CountRose}
use Rattle.ot_program.specs.Answer.{FileFailed, NoFileIsAsked}
use Rattle.ot_program.specs.Tasks.{task_value}
use Rattle.ot_program.proofs.Worlds.{world_map, world_none}
use Rattle.ot_program.proofs.ReplyLemmas.{is_answered, memory_answered, usage_answered}
use Rattle.ot_program.proofs.ReplyLemmas.{no_write_fault, used_right}
use Rattle.ot_program.proofs.program.run.Goals as goal

pub returns-in-Ok-run_task-clause-answered : goal.returns-in-Ok-run_task-clause-answered
returns-in-Ok-run_task-clause-answered g c =
    let out = c.finish.ensures in
    λ told may.
    world_map told (g.S.Source.left c.args.input.now) (g.S.Source.left c.run_task.new.input) _ _
    (λ May verdict.
    is_answered g.O.Sink.written g.O.Sink.flushed c.args.out.now c.finish.new.out g.E.Sink.written g.E.Sink.faults
    c.args.err.now c.finish.new.err (texts_of c.args.words.now) (task_value c.in-Ok.task) May
    (g.F.Source.at c.run_task.new.files) c.in-Ok-run_task.verdict.status c.finish.result
    c.in-Ok-run_task.verdict.text.items (g.S.Source.faults c.args.input.now)
    (g.S.Source.faults c.run_task.new.input) (g.F.Source.faults c.args.files.now)
    (g.F.Source.faults c.run_task.new.files)
    (CountRose (g.F.Source.misses c.args.files.now) (g.F.Source.misses c.run_task.new.files))
    (CountRose (g.O.Sink.faults c.args.out.now) (g.O.Sink.faults c.finish.new.out)) (sym c.in-Ok.ensures.task)
    verdict.says verdict.missing out.ends out.outputs out.says out.write)
    (c.in-Ok-run_task.ensures.verdict told
    (subst (λ t. NoFileIsAsked t ⊎ (told ≡ g.F.Source.folder c.args.files.now)) (sym c.in-Ok.ensures.task) may))

pub finish-requires : goal.finish-requires
finish-requires g c =
    let ran = c.in-Ok-run_task.ensures.verdict (g.F.Source.folder c.args.files.now) (inr refl) in
    no_write_fault (task_value c.in-Ok.task) _ _ _ c.in-Ok-run_task.verdict.status
    c.in-Ok-run_task.verdict.text.items ran.says.says

pub returns-in-Ok-run_task-clause-usage : goal.returns-in-Ok-run_task-clause-usage
returns-in-Ok-run_task-clause-usage g c =
    let ran = c.in-Ok-run_task.ensures.verdict (g.F.Source.folder c.args.files.now) (inr refl) in
    used_right (texts_of c.args.words.now) (task_value c.in-Ok.task) _ _ _ c.in-Ok-run_task.verdict.status
    c.finish.result c.in-Ok-run_task.verdict.text.items (sym c.in-Ok.ensures.task) ran.says.says c.finish.ensures.ends

-- where memory ran out
pub returns-in-Err-run_task-clause-answered : goal.returns-in-Err-run_task-clause-answered
returns-in-Err-run_task-clause-answered g c =
    λ told may.
    world_map told (g.S.Source.left c.args.input.now) (g.S.Source.left c.run_task.new.input) _ _
    (λ May ran. memory_answered g.O.Sink.written g.O.Sink.flushed c.args.out.now c.args.out.now g.E.Sink.written
    g.E.Sink.faults c.args.err.now c.say.new.err (texts_of c.args.words.now) May _ refl c.say.ensures.line)
    (c.in-Err-run_task.ensures.verdict told
    (subst (λ t. NoFileIsAsked t ⊎ (told ≡ g.F.Source.folder c.args.files.now)) (sym c.in-Ok.ensures.task) may))

-- of words that are no command
pub returns-in-Err-clause-answered : goal.returns-in-Err-clause-answered
returns-in-Err-clause-answered g c =
    λ told may.
    world_none told (g.S.Source.left c.args.input.now) _
    (λ May. usage_answered g.O.Sink.written g.O.Sink.flushed c.args.out.now c.args.out.now g.E.Sink.written
    g.E.Sink.faults c.args.err.now c.say-in-Err.new.err (texts_of c.args.words.now) May _
    (sym c.in-Err.ensures.task) refl c.say-in-Err.ensures.line)
