use Rattle.std.proofs.Common.{◌≡◌, ◌∙◌, ◌++◌, List, ℕ, ap, subst}
use Rattle.std.specs.Prelude.{IfSome}
use Rattle.ot_io.proofs.Reading.{HasRead-told}
use Rattle.ot_link.specs.Blocks.{article_end}
use Rattle.ot_sample.specs.Sample.{sample}
use Rattle.ot_program.specs.World.{anywhere}
use Rattle.ot_program.specs.Tasks.{RunSample}
use Rattle.ot_program.specs.Runs.{outcome}
use Rattle.ot_program.specs.Samples.{sample_path}
use Rattle.ot_program.specs.Endings.{end_of}
use Rattle.ot_program.specs.Command.{IsAnswer}
use Rattle.ot_program.proofs.SampleLemmas.{sample_end}
use Rattle.ot_program.proofs.VerdictLemmas.{task_verdict}
use Rattle.ot_program.proofs.sample.sample_in.Goals as goal

pub sample_verdict-requires-clause-made : goal.sample_verdict-requires-clause-made
sample_verdict-requires-clause-made c =
    c.deref-2.ensures.value ∙ c.in_ok-sample_article.ensures.ok
    ∙ ap (λ xs. xs ++ sample c.args.size) c.new-made.ensures.items

pub returns : goal.returns
returns c =
    let o = end_of c.run_article_from-ran.new.session c.run_article_from-ran.result in
    let made : c.new.result.left.now ≡ sample c.args.size =
    c.new.ensures
    ∙ c.deref.ensures.value
    ∙ c.in_ok-sample_article.ensures.ok
    ∙ ap (λ xs. xs ++ sample c.args.size) c.new-made.ensures.items in
    let ran = HasRead-told _ _ _ _ c.run_article_from-ran.ensures.ran in
    let known = subst (λ (bytes : List ℕ). IfSome o (IsAnswer (article_end sample_path (outcome bytes)))) made ran in
    task_verdict ⊥ (λ file. ⊥) ⊥ (RunSample c.args.size) anywhere o c.sample_verdict.result c.sample_verdict.ensures
    (sample_end c.args.size anywhere o known c.run_article_from-ran.ensures.cause)
