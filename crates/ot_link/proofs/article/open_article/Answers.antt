use Rattle.std.proofs.Common.{ℕ, List, refl, rules}
use Rattle.std.specs.Prelude.{string_bytes, Result}
use Rattle.ot_io.proofs.Readings.{Files-none, Files-map, Files-one, Files-missing}
use Rattle.ot_scan.specs.Lines.{lines_of}
use Rattle.ot_machine.specs.Contexts.{context_of}
use Rattle.ot_machine.specs.Meaning.{run_of}
use Rattle.ot_machine.specs.Run.{run}
use Rattle.ot_machine.specs.States.{fresh_article}
use Rattle.ot_link.specs.Stops.{Stop}
use Rattle.ot_link.specs.Answers.{setting_of, ran_of}
use Rattle.ot_link.specs.Blocks.{Ran, article_end}
use Rattle.ot_link.proofs.FileParts.{file-found, file-missing, file-failed}
use Rattle.ot_link.proofs.article.open_article.Goals as goal

pub returns-in-Ok-clause-comes : goal.returns-in-Ok-clause-comes
returns-in-Ok-clause-comes g c =
    let old = c.args.session.now in
    let new = c.run_named.new.session in
    let path = string_bytes c.args.path in
    let end : List ℕ → Result Ran Stop = λ bytes. article_end path
    (run (context_of old c.args.context.now) (lines_of c.args.setting.limits.now.article_bytes bytes)
    (record { article = fresh_article; run = run_of old })) in
    Files-map _ _ _
    (λ folder found. file-found (setting_of folder c.args.setting) path end new.kernel (ran_of new)
    c.run_named.result found.0 found.1 found.2)
    (Files-one _ path _ _ _ _ (rw c.deref.ensures at c.in-Ok.ensures.ok) c.run_named.ensures.ends)

pub returns-in-Err-Missing-clause-comes : goal.returns-in-Err-Missing-clause-comes
returns-in-Err-Missing-clause-comes g c =
    let old = c.args.session.now in
    let path = string_bytes c.args.path in
    let end : List ℕ → Result Ran Stop = λ bytes. article_end path
    (run (context_of old c.args.context.now) (lines_of c.args.setting.limits.now.article_bytes bytes)
    (record { article = fresh_article; run = run_of old })) in
    Files-map _ _ _ (λ folder none. file-missing (setting_of folder c.args.setting) path end none)
    (Files-missing _ path (rw c.deref.ensures at (c.in-Err-Missing.ensures.missing (search rules))))

pub returns-in-Err-Failed-clause-comes : goal.returns-in-Err-Failed-clause-comes
returns-in-Err-Failed-clause-comes g c =
    let old = c.args.session.now in
    let path = string_bytes c.args.path in
    let end : List ℕ → Result Ran Stop = λ bytes. article_end path
    (run (context_of old c.args.context.now) (lines_of c.args.setting.limits.now.article_bytes bytes)
    (record { article = fresh_article; run = run_of old })) in
    Files-none _ _ (λ folder. file-failed (setting_of folder c.args.setting) path end old.kernel c.args.path refl)
