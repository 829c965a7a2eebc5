use Rattle.std.proofs.Common.{ℕ, List, subst}
use Rattle.std.specs.Prelude.{Err}
use Rattle.ot_io.specs.Causes.{CountRose}
use Rattle.ot_program.specs.Command.{LastInput}
use Rattle.ot_program.specs.Answer.{FileFailed}
use Rattle.ot_program.specs.Searches.{EndsSearch, IfEnded}
use Rattle.ot_program.specs.declared.finding.Ending.{Ending}
use Rattle.ot_program.proofs.Options.{ok_always}
use Rattle.ot_program.proofs.Worlds.{world_map}
use Rattle.ot_program.proofs.FindingLemmas.{said_verdict, found_verdict}
use Rattle.ot_program.proofs.finding.run_finding.Goals as goal

-- a search that ended with its matches
pub returns-in-Ok-clause-verdict : goal.returns-in-Ok-clause-verdict
returns-in-Ok-clause-verdict g c =
    let I : Type 0 = CountRose (g.S.Source.faults c.args.input.now) (g.S.Source.faults c.searched.new.input) in
    let F : List ℕ → Type 0 = FileFailed (g.F.Source.at c.searched.new.files)
    (g.F.Source.faults c.args.files.now) (g.F.Source.faults c.searched.new.files) in
    let Q : Type 0 = CountRose (g.F.Source.misses c.args.files.now) (g.F.Source.misses c.searched.new.files) in
    let query = c.args.query in
    λ told may. world_map told (g.S.Source.left c.args.input.now) (g.S.Source.left c.searched.new.input) _ _
    (λ May ended. found_verdict query.packages.now query.pattern.now query.path.now I F Q May c.in-Ok.search
    c.found_verdict.result c.found_verdict.ensures.one_text c.found_verdict.ensures.ends ended)
    (c.in-Ok.ensures.searched told may)

pub returns-in-Ok-clause-at : goal.returns-in-Ok-clause-at
returns-in-Ok-clause-at g c = ok_always _ c.found_verdict.result c.in-Ok.ensures.at

-- and one that was ended
pub returns-in-Err-Said-clause-verdict : goal.returns-in-Err-Said-clause-verdict
returns-in-Err-Said-clause-verdict g c =
    let I : Type 0 = CountRose (g.S.Source.faults c.args.input.now) (g.S.Source.faults c.searched.new.input) in
    let F : List ℕ → Type 0 = FileFailed (g.F.Source.at c.searched.new.files)
    (g.F.Source.faults c.args.files.now) (g.F.Source.faults c.searched.new.files) in
    let Q : Type 0 = CountRose (g.F.Source.misses c.args.files.now) (g.F.Source.misses c.searched.new.files) in
    let query = c.args.query in
    λ told may. rw c.in-Err-Said.field-0-is (world_map told (g.S.Source.left c.args.input.now)
    (g.S.Source.left c.searched.new.input) _ _
    (λ May h. said_verdict query.packages.now query.pattern.now query.path.now I F Q May c.in-Err-Said.verdict
    (subst (λ (e : Ending). EndsSearch query.packages.now query.pattern.now query.path.now (Err e) I F Q May)
    c.in-Err-Said.field-0-is h))
    (c.in-Err-Said.ensures.searched told may))

pub returns-in-Err-Said-clause-at : goal.returns-in-Err-Said-clause-at
returns-in-Err-Said-clause-at g c =
    subst (IfEnded (λ _. LastInput c.args.query.path.now (g.F.Source.folder c.args.files.now)
    (g.F.Source.at c.searched.new.files))) c.in-Err-Said.field-0-is c.in-Err-Said.ensures.last

-- where memory ran out
pub returns-in-Err-Memory-clause-verdict : goal.returns-in-Err-Memory-clause-verdict
returns-in-Err-Memory-clause-verdict g c =
    λ told may.
    world_map told (g.S.Source.left c.args.input.now) (g.S.Source.left c.searched.new.input) _ _ (λ May ended. tt)
    (c.searched.ensures.searched told may)
