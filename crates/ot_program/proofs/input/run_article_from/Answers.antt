use Rattle.std.proofs.Common.{List, ℕ, ap, subst}
use Rattle.std.specs.Prelude.{IsOk, IfSome, string_bytes}
use Rattle.ot_io.specs.Causes.{CountRose}
use Rattle.ot_io.specs.Reading.{HasRead}
use Rattle.ot_link.specs.Blocks.{article_end}
use Rattle.ot_program.specs.Runs.{outcome}
use Rattle.ot_program.specs.Endings.{end_of, HasOwnCause}
use Rattle.ot_program.specs.Command.{IsAnswer}
use Rattle.ot_program.proofs.InputLemmas.{alone_ran, alone_cause, lawful_end}
use Rattle.ot_program.proofs.input.run_article_from.Goals as goal

pub returns-clause-ran : goal.returns-clause-ran
returns-clause-ran g c =
    let left = g.S.Source.left c.args.source.now in
    let left' = g.S.Source.left c.run_alone.new.source in
    let o = end_of c.run_alone.new.session c.run_alone.result in
    subst (λ (path : List ℕ). HasRead left left' (IsOk c.run_alone.result)
    (λ bytes rest. IfSome o (IsAnswer (article_end path (outcome bytes))))) c.in_ok-path.ensures.ok
    (alone_ran c.run_alone.new.session c.run_alone.result (string_bytes c.in_ok-path.path) left left' _
    c.standard-limits.result.article_bytes (ap (λ l. l.article_bytes) c.standard-limits.ensures)
    c.run_alone.ensures.reads)

pub returns-clause-cause : goal.returns-clause-cause
returns-clause-cause g c =
    let f = g.S.Source.faults c.args.source.now in
    let f' = g.S.Source.faults c.run_alone.new.source in
    subst (λ (path : List ℕ). IfSome (end_of c.run_alone.new.session c.run_alone.result)
    (HasOwnCause path (CountRose f f') ⊥)) c.in_ok-path.ensures.ok
    (alone_cause c.run_alone.new.session c.run_alone.result (string_bytes c.in_ok-path.path) f f'
    c.run_alone.ensures.own c.run_alone.ensures.cause)

pub returns-clause-lawful : goal.returns-clause-lawful
returns-clause-lawful g c =
    lawful_end c.run_alone.new.session c.run_alone.result c.run_alone.ensures.lawful
    c.run_alone.ensures.lawful_exports
