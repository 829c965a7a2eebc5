use Rattle.std.specs.Prelude.{string_bytes}
use Rattle.std.proofs.Common.{◌≡◌, [], length, refl, ap, subst}
use Rattle.ot_io.proofs.Reading.{HasRead-map}
use Rattle.ot_interp.specs.Interpretation.{identity, map_interpretation}
use Rattle.ot_kernel.specs.State.{name_at}
use Rattle.ot_scan.specs.Lines.{lines_of}
use Rattle.ot_machine.specs.States.{fresh_article}
use Rattle.ot_machine.specs.Run.{run}
use Rattle.ot_link.specs.Stops.{answered_by}
use Rattle.ot_link.specs.Blocks.{article_end}
use Rattle.ot_link.specs.Answers.{Comes, ran_of}
use Rattle.ot_link.proofs.Lawful.{empty-ready}
use Rattle.ot_link.proofs.article.run_alone.Goals as goal

pub run_named-requires-clause-ready : goal.run_named-requires-clause-ready
run_named-requires-clause-ready g c =
    let s = c.args.session.now in
    empty-ready s _ c.requires.session c.requires.fresh c.fresh_law.ensures.written.0 c.new-interp.ensures.pairs
    (c.new-interp.ensures.within (length s.kernel.names)) refl c.none-candidates.ensures.theorems
    (c.none-candidates.ensures.found s.kernel)

pub returns-clause-reads : goal.returns-clause-reads
returns-clause-reads g c =
    let new = c.run_named.new.session in
    let path = string_bytes c.args.path in
    let named = map_interpretation (name_at c.args.session.now.kernel) in
    let stays : named c.new-interp.result ≡ identity = ap named c.new-interp.ensures.pairs in
    HasRead-map c.run_named.ensures.ends (λ ok. ok)
    (λ bytes rest.
    subst (Comes new.kernel (ran_of new) c.run_named.result)
    (λ i. answered_by path (article_end path
    (run (record { interpretation = stays i; theorems = [] }) (lines_of c.args.limits.now.article_bytes bytes)
    (record { article = fresh_article; run = c.requires.fresh i })))))
