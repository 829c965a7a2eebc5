use Rattle.std.proofs.Common.{◌≡◌, ℕ, length}
use Rattle.std.proofs.lemmas.Result.{on_ok_weaker}
use Rattle.ot_trace.specs.Walk.{IsPartNumber}
use Rattle.ot_leads.specs.Columns.{HasPlace}
use Rattle.ot_leads.proofs.ColumnLemmas.{own-gains}
use Rattle.ot_leads.proofs.NotingLemmas.{parts-gathered}
use Rattle.ot_leads.proofs.column.Column.gather.Goals as goal

pub returns : goal.returns
returns c =
    let ts = c.args.trace.now in
    let before = c.args.self.now in
    let after = c.join_parts.new.self in
    on_ok_weaker c.join_parts.result
    (λ v. parts-gathered ts c.step.ensures.once c.args.id c.step.result.now c.requires.id c.step.ensures.origin
    c.step.ensures.below c.step.ensures.symbols before after
    (own-gains (length ts) before after
    (λ i p. (i ≡ c.args.id) × (j : ℕ) × IsPartNumber c.step.result.now j × HasPlace before j p) c.requires.column v))
    c.join_parts.ensures
