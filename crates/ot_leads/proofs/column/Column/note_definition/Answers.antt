use Rattle.std.proofs.Common.{◌≡◌, length}
use Rattle.std.proofs.lemmas.Result.{on_ok_weaker}
use Rattle.ot_logic.specs.Lists.{IsMember}
use Rattle.ot_trace.specs.Walk.{symbol_numbers}
use Rattle.ot_leads.specs.Columns.{Gains}
use Rattle.ot_leads.proofs.ColumnLemmas.{own-gains}
use Rattle.ot_leads.proofs.NotingLemmas.{definition-noted}
use Rattle.ot_leads.proofs.column.Column.note_definition.Goals as goal

pub returns : goal.returns
returns c =
    let ts = c.args.trace.now in
    let d = c.args.definition in
    let first : Gains (length ts) c.args.self.now c.note.new.self (λ i p. (i ≡ d) × (p ≡ c.args.place)) =
    own-gains (length ts) c.args.self.now c.note.new.self (λ i p. (i ≡ d) × (p ≡ c.args.place)) c.requires.column
    c.in_ok-note.ensures in
    on_ok_weaker c.note_symbols.result
    (λ v. definition-noted ts c.step.ensures.once d c.step.result.now c.requires.definition c.step.ensures.origin
    c.step.ensures.below c.step.ensures.symbols c.args.self.now c.note.new.self c.note_symbols.new.self c.args.place
    first
    (own-gains (length ts) c.note.new.self c.note_symbols.new.self
    (λ i p. IsMember i (symbol_numbers c.step.result.now) × (p ≡ c.args.place)) first.column v))
    c.note_symbols.ensures
