use Rattle.std.proofs.Common.{◌≡◌, ◌<◌, ℕ, length, sym, subst, arith}
use Rattle.std.proofs.lemmas.List.{take_all}
use Rattle.ot_logic.specs.Lists.{IsMember}
use Rattle.ot_leads.specs.Columns.{Gains, HasPlace}
use Rattle.ot_leads.proofs.ColumnLemmas.{own-column, own-gains}
use Rattle.ot_leads.proofs.NotingLemmas.{gains-begin, join-more, join-all}
use Rattle.ot_leads.proofs.column.Column.join_all.Goals as goal

pub loop-part-init : goal.loop-part-init
loop-part-init c =
    gains-begin (length c.args.self.now.of.items) c.args.parts.now c.args.self.now
    (λ j i p. (i ≡ c.args.id) × HasPlace c.args.self.now j p) c.requires.column

pub join-requires-clause-column : goal.join-requires-clause-column
join-requires-clause-column c =
    own-column (length c.args.self.now.of.items) c.loop-part.self c.loop-part.invariant.column

pub join-requires-clause-id : goal.join-requires-clause-id
join-requires-clause-id c =
    let inside = c.requires.id in let count = c.loop-part.invariant.column.count in omega (arith, inside, count)

pub join-requires-clause-part : goal.join-requires-clause-part
join-requires-clause-part c =
    let inside = c.requires.id in
    let count = c.loop-part.invariant.column.count in
    let low : c.part-item.result < c.args.id =
    subst (λ y. y < c.args.id) (sym c.part-item.is)
    (c.requires.parts c.loop-part.part-index c.part-item.result c.loop-part-test.true) in
    omega (arith, low, inside, count)

pub loop-part-preserved : goal.loop-part-preserved
loop-part-preserved c =
    let n = length c.args.self.now.of.items in
    join-more n c.args.id c.args.parts.now c.loop-part.part-index c.part-item.result c.args.self.now c.loop-part.self
    c.join.new.self c.requires.id c.loop-part-test.true c.part-item.is
    (subst (λ y. y < c.args.id) (sym c.part-item.is)
    (c.requires.parts c.loop-part.part-index c.part-item.result c.loop-part-test.true)) c.loop-part.invariant
    (own-gains n c.loop-part.self c.join.new.self
    (λ i p. (i ≡ c.args.id) × HasPlace c.loop-part.self c.part-item.result p) c.loop-part.invariant.column
    c.in_ok-join.ensures)

pub returns : goal.returns
returns c =
    let n = length c.args.self.now.of.items in
    join-all n c.args.id c.args.parts.now c.args.self.now c.loop-part.self
    (subst (λ ids. Gains n c.args.self.now c.loop-part.self
    (λ i p. (j : ℕ) × IsMember j ids × ((i ≡ c.args.id) × HasPlace c.args.self.now j p)))
    (take_all c.loop-part.part-index c.args.parts.now c.loop-part-test.false) c.loop-part.invariant)
