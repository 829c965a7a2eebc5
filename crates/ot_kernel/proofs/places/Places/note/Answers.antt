use Rattle.std.proofs.Common.{sym, subst, ◌∙◌}
use Rattle.ot_kernel.specs.Places.{IsPlaced}
use Rattle.ot_kernel.proofs.Placing.{placed-known, placed-new}
use Rattle.ot_kernel.proofs.places.Places.note.Goals as goal

pub returns-then-contains_key-clause-ok : goal.returns-then-contains_key-clause-ok
returns-then-contains_key-clause-ok c =
    let old = c.self.inside.firsts.entries in
    subst (λ ps. IsPlaced c.args.key c.args.place ps ps) c.self.view_is
    (placed-known c.args.key c.args.place old (sym c.contains_key.ensures ∙ c.if-contains_key.true))

pub returns-clause-ok : goal.returns-clause-ok
returns-clause-ok c =
    let old = c.self.inside.firsts.entries in
    let new = c.insert.new.self.entries in
    let updates = c.in_ok-insert.ensures.updates in
    subst (λ ps. IsPlaced c.args.key c.args.place ps new) c.self.view_is
    (placed-new c.args.key c.args.place old new (sym c.contains_key.ensures ∙ c.if-contains_key.false)
    (λ k. updates.0 k) updates.1)
