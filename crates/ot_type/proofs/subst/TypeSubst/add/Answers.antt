use Rattle.std.proofs.Common.{◌<◌, sym}
use Rattle.std.proofs.lemmas.List.Elements.{All-push}
use Rattle.ot_type.proofs.InstLemmas.{appended}
use Rattle.ot_type.proofs.subst.TypeSubst.add.Goals as goal

pub returns-in_ok-insert-clause-ok : goal.returns-in_ok-insert-clause-ok
returns-in_ok-insert-clause-ok c =
    let after = appended c.self.inside.pairs c.args.self.now c.self.view_is c.args.name c.args.ty
    (sym c.if-not-contains_key.ensures) c.insert.new.self.entries c.in_ok-insert.ensures.entries in
    rw (after.0, after.1)

pub returns-in_ok-insert-clause-within : goal.returns-in_ok-insert-clause-within
returns-in_ok-insert-clause-within c = λ n low all.
    let after = appended c.self.inside.pairs c.args.self.now c.self.view_is c.args.name c.args.ty
    (sym c.if-not-contains_key.ensures) c.insert.new.self.entries c.in_ok-insert.ensures.entries in
    rw after.0 (All-push (λ p. p.1 < n) c.args.self.now (c.args.name, c.args.ty) all low)
