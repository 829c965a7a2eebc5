use Rattle.std.specs.Map.{lookup}
use Rattle.std.specs.Ordering.{int_eq}
use Rattle.std.proofs.lemmas.Int.{to_z-of_z}
use Rattle.std.proofs.Common.{sym, ap, subst, ◌∙◌, length}
use Rattle.std.proofs.lemmas.Option.{same_Some}
use Rattle.ot_machine.specs.Meaning.{lists_of, article_of, IsEntryIn}
use Rattle.ot_machine.proofs.Dictionary.{insert-dictionary, each-changed}
use Rattle.ot_machine.proofs.session.Session.store.Goals as goal

pub returns-in_err-insert-clause-of : goal.returns-in_err-insert-clause-of
returns-in_err-insert-clause-of c = record {
  run = c.requires.of.run;
  stack = c.requires.of.stack;
  dictionary = λ q o p. c.requires.of.dictionary q o (ap (lookup (int_eq q)) (sym c.in_err-insert.ensures.err) ∙ p);
  exports = c.requires.of.exports;
  placed = c.requires.of.placed;
  cells = c.requires.of.cells;
}

pub returns-clause-ok : goal.returns-clause-ok
returns-clause-ok c =
    let same = insert-dictionary c.args.self.now (lists_of c.args.self.now c.args.machine.now) _ _ _ _
    (record { object = c.args.object; step = c.args.step }) (to_z-of_z _ _ c.ranges.key)
    c.in_ok-insert.ensures.updates.0 in
    λ i. record (article_of c.args.self.now c.args.machine.now) { dictionary = same i }

pub returns-clause-of : goal.returns-clause-of
returns-clause-of c = record {
  run = c.requires.of.run;
  stack = c.requires.of.stack;
  dictionary = each-changed (IsEntryIn c.args.self.now (length c.args.machine.now.cells.items)) _ _ _ _
      c.in_ok-insert.ensures.updates.0 c.requires.of.dictionary
      (λ x e. subst (IsEntryIn c.args.self.now (length c.args.machine.now.cells.items))
      (same_Some (record { object = c.args.object; step = c.args.step }) x e)
      (record { object = c.requires.inside; step = c.requires.step }));
  exports = c.requires.of.exports;
  placed = c.requires.of.placed;
  cells = c.requires.of.cells;
}
