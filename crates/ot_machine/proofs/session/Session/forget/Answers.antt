use Rattle.std.proofs.lemmas.Int.{to_z-of_z}
use Rattle.std.proofs.Common.{length}
use Rattle.std.specs.Prelude.{None}
use Rattle.ot_machine.specs.Meaning.{lists_of, article_of, IsEntryIn}
use Rattle.ot_machine.proofs.Dictionary.{remove-dictionary, each-changed}
use Rattle.ot_machine.proofs.session.Session.forget.Goals as goal

pub returns-clause-changed : goal.returns-clause-changed
returns-clause-changed c =
    let same = remove-dictionary c.args.self.now (lists_of c.args.self.now c.args.machine.now) _ _ _ _
    (to_z-of_z _ _ c.ranges.key) c.swap_remove.ensures.updates.0 in
    λ i. record (article_of c.args.self.now c.args.machine.now) { dictionary = same i }

pub returns-clause-of : goal.returns-clause-of
returns-clause-of c = record {
  run = c.requires.run;
  stack = c.requires.stack;
  dictionary = each-changed (IsEntryIn c.args.self.now (length c.args.machine.now.cells.items)) _ _ _ None
      c.swap_remove.ensures.updates.0 c.requires.dictionary (λ x e. cc);
  exports = c.requires.exports;
  placed = c.requires.placed;
  cells = c.requires.cells;
}
