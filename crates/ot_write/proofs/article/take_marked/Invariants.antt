use Rattle.std.proofs.Common.{◌≡◌, ◌++◌, length, drop}
use Rattle.ot_write.specs.Emitting.{marked_of}
use Rattle.ot_write.proofs.article.take_marked.Given as goal

abbrev pub invariant-loop-definition : goal.invariant-loop-definition
invariant-loop-definition l = record {
  long : length l.marks.items ≡ l.count;
  so_far : l.needed.items ++ marked_of l.marks.items (drop l.definition-index l.definitions)
      ≡ marked_of l.fn.marks.items l.definitions;
}
