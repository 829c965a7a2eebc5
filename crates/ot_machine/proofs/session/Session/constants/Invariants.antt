use Rattle.std.proofs.Common.{◌≡◌, ◌<◌, length, map}
use Rattle.std.specs.List.{All}
use Rattle.ot_kernel.specs.State.{name_at}
use Rattle.ot_machine.specs.Rows.{constants_of}
use Rattle.ot_machine.specs.Meaning.{list_at, lists_of, article_of, IsOf, IsListIn}
use Rattle.ot_machine.proofs.Constants.{constants_onto}
use Rattle.ot_machine.proofs.session.Session.constants.Given as goal

abbrev pub invariant-names : goal.invariant-names
invariant-names l = record {
  of : IsOf l.self l.machine;
  inside : IsListIn (length l.machine.cells.items) l.list;
  numbers : All (λ n. n < length l.self.kernel.names) l.rest;
  so_far : constants_onto (map (name_at l.self.kernel) l.rest) (list_at (lists_of l.self l.machine) l.list)
      ≡ constants_of (map (name_at l.self.kernel) l.names);
  kept : article_of l.self l.machine ≡ article_of l.self l.fn.machine;
  stack : l.machine.stack ≡ l.fn.machine.stack;
}

abbrev pub decreases-names : goal.decreases-names
decreases-names l = length l.rest
