use Rattle.std.proofs.Common.{◌≡◌, ◌<◌, ℕ, length, map}
use Rattle.std.specs.List.{All}
use Rattle.ot_logic.specs.declared.command.Cmd.TheVariants as words
use Rattle.ot_kernel.specs.State.{name_at}
use Rattle.ot_trace.specs.Origins.{Named, Make, NoOrigins, make_one}
use Rattle.ot_machine.specs.RenamedLists.{list_onto}
use Rattle.ot_machine.specs.Meaning.{origin_of, Traces}
use Rattle.ot_machine.proofs.session.Session.symbol_list_step.Given as goal

abbrev pub invariant-symbols : goal.invariant-symbols
invariant-symbols l = record {
  kept : Traces l.fn.self l.self;
  inside : l.list < length l.self.trace;
  numbers : All (λ n. n < length l.fn.self.kernel.names) l.rest;
  so_far : (let at = λ (n : ℕ). make_one l.fn.word (Named (name_at l.fn.self.kernel n)) in
      list_onto (map at l.rest) (origin_of l.self l.list)
      ≡ list_onto (map at l.fn.names) (Make words.Nil NoOrigins));
}

abbrev pub decreases-symbols : goal.decreases-symbols
decreases-symbols l = length l.rest
