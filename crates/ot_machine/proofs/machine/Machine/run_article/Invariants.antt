use Rattle.std.proofs.Common.{◌-◌}
use Rattle.ot_io.specs.Keeping.{KeepsSource}
use Rattle.ot_machine.specs.Meaning.{machine_state, IsOf, Grows}
use Rattle.ot_machine.specs.Contexts.{context_of}
use Rattle.ot_machine.proofs.Followed.{Follows}
use Rattle.ot_machine.proofs.machine.Machine.run_article.Given as goal

abbrev pub invariant-lines : goal.invariant-lines
invariant-lines g l = record {
  so_far : Follows (context_of l.fn.session l.context) l.max_bytes (machine_state l.fn.session l.fn.self)
      (machine_state l.session l.self) l.lines (g.S.Source.left l.fn.source) (g.S.Source.left l.source);
  of : IsOf l.session l.self;
  grown : Grows l.fn.session l.session;
  kept : KeepsSource g.S.Source.folder g.S.Source.faults g.S.Source.misses g.S.Source.at l.fn.source l.source;
}

abbrev pub decreases-lines : goal.decreases-lines
decreases-lines g l = l.lines.max - l.lines.number
