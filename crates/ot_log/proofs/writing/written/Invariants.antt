use Rattle.std.proofs.Common.{map, take}
use Rattle.ot_machine.specs.Meaning.{origin_of}
use Rattle.ot_log_law.specs.Writing.{log, nothing_written, write_definitions}
use Rattle.ot_log.specs.Keeping.{Holds, IsWriter}
use Rattle.ot_log.proofs.writing.written.Given as goal

abbrev pub invariant-loop-definition : goal.invariant-loop-definition
invariant-loop-definition l = record {
  writer : IsWriter l.session l.writer;
  holds : Holds l.session l.max l.writer
      (write_definitions (map (origin_of l.session) (take l.definition-index l.definitions))
      nothing_written);
}

abbrev pub invariant-loop-export : goal.invariant-loop-export
invariant-loop-export l = record {
  writer : IsWriter l.session l.writer;
  holds : Holds l.session l.max l.writer (log (map (origin_of l.session) l.definitions)
      (map (λ e. origin_of l.session e.theorem) (take l.export-index l.exports)));
}
