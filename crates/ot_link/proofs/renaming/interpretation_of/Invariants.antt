use Rattle.std.proofs.Common.{◌≡◌, take, length}
use Rattle.ot_interp.specs.Interpretation.{map_interpretation, IsWithin}
use Rattle.ot_kernel.specs.State.{name_at}
use Rattle.ot_theory.specs.Answers.{tags_of}
use Rattle.ot_machine.specs.Meaning.{run_of, IsRun, Grows}
use Rattle.ot_link.specs.Renaming.{interpretation_of}
use Rattle.ot_link.proofs.renaming.interpretation_of.Given as goal

abbrev pub invariant-each : goal.invariant-each
invariant-each l = record {
  names : map_interpretation (name_at l.session.kernel) l.interp
      ≡ interpretation_of (tags_of (take l.statement-index l.statements));
  within : IsWithin (length l.session.kernel.names) l.interp;
  grown : Grows l.fn.session l.session;
  session : IsRun l.session;
  run : run_of l.session ≡ run_of l.fn.session;
}
