use Rattle.std.proofs.Common.{◌+◌, ◌*◌, ℕ}
use Rattle.std.specs.Prelude.{string_bytes}
use Rattle.std.specs.List.{All}
use Rattle.ot_io.specs.Keeping.{KeepsFiles}
use Rattle.ot_io.specs.Readings.{HasReadFiles}
use Rattle.ot_theory.specs.Answers.{blocks_of}
use Rattle.ot_blocks.specs.Answers.{plan_of}
use Rattle.ot_machine.specs.Meaning.{run_of, IsRun, IsExportIn, Grows}
use Rattle.ot_machine.specs.Contexts.{context_of}
use Rattle.ot_link.specs.Answers.{setting_of}
use Rattle.ot_link.specs.Holding.{held_at, done_of}
use Rattle.ot_link.specs.Running.{opener_of}
use Rattle.ot_link.specs.Lawful.{AreLawfulOnce, StaysLawful}
use Rattle.ot_link.proofs.Sequence.{IsLeft}
use Rattle.ot_link.proofs.blocks.+linking.Given as goal

abbrev pub invariant-run_blocks-each : goal.invariant-run_blocks-each
invariant-run_blocks-each g l = record {
  grown : Grows l.fn.session l.session;
  session : IsRun l.session;
  inside : (b : ℕ) → All (IsExportIn l.session) (held_at l.done b);
  lawful : StaysLawful l.fn.session l.session;
  exports : (b : ℕ) → AreLawfulOnce l.session (held_at l.done b);
  kept : KeepsFiles g.F.Source.folder g.F.Source.faults g.F.Source.misses l.fn.files l.files;
  left : HasReadFiles (g.F.Source.folder l.fn.files) (λ folder.
      IsLeft (setting_of folder l.setting) (opener_of (setting_of folder l.setting) l.file) (string_bytes l.file.path)
      (context_of l.fn.session l.file.outer.now)
      (record { blocks = blocks_of l.blocks; plan = plan_of l.plan }) (run_of l.fn.session) l.place-index
      (done_of l.session l.done) (run_of l.session));
}

-- a package that is opened leaves one package less to be opened
abbrev pub decreases-link_file : goal.decreases-link_file
decreases-link_file g l = 7 * l.file.now.left + 6

abbrev pub decreases-run_theory : goal.decreases-run_theory
decreases-run_theory g l = 7 * l.file.now.left + 5

abbrev pub decreases-run_blocks : goal.decreases-run_blocks
decreases-run_blocks g l = 7 * l.file.now.left + 4

abbrev pub decreases-run_next : goal.decreases-run_next
decreases-run_next g l = 7 * l.file.now.left + 3

abbrev pub decreases-run_block : goal.decreases-run_block
decreases-run_block g l = 7 * l.file.now.left + 2

abbrev pub decreases-run_source : goal.decreases-run_source
decreases-run_source g l = 7 * l.file.now.left + 1

abbrev pub decreases-open_package : goal.decreases-open_package
decreases-open_package g l = 7 * l.file.now.left
