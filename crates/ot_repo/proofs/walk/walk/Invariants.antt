use Rattle.std.proofs.Common.{reverse, length}
use Rattle.ot_io.specs.Keeping.{KeepsFiles}
use Rattle.ot_io.specs.Readings.{HasReadFiles}
use Rattle.ot_repo.specs.Required.{edges_of}
use Rattle.ot_repo.specs.Answers.{ArePackages, names_of}
use Rattle.ot_repo.specs.Reading.{listed_in, edges_left, mark_in}
use Rattle.ot_repo.proofs.SoFar.{SoFar, work}
use Rattle.ot_repo.proofs.Reached.{WalksOn}
use Rattle.ot_repo.proofs.walk.walk.Given as goal

abbrev pub invariant-walk : goal.invariant-walk
invariant-walk g l = record {
  so_far : SoFar (listed_in l.index) (mark_in l.marks) (reverse l.below.items) l.file (names_of l.done);
  walks : HasReadFiles (g.F.Source.folder l.fn.files) (λ folder. WalksOn
      (edges_of folder l.setting.max_bytes l.setting.packages.now (listed_in l.index))
      (length (listed_in l.index)) (edges_left l.fn.first) (reverse l.below.items) l.file (names_of l.done));
  full : ArePackages (names_of l.done);
  kept : KeepsFiles g.F.Source.folder g.F.Source.faults g.F.Source.misses l.fn.files l.files;
}

abbrev pub decreases-walk : goal.decreases-walk
decreases-walk g l = work (listed_in l.index) (mark_in l.marks) (reverse l.below.items) l.file
