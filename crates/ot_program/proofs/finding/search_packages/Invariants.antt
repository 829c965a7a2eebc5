use Rattle.std.proofs.Common.{◌≡◌, [], map, take}
use Rattle.std.specs.Prelude.{string_bytes}
use Rattle.ot_logic.specs.PlainTrees.{term_of_tree}
use Rattle.ot_program.specs.World.{EachTold, HasReadFolder}
use Rattle.ot_program.specs.Answer.{ClosesFiles}
use Rattle.ot_program.specs.Searches.{AreSearched}
use Rattle.ot_program.proofs.finding.search_packages.Given as goal

abbrev pub invariant-each : goal.invariant-each
invariant-each g l = record {
  searched : EachTold (map string_bytes l.fulls ≡ []) (g.F.Source.folder l.initial.files)
      (λ told. HasReadFolder told (AreSearched l.packages
      (map string_bytes (take l.full-index l.fulls)) (term_of_tree l.pattern) l.initial.search l.search));
  files : ClosesFiles g.F.Source.folder g.F.Source.faults g.F.Source.misses g.F.Source.left l.initial.files l.files;
  none : map string_bytes l.fulls ≡ [] → l.files ≡ l.initial.files;
}
