use Rattle.std.proofs.Common.{◌≡◌, [], drop, map}
use Rattle.std.specs.List.{All}
use Rattle.ot_kernel.specs.Alike.{AreFirstPlaces}
use Rattle.ot_machine.specs.Meaning.{export_of, exported_by, IsExportIn}
use Rattle.ot_link.specs.Blocks.{each_once}
use Rattle.ot_link.proofs.exports.each_once.Given as goal

abbrev pub invariant-each : goal.invariant-each
invariant-each l = record {
  once : each_once (map (export_of l.session) l.once.items)
      (map (export_of l.session) (drop l.export-index l.exports))
      ≡ each_once [] (map (export_of l.session) l.exports);
  inside : All (IsExportIn l.session) l.once.items;
  placed : AreFirstPlaces l.session.kernel (exported_by l.session.kernel l.once.items) l.places;
}
