use Rattle.std.proofs.Common.{◌≡◌, ◌++◌, take, map}
use Rattle.ot_io.specs.FileList.{folder_of}
use Rattle.opentheory.proofs.tests.devices.files_of.Given as goal

abbrev pub invariant-each : goal.invariant-each
invariant-each l = folder_of l.files.items ≡ map (λ e. (e.0.now, e.1.now ++ e.2.now)) (take l.path-index l.entries)
