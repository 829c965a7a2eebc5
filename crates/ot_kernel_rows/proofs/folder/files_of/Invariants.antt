use Rattle.std.proofs.Common.{◌≡◌, ◌++◌, take, map}
use Rattle.ot_io.specs.FileList.{folder_of}
use Rattle.ot_kernel_rows.proofs.folder.files_of.Given as goal

abbrev pub invariant-each : goal.invariant-each
invariant-each l = folder_of l.files.items ≡ map (λ e. (e.0.now, e.1.now ++ e.2.now)) (take l.entry-index l.entries)
