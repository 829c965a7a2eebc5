use Rattle.std.proofs.Common.{◌≡◌, drop}
use Rattle.ot_io.specs.Folder.{bytes_at}
use Rattle.ot_io.specs.FileList.{folder_of}
use Rattle.ot_io.proofs.mem_files.place_of.Given as goal

abbrev pub invariant-loop-place : goal.invariant-loop-place
invariant-loop-place l = bytes_at (folder_of (drop l.place l.files)) l.path ≡ bytes_at (folder_of l.files) l.path
