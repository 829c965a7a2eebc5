use Rattle.std.proofs.Common.{◌∙◌}
use Rattle.ot_blocks.proofs.FullNames.{folder_is, folder_boundary}
use Rattle.ot_blocks.proofs.paths.folder_of.Goals as goal

pub range-requires-clause-end_boundary : goal.range-requires-clause-end_boundary
range-requires-clause-end_boundary c =
    let len = rw c.as_bytes.ensures.value at c.len_to_last-len.ensures in
    folder_boundary c.args.path.now c.len_to_last-len.result c.utf8.path len.within len.last

pub returns : goal.returns
returns c =
    let len = rw c.as_bytes.ensures.value at c.len_to_last-len.ensures in
    c.range.ensures.value ∙ folder_is c.args.path.now c.len_to_last-len.result len.len
