use Rattle.std.proofs.Common.{sym, subst}
use Rattle.std.specs.Str.{IsUtf8}
use Rattle.ot_blocks.proofs.FullNames.{utf8_name, utf8_full}
use Rattle.ot_blocks.proofs.paths.package_path.Goals as goal

pub text-name-requires : goal.text-name-requires
text-name-requires c = subst IsUtf8 (sym c.name_part.ensures) (utf8_name c.args.full.now c.requires)

pub text-full-requires : goal.text-full-requires
text-full-requires c = utf8_full c.args.full.now c.requires
