use Rattle.ot_blocks.proofs.FullNames.{utf8_full}
use Rattle.ot_repo.proofs.names.name_text.Goals as goal

pub text-requires : goal.text-requires
text-requires c = utf8_full c.args.full.now c.requires
