use Rattle.ot_logic.proofs.Reading.{name_read-spells, spells-name_read}
use Rattle.ot_logic.proofs.name.one_name.Goals as goal

pub returns : goal.returns
returns c text name = (spells-name_read text name, name_read-spells text name)
