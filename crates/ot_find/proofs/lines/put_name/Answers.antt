use Rattle.ot_text.proofs.Putting.{same-text}
use Rattle.ot_logic.proofs.NameLemmas.{has-components}
use Rattle.ot_find.proofs.Indented.{name-spelled}
use Rattle.ot_find.proofs.lines.put_name.Goals as goal

pub returns : goal.returns
returns c =
    same-text (name-spelled c.args.name.now (has-components (λ v. v.items) c.args.name.now
    c.components-components.result.now c.components-components.ensures.value c.components-components.ensures.some))
    c.put_name.ensures
