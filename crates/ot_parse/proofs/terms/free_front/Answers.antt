use Rattle.std.proofs.Common.{◌∙◌, sym, ap, Ok}
use Rattle.ot_forms.specs.Reading.{Got, mapped}
use Rattle.ot_parse.specs.Meant.{raw}
use Rattle.ot_parse.proofs.terms.free_front.Goals as goal

pub returns : goal.returns
returns c = λ k l. (
  c.in_ok-value.ensures.kept l,
  ap (mapped (raw c.args.notation.now l k)) c.in_ok-name.ensures
      ∙ ap (λ t. Got (Ok t) c.in_ok-name.rest.now) (sym c.in_ok-value.ensures.term),
)
