use Rattle.ot_print.proofs.DefinitionLaw.{definition-front, definition_text-inj}
use Rattle.ot_print.proofs.AcceptedPremises.{accepted-all}
use Rattle.ot_print.proofs.laws.one_text.Goals as goal

pub returns : goal.returns
returns c = record {
  sequents = c.one_text.ensures.sequents;
  sequents_in_front = c.one_text.ensures.sequents_in_front;
  definitions = definition_text-inj;
  definitions_in_front = definition-front;
  typed = accepted-all;
}
