use Rattle.ot_view.proofs.Spelled.{typed_as, type_outside}
use Rattle.ot_view.proofs.type_of.Goals as goal

pub returns-clause-typed : goal.returns-clause-typed
returns-clause-typed c = typed_as c.args.kernel.now c.terms.result.now c.terms.ensures c.sound.ensures.names c.args.id
    c.type_of.result c.requires c.type_of.ensures.below c.type_of.ensures.typed

pub returns-clause-below : goal.returns-clause-below
returns-clause-below c = type_outside c.args.kernel.now c.terms.result.now c.terms.ensures c.sound.ensures.names
    c.type_of.result c.type_of.ensures.below
