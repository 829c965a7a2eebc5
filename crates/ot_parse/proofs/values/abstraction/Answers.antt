use Rattle.std.proofs.Common.{◌∷◌, sym, subst}
use Rattle.ot_logic.specs.PlainTrees.{type_of_tree}
use Rattle.ot_parse.specs.Meant.{abstracted}
use Rattle.ot_parse.specs.Values.{IsMeant, meant_of, IsMade}
use Rattle.ot_parse.proofs.values.abstraction.Goals as goal

pub returns-in-Value : goal.returns-in-Value
returns-in-Value c = λ l x h.
    subst (λ b. IsMeant ((x, type_of_tree c.args.ty) ∷ l) b
    → IsMade l (abstracted (type_of_tree c.args.ty) (meant_of b)) c.abstracted.result) (sym c.in-Value.is)
    (c.abstracted.ensures l x) h
