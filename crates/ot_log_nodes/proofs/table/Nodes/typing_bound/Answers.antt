use Rattle.std.proofs.Common.{◌∙◌, sym}
use Rattle.ot_log_nodes.specs.Lists.{types_of}
use Rattle.ot_log_nodes.proofs.TypingLemmas.{found-type, typing-bound, typing-nowhere}
use Rattle.ot_log_nodes.proofs.table.Nodes.typing_bound.Goals as goal

pub typed-requires : goal.typed-requires
typed-requires c = found-type c.args.self.now (types_of c.args.lists.now c.args.binders) c.args.place c.in-Some.ty
    c.requires.types (sym c.in-Some.is ∙ c.type_of.ensures)

pub returns-in-Some : goal.returns-in-Some
returns-in-Some c = typing-bound c.args.self.now (types_of c.args.lists.now c.args.binders) c.args.place c.in-Some.ty
    c.typed.result c.requires.types (sym c.in-Some.is ∙ c.type_of.ensures) c.typed.ensures

pub returns-in-None : goal.returns-in-None
returns-in-None c = typing-nowhere c.args.self.now (types_of c.args.lists.now c.args.binders) c.args.place
    (sym c.in-None.is ∙ c.type_of.ensures)
