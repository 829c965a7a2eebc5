use Rattle.std.proofs.Common.{Err, sym, ap, ◌∙◌}
use Rattle.std.proofs.lemmas.Option.{same_Some}
use Rattle.ot_logic.specs.Faults.{Primitive}
use Rattle.ot_logic.specs.Hol.{primitives}
use Rattle.ot_logic.specs.Naming.{numbers}
use Rattle.ot_term.specs.Symbols.{symbol_of}
use Rattle.ot_laws.specs.Conditions.{is_among}
use Rattle.ot_define.proofs.Refusing.{first-some, first-none}
use Rattle.ot_define.proofs.signature.refuse_primitive.Goals as goal

pub returns-in-Some : goal.returns-in-Some
returns-in-Some c =
    λ f e. first-some numbers symbol_of Primitive (λ s. is_among numbers s (primitives numbers)) c.args.symbols.now
    c.in-Some.symbol (sym c.first_primitive.ensures ∙ c.in-Some.is)
    ∙ ap Err (same_Some (Primitive (symbol_of c.in-Some.symbol)) f e)

pub returns-in-None : goal.returns-in-None
returns-in-None c = first-none numbers symbol_of Primitive (λ s. is_among numbers s (primitives numbers))
    c.args.symbols.now (sym c.first_primitive.ensures ∙ c.in-None.is)
