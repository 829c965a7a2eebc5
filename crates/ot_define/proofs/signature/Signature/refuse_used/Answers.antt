use Rattle.std.proofs.Common.{◌||◌, Err, map, sym, ap, ◌∙◌}
use Rattle.std.proofs.lemmas.Option.{same_Some}
use Rattle.ot_logic.specs.Faults.{SymbolInUse}
use Rattle.ot_logic.specs.Naming.{numbers}
use Rattle.ot_term.specs.Symbols.{symbol_of}
use Rattle.ot_laws.specs.Conditions.{is_among}
use Rattle.ot_define.proofs.Refusing.{first-some, first-none}
use Rattle.ot_define.proofs.signature.Signature.refuse_used.Goals as goal

pub returns-in-Some : goal.returns-in-Some
returns-in-Some c =
    λ f e. first-some numbers symbol_of SymbolInUse
    (λ s. is_among numbers s (map symbol_of c.args.premise.now.keys) || is_among numbers s c.args.self.now.used)
    c.args.symbols.now c.in-Some.symbol (sym c.first_used.ensures ∙ c.in-Some.is)
    ∙ ap Err (same_Some (SymbolInUse (symbol_of c.in-Some.symbol)) f e)

pub returns-in-None : goal.returns-in-None
returns-in-None c =
    first-none numbers symbol_of SymbolInUse (λ s. is_among numbers s (map symbol_of c.args.premise.now.keys)
    || is_among numbers s c.args.self.now.used) c.args.symbols.now (sym c.first_used.ensures ∙ c.in-None.is)
