use Rattle.std.proofs.Common.{List, map, subst, ap, ◌∙◌}
use Rattle.ot_logic.specs.Hol.{symbols_of}
use Rattle.ot_logic.specs.Naming.{numbers}
use Rattle.ot_term.specs.Symbols.{symbol_of}
use Rattle.ot_laws.specs.Conditions.{checked_symbols}
use Rattle.ot_define.specs.Answers.{Checks, sequent_at}
use Rattle.ot_define.proofs.Keys.{constants-symbols}
use Rattle.ot_define.proofs.signature.Signature.check_constants.Goals as goal

pub returns : goal.returns
returns c =
    let symbols = ap (map symbol_of) (c.as_slice.ensures.value ∙ c.in_ok-symbols.ensures)
    ∙ constants-symbols c.args.names.now in
    subst (λ (ss : List _). Checks c.check_symbols.result
    (checked_symbols numbers c.args.self.now.defined c.args.self.now.used
    (symbols_of numbers (sequent_at c.args.terms.now.terms c.args.hyps.now c.args.concl)) ss)) symbols
    c.check_symbols.ensures
