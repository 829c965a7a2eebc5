use Rattle.std.proofs.Common.{sym, ap, arith, length}
use Rattle.ot_parse.specs.Symbols.{symbol_of}
use Rattle.ot_parse.proofs.Lookups.{several-taken}
use Rattle.ot_parse.proofs.notation.Notation.takes.Goals as goal

pub returns-in_default-2 : goal.returns-in_default-2
returns-in_default-2 c = λ _.
    sym (several-taken (λ d. d.items) c.args.self.now c.sound.ensures (symbol_of (c.args.kind, c.args.name.now))
    c.args.name.now c.components.result.now c.components.ensures.value c.components.ensures.some
    (λ x e. let n = ap length e in omega (arith, n, c.in_default.len_at_least)))
