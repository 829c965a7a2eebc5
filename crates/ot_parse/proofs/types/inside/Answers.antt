use Rattle.std.proofs.Common.{◌∙◌, sym}
use Rattle.ot_forms.specs.Reading.{type_at}
use Rattle.ot_parse.proofs.FrameLaws.{opens-domain}
use Rattle.ot_parse.proofs.TypeFronts.{nothing-inside, word-inside}
use Rattle.ot_parse.proofs.types.inside.Goals as goal

pub returns-in-None-clause-read : goal.returns-in-None-clause-read
returns-in-None-clause-read c = λ m. nothing-inside c.args.notation.now m c.args.text.now c.in-None.ensures.cases

pub returns-then-opens_domain-clause-read : goal.returns-then-opens_domain-clause-read
returns-then-opens_domain-clause-read c =
    λ m. rw c.in-Some.ensures.cases.0
    (opens-domain c.args.notation.now (type_at c.args.notation.now m) c.in-Some.byte.now _
    (sym c.opens_domain.ensures ∙ c.if-opens_domain.true))

pub returns-else-opens_domain-clause-read : goal.returns-else-opens_domain-clause-read
returns-else-opens_domain-clause-read c = λ m.
    let e = c.in-Some.ensures.cases.0 in
    rw e (word-inside c.args.notation.now m c.in-Some.byte.now _ c.inside_word.result
    (sym c.opens_domain.ensures ∙ c.if-opens_domain.false) (rw e at (c.inside_word.ensures.read m)))
