use Rattle.std.proofs.Common.{subst, length}
use Rattle.ot_machine.specs.Values.{value}
use Rattle.ot_log_words.specs.Recording.{HasResult}
use Rattle.ot_log_words.proofs.Defining.{on-ok}
use Rattle.ot_log.specs.Ready.{HasOperands}
use Rattle.ot_log.specs.Working.{MakesTheorem}
use Rattle.ot_log.proofs.Accepted.{few-operands}
use Rattle.ot_log.proofs.Closed.{made-origin, made-inside, closed, put-writer}
use Rattle.ot_log.proofs.Numbered.{have-places}
use Rattle.ot_log.proofs.Worked.{not-made}
use Rattle.ot_log.proofs.writer.Writer.close.Goals as goal

pub put-requires-clause-some : goal.put-requires-clause-some
put-requires-clause-some c =
    let s = c.args.session.now in
    let e = made-origin s c.args.id c.trace.result.now c.step.result.now c.in-Make.word c.in-Make.operands
    c.as_slice.result.now
    c.trace.ensures c.step.ensures.origin c.in-Make.is c.as_slice.ensures in
    (few-operands s c.in-Make.word c.as_slice.result.now (subst MakesTheorem e c.requires.makes)
    (subst (λ o. HasResult (value o)) e c.requires.value)).0

pub put-requires-clause-few : goal.put-requires-clause-few
put-requires-clause-few c =
    let s = c.args.session.now in
    let e = made-origin s c.args.id c.trace.result.now c.step.result.now c.in-Make.word c.in-Make.operands
    c.as_slice.result.now
    c.trace.ensures c.step.ensures.origin c.in-Make.is c.as_slice.ensures in
    (few-operands s c.in-Make.word c.as_slice.result.now (subst MakesTheorem e c.requires.makes)
    (subst (λ o. HasResult (value o)) e c.requires.value)).1

pub unreachable-requires-in_default : goal.unreachable-requires-in_default
unreachable-requires-in_default c =
    not-made c.args.session.now c.args.id c.trace.result.now c.step.result.now c.trace.ensures c.step.ensures.origin
    c.in_default.not-Make c.requires.makes

pub put-requires-clause-makes : goal.put-requires-clause-makes
put-requires-clause-makes c =
    subst MakesTheorem
    (made-origin c.args.session.now c.args.id c.trace.result.now c.step.result.now c.in-Make.word
    c.in-Make.operands c.as_slice.result.now c.trace.ensures c.step.ensures.origin c.in-Make.is c.as_slice.ensures)
    c.requires.makes

pub put-requires-clause-value : goal.put-requires-clause-value
put-requires-clause-value c =
    subst (λ o. HasResult (value o))
    (made-origin c.args.session.now c.args.id c.trace.result.now c.step.result.now c.in-Make.word
    c.in-Make.operands c.as_slice.result.now c.trace.ensures c.step.ensures.origin c.in-Make.is c.as_slice.ensures)
    c.requires.value

pub returns-clause-writer : goal.returns-clause-writer
returns-clause-writer c =
    let e = made-origin c.args.session.now c.args.id c.trace.result.now c.step.result.now c.in-Make.word
    c.in-Make.operands
    c.as_slice.result.now c.trace.ensures c.step.ensures.origin c.in-Make.is c.as_slice.ensures in
    on-ok c.mark.result
    (λ k. put-writer c.args.session.now c.requires.session c.args.self.now c.put.new.self c.mark.new.self
    c.in-Make.word c.as_slice.result.now c.in-Ok.made c.in-Ok.ensures.puts c.args.id c.requires.inside e k)
    c.mark.ensures

pub returns-clause-moves : goal.returns-clause-moves
returns-clause-moves c =
    let e = made-origin c.args.session.now c.args.id c.trace.result.now c.step.result.now c.in-Make.word
    c.in-Make.operands
    c.as_slice.result.now c.trace.ensures c.step.ensures.origin c.in-Make.is c.as_slice.ensures in
    on-ok c.mark.result
    (λ k. closed c.args.session.now c.requires.session c.args.self.now c.put.new.self c.mark.new.self
    c.in-Make.word c.as_slice.result.now c.in-Ok.made c.in-Ok.ensures.puts
    (made-inside (length c.args.session.now.trace) c.args.id c.step.result.now c.in-Make.word c.in-Make.operands
    c.as_slice.result.now c.step.ensures.below c.in-Make.is c.as_slice.ensures c.requires.inside) c.args.id
    c.requires.inside
    e k) c.mark.ensures

pub put-requires-clause-there : goal.put-requires-clause-there
put-requires-clause-there c =
    let s = c.args.session.now in
    let ids = c.as_slice.result.now in
    let e = made-origin s c.args.id c.trace.result.now c.step.result.now c.in-Make.word c.in-Make.operands ids
    c.trace.ensures c.step.ensures.origin c.in-Make.is c.as_slice.ensures in
    let k = c.requires.ready in
    have-places s k.0 c.args.self.now k.1 k.2 ids
    (made-inside (length s.trace) c.args.id c.step.result.now c.in-Make.word c.in-Make.operands
    ids c.step.ensures.below c.in-Make.is c.as_slice.ensures c.requires.inside) (subst (HasOperands k.1) e k.3)
