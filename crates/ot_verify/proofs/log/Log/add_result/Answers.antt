use Rattle.ot_verify.proofs.Keeping.{result-kept, result-added}
use Rattle.ot_verify.proofs.Logging.{at-same}
use Rattle.ot_verify.proofs.log.Log.add_result.Goals as goal

pub invariant_of-self-2 : goal.invariant_of-self-2
invariant_of-self-2 c =
    let at = at-same _ _ _ _ c.deref.ensures.value c.in_ok-q.ensures in
    result-kept c.self.inside c.self.invariant c.args.self.now c.self.view_is c.args.sequent
    c.in_ok-q.q.now at c.keep.new.self c.in_ok-keep.ensures.ok c.keep.ensures.kept c.keep.ensures.all

pub returns : goal.returns
returns c = λ s h.
    let at = at-same _ _ _ _ c.deref.ensures.value c.in_ok-q.ensures in
    result-added c.self.inside c.self.invariant c.args.self.now c.self.view_is
    c.args.sequent c.in_ok-q.q.now at c.keep.new.self c.in_ok-keep.ensures.ok s h
