use Rattle.std.proofs.Common.{slice_index, subst}
use Rattle.std.proofs.lemmas.List.{take_all, get_or_default}
use Rattle.ot_leads.specs.Closing.{ArePut}
use Rattle.ot_leads.proofs.Inserting.{put-none, put-more}
use Rattle.ot_leads.proofs.closing.put_all.Goals as goal

pub loop-number-init : goal.loop-number-init
loop-number-init c = put-none c.args.numbers.now c.args.set.now.keys

pub loop-number-preserved : goal.loop-number-preserved
loop-number-preserved c =
    let k = c.loop-number.number-index in
    let x = slice_index c.args.numbers.now k in
    put-more c.args.numbers.now k x c.args.set.now.keys c.loop-number.set.keys c.insert.new.self.keys
    c.loop-number-test.true (get_or_default c.args.numbers.now k 0 x c.loop-number-test.true) c.loop-number.invariant
    c.in_ok-insert.ensures.keys

pub returns : goal.returns
returns c =
    subst (λ xs. ArePut c.args.set.now.keys xs c.loop-number.set.keys)
    (take_all c.loop-number.number-index c.args.numbers.now c.loop-number-test.false) c.loop-number.invariant
