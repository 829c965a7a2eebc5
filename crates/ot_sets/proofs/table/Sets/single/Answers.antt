use Rattle.std.proofs.Common.{◌≡◌}
use Rattle.ot_logic.proofs.TableLemmas.{Extends-trans}
use Rattle.ot_sets.proofs.UnionLemmas.{set-later, set-beside}
use Rattle.ot_sets.proofs.table.Sets.single.Goals as goal

pub returns-in_err-set-clause-extends : goal.returns-in_err-set-clause-extends
returns-in_err-set-clause-extends c = Extends-trans c.empty.ensures.extends c.one.ensures.extends

pub loop-bit-init : goal.loop-bit-init
loop-bit-init c = record {
  extends = Extends-trans c.empty.ensures.extends c.one.ensures.extends;
  set = c.in_ok-set.ensures.ok;
  empty = set-later c.empty.new.self c.one.new.self c.one.ensures.extends c.in_ok-empty.empty (λ k. ⊥)
      c.in_ok-empty.ensures.ok;
}

pub beside-requires-clause-set : goal.beside-requires-clause-set
beside-requires-clause-set c = c.loop-bit.invariant.set.within

pub beside-requires-clause-other : goal.beside-requires-clause-other
beside-requires-clause-other c = c.loop-bit.invariant.empty.within

pub loop-bit-preserved : goal.loop-bit-preserved
loop-bit-preserved c =
    let more = c.in_ok-set-2.ensures.extends in
    record {
      extends = Extends-trans c.loop-bit.invariant.extends more;
      set = set-beside c.loop-bit.self c.beside.new.self more c.loop-bit.set c.in_ok-empty.empty c.in_ok-set-2.set
          (λ k. k ≡ c.args.number) c.loop-bit.invariant.set c.loop-bit.invariant.empty c.in_ok-set-2.ensures.ok;
      empty = set-later c.loop-bit.self c.beside.new.self more c.in_ok-empty.empty (λ k. ⊥)
          c.loop-bit.invariant.empty;
    }
