use Rattle.std.proofs.Common.{◌∙◌, refl}
use Rattle.ot_log_rules.proofs.Cases.{joined, eq_mp-refused, eq_mp-other, eq_mp-made}
use Rattle.ot_log_rules.proofs.rules.eq_mp.Goals as goal

pub returns-in_default : goal.returns-in_default
returns-in_default c =
    record {
      gives = eq_mp-refused c.args.nodes.now c.primitives.ensures.once c.args.a.now c.args.b.now c.requires.a
          c.requires.b c.in_default.ensures;
    }

pub returns-then-ne : goal.returns-then-ne
returns-then-ne c =
    record {
      gives = eq_mp-other c.args.nodes.now c.primitives.ensures.once c.args.a.now c.args.b.now c.requires.a
          c.requires.b c.in-Some.equation c.ne.result c.in-Some.ensures c.ne.ensures c.if-ne.true;
    }

pub returns : goal.returns
returns c = record {
  gives = eq_mp-made c.args.nodes.now c.primitives.ensures.once c.args.a.now c.args.b.now c.requires.a c.requires.b
      c.in-Some.equation c.ne.result (record { hyps = c.in_ok-hyps.hyps; concl = c.in-Some.equation.right })
      c.in-Some.ensures c.ne.ensures c.if-ne.false
      (c.in_ok-hyps.ensures ∙ (λ i. joined (c.deref.ensures.value i) (c.deref-2.ensures.value i))) refl;
}
