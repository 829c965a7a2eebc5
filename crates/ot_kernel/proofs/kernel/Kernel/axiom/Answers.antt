use Rattle.std.proofs.Common.{◌≡◌, true, arith, inl, inr, ◌∙◌}
use Rattle.std.specs.List.{list_all}
use Rattle.ot_logic.specs.Hol.{bool_ty}
use Rattle.ot_logic.specs.Naming.{names}
use Rattle.ot_logic.specs.Rules.{has_type}
use Rattle.ot_kernel.specs.State.{term_at, terms_at}
use Rattle.ot_kernel.proofs.Later.{unchanged}
use Rattle.ot_kernel.proofs.Supposed.{tests_conclusion, tests_hypotheses, refused_axiom}
use Rattle.ot_kernel.proofs.Supposed.{kept_axiom, axiom-sequent, axiom-proposed, assumes}
use Rattle.ot_kernel.proofs.kernel.Kernel.axiom.Goals as goal
use Rattle.ot_kernel.proofs.kernel.Kernel.axiom.Goals.{In_ok-hyps, then-not-has_type-via-then-not-has_type}
use Rattle.ot_kernel.proofs.kernel.Kernel.axiom.Goals.{then-not-has_type-via-else-not-has_type+then-not-have_type}

pub returns-then-not-has_type-clause-assumes : goal.returns-then-not-has_type-clause-assumes
returns-then-not-has_type-clause-assumes c =
    let was = c.in_ok-boolean.ensures in
    let s = c.boolean.new.self in
    let b = c.in_ok-boolean.boolean in
    refused_axiom c.args.self.now s was.keeps was.same c.args.hyps.now c.args.concl c.requires.hyps c.requires.concl
    (elim c.then-not-has_type.branch [
      | then-not-has_type-via-then-not-has_type w ↦
          inl (tests_conclusion s b was.ok c.args.concl _ _ c.has_type.ensures w.if-not-has_type.true)
      | then-not-has_type-via-else-not-has_type+then-not-have_type w ↦
          inr (
            tests_conclusion s b was.ok c.args.concl _ _ c.has_type.ensures w.if-not-has_type.false,
            tests_hypotheses s b was.ok c.args.hyps.now _ _ w.have_type.ensures w.if-not-have_type.true,
          )
    ])

conclusion : (c : In_ok-hyps) → has_type names (term_at c.boolean.new.self c.args.concl) (bool_ty names) ≡ true
conclusion c = tests_conclusion c.boolean.new.self c.in_ok-boolean.boolean c.in_ok-boolean.ensures.ok c.args.concl _ _
    c.has_type.ensures c.if-not-has_type.false

hypotheses : (c : In_ok-hyps)
    → list_all (λ h. has_type names h (bool_ty names)) (terms_at c.boolean.new.self c.args.hyps.now) ≡ true
hypotheses c = tests_hypotheses c.boolean.new.self c.in_ok-boolean.boolean c.in_ok-boolean.ensures.ok c.args.hyps.now
    _ _ c.have_type.ensures c.if-not-have_type.false

pub supposed-requires : goal.supposed-requires
supposed-requires c =
    let d = (goal.at.supposed-requires c).In_ok-hyps in
    let more = c.in_ok-boolean.ensures.keeps.terms.longer in
    axiom-proposed (unchanged _ _ _ _ c.self.view_is c.self.invariant) c.args.hyps.now
    (record { hyps = c.in_ok-hyps.hyps; concl = c.args.concl })
    (λ i x h. let w = c.requires.hyps i x h in omega (arith, w, more)) (omega (arith, more, c.requires.concl))
    c.in_ok-hyps.ensures.inside c.in_ok-hyps.ensures.once (conclusion d) (hypotheses d)

pub returns-clause-assumes : goal.returns-clause-assumes
returns-clause-assumes c =
    let d = (goal.at.returns-clause-assumes c).In_ok-hyps in
    let was = c.in_ok-boolean.ensures in
    let more = was.keeps.terms.longer in
    let kept = kept_axiom c.args.self.now c.boolean.new.self was.keeps c.args.hyps.now c.args.concl c.requires.hyps
    c.requires.concl in
    let stated = axiom-sequent (unchanged _ _ _ _ c.self.view_is c.self.invariant) c.args.hyps.now
    (record { hyps = c.in_ok-hyps.hyps; concl = c.args.concl })
    (λ i x h. let w = c.requires.hyps i x h in omega (arith, w, more)) (omega (arith, more, c.requires.concl))
    c.in_ok-hyps.ensures.inside c.in_ok-hyps.ensures.once (conclusion d) (hypotheses d) in
    assumes c.supposed.result _ c.args.self.now c.boolean.new.self c.supposed.new.self _ was.same (kept ∙ stated)
    c.supposed.ensures.ok c.supposed.ensures.err
