use Rattle.std.proofs.Common.{◌≡◌, true, Ok, refl, sym, ap, subst, ◌∙◌}
use Rattle.ot_logic.specs.Hol.{bool_ty}
use Rattle.ot_logic.specs.Naming.{names}
use Rattle.ot_logic.specs.Rules.{has_type, assume_rule}
use Rattle.ot_laws.specs.Theorem.{IsTheorem}
use Rattle.ot_kernel.specs.State.{term_at}
use Rattle.ot_kernel.specs.Spelled.{sequent_of}
use Rattle.ot_kernel.proofs.Theorems.{concluded}
use Rattle.ot_kernel.proofs.Assume.{by_itself, assumed, assumed_follows, assumed_sequent}
use Rattle.ot_kernel.proofs.kernel.Kernel.assume.Goals as goal
use Rattle.ot_kernel.proofs.kernel.Kernel.assume.Goals.{After-one}

is_typed : (c : After-one) → has_type names (term_at c.args.self.now c.args.t) (bool_ty names) ≡ true
is_typed c = sym c.in_ok-is_proposition.ensures.ok ∙ c.if-not-branch.false

sequent : (c : After-one) → sequent_of c.is_proposition.new.self.terms
    (record { hyps = c.one.result; concl = c.args.t }) ≡ by_itself (term_at c.args.self.now c.args.t)
sequent c = assumed_sequent _ _ c.in_ok-is_proposition.ensures.keeps c.args.t c.requires
    (record { hyps = c.one.result; concl = c.args.t }) c.one.ensures.items refl

pub conclude-requires-clause-follows : goal.conclude-requires-clause-follows
conclude-requires-clause-follows c =
    let d = (goal.at.conclude-requires-clause-follows c).After-one in
    subst (IsTheorem names _ _) (sym (sequent d)) (assumed_follows _ _ _ (is_typed d))

done : (c : After-one) → assume_rule names (term_at c.args.self.now c.args.t)
    ≡ Ok (sequent_of c.is_proposition.new.self.terms (record { hyps = c.one.result; concl = c.args.t }))
done c = assumed _ (is_typed c) ∙ ap Ok (sym (sequent c))

pub returns-clause-concludes : goal.returns-clause-concludes
returns-clause-concludes c =
    let was = c.in_ok-is_proposition.ensures in
    (concluded _ _ _ _ _ _ was.keeps was.same (done (goal.at.returns-clause-concludes c).After-one)
    c.conclude.ensures.ok c.conclude.ensures.err).concludes

pub returns-clause-keeps : goal.returns-clause-keeps
returns-clause-keeps c =
    let was = c.in_ok-is_proposition.ensures in
    (concluded _ _ _ _ _ _ was.keeps was.same (done (goal.at.returns-clause-keeps c).After-one) c.conclude.ensures.ok
    c.conclude.ensures.err).keeps
