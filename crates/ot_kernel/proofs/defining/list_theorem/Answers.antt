use Rattle.std.specs.Prelude.{Err}
use Rattle.std.proofs.Common.{◌≡◌, ap}
use Rattle.ot_subst.proofs.Growing.{IsLater-trans}
use Rattle.ot_kernel.specs.declared.fault.RuleFault.TheVariants.{Memory}
use Rattle.ot_kernel.specs.Refusals.{of_subst}
use Rattle.ot_kernel.proofs.Refusals.{handed_on}
use Rattle.ot_kernel.proofs.PutConstants.{later_names, only_memory, new_sequent}
use Rattle.ot_kernel.proofs.defining.list_theorem.Goals as goal
use Rattle.ot_logic.specs.RanOut.{ran_out}

pub returns-in_err-s-clause-later : goal.returns-in_err-s-clause-later
returns-in_err-s-clause-later c = later_names c.args.names.now c.args.cs.now c.args.terms.now c.constants.new.terms
    c.requires.cs c.requires.below c.constants.ensures.grown

pub apply-requires-clause-below : goal.apply-requires-clause-below
apply-requires-clause-below c =
    (later_names c.args.names.now c.args.cs.now c.args.terms.now c.constants.new.terms c.requires.cs c.requires.below
    c.constants.ensures.grown).names

pub returns-in_err-concl-clause-err : goal.returns-in_err-concl-clause-err
returns-in_err-concl-clause-err c =
    let why = only_memory c.args.terms.now c.constants.new.terms c.args.cs.now c.args.vars.now
    c.constants.ensures.grown c.in_ok-s.s c.in_ok-s.ensures.types c.in_ok-s.ensures.terms c.args.th.now.concl
    c.requires.inside.concl c.in_err-concl.field-0.0
    (λ e. c.in_err-concl.ensures.nesting (ap Err e)) (λ e. c.in_err-concl.ensures.redex (ap Err e)) in
    handed_on c.from_residual-in_err-concl.result (of_subst c.in_err-concl.field-0.0) (λ e. e ≡ Memory ran_out)
    c.from_residual-in_err-concl.ensures.1 why

pub returns-in_err-concl-clause-later : goal.returns-in_err-concl-clause-later
returns-in_err-concl-clause-later c =
    let first = later_names c.args.names.now c.args.cs.now c.args.terms.now c.constants.new.terms c.requires.cs
    c.requires.below c.constants.ensures.grown in
    IsLater-trans _ _ _ _ _ _ first c.in_err-concl.ensures.later

pub returns-clause-later : goal.returns-clause-later
returns-clause-later c =
    let first = later_names c.args.names.now c.args.cs.now c.args.terms.now c.constants.new.terms c.requires.cs
    c.requires.below c.constants.ensures.grown in
    IsLater-trans _ _ _ _ _ _ first c.in_ok-concl.ensures.later

pub returns-clause-ok : goal.returns-clause-ok
returns-clause-ok c =
    new_sequent c.args.terms.now c.constants.new.terms c.args.cs.now c.args.vars.now c.constants.ensures.grown
    c.in_ok-s.s c.in_ok-s.ensures.types c.in_ok-s.ensures.terms c.args.th.now.concl c.requires.inside.concl
    c.apply.new.terms (record { hyps = c.none.result; concl = c.in_ok-concl.concl }) c.none.ensures.items
    c.in_ok-concl.ensures.ok
