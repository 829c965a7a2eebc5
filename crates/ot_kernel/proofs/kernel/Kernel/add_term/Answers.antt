use Rattle.std.proofs.Common.{◌≡◌, true, sym, ap, ◌∙◌, subst}
use Rattle.ot_logic.specs.Naming.{names}
use Rattle.ot_logic.specs.Rules.{has_type}
use Rattle.ot_kernel.specs.State.{type_at, term_at}
use Rattle.ot_kernel.specs.Pairs.{term_pairs, IsSubstIn}
use Rattle.ot_kernel.proofs.Adding.{negated, term_added, term_fits}
use Rattle.ot_kernel.proofs.Later.{unchanged, has_type-number}
use Rattle.ot_kernel.proofs.kernel.Kernel.add_term.Goals as goal
use Rattle.ot_kernel.proofs.kernel.Kernel.add_term.Goals.{In_ok-add}

pub returns-then-ne-clause-typed : goal.returns-then-ne-clause-typed
returns-then-ne-clause-typed c = negated _ _ (sym c.ne.ensures ∙ c.if-ne.true)
    ∙ has_type-number (unchanged _ _ _ _ c.self.view_is c.self.invariant) _ _ _ c.requires.t c.requires.ty
    c.type_of.ensures.below c.type_of.ensures.typed

typed : (c : In_ok-add) → true ≡ has_type names (term_at c.args.self.now c.args.t)
    (type_at c.args.self.now c.args.v.ty)
typed c = negated _ _ (sym c.ne.ensures ∙ c.if-ne.false)
    ∙ has_type-number (unchanged _ _ _ _ c.self.view_is c.self.invariant) _ _ _ c.requires.t c.requires.ty
    c.type_of.ensures.below c.type_of.ensures.typed

pub returns-clause-typed : goal.returns-clause-typed
returns-clause-typed c = typed (goal.at.returns-clause-typed c).In_ok-add

pub returns-clause-pairs : goal.returns-clause-pairs
returns-clause-pairs c = ap (term_pairs c.args.self.now) c.in_ok-add.ensures.ok
    ∙ term_added (unchanged _ _ _ _ c.self.view_is c.self.invariant) c.args.s.now c.args.v c.args.t c.requires.fits
    c.requires.name c.requires.ty

pub returns-clause-fits : goal.returns-clause-fits
returns-clause-fits c =
    subst (IsSubstIn c.args.self.now) (sym c.in_ok-add.ensures.ok)
    (term_fits c.args.self.now c.args.s.now c.args.v c.args.t c.requires.name c.requires.ty c.requires.t
    (typed (goal.at.returns-clause-fits c).In_ok-add) c.requires.fits)
