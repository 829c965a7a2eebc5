use Rattle.std.proofs.Common.{◌≡◌, ℕ, sym, subst, ◌∙◌}
use Rattle.ot_logic.specs.Naming.{numbers}
use Rattle.ot_interp.specs.Interpretation.{Interpretation, after, IsWithin}
use Rattle.ot_interp.proofs.Renaming.{after-within}
use Rattle.ot_interp.proofs.interp.Interp.after.Goals as goal

pub returns-clause-within : goal.returns-clause-within
returns-clause-within c = λ size h k.
    let made : ◌≡◌ {A = Interpretation ℕ}
    (record { constants = c.in_ok-constants.constants.entries; type_ops = c.in_ok-type_ops.type_ops.entries })
    (after numbers c.args.self.now c.args.outer.now) =
    (λ j. record { constants = c.in_ok-constants.ensures j; type_ops = c.in_ok-type_ops.ensures j })
    ∙ (λ j. after numbers (c.self.view_is j) (c.outer.view_is j)) in
    subst (IsWithin size) (sym made) (after-within size c.args.self.now c.args.outer.now h k)
