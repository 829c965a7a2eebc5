use Rattle.std.proofs.Common.{◌<◌, sym, ap, subst, ◌∙◌}
use Rattle.ot_logic.specs.Naming.{numbers}
use Rattle.ot_interp.specs.Interpretation.{renamed}
use Rattle.ot_interp.proofs.Renaming.{renamed-within}
use Rattle.ot_interp.proofs.interp.Interp.constant.Goals as goal

pub returns-clause-within : goal.returns-clause-within
returns-clause-within c = λ size below h.
    subst (λ n. n < size) (sym (c.renamed.ensures ∙ ap (λ i. renamed numbers i.constants c.args.name) c.self.view_is))
    (renamed-within size c.args.self.now.constants c.args.name h.constants below)
