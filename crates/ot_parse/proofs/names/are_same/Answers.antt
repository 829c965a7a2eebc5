use Rattle.std.proofs.Common.{◌∙◌, sym}
use Rattle.std.specs.Prelude.{nat_eq}
use Rattle.std.specs.Cmp.Lexicographic.{pointwise}
use Rattle.std.specs.Cmp.Derive.Mapped.{pointwise-map}
use Rattle.ot_parse.proofs.names.are_same.Goals as goal

pub returns : goal.returns
returns c = c.eq.ensures ∙ sym (pointwise-map (λ d. d.items) (pointwise nat_eq) c.args.left.now c.args.right.now)
