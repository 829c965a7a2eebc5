use Rattle.std.proofs.Common.{nat_eq, sym, ◌∙◌, ℕ}
use Rattle.std.specs.Global.{Vec}
use Rattle.std.specs.Cmp.Lexicographic.{pointwise}
use Rattle.std.specs.Cmp.Derive.Mapped.{pointwise-map}
use Rattle.ot_logic.proofs.name.NamePartialEq.eq.Goals as goal

pub returns : goal.returns
returns c =
    rw (← c.self.view_is, ← c.other.view_is)
    (c.eq.ensures
    ∙ sym (pointwise-map {X = Vec ℕ} (λ v. v.items) (pointwise nat_eq) c.self.inside.components.items
    c.other.inside.components.items))
