use Rattle.std.proofs.Common.{ap, sym, ◌∙◌, ℕ}
use Rattle.std.specs.Global.{Vec}
use Rattle.std.specs.List.{fold}
use Rattle.std.specs.Hash as fed
use Rattle.std.specs.Cmp.Derive.Mapped.{items_map}
use Rattle.ot_logic.proofs.name.NameHash.hash.Goals as goal

pub returns : goal.returns
returns g c =
    rw (← c.self.view_is) (c.hash.ensures ∙ ap (fold g.H.Hasher.write c.args.state.now)
    (sym (items_map {X = Vec ℕ} (λ v. v.items) (fed.slice fed.u8) c.self.inside.components.items)))
