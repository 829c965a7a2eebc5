use Rattle.std.proofs.Common.{◌≡◌, List, ℕ}
use Rattle.ot_kernel.specs.State.{name_at, type_at}
use Rattle.ot_kernel.specs.Pairs.{with_type, type_pairs}
use Rattle.ot_kernel.proofs.Adding.{type_added, on_ok}
use Rattle.ot_kernel.proofs.Later.{unchanged}
use Rattle.ot_kernel.proofs.kernel.Kernel.add_type.Goals as goal

pub returns-clause-ok : goal.returns-clause-ok
returns-clause-ok c =
    let s = c.args.self.now in
    on_ok c.add.result _ _ (λ (ps : List (ℕ × ℕ)). type_pairs s ps ≡ with_type (type_pairs s c.args.s.now)
    (name_at s c.args.name) (type_at s c.args.ty)) c.add.ensures.ok
    (type_added (unchanged _ _ _ _ c.self.view_is c.self.invariant) c.args.s.now c.args.name c.args.ty c.requires.fits
    c.requires.name)
