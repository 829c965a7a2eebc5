use Rattle.std.proofs.Common.{ℕ, ◌<◌, ◌≤◌, length, arith}
use Rattle.ot_subst.specs.Clash.{StaysApart}
use Rattle.ot_subst.specs.Renamed.{pairs_of}
use Rattle.ot_subst.proofs.NewNames.{apart-new_name}
use Rattle.ot_subst.proofs.Taken.{if_ok}
use Rattle.ot_subst.proofs.fresh.new_name.Goals as goal

pub returns-clause-apart : goal.returns-clause-apart
returns-clause-apart g c =
    let new : (name : ℕ) → (length c.usual_name.new.names ≤ name) × (name < length c.add_new.new.self)
    → StaysApart (g.N.Nodes.table c.args.terms.now) c.args.work.now.subst.now (pairs_of c.args.work.now.renamed.now)
    c.args.v.now (record { name = name; ty = c.args.ty }) c.args.body
    = λ name h. apart-new_name c.requires.set_up c.args.v.now name c.args.ty c.args.body c.requires.body
    (omega (arith, h.0, c.in_ok-name.ensures.extends.longer)) in
    if_ok c.add_new.result _ _ new c.add_new.ensures.ok
