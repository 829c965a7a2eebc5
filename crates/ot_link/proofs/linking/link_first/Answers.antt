use Rattle.std.specs.Prelude.{string_bytes}
use Rattle.std.proofs.Common.{◌≡◌, [], length, refl, sym, ap, subst}
use Rattle.ot_io.proofs.Readings.{Files-map}
use Rattle.ot_interp.specs.Interpretation.{map_interpretation}
use Rattle.ot_kernel.specs.State as kernel
use Rattle.ot_theory.specs.Answers.{theory_of}
use Rattle.ot_machine.specs.Meaning.{run_of}
use Rattle.ot_machine.specs.Lawful.{IsLawfulRun}
use Rattle.ot_machine.specs.Writable.{IsWritable}
use Rattle.ot_link.specs.Link.{opener, run_theory, link_theory}
use Rattle.ot_link.specs.Answers.{setting_of, ran_of, Comes}
use Rattle.ot_link.specs.Running.{chain_of}
use Rattle.ot_link.proofs.FileParts.{out-of-memory}
use Rattle.ot_link.proofs.Lawful.{empty-ready}
use Rattle.ot_link.proofs.linking.link_first.Goals as goal

pub run_theory-requires-clause-ready : goal.run_theory-requires-clause-ready
run_theory-requires-clause-ready g c =
    let s = c.args.session.now in
    empty-ready s _ c.requires.session c.requires.fresh c.fresh_law.ensures.written.0 c.new-interp.ensures.pairs
    (c.new-interp.ensures.within (length s.kernel.names)) refl c.none-candidates.ensures.theorems
    (c.none-candidates.ensures.found s.kernel)

pub returns-in_err-path-clause-lawful : goal.returns-in_err-path-clause-lawful
returns-in_err-path-clause-lawful g c =
    subst (IsLawfulRun IsWritable) (sym c.requires.fresh) c.fresh_law.ensures.written.0

pub returns-in_err-path-clause-comes : goal.returns-in_err-path-clause-comes
returns-in_err-path-clause-comes g c = out-of-memory c.args.session.now.kernel _ _ _ c.from_residual.ensures.1

pub returns-clause-comes : goal.returns-clause-comes
returns-clause-comes g c =
    let s = c.args.session.now in
    let new = c.run_theory.new.session in
    let limits = c.args.setting.limits.now in
    let path : string_bytes c.in_ok-path.path ≡ c.args.path.now = c.in_ok-path.ensures.ok in
    let chain : chain_of c.new.result.items ≡ [] = ap chain_of c.new.ensures.items in
    let interpretation = ap (map_interpretation (kernel.name_at s.kernel)) c.new-interp.ensures.pairs in
    Files-map _ _ _
    (λ folder ran.
    let e = setting_of folder c.args.setting in
    let same : run_theory e (opener limits.package_depth e (chain_of c.new.result.items) (string_bytes c.in_ok-path.path))
    (string_bytes c.in_ok-path.path)
    (record { interpretation = map_interpretation (kernel.name_at s.kernel) c.new-interp.result; theorems = [] })
    (run_of s) (theory_of c.args.theory.now)
    ≡ link_theory e c.args.path.now (theory_of c.args.theory.now) =
    λ i. run_theory e (opener limits.package_depth e (chain i) (path i)) (path i)
    (record { interpretation = interpretation i; theorems = [] }) (c.requires.fresh i) (theory_of c.args.theory.now) in
    subst (Comes new.kernel (ran_of new) c.run_theory.result) same ran)
    c.run_theory.ensures.comes
