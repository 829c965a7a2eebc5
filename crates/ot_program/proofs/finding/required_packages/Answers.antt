use Rattle.std.proofs.Common.{◌≡◌, ◌∙◌, ap, sym, inl, inr, true, false, rules}
use Rattle.ot_args.specs.Grammar.{is_theory}
use Rattle.ot_program.specs.World.{is_standard}
use Rattle.ot_program.proofs.InputLemmas.{limits_are, no_standard}
use Rattle.ot_program.proofs.Worlds.{told_by}
use Rattle.ot_program.proofs.FindingLemmas.{walk_found, walk_refused_in, article_walk, theory_ending}
use Rattle.ot_program.proofs.finding.required_packages.Goals as goal

-- ---- an article requires none

pub returns-then-not-is_theory-clause-required : goal.returns-then-not-is_theory-clause-required
returns-then-not-is_theory-clause-required g c =
    let article : is_theory c.args.path.now ≡ false = sym c.is_theory.ensures ∙ c.if-not-is_theory.true in
    λ told may. article_walk c.args.packages.now c.args.path.now told c.new.result _ _ article (search rules)

-- ---- a theory file those of the walk

pub returns-in-Ok-clause-required : goal.returns-in-Ok-clause-required
returns-in-Ok-clause-required g c =
    let theory : is_theory c.args.path.now ≡ true = sym c.is_theory.ensures ∙ c.if-not-is_theory.false in
    let limit = ap (λ l. l.theory_bytes) (limits_are c.standard-limits.result c.standard-limits.ensures) in
    λ told may.
    let same = told_by (is_standard c.args.path.now) (g.F.Source.folder c.args.files.now) told
    (no_standard c.args.path.now theory) may in
    walk_found c.args.packages.now c.args.path.now told c.in-Ok.fulls _ _ theory
    (rw (limit, sym same) at c.in-Ok.ensures.reads)

pub returns-in-Err-clause-required : goal.returns-in-Err-clause-required
returns-in-Err-clause-required g c =
    let theory : is_theory c.args.path.now ≡ true = sym c.is_theory.ensures ∙ c.if-not-is_theory.false in
    let limit = ap (λ l. l.theory_bytes) (limits_are c.standard-limits.result c.standard-limits.ensures) in
    λ told may.
    let same = told_by (is_standard c.args.path.now) (g.F.Source.folder c.args.files.now) told
    (no_standard c.args.path.now theory) may in
    rw c.ending_of.ensures (walk_refused_in c.args.packages.now c.args.path.now told
    (g.F.Source.at c.required.new.files) (g.F.Source.misses c.args.files.now) (g.F.Source.misses c.required.new.files)
    (g.F.Source.faults c.args.files.now) (g.F.Source.faults c.required.new.files) theory c.in-Err.fault
    c.walk_verdict.result (rw (limit, sym same) at c.in-Err.ensures.reads) c.in-Err.ensures.cause c.walk_verdict.ensures)

pub returns-in-Err-clause-theory : goal.returns-in-Err-clause-theory
returns-in-Err-clause-theory g c =
    let theory : is_theory c.args.path.now ≡ true = sym c.is_theory.ensures ∙ c.if-not-is_theory.false in
    rw c.ending_of.ensures (theory_ending (is_theory c.args.path.now ≡ true) c.walk_verdict.result theory)
