use Rattle.std.proofs.Common.{◌≡◌, ℕ, true, false, List, sym, subst}
use Rattle.std.specs.Prelude.{Some}
use Rattle.ot_logic.specs.Names.{Name}
use Rattle.ot_io.specs.Causes.{CountRose}
use Rattle.ot_args.specs.Grammar.{is_theory}
use Rattle.ot_program.specs.Tasks.{ShowReadable}
use Rattle.ot_program.specs.World.{is_standard}
use Rattle.ot_program.specs.Answer.{FileFailed}
use Rattle.ot_program.specs.Endings.{ran_from, noted_from, noted_end_of, end_at, HasTaskEnd}
use Rattle.ot_program.specs.Command.{Finished}
use Rattle.ot_program.specs.declared.task.View.TheVariants.{Counts}
use Rattle.ot_program.proofs.InputLemmas.{no_standard}
use Rattle.ot_program.proofs.NotedLemmas.{theory_noted_ran, article_noted, theory_leaves, theory_last}
use Rattle.ot_program.proofs.Worlds.{told_by, files_told, world_map}
use Rattle.ot_program.proofs.noted.run_noted.Goals as goal

-- ---- a theory file

pub returns-then-is_theory-clause-ran : goal.returns-then-is_theory-clause-ran
returns-then-is_theory-clause-ran g c =
    let path = c.args.path.now in
    let i = g.S.Source.faults c.args.input.now in
    let theory : is_theory path ≡ true = cc (c.is_theory.ensures, c.if-is_theory.true) in
    λ told may.
    let same = told_by (is_standard path) (g.F.Source.folder c.args.files.now) told (no_standard path theory) may in
    theory_noted_ran c.args.packages.now path theory told (g.S.Source.left c.args.input.now)
    c.run_shown.new.session c.run_shown.result (CountRose i i) (g.F.Source.at c.run_shown.new.files)
    (g.F.Source.misses c.args.files.now) (g.F.Source.misses c.run_shown.new.files)
    (g.F.Source.faults c.args.files.now) (g.F.Source.faults c.run_shown.new.files)
    (files_told _ _ _ same c.run_shown.ensures.comes) c.run_shown.ensures.cause

pub returns-then-is_theory-clause-other : goal.returns-then-is_theory-clause-other
returns-then-is_theory-clause-other g c =
    theory_leaves c.args.path.now c.args.files.now c.run_shown.new.files c.args.input.now
    (cc (c.is_theory.ensures, c.if-is_theory.true))

pub returns-then-is_theory-clause-at : goal.returns-then-is_theory-clause-at
returns-then-is_theory-clause-at g c =
    theory_last c.args.path.now (noted_end_of c.run_shown.new.session c.run_shown.result)
    (g.F.Source.folder c.args.files.now) (g.F.Source.at c.run_shown.new.files)
    (cc (c.is_theory.ensures, c.if-is_theory.true))

-- ---- or not

pub returns-in-Ok-clause-ran : goal.returns-in-Ok-clause-ran
returns-in-Ok-clause-ran g c =
    let path = c.args.path.now in
    let packages = c.args.packages.now in
    let s = c.run_input.new.session in
    let exports = c.in-Ok.exports in
    let I : Type 0 = CountRose (g.S.Source.faults c.args.input.now) (g.S.Source.faults c.run_input.new.input) in
    let F : List ℕ → Type 0 = FileFailed (g.F.Source.at c.run_input.new.files)
    (g.F.Source.faults c.args.files.now) (g.F.Source.faults c.run_input.new.files) in
    let M : Type 0 = CountRose (g.F.Source.misses c.args.files.now) (g.F.Source.misses c.run_input.new.files) in
    let article : is_theory path ≡ false = cc (c.is_theory.ensures, c.if-is_theory.false) in
    λ told may. world_map told (g.S.Source.left c.args.input.now) (g.S.Source.left c.run_input.new.input) _ _
    (λ May ended.
    subst (λ (ns : List Name).
    HasTaskEnd (ShowReadable packages path) I F M (Finished (noted_from ns s exports.items)) May)
    (sym c.new-names.ensures.items)
    (article_noted packages path Counts article I F M May (Some (Finished (ran_from s exports.items))) ended))
    (c.in-Ok.ensures.ran told may)

pub returns-in-Err-clause-ran : goal.returns-in-Err-clause-ran
returns-in-Err-clause-ran g c =
    let path = c.args.path.now in
    let s = c.run_input.new.session in
    let I : Type 0 = CountRose (g.S.Source.faults c.args.input.now) (g.S.Source.faults c.run_input.new.input) in
    let F : List ℕ → Type 0 = FileFailed (g.F.Source.at c.run_input.new.files)
    (g.F.Source.faults c.args.files.now) (g.F.Source.faults c.run_input.new.files) in
    let M : Type 0 = CountRose (g.F.Source.misses c.args.files.now) (g.F.Source.misses c.run_input.new.files) in
    let article : is_theory path ≡ false = cc (c.is_theory.ensures, c.if-is_theory.false) in
    λ told may. world_map told (g.S.Source.left c.args.input.now) (g.S.Source.left c.run_input.new.input) _ _
    (λ May ended. article_noted c.args.packages.now path Counts article I F M May (end_at s.kernel c.in-Err.stop) ended)
    (c.in-Err.ensures.ran told may)
