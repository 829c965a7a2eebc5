use Rattle.std.proofs.Common.{◌≡◌, ◌∙◌, ◌++◌, ℕ, List, ap, subst}
use Rattle.std.specs.Prelude.{IfSome}
use Rattle.ot_logic.specs.PlainTrees.{term_of_tree}
use Rattle.ot_io.specs.Causes.{CountRose}
use Rattle.ot_blocks.specs.Paths.{package_path}
use Rattle.ot_program.specs.World.{HasReadFolder}
use Rattle.ot_program.specs.Answer.{FileFailed}
use Rattle.ot_program.specs.Endings.{end_at, ran_from, HasTheoryEnd}
use Rattle.ot_program.specs.Command.{Finished}
use Rattle.ot_program.proofs.Worlds.{folder_map}
use Rattle.ot_program.proofs.FindingLemmas.{run_searched, run_stopped}
use Rattle.ot_program.proofs.finding.package_in.Goals as goal

pub returns-in-Ok-clause-searched : goal.returns-in-Ok-clause-searched
returns-in-Ok-clause-searched g c =
    let packages = c.args.packages.now in
    let full = c.args.full.now in
    let told = g.F.Source.folder c.args.files.now in
    let F : List ℕ → Type 0 = FileFailed (g.F.Source.at c.run_theory_file.new.files)
    (g.F.Source.faults c.args.files.now) (g.F.Source.faults c.run_theory_file.new.files) in
    let Q : Type 0 = CountRose (g.F.Source.misses c.args.files.now) (g.F.Source.misses c.run_theory_file.new.files) in
    let ran = ran_from c.run_theory_file.new.session c.in-Ok.exports.items in
    let same : c.deref.result.now ≡ package_path packages full =
    c.deref.ensures ∙ c.in_ok-path.ensures ∙ ap (package_path packages) c.as_bytes.ensures.value in
    let ended = subst (λ (z : List ℕ). HasReadFolder told (HasTheoryEnd packages z F Q (Finished ran))) same
    c.in-Ok.ensures.ran in
    folder_map told _ _
    (λ May h. run_searched packages full (term_of_tree c.args.pattern.now) c.args.search.now
    c.search_exports.new.search c.search_exports.result F Q May ran h.end
    (rw c.deref-in-Ok.ensures.value at c.search_exports.ensures.proved)
    (rw c.deref-in-Ok.ensures.value at c.search_exports.ensures.found) c.search_exports.ensures.ended) ended

pub returns-clause-searched : goal.returns-clause-searched
returns-clause-searched g c =
    let packages = c.args.packages.now in
    let full = c.args.full.now in
    let told = g.F.Source.folder c.args.files.now in
    let F : List ℕ → Type 0 = FileFailed (g.F.Source.at c.run_theory_file.new.files)
    (g.F.Source.faults c.args.files.now) (g.F.Source.faults c.run_theory_file.new.files) in
    let Q : Type 0 = CountRose (g.F.Source.misses c.args.files.now) (g.F.Source.misses c.run_theory_file.new.files) in
    let o = end_at c.run_theory_file.new.session.kernel c.in-Err.stop in
    let same : c.deref.result.now ≡ package_path packages full =
    c.deref.ensures ∙ c.in_ok-path.ensures ∙ ap (package_path packages) c.as_bytes.ensures.value in
    let ended = subst (λ (z : List ℕ). HasReadFolder told (λ May. IfSome o (λ e. HasTheoryEnd packages z F Q e May)))
    same c.in-Err.ensures.ran in
    rw c.ending_of.ensures (folder_map told _ _
    (λ May h. run_stopped packages full (term_of_tree c.args.pattern.now) c.args.search.now c.args.search.now F Q May o
    c.stopped.result h (rw c.kernel.ensures at c.stopped.ensures)) ended)
