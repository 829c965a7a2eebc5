use Rattle.std.proofs.Common.{◌∙◌, ℕ, List, ap, map}
use Rattle.std.specs.Prelude.{string_bytes}
use Rattle.std.proofs.lemmas.Result.{err_from_is_err_and}
use Rattle.ot_logic.specs.PlainTrees.{term_of_tree}
use Rattle.ot_io.specs.Causes.{CountRose}
use Rattle.ot_program.specs.Answer.{FileFailed}
use Rattle.ot_program.specs.Endings.{noted_of}
use Rattle.ot_program.proofs.Worlds.{folder_map, folder_none}
use Rattle.ot_program.proofs.FindingLemmas.{pattern_behind, runs_behind, exports_behind, searched_behind}
use Rattle.ot_program.proofs.finding.search_run.Goals as goal

pub returns-in_err-term-clause-searched : goal.returns-in_err-term-clause-searched
returns-in_err-term-clause-searched g c =
    let p = err_from_is_err_and c.from_residual.result c.from_residual.ensures.1 in
    λ told may. rw (p.1, p.2) (folder_none told _
    (λ May. pattern_behind c.args.query.packages.now c.args.query.pattern.now c.args.query.path.now
    (noted_of c.args.session.now c.args.run.now) (map string_bytes c.args.fulls.now) _ _ May c.in_err-term.field-0.0
    c.in_err-term.ensures.ended))

pub returns-in_err-search_packages-clause-searched : goal.returns-in_err-search_packages-clause-searched
returns-in_err-search_packages-clause-searched g c =
    let p = err_from_is_err_and c.from_residual-in_err-search_packages.result
    c.from_residual-in_err-search_packages.ensures.1 in
    λ told may. rw (p.1, p.2) (folder_map told _ _
    (λ May ended. runs_behind c.args.query.packages.now c.args.query.pattern.now c.args.query.path.now
    (noted_of c.args.session.now c.args.run.now) (map string_bytes c.args.fulls.now) _ _ May
    (term_of_tree c.in_ok-term.term) c.in_ok-term.ensures.is_pattern c.new-search.result c.search_packages.new.search
    c.in_err-search_packages.field-0.0 ended)
    (c.in_err-search_packages.ensures.searched told may))

pub returns-in_err-search_exports-clause-searched : goal.returns-in_err-search_exports-clause-searched
returns-in_err-search_exports-clause-searched g c =
    let p = err_from_is_err_and c.from_residual-in_err-search_exports.result
    c.from_residual-in_err-search_exports.ensures.1 in
    λ told may. rw (p.1, p.2) (folder_none told _
    (λ May. exports_behind c.args.query.packages.now c.args.query.pattern.now c.args.query.path.now
    (noted_of c.args.session.now c.args.run.now) (map string_bytes c.args.fulls.now) _ _ May
    c.in_err-search_exports.field-0.0 c.in_err-search_exports.ensures.ended))

pub returns-clause-searched : goal.returns-clause-searched
returns-clause-searched g c =
    λ told may. folder_map told _ _
    (λ May ended. searched_behind c.args.query.packages.now c.args.query.pattern.now c.args.query.path.now
    (noted_of c.args.session.now c.args.run.now) (map string_bytes c.args.fulls.now) _ _ May
    c.find_law.ensures.those c.find_law.ensures.one_more (term_of_tree c.in_ok-term.term)
    c.in_ok-term.ensures.is_pattern c.new-search.result c.search_packages.new.search
    c.search_exports.new.search (rw c.deref.ensures.value at c.search_exports.ensures.proved)
    (record {
      has = c.new-search.ensures.found;
      max_is = c.new-search.ensures.max ∙ ap (λ l. l.summary_bytes) c.standard.ensures;
    }) ended.searched (rw c.deref.ensures.value at c.in_ok-search_exports.ensures.found))
    (c.in_ok-search_packages.ensures.searched told may)
