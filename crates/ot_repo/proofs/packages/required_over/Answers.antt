use Rattle.std.proofs.Common.{◌≡◌, ◌∙◌, rules, ap, subst}
use Rattle.std.specs.Prelude.{string_bytes}
use Rattle.std.specs.List.{filter}
use Rattle.std.proofs.lemmas.Result.{err_from_is_err_and}
use Rattle.ot_io.proofs.Readings.{Files-map, Files-next}
use Rattle.ot_theory.specs.Answers.{tags_of}
use Rattle.ot_repo.specs.Required.{is_requirement, edges_of, required_over}
use Rattle.ot_repo.specs.Answers.{IsAsStated, names_of}
use Rattle.ot_repo.specs.Reading.{listed_in, edges_left, IsReachedFile, IsTagFile}
use Rattle.ot_repo.proofs.Reached.{fails_more, if_fails, inside_fails, list_file, index_is, reached_file, listed_walk}
use Rattle.ot_repo.proofs.packages.required_over.Goals as goal

pub returns-in_err-text-clause-required : goal.returns-in_err-text-clause-required
returns-in_err-text-clause-required g c =
    let max = c.args.setting.max_bytes in
    let packages = c.args.setting.packages.now in
    let tags = filter is_requirement (tags_of c.args.tags.now) in
    let p = err_from_is_err_and c.from_residual-in_err-text.result c.from_residual-in_err-text.ensures.1 in
    rw (p.1, p.2)
    (Files-map _ _ _ (λ folder refused. record {
      gives = search rules;
      fails = fails_more (λ failed. failed ≡ c.deref.result.now) (IsTagFile folder max packages tags)
          c.in_err-text.field-0.0
          (λ failed is. list_file folder max packages tags failed
          (is ∙ c.deref.ensures ∙ c.in_ok-index_path.ensures)) c.in_err-text.ensures.failure;
    })
    c.in_err-text.ensures.text)

pub returns-in_err-index-clause-required : goal.returns-in_err-index-clause-required
returns-in_err-index-clause-required g c =
    let tags = filter is_requirement (tags_of c.args.tags.now) in
    let p = err_from_is_err_and c.from_residual-in_err-index.result c.from_residual-in_err-index.ensures.1 in
    rw (p.1, p.2)
    (Files-map _ _ _ (λ folder read. record {
      gives = search rules;
      fails = inside_fails (IsTagFile folder c.args.setting.max_bytes c.args.setting.packages.now tags)
          c.in_err-index.field-0.0 c.in_err-index.ensures.inside;
    })
    c.in_ok-text.ensures.text)

pub returns-clause-required : goal.returns-clause-required
returns-clause-required g c =
    let tags = filter is_requirement (tags_of c.args.tags.now) in
    let max = c.args.setting.max_bytes in
    let packages = c.args.setting.packages.now in
    let listed = listed_in c.in_ok-index.index in
    let path = string_bytes c.in_ok-path.path in
    let start = edges_left (record { path = c.in_ok-path.path; left = c.in_ok-left.left }) in
    let lists = rw (c.deref-2.ensures, c.deref-3.ensures.value) at c.in_ok-index.ensures.names in
    let are = c.in_ok-left.ensures.edges path in
    Files-next c.in_ok-text.ensures.kept c.in_ok-text.ensures.text c.walk.ensures.order
    (λ folder text walks.
    let read = rw c.deref.ensures at text in
    let index = index_is folder max packages (string_bytes c.in_ok-index_path.index_path) c.in_ok-text.text.items
    listed c.in_ok-index_path.ensures read lists in
    record {
      gives = subst (IsAsStated names_of c.walk.result)
          (listed_walk folder max packages listed path tags start are index
          ∙ ap (λ z. required_over folder max packages z tags) c.in_ok-path.ensures.ok)
          walks.gives;
      fails = if_fails (IsReachedFile (edges_of folder max packages listed) start packages)
          (IsTagFile folder max packages tags) c.walk.result
          (reached_file folder max packages listed path tags start are index) walks.fails;
    })
