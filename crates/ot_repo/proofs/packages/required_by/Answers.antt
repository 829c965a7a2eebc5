use Rattle.std.proofs.Common.{◌≡◌, ◌∙◌, rules, map, Ok, sym, ap, subst}
use Rattle.std.specs.Prelude.{string_bytes}
use Rattle.std.specs.List.{filter}
use Rattle.std.proofs.lemmas.Result.{err_from_is_err_and}
use Rattle.ot_io.proofs.Readings.{Files-map, Files-next}
use Rattle.ot_theory.specs.Answers.{tags_of}
use Rattle.ot_repo.specs.Required.{is_requirement}
use Rattle.ot_repo.specs.Laws.{IsWalked}
use Rattle.ot_repo.specs.Reading.{IsTagFile}
use Rattle.ot_repo.specs.Answers.{IsAsStated, names_of}
use Rattle.ot_repo.proofs.Tags.{with_tags, without_tags}
use Rattle.ot_repo.proofs.Reached.{fails_more, if_fails, inside_fails, own_file, walked_file}
use Rattle.ot_repo.proofs.packages.required_by.Goals as goal

pub returns-in_err-text-clause-required : goal.returns-in_err-text-clause-required
returns-in_err-text-clause-required g c =
    let max = c.args.setting.max_bytes in
    let packages = c.args.setting.packages.now in
    let path = c.args.path.now in
    let p = err_from_is_err_and c.from_residual.result c.from_residual.ensures.1 in
    rw (p.1, p.2)
    (Files-map _ _ _ (λ folder refused. record {
      gives = search rules;
      fails = fails_more (λ failed. failed ≡ path) (IsWalked folder max packages path) c.in_err-text.field-0.0
          (own_file folder max packages path) c.in_err-text.ensures.failure;
    })
    c.in_err-text.ensures.text)

pub returns-in_err-theory-clause-required : goal.returns-in_err-theory-clause-required
returns-in_err-theory-clause-required g c =
    let p = err_from_is_err_and c.from_residual-in_err-theory.result c.from_residual-in_err-theory.ensures.1 in
    rw (p.1, p.2)
    (Files-map _ _ _ (λ folder read. record {
      gives = search rules;
      fails = inside_fails (IsWalked folder c.args.setting.max_bytes c.args.setting.packages.now c.args.path.now)
          c.in_err-theory.field-0.0 c.in_err-theory.ensures.inside;
    })
    c.in_ok-text.ensures.text)

pub returns-then-has_requirement-clause-required : goal.returns-then-has_requirement-clause-required
returns-then-has_requirement-clause-required g c =
    let max = c.args.setting.max_bytes in
    let packages = c.args.setting.packages.now in
    let path = c.args.path.now in
    let text = c.in_ok-text.text.items in
    let theory = c.in_ok-theory.theory in
    let parsed = rw c.deref.ensures.value at c.in_ok-theory.ensures.theory in
    let some = sym (rw c.deref-2.ensures.value at c.if-has_requirement.ensures) in
    let over = rw c.deref-then-has_requirement.ensures.value at c.required_over.ensures.required in
    Files-next c.in_ok-text.ensures.kept c.in_ok-text.ensures.text over
    (λ folder read answer. record {
      gives = subst (IsAsStated names_of c.required_over.result)
          (with_tags folder max packages path text theory read parsed some) answer.gives;
      fails = if_fails (IsTagFile folder max packages (filter is_requirement (tags_of theory.tags.items)))
          (IsWalked folder max packages path) c.required_over.result
          (walked_file folder max packages path text theory read parsed some) answer.fails;
    })

pub returns-clause-required : goal.returns-clause-required
returns-clause-required g c =
    let parsed = rw c.deref.ensures.value at c.in_ok-theory.ensures.theory in
    let none = rw c.deref-2.ensures.value at c.if-has_requirement.ensures in
    Files-map _ _ _ (λ folder read. record {
      gives = without_tags folder c.args.setting.max_bytes c.args.setting.packages.now c.args.path.now
          c.in_ok-text.text.items c.in_ok-theory.theory read parsed (sym none)
          ∙ ap (λ names. Ok (map string_bytes names)) (sym c.new.ensures.items);
      fails = tt;
    })
    c.in_ok-text.ensures.text
