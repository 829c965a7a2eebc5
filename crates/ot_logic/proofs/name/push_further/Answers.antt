use Rattle.std.proofs.Common.{◌∷◌, [], map, take}
use Rattle.std.specs.List.{flat_map}
use Rattle.std.proofs.lemmas.Result.{err_from_is_err_and}
use Rattle.ot_logic.specs.Names.{further_text}
use Rattle.ot_logic.proofs.Spelling.{KeepsFront-more}
use Rattle.ot_logic.proofs.name.push_further.Goals as goal

pub returns-in_err-push_component-clause-err : goal.returns-in_err-push_component-clause-err
returns-in_err-push_component-clause-err c =
    let p = err_from_is_err_and c.from_residual-in_err-push_component.result
    c.from_residual-in_err-push_component.ensures.1 in
    let kept = rw c.in_ok-push.ensures.items at c.in_err-push_component.ensures.err in
    let done =
    flat_map further_text (map (λ v. v.items) (take c.loop-component.component-index c.args.components.now)) in
    rw p.1 (KeepsFront-more c.args.out.now.items done c.loop-component.out.items (46 ∷ []) _
    c.loop-component.invariant kept)
