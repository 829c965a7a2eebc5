use Rattle.std.proofs.Common.{◌+◌, ◌∙◌, sym, ap, subst, take}
use Rattle.ot_repo.specs.Reading.{listed_in, AreListed}
use Rattle.ot_repo.proofs.Tags.{TagsSoFar, tag_taken, tag_passed, listed_reversed}
use Rattle.ot_repo.proofs.requirements.requirements_of.Goals as goal
use Rattle.ot_repo.proofs.requirements.requirements_of.Goals.{then-is_requirement+in_ok-push, else-is_requirement}

pub each-preserved : goal.each-preserved
each-preserved c =
    let listed = listed_in c.args.index.now in
    let ts = c.args.tags.now in
    let k = c.each.tag-index in
    elim c.if-is_requirement.branch [
      | then-is_requirement+in_ok-push w ↦
          subst (TagsSoFar listed (take (k + 1) ts)) (sym (ap (λ v. v.items) w.found-is ∙ w.in_ok-push.ensures.items))
          (tag_taken listed ts k c.each.found.items c.each-test.true c.each.invariant w.pick.result
          (sym w.if-is_requirement.ensures) w.pick.ensures)
      | else-is_requirement w ↦
          subst (TagsSoFar listed (take (k + 1) ts)) (sym (ap (λ v. v.items) w.found-is))
          (tag_passed listed ts k c.each.found.items c.each-test.true c.each.invariant
          (sym w.if-is_requirement.ensures))
    ]

pub returns-clause-listed : goal.returns-clause-listed
returns-clause-listed c =
    subst (AreListed (listed_in c.args.index.now)) (sym c.reverse.ensures.items)
    (listed_reversed (listed_in c.args.index.now) c.each.found.items c.each.invariant.picked)
