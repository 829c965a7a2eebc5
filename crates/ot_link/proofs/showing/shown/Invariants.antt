use Rattle.std.proofs.Common.{◌≡◌, take}
use Rattle.ot_theory.specs.Answers.{tags_of}
use Rattle.ot_link.specs.Shown.{shown_by_all}
use Rattle.ot_link.proofs.showing.shown.Given as goal

abbrev pub invariant-loop-tag : goal.invariant-loop-tag
invariant-loop-tag l = l.names.items ≡ shown_by_all (tags_of (take l.tag-index l.tags))
