use Rattle.std.specs.List.{list_all}
use Rattle.std.proofs.Common.{◌≡◌, true, take}
use Rattle.ot_logic.specs.Naming.{numbers}
use Rattle.ot_laws.specs.Conditions.{keeps_type_vars}
use Rattle.ot_define.specs.Answers.{tm_at}
use Rattle.ot_define.proofs.lists.check_all_type_vars.Given as goal

abbrev pub invariant-loop-t : goal.invariant-loop-t
invariant-loop-t l = list_all (λ t. keeps_type_vars numbers (tm_at l.terms.terms t)) (take l.t-index l.ts) ≡ true
