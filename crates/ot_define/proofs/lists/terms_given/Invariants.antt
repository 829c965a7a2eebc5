use Rattle.std.specs.List.{All}
use Rattle.std.specs.Option.{option_map}
use Rattle.std.proofs.Common.{◌≡◌, ◌<◌, ◌++◌, length, map, drop}
use Rattle.ot_logic.specs.Naming.{numbers}
use Rattle.ot_term.specs.TermTable.{variable_of}
use Rattle.ot_laws.specs.Conditions.{terms_given}
use Rattle.ot_define.specs.Answers.{tm_at}
use Rattle.ot_define.proofs.lists.terms_given.Given as goal

abbrev pub invariant-loop-v : goal.invariant-loop-v
invariant-loop-v l = record {
  given : terms_given numbers (map (tm_at l.terms.terms) l.hyps) (map (variable_of l.terms.types) l.vars)
      ≡ option_map (λ ts. map (tm_at l.terms.terms) l.given.items ++ ts)
      (terms_given numbers (map (tm_at l.terms.terms) l.hyps)
      (map (variable_of l.terms.types) (drop l.v-index l.vars)));
  inside : All (λ i. i < length l.terms.terms) l.given.items;
}
