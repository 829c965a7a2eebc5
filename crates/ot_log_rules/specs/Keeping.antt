-- Sequents that are kept once.
use Rattle.std.specs.Prelude.{◌≡◌, ℕ, Bool, List, [], map, fold}
use Rattle.std.specs.BTreeSet.{insert_key}
use Rattle.std.specs.Ordering.{nat_cmp}
use Rattle.ot_log_rules.specs.declared.kept.Key.{Key}
use Rattle.ot_log_rules.specs.declared.kept.Kept.{Kept}
use Rattle.ot_log_rules.specs.contracts.kept.KeyPartialEq.TheImpl as derived
use Rattle.ot_log_rules.specs.declared.statement.Statement.{Statement}

-- the numbers of a list in ascending order, each once
abbrev pub ordered : List ℕ → List ℕ
ordered is = fold (insert_key nat_cmp) [] is

-- hypotheses as a set, and the conclusion
abbrev pub parts_of : Key → List ℕ × ℕ
parts_of k = (k.hyps.items, k.concl)

abbrev pub parts_at : Statement → List ℕ × ℕ
parts_at q = (ordered q.hyps.items, q.concl)

-- the test of keys
abbrev pub key_eq : Key → Key → Bool
key_eq = derived.ghosts.eq

-- there is one key for each sequent
pub record AreKeyed (k : Kept) : Type 0 where
  pub keys : map parts_of k.keys.keys ≡ map parts_at k.statements.items
