-- Substitutions by number.
use Rattle.std.specs.Prelude.{◌≡◌, ℕ, not, is_some, Bool, filter, List, [], ◌∷◌, ◌++◌, map, if◌then◌else◌}
use Rattle.std.specs.Map.{lookup}
use Rattle.ot_logic.specs.Naming.{names}
use Rattle.ot_logic.specs.Hol.{subst_tm, once_each}
use Rattle.ot_log_nodes.specs.Items.{Item, term_at}
use Rattle.ot_log_nodes.specs.Changing.{Changing, changed, type_map, term_map}
use Rattle.ot_log_nodes.specs.declared.node.VariableNode.{VariableNode}
use Rattle.ot_log_rules.specs.Statements.{terms_at, HasStatement}
use Rattle.ot_log_rules.specs.declared.statement.Statement.{Statement}

-- of several pairs for one key the first
abbrev pub firsts : {K V : Type 0} → (K → K → Bool) → List (K × V) → List (K × V)
firsts same [] = []
firsts same (p ∷ ps) = p ∷ filter (λ q. not (same p.0 q.0)) (firsts same ps)

-- the pairs, and one more at the end unless there is one for its key
abbrev pub with_new : {K V : Type 0} → (K → K → Bool) → List (K × V) → K × V → List (K × V)
with_new same es p = if is_some (lookup (same p.0) es) then es else es ++ p ∷ []

-- the statement is the other one with each term changed
pub record IsChanged (ts us : List Item) (change : Changing) (a q : Statement) : Type 0 where
  pub has : HasStatement us q
  pub hyps : terms_at us q.hyps.items ≡ once_each names (map (changed change 0) (terms_at ts a.hyps.items))
  pub concl : term_at us q.concl ≡ changed change 0 (term_at ts a.concl)

-- the statement is the other one with the substitution put into each term
pub record IsPut (ts us : List Item) (types : List (ℕ × ℕ)) (terms : List (VariableNode × ℕ)) (a q : Statement) : Type
    0 where
  pub has : HasStatement us q
  pub hyps : terms_at us q.hyps.items
      ≡ once_each names (map (subst_tm names (type_map ts types) (term_map ts terms)) (terms_at ts a.hyps.items))
  pub concl : term_at us q.concl ≡ subst_tm names (type_map ts types) (term_map ts terms) (term_at ts a.concl)
