-- What is asked of the terms of a definition, by the marks of what occurs in them.
use Rattle.std.specs.Prelude.{◌≡◌, ◌&&◌, ℕ, nat_eq, Bool, true, List, [], ◌∷◌, map, Option, None, Some}
use Rattle.std.specs.List.{list_any}
use Rattle.ot_logic.specs.Names.{Name}
use Rattle.ot_logic.specs.Naming.{names}
use Rattle.ot_logic.specs.Trees.{Alphabet, Tm}
use Rattle.ot_logic.specs.Hol.{IsWellTyped, type_of}
use Rattle.ot_laws.specs.Conditions.{is_closed, keeps_type_vars}
use Rattle.ot_log_nodes.specs.Items.{Item, HasType, HasTerm, type_at, term_at}
use Rattle.ot_log_rules.specs.declared.conditions.Given.{Given}
use Rattle.ot_log_rules.specs.Symbols.{is_marked}
use Rattle.ot_log_rules.specs.declared.parts.Mark.{Mark}
use Rattle.ot_log_rules.specs.declared.parts.Mark.TheVariants as mark
use Rattle.ot_log_nodes.specs.declared.node.VariableNode.{VariableNode}
use Rattle.ot_log_nodes.specs.contracts.node.VariableNodePartialEq.TheImpl as derived

-- the test of variables
abbrev pub same_variable : VariableNode → VariableNode → Bool
same_variable = derived.ghosts.eq

-- a variable that occurs is one of these
abbrev pub is_allowed : List VariableNode → Mark → Bool
is_allowed vs (mark.Variable v) = list_any (λ w. same_variable w v) vs
is_allowed vs _ = true

-- a type variable that occurs is one of these
abbrev pub is_var_of : List ℕ → Mark → Bool
is_var_of ns (mark.TypeVar n) = list_any (λ m. nat_eq m n) ns
is_var_of ns _ = true

-- a type variable that occurs is among these marks
abbrev pub is_kept_var : List Mark → Mark → Bool
is_kept_var own (mark.TypeVar n) = is_marked (mark.TypeVar n) own
is_kept_var own _ = true

-- what an option holds, as a list
abbrev pub listed : {X : Type 0} → Option X → List X
listed None = []
listed (Some x) = x ∷ []

-- ---- terms that hypotheses give variables

-- the number is that of a term that is well typed
pub record IsTypedTerm (ts : List Item) (id : ℕ) : Type 0 where
  pub has : HasTerm ts id
  pub typed : IsWellTyped names (term_at ts id)

-- a term and its type
pub record IsGivenTerm (ts : List Item) (g : Given) : Type 0 where
  pub term : HasTerm ts g.term
  pub ty : HasType ts g.ty
  pub typed : type_of names (term_at ts g.term) ≡ type_at ts g.ty

abbrev pub given_term : List Item → Given → Tm Name
given_term ts g = term_at ts g.term

abbrev pub given_terms : List Item → List Given → List (Tm Name)
given_terms ts gs = map (given_term ts) gs

-- a term that may define a constant
abbrev pub may_be_given : {N : Type 0} (alphabet : Alphabet N) → Tm N → Bool
may_be_given alphabet t = is_closed alphabet t && keeps_type_vars alphabet t
