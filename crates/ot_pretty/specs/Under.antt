-- A kernel's terms, under binders and by number, and which of them are relations.
use Rattle.std.specs.Prelude.{◌≡◌, ℕ, true, false, List}
use Rattle.ot_logic.specs.Names.{Name}
use Rattle.ot_logic.specs.Naming.{names}
use Rattle.ot_logic.specs.Trees.{Ty, Tm, Variable, NConst, NApp, Symbol}
use Rattle.ot_logic.specs.NamedTerms.{nameless_in, at_place, place}
use Rattle.ot_term.specs.declared.term.VarKey.{VarKey}
use Rattle.ot_kernel.specs.State.{State, name_at, variable_at, named_at, term_at}
use Rattle.ot_forms.specs.Printing.{is_relation, readable_term}
use Rattle.ot_view.specs.declared.binders.Binders.{Binders}
use Rattle.ot_view.specs.Binders.{binders_at}
use Rattle.ot_pretty.specs.Spines.{is_relation_constant}

-- the nameless form of a term under binders
abbrev pub bound_term : State → Binders → ℕ → Tm Name
bound_term s binders id = nameless_in names (binders_at s binders) (named_at s.terms id)

-- of a variable
abbrev pub bound_variable : State → Binders → VarKey → Tm Name
bound_variable s binders v = at_place names (variable_at s v) (place names (binders_at s binders) (variable_at s v))

-- the text of a term that stands under no binder
abbrev pub readable_at : List (Symbol Name) → State → ℕ → List ℕ
readable_at hidden s i = readable_term hidden (term_at s i)

-- the term is a constant of this name that is written between two propositions
pub record IsRelationName (hidden : List (Symbol Name)) (s : State) (id name : ℕ) : Type 0 where
  pub ty : Ty Name
  pub term : named_at s.terms id ≡ NConst (name_at s name) ty
  pub relation : is_relation_constant hidden (name_at s name) ty ≡ true

-- the term is no such constant
abbrev pub IsNoRelationName : List (Symbol Name) → State → ℕ → Type 0
IsNoRelationName hidden s id = (n : Name) (ty : Ty Name) → named_at s.terms id ≡ NConst n ty
    → is_relation_constant hidden n ty ≡ false

-- the term is such a constant, of this name, applied to the term of this number
pub record IsHalfRelation (hidden : List (Symbol Name)) (s : State) (id name left : ℕ) : Type 0 where
  pub ty : Ty Name
  pub term : named_at s.terms id ≡ NApp (NConst (name_at s name) ty) (named_at s.terms left)
  pub relation : is_relation_constant hidden (name_at s name) ty ≡ true

-- the term is no such application, under any binders
abbrev pub IsNoHalfRelation : List (Symbol Name) → State → ℕ → Type 0
IsNoHalfRelation hidden s id = (e : List (Variable Name))
    → is_relation hidden (nameless_in names e (named_at s.terms id)) ≡ false
