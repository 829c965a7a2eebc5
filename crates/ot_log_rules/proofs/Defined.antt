-- Definitions and their theorems, against the cases.
use Rattle.std.specs.List.{All}
use Rattle.std.proofs.Common.{◌≡◌, Bool, true, false, ◌&&◌, List, [], ◌∷◌, map}
use Rattle.std.proofs.Common.{Some, None, Ok, Err, refl, sym, ap, ◌∙◌, subst}
use Rattle.std.proofs.lemmas.List.Elements.{All-nil, All-cons}
use Rattle.ot_logic.specs.Names.{Name}
use Rattle.ot_logic.specs.Naming.{names}
use Rattle.ot_logic.specs.Trees.{Ty, TyOp, Variable, Tm, Con, App, Sequent, Definition, ConDef, ListDef, TyDef}
use Rattle.ot_logic.specs.Hol.{type_in, equation, sequent_of, theorems}
use Rattle.ot_logic.specs.Hol.{type_theorems, tys_of_vars, HasType, IsWellTyped}
use Rattle.ot_logic.specs.Answers.{◌>>=◌}
use Rattle.ot_laws.specs.Conditions.{is_empty, function_of, checked_const, checked_list, checked_type}
use Rattle.ot_laws.proofs.Typing.{type_of-is, applied-some}
use Rattle.ot_laws.proofs.Tests.{tells_names}
use Rattle.ot_log_format.specs.Tokens.{BadStep}
use Rattle.ot_log_format.specs.Steps.{all_defined, all_used, or_bad, is_well_typed}
use Rattle.ot_log_format.specs.Steps.{constant_step, constants_step, type_operator_step}
use Rattle.ot_log_nodes.specs.Items.{Item}
use Rattle.ot_log_rules.specs.Symbols.{passes}
use Rattle.ot_log_rules.specs.Statements.{HasStatement}
use Rattle.ot_log_rules.specs.declared.statement.Statement.{Statement}
use Rattle.ot_log_rules.proofs.Cases.{refused, passed, ill-typed}
use Rattle.ot_log_rules.proofs.Fresh.{step-passed, step-refused}
use Rattle.ot_log_rules.proofs.Checked.{passes_type, passes-type}

module _ (dl : List (Definition Name)) where
  -- ---- a constant
  module _ (n : Name) (t : Tm Name) where
    pub constant-ill : type_in names [] t ≡ None → constant_step names dl n t ≡ Err BadStep
    constant-ill e =
        refused (is_well_typed names t)
        (λ _. or_bad (checked_const names (all_defined names dl) (all_used names dl) n t) >>= λ _. Ok (ConDef n t))
        (ill-typed t e)

    pub constant-refused : is_well_typed names t ≡ true
        → passes (checked_const names (all_defined names dl) (all_used names dl) n t) ≡ false
        → constant_step names dl n t ≡ Err BadStep
    constant-refused typed contrary =
        passed (is_well_typed names t)
        (λ _. or_bad (checked_const names (all_defined names dl) (all_used names dl) n t)
        >>= λ _. Ok (ConDef n t)) typed
        ∙ step-refused (checked_const names (all_defined names dl) (all_used names dl) n t) (Ok (ConDef n t)) contrary

    pub constant-passed : is_well_typed names t ≡ true
        → passes (checked_const names (all_defined names dl) (all_used names dl) n t) ≡ true
        → constant_step names dl n t ≡ Ok (ConDef n t)
    constant-passed typed so =
        passed (is_well_typed names t)
        (λ _. or_bad (checked_const names (all_defined names dl) (all_used names dl) n t)
        >>= λ _. Ok (ConDef n t)) typed
        ∙ step-passed (checked_const names (all_defined names dl) (all_used names dl) n t) (Ok (ConDef n t)) so

  -- ---- a list of constants
  module _ (ps : List (Name × Variable Name)) (q : Sequent Name) where
    pub constants-refused : passes (checked_list names (all_defined names dl) (all_used names dl) (map (λ p. p.0) ps)
        (map (λ p. p.1) ps) q) ≡ false → constants_step names dl ps q ≡ Err BadStep
    constants-refused contrary =
        step-refused (checked_list names (all_defined names dl) (all_used names dl) (map (λ p. p.0) ps)
        (map (λ p. p.1) ps) q) (Ok (ListDef ps q)) contrary

    pub constants-passed : passes (checked_list names (all_defined names dl) (all_used names dl) (map (λ p. p.0) ps)
        (map (λ p. p.1) ps) q) ≡ true → constants_step names dl ps q ≡ Ok (ListDef ps q)
    constants-passed so =
        step-passed (checked_list names (all_defined names dl) (all_used names dl) (map (λ p. p.0) ps)
        (map (λ p. p.1) ps) q) (Ok (ListDef ps q)) so

  -- ---- a type operator
  module _ (n abs rep : Name) (vars : List Name) (q : Sequent Name) where
    pub type_operator-refused : passes (checked_type names (all_defined names dl) (all_used names dl) n abs rep vars
        q) ≡ false → type_operator_step names dl n abs rep vars q ≡ Err BadStep
    type_operator-refused contrary =
        step-refused (checked_type names (all_defined names dl) (all_used names dl) n abs rep vars q)
        (Ok (TyDef n abs rep vars q)) contrary

    pub type_operator-passed : passes (checked_type names (all_defined names dl) (all_used names dl) n abs rep vars q)
        ≡ true → type_operator_step names dl n abs rep vars q ≡ Ok (TyDef n abs rep vars q)
    type_operator-passed so =
        step-passed (checked_type names (all_defined names dl) (all_used names dl) n abs rep vars q)
        (Ok (TyDef n abs rep vars q)) so

    pub type_operator-no_app : function_of q.concl ≡ None → type_operator_step names dl n abs rep vars q ≡ Err BadStep
    type_operator-no_app e =
        type_operator-refused (passes-type (all_defined names dl) (all_used names dl) n abs rep vars q
        ∙ ap (λ o. is_empty q.hyps && passes_type (all_defined names dl) (all_used names dl) n abs rep vars q o) e
        ∙ nothing (is_empty q.hyps))
      where
        nothing : (b : Bool) → (b && false) ≡ false
        nothing true = refl
        nothing false = refl

-- ---- theorems
pub constant-theorem : (n : Name) (t : Tm Name) (ty : Ty Name) (q : Sequent Name) → type_in names [] t ≡ Some ty
    → q ≡ sequent_of names (equation names ty (Con n ty) t) → q ∷ [] ≡ theorems names (ConDef n t)
constant-theorem n t ty q typed is =
    λ i. (is ∙ (λ j. sequent_of names
    (equation names (sym (type_of-is names t ty typed) j) (Con n (sym (type_of-is names t ty typed) j)) t))) i ∷ []

pub type-theorems : (n abs rep : Name) (vars : List Name) (q : Sequent Name) (p t : Tm Name) (ty : Ty Name)
    → q.concl ≡ App p t → type_in names [] t ≡ Some ty
    → type_theorems names (TyOp n (tys_of_vars names vars)) ty abs rep p ≡ theorems names (TyDef n abs rep vars q)
type-theorems n abs rep vars q p t ty is typed =
    (λ i. type_theorems names (TyOp n (tys_of_vars names vars)) (sym (type_of-is names t ty typed) i) abs rep p)
    ∙ sym (ap (λ c. theorems names (TyDef n abs rep vars (record { hyps = q.hyps; concl = c }))) is)

-- the argument of a term that is well typed is so
pub argument-typed : (t f x : Tm Name) → IsWellTyped names t → t ≡ App f x → type_in names [] x ≡ None → ⊥
argument-typed t f x w is none =
    let r = applied-some names tells_names (type_in names [] f) (type_in names [] x) w.0
    (subst (λ u. HasType names u w.0) is w.1) in
    let k : Some r.0 ≡ None = sym r.2 ∙ none in
    cc

-- one statement, all of the table
pub one-statement : (ts : List Item) (q : Statement) → HasStatement ts q → All (HasStatement ts) (q ∷ [])
one-statement ts q h = All-cons (HasStatement ts) q [] h (All-nil (HasStatement ts))
