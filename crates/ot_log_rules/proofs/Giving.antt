-- The terms that hypotheses give variables.
use Rattle.std.specs.Prelude.{◌≢◌, is_some}
use Rattle.std.specs.Option.{option_map}
use Rattle.std.specs.List.{All}
use Rattle.std.proofs.Common.{◌≡◌, ℕ, ◌+◌, ◌<◌, Bool, true, false, if◌then◌else◌, nat_eq}
use Rattle.std.proofs.Common.{eqb-true, arith, List, [], ◌∷◌, ◌++◌, map, length, take, drop}
use Rattle.std.proofs.Common.{get_or, Option, Some, None, refl, sym, ap, subst, ◌∙◌, append_assoc}
use Rattle.std.proofs.lemmas.List.{append-nil, map-append, map_more, take-append-drop}
use Rattle.ot_logic.specs.Names.{Name}
use Rattle.ot_logic.specs.Naming.{names}
use Rattle.ot_logic.specs.Trees.{Ty, Variable, Tm, Free, Con, Bound, App, Abs}
use Rattle.ot_logic.specs.Hol.{same_tm, as_equation, type_of, HasType, IsWellTyped}
use Rattle.ot_laws.proofs.Tests.{tells_names}
use Rattle.ot_laws.proofs.Typing.{type_of-is}
use Rattle.ot_laws.proofs.Equations.{as_equation-some, equation-sides}
use Rattle.ot_laws.specs.Conditions.{function_of, is_empty, given_by, given, only}
use Rattle.std.proofs.lemmas.List.Elements.{All-head, All-tail, All-nil, All-cons}
use Rattle.ot_log_nodes.specs.Items.{Item, HasName, HasTerm, name_at, type_at, term_at}
use Rattle.ot_log_nodes.specs.Changing.{variable_at, HasVariable}
use Rattle.ot_log_nodes.specs.declared.node.VariableNode.{VariableNode}
use Rattle.ot_log_rules.specs.Definitions.{pairs_at, names_at, HasPairs}
use Rattle.ot_log_rules.specs.Statements.{terms_at}
use Rattle.ot_log_rules.specs.Shapes.{AreSides}
use Rattle.ot_log_rules.specs.Conditions.{listed, IsTypedTerm, given_term}
use Rattle.ot_log_rules.specs.declared.shapes.Sides.{Sides}
use Rattle.ot_log_rules.specs.declared.conditions.Given.{Given}

-- ---- a hypothesis
gives-left : (v : Variable Name) (ty : Ty Name) (l r : Tm Name) → given_by names v (Some (ty, l, r))
    ≡ (if same_tm names l (Free v) then r ∷ [] else [])
gives-left v ty (Free w) r = refl
gives-left v ty (Con n t) r = refl
gives-left v ty (Bound k) r = refl
gives-left v ty (App f x) r = refl
gives-left v ty (Abs t b) r = refl

-- an equation gives its right side to the variable on its left
pub gives-right : (ts : List Item) (v : Variable Name) (id : ℕ) (s : Sides) (b : Bool) → AreSides ts id s
    → b ≡ same_tm names (term_at ts s.left) (Free v) → given_by names v (as_equation names (term_at ts id))
    ≡ (if b then term_at ts s.right ∷ [] else [])
gives-right ts v id s b h same =
    ap (given_by names v) h.is ∙ gives-left v (type_at ts s.ty) (term_at ts s.left) (term_at ts s.right)
    ∙ ap (λ d. if d then term_at ts s.right ∷ [] else []) (sym same)

-- which has the type of the sides
pub right-typed : (ts : List Item) (id : ℕ) (s : Sides) → IsTypedTerm ts id → AreSides ts id s
    → type_of names (term_at ts s.right) ≡ type_at ts s.ty
right-typed ts id s typed h =
    let is = as_equation-some names tells_names (term_at ts id) (type_at ts s.ty) (term_at ts s.left)
    (term_at ts s.right) h.is in
    let sides = equation-sides names tells_names (type_at ts s.ty) typed.typed.0 (term_at ts s.left)
    (term_at ts s.right) (subst (λ t. HasType names t typed.typed.0) is typed.typed.1) in
    type_of-is names (term_at ts s.right) (type_at ts s.ty) sides.1

-- ---- all hypotheses
given-append : (g h : List (Tm Name)) (v : Variable Name) → given names (g ++ h) v ≡ given names g v
    ++ given names h v
given-append [] h v = refl
given-append (t ∷ g) h v = ap (λ l. given_by names v (as_equation names t) ++ l) (given-append g h v)
    ∙ sym (append_assoc (given_by names v (as_equation names t)) (given names g v) (given names h v))

module _ (ts : List Item) (v : Variable Name) (hyps : List ℕ) (i x : ℕ) (within : i < length hyps)
    (item : x ≡ get_or hyps i x) where
  given-next : (before here : List (Tm Name)) → given names (terms_at ts (take i hyps)) v ≡ before → given_by names v
      (as_equation names (term_at ts x)) ≡ here → given names (terms_at ts (take (i + 1) hyps)) v ≡ before ++ here
  given-next before here b h =
      ap (λ l. given names l v) (map_more (term_at ts) hyps i x within
      ∙ ap (λ j. terms_at ts (take i hyps) ++ term_at ts j ∷ []) (sym item))
      ∙ given-append (terms_at ts (take i hyps)) (term_at ts x ∷ []) v
      ∙ (λ j. b j ++ (append-nil (given_by names v (as_equation names (term_at ts x))) ∙ h) j)

  module _ (found : Option Given) where
    -- the first hypothesis that gives the variable a term
    pub given-first : (t : Tm Name) → is_some found ≡ false → given names (terms_at ts (take i hyps)) v
        ≡ listed (option_map (given_term ts) found) → given_by names v (as_equation names (term_at ts x)) ≡ t ∷ []
        → given names (terms_at ts (take (i + 1) hyps)) v ≡ t ∷ []
    given-first t none before here = given-next (listed (option_map (given_term ts) found)) (t ∷ []) before here
        ∙ by found none
      where
        by : (o : Option Given) → is_some o ≡ false → listed (option_map (given_term ts) o) ++ t ∷ [] ≡ t ∷ []
        by None e = refl
        by (Some y) e = cc

    pub given-none : given names (terms_at ts (take i hyps)) v ≡ listed (option_map (given_term ts) found)
        → given_by names v (as_equation names (term_at ts x)) ≡ [] → given names (terms_at ts (take (i + 1) hyps)) v
        ≡ listed (option_map (given_term ts) found)
    given-none before here = given-next (listed (option_map (given_term ts) found)) [] before here
        ∙ append-nil (listed (option_map (given_term ts) found))

    -- two hypotheses give the variable a term
    pub given-twice : (b : Tm Name) → is_some found ≡ true → given names (terms_at ts (take i hyps)) v
        ≡ listed (option_map (given_term ts) found) → given_by names v (as_equation names (term_at ts x)) ≡ b ∷ []
        → only (given names (terms_at ts hyps) v) ≡ None
    given-twice b some before here =
        ap (λ l. only (given names (terms_at ts l) v)) (sym (take-append-drop (i + 1) hyps))
        ∙ ap (λ l. only (given names l v)) (map-append (term_at ts) (take (i + 1) hyps) (drop (i + 1) hyps))
        ∙ ap (only) (given-append (terms_at ts (take (i + 1) hyps)) (terms_at ts (drop (i + 1) hyps)) v
        ∙ ap (λ l. l ++ given names (terms_at ts (drop (i + 1) hyps)) v)
        (given-next (listed (option_map (given_term ts) found)) (b ∷ []) before here))
        ∙ by found some (given names (terms_at ts (drop (i + 1) hyps)) v)
      where
        by : (o : Option Given) → is_some o ≡ true → (rest : List (Tm Name))
            → only ((listed (option_map (given_term ts) o) ++ b ∷ []) ++ rest) ≡ None
        by None e rest = cc
        by (Some y) e rest = refl

-- ---- an option that holds nothing
pub holds-none : {X : Type 0} (o : Option X) → ((x : X) → o ≡ Some x → ⊥) → o ≡ None
holds-none None h = refl
holds-none (Some x) h = absurd (h x refl)

-- terms that are well typed, of the table
pub typed-terms : (ts : List Item) (is : List ℕ) → All (HasTerm ts) is → All (IsWellTyped names) (terms_at ts is)
    → All (IsTypedTerm ts) is
typed-terms ts [] h t = All-nil (IsTypedTerm ts)
typed-terms ts (i ∷ is) h t =
    All-cons (IsTypedTerm ts) i is
    (record {
      has = All-head (HasTerm ts) i is h;
      typed = All-head (IsWellTyped names) (term_at ts i)
          (terms_at ts is) t;
    })
    (typed-terms ts is (All-tail (HasTerm ts) i is h)
    (All-tail (IsWellTyped names) (term_at ts i) (terms_at ts is) t))

-- the names and the variables of pairs
pub pairs-names : (ts : List Item) (ps : List (ℕ × VariableNode)) → HasPairs ts ps
    → All (HasName ts) (map (λ (p : ℕ × VariableNode). p.0) ps)
pairs-names ts [] h = All-nil (HasName ts)
pairs-names ts (p ∷ ps) h = All-cons (HasName ts) p.0 (map (λ (q : ℕ × VariableNode). q.0) ps)
    (All-head (λ q. HasName ts q.0 × HasVariable ts q.1) p ps h).0
    (pairs-names ts ps (All-tail (λ q. HasName ts q.0 × HasVariable ts q.1) p ps h))

pub pairs-variables : (ts : List Item) (ps : List (ℕ × VariableNode)) → HasPairs ts ps
    → All (HasVariable ts) (map (λ (p : ℕ × VariableNode). p.1) ps)
pairs-variables ts [] h = All-nil (HasVariable ts)
pairs-variables ts (p ∷ ps) h = All-cons (HasVariable ts) p.1 (map (λ (q : ℕ × VariableNode). q.1) ps)
    (All-head (λ q. HasName ts q.0 × HasVariable ts q.1) p ps h).1
    (pairs-variables ts ps (All-tail (λ q. HasName ts q.0 × HasVariable ts q.1) p ps h))

pub names-of_pairs : (ts : List Item) (ps : List (ℕ × VariableNode))
    → names_at ts (map (λ (p : ℕ × VariableNode). p.0) ps) ≡ map (λ (p : Name × Variable Name). p.0) (pairs_at ts ps)
names-of_pairs ts [] = refl
names-of_pairs ts (p ∷ ps) = ap (λ l. name_at ts p.0 ∷ l) (names-of_pairs ts ps)

pub variables-of_pairs : (ts : List Item) (ps : List (ℕ × VariableNode)) → map (variable_at ts)
    (map (λ (p : ℕ × VariableNode). p.1) ps) ≡ map (λ (p : Name × Variable Name). p.1) (pairs_at ts ps)
variables-of_pairs ts [] = refl
variables-of_pairs ts (p ∷ ps) = ap (λ l. variable_at ts p.1 ∷ l) (variables-of_pairs ts ps)

-- ---- a premise without hypotheses, of an application
pub empty-terms : (ts : List Item) (is : List ℕ) → is_empty (terms_at ts is) ≡ nat_eq (length is) 0
empty-terms ts [] = refl
empty-terms ts (i ∷ is) = by (nat_eq (length (i ∷ is)) 0) refl
  where
    by : (b : Bool) → nat_eq (length (i ∷ is)) 0 ≡ b → false ≡ b
    by true e = let k = eqb-true (length (i ∷ is)) 0 e in absurd (omega arith)
    by false e = refl

pub no-function_of : (t : Tm Name) → ((f x : Tm Name) → t ≢ App f x) → function_of t ≡ None
no-function_of (App f x) h = absurd (h f x refl)
no-function_of (Free v) h = refl
no-function_of (Con n t) h = refl
no-function_of (Bound k) h = refl
no-function_of (Abs t b) h = refl
