-- A new type over the table: its type variables, its two constants and its theorems.
use Rattle.std.specs.Prelude.{◌&&◌, IfErr}
use Rattle.std.specs.Result.{IsErrAnd}
use Rattle.std.specs.List.{All, list_all}
use Rattle.std.proofs.Common.{◌≡◌, ℕ, zero, suc, ◌+◌, ◌<◌, ◌≤◌, Bool, true, false, if◌then◌else◌}
use Rattle.std.proofs.Common.{List, [], ◌∷◌, ◌++◌, map, length, get_or, drop, slice_get, append_assoc}
use Rattle.std.proofs.Common.{Some, Result, Ok, Err, refl, sym, ap, subst, ◌∙◌, arith}
use Rattle.std.proofs.lemmas.List.{map-append}
use Rattle.std.proofs.lemmas.List.Elements.{All-push, All-head, All-tail}
use Rattle.std.proofs.lemmas.Option.{slice_get_within, get_or_from_slice_get}
use Rattle.ot_logic.specs.Trees.{Ty, Tys, TyVar, TyOp, NoTys, MoreTys, Variable, Tm}
use Rattle.ot_logic.specs.Trees.{Free, Con, Bound, App, Abs, NVar, NConst, NApp, Sequent}
use Rattle.ot_logic.specs.Faults.{Fault, Nesting}
use Rattle.ot_logic.specs.Answers.{unless}
use Rattle.ot_logic.specs.Hol.{depth_limit, depth_ty, depth_all, fun_ty, bool_ty, close_at, equation}
use Rattle.ot_logic.specs.Hol.{sequent_of, tys_of_vars, type_theorems, is_shallow_sequent, IsClosed}
use Rattle.ot_logic.specs.NamedTerms.{nameless}
use Rattle.ot_logic.specs.Naming.{numbers}
use Rattle.ot_logic.specs.Rules.{within_limit}
use Rattle.ot_logic.specs.RanOut.{ran_out}
use Rattle.ot_laws.proofs.Tests.{tells_numbers, same_var-is}
use Rattle.ot_laws.proofs.Terms.{close_at_fresh}
use Rattle.ot_laws.proofs.Steps.{within_limit-ok}
use Rattle.ot_type.specs.TypeTable.{type_at, types_at}
use Rattle.ot_term.specs.Term.{TermTable}
use Rattle.ot_term.specs.TermTable.{Grows, IsTermTable, IsGrownTo}
use Rattle.ot_term.proofs.Growing.{grown_further, type_at-Grows}
use Rattle.ot_term.proofs.Equations.{type_is}
use Rattle.ot_kernel.specs.declared.theorem.Theorem.{Theorem}
use Rattle.ot_kernel.specs.declared.fault.RuleFault.{RuleFault}
use Rattle.ot_kernel.specs.Answers.{RefusesRule}
use Rattle.ot_kernel.specs.Numbered.{numbered_sequent, Derives}
use Rattle.ot_kernel.specs.Spelled.{IsInside}
use Rattle.ot_kernel.specs.Equating.{limited, IsMadeTerm}
use Rattle.ot_kernel.specs.Proved.{bound_of_names, IsNumberOf, equal_functions, trip, DerivesBoth}
use Rattle.ot_type.specs.declared.fault.TableFault.{TableFault}
use Rattle.ot_type.specs.declared.fault.TableFault.TheVariants as of_types
use Rattle.ot_kernel.specs.declared.fault.RuleFault.TheVariants as rules
use Rattle.ot_kernel.specs.Refusals.{of_table}
use Rattle.ot_kernel.proofs.Refusals.{handed_on}
use Rattle.ot_kernel.proofs.Namings.{map-drop}
use Rattle.ot_kernel.proofs.NewTerms.{new_at, limited-made}
use Rattle.ot_kernel.proofs.Equating.{tm_at-Grows, tms_at-Grows}
use Rattle.ot_kernel.proofs.NewFunctions.{left_part_refused, right_part_refused, left_function_refused}

-- ---- names
pub name-below : (ns : List ℕ) (k x : ℕ) → k < length ns → x ≡ get_or ns k x → suc x ≤ bound_of_names ns
name-below [] k x h e = let no : ⊥ = omega arith in absurd no
name-below (n ∷ ns) zero x h e = omega arith
name-below (n ∷ ns) (suc k) x h e = omega (arith, name-below ns k x (omega arith) e)

pub bound-below : (k : ℕ) (ns : List ℕ) → All (λ n. n < k) ns → bound_of_names ns ≤ k
bound-below k [] h = omega arith
bound-below k (n ∷ ns) h = let first = h 0 n (omega arith) in
    let rest = bound-below k ns (λ i d q. h (suc i) d (omega arith)) in omega (arith, first, rest)

-- ---- the type variables of the names before the k-th
pub record AreVariables (t u : TermTable) (vars : List ℕ) (k : ℕ) (is : List ℕ) : Type 0 where
  pub grown : IsGrownTo (bound_of_names vars) t u
  pub made : map (type_at u.types) is ++ map TyVar (drop k vars) ≡ map TyVar vars
  pub within : All (λ i. i < length u.types) is

pub types_kept : (t u : TermTable) → Grows t u → (is : List ℕ) → All (λ i. i < length t.types) is
    → map (type_at u.types) is ≡ map (type_at t.types) is
types_kept t u g [] h = refl
types_kept t u g (i ∷ is) h =
    let first = type_at-Grows t u g i (All-head (λ i. i < length t.types) i is h) in
    let rest = types_kept t u g is (All-tail (λ i. i < length t.types) i is h) in
    λ j. first j ∷ rest j

pub variable_added : (t u v : TermTable) (vars : List ℕ) (k : ℕ) (is js : List ℕ) (name id : ℕ)
    → AreVariables t u vars k is → k < length vars → name ≡ get_or vars k name
    → IsGrownTo (name + 1) u v → slice_get v.types id ≡ Some (TyVar name)
    → js ≡ is ++ id ∷ [] → AreVariables t v vars (k + 1) js
variable_added t u v vars k is js name id a h e g at pushed =
    let less : name + 1 ≤ bound_of_names vars = omega (arith, name-below vars k name h e) in
    let kept = types_kept u v g.grows is a.within in
    let new : type_at v.types id ≡ TyVar name = type_is v id (TyVar name) at in
    let ended = map TyVar (drop (k + 1) vars) in
    subst (AreVariables t v vars (k + 1)) (sym pushed) (record {
      grown = grown_further _ (name + 1) (bound_of_names vars) t u v a.grown (omega arith) g less;
      made =
          ap (λ xs. xs ++ ended) (map-append (type_at v.types) is (id ∷ []))
          ∙ append_assoc (map (type_at v.types) is) (type_at v.types id ∷ []) ended
          ∙ (λ j. kept j ++ new j ∷ ended)
          ∙ ap (λ xs. map (type_at u.types) is ++ xs) (sym (map-drop TyVar vars k name h e))
          ∙ a.made;
      within = All-push (λ i. i < length v.types) is id (λ n d q. omega (arith, a.within n d q, g.grows.types.longer))
          (slice_get_within v.types id (TyVar name) at);
    })

-- lists of types as arguments
tys_of : List (Ty ℕ) → Tys ℕ
tys_of [] = NoTys
tys_of (t ∷ ts) = MoreTys t (tys_of ts)

arguments-types : (ts : List (Ty ℕ)) (is : List ℕ) → types_at ts is ≡ tys_of (map (type_at ts) is)
unfolding tys_of
arguments-types ts [] = refl
arguments-types ts (i ∷ is) = ap (MoreTys (type_at ts i)) (arguments-types ts is)

arguments-variables : (vars : List ℕ) → tys_of_vars numbers vars ≡ tys_of (map TyVar vars)
unfolding tys_of
arguments-variables [] = refl
arguments-variables (n ∷ ns) = ap (MoreTys (TyVar n)) (arguments-variables ns)

pub all_variables : (ts : List (Ty ℕ)) (vars is : List ℕ) → map (type_at ts) is ≡ map TyVar vars
    → types_at ts is ≡ tys_of_vars numbers vars
all_variables ts vars is e = arguments-types ts is ∙ ap tys_of e ∙ sym (arguments-variables vars)

depth-variables : (vars : List ℕ) → depth_all numbers (tys_of_vars numbers vars) ≤ 1
depth-variables [] = omega arith
depth-variables (n ∷ ns) = omega (arith, depth-variables ns)

-- an operator over variables is not too deep
pub shallow_operator : (op : ℕ) (vars : List ℕ) (ts : Tys ℕ) → ts ≡ tys_of_vars numbers vars
    → depth_limit < depth_ty numbers (TyOp op ts) → ⊥
shallow_operator op vars ts e deep =
    let same : depth_all numbers ts ≡ depth_all numbers (tys_of_vars numbers vars) = ap (depth_all numbers) e in
    omega (arith, deep, same, depth-variables vars)

pub operator_refused : {X : Type 0} (r : Result X RuleFault) (e : TableFault) → IsErrAnd r (λ f. f ≡ of_table e)
    → (e ≡ of_types.Nesting → ⊥) → IfErr r (λ f. f ≡ rules.Memory ran_out)
operator_refused r of_types.Nesting h never = absurd (never refl)
operator_refused r (of_types.Memory memory) h never = handed_on r (rules.Memory ran_out) (λ f. f ≡ rules.Memory ran_out) h refl

pub type_number : (ts : List (Ty ℕ)) (op : ℕ) (vars : List ℕ) (args : Tys ℕ) (id : ℕ) → args ≡ tys_of_vars numbers
    vars → slice_get ts id ≡ Some (TyOp op args) → IsNumberOf ts (TyOp op (tys_of_vars numbers vars)) id
type_number ts op vars args id e at =
    record {
      within = slice_get_within ts id (TyOp op args) at;
      tree = get_or_from_slice_get ts id (TyOp op args)
          (TyVar 0) at ∙ ap (TyOp op) e;
    }

-- ---- a constant from one type to another
pub constant_made : (u w : TermTable) (id name ty : ℕ) (tree : Ty ℕ) → slice_get u.types ty ≡ Some tree
    → IsTermTable w → slice_get w.terms id ≡ Some (NConst name (type_at u.types ty))
    → IsMadeTerm (Ok id) (limited numbers (Con name tree)) w.terms
constant_made u w id name ty tree at table made =
    let same = type_is u ty tree at in
    let (below, is) = new_at w id (NConst name (type_at u.types ty)) made in (
      below,
      ap (λ z. limited numbers (Con name z)) (sym same) ∙ limited-made (Con name (type_at u.types ty))
          (table.limit id (NConst name (type_at u.types ty)) made) ∙ ap (λ x. Ok (nameless numbers x)) (sym is),
    )

-- ---- the two theorems
-- a list of two whose first or second is refused
first_off : {A : Type 0} (b d : Bool) (q : A) (f : Fault ℕ) → ◌≡◌ {A = Result A (Fault ℕ)}
    (if b then Ok q else Err Nesting) (Err f) → unless {E = Fault ℕ} Nesting (b && d) ≡ Err f
first_off true d q f h = cc
first_off false d q f h = let same : Nesting ≡ f = cc in ap Err same

second_off : {A : Type 0} (b d : Bool) (q : A) (f : Fault ℕ) → ◌≡◌ {A = Result A (Fault ℕ)}
    (if d then Ok q else Err Nesting) (Err f) → unless {E = Fault ℕ} Nesting (b && (d && true)) ≡ Err f
second_off b true q f h = cc
second_off true false q f h = let same : Nesting ≡ f = cc in ap Err same
second_off false false q f h = let same : Nesting ≡ f = cc in ap Err same

pub first_refused : (e : RuleFault) (q r : Sequent ℕ) → RefusesRule e (within_limit numbers q)
    → RefusesRule e (unless {E = Fault ℕ} Nesting (list_all (is_shallow_sequent numbers) (q ∷ r ∷ [])))
first_refused e q r h read = (
  (h read).0,
  λ f p. first_off (is_shallow_sequent numbers q) (is_shallow_sequent numbers r && true) q f
      ((h read).1 f p),
)

pub second_refused : (e : RuleFault) (q r : Sequent ℕ) → RefusesRule e (within_limit numbers r)
    → RefusesRule e (unless {E = Fault ℕ} Nesting (list_all (is_shallow_sequent numbers) (q ∷ r ∷ [])))
second_refused e q r h read =
    ((h read).0, λ f p. second_off (is_shallow_sequent numbers q) (is_shallow_sequent numbers r) r f ((h read).1 f p))

-- two theorems, one made after the other
pub two_derived : (q r : Sequent ℕ) (m n : TermTable) → Grows m n → (th ts : Theorem)
    → Derives (Ok th) (within_limit numbers q) m.terms → Derives (Ok ts) (within_limit numbers r) n.terms
    → IsInside (length n.terms) th × IsInside (length n.terms) ts
    × (q ∷ r ∷ [] ≡ numbered_sequent n.terms th ∷ numbered_sequent n.terms ts ∷ [])
two_derived q r m n g th ts h k =
    let hyps = tms_at-Grows m n g th.hyps h.0.hyps in
    let concl = tm_at-Grows m n g th.concl h.0.concl in
    let kept : numbered_sequent n.terms th ≡ numbered_sequent m.terms th =
    λ i. record { hyps = hyps i; concl = concl i } in
    let one = (within_limit-ok numbers tells_numbers q (numbered_sequent m.terms th) h.1).1 ∙ sym kept in
    let two = (within_limit-ok numbers tells_numbers r (numbered_sequent n.terms ts) k.1).1 in (
      record {
        hyps = λ i x d. let below = h.0.hyps i x d in omega (arith, below, g.terms.longer);
        concl = let below = h.0.concl in omega (arith, below, g.terms.longer);
      },
      k.0,
      λ i. one i ∷ two i ∷ [],
    )

module _ (T U : Ty ℕ) (abs rep : ℕ) (P : Tm ℕ) where
  abbrev pub to : Tm ℕ
  to = Con abs (fun_ty numbers U T)

  abbrev pub from : Tm ℕ
  from = Con rep (fun_ty numbers T U)

  -- the variables of the theorems
  abbrev pub new_variable : Variable ℕ
  new_variable = record { name = 3; ty = T }

  abbrev pub old_variable : Variable ℕ
  old_variable = record { name = 4; ty = U }

  abbrev pub first : Sequent ℕ
  first = equal_functions new_variable T (trip from to new_variable) (Free new_variable)

  abbrev pub second : Sequent ℕ
  second = equal_functions old_variable (bool_ty numbers)
      (equation numbers U (trip to from old_variable) (Free old_variable)) (App P (Free old_variable))

  own_place : (v : Variable ℕ) → close_at numbers 0 v (Free v) ≡ Bound 0
  own_place v = rw ((same_var-is numbers tells_numbers v v).1 refl) refl

  -- no variable is free in the predicate
  pub theorems_are : IsClosed numbers P → type_theorems numbers T U abs rep P ≡ first ∷ second ∷ []
  theorems_are closed =
      let a = sym (own_place new_variable) in
      let r = sym (own_place old_variable) in
      let p = sym (close_at_fresh numbers tells_numbers 0 old_variable P (closed old_variable)) in
      λ i.
      sequent_of numbers (equation numbers (fun_ty numbers T T) (Abs T (App to (App from (a i)))) (Abs T (a i)))
      ∷ sequent_of numbers
      (equation numbers (fun_ty numbers U (bool_ty numbers))
      (Abs U (equation numbers U (App from (App to (r i))) (r i))) (Abs U (App (p i) (r i))))
      ∷ []

  abbrev pub refusal : Result (Unit {0}) (Fault ℕ)
  refusal = unless {E = Fault ℕ} Nesting (list_all (is_shallow_sequent numbers) (type_theorems numbers T U abs rep P))

  module _ (closed : IsClosed numbers P) where
    listed : (e : RuleFault)
        → RefusesRule e (unless {E = Fault ℕ} Nesting (list_all (is_shallow_sequent numbers) (first ∷ second ∷ [])))
        → RefusesRule e refusal
    listed e h = subst (λ qs. RefusesRule e (unless {E = Fault ℕ} Nesting (list_all (is_shallow_sequent numbers) qs)))
        (sym (theorems_are closed)) h

    -- the refusal of a theorem, and of a constant in it
    pub first_theorem_refused : (e : RuleFault) → RefusesRule e (within_limit numbers first) → RefusesRule e refusal
    first_theorem_refused e h = listed e (first_refused e first second h)

    pub second_theorem_refused : (e : RuleFault) → RefusesRule e (within_limit numbers second) → RefusesRule e refusal
    second_theorem_refused e h = listed e (second_refused e first second h)

    trip_refused : (e : RuleFault) → RefusesRule e (limited numbers (trip from to new_variable))
        → RefusesRule e refusal
    trip_refused e h =
        first_theorem_refused e
        (left_function_refused e new_variable T
        (NApp (NConst abs (fun_ty numbers U T)) (NApp (NConst rep (fun_ty numbers T U)) (NVar new_variable)))
        (Free new_variable) h)

    pub to_refused : (e : RuleFault) → RefusesRule e (limited numbers to) → RefusesRule e refusal
    to_refused e h = trip_refused e (left_part_refused e to (App from (Free new_variable)) h)

    pub from_refused : (e : RuleFault) → RefusesRule e (limited numbers from) → RefusesRule e refusal
    from_refused e h =
        trip_refused e
        (right_part_refused e to (App from (Free new_variable)) (left_part_refused e from (Free new_variable) h))

    pub both_derived : (m n : TermTable) → Grows m n → (th ts : Theorem)
        → Derives (Ok th) (within_limit numbers first) m.terms → Derives (Ok ts) (within_limit numbers second) n.terms
        → DerivesBoth (Ok (th, ts)) (type_theorems numbers T U abs rep P) n.terms
    both_derived m n g th ts h k = let d = two_derived first second m n g th ts h k in
        (d.0, d.1, theorems_are closed ∙ d.2)
