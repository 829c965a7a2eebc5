-- The open theorems of a type: as they are made over the table, and over names.
use Rattle.std.specs.Prelude.{◌≡◌, ℕ, ◌<◌, ◌≤◌, suc, ◌&&◌, Bool, true, false, if◌then◌else◌}
use Rattle.std.specs.Prelude.{List, [], ◌∷◌, ◌++◌, map, length, Result, Ok, Err}
use Rattle.std.specs.List.{All, list_all}
use Rattle.std.proofs.Common.{refl, sym, ap, ◌∙◌, subst, arith}
use Rattle.std.proofs.lemmas.Bool.{and_parts}
use Rattle.std.proofs.lemmas.List.{append_assoc}
use Rattle.std.proofs.lemmas.List.Elements.{All-nil, All-cons}
use mathlib.Core.Path.{PathP}
use Rattle.ot_logic.specs.Names.{Name}
use Rattle.ot_logic.specs.Trees.{Alphabet, Ty, TyOp, Tm, Free, Con, App, Bound, Sequent, Definition}
use Rattle.ot_logic.specs.Hol.{fun_ty, bool_ty, type_in, type_of, HasType, IsClosed}
use Rattle.ot_logic.specs.Hol.{equation, sequent_of, tys_of_vars, type_theorems, theorems}
use Rattle.ot_logic.specs.Hol.{theorems_at, is_shallow, is_shallow_sequent, IsNext}
use Rattle.ot_logic.specs.Faults.{Fault, Nesting}
use Rattle.ot_logic.specs.Naming.{names, numbers, first_names}
use Rattle.ot_logic.specs.Rules.{within_limit}
use Rattle.ot_logic.specs.Answers.{◌>>=◌, unless}
use Rattle.ot_logic.proofs.TableLemmas.{get_or-Extends}
use Rattle.ot_logic.specs.RanOut.{ran_out}
use Rattle.ot_laws.specs.Theorem.{IsTheorem}
use Rattle.ot_laws.proofs.Equations.{equation-typed}
use Rattle.ot_laws.proofs.Steps.{within_limit-ok}
use Rattle.ot_laws.proofs.Tests.{tells_names, tells_numbers}
use Rattle.ot_laws.proofs.Typing.{app-typed, applied-some, type_of-is}
use Rattle.ot_term.specs.Term.{TermTable}
use Rattle.ot_term.specs.TermTable.{Grows, IsTermTable}
use Rattle.ot_kernel.specs.declared.theorem.Theorem.{Theorem}
use Rattle.ot_kernel.specs.declared.open_types.Type5.{Type5}
use Rattle.ot_kernel.specs.declared.fault.RuleFault.{RuleFault}
use Rattle.ot_kernel.specs.declared.fault.RuleFault.TheVariants.{Memory}
use Rattle.ot_kernel.specs.State.{State, name_at, term_at, theorem_at, Keeps, SameTheorems}
use Rattle.ot_kernel.specs.Spelled as spelled
use Rattle.ot_kernel.specs.Spelled.{Held, IsInside}
use Rattle.ot_kernel.specs.Numbered.{tm_at, numbered_sequent, Derives}
use Rattle.ot_kernel.specs.Proved.{trip, IsPremise, DerivesBoth, DerivesOpen}
use Rattle.ot_kernel.specs.Equating.{limited}
use Rattle.ot_kernel.specs.Answers.{RefusesRule, RefusesBy}
use Rattle.ot_kernel.specs.Accepting.{defining_more}
use Rattle.ot_kernel.specs.Defining.{Defining, type_definition}
use Rattle.ot_kernel.specs.Opening.{open_theorems, open_theorems_at, beta_over, beta_at}
use Rattle.ot_kernel.specs.Opening.{open_type_definition, var_a, var_r, opened_by, DefinesOpenType}
use Rattle.ot_kernel.proofs.ByNumber.{sequent-shallow}
use Rattle.ot_kernel.proofs.Constants.{over-name, accepted_more_keeps}
use Rattle.ot_kernel.proofs.Derived.{inside_after}
use Rattle.ot_kernel.proofs.EquationRules.{memory_refuses}
use Rattle.ot_kernel.proofs.Equating.{tm_at-Grows, tms_at-Grows}
use Rattle.ot_kernel.proofs.Later.{Later, Between, alphabet_at, over-term, theorem_sound}
use Rattle.ot_kernel.proofs.Lists.{over-names}
use Rattle.ot_kernel.proofs.NewTypes.{to, from, new_variable, old_variable, refusal}
use Rattle.ot_kernel.proofs.NewTypes.{to_refused, from_refused, two_derived}
use Rattle.ot_kernel.proofs.OpenDerivable.{open-follow}
use Rattle.ot_kernel.proofs.OpenLimits.{open-shallow}
use Rattle.ot_kernel.proofs.Operators.{AreNames, operator_at, real, same_operator}

-- ---- over the table, where the two theorems of the type are within the limit
-- what is not refused is refused by nothing
never_refused : {X Y : Type 0} (e : RuleFault) (r : Result X (Fault ℕ)) (x : X) (stated : Result Y (Fault ℕ))
    → r ≡ Ok x → RefusesRule e r → RefusesRule e stated
never_refused {X} e r x stated ok h read = ((h read).0, λ f p. never f (sym ok ∙ (h read).1 f p))
  where
    never : (f : Fault ℕ) → ◌≡◌ {A = Result X (Fault ℕ)} (Ok x) (Err f) → stated ≡ Err f
    never f both = cc

shallow-made : (q : Sequent ℕ) → is_shallow_sequent numbers q ≡ true → within_limit numbers q ≡ Ok q
shallow-made q h = rw h refl

module _ (T U : Ty ℕ) (abs rep : ℕ) (P : Tm ℕ) (closed : IsClosed numbers P)
    (typed : HasType numbers P (fun_ty numbers U (bool_ty numbers)))
    (limit : list_all (is_shallow_sequent numbers) (type_theorems numbers T U abs rep P) ≡ true) where
  -- the deepest term on the way
  abbrev deepest : Tm ℕ
  deepest = beta_over numbers (old_variable T U abs rep P) P

  abbrev pub open_refusal : Result (Unit {0}) (Fault ℕ)
  open_refusal = unless {E = Fault ℕ} Nesting (is_shallow numbers deepest)

  abbrev pub open_first : Sequent ℕ
  open_first =
      sequent_of numbers
      (equation numbers T (trip (from T U abs rep P) (to T U abs rep P) (new_variable T U abs rep P))
      (Free (new_variable T U abs rep P)))

  abbrev pub open_second : Sequent ℕ
  open_second =
      sequent_of numbers
      (equation numbers (bool_ty numbers) (App P (Free (old_variable T U abs rep P)))
      (equation numbers U (trip (to T U abs rep P) (from T U abs rep P) (old_variable T U abs rep P))
      (Free (old_variable T U abs rep P))))

  passed : refusal T U abs rep P ≡ Ok tt
  passed = rw limit refl

  -- the constants are within the limit
  pub open_to_refused : (e : RuleFault) → RefusesRule e (limited numbers (to T U abs rep P))
      → RefusesRule e open_refusal
  open_to_refused e r =
      never_refused e (refusal T U abs rep P) tt open_refusal passed (to_refused T U abs rep P closed e r)

  pub open_from_refused : (e : RuleFault) → RefusesRule e (limited numbers (from T U abs rep P))
      → RefusesRule e open_refusal
  open_from_refused e r =
      never_refused e (refusal T U abs rep P) tt open_refusal passed (from_refused T U abs rep P closed e r)

  past : (b : Bool) (q : Sequent ℕ) (f : Fault ℕ) → ◌≡◌ {A = Result (Sequent ℕ) (Fault ℕ)}
      (if b then Ok q else Err Nesting) (Err f) → unless {E = Fault ℕ} Nesting b ≡ Err f
  past true q f h = cc
  past false q f h = let same : Nesting ≡ f = cc in ap Err same

  pub deepest_refused : (e : RuleFault) → RefusesRule e (within_limit numbers (sequent_of numbers deepest))
      → RefusesRule e open_refusal
  deepest_refused e h read =
      ((h read).0, λ f p. past (is_shallow numbers deepest) (sequent_of numbers deepest) f ((h read).1 f p))

  module _ (th : Theorem) (m : TermTable)
      (made : Derives (Ok th) (within_limit numbers (sequent_of numbers deepest)) m.terms) where
    pub deepest_shallow : is_shallow numbers deepest ≡ true
    deepest_shallow =
        (within_limit-ok numbers tells_numbers (sequent_of numbers deepest) (numbered_sequent m.terms th) made.1).0

    both_shallow : (is_shallow_sequent numbers open_first ≡ true) × (is_shallow_sequent numbers open_second ≡ true)
    both_shallow =
        let (one, rest) =
        and_parts (is_shallow_sequent numbers open_first) (is_shallow_sequent numbers open_second && true)
        (open-shallow numbers tells_numbers 3 4 T U abs rep P typed limit deepest_shallow) in
        (one, (and_parts (is_shallow_sequent numbers open_second) true rest).0)

    -- the open theorems are within it
    pub open_first_refused : (e : RuleFault) → RefusesRule e (within_limit numbers open_first)
        → RefusesRule e open_refusal
    open_first_refused e r = never_refused e (within_limit numbers open_first) open_first open_refusal
        (shallow-made open_first both_shallow.0) r

    pub open_second_refused : (e : RuleFault) → RefusesRule e (within_limit numbers open_second)
        → RefusesRule e open_refusal
    open_second_refused e r = never_refused e (within_limit numbers open_second) open_second open_refusal
        (shallow-made open_second both_shallow.1) r

    pub open_derived : (n o : TermTable) → Grows n o → (one two : Theorem)
        → Derives (Ok one) (within_limit numbers open_first) n.terms
        → Derives (Ok two) (within_limit numbers open_second) o.terms
        → DerivesOpen (Ok (one, two)) deepest (open_theorems numbers 3 4 T U abs rep P) o.terms
    open_derived n o g one two h k = let d = two_derived open_first open_second n o g one two h k in
        (d.0, d.1, d.2, deepest_shallow)

-- ---- as the table grows
module _ (t m : TermTable) (first : Grows t m) (table : IsTermTable m) (n abs rep : ℕ) (vars : List ℕ) (concl : ℕ)
    (within : concl < length t.terms) where
  abbrev stated : TermTable → List (Sequent ℕ)
  stated v = theorems_at numbers n abs rep vars (tm_at v.terms concl)

  same : tm_at m.terms concl ≡ tm_at t.terms concl
  same = tm_at-Grows t m first concl within

  pub premise_stays : IsPremise numbers (tm_at t.terms concl) → IsPremise numbers (tm_at m.terms concl)
  premise_stays = subst (IsPremise numbers) (sym same)

  pub limit_stays : (p : Theorem × Theorem) → DerivesBoth (Ok p) (stated t) m.terms
      → list_all (is_shallow_sequent numbers) (stated m) ≡ true
  limit_stays p h =
      let one = sequent-shallow m table p.0 h.0 in
      let two = sequent-shallow m table p.1 h.1 in
      ap (λ x. list_all (is_shallow_sequent numbers) (theorems_at numbers n abs rep vars x)) same
      ∙ ap (list_all (is_shallow_sequent numbers)) h.2 ∙ rw (one, two) refl

  module _ (u : TermTable) (second : Grows m u) where
    stays : (th : Theorem) → IsInside (length m.terms) th → IsInside (length u.terms) th
        × (numbered_sequent u.terms th ≡ numbered_sequent m.terms th)
    stays th h =
        let hyps = tms_at-Grows m u second th.hyps h.hyps in
        let conclusion = tm_at-Grows m u second th.concl h.concl in (
          record {
            hyps = λ i x q. let below = h.hyps i x q in omega (arith, below, second.terms.longer);
            concl = let below = h.concl in omega (arith, below, second.terms.longer);
          },
          λ i. record { hyps = hyps i; concl = conclusion i },
        )

    pub both_stay : (p : Theorem × Theorem) → DerivesBoth (Ok p) (stated t) m.terms
        → DerivesBoth (Ok p) (stated t) u.terms
    both_stay p h =
        let one = stays p.0 h.0 in
        let two = stays p.1 h.1 in
        (one.0, two.0, h.2 ∙ (λ i. sym one.1 i ∷ sym two.1 i ∷ []))

    pub open_stays : (r : Result (Theorem × Theorem) RuleFault)
        → DerivesOpen r (beta_at numbers 4 (tm_at m.terms concl))
        (open_theorems_at numbers 3 4 n abs rep vars (tm_at m.terms concl)) u.terms
        → DerivesOpen r (beta_at numbers 4 (tm_at t.terms concl))
        (open_theorems_at numbers 3 4 n abs rep vars (tm_at t.terms concl)) u.terms
    open_stays r =
        subst (λ x. DerivesOpen r (beta_at numbers 4 x) (open_theorems_at numbers 3 4 n abs rep vars x) u.terms) same

-- ---- they hold where the theorems of the type do
module _ (al : List (Sequent Name)) (dl : List (Definition Name)) (n abs rep : Name) (vars : List Name) where
  abbrev Hold : List (Sequent Name) → Type 0
  Hold = All (IsTheorem names al dl)

  parts_hold : (p x : Tm Name) → HasType names (App p x) (bool_ty names)
      → Hold (theorems_at names n abs rep vars (App p x))
      → Hold (open_theorems_at names var_a var_r n abs rep vars (App p x))
  parts_hold p x typed h =
      let none : Sequent Name = record { hyps = []; concl = Bound 0 } in
      let (a, f, y) = applied-some names tells_names (type_in names [] p) (type_in names [] x) (bool_ty names)
      typed in
      let u = type_of names x in
      let ty = TyOp n (tys_of_vars names vars) in
      let at : type_of names x ≡ a = type_of-is names x a y in
      let predicate : HasType names p (fun_ty names u (bool_ty names)) =
      subst (λ z. HasType names p (fun_ty names z (bool_ty names))) (sym at) f in
      let follow = open-follow names tells_names al dl var_a var_r ty u abs rep p predicate
      (h 0 none (omega arith)).derivable (h 1 none (omega arith)).derivable in
      let c = to-names u ty in
      let g = from-names u ty in
      let v = Free (record { name = var_a; ty = ty }) in
      let w = Free (record { name = var_r; ty = u }) in
      let there : HasType names (App c (App g v)) ty =
      app-typed names tells_names [] c (App g v) u ty refl (app-typed names tells_names [] g v ty u refl refl) in
      let back : HasType names (App g (App c w)) u =
      app-typed names tells_names [] g (App c w) ty u refl (app-typed names tells_names [] c w u ty refl refl) in
      let holds : HasType names (App p w) (bool_ty names) =
      app-typed names tells_names [] p w u (bool_ty names) predicate refl in
      let one = equation-typed names tells_names [] ty (App c (App g v)) v there refl in
      let test = equation-typed names tells_names [] u (App g (App c w)) w back refl in
      let two = equation-typed names tells_names [] (bool_ty names) (App p w) (equation names u (App g (App c w)) w)
      holds test in
      let first = sequent_of names (equation names ty (App c (App g v)) v) in
      let second =
      sequent_of names (equation names (bool_ty names) (App p w) (equation names u (App g (App c w)) w)) in
      All-cons (IsTheorem names al dl) first (second ∷ [])
      (record { derivable = follow.0; sequent = record { hyps = tt; concl = one }; distinct = tt })
      (All-cons (IsTheorem names al dl) second []
      (record { derivable = follow.1.0; sequent = record { hyps = tt; concl = two }; distinct = tt })
      (All-nil (IsTheorem names al dl)))
    where
      to-names : Ty Name → Ty Name → Tm Name
      to-names u ty = Con abs (fun_ty names u ty)

      from-names : Ty Name → Ty Name → Tm Name
      from-names u ty = Con rep (fun_ty names ty u)

  pub open_hold : (t : Tm Name) → IsPremise names t → Hold (theorems_at names n abs rep vars t)
      → Hold (open_theorems_at names var_a var_r n abs rep vars t)
  open_hold t h all =
      let typed = subst (λ z. HasType names z (bool_ty names)) h.parts h.typed in
      let given = subst (λ z. Hold (theorems_at names n abs rep vars z)) h.parts all in
      subst (λ z. Hold (open_theorems_at names var_a var_r n abs rep vars z)) (sym h.parts)
      (parts_hold h.predicate h.argument typed given)

-- what refuses the definition refuses it with the open theorems
pub refused_before : (now : State) (n abs rep : ℕ) (vars : List ℕ) (i : ℕ) (read : ℕ → Name) (e : RuleFault)
    → RefusesBy read e (type_definition names now.definitions (name_at now n) (name_at now abs) (name_at now rep)
    (map (name_at now) vars) (theorem_at now i))
    → RefusesBy read e (open_type_definition names var_r now.definitions (name_at now n) (name_at now abs)
    (name_at now rep) (map (name_at now) vars) (theorem_at now i))
refused_before now n abs rep vars i read e h = (
  h.0,
  λ f p. ap (λ (r : Defining names). r >>= λ d. unless {E = Fault Name} Nesting
      (is_shallow names (beta_at names var_r (theorem_at now i).concl)) >>= λ _. Ok d) (h.1 f p),
)

-- ---- over names
module _ {ns ms : List Name} {t u : TermTable} {held : Held} {now mid : State} (l : Later ns ms t u held now mid)
    (n abs rep : ℕ) (vars : List ℕ) (i concl : ℕ) (names_in : AreNames (length now.names) n abs rep vars)
    (premise_in : i < length now.theorems) (concl_in : concl < length now.terms)
    (is : term_at now concl ≡ (theorem_at now i).concl) where
  abbrev Operands : (L : Type 0) → Type 0
  Operands L = L × L × L × L × L × List L × Tm L

  abbrev numbered : Operands ℕ
  numbered = (3, 4, n, abs, rep, vars, tm_at t.terms concl)

  abbrev rule : (L : Type 0) → Alphabet L → Operands L → List (Sequent L)
  rule L c p = open_theorems_at c p.0 p.1 p.2 p.3 p.4 p.5 p.6

  abbrev depth_rule : (L : Type 0) → Alphabet L → Operands L → Bool
  depth_rule L c p = is_shallow c (beta_at c p.1 p.6)

  abbrev definition : Definition Name
  definition = operator_at now n abs rep vars i

  abbrev deepest_named : Tm Name
  deepest_named = beta_at names var_r (theorem_at now i).concl

  first_in : 5 ≤ length now.names
  first_in = let e = ap (λ (s : State). length s.names) l.before in omega (arith, e, l.old.names.first.longer)

  a_is : name_at now 3 ≡ var_a
  a_is = ap (λ s. name_at s 3) (sym l.before) ∙ get_or-Extends first_names ns l.old.names.first 3 [] (omega arith)

  r_is : name_at now 4 ≡ var_r
  r_is = ap (λ s. name_at s 4) (sym l.before) ∙ get_or-Extends first_names ns l.old.names.first 4 [] (omega arith)

  operands : PathP (λ j. Operands (Between l j)) numbered (
    var_a,
    var_r,
    name_at now n,
    name_at now abs,
    name_at now rep,
    map (name_at now) vars,
    (theorem_at now i).concl,
  )
  operands =
      let f = first_in in
      let v = subst (PathP (λ j. Between l j) 3) a_is (over-name l 3 (omega (arith, f))) in
      let w = subst (PathP (λ j. Between l j) 4) r_is (over-name l 4 (omega (arith, f))) in
      let a = over-name l n names_in.operator in
      let b = over-name l abs names_in.to in
      let c = over-name l rep names_in.from in
      let d = over-names l vars names_in.variables in
      let e = subst (PathP (λ j. Tm (Between l j)) (tm_at t.terms concl)) is (over-term l concl concl_in) in
      λ j. (v j, w j, a j, b j, c j, d j, e j)

  -- what was derived
  abbrev Numbered : Result (Theorem × Theorem) RuleFault → Type 0
  Numbered r = DerivesOpen r (beta_at numbers 4 (tm_at t.terms concl)) (rule ℕ numbers numbered) u.terms

  pub open_are : (p : Theorem × Theorem) → Numbered (Ok p) → opened_by definition ≡ spelled.sequent_of mid.terms p.0
      ∷ spelled.sequent_of mid.terms p.1 ∷ []
  open_are p h =
      let one = real l n abs rep vars i concl names_in premise_in concl_in is p.0 h.0 in
      let two = real l n abs rep vars i concl names_in premise_in concl_in is p.1 h.1 in
      coe 0 1 (j. rule (Between l j) (alphabet_at l j) (operands j) ≡ one j ∷ two j ∷ []) h.2

  pub open_inside : (p : Theorem × Theorem) → Numbered (Ok p) → (ths : List Theorem) → ths ≡ p.0 ∷ p.1 ∷ []
      → All (IsInside (length mid.terms)) ths
  open_inside p h ths e =
      subst (All (IsInside (length mid.terms))) (sym e)
      (All-cons (IsInside (length mid.terms)) p.0 (p.1 ∷ []) (inside_after l p.0 h.0)
      (All-cons (IsInside (length mid.terms)) p.1 [] (inside_after l p.1 h.1)
      (All-nil (IsInside (length mid.terms)))))

  shallow_named : (p : Theorem × Theorem) → Numbered (Ok p) → is_shallow names deepest_named ≡ true
  shallow_named p h = coe 0 1 (j. depth_rule (Between l j) (alphabet_at l j) (operands j) ≡ true) h.3

  refused_named : (e : RuleFault) → Numbered (Err e)
      → RefusesRule e (unless {E = Fault Name} Nesting (is_shallow names deepest_named))
  refused_named e h =
      coe 0 1 (j. RefusesRule e
      (unless {E = Fault (Between l j)} Nesting (depth_rule (Between l j) (alphabet_at l j) (operands j)))) h

  -- the open theorems hold with the definition
  pub open_holds : IsNext names now.assumptions now.definitions definition → (p : Theorem × Theorem) → Numbered (Ok p)
      → (ths : List Theorem) → ths ≡ p.0 ∷ p.1 ∷ []
      → All (IsTheorem names mid.assumptions (mid.definitions ++ operator_at mid n abs rep vars i ∷ []))
      (theorems names (operator_at mid n abs rep vars i))
      → All (IsTheorem names mid.assumptions (mid.definitions ++ operator_at mid n abs rep vars i ∷ []))
      (map (spelled.sequent_of mid.terms) ths)
  open_holds next p h ths e =
      let (f, x, shape, closed, listed) = next.fine.parts in
      let premise : IsPremise names (theorem_at now i).concl =
      record {
        predicate = f;
        argument = x;
        parts = shape;
        closed = closed;
        typed = (theorem_sound l i premise_in).sequent.concl;
      } in
      let kept = same_operator l n abs rep vars i concl names_in premise_in concl_in is in
      let made = open_are p h ∙ ap (map (spelled.sequent_of mid.terms)) (sym e) in
      subst (λ (z : Definition Name × List (Sequent Name)).
      All (IsTheorem names mid.assumptions (mid.definitions ++ z.0 ∷ [])) (theorems names z.0)
      → All (IsTheorem names mid.assumptions (mid.definitions ++ z.0 ∷ [])) z.1) (λ j. (sym kept j, made j))
      (open_hold mid.assumptions (mid.definitions ++ definition ∷ []) (name_at now n) (name_at now abs)
      (name_at now rep) (map (name_at now) vars) (theorem_at now i).concl premise)

  -- ---- the answer
  abbrev before : Defining names
  before = type_definition names now.definitions (name_at now n) (name_at now abs) (name_at now rep)
      (map (name_at now) vars) (theorem_at now i)

  abbrev answer : Defining names
  answer = open_type_definition names var_r now.definitions (name_at now n) (name_at now abs) (name_at now rep)
      (map (name_at now) vars) (theorem_at now i)

  abbrev limit_then : Definition Name → Defining names
  limit_then d = unless {E = Fault Name} Nesting (is_shallow names deepest_named) >>= λ _. Ok d

  pub open_refused : before ≡ Ok definition → (e : RuleFault) → Numbered (Err e) → (read : ℕ → Name)
      → RefusesBy read e answer
  open_refused made e h read =
      let r = refused_named e h read in (
        r.0,
        λ f p. ap (λ (d : Defining names). d >>= limit_then) made
            ∙ ap (λ (b : Result (Unit {0}) (Fault Name)). b >>= λ _. Ok definition) (r.1 f p),
      )

  pub open_made : before ≡ Ok definition → (p : Theorem × Theorem) → Numbered (Ok p) → answer ≡ Ok definition
  open_made made p h = ap (λ (d : Defining names). d >>= limit_then) made
      ∙ ap (λ b. unless {E = Fault Name} Nesting b >>= λ _. Ok definition) (shallow_named p h)

  -- running out of memory after the theorems were made
  pub nothing_defined : (e : RuleFault) (new : State) → (new ≡ mid) × (e ≡ Memory ran_out)
      → DefinesOpenType (Err e) answer now new × Keeps now new
  nothing_defined e new h = (
    (
      subst (SameTheorems now) (sym h.0) l.same,
      subst (λ f. RefusesBy (name_at new) f answer) (sym h.1)
          (memory_refuses answer (name_at new)),
    ),
    subst (Keeps now) (sym h.0) l.keeps,
  )

  pub operator_opens : answer ≡ Ok definition → (p : Theorem × Theorem) → Numbered (Ok p) → (ths : List Theorem)
      → ths ≡ p.0 ∷ p.1 ∷ [] → (new : State) → new ≡ defining_more mid (operator_at mid n abs rep vars i)
      (map (spelled.sequent_of mid.terms) ths)
      → (ids : Type5)
      → ids ≡ record {
        abs_th = length mid.theorems;
        rep_th = suc (length mid.theorems);
        abs_open = suc (suc (length mid.theorems));
        rep_open = suc (suc (suc (length mid.theorems)));
      }
      → DefinesOpenType (Ok ids) answer now new × Keeps now new
  operator_opens made p h ths e new is_new ids numbers_are =
      let kept = same_operator l n abs rep vars i concl names_in premise_in concl_in is in
      let further = ap (map (spelled.sequent_of mid.terms)) e ∙ sym (open_are p h) in
      let at : new ≡ defining_more mid definition (opened_by definition) =
      is_new ∙ (λ j. defining_more mid (kept j) (further j)) in
      let count = l.same.theorems in (
        (
          definition,
          made,
          ap (λ (s : State). s.definitions) at ∙ ap (λ d. d ++ definition ∷ []) l.same.basis.definitions,
          ap (λ (s : State). s.theorems) at ∙ ap (λ q. q ++ (theorems names definition ++ opened_by definition)) count
              ∙ sym (append_assoc now.theorems (theorems names definition) (opened_by definition)),
          numbers_are
              ∙ ap (λ (q : List (Sequent Name)). record {
                abs_th = length q;
                rep_th = suc (length q);
                abs_open = suc (suc (length q));
                rep_open = suc (suc (suc (length q)));
              }) count,
          ap (λ (s : State). s.assumptions) at ∙ l.same.basis.assumptions,
        ),
        subst (Keeps now) (sym at) (accepted_more_keeps l definition (opened_by definition)),
      )
