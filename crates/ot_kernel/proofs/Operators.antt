-- A type operator that is defined from a theorem.
use Rattle.std.specs.Prelude.{◌≡◌, ℕ, ◌<◌, ◌≤◌, suc, Bool, true, List, [], ◌∷◌, ◌++◌}
use Rattle.std.specs.Prelude.{map, length, slice_get, Some, Result, Ok, Err, IfOk, IfErr, OnOk}
use Rattle.std.specs.List.{All, list_all}
use Rattle.std.proofs.Common.{refl, sym, ap, ◌∙◌, subst, arith, ◌+◌, length-append, slice_index_or}
use Rattle.std.proofs.Math.Seq.{get_or-append_seam}
use Rattle.std.proofs.lemmas.List.{append_assoc, get_or_append_left}
use Rattle.std.proofs.lemmas.List.{append-nil}
use Rattle.std.proofs.lemmas.List.Elements.{All-nil, All-cons}
use mathlib.Core.Path.{PathP}
use Rattle.ot_logic.specs.Names.{Name}
use Rattle.ot_logic.specs.Lists.{IsSameSet}
use Rattle.ot_logic.specs.Trees.{Alphabet, Tm, Bound, Sequent, Symbol, ConSymbol, OpSymbol, Definition, TyDef}
use Rattle.ot_logic.specs.Hol.{symbols_tm, symbols_in, symbols_all, symbols_of, theorems}
use Rattle.ot_logic.specs.Hol.{theorems_at, defined, used, is_shallow_sequent, IsNext}
use Rattle.ot_logic.specs.Faults.{Fault, Nesting}
use Rattle.ot_logic.specs.Naming.{names, numbers, name_of}
use Rattle.ot_logic.specs.Renamed.{map_symbol}
use Rattle.ot_logic.specs.Answers.{◌>>=◌, unless}
use Rattle.ot_logic.proofs.Line.{over_sequent}
use Rattle.ot_logic.proofs.Naming.{naming}
use Rattle.ot_logic.specs.RanOut.{ran_out}
use Rattle.ot_laws.specs.Theorem.{IsTheorem}
use Rattle.ot_laws.proofs.Definitions.{no_hyps-theorems}
use Rattle.ot_laws.proofs.Tests.{tells_names}
use Rattle.ot_term.specs.Term.{TermTable}
use Rattle.ot_define.specs.Answers.{Checks, sequent_at}
use Rattle.ot_laws.specs.Conditions.{checked_type}
use Rattle.ot_laws.specs.Next.{AreSymbolsOf}
use Rattle.ot_define.specs.declared.fault.DefineFault.{DefineFault}
use Rattle.ot_laws.proofs.Next.{types_are_next}
use Rattle.ot_kernel.specs.declared.theorem.Theorem.{Theorem}
use Rattle.ot_kernel.specs.declared.definition.Definition as kind
use Rattle.ot_kernel.specs.declared.fault.RuleFault.{RuleFault}
use Rattle.ot_kernel.specs.declared.fault.RuleFault.TheVariants.{Memory}
use Rattle.ot_kernel.specs.State.{State, name_at, term_at, terms_at, theorem_at, Keeps, SameTheorems}
use Rattle.ot_kernel.specs.Spelled as spelled
use Rattle.ot_kernel.specs.Spelled.{Held, IsInside}
use Rattle.ot_kernel.specs.Numbered.{tm_at, numbered_sequent}
use Rattle.ot_kernel.specs.Proved.{bound_of_names, DerivesBoth, IsPremise}
use Rattle.ot_kernel.specs.Refusals.{of_define}
use Rattle.ot_kernel.specs.Answers.{RefusesRule, RefusesBy, DefinesType, IsSymbolIn}
use Rattle.ot_kernel.specs.Defining.{Defining, all_defined, all_used, type_definition, limited_definition}
use Rattle.ot_kernel.specs.Definitions.{definition_at, theorems_at as theorems_held, IsDefinitionIn, number_of}
use Rattle.ot_kernel.specs.Accepting.{adding, added_definition, accepting, defining, defining_more, IsAcceptable}
use Rattle.ot_kernel.proofs.Accepted.{name_stays, names_stay, theorem_stays}
use Rattle.ot_kernel.proofs.ByNumber.{sequent-shallow}
use Rattle.ot_kernel.proofs.Checked.{check-passed, check-refused, symbol_below}
use Rattle.ot_kernel.proofs.Conditions.{RefusesOnly, type_only, type-same, all_defined-same, all_used-same}
use Rattle.ot_kernel.proofs.Constants.{over-name, accepted_keeps, accepted_definitions}
use Rattle.ot_kernel.proofs.Constants.{accepted_theorems, accepted_assumptions}
use Rattle.ot_kernel.proofs.Derived.{inside_after}
use Rattle.ot_kernel.proofs.EquationRules.{memory_refuses}
use Rattle.ot_kernel.proofs.Later.{Later, Between, alphabet_at, over-term}
use Rattle.ot_kernel.proofs.Later.{over-theorem, IsHeld, theorem_sound, held_sound}
use Rattle.ot_kernel.proofs.Lists.{over-names}
use Rattle.ot_kernel.proofs.NewTypes.{bound-below}
use Rattle.ot_kernel.proofs.Theorems.{real_sequent}

-- the numbers of an operator's names are of a kernel with k names
pub record AreNames (k n abs rep : ℕ) (vars : List ℕ) : Type 0 where
  pub operator : n < k
  pub to : abs < k
  pub from : rep < k
  pub variables : All (λ i. i < k) vars

-- the first names are there too
pub names-bound : (k n abs rep : ℕ) (vars : List ℕ) → 5 ≤ k → AreNames k n abs rep vars
    → bound_of_names (4 ∷ n ∷ abs ∷ rep ∷ vars) ≤ k
names-bound k n abs rep vars first h = omega (arith, first, h.operator, h.to, h.from, bound-below k vars h.variables)

-- the definition, over the names and theorems of a state
abbrev pub operator_at : State → (n abs rep : ℕ) → List ℕ → ℕ → Definition Name
operator_at s n abs rep vars i = TyDef (name_at s n) (name_at s abs) (name_at s rep) (map (name_at s) vars)
    (theorem_at s i)

-- ---- the checks
module _ {ns : List Name} {t : TermTable} {held : Held} {now : State} (l : Later ns ns t t held now now)
    (n abs rep : ℕ) (vars : List ℕ) (i : ℕ) (th : Theorem) (names_in : AreNames (length now.names) n abs rep vars)
    (premise : IsHeld l i th) (hs : List ℕ) (hyps : hs ≡ th.hyps) where
  -- what is checked, over numbers and over names
  abbrev Operands : (L : Type 0) → Alphabet L → Type 0
  Operands L c = L × L × L × List L × Sequent L

  abbrev check : (L : Type 0) (c : Alphabet L) → List (Symbol L) → List (Symbol L) → Operands L c
      → Result (Unit {0}) (Fault L)
  check L c ds us p = checked_type c ds us p.0 p.1 p.2 p.3 p.4

  abbrev by_number : Operands ℕ numbers
  by_number = (n, abs, rep, vars, sequent_at t.terms hs th.concl)

  abbrev by_name : Operands Name names
  by_name = (name_at now n, name_at now abs, name_at now rep, map (name_at now) vars, theorem_at now i)

  abbrev over_numbers : Result (Unit {0}) (Fault ℕ)
  over_numbers = check ℕ numbers held.signature.defined held.signature.used by_number

  abbrev named : List (Symbol ℕ) → List (Symbol Name)
  named = map (map_symbol (name_of ns))

  abbrev over_all : Result (Unit {0}) (Fault Name)
  over_all = check Name names (all_defined names now.definitions) (all_used names now.definitions) by_name

  symbols : AreSymbolsOf names now.definitions (named held.signature.defined) (named held.signature.used)
  symbols =
      subst (λ (s : State). AreSymbolsOf names s.definitions (named held.signature.defined)
      (named held.signature.used)) l.before l.old.signature.symbols

  same_check : check Name names (named held.signature.defined) (named held.signature.used) by_name ≡ over_all
  same_check =
      type-same names tells_names (named held.signature.defined) (all_defined names now.definitions)
      (named held.signature.used) (all_used names now.definitions) (name_at now n) (name_at now abs)
      (name_at now rep) (map (name_at now) vars) (theorem_at now i)
      (all_defined-same names tells_names now.definitions (named held.signature.defined) (named held.signature.used)
      symbols) (all_used-same names tells_names now.definitions (named held.signature.defined)
      (named held.signature.used) symbols)

  operands : PathP (λ j. Operands (Between l j) (alphabet_at l j)) by_number by_name
  operands =
      let a = over-name l n names_in.operator in
      let b = over-name l abs names_in.to in
      let c = over-name l rep names_in.from in
      let d = over-names l vars names_in.variables in
      let e = over-theorem l i th premise in
      subst (λ (ks : List ℕ). PathP (λ j. Operands (Between l j) (alphabet_at l j))
      (n, abs, rep, vars, sequent_at t.terms ks th.concl) by_name) (sym hyps) (λ j. (a j, b j, c j, d j, e j))

  passed_named : (u : Unit {0}) → Checks (Ok u) over_numbers
      → check Name names (named held.signature.defined) (named held.signature.used) by_name ≡ Ok tt
  passed_named = check-passed l Operands check held.signature.defined held.signature.used by_number by_name operands

  pub operator_passed : (u : Unit {0}) → Checks (Ok u) over_numbers → over_all ≡ Ok tt
  operator_passed u h = sym same_check ∙ passed_named u h

  pub operator_next : (u : Unit {0}) → Checks (Ok u) over_numbers
      → IsNext names now.assumptions now.definitions (operator_at now n abs rep vars i)
  operator_next u h =
      types_are_next names tells_names now.assumptions now.definitions (named held.signature.defined)
      (named held.signature.used) (name_at now n) (name_at now abs) (name_at now rep) (map (name_at now) vars)
      (theorem_at now i) symbols (held_sound l i th premise)
      (passed_named u h)

  -- a refusal names one of the three symbols
  only : RefusesOnly (λ (x : Symbol ℕ). number_of x < length now.names) over_numbers
  only = type_only (λ (x : Symbol ℕ). number_of x < length now.names) numbers held.signature.defined
      held.signature.used n abs rep vars (sequent_at t.terms hs th.concl) names_in.operator names_in.to names_in.from

  pub operator_symbol : (e : DefineFault) → Checks (Err e) over_numbers → IsSymbolIn (length now.names) (of_define e)
  operator_symbol e h = symbol_below (length now.names) e over_numbers only h

  pub operator_refused : (e : DefineFault) → Checks (Err e) over_numbers
      → RefusesBy (name_at now) (of_define e) (type_definition names now.definitions (name_at now n) (name_at now abs)
      (name_at now rep) (map (name_at now) vars) (theorem_at now i))
  operator_refused e h =
      let rest : Unit {0} → Defining names = λ _. limited_definition names (operator_at now n abs rep vars i) in
      subst (λ r. RefusesBy (name_at now) (of_define e) (r >>= rest)) same_check
      (check-refused l Operands check held.signature.defined held.signature.used by_number by_name operands e only
      h rest)

-- ---- the theorems, as the next ones
module _ (now : State) (n abs rep : ℕ) (vars : List ℕ) (i : ℕ) (one two : Theorem) (rest : List Theorem)
    (c : kind.Definition) (uses : List (Symbol ℕ)) (names_in : AreNames (length now.names) n abs rep vars)
    (premise_in : i < length now.theorems) (one_in : IsInside (length now.terms) one)
    (two_in : IsInside (length now.terms) two) (rest_in : All (IsInside (length now.terms)) rest)
    (coded : (s : State) → definition_at s c ≡ operator_at s n abs rep vars i)
    (at_end : (s : State) → theorems_held s c ≡ theorem_at s (length now.theorems)
    ∷ theorem_at s (length now.theorems + 1) ∷ [])
    (within : IsDefinitionIn (length now.names) (length now.types)
    (length now.theorems + length (one ∷ two ∷ rest)) c)
    (next : IsNext names now.assumptions now.definitions (operator_at now n abs rep vars i))
    (states : spelled.sequent_of now.terms one ∷ spelled.sequent_of now.terms two ∷ []
    ≡ theorems names (operator_at now n abs rep vars i))
    (follow : All (IsTheorem names now.assumptions (now.definitions ++ operator_at now n abs rep vars i ∷ []))
    (theorems names (operator_at now n abs rep vars i))
    → All (IsTheorem names now.assumptions (now.definitions ++ operator_at now n abs rep vars i ∷ []))
    (map (spelled.sequent_of now.terms) rest))
    (occurring : IsSameSet (map (map_symbol (name_at now)) uses)
    (symbols_of names (theorem_at now i) ++ symbols_all names (terms_at now (one.concl ∷ two.concl ∷ []))))
    (below : All (λ x. number_of x < length now.names) uses) where
  abbrev definition : Definition Name
  definition = operator_at now n abs rep vars i

  abbrev first : Sequent Name
  first = spelled.sequent_of now.terms one

  abbrev second : Sequent Name
  second = spelled.sequent_of now.terms two

  abbrev more : List (Sequent Name)
  more = map (spelled.sequent_of now.terms) rest

  reads : added_definition now (one ∷ two ∷ rest) c ≡ definition
  reads =
      let same = get_or_append_left now.theorems (first ∷ second ∷ more) (record { hyps = []; concl = Bound 0 }) i
      premise_in in
      coded (adding now (one ∷ two ∷ rest))
      ∙ ap (TyDef (name_at now n) (name_at now abs) (name_at now rep) (map (name_at now) vars)) same

  both_held : theorems_held (adding now (one ∷ two ∷ rest)) c ≡ first ∷ second ∷ []
  both_held =
      let none : Sequent Name = record { hyps = []; concl = Bound 0 } in
      let a = get_or-append_seam now.theorems first (second ∷ more) none in
      let b = get_or-append_seam (now.theorems ++ first ∷ []) second more none in
      let split = append_assoc now.theorems (first ∷ []) (second ∷ more) in
      let place = length-append now.theorems (first ∷ []) in
      at_end (adding now (one ∷ two ∷ rest)) ∙ (λ j. a j ∷ slice_index_or (sym split j) (sym place j) none ∷ [])
      ∙ ap (λ q. first ∷ q ∷ []) b

  no_hyps : (j : ℕ) (q : Sequent Name) → slice_get (first ∷ second ∷ []) j ≡ Some q → q.hyps ≡ []
  no_hyps j q e = no_hyps-theorems names definition j q (ap (λ l. slice_get l j) (sym states) ∙ e)

  symbols_read : symbols_of names (theorem_at now i) ++ symbols_all names (terms_at now (one.concl ∷ two.concl ∷ []))
      ≡ used names definition
  symbols_read =
      let a = no_hyps 0 first refl in
      let b = no_hyps 1 second refl in
      let premise = symbols_of names (theorem_at now i) in
      (λ j. premise
      ++ ((symbols_all names (sym a j) ++ symbols_tm names first.concl)
      ++ ((symbols_all names (sym b j) ++ symbols_tm names second.concl) ++ [])))
      ∙ ap (λ ts. premise ++ symbols_in names ts) states

  pub operator_acceptable : IsAcceptable now (one ∷ two ∷ rest) c (OpSymbol n ∷ ConSymbol abs ∷ ConSymbol rep ∷ [])
      uses
  operator_acceptable = record {
    inside = All-cons (IsInside (length now.terms)) one (two ∷ rest) one_in
        (All-cons (IsInside (length now.terms)) two rest two_in rest_in);
    within = within;
    further = more;
    numbered = both_held ∙ (states ∙ ap (theorems names) (sym reads));
    made = ap (λ l. l ++ more) (states ∙ ap (theorems names) (sym reads));
    follow = subst (λ d. All (IsTheorem names now.assumptions (now.definitions ++ d ∷ [])) (theorems names d)
        → All (IsTheorem names now.assumptions (now.definitions ++ d ∷ [])) more) (sym reads) follow;
    next = subst (IsNext names now.assumptions now.definitions) (sym reads) next;
    symbols_defined =
        subst (λ d. IsSameSet (OpSymbol (name_at now n) ∷ ConSymbol (name_at now abs) ∷ ConSymbol (name_at now rep)
        ∷ []) (defined names d)) (sym reads) (record { to = λ x m. m; back = λ x m. m });
    symbols_used = subst (IsSameSet (map (map_symbol (name_at now)) uses))
        (symbols_read ∙ ap (used names) (sym reads)) occurring;
    defined_below =
        let P : Symbol ℕ → Type 0 = λ x. number_of x < length now.names in
        All-cons P (OpSymbol n) (ConSymbol abs ∷ ConSymbol rep ∷ []) names_in.operator
        (All-cons P (ConSymbol abs) (ConSymbol rep ∷ []) names_in.to
        (All-cons P (ConSymbol rep) [] names_in.from (All-nil P)));
    used_below = below;
  }

  pub operator_accepted : accepting now (one ∷ two ∷ rest) c ≡ defining_more now definition more
  operator_accepted =
      λ j. record now { theorems = now.theorems ++ (states j ++ more); definitions = now.definitions ++ reads j ∷ [] }

-- no further theorem
pub none_further : (r : Result (ℕ × ℕ) RuleFault) (k : ℕ) (mid new : State) (d : Definition Name)
    (qs : List (Sequent Name)) → qs ≡ []
    → IfOk r (λ ids. (ids.0 ≡ k) × (ids.1 ≡ suc k) × (new ≡ defining_more mid d qs))
    → IfOk r (λ ids. (ids.0 ≡ k) × (ids.1 ≡ suc k) × (new ≡ defining mid d))
none_further (Ok ids) k mid new d qs none h = (
  h.0,
  h.1,
  h.2 ∙ ap (defining_more mid d) none
      ∙ ap (λ l. record mid { theorems = mid.theorems ++ l; definitions = mid.definitions ++ d ∷ [] })
      (append-nil (theorems names d)),
)
none_further (Err e) k mid new d qs none h = h

-- the numbers of the two are below how many theorems there are
pub operator_within : (r : Result (ℕ × ℕ) RuleFault) (P : ℕ × ℕ → Type 0) (k n m : ℕ)
    → IfOk r (λ ids. (ids.0 ≡ k) × (ids.1 ≡ suc k) × P ids) → OnOk r (n ≡ k + 2 + m)
    → IfOk r (λ ids. (ids.0 < n) × (ids.1 < n))
operator_within (Ok ids) P k n m h count = (omega (arith, h.0, count), omega (arith, h.1, count))
operator_within (Err e) P k n m h count = h

-- ---- the whole call
-- the premise, over numbers
pub premise_is : {ns ms : List Name} {t u : TermTable} {held : Held} {now mid : State}
    (l : Later ns ms t u held now mid) (n abs rep : ℕ) (vars : List ℕ) (i concl : ℕ) → i < length now.theorems
    → concl < length now.terms → term_at now concl ≡ (theorem_at now i).concl
    → IsNext names now.assumptions now.definitions (operator_at now n abs rep vars i)
    → IsPremise numbers (tm_at t.terms concl)
premise_is {now = now} l n abs rep vars i concl premise_in within is next =
    let (p, x, shape, closed, listed) = next.fine.parts in
    let sound = theorem_sound l i premise_in in
    let named : IsPremise names (theorem_at now i).concl =
    record { predicate = p; argument = x; parts = shape; closed = closed; typed = sound.sequent.concl } in
    coe 1 0 (j. IsPremise (alphabet_at l j) (over-term l concl within j)) (subst (IsPremise names) (sym is) named)

-- the sequents of two theorems, or the refusal of the nesting limit
abbrev pub MadeBoth : Result (Theorem × Theorem) RuleFault → List (Sequent Name) → State → Type 0
MadeBoth (Ok p) stated mid = IsInside (length mid.terms) p.0 × IsInside (length mid.terms) p.1
    × (stated ≡ spelled.sequent_of mid.terms p.0 ∷ spelled.sequent_of mid.terms p.1 ∷ [])
    × (list_all (is_shallow_sequent names) stated ≡ true)
MadeBoth (Err e) stated mid =
    RefusesRule e (unless {E = Fault Name} Nesting (list_all (is_shallow_sequent names) stated))

module _ {ns ms : List Name} {t u : TermTable} {held : Held} {now mid : State} (l : Later ns ms t u held now mid)
    (n abs rep : ℕ) (vars : List ℕ) (i concl : ℕ) (names_in : AreNames (length now.names) n abs rep vars)
    (premise_in : i < length now.theorems) (concl_in : concl < length now.terms)
    (is : term_at now concl ≡ (theorem_at now i).concl) where
  abbrev Premise : (L : Type 0) → Type 0
  Premise L = L × L × L × List L × Tm L

  abbrev rule : (L : Type 0) → Alphabet L → Premise L → List (Sequent L)
  rule L c p = theorems_at c p.0 p.1 p.2 p.3 p.4

  abbrev numbered : Premise ℕ
  numbered = (n, abs, rep, vars, tm_at t.terms concl)

  abbrev stated_theorems : List (Sequent Name)
  stated_theorems = theorems names (operator_at now n abs rep vars i)

  premises : PathP (λ j. Premise (Between l j)) numbered
      (name_at now n, name_at now abs, name_at now rep, map (name_at now) vars, (theorem_at now i).concl)
  premises =
      let a = over-name l n names_in.operator in
      let b = over-name l abs names_in.to in
      let c = over-name l rep names_in.from in
      let d = over-names l vars names_in.variables in
      let e = subst (PathP (λ j. Tm (Between l j)) (tm_at t.terms concl)) is (over-term l concl concl_in) in
      λ j. (a j, b j, c j, d j, e j)

  pub real : (th : Theorem) → IsInside (length u.terms) th
      → PathP (λ j. Sequent (Between l j)) (numbered_sequent u.terms th) (spelled.sequent_of mid.terms th)
  real th h =
      let inside = inside_after l th h in
      subst (PathP (λ j. Sequent (Between l j)) (numbered_sequent u.terms th))
      (real_sequent ms u held mid l.after l.kernel th.hyps th.concl inside.hyps inside.concl)
      (over_sequent (naming ms) (numbered_sequent u.terms th))

  -- what was derived, over names
  derived : (r : Result (Theorem × Theorem) RuleFault) → DerivesBoth r (rule ℕ numbers numbered) u.terms
      → MadeBoth r stated_theorems mid
  derived (Ok p) h =
      let one = real p.0 h.0 in
      let two = real p.1 h.1 in
      let shallow_one = sequent-shallow u l.kernel.table p.0 h.0 in
      let shallow_two = sequent-shallow u l.kernel.table p.1 h.1 in
      let shallow : list_all (is_shallow_sequent numbers) (rule ℕ numbers numbered) ≡ true =
      ap (list_all (is_shallow_sequent numbers)) h.2 ∙ rw (shallow_one, shallow_two) refl in (
        inside_after l p.0 h.0,
        inside_after l p.1 h.1,
        coe 0 1 (j. rule (Between l j) (alphabet_at l j) (premises j) ≡ one j ∷ two j ∷ []) h.2,
        coe 0 1 (j. list_all (is_shallow_sequent (alphabet_at l j))
            (rule (Between l j) (alphabet_at l j) (premises j)) ≡ true) shallow,
      )
  derived (Err e) h =
      coe 0 1 (j. RefusesRule e
      (unless {E = Fault (Between l j)} Nesting
      (list_all (is_shallow_sequent (alphabet_at l j)) (rule (Between l j) (alphabet_at l j) (premises j))))) h

  -- the numbers stand for what they stood for
  pub same_operator : operator_at mid n abs rep vars i ≡ operator_at now n abs rep vars i
  same_operator =
      let a = name_stays now mid l.keeps.names l.keeps.types l.keeps.theorems n names_in.operator in
      let b = name_stays now mid l.keeps.names l.keeps.types l.keeps.theorems abs names_in.to in
      let c = name_stays now mid l.keeps.names l.keeps.types l.keeps.theorems rep names_in.from in
      let d = names_stay now mid l.keeps.names l.keeps.types l.keeps.theorems vars names_in.variables in
      let e = theorem_stays now mid l.keeps.names l.keeps.types l.keeps.theorems i premise_in in
      λ j. TyDef (a j) (b j) (c j) (d j) (e j)

  pub next_mid : IsNext names now.assumptions now.definitions (operator_at now n abs rep vars i)
      → IsNext names mid.assumptions mid.definitions (operator_at mid n abs rep vars i)
  next_mid h =
      let a = l.same.basis.assumptions in
      let b = l.same.basis.definitions in
      subst (λ (z : List (Sequent Name) × List (Definition Name) × Definition Name). IsNext names z.0 z.1 z.2)
      (λ j. (sym a j, sym b j, sym same_operator j)) h

  pub both_inside : (p : Theorem × Theorem) → DerivesBoth (Ok p) (rule ℕ numbers numbered) u.terms
      → IsInside (length mid.terms) p.0 × IsInside (length mid.terms) p.1
  both_inside p h = let d = derived (Ok p) h in (d.0, d.1)

  pub both_are : (p : Theorem × Theorem) → DerivesBoth (Ok p) (rule ℕ numbers numbered) u.terms
      → spelled.sequent_of mid.terms p.0 ∷ spelled.sequent_of mid.terms p.1 ∷ []
      ≡ theorems names (operator_at mid n abs rep vars i)
  both_are p h = sym (derived (Ok p) h).2 ∙ ap (theorems names) (sym same_operator)

  abbrev stated : Defining names
  stated = type_definition names now.definitions (name_at now n) (name_at now abs) (name_at now rep)
      (map (name_at now) vars) (theorem_at now i)

  abbrev passes : Type 0
  passes = checked_type names (all_defined names now.definitions) (all_used names now.definitions) (name_at now n)
      (name_at now abs) (name_at now rep) (map (name_at now) vars) (theorem_at now i) ≡ Ok tt

  abbrev limited : Bool → Defining names
  limited b = unless {E = Fault Name} Nesting b >>= λ _. Ok (operator_at now n abs rep vars i)

  checked_then : passes → stated ≡ limited (list_all (is_shallow_sequent names) stated_theorems)
  checked_then h =
      ap (λ (r : Result (Unit {0}) (Fault Name)). r
      >>= λ _. limited (list_all (is_shallow_sequent names) stated_theorems)) h

  -- the nesting limit refuses one of the theorems
  pub both_refused : passes → (e : RuleFault) → DerivesBoth (Err e) (rule ℕ numbers numbered) u.terms
      → (read : ℕ → Name) → RefusesBy read e stated
  both_refused h e d read = let refused = derived (Err e) d read in (
    refused.0,
    λ f p. checked_then h
        ∙ ap (λ (r : Result (Unit {0}) (Fault Name)). r >>= λ _. Ok (operator_at now n abs rep vars i)) (refused.1 f p),
  )

  pub both_made : passes → (p : Theorem × Theorem) → DerivesBoth (Ok p) (rule ℕ numbers numbered) u.terms
      → stated ≡ Ok (operator_at now n abs rep vars i)
  both_made h p d = checked_then h ∙ ap limited (derived (Ok p) d).3

  pub operator_defines : (r : Result (ℕ × ℕ) RuleFault) (new : State) → stated ≡ Ok (operator_at now n abs rep vars i)
      → IfOk r (λ ids. (ids.0 ≡ length mid.theorems) × (ids.1 ≡ suc (length mid.theorems))
      × (new ≡ defining mid (operator_at mid n abs rep vars i))) → IfErr r (λ e. (new ≡ mid) × (e ≡ Memory ran_out))
      → DefinesType r stated now new × Keeps now new
  operator_defines (Ok ids) new s ok err =
      let d = operator_at now n abs rep vars i in
      let e = operator_at mid n abs rep vars i in (
        (
          d,
          s,
          accepted_definitions l d e same_operator new ok.2,
          accepted_theorems l d e same_operator new ok.2,
          ok.0
              ∙ ap length l.same.theorems,
          ok.1 ∙ ap (λ (qs : List (Sequent Name)). suc (length qs)) l.same.theorems,
          accepted_assumptions l d e same_operator new ok.2,
        ),
        accepted_keeps l d e same_operator new ok.2,
      )
  operator_defines (Err (Memory memory)) new s ok err = (
    (subst (SameTheorems now) (sym err.0) l.same, memory_refuses stated (name_at new)),
    subst (Keeps now)
        (sym err.0) l.keeps,
  )
  operator_defines (Err f) new s ok err = cc
