-- Constants that are defined for the variables of a theorem.
use Rattle.std.specs.Prelude.{◌≡◌, ℕ, ◌<◌, List, [], ◌∷◌, ◌++◌, map, length, Result, Ok, Err}
use Rattle.std.specs.List.{All}
use Rattle.std.proofs.Common.{refl, sym, ap, ◌∙◌, subst, arith, ◌+◌}
use Rattle.std.proofs.Math.Seq.{get_or-append_seam}
use Rattle.std.proofs.lemmas.List.{get_or_append_left}
use Rattle.std.proofs.lemmas.List.{append-nil, length-map}
use Rattle.std.proofs.lemmas.List.Elements.{All-head, All-tail, All-nil, All-cons}
use mathlib.Core.Path.{PathP}
use Rattle.ot_logic.specs.Names.{Name}
use Rattle.ot_logic.specs.Lists.{IsMember, IsSameSet, AreDistinct}
use Rattle.ot_logic.specs.Trees.{Alphabet, Variable, Bound, Sequent, Symbol, ConSymbol, Definition, ListDef}
use Rattle.ot_logic.specs.Hol.{symbols_tm, symbols_all, symbols_of, subst_tm}
use Rattle.ot_logic.specs.Hol.{constants_for, sequent_of, theorems, defined, used, IsNext}
use Rattle.ot_logic.specs.Faults.{Fault}
use Rattle.ot_logic.specs.Naming.{names, numbers, name_of}
use Rattle.ot_logic.specs.Renamed.{map_symbol}
use Rattle.ot_logic.specs.Answers.{◌>>=◌}
use Rattle.ot_laws.proofs.Tests.{tells_names}
use Rattle.ot_term.specs.Term.{TermTable}
use Rattle.ot_term.specs.TermTable.{variable_of}
use Rattle.ot_term.specs.declared.term.VarKey.{VarKey}
use Rattle.ot_define.specs.Answers.{Checks, sequent_at}
use Rattle.ot_laws.specs.Conditions.{checked_list}
use Rattle.ot_laws.specs.Next.{AreSymbolsOf}
use Rattle.ot_define.specs.declared.fault.DefineFault.{DefineFault}
use Rattle.ot_laws.proofs.Next.{lists_are_next}
use Rattle.ot_kernel.specs.declared.theorem.Theorem.{Theorem}
use Rattle.ot_kernel.specs.declared.definition.Definition as kind
use Rattle.ot_kernel.specs.State.{State, name_at, variable_at, term_at, terms_at, theorem_at}
use Rattle.ot_kernel.specs.Spelled as spelled
use Rattle.ot_kernel.specs.Spelled.{Held, IsInside}
use Rattle.ot_kernel.specs.Numbered.{tm_at, numbered_sequent}
use Rattle.ot_kernel.specs.Refusals.{of_define}
use Rattle.ot_kernel.specs.Answers.{RefusesBy, IsSymbolIn}
use Rattle.ot_kernel.specs.Defining.{all_defined, all_used, zipped, list_definition}
use Rattle.ot_kernel.specs.Definitions.{pairs_at, definition_at, theorems_at, IsDefinitionIn, number_of}
use Rattle.ot_kernel.specs.Accepting.{adding, added_definition, accepting, defining, IsAcceptable}
use Rattle.ot_kernel.proofs.Checked.{check-passed, check-refused, symbol_below}
use Rattle.ot_kernel.proofs.Conditions.{RefusesOnly, list_only, list-same, all_defined-same, all_used-same}
use Rattle.ot_kernel.proofs.Constants.{over-name}
use Rattle.ot_kernel.proofs.Accepted.{pairs_stay, theorem_stays}
use Rattle.ot_kernel.proofs.Derived.{Made, made}
use Rattle.ot_kernel.proofs.Later.{Later, Between, over-variable, over-theorem, IsHeld, held_sound}
use Rattle.ot_logic.proofs.Members.{IsMember-map_back, All-at_member}
use Rattle.ot_logic.proofs.Results.{same_Ok}

-- ---- pairs
zip_firsts : {N : Type 0} (alphabet : Alphabet N) (ns : List N) (vs : List (Variable N)) → length ns ≡ length vs
    → map (λ p. p.0) (zipped alphabet ns vs) ≡ ns
zip_firsts alphabet [] vs h = refl
zip_firsts alphabet (n ∷ ns) [] h = let no_such : ⊥ = omega (arith, h) in absurd no_such
zip_firsts alphabet (n ∷ ns) (v ∷ vs) h = ap (λ l. n ∷ l) (zip_firsts alphabet ns vs (omega (arith, h)))

zip_seconds : {N : Type 0} (alphabet : Alphabet N) (ns : List N) (vs : List (Variable N)) → length ns ≡ length vs
    → map (λ p. p.1) (zipped alphabet ns vs) ≡ vs
zip_seconds alphabet [] [] h = refl
zip_seconds alphabet [] (v ∷ vs) h = let no_such : ⊥ = omega (arith, h) in absurd no_such
zip_seconds alphabet (n ∷ ns) [] h = let no_such : ⊥ = omega (arith, h) in absurd no_such
zip_seconds alphabet (n ∷ ns) (v ∷ vs) h = ap (λ l. v ∷ l) (zip_seconds alphabet ns vs (omega (arith, h)))

zip_symbols : {N : Type 0} (alphabet : Alphabet N) (ns : List N) (vs : List (Variable N)) → length ns ≡ length vs
    → map ConSymbol ns ≡ map (λ p. ConSymbol p.0) (zipped alphabet ns vs)
zip_symbols alphabet [] vs h = refl
zip_symbols alphabet (n ∷ ns) [] h = let no_such : ⊥ = omega (arith, h) in absurd no_such
zip_symbols alphabet (n ∷ ns) (v ∷ vs) h = ap (λ l. ConSymbol n ∷ l) (zip_symbols alphabet ns vs (omega (arith, h)))

zip_pairs : (s : State) (ns : List ℕ) (vs : List VarKey)
    → pairs_at s ns vs ≡ zipped names (map (name_at s) ns) (map (variable_at s) vs)
zip_pairs s [] vs = refl
zip_pairs s (n ∷ ns) [] = refl
zip_pairs s (n ∷ ns) (v ∷ vs) = ap (λ l. (name_at s n, variable_at s v) ∷ l) (zip_pairs s ns vs)

-- the numbers of a list, over the line of alphabets
module _ {ns ms : List Name} {t u : TermTable} {held : Held} {now mid : State}
    (l : Later ns ms t u held now mid) where
  pub over-names : (is : List ℕ) → All (λ i. i < length now.names) is
      → PathP (λ j. List (Between l j)) is (map (name_at now) is)
  over-names [] h = λ j. []
  over-names (i ∷ is) h =
      let a = over-name l i (All-head (λ i. i < length now.names) i is h) in
      let b = over-names is (All-tail (λ i. i < length now.names) i is h) in
      λ j. a j ∷ b j

  pub over-variables : (vs : List VarKey) → All (λ v. (v.name < length now.names) × (v.ty < length now.types)) vs
      → PathP (λ j. List (Variable (Between l j))) (map (variable_of t.types) vs) (map (variable_at now) vs)
  over-variables [] h = λ j. []
  over-variables (v ∷ vs) h =
      let w = All-head (λ (v : VarKey). (v.name < length now.names) × (v.ty < length now.types)) v vs h in
      let a = over-variable l v w.0 w.1 in
      let b = over-variables vs
      (All-tail (λ (v : VarKey). (v.name < length now.names) × (v.ty < length now.types)) v vs h) in
      λ j. a j ∷ b j

-- ---- the checks
module _ {ns : List Name} {t : TermTable} {held : Held} {now : State} (l : Later ns ns t t held now now) (is : List ℕ)
    (vs : List VarKey) (i : ℕ) (th : Theorem) (names_in : All (λ n. n < length now.names) is)
    (vars_in : All (λ v. (v.name < length now.names) × (v.ty < length now.types)) vs)
    (pairs : length is ≡ length vs) (premise : IsHeld l i th) (hs : List ℕ) (hyps : hs ≡ th.hyps) where
  abbrev over_numbers : Result (Unit {0}) (Fault ℕ)
  over_numbers = checked_list numbers held.signature.defined held.signature.used is (map (variable_of t.types) vs)
      (sequent_at t.terms hs th.concl)

  abbrev constants : List Name
  constants = map (name_at now) is

  abbrev variables : List (Variable Name)
  variables = map (variable_at now) vs

  abbrev q : Sequent Name
  q = theorem_at now i

  abbrev named : List (Symbol ℕ) → List (Symbol Name)
  named = map (map_symbol (name_of ns))

  symbols : AreSymbolsOf names now.definitions (named held.signature.defined) (named held.signature.used)
  symbols =
      subst (λ (s : State). AreSymbolsOf names s.definitions (named held.signature.defined)
      (named held.signature.used)) l.before l.old.signature.symbols

  same_check : checked_list names (named held.signature.defined) (named held.signature.used) constants variables q
      ≡ checked_list names (all_defined names now.definitions) (all_used names now.definitions) constants variables q
  same_check = list-same names tells_names (named held.signature.defined) (all_defined names now.definitions)
      (named held.signature.used) (all_used names now.definitions) constants variables q
      (all_defined-same names tells_names now.definitions (named held.signature.defined) (named held.signature.used)
      symbols) (all_used-same names tells_names now.definitions (named held.signature.defined)
      (named held.signature.used) symbols)

  operands : PathP (λ j. List (Between l j) × List (Variable (Between l j)) × Sequent (Between l j))
      (is, map (variable_of t.types) vs, sequent_at t.terms hs th.concl) (constants, variables, q)
  operands =
      let a = over-names l is names_in in
      let b = over-variables l vs vars_in in
      let c = over-theorem l i th premise in
      subst (λ (ks : List ℕ). PathP (λ j. List (Between l j) × List (Variable (Between l j)) × Sequent (Between l j))
      (is, map (variable_of t.types) vs, sequent_at t.terms ks th.concl) (constants, variables, q)) (sym hyps)
      (λ j. (a j, b j, c j))

  passed_named : (u : Unit {0}) → Checks (Ok u) over_numbers
      → checked_list names (named held.signature.defined) (named held.signature.used) constants variables q ≡ Ok tt
  passed_named =
      check-passed l (λ L c. List L × List (Variable L) × Sequent L) (λ L c ds us p. checked_list c ds us p.0 p.1 p.2)
      held.signature.defined held.signature.used (is, map (variable_of t.types) vs, sequent_at t.terms hs th.concl)
      (constants, variables, q) operands

  pub constants_passed : (u : Unit {0}) → Checks (Ok u) over_numbers → checked_list names
      (all_defined names now.definitions) (all_used names now.definitions) constants variables q ≡ Ok tt
  constants_passed u h = sym same_check ∙ passed_named u h

  same_length : length constants ≡ length variables
  same_length = length-map is (name_at now) ∙ pairs ∙ sym (length-map vs (variable_at now))

  pub constants_next : (u : Unit {0}) → Checks (Ok u) over_numbers
      → IsNext names now.assumptions now.definitions (ListDef (zipped names constants variables) q)
  constants_next u h =
      let a = zip_firsts names constants variables same_length in
      let b = zip_seconds names constants variables same_length in
      lists_are_next names tells_names now.assumptions now.definitions (named held.signature.defined)
      (named held.signature.used) (zipped names constants variables) q symbols (held_sound l i th premise)
      ((λ j. checked_list names (named held.signature.defined) (named held.signature.used) (a j) (b j) q)
      ∙ passed_named u h)

  -- a refusal names one of the constants
  only : RefusesOnly (λ (x : Symbol ℕ). number_of x < length now.names) over_numbers
  only =
      let all : (x : Symbol ℕ) → IsMember x (map ConSymbol is) → number_of x < length now.names =
      λ x m. (let r = IsMember-map_back ConSymbol x is m in subst (λ y. number_of y < length now.names) r.2
      (All-at_member (λ n. n < length now.names) is r.0 names_in r.1)) in
      list_only (λ (x : Symbol ℕ). number_of x < length now.names) numbers held.signature.defined held.signature.used
      is (map (variable_of t.types) vs) (sequent_at t.terms hs th.concl) all

  pub constants_symbol : (e : DefineFault) → Checks (Err e) over_numbers → IsSymbolIn (length now.names) (of_define e)
  constants_symbol e h = symbol_below (length now.names) e over_numbers only h

  pub constants_refused : (e : DefineFault) → Checks (Err e) over_numbers
      → RefusesBy (name_at now) (of_define e) (list_definition names now.definitions constants variables q)
  constants_refused e h =
      let rest : Unit {0} → Result (Definition Name) (Fault Name) =
      λ _. Ok (ListDef (zipped names constants variables) q) in
      subst (λ r. RefusesBy (name_at now) (of_define e) (r >>= rest)) same_check
      (check-refused l (λ L c. List L × List (Variable L) × Sequent L)
      (λ L c ds us p. checked_list c ds us p.0 p.1 p.2) held.signature.defined held.signature.used
      (is, map (variable_of t.types) vs, sequent_at t.terms hs th.concl) (constants, variables, q) operands e only
      h rest)

-- ---- the theorem, as the next one
module _ (now : State) (is : List ℕ) (vs : List VarKey) (i : ℕ) (th : Theorem) (c : kind.Definition)
    (uses : List (Symbol ℕ)) (names_in : All (λ n. n < length now.names) is) (pairs : length is ≡ length vs)
    (premise_in : i < length now.theorems) (inside : IsInside (length now.terms) th)
    (coded : (s : State) → definition_at s c ≡ ListDef (pairs_at s is vs) (theorem_at s i))
    (at_end : (s : State) → theorems_at s c ≡ theorem_at s (length now.theorems) ∷ [])
    (within : IsDefinitionIn (length now.names) (length now.types) (length now.theorems + 1) c)
    (next : IsNext names now.assumptions now.definitions
    (ListDef (zipped names (map (name_at now) is) (map (variable_at now) vs)) (theorem_at now i)))
    (states : spelled.sequent_of now.terms th ∷ [] ≡ theorems names
    (ListDef (zipped names (map (name_at now) is) (map (variable_at now) vs)) (theorem_at now i)))
    (occurring : IsSameSet (map (map_symbol (name_at now)) uses)
    (symbols_of names (theorem_at now i) ++ symbols_all names (terms_at now (th.concl ∷ []))))
    (below : All (λ x. number_of x < length now.names) uses) where
  abbrev definition : Definition Name
  definition = ListDef (zipped names (map (name_at now) is) (map (variable_at now) vs)) (theorem_at now i)

  abbrev stated : Sequent Name
  stated = sequent_of names
      (subst_tm names [] (constants_for names (zipped names (map (name_at now) is) (map (variable_at now) vs)))
      (theorem_at now i).concl)

  first : spelled.sequent_of now.terms th ≡ stated
  first = cc

  concl : term_at now th.concl ≡ stated.concl
  concl = ap (λ (q : Sequent Name). q.concl) first

  reads : added_definition now (th ∷ []) c ≡ definition
  reads =
      let a = zip_pairs (adding now (th ∷ [])) is vs in
      let b = get_or_append_left now.theorems (spelled.sequent_of now.terms th ∷ [])
      (record { hyps = []; concl = Bound 0 }) i premise_in in
      coded (adding now (th ∷ [])) ∙ (λ j. ListDef (a j) (b j))

  symbols_read : (ks : List ℕ) → map (map_symbol (name_at now)) (map ConSymbol ks)
      ≡ map ConSymbol (map (name_at now) ks)
  symbols_read [] = refl
  symbols_read (k ∷ ks) = ap (λ l. ConSymbol (name_at now k) ∷ l) (symbols_read ks)

  symbols_below : (ks : List ℕ) → All (λ n. n < length now.names) ks
      → All (λ x. number_of x < length now.names) (map ConSymbol ks)
  symbols_below [] h = All-nil (λ (x : Symbol ℕ). number_of x < length now.names)
  symbols_below (k ∷ ks) h = All-cons (λ (x : Symbol ℕ). number_of x < length now.names) (ConSymbol k)
      (map ConSymbol ks) (All-head (λ n. n < length now.names) k ks h)
      (symbols_below ks (All-tail (λ n. n < length now.names) k ks h))

  pub constants_acceptable : IsAcceptable now (th ∷ []) c (map ConSymbol is) uses
  constants_acceptable = record {
    inside = All-cons (IsInside (length now.terms)) th [] inside (All-nil (IsInside (length now.terms)));
    within = within;
    further = [];
    numbered = at_end (adding now (th ∷ []))
        ∙ ap (λ q. q ∷ []) (get_or-append_seam now.theorems (spelled.sequent_of now.terms th) []
        (record { hyps = []; concl = Bound 0 })) ∙ (states ∙ ap (theorems names) (sym reads));
    made = states ∙ ap (theorems names) (sym reads)
        ∙ sym (append-nil (theorems names (added_definition now (th ∷ []) c)));
    follow = λ _. All-nil _;
    next = subst (IsNext names now.assumptions now.definitions) (sym reads) next;
    symbols_defined =
        let same = length-map is (name_at now) ∙ pairs ∙ sym (length-map vs (variable_at now)) in
        let list : map (map_symbol (name_at now)) (map ConSymbol is) ≡ defined names definition = symbols_read is
        ∙ zip_symbols names (map (name_at now) is) (map (variable_at now) vs) same in
        subst (IsSameSet (map (map_symbol (name_at now)) (map ConSymbol is))) (list ∙ ap (defined names) (sym reads))
        (record { to = λ x m. m; back = λ x m. m });
    symbols_used =
        let list : symbols_of names (theorem_at now i) ++ symbols_all names (terms_at now (th.concl ∷ [])) ≡ used names definition = ap (λ x. symbols_of names (theorem_at now i) ++ (symbols_tm names x ++ [])) concl in
        subst (IsSameSet (map (map_symbol (name_at now)) uses)) (list ∙ ap (used names) (sym reads)) occurring;
    defined_below = symbols_below is names_in;
    used_below = below;
  }

  pub constants_accepted : accepting now (th ∷ []) c ≡ defining now definition
  constants_accepted =
      λ j. record now { theorems = now.theorems ++ states j; definitions = now.definitions ++ reads j ∷ [] }

-- ---- the whole call
module _ {ns ms : List Name} {t u : TermTable} {held : Held} {now mid : State} (l : Later ns ms t u held now mid)
    (is : List ℕ) (vs : List VarKey) (i : ℕ) (th : Theorem) (names_in : All (λ n. n < length now.names) is)
    (vars_in : All (λ v. (v.name < length now.names) × (v.ty < length now.types)) vs)
    (pairs : length is ≡ length vs) (premise : IsHeld l i th) where
  abbrev rule : (L : Type 0) → Alphabet L → List L × List (Variable L) × Sequent L → Result (Sequent L) (Fault L)
  rule L c p = Ok (sequent_of c (subst_tm c [] (constants_for c (zipped c p.0 p.1)) p.2.concl))

  over_all : PathP (λ j. List (Between l j) × List (Variable (Between l j)) × Sequent (Between l j))
      (is, map (variable_of t.types) vs, numbered_sequent t.terms th)
      (map (name_at now) is, map (variable_at now) vs, theorem_at now i)
  over_all =
      let a = over-names l is names_in in
      let b = over-variables l vs vars_in in
      let c = over-theorem l i th premise in
      λ j. (a j, b j, c j)

  abbrev list_at : State → Definition Name
  list_at s = ListDef (zipped names (map (name_at s) is) (map (variable_at s) vs)) (theorem_at s i)

  pub same_list : list_at mid ≡ list_at now
  same_list =
      let a = sym (zip_pairs mid is vs) ∙ pairs_stay now mid l.keeps.names l.keeps.types l.keeps.theorems is vs
      names_in vars_in ∙ zip_pairs now is vs in
      let b = theorem_stays now mid l.keeps.names l.keeps.types l.keeps.theorems i premise.within in
      λ j. ListDef (a j) (b j)

  derived : (new : Theorem) → IsInside (length u.terms) new → numbered_sequent u.terms new
      ≡ sequent_of numbers
      (subst_tm numbers [] (constants_for numbers (zipped numbers is (map (variable_of t.types) vs)))
      (tm_at t.terms th.concl))
      → Made (Ok new) (rule Name names (map (name_at now) is, map (variable_at now) vs, theorem_at now i)) mid
  derived new inside e =
      made l (λ L c. List L × List (Variable L) × Sequent L) rule
      (is, map (variable_of t.types) vs, numbered_sequent t.terms th)
      (map (name_at now) is, map (variable_at now) vs, theorem_at now i) over_all (Ok new) (inside, ap Ok (sym e))

  pub list_states : (new : Theorem) → IsInside (length u.terms) new → numbered_sequent u.terms new
      ≡ sequent_of numbers
      (subst_tm numbers [] (constants_for numbers (zipped numbers is (map (variable_of t.types) vs)))
      (tm_at t.terms th.concl)) → spelled.sequent_of mid.terms new ∷ [] ≡ theorems names (list_at mid)
  list_states new inside e = ap (λ q. q ∷ []) (sym (same_Ok _ _ (derived new inside e).1))
      ∙ ap (theorems names) (sym same_list)

  pub list_next : IsNext names now.assumptions now.definitions (list_at now)
      → IsNext names mid.assumptions mid.definitions (list_at mid)
  list_next h =
      let a = l.same.basis.assumptions in
      let b = l.same.basis.definitions in
      subst (λ (z : List (Sequent Name) × List (Definition Name) × Definition Name). IsNext names z.0 z.1 z.2)
      (λ j. (sym a j, sym b j, sym same_list j)) h

  pub list_stated : checked_list names (all_defined names now.definitions) (all_used names now.definitions)
      (map (name_at now) is) (map (variable_at now) vs) (theorem_at now i) ≡ Ok tt
      → list_definition names now.definitions (map (name_at now) is) (map (variable_at now) vs) (theorem_at now i)
      ≡ Ok (list_at now)
  list_stated h = ap (λ (r : Result (Unit {0}) (Fault Name)). r >>= λ _. Ok (list_at now)) h

  -- the variables over numbers are distinct too
  pub distinct_numbers : IsNext names now.assumptions now.definitions (list_at now)
      → AreDistinct (map (variable_of t.types) vs)
  distinct_numbers h =
      let same = length-map is (name_at now) ∙ pairs ∙ sym (length-map vs (variable_at now)) in
      let seconds = zip_seconds names (map (name_at now) is) (map (variable_at now) vs) same in
      coe 1 0 (j. AreDistinct (over-variables l vs vars_in j)) (subst AreDistinct seconds h.fine.distinct)
