-- A constant that is defined as a term.
use Rattle.std.specs.Prelude.{◌≡◌, ℕ, ◌<◌, ◌&&◌, Bool, true, false, if◌then◌else◌, List}
use Rattle.std.specs.Prelude.{[], ◌∷◌, ◌++◌, map, length, Result, Ok, Err, IfOk, IfErr}
use Rattle.std.specs.List.{All}
use Rattle.std.proofs.Common.{sym, ap, ◌∙◌, subst, arith}
use Rattle.std.proofs.Math.Seq.{get_or-append_seam}
use Rattle.std.proofs.lemmas.List.{append-nil}
use Rattle.std.proofs.lemmas.List.Elements.{All-nil, All-cons}
use mathlib.Core.Path.{PathP}
use Rattle.ot_logic.specs.Names.{Name}
use Rattle.ot_logic.specs.Lists.{IsSameSet}
use Rattle.ot_logic.specs.Trees.{Alphabet, Tm, Con, Bound, Sequent, Symbol, ConSymbol, Definition, ConDef}
use Rattle.ot_logic.specs.Hol.{type_of, equation, sequent_of, symbols_tm, symbols_all}
use Rattle.ot_logic.specs.Hol.{is_shallow_sequent, theorems, defined, used, IsNext}
use Rattle.ot_logic.specs.NamedTerms.{nameless}
use Rattle.ot_logic.specs.Faults.{Fault, NotClosed, TypeVarEscapes, Nesting}
use Rattle.ot_logic.specs.Naming.{names, numbers, name_of}
use Rattle.ot_logic.specs.Renamed.{map_symbol}
use Rattle.ot_logic.specs.Rules.{within_limit}
use Rattle.ot_logic.specs.Answers.{◌>>=◌, unless}
use Rattle.ot_logic.proofs.Line.{over_name}
use Rattle.ot_logic.proofs.Naming.{naming}
use Rattle.ot_logic.proofs.TableLemmas.{Extends-trans, Extends-append, get_or-Extends}
use Rattle.ot_logic.specs.RanOut.{ran_out}
use Rattle.ot_laws.proofs.Steps.{within_limit-ok}
use Rattle.ot_laws.proofs.Tests.{tells_names}
use Rattle.ot_term.specs.Term.{TermTable}
use Rattle.ot_define.specs.Answers.{Checks}
use Rattle.ot_laws.specs.Conditions.{is_closed, keeps_type_vars, checked_const}
use Rattle.ot_laws.specs.Next.{AreSymbolsOf}
use Rattle.ot_define.specs.declared.fault.DefineFault.{DefineFault}
use Rattle.ot_laws.proofs.Next.{constants_are_next}
use Rattle.ot_kernel.specs.declared.theorem.Theorem.{Theorem}
use Rattle.ot_kernel.specs.declared.definition.Definition as kind
use Rattle.ot_kernel.specs.declared.definition.Definition.TheVariants as code
use Rattle.ot_kernel.specs.declared.fault.RuleFault.{RuleFault}
use Rattle.ot_kernel.specs.declared.fault.RuleFault.TheVariants.{Memory}
use Rattle.ot_kernel.specs.State.{State, name_at, term_at, terms_at, theorem_at, Keeps, SameTheorems}
use Rattle.ot_kernel.specs.Spelled as spelled
use Rattle.ot_kernel.specs.Spelled.{Held, IsInside}
use Rattle.ot_kernel.specs.Numbered.{tm_at, Derives}
use Rattle.ot_kernel.specs.Refusals.{of_define}
use Rattle.ot_kernel.specs.Answers.{RefusesBy, RefusesRule, IsSymbolIn, Defines}
use Rattle.ot_kernel.specs.Defining.{all_defined, all_used, const_definition, limited_definition}
use Rattle.ot_kernel.specs.Definitions.{right_side, number_of}
use Rattle.ot_kernel.specs.Accepting.{adding, added_definition, defining, defining_more, IsAcceptable}
use Rattle.ot_kernel.proofs.Checked.{check-passed, check-refused, symbol_below}
use Rattle.ot_kernel.proofs.Conditions.{const_only, symbols-same, all_defined-same, all_used-same}
use Rattle.ot_kernel.proofs.Derived.{Made, made}
use Rattle.ot_kernel.proofs.EquationRules.{memory_refuses}
use Rattle.ot_kernel.proofs.Growth.{named_at-Extends}
use Rattle.ot_kernel.proofs.Later.{Later, Between, spelled_name, over-term, term_typed}

-- the name of a number, over the line of alphabets
pub over-name : {ns ms : List Name} {t u : TermTable} {held : Held} {now mid : State}
    (l : Later ns ms t u held now mid) (n : ℕ) → n < length now.names → PathP (λ j. Between l j) n (name_at now n)
over-name {ms = ms} l n h = subst (PathP (λ j. Between l j) n) (spelled_name l n h) (over_name (naming ms) n)

-- ---- the checks
module _ {ns : List Name} {t : TermTable} {held : Held} {now : State} (l : Later ns ns t t held now now) (n i : ℕ)
    (name_in : n < length now.names) (term_in : i < length now.terms) where
  -- what is checked, over numbers and over names
  abbrev over_numbers : Result (Unit {0}) (Fault ℕ)
  over_numbers = checked_const numbers held.signature.defined held.signature.used n (tm_at t.terms i)

  abbrev name : Name
  name = name_at now n

  abbrev term : Tm Name
  term = term_at now i

  abbrev named : List (Symbol ℕ) → List (Symbol Name)
  named = map (map_symbol (name_of ns))

  symbols : AreSymbolsOf names now.definitions (named held.signature.defined) (named held.signature.used)
  symbols =
      subst (λ (s : State). AreSymbolsOf names s.definitions (named held.signature.defined)
      (named held.signature.used)) l.before l.old.signature.symbols

  same_check : checked_const names (named held.signature.defined) (named held.signature.used) name term
      ≡ checked_const names (all_defined names now.definitions) (all_used names now.definitions) name term
  same_check =
      ap (λ (r : Result (Unit {0}) (Fault Name)). r >>= λ _. unless NotClosed (is_closed names term)
      >>= λ _. unless TypeVarEscapes (keeps_type_vars names term))
      (symbols-same names tells_names (named held.signature.defined) (all_defined names now.definitions)
      (named held.signature.used) (all_used names now.definitions) (symbols_tm names term) (ConSymbol name ∷ [])
      (all_defined-same names tells_names now.definitions (named held.signature.defined)
      (named held.signature.used) symbols)
      (all_used-same names tells_names now.definitions (named held.signature.defined) (named held.signature.used)
      symbols))

  over_operands : PathP (λ j. Between l j × Tm (Between l j)) (n, tm_at t.terms i) (name, term)
  over_operands =
      let a = over-name l n name_in in
      let b = over-term l i term_in in
      λ j. (a j, b j)

  passed_named : (u : Unit {0}) → Checks (Ok u) over_numbers
      → checked_const names (named held.signature.defined) (named held.signature.used) name term ≡ Ok tt
  passed_named = check-passed l (λ L c. L × Tm L) (λ L c ds us p. checked_const c ds us p.0 p.1)
      held.signature.defined held.signature.used (n, tm_at t.terms i) (name, term) over_operands

  pub constant_passed : (u : Unit {0}) → Checks (Ok u) over_numbers
      → checked_const names (all_defined names now.definitions) (all_used names now.definitions) name term ≡ Ok tt
  constant_passed u h = sym same_check ∙ passed_named u h

  pub constant_next : (u : Unit {0}) → Checks (Ok u) over_numbers
      → IsNext names now.assumptions now.definitions (ConDef name term)
  constant_next u h = constants_are_next names tells_names now.assumptions now.definitions
      (named held.signature.defined) (named held.signature.used) name term symbols (term_typed l i term_in)
      (passed_named u h)

  pub constant_refused : (e : DefineFault) → Checks (Err e) over_numbers
      → RefusesBy (name_at now) (of_define e) (const_definition names now.definitions name term)
  constant_refused e h =
      let rest : Unit {0} → Result (Definition Name) (Fault Name) =
      λ _. limited_definition names (ConDef name term) in
      let only = const_only (λ (x : Symbol ℕ). number_of x < length now.names) numbers held.signature.defined
      held.signature.used n (tm_at t.terms i) name_in in
      subst (λ r. RefusesBy (name_at now) (of_define e) (r >>= rest)) same_check
      (check-refused l (λ L c. L × Tm L) (λ L c ds us p. checked_const c ds us p.0 p.1) held.signature.defined
      held.signature.used (n, tm_at t.terms i) (name, term) over_operands e only h rest)

  pub constant_symbol : (e : DefineFault) → Checks (Err e) over_numbers → IsSymbolIn (length now.names) (of_define e)
  constant_symbol e h =
      symbol_below (length now.names) e over_numbers
      (const_only (λ (x : Symbol ℕ). number_of x < length now.names) numbers held.signature.defined
      held.signature.used n (tm_at t.terms i) name_in) h

-- ---- the theorem, as the next one
module _ (now : State) (n i : ℕ) (th : Theorem) (uses : List (Symbol ℕ)) (name_in : n < length now.names)
    (inside : IsInside (length now.terms) th)
    (next : IsNext names now.assumptions now.definitions (ConDef (name_at now n) (term_at now i)))
    (is : spelled.sequent_of now.terms th ∷ [] ≡ theorems names (ConDef (name_at now n) (term_at now i)))
    (occurring : IsSameSet (map (map_symbol (name_at now)) uses)
    (symbols_all names (terms_at now (i ∷ th.concl ∷ []))))
    (below : All (λ x. number_of x < length now.names) uses) where
  abbrev constant : Definition Name
  constant = ConDef (name_at now n) (term_at now i)

  abbrev coded : kind.Definition
  coded = code.Con n (length now.theorems)

  abbrev states : Tm Name
  states = equation names (type_of names (term_at now i)) (Con (name_at now n) (type_of names (term_at now i)))
      (term_at now i)

  first : spelled.sequent_of now.terms th ≡ sequent_of names states
  first = cc

  concl : term_at now th.concl ≡ states
  concl = ap (λ (q : Sequent Name). q.concl) first

  last : theorem_at (adding now (th ∷ [])) (length now.theorems) ≡ spelled.sequent_of now.terms th
  last = get_or-append_seam now.theorems (spelled.sequent_of now.terms th) [] (record { hyps = []; concl = Bound 0 })

  reads : added_definition now (th ∷ []) coded ≡ constant
  reads = ap (λ (q : Sequent Name). ConDef (name_at now n) (right_side q.concl)) (last ∙ first)

  pub constant_acceptable : IsAcceptable now (th ∷ []) coded (ConSymbol n ∷ []) uses
  constant_acceptable = record {
    inside = All-cons (IsInside (length now.terms)) th [] inside (All-nil (IsInside (length now.terms)));
    within = (name_in, omega arith);
    further = [];
    numbered = ap (λ q. q ∷ []) last ∙ (is ∙ ap (theorems names) (sym reads));
    made = is ∙ ap (theorems names) (sym reads)
        ∙ sym (append-nil (theorems names (added_definition now (th ∷ []) coded)));
    follow = λ _. All-nil _;
    next = subst (IsNext names now.assumptions now.definitions) (sym reads) next;
    symbols_defined = subst (λ d. IsSameSet (ConSymbol (name_at now n) ∷ []) (defined names d)) (sym reads)
        (record { to = λ x m. m; back = λ x m. m });
    symbols_used =
        let list : symbols_all names (terms_at now (i ∷ th.concl ∷ [])) ≡ used names constant =
        ap (λ x. symbols_tm names (term_at now i) ++ (symbols_tm names x ++ [])) concl in
        subst (IsSameSet (map (map_symbol (name_at now)) uses)) (list ∙ ap (used names) (sym reads)) occurring;
    defined_below = All-cons (λ (x : Symbol ℕ). number_of x < length now.names) (ConSymbol n) [] name_in
        (All-nil (λ (x : Symbol ℕ). number_of x < length now.names));
    used_below = below;
  }

-- ---- the whole call
-- further theorems may stand behind those of the definition
pub accepted_more_keeps : {ns ms : List Name} {t u : TermTable} {held : Held} {now mid : State}
    (l : Later ns ms t u held now mid) (d : Definition Name) (more : List (Sequent Name))
    → Keeps now (defining_more mid d more)
accepted_more_keeps {mid = mid} l d more = record {
  names = l.keeps.names;
  types = l.keeps.types;
  terms = l.keeps.terms;
  classes = l.keeps.classes;
  theorems = Extends-trans l.keeps.theorems (Extends-append mid.theorems (theorems names d ++ more));
  assumptions = l.keeps.assumptions;
  definitions = Extends-trans l.keeps.definitions (Extends-append mid.definitions (d ∷ []));
}

-- what a call answers that accepts a definition after its tables have grown
module _ {ns ms : List Name} {t u : TermTable} {held : Held} {now mid : State} (l : Later ns ms t u held now mid)
    (d e : Definition Name) (same : e ≡ d) where
  pub accepted_keeps : (new : State) → new ≡ defining mid e → Keeps now new
  accepted_keeps new is =
      subst (Keeps now) (sym (is ∙ ap (defining mid) same)) (record {
        names = l.keeps.names;
        types = l.keeps.types;
        terms = l.keeps.terms;
        classes = l.keeps.classes;
        theorems = Extends-trans l.keeps.theorems (Extends-append mid.theorems (theorems names d));
        assumptions = l.keeps.assumptions;
        definitions = Extends-trans l.keeps.definitions (Extends-append mid.definitions (d ∷ []));
      })

  pub accepted_definitions : (new : State) → new ≡ defining mid e → new.definitions ≡ now.definitions ++ d ∷ []
  accepted_definitions new is = ap (λ (z : State). z.definitions) (is ∙ ap (defining mid) same)
      ∙ ap (λ k. k ++ d ∷ []) l.same.basis.definitions

  pub accepted_theorems : (new : State) → new ≡ defining mid e → new.theorems ≡ now.theorems ++ theorems names d
  accepted_theorems new is = ap (λ (z : State). z.theorems) (is ∙ ap (defining mid) same)
      ∙ ap (λ k. k ++ theorems names d) l.same.theorems

  pub accepted_assumptions : (new : State) → new ≡ defining mid e → new.assumptions ≡ now.assumptions
  accepted_assumptions new is = ap (λ (z : State). z.assumptions) (is ∙ ap (defining mid) same)
      ∙ l.same.basis.assumptions

  pub defines : (stated : Result (Definition Name) (Fault Name)) (r : Result ℕ RuleFault) (new : State)
      → stated ≡ Ok d → IfOk r (λ id. (id ≡ length mid.theorems) × (new ≡ defining mid e))
      → IfErr r (λ f. (new ≡ mid) × (f ≡ Memory ran_out)) → Defines r stated now new × Keeps now new
  defines stated (Ok id) new s ok err = (
    (
      d,
      s,
      accepted_definitions new ok.1,
      accepted_theorems new ok.1,
      ok.0
          ∙ ap length l.same.theorems,
      accepted_assumptions new ok.1,
    ),
    accepted_keeps new ok.1,
  )
  defines stated (Err (Memory memory)) new s ok err = (
    (subst (SameTheorems now) (sym err.0) l.same, memory_refuses stated (name_at new)),
    subst (Keeps now)
        (sym err.0) l.keeps,
  )
  defines stated (Err f) new s ok err = cc

-- the theorem of a constant, over the terms that there are by then
module _ {ns : List Name} {t u : TermTable} {held : Held} {now mid : State} (l : Later ns ns t u held now mid)
    (n i : ℕ) (name_in : n < length now.names) (term_in : i < length now.terms) where
  abbrev rule : (L : Type 0) → Alphabet L → L × Tm L → Result (Sequent L) (Fault L)
  rule L c p = within_limit c (sequent_of c (equation c (type_of c p.1) (Con p.0 (type_of c p.1)) p.1))

  operands : PathP (λ j. Between l j × Tm (Between l j)) (n, tm_at t.terms i) (name_at now n, term_at now i)
  operands =
      let a = over-name l n name_in in
      let b = over-term l i term_in in
      λ j. (a j, b j)

  -- what was derived, over names
  derived : (r : Result Theorem RuleFault) → Derives r (rule ℕ numbers (n, tm_at t.terms i)) u.terms
      → Made r (rule Name names (name_at now n, term_at now i)) mid
  derived = made l (λ L c. L × Tm L) rule (n, tm_at t.terms i) (name_at now n, term_at now i) operands

  -- the numbers stand for what they stood for
  pub same_constant : ◌≡◌ {A = Definition Name} (ConDef (name_at mid n) (term_at mid i))
      (ConDef (name_at now n) (term_at now i))
  same_constant =
      let a = get_or-Extends now.names mid.names l.keeps.names n [] name_in in
      let b = named_at-Extends now.terms mid.terms l.keeps.terms i term_in in
      λ j. ConDef (a j) (nameless names (b j))

  pub next_mid : IsNext names now.assumptions now.definitions (ConDef (name_at now n) (term_at now i))
      → IsNext names mid.assumptions mid.definitions (ConDef (name_at mid n) (term_at mid i))
  next_mid h =
      let a = l.same.basis.assumptions in
      let b = l.same.basis.definitions in
      subst (λ (z : List (Sequent Name) × List (Definition Name) × Definition Name). IsNext names z.0 z.1 z.2)
      (λ j. (sym a j, sym b j, sym same_constant j)) h

  -- what the theorem states
  abbrev sequent : Sequent Name
  sequent =
      sequent_of names
      (equation names (type_of names (term_at now i)) (Con (name_at now n) (type_of names (term_at now i)))
      (term_at now i))

  pub theorem_is : (th : Theorem) → Derives (Ok th) (rule ℕ numbers (n, tm_at t.terms i)) u.terms
      → spelled.sequent_of mid.terms th ∷ [] ≡ theorems names (ConDef (name_at mid n) (term_at mid i))
  theorem_is th d =
      let q : sequent ≡ spelled.sequent_of mid.terms th =
      (within_limit-ok names tells_names sequent (spelled.sequent_of mid.terms th) (derived (Ok th) d).1).1 in
      ap (λ r. r ∷ []) (sym q) ∙ ap (theorems names) (sym same_constant)

  abbrev stated : Result (Definition Name) (Fault Name)
  stated = const_definition names now.definitions (name_at now n) (term_at now i)

  abbrev limited : Result (Definition Name) (Fault Name)
  limited = limited_definition names (ConDef (name_at now n) (term_at now i))

  checked_then : checked_const names (all_defined names now.definitions) (all_used names now.definitions)
      (name_at now n) (term_at now i) ≡ Ok tt → stated ≡ limited
  checked_then h = ap (λ (r : Result (Unit {0}) (Fault Name)). r >>= λ _. limited) h

  -- the nesting limit refuses the theorem
  pub theorem_refused : checked_const names (all_defined names now.definitions) (all_used names now.definitions)
      (name_at now n) (term_at now i) ≡ Ok tt → (e : RuleFault)
      → Derives (Err e) (rule ℕ numbers (n, tm_at t.terms i)) u.terms → RefusesRule e stated
  theorem_refused h e d read = let r = derived (Err e) d read in
      (r.0, λ f p. checked_then h ∙ past (is_shallow_sequent names sequent) f (r.1 f p))
    where
      past : (b : Bool) (f : Fault Name)
          → ◌≡◌ {A = Result (Sequent Name) (Fault Name)} (if b then Ok sequent else Err Nesting) (Err f)
          → ◌≡◌ {A = Result (Definition Name) (Fault Name)}
          (unless Nesting (b && true) >>= λ _. Ok (ConDef (name_at now n) (term_at now i))) (Err f)
      past true f k = cc
      past false f k = let same : Nesting ≡ f = cc in ap Err same

  pub theorem_made : checked_const names (all_defined names now.definitions) (all_used names now.definitions)
      (name_at now n) (term_at now i) ≡ Ok tt → (th : Theorem) → Derives (Ok th) (rule ℕ numbers (n, tm_at t.terms i))
      u.terms → stated ≡ Ok (ConDef (name_at now n) (term_at now i))
  theorem_made h th d =
      let on : is_shallow_sequent names sequent ≡ true =
      (within_limit-ok names tells_names sequent (spelled.sequent_of mid.terms th) (derived (Ok th) d).1).0 in
      checked_then h
      ∙ ap (λ b. unless {E = Fault Name} Nesting (b && true) >>= λ _. Ok (ConDef (name_at now n) (term_at now i)))
      on

  pub constant_defines : (r : Result ℕ RuleFault) (new : State) → stated ≡ Ok (ConDef (name_at now n) (term_at now i))
      → IfOk r (λ id. (id ≡ length mid.theorems) × (new ≡ defining mid (ConDef (name_at mid n) (term_at mid i))))
      → IfErr r (λ e. (new ≡ mid) × (e ≡ Memory ran_out))
      → Defines r stated now new × Keeps now new
  constant_defines r new s ok err = defines l (ConDef (name_at now n) (term_at now i))
      (ConDef (name_at mid n) (term_at mid i)) same_constant stated r new s ok err
