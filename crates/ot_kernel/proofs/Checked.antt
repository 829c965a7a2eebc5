-- The checks of definitions, carried from numbers to names.
use Rattle.std.specs.Prelude.{◌≡◌, ◌≢◌, ℕ, ◌<◌, List, [], ◌∷◌, map, length, Some, Result, Ok, Err}
use Rattle.std.specs.List.{All}
use Rattle.std.proofs.Common.{refl, sym, ap, ◌∙◌}
use Rattle.std.proofs.lemmas.List.Elements.{All-head, All-tail}
use mathlib.Core.Path.{PathP}
use Rattle.ot_logic.specs.Names.{Name}
use Rattle.ot_logic.specs.Trees.{Alphabet, Symbol, ConSymbol, OpSymbol}
use Rattle.ot_logic.specs.Faults.{Fault, Primitive, AlreadyDefined, SymbolInUse}
use Rattle.ot_logic.specs.Naming.{names, numbers, name_of}
use Rattle.ot_logic.specs.Renamed.{map_symbol}
use Rattle.ot_logic.specs.Answers.{◌>>=◌}
use Rattle.ot_logic.proofs.Line.{over_name, over_list}
use Rattle.ot_logic.proofs.Naming.{naming}
use Rattle.ot_logic.specs.RanOut.{ran_out}
use Rattle.ot_term.specs.Term.{TermTable}
use Rattle.ot_term.specs.Symbols.{symbol_of, symbol_named}
use Rattle.ot_term.specs.declared.term.SymbolKind.{SymbolKind}
use Rattle.ot_term.specs.declared.term.SymbolKind.TheVariants.{Con, TyOp}
use Rattle.ot_define.specs.Answers.{define_fault, Checks}
use Rattle.ot_define.specs.declared.fault.DefineFault.{DefineFault}
use Rattle.ot_define.specs.declared.fault.DefineFault.TheVariants as definitions
use Rattle.ot_kernel.specs.State.{State, name_at}
use Rattle.ot_kernel.specs.Definitions.{number_of}
use Rattle.ot_kernel.specs.Spelled.{Held}
use Rattle.ot_kernel.specs.Refusals.{of_define}
use Rattle.ot_kernel.specs.Answers.{definition_fault, rule_fault, RefusesBy, RefusesRule, IsSymbolIn}
use Rattle.ot_kernel.specs.declared.fault.RuleFault.{RuleFault}
use Rattle.ot_kernel.specs.declared.fault.RuleFault.TheVariants as rules
use Rattle.ot_kernel.proofs.Conditions.{NamesOnly, RefusesOnly}
use Rattle.ot_kernel.proofs.Later.{Later, Between, alphabet_at, spelled_name}

-- the check's answer is the stated one, where numbers stand for these names
abbrev pub ChecksBy : {N : Type 0} → (ℕ → N) → Result (Unit {0}) DefineFault → Result (Unit {0}) (Fault N) → Type 0
ChecksBy read (Ok u) stated = stated ≡ Ok tt
ChecksBy {N} read (Err e) stated = (f : Fault N) → definition_fault read e ≡ Some f → stated ≡ Err f

-- ---- numbers that stand for themselves
itself : (k : SymbolKind) (n : ℕ) → map_symbol (λ m. m) (symbol_named k n) ≡ symbol_named k n
itself Con n = refl
itself TyOp n = refl

same_fault : (e : DefineFault) → define_fault e ≡ definition_fault (λ n. n) e
same_fault definitions.BadDefinitionList = refl
same_fault definitions.HypothesesPresent = refl
same_fault definitions.NotApplication = refl
same_fault definitions.BadTypeVars = refl
same_fault (definitions.Primitive c) = ap (λ s. Some (Primitive s)) (sym (itself c.kind c.name))
same_fault (definitions.AlreadyDefined c) = ap (λ s. Some (AlreadyDefined s)) (sym (itself c.kind c.name))
same_fault (definitions.SymbolInUse c) = ap (λ s. Some (SymbolInUse s)) (sym (itself c.kind c.name))
same_fault definitions.NotClosed = refl
same_fault definitions.TypeVarEscapes = refl
same_fault (definitions.Memory memory) = refl

numbered : (r : Result (Unit {0}) DefineFault) (stated : Result (Unit {0}) (Fault ℕ)) → Checks r stated
    → ChecksBy (λ n. n) r stated
numbered (Ok u) stated h = h
numbered (Err e) stated h = λ f p. h f (same_fault e ∙ p)

-- the number of a symbol is its name's
name_below : (k : SymbolKind) (m n : ℕ) → number_of (symbol_named k m) < n → m < n
name_below Con m n h = h
name_below TyOp m n h = h

-- the symbol that the refusal names is one of those that a check may name
pub symbol_below : {A : Type 0} (n : ℕ) (e : DefineFault) (r : Result A (Fault ℕ))
    → RefusesOnly (λ s. number_of s < n) r → ((g : Fault ℕ) → define_fault e ≡ Some g → r ≡ Err g)
    → IsSymbolIn n (of_define e)
symbol_below n definitions.BadDefinitionList r only h = tt
symbol_below n definitions.HypothesesPresent r only h = tt
symbol_below n definitions.NotApplication r only h = tt
symbol_below n definitions.BadTypeVars r only h = tt
symbol_below n (definitions.Primitive c) r only h =
    name_below c.kind c.name n (only (Primitive (symbol_of c)) (h (Primitive (symbol_of c)) refl))
symbol_below n (definitions.AlreadyDefined c) r only h =
    name_below c.kind c.name n (only (AlreadyDefined (symbol_of c)) (h (AlreadyDefined (symbol_of c)) refl))
symbol_below n (definitions.SymbolInUse c) r only h =
    name_below c.kind c.name n (only (SymbolInUse (symbol_of c)) (h (SymbolInUse (symbol_of c)) refl))
symbol_below n definitions.NotClosed r only h = tt
symbol_below n definitions.TypeVarEscapes r only h = tt
symbol_below n (definitions.Memory memory) r only h = tt

-- ---- a refusal that is the stated one whatever numbers stand for names no symbol
-- the number of the symbol that a stated fault names
abbrev number_in : {A : Type 0} → Result A (Fault ℕ) → ℕ
number_in (Err (Primitive s)) = number_of s
number_in (Err (AlreadyDefined s)) = number_of s
number_in (Err (SymbolInUse s)) = number_of s
number_in r = 0

apart : (k : SymbolKind) (m : ℕ) → number_of (map_symbol (λ _. 0) (symbol_named k m))
    ≡ number_of (map_symbol (λ _. 1) (symbol_named k m)) → ⊥
apart Con m h = cc
apart TyOp m h = cc

none_named : {A : Type 0} (n : ℕ) (e : DefineFault) (r : Result A (Fault ℕ)) → RefusesRule (rules.Define e) r
    → IsSymbolIn n (rules.Define e)
none_named n definitions.BadDefinitionList r h = tt
none_named n definitions.HypothesesPresent r h = tt
none_named n definitions.NotApplication r h = tt
none_named n definitions.BadTypeVars r h = tt
none_named n (definitions.Primitive c) r h =
    absurd (apart c.kind c.name (ap number_in (sym ((h (λ _. 0)).1 _ refl) ∙ (h (λ _. 1)).1 _ refl)))
none_named n (definitions.AlreadyDefined c) r h =
    absurd (apart c.kind c.name (ap number_in (sym ((h (λ _. 0)).1 _ refl) ∙ (h (λ _. 1)).1 _ refl)))
none_named n (definitions.SymbolInUse c) r h =
    absurd (apart c.kind c.name (ap number_in (sym ((h (λ _. 0)).1 _ refl) ∙ (h (λ _. 1)).1 _ refl)))
none_named n definitions.NotClosed r h = tt
none_named n definitions.TypeVarEscapes r h = tt
none_named n (definitions.Memory memory) r h = tt

pub names_no_symbol : {A : Type 0} (n : ℕ) (e : RuleFault) (r : Result A (Fault ℕ)) → RefusesRule e r → IsSymbolIn n e
names_no_symbol n rules.NotBool r h = tt
names_no_symbol n rules.NotEquation r h = tt
names_no_symbol n rules.NotAlphaEqual r h = tt
names_no_symbol n rules.NotFunction r h = tt
names_no_symbol n rules.ArgumentType r h = tt
names_no_symbol n rules.VarFreeInHyps r h = tt
names_no_symbol n rules.NotRedex r h = tt
names_no_symbol n rules.Nesting r h = tt
names_no_symbol n (rules.Define e) r h = none_named n e r h
names_no_symbol n (rules.Memory memory) r h = tt

-- running out of memory is answered as the rule's own
never_memory : (e : DefineFault) → of_define e ≢ rules.Define (definitions.Memory ran_out)
never_memory definitions.BadDefinitionList q = cc
never_memory definitions.HypothesesPresent q = cc
never_memory definitions.NotApplication q = cc
never_memory definitions.BadTypeVars q = cc
never_memory (definitions.Primitive c) q = cc
never_memory (definitions.AlreadyDefined c) q = cc
never_memory (definitions.SymbolInUse c) q = cc
never_memory definitions.NotClosed q = cc
never_memory definitions.TypeVarEscapes q = cc
never_memory (definitions.Memory memory) q = cc

-- a rule hands the refusal on
handed : {N : Type 0} (read : ℕ → N) (e : DefineFault) → rule_fault read (of_define e) ≡ definition_fault read e
handed read definitions.BadDefinitionList = refl
handed read definitions.HypothesesPresent = refl
handed read definitions.NotApplication = refl
handed read definitions.BadTypeVars = refl
handed read (definitions.Primitive c) = refl
handed read (definitions.AlreadyDefined c) = refl
handed read (definitions.SymbolInUse c) = refl
handed read definitions.NotClosed = refl
handed read definitions.TypeVarEscapes = refl
handed read (definitions.Memory memory) = refl

module _ {ns : List Name} {t : TermTable} {held : Held} {now : State} (l : Later ns ns t t held now now) where
  -- the symbols over the line of alphabets
  pub over_symbol : (s : Symbol ℕ) → PathP (λ i. Symbol (Between l i)) s (map_symbol (name_of ns) s)
  over_symbol (ConSymbol n) = λ i. ConSymbol (over_name (naming ns) n i)
  over_symbol (OpSymbol n) = λ i. OpSymbol (over_name (naming ns) n i)

  pub over_symbols : (ss : List (Symbol ℕ))
      → PathP (λ i. List (Symbol (Between l i))) ss (map (map_symbol (name_of ns)) ss)
  over_symbols ss = over_list (λ i. Symbol (Between l i)) (map_symbol (name_of ns)) over_symbol ss

  -- the names of symbols that the kernel has
  symbol_real : (s : Symbol ℕ) → number_of s < length now.names → map_symbol (name_of ns) s
      ≡ map_symbol (name_at now) s
  symbol_real (ConSymbol n) h = ap ConSymbol (spelled_name l n h)
  symbol_real (OpSymbol n) h = ap OpSymbol (spelled_name l n h)

  pub symbols_real : (ss : List (Symbol ℕ)) → All (λ x. number_of x < length now.names) ss
      → map (map_symbol (name_of ns)) ss ≡ map (map_symbol (name_at now)) ss
  symbols_real [] h = refl
  symbols_real (s ∷ ss) h =
      let a = symbol_real s (All-head (λ (x : Symbol ℕ). number_of x < length now.names) s ss h) in
      let b = symbols_real ss (All-tail (λ (x : Symbol ℕ). number_of x < length now.names) s ss h) in
      λ j. a j ∷ b j

  abbrev Below : Symbol ℕ → Type 0
  Below s = number_of s < length now.names

  real_fault : (e : DefineFault) → ((g : Fault ℕ) → define_fault e ≡ Some g → NamesOnly Below g)
      → definition_fault (name_of ns) e ≡ definition_fault (name_at now) e
  real_fault definitions.BadDefinitionList h = refl
  real_fault definitions.HypothesesPresent h = refl
  real_fault definitions.NotApplication h = refl
  real_fault definitions.BadTypeVars h = refl
  real_fault (definitions.Primitive c) h =
      ap (λ s. Some (Primitive s)) (symbol_real (symbol_of c) (h (Primitive (symbol_of c)) refl))
  real_fault (definitions.AlreadyDefined c) h =
      ap (λ s. Some (AlreadyDefined s)) (symbol_real (symbol_of c) (h (AlreadyDefined (symbol_of c)) refl))
  real_fault (definitions.SymbolInUse c) h =
      ap (λ s. Some (SymbolInUse s)) (symbol_real (symbol_of c) (h (SymbolInUse (symbol_of c)) refl))
  real_fault definitions.NotClosed h = refl
  real_fault definitions.TypeVarEscapes h = refl
  real_fault (definitions.Memory memory) h = refl

  module _ (D : (L : Type 0) → Alphabet L → Type 0) (check : (L : Type 0) (c : Alphabet L) → List (Symbol L)
      → List (Symbol L) → D L c → Result (Unit {0}) (Fault L)) (ds us : List (Symbol ℕ)) (x : D ℕ numbers)
      (y : D Name names) (p : PathP (λ i. D (Between l i) (alphabet_at l i)) x y) where
    abbrev stated : Result (Unit {0}) (Fault Name)
    stated = check Name names (map (map_symbol (name_of ns)) ds) (map (map_symbol (name_of ns)) us) y

    carried : (r : Result (Unit {0}) DefineFault) → Checks r (check ℕ numbers ds us x)
        → ChecksBy (name_of ns) r stated
    carried r h =
        coe 0 1 (i. ChecksBy (λ n. over_name (naming ns) n i) r
        (check (Between l i) (alphabet_at l i) (over_symbols ds i) (over_symbols us i) (p i)))
        (numbered r (check ℕ numbers ds us x) h)

    pub check-passed : (u : Unit {0}) → Checks (Ok u) (check ℕ numbers ds us x) → stated ≡ Ok tt
    check-passed u h = carried (Ok u) h

    pub check-refused : {X : Type 0} (e : DefineFault) → RefusesOnly Below (check ℕ numbers ds us x)
        → Checks (Err e) (check ℕ numbers ds us x) → (rule : Unit {0} → Result X (Fault Name))
        → RefusesBy (name_at now) (of_define e) (stated >>= rule)
    check-refused e only h rule = (
      never_memory e,
      λ f q.
          let known : definition_fault (name_of ns) e ≡ Some f = real_fault e (λ g d. only g (h g d))
          ∙ sym (handed (name_at now) e) ∙ q in
          ap (λ (r : Result (Unit {0}) (Fault Name)). r >>= rule) (carried (Err e) h f known),
    )
