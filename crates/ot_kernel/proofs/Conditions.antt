-- The conditions of definitions: what symbols their refusals name, and lists of the same members.
use Rattle.std.specs.Prelude.{◌≡◌, ◌==◌, Bool, true, false, ◌&&◌, ◌||◌, if◌then◌else◌, List}
use Rattle.std.specs.Prelude.{[], ◌∷◌, map, length, Option, Some, None, Result, Ok, Err}
use Rattle.std.specs.List.{list_all}
use Rattle.std.proofs.Common.{refl, ap, subst, inl, inr}
use Rattle.ot_logic.specs.Lists.{IsMember, IsSameSet}
use Rattle.ot_logic.specs.Trees.{Alphabet, Variable, Tm, Sequent, Symbol, ConSymbol, OpSymbol, Definition}
use Rattle.ot_logic.specs.Hol.{same_var, vars_tm, symbols_tm, symbols_of, primitives, defined, used}
use Rattle.ot_logic.specs.Faults.{Fault, Primitive, AlreadyDefined, SymbolInUse, NotClosed, TypeVarEscapes}
use Rattle.ot_logic.specs.Faults.{BadDefinitionList, HypothesesPresent, NotApplication, BadTypeVars}
use Rattle.ot_logic.specs.Answers.{◌>>=◌, unless, some_or}
use Rattle.ot_laws.proofs.Tests.{Tells}
use Rattle.ot_laws.specs.Conditions.{is_among, refuse_first, refuse_defined, checked_symbols, is_closed}
use Rattle.ot_laws.specs.Conditions.{is_closed_but, are_names_of, keeps_type_vars, are_distinct, is_empty}
use Rattle.ot_laws.specs.Conditions.{function_of, terms_given, checked_const, checked_list, checked_type}
use Rattle.ot_laws.specs.Next.{AreSymbolsOf}
use Rattle.ot_laws.proofs.Membership.{is_among-same_set}
use Rattle.ot_kernel.specs.Defining.{all_defined, all_used}
use Rattle.ot_logic.proofs.Members.{IsMember-flat_map, IsMember-flat_map_back}

-- ---- the symbols that a refusal names
abbrev pub NamesOnly : {N : Type 0} → (Symbol N → Type 0) → Fault N → Type 0
NamesOnly P (Primitive s) = P s
NamesOnly P (AlreadyDefined s) = P s
NamesOnly P (SymbolInUse s) = P s
NamesOnly P _ = Unit {0}

-- each refusal of a step names such symbols only
abbrev pub RefusesOnly : {A N : Type 0} → (Symbol N → Type 0) → Result A (Fault N) → Type 0
RefusesOnly {A} {N} P r = (f : Fault N) → r ≡ Err f → NamesOnly P f

module _ {N : Type 0} (P : Symbol N → Type 0) where
  then_only : {A B : Type 0} (r : Result A (Fault N)) (k : A → Result B (Fault N)) → RefusesOnly P r
      → ((x : A) → RefusesOnly P (k x)) → RefusesOnly P (r >>= k)
  then_only (Ok x) k h g f e = g x f e
  then_only (Err x) k h g f e = h f (let same : x ≡ f = cc in ap Err same)

  unless_only : (g : Fault N) (b : Bool) → NamesOnly P g → RefusesOnly P (unless g b)
  unless_only g true h f e = cc
  unless_only g false h f e = let same : g ≡ f = cc in subst (NamesOnly P) same h

  some_or_only : {A : Type 0} (g : Fault N) (o : Option A) → NamesOnly P g → RefusesOnly P (some_or g o)
  some_or_only g (Some x) h f e = cc
  some_or_only g None h f e = let same : g ≡ f = cc in subst (NamesOnly P) same h

  module _ (alphabet : Alphabet N) where
    first_only : (fault : Symbol N → Fault N) → ((s : Symbol N) → P s → NamesOnly P (fault s))
        → (test : Symbol N → Bool) (ss : List (Symbol N)) → ((s : Symbol N) → IsMember s ss → P s)
        → RefusesOnly P (refuse_first alphabet fault test ss)
    first_only fault h test [] all f e = cc
    first_only fault h test (s ∷ ss) all f e = by (test s) (first_only fault h test ss (λ x m. all x (inr m))) e
      where
        by : (b : Bool) → RefusesOnly P (refuse_first alphabet fault test ss)
            → (if b then Err (fault s) else refuse_first alphabet fault test ss) ≡ Err f → NamesOnly P f
        by true rest k = let same : fault s ≡ f = cc in subst (NamesOnly P) same (h s (all s (inl refl)))
        by false rest k = rest f k

    defined_only : (ds ss : List (Symbol N)) → ((s : Symbol N) → IsMember s ss → P s)
        → RefusesOnly P (refuse_defined alphabet ds ss)
    defined_only ds [] all f e = cc
    defined_only ds (s ∷ ss) all f e = by (is_among alphabet s ds) (defined_only (s ∷ ds) ss (λ x m. all x (inr m))) e
      where
        by : (b : Bool) → RefusesOnly P (refuse_defined alphabet (s ∷ ds) ss)
            → (if b then Err (AlreadyDefined s) else refuse_defined alphabet (s ∷ ds) ss) ≡ Err f → NamesOnly P f
        by true rest k = let same : AlreadyDefined s ≡ f = cc in subst (NamesOnly P) same (all s (inl refl))
        by false rest k = rest f k

    symbols_only : (ds us ps ss : List (Symbol N)) → ((s : Symbol N) → IsMember s ss → P s)
        → RefusesOnly P (checked_symbols alphabet ds us ps ss)
    symbols_only ds us ps ss all =
        then_only (refuse_first alphabet Primitive (λ s. is_among alphabet s (primitives alphabet)) ss)
        (λ _. refuse_defined alphabet ds ss >>= λ _. refuse_first alphabet SymbolInUse
        (λ s. is_among alphabet s ps || is_among alphabet s us) ss)
        (first_only Primitive (λ s p. p) (λ s. is_among alphabet s (primitives alphabet)) ss all)
        (λ _. then_only (refuse_defined alphabet ds ss)
        (λ _. refuse_first alphabet SymbolInUse (λ s. is_among alphabet s ps || is_among alphabet s us) ss)
        (defined_only ds ss all)
        (λ _. first_only SymbolInUse (λ s p. p) (λ s. is_among alphabet s ps || is_among alphabet s us) ss all))

    pub const_only : (ds us : List (Symbol N)) (n : N) (t : Tm N) → P (ConSymbol n)
        → RefusesOnly P (checked_const alphabet ds us n t)
    const_only ds us n t p =
        then_only (checked_symbols alphabet ds us (symbols_tm alphabet t) (ConSymbol n ∷ []))
        (λ _. unless NotClosed (is_closed alphabet t) >>= λ _. unless TypeVarEscapes (keeps_type_vars alphabet t))
        (symbols_only ds us (symbols_tm alphabet t) (ConSymbol n ∷ [])
        (λ s m. elim m [ inl e ↦ subst P e p | inr x ↦ absurd x ]))
        (λ _. then_only (unless NotClosed (is_closed alphabet t))
        (λ _. unless TypeVarEscapes (keeps_type_vars alphabet t))
        (unless_only NotClosed (is_closed alphabet t) tt)
        (λ _. unless_only TypeVarEscapes (keeps_type_vars alphabet t) tt))

    pub list_only : (ds us : List (Symbol N)) (ns : List N) (vs : List (Variable N)) (q : Sequent N)
        → ((s : Symbol N) → IsMember s (map ConSymbol ns) → P s) → RefusesOnly P (checked_list alphabet ds us ns vs q)
    list_only ds us ns vs q all =
        let paired = are_distinct alphabet.same ns && are_distinct (same_var alphabet) vs
        && (length q.hyps == length vs) in
        let terms = some_or {E = Fault N} BadDefinitionList (terms_given alphabet q.hyps vs) in
        let symbols = checked_symbols alphabet ds us (symbols_of alphabet q) (map ConSymbol ns) in
        let are_closed = λ (ts : List (Tm N)). list_all (is_closed alphabet) ts
        && is_closed_but alphabet vs q.concl in
        let closed = λ (ts : List (Tm N)). unless {E = Fault N} NotClosed (are_closed ts) in
        let kept =
        λ (ts : List (Tm N)). unless {E = Fault N} TypeVarEscapes (list_all (keeps_type_vars alphabet) ts) in
        then_only (unless BadDefinitionList paired) (λ _. terms >>= λ ts. symbols >>= λ _. closed ts >>= λ _. kept ts)
        (unless_only BadDefinitionList paired tt)
        (λ _. then_only terms (λ ts. symbols >>= λ _. closed ts >>= λ _. kept ts)
        (some_or_only BadDefinitionList (terms_given alphabet q.hyps vs) tt)
        (λ ts. then_only symbols (λ _. closed ts >>= λ _. kept ts)
        (symbols_only ds us (symbols_of alphabet q) (map ConSymbol ns) all)
        (λ _. then_only (closed ts) (λ _. kept ts) (unless_only NotClosed (are_closed ts) tt)
        (λ _. unless_only TypeVarEscapes (list_all (keeps_type_vars alphabet) ts) tt))))

    pub type_only : (ds us : List (Symbol N)) (n abs rep : N) (vars : List N) (q : Sequent N) → P (OpSymbol n)
        → P (ConSymbol abs) → P (ConSymbol rep) → RefusesOnly P (checked_type alphabet ds us n abs rep vars q)
    type_only ds us n abs rep vars q h g k =
        let none = unless {E = Fault N} HypothesesPresent (is_empty q.hyps) in
        let app = some_or {E = Fault N} NotApplication (function_of q.concl) in
        let are_listed = λ (p : Tm N). are_distinct alphabet.same vars && are_names_of alphabet (vars_tm alphabet p)
        vars in
        let listed = λ (p : Tm N). unless {E = Fault N} BadTypeVars (are_listed p) in
        let ss = OpSymbol n ∷ ConSymbol abs ∷ ConSymbol rep ∷ [] in
        let all : (s : Symbol N) → IsMember s ss → P s =
        λ s m. elim m [
          | inl a ↦ subst P a h
          | inr x ↦
              elim x [ inl b ↦ subst P b g | inr y ↦ elim y [ inl c ↦ subst P c k | inr z ↦ absurd z ] ]
        ] in
        let symbols = checked_symbols alphabet ds us (symbols_of alphabet q) ss in
        let closed = λ (p : Tm N). unless {E = Fault N} NotClosed (is_closed alphabet p) in
        then_only none (λ _. app >>= λ p. listed p >>= λ _. symbols >>= λ _. closed p)
        (unless_only HypothesesPresent (is_empty q.hyps) tt)
        (λ _. then_only app (λ p. listed p >>= λ _. symbols >>= λ _. closed p)
        (some_or_only NotApplication (function_of q.concl) tt)
        (λ p. then_only (listed p) (λ _. symbols >>= λ _. closed p) (unless_only BadTypeVars (are_listed p) tt)
        (λ _. then_only symbols (λ _. closed p) (symbols_only ds us (symbols_of alphabet q) ss all)
        (λ _. unless_only NotClosed (is_closed alphabet p) tt))))

-- ---- lists of the same members
module _ {N : Type 0} (alphabet : Alphabet N) (tells : Tells alphabet) where
  first-same : (fault : Symbol N → Fault N) (p q : Symbol N → Bool) → ((s : Symbol N) → p s ≡ q s)
      → (ss : List (Symbol N)) → refuse_first alphabet fault p ss ≡ refuse_first alphabet fault q ss
  first-same fault p q h [] = refl
  first-same fault p q h (s ∷ ss) = let a = h s in let b = first-same fault p q h ss in
      λ j. if a j then Err (fault s) else b j

  same_set-cons : {X : Type 0} (x : X) (xs ys : List X) → IsSameSet xs ys → IsSameSet (x ∷ xs) (x ∷ ys)
  same_set-cons x xs ys s =
      record {
        to = λ z m. elim m [ inl e ↦ inl e | inr i ↦ inr (s.to z i) ];
        back = λ z m. elim m [ inl e ↦ inl e | inr i ↦ inr (s.back z i) ];
      }

  defined-same : (ds es ss : List (Symbol N)) → IsSameSet ds es → refuse_defined alphabet ds ss
      ≡ refuse_defined alphabet es ss
  defined-same ds es [] h = refl
  defined-same ds es (s ∷ ss) h =
      let a = is_among-same_set alphabet tells s ds es h in
      let b = defined-same (s ∷ ds) (s ∷ es) ss (same_set-cons s ds es h) in
      λ j. if a j then Err (AlreadyDefined s) else b j

  pub symbols-same : (ds es us vs ps ss : List (Symbol N)) → IsSameSet ds es → IsSameSet us vs
      → checked_symbols alphabet ds us ps ss ≡ checked_symbols alphabet es vs ps ss
  symbols-same ds es us vs ps ss h g =
      let a = defined-same ds es ss h in
      let b = first-same SymbolInUse (λ s. is_among alphabet s ps || is_among alphabet s us)
      (λ s. is_among alphabet s ps || is_among alphabet s vs)
      (λ s. ap (λ c. is_among alphabet s ps || c) (is_among-same_set alphabet tells s us vs g)) ss in
      λ j. refuse_first alphabet Primitive (λ s. is_among alphabet s (primitives alphabet)) ss >>= λ _. a j
      >>= λ _. b j

  pub list-same : (ds es us vs : List (Symbol N)) (ns : List N) (xs : List (Variable N)) (q : Sequent N)
      → IsSameSet ds es → IsSameSet us vs → checked_list alphabet ds us ns xs q ≡ checked_list alphabet es vs ns xs q
  list-same ds es us vs ns xs q h g =
      ap (λ (r : Result (Unit {0}) (Fault N)). unless BadDefinitionList
      (are_distinct alphabet.same ns && are_distinct (same_var alphabet) xs && (length q.hyps == length xs))
      >>= λ _. some_or BadDefinitionList (terms_given alphabet q.hyps xs)
      >>= λ ts. r >>= λ _. unless NotClosed (list_all (is_closed alphabet) ts && is_closed_but alphabet xs q.concl)
      >>= λ _. unless TypeVarEscapes (list_all (keeps_type_vars alphabet) ts))
      (symbols-same ds es us vs (symbols_of alphabet q) (map ConSymbol ns) h g)

  pub type-same : (ds es us vs : List (Symbol N)) (n abs rep : N) (vars : List N) (q : Sequent N) → IsSameSet ds es
      → IsSameSet us vs → checked_type alphabet ds us n abs rep vars q ≡ checked_type alphabet es vs n abs rep vars q
  type-same ds es us vs n abs rep vars q h g =
      ap (λ (r : Result (Unit {0}) (Fault N)). unless HypothesesPresent (is_empty q.hyps)
      >>= λ _. some_or NotApplication (function_of q.concl)
      >>= λ p. unless BadTypeVars (are_distinct alphabet.same vars && are_names_of alphabet (vars_tm alphabet p) vars)
      >>= λ _. r >>= λ _. unless NotClosed (is_closed alphabet p))
      (symbols-same ds es us vs (symbols_of alphabet q) (OpSymbol n ∷ ConSymbol abs ∷ ConSymbol rep ∷ []) h g)

  -- the lists of a run have the symbols of its definitions
  pub all_defined-same : (dl : List (Definition N)) (defs uses : List (Symbol N)) → AreSymbolsOf alphabet dl defs uses
      → IsSameSet defs (all_defined alphabet dl)
  all_defined-same dl defs uses h = record {
    to = λ s m. let r = (h.defined s).0 m in IsMember-flat_map (defined alphabet) s r.0 dl r.1 r.2;
    back = λ s m. (h.defined s).1 (IsMember-flat_map_back (defined alphabet) s dl m);
  }

  pub all_used-same : (dl : List (Definition N)) (defs uses : List (Symbol N)) → AreSymbolsOf alphabet dl defs uses
      → IsSameSet uses (all_used alphabet dl)
  all_used-same dl defs uses h = record {
    to = λ s m. let r = (h.used s).0 m in IsMember-flat_map (used alphabet) s r.0 dl r.1 r.2;
    back = λ s m. (h.used s).1 (IsMember-flat_map_back (used alphabet) s dl m);
  }
