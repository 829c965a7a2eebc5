-- The conditions of definitions as tests, one after another.
use Rattle.std.specs.List.{list_all}
use Rattle.std.specs.Prelude.{◌==◌}
use Rattle.std.proofs.Common.{◌≡◌, Bool, true, false, ◌&&◌, List, [], ◌∷◌, map}
use Rattle.std.proofs.Common.{length, Option, Some, None, Result, refl, sym, ap, ◌∙◌}
use Rattle.ot_logic.specs.Names.{Name}
use Rattle.ot_logic.specs.Naming.{names}
use Rattle.ot_logic.specs.Trees.{Variable, Tm, Sequent, Symbol, ConSymbol, OpSymbol}
use Rattle.ot_logic.specs.Hol.{same_var, vars_tm, symbols_tm, symbols_of}
use Rattle.ot_logic.specs.Answers.{◌>>=◌, unless, some_or}
use Rattle.ot_logic.specs.Faults.{Fault, NotClosed, TypeVarEscapes, BadDefinitionList}
use Rattle.ot_logic.specs.Faults.{HypothesesPresent, NotApplication, BadTypeVars}
use Rattle.ot_laws.specs.Conditions.{are_distinct, are_names_of, is_closed, is_closed_but}
use Rattle.ot_laws.specs.Conditions.{is_empty, function_of, keeps_type_vars, terms_given}
use Rattle.ot_laws.specs.Conditions.{checked_symbols, checked_const, checked_list, checked_type}
use Rattle.ot_log_rules.specs.Symbols.{passes, are_fresh}
use Rattle.ot_log_rules.specs.Conditions.{may_be_given}
use Rattle.ot_log_rules.proofs.Fresh.{passes-then, passes-unless, passes-symbols}

abbrev Stated : Type 0
Stated = Result (Unit {0}) (Fault Name)

-- two conditions at the end
closed-then : (c k : Bool) → passes {E = Fault Name} (unless NotClosed c >>= λ _. unless TypeVarEscapes k) ≡ (c && k)
closed-then c k = passes-then (unless NotClosed c) (unless TypeVarEscapes k)
    ∙ (λ i. passes-unless {E = Fault Name} NotClosed c i && passes-unless {E = Fault Name} TypeVarEscapes k i)

pub passes-const : (defined used : List (Symbol Name)) (n : Name) (t : Tm Name)
    → passes (checked_const names defined used n t) ≡ (are_fresh defined used (symbols_tm names t) (ConSymbol n ∷ [])
    && (is_closed names t && keeps_type_vars names t))
passes-const defined used n t =
    passes-then (checked_symbols names defined used (symbols_tm names t) (ConSymbol n ∷ []))
    (unless NotClosed (is_closed names t) >>= λ _. unless TypeVarEscapes (keeps_type_vars names t))
    ∙ (λ i. passes-symbols defined used (symbols_tm names t) (ConSymbol n ∷ []) i && closed-then (is_closed names t)
    (keeps_type_vars names t) i)

-- ---- a list of constants
-- a test of each of two, and a test between them
between : (p q : Tm Name → Bool) (c : Bool) (ts : List (Tm Name)) → ((list_all p ts && c) && list_all q ts)
    ≡ (list_all (λ t. p t && q t) ts && c)
between p q c [] = both c
  where
    both : (c : Bool) → ((true && c) && true) ≡ (true && c)
    both true = refl
    both false = refl
between p q c (t ∷ ts) = by (p t) (q t) (list_all p ts) (list_all q ts) c
    ∙ ap (λ b. (p t && q t) && b) (between p q c ts) ∙ regroup (p t && q t) (list_all (λ t. p t && q t) ts) c
  where
    regroup : (a b d : Bool) → (a && (b && d)) ≡ ((a && b) && d)
    regroup true b d = refl
    regroup false b d = refl

    by : (a b x y c : Bool) → (((a && x) && c) && (b && y)) ≡ ((a && b) && ((x && c) && y))
    by true true x y c = refl
    by true false x y c = last ((x && c))
      where
        last : (z : Bool) → (z && false) ≡ false
        last true = refl
        last false = refl
    by false b x y c = refl

-- what the conditions of a list ask of the terms that were given
abbrev pub passes_given : (defined used : List (Symbol Name)) → List Name → List (Variable Name) → Sequent Name
    → Option (List (Tm Name)) → Bool
passes_given defined used ns vs q None = false
passes_given defined used ns vs q (Some ts) = are_fresh defined used (symbols_of names q) (map ConSymbol ns)
    && (list_all (may_be_given names) ts && is_closed_but names vs q.concl)

abbrev after_list : (defined used : List (Symbol Name)) → List Name → List (Variable Name) → Sequent Name
    → List (Tm Name) → Stated
after_list defined used ns vs q ts = checked_symbols names defined used (symbols_of names q) (map ConSymbol ns)
    >>= λ _. unless NotClosed (list_all (is_closed names) ts && is_closed_but names vs q.concl)
    >>= λ _. unless TypeVarEscapes (list_all (keeps_type_vars names) ts)

pub passes-list : (defined used : List (Symbol Name)) (ns : List Name) (vs : List (Variable Name)) (q : Sequent Name)
    → passes (checked_list names defined used ns vs q)
    ≡ ((are_distinct names.same ns && are_distinct (same_var names) vs && (length q.hyps == length vs))
    && passes_given defined used ns vs q (terms_given names q.hyps vs))
passes-list defined used ns vs q =
    passes-then
    (unless BadDefinitionList
    (are_distinct names.same ns && are_distinct (same_var names) vs && (length q.hyps == length vs)))
    (some_or BadDefinitionList (terms_given names q.hyps vs) >>= after_list defined used ns vs q)
    ∙ (λ i. passes-unless {E = Fault Name} BadDefinitionList
    (are_distinct names.same ns && are_distinct (same_var names) vs && (length q.hyps == length vs)) i
    && rest (terms_given names q.hyps vs) i)
  where
    rest : (o : Option (List (Tm Name))) → passes (some_or BadDefinitionList o >>= after_list defined used ns vs q)
        ≡ passes_given defined used ns vs q o
    rest None = refl
    rest (Some ts) =
        passes-then (checked_symbols names defined used (symbols_of names q) (map ConSymbol ns))
        (unless NotClosed (list_all (is_closed names) ts && is_closed_but names vs q.concl)
        >>= λ _. unless TypeVarEscapes (list_all (keeps_type_vars names) ts))
        ∙ (λ i. passes-symbols defined used (symbols_of names q) (map ConSymbol ns) i
        && (closed-then (list_all (is_closed names) ts && is_closed_but names vs q.concl)
        (list_all (keeps_type_vars names) ts)
        ∙ between (is_closed names) (keeps_type_vars names) (is_closed_but names vs q.concl) ts) i)

-- ---- a type operator
abbrev pub passes_type : (defined used : List (Symbol Name)) → (n abs rep : Name) → List Name → Sequent Name
    → Option (Tm Name) → Bool
passes_type defined used n abs rep vars q None = false
passes_type defined used n abs rep vars q (Some p) =
    (are_distinct names.same vars && are_names_of names (vars_tm names p) vars)
    && (are_fresh defined used (symbols_of names q) (OpSymbol n ∷ ConSymbol abs ∷ ConSymbol rep ∷ [])
    && is_closed names p)

abbrev after_type : (defined used : List (Symbol Name)) → (n abs rep : Name) → List Name → Sequent Name → Tm Name
    → Stated
after_type defined used n abs rep vars q p =
    unless BadTypeVars (are_distinct names.same vars && are_names_of names (vars_tm names p) vars)
    >>= λ _. checked_symbols names defined used (symbols_of names q) (OpSymbol n ∷ ConSymbol abs ∷ ConSymbol rep ∷ [])
    >>= λ _. unless NotClosed (is_closed names p)

pub passes-type : (defined used : List (Symbol Name)) (n abs rep : Name) (vars : List Name) (q : Sequent Name)
    → passes (checked_type names defined used n abs rep vars q)
    ≡ (is_empty q.hyps && passes_type defined used n abs rep vars q (function_of q.concl))
passes-type defined used n abs rep vars q =
    passes-then (unless HypothesesPresent (is_empty q.hyps))
    (some_or NotApplication (function_of q.concl) >>= after_type defined used n abs rep vars q)
    ∙ (λ i. passes-unless {E = Fault Name} HypothesesPresent (is_empty q.hyps) i && rest (function_of q.concl) i)
  where
    rest : (o : Option (Tm Name)) → passes (some_or NotApplication o >>= after_type defined used n abs rep vars q)
        ≡ passes_type defined used n abs rep vars q o
    rest None = refl
    rest (Some p) =
        passes-then (unless BadTypeVars (are_distinct names.same vars && are_names_of names (vars_tm names p) vars))
        (checked_symbols names defined used (symbols_of names q) (OpSymbol n ∷ ConSymbol abs ∷ ConSymbol rep ∷ [])
        >>= λ _. unless NotClosed (is_closed names p))
        ∙ (λ i. passes-unless {E = Fault Name} BadTypeVars
        (are_distinct names.same vars && are_names_of names (vars_tm names p) vars) i
        && (passes-then
        (checked_symbols names defined used (symbols_of names q)
        (OpSymbol n ∷ ConSymbol abs ∷ ConSymbol rep ∷ [])) (unless NotClosed (is_closed names p))
        ∙ (λ j. passes-symbols defined used (symbols_of names q) (OpSymbol n ∷ ConSymbol abs ∷ ConSymbol rep ∷ []) j
        && passes-unless {E = Fault Name} NotClosed (is_closed names p) j)) i)

-- ---- where the code leaves the conditions of a list
module _ (defined used : List (Symbol Name)) (ns : List Name) (vs : List (Variable Name)) (q : Sequent Name)
    (b : Bool) (paired : b
    ≡ (are_distinct names.same ns && are_distinct (same_var names) vs && (length q.hyps == length vs))) where
  pub list-unpaired : b ≡ false → false ≡ passes (checked_list names defined used ns vs q)
  list-unpaired contrary =
      sym (passes-list defined used ns vs q
      ∙ ap (λ c. c && passes_given defined used ns vs q (terms_given names q.hyps vs)) (sym paired ∙ contrary))

  passes-paired : b ≡ true → (o : Option (List (Tm Name))) → terms_given names q.hyps vs ≡ o
      → passes (checked_list names defined used ns vs q) ≡ passes_given defined used ns vs q o
  passes-paired so o e = passes-list defined used ns vs q
      ∙ (λ i. (sym paired ∙ so) i && passes_given defined used ns vs q (e i))

  pub list-ungiven : b ≡ true → terms_given names q.hyps vs ≡ None
      → false ≡ passes (checked_list names defined used ns vs q)
  list-ungiven so e = sym (passes-paired so None e)

  module _ (so : b ≡ true) (ts : List (Tm Name)) (given : terms_given names q.hyps vs ≡ Some ts) (f : Bool)
      (fresh : f ≡ are_fresh defined used (symbols_of names q) (map ConSymbol ns)) where
    pub list-stale : f ≡ false → false ≡ passes (checked_list names defined used ns vs q)
    list-stale contrary =
        sym (passes-paired so (Some ts) given
        ∙ ap (λ c. c && (list_all (may_be_given names) ts && is_closed_but names vs q.concl)) (sym fresh ∙ contrary))

    pub list-passes : f ≡ true → (r : Bool) → r ≡ (list_all (may_be_given names) ts && is_closed_but names vs q.concl)
        → r ≡ passes (checked_list names defined used ns vs q)
    list-passes is r e =
        e ∙ sym (passes-paired so (Some ts) given
        ∙ ap (λ c. c && (list_all (may_be_given names) ts && is_closed_but names vs q.concl)) (sym fresh ∙ is))

-- and of a type operator
module _ (defined used : List (Symbol Name)) (n abs rep : Name) (vars : List Name) (q : Sequent Name) where
  pub type-hyps : is_empty q.hyps ≡ false → false ≡ passes (checked_type names defined used n abs rep vars q)
  type-hyps contrary =
      sym (passes-type defined used n abs rep vars q
      ∙ ap (λ c. c && passes_type defined used n abs rep vars q (function_of q.concl)) contrary)

  passes-bare : is_empty q.hyps ≡ true → (o : Option (Tm Name)) → function_of q.concl ≡ o
      → passes (checked_type names defined used n abs rep vars q) ≡ passes_type defined used n abs rep vars q o
  passes-bare so o e = passes-type defined used n abs rep vars q
      ∙ (λ i. so i && passes_type defined used n abs rep vars q (e i))

  pub type-no_app : is_empty q.hyps ≡ true → function_of q.concl ≡ None
      → false ≡ passes (checked_type names defined used n abs rep vars q)
  type-no_app so e = sym (passes-bare so None e)

  module _ (so : is_empty q.hyps ≡ true) (p : Tm Name) (app : function_of q.concl ≡ Some p) (b : Bool)
      (listed : b ≡ (are_distinct names.same vars && are_names_of names (vars_tm names p) vars)) where
    abbrev type_rest : Bool
    type_rest = are_fresh defined used (symbols_of names q) (OpSymbol n ∷ ConSymbol abs ∷ ConSymbol rep ∷ [])
        && is_closed names p

    pub type-unlisted : b ≡ false → false ≡ passes (checked_type names defined used n abs rep vars q)
    type-unlisted contrary = sym (passes-bare so (Some p) app ∙ ap (λ c. c && type_rest) (sym listed ∙ contrary))

    pub type-passes : b ≡ true → (r : Bool)
        → r ≡ (are_fresh defined used (symbols_of names q) (OpSymbol n ∷ ConSymbol abs ∷ ConSymbol rep ∷ [])
        && is_closed names p) → r ≡ passes (checked_type names defined used n abs rep vars q)
    type-passes is r e = e ∙ sym (passes-bare so (Some p) app ∙ ap (λ c. c && type_rest) (sym listed ∙ is))
