-- A definition whose conditions hold after some definitions: so they do after the same ones, of the same premise.
use Rattle.std.specs.Prelude.{◌==◌, ◌||◌, ◌&&◌}
use Rattle.std.specs.List.{list_all}
use Rattle.std.specs.Option.{option_map, option_and_then}
use Rattle.std.proofs.Common.{◌≡◌, ℕ, Bool, List, [], ◌∷◌, ◌++◌, map, length, Option, Some}
use Rattle.std.proofs.Common.{None, Result, Ok, refl, sym, ap, subst, ◌∙◌, inl, inr, ◌⊎◌, arith}
use Rattle.ot_logic.specs.Lists.{IsMember, IsPart, IsSameSet, AreDistinct}
use Rattle.ot_logic.specs.Names.{Name}
use Rattle.ot_logic.specs.Naming.{names}
use Rattle.ot_logic.specs.Trees.{Variable, Tm, Sequent, Symbol, ConSymbol}
use Rattle.ot_logic.specs.Trees.{OpSymbol, Definition, ConDef, ListDef, TyDef}
use Rattle.ot_logic.specs.Hol.{same_var, as_equation, symbols_tm, symbols_all, symbols_of}
use Rattle.ot_logic.specs.Hol.{symbols_in, defined, used, theorems, vars_tm, primitives}
use Rattle.ot_logic.specs.Faults.{Fault, Primitive, SymbolInUse, BadDefinitionList, HypothesesPresent}
use Rattle.ot_logic.specs.Faults.{NotApplication, BadTypeVars, NotClosed, TypeVarEscapes}
use Rattle.ot_logic.specs.Answers.{◌>>=◌, unless, some_or}
use Rattle.ot_laws.specs.Conditions.{is_among, refuse_first, refuse_defined, checked_symbols, checked_const}
use Rattle.ot_laws.specs.Conditions.{checked_list, checked_type, are_distinct, only, given_by, given, terms_given}
use Rattle.ot_laws.specs.Conditions.{is_empty, function_of, are_names_of, is_closed, is_closed_but, keeps_type_vars}
use Rattle.ot_laws.proofs.Tests.{tells_names}
use Rattle.ot_laws.proofs.Steps.{and_then-some}
use Rattle.ot_laws.proofs.Membership.{is_among-same_set}
use Rattle.ot_laws.proofs.Sets.{same_set-self, same_set-append}
use Rattle.ot_logic.proofs.Members.{distinct-length}
use Rattle.ot_laws.proofs.Hypotheses.{same_sequent-is}
use Rattle.ot_kernel.specs.Defining.{all_defined, all_used}
use Rattle.ot_machine.specs.States.{Made}
use Rattle.ot_machine.specs.Rows.{definitions_of}
use Rattle.ot_print.specs.Laws.{IsDefinitionOf}
use Rattle.ot_log_law.specs.Checked.{AreSame}
use Rattle.ot_logic.proofs.Members.{IsMember-cases, IsMember-left, IsMember-right}
use Rattle.ot_logic.proofs.Results.{bind-ok, some_or-ok}

-- ---- symbols

abbrev Symbols : Type 0
Symbols = List (Symbol Name)

symbols-same : (defs uses uses' premise premise' ss : Symbols) → IsSameSet uses uses' → IsSameSet premise premise'
    → checked_symbols names defs uses premise ss ≡ checked_symbols names defs uses' premise' ss
symbols-same defs uses uses' premise premise' ss u p = λ i.
    refuse_first names Primitive (λ s. is_among names s (primitives names)) ss >>= λ _. refuse_defined names defs ss
    >>= λ _.
    refuse_first names SymbolInUse
    (λ s. is_among-same_set names tells_names s premise premise' p i || is_among-same_set names tells_names s uses
    uses' u i) ss

all-symbols : (ts : List (Tm Name)) (s : Symbol Name) → IsMember s (symbols_all names ts)
    → (t : Tm Name) × IsMember t ts × IsMember s (symbols_tm names t)
all-symbols [] s m = absurd m
all-symbols (t ∷ ts) s m = elim (IsMember-cases s (symbols_tm names t) (symbols_all names ts) m) [
  | inl a ↦ (t, inl refl, a)
  | inr b ↦ (let r = all-symbols ts s b in (r.0, inr r.1, r.2))
]

symbols-all : (ts : List (Tm Name)) (t : Tm Name) (s : Symbol Name) → IsMember t ts → IsMember s (symbols_tm names t)
    → IsMember s (symbols_all names ts)
symbols-all [] t s m h = absurd m
symbols-all (u ∷ ts) t s (inl e) h =
    IsMember-left s (symbols_tm names u) (symbols_all names ts)
    (subst (λ z. IsMember s (symbols_tm names z)) (sym e) h)
symbols-all (u ∷ ts) t s (inr m) h =
    IsMember-right s (symbols_tm names u) (symbols_all names ts) (symbols-all ts t s m h)

all-part : (g h : List (Tm Name)) → IsPart g h → IsPart (symbols_all names g) (symbols_all names h)
all-part g h p s m = let r = all-symbols g s m in symbols-all h r.0 s (p r.0 r.1) r.2

pub sequent-symbols : (q r : Sequent Name) → IsSameSet q.hyps r.hyps → q.concl ≡ r.concl
    → IsSameSet (symbols_of names q) (symbols_of names r)
sequent-symbols q r s e =
    subst (λ z. IsSameSet (symbols_of names q) (symbols_all names r.hyps ++ symbols_tm names z)) e
    (same_set-append (record { to = all-part q.hyps r.hyps s.to; back = all-part r.hyps q.hyps s.back })
    (same_set-self (symbols_tm names q.concl)))

-- ---- the hypotheses that give variables their terms

module _ (v : Variable Name) where
  abbrev f : Tm Name → List (Tm Name)
  f h = given_by names v (as_equation names h)

  -- one hypothesis gives the term
  record GivesOne (hs : List (Tm Name)) (t : Tm Name) : Type 0 where
    of : Tm Name
    there : IsMember of hs
    gives : f of ≡ t ∷ []
    others : (k : Tm Name) → IsMember k hs → (k ≡ of) ⊎ (f k ≡ [])

  none-gives : (hs : List (Tm Name)) → given names hs v ≡ [] → (k : Tm Name) → IsMember k hs → f k ≡ []
  none-gives [] e k m = absurd m
  none-gives (h ∷ hs) e k m = by (f h) refl e (none-gives hs) m
    where
      by : (l : List (Tm Name)) → f h ≡ l → (l ++ given names hs v) ≡ []
          → (given names hs v ≡ [] → (k : Tm Name) → IsMember k hs → f k ≡ []) → IsMember k (h ∷ hs) → f k ≡ []
      by [] g a later (inl b) = subst (λ z. f z ≡ []) b g
      by [] g a later (inr b) = later a k b
      by (x ∷ xs) g a later b = absurd (cc)

  gives-one : (hs : List (Tm Name)) (t : Tm Name) → given names hs v ≡ t ∷ [] → GivesOne hs t
  gives-one [] t e = absurd (cc)
  gives-one (h ∷ hs) t e = by (f h) refl e (gives-one hs t)
    where
      by : (l : List (Tm Name)) → f h ≡ l → (l ++ given names hs v) ≡ t ∷ []
          → (given names hs v ≡ t ∷ [] → GivesOne hs t)
          → GivesOne (h ∷ hs) t
      by [] g a later =
          let r = later a in
          record {
            of = r.of;
            there = inr r.there;
            gives = r.gives;
            others = λ k m. elim m [ inl b ↦ inr (subst (λ z. f z ≡ []) b g) | inr b ↦ r.others k b ];
          }
      by (x ∷ []) g a later =
          let same : x ≡ t = cc in
          let rest : given names hs v ≡ [] = cc in
          record {
            of = h;
            there = inl refl;
            gives = g ∙ ap (λ z. z ∷ []) same;
            others = λ k m. elim m [ inl b ↦ inl (sym b) | inr b ↦ inr (none-gives hs rest k b) ];
          }
      by (x ∷ y ∷ xs) g a later = absurd (cc)

  none-given : (hs : List (Tm Name)) → ((k : Tm Name) → IsMember k hs → f k ≡ []) → given names hs v ≡ []
  none-given [] h = refl
  none-given (k ∷ ks) h = ap (λ l. l ++ given names ks v) (h k (inl refl)) ∙ none-given ks (λ j m. h j (inr m))

  one-given : (hs : List (Tm Name)) (t : Tm Name) → AreDistinct hs → GivesOne hs t → given names hs v ≡ t ∷ []
  one-given [] t d g = absurd g.there
  one-given (k ∷ ks) t d g = elim g.there [
    | inl e ↦
        (let rest : given names ks v ≡ [] =
        none-given ks
        (λ j m. elim (g.others j (inr m)) [
          | inl a ↦ absurd (d.0 (subst (λ z. IsMember z ks) (a ∙ sym e) m))
          | inr b ↦
              b
        ]) in
        let own : f k ≡ t ∷ [] = ap f e ∙ g.gives in
        λ i. own i ++ rest i)
    | inr m ↦
        (let own : f k ≡ [] =
        elim (g.others k (inl refl)) [ inl a ↦ absurd (d.0 (subst (λ z. IsMember z ks) (sym a) m)) | inr b ↦ b ] in
        ap (λ l. l ++ given names ks v) own ∙ one-given ks t d.1
        (record { of = g.of; there = m; gives = g.gives; others = λ j n. g.others j (inr n) }))
  ]

  only-is : (xs : List (Tm Name)) (t : Tm Name) → only xs ≡ Some t → xs ≡ t ∷ []
  only-is [] t e = absurd (cc)
  only-is (x ∷ []) t e = let same : x ≡ t = cc in ap (λ z. z ∷ []) same
  only-is (x ∷ y ∷ xs) t e = absurd (cc)

  pub only-same : (g h : List (Tm Name)) (t : Tm Name) → IsSameSet g h → AreDistinct h
      → only (given names g v) ≡ Some t
      → only (given names h v) ≡ Some t
  only-same g h t s d e =
      let r = gives-one g t (only-is (given names g v) t e) in
      ap only (one-given h t d
      (record { of = r.of; there = s.to r.of r.there; gives = r.gives; others = λ k m. r.others k (s.back k m) }))

terms-same : (g h : List (Tm Name)) → IsSameSet g h → AreDistinct h
    → (vs : List (Variable Name)) (ts : List (Tm Name))
    → terms_given names g vs ≡ Some ts → terms_given names h vs ≡ Some ts
terms-same g h s d [] ts e = e
terms-same g h s d (v ∷ vs) ts e =
    let a = and_then-some (λ t. option_map (λ us. t ∷ us) (terms_given names g vs)) (only (given names g v)) ts e in
    let b = mapped (terms_given names g vs) a.0 ts a.2 in
    (λ i. option_and_then (λ t. option_map (λ us. t ∷ us) (terms_given names h vs)) (only-same v g h a.0 s d a.1 i))
    ∙ ap (option_map (λ us. a.0 ∷ us)) (terms-same g h s d vs b.0 b.1)
    ∙ ap Some b.2
  where
    mapped : (o : Option (List (Tm Name))) (t : Tm Name) (us : List (Tm Name)) → option_map (λ zs. t ∷ zs) o ≡ Some us
        → (zs : List (Tm Name)) × (o ≡ Some zs) × (t ∷ zs ≡ us)
    mapped None t us k = absurd (cc)
    mapped (Some zs) t us k = (zs, refl, cc)

-- ---- the conditions

module _ (defs uses uses' : Symbols) (u : IsSameSet uses uses') where
  pub const-same : (n : Name) (t : Tm Name) → checked_const names defs uses n t ≡ Ok tt
      → checked_const names defs uses' n t ≡ Ok tt
  const-same n t h =
      ap (λ r. r >>= λ _. unless NotClosed (is_closed names t) >>= λ _. unless TypeVarEscapes
      (keeps_type_vars names t))
      (sym (symbols-same defs uses uses' (symbols_tm names t) (symbols_tm names t)
      (ConSymbol n ∷ []) u (same_set-self (symbols_tm names t))))
      ∙ h

  pub list-same : (ns : List Name) (vs : List (Variable Name)) (q r : Sequent Name) → IsSameSet q.hyps r.hyps
      → q.concl ≡ r.concl
      → AreDistinct q.hyps → AreDistinct r.hyps → checked_list names defs uses ns vs q ≡ Ok tt
      → checked_list names defs uses' ns vs r ≡ Ok tt
  list-same ns vs q r s e dq dr h =
      let test : ℕ → Bool = λ k. are_distinct names.same ns && are_distinct (same_var names) vs && (k == length vs) in
      let a = bind-ok (unless BadDefinitionList (test (length q.hyps))) _ tt h in
      let b = bind-ok (some_or BadDefinitionList (terms_given names q.hyps vs)) _ tt a.2 in
      let l1 = distinct-length q.hyps r.hyps dq s.to in
      let l2 = distinct-length r.hyps q.hyps dr s.back in
      let long : length q.hyps ≡ length r.hyps = omega (arith, l1, l2) in
      let ts = terms-same q.hyps r.hyps s dr vs b.0
      (some_or-ok BadDefinitionList (terms_given names q.hyps vs) b.0 b.1) in
      let rest : Result (Unit {0}) (Fault Name) → Tm Name → Result (Unit {0}) (Fault Name) =
      λ c z. c
      >>= λ _. unless NotClosed (list_all (is_closed names) b.0 && is_closed_but names vs z)
      >>= λ _. unless TypeVarEscapes (list_all (keeps_type_vars names) b.0) in
      let after : Option (List (Tm Name)) → Result (Unit {0}) (Fault Name) =
      λ o. some_or BadDefinitionList o
      >>= λ us. checked_symbols names defs uses' (symbols_of names r) (map ConSymbol ns)
      >>= λ _. unless NotClosed (list_all (is_closed names) us && is_closed_but names vs r.concl)
      >>= λ _. unless TypeVarEscapes (list_all (keeps_type_vars names) us) in
      ap (λ k. unless BadDefinitionList (test k) >>= λ _. after (terms_given names r.hyps vs)) (sym long)
      ∙ ap (λ z. z >>= λ _. after (terms_given names r.hyps vs)) a.1
      ∙ ap after ts
      ∙ (λ i. rest (sym
      (symbols-same defs uses uses' (symbols_of names q) (symbols_of names r) (map ConSymbol ns) u
      (sequent-symbols q r s e)) i)
      (sym e i))
      ∙ b.2

  pub type-same : (n abs rep : Name) (vars : List Name) (q : Sequent Name)
      → checked_type names defs uses n abs rep vars q ≡ Ok tt
      → checked_type names defs uses' n abs rep vars q ≡ Ok tt
  type-same n abs rep vars q h =
      sym (λ i. unless HypothesesPresent (is_empty q.hyps) >>= λ _. some_or NotApplication (function_of q.concl)
      >>= λ p.
      unless BadTypeVars (are_distinct names.same vars && are_names_of names (vars_tm names p) vars) >>= λ _.
      symbols-same defs uses uses' (symbols_of names q) (symbols_of names q)
      (OpSymbol n ∷ ConSymbol abs ∷ ConSymbol rep ∷ []) u (same_set-self (symbols_of names q)) i
      >>= λ _. unless NotClosed (is_closed names p))
      ∙ h

-- ---- definitions that are the same

pub theorems-same : (d e : Definition Name) → IsDefinitionOf d e → theorems names d ≡ theorems names e
theorems-same (ListDef ps q) (ListDef qs r) h =
    let c = ((same_sequent-is names tells_names q r).0 h.1).1 in
    λ i. theorems names (ListDef (h.0 i) (record { hyps = q.hyps; concl = c i }))
theorems-same (TyDef n abs rep vs q) (TyDef m a r ws p) h =
    let c = ((same_sequent-is names tells_names q p).0 h.4).1 in
    λ i. theorems names (TyDef (h.0 i) (h.1 i) (h.2 i) (h.3 i) (record { hyps = q.hyps; concl = c i }))
theorems-same (ConDef n t) e h = ap (theorems names) h
theorems-same (ListDef ps q) (ConDef n t) h = absurd (cc)
theorems-same (ListDef ps q) (TyDef n abs rep vs r) h = absurd (cc)
theorems-same (TyDef n abs rep vs q) (ConDef m t) h = absurd (cc)
theorems-same (TyDef n abs rep vs q) (ListDef ps r) h = absurd (cc)

defined-same : (d e : Definition Name) → IsDefinitionOf d e → defined names d ≡ defined names e
defined-same (ListDef ps q) (ListDef qs r) h = ap (λ z. defined names (ListDef z q)) h.0
defined-same (TyDef n abs rep vs q) (TyDef m a r ws p) h = λ i. OpSymbol (h.0 i) ∷ ConSymbol (h.1 i)
    ∷ ConSymbol (h.2 i) ∷ []
defined-same (ConDef n t) e h = ap (defined names) h
defined-same (ListDef ps q) (ConDef n t) h = absurd (cc)
defined-same (ListDef ps q) (TyDef n abs rep vs r) h = absurd (cc)
defined-same (TyDef n abs rep vs q) (ConDef m t) h = absurd (cc)
defined-same (TyDef n abs rep vs q) (ListDef ps r) h = absurd (cc)

used-same : (d e : Definition Name) → IsDefinitionOf d e → IsSameSet (used names d) (used names e)
used-same (ListDef ps q) (ListDef qs r) h =
    let c = (same_sequent-is names tells_names q r).0 h.1 in
    subst (λ z. IsSameSet (used names (ListDef ps q)) (symbols_of names r ++ symbols_in names z))
    (theorems-same (ListDef ps q) (ListDef qs r) h)
    (same_set-append (sequent-symbols q r c.0 c.1) (same_set-self (symbols_in names (theorems names (ListDef ps q)))))
used-same (TyDef n abs rep vs q) (TyDef m a r ws p) h =
    let c = (same_sequent-is names tells_names q p).0 h.4 in
    subst (λ z. IsSameSet (used names (TyDef n abs rep vs q)) (symbols_of names p ++ symbols_in names z))
    (theorems-same (TyDef n abs rep vs q) (TyDef m a r ws p) h)
    (same_set-append (sequent-symbols q p c.0 c.1)
    (same_set-self (symbols_in names (theorems names (TyDef n abs rep vs q)))))
used-same (ConDef n t) e h =
    subst (λ z. IsSameSet (used names (ConDef n t)) (used names z)) h (same_set-self (used names (ConDef n t)))
used-same (ListDef ps q) (ConDef n t) h = absurd (cc)
used-same (ListDef ps q) (TyDef n abs rep vs r) h = absurd (cc)
used-same (TyDef n abs rep vs q) (ConDef m t) h = absurd (cc)
used-same (TyDef n abs rep vs q) (ListDef ps r) h = absurd (cc)

abbrev pub AreMade : List (Definition Name) → List Made → Type 0
AreMade = AreSame (λ d (m : Made). IsDefinitionOf d m.definition)

pub all-defined-same : (ds : List (Definition Name)) (ms : List Made) → AreMade ds ms
    → all_defined names ds ≡ all_defined names (definitions_of ms)
all-defined-same [] [] h = refl
all-defined-same (d ∷ ds) (m ∷ ms) h = λ i. defined-same d m.definition h.0 i ++ all-defined-same ds ms h.1 i
all-defined-same [] (m ∷ ms) h = absurd h
all-defined-same (d ∷ ds) [] h = absurd h

pub all-used-same : (ds : List (Definition Name)) (ms : List Made) → AreMade ds ms
    → IsSameSet (all_used names ds) (all_used names (definitions_of ms))
all-used-same [] [] h = same_set-self []
all-used-same (d ∷ ds) (m ∷ ms) h = same_set-append (used-same d m.definition h.0) (all-used-same ds ms h.1)
all-used-same [] (m ∷ ms) h = absurd h
all-used-same (d ∷ ds) [] h = absurd h

pub made-snoc : (ds : List (Definition Name)) (ms : List Made) (d : Definition Name) (m : Made) → AreMade ds ms
    → IsDefinitionOf d m.definition → AreMade (ds ++ d ∷ []) (ms ++ m ∷ [])
made-snoc [] [] d m h k = (k, tt)
made-snoc (e ∷ ds) (n ∷ ms) d m h k = (h.0, made-snoc ds ms d m h.1 k)
made-snoc [] (n ∷ ms) d m h k = absurd h
made-snoc (e ∷ ds) [] d m h k = absurd h
