-- What is accepted after some definitions is accepted after fewer.
use Rattle.std.specs.Prelude.{◌≡◌, ◌||◌, ◌&&◌, ◌==◌, length, Bool, true, false}
use Rattle.std.specs.Prelude.{List, [], ◌∷◌, map, Result, Ok, Err, if◌then◌else◌}
use Rattle.std.proofs.Common.{refl}
use Rattle.ot_logic.specs.Names.{Name}
use Rattle.ot_logic.specs.Naming.{names}
use Rattle.ot_logic.specs.Trees.{Symbol, ConSymbol, OpSymbol, Tm, Variable, Sequent, Definition}
use Rattle.ot_logic.specs.Hol.{symbols_tm, symbols_of, primitives, vars_tm, same_var}
use Rattle.ot_logic.specs.Faults.{Fault, Primitive, AlreadyDefined, SymbolInUse, BadDefinitionList}
use Rattle.ot_logic.specs.Faults.{HypothesesPresent, NotApplication, BadTypeVars}
use Rattle.ot_logic.specs.Answers.{◌>>=◌, unless, some_or}
use Rattle.ot_laws.specs.Conditions.{same_symbol, is_among, refuse_first, refuse_defined}
use Rattle.ot_laws.specs.Conditions.{checked_symbols, checked_const, checked_list, checked_type}
use Rattle.ot_laws.specs.Conditions.{terms_given, function_of, is_empty, are_distinct, are_names_of}
use Rattle.ot_kernel.specs.Defining.{all_defined, all_used, const_definition, list_definition, type_definition}
use Rattle.ot_logic.proofs.Results.{bind-ok, bind-to, bind-under}

abbrev Syms : Type 0
Syms = List (Symbol Name)

abbrev Check : Type 0
Check = Result (Unit {0}) (Fault Name)

-- each symbol that isn't among these isn't among those
abbrev pub AreFewer : Syms → Syms → Type 0
AreFewer ss ts = (s : Symbol Name) → is_among names s ts ≡ false → is_among names s ss ≡ false

first-fewer : (fault : Symbol Name → Fault Name) (t u : Symbol Name → Bool)
    → ((s : Symbol Name) → t s ≡ false → u s ≡ false) → (ss : Syms) → refuse_first names fault t ss ≡ Ok tt
    → refuse_first names fault u ss ≡ Ok tt
first-fewer fault t u h [] p = refl
first-fewer fault t u h (s ∷ ss) p = by (t s) refl p (first-fewer fault t u h ss)
  where
    by : (b : Bool) → t s ≡ b → (if b then Err (fault s) else refuse_first names fault t ss) ≡ Ok tt
        → (refuse_first names fault t ss ≡ Ok tt → refuse_first names fault u ss ≡ Ok tt)
        → refuse_first names fault u (s ∷ ss) ≡ Ok tt
    by true e p go = absurd (cc)
    by false e p go = rw (h s e) (go p)

more-fewer : (s : Symbol Name) (ss ts : Syms) → AreFewer ss ts → AreFewer (s ∷ ss) (s ∷ ts)
more-fewer s ss ts h x p = by (same_symbol names x s) p
  where
    by : (b : Bool) → (b || is_among names x ts) ≡ false → (b || is_among names x ss) ≡ false
    by true p = absurd (cc)
    by false p = h x p

defined-fewer : (ss ts : Syms) → AreFewer ss ts → (xs : Syms) → refuse_defined names ts xs ≡ Ok tt
    → refuse_defined names ss xs ≡ Ok tt
defined-fewer ss ts h [] p = refl
defined-fewer ss ts h (x ∷ xs) p =
    by (is_among names x ts) refl p (defined-fewer (x ∷ ss) (x ∷ ts) (more-fewer x ss ts h) xs)
  where
    by : (b : Bool) → is_among names x ts ≡ b
        → (if b then Err (AlreadyDefined x) else refuse_defined names (x ∷ ts) xs) ≡ Ok tt
        → (refuse_defined names (x ∷ ts) xs ≡ Ok tt → refuse_defined names (x ∷ ss) xs ≡ Ok tt)
        → refuse_defined names ss (x ∷ xs) ≡ Ok tt
    by true e p go = absurd (cc)
    by false e p go = rw (h x e) (go p)

either-fewer : (a : Bool) (b c : Bool) → (b ≡ false → c ≡ false) → (a || b) ≡ false → (a || c) ≡ false
either-fewer true b c h p = absurd (cc)
either-fewer false b c h p = h p

past : {B E : Type 0} (r q : Result (Unit {0}) E) (f : Unit {0} → Result B E) (y : B) → (r ≡ Ok tt → q ≡ Ok tt)
    → (r >>= f) ≡ Ok y → (q >>= f) ≡ Ok y
past (Ok u) q f y h p = bind-to q f u (Ok y) (h refl) p
past (Err e) q f y h p = absurd (cc)

module _ (d e u v : Syms) (defined : AreFewer d e) (used : AreFewer u v) where
  symbols-fewer : (premise xs : Syms) → checked_symbols names e v premise xs ≡ Ok tt
      → checked_symbols names d u premise xs ≡ Ok tt
  symbols-fewer premise xs =
      bind-under (refuse_first names Primitive (λ s. is_among names s (primitives names)) xs) _ _ tt (λ _ p.
      let b = bind-ok (refuse_defined names e xs) _ _ p in
      bind-to (refuse_defined names d xs) _ tt (Ok tt) (defined-fewer d e defined xs b.1)
      (first-fewer SymbolInUse (λ s. is_among names s premise || is_among names s v)
      (λ s. is_among names s premise || is_among names s u)
      (λ s. either-fewer (is_among names s premise) _ _ (used s)) xs b.2))

  abbrev old : Syms → Syms → Check
  old premise xs = checked_symbols names e v premise xs

  abbrev new : Syms → Syms → Check
  new premise xs = checked_symbols names d u premise xs

  pub const-fewer : (n : Name) (t : Tm Name) → checked_const names e v n t ≡ Ok tt → checked_const names d u n t
      ≡ Ok tt
  const-fewer n t = past (old (symbols_tm names t) (ConSymbol n ∷ [])) (new (symbols_tm names t) (ConSymbol n ∷ [])) _
      tt (symbols-fewer (symbols_tm names t) (ConSymbol n ∷ []))

  pub list-fewer : (ns : List Name) (vs : List (Variable Name)) (q : Sequent Name) → checked_list names e v ns vs q
      ≡ Ok tt → checked_list names d u ns vs q ≡ Ok tt
  list-fewer ns vs q =
      bind-under
      (unless BadDefinitionList (are_distinct names.same ns && are_distinct (same_var names) vs
      && (length q.hyps == length vs))) _ _ tt (λ _.
      bind-under (some_or BadDefinitionList (terms_given names q.hyps vs)) _ _ tt (λ ts.
      past (old (symbols_of names q) (map ConSymbol ns)) (new (symbols_of names q) (map ConSymbol ns)) _ tt
      (symbols-fewer (symbols_of names q) (map ConSymbol ns))))

  pub type-fewer : (n abs rep : Name) (vars : List Name) (q : Sequent Name) → checked_type names e v n abs rep vars q
      ≡ Ok tt → checked_type names d u n abs rep vars q ≡ Ok tt
  type-fewer n abs rep vars q =
      let xs = OpSymbol n ∷ ConSymbol abs ∷ ConSymbol rep ∷ [] in
      bind-under (unless HypothesesPresent (is_empty q.hyps)) _ _ tt (λ _.
      bind-under (some_or NotApplication (function_of q.concl)) _ _ tt (λ p.
      bind-under (unless BadTypeVars (are_distinct names.same vars && are_names_of names (vars_tm names p) vars)) _ _
      tt (λ _.
      past (old (symbols_of names q) xs) (new (symbols_of names q) xs) _ tt (symbols-fewer (symbols_of names q) xs))))

-- ---- the three definitions, after fewer definitions
-- no symbol that the ones define or use, that the others don't
pub record HaveFewer (ds es : List (Definition Name)) : Type 0 where
  pub defined : AreFewer (all_defined names ds) (all_defined names es)
  pub used : AreFewer (all_used names ds) (all_used names es)

pub none-fewer : (es : List (Definition Name)) → HaveFewer [] es
none-fewer es = record { defined = λ s p. refl; used = λ s p. refl }

module _ (ds es : List (Definition Name)) (h : HaveFewer ds es) where
  abbrev dd : Syms
  dd = all_defined names ds

  abbrev du : Syms
  du = all_used names ds

  abbrev ed : Syms
  ed = all_defined names es

  abbrev eu : Syms
  eu = all_used names es

  pub const_definition-fewer : (n : Name) (t : Tm Name) (x : Definition Name) → const_definition names es n t ≡ Ok x
      → const_definition names ds n t ≡ Ok x
  const_definition-fewer n t x = past (checked_const names ed eu n t) (checked_const names dd du n t) _ x
      (const-fewer dd ed du eu h.defined h.used n t)

  pub list_definition-fewer : (ns : List Name) (vs : List (Variable Name)) (q : Sequent Name) (x : Definition Name)
      → list_definition names es ns vs q ≡ Ok x → list_definition names ds ns vs q ≡ Ok x
  list_definition-fewer ns vs q x = past (checked_list names ed eu ns vs q) (checked_list names dd du ns vs q) _ x
      (list-fewer dd ed du eu h.defined h.used ns vs q)

  pub type_definition-fewer : (n abs rep : Name) (vars : List Name) (q : Sequent Name) (x : Definition Name)
      → type_definition names es n abs rep vars q ≡ Ok x → type_definition names ds n abs rep vars q ≡ Ok x
  type_definition-fewer n abs rep vars q x = past (checked_type names ed eu n abs rep vars q)
      (checked_type names dd du n abs rep vars q) _ x (type-fewer dd ed du eu h.defined h.used n abs rep vars q)
