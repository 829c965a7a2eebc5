-- What a statement that is allowed keeps of its block.
use Rattle.std.proofs.Common.{◌≡◌, ◌≤◌, ◌+◌, ℕ, List, [], ◌∷◌, ◌++◌, Bool, true, false, ◌||◌, refl}
use Rattle.std.proofs.Common.{sym, ap, ◌∙◌, inl, inr, Some, None, append-nil, arith, true≢false}
use Rattle.std.specs.Prelude.{Option, Ok, not, cond, count_by}
use Rattle.std.specs.List.{AllByRecursion, list_any, filter_map, cons_option}
use Rattle.std.proofs.lemmas.List.Elements.{filter_map-append}
use Rattle.std.proofs.lemmas.List.Sums.{sum_by-append}
use Rattle.std.proofs.lemmas.Option.{none-some, same_Some}
use Rattle.std.proofs.lemmas.Bool.{not-true}
use Rattle.ot_logic.specs.Answers.{unless, some_or}
use Rattle.ot_logic.specs.Lists.{IsMember, AreDistinct}
use Rattle.ot_logic.specs.Names.{same_name-Decides}
use Rattle.ot_theory.specs.declared.keys.Key.{Key}
use Rattle.ot_theory.specs.declared.keys.Key.TheVariants.{Import, Article, Package, Interpret, Other}
use Rattle.ot_theory.specs.declared.interpretation.SymbolWord.{SymbolWord}
use Rattle.ot_theory.specs.declared.interpretation.SymbolWord.TheVariants.{Con, TyOp}
use Rattle.ot_theory.specs.declared.fault.TheoryFault.TheVariants.{BadLine, BadInterpret}
use Rattle.ot_theory.specs.declared.fault.TheoryFault.TheVariants.{TwoSources, DuplicateInterpret}
use Rattle.ot_theory.specs.Forms.{is_identifier}
use Rattle.ot_theory.specs.Values.{key_of, is_source, is_path}
use Rattle.ot_theory.specs.Interpretations.{Symbol, same_word, same_symbol, split_interpret, symbol_of}
use Rattle.ot_theory.specs.Theory.{TagText, BlockText, is_symbol, renamed, has_source, has_renaming}
use Rattle.ot_theory.specs.Theory.{value_allowed, renaming_allowed, source_allowed, with_statement}
use Rattle.ot_theory.specs.Sound.{IsRightValue, IsRightBlock}
use Rattle.ot_theory.proofs.Interpreting.{bind_some, one_interpretation}
use Rattle.ot_theory.proofs.Paths.{tells_paths}
use Rattle.ot_theory.proofs.Steps.{bind_ok}
use Rattle.ot_logic.proofs.Elements.{AllByRecursion-append}
use Rattle.ot_logic.proofs.Results.{some_or-ok, unless-ok}

-- ---- lists with one element more

pub all_front : {X : Type 0} (P : X → Type 0) (xs ys : List X) → AllByRecursion P (xs ++ ys) → AllByRecursion P xs
all_front P [] ys h = tt
all_front P (x ∷ xs) ys h = (h.0, all_front P xs ys h.1)

pub all_last : {X : Type 0} (P : X → Type 0) (xs ys : List X) → AllByRecursion P (xs ++ ys) → AllByRecursion P ys
all_last P [] ys h = h
all_last P (x ∷ xs) ys h = all_last P xs ys h.1

member_last : {X : Type 0} (x y : X) (xs : List X) → IsMember x (xs ++ y ∷ []) → IsMember x (y ∷ xs)
member_last x y [] m = m
member_last x y (z ∷ zs) m = elim m [
  | inl e ↦ inr (inl e)
  | inr k ↦ elim (member_last x y zs k) [ inl e ↦ inl e | inr j ↦ inr (inr j) ]
]

pub distinct_last : {X : Type 0} (x : X) (xs : List X) → AreDistinct xs → ¬ (IsMember x xs)
    → AreDistinct (xs ++ x ∷ [])
distinct_last x [] d n = ((λ m. m), tt)
distinct_last x (y ∷ ys) d n = (
  (λ m. elim (member_last y x ys m) [ inl e ↦ n (inl (sym e)) | inr k ↦ d.0 k ]),
  distinct_last x ys d.1
      (λ m. n (inr m)),
)

pub both_false : (x y : Bool) → x ≡ true → (x || y) ≡ false → ⊥
both_false true y h e = cc
both_false false y h e = cc

pub second_false : (x y : Bool) → (x || y) ≡ false → y ≡ false
second_false true y e = cc
second_false false y e = e

-- ---- values

-- what an allowed value says
pub record Allowed (k : Key) (value : List ℕ) (earlier : List TagText) : Type 0 where
  pub right : IsRightValue k value
  pub source : is_source k ≡ true → has_source earlier ≡ false
  pub renaming : (s : Symbol) → renamed k value ≡ Some s → has_renaming earlier s ≡ false

no_source : (k : Key) (earlier : List TagText) → is_source k ≡ false → is_source k ≡ true → has_source earlier ≡ false
no_source k earlier n h = absurd (true≢false (sym h ∙ n))

one_source : (earlier : List TagText) (u : Unit {0}) → source_allowed earlier ≡ Ok u → has_source earlier ≡ false
one_source earlier u e = not-true (has_source earlier) (unless-ok TwoSources (not (has_source earlier)) u e)

pub allowed : (k : Key) (value : List ℕ) (earlier : List TagText) → value_allowed k value earlier ≡ Ok tt
    → Allowed k value earlier
allowed Import value earlier e = record {
  right = unless-ok BadLine (is_identifier value) tt e;
  source = no_source Import earlier refl;
  renaming = λ s h. absurd (none-some s h);
}
allowed Article value earlier e =
    let h = bind_ok (unless BadLine (is_path value)) _ tt e in
    record {
      right = (tells_paths value).0 (unless-ok BadLine (is_path value) h.0 h.1.0);
      source = λ is. one_source earlier tt h.1.1;
      renaming = λ s h. absurd (none-some s h);
    }
allowed Package value earlier e = record {
  right = tt;
  source = λ is. one_source earlier tt e;
  renaming = λ s h. absurd (none-some s h);
}
allowed Interpret value earlier e =
    let h = bind_ok (some_or BadInterpret (symbol_of value)) (renaming_allowed earlier) tt e in
    let symbol : symbol_of value ≡ Some h.0 = some_or-ok BadInterpret (symbol_of value) h.0 h.1.0 in
    let parts = bind_some (split_interpret value) _ h.0 symbol in
    let new : has_renaming earlier h.0 ≡ false = not-true (has_renaming earlier h.0)
    (unless-ok DuplicateInterpret (not (has_renaming earlier h.0)) tt h.1.1) in
    record {
      right = record {
        kind = parts.0.0;
        from = parts.0.1;
        to = parts.0.2;
        is = (one_interpretation value parts.0.0 parts.0.1 parts.0.2).0 parts.1.0;
      };
      source = no_source Interpret earlier refl;
      renaming = λ s is. ap (has_renaming earlier) (same_Some s h.0 (sym is ∙ symbol)) ∙ new;
    }
allowed Other value earlier e = record {
  right = tt;
  source = no_source Other earlier refl;
  renaming = λ s h. absurd (none-some s h);
}

-- ---- one statement more

abbrev source_of : TagText → Bool
source_of t = is_source (key_of t.key)

abbrev symbol_in : TagText → Option Symbol
symbol_in t = renamed (key_of t.key) t.value

none_counted : {X : Type 0} (p : X → Bool) (xs : List X) → list_any p xs ≡ false → count_by p xs ≡ 0
none_counted p [] e = refl
none_counted p (x ∷ xs) e = by_test (p x) refl e (none_counted p xs) where
  by_test : (b : Bool) → p x ≡ b → (b || list_any p xs) ≡ false → (list_any p xs ≡ false → count_by p xs ≡ 0)
      → count_by p (x ∷ xs) ≡ 0
  by_test true is e next = cc
  by_test false is e next = rw is (next e)

sources_more : (earlier : List TagText) (t : TagText) → count_by source_of earlier ≤ 1
    → (source_of t ≡ true → has_source earlier ≡ false) → count_by source_of (earlier ++ t ∷ []) ≤ 1
sources_more earlier t le new = by_test (source_of t) refl where
  total : count_by source_of (earlier ++ t ∷ []) ≡ count_by source_of earlier + count_by source_of (t ∷ [])
  total = sum_by-append (λ s. cond (source_of s) 1 0) earlier (t ∷ [])

  by_test : (b : Bool) → source_of t ≡ b → count_by source_of (earlier ++ t ∷ []) ≤ 1
  by_test true is =
      let one : count_by source_of (t ∷ []) ≡ 1 = rw is refl in
      omega (arith, total, one, none_counted source_of earlier (new is))
  by_test false is =
      let none : count_by source_of (t ∷ []) ≡ 0 = rw is refl in
      omega (arith, total, none, le)

same_word_self : (k : SymbolWord) → same_word k k ≡ true
same_word_self Con = refl
same_word_self TyOp = refl

same_symbol_self : (s : Symbol) → same_symbol s s ≡ true
same_symbol_self s = rw (same_word_self s.0, (same_name-Decides s.1 s.1).1 refl) refl

other_symbol : (statements : List TagText) (s : Symbol) → has_renaming statements s ≡ false
    → ¬ (IsMember s (filter_map symbol_in statements))
other_symbol [] s e = λ m. m
other_symbol (t ∷ ts) s e = by_symbol (symbol_in t) e (other_symbol ts s) where
  by_symbol : (o : Option Symbol) → (is_symbol s o || has_renaming ts s) ≡ false
      → (has_renaming ts s ≡ false → ¬ (IsMember s (filter_map symbol_in ts)))
      → ¬ (IsMember s (cons_option o (filter_map symbol_in ts)))
  by_symbol None e next = next e
  by_symbol (Some other) e next = λ m. elim m [
    | inl same ↦ both_false (same_symbol other s) (has_renaming ts s)
        (ap (λ z. same_symbol other z) (sym same) ∙ same_symbol_self other) e
    | inr k ↦ next (second_false (same_symbol other s) (has_renaming ts s) e) k
  ]

renamings_more : (earlier : List TagText) (t : TagText) → AreDistinct (filter_map symbol_in earlier)
    → ((s : Symbol) → symbol_in t ≡ Some s → has_renaming earlier s ≡ false)
    → AreDistinct (filter_map symbol_in (earlier ++ t ∷ []))
renamings_more earlier t d new =
    rw (filter_map-append symbol_in earlier (t ∷ [])) (by_symbol (symbol_in t) refl) where
      by_symbol : (o : Option Symbol) → symbol_in t ≡ o → AreDistinct (filter_map symbol_in earlier ++ cons_option o [])
      by_symbol None is = rw (append-nil (filter_map symbol_in earlier)) d
      by_symbol (Some s) is = distinct_last s (filter_map symbol_in earlier) d (other_symbol earlier s (new s is))

pub block_right : (b : BlockText) (t : TagText) → IsRightBlock b → ¬ (IsMember 10 t.value)
    → Allowed (key_of t.key) t.value b.statements → IsRightBlock (with_statement b t)
block_right b t p plain a = record {
  lines = AllByRecursion-append (λ (s : TagText). ¬ (IsMember 10 s.value)) b.statements (t ∷ []) p.lines (plain, tt);
  values = AllByRecursion-append (λ (s : TagText). IsRightValue (key_of s.key) s.value) b.statements (t ∷ []) p.values
      (a.right, tt);
  sources = sources_more b.statements t p.sources a.source;
  renamings = renamings_more b.statements t p.renamings a.renaming;
}
