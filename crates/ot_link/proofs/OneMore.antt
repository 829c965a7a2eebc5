-- The interpretation of a block, one statement at a time.
use Rattle.std.specs.Prelude.{◌⊎◌, Option, Some, None, is_some, filter_map}
use Rattle.std.specs.List.{filter, cons_option}
use Rattle.std.specs.Map.{lookup}
use Rattle.std.specs.Option.{option_map}
use Rattle.std.proofs.Common.{◌≡◌, ◌∙◌, ◌<◌, ◌+◌, ℕ, suc, List, [], ◌∷◌, ◌++◌, length, map, take, drop}
use Rattle.std.proofs.Common.{get_or, Bool, true, false, cond, inl, inr, refl, sym, ap, subst, append-nil}
use Rattle.std.proofs.Math.Seq.{drop-cons}
use Rattle.std.proofs.lemmas.List.{map-append, take-append-drop}
use Rattle.std.proofs.lemmas.List.Elements.{filter-append, filter_map-append}
use Rattle.std.proofs.lemmas.Bool.{false_from_ne_true}
use Rattle.std.proofs.lemmas.Option.{none-some, same_Some}
use Rattle.ot_logic.specs.Names.{Name, same_name, same_name-Decides}
use Rattle.ot_logic.specs.Lists.{IsMember, AreDistinct}
use Rattle.ot_logic.specs.Naming.{names}
use Rattle.ot_logic.specs.Reading.{name_read}
use Rattle.ot_interp.specs.Interpretation.{Interpretation, is_held}
use Rattle.ot_blocks.proofs.Collecting.{map_more}
use Rattle.ot_theory.specs.Answers.{tag_of, tags_of}
use Rattle.ot_theory.specs.declared.theory.Tag.{Tag}
use Rattle.ot_theory.specs.Theory.{TagText, renamed}
use Rattle.ot_theory.specs.Values.{key_of}
use Rattle.ot_theory.specs.Interpretations.{◌>>=◌, Symbol, split_interpret, same_word}
use Rattle.ot_theory.specs.declared.interpretation.SymbolWord.{SymbolWord}
use Rattle.ot_theory.specs.declared.interpretation.SymbolWord.TheVariants.{Con, TyOp}
use Rattle.ot_theory.specs.declared.keys.Key.{Key}
use Rattle.ot_theory.specs.declared.keys.Key.TheVariants as keys
use Rattle.ot_link.specs.Renaming.{Renaming, renaming_by, renaming_at, renamings_of, pairs_of, interpretation_of}
use Rattle.ot_link.specs.Adding.{is_held_by, with_pair, added, IsNew}

-- ---- what a statement adds

renamings-more : (ts : List TagText) (t : TagText) (o : Option Renaming) → renaming_at t ≡ o
    → renamings_of (ts ++ t ∷ []) ≡ renamings_of ts ++ cons_option o []
renamings-more ts t o e =
    filter_map-append renaming_at ts (t ∷ [])
    ∙ ap (λ z. renamings_of ts ++ cons_option z []) e

pairs-more : (kind : SymbolWord) (rs more : List Renaming) → pairs_of kind (rs ++ more) ≡ pairs_of kind rs
    ++ pairs_of kind more
pairs-more kind rs more =
    ap (map (λ (r : Renaming). (r.from, r.to))) (filter-append (λ r. same_word kind r.kind) rs more)
    ∙ map-append (λ (r : Renaming). (r.from, r.to)) (filter (λ r. same_word kind r.kind) rs)
    (filter (λ r. same_word kind r.kind) more)

abbrev read_as : List Renaming → Interpretation Name
read_as rs = record { constants = pairs_of Con rs; type_ops = pairs_of TyOp rs }

read-more : (rs : List Renaming) (r : Renaming) (kind : SymbolWord) → r.kind ≡ kind
    → read_as (rs ++ r ∷ []) ≡ with_pair kind r.from r.to (read_as rs)
read-more rs r Con e =
    let a = pairs-more Con rs (r ∷ [])
    ∙ ap (λ w. pairs_of Con rs ++ map (λ (q : Renaming). (q.from, q.to)) (cond (same_word Con w) (r ∷ []) []))
    e in
    let b = pairs-more TyOp rs (r ∷ [])
    ∙ ap (λ w. pairs_of TyOp rs ++ map (λ (q : Renaming). (q.from, q.to)) (cond (same_word TyOp w) (r ∷ []) [])) e
    ∙ append-nil (pairs_of TyOp rs) in
    λ i. record { constants = a i; type_ops = b i }
read-more rs r TyOp e =
    let a = pairs-more Con rs (r ∷ [])
    ∙ ap (λ w. pairs_of Con rs ++ map (λ (q : Renaming). (q.from, q.to)) (cond (same_word Con w) (r ∷ []) [])) e
    ∙ append-nil (pairs_of Con rs) in
    let b = pairs-more TyOp rs (r ∷ [])
    ∙ ap (λ w. pairs_of TyOp rs ++ map (λ (q : Renaming). (q.from, q.to)) (cond (same_word TyOp w) (r ∷ []) []))
    e in
    λ i. record { constants = a i; type_ops = b i }

pub interpretation-more : (ts : List TagText) (t : TagText) → interpretation_of (ts ++ t ∷ [])
    ≡ added (renaming_at t) (interpretation_of ts)
interpretation-more ts t = by (renaming_at t) refl
  where
    by : (o : Option Renaming) → renaming_at t ≡ o → interpretation_of (ts ++ t ∷ []) ≡ added o (interpretation_of ts)
    by None e = ap read_as (renamings-more ts t None e ∙ append-nil (renamings_of ts))
    by (Some r) e = ap read_as (renamings-more ts t (Some r) e) ∙ read-more (renamings_of ts) r r.kind refl

-- ---- a symbol that isn't renamed yet

-- the symbol of a renaming
names-read : (kind : SymbolWord) (from to : Option Name) (r : Renaming)
    → (from >>= λ a. to >>= λ b. Some (record { kind = kind; from = a; to = b })) ≡ Some r
    → option_map {U = Symbol} (λ name. (kind, name)) from ≡ Some (r.kind, r.from)
names-read kind None to r e = absurd (none-some r e)
names-read kind (Some a) None r e = absurd (none-some r e)
names-read kind (Some a) (Some b) r e = ap (λ (x : Renaming). Some (x.kind, x.from)) (same_Some _ r e)

parts-read : (parts : Option (SymbolWord × List ℕ × List ℕ)) (r : Renaming)
    → (parts >>= λ p. name_read p.1 >>= λ a. name_read p.2 >>= λ b. Some (record { kind = p.0; from = a; to = b }))
    ≡ Some r
    → ◌>>=◌ {B = Symbol} parts (λ p. option_map {U = Symbol} (λ name. (p.0, name)) (name_read p.1))
    ≡ Some (r.kind, r.from)
parts-read None r e = absurd (none-some r e)
parts-read (Some p) r e = names-read p.0 (name_read p.1) (name_read p.2) r e

symbol-by : (key : Key) (value : List ℕ) (r : Renaming) → renaming_by key value ≡ Some r
    → renamed key value ≡ Some (r.kind, r.from)
symbol-by keys.Interpret value r e = parts-read (split_interpret value) r e
symbol-by keys.Import value r e = absurd (none-some r e)
symbol-by keys.Article value r e = absurd (none-some r e)
symbol-by keys.Package value r e = absurd (none-some r e)
symbol-by keys.Other value r e = absurd (none-some r e)

abbrev held : SymbolWord → List Renaming → Name → Bool
held kind rs n = is_held names (pairs_of kind rs) n

-- a symbol that is held is the first one, or one of the others
held-step : (kind word : SymbolWord) (from to n : Name) (rs : List Renaming)
    → held kind (record { kind = word; from = from; to = to } ∷ rs) n ≡ true → ((word ≡ kind) × (from ≡ n))
    ⊎ (held kind rs n ≡ true)
held-step kind word from to n rs h = by kind word h
  where
    found : (kind : SymbolWord) (b : Bool) → same_name n from ≡ b
        → is_some (cond b (Some to) (lookup (same_name n) (pairs_of kind rs))) ≡ true
        → (from ≡ n) ⊎ (held kind rs n ≡ true)
    found kind true e g = inl (sym ((same_name-Decides n from).0 e))
    found kind false e g = inr g

    by : (kind word : SymbolWord) → held kind (record { kind = word; from = from; to = to } ∷ rs) n ≡ true
        → ((word ≡ kind) × (from ≡ n)) ⊎ (held kind rs n ≡ true)
    by Con Con g = elim (found Con (same_name n from) refl g) [ inl e ↦ inl (refl, e) | inr m ↦ inr m ]
    by Con TyOp g = inr g
    by TyOp Con g = inr g
    by TyOp TyOp g = elim (found TyOp (same_name n from) refl g) [ inl e ↦ inl (refl, e) | inr m ↦ inr m ]

member-later : {X : Type 0} (o : Option X) (xs : List X) (x : X) → IsMember x xs → IsMember x (cons_option o xs)
member-later None xs x m = m
member-later (Some y) xs x m = inr m

member-first : {X : Type 0} (o : Option X) (xs : List X) (x : X) → o ≡ Some x → IsMember x (cons_option o xs)
member-first None xs x e = absurd (none-some x e)
member-first (Some y) xs x e = inl (same_Some y x e)

-- a symbol that is renamed is one of the symbols of the statements
held-member : (kind : SymbolWord) (ts : List TagText) (n : Name) → held kind (renamings_of ts) n ≡ true
    → IsMember (kind, n) (filter_map (λ t. renamed (key_of t.key) t.value) ts)
held-member Con [] n h = absurd (cc)
held-member TyOp [] n h = absurd (cc)
held-member kind (t ∷ ts) n h = by (renaming_at t) refl h (held-member kind ts n)
  where
    by : (o : Option Renaming) → renaming_at t ≡ o → held kind (cons_option o (renamings_of ts)) n ≡ true
        → (held kind (renamings_of ts) n ≡ true
        → IsMember (kind, n) (filter_map (λ u. renamed (key_of u.key) u.value) ts))
        → IsMember (kind, n) (filter_map (λ u. renamed (key_of u.key) u.value) (t ∷ ts))
    by None e g later = member-later (renamed (key_of t.key) t.value) _ (kind, n) (later g)
    by (Some r) e g later = elim (held-step kind r.kind r.from r.to n (renamings_of ts) g) [
      | inl q ↦ member-first (renamed (key_of t.key) t.value) _ (kind, n)
          (symbol-by (key_of t.key) t.value r e ∙ (λ i. Some (q.0 i, q.1 i)))
      | inr m ↦ member-later (renamed (key_of t.key) t.value) _ (kind, n) (later m)
    ]

held-as : (kind : SymbolWord) (ts : List TagText) (n : Name) → is_held_by names kind (interpretation_of ts) n
    ≡ held kind (renamings_of ts) n
held-as Con ts n = refl
held-as TyOp ts n = refl

member-there : {X : Type 0} (xs ys : List X) (x z : X) → z ≡ x → IsMember z (xs ++ x ∷ ys)
member-there [] ys x z e = inl (sym e)
member-there (w ∷ xs) ys x z e = inr (member-there xs ys x z e)

before-apart : {X : Type 0} (xs ys : List X) (x : X) → AreDistinct (xs ++ x ∷ ys) → IsMember x xs → ⊥
before-apart [] ys x d m = m
before-apart (z ∷ xs) ys x d (inl e) = d.0 (member-there xs ys x z e)
before-apart (z ∷ xs) ys x d (inr m) = before-apart xs ys x d.1 m

-- where no two statements rename one symbol, that of the next one is new
pub new-symbol : (ts more : List TagText) (t : TagText)
    → AreDistinct (filter_map (λ u. renamed (key_of u.key) u.value) (ts ++ t ∷ more))
    → IsNew (renaming_at t) (interpretation_of ts)
new-symbol ts more t d = by (renaming_at t) refl
  where
    by : (o : Option Renaming) → renaming_at t ≡ o → IsNew o (interpretation_of ts)
    by None e = tt
    by (Some r) e =
        let symbols = filter_map {Y = Symbol} (λ (u : TagText). renamed (key_of u.key) u.value) in
        let cut : symbols (ts ++ t ∷ more) ≡ symbols ts ++ (r.kind, r.from) ∷ symbols more =
        filter_map-append (λ u. renamed (key_of u.key) u.value) ts (t ∷ more)
        ∙ ap (λ o. symbols ts ++ cons_option o (symbols more)) (symbol-by (key_of t.key) t.value r e) in
        held-as r.kind ts r.from
        ∙ false_from_ne_true _ (λ h. before-apart (symbols ts) (symbols more) (r.kind, r.from)
        (subst AreDistinct cut d) (held-member r.kind ts r.from h))

-- ---- the statements of the code

module _ (ss : List Tag) (i : ℕ) (d : Tag) (h : i < length ss) where
  -- up to the next one
  pub read-next : interpretation_of (tags_of (take (i + 1) ss)) ≡ added (renaming_at (tag_of (get_or ss i d)))
      (interpretation_of (tags_of (take i ss)))
  read-next = ap interpretation_of (map_more tag_of ss i (get_or ss i d) d h refl)
      ∙ interpretation-more (tags_of (take i ss)) (tag_of (get_or ss i d))

  -- the next one is new
  pub next-new : AreDistinct (filter_map (λ t. renamed (key_of t.key) t.value) (tags_of ss))
      → IsNew (renaming_at (tag_of (get_or ss i d))) (interpretation_of (tags_of (take i ss)))
  next-new distinct = new-symbol (tags_of (take i ss)) (tags_of (drop (suc i) ss)) (tag_of (get_or ss i d))
      (subst (λ ts. AreDistinct (filter_map (λ t. renamed (key_of t.key) t.value) ts)) cut distinct)
    where
      cut : tags_of ss ≡ tags_of (take i ss) ++ tag_of (get_or ss i d) ∷ tags_of (drop (suc i) ss)
      cut = ap tags_of (sym (take-append-drop i ss)) ∙ map-append tag_of (take i ss) (drop i ss)
          ∙ ap (λ z. tags_of (take i ss) ++ tags_of z) (drop-cons ss i d h)
