-- Sets of names and symbols, beside the lists that they stand for.
use Rattle.std.proofs.Common.{◌≡◌, ℕ, Bool, true, false, refl, sym, ap, ◌∙◌}
use Rattle.std.proofs.Common.{List, [], ◌∷◌, ◌++◌, map, append-nil, subst}
use Rattle.std.specs.Prelude.{◌||◌, not, cond, codes, Result, Ok, OnOk}
use Rattle.std.specs.Borrow.{Bor}
use Rattle.std.specs.List.{list_any}
use Rattle.std.specs.Str.{bytes_eq}
use Rattle.ot_theory.specs.Values.{key_of}
use Rattle.ot_theory.specs.Interpretations.{Symbol, symbol_of}
use Rattle.ot_theory.specs.Theory.{TagText, BlockText, has_block, is_symbol, renamed, value_allowed}
use Rattle.ot_theory.specs.Theory.{statement_allowed, statement_added, with_statement}
use Rattle.ot_theory.specs.Reading.{has_symbol, HoldsSymbols, Allows}
use Rattle.ot_theory.specs.declared.keys.Key.{Key}
use Rattle.ot_theory.specs.declared.keys.Key.TheVariants.{Interpret}
use Rattle.ot_theory.specs.declared.fault.Refusal.{Refusal}
use Rattle.std.proofs.lemmas.Result.{on_ok_weaker}
use Rattle.std.proofs.lemmas.Bool.{not-true}
use Rattle.ot_theory.proofs.Steps.{bind_ok}
use Rattle.ot_theory.specs.declared.symbols.Symbols.{Symbols}
use Rattle.ot_logic.proofs.Results.{same_Ok}

pub any_map : {X Y : Type 0} (f : X → Y) (p : Y → Bool) (xs : List X)
    → list_any p (map f xs) ≡ list_any (λ x. p (f x)) xs
any_map f p [] = refl
any_map f p (x ∷ xs) = ap (λ z. p (f x) || z) (any_map f p xs)

pub not_true : (b : Bool) → (b ≡ true → ⊥) → false ≡ b
not_true true h = absurd (h refl)
not_true false h = refl

-- the last element is tested first
any_last : {X : Type 0} (p : X → Bool) (xs : List X) (x : X) → list_any p (xs ++ x ∷ []) ≡ (p x || list_any p xs)
any_last p [] x = refl
any_last p (y ∷ ys) x = ap (λ z. p y || z) (any_last p ys x) ∙ turned (p y) (p x) (list_any p ys) where
  turned : (a b c : Bool) → (a || (b || c)) ≡ (b || (a || c))
  turned true true c = refl
  turned true false c = refl
  turned false b c = refl

-- ---- symbols

pub symbols_more : (old new : Symbols) (earlier : List TagText) (t : TagText) → HoldsSymbols old earlier
    → ((symbol : Symbol)
    → has_symbol new symbol ≡ (is_symbol symbol (renamed (key_of t.key) t.value) || has_symbol old symbol))
    → HoldsSymbols new (earlier ++ t ∷ [])
symbols_more old new earlier t holds more symbol =
    more symbol
    ∙ ap (λ z. is_symbol symbol (renamed (key_of t.key) t.value) || z) (holds symbol)
    ∙ sym (any_last (λ s. is_symbol symbol (renamed (key_of s.key) s.value)) earlier t)

-- ---- names

-- a set of slices holds exactly the names of the blocks
abbrev pub HoldNames : List (Bor (List ℕ)) → List BlockText → Type 0
HoldNames ks blocks = (name : List ℕ) → list_any (λ k. bytes_eq name k.now) ks ≡ has_block blocks name

pub name_new : (ks : List (Bor (List ℕ))) (blocks : List BlockText) (name : List ℕ) (added : Bool)
    → HoldNames ks (blocks ++ []) → added ≡ not (list_any (λ k. bytes_eq name k.now) ks) → added ≡ true
    → has_block blocks name ≡ false
name_new ks blocks name added holds test is =
    ap (λ z. has_block z name) (sym (append-nil blocks)) ∙ sym (holds name)
    ∙ not-true (list_any (λ k. bytes_eq name k.now) ks) (sym test ∙ is)

pub names_more : (old new : List (Bor (List ℕ))) (key : Bor (List ℕ)) (blocks : List BlockText) (b : BlockText)
    → HoldNames old (blocks ++ []) → b.name ≡ key.now
    → ((q : Bor (List ℕ)) → list_any (λ k. bytes_eq q.now k.now) new ≡ cond (bytes_eq key.now q.now) true
    (list_any (λ k. bytes_eq q.now k.now) old))
    → HoldNames new (blocks ++ b ∷ [])
names_more old new key blocks b holds named more name =
    more (record { ref_ptr = key.ref_ptr; now = name })
    ∙ as_or (bytes_eq key.now name) (list_any (λ k. bytes_eq name k.now) old)
    ∙ ap (λ z. bytes_eq z name || list_any (λ k. bytes_eq name k.now) old) (sym named)
    ∙ ap (λ z. bytes_eq b.name name || z) (holds name ∙ ap (λ z. has_block z name) (append-nil blocks))
    ∙ sym (any_last (λ x. bytes_eq x.name name) blocks b) where
      as_or : (t u : Bool) → cond t true u ≡ (t || u)
      as_or true u = refl
      as_or false u = refl

-- whether one is `main`
pub main_held : (ks : List (Bor (List ℕ))) (blocks : List BlockText) (text : List ℕ) (found answer : Bool)
    → HoldNames ks (blocks ++ []) → text ≡ codes "main" → found ≡ list_any (λ k. bytes_eq text k.now) ks
    → found ≡ answer → has_block blocks (codes "main") ≡ answer
main_held ks blocks text found answer holds is test says =
    ap (λ z. has_block z (codes "main")) (sym (append-nil blocks))
    ∙ sym (holds (codes "main"))
    ∙ ap (λ (z : List ℕ). list_any (λ k. bytes_eq z k.now) ks) (sym is)
    ∙ sym test
    ∙ says

-- the open block keeps its name
pub name_kept : (ks : List (Bor (List ℕ))) (blocks : List BlockText) (b c : BlockText) (t : TagText)
    → HoldNames ks (blocks ++ b ∷ []) → statement_added b t ≡ Ok c → HoldNames ks (blocks ++ c ∷ [])
name_kept ks blocks b c t holds e name =
    let h = bind_ok (statement_allowed t b.statements) _ c e in
    holds name
    ∙ any_last (λ x. bytes_eq x.name name) blocks b
    ∙ ap (λ (z : BlockText). bytes_eq z.name name || has_block blocks name) (same_Ok (with_statement b t) c h.1.1)
    ∙ sym (any_last (λ x. bytes_eq x.name name) blocks c)

-- ---- an `interpret:` statement

pub renaming_allowed_at : (k : Key) (value : List ℕ) (earlier : List TagText) (r : Result (Unit {0}) Refusal)
    → k ≡ Interpret → Allows r (value_allowed Interpret value earlier) → Allows r (value_allowed k value earlier)
renaming_allowed_at k value earlier r e h = subst (λ (z : Key). Allows r (value_allowed z value earlier)) (sym e) h

pub renaming_added : (r : Result (Unit {0}) Refusal) (old new : Symbols) (earlier : List TagText) (t : TagText)
    → key_of t.key ≡ Interpret → HoldsSymbols old earlier
    → OnOk r ((symbol : Symbol)
    → has_symbol new symbol ≡ (is_symbol symbol (symbol_of t.value) || has_symbol old symbol))
    → OnOk r (HoldsSymbols new (earlier ++ t ∷ []))
renaming_added r old new earlier t e holds more =
    on_ok_weaker r (λ h. symbols_more old new earlier t holds
    (λ symbol. h symbol ∙ ap (λ (z : Key). is_symbol symbol (renamed z t.value) || has_symbol old symbol) (sym e)))
    more
