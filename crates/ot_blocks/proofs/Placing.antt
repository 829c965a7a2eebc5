-- Names of blocks and their places, and what follows for imports.
use Rattle.std.proofs.Common.{◌≡◌, ◌<◌, ◌+◌, ℕ, zero, suc, List, [], ◌∷◌, ◌++◌, length, get_or, Bool}
use Rattle.std.proofs.Common.{true, false, refl, sym, ap, subst, ◌∙◌, arith, inl, inr, cond, Some, None}
use Rattle.std.specs.Prelude.{Option, is_some, if◌then◌else◌, filter_map}
use Rattle.std.specs.Option.{option_map}
use Rattle.std.specs.List.{position_from, cons_option}
use Rattle.std.specs.Str.{bytes_eq}
use Rattle.std.proofs.lemmas.Bool.{cases_Bool, or_cases, both_ways}
use Rattle.std.proofs.lemmas.Iterator.Adapters.{position_from-zero}
use Rattle.std.proofs.lemmas.List.Quantifiers.{position-Some}
use Rattle.std.proofs.lemmas.Option.{none-some}
use Rattle.std.proofs.lemmas.Slice.Eq.{bytes_eq-Decides}
use Rattle.ot_logic.specs.Lists.{IsMember}
use Rattle.ot_theory.specs.Theory.{TagText, BlockText, has_block}
use Rattle.ot_theory.specs.Values.{key_of}
use Rattle.ot_theory.specs.declared.keys.Key.{Key}
use Rattle.ot_theory.specs.declared.keys.Key.TheVariants as keys
use Rattle.ot_blocks.specs.Ordering.{NamesBlocks}
use Rattle.ot_blocks.specs.Structure.{Places, block_places, imported, import_of, graph_of}
use Rattle.ot_blocks.specs.declared.walk.Import.{Import}

-- ---- one block more

-- what is there, or else the other
abbrev or_else : Option ℕ → Option ℕ → Option ℕ
or_else None other = other
or_else (Some x) other = Some x

or_else_none : (o : Option ℕ) → or_else o None ≡ o
or_else_none None = refl
or_else_none (Some x) = refl

or_else_some : (o other : Option ℕ) → is_some o ≡ true → or_else o other ≡ o
or_else_some None other e = cc
or_else_some (Some x) other e = refl

none_there : (o : Option ℕ) → is_some o ≡ false → o ≡ None
none_there None e = refl
none_there (Some x) e = cc

position_push : {X : Type 0} (p : X → Bool) (i : ℕ) (xs : List X) (y : X)
    → position_from p i (xs ++ y ∷ []) ≡ or_else (position_from p i xs) (if p y then Some (i + length xs) else None)
position_push p i [] y = ap (λ n. if p y then Some n else None) (omega arith)
position_push p i (x ∷ xs) y = elim (cases_Bool (p x)) [
  | inl e ↦ rw e refl
  | inr e ↦ rw e (position_push p (i + 1) xs y
      ∙ ap (λ n. or_else (position_from p (i + 1) xs) (if p y then Some n else None)) (omega arith))
]

place_push : (blocks : List BlockText) (b : BlockText) (name : List ℕ)
    → block_places (blocks ++ b ∷ []) name ≡ or_else (block_places blocks name)
    (if bytes_eq b.name name then Some (length blocks) else None)
place_push blocks b name =
    position_from-zero (λ c. bytes_eq c.name name) (blocks ++ b ∷ [])
    ∙ position_push (λ c. bytes_eq c.name name) 0 blocks b
    ∙ ap (λ o. or_else o (if bytes_eq b.name name then Some (0 + length blocks) else None))
    (sym (position_from-zero (λ c. bytes_eq c.name name) blocks))
    ∙ ap (λ n. or_else (block_places blocks name) (if bytes_eq b.name name then Some n else None)) (omega arith)

-- a name that no block had leads to the new one
pub place_inserted : (old new : Places) (key : List ℕ) (place : ℕ) (blocks : List BlockText) (b : BlockText)
    → ((name : List ℕ) → old name ≡ block_places blocks name) → b.name ≡ key → place ≡ length blocks
    → is_some (old key) ≡ false
    → ((name : List ℕ) → new name ≡ cond (bytes_eq key name) (Some place) (old name))
    → (name : List ℕ) → new name ≡ block_places (blocks ++ b ∷ []) name
place_inserted old new key place blocks b holds named at fresh updated name =
    updated name ∙ chosen
    ∙ ap (λ z. or_else (block_places blocks name) (if bytes_eq z name then Some (length blocks) else None))
    (sym named) ∙ sym (place_push blocks b name)
  where
    chosen : cond (bytes_eq key name) (Some place) (old name) ≡ or_else (block_places blocks name)
        (if bytes_eq key name then Some (length blocks) else None)
    chosen = elim (cases_Bool (bytes_eq key name)) [
      | inl same ↦
          let is : key ≡ name = (bytes_eq-Decides key name).0 same in
          let none : block_places blocks name ≡ None = sym (holds name) ∙ ap old (sym is) ∙ none_there (old key) fresh in
          rw (same, none) (ap Some at)
      | inr other ↦ rw other (holds name ∙ sym (or_else_none (block_places blocks name)))
    ]

-- a name that a block had leads there still
pub place_kept : (old : Places) (key : List ℕ) (blocks : List BlockText) (b : BlockText)
    → ((name : List ℕ) → old name ≡ block_places blocks name) → b.name ≡ key → is_some (old key) ≡ true
    → (name : List ℕ) → old name ≡ block_places (blocks ++ b ∷ []) name
place_kept old key blocks b holds named there name =
    holds name ∙ chosen
    ∙ ap (λ z. or_else (block_places blocks name) (if bytes_eq z name then Some (length blocks) else None))
    (sym named) ∙ sym (place_push blocks b name)
  where
    chosen : block_places blocks name ≡ or_else (block_places blocks name)
        (if bytes_eq key name then Some (length blocks) else None)
    chosen = elim (cases_Bool (bytes_eq key name)) [
      | inl same ↦
          let is : key ≡ name = (bytes_eq-Decides key name).0 same in
          let some : is_some (block_places blocks name) ≡ true = ap is_some (sym (holds name) ∙ ap old (sym is))
          ∙ there in
          sym (or_else_some (block_places blocks name) (if bytes_eq key name then Some (length blocks) else None) some)
      | inr other ↦ rw other (sym (or_else_none (block_places blocks name)))
    ]

-- ---- places are inside

place_inside : (blocks : List BlockText) (name : List ℕ) (place : ℕ) → block_places blocks name ≡ Some place
    → place < length blocks
place_inside blocks name place e =
    (position-Some (λ b. bytes_eq b.name name) blocks place (record { line = 0; name = []; statements = [] }) e).0

pub place_there : (blocks : List BlockText) (name : List ℕ) → has_block blocks name ≡ true
    → is_some (block_places blocks name) ≡ true
place_there blocks name e = ap is_some (position_from-zero (λ b. bytes_eq b.name name) blocks)
    ∙ found 0 blocks e where
      found : (i : ℕ) (bs : List BlockText) → has_block bs name ≡ true
          → is_some (position_from (λ b. bytes_eq b.name name) i bs) ≡ true
      found i [] h = cc
      found i (b ∷ bs) h = elim (cases_Bool (bytes_eq b.name name)) [
        | inl same ↦ rw same refl
        | inr other ↦ rw other (found (i + 1) bs (elim (or_cases (bytes_eq b.name name) (has_block bs name) h) [
          | inl same ↦ absurd (both_ways (bytes_eq b.name name) other same)
          | inr later ↦ later
        ]))
      ]

pub some_there : (o : Option ℕ) → is_some o ≡ true → (n : ℕ) × (o ≡ Some n)
some_there None e = cc
some_there (Some n) e = (n, refl)

-- what an import names is a place
imported_place : (places : Places) (key : Key) (value : List ℕ) (block : ℕ) → imported places key value ≡ Some block
    → places value ≡ Some block
imported_place places keys.Import value block e = e
imported_place places keys.Article value block e = absurd (none-some block e)
imported_place places keys.Package value block e = absurd (none-some block e)
imported_place places keys.Interpret value block e = absurd (none-some block e)
imported_place places keys.Other value block e = absurd (none-some block e)

module _ (places : Places) (n : ℕ) (inside : (name : List ℕ) (place : ℕ) → places name ≡ Some place → place < n) where
  import_inside : (t : TagText) (o : Option ℕ) → imported places (key_of t.key) t.value ≡ o
      → (i : Import) (rest : List Import)
      → IsMember i (cons_option (option_map (λ block. record { line = t.line; block = block }) o) rest)
      → (IsMember i rest → i.block < n) → i.block < n
  import_inside t None e i rest m others = others m
  import_inside t (Some block) e i rest m others = elim m [
    | inl same ↦ subst (λ z. z.block < n) same
        (inside t.value block (imported_place places (key_of t.key) t.value block e))
    | inr later ↦ others later
  ]

  imports_inside : (ts : List TagText) (i : Import) → IsMember i (filter_map (import_of places) ts) → i.block < n
  imports_inside [] i m = absurd m
  imports_inside (t ∷ ts) i m = import_inside t (imported places (key_of t.key) t.value) refl i
      (filter_map (import_of places) ts) m (imports_inside ts i)

  lists_inside : (blocks : List BlockText) (b : ℕ) (i : Import) → IsMember i (get_or (graph_of places blocks) b [])
      → i.block < n
  lists_inside [] b i m = absurd m
  lists_inside (x ∷ xs) zero i m = imports_inside x.statements i m
  lists_inside (x ∷ xs) (suc b) i m = lists_inside xs b i m

length_graph : (places : Places) (blocks : List BlockText) → length (graph_of places blocks) ≡ length blocks
length_graph places [] = refl
length_graph places (b ∷ bs) = ap suc (length_graph places bs)

pub graph_inside : (blocks : List BlockText) → NamesBlocks (graph_of (block_places blocks) blocks)
graph_inside blocks b i m =
    let lt : i.block < length blocks = lists_inside (block_places blocks) (length blocks) (place_inside blocks) blocks b i
    m in
    omega (arith, lt, length_graph (block_places blocks) blocks)

pub main_inside : (blocks : List BlockText) (name : List ℕ) (place : ℕ) → block_places blocks name ≡ Some place
    → place < length (graph_of (block_places blocks) blocks)
main_inside blocks name place e =
    omega (arith, place_inside blocks name place e, length_graph (block_places blocks) blocks)
