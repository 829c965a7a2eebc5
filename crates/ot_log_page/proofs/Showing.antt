-- A sheet that goes on.
use Rattle.std.specs.Prelude.{nat_eq, nat_lt}
use Rattle.std.specs.List.{All, list_any, flat_map, position, position_or_len}
use Rattle.std.proofs.Common.{◌≡◌, ℕ, suc, ◌+◌, ◌<◌, ◌≤◌, Bool, true, false}
use Rattle.std.proofs.Common.{◌||◌, cond, List, [], ◌∷◌, ◌++◌, map, Some, None}
use Rattle.std.proofs.Common.{length, get_or, drop, add-one, refl, sym, ap, subst, ◌∙◌, arith, eq-eqb, eqb-true}
use Rattle.std.proofs.Common.{true≢false, append-nil, append_assoc}
use Rattle.std.proofs.lemmas.Bool.Decides.{nat_tests}
use Rattle.std.proofs.lemmas.List.Elements.{All-head, All-tail, All-cons, All-nil, All-append}
use Rattle.std.proofs.lemmas.Grind.{flat_map-append}
use Rattle.ot_logic.specs.Names.{Name}
use Rattle.ot_logic.specs.Naming.{names}
use Rattle.ot_logic.specs.Trees.{Ty, Tm, TyOp}
use Rattle.ot_logic.specs.Hol.{same_ty, same_tm}
use Rattle.ot_logic.specs.Table.{IsInjective}
use Rattle.ot_laws.proofs.Tests.{tells_names, same_ty-is}
use Rattle.ot_log_nodes.specs.Items.{Item, HasType, HasTerm, name_at, type_at, types_at, term_at}
use Rattle.ot_log_nodes.proofs.ItemLemmas.{type-one}
use Rattle.ot_log_rules.proofs.Numbers.{same-terms}
use Rattle.ot_log_format.specs.Tokens.{Token, Number, Named, Word, spelling}
use Rattle.ot_log_format.specs.declared.word.RecordWord.TheVariants as words
use Rattle.ot_text.specs.Pages.{Bytes, IsPut, printed}
use Rattle.ot_text.proofs.Putting.{then, same-text}
use Rattle.ot_log_records.specs.Entries.{Node, TypeNode, TermNode, AType, ATerm}
use Rattle.ot_log_records.specs.Entries.{type_list, type_count, type_entry, term_entry}
use Rattle.ot_log_records.specs.Entries.{type_nodes, types_nodes, type_parts, term_nodes, term_parts, operand_nodes}
use Rattle.ot_log_records.specs.Logged.{Log, add_tokens, put, token_of, count_sequent, has_node, with_node, write_nodes}
use Rattle.ot_log_records.proofs.Noding.{nodes-append, node-there, node-absent, node-new, closed-type, closed-term}
use Rattle.ot_log_records.specs.Bytes.{token_bytes, bytes_of}
use Rattle.ot_log_records.specs.Closed.{IsClosed}
use Rattle.ot_log_page.specs.Sheets.{operand_at, Shows, Moves}
use Rattle.ot_log_page.specs.declared.operand.Operand as code
use Rattle.ot_log_page.specs.declared.sheet.Sheet.{Sheet}
use Rattle.std.proofs.lemmas.List.{map-append, drop_all}
use Rattle.ot_logic.proofs.Elements.{drop-item, position-bound}

all-push : {X : Type 0} (P : X → Type 0) (xs : List X) (y : X) → All P xs → P y → All P (xs ++ y ∷ [])
all-push P xs y h g = All-append P xs (y ∷ []) h (All-cons P y [] g (All-nil P))

-- ---- numbers of types and terms
module _ (ts : List Item) (one : IsInjective ts) where
  pub same-types : (i j : ℕ) → HasType ts i → HasType ts j → same_ty names (type_at ts i) (type_at ts j) ≡ nat_eq i j
  same-types i j g h = by (nat_eq i j) refl
    where
      by : (b : Bool) → nat_eq i j ≡ b → same_ty names (type_at ts i) (type_at ts j) ≡ b
      by true e = (same_ty-is names tells_names (type_at ts i) (type_at ts j)).1 (ap (type_at ts) (eqb-true i j e))
      by false e = other (same_ty names (type_at ts i) (type_at ts j)) refl
        where
          other : (b : Bool) → same_ty names (type_at ts i) (type_at ts j) ≡ b → b ≡ false
          other true p = absurd (true≢false (sym (eq-eqb i j
              (type-one ts one i j g h ((same_ty-is names tells_names (type_at ts i) (type_at ts j)).0 p))) ∙ e))
          other false p = refl

  pub any-types : (i : ℕ) (js : List ℕ) → HasType ts i → All (HasType ts) js
      → list_any (same_ty names (type_at ts i)) (map (type_at ts) js) ≡ list_any (nat_eq i) js
  any-types i [] g h = refl
  any-types i (j ∷ js) g h =
      let head = same-types i j g (All-head (HasType ts) j js h) in
      let tail = any-types i js g (All-tail (HasType ts) j js h) in
      λ k. head k || tail k

  pub any-terms : (i : ℕ) (js : List ℕ) → HasTerm ts i → All (HasTerm ts) js
      → list_any (same_tm names (term_at ts i)) (map (term_at ts) js) ≡ list_any (nat_eq i) js
  any-terms i [] g h = refl
  any-terms i (j ∷ js) g h =
      let head = same-terms ts one i j g (All-head (HasTerm ts) j js h) in
      let tail = any-terms i js g (All-tail (HasTerm ts) j js h) in
      λ k. head k || tail k

  pub place-types : (i : ℕ) (js : List ℕ) → HasType ts i → All (HasType ts) js
      → position_or_len (same_ty names (type_at ts i)) (map (type_at ts) js) ≡ position_or_len (nat_eq i) js
  place-types i [] g h = refl
  place-types i (j ∷ js) g h =
      let head = same-types i j g (All-head (HasType ts) j js h) in
      let tail = place-types i js g (All-tail (HasType ts) j js h) in
      cc

  pub place-terms : (i : ℕ) (js : List ℕ) → HasTerm ts i → All (HasTerm ts) js
      → position_or_len (same_tm names (term_at ts i)) (map (term_at ts) js) ≡ position_or_len (nat_eq i) js
  place-terms i [] g h = refl
  place-terms i (j ∷ js) g h =
      let head = same-terms ts one i j g (All-head (HasTerm ts) j js h) in
      let tail = place-terms i js g (All-tail (HasTerm ts) j js h) in
      cc

-- ---- one token more
pub bytes-more : (us : List (Token Name)) (t : Token Name) → bytes_of us ++ token_bytes t ≡ bytes_of (us ++ t ∷ [])
bytes-more us t = ap (λ z. bytes_of us ++ z) (sym (append-nil (token_bytes t)))
    ∙ sym (flat_map-append token_bytes us (t ∷ []))

pub shows-token : (ts : List Item) (max : ℕ) (old new : Sheet) (x : Log) (t : Token Name)
    → IsPut (token_bytes t) (printed old.page) (printed new.page)
    → new.types.keys ≡ old.types.keys → new.terms.keys ≡ old.terms.keys → new.sequents ≡ old.sequents
    → Shows ts max old x
    → Shows ts max new (add_tokens (t ∷ []) x)
shows-token ts max old new x t p a b c s = record {
  text = same-text (bytes-more x.tokens t) (then s.text p);
  types = ap (map (type_at ts)) a ∙ s.types;
  terms = ap (map (term_at ts)) b ∙ s.terms;
  sequents = c ∙ s.sequents;
  has_types = subst (All (HasType ts)) (sym a) s.has_types;
  has_terms = subst (All (HasTerm ts)) (sym b) s.has_terms;
  closed = s.closed;
}

-- ---- steps one after another
abbrev pub Leads : List Item → Sheet → Sheet → (Log → Log) → (Log → Log) → Type 0
Leads ts start now rest whole = (max : ℕ) (x : Log) → Shows ts max start x → (y : Log) × Shows ts max now y
    × (rest y ≡ whole x)

pub leads-step : (ts : List Item) (start old new : Sheet) (f g rest whole : Log → Log) → Leads ts start old f whole
    → Moves ts old new g → ((y : Log) → f y ≡ rest (g y)) → Leads ts start new rest whole
leads-step ts start old new f g rest whole l m e = λ max x h. let (y, k, p) = l max x h in
    (g y, m max y k, sym (e y) ∙ p)

pub leads-end : (ts : List Item) (start now : Sheet) (rest whole : Log → Log) → Leads ts start now rest whole
    → ((y : Log) → rest y ≡ y) → Moves ts start now whole
leads-end ts start now rest whole l e = λ max x h. let (y, k, p) = l max x h in
    subst (Shows ts max now) (sym (e y) ∙ p) k

pub moves-then : (ts : List Item) (old mid new : Sheet) (f g : Log → Log) → Moves ts old mid f → Moves ts mid new g
    → Moves ts old new (λ x. g (f x))
moves-then ts old mid new f g a b = λ max x h. b max (f x) (a max x h)

pub moves-as : (ts : List Item) (old new : Sheet) (f g : Log → Log) → ((x : Log) → f x ≡ g x) → Moves ts old new f
    → Moves ts old new g
moves-as ts old new f g e a = λ max x h. subst (Shows ts max new) (e x) (a max x h)

-- ---- what is put
pub shows-count : (ts : List Item) (max n : ℕ) (s : Sheet) (x : Log) → n ≡ s.sequents + 1 → Shows ts max s x
    → Shows ts max (record s { sequents = n }) (count_sequent x)
shows-count ts max n s x e h = record {
  text = h.text;
  types = h.types;
  terms = h.terms;
  sequents = e ∙ ap (λ z. z + 1) h.sequents ∙ add-one x.sequents;
  has_types = h.has_types;
  has_terms = h.has_terms;
  closed = h.closed;
}

pub as-operand : (ts : List Item) (old new : Sheet) (o p : code.Operand) → o ≡ p
    → Moves ts old new (λ x. add_tokens (token_of x (operand_at ts p) ∷ []) x)
    → Moves ts old new (λ x. add_tokens (token_of x (operand_at ts o) ∷ []) x)
as-operand ts old new o p e m = subst (λ z. Moves ts old new (λ x. add_tokens (token_of x (operand_at ts z) ∷ []) x))
    (sym e) m

pub type-token : (ts : List Item) (old new : Sheet) (i r : ℕ) → IsInjective ts → HasType ts i
    → r ≡ position_or_len (nat_eq i) old.types.keys → Moves ts old new (add_tokens (Number r ∷ []))
    → Moves ts old new (λ x. add_tokens (token_of x (AType (type_at ts i)) ∷ []) x)
type-token ts old new i r one g e m = λ max x s.
    subst (λ k. Shows ts max new (add_tokens (Number k ∷ []) x))
    (e ∙ sym (place-types ts one i old.types.keys g s.has_types)
    ∙ ap (position_or_len (same_ty names (type_at ts i))) s.types) (m max x s)

pub term-token : (ts : List Item) (old new : Sheet) (i r : ℕ) → IsInjective ts → HasTerm ts i
    → r ≡ position_or_len (nat_eq i) old.terms.keys → Moves ts old new (add_tokens (Number r ∷ []))
    → Moves ts old new (λ x. add_tokens (token_of x (ATerm (term_at ts i)) ∷ []) x)
term-token ts old new i r one g e m = λ max x s.
    subst (λ k. Shows ts max new (add_tokens (Number k ∷ []) x))
    (e ∙ sym (place-terms ts one i old.terms.keys g s.has_terms)
    ∙ ap (position_or_len (same_tm names (term_at ts i))) s.terms) (m max x s)

-- tokens behind tokens
pub tokens-more : (us vs : List (Token Name)) (x : Log) → add_tokens vs (add_tokens us x) ≡ add_tokens (us ++ vs) x
tokens-more us vs x = ap (λ z. record { tokens = z; types = x.types; terms = x.terms; sequents = x.sequents })
    (append_assoc x.tokens us vs)

pub tokens-none : (x : Log) → add_tokens [] x ≡ x
tokens-none x = ap (λ z. record { tokens = z; types = x.types; terms = x.terms; sequents = x.sequents })
    (append-nil x.tokens)

pub no-place : {X : Type 0} (p : X → Bool) (xs : List X) → position p xs ≡ None → length xs ≡ position_or_len p xs
no-place p xs e = by (nat_lt (position_or_len p xs) (length xs)) refl e
  where
    by : (b : Bool) → nat_lt (position_or_len p xs) (length xs) ≡ b → cond b (Some (position_or_len p xs)) None ≡ None
        → length xs ≡ position_or_len p xs
    by true h k = cc
    by false h k = let n = position-bound p xs in grind (arith, nat_tests, n, h)

-- what is left of operands
abbrev pub tokens_at : List Item → List code.Operand → Log → Log
tokens_at ts os x = add_tokens (map (token_of x) (map (operand_at ts) os)) x

pub tokens-next : (ts : List Item) (os : List code.Operand) (k : ℕ) (o : code.Operand) (y : Log) → k < length os
    → o ≡ get_or os k o → tokens_at ts (drop k os) y
    ≡ tokens_at ts (drop (k + 1) os) (add_tokens (token_of y (operand_at ts o) ∷ []) y)
tokens-next ts os k o y h e = ap (λ l. tokens_at ts l y) (drop-item os k o h e)
    ∙ sym (tokens-more (token_of y (operand_at ts o) ∷ []) (map (token_of y) (map (operand_at ts) (drop (k + 1) os)))
    y)

pub tokens-end : (ts : List Item) (os : List code.Operand) (k : ℕ) (y : Log) → length os ≤ k
    → tokens_at ts (drop k os) y ≡ y
tokens-end ts os k y h = ap (λ l. tokens_at ts l y) (drop_all k os h) ∙ tokens-none y

abbrev pub types_tokens : List Item → List ℕ → Log → Log
types_tokens ts is x = add_tokens (map (token_of x) (type_list (types_at ts is))) x

pub types-next : (ts : List Item) (is : List ℕ) (k i : ℕ) (y : Log) → k < length is → i ≡ get_or is k i
    → types_tokens ts (drop k is) y ≡ types_tokens ts (drop (k + 1) is)
    (add_tokens (token_of y (AType (type_at ts i)) ∷ []) y)
types-next ts is k i y h e = ap (λ l. types_tokens ts l y) (drop-item is k i h e)
    ∙ sym (tokens-more (token_of y (AType (type_at ts i)) ∷ [])
    (map (token_of y) (type_list (types_at ts (drop (k + 1) is)))) y)

pub types-end : (ts : List Item) (is : List ℕ) (k : ℕ) (y : Log) → length is ≤ k → types_tokens ts (drop k is) y ≡ y
types-end ts is k y h = ap (λ l. types_tokens ts l y) (drop_all k is h) ∙ tokens-none y

pub type-counted : (ts : List Item) (is : List ℕ) → type_count (types_at ts is) ≡ length is
type-counted ts [] = refl
type-counted ts (i ∷ is) = ap suc (type-counted ts is)

-- the tokens of a type operator, piece by piece
pub type-operator-tokens : (ts : List Item) (n : ℕ) (is : List ℕ) (x : Log)
    → types_tokens ts is (add_tokens (Number (length is) ∷ [])
    (add_tokens (Named (name_at ts n) ∷ []) (add_tokens (Word (spelling words.TyOp) ∷ []) x)))
    ≡ put (type_entry (TyOp (name_at ts n) (types_at ts is))) x
type-operator-tokens ts n is x =
    let w = Word (spelling words.TyOp) in
    let m = Named (name_at ts n) in
    let us = map (token_of x) (type_list (types_at ts is)) in
    ap (λ y. add_tokens us (add_tokens (Number (length is) ∷ []) y)) (tokens-more (w ∷ []) (m ∷ []) x)
    ∙ ap (add_tokens us) (tokens-more (w ∷ m ∷ []) (Number (length is) ∷ []) x)
    ∙ tokens-more (w ∷ m ∷ Number (length is) ∷ []) us x
    ∙ ap (λ k. add_tokens (w ∷ m ∷ Number k ∷ us) x) (sym (type-counted ts is))

-- ---- types one after another
abbrev pub types_written : List Item → List ℕ → Log → Log
types_written ts is = write_nodes (types_nodes (types_at ts is))

pub written-next : (ts : List Item) (is : List ℕ) (k i : ℕ) (y : Log) → k < length is → i ≡ get_or is k i
    → types_written ts (drop k is) y ≡ types_written ts (drop (k + 1) is) (write_nodes (type_nodes (type_at ts i)) y)
written-next ts is k i y h e = ap (λ l. types_written ts l y) (drop-item is k i h e)
    ∙ nodes-append (type_nodes (type_at ts i)) (types_nodes (types_at ts (drop (k + 1) is))) y

pub written-end : (ts : List Item) (is : List ℕ) (k : ℕ) (y : Log) → length is ≤ k → types_written ts (drop k is) y
    ≡ y
written-end ts is k y h = ap (λ l. types_written ts l y) (drop_all k is h)

-- ---- a type and a term behind their parts
pub as-type : (ts : List Item) (old new : Sheet) (t u : Ty Name) → t ≡ u
    → Moves ts old new (λ x. put (type_entry u) (write_nodes (type_parts u) x))
    → Moves ts old new (λ x. put (type_entry t) (write_nodes (type_parts t) x))
as-type ts old new t u e m = subst (λ z. Moves ts old new (λ x. put (type_entry z) (write_nodes (type_parts z) x)))
    (sym e) m

pub as-term : (ts : List Item) (old new : Sheet) (t u : Tm Name) → t ≡ u
    → Moves ts old new (λ x. put (term_entry u) (write_nodes (term_parts u) x))
    → Moves ts old new (λ x. put (term_entry t) (write_nodes (term_parts t) x))
as-term ts old new t u e m = subst (λ z. Moves ts old new (λ x. put (term_entry z) (write_nodes (term_parts z) x)))
    (sym e) m

pub type-there : (ts : List Item) (s : Sheet) (i : ℕ) → IsInjective ts → HasType ts i
    → list_any (nat_eq i) s.types.keys ≡ true
    → Moves ts s s (write_nodes (type_nodes (type_at ts i)))
type-there ts s i one g e = λ max x h.
    let has = ap (list_any (same_ty names (type_at ts i))) (sym h.types)
    ∙ any-types ts one i s.types.keys g h.has_types ∙ e in
    subst (Shows ts max s) (sym (node-there (TypeNode (type_at ts i)) x h.closed has)) h

pub term-there : (ts : List Item) (s : Sheet) (i : ℕ) → IsInjective ts → HasTerm ts i
    → list_any (nat_eq i) s.terms.keys ≡ true
    → Moves ts s s (write_nodes (term_nodes (term_at ts i)))
term-there ts s i one g e = λ max x h.
    let has = ap (list_any (same_tm names (term_at ts i))) (sym h.terms)
    ∙ any-terms ts one i s.terms.keys g h.has_terms ∙ e in
    subst (Shows ts max s) (sym (node-there (TermNode (term_at ts i)) x h.closed has)) h

pub type-added : (ts : List Item) (old mid new : Sheet) (i : ℕ) → IsInjective ts → HasType ts i
    → list_any (nat_eq i) old.types.keys ≡ false
    → Moves ts old mid (λ x. put (type_entry (type_at ts i)) (write_nodes (type_parts (type_at ts i)) x))
    → new.types.keys ≡ cond (list_any (nat_eq i) mid.types.keys) mid.types.keys (mid.types.keys ++ i ∷ [])
    → new.page ≡ mid.page
    → new.terms.keys ≡ mid.terms.keys → new.sequents ≡ mid.sequents
    → Moves ts old new (write_nodes (type_nodes (type_at ts i)))
type-added ts old mid new i one g e m keys a b c = λ max x h.
    let t = type_at ts i in
    let n = TypeNode t in
    let absent : has_node n x ≡ false = ap (list_any (same_ty names t)) (sym h.types)
    ∙ any-types ts one i old.types.keys g h.has_types ∙ e in
    let y = put (type_entry t) (write_nodes (type_parts t) x) in
    let k = m max x h in
    let none : list_any (nat_eq i) mid.types.keys ≡ false = sym (any-types ts one i mid.types.keys g k.has_types)
    ∙ ap (list_any (same_ty names t)) k.types ∙ node-absent n x absent in
    let more : new.types.keys ≡ mid.types.keys ++ i ∷ [] = keys
    ∙ ap (λ z. cond z mid.types.keys (mid.types.keys ++ i ∷ [])) none in
    let made = node-new n x absent in
    let shown : Shows ts max new (with_node n y) = record {
      text = subst (λ p. IsPut (bytes_of y.tokens) (Bytes [] max) (printed p)) (sym a) k.text;
      types = ap (map (type_at ts)) more ∙ map-append (type_at ts) mid.types.keys (i ∷ [])
          ∙ ap (λ l. l ++ t ∷ []) k.types;
      terms = ap (map (term_at ts)) b ∙ k.terms;
      sequents = c ∙ k.sequents;
      has_types = subst (All (HasType ts)) (sym more) (all-push (HasType ts) mid.types.keys i k.has_types g);
      has_terms = subst (All (HasTerm ts)) (sym b) k.has_terms;
      closed = subst IsClosed made (closed-type t x h.closed);
    } in
    subst (Shows ts max new) (sym made) shown

pub term-added : (ts : List Item) (old mid new : Sheet) (i : ℕ) → IsInjective ts → HasTerm ts i
    → list_any (nat_eq i) old.terms.keys ≡ false
    → Moves ts old mid (λ x. put (term_entry (term_at ts i)) (write_nodes (term_parts (term_at ts i)) x))
    → new.terms.keys ≡ cond (list_any (nat_eq i) mid.terms.keys) mid.terms.keys (mid.terms.keys ++ i ∷ [])
    → new.page ≡ mid.page
    → new.types.keys ≡ mid.types.keys → new.sequents ≡ mid.sequents
    → Moves ts old new (write_nodes (term_nodes (term_at ts i)))
term-added ts old mid new i one g e m keys a b c = λ max x h.
    let t = term_at ts i in
    let n = TermNode t in
    let absent : has_node n x ≡ false = ap (list_any (same_tm names t)) (sym h.terms)
    ∙ any-terms ts one i old.terms.keys g h.has_terms ∙ e in
    let y = put (term_entry t) (write_nodes (term_parts t) x) in
    let k = m max x h in
    let none : list_any (nat_eq i) mid.terms.keys ≡ false = sym (any-terms ts one i mid.terms.keys g k.has_terms)
    ∙ ap (list_any (same_tm names t)) k.terms ∙ node-absent n x absent in
    let more : new.terms.keys ≡ mid.terms.keys ++ i ∷ [] = keys
    ∙ ap (λ z. cond z mid.terms.keys (mid.terms.keys ++ i ∷ [])) none in
    let made = node-new n x absent in
    let shown : Shows ts max new (with_node n y) = record {
      text = subst (λ p. IsPut (bytes_of y.tokens) (Bytes [] max) (printed p)) (sym a) k.text;
      types = ap (map (type_at ts)) b ∙ k.types;
      terms = ap (map (term_at ts)) more ∙ map-append (term_at ts) mid.terms.keys (i ∷ [])
          ∙ ap (λ l. l ++ t ∷ []) k.terms;
      sequents = c ∙ k.sequents;
      has_types = subst (All (HasType ts)) (sym b) k.has_types;
      has_terms = subst (All (HasTerm ts)) (sym more) (all-push (HasTerm ts) mid.terms.keys i k.has_terms g);
      closed = subst IsClosed made (closed-term t x h.closed);
    } in
    subst (Shows ts max new) (sym made) shown

-- ---- operands one after another
abbrev pub operands_written : List Item → List code.Operand → Log → Log
operands_written ts os = write_nodes (flat_map operand_nodes (map (operand_at ts) os))

pub operand-next : (ts : List Item) (os : List code.Operand) (k : ℕ) (o : code.Operand) (y : Log) → k < length os
    → o ≡ get_or os k o
    → operands_written ts (drop k os) y ≡ operands_written ts (drop (k + 1) os)
    (write_nodes (operand_nodes (operand_at ts o)) y)
operand-next ts os k o y h e = ap (λ l. operands_written ts l y) (drop-item os k o h e)
    ∙ nodes-append (operand_nodes (operand_at ts o)) (flat_map operand_nodes (map (operand_at ts) (drop (k + 1) os)))
    y

pub operand-end : (ts : List Item) (os : List code.Operand) (k : ℕ) (y : Log) → length os ≤ k
    → operands_written ts (drop k os) y ≡ y
operand-end ts os k y h = ap (λ l. operands_written ts l y) (drop_all k os h)

pub nodes-then : (ts : List Item) (old mid new : Sheet) (ns ms : List Node) → Moves ts old mid (write_nodes ns)
    → Moves ts mid new (write_nodes ms) → Moves ts old new (write_nodes (ns ++ ms))
nodes-then ts old mid new ns ms a b =
    moves-as ts old new (λ x. write_nodes ms (write_nodes ns x)) (write_nodes (ns ++ ms))
    (λ x. sym (nodes-append ns ms x)) (moves-then ts old mid new (write_nodes ns) (write_nodes ms) a b)
