-- How the symbols of terms are found: what is looked at stands for no less and no more.
use Rattle.std.specs.Prelude.{◌≡◌, ℕ, ◌+◌, ◌<◌, List, [], ◌∷◌, ◌++◌, map, length, take, get_or, ◌⊎◌}
use Rattle.std.specs.BTreeSet.{insert_key as insert_ordered}
use Rattle.std.specs.List.{All, flat_map}
use Rattle.std.specs.Ordering.{nat_cmp}
use Rattle.std.specs.declared.cmp.Ordering.TheVariants.{Less}
use Rattle.indexmap.specs.IndexSet.{insert_key}
use Rattle.std.proofs.Common.{refl, sym, ap, ◌∙◌, subst, inl, inr, arith, append_assoc, append-nil}
use Rattle.std.proofs.lemmas.List.{map-append}
use Rattle.std.proofs.lemmas.List.Elements.{All-head, All-tail}
use Rattle.ot_logic.specs.Hol.{symbols_ty, symbols_tm, symbols_all, ops_all, ops_ty}
use Rattle.ot_logic.specs.NamedTerms.{nameless}
use Rattle.ot_logic.specs.Lists.{IsMember, IsPart, IsSameSet, AreDistinct}
use Rattle.ot_logic.specs.Names.{Name}
use Rattle.ot_logic.specs.Naming.{names, IsNameTable}
use Rattle.ot_logic.specs.Trees.{Ty, TyVar, TyOp, NVar, NConst, NApp, NAbs, Variable, Symbol, ConSymbol, OpSymbol}
use Rattle.ot_logic.proofs.Naming.{name_of-injective}
use Rattle.ot_laws.proofs.Sets.{same_set-self, same_set-then, same_set-append, same_set-swap}
use Rattle.ot_laws.proofs.Symbols.{symbols-abs}
use Rattle.ot_laws.proofs.Tests.{tells_names}
use Rattle.ot_type.proofs.SubtypeLemmas.{less_is}
use Rattle.ot_term.specs.declared.term.Symbol as code
use Rattle.ot_term.specs.declared.term.SymbolKind.{SymbolKind}
use Rattle.ot_term.specs.declared.term.SymbolKind.TheVariants as kinds
use Rattle.ot_term.proofs.Distinct.{symbol_eq, symbol-is, distinct_members, distinct_once}
use Rattle.ot_term.proofs.GatherLemmas.{same_set-map}
use Rattle.ot_term.proofs.Walking.{set_one}
use Rattle.ot_kernel.specs.State.{State, name_at, type_at, types_at, term_at, terms_at, named_at}
use Rattle.ot_kernel.proofs.Namings.{name_of-index}
use Rattle.ot_pretty.specs.declared.search.Search.{Search}
use Rattle.ot_pretty.specs.Run.{named_symbol, symbol_named}
use Rattle.ot_pretty.specs.Found.{type_symbols, term_symbols, symbols_with, IsSearch, FindsSymbols}
use Rattle.ot_pretty.specs.Found.{Reaches, AddsSymbol, AddsType, AddsTerm, AddsTypes}
use Rattle.ot_pretty.proofs.Roots.{take-item}
use Rattle.ot_logic.proofs.Members.{IsMember-flat_map, IsMember-flat_map_back}
use Rattle.ot_logic.proofs.Members.{IsMember-last, IsMember-left, IsMember-map_back, IsMember-push, All-at_member}

-- ---- sets
same-list : {X : Type 0} {xs ys : List X} → xs ≡ ys → IsSameSet xs ys
same-list {X} {xs} {ys} e = subst (IsSameSet xs) e (same_set-self xs)

-- a part in front is moved behind
moved : {X : Type 0} (a m r : List X) → IsSameSet (a ++ (m ++ r)) ((a ++ r) ++ m)
moved a m r = same_set-then (same_set-append (same_set-self a) (same_set-swap r m))
    (same-list (sym (append_assoc a r m)))

module _ {X Y : Type 0} (f : X → List Y) where
  flat-part : (xs ys : List X) → IsPart xs ys → IsPart (flat_map f xs) (flat_map f ys)
  flat-part xs ys p y m = let w = IsMember-flat_map_back f y xs m in IsMember-flat_map f y w.0 ys (p w.0 w.1) w.2

  pub flat-same : (xs ys : List X) → IsSameSet xs ys → IsSameSet (flat_map f xs) (flat_map f ys)
  flat-same xs ys p = record { to = flat-part xs ys p.to; back = flat-part ys xs p.back }

  pub flat-push : (xs : List X) (x : X) → flat_map f (xs ++ x ∷ []) ≡ flat_map f xs ++ f x
  flat-push [] x = append-nil (f x)
  flat-push (z ∷ zs) x = ap (λ l. f z ++ l) (flat-push zs x) ∙ sym (append_assoc (f z) (flat_map f zs) (f x))

  -- a number more in a set
  flat-insert : (xs ys : List X) (x : X) → IsSameSet ys (xs ++ x ∷ [])
      → IsSameSet (flat_map f ys) (flat_map f xs ++ f x)
  flat-insert xs ys x p = same_set-then (flat-same ys (xs ++ x ∷ []) p) (same-list (flat-push xs x))

-- ---- more to look at
module _ (s : State) (n m : ℕ) where
  abbrev More : Search → Search → List (Symbol Name) → Type 0
  More = FindsSymbols s n m

  pub finds-nothing : (p : Search) → More p p []
  finds-nothing p = record {
    terms = λ i h. inl h;
    types = λ i h. inl h;
    inside = λ x h. inl h;
    once = λ d. d;
    symbols = same-list (sym (append-nil (symbols_with s p)));
  }

  pub finds-then : {a b c : Search} {x y : List (Symbol Name)} → More a b x → More b c y → More a c (x ++ y)
  finds-then {a} {b} {c} {x} {y} p q = record {
    terms = λ i h. elim (q.terms i h) [ inl k ↦ p.terms i k | inr k ↦ inr k ];
    types = λ i h. elim (q.types i h) [ inl k ↦ p.types i k | inr k ↦ inr k ];
    inside = λ z h. elim (q.inside z h) [ inl k ↦ p.inside z k | inr k ↦ inr k ];
    once = λ d. q.once (p.once d);
    symbols = subst (IsSameSet (symbols_with s c)) (append_assoc (symbols_with s a) x y)
        (same_set-then q.symbols (same_set-append p.symbols (same_set-self y)));
  }

  pub finds-same : {a b : Search} {x y : List (Symbol Name)} → IsSameSet x y → More a b x → More a b y
  finds-same {a} {b} {x} {y} e p =
      record {
        terms = p.terms;
        types = p.types;
        inside = p.inside;
        once = p.once;
        symbols = same_set-then p.symbols (same_set-append (same_set-self (symbols_with s a)) e);
      }

  pushed : (i k : ℕ) (old new : List ℕ) (bound : ℕ) → i < bound → new ≡ insert_ordered nat_cmp old i → IsMember k new
      → IsMember k old ⊎ (k < bound)
  pushed i k old new bound h e at = elim (IsMember-push k old i ((set_one old i).to k (subst (IsMember k) e at)))
      [ inl a ↦ inl a | inr same ↦ inr (subst (λ z. z < bound) same h) ]

  abbrev symbols_so : Search → List (Symbol Name)
  symbols_so p = map (named_symbol s) p.symbols.keys

  pub finds-term : (old new : Search) (i : ℕ) → i < n → new.terms.keys ≡ insert_ordered nat_cmp old.terms.keys i
      → new.types.keys ≡ old.types.keys → new.symbols.keys ≡ old.symbols.keys
      → More old new (symbols_tm names (term_at s i))
  finds-term old new i h t y x =
      let a = symbols_so old in
      let b = type_symbols s old.types.keys in
      let c = term_symbols s old.terms.keys in
      let d = symbols_tm names (term_at s i) in
      let one = subst (λ l. IsSameSet l (old.terms.keys ++ i ∷ [])) (sym t) (set_one old.terms.keys i) in
      let terms : IsSameSet (term_symbols s new.terms.keys) (c ++ d) =
      flat-insert (λ j. symbols_tm names (term_at s j)) old.terms.keys new.terms.keys i one in
      record {
        terms = λ k m. pushed i k old.terms.keys new.terms.keys n h t m;
        types = λ k m. inl (subst (IsMember k) y m);
        inside = λ z m. inl (subst (IsMember z) x m);
        once = λ d. subst AreDistinct (sym x) d;
        symbols = subst (λ l. IsSameSet l ((a ++ (b ++ c)) ++ d))
            (λ j. map (named_symbol s) (sym x j) ++ (type_symbols s (sym y j) ++ term_symbols s new.terms.keys))
            (same_set-then (same_set-append (same_set-self a) (same_set-append (same_set-self b) terms))
            (same-list (ap (λ l. a ++ l) (sym (append_assoc b c d)) ∙ sym (append_assoc a (b ++ c) d))));
      }

  pub finds-type : (old new : Search) (i : ℕ) → i < m → new.types.keys ≡ insert_ordered nat_cmp old.types.keys i
      → new.terms.keys ≡ old.terms.keys → new.symbols.keys ≡ old.symbols.keys
      → More old new (symbols_ty names (type_at s i))
  finds-type old new i h y t x =
      let a = symbols_so old in
      let b = type_symbols s old.types.keys in
      let c = term_symbols s old.terms.keys in
      let d = symbols_ty names (type_at s i) in
      let one = subst (λ l. IsSameSet l (old.types.keys ++ i ∷ [])) (sym y) (set_one old.types.keys i) in
      let types : IsSameSet (type_symbols s new.types.keys) (b ++ d) =
      flat-insert (λ j. symbols_ty names (type_at s j)) old.types.keys new.types.keys i one in
      let turned : IsSameSet ((b ++ d) ++ c) ((b ++ c) ++ d) =
      same_set-then (same-list (append_assoc b d c)) (moved b d c) in
      record {
        terms = λ k m. inl (subst (IsMember k) t m);
        types = λ k g. pushed i k old.types.keys new.types.keys m h y g;
        inside = λ z m. inl (subst (IsMember z) x m);
        once = λ d. subst AreDistinct (sym x) d;
        symbols = subst (λ l. IsSameSet l ((a ++ (b ++ c)) ++ d))
            (λ j. map (named_symbol s) (sym x j) ++ (type_symbols s new.types.keys ++ term_symbols s (sym t j)))
            (same_set-then
            (same_set-append (same_set-self a) (same_set-then (same_set-append types (same_set-self c)) turned))
            (same-list (sym (append_assoc a (b ++ c) d))));
      }

  pub finds-symbol : (old new : Search) (x : code.Symbol) → x.name < length s.names
      → new.symbols.keys ≡ insert_key symbol_eq old.symbols.keys x → new.terms.keys ≡ old.terms.keys
      → new.types.keys ≡ old.types.keys → More old new (named_symbol s x ∷ [])
  finds-symbol old new x h e t y =
      let a = symbols_so old in
      let r = type_symbols s old.types.keys ++ term_symbols s old.terms.keys in
      let d = named_symbol s x ∷ [] in
      let one = subst (λ l. IsSameSet l (old.symbols.keys ++ x ∷ [])) (sym e)
      (distinct_members symbol_eq symbol-is old.symbols.keys (x ∷ [])) in
      let symbols : IsSameSet (map (named_symbol s) new.symbols.keys) (a ++ d) =
      same_set-then (same_set-map (named_symbol s) one)
      (same-list (map-append (named_symbol s) old.symbols.keys (x ∷ []))) in
      record {
        terms = λ k m. inl (subst (IsMember k) t m);
        types = λ k m. inl (subst (IsMember k) y m);
        inside = λ z m. elim (IsMember-push z old.symbols.keys x (one.to z m))
            [ inl k ↦ inl k | inr same ↦ inr (subst (λ (w : code.Symbol). w.name < length s.names) same h) ];
        once = λ d. subst AreDistinct (sym e) (distinct_once symbol_eq symbol-is old.symbols.keys (x ∷ []) d);
        symbols = subst (λ l. IsSameSet l ((a ++ r) ++ d))
            (λ j. map (named_symbol s) new.symbols.keys ++ (type_symbols s (sym y j) ++ term_symbols s (sym t j)))
            (same_set-then (same_set-append symbols (same_set-self r))
            (same_set-then (same-list (append_assoc a d r)) (moved a d r)));
      }

  -- ---- one after another
  finds-more : (f : ℕ → List (Symbol Name)) (first old new : Search) (ids : List ℕ) (k i : ℕ) → k < length ids
      → i ≡ get_or ids k i → More first old (flat_map f (take k ids)) → More old new (f i)
      → More first new (flat_map f (take (k + 1) ids))
  finds-more f first old new ids k i h at before more =
      subst (More first new) (sym (ap (flat_map f) (take-item ids k i h at) ∙ flat-push f (take k ids) i))
      (finds-then before more)

-- so many of a list of types, or of terms
abbrev pub AddsTypesSo : Search → Search → List ℕ → ℕ → Type 0
AddsTypesSo old new ids k = (s : State) (n m : ℕ) → All (λ i. i < m) ids
    → FindsSymbols s n m old new (type_symbols s (take k ids))

abbrev pub AddsTermsSo : Search → Search → List ℕ → ℕ → Type 0
AddsTermsSo old new ids k = (s : State) (n m : ℕ) → All (λ i. i < n) ids
    → FindsSymbols s n m old new (term_symbols s (take k ids))

pub types-step : (first old new : Search) (ids : List ℕ) (k i : ℕ) → k < length ids → i ≡ get_or ids k i
    → AddsTypesSo first old ids k → AddsType old new i → AddsTypesSo first new ids (k + 1)
types-step first old new ids k i h at before more =
    λ s n m all. finds-more s n m (λ j. symbols_ty names (type_at s j)) first old new ids k i h at (before s n m all)
    (more s n m (subst (λ z. z < m) (sym at) (all k i h)))

pub terms-step : (first old new : Search) (ids : List ℕ) (k i : ℕ) → k < length ids → i ≡ get_or ids k i
    → AddsTermsSo first old ids k → AddsTerm old new i → AddsTermsSo first new ids (k + 1)
terms-step first old new ids k i h at before more =
    λ s n m all. finds-more s n m (λ j. symbols_tm names (term_at s j)) first old new ids k i h at (before s n m all)
    (more s n m (subst (λ z. z < n) (sym at) (all k i h)))

-- ---- the parts of a term and of a type
module _ (s : State) where
  pub variable-symbols : (i : ℕ) (v : Variable Name) → named_at s.terms i ≡ NVar v
      → IsSameSet (symbols_ty names v.ty) (symbols_tm names (term_at s i))
  variable-symbols i v e = same-list (ap (λ t. symbols_tm names (nameless names t)) (sym e))

  pub constant-symbols : (i : ℕ) (n : Name) (t : Ty Name) → named_at s.terms i ≡ NConst n t
      → IsSameSet ((ConSymbol n ∷ []) ++ symbols_ty names t) (symbols_tm names (term_at s i))
  constant-symbols i n t e = same-list (ap (λ t. symbols_tm names (nameless names t)) (sym e))

  pub application-symbols : (i f x : ℕ) → named_at s.terms i ≡ NApp (named_at s.terms f) (named_at s.terms x)
      → IsSameSet (symbols_tm names (term_at s f) ++ symbols_tm names (term_at s x)) (symbols_tm names (term_at s i))
  application-symbols i f x e = same-list (ap (λ t. symbols_tm names (nameless names t)) (sym e))

  pub abstraction-symbols : (i b : ℕ) (v : Variable Name) → named_at s.terms i ≡ NAbs v (named_at s.terms b)
      → IsSameSet (symbols_ty names v.ty ++ symbols_tm names (term_at s b)) (symbols_tm names (term_at s i))
  abstraction-symbols i b v e =
      let p = symbols-abs names tells_names v (named_at s.terms b) in
      same_set-then (record { to = p.back; back = p.to })
      (same-list (ap (λ t. symbols_tm names (nameless names t)) (sym e)))

  arguments : (is : List ℕ) → type_symbols s is ≡ map OpSymbol (ops_all names (types_at s is))
  arguments [] = refl
  arguments (i ∷ is) = ap (λ l. symbols_ty names (type_at s i) ++ l) (arguments is)
      ∙ sym (map-append OpSymbol (ops_ty names (type_at s i)) (ops_all names (types_at s is)))

  pub operator-symbols : (i : ℕ) (n : Name) (is : List ℕ) → type_at s i ≡ TyOp n (types_at s is)
      → IsSameSet ((OpSymbol n ∷ []) ++ type_symbols s is) (symbols_ty names (type_at s i))
  operator-symbols i n is e = same-list (ap (λ l. OpSymbol n ∷ l) (arguments is) ∙ ap (symbols_ty names) (sym e))

  pub no-symbols : (i : ℕ) (n : Name) → type_at s i ≡ TyVar n → IsSameSet [] (symbols_ty names (type_at s i))
  no-symbols i n e = same-list (ap (symbols_ty names) (sym e))

  -- what is added for a term, and for a type
  module _ (old new : Search) (i : ℕ) where
    abbrev FindsTerm : Type 0
    FindsTerm = FindsSymbols s i (length s.types) old new (symbols_tm names (term_at s i))

    abbrev FindsType : Type 0
    FindsType = FindsSymbols s 0 i old new (symbols_ty names (type_at s i))

    pub variable-finds : (n t : ℕ) → named_at s.terms i ≡ NVar (record { name = name_at s n; ty = type_at s t })
        → t < length s.types → AddsType old new t → FindsTerm
    variable-finds n t e h a = finds-same s i (length s.types) (variable-symbols i _ e) (a s i (length s.types) h)

    pub constant-finds : (mid : Search) (n t : ℕ) → named_at s.terms i ≡ NConst (name_at s n) (type_at s t)
        → n < length s.names → t < length s.types → AddsSymbol old mid kinds.Con n → AddsType mid new t → FindsTerm
    constant-finds mid n t e g h a b =
        finds-same s i (length s.types) (constant-symbols i (name_at s n) (type_at s t) e)
        (finds-then s i (length s.types) (a s i (length s.types) g) (b s i (length s.types) h))

    pub application-finds : (mid : Search) (f x : ℕ) → named_at s.terms i ≡ NApp (named_at s.terms f)
        (named_at s.terms x) → f < i → x < i → AddsTerm old mid f → AddsTerm mid new x → FindsTerm
    application-finds mid f x e g h a b = finds-same s i (length s.types) (application-symbols i f x e)
        (finds-then s i (length s.types) (a s i (length s.types) g) (b s i (length s.types) h))

    pub abstraction-finds : (mid : Search) (n t b : ℕ)
        → named_at s.terms i ≡ NAbs (record { name = name_at s n; ty = type_at s t }) (named_at s.terms b)
        → t < length s.types → b < i → AddsType old mid t → AddsTerm mid new b → FindsTerm
    abstraction-finds mid n t b e g h a c = finds-same s i (length s.types) (abstraction-symbols i b _ e)
        (finds-then s i (length s.types) (a s i (length s.types) g) (c s i (length s.types) h))

    pub operator-finds : (mid : Search) (n : ℕ) (is : List ℕ) → type_at s i ≡ TyOp (name_at s n) (types_at s is) → n
        < length s.names → All (λ k. k < i) is → AddsSymbol old mid kinds.TyOp n → AddsTypes mid new is → FindsType
    operator-finds mid n is e g h a b =
        finds-same s 0 i (operator-symbols i (name_at s n) is e) (finds-then s 0 i (a s 0 i g) (b s 0 i h))

  pub nothing-finds : (p : Search) (i : ℕ) (n : Name) → type_at s i ≡ TyVar n
      → FindsSymbols s 0 i p p (symbols_ty names (type_at s i))
  nothing-finds p i n e = finds-same s 0 i (no-symbols i n e) (finds-nothing s 0 i p)

  -- ---- the greatest number is taken, and looked at
  below : (i k : ℕ) (ks : List ℕ) → All (λ q. nat_cmp q i ≡ Less) ks → IsMember k ks → k < i
  below i k ks h m = less_is k i (All-at_member (λ q. nat_cmp q i ≡ Less) ks k h m)

  pub terms-below : {m : ℕ} {old new : Search} {more : List (Symbol Name)} (i : ℕ) → All (λ q. nat_cmp q i ≡ Less)
      old.terms.keys → FindsSymbols s i m old new more → (k : ℕ) → IsMember k new.terms.keys → k < i
  terms-below {m} {old} i h f k at = elim (f.terms k at) [ inl a ↦ below i k old.terms.keys h a | inr b ↦ b ]

  pub types-below : {n : ℕ} {old new : Search} {more : List (Symbol Name)} (i : ℕ) → All (λ q. nat_cmp q i ≡ Less)
      old.types.keys → FindsSymbols s n i old new more → (k : ℕ) → IsMember k new.types.keys → k < i
  types-below {n} {old} i h f k at = elim (f.types k at) [ inl a ↦ below i k old.types.keys h a | inr b ↦ b ]

  pub looked-term : (first old taken new : Search) (i : ℕ) → Reaches s first old → old.terms.keys ≡ taken.terms.keys
      ++ i ∷ [] → old.types.keys ≡ taken.types.keys → old.symbols.keys ≡ taken.symbols.keys
      → FindsSymbols s i (length s.types) taken new (symbols_tm names (term_at s i)) → Reaches s first new
  looked-term first old taken new i r t y x f =
      let a = map (named_symbol s) taken.symbols.keys in
      let b = type_symbols s taken.types.keys in
      let c = term_symbols s taken.terms.keys in
      let d = symbols_tm names (term_at s i) in
      let top = r.search.terms i (subst (IsMember i) (sym t) (IsMember-last i taken.terms.keys)) in
      let before : symbols_with s old ≡ (a ++ (b ++ c)) ++ d =
      (λ j. map (named_symbol s) (x j) ++ (type_symbols s (y j) ++ term_symbols s (t j)))
      ∙ ap (λ l. a ++ (b ++ l)) (flat-push (λ k. symbols_tm names (term_at s k)) taken.terms.keys i)
      ∙ ap (λ l. a ++ l) (sym (append_assoc b c d)) ∙ sym (append_assoc a (b ++ c) d) in
      record {
        search = record {
          terms = λ k m.
              elim (f.terms k m) [
                | inl h ↦ r.search.terms k
                    (subst (IsMember k) (sym t) (IsMember-left k taken.terms.keys (i ∷ []) h))
                | inr h ↦
                    omega (arith, h, top)
              ];
          types = λ k m. elim (f.types k m) [ inl h ↦ r.search.types k (subst (IsMember k) (sym y) h) | inr h ↦ h ];
          inside = λ z m. elim (f.inside z m) [
            | inl h ↦ r.search.inside z (subst (IsMember z) (sym x) h)
            | inr h ↦
                h
          ];
          once = f.once (subst AreDistinct x r.search.once);
        };
        symbols = same_set-then f.symbols (same_set-then (same-list (sym before)) r.symbols);
      }

  pub looked-type : (first old taken new : Search) (i : ℕ) → Reaches s first old → old.types.keys ≡ taken.types.keys
      ++ i ∷ [] → old.terms.keys ≡ taken.terms.keys → old.symbols.keys ≡ taken.symbols.keys
      → FindsSymbols s 0 i taken new (symbols_ty names (type_at s i)) → Reaches s first new
  looked-type first old taken new i r y t x f =
      let a = map (named_symbol s) taken.symbols.keys in
      let b = type_symbols s taken.types.keys in
      let c = term_symbols s taken.terms.keys in
      let d = symbols_ty names (type_at s i) in
      let top = r.search.types i (subst (IsMember i) (sym y) (IsMember-last i taken.types.keys)) in
      let before : symbols_with s old ≡ a ++ (b ++ (d ++ c)) =
      (λ j. map (named_symbol s) (x j) ++ (type_symbols s (y j) ++ term_symbols s (t j)))
      ∙ ap (λ l. a ++ (l ++ c)) (flat-push (λ k. symbols_ty names (type_at s k)) taken.types.keys i)
      ∙ ap (λ l. a ++ l) (append_assoc b d c) in
      let turned : IsSameSet ((a ++ (b ++ c)) ++ d) (a ++ (b ++ (d ++ c))) =
      same_set-then (same-list (append_assoc a (b ++ c) d))
      (same_set-append (same_set-self a)
      (same_set-then (same-list (append_assoc b c d)) (same_set-append (same_set-self b) (same_set-swap d c)))) in
      record {
        search = record {
          terms = λ k m. elim (f.terms k m) [
            | inl h ↦ r.search.terms k (subst (IsMember k) (sym t) h)
            | inr h ↦
                absurd (omega (arith, h))
          ];
          types = λ k m.
              elim (f.types k m) [
                | inl h ↦ r.search.types k
                    (subst (IsMember k) (sym y) (IsMember-left k taken.types.keys (i ∷ []) h))
                | inr h ↦
                    omega (arith, h, top)
              ];
          inside = λ z m. elim (f.inside z m) [
            | inl h ↦ r.search.inside z (subst (IsMember z) (sym x) h)
            | inr h ↦
                h
          ];
          once = f.once (subst AreDistinct x r.search.once);
        };
        symbols = same_set-then f.symbols (same_set-then turned (same_set-then (same-list (sym before)) r.symbols));
      }

  -- a search that differs in nothing
  pub reached-same : (first old new : Search) → new.terms.keys ≡ old.terms.keys → new.types.keys ≡ old.types.keys
      → new.symbols.keys ≡ old.symbols.keys → Reaches s first old → Reaches s first new
  reached-same first old new t y x r = record {
    search = record {
      terms = λ k m. r.search.terms k (subst (IsMember k) t m);
      types = λ k m. r.search.types k (subst (IsMember k) y m);
      inside = λ z m. r.search.inside z (subst (IsMember z) x m);
      once = subst AreDistinct (sym x) r.search.once;
    };
    symbols =
        same_set-then (same-list (λ j. map (named_symbol s) (x j) ++ (type_symbols s (y j) ++ term_symbols s (t j))))
        r.symbols;
  }

  -- no term comes in where none was and none is below 0
  pub no-terms : {m : ℕ} {old new : Search} {more : List (Symbol Name)} → old.terms.keys ≡ []
      → FindsSymbols s 0 m old new more → new.terms.keys ≡ []
  no-terms {m} {old} {new} e f =
      none new.terms.keys
      (λ k at. elim (f.terms k at) [ inl a ↦ subst (IsMember k) e a | inr b ↦ absurd (omega (arith, b)) ]) where
        none : (ks : List ℕ) → ((k : ℕ) → IsMember k ks → ⊥) → ks ≡ []
        none [] h = refl
        none (k ∷ ks) h = absurd (h k (inl refl))

  -- ---- from the first search to the last
  pub starts : (p q : Search) (ids : List ℕ) → p.terms.keys ≡ [] → p.types.keys ≡ [] → p.symbols.keys ≡ []
      → All (λ i. i < length s.terms) ids → FindsSymbols s (length s.terms) 0 p q (term_symbols s ids)
      → IsSearch s q × IsSameSet (symbols_with s q) (term_symbols s ids)
  starts p q ids t y x inside f = (
    record {
      terms = λ k m. elim (f.terms k m) [ inl h ↦ absurd (subst (IsMember k) t h) | inr h ↦ h ];
      types = λ k m.
          elim (f.types k m) [ inl h ↦ absurd (subst (IsMember k) y h) | inr h ↦ absurd (omega (arith, h)) ];
      inside = λ z m. elim (f.inside z m) [ inl h ↦ absurd (subst (IsMember z) x h) | inr h ↦ h ];
      once = f.once (subst AreDistinct (sym x) tt);
    },
    subst (λ l. IsSameSet (symbols_with s q) (l ++ term_symbols s ids))
        (λ j. map (named_symbol s) (x j) ++ (type_symbols s (y j) ++ term_symbols s (t j))) f.symbols,
  )

  pub ends : (p : Search) (xs : List (Symbol Name)) → p.terms.keys ≡ [] → p.types.keys ≡ []
      → IsSameSet (symbols_with s p) xs → IsSameSet (map (named_symbol s) p.symbols.keys) xs
  ends p xs t y h =
      let all = map (named_symbol s) p.symbols.keys in
      subst (λ l. IsSameSet l xs) ((λ j. all ++ (type_symbols s (y j) ++ term_symbols s (t j))) ∙ append-nil all) h

  pub reached-all : (q r t : Search) (ids : List ℕ) → IsSearch s q × IsSameSet (symbols_with s q) (term_symbols s ids)
      → Reaches s q r → Reaches s r t → t.terms.keys ≡ [] → t.types.keys ≡ []
      → IsSameSet (map (named_symbol s) t.symbols.keys) (term_symbols s ids)
  reached-all q r t ids h f g terms types =
      ends t (term_symbols s ids) terms types (same_set-then g.symbols (same_set-then f.symbols h.1))

-- ---- names in place of numbers
same-kind : (k l : SymbolKind) (n m : Name) → symbol_named k n ≡ symbol_named l m → (k ≡ l) × (n ≡ m)
same-kind kinds.Con kinds.Con n m e = (refl, cc)
same-kind kinds.Con kinds.TyOp n m e = cc
same-kind kinds.TyOp kinds.Con n m e = cc
same-kind kinds.TyOp kinds.TyOp n m e = (refl, cc)

module _ (s : State) (table : IsNameTable s.names) where
  one-number : (x y : code.Symbol) → x.name < length s.names → y.name < length s.names
      → named_symbol s x ≡ named_symbol s y → x ≡ y
  one-number x y h g e =
      let w = same-kind x.kind y.kind (name_at s x.name) (name_at s y.name) e in
      let n = name_of-injective s.names x.name y.name
      (name_of-index s.names table x.name h ∙ w.1 ∙ sym (name_of-index s.names table y.name g)) in
      λ i. record { kind = w.0 i; name = n i }

  pub named-once : (xs : List code.Symbol) → All (λ (x : code.Symbol). x.name < length s.names) xs → AreDistinct xs
      → AreDistinct (map (named_symbol s) xs)
  named-once [] h d = tt
  named-once (x ∷ xs) h d =
      let rest = All-tail (λ (z : code.Symbol). z.name < length s.names) x xs h in (
        λ m.
            let w = IsMember-map_back (named_symbol s) (named_symbol s x) xs m in
            d.0 (subst (λ z. IsMember z xs)
            (one-number w.0 x (All-at_member (λ (z : code.Symbol). z.name < length s.names) xs w.0 rest w.1)
            (All-head (λ (z : code.Symbol). z.name < length s.names) x xs h) w.2) w.1),
        named-once xs rest d.1,
      )

-- the symbols of a list of terms
all-symbols : (s : State) (ids : List ℕ) → term_symbols s ids ≡ symbols_all names (terms_at s ids)
all-symbols s [] = refl
all-symbols s (i ∷ ids) = ap (λ l. symbols_tm names (term_at s i) ++ l) (all-symbols s ids)

-- what was found, with its names
pub named-found : (s : State) (ids : List ℕ) (xs zs : List code.Symbol) (ys : List (Symbol Name))
    → ys ≡ map (named_symbol s) zs → zs ≡ xs → IsSameSet (map (named_symbol s) xs) (term_symbols s ids)
    → IsSameSet ys (symbols_all names (terms_at s ids))
named-found s ids xs zs ys e q h =
    same_set-then (same-list (e ∙ ap (map (named_symbol s)) q)) (same_set-then h (same-list (all-symbols s ids)))

pub named-apart : (s : State) → IsNameTable s.names → (xs zs : List code.Symbol) (ys : List (Symbol Name))
    → ys ≡ map (named_symbol s) zs → zs ≡ xs → All (λ (x : code.Symbol). x.name < length s.names) xs → AreDistinct xs
    → AreDistinct ys
named-apart s table xs zs ys e q h d =
    subst AreDistinct (sym (e ∙ ap (map (named_symbol s)) q)) (named-once s table xs h d)
