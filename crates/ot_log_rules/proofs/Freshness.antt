-- The symbols of a signature, and whether further ones may be defined.
use Rattle.std.specs.Prelude.{Result, OnOk, Ok, Err}
use Rattle.std.specs.List.{All, flat_map}
use Rattle.std.proofs.Common.{◌≡◌, ℕ, Bool, true, false, ◌&&◌, ◌||◌, not, List, [], ◌∷◌, ◌++◌, map}
use Rattle.std.proofs.Common.{get_or, nat_eq, refl, sym, ap, ◌∙◌, subst, inl, inr, append_assoc}
use Rattle.std.proofs.lemmas.Bool.Decides.{Decides-like, Decides-or, same_from_decides}
use Rattle.std.proofs.lemmas.List.{append-nil}
use Rattle.std.proofs.lemmas.List.Elements.{All-head, All-tail, All-nil, All-cons, All-weaker}
use Rattle.indexmap.specs.IndexSet.{insert_key, insert_all}
use Rattle.ot_logic.specs.Names.{Name}
use Rattle.ot_logic.specs.Naming.{names}
use Rattle.ot_logic.specs.Lists.{IsMember, IsSameSet}
use Rattle.ot_logic.specs.Table.{Extends, IsInjective}
use Rattle.ot_logic.specs.Trees.{Variable, Tm, Sequent, Symbol, ConSymbol}
use Rattle.ot_logic.specs.Trees.{OpSymbol, Definition, ConDef, ListDef, TyDef}
use Rattle.ot_logic.specs.Hol.{primitives, defined, used, premise_symbols, symbols_tm}
use Rattle.ot_logic.specs.Hol.{symbols_all, symbols_of, symbols_in, theorems}
use Rattle.ot_laws.specs.Conditions.{same_symbol, is_among}
use Rattle.ot_laws.proofs.Tests.{tells_names}
use Rattle.ot_laws.proofs.Membership.{any-is, same_symbol-is}
use Rattle.ot_log_format.specs.Steps.{all_defined, all_used}
use Rattle.ot_log_nodes.specs.Items.{Item, HasName, name_at, first_items}
use Rattle.ot_log_nodes.proofs.ItemLemmas.{name-is, has-name, name-stays, still-name}
use Rattle.ot_log_nodes.proofs.MapLemmas.{same-names, variable-stays, still-variable}
use Rattle.ot_log_rules.specs.Parts.{Occurring, TypeVar, Operator, Constant, FreeVar, HasMark, mark_at, marks_at}
use Rattle.ot_log_rules.specs.Parts.{marks_tm, marks_each, marks_sequent, marks_sequents, marks_premise, IsOf}
use Rattle.ot_log_rules.specs.Symbols.{mark_of, HasSymbols, IsSignature, KeepsSymbols, IsSymbolMark}
use Rattle.ot_log_rules.specs.Symbols.{symbol_of, are_fresh, mark_eq, is_marked, is_primitive_mark}
use Rattle.ot_log_nodes.specs.Changing.{HasVariable}
use Rattle.ot_log_nodes.specs.declared.node.VariableNode.{VariableNode}
use Rattle.ot_log_rules.specs.Definitions.{pairs_at, names_at, HasPairs}
use Rattle.ot_log_rules.specs.declared.parts.Mark.{Mark}
use Rattle.ot_log_rules.specs.declared.parts.Mark.TheVariants as mark
use Rattle.ot_log_rules.specs.declared.parts.Parts.{Parts}
use Rattle.ot_log_rules.specs.declared.signature.Signature.{Signature}
use Rattle.ot_log_rules.proofs.Gathering.{inserted-cases, inserted-kept, inserted-there, inserted-each, inserted-each_all}
use Rattle.ot_log_rules.proofs.Marked.{symbol-from_mark, mark-from_symbol}
use Rattle.ot_log_rules.proofs.Marked.{symbols-from_marks, marks-from_symbols, either-to}
use Rattle.ot_log_rules.proofs.Staying.{map-agree}
use Rattle.ot_log_rules.proofs.Signed.{mark-is, mark-one, marked-among, marked-as, has-mark}
use Rattle.ot_logic.proofs.Members.{All-at_member, IsMember-map, IsMember-map_back}

-- the code's test of a mark, after those before it
abbrev pub fresh_mark : Signature → List Mark → List Mark → Mark → Bool
fresh_mark s premise before m =
    not (is_primitive_mark m)
    && (not (is_marked m before || is_marked m s.defined.keys)
    && not (is_marked m premise || is_marked m s.used.keys))

abbrev pub fresh_marks : Signature → List Mark → List Mark → List Mark → Bool
fresh_marks s premise before [] = true
fresh_marks s premise before (m ∷ ms) =
    fresh_mark s premise before m && fresh_marks s premise (insert_key mark_eq before m) ms

-- ---- symbols of marks
pub symbols-append : (ss ts : List (Symbol Name)) (ms ns : List Occurring) → HasSymbols ss ms → HasSymbols ts ns
    → HasSymbols (ss ++ ts) (ms ++ ns)
symbols-append ss ts ms ns g h = record {
  is = λ s. (
    either-to (mark_of s) s ms ns ss ts (g.is s).0 (h.is s).0,
    either-to s (mark_of s) ss ts ms ns (g.is s).1
        (h.is s).1,
  );
}

pub symbols-same : (ss : List (Symbol Name)) (ms ns : List Occurring) → IsSameSet ms ns → HasSymbols ss ms
    → HasSymbols ss ns
symbols-same ss ms ns e h =
    record { is = λ s. (λ m. (h.is s).0 (e.back (mark_of s) m), λ m. e.to (mark_of s) ((h.is s).1 m)) }

symbols-term : (t : Tm Name) → HasSymbols (symbols_tm names t) (marks_tm t)
symbols-term t = record { is = λ s. (symbol-from_mark s t, mark-from_symbol s t) }

pub symbols-sequent : (q : Sequent Name) → HasSymbols (symbols_of names q) (marks_sequent q)
symbols-sequent q =
    symbols-append (symbols_all names q.hyps) (symbols_tm names q.concl) (marks_each q.hyps) (marks_tm q.concl)
    (record { is = λ s. (symbols-from_marks s q.hyps, marks-from_symbols s q.hyps) }) (symbols-term q.concl)

symbols-sequents : (qs : List (Sequent Name)) → HasSymbols (symbols_in names qs) (marks_sequents qs)
symbols-sequents [] = record { is = λ s. (λ m. m, λ m. m) }
symbols-sequents (q ∷ qs) = symbols-append (symbols_of names q) (symbols_in names qs) (marks_sequent q)
    (marks_sequents qs) (symbols-sequent q) (symbols-sequents qs)

symbols-premise : (d : Definition Name) → HasSymbols (premise_symbols names d) (marks_premise d)
symbols-premise (ConDef n t) = symbols-term t
symbols-premise (ListDef ps q) = symbols-sequent q
symbols-premise (TyDef n abs rep vs q) = symbols-sequent q

symbols-used : (d : Definition Name) (qs : List (Sequent Name)) → qs ≡ theorems names d
    → HasSymbols (used names d) (marks_premise d ++ marks_sequents qs)
symbols-used d qs e = symbols-append (premise_symbols names d) (symbols_in names (theorems names d)) (marks_premise d)
    (marks_sequents qs) (symbols-premise d)
    (subst (λ l. HasSymbols (symbols_in names l) (marks_sequents qs)) e (symbols-sequents qs))

-- those of a list that ends so
flat-push : {X Y : Type 0} (f : X → List Y) (xs : List X) (x : X) → flat_map f (xs ++ x ∷ []) ≡ flat_map f xs ++ f x
flat-push f [] x = append-nil (f x)
flat-push f (y ∷ xs) x = ap (λ l. f y ++ l) (flat-push f xs x) ∙ sym (append_assoc (f y) (flat_map f xs) (f x))

module _ (ts : List Item) (one : IsInjective ts) where
  marks-symbols : (ms : List Mark) → All (IsSymbolMark ts) ms
      → HasSymbols (map (symbol_of ts) ms) (map (mark_at ts) ms)
  marks-symbols ms h = record {
    is = λ s. (
      (λ i.
          let r = IsMember-map_back (mark_at ts) (mark_of s) ms i in
          let same = mark_one_symbol s (symbol_of ts r.0)
          (sym r.2 ∙ marked-as ts one r.0 (All-at_member (IsSymbolMark ts) ms r.0 h r.1)) in
          subst (λ x. IsMember x (map (symbol_of ts) ms)) (sym same) (IsMember-map (symbol_of ts) r.0 ms r.1)),
      (λ i.
          let r = IsMember-map_back (symbol_of ts) s ms i in
          subst (λ x. IsMember x (map (mark_at ts) ms))
          (marked-as ts one r.0 (All-at_member (IsSymbolMark ts) ms r.0 h r.1) ∙ ap mark_of r.2)
          (IsMember-map (mark_at ts) r.0 ms r.1)),
    );
  }
    where
      mark_one_symbol : (s t : Symbol Name) → mark_of s ≡ mark_of t → s ≡ t
      mark_one_symbol (ConSymbol a) (ConSymbol b) e = let k : a ≡ b = cc in ap ConSymbol k
      mark_one_symbol (OpSymbol a) (OpSymbol b) e = let k : a ≡ b = cc in ap OpSymbol k
      mark_one_symbol (ConSymbol a) (OpSymbol b) e = cc
      mark_one_symbol (OpSymbol a) (ConSymbol b) e = cc

  -- ---- a definition more
  module _ (dl : List (Definition Name)) (d : Definition Name) (s r : Signature) (h : IsSignature ts dl s) where
    pub signature-more : (ms : List Mark) (p : Parts) (qs : List (Sequent Name)) → All (IsSymbolMark ts) ms
        → map (symbol_of ts) ms ≡ defined names d → IsOf ts (marks_premise d ++ marks_sequents qs) p
        → qs ≡ theorems names d
        → r.defined.keys ≡ insert_all mark_eq s.defined.keys ms
        → r.used.keys ≡ insert_all mark_eq s.used.keys p.marks.keys → IsSignature ts (dl ++ d ∷ []) r
    signature-more ms p qs are is of theorems defs uses = record {
      has_defined =
          subst (All (HasMark ts)) (sym defs)
          (inserted-each_all mark_eq mark-is (HasMark ts) s.defined.keys ms h.has_defined
          (λ k x w. has-mark ts one (get_or ms k x) (are k x w)));
      has_used = subst (All (HasMark ts)) (sym uses)
          (inserted-each_all mark_eq mark-is (HasMark ts) s.used.keys p.marks.keys h.has_used of.has);
      defined =
          subst (λ ks. HasSymbols (all_defined names (dl ++ d ∷ [])) (map (mark_at ts) ks)) (sym defs)
          (subst (λ ss. HasSymbols ss (map (mark_at ts) (insert_all mark_eq s.defined.keys ms)))
          (sym (flat-push (defined names) dl d))
          (symbols-same (all_defined names dl ++ defined names d)
          (map (mark_at ts) s.defined.keys ++ map (mark_at ts) ms)
          (map (mark_at ts) (insert_all mark_eq s.defined.keys ms))
          (inserted-each mark_eq mark-is (mark_at ts) s.defined.keys ms)
          (symbols-append (all_defined names dl) (defined names d) (map (mark_at ts) s.defined.keys)
          (map (mark_at ts) ms) h.defined
          (subst (λ ss. HasSymbols ss (map (mark_at ts) ms)) is (marks-symbols ms are)))));
      used =
          subst (λ ks. HasSymbols (all_used names (dl ++ d ∷ [])) (map (mark_at ts) ks)) (sym uses)
          (subst (λ ss. HasSymbols ss (map (mark_at ts) (insert_all mark_eq s.used.keys p.marks.keys)))
          (sym (flat-push (used names) dl d))
          (symbols-same (all_used names dl ++ used names d)
          (map (mark_at ts) s.used.keys ++ map (mark_at ts) p.marks.keys)
          (map (mark_at ts) (insert_all mark_eq s.used.keys p.marks.keys))
          (inserted-each mark_eq mark-is (mark_at ts) s.used.keys p.marks.keys)
          (symbols-append (all_used names dl) (used names d) (map (mark_at ts) s.used.keys)
          (map (mark_at ts) p.marks.keys) h.used
          (symbols-same (used names d) (marks_premise d ++ marks_sequents qs) (map (mark_at ts) p.marks.keys) of.all
          (symbols-used d qs theorems)))));
    }

  -- ---- whether symbols may be defined
  -- the test of marks is that of their symbols
  mark-symbol : (m k : Mark) → IsSymbolMark ts m → IsSymbolMark ts k
      → mark_eq m k ≡ same_symbol names (symbol_of ts m) (symbol_of ts k)
  mark-symbol m k g h =
      same_from_decides (mark_eq m k) (same_symbol names (symbol_of ts m) (symbol_of ts k))
      (Decides-like (mark_eq m k) (λ e. ap (symbol_of ts) e)
      (λ e. mark-one ts one m k (has-mark ts one m g) (has-mark ts one k h)
      (marked-as ts one m g ∙ ap mark_of e ∙ sym (marked-as ts one k h))) (mark-is m k))
      (same_symbol-is names tells_names (symbol_of ts m) (symbol_of ts k))

  -- a mark more
  marked-more : (k m : Mark) (ks : List Mark) → is_marked k (insert_key mark_eq ks m)
      ≡ (mark_eq k m || is_marked k ks)
  marked-more k m ks =
      same_from_decides (is_marked k (insert_key mark_eq ks m)) (mark_eq k m || is_marked k ks)
      (Decides-like (is_marked k (insert_key mark_eq ks m))
      (λ i. elim (inserted-cases mark_eq mark-is ks m k i) [ inl j ↦ inr j | inr e ↦ inl (sym e) ])
      (λ i. elim i [
        | inl e ↦ subst (λ x. IsMember x (insert_key mark_eq ks m)) (sym e)
            (inserted-there mark_eq mark-is ks m)
        | inr j ↦ inserted-kept mark_eq mark-is ks m k j
      ])
      (any-is mark_eq mark-is k (insert_key mark_eq ks m)))
      (Decides-or (mark_eq k m) (is_marked k ks) (mark-is k m) (any-is mark_eq mark-is k ks))

  or-assoc : (a b c : Bool) → ((a || b) || c) ≡ (a || (b || c))
  or-assoc true b c = refl
  or-assoc false b c = refl

  module _ (first : Extends first_items ts) where
    name-first : (n k : ℕ) (name : Name) → HasName ts n → HasName ts k → name_at ts k ≡ name
        → nat_eq n k ≡ names.same (name_at ts n) name
    name-first n k name g h e = sym (same-names ts one n k g h) ∙ ap (names.same (name_at ts n)) e

    primitive-is : (m : Mark) → IsSymbolMark ts m → is_primitive_mark m ≡ is_among names (symbol_of ts m)
        (primitives names)
    primitive-is (mark.Operator n) h =
        let arrow = name-first n 0 names.arrow h (has-name ts 0 names.arrow (first.keeps 0 _ refl))
        (name-is ts 0 names.arrow (first.keeps 0 _ refl)) in
        let boolean = name-first n 1 names.bool_name h (has-name ts 1 names.bool_name (first.keeps 1 _ refl))
        (name-is ts 1 names.bool_name (first.keeps 1 _ refl)) in
        (λ i. arrow i || boolean i) ∙ ap (λ b. names.same (name_at ts n) names.arrow || b)
        (ending (names.same (name_at ts n) names.bool_name))
      where
        ending : (b : Bool) → b ≡ (b || false)
        ending true = refl
        ending false = refl
    primitive-is (mark.Constant n) h =
        name-first n 2 names.equals h (has-name ts 2 names.equals (first.keeps 2 _ refl))
        (name-is ts 2 names.equals (first.keeps 2 _ refl)) ∙ ending (names.same (name_at ts n) names.equals)
      where
        ending : (b : Bool) → b ≡ (b || false)
        ending true = refl
        ending false = refl
    primitive-is (mark.TypeVar n) h = absurd h
    primitive-is (mark.Variable v) h = absurd h

    module _ (s : Signature) (premise : List Mark) where
      pub fresh-are : (dl : List (Definition Name)) (ss defs : List (Symbol Name)) (before ms : List Mark)
          → IsSignature ts dl s → All (HasMark ts) premise → HasSymbols ss (map (mark_at ts) premise)
          → All (IsSymbolMark ts) ms
          → ((k : Mark) → IsSymbolMark ts k → (is_marked k before || is_marked k s.defined.keys)
          ≡ is_among names (symbol_of ts k) defs)
          → fresh_marks s premise before ms ≡ are_fresh defs (all_used names dl) ss (map (symbol_of ts) ms)
      fresh-are dl ss defs before [] sig has symbols are agree = refl
      fresh-are dl ss defs before (m ∷ ms) sig has symbols are agree =
          let here = All-head (IsSymbolMark ts) m ms are in
          let primitive = primitive-is m here in
          let taken = agree m here in
          let held = marked-among ts one m premise ss here has symbols in
          let uses = marked-among ts one m s.used.keys (all_used names dl) here sig.has_used sig.used in
          let rest = fresh-are dl ss (symbol_of ts m ∷ defs) (insert_key mark_eq before m) ms sig has symbols
          (All-tail (IsSymbolMark ts) m ms are)
          (λ k g. ap (λ b. b || is_marked k s.defined.keys) (marked-more k m before) ∙ or-assoc (mark_eq k m)
          (is_marked k before) (is_marked k s.defined.keys) ∙ (λ i. mark-symbol k m g here i || agree k g i)) in
          λ i. (not (primitive i) && (not (taken i) && not (held i || uses i))) && rest i

      pub fresh-all : (dl : List (Definition Name)) (ss : List (Symbol Name)) (ms : List Mark) → IsSignature ts dl s
          → All (HasMark ts) premise → HasSymbols ss (map (mark_at ts) premise) → All (IsSymbolMark ts) ms
          → fresh_marks s premise [] ms ≡ are_fresh (all_defined names dl) (all_used names dl) ss
          (map (symbol_of ts) ms)
      fresh-all dl ss ms sig has symbols are =
          fresh-are dl ss (all_defined names dl) [] ms sig has symbols are
          (λ k g. marked-among ts one k s.defined.keys (all_defined names dl) g sig.has_defined sig.defined)

-- ---- a signature in a table that grows, and one with the same symbols
module _ (ts us : List Item) (e : Extends ts us) where
  mark-stays : (m : Mark) → HasMark ts m → mark_at us m ≡ mark_at ts m
  mark-stays (mark.TypeVar n) h = ap TypeVar (name-stays ts us e n h)
  mark-stays (mark.Operator n) h = ap Operator (name-stays ts us e n h)
  mark-stays (mark.Constant n) h = ap Constant (name-stays ts us e n h)
  mark-stays (mark.Variable v) h = ap FreeVar (variable-stays ts us e v h)

  still-mark : (m : Mark) → HasMark ts m → HasMark us m
  still-mark (mark.TypeVar n) h = still-name ts us e n h
  still-mark (mark.Operator n) h = still-name ts us e n h
  still-mark (mark.Constant n) h = still-name ts us e n h
  still-mark (mark.Variable v) h = still-variable ts us e v h

  pub signature-grown : (dl : List (Definition Name)) (s : Signature) → IsSignature ts dl s → IsSignature us dl s
  signature-grown dl s h = record {
    has_defined = All-weaker (HasMark ts) (HasMark us) still-mark s.defined.keys h.has_defined;
    has_used = All-weaker (HasMark ts) (HasMark us) still-mark s.used.keys h.has_used;
    defined = subst (HasSymbols (all_defined names dl))
        (sym (map-agree (HasMark ts) (mark_at ts) (mark_at us) mark-stays s.defined.keys h.has_defined)) h.defined;
    used = subst (HasSymbols (all_used names dl))
        (sym (map-agree (HasMark ts) (mark_at ts) (mark_at us) mark-stays s.used.keys h.has_used)) h.used;
  }

pub signature-same : (ts : List Item) (dl : List (Definition Name)) (s r : Signature) → IsSignature ts dl s
    → KeepsSymbols s r → IsSignature ts dl r
signature-same ts dl s r h k = record {
  has_defined = subst (All (HasMark ts)) (sym k.defined) h.has_defined;
  has_used = subst (All (HasMark ts)) (sym k.used) h.has_used;
  defined = subst (λ ks. HasSymbols (all_defined names dl) (map (mark_at ts) ks)) (sym k.defined) h.defined;
  used = subst (λ ks. HasSymbols (all_used names dl) (map (mark_at ts) ks)) (sym k.used) h.used;
}

-- ---- the marks of constants
module _ (ts : List Item) where
  pub constants-are : (ps : List (ℕ × VariableNode))
      → map (symbol_of ts) (map (λ (p : ℕ × VariableNode). mark.Constant p.0) ps)
      ≡ map (λ (p : Name × Variable Name). ConSymbol p.0) (pairs_at ts ps)
  constants-are [] = refl
  constants-are (p ∷ ps) = ap (λ l. ConSymbol (name_at ts p.0) ∷ l) (constants-are ps)

  pub constants-marked : (ps : List (ℕ × VariableNode)) → HasPairs ts ps
      → All (IsSymbolMark ts) (map (λ (p : ℕ × VariableNode). mark.Constant p.0) ps)
  constants-marked [] h = All-nil (IsSymbolMark ts)
  constants-marked (p ∷ ps) h =
      All-cons (IsSymbolMark ts) (mark.Constant p.0) (map (λ (p : ℕ × VariableNode). mark.Constant p.0) ps)
      (All-head (λ p. HasName ts p.0 × HasVariable ts p.1) p ps h).0
      (constants-marked ps (All-tail (λ p. HasName ts p.0 × HasVariable ts p.1) p ps h))

  -- the marks of names
  pub names-are : (ns : List ℕ) → map (symbol_of ts) (map (λ (n : ℕ). mark.Constant n) ns)
      ≡ map ConSymbol (names_at ts ns)
  names-are [] = refl
  names-are (n ∷ ns) = ap (λ l. ConSymbol (name_at ts n) ∷ l) (names-are ns)

  pub names-marked : (ns : List ℕ) → All (HasName ts) ns → All (IsSymbolMark ts) (map (λ (n : ℕ). mark.Constant n) ns)
  names-marked [] h = All-nil (IsSymbolMark ts)
  names-marked (n ∷ ns) h = All-cons (IsSymbolMark ts) (mark.Constant n) (map (λ (n : ℕ). mark.Constant n) ns)
      (All-head (HasName ts) n ns h) (names-marked ns (All-tail (HasName ts) n ns h))

  -- the symbols of a term and of a sequent, by what occurs in them
  pub symbols-in : (t : Tm Name) (p : Parts) → IsOf ts (marks_tm t) p
      → HasSymbols (symbols_tm names t) (marks_at ts p)
  symbols-in t p of = symbols-same (symbols_tm names t) (marks_tm t) (marks_at ts p) of.all (symbols-term t)

  pub symbols-in_sequent : (q : Sequent Name) (p : Parts) → IsOf ts (marks_sequent q) p
      → HasSymbols (symbols_of names q) (marks_at ts p)
  symbols-in_sequent q p of = symbols-same (symbols_of names q) (marks_sequent q) (marks_at ts p) of.all
      (symbols-sequent q)

-- two clauses together
pub on_ok-both : {T E P Q R : Type 0} (r : Result T E) → (P → Q → R) → OnOk r P → OnOk r Q → OnOk r R
on_ok-both (Ok x) f p q = f p q
on_ok-both (Err e) f p q = tt
