-- The symbols of terms by number, and of the terms that the numbers stand for.
use Rattle.std.specs.Prelude.{◌≡◌, ℕ, ◌+◌, ◌<◌, List, [], ◌∷◌, ◌++◌, map, length, take, get_or, Result, Ok, Err, IfOk}
use Rattle.std.specs.List.{All}
use Rattle.std.proofs.Common.{refl, sym, ap, ◌∙◌, subst, arith, inl, inr, append_assoc}
use Rattle.std.proofs.lemmas.List.{append-nil, map-append}
use Rattle.std.proofs.lemmas.List.Elements.{All-head, All-tail}
use Rattle.std.proofs.lemmas.Option.{slice_get-get_or}
use Rattle.ot_logic.specs.Lists.{IsMember, IsSameSet}
use Rattle.ot_logic.specs.Names.{Name}
use Rattle.ot_logic.specs.Trees.{Ty, Tys, TyVar, TyOp, NoTys, MoreTys, Tm, Named}
use Rattle.ot_logic.specs.Trees.{NVar, NConst, NApp, NAbs, Sequent, Symbol, OpSymbol}
use Rattle.ot_logic.specs.Hol.{ops_ty, ops_all, symbols_ty, symbols_tm, symbols_all, symbols_of}
use Rattle.ot_logic.specs.NamedTerms.{nameless}
use Rattle.ot_logic.specs.Bounds.{bound_ty, bound_tys, bound_named, names_in_terms}
use Rattle.ot_logic.specs.Naming.{names, numbers, name_of}
use Rattle.ot_logic.specs.Renamed.{map_symbol}
use Rattle.ot_logic.proofs.Line.{one_end}
use Rattle.ot_laws.proofs.Sets.{same_set-append}
use Rattle.ot_laws.proofs.Symbols.{symbols-abs}
use Rattle.ot_laws.proofs.Tests.{tells_numbers}
use Rattle.ot_term.specs.Term.{TermTable}
use Rattle.ot_term.specs.Symbols.{symbol_of}
use Rattle.ot_term.specs.TermTable.{term_at as tree_at}
use Rattle.ot_term.specs.declared.term.Symbol.{Symbol as Code}
use Rattle.ot_term.proofs.GatherLemmas.{same_set-map}
use Rattle.ot_term.proofs.Gathering.{take_item}
use Rattle.ot_kernel.specs.Numbered.{tm_at, tms_at}
use Rattle.ot_kernel.specs.Definitions.{number_of}
use Rattle.ot_kernel.specs.Spelled.{Held}
use Rattle.ot_kernel.specs.State.{State, name_at, term_at, terms_at}
use Rattle.ot_kernel.proofs.Checked.{over_symbols, symbols_real}
use Rattle.ot_kernel.proofs.Later.{Later, Between, alphabet_at, over-terms, terms_within}
use Rattle.ot_kernel.proofs.Namings.{bound_named-get}
use Rattle.ot_logic.proofs.Members.{All-from_members, IsMember-cases, IsMember-map_back}

-- ---- the numbers of symbols
mutual
  below_ty : (t : Ty ℕ) (n : ℕ) → IsMember n (ops_ty numbers t) → n < bound_ty t
  below_ty (TyVar m) n h = absurd h
  below_ty (TyOp m ts) n (inl e) = omega (arith, e)
  below_ty (TyOp m ts) n (inr h) = omega (arith, below_all ts n h)

  below_all : (ts : Tys ℕ) (n : ℕ) → IsMember n (ops_all numbers ts) → n < bound_tys ts
  below_all NoTys n h = absurd h
  below_all (MoreTys t ts) n h = elim (IsMember-cases n (ops_ty numbers t) (ops_all numbers ts) h)
      [ inl a ↦ omega (arith, below_ty t n a) | inr b ↦ omega (arith, below_all ts n b) ]

below_symbols : (t : Ty ℕ) (s : Symbol ℕ) → IsMember s (symbols_ty numbers t) → number_of s < bound_ty t
below_symbols t s m = let (n, i, e) = IsMember-map_back OpSymbol s (ops_ty numbers t) m in
    subst (λ x. number_of x < bound_ty t) e (below_ty t n i)

below_term : (t : Named ℕ) (s : Symbol ℕ) → IsMember s (symbols_tm numbers (nameless numbers t))
    → number_of s < bound_named t
below_term (NVar v) s m = omega (arith, below_symbols v.ty s m)
below_term (NConst n ty) s (inl e) = let same = ap number_of e in omega (arith, same)
below_term (NConst n ty) s (inr m) = omega (arith, below_symbols ty s m)
below_term (NApp f x) s m =
    elim (IsMember-cases s (symbols_tm numbers (nameless numbers f)) (symbols_tm numbers (nameless numbers x)) m)
    [ inl a ↦ omega (arith, below_term f s a) | inr b ↦ omega (arith, below_term x s b) ]
below_term (NAbs v b) s m =
    elim (IsMember-cases s (symbols_ty numbers v.ty) (symbols_tm numbers (nameless numbers b))
    ((symbols-abs numbers tells_numbers v b).to s m))
    [ inl a ↦ omega (arith, below_symbols v.ty s a) | inr c ↦ omega (arith, below_term b s c) ]

below_terms : (ts : List (Named ℕ)) (ids : List ℕ) → All (λ i. i < length ts) ids → (s : Symbol ℕ)
    → IsMember s (symbols_all numbers (tms_at ts ids)) → number_of s < names_in_terms ts
below_terms ts [] h s m = absurd m
below_terms ts (i ∷ ids) h s m =
    elim (IsMember-cases s (symbols_tm numbers (tm_at ts i)) (symbols_all numbers (tms_at ts ids)) m) [
      | inl a ↦
          let within = All-head (λ i. i < length ts) i ids h in
          let b = bound_named-get ts i _ (slice_get-get_or ts i (NConst 0 (TyVar 0)) within) in
          let c = below_term (tree_at ts i) s a in
          omega (arith, b, c)
      | inr b ↦ below_terms ts ids (All-tail (λ i. i < length ts) i ids h) s b
    ]

-- ---- one term more
symbols_all-push : (g : List (Tm ℕ)) (h : Tm ℕ) → symbols_all numbers (g ++ h ∷ []) ≡ symbols_all numbers g
    ++ symbols_tm numbers h
symbols_all-push [] h = append-nil (symbols_tm numbers h)
symbols_all-push (t ∷ g) h = ap (λ l. symbols_tm numbers t ++ l) (symbols_all-push g h)
    ∙ sym (append_assoc (symbols_tm numbers t) (symbols_all numbers g) (symbols_tm numbers h))

pub symbols-more : (ts : List (Named ℕ)) (ids : List ℕ) (i x : ℕ) (old more new : List Code) → i < length ids
    → x ≡ get_or ids i x → IsSameSet (map symbol_of old) (symbols_all numbers (tms_at ts (take i ids)))
    → IsSameSet (map symbol_of more) (symbols_tm numbers (tm_at ts x)) → new ≡ old ++ more
    → IsSameSet (map symbol_of new) (symbols_all numbers (tms_at ts (take (i + 1) ids)))
symbols-more ts ids i x old more new within item a b e =
    let after : symbols_all numbers (tms_at ts (take i ids)) ++ symbols_tm numbers (tm_at ts x) ≡ symbols_all numbers (tms_at ts (take (i + 1) ids)) =
    sym (symbols_all-push (tms_at ts (take i ids)) (tm_at ts x))
    ∙ sym (ap (symbols_all numbers) (map-append (tm_at ts) (take i ids) (x ∷ [])))
    ∙ ap (λ l. symbols_all numbers (tms_at ts l)) (sym (take_item ids i x within item)) in
    let before : map symbol_of new ≡ map symbol_of old ++ map symbol_of more = ap (map symbol_of) e
    ∙ map-append symbol_of old more in
    subst (λ (z : List (Symbol ℕ) × List (Symbol ℕ)). IsSameSet z.0 z.1) (λ j. (sym before j, after j))
    (same_set-append a b)

-- ---- over names
module _ {ns : List Name} {t : TermTable} {held : Held} {now : State} (l : Later ns ns t t held now now)
    (ids : List ℕ) (h : All (λ i. i < length now.terms) ids) (ss : List (Symbol ℕ))
    (s : IsSameSet ss (symbols_all numbers (tms_at t.terms ids))) where
  pub occurring_below : All (λ x. number_of x < length now.names) ss
  occurring_below =
      let e = ap (λ (z : State). length z.names) l.before in
      All-from_members (λ (x : Symbol ℕ). number_of x < length now.names) ss
      (λ x m. let w = below_terms t.terms ids (λ i d n. terms_within l _ (h i d n)) x (s.to x m) in
      omega (arith, w, e, l.old.terms))

  named_symbols : map (map_symbol (name_of ns)) (symbols_all numbers (tms_at t.terms ids))
      ≡ symbols_all names (terms_at now ids)
  named_symbols =
      one_end (λ i. List (Symbol (Between l i))) (over_symbols l (symbols_all numbers (tms_at t.terms ids)))
      (λ i. symbols_all (alphabet_at l i) (over-terms l ids h i))

  pub occurring_named : IsSameSet (map (map_symbol (name_at now)) ss) (symbols_all names (terms_at now ids))
  occurring_named =
      let f = map_symbol (name_of ns) in
      subst (λ (z : List (Symbol Name) × List (Symbol Name)). IsSameSet z.0 z.1)
      (λ j. (symbols_real l ss occurring_below j, named_symbols j)) (same_set-map f s)

-- what a gathering found
pub symbols-found : {ns : List Name} {t : TermTable} {held : Held} {now : State} → Later ns ns t t held now now
    → (ids : List ℕ) → All (λ i. i < length now.terms) ids → {V E : Type 0} (items : V → List Code) (r : Result V E)
    → IfOk r (λ v. IsSameSet (map symbol_of (items v)) (symbols_all numbers (tms_at t.terms ids)))
    → IfOk r (λ v. IsSameSet (map (map_symbol (name_at now)) (map symbol_of (items v)))
    (symbols_all names (terms_at now ids)))
symbols-found l ids h items (Ok v) s = occurring_named l ids h (map symbol_of (items v)) s
symbols-found l ids h items (Err e) s = tt

pub symbols-below : {ns : List Name} {t : TermTable} {held : Held} {now : State} → Later ns ns t t held now now
    → (ids : List ℕ) → All (λ i. i < length now.terms) ids → {V E : Type 0} (items : V → List Code) (r : Result V E)
    → IfOk r (λ v. IsSameSet (map symbol_of (items v)) (symbols_all numbers (tms_at t.terms ids)))
    → IfOk r (λ v. All (λ x. number_of x < length now.names) (map symbol_of (items v)))
symbols-below l ids h items (Ok v) s = occurring_below l ids h (map symbol_of (items v)) s
symbols-below l ids h items (Err e) s = tt

-- ---- a theorem's terms, and more of them
symbols_all-append : (g h : List (Tm Name)) → symbols_all names (g ++ h) ≡ symbols_all names g ++ symbols_all names h
symbols_all-append [] h = refl
symbols_all-append (t ∷ g) h = ap (λ l. symbols_tm names t ++ l) (symbols_all-append g h)
    ∙ sym (append_assoc (symbols_tm names t) (symbols_all names g) (symbols_all names h))

pub symbols-after : (now : State) (q : Sequent Name) (hs : List ℕ) (c : ℕ) (ids : List ℕ) → terms_at now hs ≡ q.hyps
    → term_at now c ≡ q.concl → symbols_all names (terms_at now ((hs ++ c ∷ []) ++ ids)) ≡ symbols_of names q
    ++ symbols_all names (terms_at now ids)
symbols-after now q hs c ids h g =
    ap (symbols_all names) (map-append (term_at now) (hs ++ c ∷ []) ids)
    ∙ symbols_all-append (terms_at now (hs ++ c ∷ [])) (terms_at now ids)
    ∙ ap (λ l. l ++ symbols_all names (terms_at now ids))
    (ap (symbols_all names) (map-append (term_at now) hs (c ∷ [])) ∙ symbols_all-append (terms_at now hs)
    (term_at now c ∷ []) ∙ (λ j. symbols_all names (h j) ++ append-nil (symbols_tm names (g j)) j))
