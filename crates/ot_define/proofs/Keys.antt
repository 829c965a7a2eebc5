-- The code's symbols and variables, and the stated ones.
use Rattle.std.specs.Prelude.{◌||◌, ◌↔◌}
use Rattle.std.specs.List.{All, list_all, list_any}
use Rattle.std.proofs.Common.{◌≡◌, ℕ, ◌+◌, ◌<◌, get_or, take, append_assoc, Some, nat_eq, Bool, true, false}
use Rattle.std.proofs.Common.{List, [], ◌∷◌, ◌++◌, map, length, fold, if◌then◌else◌, refl, sym, ap, subst, ◌∙◌}
use Rattle.std.proofs.lemmas.List.{map-append, append-nil}
use Rattle.std.proofs.lemmas.List.Elements.{All-head, All-tail}
use Rattle.std.proofs.lemmas.Bool.Decides.{Decides-like, Decides-eqb, same_from_decides}
use Rattle.indexmap.specs.IndexSet.{insert_key}
use Rattle.ot_logic.specs.Lists.{IsMember, IsPart, IsSameSet, AreDistinct}
use Rattle.ot_logic.specs.Trees.{Ty, TyVar, Variable, Tm, Named, Symbol, ConSymbol}
use Rattle.ot_logic.specs.Hol.{IsFree, same_var, type_of, vars_tm, vars_ty, symbols_tm, symbols_all}
use Rattle.ot_logic.specs.NamedTerms.{nameless, named_type}
use Rattle.ot_logic.specs.Naming.{numbers}
use Rattle.ot_logic.specs.Table.{IsInjective}
use Rattle.ot_logic.proofs.TableLemmas.{get_or-IsInjective}
use Rattle.ot_type.specs.TypeTable.{type_at}
use Rattle.ot_laws.proofs.Tests.{tells_numbers, same_var-is}
use Rattle.ot_laws.proofs.Sets.{same_set-then, same_set-append, same_set-self, same_set-swap, same_set-both_ways}
use Rattle.ot_term.specs.declared.term.Symbol.{Symbol as Code}
use Rattle.ot_term.specs.declared.term.SymbolKind.{SymbolKind}
use Rattle.ot_term.specs.declared.term.SymbolKind.TheVariants.{Con, TyOp}
use Rattle.ot_term.specs.declared.term.VarKey.{VarKey}
use Rattle.ot_term.specs.Symbols.{symbol_named, symbol_of}
use Rattle.ot_term.specs.TermTable.{variable_of}
use Rattle.ot_term.proofs.Distinct.{symbol_eq, key_eq, symbol-is, key-is, distinct_members}
use Rattle.ot_term.proofs.Gathering.{take_item}
use Rattle.ot_laws.proofs.Typing.{type_of-is, type-nameless}
use Rattle.ot_define.specs.Answers.{tm_at}
use Rattle.ot_term.proofs.GatherLemmas.{same_set-map}
use Rattle.ot_laws.specs.Conditions.{same_symbol, is_among, is_closed_but, keeps_type_vars, are_distinct}
use Rattle.ot_define.specs.Signature.{with_symbols}
use Rattle.ot_laws.proofs.Membership.{part-is, part-same_set, is_closed_but-is, are_distinct-is}
use Rattle.ot_logic.proofs.Members.{IsMember-map, IsMember-map_back, All-at_member}

-- ---- symbols
same-symbol : (s t : Code) → symbol_eq s t ≡ same_symbol numbers (symbol_of s) (symbol_of t)
same-symbol s t = by s.kind t.kind
  where
    by : (k l : SymbolKind) → symbol_eq (record { kind = k; name = s.name }) (record { kind = l; name = t.name })
        ≡ same_symbol numbers (symbol_named k s.name) (symbol_named l t.name)
    by Con Con = refl
    by Con TyOp = refl
    by TyOp Con = refl
    by TyOp TyOp = refl

-- a look-up by hash
pub found-symbol : (s : Code) (ss : List Code) → list_any (symbol_eq s) ss ≡ is_among numbers (symbol_of s)
    (map symbol_of ss)
found-symbol s [] = refl
found-symbol s (t ∷ ts) = λ i. same-symbol s t i || found-symbol s ts i

pub constants-symbols : (ns : List ℕ) → map symbol_of (map (λ (n : ℕ). record { kind = Con; name = n }) ns)
    ≡ map ConSymbol ns
constants-symbols [] = refl
constants-symbols (n ∷ ns) = ap (λ ss. ConSymbol n ∷ ss) (constants-symbols ns)

-- what is recorded
pub recorded : (ks xs : List Code) → map symbol_of (fold (insert_key symbol_eq) ks xs)
    ≡ with_symbols (map symbol_of ks) (map symbol_of xs)
recorded ks [] = refl
recorded ks (x ∷ xs) = recorded (insert_key symbol_eq ks x) xs
    ∙ ap (λ ss. with_symbols ss (map symbol_of xs)) (one (list_any (symbol_eq x) ks) (found-symbol x ks))
  where
    one : (b : Bool) → b ≡ is_among numbers (symbol_of x) (map symbol_of ks)
        → map symbol_of (if b then ks else ks ++ x ∷ [])
        ≡ (if is_among numbers (symbol_of x) (map symbol_of ks) then map symbol_of ks else map symbol_of ks
        ++ symbol_of x ∷ [])
    one true e = rw (← e) refl
    one false e = rw (← e) (map-append symbol_of ks (x ∷ []))

-- the symbols after more of them
pub added : (ks xs : List Code) (more : List (Symbol ℕ)) → IsSameSet (map symbol_of xs) more
    → IsSameSet (map symbol_of (fold (insert_key symbol_eq) ks xs)) (map symbol_of ks ++ more)
added ks xs more s =
    same_set-then (same_set-map symbol_of (distinct_members symbol_eq symbol-is ks xs))
    (subst (λ us. IsSameSet us (map symbol_of ks ++ more)) (sym (map-append symbol_of ks xs))
    (same_set-append (same_set-self (map symbol_of ks)) s))

-- a symbol before the others, or after them
pub taken-more : (ks : List Code) (x : Code) (ds : List (Symbol ℕ))
    → IsSameSet (symbol_of x ∷ (map symbol_of ks ++ ds)) (map symbol_of (insert_key symbol_eq ks x) ++ ds)
taken-more ks x ds =
    same_set-append
    (same_set-then (same_set-swap (map symbol_of ks) (symbol_of x ∷ []))
    (same_set-both_ways (added ks (x ∷ []) (symbol_of x ∷ []) (same_set-self (symbol_of x ∷ [])))))
    (same_set-self ds)

-- ---- the symbols of terms
symbols_all-push : (g : List (Tm ℕ)) (h : Tm ℕ) → symbols_all numbers (g ++ h ∷ []) ≡ symbols_all numbers g
    ++ symbols_tm numbers h
symbols_all-push [] h = append-nil (symbols_tm numbers h)
symbols_all-push (t ∷ g) h =
    ap (λ l. symbols_tm numbers t ++ l) (symbols_all-push g h)
    ∙ sym (append_assoc (symbols_tm numbers t) (symbols_all numbers g) (symbols_tm numbers h))

pub symbols-next : (ts : List (Named ℕ)) (hyps : List ℕ) (i x : ℕ) → i < length hyps → x ≡ get_or hyps i x
    → symbols_all numbers (map (tm_at ts) (take i hyps)) ++ symbols_tm numbers (tm_at ts x)
    ≡ symbols_all numbers (map (tm_at ts) (take (i + 1) hyps))
symbols-next ts hyps i x within item =
    sym (symbols_all-push (map (tm_at ts) (take i hyps)) (tm_at ts x))
    ∙ sym (ap (symbols_all numbers) (map-append (tm_at ts) (take i hyps) (x ∷ [])))
    ∙ ap (λ l. symbols_all numbers (map (tm_at ts) l)) (sym (take_item hyps i x within item))

-- ---- type variables
pub type-kept : (tys : List (Ty ℕ)) (t : Named ℕ) (ty : ℕ) (all own : List ℕ)
    → named_type numbers t ≡ Some (type_at tys ty) → IsSameSet all (vars_tm numbers (nameless numbers t))
    → IsSameSet own (vars_ty numbers (type_at tys ty))
    → list_all (λ n. list_any (nat_eq n) own) all ≡ keeps_type_vars numbers (nameless numbers t)
type-kept tys t ty all own typed s r =
    part-same_set nat_eq Decides-eqb all (vars_tm numbers (nameless numbers t)) own
    (vars_ty numbers (type_of numbers (nameless numbers t))) s
    (subst (λ u. IsSameSet own (vars_ty numbers u)) (sym is) r)
  where
    is : type_of numbers (nameless numbers t) ≡ type_at tys ty
    is = type_of-is numbers (nameless numbers t) (type_at tys ty) (type-nameless numbers tells_numbers t ∙ typed)

-- ---- variables
module _ (tys : List (Ty ℕ)) (inj : IsInjective tys) where
  pub same-variable : (v w : VarKey) → v.ty < length tys → w.ty < length tys → variable_of tys v ≡ variable_of tys w
      → v ≡ w
  same-variable v w lv lw e =
      let types : v.ty ≡ w.ty = get_or-IsInjective tys inj v.ty w.ty (TyVar 0) lv lw (ap (λ x. x.ty) e) in
      λ i. record { name = (ap (λ (x : Variable ℕ). x.name) e) i; ty = types i }

  pub same-key : (v w : VarKey) → v.ty < length tys → w.ty < length tys
      → key_eq v w ≡ same_var numbers (variable_of tys v) (variable_of tys w)
  same-key v w lv lw =
      same_from_decides (key_eq v w) (same_var numbers (variable_of tys v) (variable_of tys w)) (key-is v w)
      (Decides-like (same_var numbers (variable_of tys v) (variable_of tys w)) (same-variable v w lv lw)
      (λ e. ap (variable_of tys) e) (same_var-is numbers tells_numbers (variable_of tys v) (variable_of tys w)))

  member-key : (v : VarKey) (ws : List VarKey) → v.ty < length tys → All (λ w. w.ty < length tys) ws
      → IsMember (variable_of tys v) (map (variable_of tys) ws) → IsMember v ws
  member-key v ws l all m =
      let (w, i, e) = IsMember-map_back (variable_of tys) (variable_of tys v) ws m in
      subst (λ x. IsMember x ws) (same-variable w v (All-at_member (λ x. x.ty < length tys) ws w all i) l e) i

  -- a term is closed but for the variables just where its free ones are among them
  pub closed-keys : (free vs : List VarKey) (t : Tm ℕ) → All (λ v. v.ty < length tys) free
      → All (λ v. v.ty < length tys) vs
      → ((w : Variable ℕ) → IsMember w (map (variable_of tys) free) ↔ IsFree numbers w t)
      → list_all (λ v. list_any (key_eq v) vs) free ≡ is_closed_but numbers (map (variable_of tys) vs) t
  closed-keys free vs t below inside all =
      same_from_decides (list_all (λ v. list_any (key_eq v) vs) free)
      (is_closed_but numbers (map (variable_of tys) vs) t)
      (Decides-like (list_all (λ v. list_any (key_eq v) vs) free) to back (part-is key_eq key-is free vs))
      (is_closed_but-is numbers tells_numbers (map (variable_of tys) vs) t)
    where
      to : IsPart free vs → (w : Variable ℕ) → IsFree numbers w t → IsMember w (map (variable_of tys) vs)
      to p w f =
          let (v, i, e) = IsMember-map_back (variable_of tys) w free ((all w).1 f) in
          subst (λ x. IsMember x (map (variable_of tys) vs)) e (IsMember-map (variable_of tys) v vs (p v i))

      back : ((w : Variable ℕ) → IsFree numbers w t → IsMember w (map (variable_of tys) vs)) → IsPart free vs
      back h v i = member-key v vs (All-at_member (λ x. x.ty < length tys) free v below i) inside
          (h (variable_of tys v) ((all (variable_of tys v)).0 (IsMember-map (variable_of tys) v free i)))

  distinct-map : (vs : List VarKey) → All (λ v. v.ty < length tys) vs → AreDistinct vs
      → AreDistinct (map (variable_of tys) vs)
  distinct-map [] all d = tt
  distinct-map (v ∷ vs) all d =
      let rest = All-tail (λ x. x.ty < length tys) v vs all in
      (λ m. d.0 (member-key v vs (All-head (λ x. x.ty < length tys) v vs all) rest m), distinct-map vs rest d.1)

  distinct-map_back : (vs : List VarKey) → AreDistinct (map (variable_of tys) vs) → AreDistinct vs
  distinct-map_back [] d = tt
  distinct-map_back (v ∷ vs) d = (λ m. d.0 (IsMember-map (variable_of tys) v vs m), distinct-map_back vs d.1)

  pub distinct-keys : (vs : List VarKey) → All (λ v. v.ty < length tys) vs
      → are_distinct key_eq vs ≡ are_distinct (same_var numbers) (map (variable_of tys) vs)
  distinct-keys vs all =
      same_from_decides (are_distinct key_eq vs) (are_distinct (same_var numbers) (map (variable_of tys) vs))
      (Decides-like (are_distinct key_eq vs) (distinct-map vs all) (distinct-map_back vs)
      (are_distinct-is key_eq key-is numbers vs))
      (are_distinct-is (same_var numbers) (same_var-is numbers tells_numbers) numbers (map (variable_of tys) vs))
