-- When a binder captures what a variable of its body becomes.
use Rattle.std.specs.Prelude.{◌≢◌, ◌||◌, take, IfOk, MatchBool, Vec}
use Rattle.std.specs.Global.{Global}
use Rattle.std.proofs.Common.{◌≡◌, ℕ, ◌+◌, ◌<◌, Bool, Decides, true, false, List, [], ◌∷◌, ◌++◌}
use Rattle.std.proofs.Common.{map, length, get_or, slice_get, Some, None, Result, Ok, Err, true≢false}
use Rattle.std.proofs.Common.{refl, sym, ap, subst, ◌∙◌, ◌⊎◌, inl, inr, arith}
use Rattle.std.specs.List.{All, list_any}
use Rattle.std.specs.Map.{lookup}
use Rattle.std.proofs.lemmas.List.{take_more, nil_from_length}
use Rattle.std.proofs.lemmas.Option.{slice_get_within, slice_get-get_or}
use Rattle.ot_logic.specs.Lists.{IsMember}
use Rattle.ot_logic.specs.Trees.{TyVar, Variable, Tm, Named}
use Rattle.ot_logic.specs.Hol.{inst, inst_var, IsFree, depth_ty, depth_limit}
use Rattle.ot_logic.specs.NamedTerms.{image, nameless}
use Rattle.ot_logic.specs.Naming.{numbers}
use Rattle.ot_logic.proofs.Members.{IsMember-cases, IsMember-get_or}
use Rattle.ot_logic.proofs.Members.{IsMember-map, IsMember-map_back, All-at_member}
use Rattle.ot_laws.specs.Walk.{nameless_map}
use Rattle.ot_laws.proofs.Tests.{tells_numbers}
use Rattle.ot_laws.proofs.Named.{free-nameless, nameless-free}
use Rattle.ot_laws.proofs.Apply.{term_at-cases}
use Rattle.ot_type.specs.TypeTable.{type_at}
use Rattle.ot_term.specs.Term.{TermTable}
use Rattle.ot_term.specs.TermTable.{term_at, variable_of, Grows, IsGrownTo, IsTermTable}
use Rattle.ot_term.specs.declared.term.VarKey.{VarKey}
use Rattle.ot_term.proofs.Growing.{variable_of-Grows}
use Rattle.ot_subst.specs.Substitution.{Substitution, same_key, type_part, named_part, variable_part, IsSubstOf}
use Rattle.ot_subst.specs.Walk.{AreReady}
use Rattle.ot_subst.specs.Clash.{IsFreeInSome, IsFreeInImage, IsCaught, Catches, AreCandidates, IsPutIn}
use Rattle.ot_subst.proofs.Growing.{type_part-Grows, named_part-Grows}
use Rattle.ot_subst.proofs.Keys.{same_key-is, variable-injective}
use Rattle.ot_subst.proofs.Variables.{becomes-outside, becomes-found, becomes-itself}

-- ---- tests
pub any-member : (w : VarKey) (xs : List VarKey) → list_any (λ y. same_key y w) xs ≡ true → IsMember w xs
any-member w [] h = absurd (true≢false (sym h))
any-member w (y ∷ xs) h = go (same_key y w) refl h (any-member w xs)
  where
    go : (b : Bool) → same_key y w ≡ b → (b || list_any (λ y. same_key y w) xs) ≡ true
        → (list_any (λ y. same_key y w) xs ≡ true → IsMember w xs) → IsMember w (y ∷ xs)
    go true e h f = inl ((same_key-is y w).0 e)
    go false e h f = inr (f h)

pub member-any : (w : VarKey) (xs : List VarKey) → IsMember w xs → list_any (λ y. same_key y w) xs ≡ true
member-any w (y ∷ xs) (inl e) = ap (λ b. b || list_any (λ y. same_key y w) xs) ((same_key-is y w).1 e)
member-any w (y ∷ xs) (inr m) = go (same_key y w) (member-any w xs m)
  where
    go : (b : Bool) → list_any (λ y. same_key y w) xs ≡ true → (b || list_any (λ y. same_key y w) xs) ≡ true
    go true e = refl
    go false e = e
member-any w [] m = absurd m

-- one element more
pub member-more : {X : Type 0} (x y : X) (xs : List X) (i : ℕ) → i < length xs → y ≡ get_or xs i y
    → IsMember x (take (i + 1) xs) → IsMember x (take i xs) ⊎ (y ≡ x)
member-more x y xs i h e m =
    elim (IsMember-cases x (take i xs) (y ∷ [])
    (subst (λ z. IsMember x (take i xs ++ z ∷ [])) (sym e) (subst (IsMember x) (take_more xs i y h) m))) [
      | inl a ↦ inl a
      | inr b ↦ elim b [ inl c ↦ inr c | inr d ↦ absurd d ]
    ]

-- what is not so, where the answer is no
pub no-answer : {P : Type 0} → ¬ P → Decides false P
no-answer n = (λ e. absurd (true≢false (sym e)), λ p. absurd (n p))

pub yes-answer : {P : Type 0} → P → Decides true P
yes-answer p = (λ _. p, λ _. refl)

carry-free : {x y : Variable ℕ} {a b : Tm ℕ} → x ≡ y → a ≡ b → IsFree numbers x a → IsFree numbers y b
carry-free {x} {y} {a} {b} e d h = subst (IsFree numbers y) d (subst (λ z. IsFree numbers z a) e h)

-- the free variables of a name tell whether one of them is free
pub free_tells : (t : TermTable) → IsTermTable t → (w : VarKey) → w.ty < length t.types → (a : Tm ℕ) (xs : List VarKey)
    → All (λ x. x.ty < length t.types) xs
    → ((x : Variable ℕ) → (IsMember x (map (variable_of t.types) xs) → (x.name ≡ w.name) × IsFree numbers x a)
    × ((x.name ≡ w.name) × IsFree numbers x a → IsMember x (map (variable_of t.types) xs)))
    → (b : Bool) → b ≡ list_any (λ y. same_key y w) xs → Decides b (IsFree numbers (variable_of t.types w) a)
free_tells t table w within a xs inside free b is = (
  λ e. ((free (variable_of t.types w)).0
      (IsMember-map (variable_of t.types) w xs (any-member w xs (sym is ∙ e)))).1,
  λ f.
      let (y, n, c) = IsMember-map_back (variable_of t.types) (variable_of t.types w) xs
      ((free (variable_of t.types w)).1 (refl, f)) in
      let same : y ≡ w = variable-injective t.types table.types y w
      (All-at_member (λ (z : VarKey). z.ty < length t.types) xs y inside n) within c in
      is ∙ member-any w xs (subst (λ z. IsMember z xs) same n),
)

-- ---- the terms that are put in
-- those of the pairs
put_in_back : (t : TermTable) (s : Substitution) (w : VarKey) → IsPutIn t s w → IsFreeInSome t s.terms w
put_in_back t s w (p, m, f) =
    let (q, i, e) = IsMember-map_back (λ (z : Variable ℕ × Named ℕ). (z.0, nameless numbers z.1)) p (named_part t s)
    m in
    let (k, j, d) = IsMember-map_back (λ (z : VarKey × ℕ). (variable_of t.types z.0, term_at t.terms z.1)) q s.terms
    i in
    let same : nameless numbers (term_at t.terms k.1) ≡ p.1 =
    ap (λ (z : Variable ℕ × Named ℕ). nameless numbers z.1) d ∙ ap (λ (z : Variable ℕ × Tm ℕ). z.1) e in
    (k, j, subst (IsFree numbers (variable_of t.types w)) (sym same) f)

-- one pair more
pub some-here : (t : TermTable) (ps : List (VarKey × ℕ)) (w : VarKey) (i : ℕ) (p : VarKey × ℕ) → i < length ps
    → p ≡ get_or ps i p → IsFree numbers (variable_of t.types w) (nameless numbers (term_at t.terms p.1))
    → IsFreeInSome t ps w
some-here t ps w i p within is f =
    (p, subst (λ (z : VarKey × ℕ). IsMember z ps) (sym is) (IsMember-get_or ps i p within), f)

pub none-more : (t : TermTable) (ps : List (VarKey × ℕ)) (w : VarKey) (i : ℕ) (p : VarKey × ℕ) → i < length ps
    → p ≡ get_or ps i p → ¬ (IsFreeInSome t (take i ps) w)
    → ¬ (IsFree numbers (variable_of t.types w) (nameless numbers (term_at t.terms p.1)))
    → ¬ (IsFreeInSome t (take (i + 1) ps) w)
none-more t ps w i p within is none not_here (q, m, f) = elim (member-more q p ps i within is m) [
  | inl a ↦ none (q, a, f)
  | inr e ↦ not_here
      (subst (λ (z : VarKey × ℕ). IsFree numbers (variable_of t.types w) (nameless numbers (term_at t.terms z.1)))
      (sym e) f)
]

-- where no pair comes after the first ones, they tell
pub put_in_answer : {E : Type 0} (res : Result Bool E) (t : TermTable) (s : Substitution) (w : VarKey)
    (ps qs : List (VarKey × ℕ)) → s.terms ≡ ps ++ qs → length qs ≡ 0
    → IfOk res (λ b. Decides b (IsFreeInSome t ps w)) → IfOk res (λ b. b ≡ false → ¬ (IsPutIn t s w))
put_in_answer (Ok b) t s w ps qs both none h = λ no k.
    let (p, m, f) = put_in_back t s w k in
    elim (IsMember-cases p ps qs (subst (IsMember p) both m)) [
      | inl a ↦ true≢false (sym (h.1 (p, a, f)) ∙ no)
      | inr a ↦ absurd (subst (IsMember p) (nil_from_length qs none) a)
    ]
put_in_answer (Err e) t s w ps qs both none h = tt

-- ---- what one variable becomes
module _ (t u : TermTable) (g : Grows t u) (s : Substitution) (inside : IsSubstOf t s) (v w x : VarKey)
    (new : w.ty < length t.types) (variable : x.ty < length t.types) where
  same_image : image numbers [] (type_part u s) (variable_part u s) (variable_of u.types x)
      ≡ image numbers [] (type_part t s) (variable_part t s) (variable_of t.types x)
  same_image = λ i. image numbers [] (type_part-Grows t u g s inside i)
      (nameless_map numbers (named_part-Grows t u g s inside i)) (variable_of-Grows t u g x variable i)

  pub caught-before : IsCaught u s v w x → IsCaught t s v w x
  caught-before h = (h.0, carry-free (variable_of-Grows t u g w new) same_image h.1)

  pub caught-later : IsCaught t s v w x → IsCaught u s v w x
  caught-later h = (h.0, carry-free (sym (variable_of-Grows t u g w new)) (sym same_image) h.1)

module _ (t : TermTable) (s : Substitution) (table : IsTermTable t) (inside : IsSubstOf t s) (v w x : VarKey)
    (new : w.ty < length t.types) (variable : x.ty < length t.types) where
  alone : AreReady t s []
  alone = record { table = table; subst = inside; binders = λ p i. absurd i }

  -- a variable whose type is not in the table
  pub uncaught-outside : depth_limit < depth_ty numbers (inst numbers (type_part t s) (type_at t.types x.ty))
      → ¬ (IsCaught t s v w x)
  uncaught-outside deep h =
      let same : inst_var numbers (type_part t s) (variable_of t.types x) ≡ variable_of t.types w =
      subst (IsFree numbers (variable_of t.types w)) (becomes-outside t s [] x alone variable refl deep) h.1 in
      let low = table.types.shallow w.ty (type_at t.types w.ty) (slice_get-get_or t.types w.ty (TyVar 0) new) in
      let depth = ap (λ (z : Variable ℕ). depth_ty numbers z.ty) same in
      absurd (omega (arith, deep, low, depth))

  -- u is the table after the type was instantiated, and ty the number of the instance
  module _ (other : x ≢ v) (u : TermTable) (ty : ℕ) (grown : IsGrownTo 0 t u)
      (instance : slice_get u.types ty ≡ Some (inst numbers (type_part t s) (type_at t.types x.ty))) where
    same_new : variable_of u.types w ≡ variable_of t.types w
    same_new = variable_of-Grows t u grown.grows w new

    pub found-within : (id : ℕ) → lookup (same_key (record { name = x.name; ty = ty })) s.terms ≡ Some id
        → id < length u.terms
    found-within id e = (becomes-found t s [] x alone variable refl u ty grown instance id e).within

    pub caught-found : (id : ℕ) → lookup (same_key (record { name = x.name; ty = ty })) s.terms ≡ Some id → (b : Bool)
        → Decides b (IsFree numbers (variable_of u.types w) (nameless numbers (term_at u.terms id)))
        → Decides b (IsCaught t s v w x)
    caught-found id e b h =
        let found = becomes-found t s [] x alone variable refl u ty grown instance id e in (
          λ p. (other, carry-free same_new found.form (h.0 p)),
          λ k. h.1 (carry-free (sym same_new) (sym found.form) k.1),
        )

    pub caught-itself : lookup (same_key (record { name = x.name; ty = ty })) s.terms ≡ None → (b : Bool)
        → Decides b (◌≡◌ {A = VarKey} (record { name = x.name; ty = ty }) w) → Decides b (IsCaught t s v w x)
    caught-itself e b h =
        let itself = becomes-itself t s [] x alone variable refl u ty grown instance e in (
          λ p. (
            other,
            subst
                (IsFree numbers (variable_of t.types w)) (sym itself) (ap (variable_of u.types) (h.0 p) ∙ same_new),
          ),
          λ k. h.1 (variable-injective u.types grown.table.types (record { name = x.name; ty = ty }) w
              (slice_get_within u.types ty _ instance) (omega (arith, new, grown.grows.types.longer))
              (subst (IsFree numbers (variable_of t.types w)) itself k.1 ∙ sym same_new)),
        )

-- ---- the free variables of a body
-- all of them
pub candidates_all : {E : Type 0} (res : Result (Vec VarKey Global) E) (t : TermTable) (s : Substitution) (w : VarKey)
    (body : ℕ) → IfOk res (λ xs. All (λ x. x.ty < length t.types) xs.items)
    → IfOk res (λ xs. (x : Variable ℕ)
    → (IsMember x (map (variable_of t.types) xs.items) → IsFree numbers x (nameless numbers (term_at t.terms body)))
    × (IsFree numbers x (nameless numbers (term_at t.terms body)) → IsMember x (map (variable_of t.types) xs.items)))
    → IfOk res (λ xs. AreCandidates t s w body xs.items)
candidates_all (Ok xs) t s w body inside free =
    record { inside = inside; to = λ x. (free x).0; back = λ x i f. (free x).1 i }
candidates_all (Err e) t s w body inside free = tt

-- those of a name, where no term that is put in has the variable free
pub candidates_named : {E : Type 0} (res : Result (Vec VarKey Global) E) (t : TermTable) (s : Substitution)
    (w : VarKey) (body : ℕ) → ¬ (IsPutIn t s w) → IfOk res (λ xs. All (λ x. x.ty < length t.types) xs.items)
    → IfOk res (λ xs. (x : Variable ℕ)
    → (IsMember x (map (variable_of t.types) xs.items)
    → (x.name ≡ w.name) × IsFree numbers x (nameless numbers (term_at t.terms body)))
    × ((x.name ≡ w.name) × IsFree numbers x (nameless numbers (term_at t.terms body))
    → IsMember x (map (variable_of t.types) xs.items))) → IfOk res (λ xs. AreCandidates t s w body xs.items)
candidates_named (Ok xs) t s w body not_put inside free = record {
  inside = inside;
  to = λ x m. ((free x).0 m).1;
  back = λ x i f.
      elim (term_at-cases numbers tells_numbers (variable_part t s) (inst_var numbers (type_part t s) x)) [
        | inl (p, j, e) ↦ absurd (not_put (p, j, subst (IsFree numbers (variable_of t.types w)) e f))
        | inr e ↦
            let same : inst_var numbers (type_part t s) x ≡ variable_of t.types w =
            subst (IsFree numbers (variable_of t.types w)) e f in
            let name : x.name ≡ w.name = ap (λ (z : Variable ℕ). z.name) same in
            (free x).1 (name, i)
      ];
}
candidates_named (Err e) t s w body not_put inside free = tt

module _ (t : TermTable) (s : Substitution) (table : IsTermTable t) (v w : VarKey) (body : ℕ)
    (binder : v.ty < length t.types) (xs : List VarKey) (asked : AreCandidates t s w body xs) where
  catches-one : (x : VarKey) → IsMember x xs → IsCaught t s v w x → Catches t s v w body
  catches-one x m c = (
    variable_of t.types x,
    free-nameless numbers tells_numbers (variable_of t.types x) (term_at t.terms body)
        (asked.to (variable_of t.types x) (IsMember-map (variable_of t.types) x xs m)),
    λ e. c.0 (variable-injective t.types table.types x v
        (All-at_member (λ (y : VarKey). y.ty < length t.types) xs x asked.inside m) binder e),
    c.1,
  )

  catches-none : ((x : VarKey) → IsMember x xs → ¬ (IsCaught t s v w x)) → ¬ (Catches t s v w body)
  catches-none missed (x, i, d, f) =
      let (y, n, c) = IsMember-map_back (variable_of t.types) x xs
      (asked.back x (nameless-free numbers tells_numbers x (term_at t.terms body) i) f) in
      missed y n (λ e. d (sym c ∙ ap (variable_of t.types) e), subst (IsFreeInImage t s w) (sym c) f)

  pub catches-answer : {E : Type 0} (res : Result Bool E)
      → IfOk res (λ b. MatchBool b ((x : VarKey) × IsMember x xs × IsCaught t s v w x)
      ((x : VarKey) → IsMember x xs → ¬ (IsCaught t s v w x))) → IfOk res (λ b. Decides b (Catches t s v w body))
  catches-answer (Ok true) h = yes-answer (catches-one h.0 h.1 h.2)
  catches-answer (Ok false) h = no-answer (catches-none h)
  catches-answer (Err e) h = tt
