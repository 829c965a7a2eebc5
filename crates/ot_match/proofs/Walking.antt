-- The walk gives the maps that match.
use Rattle.std.specs.Bool.{Decides}
use Rattle.std.specs.Prelude.{◌==◌}
use Rattle.std.specs.List.{AllByRecursion}
use Rattle.std.specs.Option.{option_map}
use Rattle.std.proofs.Common.{◌≡◌, Bool, true, List, [], ◌∷◌, map}
use Rattle.std.proofs.Common.{Option, Some, None, refl, sym, ap, subst, ◌∙◌, inl, inr}
use Rattle.std.proofs.lemmas.Option.{same_Some}
use Rattle.std.proofs.lemmas.List.{map-append}
use Rattle.std.proofs.lemmas.Bool.Decides.{Decides-eqb}
use Rattle.ot_logic.specs.Trees.{Alphabet, Ty, Tys, TyVar, TyOp, NoTys, MoreTys}
use Rattle.ot_logic.specs.Trees.{Variable, Tm, Free, Con, Bound, App, Abs}
use Rattle.ot_logic.specs.Hol.{TypeMap, TermMap, type_at, term_at, inst_by, inst_all, inst_var, vars_ty, vars_all}
use Rattle.ot_logic.specs.Hol.{vars_tm, bind, subst_tm, type_in, HasType, IsTyped, same_ty, same_var, same_tm}
use Rattle.ot_logic.specs.Lists.{AreDistinct}
use Rattle.ot_laws.proofs.Tests.{Tells, cases_of, same_ty-is, same_var-is, same_tm-is}
use Rattle.ot_laws.proofs.Typed.{term_at-typed}
use Rattle.ot_match.specs.Matching.{keys, frees_tm, IsMatch, matched}
use Rattle.ot_match.specs.Walk.{◌>>=◌, with_binding, put_term, walk_type, walk_types}
use Rattle.ot_match.specs.Walk.{walk_var, walk_in_type, walk_term, Maps, WalkMatches}
use Rattle.ot_match.proofs.Once.{each_once-distinct, by-keys}
use Rattle.ot_match.proofs.Matches.{any_substitution, matched_is_match}
use Rattle.ot_match.proofs.Adding.{added, all_added, added-distinct, all_added-append, all_added-each_once}

bind-some : {A B : Type 0} (o : Option A) (f : A → Option B) (y : B) → (o >>= f) ≡ Some y
    → (x : A) × (o ≡ Some x) × (f x ≡ Some y)
bind-some None f y e = absurd cc
bind-some (Some x) f y e = (x, refl, e)

-- what a function agrees with
abbrev Agrees : {K X : Type 0} → (K → X) → List (K × X) → Type 0
Agrees f = AllByRecursion (λ p. f p.0 ≡ p.1)

agrees-graph : {K X : Type 0} (f : K → X) (m : List (K × X)) → Agrees f m → map (λ k. (k, f k)) (keys m) ≡ m
agrees-graph f [] a = refl
agrees-graph f (p ∷ m) a = λ i. (p.0, a.0 i) ∷ agrees-graph f m a.1 i

module _ {K X : Type 0} (same : K → K → Bool) (tells : (x y : K) → Decides (same x y) (x ≡ y)) (alike : X → X → Bool)
    (decides : (x y : X) → Decides (alike x y) (x ≡ y)) where
  -- one more pair, where the value is the function's
  put-forth : (f : K → X) (k : K) (m : List (K × X)) → Agrees f m
      → (r : List (K × X)) × (with_binding same alike k (f k) m ≡ Some r) × Agrees f r × (keys r ≡ added same k (keys m))
  put-forth f k [] a = ((k, f k) ∷ [], refl, (refl, tt), refl)
  put-forth f k (p ∷ m) a = elim (cases_of (same k p.0) (tells k p.0)) [
    | inl q ↦ elim (cases_of (alike (f k) p.1) (decides (f k) p.1)) [
      | inl t ↦ rw (q.0, t.0) (p ∷ m, refl, a, refl)
      | inr t ↦ absurd (t.1 (ap f q.1 ∙ a.0))
    ]
    | inr q ↦
        let (r, e, b, h) = put-forth f k m a.1 in
        rw (q.0, e) (p ∷ r, refl, (a.0, b), ap (λ w. p.0 ∷ w) h)
  ]

  -- and back
  put-back : (f : K → X) (k : K) (x : X) (m r : List (K × X)) → with_binding same alike k x m ≡ Some r → Agrees f r
      → (f k ≡ x) × Agrees f m
  put-back f k x [] r e a =
      let b : Agrees f ((k, x) ∷ []) = subst (Agrees f) (sym (same_Some ((k, x) ∷ []) r e)) a in
      (b.0, tt)
  put-back f k x (p ∷ m) r e a = elim (cases_of (same k p.0) (tells k p.0)) [
    | inl q ↦ elim (cases_of (alike x p.1) (decides x p.1)) [
      | inl t ↦
          let h : ◌≡◌ {A = Option (List (K × X))} (Some (p ∷ m)) (Some r) = rw (q.0, t.0) at e in
          let b : Agrees f (p ∷ m) = subst (Agrees f) (sym (same_Some (p ∷ m) r h)) a in
          (ap f q.1 ∙ b.0 ∙ sym t.1, b)
      | inr t ↦
          let h : ◌≡◌ {A = Option (List (K × X))} None (Some r) = rw (q.0, t.0) at e in absurd cc
    ]
    | inr q ↦
        let h : option_map (λ s. p ∷ s) (with_binding same alike k x m) ≡ Some r = rw q.0 at e in
        later (with_binding same alike k x m) refl h (λ s g b. put-back f k x m s g b)
  ]
    where
      later : (o : Option (List (K × X))) → with_binding same alike k x m ≡ o → option_map (λ s. p ∷ s) o ≡ Some r
          → ((s : List (K × X)) → with_binding same alike k x m ≡ Some s → Agrees f s → (f k ≡ x) × Agrees f m)
          → (f k ≡ x) × Agrees f (p ∷ m)
      later None g h ih = absurd cc
      later (Some s) g h ih =
          let b : Agrees f (p ∷ s) = subst (Agrees f) (sym (same_Some (p ∷ s) r h)) a in
          let c = ih s g b.1 in
          (c.0, (b.0, c.1))

  put-keys : (k : K) (x : X) (m r : List (K × X)) → with_binding same alike k x m ≡ Some r → keys r ≡ added same k (keys m)
  put-keys k x [] r e = ap keys (sym (same_Some ((k, x) ∷ []) r e))
  put-keys k x (p ∷ m) r e = elim (cases_of (same k p.0) (tells k p.0)) [
    | inl q ↦ elim (cases_of (alike x p.1) (decides x p.1)) [
      | inl t ↦
          let h : ◌≡◌ {A = Option (List (K × X))} (Some (p ∷ m)) (Some r) = rw (q.0, t.0) at e in
          rw q.0 (ap keys (sym (same_Some (p ∷ m) r h)))
      | inr t ↦
          let h : ◌≡◌ {A = Option (List (K × X))} None (Some r) = rw (q.0, t.0) at e in absurd cc
    ]
    | inr q ↦
        let h : option_map (λ s. p ∷ s) (with_binding same alike k x m) ≡ Some r = rw q.0 at e in
        rw q.0 (later (with_binding same alike k x m) refl h (λ s g. put-keys k x m s g))
  ]
    where
      later : (o : Option (List (K × X))) → with_binding same alike k x m ≡ o → option_map (λ s. p ∷ s) o ≡ Some r
          → ((s : List (K × X)) → with_binding same alike k x m ≡ Some s → keys s ≡ added same k (keys m))
          → keys r ≡ p.0 ∷ added same k (keys m)
      later None g h ih = absurd cc
      later (Some s) g h ih = ap keys (sym (same_Some (p ∷ s) r h)) ∙ ap (λ w. p.0 ∷ w) (ih s g)

module _ {N : Type 0} (alphabet : Alphabet N) (tells : Tells alphabet) where
  -- ---- the walk along a substitution

  mutual
    type-forth : (g : N → Ty N) (t : Ty N) (s : TypeMap alphabet) → Agrees g s
        → (r : TypeMap alphabet) × (walk_type alphabet t (inst_by alphabet g t) s ≡ Some r) × Agrees g r
        × (keys r ≡ all_added alphabet.same (keys s) (vars_ty alphabet t))
    type-forth g (TyVar n) s a = put-forth alphabet.same tells (same_ty alphabet) (same_ty-is alphabet tells) g n s a
    type-forth g (TyOp n ts) s a =
        let e : alphabet.same n n ≡ true = (tells n n).1 refl in
        rw e (types-forth g ts s a)

    types-forth : (g : N → Ty N) (ts : Tys N) (s : TypeMap alphabet) → Agrees g s
        → (r : TypeMap alphabet) × (walk_types alphabet ts (inst_all alphabet g ts) s ≡ Some r) × Agrees g r
        × (keys r ≡ all_added alphabet.same (keys s) (vars_all alphabet ts))
    types-forth g NoTys s a = (s, refl, a, refl)
    types-forth g (MoreTys t ts) s a =
        let (r, e, b, k) = type-forth g t s a in
        let (q, f, c, l) = types-forth g ts r b in (
          q,
          rw e f,
          c,
          l ∙ ap (λ w. all_added alphabet.same w (vars_all alphabet ts)) k
              ∙ sym (all_added-append alphabet.same tells (keys s) (vars_ty alphabet t) (vars_all alphabet ts)),
        )

  -- what a function gives for variables after the type part
  abbrev after : (N → Ty N) → Variable N → Variable N
  after g v = record { name = v.name; ty = inst_by alphabet g v.ty }

  abbrev Reaches : (N → Ty N) → (Variable N → Tm N) → List N → List (Variable N) → Maps alphabet
      → Option (Maps alphabet) → Type 0
  Reaches g h ns vs w o = (r : Maps alphabet) × (o ≡ Some r) × Agrees g r.0 × Agrees h r.1
      × (keys r.0 ≡ all_added alphabet.same (keys w.0) ns) × (keys r.1 ≡ all_added (same_var alphabet) (keys w.1) vs)

  term-forth : (g : N → Ty N) (h : Variable N → Tm N) → ((v : Variable N) → HasType alphabet (h v) v.ty)
      → (p : Tm N) (w : Maps alphabet) → Agrees g w.0 → Agrees h w.1
      → Reaches g h (vars_tm alphabet p) (map (after g) (frees_tm alphabet p)) w
      (walk_term alphabet p (bind alphabet g (λ v. h (after g v)) p) w)
  term-forth g h typed (Free v) w a b =
      let t : type_in alphabet [] (h (after g v)) ≡ Some (inst_by alphabet g v.ty) = typed (after g v) in
      let (s, e, c, k) = type-forth g v.ty w.0 a in
      let (m, f, d, l) = put-forth (same_var alphabet) (same_var-is alphabet tells) (same_tm alphabet)
      (same_tm-is alphabet tells) h (after g v) w.1 b in
      rw (t, e, f) ((s, m), refl, c, d, k, l)
  term-forth g h typed (Con n t) w a b =
      let same : alphabet.same n n ≡ true = (tells n n).1 refl in
      let (s, e, c, k) = type-forth g t w.0 a in
      rw (same, e) ((s, w.1), refl, c, b, k, refl)
  term-forth g h typed (Bound j) w a b =
      let same : (j == j) ≡ true = (Decides-eqb j j).1 refl in
      rw same (w, refl, a, b, refl, refl)
  term-forth g h typed (App f x) w a b =
      let (r, e, c, d, k, l) = term-forth g h typed f w a b in
      let (q, i, j, o, y, z) = term-forth g h typed x r c d in (
        q,
        rw e i,
        j,
        o,
        y ∙ ap (λ u. all_added alphabet.same u (vars_tm alphabet x)) k
            ∙ sym (all_added-append alphabet.same tells (keys w.0) (vars_tm alphabet f) (vars_tm alphabet x)),
        z ∙ ap (λ u. all_added (same_var alphabet) u (map (after g) (frees_tm alphabet x))) l
            ∙ sym (all_added-append (same_var alphabet) (same_var-is alphabet tells) (keys w.1)
            (map (after g) (frees_tm alphabet f)) (map (after g) (frees_tm alphabet x)))
            ∙ ap (all_added (same_var alphabet) (keys w.1))
            (sym (map-append (after g) (frees_tm alphabet f) (frees_tm alphabet x))),
      )
  term-forth g h typed (Abs t u) w a b =
      let (s, e, c, k) = type-forth g t w.0 a in
      let (q, i, j, o, y, z) = term-forth g h typed u (s, w.1) c b in (
        q,
        rw e i,
        j,
        o,
        y ∙ ap (λ v. all_added alphabet.same v (vars_tm alphabet u)) k
            ∙ sym (all_added-append alphabet.same tells (keys w.0) (vars_ty alphabet t) (vars_tm alphabet u)),
        z,
      )

  -- ---- and back

  mutual
    type-back : (g : N → Ty N) (t u : Ty N) (s r : TypeMap alphabet) → walk_type alphabet t u s ≡ Some r → Agrees g r
        → (inst_by alphabet g t ≡ u) × Agrees g s
    type-back g (TyVar n) u s r e a = put-back alphabet.same tells (same_ty alphabet) (same_ty-is alphabet tells) g n
        u s r e a
    type-back g (TyOp n ts) (TyVar m) s r e a = absurd cc
    type-back g (TyOp n ts) (TyOp m us) s r e a = elim (cases_of (alphabet.same n m) (tells n m)) [
      | inl q ↦
          let h : walk_types alphabet ts us s ≡ Some r = rw q.0 at e in
          let b = types-back g ts us s r h a in
          ((λ i. TyOp (q.1 i) (b.0 i)), b.1)
      | inr q ↦ let h : ◌≡◌ {A = Option (TypeMap alphabet)} None (Some r) = rw q.0 at e in absurd cc
    ]

    types-back : (g : N → Ty N) (ts us : Tys N) (s r : TypeMap alphabet) → walk_types alphabet ts us s ≡ Some r
        → Agrees g r → (inst_all alphabet g ts ≡ us) × Agrees g s
    types-back g NoTys NoTys s r e a = (refl, subst (Agrees g) (sym (same_Some s r e)) a)
    types-back g NoTys (MoreTys u us) s r e a = absurd cc
    types-back g (MoreTys t ts) NoTys s r e a = absurd cc
    types-back g (MoreTys t ts) (MoreTys u us) s r e a =
        let (q, f, h) = bind-some (walk_type alphabet t u s) (walk_types alphabet ts us) r e in
        let b = types-back g ts us q r h a in
        let c = type-back g t u s q f b.1 in
        ((λ i. MoreTys (c.0 i) (b.0 i)), c.1)

  mutual
    type-distinct : (t u : Ty N) (s r : TypeMap alphabet) → walk_type alphabet t u s ≡ Some r → AreDistinct (keys s)
        → AreDistinct (keys r)
    type-distinct (TyVar n) u s r e d =
        rw (put-keys alphabet.same tells (same_ty alphabet) (same_ty-is alphabet tells) n u s r e)
        (added-distinct alphabet.same tells n (keys s) d)
    type-distinct (TyOp n ts) (TyVar m) s r e d = absurd cc
    type-distinct (TyOp n ts) (TyOp m us) s r e d = elim (cases_of (alphabet.same n m) (tells n m)) [
      | inl q ↦ let h : walk_types alphabet ts us s ≡ Some r = rw q.0 at e in types-distinct ts us s r h d
      | inr q ↦ let h : ◌≡◌ {A = Option (TypeMap alphabet)} None (Some r) = rw q.0 at e in absurd cc
    ]

    types-distinct : (ts us : Tys N) (s r : TypeMap alphabet) → walk_types alphabet ts us s ≡ Some r
        → AreDistinct (keys s) → AreDistinct (keys r)
    types-distinct NoTys NoTys s r e d = subst (λ z. AreDistinct (keys z)) (same_Some s r e) d
    types-distinct NoTys (MoreTys u us) s r e d = absurd cc
    types-distinct (MoreTys t ts) NoTys s r e d = absurd cc
    types-distinct (MoreTys t ts) (MoreTys u us) s r e d =
        let (q, f, h) = bind-some (walk_type alphabet t u s) (walk_types alphabet ts us) r e in
        types-distinct ts us q r h (type-distinct t u s q f d)

  -- the maps so far: each key once, and each term of its variable's type
  record IsFineMaps (w : Maps alphabet) : Type 0 where
    types : AreDistinct (keys w.0)
    vars : AreDistinct (keys w.1)
    typed : IsTyped alphabet w.1

  put-typed : (v : Variable N) (c : Tm N) (m r : TermMap alphabet) → put_term alphabet v c m ≡ Some r
      → HasType alphabet c v.ty → IsTyped alphabet m → IsTyped alphabet r
  put-typed v c [] r e t h = subst (IsTyped alphabet) (same_Some ((v, c) ∷ []) r e) (t, tt)
  put-typed v c (p ∷ m) r e t h = elim (cases_of (same_var alphabet v p.0) (same_var-is alphabet tells v p.0)) [
    | inl q ↦ elim (cases_of (same_tm alphabet c p.1) (same_tm-is alphabet tells c p.1)) [
      | inl u ↦
          let k : ◌≡◌ {A = Option (TermMap alphabet)} (Some (p ∷ m)) (Some r) = rw (q.0, u.0) at e in
          subst (IsTyped alphabet) (same_Some (p ∷ m) r k) h
      | inr u ↦ let k : ◌≡◌ {A = Option (TermMap alphabet)} None (Some r) = rw (q.0, u.0) at e in absurd cc
    ]
    | inr q ↦
        let k : option_map (λ s. p ∷ s) (put_term alphabet v c m) ≡ Some r = rw q.0 at e in
        later (put_term alphabet v c m) refl k (λ s g. put-typed v c m s g t h.1)
  ]
    where
      later : (o : Option (TermMap alphabet)) → put_term alphabet v c m ≡ o → option_map (λ s. p ∷ s) o ≡ Some r
          → ((s : TermMap alphabet) → put_term alphabet v c m ≡ Some s → IsTyped alphabet s) → IsTyped alphabet r
      later None g k ih = absurd cc
      later (Some s) g k ih = subst (IsTyped alphabet) (same_Some (p ∷ s) r k) (h.0, ih s g)

  in_type-fine : (t u : Ty N) (w r : Maps alphabet) → walk_in_type alphabet t u w ≡ Some r → IsFineMaps w
      → IsFineMaps r
  in_type-fine t u w r e f =
      let (s, h, k) = bind-some (walk_type alphabet t u w.0) (λ s. Some (s, w.1)) r e in
      subst IsFineMaps (same_Some (s, w.1) r k)
      (record { types = type-distinct t u w.0 s h f.types; vars = f.vars; typed = f.typed })

  var-fine : (v : Variable N) (o : Option (Ty N)) (c : Tm N) (w r : Maps alphabet) → type_in alphabet [] c ≡ o
      → walk_var alphabet v o c w ≡ Some r → IsFineMaps w → IsFineMaps r
  var-fine v None c w r t e f = absurd cc
  var-fine v (Some u) c w r t e f =
      let x : Variable N = record { name = v.name; ty = u } in
      let (s, h, k) = bind-some (walk_type alphabet v.ty u w.0) (λ s. put_term alphabet x c w.1 >>= λ m. Some (s, m))
      r e in
      let (m, i, j) = bind-some (put_term alphabet x c w.1) (λ m. Some (s, m)) r k in
      subst IsFineMaps (same_Some (s, m) r j) (record {
        types = type-distinct v.ty u w.0 s h f.types;
        vars = rw
            (put-keys (same_var alphabet) (same_var-is alphabet tells) (same_tm alphabet) (same_tm-is alphabet tells)
            x c w.1 m i) (added-distinct (same_var alphabet) (same_var-is alphabet tells) x (keys w.1) f.vars);
        typed = put-typed x c w.1 m i t f.typed;
      })

  term-fine : (p c : Tm N) (w r : Maps alphabet) → walk_term alphabet p c w ≡ Some r → IsFineMaps w → IsFineMaps r
  term-fine (Free v) c w r e f = var-fine v (type_in alphabet [] c) c w r refl e f
  term-fine (Con n t) (Con m u) w r e f = elim (cases_of (alphabet.same n m) (tells n m)) [
    | inl q ↦ let h : walk_in_type alphabet t u w ≡ Some r = rw q.0 at e in in_type-fine t u w r h f
    | inr q ↦ let h : ◌≡◌ {A = Option (Maps alphabet)} None (Some r) = rw q.0 at e in absurd cc
  ]
  term-fine (Bound j) (Bound k) w r e f = elim (cases_of (j == k) (Decides-eqb j k)) [
    | inl q ↦ let h : ◌≡◌ {A = Option (Maps alphabet)} (Some w) (Some r) = rw q.0 at e in
        subst IsFineMaps (same_Some w r h) f
    | inr q ↦ let h : ◌≡◌ {A = Option (Maps alphabet)} None (Some r) = rw q.0 at e in absurd cc
  ]
  term-fine (App a x) (App b y) w r e f =
      let (q, h, k) = bind-some (walk_term alphabet a b w) (walk_term alphabet x y) r e in
      term-fine x y q r k (term-fine a b w q h f)
  term-fine (Abs t b) (Abs u c) w r e f =
      let (q, h, k) = bind-some (walk_in_type alphabet t u w) (walk_term alphabet b c) r e in
      term-fine b c q r k (in_type-fine t u w q h f)
  term-fine _ _ w r e f = absurd cc

  -- functions that agree with the maps at the end agree with those at the begin, and give the term
  var-back : (g : N → Ty N) (h : Variable N → Tm N) (v : Variable N) (o : Option (Ty N)) (c : Tm N)
      (w r : Maps alphabet) → walk_var alphabet v o c w ≡ Some r → Agrees g r.0 → Agrees h r.1
      → (h (after g v) ≡ c) × Agrees g w.0 × Agrees h w.1
  var-back g h v None c w r e a b = absurd cc
  var-back g h v (Some u) c w r e a b =
      let x : Variable N = record { name = v.name; ty = u } in
      let (s, i, k) = bind-some (walk_type alphabet v.ty u w.0) (λ s. put_term alphabet x c w.1 >>= λ m. Some (s, m))
      r e in
      let (m, j, l) = bind-some (put_term alphabet x c w.1) (λ m. Some (s, m)) r k in
      let q = same_Some (s, m) r l in
      let y = type-back g v.ty u w.0 s i (subst (λ z. Agrees g z.0) (sym q) a) in
      let z = put-back (same_var alphabet) (same_var-is alphabet tells) (same_tm alphabet) (same_tm-is alphabet tells)
      h x c w.1 m j (subst (λ z. Agrees h z.1) (sym q) b) in
      (ap (λ t. h (record { name = v.name; ty = t })) y.0 ∙ z.0, y.1, z.1)

  in_type-back : (g : N → Ty N) (h : Variable N → Tm N) (t u : Ty N) (w r : Maps alphabet) → walk_in_type alphabet t u
      w ≡ Some r → Agrees g r.0 → Agrees h r.1 → (inst_by alphabet g t ≡ u) × Agrees g w.0 × Agrees h w.1
  in_type-back g h t u w r e a b =
      let (s, i, k) = bind-some (walk_type alphabet t u w.0) (λ s. Some (s, w.1)) r e in
      let q = same_Some (s, w.1) r k in
      let y = type-back g t u w.0 s i (subst (λ z. Agrees g z.0) (sym q) a) in
      (y.0, y.1, subst (λ z. Agrees h z.1) (sym q) b)

  term-back : (g : N → Ty N) (h : Variable N → Tm N) (p c : Tm N) (w r : Maps alphabet) → walk_term alphabet p c w
      ≡ Some r → Agrees g r.0 → Agrees h r.1
      → (bind alphabet g (λ v. h (after g v)) p ≡ c) × Agrees g w.0 × Agrees h w.1
  term-back g h (Free v) c w r e a b = var-back g h v (type_in alphabet [] c) c w r e a b
  term-back g h (Con n t) (Con m u) w r e a b = elim (cases_of (alphabet.same n m) (tells n m)) [
    | inl q ↦
        let k : walk_in_type alphabet t u w ≡ Some r = rw q.0 at e in
        let y = in_type-back g h t u w r k a b in
        ((λ i. Con (q.1 i) (y.0 i)), y.1, y.2)
    | inr q ↦ let k : ◌≡◌ {A = Option (Maps alphabet)} None (Some r) = rw q.0 at e in absurd cc
  ]
  term-back g h (Bound j) (Bound k) w r e a b = elim (cases_of (j == k) (Decides-eqb j k)) [
    | inl q ↦
        let l : ◌≡◌ {A = Option (Maps alphabet)} (Some w) (Some r) = rw q.0 at e in
        let o = same_Some w r l in
        (ap Bound q.1, subst (λ z. Agrees g z.0) (sym o) a, subst (λ z. Agrees h z.1) (sym o) b)
    | inr q ↦ let l : ◌≡◌ {A = Option (Maps alphabet)} None (Some r) = rw q.0 at e in absurd cc
  ]
  term-back g h (App f x) (App k y) w r e a b =
      let (q, i, j) = bind-some (walk_term alphabet f k w) (walk_term alphabet x y) r e in
      let l = term-back g h x y q r j a b in
      let o = term-back g h f k w q i l.1 l.2 in
      ((λ i. App (o.0 i) (l.0 i)), o.1, o.2)
  term-back g h (Abs t p) (Abs u c) w r e a b =
      let (q, i, j) = bind-some (walk_in_type alphabet t u w) (walk_term alphabet p c) r e in
      let l = term-back g h p c q r j a b in
      let o = in_type-back g h t u w q i l.1 l.2 in
      ((λ i. Abs (o.0 i) (l.0 i)), o.1, o.2)
  term-back g h _ _ w r e a b = absurd cc

  -- ---- the law

  graph-agrees : {K X : Type 0} (f : K → X) (m : List (K × X)) → map (λ k. (k, f k)) (keys m) ≡ m → Agrees f m
  graph-agrees f [] e = tt
  graph-agrees f (p ∷ m) e = ((let h : (p.0, f p.0) ≡ p = cc in ap (λ z. z.1) h), graph-agrees f m cc)

  walk_found : (p c : Tm N) (s : TypeMap alphabet) (m : TermMap alphabet) → IsMatch alphabet p c s m
      → walk_term alphabet p c ([], []) ≡ Some (s, m)
  walk_found p c s m i =
      let (r, e, a, b, k, l) = term-forth (type_at alphabet s) (term_at alphabet m)
      (λ v. term_at-typed alphabet tells m v i.typed) p ([], []) tt tt in
      let types : keys r.0 ≡ keys s = k ∙ all_added-each_once alphabet.same tells (vars_tm alphabet p)
      ∙ sym i.types in
      let vars : keys r.1 ≡ keys m = l ∙ all_added-each_once (same_var alphabet) (same_var-is alphabet tells)
      (map (inst_var alphabet s) (frees_tm alphabet p)) ∙ sym i.vars in
      let first : r.0 ≡ s = sym (agrees-graph (type_at alphabet s) r.0 a)
      ∙ ap (map (λ n. (n, type_at alphabet s n))) types ∙ by-keys alphabet.same tells (type_at alphabet)
      (λ q x n. refl) s (rw i.types (each_once-distinct alphabet.same tells (vars_tm alphabet p))) in
      let second : r.1 ≡ m = sym (agrees-graph (term_at alphabet m) r.1 b)
      ∙ ap (map (λ w. (w, term_at alphabet m w))) vars ∙ by-keys (same_var alphabet) (same_var-is alphabet tells)
      (term_at alphabet) (λ q x w. refl) m
      (rw i.vars (each_once-distinct (same_var alphabet) (same_var-is alphabet tells)
      (map (inst_var alphabet s) (frees_tm alphabet p)))) in
      ap (λ z. walk_term alphabet p z ([], [])) (sym i.gives) ∙ e ∙ (λ j. Some (first j, second j))

  walk_match : (p c : Tm N) (s : TypeMap alphabet) (m : TermMap alphabet) → walk_term alphabet p c ([], [])
      ≡ Some (s, m) → IsMatch alphabet p c s m
  walk_match p c s m e =
      let f = term-fine p c ([], []) (s, m) e (record { types = tt; vars = tt; typed = tt }) in
      let a = graph-agrees (type_at alphabet s) s
      (by-keys alphabet.same tells (type_at alphabet) (λ q x n. refl) s f.types) in
      let b = graph-agrees (term_at alphabet m) m
      (by-keys (same_var alphabet) (same_var-is alphabet tells) (term_at alphabet) (λ q x w. refl) m f.vars) in
      let gives : subst_tm alphabet s m p ≡ c =
      (term-back (type_at alphabet s) (term_at alphabet m) p c ([], []) (s, m) e a b).0 in
      let (r, k, i, x, y) = any_substitution alphabet tells p c s m f.typed gives in
      let same : (r, k) ≡ (s, m) = same_Some (r, k) (s, m) (sym (walk_found p c r k i) ∙ e) in
      subst (λ z. IsMatch alphabet p c z.0 z.1) same i

  pub walk_matches : WalkMatches alphabet
  walk_matches p c = go (matched alphabet p c) refl (walk_term alphabet p c ([], [])) refl
    where
      go : (o : Option (Maps alphabet)) → matched alphabet p c ≡ o → (x : Option (Maps alphabet))
          → walk_term alphabet p c ([], []) ≡ x → x ≡ o
      go (Some (s, m)) e x f = sym f ∙ walk_found p c s m ((matched_is_match alphabet tells p c s m).0 e)
      go None e None f = refl
      go None e (Some (s, m)) f = let i = (matched_is_match alphabet tells p c s m).1 (walk_match p c s m f) in
          let k : ◌≡◌ {A = Option (Maps alphabet)} None (Some (s, m)) = sym e ∙ i in absurd cc
