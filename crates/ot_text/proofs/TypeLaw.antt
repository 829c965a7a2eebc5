-- Types: the text followed by further bytes gives back the type and these bytes.
use Rattle.std.specs.Prelude.{◌≡◌, ℕ, ◌==◌, Bool, true, false, cond, ◌||◌, List}
use Rattle.std.specs.Prelude.{[], ◌∷◌, ◌++◌, codes, Option, Some, None, is_some}
use Rattle.std.proofs.Common.{refl, sym, ◌∙◌, ap, subst, append_assoc}
use Rattle.ot_logic.specs.Names.{Name}
use Rattle.ot_logic.specs.Trees.{Ty, Tys, TyVar, TyOp, NoTys, MoreTys}
use Rattle.ot_logic.specs.Naming.{names}
use Rattle.ot_logic.specs.Hol.{as_fun_ty}
use Rattle.ot_laws.proofs.Tests.{tells_names}
use Rattle.ot_laws.proofs.Typing.{as_fun_ty-some}
use Rattle.ot_text.specs.Texts.{name_text, is_function, ty_text, spaced_text}
use Rattle.ot_text.proofs.Spelling.{name_onto, name-onto, name-inj, apart, tail-same}

-- whether an operator with these arguments after the first is a function type
abbrev is_fun : Name → Ty Name → Tys Name → Bool
is_fun n a ts = is_function names (TyOp n (MoreTys a ts))

abbrev mutual
  pub ty_onto : Ty Name → List ℕ → List ℕ
  ty_onto (TyVar n) r = 39 ∷ name_onto n r
  ty_onto (TyOp n NoTys) r = name_onto n r
  ty_onto (TyOp n (MoreTys a ts)) r = cond (is_fun n a ts)
      (40 ∷ ty_onto a (32 ∷ 45 ∷ 62 ∷ spaced_onto ts (41 ∷ r)))
      (40 ∷ name_onto n (32 ∷ ty_onto a (spaced_onto ts (41 ∷ r))))

  pub spaced_onto : Tys Name → List ℕ → List ℕ
  spaced_onto NoTys r = r
  spaced_onto (MoreTys t ts) r = 32 ∷ ty_onto t (spaced_onto ts r)

-- ---- the texts, followed by r
fun-text : (a : Ty Name) (ts : Tys Name) (r : List ℕ) → ((r : List ℕ) → ty_text a ++ r ≡ ty_onto a r)
    → ((r : List ℕ) → spaced_text ts ++ r ≡ spaced_onto ts r)
    → (codes "(" ++ ty_text a ++ codes " ->" ++ spaced_text ts ++ codes ")") ++ r ≡ 40
    ∷ ty_onto a (32 ∷ 45 ∷ 62 ∷ spaced_onto ts (41 ∷ r))
fun-text a ts r ha hs = simp append_assoc (simp (ha, hs))

op-text : (n : Name) (x : List ℕ) (y : List ℕ → List ℕ) (r : List ℕ) → ((r : List ℕ) → x ++ r ≡ y r)
    → (codes "(" ++ name_text n ++ x ++ codes ")") ++ r ≡ 40 ∷ name_onto n (y (41 ∷ r))
op-text n x y r h = simp append_assoc (simp (h, name-onto))

-- an argument and those after it
first-onto : (a : Ty Name) (ts : Tys Name) → ((r : List ℕ) → ty_text a ++ r ≡ ty_onto a r)
    → ((r : List ℕ) → spaced_text ts ++ r ≡ spaced_onto ts r)
    → (r : List ℕ) → spaced_text (MoreTys a ts) ++ r ≡ 32 ∷ ty_onto a (spaced_onto ts r)
first-onto a ts ha hs r =
    ap (λ z. 32 ∷ z) (append_assoc (ty_text a) (spaced_text ts) r ∙ ha (spaced_text ts ++ r) ∙ ap (ty_onto a) (hs r))

pub cond-onto : (e : Bool) (x y u v r : List ℕ) → x ++ r ≡ u → y ++ r ≡ v → cond e x y ++ r ≡ cond e u v
cond-onto true x y u v r p q = p
cond-onto false x y u v r p q = q

mutual
  pub ty-onto : (t : Ty Name) (r : List ℕ) → ty_text t ++ r ≡ ty_onto t r
  ty-onto (TyVar n) r = ap (λ z. 39 ∷ z) (name-onto n r)
  ty-onto (TyOp n NoTys) r = name-onto n r
  ty-onto (TyOp n (MoreTys a ts)) r =
      let ha = ty-onto a in
      let hs = spaced-onto ts in
      cond-onto (is_fun n a ts) _ _ _ _ r (fun-text a ts r ha hs)
      (op-text n (spaced_text (MoreTys a ts)) (λ z. 32 ∷ ty_onto a (spaced_onto ts z)) r (first-onto a ts ha hs))

  pub spaced-onto : (ts : Tys Name) (r : List ℕ) → spaced_text ts ++ r ≡ spaced_onto ts r
  spaced-onto NoTys r = refl
  spaced-onto (MoreTys t ts) r = first-onto t ts (ty-onto t) (spaced-onto ts) r

-- ---- back
-- the byte begins a type's text
abbrev pub starts_type : List ℕ → Bool
starts_type [] = false
starts_type (c ∷ cs) = (c == 33) || (c == 34) || (c == 39) || (c == 40)

starts-name_text : (n : Name) (r : List ℕ) → starts_type (name_onto n r) ≡ true
starts-name_text [] r = refl
starts-name_text (c ∷ cs) r = refl

starts-cond : (e : Bool) (x y : List ℕ) → starts_type (cond e (40 ∷ x) (40 ∷ y)) ≡ true
starts-cond true x y = refl
starts-cond false x y = refl

pub starts-ty : (t : Ty Name) (r : List ℕ) → starts_type (ty_onto t r) ≡ true
starts-ty (TyVar n) r = refl
starts-ty (TyOp n NoTys) r = starts-name_text n r
starts-ty (TyOp n (MoreTys a ts)) r = starts-cond (is_fun n a ts) _ _

-- a name_text begins neither like a variable nor like an application
spelling-var : (n : Name) (r x : List ℕ) → name_onto n r ≡ 39 ∷ x → ⊥
spelling-var [] r x p = apart 33 39 _ _ refl p
spelling-var (c ∷ cs) r x p = apart 34 39 _ _ refl p

spelling-paren : (n : Name) (r x : List ℕ) → name_onto n r ≡ 40 ∷ x → ⊥
spelling-paren [] r x p = apart 33 40 _ _ refl p
spelling-paren (c ∷ cs) r x p = apart 34 40 _ _ refl p

cond-paren : (e : Bool) (x y : List ℕ) → (z : List ℕ) × (cond e (40 ∷ x) (40 ∷ y) ≡ 40 ∷ z)
cond-paren true x y = (x, refl)
cond-paren false x y = (y, refl)

-- a type whose text begins with a name_text is an operator without arguments
ty-name_text : (t : Ty Name) (n : Name) (r s : List ℕ) → ty_onto t r ≡ name_onto n s → r ≡ s
ty-name_text (TyVar m) n r s p = absurd (spelling-var n s (name_onto m r) (sym p))
ty-name_text (TyOp m NoTys) n r s p = (name-inj m n r s p).1
ty-name_text (TyOp m (MoreTys a ts)) n r s p =
    let c = cond-paren (is_fun m a ts) (ty_onto a (32 ∷ 45 ∷ 62 ∷ spaced_onto ts (41 ∷ r)))
    (name_onto m (32 ∷ ty_onto a (spaced_onto ts (41 ∷ r)))) in
    absurd (spelling-paren n s c.0 (sym p ∙ c.1))

-- the arrow's "-" begins no type
arrow-start : (t : Ty Name) (r x : List ℕ) → 32 ∷ 45 ∷ x ≡ 32 ∷ ty_onto t r → ⊥
arrow-start t r x p =
    let q : 45 ∷ x ≡ ty_onto t r = tail-same 32 32 _ _ p in
    let w : starts_type (45 ∷ x) ≡ true = subst (λ z. starts_type z ≡ true) (sym q) (starts-ty t r) in
    cc

-- the further bytes begin with no space
abbrev pub no_space : List ℕ → Bool
no_space [] = true
no_space (c ∷ cs) = cond (c == 32) false true

paren-tail : {x y : List ℕ} → 40 ∷ x ≡ 40 ∷ y → x ≡ y
paren-tail {x} {y} p = tail-same 40 40 x y p

is_fun-is : (n : Name) (a : Ty Name) (ts : Tys Name) → is_fun n a ts ≡ true → n ≡ names.arrow
is_fun-is n a ts h = go (as_fun_ty names (TyOp n (MoreTys a ts))) refl h
  where
    go : (o : Option (Ty Name × Ty Name)) → as_fun_ty names (TyOp n (MoreTys a ts)) ≡ o → is_some o ≡ true
        → n ≡ names.arrow
    go (Some p) e k = let w = as_fun_ty-some names tells_names (TyOp n (MoreTys a ts)) p.0 p.1 e in cc
    go None e k = cc

-- two operators with arguments
parens-inj : (n m : Name) (a b : Ty Name) (ts us : Tys Name) (r s : List ℕ)
    → ((x y : List ℕ) → ty_onto a x ≡ ty_onto b y → (a ≡ b) × (x ≡ y))
    → ((x y : List ℕ) → no_space x ≡ true → no_space y ≡ true → spaced_onto ts x ≡ spaced_onto us y
    → (ts ≡ us) × (x ≡ y))
    → ty_onto (TyOp n (MoreTys a ts)) r ≡ ty_onto (TyOp m (MoreTys b us)) s
    → (TyOp n (MoreTys a ts) ≡ TyOp m (MoreTys b us)) × (r ≡ s)
parens-inj n m a b ts us r s ha hs = go (is_fun n a ts) (is_fun m b us) refl refl where
  go : (e f : Bool) → is_fun n a ts ≡ e → is_fun m b us ≡ f
      → cond e (40 ∷ ty_onto a (32 ∷ 45 ∷ 62 ∷ spaced_onto ts (41 ∷ r)))
      (40 ∷ name_onto n (32 ∷ ty_onto a (spaced_onto ts (41 ∷ r))))
      ≡ cond f (40 ∷ ty_onto b (32 ∷ 45 ∷ 62 ∷ spaced_onto us (41 ∷ s)))
      (40 ∷ name_onto m (32 ∷ ty_onto b (spaced_onto us (41 ∷ s))))
      → (TyOp n (MoreTys a ts) ≡ TyOp m (MoreTys b us)) × (r ≡ s)
  go true true k l p =
      let x = ha _ _ (paren-tail p) in
      let y = hs (41 ∷ r) (41 ∷ s) refl refl (tail-same 62 62 _ _ (tail-same 45 45 _ _ (tail-same 32 32 _ _ x.1))) in
      let q : n ≡ m = is_fun-is n a ts k ∙ sym (is_fun-is m b us l) in
      (λ i. TyOp (q i) (MoreTys (x.0 i) (y.0 i)), tail-same 41 41 r s y.1)
  go true false k l p = absurd (arrow-start b _ _ (ty-name_text a m _ _ (paren-tail p)))
  go false true k l p = absurd (arrow-start a _ _ (ty-name_text b n _ _ (sym (paren-tail p))))
  go false false k l p =
      let q = name-inj n m _ _ (paren-tail p) in
      let x = ha _ _ (tail-same 32 32 _ _ q.1) in
      let y = hs (41 ∷ r) (41 ∷ s) refl refl x.1 in
      (λ i. TyOp (q.0 i) (MoreTys (x.0 i) (y.0 i)), tail-same 41 41 r s y.1)

mutual
  pub ty-inj : (t u : Ty Name) (r s : List ℕ) → ty_onto t r ≡ ty_onto u s → (t ≡ u) × (r ≡ s)
  ty-inj (TyVar n) (TyVar m) r s p = let e = name-inj n m r s (tail-same 39 39 _ _ p) in (ap TyVar e.0, e.1)
  ty-inj (TyVar n) (TyOp m NoTys) r s p = absurd (spelling-var m s _ (sym p))
  ty-inj (TyVar n) (TyOp m (MoreTys b us)) r s p =
      let c = cond-paren (is_fun m b us) (ty_onto b (32 ∷ 45 ∷ 62 ∷ spaced_onto us (41 ∷ s)))
      (name_onto m (32 ∷ ty_onto b (spaced_onto us (41 ∷ s)))) in
      absurd (apart 39 40 _ _ refl (p ∙ c.1))
  ty-inj (TyOp n NoTys) (TyVar m) r s p = absurd (spelling-var n r _ p)
  ty-inj (TyOp n NoTys) (TyOp m NoTys) r s p = let e = name-inj n m r s p in (ap (λ z. TyOp z NoTys) e.0, e.1)
  ty-inj (TyOp n NoTys) (TyOp m (MoreTys b us)) r s p =
      let c = cond-paren (is_fun m b us) (ty_onto b (32 ∷ 45 ∷ 62 ∷ spaced_onto us (41 ∷ s)))
      (name_onto m (32 ∷ ty_onto b (spaced_onto us (41 ∷ s)))) in
      absurd (spelling-paren n r c.0 (p ∙ c.1))
  ty-inj (TyOp n (MoreTys a ts)) (TyVar m) r s p =
      let c = cond-paren (is_fun n a ts) (ty_onto a (32 ∷ 45 ∷ 62 ∷ spaced_onto ts (41 ∷ r)))
      (name_onto n (32 ∷ ty_onto a (spaced_onto ts (41 ∷ r)))) in
      absurd (apart 39 40 _ _ refl (sym p ∙ c.1))
  ty-inj (TyOp n (MoreTys a ts)) (TyOp m NoTys) r s p =
      let c = cond-paren (is_fun n a ts) (ty_onto a (32 ∷ 45 ∷ 62 ∷ spaced_onto ts (41 ∷ r)))
      (name_onto n (32 ∷ ty_onto a (spaced_onto ts (41 ∷ r)))) in
      absurd (spelling-paren m s c.0 (sym p ∙ c.1))
  ty-inj (TyOp n (MoreTys a ts)) (TyOp m (MoreTys b us)) r s p =
      parens-inj n m a b ts us r s (ty-inj a b) (spaced-inj ts us) p

  pub spaced-inj : (ts us : Tys Name) (r s : List ℕ) → no_space r ≡ true → no_space s ≡ true
      → spaced_onto ts r ≡ spaced_onto us s → (ts ≡ us) × (r ≡ s)
  spaced-inj NoTys NoTys r s h k p = (refl, p)
  spaced-inj NoTys (MoreTys u us) r s h k p = let w : no_space (32 ∷ ty_onto u (spaced_onto us s)) ≡ true =
      subst (λ z. no_space z ≡ true) p h in cc
  spaced-inj (MoreTys t ts) NoTys r s h k p = let w : no_space (32 ∷ ty_onto t (spaced_onto ts r)) ≡ true =
      subst (λ z. no_space z ≡ true) (sym p) k in cc
  spaced-inj (MoreTys t ts) (MoreTys u us) r s h k p =
      let e = ty-inj t u (spaced_onto ts r) (spaced_onto us s) (tail-same 32 32 _ _ p) in
      let f = spaced-inj ts us r s h k e.1 in
      (λ i. MoreTys (e.0 i) (f.0 i), f.1)
