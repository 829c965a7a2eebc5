-- Lemmas on the variables of a type.
use Rattle.std.proofs.Common.{◌≡◌, ℕ, ◌+◌, ◌<◌, inl, inr, List, [], ◌∷◌, ◌++◌, length}
use Rattle.std.proofs.Common.{get_or, take, refl, sym, ap, subst, ◌∙◌, arith, append_assoc}
use Rattle.std.proofs.lemmas.List.{append-nil}
use Rattle.std.proofs.lemmas.List.{take_more}
use Rattle.ot_logic.specs.Lists.{IsMember, IsSameSet, AreDistinct}
use Rattle.ot_logic.specs.Trees.{Ty, Tys, TyVar, TyOp, NoTys, MoreTys}
use Rattle.ot_logic.specs.Hol.{vars_ty, vars_all}
use Rattle.ot_logic.specs.Naming.{numbers}
use Rattle.ot_logic.specs.Table.{IsInjective}
use Rattle.ot_logic.proofs.TableLemmas.{get_or-IsInjective}
use Rattle.ot_type.specs.TypeTable.{type_at}
use Rattle.ot_type.specs.Subtypes.{IsSubtype, IsInside, IsFalling, AreSubtypes}
use Rattle.ot_logic.proofs.Members.{IsMember-cases, IsMember-left, IsMember-right}

-- the name of a type variable
abbrev pub name_of : Ty ℕ → List ℕ
name_of (TyVar n) = n ∷ []
name_of (TyOp n ts) = []

-- the names of the type variables among numbers
abbrev pub names_of : List (Ty ℕ) → List ℕ → List ℕ
names_of ts [] = []
names_of ts (x ∷ xs) = name_of (type_at ts x) ++ names_of ts xs

names_of-push : (ts : List (Ty ℕ)) (xs : List ℕ) (x : ℕ) → names_of ts (xs ++ x ∷ []) ≡ names_of ts xs
    ++ name_of (type_at ts x)
names_of-push ts [] x = append-nil (name_of (type_at ts x))
names_of-push ts (y ∷ xs) x = ap (λ l. name_of (type_at ts y) ++ l) (names_of-push ts xs x)
    ∙ sym (append_assoc (name_of (type_at ts y)) (names_of ts xs) (name_of (type_at ts x)))

-- one more number
pub names_more : (ts : List (Ty ℕ)) (xs : List ℕ) (i x : ℕ) → i < length xs → x ≡ get_or xs i x
    → names_of ts (take (i + 1) xs) ≡ names_of ts (take i xs) ++ name_of (type_at ts x)
names_more ts xs i x within item =
    ap (names_of ts) (take_more xs i x within ∙ ap (λ y. take i xs ++ y ∷ []) (sym item))
    ∙ names_of-push ts (take i xs) x

-- ---- the variables of a type are its subtypes that are variables
mutual
  var_to : (n : ℕ) (t : Ty ℕ) → IsMember n (vars_ty numbers t) → IsSubtype (TyVar n) t
  var_to n (TyVar m) h = elim h [ inl e ↦ ap TyVar (sym e) | inr never ↦ absurd never ]
  var_to n (TyOp m ts) h = inr (vars_to n ts h)

  vars_to : (n : ℕ) (ts : Tys ℕ) → IsMember n (vars_all numbers ts) → IsInside (TyVar n) ts
  vars_to n NoTys h = absurd h
  vars_to n (MoreTys t ts) h = elim (IsMember-cases n (vars_ty numbers t) (vars_all numbers ts) h)
      [ inl a ↦ inl (var_to n t a) | inr b ↦ inr (vars_to n ts b) ]

mutual
  var_from : (n : ℕ) (t : Ty ℕ) → IsSubtype (TyVar n) t → IsMember n (vars_ty numbers t)
  var_from n (TyVar m) h = let e : m ≡ n = cc in inl e
  var_from n (TyOp m ts) (inl h) = cc
  var_from n (TyOp m ts) (inr h) = vars_from n ts h

  vars_from : (n : ℕ) (ts : Tys ℕ) → IsInside (TyVar n) ts → IsMember n (vars_all numbers ts)
  vars_from n NoTys h = absurd h
  vars_from n (MoreTys t ts) (inl h) = IsMember-left n (vars_ty numbers t) (vars_all numbers ts) (var_from n t h)
  vars_from n (MoreTys t ts) (inr h) = IsMember-right n (vars_ty numbers t) (vars_all numbers ts) (vars_from n ts h)

-- ---- the names among numbers
name_to : (n : ℕ) (t : Ty ℕ) → IsMember n (name_of t) → t ≡ TyVar n
name_to n (TyVar m) h = elim h [ inl e ↦ ap TyVar e | inr never ↦ absurd never ]
name_to n (TyOp m ts) h = absurd h

names_to : (ts : List (Ty ℕ)) (n : ℕ) (xs : List ℕ) → IsMember n (names_of ts xs) → (x : ℕ) × IsMember x xs
    × (type_at ts x ≡ TyVar n)
names_to ts n [] h = absurd h
names_to ts n (x ∷ xs) h = elim (IsMember-cases n (name_of (type_at ts x)) (names_of ts xs) h) [
  | inl a ↦ (x, inl refl, name_to n (type_at ts x) a)
  | inr b ↦ let rest = names_to ts n xs b in (rest.0, inr rest.1, rest.2)
]

names_from : (ts : List (Ty ℕ)) (n x : ℕ) (xs : List ℕ) → IsMember x xs → type_at ts x ≡ TyVar n
    → IsMember n (names_of ts xs)
names_from ts n x [] h p = absurd h
names_from ts n x (y ∷ xs) (inl e) p = IsMember-left n (name_of (type_at ts y)) (names_of ts xs)
    (subst (λ t. IsMember n (name_of t)) (sym (ap (type_at ts) e ∙ p)) (inl refl))
names_from ts n x (y ∷ xs) (inr h) p =
    IsMember-right n (name_of (type_at ts y)) (names_of ts xs) (names_from ts n x xs h p)

pub names_same : (ts : List (Ty ℕ)) (t : Ty ℕ) (xs : List ℕ) → AreSubtypes ts t xs
    → IsSameSet (names_of ts xs) (vars_ty numbers t)
names_same ts t xs parts = record {
  to = λ n h. let at = names_to ts n xs h in var_from n t (subst (λ u. IsSubtype u t) at.2 (parts.each at.0 at.1).1);
  back = λ n h. let at = parts.all (TyVar n) (var_to n t h) in names_from ts n at.0 xs at.1 at.2;
}

-- each name once, since each number stands for a type of its own
pub names_distinct : (ts : List (Ty ℕ)) → IsInjective ts → (xs : List ℕ) → ((x : ℕ) → IsMember x xs → x < length ts)
    → IsFalling xs → AreDistinct (names_of ts xs)
names_distinct ts one [] within falling = tt
names_distinct ts one (x ∷ xs) within falling =
    by (type_at ts x) refl (names_distinct ts one xs (λ y m. within y (inr m)) falling.1)
  where
    by : (t : Ty ℕ) → type_at ts x ≡ t → AreDistinct (names_of ts xs) → AreDistinct (name_of t ++ names_of ts xs)
    by (TyVar n) root rest = (
      λ h. let at = names_to ts n xs h in
          let lower : at.0 < x = falling.0 at.0 at.1 in
          let same : at.0 ≡ x = get_or-IsInjective ts one at.0 x (TyVar 0) (within at.0 (inr at.1))
          (within x (inl refl)) (at.2 ∙ sym root) in
          omega (arith, lower, same),
      rest,
    )
    by (TyOp n us) root rest = rest
