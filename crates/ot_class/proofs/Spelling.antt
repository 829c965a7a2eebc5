-- Classes over numbers of types, and what they stand for.
use Rattle.std.specs.List.{AllByRecursion}
use Rattle.std.specs.Bool.{Decides}
use Rattle.std.proofs.Common.{◌≡◌, ℕ, ◌<◌, ◌≤◌, List, [], ◌∷◌, map, length, refl, sym, ap, ◌∙◌, arith}
use Rattle.std.proofs.lemmas.Bool.Decides.{Decides-like, same_from_decides}
use Rattle.ot_logic.specs.Trees.{Ty, TyVar, Variable}
use Rattle.ot_logic.specs.Hol.{same_var}
use Rattle.ot_logic.specs.Naming.{numbers}
use Rattle.ot_logic.specs.Table.{Extends, IsInjective}
use Rattle.ot_logic.proofs.TableLemmas.{get_or-Extends, get_or-IsInjective}
use Rattle.ot_type.specs.TypeTable.{type_at}
use Rattle.ot_laws.proofs.Tests.{tells_numbers, same_var-is}
use Rattle.ot_shape.specs.Shape.{Shape, Hole, Constant, Apply, Bind, Class, joined, without, app_class, abs_class}
use Rattle.ot_shape.proofs.Alike.{AreAlike, IsTested, place-alike, places-alike, joined-alike, without-alike}
use Rattle.ot_lists.specs.Variables.{numbered}
use Rattle.ot_class.specs.Spelled.{IsNumbered, IsShapeOver, IsOver, spelled, spelled_ty, spelled_var, spelled_shape}

pub number : (n k : ℕ) → k < n → IsNumbered n (numbered k)
number n k h = record { number = k; below = h; is = refl }

number-more : (j k : ℕ) → j ≤ k → (t : Ty ℕ) → IsNumbered j t → IsNumbered k t
number-more j k le t h = record { number = h.number; below = omega (arith, le, h.below); is = h.is }

shape-more : (j k : ℕ) → j ≤ k → (s : Shape ℕ) → IsShapeOver j s → IsShapeOver k s
shape-more j k le Hole h = tt
shape-more j k le (Constant c t) h = number-more j k le t h
shape-more j k le (Apply f x m) h = (shape-more j k le f h.0, shape-more j k le x h.1)
shape-more j k le (Bind t i b) h = (number-more j k le t h.0, shape-more j k le b h.1)

frees-more : (j k : ℕ) → j ≤ k → (vs : List (Variable ℕ)) → AllByRecursion (λ v. IsNumbered j v.ty) vs
    → AllByRecursion (λ v. IsNumbered k v.ty) vs
frees-more j k le [] h = tt
frees-more j k le (v ∷ vs) h = (number-more j k le v.ty h.0, frees-more j k le vs h.1)

pub over-more : (j k : ℕ) → j ≤ k → (c : Class ℕ) → IsOver j c → IsOver k c
over-more j k le c h = record { shape = shape-more j k le c.shape h.shape; frees = frees-more j k le c.frees h.frees }

-- ---- more types change nothing
module _ (tys us : List (Ty ℕ)) (e : Extends tys us) where
  grown-ty : (t : Ty ℕ) → IsNumbered (length tys) t → spelled_ty us t ≡ spelled_ty tys t
  grown-ty t h =
      let same : type_at us h.number ≡ type_at tys h.number = get_or-Extends tys us e h.number (TyVar 0) h.below in
      ap (spelled_ty us) h.is ∙ same ∙ ap (spelled_ty tys) (sym h.is)

  grown-shape : (s : Shape ℕ) → IsShapeOver (length tys) s → spelled_shape us s ≡ spelled_shape tys s
  grown-shape Hole h = refl
  grown-shape (Constant c t) h = ap (Constant c) (grown-ty t h)
  grown-shape (Apply f x m) h = λ i. Apply (grown-shape f h.0 i) (grown-shape x h.1 i) m
  grown-shape (Bind t k b) h = λ i. Bind (grown-ty t h.0 i) k (grown-shape b h.1 i)

  grown-frees : (vs : List (Variable ℕ)) → AllByRecursion (λ v. IsNumbered (length tys) v.ty) vs
      → map (spelled_var us) vs ≡ map (spelled_var tys) vs
  grown-frees [] h = refl
  grown-frees (v ∷ vs) h = λ i. record { name = v.name; ty = grown-ty v.ty h.0 i } ∷ grown-frees vs h.1 i

  pub spelled-grown : (c : Class ℕ) → IsOver (length tys) c → spelled us c ≡ spelled tys c
  spelled-grown c h = λ i. record { shape = grown-shape c.shape h.shape i; frees = grown-frees c.frees h.frees i }

-- ---- each type has one number
module _ (tys : List (Ty ℕ)) (one : IsInjective tys) where
  one-ty : (s t : Ty ℕ) → IsNumbered (length tys) s → IsNumbered (length tys) t → spelled_ty tys s ≡ spelled_ty tys t
      → s ≡ t
  one-ty s t g h p =
      let trees : type_at tys g.number ≡ type_at tys h.number = ap (spelled_ty tys) (sym g.is) ∙ p
      ∙ ap (spelled_ty tys) h.is in
      g.is ∙ ap numbered (get_or-IsInjective tys one g.number h.number (TyVar 0) g.below h.below trees) ∙ sym h.is

  one-var : (v w : Variable ℕ) → IsNumbered (length tys) v.ty → IsNumbered (length tys) w.ty
      → spelled_var tys v ≡ spelled_var tys w → v ≡ w
  one-var v w g h p =
      let ty = one-ty v.ty w.ty g h (ap (λ (x : Variable ℕ). x.ty) p) in
      let name : v.name ≡ w.name = ap (λ (x : Variable ℕ). x.name) p in
      λ i. record { name = name i; ty = ty i }

  one-shape : (s t : Shape ℕ) → IsShapeOver (length tys) s → IsShapeOver (length tys) t
      → spelled_shape tys s ≡ spelled_shape tys t → s ≡ t
  one-shape Hole Hole a b p = refl
  one-shape (Constant c t) (Constant d u) a b p =
      let name : c ≡ d = cc in
      let same : spelled_ty tys t ≡ spelled_ty tys u = cc in
      let ty = one-ty t u a b same in
      λ i. Constant (name i) (ty i)
  one-shape (Apply f x m) (Apply g y n) a b p =
      let left : spelled_shape tys f ≡ spelled_shape tys g = cc in
      let right : spelled_shape tys x ≡ spelled_shape tys y = cc in
      let places : m ≡ n = cc in
      let l = one-shape f g a.0 b.0 left in
      let r = one-shape x y a.1 b.1 right in
      λ i. Apply (l i) (r i) (places i)
  one-shape (Bind t k c) (Bind u j d) a b p =
      let same : spelled_ty tys t ≡ spelled_ty tys u = cc in
      let hole : k ≡ j = cc in
      let body : spelled_shape tys c ≡ spelled_shape tys d = cc in
      let ty = one-ty t u a.0 b.0 same in
      let inner = one-shape c d a.1 b.1 body in
      λ i. Bind (ty i) (hole i) (inner i)
  one-shape _ _ a b p = cc

  one-frees : (vs ws : List (Variable ℕ)) → AllByRecursion (λ v. IsNumbered (length tys) v.ty) vs
      → AllByRecursion (λ v. IsNumbered (length tys) v.ty) ws → map (spelled_var tys) vs ≡ map (spelled_var tys) ws
      → vs ≡ ws
  one-frees [] [] a b p = refl
  one-frees [] (w ∷ ws) a b p = cc
  one-frees (v ∷ vs) [] a b p = cc
  one-frees (v ∷ vs) (w ∷ ws) a b p =
      let heads : spelled_var tys v ≡ spelled_var tys w = cc in
      let tails : map (spelled_var tys) vs ≡ map (spelled_var tys) ws = cc in
      let first = one-var v w a.0 b.0 heads in
      let rest = one-frees vs ws a.1 b.1 tails in
      λ i. first i ∷ rest i

  -- so two classes that stand for one are one
  pub spelled-one : (c d : Class ℕ) → IsOver (length tys) c → IsOver (length tys) d → spelled tys c ≡ spelled tys d
      → c ≡ d
  spelled-one c d a b p =
      let shape = one-shape c.shape d.shape a.shape b.shape (ap (λ (k : Class ℕ). k.shape) p) in
      let frees = one-frees c.frees d.frees a.frees b.frees (ap (λ (k : Class ℕ). k.frees) p) in
      λ i. record { shape = shape i; frees = frees i }

  -- a variable over numbers, and what it stands for
  pub record Stands (v w : Variable ℕ) : Type 0 where
    pub over : IsNumbered (length tys) v.ty
    pub is : spelled_var tys v ≡ w

  stands-tested : IsTested numbers numbers Stands
  stands-tested v x w y r s =
      same_from_decides (same_var numbers v x) (same_var numbers w y) (same_var-is numbers tells_numbers v x)
      (Decides-like (same_var numbers w y) (λ p. one-var v x r.over s.over (r.is ∙ p ∙ sym s.is))
      (λ p. sym r.is ∙ ap (spelled_var tys) p ∙ s.is) (same_var-is numbers tells_numbers w y))

  stand : (vs : List (Variable ℕ)) → AllByRecursion (λ v. IsNumbered (length tys) v.ty) vs
      → AreAlike numbers numbers Stands vs (map (spelled_var tys) vs)
  stand [] h = tt
  stand (v ∷ vs) h = (record { over = h.0; is = refl }, stand vs h.1)

  stand-over : (vs ws : List (Variable ℕ)) → AreAlike numbers numbers Stands vs ws
      → AllByRecursion (λ v. IsNumbered (length tys) v.ty) vs
  stand-over [] [] h = tt
  stand-over [] (w ∷ ws) h = absurd h
  stand-over (v ∷ vs) [] h = absurd h
  stand-over (v ∷ vs) (w ∷ ws) h = (h.0.over, stand-over vs ws h.1)

  stand-same : (vs ws : List (Variable ℕ)) → AreAlike numbers numbers Stands vs ws → map (spelled_var tys) vs ≡ ws
  stand-same [] [] h = refl
  stand-same [] (w ∷ ws) h = absurd h
  stand-same (v ∷ vs) [] h = absurd h
  stand-same (v ∷ vs) (w ∷ ws) h = λ i. h.0.is i ∷ stand-same vs ws h.1 i

  module _ (f x : Class ℕ) (g : IsOver (length tys) f) (h : IsOver (length tys) x) where
    both : AreAlike numbers numbers Stands (joined numbers f.frees x.frees)
        (joined numbers (map (spelled_var tys) f.frees) (map (spelled_var tys) x.frees))
    both = joined-alike numbers numbers Stands stands-tested f.frees (map (spelled_var tys) f.frees)
        (stand f.frees g.frees) x.frees (map (spelled_var tys) x.frees) (stand x.frees h.frees)

    pub over-app : IsOver (length tys) (app_class numbers f x)
    over-app = record { shape = (g.shape, h.shape); frees = stand-over _ _ both }

    -- a class is made before or after its types are put in
    pub spelled-app : spelled tys (app_class numbers f x) ≡ app_class numbers (spelled tys f) (spelled tys x)
    spelled-app =
        let places = places-alike numbers numbers Stands stands-tested f.frees (map (spelled_var tys) f.frees)
        (stand f.frees g.frees) x.frees (map (spelled_var tys) x.frees) (stand x.frees h.frees) in
        let frees = stand-same _ _ both in
        λ i. record {
          shape = Apply (spelled_shape tys f.shape) (spelled_shape tys x.shape) (places i);
          frees = frees i;
        }

  module _ (v : Variable ℕ) (n : IsNumbered (length tys) v.ty) (b : Class ℕ) (h : IsOver (length tys) b) where
    abbrev stands : Stands v (spelled_var tys v)
    stands = record { over = n; is = refl }

    rest : AreAlike numbers numbers Stands (without numbers v b.frees)
        (without numbers (spelled_var tys v) (map (spelled_var tys) b.frees))
    rest = without-alike numbers numbers Stands stands-tested Stands v (spelled_var tys v) stands (λ x y r p q. r)
        b.frees (map (spelled_var tys) b.frees) (stand b.frees h.frees)

    pub over-abs : IsOver (length tys) (abs_class numbers v b)
    over-abs = record { shape = (n, h.shape); frees = stand-over _ _ rest }

    pub spelled-abs : spelled tys (abs_class numbers v b) ≡ abs_class numbers (spelled_var tys v) (spelled tys b)
    spelled-abs =
        let hole = place-alike numbers numbers Stands stands-tested b.frees (map (spelled_var tys) b.frees)
        (stand b.frees h.frees) v (spelled_var tys v) stands in
        let frees = stand-same _ _ rest in
        λ i. record { shape = Bind (spelled_ty tys v.ty) (hole i) (spelled_shape tys b.shape); frees = frees i }
