-- Two alphabets that an equivalence of their names makes one: a line of types from the one to the other.
use Rattle.std.specs.Prelude.{◌≡◌, List, [], ◌∷◌, map, Option, Some, None}
use Rattle.std.specs.Option.{option_map}
use mathlib.Core.Path.{PathP, from_path_p}
use Rattle.std.proofs.Common.{sym, ◌∙◌}
use Rattle.ot_logic.specs.Trees.{Alphabet, Ty, Tys, TyVar, TyOp, NoTys, MoreTys, Variable, Tm, Free, Con, Bound, App}
use Rattle.ot_logic.specs.Trees.{Abs, Named, NVar, NConst, NApp, NAbs, Sequent}
use Rattle.ot_logic.specs.Renamed.{map_ty, map_tys, map_variable, map_tm, map_named, map_sequent}

-- the function takes the test and the primitive names to those of the other alphabet
pub record IsLettering {M N : Type 0} (f : M → N) (a : Alphabet M) (b : Alphabet N) : Type 0 where
  pub same : (x y : M) → a.same x y ≡ b.same (f x) (f y)
  pub arrow : f a.arrow ≡ b.arrow
  pub bool_name : f a.bool_name ≡ b.bool_name
  pub equals : f a.equals ≡ b.equals

-- what stands at the end of a line is one
pub one_end : (L : 𝕀 → Type 0) {x : L 0} {y z : L 1} → PathP L x y → PathP L x z → y ≡ z
one_end L p q = sym (from_path_p L p) ∙ from_path_p L q

pub over_option : (T : 𝕀 → Type 0) (g : T 0 → T 1) → ((x : T 0) → PathP T x (g x)) → (o : Option (T 0))
    → PathP (λ i. Option (T i)) o (option_map g o)
over_option T g h None = λ i. None
over_option T g h (Some x) = λ i. Some (h x i)

pub over_list : (T : 𝕀 → Type 0) (g : T 0 → T 1) → ((x : T 0) → PathP T x (g x)) → (xs : List (T 0))
    → PathP (λ i. List (T i)) xs (map g xs)
over_list T g h [] = λ i. []
over_list T g h (x ∷ xs) = λ i. h x i ∷ over_list T g h xs i

module _ {M N : Type 0} (e : Equiv M N) where
  -- the line from M to N
  abbrev pub Line : 𝕀 → Type 0
  Line i = V i M N e

  pub letters : (a : Alphabet M) (b : Alphabet N) → IsLettering e.0 a b → PathP (λ i. Alphabet (Line i)) a b
  letters a b k = λ i. record {
    same = λ x y. hcom 1 0 (b.same (vproj i x e) (vproj i y e)) [ i = 0 ↦ j. k.same x y j | i = 1 ↦ _. b.same x y ];
    arrow = vin i a.arrow (k.arrow i);
    bool_name = vin i a.bool_name (k.bool_name i);
    equals = vin i a.equals (k.equals i);
  }

  -- each tree is joined to its renamed tree over the line
  pub over_name : (n : M) → PathP (λ i. Line i) n (e.0 n)
  over_name n = λ i. vin i n (e.0 n)

  mutual
    pub over_ty : (t : Ty M) → PathP (λ i. Ty (Line i)) t (map_ty e.0 t)
    over_ty (TyVar n) = λ i. TyVar (over_name n i)
    over_ty (TyOp n ts) = λ i. TyOp (over_name n i) (over_tys ts i)

    pub over_tys : (ts : Tys M) → PathP (λ i. Tys (Line i)) ts (map_tys e.0 ts)
    over_tys NoTys = λ i. NoTys
    over_tys (MoreTys t ts) = λ i. MoreTys (over_ty t i) (over_tys ts i)

  pub over_variable : (v : Variable M) → PathP (λ i. Variable (Line i)) v (map_variable e.0 v)
  over_variable v = λ i. record { name = over_name v.name i; ty = over_ty v.ty i }

  pub over_tm : (t : Tm M) → PathP (λ i. Tm (Line i)) t (map_tm e.0 t)
  over_tm (Free v) = λ i. Free (over_variable v i)
  over_tm (Con n t) = λ i. Con (over_name n i) (over_ty t i)
  over_tm (Bound k) = λ i. Bound k
  over_tm (App f x) = λ i. App (over_tm f i) (over_tm x i)
  over_tm (Abs t b) = λ i. Abs (over_ty t i) (over_tm b i)

  pub over_named : (t : Named M) → PathP (λ i. Named (Line i)) t (map_named e.0 t)
  over_named (NVar v) = λ i. NVar (over_variable v i)
  over_named (NConst n t) = λ i. NConst (over_name n i) (over_ty t i)
  over_named (NApp f x) = λ i. NApp (over_named f i) (over_named x i)
  over_named (NAbs v b) = λ i. NAbs (over_variable v i) (over_named b i)

  pub over_sequent : (q : Sequent M) → PathP (λ i. Sequent (Line i)) q (map_sequent e.0 q)
  over_sequent q =
      λ i. record { hyps = over_list (λ i. Tm (Line i)) (map_tm e.0) over_tm q.hyps i; concl = over_tm q.concl i }
