-- How deep terms nest, and what an equation adds.
use Rattle.std.specs.Prelude.{nat_le}
use Rattle.std.proofs.Common.{◌≡◌, ℕ, ◌+◌, ◌≤◌, true, ◌&&◌, List, [], ◌∷◌}
use Rattle.std.proofs.Common.{Option, Some, None, refl, sym, subst, arith}
use Rattle.std.proofs.lemmas.Bool.{and_parts}
use Rattle.ot_logic.specs.Trees.{Alphabet, Ty, Tm, Free, Con, Bound, App, Abs}
use Rattle.ot_logic.specs.Hol.{depth_limit, depth_ty, depth_tm, fun_ty, bool_ty, type_in}
use Rattle.ot_logic.specs.Hol.{HasType, equation, is_shallow_type, has_shallow_types, is_shallow}
use Rattle.ot_laws.proofs.Tests.{Tells}
use Rattle.ot_laws.proofs.Typing.{app-typed}
use Rattle.ot_laws.proofs.Equations.{equation-typed}
use Rattle.ot_log_format.specs.Steps.{log_depth, is_within_type, has_types_within, is_within}

module _ {N : Type 0} (alphabet : Alphabet N) where
  -- the type, where there is one, is no deeper than n
  abbrev pub FitsType : ℕ → Option (Ty N) → Type 0
  FitsType n None = Unit {0}
  FitsType n (Some t) = depth_ty alphabet t ≤ n

  -- so is the type of each subterm
  abbrev pub HasTypesTo : ℕ → List (Ty N) → Tm N → Type 0
  HasTypesTo n l (App f x) = FitsType n (type_in alphabet l (App f x)) × HasTypesTo n l f × HasTypesTo n l x
  HasTypesTo n l (Abs t b) = FitsType n (type_in alphabet l (Abs t b)) × HasTypesTo n (t ∷ l) b
  HasTypesTo n l t = FitsType n (type_in alphabet l t)

  pub record Fits (n : ℕ) (t : Tm N) : Type 0 where
    pub depth : depth_tm alphabet t ≤ n
    pub types : HasTypesTo n [] t

  below : (m n : ℕ) → nat_le m n ≡ true → m ≤ n
  below m n h = grind arith

  passes : (m n : ℕ) → m ≤ n → nat_le m n ≡ true
  passes m n h = grind arith

  -- ---- from the run's limit
  shallow-type : (o : Option (Ty N)) → is_shallow_type alphabet o ≡ true → FitsType depth_limit o
  shallow-type None h = tt
  shallow-type (Some t) h = below (depth_ty alphabet t) depth_limit h

  shallow-types : (l : List (Ty N)) (t : Tm N) → has_shallow_types alphabet l t ≡ true → HasTypesTo depth_limit l t
  shallow-types l (Free v) h = shallow-type (type_in alphabet l (Free v)) h
  shallow-types l (Con c t) h = shallow-type (type_in alphabet l (Con c t)) h
  shallow-types l (Bound k) h = shallow-type (type_in alphabet l (Bound k)) h
  shallow-types l (App f x) h =
      let p = and_parts (is_shallow_type alphabet (type_in alphabet l (App f x)))
      (has_shallow_types alphabet l f && has_shallow_types alphabet l x) h in
      let q = and_parts (has_shallow_types alphabet l f) (has_shallow_types alphabet l x) p.1 in
      (shallow-type (type_in alphabet l (App f x)) p.0, shallow-types l f q.0, shallow-types l x q.1)
  shallow-types l (Abs t b) h =
      let p = and_parts (is_shallow_type alphabet (type_in alphabet l (Abs t b)))
      (has_shallow_types alphabet (t ∷ l) b) h in
      (shallow-type (type_in alphabet l (Abs t b)) p.0, shallow-types (t ∷ l) b p.1)

  pub fits-shallow : (t : Tm N) → is_shallow alphabet t ≡ true → Fits depth_limit t
  fits-shallow t h =
      let p = and_parts (nat_le (depth_tm alphabet t) depth_limit) (has_shallow_types alphabet [] t) h in
      record { depth = below (depth_tm alphabet t) depth_limit p.0; types = shallow-types [] t p.1 }

  -- ---- to the log's
  within-type : (n : ℕ) → n ≤ log_depth → (o : Option (Ty N)) → FitsType n o → is_within_type alphabet o ≡ true
  within-type n b None h = refl
  within-type n b (Some t) h = passes (depth_ty alphabet t) log_depth (omega arith)

  within-types : (n : ℕ) → n ≤ log_depth → (l : List (Ty N)) (t : Tm N) → HasTypesTo n l t
      → has_types_within alphabet l t ≡ true
  within-types n b l (Free v) h = within-type n b (type_in alphabet l (Free v)) h
  within-types n b l (Con c t) h = within-type n b (type_in alphabet l (Con c t)) h
  within-types n b l (Bound k) h = within-type n b (type_in alphabet l (Bound k)) h
  within-types n b l (App f x) h =
      λ i. within-type n b (type_in alphabet l (App f x)) h.0 i
      && (within-types n b l f h.1 i && within-types n b l x h.2 i)
  within-types n b l (Abs t u) h = λ i. within-type n b (type_in alphabet l (Abs t u)) h.0 i
      && within-types n b (t ∷ l) u h.1 i

  pub within-fits : (n : ℕ) → n ≤ log_depth → (t : Tm N) → Fits n t → is_within alphabet t ≡ true
  within-fits n b t h = λ i. passes (depth_tm alphabet t) log_depth (omega (arith, h.depth)) i
      && within-types n b [] t h.types i

  -- ---- more room
  more-type : (m n : ℕ) → m ≤ n → (o : Option (Ty N)) → FitsType m o → FitsType n o
  more-type m n b None h = tt
  more-type m n b (Some t) h = omega arith

  more-types : (m n : ℕ) → m ≤ n → (l : List (Ty N)) (t : Tm N) → HasTypesTo m l t → HasTypesTo n l t
  more-types m n b l (Free v) h = more-type m n b (type_in alphabet l (Free v)) h
  more-types m n b l (Con c t) h = more-type m n b (type_in alphabet l (Con c t)) h
  more-types m n b l (Bound k) h = more-type m n b (type_in alphabet l (Bound k)) h
  more-types m n b l (App f x) h = (
    more-type m n b (type_in alphabet l (App f x)) h.0,
    more-types m n b l f h.1,
    more-types m n b l x h.2,
  )
  more-types m n b l (Abs t u) h =
      (more-type m n b (type_in alphabet l (Abs t u)) h.0, more-types m n b (t ∷ l) u h.1)

  pub fits-more : (m n : ℕ) → m ≤ n → (t : Tm N) → Fits m t → Fits n t
  fits-more m n b t h = record { depth = omega (arith, h.depth); types = more-types m n b [] t h.types }

-- the constant `=` at a type
abbrev eq_at : {N : Type 0} → Alphabet N → Ty N → Tm N
eq_at alphabet ty = Con alphabet.equals (fun_ty alphabet ty (fun_ty alphabet ty (bool_ty alphabet)))

module _ {N : Type 0} (alphabet : Alphabet N) (tells : Tells alphabet) where
  at-type : (n : ℕ) (o : Option (Ty N)) (t : Ty N) → o ≡ Some t → depth_ty alphabet t ≤ n → FitsType alphabet n o
  at-type n o t e h = subst (FitsType alphabet n) (sym e) h

  -- `=` applied to a term of its type
  applied-types : (n : ℕ) (ty : Ty N) (a : Tm N) → HasType alphabet a ty → depth_ty alphabet ty + 2 ≤ n → 3 ≤ n
      → HasTypesTo alphabet n [] a → HasTypesTo alphabet n [] (App (eq_at alphabet ty) a)
  applied-types n ty a w d m h = (
    at-type n (type_in alphabet [] (App (eq_at alphabet ty) a)) (fun_ty alphabet ty (bool_ty alphabet))
        (app-typed alphabet tells [] (eq_at alphabet ty) a ty (fun_ty alphabet ty (bool_ty alphabet)) refl w)
        (omega arith),
    omega arith,
    h,
  )

  pub applied-fits : (n : ℕ) (ty : Ty N) (a : Tm N) → HasType alphabet a ty → depth_tm alphabet a + 1 ≤ n
      → depth_ty alphabet ty + 2 ≤ n → 3 ≤ n → HasTypesTo alphabet n [] a
      → Fits alphabet n (App (eq_at alphabet ty) a)
  applied-fits n ty a w k d m h = record { depth = omega arith; types = applied-types n ty a w d m h }

  -- an equation is as deep as its sides want
  pub equation-fits : (n : ℕ) (ty : Ty N) (a b : Tm N) → HasType alphabet a ty → HasType alphabet b ty
      → depth_tm alphabet a + 2 ≤ n → depth_tm alphabet b + 1 ≤ n → depth_ty alphabet ty + 2 ≤ n → 3 ≤ n
      → HasTypesTo alphabet n [] a → HasTypesTo alphabet n [] b → Fits alphabet n (equation alphabet ty a b)
  equation-fits n ty a b v w j k d m g h = record {
    depth = omega arith;
    types = (
      at-type n (type_in alphabet [] (equation alphabet ty a b)) (bool_ty alphabet)
          (equation-typed alphabet tells [] ty a b v w) (omega arith),
      applied-types n ty a v d m g,
      h,
    );
  }

  -- an equation of terms within a limit passes it by 2 at most
  pub equation-passes : (n : ℕ) (ty : Ty N) (a b : Tm N) → HasType alphabet a ty → HasType alphabet b ty
      → depth_ty alphabet ty ≤ n → 1 ≤ n → Fits alphabet n a → Fits alphabet n b
      → Fits alphabet (n + 2) (equation alphabet ty a b)
  equation-passes n ty a b v w d m f g =
      equation-fits (n + 2) ty a b v w (omega (arith, f.depth)) (omega (arith, g.depth)) (omega arith) (omega arith)
      (more-types alphabet n (n + 2) (omega arith) [] a f.types)
      (more-types alphabet n (n + 2) (omega arith) [] b g.types)

  -- what a limit says of the sides of an equation
  pub record Sides (n : ℕ) (ty : Ty N) (a b : Tm N) : Type 0 where
    pub left_depth : depth_tm alphabet a + 2 ≤ n
    pub right_depth : depth_tm alphabet b + 1 ≤ n
    pub type_depth : depth_ty alphabet ty + 2 ≤ n
    pub left : HasTypesTo alphabet n [] a
    pub right : HasTypesTo alphabet n [] b
    pub least : 3 ≤ n

  pub sides-fit : (n : ℕ) (ty : Ty N) (a b : Tm N) → Fits alphabet n (equation alphabet ty a b) → Sides n ty a b
  sides-fit n ty a b h = record {
    left_depth = omega (arith, h.depth);
    right_depth = omega (arith, h.depth);
    type_depth = omega (arith, h.types.1.1);
    left = h.types.1.2;
    right = h.types.2;
    least = omega (arith, h.depth);
  }

  -- ---- the records of the words that stand for several: each passes the limit by 2 at most
  pub sym-fits : (n : ℕ) (ty : Ty N) (t u : Tm N) → HasType alphabet t ty → HasType alphabet u ty
      → Fits alphabet n (equation alphabet ty t u) → Fits alphabet n (equation alphabet ty u t)
      → Fits alphabet (n + 2)
      (equation alphabet (fun_ty alphabet ty (fun_ty alphabet ty (bool_ty alphabet))) (eq_at alphabet ty)
      (eq_at alphabet ty))
      × Fits alphabet (n + 2) (equation alphabet (fun_ty alphabet ty (bool_ty alphabet))
      (App (eq_at alphabet ty) t) (App (eq_at alphabet ty) u))
      × Fits alphabet (n + 2) (equation alphabet ty t t)
      × Fits alphabet (n + 2)
      (equation alphabet (bool_ty alphabet) (equation alphabet ty t t) (equation alphabet ty u t))
  sym-fits n ty t u v w h k =
      let s = sides-fit n ty t u h in
      let m = s.least in
      let d = s.type_depth in
      let eq : Fits alphabet n (eq_at alphabet ty) = record { depth = omega arith; types = omega arith } in
      let left = applied-fits n ty t v (omega (arith, s.left_depth)) d m s.left in
      let right = applied-fits n ty u w s.right_depth d m s.right in
      let own : Fits alphabet n t = record { depth = omega (arith, s.left_depth); types = s.left } in
      let twice = equation-fits n ty t t v v s.left_depth (omega (arith, s.left_depth)) d m s.left s.left in
      let fun = fun_ty alphabet ty (bool_ty alphabet) in (
        equation-passes n (fun_ty alphabet ty fun) (eq_at alphabet ty)
            (eq_at alphabet ty) refl refl (omega arith) (omega arith) eq eq,
        equation-passes n fun (App (eq_at alphabet ty) t) (App (eq_at alphabet ty) u)
            (app-typed alphabet tells [] (eq_at alphabet ty) t ty fun refl v)
            (app-typed alphabet tells [] (eq_at alphabet ty) u ty fun refl w) (omega arith) (omega arith) left right,
        equation-passes n ty t t v v (omega arith) (omega arith) own own,
        equation-passes n (bool_ty alphabet) (equation alphabet ty t t)
            (equation alphabet ty u t) (equation-typed alphabet tells [] ty t t v v)
            (equation-typed alphabet tells [] ty u t w v) (omega arith) (omega arith) twice k,
      )

  pub chain-fits : (n : ℕ) (ty : Ty N) (a b d : Tm N) → HasType alphabet a ty → HasType alphabet b ty
      → HasType alphabet d ty
      → Fits alphabet n (equation alphabet ty a b) → Fits alphabet n (equation alphabet ty b d)
      → Fits alphabet (n + 2) (equation alphabet (fun_ty alphabet ty (bool_ty alphabet))
      (App (eq_at alphabet ty) a) (App (eq_at alphabet ty) a))
      × Fits alphabet (n + 2)
      (equation alphabet (bool_ty alphabet) (equation alphabet ty a b) (equation alphabet ty a d))
      × Fits alphabet n (equation alphabet ty a d)
  chain-fits n ty a b d u v w h k =
      let s = sides-fit n ty a b h in
      let r = sides-fit n ty b d k in
      let m = s.least in
      let fun = fun_ty alphabet ty (bool_ty alphabet) in
      let left = applied-fits n ty a u (omega (arith, s.left_depth)) s.type_depth m s.left in
      let made = equation-fits n ty a d u w s.left_depth r.right_depth s.type_depth m s.left r.right in
      let typed = app-typed alphabet tells [] (eq_at alphabet ty) a ty fun refl u in (
        equation-passes n fun (App (eq_at alphabet ty) a) (App (eq_at alphabet ty) a)
            typed typed (omega (arith, s.type_depth)) (omega arith) left left,
        equation-passes n (bool_ty alphabet) (equation alphabet ty a b)
            (equation alphabet ty a d) (equation-typed alphabet tells [] ty a b u v)
            (equation-typed alphabet tells [] ty a d u w) (omega arith) (omega arith) h made,
        made,
      )

  pub discharge-fits : (n : ℕ) (a b : Tm N) → HasType alphabet a (bool_ty alphabet)
      → HasType alphabet b (bool_ty alphabet)
      → 1 ≤ n → Fits alphabet n a → Fits alphabet n b
      → Fits alphabet (n + 2) (equation alphabet (bool_ty alphabet) a b)
  discharge-fits n a b v w m f g = equation-passes n (bool_ty alphabet) a b v w (omega arith) m f g
