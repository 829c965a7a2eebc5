-- Maps with a pair more, by look-up, and what the matcher's steps give.
use Rattle.std.specs.Prelude.{◌↔◌, is_some, Result, Ok, Err, IfOk}
use Rattle.std.specs.List.{All}
use Rattle.std.specs.Map.{lookup}
use Rattle.std.specs.Option.{option_map}
use Rattle.std.proofs.Common.{◌≡◌, ℕ, suc, ◌+◌, Bool, true, false, cond, List, [], ◌∷◌}
use Rattle.std.proofs.Common.{◌++◌, length, map, Option}
use Rattle.std.proofs.Common.{Some, None, inl, inr, refl, sym, ap, subst, ◌∙◌}
use Rattle.std.proofs.lemmas.Bool.{cases_Bool}
use Rattle.std.proofs.lemmas.List.Elements.{All-head, All-tail}
use Rattle.std.proofs.lemmas.Option.{same_Some}
use Rattle.ot_logic.specs.Lists.{IsMember}
use Rattle.ot_logic.specs.Names.{Name}
use Rattle.ot_logic.specs.Naming.{names}
use Rattle.ot_logic.specs.Trees.{Ty, Tys, NoTys, MoreTys, Variable, Tm, Free}
use Rattle.ot_logic.specs.Trees.{Named}
use Rattle.ot_logic.specs.Hol.{type_in}
use Rattle.ot_logic.specs.NamedTerms.{IsFreeIn, place, nameless, nameless_in, named_type}
use Rattle.ot_laws.proofs.Typing.{type-nameless}
use Rattle.ot_laws.proofs.Tests.{tells_names}
use Rattle.ot_match.specs.Walk.{◌>>=◌, with_binding, put_term, walk_type, walk_types, walk_var, walk_term, Maps}
use Rattle.ot_kernel.specs.State.{State, type_at, types_at}
use Rattle.ot_logic.specs.PlainTrees.{tys_of}
use Rattle.ot_match.specs.Steps.{answered, any_bound, Meets}
use Rattle.ot_laws.proofs.Named.{nameless_in-nil}
use Rattle.ot_match.specs.Matching.{matched}
use Rattle.ot_match.proofs.Leading.{met-untyped, apart-is}
use Rattle.ot_match.proofs.Walking.{walk_matches}

-- ---- maps
pub answered_cond : {M : Type 0} (b : Bool) (m : M) → cond b (Some m) None ≡ answered b m
answered_cond true m = refl
answered_cond false m = refl

module _ {K X : Type 0} (same : K → K → Bool) (alike : X → X → Bool) (k : K) (x : X) where
  pub put_found : (m : List (K × X)) (y : X) → lookup (same k) m ≡ Some y
      → with_binding same alike k x m ≡ answered (alike x y) m
  put_found [] y e = absurd cc
  put_found (p ∷ m) y e = elim (cases_Bool (same k p.0)) [
    | inl t ↦
        let q : ◌≡◌ {A = Option X} (Some p.1) (Some y) = rw t at e in
        rw t (answered_cond (alike x p.1) (p ∷ m) ∙ ap (λ z. answered (alike x z) (p ∷ m)) (same_Some p.1 y q))
    | inr t ↦
        let q : lookup (same k) m ≡ Some y = rw t at e in
        rw (t, put_found m y q) (longer (alike x y))
  ]
    where
      longer : (b : Bool) → option_map (λ r. p ∷ r) (answered b m) ≡ answered b (p ∷ m)
      longer true = refl
      longer false = refl

  pub put_new : (m : List (K × X)) → lookup (same k) m ≡ None → with_binding same alike k x m ≡ Some (m ++ (k, x) ∷ [])
  put_new [] e = refl
  put_new (p ∷ m) e = elim (cases_Bool (same k p.0)) [
    | inl t ↦ let q : ◌≡◌ {A = Option X} (Some p.1) None = rw t at e in absurd cc
    | inr t ↦
        let q : lookup (same k) m ≡ None = rw t at e in
        rw (t, put_new m q) refl
  ]

pub lookup_all : {K X : Type 0} (test : K → Bool) (P : X → Type 0) (m : List (K × X)) (y : X) → All (λ p. P p.1) m
    → lookup test m ≡ Some y → P y
lookup_all test P [] y a e = absurd cc
lookup_all test P (p ∷ m) y a e = elim (cases_Bool (test p.0)) [
  | inl t ↦ let q : ◌≡◌ {A = Option _} (Some p.1) (Some y) = rw t at e in
      subst P (same_Some p.1 y q) (All-head (λ p. P p.1) p m a)
  | inr t ↦ let q : lookup test m ≡ Some y = rw t at e in lookup_all test P m y (All-tail (λ p. P p.1) p m a) q
]

pub lookup_values : {K X Y : Type 0} (test : K → Bool) (g : X → Y) (m : List (K × X))
    → lookup test (map (λ p. (p.0, g p.1)) m) ≡ option_map g (lookup test m)
lookup_values test g [] = refl
lookup_values test g (p ∷ m) =
    elim (cases_Bool (test p.0)) [ inl t ↦ rw t refl | inr t ↦ rw t (lookup_values test g m) ]

-- ---- terms
module _ (e : List (Variable Name)) (w : Maps names) where
  -- a variable
  module _ (v : Variable Name) (t : Named Name) where
    module _ (u : Ty Name) (apart : Meets false e t) (typed : named_type names t ≡ Some u) where
      variable_is : walk_term names (Free v) (nameless_in names e t) w ≡ walk_var names v (Some u) (nameless names t)
          w
      variable_is = ap (λ c. walk_var names v (type_in names [] c) c w) apart
          ∙ ap (λ o. walk_var names v o (nameless names t) w) (type-nameless names tells_names t ∙ typed)

      pub variable_untyped : walk_type names v.ty u w.0 ≡ None → walk_term names (Free v) (nameless_in names e t) w
          ≡ None
      variable_untyped none = variable_is
          ∙ ap (λ o. ◌>>=◌ {B = Maps names} o
          (λ s. ◌>>=◌ {B = Maps names} (put_term names (record { name = v.name; ty = u }) (nameless names t) w.1)
          (λ m. Some (s, m)))) none

      pub variable_put : (s : List (Name × Ty Name)) (b : Bool) (m : List (Variable Name × Tm Name))
          → walk_type names v.ty u w.0 ≡ Some s → put_term names (record { name = v.name; ty = u }) (nameless names t)
          w.1 ≡ answered b m
          → walk_term names (Free v) (nameless_in names e t) w ≡ answered b (s, m)
      variable_put s b m types with_binding =
          variable_is
          ∙ ap (λ o. ◌>>=◌ {B = Maps names} o
          (λ s. ◌>>=◌ {B = Maps names} (put_term names (record { name = v.name; ty = u }) (nameless names t) w.1)
          (λ m. Some (s, m)))) types
          ∙ ap (λ o. ◌>>=◌ {B = Maps names} o (λ m. Some (s, m))) with_binding ∙ paired b
        where
          paired : (c : Bool) → ◌≡◌ {A = Option (Maps names)}
              (◌>>=◌ {B = Maps names} (answered c m) (λ m. Some (s, m))) (answered c (s, m))
          paired true = refl
          paired false = refl

-- ---- types in a row
none_after : {A B : Type 0} (o : Option A) (g : A → Option B) → ((x : A) → g x ≡ None) → (o >>= g) ≡ None
none_after None g h = refl
none_after (Some x) g h = h x

pub other_lengths : (ts : List (Ty Name)) (us : List (Ty Name)) (tys_of' : List (Ty Name) → Tys Name)
    → (tys_of' [] ≡ NoTys) → ((x : Ty Name) (xs : List (Ty Name)) → tys_of' (x ∷ xs) ≡ MoreTys x (tys_of' xs))
    → (length ts ≡ length us → ⊥) → (s : List (Name × Ty Name)) → walk_types names (tys_of' ts) (tys_of' us) s ≡ None
other_lengths [] [] f nil more apart s = absurd (apart refl)
other_lengths [] (u ∷ us) f nil more apart s = rw (nil, more u us) refl
other_lengths (t ∷ ts) [] f nil more apart s = rw (nil, more t ts) refl
other_lengths (t ∷ ts) (u ∷ us) f nil more apart s =
    rw (more t ts, more u us) (none_after (walk_type names t u s) (walk_types names (f ts) (f us))
    (λ r. other_lengths ts us f nil more (λ e. apart (ap suc e)) r))

-- ---- binders and free variables
some_place : (o : Option ℕ) → is_some o ≡ true → (j : ℕ) × (o ≡ Some j)
some_place None e = absurd cc
some_place (Some j) e = (j, refl)

no_place : (o : Option ℕ) → is_some o ≡ false → o ≡ None
no_place None e = refl
no_place (Some j) e = absurd cc

any_found : (e vs : List (Variable Name)) → any_bound e vs ≡ true → (v : Variable Name) × IsMember v vs
    × (is_some (place names e v) ≡ true)
any_found e [] h = absurd cc
any_found e (v ∷ vs) h = elim (cases_Bool (is_some (place names e v))) [
  | inl t ↦ (v, inl refl, t)
  | inr t ↦ let rest : any_bound e vs ≡ true = rw t at h in let (u, m, q) = any_found e vs rest in (u, inr m, q)
]

none_found : (e vs : List (Variable Name)) → any_bound e vs ≡ false → (v : Variable Name) → IsMember v vs
    → is_some (place names e v) ≡ false
none_found e [] h v m = absurd m
none_found e (u ∷ vs) h v m = elim (cases_Bool (is_some (place names e u))) [
  | inl t ↦ let never : ◌≡◌ {A = Bool} true false = rw t at h in absurd cc
  | inr t ↦
      let rest : any_bound e vs ≡ false = rw t at h in
      elim m [ inl q ↦ subst (λ z. is_some (place names e z) ≡ false) q t | inr k ↦ none_found e vs rest v k ]
]

pub meets_by : (e : List (Variable Name)) (t : Named Name) (vs : List (Variable Name))
    → ((v : Variable Name) → IsMember v vs ↔ IsFreeIn names v t) → (b : Bool) → b ≡ any_bound e vs → Meets b e t
meets_by e t vs free true is =
    let (v, m, q) = any_found e vs (sym is) in
    let (j, at) = some_place (place names e v) q in
    met-untyped names tells_names e t v j ((free v).0 m) at
meets_by e t vs free false is =
    apart-is names tells_names e t (λ v m. no_place (place names e v) (none_found e vs (sym is) v ((free v).1 m)))

-- ---- answers
pub if_ok_more : {T E : Type 0} (P Q : T → Type 0) (r : Result T E) → IfOk r P → ((x : T) → P x → Q x) → IfOk r Q
if_ok_more P Q (Ok x) h more = more x h
if_ok_more P Q (Err e) h more = tt

pub types_row : (s : State) (is : List ℕ) → types_at s is ≡ tys_of (map (type_at s) is)
types_row s [] = refl
types_row s (i ∷ is) = ap (MoreTys (type_at s i)) (types_row s is)

-- the walk from no pairs is the match
pub found_by : (p : Tm Name) (t : Named Name) (m n : Maps names) (b : Bool) → m ≡ ([], [])
    → walk_term names p (nameless_in names [] t) m ≡ answered b n → matched names p (nameless names t) ≡ answered b n
found_by p t m n b none walk =
    sym (walk_matches names tells_names p (nameless names t))
    ∙ ap (λ c. walk_term names p c ([], [])) (sym (nameless_in-nil names tells_names t))
    ∙ ap (walk_term names p (nameless_in names [] t)) (sym none)
    ∙ walk
