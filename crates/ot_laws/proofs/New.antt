-- A variable whose name's number is past all that occur is free in nothing.
use Rattle.std.specs.Prelude.{◌≢◌, max}
use Rattle.std.proofs.Common.{◌≡◌, ℕ, suc, ◌<◌, ◌≤◌, [], ◌∷◌, refl, sym, ap, subst, inl, inr, arith}
use Rattle.ot_logic.specs.Lists.{IsMember}
use Rattle.ot_logic.specs.Trees.{Variable, Tm, Named, NVar, NConst, NApp, NAbs}
use Rattle.ot_logic.specs.Hol.{TypeMap, TermMap, inst, inst_var, IsFree}
use Rattle.ot_logic.specs.NamedTerms.{nameless, IsFreeIn, Renaming, image}
use Rattle.ot_logic.specs.Naming.{numbers, names, IsNames}
use Rattle.ot_logic.specs.Bounds.{bound_named}
use Rattle.ot_logic.proofs.Lift.{carry}
use Rattle.ot_logic.proofs.Naming.{naming, lettering}
use Rattle.ot_laws.specs.Laws.{BindersCanBePicked}
use Rattle.ot_laws.specs.Walk.{NamedMap, nameless_map, BinderRule, Picks}
use Rattle.ot_laws.proofs.Tests.{tells_numbers, var_cases}
use Rattle.ot_laws.proofs.Named.{free-nameless}
use Rattle.ot_laws.proofs.Apply.{term_at-cases}
use Rattle.ot_logic.proofs.Members.{IsMember-map_back}

-- a free variable's name is below the bound
pub free-below : (x : Variable ℕ) (t : Named ℕ) → IsFreeIn numbers x t → x.name < bound_named t
free-below x (NVar v) h = let e : v.name ≡ x.name = ap (λ z. z.name) h in omega arith
free-below x (NConst n t) h = absurd h
free-below x (NApp f y) (inl h) = omega (arith, free-below x f h)
free-below x (NApp f y) (inr h) = omega (arith, free-below x y h)
free-below x (NAbs v b) h = omega (arith, free-below x b h.1)

-- the names of new binders and of free variables that a substitution can put in are below k
pub record IsOld (k : ℕ) (r : Renaming numbers) (m : TermMap numbers) : Type 0 where
  pub binders : (p : Variable ℕ × Variable ℕ) → IsMember p r → p.1.name < k
  pub terms : (p : Variable ℕ × Tm ℕ) → IsMember p m → (x : Variable ℕ) → IsFree numbers x p.1 → x.name < k

-- the terms, by their bounds
pub old-terms : (k : ℕ) (m : NamedMap numbers) → ((p : Variable ℕ × Named ℕ) → IsMember p m → bound_named p.1 ≤ k)
    → (p : Variable ℕ × Tm ℕ) → IsMember p (nameless_map numbers m) → (x : Variable ℕ) → IsFree numbers x p.1
    → x.name < k
old-terms k m h p i x f =
    let (q, j, e) = IsMember-map_back (λ (u : Variable ℕ × Named ℕ). (u.0, nameless numbers u.1)) p m i in
    let g : IsFree numbers x (nameless numbers q.1) =
    subst (λ (z : Variable ℕ × Tm ℕ). IsFree numbers x z.1) (sym e) f in
    omega (arith, free-below x q.1 (free-nameless numbers tells_numbers x q.1 g), h q j)

-- what is free in an image has an old name
pub image-below : (k : ℕ) (x y : Variable ℕ) (r : Renaming numbers) (s : TypeMap numbers) (m : TermMap numbers)
    → IsOld k r m → x.name < k → IsFree numbers y (image numbers r s m x) → y.name < k
image-below k x y [] s m o b f = elim (term_at-cases numbers tells_numbers m (inst_var numbers s x)) [
  | inl (p, i, e) ↦ o.terms p i y (subst (IsFree numbers y) e f)
  | inr e ↦
      let g : inst_var numbers s x ≡ y = subst (IsFree numbers y) e f in
      let n : x.name ≡ y.name = ap (λ z. z.name) g in
      omega arith
]
image-below k x y (p ∷ r) s m o b f = elim (var_cases numbers tells_numbers x p.0) [
  | inl q ↦
      let g : p.1 ≡ y = rw q.0 at f in
      let n : p.1.name ≡ y.name = ap (λ z. z.name) g in
      let below = o.binders p (inl refl) in
      omega arith
  | inr q ↦ image-below k x y r s m (record { binders = λ z i. o.binders z (inr i); terms = o.terms }) b (rw q.0 at f)
]

-- so a variable with a new name may stand for any binder
pub apart-new : (k : ℕ) (w v : Variable ℕ) (r : Renaming numbers) (s : TypeMap numbers) (m : TermMap numbers)
    (b : Named ℕ) → k ≤ w.name → IsOld k r m → bound_named b ≤ k → (x : Variable ℕ) → IsFreeIn numbers x b → x ≢ v
    → ¬ (IsFree numbers w (image numbers r s m x))
apart-new k w v r s m b new o h x i d f =
    let below = free-below x b i in
    let old = image-below k x w r s m o (omega arith) f in
    absurd (omega arith)

-- ---- a rule that picks a new name for each binder
abbrev bound_binders : Renaming numbers → ℕ
bound_binders [] = 0
bound_binders (p ∷ r) = max (suc p.1.name) (bound_binders r)

abbrev bound_map : NamedMap numbers → ℕ
bound_map [] = 0
bound_map (p ∷ m) = max (bound_named p.1) (bound_map m)

binders-below : (p : Variable ℕ × Variable ℕ) (r : Renaming numbers) → IsMember p r → p.1.name < bound_binders r
binders-below p (q ∷ r) (inl e) = let n : q.1.name ≡ p.1.name = ap (λ z. z.1.name) e in omega arith
binders-below p (q ∷ r) (inr i) = omega (arith, binders-below p r i)
binders-below p [] i = absurd i

map-below : (p : Variable ℕ × Named ℕ) (m : NamedMap numbers) → IsMember p m → bound_named p.1 ≤ bound_map m
map-below p (q ∷ m) (inl e) = let n : bound_named q.1 ≡ bound_named p.1 = ap (λ z. bound_named z.1) e in omega arith
map-below p (q ∷ m) (inr i) = omega (arith, map-below p m i)
map-below p [] i = absurd i

abbrev bound_all : NamedMap numbers → Renaming numbers → Named ℕ → ℕ
bound_all m r b = max (max (bound_binders r) (bound_map m)) (bound_named b)

abbrev pub pick_new : TypeMap numbers → NamedMap numbers → BinderRule numbers
pick_new s m r v b = record { name = bound_all m r b; ty = inst numbers s v.ty }

pub pick_new-picks : (s : TypeMap numbers) (m : NamedMap numbers)
    → Picks numbers s (nameless_map numbers m) (pick_new s m)
pick_new-picks s m = record {
  typed = λ r v b. refl;
  apart = λ r v b. apart-new (bound_all m r b) (pick_new s m r v b) v r s (nameless_map numbers m) b (omega arith)
      (old r b) (omega arith);
}
  where
    old : (r : Renaming numbers) (b : Named ℕ) → IsOld (bound_all m r b) r (nameless_map numbers m)
    old r b = record {
      binders = λ p i. omega (arith, binders-below p r i);
      terms = old-terms (bound_all m r b) m (λ p i. omega (arith, map-below p m i));
    }

-- ---- names themselves
-- the primitive symbols, as a table of names
primitive_names : IsNames (names.arrow ∷ names.bool_name ∷ names.equals ∷ [])
primitive_names = record {
  distinct = (
    λ i. elim i [ inl e ↦ cc | inr j ↦ elim j [ inl e ↦ cc | inr k ↦ k ] ],
    (λ i. elim i [ inl e ↦ cc | inr k ↦ k ], (λ k. k, tt)),
  );
  arrow = refl;
  bool_name = refl;
  equals = refl;
}

pub binders_of_numbers : BindersCanBePicked numbers
binders_of_numbers s m = (pick_new s m, pick_new-picks s m)

-- each number has a name, and each name a number
pub binders_of_names : BindersCanBePicked names
binders_of_names =
    carry (naming (names.arrow ∷ names.bool_name ∷ names.equals ∷ [])) numbers names
    (lettering (names.arrow ∷ names.bool_name ∷ names.equals ∷ []) primitive_names)
    (λ L letters. BindersCanBePicked letters) binders_of_numbers
