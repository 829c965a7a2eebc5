-- The value of the origin of a closed term is the term.
use Rattle.std.specs.Prelude.{◌≡◌, ◌≤◌, ◌<◌, ◌+◌, ℕ, zero, suc, List, [], ◌∷◌}
use Rattle.std.specs.Prelude.{map, length, Option, Some, None, slice_get}
use Rattle.std.specs.Fmt.{decimal}
use Rattle.std.proofs.Common.{refl, sym, ap, ◌∙◌, arith, inl, inr}
use Rattle.std.proofs.lemmas.Fmt.{decimal_injective}
use Rattle.std.proofs.lemmas.Option.{same_Some}
use Rattle.ot_logic.specs.Names.{Name}
use Rattle.ot_logic.specs.Naming.{names}
use Rattle.ot_logic.specs.Trees.{Ty, Variable, Tm, Free, Con, Bound, App, Abs, Named, NVar, NConst, NApp, NAbs}
use Rattle.ot_logic.specs.Hol.{depth_limit, depth_tm, type_in, HasType, IsClosed, IsWithin}
use Rattle.ot_logic.specs.NamedTerms.{nameless, nameless_in, place, named_type}
use Rattle.ot_laws.proofs.Tests.{tells_names, var_cases}
use Rattle.ot_laws.proofs.Named.{nameless_in-nil}
use Rattle.ot_laws.proofs.Typing.{type-nameless, within-typed}
use Rattle.ot_trace.specs.Origins.{Origin}
use Rattle.ot_machine.specs.Version5.{var_origin, var_term, app, lam, or_nil, canon_under, canon}
use Rattle.ot_machine.proofs.MadeValue.{origin_of}

-- a binder by its depth
abbrev pub binder : ℕ → Ty Name → Variable Name
binder k t = record { name = decimal k ∷ []; ty = t }

abbrev or_binder : Option (Variable Name) → Variable Name
or_binder (Some v) = v
or_binder None = record { name = []; ty = type_of_none }
  where
    type_of_none : Ty Name
    type_of_none = Rattle.ot_logic.specs.Trees.TyVar []

-- the named term whose binders are numbered by their depth
abbrev pub numbered_form : ℕ → List (Variable Name) → Tm Name → Named Name
numbered_form k ws (Free v) = NVar v
numbered_form k ws (Con n t) = NConst n t
numbered_form k ws (Bound i) = NVar (or_binder (slice_get ws i))
numbered_form k ws (App f x) = NApp (numbered_form k ws f) (numbered_form k ws x)
numbered_form k ws (Abs t b) = NAbs (binder k t) (numbered_form (suc k) (binder k t ∷ ws) b)

abbrev of_binder : Variable Name → Origin Name
of_binder v = var_origin v.name v.ty

bound-origin : (ws : List (Variable Name)) (i : ℕ) → i < length ws → or_nil (slice_get (map of_binder ws) i)
    ≡ of_binder (or_binder (slice_get ws i))
bound-origin [] i h = absurd (omega (arith, h))
bound-origin (w ∷ ws) zero h = refl
bound-origin (w ∷ ws) (suc i) h = bound-origin ws i (omega (arith, h))

-- the origin is that of the named term
pub canon-named : (k : ℕ) (ws : List (Variable Name)) (t : Tm Name) → length ws ≡ k → IsWithin names k t
    → canon_under k (map of_binder ws) t ≡ origin_of (numbered_form k ws t)
canon-named k ws (Free v) e h = refl
canon-named k ws (Con n t) e h = refl
canon-named k ws (Bound i) e h = ap var_term (bound-origin ws i (omega (arith, e, h)))
canon-named k ws (App f x) e h = λ i. app (canon-named k ws f e h.0 i) (canon-named k ws x e h.1 i)
canon-named k ws (Abs t b) e h =
    ap (lam (of_binder (binder k t))) (canon-named (suc k) (binder k t ∷ ws) b (omega (arith, e)) h)

-- binders by their depths, the innermost first
abbrev IsNumbered : List (Variable Name) → Type 0
IsNumbered [] = Unit {0}
IsNumbered (w ∷ ws) = (w.name ≡ decimal (length ws) ∷ []) × IsNumbered ws

number-below : (ws : List (Variable Name)) (i : ℕ) (v : Variable Name) → IsNumbered ws → slice_get ws i ≡ Some v
    → (m : ℕ) × (m < length ws) × (v.name ≡ decimal m ∷ [])
number-below [] i v h e = absurd (cc)
number-below (w ∷ ws) zero v h e = (length ws, omega arith, ap (λ x. x.name) (sym (same_Some w v e)) ∙ h.0)
number-below (w ∷ ws) (suc i) v h e =
    let (m, lt, p) = number-below ws i v h.1 e in
    (m, omega (arith, lt), p)

first-of : (a b : List ℕ) → ◌≡◌ {A = Name} (a ∷ []) (b ∷ []) → a ≡ b
first-of a b e = cc

place-of : (ws : List (Variable Name)) (i : ℕ) (v : Variable Name) → IsNumbered ws → length ws ≤ depth_limit
    → slice_get ws i ≡ Some v → place names ws v ≡ Some i
place-of [] i v h l e = absurd (cc)
place-of (w ∷ ws) zero v h l e = elim (var_cases names tells_names v w) [
  | inl p ↦ rw p.0 refl
  | inr p ↦ absurd (p.1 (sym (same_Some w v e)))
]
place-of (w ∷ ws) (suc i) v h l e = elim (var_cases names tells_names v w) [
  | inl p ↦
      let (m, lt, q) = number-below ws i v h.1 e in
      let same : decimal m ≡ decimal (length ws) =
      first-of (decimal m) (decimal (length ws)) (sym q ∙ ap (λ x. x.name) p.1 ∙ h.0) in
      let is : m ≡ length ws = decimal_injective m (length ws) (omega (arith, lt, l)) (omega (arith, l)) same in
      absurd (omega (arith, lt, is))
  | inr p ↦ let q = place-of ws i v h.1 (omega (arith, l)) e in rw (p.0, q) refl
]

bound-there : (ws : List (Variable Name)) (i : ℕ) → i < length ws → slice_get ws i ≡ Some (or_binder (slice_get ws i))
bound-there [] i h = absurd (omega (arith, h))
bound-there (w ∷ ws) zero h = refl
bound-there (w ∷ ws) (suc i) h = bound-there ws i (omega (arith, h))

-- its nameless form is the term
numbered-is : (k : ℕ) (ws : List (Variable Name)) (t : Tm Name) → IsNumbered ws → length ws ≡ k → k + depth_tm names t
    ≤ depth_limit → IsWithin names k t → IsClosed names t → nameless_in names ws (numbered_form k ws t) ≡ t
numbered-is k ws (Free v) n e d h c = absurd (c v refl)
numbered-is k ws (Con m t) n e d h c = refl
numbered-is k ws (Bound i) n e d h c =
    let q = place-of ws i (or_binder (slice_get ws i)) n (omega (arith, e, d))
    (bound-there ws i (omega (arith, e, h))) in
    rw q refl
numbered-is k ws (App f x) n e d h c =
    let p = numbered-is k ws f n e (omega (arith, d)) h.0 (λ v i. c v (inl i)) in
    let q = numbered-is k ws x n e (omega (arith, d)) h.1 (λ v i. c v (inr i)) in
    cc
numbered-is k ws (Abs t b) n e d h c =
    ap (Abs t) (numbered-is (suc k) (binder k t ∷ ws) b (ap (λ j. decimal j ∷ []) (sym e), n) (omega (arith, e))
    (omega (arith, d)) h c)

-- a closed term, well typed and within the limit, as a named one
pub record IsNamedForm (p : Tm Name) (ty : Ty Name) : Type 0 where
  pub form : Named Name
  pub is : nameless names form ≡ p
  pub origin : canon p ≡ origin_of form
  pub typed : named_type names form ≡ Some ty

pub named-form : (p : Tm Name) (ty : Ty Name) → HasType names p ty → IsClosed names p → depth_tm names p ≤ depth_limit
    → IsNamedForm p ty
named-form p ty h c d =
    let within = within-typed names tells_names [] p ty h in
    let t = numbered_form 0 [] p in
    let is : nameless names t ≡ p = sym (nameless_in-nil names tells_names t)
    ∙ numbered-is 0 [] p tt refl (omega (arith, d)) within c in
    record {
      form = t;
      is = is;
      origin = canon-named 0 [] p refl within;
      typed = sym (type-nameless names tells_names t) ∙ ap (type_in names []) is ∙ h;
    }
