-- The canonical origin of a named term is that of its nameless form, and depends on what its free variables become
-- alone.
use Rattle.std.specs.Prelude.{◌≡◌, ◌<◌, ◌&&◌, ℕ, suc, nat_eq, cond, Bool, true, false}
use Rattle.std.specs.Prelude.{List, [], ◌∷◌, ◌++◌, map, length, Option, Some, None}
use Rattle.std.specs.List.{All}
use Rattle.std.specs.Map.{lookup}
use Rattle.std.specs.Option.{option_map, unwrap_or}
use Rattle.std.proofs.Common.{refl, sym, ap, ◌∙◌, subst, arith, inl, inr, eqb-true, eq-eqb, true≢false}
use Rattle.std.specs.Bool.{Decides}
use Rattle.std.specs.Cmp.Lexicographic.{pointwise}
use Rattle.std.proofs.lemmas.Bool.{and_parts}
use Rattle.std.proofs.lemmas.Slice.Eq.{slice_eq-Decides}
use Rattle.std.proofs.lemmas.Option.{same_Some}
use Rattle.std.proofs.lemmas.List.Elements.{All-head, All-tail}
use Rattle.ot_logic.specs.Names.{Name}
use Rattle.ot_logic.specs.Naming.{names}
use Rattle.ot_logic.specs.Trees.{Ty, TyVar, Variable, Bound, Named, NVar, NConst, NApp, NAbs}
use Rattle.ot_logic.specs.Hol.{bool_ty, type_of, tys_of_vars, same_var}
use Rattle.ot_logic.specs.NamedTerms.{named_type, place, at_place, nameless, nameless_in, IsFreeIn}
use Rattle.ot_laws.proofs.Tests.{tells_names, var_cases}
use Rattle.ot_laws.proofs.Named.{nameless_in-nil}
use Rattle.ot_laws.proofs.Typing.{type-nameless}
use Rattle.ot_kernel.specs.State as kernel
use Rattle.ot_logic.specs.declared.command.Cmd.TheVariants as words
use Rattle.ot_trace.specs.Origins.{Origin, Make, NoOrigins, make_two}
use Rattle.ot_term.specs.declared.term.VarKey.{VarKey}
use Rattle.ot_view.specs.Nodes.{IsKey}
use Rattle.ot_machine.specs.RenamedLists.{list_onto}
use Rattle.ot_machine.specs.Version5.{canon_ty, canon_tys, canon_under, canon, numbered_variable, var_term, app, lam}
use Rattle.ot_machine.specs.Canonical.{Binders, variable_in, canon_in, binders_at, IsBinderIn}
use Rattle.ot_machine.specs.Canonical.{AreTypes, same_binder, same_part, IsStepOf, AreTerms, AreKnown}
use Rattle.ot_machine.specs.declared.makers.canonical.Binder.{Binder}
use Rattle.ot_machine.specs.declared.makers.canonical.Part.{Part}
use Rattle.ot_machine.specs.declared.makers.canonical.Known.{Known}
use Rattle.ot_machine.specs.declared.session.Session.{Session}
use Rattle.ot_machine.specs.Meaning.{origin_of, IsRun, Grows}
use Rattle.ot_machine.proofs.Kept.{at-Extends, origin-kept}
use Rattle.ot_machine.proofs.Occurrences.{occurrences-later}

-- ---- the nameless form
abbrev variables : Binders → List (Variable Name)
variables = map (λ b. b.0)

abbrev origins : Binders → List (Origin Name)
origins = map (λ b. b.1)

further : (k : ℕ) (o : Origin Name) (os : List (Origin Name)) (v : Variable Name) (p : Option ℕ)
    → canon_under k os (at_place names v p) ≡ canon_under k (o ∷ os) (at_place names v (option_map suc p))
further k o os v None = refl
further k o os v (Some i) = refl

variable-is : (k : ℕ) (bs : Binders) (v : Variable Name) → var_term (variable_in bs v)
    ≡ canon_under k (origins bs) (at_place names v (place names (variables bs) v))
variable-is k [] v = refl
variable-is k (b ∷ bs) v =
    elim (same_var names v b.0) as (λ c. var_term (cond c b.1 (variable_in bs v)) ≡ canon_under k (b.1 ∷ origins bs)
    (at_place names v (cond c (Some 0) (option_map suc (place names (variables bs) v))))) [
      | true ↦ refl
      | false ↦ variable-is k bs v ∙ further k b.1 (origins bs) v (place names (variables bs) v)
    ]

form-is : (k : ℕ) (bs : Binders) (t : Named Name)
    → canon_in k bs t ≡ canon_under k (origins bs) (nameless_in names (variables bs) t)
form-is k bs (NVar v) = variable-is k bs v
form-is k bs (NConst n t) = refl
form-is k bs (NApp f x) = λ i. app (form-is k bs f i) (form-is k bs x i)
form-is k bs (NAbs v b) = ap (lam (numbered_variable k v.ty)) (form-is (suc k) ((v, numbered_variable k v.ty) ∷ bs) b)

pub canon-is : (t : Named Name) → canon_in 0 [] t ≡ canon (nameless names t)
canon-is t = form-is 0 [] t ∙ ap canon (nameless_in-nil names tells_names t)

-- ---- free variables decide
pub canon-agree : (k : ℕ) (bs cs : Binders) (t : Named Name)
    → ((v : Variable Name) → IsFreeIn names v t → variable_in bs v ≡ variable_in cs v)
    → canon_in k bs t ≡ canon_in k cs t
canon-agree k bs cs (NVar v) h = ap var_term (h v refl)
canon-agree k bs cs (NConst n t) h = refl
canon-agree k bs cs (NApp f x) h =
    λ i. app (canon-agree k bs cs f (λ v p. h v (inl p)) i) (canon-agree k bs cs x (λ v p. h v (inr p)) i)
canon-agree k bs cs (NAbs w b) h =
    ap (lam (numbered_variable k w.ty)) (canon-agree (suc k) ((w, numbered_variable k w.ty) ∷ bs) ((w, numbered_variable k w.ty) ∷ cs) b inside)
  where
    inside : (v : Variable Name) → IsFreeIn names v b → variable_in ((w, numbered_variable k w.ty) ∷ bs) v
        ≡ variable_in ((w, numbered_variable k w.ty) ∷ cs) v
    inside v p = elim (var_cases names tells_names v w) [
      | inl e ↦ rw e.0 refl
      | inr e ↦ rw e.0 (h v ((λ q. e.1 (sym q)), p))
    ]

-- ---- a session that grew
module _ (s t : Session) (grown : Grows s t) where
  pub name-later : (n : ℕ) → n < length s.kernel.names → kernel.name_at t.kernel n ≡ kernel.name_at s.kernel n
  name-later n h = at-Extends s.kernel.names t.kernel.names grown.kernel.names [] n h

  pub type-later : (i : ℕ) → i < length s.kernel.types → kernel.type_at t.kernel i ≡ kernel.type_at s.kernel i
  type-later i h = at-Extends s.kernel.types t.kernel.types grown.kernel.types (TyVar []) i h

  pub named-later : (i : ℕ) → i < length s.kernel.terms → kernel.named_at t.kernel.terms i
      ≡ kernel.named_at s.kernel.terms i
  named-later i h = at-Extends s.kernel.terms t.kernel.terms grown.kernel.terms (NConst [] (TyVar [])) i h

  pub key-later : (v : VarKey) → IsKey s.kernel v → IsKey t.kernel v
  key-later v h = (omega (arith, h.0, grown.kernel.names.longer), omega (arith, h.1, grown.kernel.types.longer))

  pub binders-inside : (bs : List Binder) → All (IsBinderIn s) bs → All (IsBinderIn t) bs
  binders-inside bs h i d p = let b = h i d p in (key-later _ b.0, omega (arith, b.1, grown.trace.longer))

  module _ (run : IsRun s) where
    pub binders-later : (bs : List Binder) → All (IsBinderIn s) bs → binders_at t bs ≡ binders_at s bs
    binders-later [] h = refl
    binders-later (b ∷ bs) h =
        let here = All-head (IsBinderIn s) b bs h in
        let n = name-later b.variable.name here.0.0 in
        let y = type-later b.variable.ty here.0.1 in
        let o = origin-kept s t run grown b.step here.1 in
        let rest = binders-later bs (All-tail (IsBinderIn s) b bs h) in
        λ i. (record { name = n i; ty = y i }, o i) ∷ rest i

    pub types-later : (es : List (ℕ × ℕ)) → AreTypes s es → AreTypes t es
    types-later es h = record {
      known = λ y i p.
          let k = h.known y i p in (
            omega (arith, k.0, grown.kernel.types.longer),
            omega (arith, k.1, grown.trace.longer),
            origin-kept s t run
                grown i k.1 ∙ k.2 ∙ ap canon_ty (sym (type-later y k.0)),
          );
    }

-- one type more
pub types-insert : (s : Session) (old new : List (ℕ × ℕ)) (y i : ℕ) → AreTypes s old → y < length s.kernel.types
    → i < length s.trace → origin_of s i ≡ canon_ty (kernel.type_at s.kernel y)
    → ((z : ℕ) → lookup (nat_eq z) new ≡ cond (nat_eq y z) (Some i) (lookup (nat_eq z) old)) → AreTypes s new
types-insert s old new y i h ly li is after =
    record { known = λ z j known. by z j (nat_eq y z) refl (sym (after z) ∙ known) }
  where
    by : (z j : ℕ) (b : Bool) → nat_eq y z ≡ b → cond (nat_eq y z) (Some i) (lookup (nat_eq z) old) ≡ Some j
        → (z < length s.kernel.types) × (j < length s.trace) × (origin_of s j ≡ canon_ty (kernel.type_at s.kernel z))
    by z j true e known =
        let same : y ≡ z = eqb-true y z e in
        let value : i ≡ j = same_Some i j (sym (ap (λ b. cond b (Some i) (lookup (nat_eq z) old)) e) ∙ known) in (
          omega (arith, ly, same),
          omega (arith, li, value),
          (λ k. origin_of s (sym value k)) ∙ is
              ∙ ap (λ y. canon_ty (kernel.type_at s.kernel y)) same,
        )
    by z j false e known = h.known z j (sym (ap (λ b. cond b (Some i) (lookup (nat_eq z) old)) e) ∙ known)

-- ---- a list of types
pub types-listed : (k : kernel.State) (is : List ℕ)
    → list_onto (map (λ i. canon_ty (kernel.type_at k i)) is) (Make words.Nil NoOrigins)
    ≡ canon_tys (kernel.types_at k is)
types-listed k [] = refl
types-listed k (i ∷ is) = ap (make_two words.Cons (canon_ty (kernel.type_at k i))) (types-listed k is)

-- ---- one part more
same_binder-Decides : (b c : Binder) → Decides (same_binder b c) (b ≡ c)
same_binder-Decides b c = (to, from)
  where
    to : same_binder b c ≡ true → b ≡ c
    to p =
        let q = and_parts (nat_eq b.variable.name c.variable.name && nat_eq b.variable.ty c.variable.ty)
        (nat_eq b.step c.step) p in
        let r = and_parts (nat_eq b.variable.name c.variable.name) (nat_eq b.variable.ty c.variable.ty) q.0 in
        let n = eqb-true b.variable.name c.variable.name r.0 in
        let y = eqb-true b.variable.ty c.variable.ty r.1 in
        let s = eqb-true b.step c.step q.1 in
        λ i. record { variable = record { name = n i; ty = y i }; step = s i }

    self : (d : Binder) → same_binder d d ≡ true
    self d = rw (
      eq-eqb d.variable.name d.variable.name refl,
      eq-eqb d.variable.ty d.variable.ty refl,
      eq-eqb d.step
          d.step refl,
    ) refl

    from : b ≡ c → same_binder b c ≡ true
    from e = subst (λ d. same_binder b d ≡ true) e (self b)

pub record IsSamePart (p q : Part) : Type 0 where
  pub id : p.id ≡ q.id
  pub depth : p.depth ≡ q.depth
  pub binders : p.binders.items ≡ q.binders.items

part-same : (p q : Part) → same_part p q ≡ true → IsSamePart p q
part-same p q h =
    let a = and_parts (nat_eq p.id q.id)
    (nat_eq p.depth q.depth && pointwise same_binder p.binders.items q.binders.items) h in
    let b = and_parts (nat_eq p.depth q.depth) (pointwise same_binder p.binders.items q.binders.items) a.1 in
    record {
      id = eqb-true p.id q.id a.0;
      depth = eqb-true p.depth q.depth b.0;
      binders = (slice_eq-Decides same_binder-Decides p.binders.items q.binders.items _ refl).0 b.1;
    }

step-same : (s : Session) (p q : Part) (i j : ℕ) → IsSamePart p q → i ≡ j → IsStepOf s p i → IsStepOf s q j
step-same s p q i j same e h = record {
  id = omega (arith, h.id, same.id);
  step = omega (arith, h.step, e);
  binders = subst (All (IsBinderIn s)) same.binders h.binders;
  origin = (λ k. origin_of s (sym e k)) ∙ h.origin
      ∙ (λ k. canon_in (same.depth k) (binders_at s (same.binders k)) (kernel.named_at s.kernel.terms (same.id k)));
}

pub terms-insert : (s : Session) (old new : List (Part × ℕ)) (p : Part) (i : ℕ) → AreTerms s old → IsStepOf s p i
    → ((q : Part) → lookup (same_part q) new ≡ cond (same_part p q) (Some i) (lookup (same_part q) old))
    → AreTerms s new
terms-insert s old new p i h here after =
    record { known = λ q j known. by q j (same_part p q) refl (sym (after q) ∙ known) }
  where
    by : (q : Part) (j : ℕ) (b : Bool) → same_part p q ≡ b → cond (same_part p q) (Some i) (lookup (same_part q) old)
        ≡ Some j → IsStepOf s q j
    by q j true e known = step-same s p q i j (part-same p q e)
        (same_Some i j (sym (ap (λ b. cond b (Some i) (lookup (same_part q) old)) e) ∙ known)) here
    by q j false e known = h.known q j (sym (ap (λ b. cond b (Some i) (lookup (same_part q) old)) e) ∙ known)

module _ (s t : Session) (grown : Grows s t) (run : IsRun s) where
  pub step-later : (p : Part) (i : ℕ) → IsStepOf s p i → IsStepOf t p i
  step-later p i h = record {
    id = omega (arith, h.id, grown.kernel.terms.longer);
    step = omega (arith, h.step, grown.trace.longer);
    binders = binders-inside s t grown p.binders.items h.binders;
    origin =
        let bs = binders-later s t grown run p.binders.items h.binders in
        let u = named-later s t grown p.id h.id in
        origin-kept s t run grown i h.step ∙ h.origin ∙ (λ k. canon_in p.depth (sym bs k) (sym u k));
  }

  pub terms-later : (es : List (Part × ℕ)) → AreTerms s es → AreTerms t es
  terms-later es h = record { known = λ p i q. step-later p i (h.known p i q) }

  pub known-later : (k : Known) → AreKnown s k → AreKnown t k
  known-later k h = record {
    types = types-later s t grown run k.types.entries h.types;
    terms = terms-later k.terms.entries h.terms;
    free = occurrences-later s.kernel t.kernel grown.kernel k.free.entries h.free;
  }

-- ---- a list of type variables
pub variables-listed : (f : ℕ → Name) (is : List ℕ)
    → list_onto (map (λ i. canon_ty (TyVar (f i))) is) (Make words.Nil NoOrigins)
    ≡ canon_tys (tys_of_vars names (map f is))
variables-listed f [] = refl
variables-listed f (i ∷ is) = ap (make_two words.Cons (canon_ty (TyVar (f i)))) (variables-listed f is)

-- ---- binders whose variables don't matter
module _ (s : Session) where
  pub variable-skip : (kept rest : List Binder) (b : Binder) (v : Variable Name)
      → same_var names v (kernel.variable_at s.kernel b.variable) ≡ false
      → variable_in (binders_at s (kept ++ b ∷ rest)) v ≡ variable_in (binders_at s (kept ++ rest)) v
  variable-skip [] rest b v e = ap (λ c. cond c (origin_of s b.step) (variable_in (binders_at s rest) v)) e
  variable-skip (k ∷ kept) rest b v e =
      ap (cond (same_var names v (kernel.variable_at s.kernel k.variable)) (origin_of s k.step))
      (variable-skip kept rest b v e)

-- a variable that isn't free isn't one that is
pub other-variable : (t : Named Name) (w v : Variable Name) (b : Bool) → Decides b (IsFreeIn names w t) → b ≡ false
    → IsFreeIn names v t → same_var names v w ≡ false
other-variable t w v b d refused here = elim (var_cases names tells_names v w) [
  | inl p ↦ absurd (true≢false (sym (d.1 (subst (λ x. IsFreeIn names x t) p.1 here)) ∙ refused))
  | inr p ↦ p.0
]

-- what is left at the end of a walk
pub rest-empty : {X : Type 0} (xs : List X) → length xs ≡ 0 → xs ≡ []
rest-empty [] e = refl
rest-empty (x ∷ xs) e = absurd (omega (arith, e))

-- ---- names and theorems of a session that grew
module _ (s t : Session) (grown : Grows s t) where
  pub names-later : (ns : List ℕ) → All (λ n. n < length s.kernel.names) ns → map (kernel.name_at t.kernel) ns
      ≡ map (kernel.name_at s.kernel) ns
  names-later [] h = refl
  names-later (n ∷ ns) h =
      let a = name-later s t grown n (All-head (λ n. n < length s.kernel.names) n ns h) in
      let b = names-later ns (All-tail (λ n. n < length s.kernel.names) n ns h) in
      λ i. a i ∷ b i

  pub names-inside : (ns : List ℕ) → All (λ n. n < length s.kernel.names) ns → All (λ n. n < length t.kernel.names) ns
  names-inside ns h i d p = let n = h i d p in omega (arith, n, grown.kernel.names.longer)

  pub theorem-later : (i : ℕ) → i < length s.kernel.theorems → kernel.theorem_at t.kernel i
      ≡ kernel.theorem_at s.kernel i
  theorem-later i h = at-Extends s.kernel.theorems t.kernel.theorems grown.kernel.theorems
      (record { hyps = []; concl = Bound 0 }) i h

-- the type of a term
pub type-is : (t : Named Name) (ty : Ty Name) → named_type names t ≡ Some ty → ty ≡ type_of names (nameless names t)
type-is t ty e = ap (λ o. unwrap_or o (bool_ty names)) (sym e ∙ sym (type-nameless names tells_names t))
