-- A lawful run is sound: its definitions are accepted, and what rests on it is derivable.
use Rattle.std.specs.Prelude.{IfOk, ◌==◌}
use Rattle.std.specs.List.{All, AllByRecursion}
use Rattle.std.proofs.Common.{◌≡◌, ℕ, zero, suc, List, [], ◌∷◌, ◌++◌, Option, Some, None, Result, Ok, Err}
use Rattle.std.proofs.Common.{refl, sym, ap, subst, ◌∙◌, map, take, slice_get, length, inl, inr, arith}
use Rattle.std.proofs.lemmas.List.{map-append, take_all}
use Rattle.std.proofs.lemmas.Option.{same_Some}
use Rattle.ot_logic.specs.Names.{Name}
use Rattle.ot_logic.specs.Naming.{names}
use Rattle.ot_logic.specs.Lists.{IsMember, IsPart}
use Rattle.ot_logic.specs.Trees.{Variable, Sequent, Definition, ConDef, ListDef, TyDef}
use Rattle.ot_logic.specs.Hol.{IsWellTyped, IsSequent, IsNext, Accepted, defined, used, theorems, is_shallow_sequent}
use Rattle.std.specs.List.{list_all}
use Rattle.ot_logic.specs.Faults.{Fault, StackEmpty, Nesting}
use Rattle.ot_logic.specs.Answers.{◌>>=◌, unless}
use Rattle.ot_logic.specs.declared.command.Cmd.{Cmd}
use Rattle.ot_logic.specs.declared.command.Cmd.TheVariants as words
use Rattle.ot_logic.proofs.Members.{IsMember-at, IsMember-map, IsMember-map_back, IsMember-place, IsPart-take}
use Rattle.ot_logic.proofs.Members.{IsMember-flat_map, IsMember-flat_map_back, All-from_members}
use Rattle.ot_logic.proofs.Results.{same_Ok}
use Rattle.ot_laws.specs.Theorem.{IsTheorem, AreSequents}
use Rattle.ot_laws.specs.Conditions.{checked_const, checked_list, checked_type}
use Rattle.ot_laws.specs.Next.{AreSymbolsOf}
use Rattle.ot_laws.proofs.Tests.{tells_names}
use Rattle.ot_laws.proofs.Grown.{accepted-nil, accepted-push}
use Rattle.ot_laws.proofs.Next.{constants_are_next, lists_are_next, types_are_next}
use Rattle.ot_kernel.specs.Defining.{Defining, const_definition, list_definition, type_definition}
use Rattle.ot_kernel.specs.Defining.{limited_definition, zipped, all_defined, all_used}
use Rattle.ot_trace.specs.Origins.{Origin, Origins, Number, Named, Make, Define, Outcome}
use Rattle.ot_trace.specs.Reach.{Root}
use Rattle.ot_machine.specs.Objects.{Object, theorem}
use Rattle.ot_machine.specs.Places.{as_list, as_term, as_theorem, as_name, as_each}
use Rattle.ot_machine.specs.DefinitionLists.{pairs_of}
use Rattle.ot_machine.specs.States.{Given, Made, RunState}
use Rattle.ot_machine.specs.Rows.{definitions_of}
use Rattle.ot_machine.specs.Values.{value, values, value_at, definition_of, defines, defined_by, definition_arity}
use Rattle.ot_machine.specs.Lawful.{RestsOn, GivenFits, IsLawfulRun, basis_of, run_basis}
use Rattle.ot_machine.proofs.Fewer.{none-fewer}
use Rattle.ot_machine.proofs.DefinitionFewer.{definition-fewer}
use Rattle.ot_uses.specs.Sound.{LawfulIsSound}
use Rattle.ot_uses.proofs.Leaves.{IsGood, HaveLeaves}
use Rattle.ot_uses.proofs.Goodness.{if_bind, any_bind, value_at-good, read-term, read-theorem, value-good, values-good}
use Rattle.ot_uses.proofs.Resting.{StandsOn}
use Rattle.ot_uses.proofs.Reached.{reached-stands}
use Rattle.ot_uses.proofs.Suffices.{IsProposed, ok_if, value-axiom, get-map, stand-leaves, all-leaves}

-- ---- what a word defines may be next

zipped-pairs : (ps : List (Name × Variable Name)) → zipped names (map (λ p. p.0) ps) (map (λ p. p.1) ps) ≡ ps
zipped-pairs [] = refl
zipped-pairs (p ∷ ps) = ap (λ l. p ∷ l) (zipped-pairs ps)

module _ (al : List (Sequent Name)) (dl : List (Definition Name)) where
  abbrev MayBeNext : Definition Name → Type 0
  MayBeNext = IsNext names al dl

  symbols : AreSymbolsOf names dl (all_defined names dl) (all_used names dl)
  symbols = record {
    defined = λ s. (
      IsMember-flat_map_back (defined names) s dl,
      λ d. IsMember-flat_map (defined names) s d.0 dl d.1 d.2,
    );
    used = λ s. (
      IsMember-flat_map_back (used names) s dl,
      λ d. IsMember-flat_map (used names) s d.0 dl d.1 d.2,
    );
  }

  -- behind conditions that are passed
  checked : (r : Result (Unit {0}) (Fault Name)) (f : Unit {0} → Defining names)
      → (r ≡ Ok tt → IfOk (f tt) MayBeNext) → IfOk (r >>= f) MayBeNext
  checked (Ok x) f h = h refl
  checked (Err e) f h = tt

  limited-next : (d : Definition Name) → MayBeNext d → IfOk (limited_definition names d) MayBeNext
  limited-next d h =
      any_bind (unless Nesting (list_all (is_shallow_sequent names) (theorems names d))) (λ x. Ok d) MayBeNext (λ x. h)

  word-next : (w : Cmd) (vs : List Object) → AllByRecursion (IsGood al dl) vs
      → IfOk (defined_by w dl (λ n. value_at n vs)) MayBeNext
  word-next words.DefineConst vs g =
      if_bind (value_at 0 vs >>= as_term) (λ t. (value_at 1 vs >>= as_name) >>= λ n. const_definition names dl n t)
      (IsWellTyped names) MayBeNext (read-term al dl (value_at 0 vs) (value_at-good al dl vs g 0))
      (λ t typed. any_bind (value_at 1 vs >>= as_name) (λ n. const_definition names dl n t) MayBeNext
      (λ n. checked (checked_const names (all_defined names dl) (all_used names dl) n t)
      (λ x. limited_definition names (ConDef n t))
      (λ passed. limited-next (ConDef n t)
      (constants_are_next names tells_names al dl (all_defined names dl) (all_used names dl) n t symbols typed
      passed))))
  word-next words.DefineConstList vs g =
      if_bind (value_at 0 vs >>= as_theorem) (λ th. (value_at 1 vs >>= as_list)
      >>= λ os. pairs_of os >>= λ pairs. list_definition names dl (map (λ p. p.0) pairs) (map (λ p. p.1) pairs) th)
      (IsTheorem names al dl) MayBeNext (read-theorem al dl (value_at 0 vs) (value_at-good al dl vs g 0))
      (λ th t. any_bind (value_at 1 vs >>= as_list)
      (λ os. pairs_of os >>= λ pairs. list_definition names dl (map (λ p. p.0) pairs) (map (λ p. p.1) pairs) th)
      MayBeNext
      (λ os. any_bind (pairs_of os)
      (λ pairs. list_definition names dl (map (λ p. p.0) pairs) (map (λ p. p.1) pairs) th) MayBeNext
      (λ pairs. checked
      (checked_list names (all_defined names dl) (all_used names dl) (map (λ p. p.0) pairs) (map (λ p. p.1) pairs) th)
      (λ x. Ok (ListDef (zipped names (map (λ p. p.0) pairs) (map (λ p. p.1) pairs)) th))
      (λ passed. subst (λ ps. MayBeNext (ListDef ps th)) (sym (zipped-pairs pairs))
      (lists_are_next names tells_names al dl (all_defined names dl) (all_used names dl) pairs th symbols t passed)))))
  word-next words.DefineTypeOp vs g =
      if_bind (value_at 0 vs >>= as_theorem) (λ th. (value_at 1 vs >>= as_list >>= as_each as_name)
      >>= λ vars. (value_at 2 vs >>= as_name)
      >>= λ rep. (value_at 3 vs >>= as_name)
      >>= λ abs. (value_at 4 vs >>= as_name) >>= λ n. type_definition names dl n abs rep vars th)
      (IsTheorem names al dl) MayBeNext (read-theorem al dl (value_at 0 vs) (value_at-good al dl vs g 0))
      (λ th t. any_bind (value_at 1 vs >>= as_list >>= as_each as_name)
      (λ vars. (value_at 2 vs >>= as_name)
      >>= λ rep. (value_at 3 vs >>= as_name)
      >>= λ abs. (value_at 4 vs >>= as_name) >>= λ n. type_definition names dl n abs rep vars th)
      MayBeNext
      (λ vars. any_bind (value_at 2 vs >>= as_name) (λ rep. (value_at 3 vs >>= as_name)
      >>= λ abs. (value_at 4 vs >>= as_name) >>= λ n. type_definition names dl n abs rep vars th)
      MayBeNext
      (λ rep. any_bind (value_at 3 vs >>= as_name)
      (λ abs. (value_at 4 vs >>= as_name) >>= λ n. type_definition names dl n abs rep vars th) MayBeNext
      (λ abs. any_bind (value_at 4 vs >>= as_name) (λ n. type_definition names dl n abs rep vars th) MayBeNext
      (λ n. checked (checked_type names (all_defined names dl) (all_used names dl) n abs rep vars th)
      (λ x. limited_definition names (TyDef n abs rep vars th))
      (λ passed. limited-next (TyDef n abs rep vars th)
      (types_are_next names tells_names al dl (all_defined names dl) (all_used names dl) n abs rep vars th symbols t
      passed)))))))
  word-next _ vs g = tt

  -- what an origin defines, of operands whose axioms and definitions give theorems
  pub origin-next : (w : Cmd) (os : Origins Name) → HaveLeaves al dl os
      → IfOk (definition_of dl (Define w os)) MayBeNext
  origin-next w os l =
      if_bind (values os) (defines w dl) (AllByRecursion (IsGood al dl)) MayBeNext (values-good al dl os l)
      (λ vs g. any_bind (unless StackEmpty (length vs == definition_arity w))
      (λ x. defined_by w dl (λ n. value_at n vs)) MayBeNext (λ x. word-next w vs g))

-- only a definition is accepted
pub is-define : (ds : List (Definition Name)) (o : Origin Name) (x : Definition Name) → definition_of ds o ≡ Ok x
    → (w : Cmd) × (os : Origins Name) × (o ≡ Define w os)
is-define ds (Number k) x e = absurd cc
is-define ds (Named n) x e = absurd cc
is-define ds (Make w os) x e = absurd cc
is-define ds (Define w os) x e = (w, os, refl)
is-define ds (Outcome j d) x e = absurd cc

-- ---- fronts of a list

take-next : {A : Type 0} (k : ℕ) (xs : List A) (x : A) → slice_get xs k ≡ Some x
    → take (suc k) xs ≡ take k xs ++ x ∷ []
take-next k [] x e = absurd cc
take-next zero (y ∷ ys) x e = ap (λ z. z ∷ []) (same_Some y x e)
take-next (suc k) (y ∷ ys) x e = ap (λ l. y ∷ l) (take-next k ys x e)

take-end : {A : Type 0} (k : ℕ) (xs : List A) → slice_get xs k ≡ None → take (suc k) xs ≡ take k xs
take-end zero [] e = refl
take-end (suc k) [] e = refl
take-end zero (y ∷ ys) e = absurd cc
take-end (suc k) (y ∷ ys) e = ap (λ l. y ∷ l) (take-end k ys e)

all-member : {A : Type 0} (P : A → Type 0) (xs : List A) → All P xs → (x : A) → IsMember x xs → P x
all-member P [] h x m = absurd m
all-member P (y ∷ ys) h x (inl e) = subst P e (h 0 y (omega arith))
all-member P (y ∷ ys) h x (inr m) = all-member P ys (λ k d l. h (suc k) d (omega arith)) x m

same_theorem : (p q : Sequent Name) → ◌≡◌ {A = Object} (theorem p) (theorem q) → p ≡ q
same_theorem p q e = cc

-- ---- a lawful run

module _ (IsNamed : Name → Type 0) (r : RunState) (lawful : IsLawfulRun IsNamed r) where
  abbrev al : List (Sequent Name)
  al = map (λ g. g.sequent) r.assumptions

  given : (g : Given) → IsMember g r.assumptions → value g.origin ≡ Ok (theorem g.sequent)
  given g m = (all-member (GivenFits (run_basis IsNamed r)) r.assumptions lawful.assumptions g m).value_is

  -- the definition of an origin, whatever was defined before it
  pub own : (m : Made) → IsMember m r.definitions → definition_of [] m.origin ≡ Ok m.definition
  own m here =
      let (k, at) = IsMember-place m r.definitions here in
      definition-fewer [] (definitions_of (take k r.definitions)) (none-fewer (definitions_of (take k r.definitions)))
      m.definition m.origin (lawful.definitions k m at).accepted

  pub given-sequent : (g : Given) → IsMember g r.assumptions → IsSequent names g.sequent
  given-sequent g m =
      let (os, made) = all-member (λ g. (os : Origins Name) × (g.origin ≡ Make words.Axiom os))
      r.assumptions lawful.axioms g m in
      (ok_if (value (Make words.Axiom os)) IsProposed (value-axiom os) (theorem g.sequent)
      (ap value (sym made) ∙ given g m)).0

  pub sequents : AreSequents names al
  sequents i q at =
      let (g, here, is) = get-map (λ g. g.sequent) r.assumptions i q at in
      subst (IsSequent names) is (given-sequent g (IsMember-at r.assumptions i g here))

  -- what the origin of an axiom gives is that axiom
  pub taken : (os : Origins Name) (q : Sequent Name)
      → IsMember (Make words.Axiom os) (map (λ g. g.origin) r.assumptions)
      → value (Make words.Axiom os) ≡ Ok (theorem q)
      → (g : Given) × IsMember g r.assumptions × (g.origin ≡ Make words.Axiom os) × (g.sequent ≡ q)
  taken os q m e =
      let (g, here, is) = IsMember-map_back (λ g. g.origin) (Make words.Axiom os) r.assumptions m in
      let v : ◌≡◌ {A = Result Object (Fault Name)} (Ok (theorem g.sequent)) (Ok (theorem q)) =
      sym (given g here) ∙ ap value is ∙ e in
      (g, here, is, same_theorem g.sequent q (same_Ok (theorem g.sequent) (theorem q) v))

  -- what rests on some of the definitions stands on them
  stands : (es : List Made) → IsPart es r.definitions → (o : Origin Name)
      → RestsOn (basis_of IsNamed r.assumptions es) o → StandsOn al es o
  stands es part o rests =
      reached-stands al (o ∷ []) [] (basis_of IsNamed r.assumptions es) es
      (λ d m reach.
      let (x, here, is) = IsMember-map_back (λ m. m.origin) d es m in
      (x, here, ap (definition_of []) (sym is) ∙ own x (part x here)))
      (λ os q m reach e.
      let (g, here, is, same) = taken os q m e in
      subst (λ z. IsMember z al) same (IsMember-map (λ g. g.sequent) g r.assumptions here))
      o rests (Root o (inl refl))

  -- each definition may stand behind those before it, where these are accepted
  next : (k : ℕ) (m : Made) → slice_get r.definitions k ≡ Some m
      → Accepted names al (definitions_of (take k r.definitions))
      → IsNext names al (definitions_of (take k r.definitions)) m.definition
  next k m at acc =
      let es = take k r.definitions in
      let dl = definitions_of es in
      let law = lawful.definitions k m at in
      let (w, os, is) = is-define dl m.origin m.definition law.accepted in
      let on : StandsOn al es (Define w os) =
      subst (StandsOn al es) is (stands es (IsPart-take k r.definitions) m.origin law.rests) in
      ok_if (definition_of dl (Define w os)) (IsNext names al dl)
      (origin-next al dl w os (all-leaves al al es sequents acc es (λ x h. h) os on)) m.definition
      (subst (λ z. definition_of dl z ≡ Ok m.definition) is law.accepted)

  accepted-front : (k : ℕ) → Accepted names al (definitions_of (take k r.definitions))
  accepted-front zero = accepted-nil names al
  accepted-front (suc k) = go (slice_get r.definitions k) refl (accepted-front k)
    where
      go : (o : Option Made) → slice_get r.definitions k ≡ o
          → Accepted names al (definitions_of (take k r.definitions))
          → Accepted names al (definitions_of (take (suc k) r.definitions))
      go None e acc = subst (λ z. Accepted names al (definitions_of z)) (sym (take-end k r.definitions e)) acc
      go (Some m) e acc =
          subst (λ z. Accepted names al (definitions_of z)) (sym (take-next k r.definitions m e))
          (subst (Accepted names al) (sym (map-append (λ m. m.definition) (take k r.definitions) (m ∷ [])))
          (accepted-push names al (definitions_of (take k r.definitions)) m.definition acc (next k m e acc)))

  pub accepted : Accepted names al (definitions_of r.definitions)
  accepted =
      subst (λ z. Accepted names al (definitions_of z)) (take_all (length r.definitions) r.definitions (omega arith))
      (accepted-front (length r.definitions))

-- ---- the law

pub lawful_is_sound : (IsNamed : Name → Type 0) → LawfulIsSound IsNamed
lawful_is_sound IsNamed r lawful = record {
  assumptions = sequent-all;
  accepted = accepted IsNamed r lawful;
  theorems =
      λ o q fits. ok_if (value o) (IsGood al (definitions_of ms))
      (value-good al (definitions_of ms) o
      (stand-leaves al al ms (sequents IsNamed r lawful) (accepted IsNamed r lawful) ms (λ x h. h) o
      (stands IsNamed r lawful ms (λ x h. h) o fits.rests))) (theorem q) fits.value_is;
}
  where
    al : List (Sequent Name)
    al = map (λ g. g.sequent) r.assumptions

    ms : List Made
    ms = r.definitions

    sequent-all : All (IsSequent names) al
    sequent-all = All-from_members (IsSequent names) al
        (λ q m. let (g, here, is) = IsMember-map_back (λ g. g.sequent) q r.assumptions m in
        subst (IsSequent names) is (given-sequent IsNamed r lawful g here))
