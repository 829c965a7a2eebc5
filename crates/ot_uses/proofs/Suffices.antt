-- What a theorem rests on suffices for it.
use Rattle.std.specs.Prelude.{IfOk, ◌==◌, ◌&&◌}
use Rattle.std.specs.List.{AllByRecursion, list_all}
use Rattle.std.proofs.Common.{◌≡◌, ℕ, zero, suc, Bool, true, false, List, [], ◌∷◌, Option, Some, None, Result}
use Rattle.std.proofs.Common.{Ok, Err, refl, sym, ap, subst, ◌∙◌, length, map, take, slice_get, inl, inr}
use Rattle.std.proofs.lemmas.Option.{same_Some}
use Rattle.std.proofs.lemmas.List.{take-map}
use Rattle.ot_logic.specs.Names.{Name}
use Rattle.ot_logic.specs.Naming.{names}
use Rattle.ot_logic.specs.Lists.{IsMember, IsPart, AreDistinct}
use Rattle.ot_logic.specs.Trees.{Sequent, Definition, ConDef, ListDef, TyDef, Tm}
use Rattle.ot_logic.specs.Hol.{HasType, IsSequent, Defined, Accepted, bool_ty}
use Rattle.ot_logic.specs.Hol.{once_each, theorems, is_shallow_sequent}
use Rattle.ot_logic.specs.Rules.{has_type}
use Rattle.ot_logic.specs.Faults.{Fault, StackEmpty, NotBool, Nesting}
use Rattle.ot_logic.specs.Answers.{◌>>=◌, unless, some_or}
use Rattle.ot_logic.specs.declared.command.Cmd.{Cmd}
use Rattle.ot_logic.specs.declared.command.Cmd.TheVariants as words
use Rattle.ot_laws.specs.Theorem.{IsTheorem, AreSequents}
use Rattle.ot_laws.proofs.Tests.{tells_names, has_type-is}
use Rattle.ot_laws.proofs.Hypotheses.{same_set-once_each, distinct-once_each}
use Rattle.ot_laws.proofs.Definitions.{no_hyps-theorems, accepted-sequents}
use Rattle.ot_laws.proofs.Theorems.{assumption-theorem}
use Rattle.ot_machine.specs.Objects.{Object, theorem}
use Rattle.ot_trace.specs.Origins.{Origin, Origins, Number, Named, Make, Define, Outcome, NoOrigins, MoreOrigins}
use Rattle.ot_machine.specs.Places.{as_list, as_term, as_theorem, as_name, as_each}
use Rattle.ot_kernel.specs.Axioms.{axiom_rule}
use Rattle.ot_machine.specs.Makers.{Read, axiom_made, maker}
use Rattle.ot_kernel.specs.Defining.{const_definition, list_definition, type_definition}
use Rattle.ot_kernel.specs.Defining.{limited_definition, zipped, all_defined, all_used}
use Rattle.ot_laws.specs.Conditions.{checked_const, checked_list, checked_type}
use Rattle.ot_machine.specs.DefinitionLists.{pairs_of}
use Rattle.ot_machine.specs.States.{Made}
use Rattle.ot_machine.specs.Values.{value, values, value_at, applied, definition_of}
use Rattle.ot_machine.specs.Values.{defines, defined_by, definition_arity, theorem_of}
use Rattle.ot_uses.proofs.Parted.{IsInOrder, HasPremise, HavePremises}
use Rattle.ot_uses.proofs.Leaves.{IsGood, IsLeaf, HasLeaves, HaveLeaves}
use Rattle.ot_machine.specs.Rows.{definitions_of}
use Rattle.ot_uses.proofs.Resting.{IsAssumed, StandsOn, AllStand, PartsSuffice}
use Rattle.ot_uses.proofs.Parted.{accepted_part}
use Rattle.ot_uses.proofs.Goodness.{if_bind, any_bind, value_at-good, read-theorem, value-good, values-good}
use Rattle.ot_logic.proofs.Elements.{slice_get-map}
use Rattle.ot_logic.proofs.Members.{IsMember-at, IsMember-map, IsPart-map, IsPart-take, IsMember-place}
use Rattle.ot_logic.proofs.Results.{if_ok}

-- ---- axioms

-- a theorem whose terms are propositions, and whose hypotheses are distinct
abbrev pub IsProposed : Object → Type 0
IsProposed (theorem q) = IsSequent names q × AreDistinct q.hyps
IsProposed _ = ⊥

pub ok_if : {A E : Type 0} (r : Result A E) (P : A → Type 0) → IfOk r P → (x : A) → r ≡ Ok x → P x
ok_if (Ok y) P h x e = let q : y ≡ x = cc in subst P q h
ok_if (Err d) P h x e = absurd cc

all_part : {A : Type 0} (P : A → Type 0) (xs ys : List A) → AllByRecursion P xs → IsPart ys xs → AllByRecursion P ys
all_part P xs [] h p = tt
all_part P xs (y ∷ ys) h p = (at xs h y (p y (inl refl)), all_part P xs ys h (λ z m. p z (inr m)))
  where
    at : (zs : List _) → AllByRecursion P zs → (z : _) → IsMember z zs → P z
    at [] k z m = absurd m
    at (w ∷ zs) k z (inl e) = subst P e k.0
    at (w ∷ zs) k z (inr m) = at zs k.1 z m

all_bool : (hs : List (Tm Name)) → list_all (λ h. has_type names h (bool_ty names)) hs ≡ true
    → AllByRecursion (λ h. HasType names h (bool_ty names)) hs
all_bool [] e = tt
all_bool (h ∷ hs) e = go (has_type names h (bool_ty names)) refl e (all_bool hs)
  where
    go : (b : Bool) → has_type names h (bool_ty names) ≡ b
        → (b && list_all (λ k. has_type names k (bool_ty names)) hs) ≡ true
        → (list_all (λ k. has_type names k (bool_ty names)) hs ≡ true
        → AllByRecursion (λ k. HasType names k (bool_ty names)) hs)
        → AllByRecursion (λ k. HasType names k (bool_ty names)) (h ∷ hs)
    go true a f next = ((has_type-is names tells_names h (bool_ty names)).0 a, next f)
    go false a f next = absurd cc

rule-proposed : (hs : List (Tm Name)) (p : Tm Name)
    → IfOk (axiom_rule hs p) (λ q. IsSequent names q × AreDistinct q.hyps)
rule-proposed hs p = go (has_type names p (bool_ty names)) refl (list_all (λ h. has_type names h (bool_ty names)) hs)
    refl
  where
    go : (b : Bool) → has_type names p (bool_ty names) ≡ b → (c : Bool)
        → list_all (λ h. has_type names h (bool_ty names)) hs ≡ c
        → IfOk {E = Fault Name} (unless NotBool b
        >>= λ x. unless NotBool c >>= λ y. Ok (record { hyps = once_each names hs; concl = p }))
        (λ q. IsSequent names q × AreDistinct q.hyps)
    go false e c f = tt
    go true e false f = tt
    go true e true f = (
      record {
        hyps =
            all_part (λ h. HasType names h (bool_ty names)) hs (once_each names hs)
            (all_bool hs f) (same_set-once_each names tells_names hs).back;
        concl = (has_type-is names tells_names p (bool_ty names)).0 e;
      },
      distinct-once_each names tells_names hs,
    )

axiom-proposed : (r s : Read) → IfOk (axiom_made r s) IsProposed
axiom-proposed r s =
    any_bind (r >>= as_term)
    (λ p. (s >>= as_list >>= as_each as_term) >>= λ hs. axiom_rule hs p >>= λ q. Ok (theorem q)) IsProposed
    (λ p. any_bind (s >>= as_list >>= as_each as_term) (λ hs. axiom_rule hs p >>= λ q. Ok (theorem q)) IsProposed
    (λ hs. if_bind (axiom_rule hs p) (λ q. Ok (theorem q))
    (λ q. IsSequent names q × AreDistinct q.hyps) IsProposed (rule-proposed hs p) (λ q t. t)))

pub value-axiom : (os : Origins Name) → IfOk (value (Make words.Axiom os)) IsProposed
value-axiom os =
    any_bind (values os) (applied (maker words.Axiom)) IsProposed
    (λ vs. any_bind (unless StackEmpty (length vs == 2)) (λ x. axiom_made (value_at 0 vs) (value_at 1 vs))
    IsProposed (λ x. axiom-proposed (value_at 0 vs) (value_at 1 vs)))

-- ---- leaves

pub get-map : {A B : Type 0} (f : A → B) (xs : List A) (i : ℕ) (y : B) → slice_get (map f xs) i ≡ Some y
    → (x : A) × (slice_get xs i ≡ Some x) × (f x ≡ y)
get-map f [] i y e = absurd cc
get-map f (x ∷ xs) zero y e = (x, refl, same_Some (f x) y e)
get-map f (x ∷ xs) (suc i) y e = get-map f xs i y e

module _ (al bl : List (Sequent Name)) (ms : List Made) (seqs : AreSequents names al)
    (acc : Accepted names al (definitions_of ms)) where
  axiom-leaf : (es : List Made) (os : Origins Name) → IsAssumed bl es words.Axiom os
      → IsLeaf bl (definitions_of es) words.Axiom os
  axiom-leaf es os assumed =
      if_ok (value (Make words.Axiom os)) (IsGood bl (definitions_of es))
      (λ v e. good v e (ok_if (value (Make words.Axiom os)) IsProposed (value-axiom os) v e))
    where
      good : (v : Object) → value (Make words.Axiom os) ≡ Ok v → IsProposed v → IsGood bl (definitions_of es) v
      good (theorem q) e p =
          let (i, at) = IsMember-place q bl (assumed q e) in
          assumption-theorem names bl (definitions_of es) i q at p.0 p.1
      good _ e p = absurd p

  leaf : (es : List Made) (w : Cmd) (os : Origins Name) → IsAssumed bl es w os → IsLeaf bl (definitions_of es) w os
  leaf es words.Axiom os s = axiom-leaf es os s
  leaf es _ os s = tt

  outcome-good : (es : List Made) → IsPart es ms → (m : Made) → IsMember m es → (j : ℕ)
      → IfOk (theorem_of j m.definition) (IsGood bl (definitions_of es))
  outcome-good es part m here zero = tt
  outcome-good es part m here (suc j) = go (slice_get (theorems names m.definition) j) refl
    where
      go : (o : Option (Sequent Name)) → slice_get (theorems names m.definition) j ≡ o
          → IfOk {E = Fault Name} (some_or StackEmpty o >>= λ q. Ok (theorem q)) (IsGood bl (definitions_of es))
      go None e = tt
      go (Some q) e =
          let (i, at) =
          IsMember-place m.definition (definitions_of es) (IsMember-map (λ x. x.definition) m es here) in
          let (k, old) =
          IsMember-place m.definition (definitions_of ms) (IsMember-map (λ x. x.definition) m ms (part m here)) in
          record {
            derivable = Defined i j at e;
            sequent = accepted-sequents names tells_names al (definitions_of ms) seqs acc k m.definition old j q e;
            distinct = subst AreDistinct (sym (no_hyps-theorems names m.definition j q e)) tt;
          }

  mutual
    pub stand-leaves : (es : List Made) → IsPart es ms → (o : Origin Name) → StandsOn bl es o
        → HasLeaves bl (definitions_of es) o
    stand-leaves es part (Number k) s = tt
    stand-leaves es part (Named n) s = tt
    stand-leaves es part (Make w os) s = (all-leaves es part os s.0, leaf es w os s.1)
    stand-leaves es part (Define w os) s = tt
    stand-leaves es part (Outcome j d) s = rw s.2 (outcome-good es part s.0 s.1 j)

    pub all-leaves : (es : List Made) → IsPart es ms → (os : Origins Name) → AllStand bl es os
        → HaveLeaves bl (definitions_of es) os
    all-leaves es part NoOrigins s = tt
    all-leaves es part (MoreOrigins o os) s = (stand-leaves es part o s.0, all-leaves es part os s.1)

-- ---- premises

module _ (al : List (Sequent Name)) (dl : List (Definition Name)) where
  abbrev IsPremised : Definition Name → Type 0
  IsPremised = HasPremise names al dl

  limited-premised : (d : Definition Name) → IsPremised d → IfOk (limited_definition names d) IsPremised
  limited-premised d h =
      any_bind (unless Nesting (list_all (is_shallow_sequent names) (theorems names d))) (λ x. Ok d) IsPremised
      (λ x. h)

  by-word : (w : Cmd) (ds : List (Definition Name)) (vs : List Object) → AllByRecursion (IsGood al dl) vs
      → IfOk (defined_by w ds (λ n. value_at n vs)) IsPremised
  by-word words.DefineConst ds vs g =
      any_bind (value_at 0 vs >>= as_term) (λ t. (value_at 1 vs >>= as_name) >>= λ n. const_definition names ds n t)
      IsPremised
      (λ t. any_bind (value_at 1 vs >>= as_name) (λ n. const_definition names ds n t) IsPremised
      (λ n. any_bind (checked_const names (all_defined names ds) (all_used names ds) n t)
      (λ x. limited_definition names (ConDef n t)) IsPremised (λ x. limited-premised (ConDef n t) tt)))
  by-word words.DefineConstList ds vs g =
      if_bind (value_at 0 vs >>= as_theorem) (λ th. (value_at 1 vs >>= as_list)
      >>= λ os. pairs_of os >>= λ pairs. list_definition names ds (map (λ p. p.0) pairs) (map (λ p. p.1) pairs) th)
      (IsTheorem names al dl) IsPremised (read-theorem al dl (value_at 0 vs) (value_at-good al dl vs g 0))
      (λ th t. any_bind (value_at 1 vs >>= as_list)
      (λ os. pairs_of os >>= λ pairs. list_definition names ds (map (λ p. p.0) pairs) (map (λ p. p.1) pairs) th)
      IsPremised
      (λ os. any_bind (pairs_of os)
      (λ pairs. list_definition names ds (map (λ p. p.0) pairs) (map (λ p. p.1) pairs) th) IsPremised
      (λ pairs. any_bind
      (checked_list names (all_defined names ds) (all_used names ds) (map (λ p. p.0) pairs) (map (λ p. p.1) pairs) th)
      (λ x. Ok (ListDef (zipped names (map (λ p. p.0) pairs) (map (λ p. p.1) pairs)) th)) IsPremised
      (λ x. t.derivable))))
  by-word words.DefineTypeOp ds vs g =
      if_bind (value_at 0 vs >>= as_theorem) (λ th. (value_at 1 vs >>= as_list >>= as_each as_name)
      >>= λ vars. (value_at 2 vs >>= as_name)
      >>= λ rep. (value_at 3 vs >>= as_name)
      >>= λ abs. (value_at 4 vs >>= as_name) >>= λ n. type_definition names ds n abs rep vars th)
      (IsTheorem names al dl) IsPremised (read-theorem al dl (value_at 0 vs) (value_at-good al dl vs g 0))
      (λ th t. any_bind (value_at 1 vs >>= as_list >>= as_each as_name)
      (λ vars. (value_at 2 vs >>= as_name)
      >>= λ rep. (value_at 3 vs >>= as_name)
      >>= λ abs. (value_at 4 vs >>= as_name) >>= λ n. type_definition names ds n abs rep vars th)
      IsPremised
      (λ vars. any_bind (value_at 2 vs >>= as_name) (λ rep. (value_at 3 vs >>= as_name)
      >>= λ abs. (value_at 4 vs >>= as_name) >>= λ n. type_definition names ds n abs rep vars th)
      IsPremised
      (λ rep. any_bind (value_at 3 vs >>= as_name)
      (λ abs. (value_at 4 vs >>= as_name) >>= λ n. type_definition names ds n abs rep vars th) IsPremised
      (λ abs. any_bind (value_at 4 vs >>= as_name) (λ n. type_definition names ds n abs rep vars th) IsPremised
      (λ n. any_bind (checked_type names (all_defined names ds) (all_used names ds) n abs rep vars th)
      (λ x. limited_definition names (TyDef n abs rep vars th)) IsPremised
      (λ x. limited-premised (TyDef n abs rep vars th) t.derivable))))))
  by-word _ ds vs g = tt

  premised : (w : Cmd) (os : Origins Name) (ds : List (Definition Name)) → HaveLeaves al dl os
      → IfOk (definition_of ds (Define w os)) IsPremised
  premised w os ds l =
      if_bind (values os) (defines w ds) (AllByRecursion (IsGood al dl)) IsPremised (values-good al dl os l)
      (λ vs g. any_bind (unless StackEmpty (length vs == definition_arity w))
      (λ x. defined_by w ds (λ n. value_at n vs)) IsPremised (λ x. by-word w ds vs g))

-- ---- the law

pub parts_suffice : PartsSuffice
parts_suffice al bl ms es seqs acc order made = record {
  accepted = accepted_part names al bl (definitions_of ms) (definitions_of es) acc in-order premises;
  theorems =
      λ o q s e. ok_if (value o) (IsGood bl (definitions_of es))
      (value-good bl (definitions_of es) o (stand-leaves al bl ms seqs acc es part o s)) (theorem q) e;
}
  where
    part : IsPart es ms
    part x m = let (i, at) = IsMember-place x es m in let (k, old, before) = order i x at in IsMember-at ms k x old

    in-order : IsInOrder (definitions_of es) (definitions_of ms)
    in-order i d at =
        let (m, here, same) = get-map (λ m. m.definition) es i d at in
        let (k, old, before) = order i m here in (
          k,
          slice_get-map (λ m. m.definition) ms k m old ∙ ap Some same,
          subst (λ z. IsPart z (take k (definitions_of ms))) (sym (take-map (λ m. m.definition) i es))
              (subst (λ z. IsPart (definitions_of (take i es)) z) (sym (take-map (λ m. m.definition) k ms))
              (IsPart-map (λ m. m.definition) (take i es) (take k ms) before)),
        )

    premises : HavePremises names bl (definitions_of es)
    premises i d at =
        let (m, here, same) = get-map (λ m. m.definition) es i d at in
        let s = made i m here in
        let (k, old, before) = order i m here in
        let inner : IsPart (take i es) ms = λ x n. IsPart-take k ms x (before x n) in
        let h = ok_if (definition_of s.before (Define s.word s.operands))
        (HasPremise names bl (definitions_of (take i es)))
        (premised bl (definitions_of (take i es)) s.word s.operands s.before
        (all-leaves al bl ms seqs acc (take i es) inner s.operands s.stand))
        m.definition s.accepted in
        subst (λ z. HasPremise names bl z d) (sym (take-map (λ m. m.definition) i es))
        (subst (λ z. HasPremise names bl (definitions_of (take i es)) z) same h)
