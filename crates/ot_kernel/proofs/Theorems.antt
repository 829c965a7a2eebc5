-- A theorem that follows, at the end of those that a kernel holds.
use Rattle.std.specs.Prelude.{Bool, Result, Ok, Err, IfOk, IfErr}
use Rattle.std.specs.List.{All}
use Rattle.std.proofs.Common.{◌≡◌, ℕ, ◌<◌, List, [], ◌∷◌, ◌++◌, map, length, slice_index_or}
use Rattle.std.proofs.Common.{refl, sym, ap, ◌∙◌, subst, arith, length-append}
use Rattle.std.proofs.lemmas.List.{get_or_append_left, length-map}
use Rattle.std.proofs.lemmas.List.Elements.{All-head, All-tail, All-push}
use Rattle.ot_logic.specs.Names.{Name}
use Rattle.ot_logic.specs.Faults.{Fault}
use Rattle.ot_logic.specs.Trees.{Bound, Sequent}
use Rattle.ot_logic.specs.Hol.{same_sequent}
use Rattle.ot_logic.specs.NamedTerms.{nameless}
use Rattle.ot_logic.specs.Naming.{names, numbers, name_of}
use Rattle.ot_logic.specs.Renamed.{map_tm, map_named, map_sequent}
use Rattle.ot_logic.proofs.Lift.{map-nameless}
use Rattle.ot_logic.proofs.Naming.{naming, lettering}
use Rattle.ot_logic.specs.Table.{Extends}
use Rattle.ot_logic.proofs.TableLemmas.{Extends-refl, Extends-trans, Extends-append}
use Rattle.ot_logic.specs.RanOut.{ran_out}
use Rattle.ot_term.specs.Term.{TermTable}
use Rattle.ot_term.specs.TermTable as terms
use Rattle.ot_laws.specs.Theorem.{IsTheorem}
use Rattle.ot_kernel.specs.declared.theorem.Theorem.{Theorem}
use Rattle.ot_kernel.specs.declared.fault.RuleFault.{RuleFault}
use Rattle.ot_kernel.specs.declared.fault.RuleFault.TheVariants.{Memory}
use Rattle.ot_kernel.specs.State.{State, term_at, terms_at, sequent_at, theorem_at, Keeps, SameBasis, SameTheorems, IsSoundState}
use Rattle.ot_kernel.specs.Definitions.{IsSignature}
use Rattle.ot_kernel.specs.Spelled.{Held, sequent_of, sequents_at, undefined_state, state_of, IsInside, IsKernel}
use Rattle.ot_kernel.proofs.Placing.{places-grown}
use Rattle.ot_kernel.proofs.Accepted.{held_stay, definitions_kept}
use Rattle.ot_kernel.specs.Numbered.{tm_at, tms_at, numbered_sequent}
use Rattle.ot_kernel.specs.Answers.{Concludes}
use Rattle.ot_kernel.proofs.Carried.{carry-sequents}
use Rattle.ot_kernel.proofs.EquationRules.{memory_refuses}
use Rattle.ot_kernel.proofs.Numbers.{real_term}
use Rattle.ot_kernel.proofs.Namings.{index-map, map-push, table_names}

-- ---- a number of a theorem
pub real_theorem : (ns : List Name) (t : TermTable) (held : Held) (now : State) → state_of ns t held ≡ now
    → (i : ℕ) (th : Theorem) → i < length now.theorems → th ≡ slice_index_or held.theorems i th
    → ◌≡◌ {A = Sequent Name} (record { hyps = terms_at now th.hyps; concl = term_at now th.concl })
    (theorem_at now i)
real_theorem ns t held now view i th h p =
    let e = ap (λ (s : State). length s.theorems) view in
    let f = sequent_of (state_of ns t held).terms in
    ap (λ (s : State). record { hyps = terms_at s th.hyps; concl = term_at s th.concl }) (sym view)
    ∙ ap f p
    ∙ sym (index-map f held.theorems i th (record { hyps = []; concl = Bound 0 })
    (omega (arith, e, length-map held.theorems f)))
    ∙ ap (λ s. theorem_at s i) view

-- ---- a sequent that is compared with a theorem's
module _ (ns : List Name) (t : TermTable) (held : Held) (now : State) (view : state_of ns t held ≡ now)
    (k : IsKernel ns t held) where
  pub real_tm : (i : ℕ) → i < length now.terms → map_tm (name_of ns) (tm_at t.terms i) ≡ term_at now i
  real_tm i h = map-nameless (naming ns) numbers names (lettering ns (table_names ns k.names))
      (terms.term_at t.terms i) ∙ ap (nameless names) (real_term ns t held now view k i h)

  real_tms : (is : List ℕ) → All (λ i. i < length now.terms) is → map (map_tm (name_of ns)) (tms_at t.terms is)
      ≡ terms_at now is
  real_tms [] h = refl
  real_tms (i ∷ is) h =
      let a = real_tm i (All-head (λ i. i < length now.terms) i is h) in
      let b = real_tms is (All-tail (λ i. i < length now.terms) i is h) in
      λ j. a j ∷ b j

  pub real_sequent : (hyps : List ℕ) (concl : ℕ) → All (λ i. i < length now.terms) hyps → concl < length now.terms
      → ◌≡◌ {A = Sequent Name}
      (map_sequent (name_of ns) (record { hyps = tms_at t.terms hyps; concl = tm_at t.terms concl }))
      (record { hyps = terms_at now hyps; concl = term_at now concl })
  real_sequent hyps concl h g = let a = real_tms hyps h in let b = real_tm concl g in
      λ j. record { hyps = a j; concl = b j }

  pub same-real : (i : ℕ) (th : Theorem) (hyps : List ℕ) (concl : ℕ) (b : Bool) → i < length now.theorems
      → th ≡ slice_index_or held.theorems i th → All (λ i. i < length now.terms) hyps → concl < length now.terms
      → b ≡ same_sequent numbers (numbered_sequent t.terms th)
      (record { hyps = tms_at t.terms hyps; concl = tm_at t.terms concl })
      → b ≡ same_sequent names (theorem_at now i) (record { hyps = terms_at now hyps; concl = term_at now concl })
  same-real i th hyps concl b h p g l q =
      let e = ap (λ (s : State). length s.theorems) view in
      let d = ap (λ (s : State). length s.terms) view in
      let f = length-map held.theorems (sequent_of (state_of ns t held).terms) in
      let n = length-map t.terms (map_named (name_of ns)) in
      let inside : IsInside (length t.terms) th =
      subst (IsInside (length t.terms)) (sym p) (k.inside i th (omega (arith, e, f))) in
      let within : All (λ i. i < length now.terms) th.hyps = λ j x m. let w = inside.hyps j x m in
      omega (arith, d, n) in
      let left = real_sequent th.hyps th.concl within (omega (arith, d, n, inside.concl))
      ∙ real_theorem ns t held now view i th h p in
      let right = real_sequent hyps concl g l in
      carry-sequents (naming ns) numbers names (lettering ns (table_names ns k.names))
      (λ L c y z. b ≡ same_sequent c y z) (numbered_sequent t.terms th)
      (record { hyps = tms_at t.terms hyps; concl = tm_at t.terms concl }) q
      ∙ (λ j. same_sequent names (left j) (right j))

  -- two sequents that are compared
  pub same_sequent-real : (gs hs : List ℕ) (a b : ℕ) → All (λ i. i < length now.terms) gs
      → All (λ i. i < length now.terms) hs → a < length now.terms → b < length now.terms
      → same_sequent numbers (record { hyps = tms_at t.terms gs; concl = tm_at t.terms a })
      (record { hyps = tms_at t.terms hs; concl = tm_at t.terms b })
      ≡ same_sequent names (sequent_at now gs a) (sequent_at now hs b)
  same_sequent-real gs hs a b within inside left_concl right_concl =
      let q : Sequent ℕ = record { hyps = tms_at t.terms gs; concl = tm_at t.terms a } in
      let r : Sequent ℕ = record { hyps = tms_at t.terms hs; concl = tm_at t.terms b } in
      let left = real_sequent gs a within left_concl in
      let right = real_sequent hs b inside right_concl in
      carry-sequents (naming ns) numbers names (lettering ns (table_names ns k.names))
      (λ L c y z. same_sequent numbers q r ≡ same_sequent c y z) q r refl
      ∙ (λ j. same_sequent names (left j) (right j))

-- ---- one theorem more
pub sequents_at-push : (qs : List (Sequent Name)) (q : Sequent Name) (is : List ℕ) → All (λ i. i < length qs) is
    → sequents_at (qs ++ q ∷ []) is ≡ sequents_at qs is
sequents_at-push qs q [] h = refl
sequents_at-push qs q (i ∷ is) h =
    let a = get_or_append_left qs (q ∷ []) (record { hyps = []; concl = Bound 0 }) i
    (All-head (λ i. i < length qs) i is h) in
    let b = sequents_at-push qs q is (All-tail (λ i. i < length qs) i is h) in
    λ j. a j ∷ b j

-- what the tables keep, and what they stand for
pub record Pushed (now : State) (ns : List Name) (t : TermTable) (more : Held) (th : Theorem) : Type 0 where
  pub kernel : IsKernel ns t more
  pub state : state_of ns t more ≡ record now { theorems = now.theorems ++ sequent_of now.terms th ∷ [] }

pushed_from : (ns : List Name) (t : TermTable) (held : Held) (ths : List Theorem) (th : Theorem) → IsKernel ns t held
    → ths ≡ held.theorems ++ th ∷ [] → IsInside (length (state_of ns t held).terms) th
    → IsTheorem names (state_of ns t held).assumptions (state_of ns t held).definitions
    (sequent_of (state_of ns t held).terms th) → Pushed (state_of ns t held) ns t (record held { theorems = ths })
    th
pushed_from ns t held ths th k e inside follows =
    subst (λ l. Pushed (state_of ns t held) ns t (record held { theorems = l }) th) (sym e)
    (record { kernel = kernel; state = state })
  where
    f : Theorem → Sequent Name
    f = sequent_of (state_of ns t held).terms

    q : Sequent Name
    q = f th

    qs : List (Sequent Name)
    qs = map f held.theorems

    more : Held
    more = record held { theorems = held.theorems ++ th ∷ [] }

    theorems : map f (held.theorems ++ th ∷ []) ≡ qs ++ q ∷ []
    theorems = map-push f held.theorems th

    longer : Extends qs (map f (held.theorems ++ th ∷ []))
    longer = subst (Extends qs) (sym theorems) (Extends-append qs (q ∷ []))

    assumed : sequents_at (map f (held.theorems ++ th ∷ [])) held.assumptions ≡ sequents_at qs held.assumptions
    assumed =
        ap (λ l. sequents_at l held.assumptions) theorems
        ∙ sequents_at-push qs q held.assumptions
        (λ i d h. let l = k.numbered i d h in omega (arith, l, length-map held.theorems f))

    defined : (state_of ns t more).definitions ≡ (state_of ns t held).definitions
    defined = definitions_kept ns t held (undefined_state ns t more) k (Extends-refl _) (Extends-refl _) longer

    state : state_of ns t more ≡ record (state_of ns t held) { theorems = qs ++ q ∷ [] }
    state = λ i. record (state_of ns t held)
        { theorems = theorems i; assumptions = assumed i; definitions = defined i }

    sound : IsSoundState (record (state_of ns t held) { theorems = qs ++ q ∷ [] })
    sound = record {
      theorems = All-push (IsTheorem names (sequents_at qs held.assumptions) (state_of ns t held).definitions) qs q
          k.sound.theorems follows;
      assumptions = k.sound.assumptions;
      accepted = k.sound.accepted;
      names = k.sound.names;
      apart = k.sound.apart;
    }

    kernel : IsKernel ns t more
    kernel = record {
      names = k.names;
      types = k.types;
      terms = k.terms;
      table = k.table;
      inside = All-push (IsInside (length t.terms)) held.theorems th k.inside
          (subst (λ n. IsInside n th) (length-map t.terms (map_named (name_of ns))) inside);
      numbered = λ i d h. let l = k.numbered i d h in omega (arith, l, length-append held.theorems (th ∷ []));
      accepted = held_stay (state_of ns t held) (state_of ns t more) (Extends-refl _) (Extends-refl _) longer
          held.definitions k.accepted;
      signature = subst (λ dl. IsSignature ns dl held.signature) (sym defined) k.signature;
      placed = places-grown (length t.terms) t.classes t.classes held.theorems (held.theorems ++ th ∷ [])
          held.assumptions held.places k.table.classed (Extends-refl _) (Extends-append held.theorems (th ∷ []))
          k.numbered k.inside k.placed;
      sound = subst IsSoundState (sym state) sound;
    }

-- the same from the state that contracts see
pub pushed : (ns : List Name) (t : TermTable) (held : Held) (now : State) (ths : List Theorem) (th : Theorem)
    → state_of ns t held ≡ now → IsKernel ns t held → ths ≡ held.theorems ++ th ∷ [] → IsInside (length now.terms) th
    → IsTheorem names now.assumptions now.definitions (sequent_of now.terms th)
    → Pushed now ns t (record held { theorems = ths }) th
pushed ns t held now ths th view k e =
    subst (λ s. IsInside (length s.terms) th → IsTheorem names s.assumptions s.definitions (sequent_of s.terms th)
    → Pushed s ns t (record held { theorems = ths }) th) view (pushed_from ns t held ths th k e)

-- ---- what a rule answers
pub record Concluded (result : Result ℕ RuleFault) (stated : Result (Sequent Name) (Fault Name))
    (now new : State) : Type 0 where
  pub concludes : Concludes result stated now new
  pub keeps : Keeps now new
  pub same : SameBasis now new

-- the state mid, where terms may be new, with the theorem that the rule states
pub concluded : (result : Result ℕ RuleFault) (stated : Result (Sequent Name) (Fault Name)) (now mid new : State)
    (q : Sequent Name) → Keeps now mid → SameTheorems now mid → stated ≡ Ok q
    → IfOk result (λ id. (new ≡ record mid { theorems = mid.theorems ++ q ∷ [] }) × (id ≡ length mid.theorems))
    → IfErr result (λ e. (new ≡ mid) × (e ≡ Memory ran_out)) → Concluded result stated now new
concluded (Ok id) stated now mid new q keeps same s ok err =
    subst (λ n. Concluded (Ok id) stated now n) (sym ok.0) (record {
      concludes = (q, s, ap (λ l. l ++ q ∷ []) same.theorems, ok.1 ∙ ap length same.theorems);
      keeps = record {
        names = keeps.names;
        types = keeps.types;
        terms = keeps.terms;
        classes = keeps.classes;
        theorems = Extends-trans keeps.theorems (Extends-append mid.theorems (q ∷ []));
        assumptions = keeps.assumptions;
        definitions = keeps.definitions;
      };
      same = record { assumptions = same.basis.assumptions; definitions = same.basis.definitions };
    })
concluded (Err (Memory memory)) stated now mid new q keeps same s ok err = subst (λ n. Concluded (Err (Memory memory)) stated now n)
    (sym err.0) (record { concludes = (same.theorems, memory_refuses stated); keeps = keeps; same = same.basis })
concluded (Err e) stated now mid new q keeps same s ok err = cc
