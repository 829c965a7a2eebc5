-- A sequent that becomes an assumption.
use Rattle.std.specs.Prelude.{◌≡◌, ℕ, ◌<◌, Bool, true, false, cond, if◌then◌else◌, is_ok}
use Rattle.std.specs.Prelude.{is_err, find, List, [], ◌∷◌, ◌++◌, map, length}
use Rattle.std.specs.Prelude.{slice_index_or, Option, Some, None, Result, Ok, Err, IfOk, IfErr}
use Rattle.std.specs.List.{All, AllByRecursion, list_all}
use Rattle.std.proofs.Common.{◌+◌, zero, suc, get_or, drop, refl, sym, ap}
use Rattle.std.proofs.Common.{◌∙◌, subst, arith, length-append, ◌⊎◌, inl, inr}
use Rattle.std.proofs.Math.Seq.{get_or-append_seam}
use Rattle.std.proofs.lemmas.List.Elements.{All-push}
use Rattle.std.proofs.lemmas.List.Quantifiers.{all_pairs_push}
use Rattle.std.proofs.lemmas.List.{length-map}
use Rattle.ot_logic.specs.Lists.{AreDistinct}
use Rattle.ot_logic.specs.Names.{Name}
use Rattle.ot_logic.specs.Trees.{Ty, Tm, Bound, Sequent, Definition}
use Rattle.ot_logic.specs.Faults.{Fault, NotBool}
use Rattle.ot_logic.specs.Hol.{bool_ty, once_each, same_sequent, HasType, IsSequent}
use Rattle.ot_logic.specs.NamedTerms.{nameless}
use Rattle.ot_logic.specs.Naming.{names, numbers, name_of}
use Rattle.ot_logic.specs.Renamed.{map_named}
use Rattle.ot_logic.specs.Rules.{has_type}
use Rattle.ot_logic.proofs.InternedLemmas.{slice_get-last}
use Rattle.ot_logic.specs.Table.{Extends}
use Rattle.ot_logic.proofs.TableLemmas.{Extends-refl, Extends-append}
use Rattle.ot_logic.specs.RanOut.{ran_out}
use Rattle.ot_term.specs.Term.{TermTable}
use Rattle.ot_laws.specs.Theorem.{IsTheorem}
use Rattle.ot_laws.proofs.Grown.{grown-accepted}
use Rattle.ot_laws.proofs.Hypotheses.{same_set-once_each, distinct-once_each}
use Rattle.ot_laws.proofs.Tests.{tells_names, cases_of, has_type-is}
use Rattle.ot_laws.proofs.Theorems.{grown-theorem, assumption-theorem}
use Rattle.ot_laws.proofs.Typed.{part-typed}
use Rattle.ot_kernel.specs.declared.theorem.Theorem.{Theorem}
use Rattle.ot_kernel.specs.declared.fault.RuleFault.{RuleFault}
use Rattle.ot_kernel.specs.declared.fault.RuleFault.TheVariants.{Memory}
use Rattle.ot_kernel.specs.declared.fault.RuleFault.TheVariants as rules
use Rattle.ot_kernel.specs.State.{State, type_at, term_at, terms_at, Keeps, SameTheorems, IsSoundState}
use Rattle.ot_kernel.specs.Definitions.{IsSignature}
use Rattle.ot_kernel.specs.declared.key.SequentKey.{SequentKey}
use Rattle.ot_kernel.specs.Keys.{IsKeyOf}
use Rattle.ot_kernel.specs.Places.{IsPlaced}
use Rattle.ot_kernel.specs.Spelled.{Held, sequent_of, sequents_at, undefined_state, state_of, IsInside, IsKernel}
use Rattle.ot_kernel.specs.Numbered.{tms_at}
use Rattle.ot_kernel.specs.Axioms.{axiom_rule, known, with_sequent, with_theorem}
use Rattle.ot_kernel.specs.Answers.{Assumes, RefusesRule}
use Rattle.ot_kernel.specs.Supposed.{IsProposed, IsSupposed, supposing}
use Rattle.ot_kernel.proofs.Placing.{places-noted, places-more}
use Rattle.ot_kernel.proofs.Accepted.{held_stay, definitions_kept}
use Rattle.ot_kernel.proofs.EquationRules.{refuses_rule, memory_refuses}
use Rattle.ot_kernel.proofs.Growth.{named_at-Extends, hyps-Extends}
use Rattle.ot_kernel.proofs.Later.{Later, now_within, alphabet_at, over-terms}
use Rattle.ot_kernel.proofs.Namings.{map-push, map-drop}
use Rattle.ot_kernel.proofs.Theorems.{sequents_at-push}

-- ---- growth
-- ---- a new assumption
-- what the tables keep, and what they stand for
pub record Assumed (now : State) (ns : List Name) (t : TermTable) (more : Held) (th : Theorem) : Type 0 where
  pub kernel : IsKernel ns t more
  pub state : state_of ns t more ≡ supposing now (sequent_of now.terms th)

sequents_at-last : (qs : List (Sequent Name)) (q : Sequent Name) (is : List ℕ) → All (λ i. i < length qs) is
    → sequents_at (qs ++ q ∷ []) (is ++ length qs ∷ []) ≡ sequents_at qs is ++ q ∷ []
sequents_at-last qs q is h =
    let last = get_or-append_seam qs q [] (record { hyps = []; concl = Bound 0 }) in
    let old = sequents_at-push qs q is h in
    map-push (λ i. slice_index_or (qs ++ q ∷ []) i (record { hyps = []; concl = Bound 0 })) is (length qs)
    ∙ (λ j. old j ++ last j ∷ [])

-- a sequent that no assumption is
abbrev IsNew : State → Theorem → Type 0
IsNew s th = find (λ r. same_sequent names r (sequent_of s.terms th)) s.assumptions ≡ None

-- what is found nowhere passes nowhere
none-passes : {X : Type 0} (p : X → Bool) (xs : List X) → find p xs ≡ None → (k : ℕ) (d : X) → k < length xs
    → p (get_or xs k d) ≡ false
none-passes p [] h k d l = absurd (omega (arith, l))
none-passes {X} p (x ∷ xs) h k d l = by (p x) refl (none-passes p xs) k l
  where
    found : (b : Bool) → p x ≡ b → ◌≡◌ {A = Option X} (cond b (Some x) (find p xs)) None
    found b e = sym (ap (λ c. cond c (Some x) (find p xs)) e) ∙ h

    by : (b : Bool) → p x ≡ b → (find p xs ≡ None → (j : ℕ) (c : X) → j < length xs → p (get_or xs j c) ≡ false)
        → (j : ℕ) → j < length (x ∷ xs) → p (get_or (x ∷ xs) j d) ≡ false
    by true e rest j m = let no : ◌≡◌ {A = Option X} (Some x) None = found true e in cc
    by false e rest zero m = e
    by false e rest (suc j) m = rest (found false e) j d (omega (arith, m))

-- its key has a place by then
assumed_from : (ns : List Name) (t : TermTable) (held : Held) (th : Theorem) (ps : List (SequentKey × ℕ))
    (l : SequentKey) (place : ℕ) → IsKeyOf t.classes th.hyps th.concl l → place ≡ length held.assumptions
    → IsPlaced l place held.places ps
    → IsKernel ns t held → IsProposed (state_of ns t held) th → IsNew (state_of ns t held) th
    → Assumed (state_of ns t held) ns t
    (record held {
      theorems = held.theorems ++ th ∷ [];
      assumptions = held.assumptions ++ length held.theorems
          ∷ [];
      places = ps;
    }) th
assumed_from ns t held th ps l place keyed here noted k p new = record { kernel = kernel; state = state }
  where
    f : Theorem → Sequent Name
    f = sequent_of (state_of ns t held).terms

    q : Sequent Name
    q = f th

    qs : List (Sequent Name)
    qs = map f held.theorems

    al : List (Sequent Name)
    al = sequents_at qs held.assumptions

    more : Held
    more = record held {
      theorems = held.theorems ++ th ∷ [];
      assumptions = held.assumptions ++ length held.theorems
          ∷ [];
      places = ps;
    }

    same_length : length qs ≡ length held.theorems
    same_length = length-map held.theorems f

    theorems : map f (held.theorems ++ th ∷ []) ≡ qs ++ q ∷ []
    theorems = map-push f held.theorems th

    longer : Extends qs (map f (held.theorems ++ th ∷ []))
    longer = subst (Extends qs) (sym theorems) (Extends-append qs (q ∷ []))

    assumptions : sequents_at (map f (held.theorems ++ th ∷ [])) (held.assumptions ++ length held.theorems ∷ []) ≡ al
        ++ q ∷ []
    assumptions =
        (λ j. sequents_at (theorems j) (held.assumptions ++ sym same_length j ∷ []))
        ∙ sequents_at-last qs q held.assumptions (λ i d h. let l = k.numbered i d h in omega (arith, l, same_length))

    dl : List (Definition Name)
    dl = (state_of ns t held).definitions

    defined : (state_of ns t more).definitions ≡ dl
    defined = definitions_kept ns t held (undefined_state ns t more) k (Extends-refl _) (Extends-refl _) longer

    state : state_of ns t more ≡ supposing (state_of ns t held) q
    state = λ i. record (state_of ns t held) {
      theorems = theorems i;
      assumptions = assumptions i;
      definitions = defined i;
    }

    older : (r : Sequent Name) → IsTheorem names al dl r → IsTheorem names (al ++ q ∷ []) dl r
    older r h = grown-theorem names (Extends-append al (q ∷ [])) (Extends-refl dl) r h

    sound : IsSoundState (supposing (state_of ns t held) q)
    sound = record {
      theorems = All-push (IsTheorem names (al ++ q ∷ []) dl) qs q (λ i d h. older _ (k.sound.theorems i d h))
          (assumption-theorem names (al ++ q ∷ []) dl (length al) q (slice_get-last al q) p.sequent p.distinct);
      assumptions = All-push (IsSequent names) al q k.sound.assumptions p.sequent;
      accepted = grown-accepted names al (al ++ q ∷ []) dl (Extends-append al (q ∷ [])) k.sound.accepted;
      names = k.sound.names;
      apart = all_pairs_push (λ r s. same_sequent names r s ≡ false) al q k.sound.apart
          (none-passes (λ r. same_sequent names r q) al new);
    }

    kernel : IsKernel ns t more
    kernel = record {
      names = k.names;
      types = k.types;
      terms = k.terms;
      table = k.table;
      inside = All-push (IsInside (length t.terms)) held.theorems th k.inside
          (subst (λ n. IsInside n th) (length-map t.terms (map_named (name_of ns))) p.inside);
      numbered = All-push (λ i. i < length (held.theorems ++ th ∷ [])) held.assumptions (length held.theorems)
          (λ i d h. let l = k.numbered i d h in omega (arith, l, length-append held.theorems (th ∷ [])))
          (omega (arith, length-append held.theorems (th ∷ [])));
      accepted = held_stay (state_of ns t held) (state_of ns t more) (Extends-refl _) (Extends-refl _) longer
          held.definitions k.accepted;
      signature = subst (λ el. IsSignature ns el held.signature) (sym defined) k.signature;
      placed = places-more t.classes held.theorems held.assumptions ps th l keyed k.numbered
          (places-noted t.classes held.theorems held.assumptions held.places ps l place here k.placed noted)
          noted.found;
      sound = subst IsSoundState (sym state) sound;
    }

-- the same from the state that contracts see
pub assumed : (ns : List Name) (t : TermTable) (held : Held) (now : State) (th : Theorem) (ths : List Theorem)
    (taken : List ℕ) (n : ℕ) (qs : List (SequentKey × ℕ)) (l : SequentKey) (place : ℕ)
    → IsKeyOf t.classes th.hyps th.concl l → place ≡ length held.assumptions → IsPlaced l place held.places qs
    → state_of ns t held ≡ now → IsKernel ns t held → ths ≡ held.theorems ++ th ∷ [] → n ≡ length held.theorems
    → taken ≡ held.assumptions ++ n ∷ []
    → IsProposed now th → IsNew now th
    → Assumed now ns t (record held { theorems = ths; assumptions = taken; places = qs }) th
assumed ns t held now th ths taken n qs l place keyed here noted view k e len d p new =
    let after : taken ≡ held.assumptions ++ length held.theorems ∷ [] =
    d ∙ ap (λ m. held.assumptions ++ m ∷ []) len in
    let start =
    subst (λ s. IsProposed s th → IsNew s th
    → Assumed s ns t
    (record held {
      theorems = held.theorems ++ th ∷ [];
      assumptions = held.assumptions ++ length held.theorems
          ∷ [];
      places = qs;
    }) th) view (assumed_from ns t held th qs l place keyed here noted k) p new in
    subst (λ (z : List Theorem × List ℕ). Assumed now ns t
    (record held { theorems = z.0; assumptions = z.1; places = qs }) th) (λ i. (sym e i, sym after i)) start

-- a place that comes changes nothing else
pub noted : (ns : List Name) (t : TermTable) (held : Held) (ths : List Theorem) (qs : List (SequentKey × ℕ))
    (l : SequentKey) (place : ℕ) → place ≡ length held.assumptions → IsPlaced l place held.places qs
    → ths ≡ held.theorems → IsKernel ns t held → IsKernel ns t (record held { theorems = ths; places = qs })
noted ns t held ths qs l place here new same k =
    subst (λ ts. IsKernel ns t (record held { theorems = ts; places = qs })) (sym same) (record {
      names = k.names;
      types = k.types;
      terms = k.terms;
      table = k.table;
      inside = k.inside;
      numbered = k.numbered;
      accepted = k.accepted;
      signature = k.signature;
      placed = places-noted t.classes held.theorems held.assumptions held.places qs l place here k.placed new;
      sound = k.sound;
    })

-- what was pushed, where memory allowed
pub pushed_items : {U E X : Type 0} (r : Result U E) (xs ys new : List X) → is_err r ≡ false
    → new ≡ (if is_ok r then xs else ys) → new ≡ xs
pushed_items (Ok u) xs ys new h e = e
pushed_items (Err f) xs ys new h e = cc

-- what was not, where it didn't
pub unpushed_items : {U E X : Type 0} (r : Result U E) (xs ys new : List X) → is_err r ≡ true
    → new ≡ (if is_ok r then xs else ys) → new ≡ ys
unpushed_items (Ok u) xs ys new h e = cc
unpushed_items (Err f) xs ys new h e = e

-- ---- the assumption of a sequent
-- the next one of a list
pub find-next : {X Y : Type 0} (f : X → Y) (p : Y → Bool) (xs : List X) (k : ℕ) (x : X) (b : Bool) → k < length xs
    → x ≡ get_or xs k x → b ≡ p (f x) → find p (map f (drop k xs))
    ≡ cond b (Some (f x)) (find p (map f (drop (k + 1) xs)))
find-next f p xs k x b h e d = ap (find p) (map-drop f xs k x h e)
    ∙ ap (λ c. cond c (Some (f x)) (find p (map f (drop (k + 1) xs)))) (sym d)

-- ---- the checks of an axiom
-- p is no proposition, or one of the hypotheses is none
not_axiom-conclusion : (hs : List (Tm Name)) (p : Tm Name) → has_type names p (bool_ty names) ≡ false
    → axiom_rule hs p ≡ Err NotBool
not_axiom-conclusion hs p h = rw h refl

not_axiom-hypothesis : (hs : List (Tm Name)) (p : Tm Name) → has_type names p (bool_ty names) ≡ true
    → list_all (λ h. has_type names h (bool_ty names)) hs ≡ false → axiom_rule hs p ≡ Err NotBool
not_axiom-hypothesis hs p h g = rw (h, g) refl

axiom-made : (hs : List (Tm Name)) (p : Tm Name) → has_type names p (bool_ty names) ≡ true
    → list_all (λ h. has_type names h (bool_ty names)) hs ≡ true
    → axiom_rule hs p ≡ Ok (record { hyps = once_each names hs; concl = p })
axiom-made hs p h g = rw (h, g) refl

-- the tests, at a type that is the type of propositions
module _ (s : State) (ty : ℕ) (is_bool : type_at s ty ≡ bool_ty names) where
  pub tests_conclusion : (p : ℕ) (b v : Bool) → b ≡ has_type names (term_at s p) (type_at s ty) → b ≡ v
      → has_type names (term_at s p) (bool_ty names) ≡ v
  tests_conclusion p b v h r = sym (ap (has_type names (term_at s p)) is_bool) ∙ sym h ∙ r

  pub tests_hypotheses : (hs : List ℕ) (b v : Bool) → b ≡ list_all (λ h. has_type names h (type_at s ty))
      (terms_at s hs) → b ≡ v → list_all (λ h. has_type names h (bool_ty names)) (terms_at s hs) ≡ v
  tests_hypotheses hs b v h r = sym (ap (λ (u : Ty Name). list_all (λ g. has_type names g u) (terms_at s hs)) is_bool)
      ∙ sym h ∙ r

-- the terms as they were before new types
pub kept_axiom : (now mid : State) → Keeps now mid → (hs : List ℕ) (p : ℕ) → All (λ i. i < length now.terms) hs → p
    < length now.terms → axiom_rule (terms_at now hs) (term_at now p) ≡ axiom_rule (terms_at mid hs) (term_at mid p)
kept_axiom now mid keeps hs p h g =
    let a = hyps-Extends now.terms mid.terms keeps.terms hs h in
    let b = named_at-Extends now.terms mid.terms keeps.terms p g in
    λ i. axiom_rule (sym a i) (nameless names (sym b i))

pub refused_axiom : (now mid : State) → Keeps now mid → SameTheorems now mid → (hs : List ℕ) (p : ℕ)
    → All (λ i. i < length now.terms) hs → p < length now.terms
    → (has_type names (term_at mid p) (bool_ty names) ≡ false)
    ⊎ ((has_type names (term_at mid p) (bool_ty names) ≡ true)
    × (list_all (λ h. has_type names h (bool_ty names)) (terms_at mid hs) ≡ false))
    → Assumes (Err rules.NotBool) (axiom_rule (terms_at now hs) (term_at now p)) now mid
refused_axiom now mid keeps same hs p h g (inl e) = (
  same,
  refuses_rule rules.NotBool NotBool _ (λ _. refl)
      (kept_axiom now mid keeps hs p h g ∙ not_axiom-conclusion (terms_at mid hs) (term_at mid p) e),
)
refused_axiom now mid keeps same hs p h g (inr e) = (
  same,
  refuses_rule rules.NotBool NotBool _ (λ _. refl)
      (kept_axiom now mid keeps hs p h g ∙ not_axiom-hypothesis (terms_at mid hs) (term_at mid p) e.0 e.1),
)

-- propositions, by the test
propositions : (hs : List (Tm Name)) → list_all (λ h. has_type names h (bool_ty names)) hs ≡ true
    → AllByRecursion (λ h. HasType names h (bool_ty names)) hs
propositions [] e = tt
propositions (h ∷ hs) e =
    elim (cases_of (has_type names h (bool_ty names)) (has_type-is names tells_names h (bool_ty names))) [
      | inl p ↦ let rest : list_all (λ g. has_type names g (bool_ty names)) hs ≡ true = rw p.0 at e in
          (p.1, propositions hs rest)
      | inr p ↦ let no : false ≡ true = rw p.0 at e in cc
    ]

module _ {ns : List Name} {t : TermTable} {held : Held} {mid : State} (l : Later ns ns t t held mid mid) where
  -- the theorem whose hypotheses are a list's members, each once
  module _ (hs : List ℕ) (th : Theorem) (within : All (λ i. i < length mid.terms) hs)
      (concl : th.concl < length mid.terms) (inside : All (λ i. i < length t.terms) th.hyps)
      (once : tms_at t.terms th.hyps ≡ once_each numbers (tms_at t.terms hs))
      (p : has_type names (term_at mid th.concl) (bool_ty names) ≡ true)
      (each : list_all (λ h. has_type names h (bool_ty names)) (terms_at mid hs) ≡ true) where
    inside_now : All (λ i. i < length mid.terms) th.hyps
    inside_now j d m = now_within l _ (inside j d m)

    once_now : terms_at mid th.hyps ≡ once_each names (terms_at mid hs)
    once_now =
        coe 0 1 (j. over-terms l th.hyps inside_now j ≡ once_each (alphabet_at l j) (over-terms l hs within j))
        once

    pub axiom-sequent : axiom_rule (terms_at mid hs) (term_at mid th.concl) ≡ Ok (sequent_of mid.terms th)
    axiom-sequent = axiom-made (terms_at mid hs) (term_at mid th.concl) p each
        ∙ (λ i. Ok (record { hyps = sym once_now i; concl = term_at mid th.concl }))

    pub axiom-proposed : IsProposed mid th
    axiom-proposed = record {
      inside = record { hyps = inside_now; concl = concl };
      sequent =
          let g = terms_at mid hs in
          let all : IsSequent names (record { hyps = g; concl = term_at mid th.concl }) =
          record {
            hyps = propositions g each;
            concl = (has_type-is names tells_names (term_at mid th.concl) (bool_ty names)).0 p;
          } in
          subst (λ k. IsSequent names (record { hyps = k; concl = term_at mid th.concl })) (sym once_now)
          (part-typed names g (once_each names g) (term_at mid th.concl)
          (same_set-once_each names tells_names g).back all);
      distinct = subst AreDistinct (sym once_now) (distinct-once_each names tells_names (terms_at mid hs));
    }

-- what an axiom answers
pub assumes : (result : Result ℕ RuleFault) (stated : Result (Sequent Name) (Fault Name)) (now mid new : State)
    (q : Sequent Name) → SameTheorems now mid → stated ≡ Ok q → IfOk result (λ id. IsSupposed id q mid new)
    → IfErr result (λ e. (new ≡ mid) × (e ≡ Memory ran_out)) → Assumes result stated now new
assumes (Ok id) stated now mid new q same s ok err =
    let e = same.basis.assumptions in (
      q,
      s,
      ok.within,
      ok.theorem ∙ ap (λ al. known al q) e,
      ok.assumptions ∙ ap (λ al. with_sequent al q) e,
      ok.definitions ∙ same.basis.definitions,
      ok.theorems ∙ (λ i. with_theorem (same.theorems i) (e i) q),
    )
assumes (Err e) stated now mid new q same s ok err =
    (subst (SameTheorems now) (sym err.0) same, subst (λ f. RefusesRule f stated) (sym err.1) (memory_refuses stated))
