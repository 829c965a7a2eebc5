-- What the records of a log make stays proved.
use Rattle.std.specs.Prelude.{nat_le, if◌then◌else◌}
use Rattle.std.specs.List.{list_all, list_any}
use Rattle.std.proofs.Common.{◌≡◌, Bool, true, false, ◌&&◌, ◌||◌, List, [], ◌∷◌}
use Rattle.std.proofs.Common.{◌++◌, Result, Ok, refl, subst, inl, inr, ◌⊎◌}
use Rattle.std.proofs.lemmas.Bool.{and_parts}
use Rattle.ot_logic.specs.Lists.{IsMember, IsSameSet, AreDistinct}
use Rattle.ot_logic.specs.Table.{Extends}
use Rattle.ot_logic.specs.Trees.{Alphabet, Ty, Tm, Sequent, Definition}
use Rattle.ot_logic.specs.Hol.{bool_ty, depth_ty, depth_tm, same_sequent, once_each}
use Rattle.ot_logic.specs.Hol.{theorems, HasType, IsSequent, Accepted, Derivable, SameSet}
use Rattle.ot_logic.specs.Answers.{unless}
use Rattle.ot_logic.proofs.TableLemmas.{Extends-refl, Extends-append}
use Rattle.ot_laws.specs.Theorem.{IsTheorem}
use Rattle.ot_laws.proofs.Tests.{Tells}
use Rattle.ot_laws.proofs.Sets.{all-from_members}
use Rattle.ot_laws.proofs.Grown.{grown-accepted, accepted-push, accepted-nil}
use Rattle.ot_laws.proofs.Hypotheses.{same_sequent-is, distinct-once_each, IsMember-once_each}
use Rattle.ot_laws.proofs.Theorems.{grown-theorem, assumption-theorem, defined-theorem}
use Rattle.ot_log_format.specs.Tokens.{LogFault, BadStep, LogNesting}
use Rattle.ot_log_format.specs.Steps.{log_depth, is_proposition, is_sequent_within, assumption_step}
use Rattle.ot_log_format.specs.State.{LogState, nothing_made, kept_once, makes_type, makes_term}
use Rattle.ot_log_format.specs.State.{makes_sequent, makes_assumption, makes_definition, makes_result}
use Rattle.ot_log_format.proofs.StepSound.{proposition-is}
use Rattle.ot_log_format.proofs.DefinitionSound.{IsAcceptable}
use Rattle.ot_logic.proofs.Members.{IsMember-cases, IsMember-place, IsMember-right}
use Rattle.ot_logic.proofs.Results.{bind-ok, same_Ok, unless-ok}

-- ---- places and members
-- an element that passes the test, where some does
module _ {X : Type 0} (test : X → Bool) where
  found : (xs : List X) → list_any test xs ≡ true → (x : X) × IsMember x xs × (test x ≡ true)
  found [] h = cc
  found (x ∷ xs) h = by (test x) refl (found xs) h
    where
      by : (b : Bool) → test x ≡ b → (list_any test xs ≡ true → (y : X) × IsMember y xs × (test y ≡ true))
          → b || list_any test xs ≡ true → (y : X) × IsMember y (x ∷ xs) × (test y ≡ true)
      by true e next k = (x, inl refl, e)
      by false e next k = let r = next k in (r.0, inr r.1, r.2)

module _ {N : Type 0} (alphabet : Alphabet N) where
  -- all that was made is proved
  pub record IsSound (st : LogState N) : Type 0 where
    pub sequents : (q : Sequent N) → IsMember q st.sequents → IsTheorem alphabet st.assumptions st.definitions q
    pub assumptions : (q : Sequent N) → IsMember q st.assumptions → IsSequent alphabet q × AreDistinct q.hyps
    pub accepted : Accepted alphabet st.assumptions st.definitions
    pub results : (q : Sequent N) → IsMember q st.results → IsTheorem alphabet st.assumptions st.definitions q

  pub nothing-sound : IsSound nothing_made
  nothing-sound =
      record {
        sequents = λ q m. absurd m;
        assumptions = λ q m. absurd m;
        accepted = accepted-nil alphabet [];
        results = λ q m. absurd m;
      }

  -- a list with more at its end
  more : (P : Sequent N → Type 0) (xs ys : List (Sequent N)) → ((q : Sequent N) → IsMember q xs → P q)
      → ((q : Sequent N) → IsMember q ys → P q) → (q : Sequent N) → IsMember q (xs ++ ys) → P q
  more P xs ys f g q m = elim (IsMember-cases q xs ys m) [ inl i ↦ f q i | inr i ↦ g q i ]

  one : (P : Sequent N → Type 0) (x : Sequent N) → P x → (q : Sequent N) → IsMember q (x ∷ []) → P q
  one P x p q (inl e) = subst P e p
  one P x p q (inr m) = absurd m

  pub type-sound : (t : Ty N) (st now : LogState N) → IsSound st → makes_type alphabet t st ≡ Ok now → IsSound now
  type-sound t st now s h =
      let (u, p, k) = bind-ok (unless LogNesting (nat_le (depth_ty alphabet t) log_depth))
      (λ _. Ok (record st { types = st.types ++ t ∷ [] })) now h in
      let made : LogState N = record st { types = st.types ++ t ∷ [] } in
      subst IsSound (same_Ok made now k)
      (record { sequents = s.sequents; assumptions = s.assumptions; accepted = s.accepted; results = s.results })

  pub term-sound : (t : Tm N) (st now : LogState N) → IsSound st → makes_term alphabet t st ≡ Ok now → IsSound now
  term-sound t st now s h =
      let (u, p, k) = bind-ok (unless LogNesting (nat_le (depth_tm alphabet t) log_depth))
      (λ _. Ok (record st { terms = st.terms ++ t ∷ [] })) now h in
      let made : LogState N = record st { terms = st.terms ++ t ∷ [] } in
      subst IsSound (same_Ok made now k)
      (record { sequents = s.sequents; assumptions = s.assumptions; accepted = s.accepted; results = s.results })

  pub sequent-sound : (step : Result (Sequent N) LogFault) (st now : LogState N)
      → ((q : Sequent N) → step ≡ Ok q → IsTheorem alphabet st.assumptions st.definitions q) → IsSound st
      → makes_sequent alphabet step st ≡ Ok now → IsSound now
  sequent-sound step st now t s h =
      let (q, p, k) = bind-ok step _ now h in
      let (u, r, l) = bind-ok (unless LogNesting (is_sequent_within alphabet q)) _ now k in
      subst IsSound (same_Ok (record st { sequents = st.sequents ++ q ∷ [] }) now l) (record {
        sequents = more (IsTheorem alphabet st.assumptions st.definitions) st.sequents (q ∷ []) s.sequents
            (one (IsTheorem alphabet st.assumptions st.definitions) q (t q p));
        assumptions = s.assumptions;
        accepted = s.accepted;
        results = s.results;
      })

module _ {N : Type 0} (alphabet : Alphabet N) (tells : Tells alphabet) where
  -- ---- a list that keeps each sequent once
  -- it extends what was there, and has q in some order of its hypotheses
  record Keeps (qs : List (Sequent N)) (q : Sequent N) (rs : List (Sequent N)) : Type 0 where
    longer : Extends qs rs
    held : (r : Sequent N) × IsMember r rs × IsSameSet r.hyps q.hyps × (r.concl ≡ q.concl)
    back : (r : Sequent N) → IsMember r rs → IsMember r qs ⊎ (q ≡ r)

  kept : (qs : List (Sequent N)) (q : Sequent N) → Keeps qs q (kept_once alphabet qs q)
  kept qs q = by (list_any (λ r. same_sequent alphabet r q) qs) refl
    where
      by : (b : Bool) → list_any (λ r. same_sequent alphabet r q) qs ≡ b → Keeps qs q (if b then qs else qs ++ q ∷ [])
      by true e =
          let r = found (λ r. same_sequent alphabet r q) qs e in
          let same = (same_sequent-is alphabet tells r.0 q).0 r.2 in
          record { longer = Extends-refl qs; held = (r.0, r.1, same.0, same.1); back = λ x m. inl m }
      by false e = record {
        longer = Extends-append qs (q ∷ []);
        held = (q, IsMember-right q qs (q ∷ []) (inl refl), record { to = λ x m. m; back = λ x m. m }, refl);
        back = λ x m. elim (IsMember-cases x qs (q ∷ []) m)
            [ inl i ↦ inl i | inr i ↦ elim i [ inl same ↦ inr same | inr j ↦ absurd j ] ];
      }

  pub result-sound : (q : Sequent N) (st now : LogState N) → IsTheorem alphabet st.assumptions st.definitions q
      → IsSound alphabet st → makes_result alphabet q st ≡ Ok now → IsSound alphabet now
  result-sound q st now t s h =
      let k = kept st.results q in
      subst (IsSound alphabet) (same_Ok (record st { results = kept_once alphabet st.results q }) now h) (record {
        sequents = s.sequents;
        assumptions = s.assumptions;
        accepted = s.accepted;
        results =
            λ r m. elim (k.back r m)
            [ inl i ↦ s.results r i | inr e ↦ subst (IsTheorem alphabet st.assumptions st.definitions) e t ];
      })

  -- ---- assumptions
  all-typed : (hs : List (Tm N)) → list_all (is_proposition alphabet) hs ≡ true → (x : Tm N) → IsMember x hs
      → HasType alphabet x (bool_ty alphabet)
  all-typed (y ∷ hs) h x (inl e) =
      subst (λ z. HasType alphabet z (bool_ty alphabet)) e
      (proposition-is alphabet tells y
      (and_parts (is_proposition alphabet y) (list_all (is_proposition alphabet) hs) h).0)
  all-typed (y ∷ hs) h x (inr m) =
      all-typed hs (and_parts (is_proposition alphabet y) (list_all (is_proposition alphabet) hs) h).1 x m
  all-typed [] h x m = absurd m

  -- a sequent that may be assumed
  proposed : (hyps : List (Tm N)) (p : Tm N) (q : Sequent N) → assumption_step alphabet hyps p ≡ Ok q
      → IsSequent alphabet q × AreDistinct q.hyps
  proposed hyps p q h =
      let test : Bool = is_proposition alphabet p && list_all (is_proposition alphabet) hyps in
      let (u, e, k) = bind-ok (unless BadStep test) _ q h in
      let both = and_parts (is_proposition alphabet p) (list_all (is_proposition alphabet) hyps)
      (unless-ok BadStep test u e) in
      let made : Sequent N = record { hyps = once_each alphabet hyps; concl = p } in
      let typed : IsSequent alphabet made = record {
        hyps = all-from_members (λ x. HasType alphabet x (bool_ty alphabet)) (once_each alphabet hyps)
            (λ x m. all-typed hyps both.1 x ((IsMember-once_each alphabet tells x hyps).0 m));
        concl = proposition-is alphabet tells p both.0;
      } in
      let P : Sequent N → Type 0 = λ z. IsSequent alphabet z × AreDistinct z.hyps in
      subst P (same_Ok made q k) (typed, distinct-once_each alphabet tells hyps)

  -- the sequent of an assumption, whose hypotheses may stand in another order
  assumed : (al : List (Sequent N)) (dl : List (Definition N)) (q r : Sequent N) → IsMember r al
      → IsSameSet r.hyps q.hyps → r.concl ≡ q.concl → IsSequent alphabet r → AreDistinct r.hyps → IsSequent alphabet q
      → AreDistinct q.hyps → IsTheorem alphabet al dl q
  assumed al dl q r m same e s d sq dq =
      let (i, at) = IsMember-place r al m in
      let t = assumption-theorem alphabet al dl i r at s d in
      record {
        derivable = subst (λ z. Derivable alphabet al dl q.hyps z) e (SameSet same t.derivable);
        sequent = sq;
        distinct = dq;
      }

  pub assumption-sound : (hyps : List (Tm N)) (p : Tm N) (st now : LogState N) → IsSound alphabet st
      → makes_assumption alphabet (assumption_step alphabet hyps p) st ≡ Ok now → IsSound alphabet now
  assumption-sound hyps p st now s h =
      let (q, e, k) = bind-ok (assumption_step alphabet hyps p) _ now h in
      let (u, r, l) = bind-ok (unless LogNesting (is_sequent_within alphabet q)) _ now k in
      let fine = proposed hyps p q e in
      let al = kept_once alphabet st.assumptions q in
      let keeps = kept st.assumptions q in
      let P : Sequent N → Type 0 = λ z. IsSequent alphabet z × AreDistinct z.hyps in
      let each : (z : Sequent N) → IsMember z al → P z =
      λ z m. elim (keeps.back z m) [ inl i ↦ s.assumptions z i | inr same ↦ subst P same fine ] in
      let T : Sequent N → Type 0 = IsTheorem alphabet al st.definitions in
      let grown : (z : Sequent N) → IsTheorem alphabet st.assumptions st.definitions z → T z =
      grown-theorem alphabet keeps.longer (Extends-refl st.definitions) in
      let held = keeps.held in
      let own = each held.0 held.1 in
      let theorem : T q = assumed al st.definitions q held.0 held.1 held.2 held.3 own.0 own.1 fine.0 fine.1 in
      subst (IsSound alphabet) (same_Ok (record st { sequents = st.sequents ++ q ∷ []; assumptions = al }) now l)
      (record {
        sequents = more alphabet T st.sequents (q ∷ []) (λ z m. grown z (s.sequents z m)) (one alphabet T q theorem);
        assumptions = each;
        accepted = grown-accepted alphabet st.assumptions al st.definitions keeps.longer s.accepted;
        results = λ z m. grown z (s.results z m);
      })

  -- ---- definitions
  pub definition-sound : (step : List (Definition N) → Result (Definition N) LogFault) (st now : LogState N)
      → ((d : Definition N) → step st.definitions ≡ Ok d → IsAcceptable alphabet st.assumptions st.definitions d)
      → IsSound alphabet st → makes_definition alphabet step st ≡ Ok now → IsSound alphabet now
  definition-sound step st now a s h =
      let (d, e, k) = bind-ok (step st.definitions) _ now h in
      let (u, r, l) = bind-ok (unless LogNesting (list_all (is_sequent_within alphabet) (theorems alphabet d))) _ now
      k in
      let fine = a d e in
      let dl = st.definitions ++ d ∷ [] in
      let T : Sequent N → Type 0 = IsTheorem alphabet st.assumptions dl in
      let grown : (z : Sequent N) → IsTheorem alphabet st.assumptions st.definitions z → T z =
      grown-theorem alphabet (Extends-refl st.assumptions) (Extends-append st.definitions (d ∷ [])) in
      let own : (z : Sequent N) → IsMember z (theorems alphabet d) → T z = λ z m. let (j, at) =
      IsMember-place z (theorems alphabet d) m in
      defined-theorem alphabet tells st.assumptions st.definitions d fine.next.fine fine.premise j z at in
      subst (IsSound alphabet)
      (same_Ok (record st { sequents = st.sequents ++ theorems alphabet d; definitions = dl }) now l) (record {
        sequents = more alphabet T st.sequents (theorems alphabet d) (λ z m. grown z (s.sequents z m)) own;
        assumptions = s.assumptions;
        accepted = accepted-push alphabet st.assumptions st.definitions d s.accepted fine.next;
        results = λ z m. grown z (s.results z m);
      })
