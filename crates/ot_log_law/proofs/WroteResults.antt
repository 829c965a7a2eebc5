-- Writing results: each export once, in order.
use Rattle.std.specs.Prelude.{slice_get}
use Rattle.std.proofs.Common.{◌≡◌, true, Bool, List, [], ◌∷◌, ◌++◌, map, length, Ok, refl}
use Rattle.std.proofs.Common.{sym, ap, subst, ◌∙◌, inl, inr, arith, append_assoc, append-nil}
use Rattle.ot_logic.specs.Lists.{IsMember}
use Rattle.ot_logic.specs.Names.{Name}
use Rattle.ot_logic.specs.Naming.{names}
use Rattle.ot_logic.specs.Trees.{Sequent}
use Rattle.ot_logic.specs.Hol.{same_sequent}
use Rattle.ot_log_format.specs.State.{LogState, kept_once}
use Rattle.ot_trace.specs.Origins.{Origin}
use Rattle.ot_written.proofs.Settled.{EachOutcome, IsTheoremOf}
use Rattle.ot_machine.specs.Objects.{theorem}
use Rattle.ot_machine.specs.States.{Export, Made}
use Rattle.ot_machine.specs.Values.{value}
use Rattle.ot_machine.specs.Lawful.{RestsOn, AreApart}
use Rattle.ot_machine.specs.Writable.{IsWritable}
use Rattle.ot_article.proofs.FromLawful.{get-middle}
use Rattle.ot_log_records.specs.Logged.{write_entry}
use Rattle.ot_log_records.proofs.Ending.{result_of, result-stands}
use Rattle.ot_print.specs.Laws.{IsSequentOf}
use Rattle.ot_log_law.specs.Checked.{AreSame}
use Rattle.ot_log_law.specs.Writing.{Written, listed, result_entry, write, put_result, write_results}
use Rattle.ot_log_law.proofs.Told.{entry-told}
use Rattle.ot_log_law.proofs.Texts.{same-back, same-then, is-same, once-new}
use Rattle.ot_log_law.proofs.Makes.{number-low}
use Rattle.ot_log_law.proofs.Holds.{number-member, member-number, Has, Keeps, Holds}
use Rattle.ot_log_law.proofs.Wrote.{b, HasOutcomes, outcomes-kept, proved-value, write-writes}
use Rattle.ot_log_law.proofs.SameDefinitions.{AreMade}
use Rattle.ot_logic.proofs.Elements.{slice_get-low}
use Rattle.ot_logic.proofs.Members.{IsMember-cases, IsMember-place}
use Rattle.ot_logic.proofs.TableLemmas.{slice_get-append_left}

abbrev pub AreResults : List (Sequent Name) → List Export → Type 0
AreResults = AreSame (λ q (e : Export). IsSequentOf q e.sequent)

results-member : (qs : List (Sequent Name)) (es : List Export) (q : Sequent Name) → AreResults qs es → IsMember q qs
    → (e : Export) × IsMember e es × (same_sequent names q e.sequent ≡ true)
results-member [] es q h m = absurd m
results-member (p ∷ qs) [] q h m = absurd h
results-member (p ∷ qs) (e ∷ es) q h (inl i) = (e, inl refl, subst (λ z. same_sequent names z e.sequent ≡ true) i h.0)
results-member (p ∷ qs) (e ∷ es) q h (inr i) = let r = results-member qs es q h.1 i in (r.0, inr r.1, r.2)

results-snoc : (qs : List (Sequent Name)) (es : List Export) (q : Sequent Name) (e : Export) → AreResults qs es
    → IsSequentOf q e.sequent → AreResults (qs ++ q ∷ []) (es ++ e ∷ [])
results-snoc [] [] q e h k = (k, tt)
results-snoc (p ∷ qs) (f ∷ es) q e h k = (h.0, results-snoc qs es q e h.1 k)
results-snoc [] (f ∷ es) q e h k = absurd h
results-snoc (p ∷ qs) [] q e h k = absurd h

-- no earlier export is the same
earlier-apart : (es pre rest : List Export) (e f : Export) → es ≡ pre ++ e ∷ rest
    → AreApart (λ (x : Export). x.sequent) es
    → IsMember f pre → same_sequent names f.sequent e.sequent ≡ true → ⊥
earlier-apart es pre rest e f whole apart m s =
    let p = IsMember-place f pre m in
    let here = ap (λ l. slice_get l (length pre)) whole ∙ get-middle pre rest e in
    let there = ap (λ l. slice_get l p.0) whole ∙ slice_get-append_left pre (e ∷ rest) p.0 f p.1 in
    let one : p.0 ≡ length pre = apart p.0 (length pre) f e there here s in
    let low = slice_get-low pre p.0 f p.1 in
    omega (arith, one, low)

module _ (axioms defs : List (Origin Name)) (used : Origin Name → Bool) (E : List (Origin Name))
    (ms : List Made) where
  -- the log has these definitions and results
  pub record Resulted (x : Written) (pre : List Export) : Type 0 where
    pub now : LogState Name
    pub holds : Holds x now
    pub made : AreMade now.definitions ms
    pub has : HasOutcomes axioms defs used E x
    pub results : AreResults now.results pre
    pub written : (e : Export) → IsMember e pre → Has x e.roots.theorem

  pub record Goes (x y : Written) (pre : List Export) : Type 0 where
    pub resulted : Resulted y pre
    pub kept : Keeps x y

  -- an export whose theorem can be written
  pub record CanResult (e : Export) : Type 0 where
    pub value_is : value e.roots.theorem ≡ Ok (theorem e.sequent)
    pub rests : RestsOn (b axioms defs used E) e.roots.theorem
    pub settled : EachOutcome (IsTheoremOf used E) e.roots.theorem

  one-resulted : (x : Written) (es pre rest : List Export) (e : Export) → es ≡ pre ++ e ∷ rest
      → AreApart (λ (z : Export). z.sequent) es → CanResult e → Resulted x pre
      → Goes x (put_result e.roots.theorem (write e.roots.theorem x)) (pre ++ e ∷ [])
  one-resulted x es pre rest e whole apart can d =
      let o = e.roots.theorem in
      let y = write o x in
      let w = write-writes axioms defs used E o (theorem e.sequent) x d.now can.value_is can.rests can.settled d.holds
      d.has in
      let st = w.goes.now in
      let h = w.goes.holds in
      let has = w.has e.sequent can.value_is in
      let found = member-number o has.0 y.theorems has.1 in
      let j = found.0 in
      let p = h.proved o j (number-member o j y.theorems found.1) in
      let q = p.at in
      let is : p.of ≡ e.sequent = proved-value st o j e.sequent p can.value_is in
      let same : same_sequent names q e.sequent ≡ true =
      subst (λ z. same_sequent names q z ≡ true) is (same-back p.of q (is-same p.of q p.same)) in
      let m = result-stands y.log st j q h.stands p.there in
      let new : Written = record y { log = write_entry (result_of j) y.log } in
      let put : put_result o y ≡ new =
      ap (λ k. record y { log = write_entry (result_entry (listed k)) y.log }) found.1 in
      let old : AreResults st.results pre = subst (λ l. AreResults l pre) (sym w.goes.results) d.results in
      let fresh : kept_once names st.results q ≡ st.results ++ q ∷ [] = once-new st.results q (λ r i s.
      let f = results-member st.results pre r old i in
      earlier-apart es pre rest e f.0 whole apart f.1
      (same-then f.0.sequent r e.sequent (same-back r f.0.sequent f.2) (same-then r q e.sequent s same)))
      in
      let told = entry-told IsWritable (result_of j) y.log h.told
      (record { nodes = tt; operands = (number-low y.log st j q h.stands p.there, tt) }) in
      subst (λ z. Goes x z (pre ++ e ∷ [])) (sym put) (record {
        resulted = record {
          now = m.now;
          holds = record {
            stands = m.stands;
            told = told.told;
            proved =
                λ u k i. (let a = h.proved u k i in
                record {
                  of = a.of;
                  at = a.at;
                  value_is = a.value_is;
                  there = ap (λ l. slice_get l k) m.sequents ∙ a.there;
                  same = a.same;
                });
            only =
                λ r i. (let a = h.only r (subst (IsMember r) m.assumptions i) in
                record {
                  origin = a.origin;
                  number = a.number;
                  of = a.of;
                  there = a.there;
                  is_axiom = a.is_axiom;
                  value_is = a.value_is;
                  same = a.same;
                });
            all = λ u k r i a v.
                (let z = h.all u k r i a v in (z.0, subst (IsMember z.0) (sym m.assumptions) z.1, z.2));
            apart = subst (AreApart (λ (z : Sequent Name). z)) (sym m.assumptions) h.apart;
            closed = h.closed;
          };
          made = subst (λ l. AreMade l ms) (sym (m.definitions ∙ w.goes.definitions)) d.made;
          has = outcomes-kept axioms defs used E x y d.now w.goes d.has;
          results =
              subst (λ l. AreResults l (pre ++ e ∷ [])) (sym (m.results ∙ fresh))
              (results-snoc st.results pre q e old same);
          written = λ f i. elim (IsMember-cases f pre (e ∷ []) i) [
            | inl a ↦ (let r = d.written f a in (r.0, w.goes.kept (f.roots.theorem, r.0) r.1))
            | inr a ↦ elim a [ inl c ↦ subst (λ (z : Export). Has y z.roots.theorem) c has | inr n ↦ absurd n ]
          ];
        };
        kept = w.goes.kept;
      })

  pub results-resulted : (es rest pre : List Export) (x : Written) → es ≡ pre ++ rest
      → AreApart (λ (z : Export). z.sequent) es
      → ((e : Export) → IsMember e rest → CanResult e) → Resulted x pre
      → Goes x (write_results (map (λ (e : Export). e.roots.theorem) rest) x) es
  results-resulted es [] pre x whole apart can d = record {
    resulted = subst (Resulted x) (sym (whole ∙ append-nil pre)) d;
    kept = λ p m. m;
  }
  results-resulted es (e ∷ rest) pre x whole apart can d =
      let one = one-resulted x es pre rest e whole apart (can e (inl refl)) d in
      let y = put_result e.roots.theorem (write e.roots.theorem x) in
      let more = results-resulted es rest (pre ++ e ∷ []) y
      (whole ∙ sym (append_assoc pre (e ∷ []) rest)) apart (λ f i. can f (inr i)) one.resulted in
      record { resulted = more.resulted; kept = λ p i. more.kept p (one.kept p i) }
