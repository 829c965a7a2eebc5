-- The command that takes an assumption keeps a state lawful.
use Rattle.std.specs.Prelude.{◌≡◌, ◌&&◌, ℕ, Bool, true, false, List, [], ◌∷◌}
use Rattle.std.specs.Prelude.{Option, Some, None, Result, Ok, if◌then◌else◌}
use Rattle.std.proofs.Common.{refl, ap, ◌∙◌, subst}
use Rattle.std.proofs.lemmas.List.Elements.{All-nil, All-cons, All-head, All-tail}
use Rattle.ot_logic.specs.Names.{Name}
use Rattle.ot_logic.specs.Naming.{names}
use Rattle.ot_logic.specs.Trees.{Tm, Sequent}
use Rattle.ot_logic.specs.Hol.{same_tm, all_in}
use Rattle.ot_logic.specs.Faults.{Fault}
use Rattle.ot_logic.specs.declared.command.Cmd.TheVariants as words
use Rattle.ot_kernel.specs.Axioms.{axiom_rule}
use Rattle.ot_trace.specs.Origins.{Origin, Origins, Make}
use Rattle.ot_machine.specs.Objects.{Objects, list, theorem, no_objects, more_objects}
use Rattle.ot_machine.specs.States.{Entry, Given, RunState, State, Context}
use Rattle.ot_machine.specs.Places.{top, replaced, origins_of, list_entry, entry_at}
use Rattle.ot_machine.specs.Places.{as_list, term_on, terms_on, as_each, as_term}
use Rattle.ot_machine.specs.Makers.{maker}
use Rattle.ot_machine.specs.Rows.{made, given_as, or_assumed, theorem_entry}
use Rattle.ot_machine.specs.Discharge.{element_entries, is_hypothesis, adding, weakened}
use Rattle.ot_machine.specs.Discharge.{given_for, or_weakened, discharged, axiom_row}
use Rattle.ot_machine.specs.Lawful.{Basis, run_basis, AreOn, Fits, EntryFits, GivenFits}
use Rattle.ot_machine.specs.Lawful.{IsLawfulRun, IsLawful, AreLawfulGivens, IsLarger, Keeps}
use Rattle.ot_machine.specs.Values.{value}
use Rattle.ot_machine.proofs.Tops.{same-ok}
use Rattle.ot_machine.proofs.Strict.{strict}
use Rattle.ot_machine.proofs.MadeFits.{made-fits, operands-of}
use Rattle.ot_machine.proofs.Growing.{same-basis}
use Rattle.ot_machine.proofs.StackRows.{AllFit, parts-fit, list_entry-fits, replaced-fits}
use Rattle.ot_machine.proofs.RunRows.{answer, all-found, axiom_given, made-axiom}
use Rattle.ot_machine.proofs.RunRows.{assumed-fits, article-more, with-stack}
use Rattle.ot_logic.proofs.Results.{bind-ok}

module _ (b : Basis) where
  both : (x y : Entry) → EntryFits b x → EntryFits b y → AllFit b (x ∷ y ∷ [])
  both x y f g = All-cons (EntryFits b) x (y ∷ []) f (All-cons (EntryFits b) y [] g (All-nil (EntryFits b)))

  adding-fits : (e g after : Entry) → EntryFits b e → EntryFits b g → adding e g ≡ Ok after → EntryFits b after
  adding-fits e g after f h p =
      let a = bind-ok (made words.Assume (g ∷ [])) _ _ p in
      let d = bind-ok (made words.DeductAntisym (a.0 ∷ e ∷ [])) _ _ a.2 in
      let x = made-fits b words.Assume (g ∷ []) a.0 (All-cons (EntryFits b) g [] h (All-nil (EntryFits b))) a.1 tt in
      let y = made-fits b words.DeductAntisym (a.0 ∷ e ∷ []) d.0 (both a.0 e x f) d.1 tt in
      made-fits b words.EqMp (d.0 ∷ a.0 ∷ []) after (both d.0 a.0 y x) d.2 tt

  abbrev is : Entry → Result Entry (Fault Name)
  is e = Ok e

  pub weakened-fits : (gs : List Entry) (e after : Entry) → AllFit b gs → EntryFits b e → weakened gs e ≡ is after
      → EntryFits b after
  weakened-fits [] e after all f p = subst (EntryFits b) (same-ok (is e) e after refl p) f
  weakened-fits (g ∷ gs) e after all f p =
      let step = bind-ok (if is_hypothesis g.object e.object then is e else adding e g) (weakened gs) after p in
      weakened-fits gs step.0 after (All-tail (EntryFits b) g gs all)
      (one (is_hypothesis g.object e.object) step.0 step.1) step.2
    where
      one : (t : Bool) (x : Entry) → (if t then is e else adding e g) ≡ is x → EntryFits b x
      one true x q = subst (EntryFits b) (same-ok (is e) e x refl q) f
      one false x q = adding-fits e g x f (All-head (EntryFits b) g gs all) q

  pub elements-fit : (os : Objects) (o : Origin Name) → Fits b o (list os) → AllFit b (element_entries os o)
  elements-fit no_objects o f = All-nil (EntryFits b)
  elements-fit (more_objects x xs) o f =
      let parts = parts-fit b o x xs f in
      All-cons (EntryFits b) _ (element_entries xs _) parts.0 (elements-fit xs _ parts.1)

-- the elements of the list at a place, as terms
terms-of : (n : ℕ) (stack : List Entry) (l : Objects × Origin Name) (hyps : List (Tm Name))
    → list_entry n stack ≡ Ok l → as_each as_term l.0 ≡ Ok hyps → terms_on n stack ≡ Ok hyps
terms-of n stack l hyps p q =
    let e = bind-ok (entry_at n stack) _ _ p in
    let os = bind-ok (as_list e.0.object) _ _ e.2 in
    let same : os.0 ≡ l.0 = ap (λ (z : Objects × Origin Name). z.0) (same-ok _ _ _ refl os.2) in
    rw (e.1, os.1) (ap (as_each as_term) same ∙ q)

module _ (P : Name → Type 0) where
  pub record IsDischarged (run : RunState) (t : Entry × RunState) : Type 0 where
    pub lawful : IsLawfulRun P t.1
    pub larger : IsLarger (run_basis P run) (run_basis P t.1)
    pub fits : EntryFits (run_basis P t.1) t.0

  abbrev gives : Entry × RunState → Result (Entry × RunState) (Fault Name)
  gives t = Ok t

  discharged-lawful : (c : Context) (gs : List Entry) (run : RunState) (q : Sequent Name) (os : Origins Name)
      (t : Entry × RunState) → IsLawfulRun P run → AreLawfulGivens P run c.theorems → AllFit (run_basis P run) gs
      → value (Make words.Axiom os) ≡ Ok (theorem q) → AreOn (run_basis P run) os
      → discharged c gs (axiom_given q os) run ≡ gives t → IsDischarged run t
  discharged-lawful c gs run q os t h givens all v on p = by (given_for q c.theorems) refl p
    where
      by : (r : Option Given) → given_for q c.theorems ≡ r → or_weakened r gs (axiom_given q os) run ≡ gives t
          → IsDischarged run t
      by (Some a) e p =
          let x = bind-ok (weakened gs (theorem_entry a)) _ _ p in
          let f = all-found (GivenFits (run_basis P run)) (λ (g : Given). all_in names g.sequent.hyps q.hyps
          && same_tm names g.sequent.concl q.concl) c.theorems a givens e in
          subst (IsDischarged run) (same-ok (gives (x.0, run)) (x.0, run) t refl x.2)
          (record {
            lawful = h;
            larger = same-basis (run_basis P run);
            fits = weakened-fits (run_basis P run) gs
                (theorem_entry a) x.0 all f x.1;
          })
      by None e p =
          let k = assumed-fits P run q os h v on in
          let u = or_assumed (given_as q run.assumptions) (axiom_given q os) run in
          subst (IsDischarged run) (same-ok (gives (theorem_entry u.0, u.1)) (theorem_entry u.0, u.1) t refl p)
          (record { lawful = k.lawful; larger = k.larger; fits = k.fits })

  pub axiom-keeps : (c : Context) (s t : State) → AreLawfulGivens P s.run c.theorems → IsLawful P s
      → axiom_row c s ≡ answer t → Keeps P s t
  axiom-keeps c s t givens h p =
      let stack = s.article.stack in
      let b = run_basis P s.run in
      let a = bind-ok (term_on 0 stack) _ _ p in
      let l = bind-ok (list_entry 1 stack) _ _ a.2 in
      let hs = bind-ok (as_each as_term l.0.0) _ _ l.2 in
      let q = bind-ok (axiom_rule hs.0 a.0) _ _ hs.2 in
      let x = bind-ok (discharged c (element_entries l.0.0 l.0.1) (axiom_given q.0 (origins_of (top 2 stack))) s.run)
      _ _ q.2 in
      let ops = operands-of b (maker words.Axiom) (strict words.Axiom) stack (theorem q.0) h.article.stack
      (made-axiom stack a.0 hs.0 q.0 a.1 (terms-of 1 stack l.0 hs.0 l.1 hs.1) q.1) in
      let k = discharged-lawful c (element_entries l.0.0 l.0.1) s.run q.0 (origins_of (top 2 stack)) x.0 h.run givens
      (elements-fit b l.0.0 l.0.1 (list_entry-fits b 1 stack l.0 h.article.stack l.1)) ops.is ops.on x.1 in
      let article = article-more P s.run x.0.1 s.article k.larger h.article in
      subst (Keeps P s)
      (same-ok (answer (record { article = record s.article { stack = replaced 2 x.0.0 stack }; run = x.0.1 })) _
      t refl x.2) (
        record {
          run = k.lawful;
          article = with-stack P x.0.1 s.article _ article
              (replaced-fits (run_basis P x.0.1) 2 x.0.0 stack k.fits article.stack);
        },
        k.larger,
      )
