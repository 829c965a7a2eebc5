-- What a kernel and the numbers of exports say of their run.
use Rattle.std.proofs.Common.{◌≡◌, ℕ, ◌<◌, List, [], ◌∷◌, length, map, refl, sym, ap, subst, ◌∙◌, arith}
use Rattle.std.specs.Prelude.{Result, IfOk}
use Rattle.std.specs.List.{All}
use Rattle.std.proofs.lemmas.List.{length-map}
use Rattle.std.proofs.lemmas.List.Elements.{All-map}
use Rattle.std.proofs.lemmas.Simd.{map-map}
use Rattle.ot_logic.specs.Naming.{names}
use Rattle.ot_laws.specs.Theorem.{IsTheorem}
use Rattle.ot_args.specs.declared.sections.Sections.{Sections}
use Rattle.ot_kernel.specs.State.{State, theorem_at, IsSoundState}
use Rattle.ot_machine.specs.declared.machine.Export.{Export}
use Rattle.ot_machine.specs.declared.session.Session.{Session}
use Rattle.ot_machine.specs.Meaning.{givens_of, made_of, run_of, IsRun, IsExportIn}
use Rattle.ot_machine.specs.Writable.{IsWritable}
use Rattle.ot_uses.specs.Suffices.{UsesSuffice}
use Rattle.ot_logic.specs.Names.{Name}
use Rattle.ot_logic.specs.Trees.{Sequent, Definition}
use Rattle.ot_logic.specs.Limits.{summary_limit}
use Rattle.ot_print.specs.Texts.{summary_text}
use Rattle.ot_text.specs.Pages.{Appended}
use Rattle.ot_program.specs.Texts.{large_line}
use Rattle.ot_program.specs.Runs.{assumptions_of, definitions_of, exports_of}
use Rattle.ot_program.specs.Command.{run_lists, IsProved}
use Rattle.ot_program.specs.RunInput.{summary, AreSupported}
use Rattle.ot_program.specs.Endings.{ran_from}
use Rattle.ot_program.specs.Verdicts.{IsSaid, IsPrinted, IsLawfulEnds}
use Rattle.ot_program.specs.declared.report.Verdict.{Verdict}
use Rattle.ot_program.specs.declared.status.Status.TheVariants.{Accepted, Refused}
use Rattle.ot_program.proofs.LimitLemmas.{text_printed, text_too_large}

-- ---- the run's lists are those of the kernel

given_sequents : (s : Session) (qs : List (Sequent Name)) (is : List ℕ) → length is ≡ length qs
    → map (λ g. g.sequent) (givens_of s qs is) ≡ qs
given_sequents s [] is same = refl
given_sequents s (q ∷ qs) [] same = absurd (cc)
given_sequents s (q ∷ qs) (i ∷ is) same = ap (λ rs. q ∷ rs) (given_sequents s qs is (omega (arith, same)))

made_definitions : (s : Session) (ds : List (Definition Name)) (is : List ℕ) → length is ≡ length ds
    → map (λ m. m.definition) (made_of s ds is) ≡ ds
made_definitions s [] is same = refl
made_definitions s (d ∷ ds) [] same = absurd (cc)
made_definitions s (d ∷ ds) (i ∷ is) same = ap (λ rs. d ∷ rs) (made_definitions s ds is (omega (arith, same)))

pub assumptions_are : (s : Session) (es : List Export) → IsRun s → assumptions_of (ran_from s es)
    ≡ s.kernel.assumptions
assumptions_are s es r = given_sequents s s.kernel.assumptions s.assumption_steps.items r.each_assumption

pub definitions_are : (s : Session) (es : List Export) → IsRun s → definitions_of (ran_from s es)
    ≡ s.kernel.definitions
definitions_are s es r = made_definitions s s.kernel.definitions s.definition_steps.items r.each_definition

pub exports_are : (s : Session) (es : List Export) → exports_of (ran_from s es)
    ≡ map (λ e. theorem_at s.kernel e.th) es
exports_are s es = map-map _ _ es

-- so are their counts
pub counts_are : (s : Session) (es : List Export) → IsRun s
    → (length (ran_from s es).run.assumptions ≡ length s.kernel.assumptions)
    × (length (ran_from s es).run.definitions ≡ length s.kernel.definitions)
counts_are s es r = (
  sym (length-map (ran_from s es).run.assumptions (λ g. g.sequent)) ∙ ap length (assumptions_are s es r),
  sym (length-map (ran_from s es).run.definitions (λ m. m.definition)) ∙ ap length (definitions_are s es r),
)

-- the theorems that are exported are among the kernel's, which are derivable
pub is_proved : (s : Session) (es : List Export) → IsRun s → IsSoundState s.kernel → All (IsExportIn s) es
    → IsProved (run_lists (ran_from s es))
is_proved s es r sound within = record {
  assumptions = rw (assumptions_are s es r) sound.assumptions;
  accepted = rw (assumptions_are s es r, definitions_are s es r) sound.accepted;
  theorems =
      rw (assumptions_are s es r, definitions_are s es r, exports_are s es)
      (All-map (IsTheorem names s.kernel.assumptions s.kernel.definitions)
      (λ e. theorem_at s.kernel e.th) es (λ i d here. sound.theorems _ _ (within i d here).th));
}

-- what each exported theorem rests on suffices for it
pub are_supported : (s : Session) (es : List Export) → UsesSuffice IsWritable → IsLawfulEnds s es
    → AreSupported (ran_from s es)
are_supported s es law lawful = λ i d here. law (run_of s) lawful.run _ (lawful.exports i d here)

-- the numbers of the exports are of the kernel
pub exported_within : (s : Session) (es : List Export) (ths : List ℕ) → ths ≡ map (λ e. e.th) es
    → All (IsExportIn s) es
    → All (λ i. i < length s.kernel.theorems) ths
exported_within s es ths are within =
    rw are (All-map (λ i. i < length s.kernel.theorems) (λ e. e.th) es (λ i d here. (within i d here).th))

-- the printed text of a kernel's lists and of the exports' numbers is the summary
summary_is : (sections : Sections) (s : Session) (seen : State) (es : List Export) (ths : List ℕ) → IsRun s
    → seen ≡ s.kernel
    → ths ≡ map (λ e. e.th) es
    → summary_text sections seen.assumptions seen.definitions (map (theorem_at seen) ths)
    ≡ summary sections (ran_from s es)
summary_is sections s seen es ths r same are =
    rw (
      same,
      are,
      assumptions_are s es r,
      definitions_are s es r,
      exports_are s es,
      map-map (theorem_at s.kernel)
          (λ e. e.th) es,
    )
    refl

-- where it was printed it is accepted
pub summary_printed : (path : List ℕ) (sections : Sections) (s : Session) (seen : State)
    (es : List Export) (ths : List ℕ) (max : ℕ) (old : List ℕ) (v : Verdict)
    → IsRun s → seen ≡ s.kernel → ths ≡ map (λ e. e.th) es → max ≡ summary_limit → old ≡ [] → v.status ≡ Accepted
    → Appended (summary_text sections seen.assumptions seen.definitions (map (theorem_at seen) ths)) max old
    v.text.items
    → IsPrinted summary_limit (summary sections (ran_from s es)) (large_line path) v
summary_printed path sections s seen es ths max old v r same are limit empty status printed =
    text_printed (summary sections (ran_from s es)) (large_line path) max old v limit empty status
    (subst (λ (t : List ℕ). Appended t max old v.text.items) (summary_is sections s seen es ths r same are) printed)

-- and where its bytes are past the limit it is refused
pub summary_too_large : {E : Type 0} (path : List ℕ) (sections : Sections) (s : Session)
    (seen : State) (es : List Export) (ths : List ℕ) (max : ℕ) (a : Result Verdict E)
    → IsRun s → seen ≡ s.kernel → ths ≡ map (λ e. e.th) es → max ≡ summary_limit
    → max < length (summary_text sections seen.assumptions seen.definitions (map (theorem_at seen) ths))
    → IfOk a (λ v. IsSaid v Refused (large_line path))
    → IfOk a (IsPrinted summary_limit (summary sections (ran_from s es)) (large_line path))
summary_too_large path sections s seen es ths max a r same are limit past said =
    text_too_large (summary sections (ran_from s es)) (large_line path) max a limit
    (subst (λ (t : List ℕ). max < length t) (summary_is sections s seen es ths r same are) past) said
