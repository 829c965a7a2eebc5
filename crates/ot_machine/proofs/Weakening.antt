-- A theorem with hypotheses more, from what the rules of the kernel and the trace make.
use Rattle.std.specs.Prelude.{◌≡◌, true, false, List, [], ◌∷◌, Result, Ok, Err, IfOk, if◌then◌else◌}
use Rattle.std.proofs.Common.{refl, sym, ap, ◌∙◌}
use Rattle.ot_logic.specs.Names.{Name}
use Rattle.ot_logic.specs.Naming.{names}
use Rattle.ot_logic.specs.Trees.{Tm, Sequent}
use Rattle.ot_logic.specs.Hol.{is_in}
use Rattle.ot_logic.specs.Faults.{Fault}
use Rattle.ot_logic.specs.Answers.{◌>>=◌}
use Rattle.ot_logic.specs.Rules.{assume_rule, deduct_antisym_rule, eq_mp_rule}
use Rattle.ot_logic.specs.declared.command.Cmd.TheVariants as words
use Rattle.ot_kernel.specs.State as kernel
use Rattle.ot_trace.specs.Origins.{Origin, make_one, make_two, operand}
use Rattle.ot_machine.specs.Objects.{term, theorem}
use Rattle.ot_machine.specs.States.{Entry, RunState}
use Rattle.ot_machine.specs.declared.fault.Fault as code
use Rattle.ot_machine.specs.Answers.{Makes}
use Rattle.ot_machine.specs.Rows.{made, theorem_entry}
use Rattle.ot_machine.specs.Contexts.{given_of}
use Rattle.ot_machine.specs.declared.context.Given as code_given
use Rattle.ot_machine.specs.declared.session.Session.{Session}
use Rattle.ot_machine.specs.Meaning.{origin_of}
use Rattle.ot_machine.specs.Discharge.{adding, weakened}
use Rattle.ot_machine.specs.Assumptions.{term_entries, supposing}

-- ---- one hypothesis more
abbrev pub proof : Sequent Name → Origin Name → Entry
proof q o = record { object = theorem q; origin = o }

abbrev pub stated : Tm Name → Origin Name → Entry
stated t o = record { object = term t; origin = o }

abbrev Rule : Type 0
Rule = Result (Sequent Name) (Fault Name)

abbrev pub as_proof : Origin Name → Rule → Result Entry (Fault Name)
as_proof o r = r >>= λ q. Ok (proof q o)

through : (o : Origin Name) (r : Rule) → ((r >>= λ q. Ok (theorem q)) >>= λ x. Ok (record { object = x; origin = o }))
    ≡ as_proof o r
through o (Ok q) = refl
through o (Err f) = refl

made-assume : (p : Tm Name) (o : Origin Name) → made words.Assume (stated p o ∷ [])
    ≡ as_proof (make_one words.Assume o) (assume_rule names p)
made-assume p o = through (make_one words.Assume o) (assume_rule names p)

made-antisym : (a q : Sequent Name) (o u : Origin Name) → made words.DeductAntisym (proof a o ∷ proof q u ∷ [])
    ≡ as_proof (make_two words.DeductAntisym o u) (deduct_antisym_rule names a q)
made-antisym a q o u = through (make_two words.DeductAntisym o u) (deduct_antisym_rule names a q)

made-eq_mp : (d a : Sequent Name) (o u : Origin Name) → made words.EqMp (proof d o ∷ proof a u ∷ [])
    ≡ as_proof (make_two words.EqMp o u) (eq_mp_rule names d a)
made-eq_mp d a o u = through (make_two words.EqMp o u) (eq_mp_rule names d a)

module _ (q : Sequent Name) (o : Origin Name) (p : Tm Name) (u : Origin Name) where
  abbrev pub assumed_origin : Origin Name
  assumed_origin = make_one words.Assume u

  abbrev pub equation_origin : Origin Name
  equation_origin = make_two words.DeductAntisym assumed_origin o

  abbrev pub added_origin : Origin Name
  added_origin = make_two words.EqMp equation_origin assumed_origin

  abbrev after : Entry → Result Entry (Fault Name)
  after a = made words.DeductAntisym (a ∷ proof q o ∷ []) >>= λ d. made words.EqMp (d ∷ a ∷ [])

  first-read : (r : Rule) → assume_rule names p ≡ r → adding (proof q o) (stated p u)
      ≡ (as_proof assumed_origin r >>= after)
  first-read r e = ap (λ x. x >>= after) (made-assume p u ∙ ap (as_proof assumed_origin) e)

  pub adding-first : (f : Fault Name) → assume_rule names p ≡ Err f → adding (proof q o) (stated p u) ≡ Err f
  adding-first f e = first-read (Err f) e

  module _ (a : Sequent Name) (one : assume_rule names p ≡ Ok a) where
    abbrev last : Entry → Result Entry (Fault Name)
    last d = made words.EqMp (d ∷ proof a assumed_origin ∷ [])

    second-read : (r : Rule) → deduct_antisym_rule names a q ≡ r → adding (proof q o) (stated p u)
        ≡ (as_proof equation_origin r >>= last)
    second-read r e = first-read (Ok a) one
        ∙ ap (λ x. x >>= last) (made-antisym a q assumed_origin o ∙ ap (as_proof equation_origin) e)

    pub adding-second : (f : Fault Name) → deduct_antisym_rule names a q ≡ Err f → adding (proof q o) (stated p u)
        ≡ Err f
    adding-second f e = second-read (Err f) e

    module _ (d : Sequent Name) (two : deduct_antisym_rule names a q ≡ Ok d) where
      pub adding-third : (r : Rule) → eq_mp_rule names d a ≡ r → adding (proof q o) (stated p u)
          ≡ as_proof added_origin r
      adding-third r e = second-read (Ok d) two ∙ made-eq_mp d a equation_origin assumed_origin
          ∙ ap (as_proof added_origin) e

-- ---- where it is one already
pub supposing-there : (p : Tm Name) (u : Origin Name) (q : Sequent Name) (o : Origin Name)
    → is_in names p q.hyps ≡ true → supposing (stated p u) (proof q o) ≡ Ok (proof q o)
supposing-there p u q o e = ap (λ b. if b then Ok (proof q o) else adding (proof q o) (stated p u)) e

pub supposing-lacking : (p : Tm Name) (u : Origin Name) (q : Sequent Name) (o : Origin Name)
    → is_in names p q.hyps ≡ false → supposing (stated p u) (proof q o) ≡ adding (proof q o) (stated p u)
supposing-lacking p u q o e = ap (λ b. if b then Ok (proof q o) else adding (proof q o) (stated p u)) e

-- the origin beside what was made
pub with-origin : (t : Session) (result : Result code_given.Given code.Fault) (stated : Rule) (o : Origin Name)
    → Makes t.kernel (λ g. kernel.theorem_at t.kernel g.th) result stated
    → IfOk result (λ g. origin_of t g.step ≡ o)
    → Makes t.kernel (λ g. theorem_entry (given_of t g)) result (as_proof o stated)
with-origin t (Ok g) stated o h e = ap (as_proof o) h
    ∙ (λ i. Ok (proof (kernel.theorem_at t.kernel g.th) (sym e i)))
with-origin t (Err f) stated o h e = (h.0, λ g p. ap (as_proof o) (h.1 g p))

-- the run beside what was made
pub with-run : {X Y : Type 0} (k : kernel.State) (view : X → Y) (result : Result X code.Fault)
    (stated : Result Y (Fault Name)) (run now : RunState) → now ≡ run → Makes k view result stated
    → Makes {Y = Y × RunState} k (λ x. (view x, now)) result (stated >>= λ e. Ok (e, run))
with-run k view (Ok x) stated run now same h = ap (λ r. r >>= λ e. Ok (e, run)) h
    ∙ ap (λ r. Ok (view x, r)) (sym same)
with-run k view (Err e) stated run now same h = (h.0, λ f q. ap (λ r. r >>= λ e. Ok (e, run)) (h.1 f q))

-- ---- term after term
pub weakened-next : (p : Tm Name) (ps : List (Tm Name)) (o : Origin Name) (e : Entry) (x : Result Entry (Fault Name))
    → supposing (stated p (operand 0 o)) e ≡ x → weakened (term_entries (p ∷ ps) o) e
    ≡ (x >>= weakened (term_entries ps (operand 1 o)))
weakened-next p ps o e x h = ap (λ r. r >>= weakened (term_entries ps (operand 1 o))) h
