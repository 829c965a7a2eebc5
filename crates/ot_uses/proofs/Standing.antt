-- What stands at the places of what is used, in the lists of a session.
use Rattle.std.proofs.Common.{◌≡◌, ℕ, zero, suc, ◌<◌, List, [], ◌∷◌, length}
use Rattle.std.proofs.Common.{map, refl, sym, ap, subst, ◌∙◌, inl, inr, arith}
use Rattle.std.specs.List.{All, filter}
use Rattle.ot_logic.specs.Lists.{IsMember}
use Rattle.ot_logic.specs.Names.{Name}
use Rattle.ot_logic.specs.Trees.{Sequent, Definition}
use Rattle.ot_trace.specs.Origins.{Origin}
use Rattle.ot_written.specs.Needed.{firsts_by}
use Rattle.ot_written.proofs.Filters.{filter-to}
use Rattle.ot_machine.specs.States.{Given, Made, RunState}
use Rattle.ot_machine.specs.Rows.{definitions_of}
use Rattle.ot_machine.specs.Meaning.{origin_of, givens_of, made_of, run_of, IsRun}
use Rattle.ot_machine.specs.declared.session.Session.{Session}
use Rattle.ot_uses.specs.Used.{beside_places, same, is_assumed, is_used, used_assumptions}
use Rattle.ot_uses.specs.Used.{used_definitions, assumption_places, definition_places}
use Rattle.ot_uses.specs.Placing.{picked}
use Rattle.ot_uses.proofs.Numbering.{places-inside, places-lead, items-filter, items-firsts, firsts-member}

-- ---- the lists of a run

pub given-origins : (s : Session) (qs : List (Sequent Name)) (is : List ℕ) → length is ≡ length qs
    → map (origin_of s) is ≡ map (λ g. g.origin) (givens_of s qs is)
given-origins s [] [] e = refl
given-origins s [] (i ∷ is) e = absurd (omega arith)
given-origins s (q ∷ qs) [] e = absurd (omega arith)
given-origins s (q ∷ qs) (i ∷ is) e = ap (λ l. origin_of s i ∷ l) (given-origins s qs is (omega arith))

pub made-origins : (s : Session) (ds : List (Definition Name)) (is : List ℕ) → length is ≡ length ds
    → map (origin_of s) is ≡ map (λ m. m.origin) (made_of s ds is)
made-origins s [] [] e = refl
made-origins s [] (i ∷ is) e = absurd (omega arith)
made-origins s (d ∷ ds) [] e = absurd (omega arith)
made-origins s (d ∷ ds) (i ∷ is) e = ap (λ l. origin_of s i ∷ l) (made-origins s ds is (omega arith))

givens-long : (s : Session) (qs : List (Sequent Name)) (is : List ℕ) → length is ≡ length qs
    → length (givens_of s qs is) ≡ length qs
givens-long s [] [] e = refl
givens-long s [] (i ∷ is) e = absurd (omega arith)
givens-long s (q ∷ qs) [] e = absurd (omega arith)
givens-long s (q ∷ qs) (i ∷ is) e = ap suc (givens-long s qs is (omega arith))

made-long : (s : Session) (ds : List (Definition Name)) (is : List ℕ) → length is ≡ length ds
    → length (made_of s ds is) ≡ length ds
made-long s [] [] e = refl
made-long s [] (i ∷ is) e = absurd (omega arith)
made-long s (d ∷ ds) [] e = absurd (omega arith)
made-long s (d ∷ ds) (i ∷ is) e = ap suc (made-long s ds is (omega arith))

-- the sequents and the definitions of a run are those of the kernel
given-sequents : (s : Session) (qs : List (Sequent Name)) (is : List ℕ) → length is ≡ length qs
    → map (λ g. g.sequent) (givens_of s qs is) ≡ qs
given-sequents s [] [] e = refl
given-sequents s [] (i ∷ is) e = absurd (omega arith)
given-sequents s (q ∷ qs) [] e = absurd (omega arith)
given-sequents s (q ∷ qs) (i ∷ is) e = ap (λ l. q ∷ l) (given-sequents s qs is (omega arith))

made-definitions : (s : Session) (ds : List (Definition Name)) (is : List ℕ) → length is ≡ length ds
    → map (λ m. m.definition) (made_of s ds is) ≡ ds
made-definitions s [] [] e = refl
made-definitions s [] (i ∷ is) e = absurd (omega arith)
made-definitions s (d ∷ ds) [] e = absurd (omega arith)
made-definitions s (d ∷ ds) (i ∷ is) e = ap (λ l. d ∷ l) (made-definitions s ds is (omega arith))

all-of : (n : ℕ) (is : List ℕ) → ((i : ℕ) → IsMember i is → i < n) → All (λ i. i < n) is
all-of n [] h k d l = absurd (omega arith)
all-of n (x ∷ is) h zero d l = h x (inl refl)
all-of n (x ∷ is) h (suc k) d l = all-of n is (λ i m. h i (inr m)) k d (omega arith)

-- ---- at the places

module _ (s : Session) (run : IsRun s) (o : Origin Name) where
  abbrev r : RunState
  r = run_of s

  abbrev givens : List (ℕ × Given)
  givens = filter (λ p. is_assumed r o p.1) (beside_places 0 r.assumptions)

  abbrev mades : List (ℕ × Made)
  mades = filter (λ p. is_used r o p.1) (firsts_by same (λ p. p.1.origin) (beside_places 0 r.definitions))

  given-part : (p : ℕ × Given) → IsMember p givens → IsMember p (beside_places 0 r.assumptions)
  given-part p m = (filter-to (λ p. is_assumed r o p.1) p (beside_places 0 r.assumptions) m).0

  made-part : (p : ℕ × Made) → IsMember p mades → IsMember p (beside_places 0 r.definitions)
  made-part p m =
      firsts-member (λ p. p.1.origin) p (beside_places 0 r.definitions)
      (filter-to (λ p. is_used r o p.1) p (firsts_by same (λ p. p.1.origin) (beside_places 0 r.definitions)) m).0

  pub assumptions-inside : All (λ i. i < length s.kernel.assumptions) (assumption_places r o)
  assumptions-inside =
      all-of _ _
      (λ i m. subst (λ n. i < n) (givens-long s s.kernel.assumptions s.assumption_steps.items run.each_assumption)
      (places-inside r.assumptions givens given-part i m))

  pub definitions-inside : All (λ i. i < length s.kernel.definitions) (definition_places r o)
  definitions-inside =
      all-of _ _
      (λ i m. subst (λ n. i < n) (made-long s s.kernel.definitions s.definition_steps.items run.each_definition)
      (places-inside r.definitions mades made-part i m))

  pub sequents-are : picked s.kernel.assumptions (assumption_places r o) ≡ map (λ g. g.sequent) (used_assumptions r o)
  sequents-are =
      ap (λ l. picked l (assumption_places r o))
      (sym (given-sequents s s.kernel.assumptions s.assumption_steps.items run.each_assumption))
      ∙ places-lead r.assumptions givens given-part (λ g. g.sequent)
      ∙ ap (map (λ g. g.sequent)) (items-filter (is_assumed r o) 0 r.assumptions)

  pub definitions-are : picked s.kernel.definitions (definition_places r o) ≡ definitions_of (used_definitions r o)
  definitions-are =
      ap (λ l. picked l (definition_places r o))
      (sym (made-definitions s s.kernel.definitions s.definition_steps.items run.each_definition))
      ∙ places-lead r.definitions mades made-part (λ m. m.definition)
      ∙ ap (map (λ m. m.definition)) (items-firsts (λ m. m.origin) (is_used r o) 0 r.definitions)
