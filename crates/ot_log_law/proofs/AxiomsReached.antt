-- Each axiom that is written is needed.
use Rattle.std.specs.List.{AllByRecursion}
use Rattle.std.proofs.Common.{◌≡◌, ℕ, suc, Bool, true, false, cond, List, [], ◌∷◌}
use Rattle.std.proofs.Common.{Option, Some, None, refl, ap, subst, ◌∙◌, inl, inr}
use Rattle.ot_logic.specs.Lists.{IsMember}
use Rattle.ot_logic.specs.Names.{Name}
use Rattle.ot_logic.specs.declared.command.Cmd.{Cmd}
use Rattle.ot_logic.specs.declared.command.Cmd.TheVariants as words
use Rattle.ot_laws.proofs.Sets.{all-member}
use Rattle.ot_trace.specs.Origins.{Origin, Origins, Number, Named, Make, Define}
use Rattle.ot_trace.specs.Origins.{Outcome, NoOrigins, MoreOrigins, listed}
use Rattle.ot_trace.specs.Reach.{IsReached, Operand}
use Rattle.ot_machine.specs.Lawful.{IsAxiom}
use Rattle.ot_log_law.specs.Derived.{makes_theorem}
use Rattle.ot_log_law.specs.Writing.{Written, number_of, once, put_theorem, write, write_all}
use Rattle.ot_log_law.specs.Writing.{outcomes, add_outcomes, put_definition, write_definition}
use Rattle.ot_log_law.specs.Writing.{write_definitions, put_result, write_results}
use Rattle.ot_log_law.proofs.Outcomes.{numbered, added-theorems}
use Rattle.ot_logic.proofs.Members.{IsMember-cases}

numbered-member : (os : List (Origin Name)) (n : ℕ) (o : Origin Name) (k : ℕ) → IsMember (o, k) (numbered n os)
    → IsMember o os
numbered-member [] n o k m = absurd m
numbered-member (p ∷ os) n o k (inl e) = inl (ap (λ (z : Origin Name × ℕ). z.0) e)
numbered-member (p ∷ os) n o k (inr m) = inr (numbered-member os (suc n) o k m)

not-axiom : (j : ℕ) (d o : Origin Name) → Outcome j d ≡ o → IsAxiom o → ⊥
not-axiom j d o e (os, f) = let g : Outcome j d ≡ Make words.Axiom os = e ∙ f in cc

no-axioms : (w : Cmd) (d : Origin Name) → AllByRecursion (λ o. IsAxiom o → ⊥) (outcomes w d)
no-axioms words.DefineTypeOp d =
    (λ a. not-axiom 1 d (Outcome 1 d) refl a, (λ a. not-axiom 2 d (Outcome 2 d) refl a, tt))
no-axioms _ d = (λ a. not-axiom 1 d (Outcome 1 d) refl a, tt)

outcome-other : (w : Cmd) (d o : Origin Name) → IsMember o (outcomes w d) → IsAxiom o → ⊥
outcome-other w d o m = all-member (λ p. IsAxiom p → ⊥) (outcomes w d) (no-axioms w d) o m

module _ (roots ds : List (Origin Name)) where
  abbrev pub AxiomsReached : Written → Type 0
  AxiomsReached x = (o : Origin Name) (k : ℕ) → IsMember (o, k) x.theorems → IsAxiom o → IsReached roots ds o

  put-reached : (w : Cmd) (os : Origins Name) (x : Written) → IsReached roots ds (Make w os) → AxiomsReached x
      → AxiomsReached (put_theorem w os x)
  put-reached w os x r h o k m a = elim (IsMember-cases (o, k) x.theorems _ m) [
    | inl i ↦ h o k i a
    | inr i ↦ elim i [ inl e ↦ subst (IsReached roots ds) (ap (λ (z : Origin Name × ℕ). z.0) e) r | inr n ↦ absurd n ]
  ]

  mutual
    pub write-reached : (o : Origin Name) (x : Written) → IsReached roots ds o → AxiomsReached x
        → AxiomsReached (write o x)
    write-reached (Number k) x r h = h
    write-reached (Named n) x r h = h
    write-reached (Define w os) x r h = h
    write-reached (Outcome j d) x r h = h
    write-reached (Make w os) x r h =
        by (makes_theorem w) (number_of (Make w os) x.theorems)
        (put-reached w os (write_all os x) r (all-reached os x (λ p m. Operand (Make w os) p r m) h))
      where
        by : (t : Bool) (k : Option ℕ) → AxiomsReached (put_theorem w os (write_all os x))
            → AxiomsReached (cond t (once k (λ y. put_theorem w os (write_all os y)) x) x)
        by false k g = h
        by true (Some k) g = h
        by true None g = g

    pub all-reached : (os : Origins Name) (x : Written)
        → ((p : Origin Name) → IsMember p (listed os) → IsReached roots ds p)
        → AxiomsReached x → AxiomsReached (write_all os x)
    all-reached NoOrigins x r h = h
    all-reached (MoreOrigins o os) x r h =
        all-reached os (write o x) (λ p m. r p (inr m)) (write-reached o x (r o (inl refl)) h)

  added-reached : (w : Cmd) (d : Origin Name) (x : Written) → AxiomsReached x
      → AxiomsReached (add_outcomes (outcomes w d) x)
  added-reached w d x h o k m a =
      elim (IsMember-cases (o, k) x.theorems (numbered x.log.sequents (outcomes w d))
      (subst (IsMember (o, k)) (added-theorems (outcomes w d) x) m)) [
        | inl i ↦ h o k i a
        | inr i ↦ absurd (outcome-other w d o (numbered-member (outcomes w d) x.log.sequents o k i) a)
      ]

  definition-reached : (d : Origin Name) (x : Written) → IsReached roots ds d → AxiomsReached x
      → AxiomsReached (write_definition d x)
  definition-reached (Define w os) x r h =
      added-reached w (Define w os) (put_definition w os (write_all os x))
      (all-reached os x (λ p m. Operand (Define w os) p r m) h)
  definition-reached (Number k) x r h = h
  definition-reached (Named n) x r h = h
  definition-reached (Make w os) x r h = h
  definition-reached (Outcome j d) x r h = h

  pub definitions-reached : (es : List (Origin Name)) (x : Written)
      → ((d : Origin Name) → IsMember d es → IsReached roots ds d)
      → AxiomsReached x → AxiomsReached (write_definitions es x)
  definitions-reached [] x r h = h
  definitions-reached (d ∷ es) x r h =
      definitions-reached es (write_definition d x) (λ e m. r e (inr m)) (definition-reached d x (r d (inl refl)) h)

  pub results-reached : (os : List (Origin Name)) (x : Written)
      → ((o : Origin Name) → IsMember o os → IsReached roots ds o)
      → AxiomsReached x → AxiomsReached (write_results os x)
  results-reached [] x r h = h
  results-reached (o ∷ os) x r h =
      results-reached os (put_result o (write o x)) (λ p m. r p (inr m)) (write-reached o x (r o (inl refl)) h)
