-- What is reached from roots stands on what is kept of a run.
use Rattle.std.proofs.Common.{◌≡◌, List, [], Ok, inl, inr, refl}
use Rattle.ot_logic.specs.Names.{Name}
use Rattle.ot_logic.specs.Lists.{IsMember}
use Rattle.ot_logic.specs.Trees.{Sequent}
use Rattle.ot_logic.specs.declared.command.Cmd.{Cmd}
use Rattle.ot_logic.specs.declared.command.Cmd.TheVariants as words
use Rattle.ot_trace.specs.Origins.{Origin, Origins, Number, Named, Make, Define}
use Rattle.ot_trace.specs.Origins.{Outcome, NoOrigins, MoreOrigins, listed}
use Rattle.ot_trace.specs.Reach.{IsReached, Operand, OfTheorem}
use Rattle.ot_machine.specs.Objects.{theorem}
use Rattle.ot_machine.specs.States.{Made}
use Rattle.ot_machine.specs.Values.{value, definition_of}
use Rattle.ot_machine.specs.Lawful.{Basis, RestsOn, AreOn, IsTaken}
use Rattle.ot_uses.proofs.Resting.{IsAssumed, StandsOn, AllStand}

module _ (bl : List (Sequent Name)) (roots ds : List (Origin Name)) (b : Basis) (es : List Made)
    (definitions : (d : Origin Name) → IsMember d b.definitions → IsReached roots ds d
    → (m : Made) × IsMember m es × (definition_of [] d ≡ Ok m.definition))
    (axioms : (os : Origins Name) (q : Sequent Name) → IsMember (Make words.Axiom os) b.axioms
    → IsReached roots ds (Make words.Axiom os) → value (Make words.Axiom os) ≡ Ok (theorem q) → IsMember q bl) where
  assumed : (w : Cmd) (os : Origins Name) → IsTaken b w os → IsReached roots ds (Make w os) → IsAssumed bl es w os
  assumed words.Axiom os t r = λ q e. axioms os q t r e
  assumed _ os t r = tt

  mutual
    pub reached-stands : (o : Origin Name) → RestsOn b o → IsReached roots ds o → StandsOn bl es o
    reached-stands (Number k) h r = tt
    reached-stands (Named n) h r = tt
    reached-stands (Make w os) h r = (all-stand os h.0 (λ p m. Operand (Make w os) p r m), assumed w os h.1 r)
    reached-stands (Define w os) h r = all-stand os h (λ p m. Operand (Define w os) p r m)
    reached-stands (Outcome j d) h r = definitions d h.0 (OfTheorem j d r)

    all-stand : (os : Origins Name) → AreOn b os → ((p : Origin Name) → IsMember p (listed os) → IsReached roots ds p)
        → AllStand bl es os
    all-stand NoOrigins h r = tt
    all-stand (MoreOrigins o os) h r = (reached-stands o h.0 (r o (inl refl)), all-stand os h.1 (λ p m. r p (inr m)))
