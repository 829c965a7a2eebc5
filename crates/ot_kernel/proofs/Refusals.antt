-- Refusals, against the stated ones.
use Rattle.std.specs.Prelude.{ℕ, List, Option, Some, Result, Ok, Err, IfErr}
use Rattle.std.specs.Result.{IsErrAnd}
use Rattle.std.proofs.Common.{◌≡◌, sym, ap, subst, ◌∙◌}
use Rattle.std.proofs.lemmas.Option.{same_Some}
use Rattle.ot_logic.specs.Names.{Name}
use Rattle.ot_logic.specs.Faults.{Fault}
use Rattle.ot_logic.specs.Trees.{Named, Sequent}
use Rattle.ot_kernel.specs.declared.fault.RuleFault.{RuleFault}
use Rattle.ot_kernel.specs.declared.theorem.Theorem.{Theorem}
use Rattle.ot_kernel.specs.Answers.{Refuses, RefusesRule}
use Rattle.ot_kernel.specs.Numbered.{Derives}

-- a refusal is the stated one
pub refuses : {X E : Type 0} (fault_of : E → Option (Fault Name)) (e : E) (f : Fault Name)
    (stated : Result X (Fault Name)) → fault_of e ≡ Some f → stated ≡ Err f → Refuses fault_of e stated
refuses fault_of e f stated p s g q = s ∙ ap Err (same_Some f g (sym p ∙ q))

-- what holds of a refusal holds where a call hands it on
pub handed_on : {X E : Type 0} (r : Result X E) (e : E) (P : E → Type 0) → IsErrAnd r (λ f. f ≡ e) → P e → IfErr r P
handed_on (Ok x) e P h p = tt
handed_on (Err f) e P h p = subst P (sym h) p

-- a rule's refusal that a call hands on
pub none_derived : (r : Result Theorem RuleFault) (e : RuleFault) (stated : Result (Sequent ℕ) (Fault ℕ))
    (ts : List (Named ℕ)) → IsErrAnd r (λ f. f ≡ e) → RefusesRule e stated → Derives r stated ts
none_derived (Ok th) e stated ts h p = absurd h
none_derived (Err f) e stated ts h p = subst (λ g. RefusesRule g stated) (sym h) p
