-- Definitions that a record makes, over a table that grew.
use Rattle.std.specs.List.{All}
use Rattle.std.specs.Global.{Vec}
use Rattle.std.proofs.Common.{◌≡◌, List, Result, Ok, Err, sym, ap, ◌∙◌, subst}
use Rattle.ot_logic.specs.Names.{Name}
use Rattle.ot_logic.specs.Naming.{names}
use Rattle.ot_logic.specs.Table.{Extends}
use Rattle.ot_logic.specs.Trees.{Definition}
use Rattle.ot_log_format.specs.Tokens as stated
use Rattle.ot_log_format.specs.Steps.{Step}
use Rattle.ot_log_format.specs.State.{LogState, Change, makes_definition}
use Rattle.ot_log_format.proofs.DefinitionSound.{IsAcceptable}
use Rattle.ot_log_nodes.specs.Items.{Item, HasTerm, term_at}
use Rattle.ot_log_rules.specs.Statements.{sequent_at, terms_at, HasStatement}
use Rattle.ot_log_rules.specs.Definitions.{definition_at, HasDefinition, Defines}
use Rattle.ot_log_rules.specs.declared.statement.Statement.{Statement}
use Rattle.ot_log_rules.specs.declared.statement.StepFault.{StepFault}
use Rattle.ot_log_rules.specs.declared.statement.StepFault.TheVariants as step
use Rattle.ot_log_rules.specs.declared.definition.Definition as code
use Rattle.ot_log_rules.proofs.Staying.{definition-stays}
use Rattle.ot_verify.specs.Logged.{LogView, MadeBy}
use Rattle.ot_verify.specs.Held.{state_of, Establishes, AddsDefinition}
use Rattle.ot_verify.specs.declared.log.Log.TheInside.{Inside}
use Rattle.ot_verify.specs.declared.log.Refusal.{Refusal}
use Rattle.ot_verify.specs.declared.log.Refusal.TheVariants as refusals
use Rattle.ot_verify.proofs.Sound.{acceptable-here}
use Rattle.ot_verify.proofs.Logging.{held_of, IsKept, state-stays}

-- a change that does the same
pub made-alike : (r : Result (Unit {0}) Refusal) (c b : Change names) (old mid new : LogState Name) → c old ≡ b mid
    → MadeBy r b mid new → MadeBy r c old new
made-alike (Ok u) c b old mid new e m = e ∙ m
made-alike (Err refusals.BadStep) c b old mid new e m = e ∙ m
made-alike (Err refusals.LogNesting) c b old mid new e m = e ∙ m
made-alike (Err refusals.NoSuch) c b old mid new e m = m
made-alike (Err (refusals.Memory memory)) c b old mid new e m = tt

-- a copy is the same sequent
module _ (ts : List Item) (q r : Statement) (hyps : r.hyps.items ≡ q.hyps.items) (concl : r.concl ≡ q.concl) where
  pub copy-same : sequent_at ts r ≡ sequent_at ts q
  copy-same = λ i. record { hyps = terms_at ts (hyps i); concl = term_at ts (concl i) }

  pub copy-held : HasStatement ts q → HasStatement ts r
  copy-held h =
      record { hyps = subst (All (HasTerm ts)) (sym hyps) h.hyps; concl = subst (HasTerm ts) (sym concl) h.concl }

abbrev pub Steps : Type 0
Steps = List (Definition Name) → Result (Definition Name) stated.LogFault

pub made-definition : (made : Result (Vec Statement) StepFault) (d : Definition Name)
    (case : Steps) (r : Result (Unit {0}) Refusal) (old : LogState Name) (mid new : LogView)
    → mid.state ≡ old → Defines made d (case mid.state.definitions) mid.items → AddsDefinition r d made mid new
    → MadeBy r (makes_definition names case) old new.state
made-definition (Ok v) d case r old mid new e g a =
    subst (λ z. MadeBy r (makes_definition names case) z new.state) e
    (made-alike r (makes_definition names case) (makes_definition names (λ dl. Ok d)) mid.state
    mid.state new.state (ap (λ z. makes_definition names (λ dl. z) mid.state) g.2) a)
made-definition (Err step.BadStep) d case r old mid new e g a =
    subst (λ z. MadeBy r (makes_definition names case) z new.state) e
    (subst (λ z. MadeBy z (makes_definition names case) mid.state new.state)
    (sym a) (ap (λ z. makes_definition names (λ dl. z) mid.state) g))
made-definition (Err (step.Memory memory)) d case r old mid new e g a =
    subst (λ z. MadeBy z (makes_definition names case) old new.state) (sym a) tt

-- what a case gives may be next where the case is sound
pub establishes : (made : Result (Vec Statement) StepFault) (d : Definition Name) (case : Steps) (l : LogView)
    → Defines made d (case l.state.definitions) l.items
    → ((c : Definition Name) → case l.state.definitions ≡ Ok c
    → IsAcceptable names l.state.assumptions l.state.definitions c)
    → Establishes l d made
establishes (Ok v) d case l g s = (g.0, g.1, acceptable-here l.state.assumptions l.state.definitions d (s d g.2))
establishes (Err step.BadStep) d case l g s = tt
establishes (Err (step.Memory memory)) d case l g s = tt

-- the case, of the definitions that the grown table has, and the definition by that table
pub defines-grown : (l : Inside) (us : List Item) (e : Extends l.nodes us) (k : IsKept l.nodes l)
    (d : code.Definition) (has : HasDefinition l.nodes d) (made : Result (Vec Statement) StepFault) (case : Steps)
    → Defines made (definition_at l.nodes d) (case (state_of l.nodes (held_of l)).definitions) us
    → Defines made (definition_at us d) (case (state_of us (held_of l)).definitions) us
defines-grown l us e k d has made case g =
    subst (λ (s : LogState Name). Defines made (definition_at us d) (case s.definitions) us)
    (sym (state-stays l.nodes us e (held_of l) k.log))
    (subst (λ z. Defines made z (case (state_of l.nodes (held_of l)).definitions) us)
    (sym (definition-stays l.nodes us e d has)) g)
