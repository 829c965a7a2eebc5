-- A step over operands of a log: what it gives follows, and the record makes it.
use Rattle.std.specs.Prelude.{◌≡◌, ℕ, List, slice_get, Some, Ok, Result}
use Rattle.std.proofs.Common.{ap, subst}
use Rattle.ot_logic.specs.Names.{Name}
use Rattle.ot_logic.specs.Naming.{names}
use Rattle.ot_logic.specs.Trees.{Tm, Sequent, Definition}
use Rattle.ot_logic.specs.Table.{Extends}
use Rattle.ot_laws.specs.Theorem.{IsTheorem}
use Rattle.ot_log_format.specs.Steps.{Step}
use Rattle.ot_log_format.specs.State.{makes_sequent}
use Rattle.ot_log_nodes.specs.Items.{Item, term_at}
use Rattle.ot_log_rules.specs.Statements.{sequent_at, Gives}
use Rattle.ot_log_rules.specs.declared.statement.Statement.{Statement}
use Rattle.ot_log_rules.specs.declared.statement.StepFault.{StepFault}
use Rattle.ot_verify.specs.Logged.{LogView, MadeBy}
use Rattle.ot_verify.specs.Held.{view_of, Supports, AddsSequent}
use Rattle.ot_verify.specs.declared.log.Log.TheInside.{Inside}
use Rattle.ot_verify.specs.declared.log.Refusal.{Refusal}
use Rattle.ot_verify.proofs.Logging.{held_of, IsKept, state-then, term-here, sequent-here, theorem-here}
use Rattle.ot_verify.proofs.Logging.{made-sequent, supported}

module _ (l : Inside) (now : LogView) (is : view_of l.nodes (held_of l) ≡ now) (k : IsKept l.nodes l)
    (us : List Item) (e : Extends l.nodes us) (made : Result Statement StepFault) where
  -- what a step gave of operands is what the record makes of those that they stand for
  pub stepped : (given meant : Step names) → given ≡ meant → Gives made given us → (r : Result (Unit {0}) Refusal)
      (new : LogView) → AddsSequent r made (view_of us (held_of l)) new
      → MadeBy r (makes_sequent names meant) now.state new.state
  stepped given meant same g r new a =
      subst (λ z. MadeBy r (makes_sequent names z) now.state new.state) same
      (made-sequent made given r now.state (view_of us (held_of l)) new (state-then l us now is e k) g a)

  -- ---- over a term
  module _ (step : Tm Name → Step names) (i id : ℕ) (at : slice_get l.terms.items i ≡ Some id)
      (g : Gives made (step (term_at l.nodes id)) us) where
    pub term-follows : ((al : List (Sequent Name)) (dl : List (Definition Name)) (t : Tm Name) (q : Sequent Name)
        → step t ≡ Ok q → IsTheorem names al dl q) → Supports (view_of us (held_of l)) made
    term-follows sound =
        let mid = view_of us (held_of l) in
        supported made (step (term_at l.nodes id)) mid g
        (sound mid.state.assumptions mid.state.definitions (term_at l.nodes id))

    pub term-stepped : (t : Tm Name) → slice_get now.state.terms i ≡ Some t → (r : Result (Unit {0}) Refusal)
        (new : LogView) → AddsSequent r made (view_of us (held_of l)) new
        → MadeBy r (makes_sequent names (step t)) now.state new.state
    term-stepped t h = stepped (step (term_at l.nodes id)) (step t) (ap step (term-here l now is i id t at h)) g

  -- ---- over two sequents
  module _ (step : Sequent Name → Sequent Name → Step names) (i j : ℕ) (p q : Statement)
      (at : slice_get l.sequents.items i ≡ Some p) (too : slice_get l.sequents.items j ≡ Some q)
      (g : Gives made (step (sequent_at l.nodes p) (sequent_at l.nodes q)) us) where
    pub sequents-follow : ((al : List (Sequent Name)) (dl : List (Definition Name)) (a b c : Sequent Name)
        → IsTheorem names al dl a → IsTheorem names al dl b → step a b ≡ Ok c → IsTheorem names al dl c)
        → Supports (view_of us (held_of l)) made
    sequents-follow sound =
        let mid = view_of us (held_of l) in
        let a = sequent_at l.nodes p in
        let b = sequent_at l.nodes q in
        supported made (step a b) mid g
        (λ c h. sound mid.state.assumptions mid.state.definitions a b c (theorem-here l us e k i p at)
        (theorem-here l us e k j q too) h)

    pub sequents-stepped : (a b : Sequent Name) → slice_get now.state.sequents i ≡ Some a
        → slice_get now.state.sequents j ≡ Some b → (r : Result (Unit {0}) Refusal) (new : LogView)
        → AddsSequent r made (view_of us (held_of l)) new
        → MadeBy r (makes_sequent names (step a b)) now.state new.state
    sequents-stepped a b h m =
        let first = sequent-here l now is i p a at h in
        let second = sequent-here l now is j q b too m in
        stepped (step (sequent_at l.nodes p) (sequent_at l.nodes q)) (step a b)
        (λ x. step (first x) (second x)) g
