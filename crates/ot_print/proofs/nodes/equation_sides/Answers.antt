use Rattle.std.specs.Prelude.{IfNone, IfSome, ◌≢◌}
use Rattle.std.proofs.Common.{◌≡◌, ℕ, ◌<◌, List, length, false, Option, Some, None}
use Rattle.ot_logic.specs.Names.{Name}
use Rattle.ot_logic.specs.Trees.{Ty, Variable, Named}
use Rattle.ot_logic.specs.NamedTerms.{nameless_in}
use Rattle.ot_logic.specs.Naming.{names, IsNameTable}
use Rattle.ot_term.specs.Term.{TermTable}
use Rattle.ot_term.specs.TermTable.{term_at}
use Rattle.ot_term.specs.Equality.{named_equation}
use Rattle.ot_kernel.specs.State as state
use Rattle.ot_kernel.specs.Spelled.{IsSpelled}
use Rattle.ot_print.specs.Equations.{equation_of}
use Rattle.ot_text.specs.Texts.{is_equation}
use Rattle.ot_print.proofs.Spelled.{equation-none, equation-sides}
use Rattle.ot_print.proofs.nodes.equation_sides.Goals as goal

module _ (s : state.State) (t : TermTable) (k : IsSpelled s t) (table : IsNameTable s.names) (id : ℕ)
    (h : id < length s.terms) where
  none : (r : Option (ℕ × ℕ)) → IfNone r ((ty : Ty ℕ) (a b : Named ℕ) → term_at t.terms id ≢ named_equation ty a b)
      → IfNone r ((e : List (Variable Name)) → is_equation names (nameless_in names e (state.named_at s.terms id))
      ≡ false)
  none None a = equation-none s t k table id h a
  none (Some p) a = tt

  sides : (r : Option (ℕ × ℕ))
      → IfSome r (λ p. (ty : Ty ℕ)
      × (term_at t.terms id ≡ named_equation ty (term_at t.terms p.0) (term_at t.terms p.1)))
      → IfSome r (λ p. (p.0 < id) × (p.1 < id))
      → IfSome r
      (λ p. (ty : Ty Name)
      × (state.named_at s.terms id ≡ equation_of ty (state.named_at s.terms p.0) (state.named_at s.terms p.1)))
  sides None a b = tt
  sides (Some p) a b = equation-sides s t k table id p.0 p.1 h a b.0 b.1

pub returns-clause-none : goal.returns-clause-none
returns-clause-none c = none c.args.kernel.now c.terms.result.now c.terms.ensures c.sound.ensures.names c.args.id
    c.requires c.as_eq.result c.as_eq.ensures.none

pub returns-clause-sides : goal.returns-clause-sides
returns-clause-sides c = sides c.args.kernel.now c.terms.result.now c.terms.ensures c.sound.ensures.names c.args.id
    c.requires c.as_eq.result c.as_eq.ensures.sides c.as_eq.ensures.below
