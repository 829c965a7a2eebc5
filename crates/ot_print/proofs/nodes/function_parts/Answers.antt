use Rattle.std.specs.Prelude.{MatchOption, IfNone, IfSome, ◌≢◌}
use Rattle.std.proofs.Common.{◌≡◌, ℕ, ◌<◌, length, false, Option, Some, None}
use Rattle.ot_logic.specs.Trees.{Ty}
use Rattle.ot_logic.specs.Hol.{fun_ty}
use Rattle.ot_logic.specs.Naming.{names, numbers, IsNameTable}
use Rattle.ot_type.specs.TypeTable.{type_at}
use Rattle.ot_term.specs.Term.{TermTable}
use Rattle.ot_kernel.specs.State as state
use Rattle.ot_kernel.specs.Spelled.{IsSpelled}
use Rattle.ot_text.specs.Texts.{is_function}
use Rattle.ot_print.proofs.Spelled.{function-none, function-parts}
use Rattle.ot_print.proofs.nodes.function_parts.Goals as goal

module _ (s : state.State) (t : TermTable) (k : IsSpelled s t) (table : IsNameTable s.names) (id : ℕ)
    (h : id < length s.types) where
  abbrev Answers : Option (ℕ × ℕ) → Type 0
  Answers r = MatchOption r ((a b : Ty ℕ) → type_at t.types id ≢ fun_ty numbers a b)
      (λ p. (type_at t.types id ≡ fun_ty numbers (type_at t.types p.0) (type_at t.types p.1)) × (p.0 < id)
      × (p.1 < id))

  none : (r : Option (ℕ × ℕ)) → Answers r → IfNone r (is_function names (state.type_at s id) ≡ false)
  none None a = function-none s t k table id h a
  none (Some p) a = tt

  parts : (r : Option (ℕ × ℕ)) → Answers r
      → IfSome r (λ p. state.type_at s id ≡ fun_ty names (state.type_at s p.0) (state.type_at s p.1))
  parts None a = tt
  parts (Some p) a = function-parts s t k table id p.0 p.1 h a.0 a.1 a.2

pub returns-clause-none : goal.returns-clause-none
returns-clause-none c = none c.args.kernel.now c.terms.result.now c.terms.ensures c.sound.ensures.names c.args.id
    c.requires c.as_fun.result (rw c.types.ensures.types at c.as_fun.ensures)

pub returns-clause-parts : goal.returns-clause-parts
returns-clause-parts c = parts c.args.kernel.now c.terms.result.now c.terms.ensures c.sound.ensures.names c.args.id
    c.requires c.as_fun.result (rw c.types.ensures.types at c.as_fun.ensures)
