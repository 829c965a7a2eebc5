use Rattle.std.specs.Prelude.{Result, Ok, Err, IfOk, ◌↔◌}
use Rattle.std.specs.List.{All}
use Rattle.std.proofs.Common.{ℕ, ◌<◌, List, length, map}
use Rattle.ot_logic.specs.Lists.{IsMember}
use Rattle.ot_logic.specs.Names.{Name}
use Rattle.ot_logic.specs.Naming.{names, numbers, IsNameTable}
use Rattle.ot_logic.specs.Trees.{Variable}
use Rattle.ot_logic.specs.Hol.{IsFree}
use Rattle.ot_logic.specs.NamedTerms.{IsFreeIn, nameless}
use Rattle.ot_term.specs.Term.{TermTable}
use Rattle.ot_term.specs.TermTable.{term_at, variable_of}
use Rattle.ot_term.specs.declared.term.VarKey.{VarKey}
use Rattle.ot_kernel.specs.State as state
use Rattle.ot_kernel.specs.Spelled.{IsSpelled}
use Rattle.ot_view.specs.Nodes.{AreKeysIn}
use Rattle.ot_view.proofs.Spelled.{keys_inside, frees_are}
use Rattle.ot_view.proofs.free_vars.Goals as goal

module _ {V E : Type 0} (items : V → List VarKey) (s : state.State) (t : TermTable) (k : IsSpelled s t)
    (table : IsNameTable s.names) (id : ℕ) (h : id < length s.terms) where
  inside : (r : Result V E) → IfOk r (λ vs. All (λ v. v.ty < length t.types) (items vs))
      → IfOk r (λ vs. (w : Variable ℕ) → IsMember w (map (variable_of t.types) (items vs))
      ↔ IsFree numbers w (nameless numbers (term_at t.terms id)))
      → IfOk r (λ vs. AreKeysIn s (items vs))
  inside (Ok vs) a b = keys_inside s t k table id h (items vs) a b
  inside (Err e) a b = tt

  free : (r : Result V E) → IfOk r (λ vs. All (λ v. v.ty < length t.types) (items vs))
      → IfOk r (λ vs. (w : Variable ℕ) → IsMember w (map (variable_of t.types) (items vs))
      ↔ IsFree numbers w (nameless numbers (term_at t.terms id)))
      → IfOk r (λ vs. (v : Variable Name) → IsMember v (map (state.variable_at s) (items vs))
      ↔ IsFreeIn names v (state.named_at s.terms id))
  free (Ok vs) a b = frees_are s t k table id h (items vs) a b
  free (Err e) a b = tt

pub returns-clause-inside : goal.returns-clause-inside
returns-clause-inside c = inside (λ vs. vs.items) c.args.kernel.now c.terms.result.now c.terms.ensures
    c.sound.ensures.names c.args.id c.requires c.free_vars.result c.free_vars.ensures.within c.free_vars.ensures.free

pub returns-clause-free : goal.returns-clause-free
returns-clause-free c = free (λ vs. vs.items) c.args.kernel.now c.terms.result.now c.terms.ensures
    c.sound.ensures.names c.args.id c.requires c.free_vars.result c.free_vars.ensures.within c.free_vars.ensures.free
