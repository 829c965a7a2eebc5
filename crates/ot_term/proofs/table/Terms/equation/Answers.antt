use Rattle.std.specs.Result.{IfOk}
use Rattle.std.proofs.Common.{◌≡◌, ℕ, slice_get, Some, Err, false, ap, subst, sym, ◌∙◌}
use Rattle.std.proofs.lemmas.Option.{slice_get_within}
use Rattle.ot_logic.specs.Trees.{Named, NConst, NApp}
use Rattle.ot_logic.specs.Naming.{numbers}
use Rattle.ot_type.specs.declared.fault.TableFault.TheVariants.{Nesting}
use Rattle.ot_type.specs.TypeTable.{type_at}
use Rattle.ot_term.specs.TermTable.{term_at, is_within_limit}
use Rattle.ot_term.specs.Equality.{named_equation, equality_ty}
use Rattle.ot_term.proofs.Limit.{past-function}
use Rattle.ot_term.proofs.Equations.{left_tree, left_typed, equation_tree, equation_typed}
use Rattle.ot_term.proofs.table.Terms.equation.Goals as goal
use Rattle.ot_term.proofs.table.Terms.equation.Goals.{In_ok-left}
use Rattle.ot_logic.proofs.Results.{same_Err}

pub apply-requires-clause-typed : goal.apply-requires-clause-typed
apply-requires-clause-typed c = left_typed c.args.self.now c.equality.new.self c.equality.ensures.grown.grows
    c.args.ty
    c.args.a c.in_ok-equality.equality c.requires.a c.in_ok-equality.ensures.ok c.requires.typed_a

pub returns-in_err-left-clause-nesting : goal.returns-in_err-left-clause-nesting
returns-in_err-left-clause-nesting c =
    λ p.
    let tree = left_tree c.args.self.now c.equality.new.self c.equality.ensures.grown.grows c.args.ty c.args.a
    c.in_ok-equality.equality c.requires.a c.in_ok-equality.ensures.ok c.requires.typed_a in
    let passes = c.in_err-left.ensures.nesting
    (ap Err (same_Err c.from_residual-in_err-left.result _ _ c.from_residual-in_err-left.ensures.1 p)) in
    past-function
    (NApp (NConst numbers.equals (equality_ty (type_at c.args.self.now.types c.args.ty)))
    (term_at c.args.self.now.terms c.args.a)) (term_at c.args.self.now.terms c.args.b)
    (ap is_within_limit (sym tree) ∙ passes)

pub apply-requires-2-clause-f : goal.apply-requires-2-clause-f
apply-requires-2-clause-f c = slice_get_within c.apply.new.self.terms c.in_ok-left.left _ c.in_ok-left.ensures.ok

pub apply-requires-2-clause-ty : goal.apply-requires-2-clause-ty
apply-requires-2-clause-ty c = slice_get_within c.apply.new.self.types c.in_ok-equality.equality.truth _
    (c.apply.ensures.grown.grows.types.keeps c.in_ok-equality.equality.truth _ c.in_ok-equality.ensures.ok.truth)

pub apply-requires-2-clause-typed : goal.apply-requires-2-clause-typed
apply-requires-2-clause-typed c =
    equation_typed c.args.self.now c.equality.new.self c.equality.ensures.grown.grows c.args.ty c.args.a
    c.in_ok-equality.equality c.requires.a c.in_ok-equality.ensures.ok c.requires.typed_a c.apply.new.self
    c.apply.ensures.grown.grows c.args.b c.in_ok-left.left c.requires.b c.in_ok-left.ensures.ok c.requires.typed_b

-- the tree of the last application
whole : (c : In_ok-left) → NApp (term_at c.apply.new.self.terms c.in_ok-left.left)
    (term_at c.apply.new.self.terms c.args.b) ≡ named_equation (type_at c.args.self.now.types c.args.ty)
    (term_at c.args.self.now.terms c.args.a) (term_at c.args.self.now.terms c.args.b)
whole c =
    equation_tree c.args.self.now c.equality.new.self c.equality.ensures.grown.grows c.args.ty c.args.a
    c.in_ok-equality.equality c.requires.a c.in_ok-equality.ensures.ok c.requires.typed_a c.apply.new.self
    c.apply.ensures.grown.grows c.args.b c.in_ok-left.left c.requires.b c.in_ok-left.ensures.ok

pub returns-clause-ok : goal.returns-clause-ok
returns-clause-ok c =
    subst (λ (tree : Named ℕ). IfOk c.apply-2.result (λ id. slice_get c.apply-2.new.self.terms id ≡ Some tree))
    (whole (goal.at.returns-clause-ok c).In_ok-left) c.apply-2.ensures.ok

pub returns-clause-nesting : goal.returns-clause-nesting
returns-clause-nesting c =
    subst (λ (tree : Named ℕ). c.apply-2.result ≡ Err Nesting → is_within_limit tree ≡ false)
    (whole (goal.at.returns-clause-nesting c).In_ok-left) c.apply-2.ensures.nesting
