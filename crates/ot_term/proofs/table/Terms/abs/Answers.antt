use Rattle.std.proofs.Common.{◌≡◌, ◌+◌, ◌<◌, length, Some, Err, arith, ap, ◌∙◌}
use Rattle.ot_logic.specs.Trees.{NAbs}
use Rattle.ot_logic.specs.NamedTerms.{named_depth, named_type}
use Rattle.ot_logic.specs.Naming.{numbers}
use Rattle.ot_logic.specs.Bounds.{names_in, names_in_terms}
use Rattle.ot_type.proofs.NamesIn.{bound_ty-type_at}
use Rattle.ot_term.specs.TermTable.{term_at, variable_of}
use Rattle.ot_term.proofs.Limit.{past-depth}
use Rattle.ot_term.proofs.Suiting.{suits-abstraction}
use Rattle.ot_term.proofs.Growing.{Grows-trans, abstraction-Grows}
use Rattle.ot_term.proofs.NamesIn.{bound_named-term_at}
use Rattle.ot_term.proofs.table.Terms.abs.Goals as goal
use Rattle.ot_logic.proofs.Results.{same_Err}

pub returns-then-inner-ge-DEPTH_LIMIT-clause-nesting : goal.returns-then-inner-ge-DEPTH_LIMIT-clause-nesting
returns-then-inner-ge-DEPTH_LIMIT-clause-nesting c =
    λ _. past-depth (NAbs (variable_of c.args.self.now.types c.args.v) (term_at c.args.self.now.terms c.args.body))
    (omega (arith, c.depth-inner.ensures.depth, c.if-inner-ge-DEPTH_LIMIT.true))

pub returns-in_err-ty-clause-nesting : goal.returns-in_err-ty-clause-nesting
returns-in_err-ty-clause-nesting c =
    λ p. c.in_err-ty.ensures.nesting (ap Err (same_Err c.from_residual.result _ _ c.from_residual.ensures.1 p))

pub intern-requires-clause-suits : goal.intern-requires-clause-suits
intern-requires-clause-suits c =
    let t = c.args.self.now in
    let u = c.abs_type.new.self in
    let g = c.abs_type.ensures.grown.grows in
    let same = abstraction-Grows t u g c.args.v c.args.body c.requires.ty c.requires.body in
    let depth : c.depth-inner.result + 1 ≡ named_depth numbers (NAbs (variable_of u.types c.args.v) (term_at u.terms c.args.body)) = omega (arith, c.depth-inner.ensures.depth, ap (named_depth numbers) same) in
    suits-abstraction u c.abs_type.ensures.grown.table c.args.v c.args.body c.in_ok-ty.ty (c.depth-inner.result + 1)
    (omega (arith, c.requires.body, g.terms.longer)) c.in_ok-ty.ensures.below
    (ap (named_type numbers) same ∙ c.in_ok-ty.ensures.typed) depth (omega arith)

pub returns-clause-ok : goal.returns-clause-ok
returns-clause-ok c = c.in_ok-intern.ensures.ok
    ∙ ap Some
    (abstraction-Grows c.args.self.now c.abs_type.new.self c.abs_type.ensures.grown.grows c.args.v c.args.body
    c.requires.ty c.requires.body)

pub returns-clause-grown : goal.returns-clause-grown
returns-clause-grown c =
    let grown : c.args.v.ty < length c.abs_type.new.self.types =
    omega (arith, c.requires.ty, c.abs_type.ensures.grown.grows.types.longer) in
    let body : c.args.body < length c.abs_type.new.self.terms =
    omega (arith, c.requires.body, c.abs_type.ensures.grown.grows.terms.longer) in
    let e = ap names_in c.intern.ensures.types in
    let d = ap names_in_terms c.abs_type.ensures.terms in
    record {
      grows = Grows-trans c.abs_type.ensures.grown.grows c.intern.ensures.grows;
      names = record {
        types = omega (arith, e, c.abs_type.ensures.grown.names.types);
        terms = omega (
          arith,
          d,
          c.intern.ensures.names,
          c.abs_type.ensures.grown.names.types,
          bound_ty-type_at _ _ grown,
          bound_named-term_at _ _ body,
        );
      };
      table = c.intern.ensures.table;
    }
