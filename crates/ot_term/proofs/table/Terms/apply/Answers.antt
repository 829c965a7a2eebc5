use Rattle.std.proofs.Common.{◌≡◌, ◌+◌, arith, ap}
use Rattle.ot_logic.specs.NamedTerms.{named_depth}
use Rattle.ot_logic.specs.Naming.{numbers}
use Rattle.ot_logic.specs.Trees.{NApp}
use Rattle.ot_logic.specs.Bounds.{names_in}
use Rattle.ot_term.specs.TermTable.{term_at}
use Rattle.ot_term.proofs.Limit.{past-depth}
use Rattle.ot_term.proofs.Suiting.{suits-application}
use Rattle.ot_term.proofs.NamesIn.{bound_named-term_at}
use Rattle.ot_term.proofs.table.Terms.apply.Goals as goal

pub returns-then-deepest-ge-DEPTH_LIMIT-clause-nesting : goal.returns-then-deepest-ge-DEPTH_LIMIT-clause-nesting
returns-then-deepest-ge-DEPTH_LIMIT-clause-nesting c =
    λ _. past-depth (NApp (term_at c.args.self.now.terms c.args.f) (term_at c.args.self.now.terms c.args.x))
    (omega (
      arith,
      c.depth.ensures.depth,
      c.depth-2.ensures.depth,
      c.max-deepest.ensures,
      c.if-deepest-ge-DEPTH_LIMIT.true,
    ))

pub intern-requires-clause-suits : goal.intern-requires-clause-suits
intern-requires-clause-suits c =
    let depth : c.max-deepest.result + 1 ≡ named_depth numbers (NApp (term_at c.args.self.now.terms c.args.f) (term_at c.args.self.now.terms c.args.x)) = omega (arith, c.depth.ensures.depth, c.depth-2.ensures.depth, c.max-deepest.ensures) in
    suits-application c.args.self.now c.depth.ensures.table c.args.f c.args.x c.args.ty (c.max-deepest.result + 1)
    c.requires.f c.requires.x c.requires.ty c.requires.typed depth (omega arith)

pub returns-clause-grown : goal.returns-clause-grown
returns-clause-grown c = record {
  grows = c.intern.ensures.grows;
  names = record {
    types = let e = ap names_in c.intern.ensures.types in omega (arith, e);
    terms = omega
        (arith, c.intern.ensures.names, bound_named-term_at _ _ c.requires.f, bound_named-term_at _ _ c.requires.x);
  };
  table = c.intern.ensures.table;
}
