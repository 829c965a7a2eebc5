use Rattle.std.proofs.Common.{◌≡◌, ◌+◌, ◌++◌, ap, sym, ◌∙◌, arith}
use Rattle.ot_lists.specs.Pieces.{piece_of}
use Rattle.ot_lists.specs.declared.sequence.pieces.Piece.TheVariants.{Same}
use Rattle.ot_lists.proofs.PieceLemmas.{same-longer}
use Rattle.ot_lists.proofs.sequence.pieces.Piece.joined_with.Goals as goal

pub returns-clause-is : goal.returns-clause-is
returns-clause-is c = λ t fs.
    let next : c.in-Same.first + c.in-Same.before ≡ c.in-Same-piece.start = omega (arith, c.if-first-before.false) in
    ap (λ n. piece_of t fs (Same c.in-Same.first n)) c.in_ok-count.ensures.1
    ∙ same-longer t fs c.in-Same.first c.in-Same.before c.in-Same-piece.start c.in-Same-piece.count next
    ∙ (λ i. piece_of t fs (sym c.in-Same.is i) ++ piece_of t fs (sym c.in-Same-piece.is i))
