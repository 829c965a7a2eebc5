use Rattle.std.proofs.Common.{◌≡◌, ◌++◌, ◌∷◌, [], sym, ap, subst, ◌∙◌}
use Rattle.ot_lists.specs.Pieces.{whole, ArePieces}
use Rattle.ot_lists.proofs.PieceLemmas.{whole-push, pieces-push, longer-whole, longer-pieces}
use Rattle.ot_lists.proofs.sequence.pieces.Piece.put_behind.Goals as goal
use Rattle.ot_lists.proofs.sequence.pieces.Piece.put_behind.Goals.{In_ok-push-4}

pub returns-in-Some-joined_with-clause-whole : goal.returns-in-Some-joined_with-clause-whole
returns-in-Some-joined_with-clause-whole c = λ t fs.
    longer-whole t fs c.pop.new.self.items c.args.pieces.now.items c.push-in-Some-joined_with.new.self.items
    c.in-Some.last c.in-Some-joined_with.longer c.args.self c.in-Some.ensures.items c.in_ok-push-2.ensures.items
    (c.in-Some-joined_with.ensures.is t fs)

pub returns-in-Some-joined_with-clause-pieces : goal.returns-in-Some-joined_with-clause-pieces
returns-in-Some-joined_with-clause-pieces c = λ t fs h one.
    longer-pieces t fs c.pop.new.self.items c.args.pieces.now.items c.push-in-Some-joined_with.new.self.items
    c.in-Some.last c.in-Some-joined_with.longer c.args.self c.in-Some.ensures.items c.in_ok-push-2.ensures.items h
    (c.in-Some-joined_with.ensures.piece t fs one)

-- it stands behind all the others
items : (c : In_ok-push-4) → c.push-3.new.self.items ≡ c.args.pieces.now.items ++ c.args.self ∷ []
items c =
    c.in_ok-push-4.ensures.items
    ∙ ap (λ l. l ++ c.args.self ∷ []) (c.in_ok-push-3.ensures.items ∙ sym c.in-Some.ensures.items)

pub returns-clause-whole : goal.returns-clause-whole
returns-clause-whole c = λ t fs.
    ap (whole t fs) (items ((goal.at.returns-clause-whole c).In_ok-push-4))
    ∙ whole-push t fs c.args.pieces.now.items c.args.self

pub returns-clause-pieces : goal.returns-clause-pieces
returns-clause-pieces c = λ t fs h one.
    subst (ArePieces t fs) (sym (items ((goal.at.returns-clause-pieces c).In_ok-push-4)))
    (pieces-push t fs c.args.pieces.now.items c.args.self h one)
