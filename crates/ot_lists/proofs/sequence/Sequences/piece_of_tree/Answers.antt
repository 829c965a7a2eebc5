use Rattle.ot_lists.proofs.sequence.Sequences.piece_of_tree.Goals as goal

pub returns-then-are_apart-clause-piece : goal.returns-then-are_apart-clause-piece
returns-then-are_apart-clause-piece c =
    (c.requires.tree, λ x m n. c.are_apart.ensures.apart c.if-are_apart.true x n m)
