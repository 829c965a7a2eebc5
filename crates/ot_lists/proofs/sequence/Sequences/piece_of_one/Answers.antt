use Rattle.std.proofs.Common.{◌∷◌, [], refl, sym, ◌∙◌}
use Rattle.ot_lists.specs.SequenceTable.{sequence_at}
use Rattle.ot_lists.proofs.PieceLemmas.{at-found, same-is, same-piece}
use Rattle.ot_lists.proofs.JoinLemmas.{place-lacking}
use Rattle.ot_lists.proofs.sequence.Sequences.piece_of_one.Goals as goal

pub returns-in-Some-place-clause-is : goal.returns-in-Some-place-clause-is
returns-in-Some-place-clause-is c =
    let fs = sequence_at c.args.self.now c.args.f in
    same-is c.args.self.now fs (c.args.y ∷ []) c.in-Some-place.place 1 refl
    (at-found fs c.args.y c.in-Some-place.place (sym c.in-Some-place.is ∙ c.in_ok-place.ensures.place))

pub returns-in-Some-place-clause-piece : goal.returns-in-Some-place-clause-piece
returns-in-Some-place-clause-piece c =
    let fs = sequence_at c.args.self.now c.args.f in
    same-piece c.args.self.now fs (c.args.y ∷ []) c.in-Some-place.place 1 refl
    (at-found fs c.args.y c.in-Some-place.place (sym c.in-Some-place.is ∙ c.in_ok-place.ensures.place))

pub returns-in-None-clause-piece : goal.returns-in-None-clause-piece
returns-in-None-clause-piece c =
    place-lacking (sequence_at c.args.self.now c.args.f) c.args.y (sym c.in_ok-place.ensures.place ∙ c.in-None.is)
