use Rattle.std.proofs.Common.{◌≡◌, [], sym, ap, true, false}
use Rattle.ot_logic.specs.Naming.{names}
use Rattle.ot_kernel.specs.State.{named_at}
use Rattle.ot_match.specs.Walk.{Maps}
use Rattle.ot_logic.specs.PlainTrees.{term_of_tree}
use Rattle.ot_match.specs.Found.{types_of, terms_of, maps_of}
use Rattle.ot_match.proofs.Holding.{found_by}
use Rattle.ot_match.proofs.find.find_match.Goals as goal

pub returns-then-branch-clause-matched : goal.returns-then-branch-clause-matched
returns-then-branch-clause-matched c =
    let k = c.args.kernel.now in
    let a = ap (types_of k) c.new.ensures.items in
    let b = ap (terms_of k) c.new-2.ensures.items in
    let empty : ◌≡◌ {A = Maps names} (types_of k c.new.result.items, terms_of k c.new-2.result.items) ([], []) =
    λ i. (a i, b i) in
    let walk = rw c.if-branch.true at c.in_ok-match_term.ensures.walk in
    sym (found_by (term_of_tree c.args.pattern.now) (named_at k.terms c.args.target)
    (types_of k c.new.result.items, terms_of k c.new-2.result.items) (maps_of k c.match_term.new.maps) true empty
    walk)

pub returns-else-branch-clause-matched : goal.returns-else-branch-clause-matched
returns-else-branch-clause-matched c =
    let k = c.args.kernel.now in
    let a = ap (types_of k) c.new.ensures.items in
    let b = ap (terms_of k) c.new-2.ensures.items in
    let empty : ◌≡◌ {A = Maps names} (types_of k c.new.result.items, terms_of k c.new-2.result.items) ([], []) =
    λ i. (a i, b i) in
    let walk = rw c.if-branch.false at c.in_ok-match_term.ensures.walk in
    sym (found_by (term_of_tree c.args.pattern.now) (named_at k.terms c.args.target)
    (types_of k c.new.result.items, terms_of k c.new-2.result.items) (maps_of k c.match_term.new.maps) false empty
    walk)
