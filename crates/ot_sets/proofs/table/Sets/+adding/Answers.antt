use Rattle.std.proofs.Common.{Some, inl, inr, sym, ap, subst, ◌∙◌, eqb-true}
use Rattle.std.proofs.lemmas.Result.{on_ok_weaker}
use Rattle.ot_sets.specs.Table.{tree_of, Has}
use Rattle.ot_sets.proofs.AddingLemmas.{adds-none, adds-then, added-empty, added-one, added-halves}
use Rattle.ot_sets.proofs.UnionLemmas.{halved-is}
use Rattle.ot_sets.proofs.table.Sets.+adding.Goals as goal

pub push_added-returns-then-eq : goal.push_added-returns-then-eq
push_added-returns-then-eq t c =
    adds-none (Has c.args.self.now c.args.known) (Has c.args.self.now c.args.set) c.args.out.now.items
    (λ k m. subst (λ z. Has c.args.self.now z k)
    (sym (eqb-true c.args.known c.args.set (sym c.eq.ensures ∙ c.if-eq.true))) m)

pub push_added-returns-in-Empty : goal.push_added-returns-in-Empty
push_added-returns-in-Empty t c =
    added-empty c.args.self.now c.args.known c.args.set c.args.out.now.items
    (c.node.ensures.tree ∙ ap (λ n. Some (tree_of c.args.self.now n)) c.in-Empty.is)

pub push_added-returns-in_ok-push-in-One : goal.push_added-returns-in_ok-push-in-One
push_added-returns-in_ok-push-in-One t c =
    added-one c.args.self.now c.args.known c.args.set c.in-One.number c.args.out.now.items c.push.new.self.items
    (c.node.ensures.tree ∙ ap (λ n. Some (tree_of c.args.self.now n)) c.in-One.is) c.in_ok-push-in-One.ensures.items

pub push_added-returns-in-Both : goal.push_added-returns-in-Both
push_added-returns-in-Both t c =
    on_ok_weaker c.push_halves.result
    (λ v. added-halves c.args.self.now c.args.known c.args.set c.in-Both.first c.in-Both.second
    c.args.out.now.items c.push_halves.new.out.items
    (c.node.ensures.tree ∙ ap (λ n. Some (tree_of c.args.self.now n)) c.in-Both.is) v) c.push_halves.ensures

pub push_halves-returns-in_ok-push_added-in-Both-2 : goal.push_halves-returns-in_ok-push_added-in-Both-2
push_halves-returns-in_ok-push_added-in-Both-2 t c =
    let ts = c.args.self.now in
    let halves = halved-is ts c.args.known c.in-Both.known_first c.in-Both.known_second
    (c.node.ensures.tree ∙ ap (λ n. Some (tree_of ts n)) c.in-Both.is) in
    adds-then (Has ts c.in-Both.known_first) (Has ts c.args.first) (Has ts c.in-Both.known_second)
    (Has ts c.args.second) (Has ts c.args.known) c.args.out.now.items c.push_added.new.out.items
    c.push_added-in-Both.new.out.items (λ k m. (halves k).1 (inl m)) (λ k m. (halves k).1 (inr m))
    c.in_ok-push_added-in-Both.ensures c.in_ok-push_added-in-Both-2.ensures

pub push_halves-returns-in_ok-push_added-in-Empty-2 : goal.push_halves-returns-in_ok-push_added-in-Empty-2
push_halves-returns-in_ok-push_added-in-Empty-2 t c =
    let ts = c.args.self.now in
    adds-then (Has ts c.args.known) (Has ts c.args.first) (Has ts c.args.known) (Has ts c.args.second)
    (Has ts c.args.known) c.args.out.now.items c.push_added-in-Empty.new.out.items
    c.push_added-in-Empty-2.new.out.items (λ k m. m) (λ k m. m) c.in_ok-push_added-in-Empty.ensures
    c.in_ok-push_added-in-Empty-2.ensures
