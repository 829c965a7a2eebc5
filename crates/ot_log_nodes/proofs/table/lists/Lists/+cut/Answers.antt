use Rattle.std.proofs.Common.{ℕ, List, sym, subst, refl, arith}
use Rattle.std.specs.List.{All}
use Rattle.std.proofs.lemmas.Result.{IfOk-weaker}
use Rattle.ot_log_nodes.specs.Items.{HasType}
use Rattle.ot_log_nodes.specs.Lists.{list_at, spread, types_of, IsPlace, Agree}
use Rattle.ot_log_nodes.proofs.ListLemmas.{still-list, length-rest, agree-cut, types-cut}
use Rattle.ot_log_nodes.proofs.table.lists.Lists.+cut.Goals as goal

pub returns-then-eq-clause-agree : goal.returns-then-eq-clause-agree
returns-then-eq-clause-agree t c = λ k p. refl

pub returns-in_default-clause-agree : goal.returns-in_default-clause-agree
returns-in_default-clause-agree t c =
    λ k p. absurd (subst (λ (m : List (ℕ × ℕ)). IsPlace m k) c.in_default.ensures p)

pub returns-in_default-behind-clause-agree : goal.returns-in_default-behind-clause-agree
returns-in_default-behind-clause-agree t c = λ k p. refl

pub cut-requires : goal.cut-requires
cut-requires t c =
    let places = list_at c.args.self.now c.args.places in
    let front = c.in-Some.ensures in (
      omega (arith, length-rest c.args.self.now places c.in-Some.front front.1),
      (c.in-Some-behind.ensures.has, front.0),
    )

pub link-requires-clause-places : goal.link-requires-clause-places
link-requires-clause-places t c =
    still-list c.args.self.now c.cut.new.self c.in_ok-rest.ensures.extends c.args.places c.requires.places

pub returns-clause-has : goal.returns-clause-has
returns-clause-has t c = IfOk-weaker c.link.result _ _ (λ r h. h.has) c.link.ensures.ok

pub returns-clause-agree : goal.returns-clause-agree
returns-clause-agree t c =
    let ls = c.args.self.now in
    let ms = c.cut.new.self in
    let l = types_of ls c.args.binders in
    let front = c.in-Some.ensures in
    let binder = c.in-Some-behind.binder in
    let split = c.in-Some-behind.ensures in
    IfOk-weaker c.link.result _ _
    (λ r h. subst (λ m. Agree (list_at ls c.args.places) l (spread m)) (sym h.is)
    (agree-cut (list_at ls c.args.places) (list_at ls c.in-Some.front.rest) l (types_of ls binder.rest)
    (types_of ms c.in_ok-rest.rest) c.in-Some.front.skipped c.in-Some.front.ty binder.ty front.1 split.here
    split.behind c.in_ok-rest.ensures.agree)) c.link.ensures.ok

pub returns-clause-types : goal.returns-clause-types
returns-clause-types t c = λ ts types.
    let ls = c.args.self.now in
    let ms = c.cut.new.self in
    let l = types_of ls c.args.binders in
    let binder = c.in-Some-behind.binder in
    let split = c.in-Some-behind.ensures in
    IfOk-weaker c.link.result _ _
    (λ r h. subst (λ m. All (HasType ts) (spread m)) (sym h.is)
    (types-cut (HasType ts) l (types_of ls binder.rest) (types_of ms c.in_ok-rest.rest)
    c.in-Some.front.skipped binder.ty split.here split.behind types (c.in_ok-rest.ensures.types ts)))
    c.link.ensures.ok
