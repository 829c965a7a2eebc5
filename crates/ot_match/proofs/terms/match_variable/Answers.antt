use Rattle.std.proofs.Common.{◌≡◌, subst}
use Rattle.ot_logic.specs.Names.{Name}
use Rattle.ot_logic.specs.Naming.{names}
use Rattle.ot_logic.specs.Trees.{Variable, Free}
use Rattle.ot_logic.specs.NamedTerms.{nameless_in}
use Rattle.ot_kernel.specs.State.{type_at, term_at, named_at}
use Rattle.ot_match.specs.Walk.{put_term, walk_term}
use Rattle.ot_logic.specs.PlainTrees.{type_of_tree}
use Rattle.ot_match.specs.Found.{types_of, terms_of, maps_of}
use Rattle.ot_view.specs.Binders.{binders_at}
use Rattle.ot_match.specs.Steps.{answered, Meets}
use Rattle.ot_match.proofs.Holding.{variable_untyped, variable_put, if_ok_more}
use Rattle.ot_match.proofs.terms.match_variable.Goals as goal

pub returns-then-not-branch-clause-walk : goal.returns-then-not-branch-clause-walk
returns-then-not-branch-clause-walk c =
    let k = c.args.kernel.now in
    let e = binders_at k c.args.binders.now in
    let t = named_at k.terms c.args.id in
    let v : Variable Name = record { name = c.args.name.now; ty = type_of_tree c.args.ty.now } in
    let apart = subst (λ b. Meets b e t) c.if-branch.false c.in_ok-meets_binder.ensures in
    let none = rw c.if-not-branch.true at c.in_ok-match_type.ensures.walk in
    variable_untyped e (maps_of k c.args.maps.now) v t (type_at k c.type_of-found.result) apart
    c.type_of-found.ensures.typed none

pub returns-clause-walk : goal.returns-clause-walk
returns-clause-walk c =
    let k = c.args.kernel.now in
    let e = binders_at k c.args.binders.now in
    let t = named_at k.terms c.args.id in
    let u = type_at k c.type_of-found.result in
    let v : Variable Name = record { name = c.args.name.now; ty = type_of_tree c.args.ty.now } in
    let w = maps_of k c.args.maps.now in
    let apart = subst (λ b. Meets b e t) c.if-branch.false c.in_ok-meets_binder.ensures in
    let types = rw c.if-not-branch.false at c.in_ok-match_type.ensures.walk in
    let s = types_of k c.match_type.new.types.items in
    let m = terms_of k c.put_term.new.vars.items in
    if_ok_more (λ b. put_term names (record { name = v.name; ty = u }) (term_at k c.args.id) w.1 ≡ answered b m)
    (λ b. walk_term names (Free v) (nameless_in names e t) w ≡ answered b (s, m))
    c.put_term.result c.put_term.ensures.put
    (λ b put. variable_put e w v t u apart c.type_of-found.ensures.typed s b m types put)
