use Rattle.std.proofs.Common.{◌∙◌, refl, sym, ap}
use Rattle.std.proofs.lemmas.Result.{IfOk-weaker}
use Rattle.ot_logic.proofs.Results.{on_ok, on_ok-then}
use Rattle.ot_logic.proofs.TableLemmas.{Extends-refl}
use Rattle.ot_log_nodes.specs.Items.{term_at}
use Rattle.ot_log_nodes.specs.Table.{term_tree}
use Rattle.ot_log_nodes.proofs.ListLemmas.{still-list}
use Rattle.ot_log_nodes.proofs.PlaceLemmas.{places-closed, places-bound, places-application, places-abstraction}
use Rattle.ot_log_nodes.proofs.PlaceLemmas.{places-grown, place_tables-grown, place_tables-unions}
use Rattle.ot_log_nodes.proofs.table.Nodes.+places.Goals as goal

pub places_of-returns-then-loose-eq0-clause-ok : goal.places_of-returns-then-loose-eq0-clause-ok
places_of-returns-then-loose-eq0-clause-ok t c = places-closed c.args.lists.now (term_at c.args.self.now c.args.id)
    (sym c.loose.ensures ∙ c.if-loose-eq0.true)

pub places_of-returns-in-Some-clause-ok : goal.places_of-returns-in-Some-clause-ok
places_of-returns-in-Some-clause-ok t c =
    (c.requires.known.terms c.args.id c.in-Some.known.now (sym c.in-Some.ensures.value)).1

pub places_of_node-returns-in-Bound-clause-ok : goal.places_of_node-returns-in-Bound-clause-ok
places_of_node-returns-in-Bound-clause-ok t c =
    let ts = c.args.self.now in
    IfOk-weaker c.place.result _ _
    (λ r h. places-bound c.place.new.self r c.in-Bound.place 0 (term_at ts c.args.id)
    (c.term_node.ensures.tree ∙ ap (term_tree ts) c.in-Bound.is) h) c.place.ensures.ok

pub places_of_node-returns-in_ok-x-in-App-clause-ok : goal.places_of_node-returns-in_ok-x-in-App-clause-ok
places_of_node-returns-in_ok-x-in-App-clause-ok t c =
    let ts = c.args.self.now in
    let f = places-grown c.places_of.new.lists c.places_of-in-App.new.lists c.in_ok-x-in-App.ensures.lists
    c.in_ok-f-in-App.f.list (term_at ts c.in-App.f) c.in_ok-f-in-App.ensures.ok in
    IfOk-weaker c.union.result _ _
    (λ r h. places-application c.places_of-in-App.new.lists c.union.new.self c.in_ok-f-in-App.f.list
    c.in_ok-x-in-App.x.list r (term_at ts c.args.id) (term_at ts c.in-App.f) (term_at ts c.in-App.x)
    (c.term_node.ensures.tree ∙ ap (term_tree ts) c.in-App.is) f c.in_ok-x-in-App.ensures.ok h) c.union.ensures.ok

pub places_of_node-returns-in_ok-body-in-Abs-clause-ok : goal.places_of_node-returns-in_ok-body-in-Abs-clause-ok
places_of_node-returns-in_ok-body-in-Abs-clause-ok t c =
    let ts = c.args.self.now in
    IfOk-weaker c.outside.result _ _
    (λ r h. places-abstraction c.places_of-in-Abs.new.lists c.outside.new.self c.in_ok-body-in-Abs.body.list r
    (term_at ts c.args.id) (term_at ts c.in-Abs.body) _
    (c.term_node.ensures.tree ∙ ap (term_tree ts) c.in-Abs.is) c.in_ok-body-in-Abs.ensures.ok h) c.outside.ensures.ok

pub places_of_node-union-requires-clause-left : goal.places_of_node-union-requires-clause-left
places_of_node-union-requires-clause-left t c =
    still-list c.places_of.new.lists c.places_of-in-App.new.lists c.in_ok-x-in-App.ensures.lists c.in_ok-f-in-App.f.list
    c.in_ok-f-in-App.ensures.ok.has

pub places_of_node-union-requires-clause-right : goal.places_of_node-union-requires-clause-right
places_of_node-union-requires-clause-right t c = c.in_ok-x-in-App.ensures.ok.has

pub places_of_node-union-requires-clause-known : goal.places_of_node-union-requires-clause-known
places_of_node-union-requires-clause-known t c = c.in_ok-x-in-App.ensures.known.unions

pub places_of_node-outside-requires : goal.places_of_node-outside-requires
places_of_node-outside-requires t c = c.in_ok-body-in-Abs.ensures.ok.has

-- what is known stays so
pub places_of_node-returns-in-Bound-clause-known : goal.places_of_node-returns-in-Bound-clause-known
places_of_node-returns-in-Bound-clause-known t c =
    let ts = c.args.self.now in
    on_ok c.place.result
    (place_tables-grown c.args.lists.now c.place.new.self c.place.ensures.extends ts ts (Extends-refl ts)
    c.args.tables.now c.requires.known)

pub places_of_node-returns-in_ok-x-in-App-clause-known : goal.places_of_node-returns-in_ok-x-in-App-clause-known
places_of_node-returns-in_ok-x-in-App-clause-known t c =
    let tables = c.places_of-in-App.new.tables in
    on_ok-then c.union.result
    (place_tables-unions c.args.self.now c.places_of-in-App.new.lists c.union.new.self c.union.ensures.extends tables
    (record { unions = c.union.new.unions; terms = tables.terms }) refl c.in_ok-x-in-App.ensures.known)
    c.union.ensures.known

pub places_of_node-returns-in_ok-body-in-Abs-clause-known : goal.places_of_node-returns-in_ok-body-in-Abs-clause-known
places_of_node-returns-in_ok-body-in-Abs-clause-known t c =
    let ts = c.args.self.now in
    on_ok c.outside.result
    (place_tables-grown c.places_of-in-Abs.new.lists c.outside.new.self c.outside.ensures.extends ts ts
    (Extends-refl ts) c.places_of-in-Abs.new.tables c.in_ok-body-in-Abs.ensures.known)
