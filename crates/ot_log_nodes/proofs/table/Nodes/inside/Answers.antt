use Rattle.std.proofs.Common.{◌∙◌, ◌∷◌, refl, ap, subst}
use Rattle.std.proofs.lemmas.Result.{IfOk-weaker}
use Rattle.ot_logic.proofs.Results.{on_ok}
use Rattle.ot_logic.proofs.TableLemmas.{Extends-refl, Extends-trans}
use Rattle.ot_log_nodes.specs.Items.{type_at, term_at}
use Rattle.ot_log_nodes.specs.Lists.{spread, types_of}
use Rattle.ot_log_nodes.specs.Typing.{binders_at, IsCut}
use Rattle.ot_log_nodes.proofs.PlaceLemmas.{places-grown, place_tables-grown}
use Rattle.ot_log_nodes.proofs.TypingLemmas.{binders-grown, binders-same, binders-under, typings-kept}
use Rattle.ot_log_nodes.proofs.table.Nodes.inside.Goals as goal

pub cut-requires-clause-binders : goal.cut-requires-clause-binders
cut-requires-clause-binders c =
    let ts = c.args.self.now in
    binders-under ts c.places_of.new.lists c.under.new.self c.args.ty c.args.binders c.in_ok-all.all c.requires.ty
    (binders-grown ts ts (Extends-refl ts) c.args.known.now.lists c.places_of.new.lists c.in_ok-places.ensures.lists
    c.args.binders c.requires.binders) c.in_ok-all.ensures.ok

pub cut-requires-clause-places : goal.cut-requires-clause-places
cut-requires-clause-places c = places-grown c.places_of.new.lists c.under.new.self c.in_ok-all.ensures.extends
    c.in_ok-places.places.list (term_at c.args.self.now c.args.body) c.in_ok-places.ensures.ok

pub returns-clause-cut : goal.returns-clause-cut
returns-clause-cut c =
    let ts = c.args.self.now in
    let same = binders-same ts ts (Extends-refl ts) c.args.known.now.lists c.places_of.new.lists
    c.in_ok-places.ensures.lists c.args.binders c.requires.binders in
    let all = ap (λ l. binders_at ts (spread l)) c.in_ok-all.ensures.ok.is ∙ ap (λ l. type_at ts c.args.ty ∷ l) same in
    IfOk-weaker c.cut.result _ _
    (λ r h. subst (λ l. IsCut ts l (term_at ts c.args.body) (types_of c.cut.new.lists r)) all h) c.cut.ensures.cut

pub returns-clause-known : goal.returns-clause-known
returns-clause-known c =
    let ts = c.args.self.now in
    let lists = c.cut.new.lists in
    let later = Extends-trans c.in_ok-all.ensures.extends c.cut.ensures.lists in
    on_ok c.cut.result
    (typings-kept ts ts (Extends-refl ts) c.args.known.now
    (record { lists = lists; places = c.places_of.new.tables; types = c.args.known.now.types })
    (Extends-trans c.in_ok-places.ensures.lists later) refl
    (place_tables-grown c.places_of.new.lists lists later ts ts (Extends-refl ts) c.places_of.new.tables
    c.in_ok-places.ensures.known) c.requires.known)
