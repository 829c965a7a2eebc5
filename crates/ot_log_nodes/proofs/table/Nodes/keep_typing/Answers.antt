use Rattle.std.proofs.Common.{refl}
use Rattle.ot_logic.proofs.TableLemmas.{Extends-refl}
use Rattle.ot_log_nodes.specs.Items.{term_at}
use Rattle.ot_log_nodes.specs.Lists.{types_of}
use Rattle.ot_log_nodes.specs.Typing.{binders_at}
use Rattle.ot_log_nodes.specs.declared.table.typing.Entries.{Entries}
use Rattle.ot_log_nodes.proofs.PlaceLemmas.{places-grown, place_tables-grown}
use Rattle.ot_log_nodes.proofs.TypingLemmas.{typings-kept, typings-insert, typing-cut_back}
use Rattle.ot_log_nodes.proofs.table.Nodes.keep_typing.Goals as goal

pub keep_met-requires-clause-places : goal.keep_met-requires-clause-places
keep_met-requires-clause-places c = places-grown c.args.known.now.lists c.cut.new.lists c.in_ok-binders.ensures.lists
    c.args.places (term_at c.args.self.now c.args.id) c.requires.places

pub keep_met-requires-clause-known : goal.keep_met-requires-clause-known
keep_met-requires-clause-known c =
    let ts = c.args.self.now in
    place_tables-grown c.args.known.now.lists c.cut.new.lists c.in_ok-binders.ensures.lists ts ts (Extends-refl ts)
    c.args.known.now.places c.requires.known.places

pub returns-clause-known : goal.returns-clause-known
returns-clause-known c =
    let ts = c.args.self.now in
    let lists = c.cut.new.lists in
    let grown = c.in_ok-binders.ensures.lists in
    let old : Entries = record { lists = lists; places = c.args.known.now.places; types = c.args.known.now.types } in
    let new : Entries = record { lists = lists; places = c.keep_met.new.tables; types = c.insert.new.self } in
    let known = typings-kept ts ts (Extends-refl ts) c.args.known.now old grown refl
    (place_tables-grown c.args.known.now.lists lists grown ts ts (Extends-refl ts) c.args.known.now.places
    c.requires.known.places) c.requires.known in
    typings-insert ts old new (record { id = c.args.id; binders = c.in_ok-binders.binders }) c.args.typed.now known refl
    c.in_ok-keep_met.ensures
    (record {
      term = c.requires.id;
      binders = c.in_ok-binders.ensures.binders;
      typing = typing-cut_back ts (binders_at ts (types_of c.args.known.now.lists c.args.binders))
          (term_at ts c.args.id) (types_of lists c.in_ok-binders.binders) c.args.typed.now
          c.in_ok-binders.ensures.cut c.requires.typed;
    }) c.in_ok-insert.ensures.updates.0
