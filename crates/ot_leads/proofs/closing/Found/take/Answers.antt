use Rattle.std.proofs.Common.{length, slice_index, refl, sym, subst, arith}
use Rattle.std.proofs.lemmas.Result.{on_ok_weaker}
use Rattle.ot_sets.specs.Table.{IsUnionAt}
use Rattle.ot_leads.specs.Closing.{HasNoted}
use Rattle.ot_leads.specs.declared.finding.Leads as code
use Rattle.ot_leads.proofs.ColumnLemmas.{read-place}
use Rattle.ot_leads.proofs.TakingLemmas.{takes}
use Rattle.ot_leads.proofs.closing.Found.take.Goals as goal

pub returns-clause-ok : goal.returns-clause-ok
returns-clause-ok c =
    let l = c.args.leads.now in
    let f = c.args.self.now in
    let g = c.note_added.new.self in
    let m : code.Leads = record {
      assumptions = record { sets = c.join.new.self; of = l.assumptions.of; empty = l.assumptions.empty };
      definitions = record { sets = c.join-2.new.self; of = l.definitions.of; empty = l.definitions.empty };
    } in
    let given = l.assumptions.of.items in
    let made = l.definitions.of.items in
    let inside = c.requires.step in
    let count = c.requires.columns.assumptions.count in
    let given_read = read-place given c.index.result c.args.step c.index-2.result.now (omega (arith, inside, count))
    c.index.ensures c.index-2.ensures in
    let made_read = read-place made c.index-3.result c.args.step c.index-4.result.now inside c.index-3.ensures
    c.index-4.ensures in
    let given_union =
    subst (λ r. IsUnionAt c.join.new.self f.assumptions (slice_index given c.args.step) r)
    (sym c.note_added.ensures.assumptions)
    (subst (λ b. IsUnionAt c.join.new.self f.assumptions b c.in_ok-self.field-0) given_read c.in_ok-self.ensures.ok) in
    let made_union =
    subst (λ r. IsUnionAt c.join-2.new.self f.definitions (slice_index made c.args.step) r)
    (sym c.note_added.ensures.definitions)
    (subst (λ b. IsUnionAt c.join-2.new.self f.definitions b c.in_ok-self-2.field-0) made_read
    c.in_ok-self-2.ensures.ok) in
    on_ok_weaker c.note_added.result
    (λ h. takes (length made) l m c.requires.columns (record {
      assumptions = record { sets = c.in_ok-self.ensures.extends; of_is = refl; empty_is = refl };
      definitions = record { sets = c.in_ok-self-2.ensures.extends; of_is = refl; empty_is = refl };
    }) f g c.requires.found c.args.step inside given_union made_union
    (subst (λ d. HasNoted c.join-2.new.self f.definitions d f.places.keys g.places.keys)
    (sym c.note_added.ensures.definitions) h)) c.note_added.ensures.ok
