use Rattle.std.specs.List.{All}
use Rattle.std.proofs.Common.{◌<◌, [], ◌∷◌, length, inl, refl, sym, subst, arith}
use Rattle.ot_leads.specs.Closing.{AreColumns}
use Rattle.ot_leads.proofs.ColumnLemmas.{own-column}
use Rattle.ot_leads.proofs.TakingLemmas.{column-stays}
use Rattle.ot_leads.proofs.UsesLaw.{both-columns, root-inside, definitions-inside, places-inside, leads-stay, uses-are}
use Rattle.ot_leads.proofs.finding.Leads.uses.Goals as goal

pub close-requires-clause-root : goal.close-requires-clause-root
close-requires-clause-root c =
    let a = c.requires.1 in
    let inside = root-inside c.args.trace.now (c.args.root ∷ []) c.requires.0 c.args.definitions.now c.args.self.now a
    c.args.root (inl refl) in
    let count = a.definitions.column.count in
    omega (arith, inside, count)

pub close-requires-clause-columns : goal.close-requires-clause-columns
close-requires-clause-columns c =
    let a = c.requires.1 in
    subst (λ n. AreColumns n c.args.self.now) (sym a.definitions.column.count)
    (both-columns c.args.trace.now (c.args.root ∷ []) c.requires.0 c.args.definitions.now c.args.self.now a)

pub close-requires-clause-definitions : goal.close-requires-clause-definitions
close-requires-clause-definitions c =
    let a = c.requires.1 in
    subst (λ n. All (λ i. i < n) c.args.definitions.now) (sym a.definitions.column.count)
    (definitions-inside c.args.trace.now (c.args.root ∷ []) c.requires.0 c.args.definitions.now c.args.self.now a)

pub close-requires-clause-places : goal.close-requires-clause-places
close-requires-clause-places c =
    let a = c.requires.1 in
    λ i p h m. places-inside c.args.trace.now (c.args.root ∷ []) c.requires.0 c.args.definitions.now c.args.self.now a
    i p (subst (λ n. i < n) a.definitions.column.count h) m

pub places-requires-clause-column : goal.places-requires-clause-column
places-requires-clause-column c =
    let a = c.requires.1 in
    let n = length c.args.trace.now in
    own-column n c.close.new.self.assumptions
    (column-stays n c.args.self.now.assumptions c.close.new.self.assumptions c.close.ensures.stay.assumptions
    a.assumptions.column)

pub returns-clause-uses : goal.returns-clause-uses
returns-clause-uses c = λ gs a.
    uses-are c.args.trace.now c.count-count.ensures.table c.args.root gs c.args.definitions.now c.args.self.now
    c.close.new.self c.in_ok-found.found _ a c.in_ok-found.ensures.found c.in_ok-places.ensures.rises
    c.in_ok-places-2.ensures.rises c.in_ok-places.ensures.all c.in_ok-places-2.ensures.all

pub returns-clause-stays : goal.returns-clause-stays
returns-clause-stays c = λ roots gs a.
    leads-stay c.args.trace.now roots gs c.args.definitions.now c.args.self.now a c.close.new.self c.close.ensures.stay

pub places-requires-2-clause-column : goal.places-requires-2-clause-column
places-requires-2-clause-column c =
    let a = c.requires.1 in
    let n = length c.args.trace.now in
    own-column n c.close.new.self.definitions
    (column-stays n c.args.self.now.definitions c.close.new.self.definitions c.close.ensures.stay.definitions
    a.definitions.column)

pub returns-in_err-found-clause-stays : goal.returns-in_err-found-clause-stays
returns-in_err-found-clause-stays c = λ roots gs a.
    leads-stay c.args.trace.now roots gs c.args.definitions.now c.args.self.now a c.close.new.self c.close.ensures.stay

pub returns-in_err-places-clause-stays : goal.returns-in_err-places-clause-stays
returns-in_err-places-clause-stays c = λ roots gs a.
    leads-stay c.args.trace.now roots gs c.args.definitions.now c.args.self.now a c.close.new.self c.close.ensures.stay

pub returns-in_err-places-2-clause-stays : goal.returns-in_err-places-2-clause-stays
returns-in_err-places-2-clause-stays c = λ roots gs a.
    leads-stay c.args.trace.now roots gs c.args.definitions.now c.args.self.now a c.close.new.self c.close.ensures.stay
