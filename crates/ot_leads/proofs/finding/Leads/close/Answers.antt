use Rattle.std.proofs.Common.{◌<◌, ◌≤◌, length, refl, sym, subst, arith}
use Rattle.std.specs.List.{All}
use Rattle.ot_logic.proofs.Members.{All-from_members}
use Rattle.ot_leads.specs.declared.closing.Found.{Found}
use Rattle.ot_leads.proofs.Inserting.{no-more}
use Rattle.ot_leads.proofs.TakingLemmas.{columns-stay, made-inside, closing-begin, closing-step, closing-end}
use Rattle.ot_leads.proofs.finding.Leads.close.Goals as goal

pub take-requires-clause-found : goal.take-requires-clause-found
take-requires-clause-found c = record {
  assumptions = c.requires.columns.assumptions.empty_inside;
  definitions = c.requires.columns.definitions.empty_inside;
}

pub loop-next-init : goal.loop-next-init
loop-next-init c =
    let l = c.args.self.now in
    let begin : Found = record {
      assumptions = l.assumptions.empty;
      definitions = l.definitions.empty;
      places = c.new.result;
    } in
    closing-begin (length l.definitions.of.items) l c.requires.columns c.args.definitions.now
    (λ p h. c.requires.definitions p 0 h) c.requires.places c.args.root c.requires.root c.take.new.leads begin
    c.take.new.self refl refl c.new.ensures.empty c.take.ensures.stay c.in_ok-take.ensures.ok

pub follow-requires-clause-columns : goal.follow-requires-clause-columns
follow-requires-clause-columns c =
    columns-stay (length c.args.self.now.definitions.of.items) c.args.self.now c.loop-next.self c.requires.columns
    c.loop-next.invariant.stay

pub follow-requires-clause-found : goal.follow-requires-clause-found
follow-requires-clause-found c = c.loop-next.invariant.inside

pub follow-requires-clause-places : goal.follow-requires-clause-places
follow-requires-clause-places c =
    let l = c.args.self.now in
    All-from_members (λ p. p < length c.args.definitions.now) c.loop-next.found.places.keys
    (λ p m. made-inside (length l.definitions.of.items) l c.requires.columns c.args.definitions.now
    (λ p h. c.requires.definitions p 0 h) c.requires.places c.args.root c.requires.root p
    (c.loop-next.invariant.only_made p m))

pub follow-requires-clause-definitions : goal.follow-requires-clause-definitions
follow-requires-clause-definitions c =
    subst (λ is. All (λ i. i < length is) c.args.definitions.now) (sym c.loop-next.invariant.stay.definitions.of_is)
    c.requires.definitions

pub loop-next-smaller : goal.loop-next-smaller
loop-next-smaller c =
    let l = c.args.self.now in
    let keys = c.loop-next.found.places.keys in
    let few : length keys ≤ length c.args.definitions.now =
    no-more keys (length c.args.definitions.now) c.len.ensures.unique
    (λ p m. made-inside (length l.definitions.of.items) l c.requires.columns c.args.definitions.now
    (λ p h. c.requires.definitions p 0 h) c.requires.places c.args.root c.requires.root p
    (c.loop-next.invariant.only_made p m)) in
    let more = c.loop-next-test.true in
    let long = c.len.ensures.len in
    omega (arith, few, more, long)

pub loop-next-preserved : goal.loop-next-preserved
loop-next-preserved c =
    let l = c.args.self.now in
    let more = c.loop-next-test.true in
    let long = c.len.ensures.len in
    closing-step (length l.definitions.of.items) l c.requires.columns c.args.definitions.now
    (λ p h. c.requires.definitions p 0 h) c.requires.places c.args.root c.requires.root c.loop-next.self
    c.follow.new.leads c.loop-next.found c.follow.new.self c.loop-next.next c.loop-next.invariant
    (omega (arith, more, long)) c.follow.ensures.stay c.in_ok-follow.ensures.ok

pub returns-clause-found : goal.returns-clause-found
returns-clause-found c =
    let l = c.args.self.now in
    let done = c.loop-next-test.false in
    let long = c.len.ensures.len in
    closing-end (length l.definitions.of.items) l c.requires.columns c.args.definitions.now
    (λ p h. c.requires.definitions p 0 h) c.requires.places c.args.root c.requires.root c.loop-next.self
    c.loop-next.found c.loop-next.next c.loop-next.invariant (omega (arith, done, long))

pub returns-clause-stay : goal.returns-clause-stay
returns-clause-stay c = c.loop-next.invariant.stay
