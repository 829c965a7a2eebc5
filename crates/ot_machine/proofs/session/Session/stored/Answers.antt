use Rattle.std.proofs.lemmas.Int.{to_z-of_z}
use Rattle.std.proofs.Common.{sym, ◌∙◌}
use Rattle.ot_machine.specs.Meaning.{lists_of}
use Rattle.ot_machine.proofs.Dictionary.{entry-some, entry-none}
use Rattle.ot_machine.proofs.session.Session.stored.Goals as goal

pub returns-in-Some-get-clause-found : goal.returns-in-Some-get-clause-found
returns-in-Some-get-clause-found c = entry-some c.args.self.now (lists_of c.args.self.now c.args.machine.now) _ _ _ _
    (to_z-of_z _ _ c.ranges.key) c.in-Some-get.ensures.value

pub returns-in-Some-get-clause-inside : goal.returns-in-Some-get-clause-inside
returns-in-Some-get-clause-inside c = c.requires.dictionary _ _ (sym c.in-Some-get.ensures.value)

pub returns-in-None-clause-found : goal.returns-in-None-clause-found
returns-in-None-clause-found c = entry-none c.args.self.now (lists_of c.args.self.now c.args.machine.now)
    c.args.self.now.kernel _ _ _ (to_z-of_z _ _ c.ranges.key) c.in-None.ensures.value

pub returns-then-is_key-clause-found : goal.returns-then-is_key-clause-found
returns-then-is_key-clause-found c = entry-some c.args.self.now (lists_of c.args.self.now c.args.machine.now)
    c.args.machine.now.dictionary.entries c.in-Some.there.now c.args.key c.in-Some.entry.now
    (c.is_key.ensures.0 c.if-is_key.true ∙ to_z-of_z _ _ c.ranges.key) (sym c.in-Some.ensures.value)
