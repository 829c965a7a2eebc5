use Rattle.std.proofs.Common.{length, rules}
use Rattle.ot_machine.specs.Meaning.{lists_of}
use Rattle.ot_machine.proofs.Refusals.{refused-first, then-rest}
use Rattle.ot_machine.proofs.session.Session.type_pair.Goals as goal

pub returns-in_err-list-clause-read : goal.returns-in_err-list-clause-read
returns-in_err-list-clause-read c =
    refused-first c.args.self.now.kernel _ _ _ _ _ (search rules) (c.in_err-list.ensures.read (lists_of c.args.self.now c.args.machine.now))

pub returns-in_err-name-clause-read : goal.returns-in_err-name-clause-read
returns-in_err-name-clause-read c = then-rest c.args.self.now.kernel _ _ _ _ _ (c.in_ok-list.ensures.read (lists_of c.args.self.now c.args.machine.now))
    (refused-first c.args.self.now.kernel _ _ _ _ _ (search rules) c.in_err-name.ensures.read)

pub returns-in_err-name-2-clause-read : goal.returns-in_err-name-2-clause-read
returns-in_err-name-2-clause-read c = then-rest c.args.self.now.kernel _ _ _ _ _ (c.in_ok-list.ensures.read (lists_of c.args.self.now c.args.machine.now))
    (then-rest c.args.self.now.kernel _ _ _ _ _ c.in_ok-name.ensures.read
    (refused-first c.args.self.now.kernel _ _ _ _ _ (search rules) (c.in_err-name-2.ensures.read (lists_of c.args.self.now c.args.machine.now))))

pub returns-in_err-ty-clause-read : goal.returns-in_err-ty-clause-read
returns-in_err-ty-clause-read c = then-rest c.args.self.now.kernel _ _ _ _ _ (c.in_ok-list.ensures.read (lists_of c.args.self.now c.args.machine.now))
    (then-rest c.args.self.now.kernel _ _ _ _ _ c.in_ok-name.ensures.read
    (then-rest c.args.self.now.kernel _ _ _ _ _ (c.in_ok-name-2.ensures.read (lists_of c.args.self.now c.args.machine.now))
    (refused-first c.args.self.now.kernel _ _ _ _ _ (search rules) (c.in_err-ty.ensures.read (lists_of c.args.self.now c.args.machine.now)))))

pub two_of-requires-clause-inside : goal.two_of-requires-clause-inside
two_of-requires-clause-inside c = c.in_ok-list.ensures.inside (length c.args.machine.now.cells.items) c.requires.inside

pub returns-clause-name : goal.returns-clause-name
returns-clause-name c = c.in_ok-name-2.ensures.inside (length c.args.machine.now.cells.items) c.in_ok-name.ensures.first

pub returns-clause-ty : goal.returns-clause-ty
returns-clause-ty c = c.in_ok-ty.ensures.inside (length c.args.machine.now.cells.items) c.in_ok-name.ensures.second
