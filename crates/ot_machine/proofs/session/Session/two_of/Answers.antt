use Rattle.std.proofs.Common.{ap, ◌∙◌}
use Rattle.ot_machine.specs.Meaning.{lists_of, object_of}
use Rattle.ot_machine.specs.Objects.{more_objects}
use Rattle.ot_machine.specs.Parts.{two_of, bad_list}
use Rattle.ot_machine.proofs.Refusals.{refuses-named}
use Rattle.ot_machine.proofs.session.Session.two_of.Goals as goal

pub returns-in_default-clause-read : goal.returns-in_default-clause-read
returns-in_default-clause-read c =
    refuses-named c.args.self.now.kernel c.bad.result (bad_list c.args.form) _ c.bad.ensures.named
    (c.bad.ensures.symbol c.args.self.now.kernel) (ap (two_of (bad_list c.args.form)) c.in_default.ensures)

pub returns-in_default-first-clause-read : goal.returns-in_default-first-clause-read
returns-in_default-first-clause-read c =
    let k = c.args.self.now.kernel in
    refuses-named k c.bad-in_default-first.result (bad_list c.args.form) _ c.bad-in_default-first.ensures.named
    (c.bad-in_default-first.ensures.symbol k)
    (ap (two_of (bad_list c.args.form))
    (c.in-Some.ensures.list_is
    ∙ ap (more_objects (object_of k (lists_of c.args.self.now c.args.machine.now) c.in-Some.one))
    c.in_default-first.ensures))

pub returns-in-Some-first-2-clause-read : goal.returns-in-Some-first-2-clause-read
returns-in-Some-first-2-clause-read c =
    let k = c.args.self.now.kernel in
    let at = object_of k (lists_of c.args.self.now c.args.machine.now) in
    refuses-named k c.bad-in-Some-first-2.result (bad_list c.args.form) _ c.bad-in-Some-first-2.ensures.named
    (c.bad-in-Some-first-2.ensures.symbol k)
    (ap (two_of (bad_list c.args.form))
    (c.in-Some.ensures.list_is ∙ ap (more_objects (at c.in-Some.one)) (c.in-Some-first.ensures.list_is
    ∙ ap (more_objects (at c.in-Some-first.other)) c.in-Some-first-2.ensures.list_is)))
