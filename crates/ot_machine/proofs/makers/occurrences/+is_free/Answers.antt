use Rattle.std.specs.Bool.{Decides}
use Rattle.std.proofs.Common.{false, sym, subst, ◌∙◌}
use Rattle.ot_logic.specs.Naming.{names}
use Rattle.ot_logic.specs.NamedTerms.{IsFreeIn}
use Rattle.ot_kernel.specs.State.{variable_at, named_at}
use Rattle.ot_machine.specs.declared.makers.occurrences.Occurrence.{Occurrence}
use Rattle.ot_machine.proofs.Occurrences.{free-variable, free-bound, free-body, occurrences-insert}
use Rattle.ot_machine.proofs.makers.occurrences.+is_free.Goals as goal

pub is_free-returns-in-Some-clause-free : goal.is_free-returns-in-Some-clause-free
is_free-returns-in-Some-clause-free t c =
    (c.requires.known.known (record { term = c.args.term; variable = c.args.variable.now }) c.in-Some.free.now
    (sym c.in-Some.ensures.value)).free

pub is_free-returns-clause-known : goal.is_free-returns-clause-known
is_free-returns-clause-known t c =
    let o : Occurrence = record { term = c.args.term; variable = c.args.variable.now } in
    occurrences-insert c.args.kernel.now c.is_free_below.new.known.entries c.insert.new.self.entries o
    c.in_ok-free.free c.in_ok-free.ensures.known
    (record { term = c.requires.term; variable = c.requires.key; free = c.in_ok-free.ensures.free })
    c.in_ok-insert.ensures.updates.0

pub is_free_below-returns-then-same_variable-clause-free : goal.is_free_below-returns-then-same_variable-clause-free
is_free_below-returns-then-same_variable-clause-free t c =
    let k = c.args.kernel.now in
    let v = variable_at k c.args.variable.now in
    let tree = rw c.in-Abs.is at c.term_node.ensures.tree in
    subst (λ n. Decides false (IsFreeIn names v n)) (sym tree)
    (free-bound v (variable_at k c.in-Abs.v) (named_at k.terms c.in-Abs.body)
    (sym c.same_variable-in-Abs.ensures ∙ c.if-same_variable.true))

pub is_free_below-returns-in-Var-clause-free : goal.is_free_below-returns-in-Var-clause-free
is_free_below-returns-in-Var-clause-free t c =
    let k = c.args.kernel.now in
    let v = variable_at k c.args.variable.now in
    let tree = rw c.in-Var.is at c.term_node.ensures.tree in
    subst (λ n. Decides c.same_variable.result (IsFreeIn names v n)) (sym tree)
    (free-variable v (variable_at k c.in-Var.v) c.same_variable.result c.same_variable.ensures)

pub is_free_below-returns-in_ok-is_free-in-Abs-clause-free : goal.is_free_below-returns-in_ok-is_free-in-Abs-clause-free
is_free_below-returns-in_ok-is_free-in-Abs-clause-free t c =
    let k = c.args.kernel.now in
    let v = variable_at k c.args.variable.now in
    let tree = rw c.in-Abs.is at c.term_node.ensures.tree in
    subst (λ n. Decides c.in_ok-is_free-in-Abs.field-0 (IsFreeIn names v n)) (sym tree)
    (free-body v (variable_at k c.in-Abs.v) (named_at k.terms c.in-Abs.body) _
    (sym c.same_variable-in-Abs.ensures ∙ c.if-same_variable.false) c.in_ok-is_free-in-Abs.ensures.free)
