use Rattle.std.proofs.Common.{map, length}
use Rattle.ot_logic.specs.Naming.{names}
use Rattle.ot_kernel.specs.Answers.{RefusesBy, IsSymbolIn}
use Rattle.ot_kernel.specs.Defining.{list_definition}
use Rattle.ot_kernel.specs.Refusals.{of_define}
use Rattle.ot_kernel.specs.State.{name_at, variable_at, theorem_at}
use Rattle.ot_kernel.proofs.Later.{unchanged, held_of, held_at}
use Rattle.ot_kernel.proofs.Lists.{constants_passed, constants_next, constants_refused, constants_symbol}
use Rattle.ot_kernel.proofs.Refusals.{handed_on}
use Rattle.ot_kernel.proofs.kernel.Kernel.check_constants.Goals as goal

pub returns-in_err-check_list-clause-refused : goal.returns-in_err-check_list-clause-refused
returns-in_err-check_list-clause-refused c =
    let s = c.args.self.now in
    let l = unchanged _ _ (held_of c.self.inside) _ c.self.view_is c.self.invariant in
    let p = held_at l _ _ _ c.requires.th c.index-theorem.ensures c.th.view_is in
    handed_on c.from_residual.result (of_define c.in_err-check_list.field-0.0)
    (λ e. RefusesBy (name_at s) e (list_definition names s.definitions (map (name_at s) c.args.names.now)
    (map (variable_at s) c.args.vars.now) (theorem_at s c.args.th))) c.from_residual.ensures.1
    (constants_refused l c.args.names.now c.args.vars.now c.args.th c.index-theorem.result.now c.requires.names
    c.requires.vars c.requires.pairs p _ c.deref.ensures.value _ c.in_err-check_list.ensures)

pub returns-in_err-check_list-clause-symbols : goal.returns-in_err-check_list-clause-symbols
returns-in_err-check_list-clause-symbols c =
    let l = unchanged _ _ (held_of c.self.inside) _ c.self.view_is c.self.invariant in
    let p = held_at l _ _ _ c.requires.th c.index-theorem.ensures c.th.view_is in
    handed_on c.from_residual.result (of_define c.in_err-check_list.field-0.0)
    (λ e. IsSymbolIn (length c.args.self.now.names) e) c.from_residual.ensures.1
    (constants_symbol l c.args.names.now c.args.vars.now c.args.th c.index-theorem.result.now c.requires.names
    c.requires.vars c.requires.pairs p _ c.deref.ensures.value _ c.in_err-check_list.ensures)

pub returns-clause-passed : goal.returns-clause-passed
returns-clause-passed c =
    let l = unchanged _ _ (held_of c.self.inside) _ c.self.view_is c.self.invariant in
    let p = held_at l _ _ _ c.requires.th c.index-theorem.ensures c.th.view_is in
    constants_passed l c.args.names.now c.args.vars.now c.args.th c.index-theorem.result.now c.requires.names
    c.requires.vars c.requires.pairs p _ c.deref.ensures.value c.in_ok-check_list.field-0
    c.in_ok-check_list.ensures

pub returns-clause-next : goal.returns-clause-next
returns-clause-next c =
    let l = unchanged _ _ (held_of c.self.inside) _ c.self.view_is c.self.invariant in
    let p = held_at l _ _ _ c.requires.th c.index-theorem.ensures c.th.view_is in
    constants_next l c.args.names.now c.args.vars.now c.args.th c.index-theorem.result.now c.requires.names
    c.requires.vars c.requires.pairs p _ c.deref.ensures.value c.in_ok-check_list.field-0
    c.in_ok-check_list.ensures
