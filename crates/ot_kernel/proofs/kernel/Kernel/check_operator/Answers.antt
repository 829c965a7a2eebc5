use Rattle.std.proofs.Common.{map, length}
use Rattle.ot_logic.specs.Naming.{names}
use Rattle.ot_kernel.specs.Answers.{RefusesBy, IsSymbolIn}
use Rattle.ot_kernel.specs.Defining.{type_definition}
use Rattle.ot_kernel.specs.Refusals.{of_define}
use Rattle.ot_kernel.specs.State.{name_at, theorem_at}
use Rattle.ot_kernel.proofs.Later.{unchanged, held_of, held_at}
use Rattle.ot_kernel.proofs.Operators.{AreNames, operator_passed, operator_next, operator_refused, operator_symbol}
use Rattle.ot_kernel.proofs.Refusals.{handed_on}
use Rattle.ot_kernel.proofs.kernel.Kernel.check_operator.Goals as goal

pub returns-in_err-check_type-clause-refused : goal.returns-in_err-check_type-clause-refused
returns-in_err-check_type-clause-refused c =
    let s = c.args.self.now in
    let l = unchanged _ _ (held_of c.self.inside) _ c.self.view_is c.self.invariant in
    let p = held_at l _ _ _ c.requires.th c.index-theorem.ensures c.th.view_is in
    let names_in : AreNames _ c.args.name c.args.abs c.args.rep c.args.vars.now =
    record {
      operator = c.requires.name;
      to = c.requires.abs;
      from = c.requires.rep;
      variables = c.requires.vars;
    } in
    handed_on c.from_residual.result (of_define c.in_err-check_type.field-0.0)
    (λ e. RefusesBy (name_at s) e
    (type_definition names s.definitions (name_at s c.args.name) (name_at s c.args.abs) (name_at s c.args.rep)
    (map (name_at s) c.args.vars.now) (theorem_at s c.args.th))) c.from_residual.ensures.1
    (operator_refused l c.args.name c.args.abs c.args.rep c.args.vars.now c.args.th c.index-theorem.result.now
    names_in p _ c.deref.ensures.value _ c.in_err-check_type.ensures)

pub returns-in_err-check_type-clause-symbols : goal.returns-in_err-check_type-clause-symbols
returns-in_err-check_type-clause-symbols c =
    let l = unchanged _ _ (held_of c.self.inside) _ c.self.view_is c.self.invariant in
    let p = held_at l _ _ _ c.requires.th c.index-theorem.ensures c.th.view_is in
    let names_in : AreNames _ c.args.name c.args.abs c.args.rep c.args.vars.now =
    record {
      operator = c.requires.name;
      to = c.requires.abs;
      from = c.requires.rep;
      variables = c.requires.vars;
    } in
    handed_on c.from_residual.result (of_define c.in_err-check_type.field-0.0)
    (λ e. IsSymbolIn (length c.args.self.now.names) e) c.from_residual.ensures.1
    (operator_symbol l c.args.name c.args.abs c.args.rep c.args.vars.now c.args.th c.index-theorem.result.now names_in
    p _ c.deref.ensures.value _ c.in_err-check_type.ensures)

pub returns-clause-passed : goal.returns-clause-passed
returns-clause-passed c =
    let l = unchanged _ _ (held_of c.self.inside) _ c.self.view_is c.self.invariant in
    let p = held_at l _ _ _ c.requires.th c.index-theorem.ensures c.th.view_is in
    let names_in : AreNames _ c.args.name c.args.abs c.args.rep c.args.vars.now =
    record {
      operator = c.requires.name;
      to = c.requires.abs;
      from = c.requires.rep;
      variables = c.requires.vars;
    } in
    operator_passed l c.args.name c.args.abs c.args.rep c.args.vars.now c.args.th c.index-theorem.result.now names_in
    p _ c.deref.ensures.value c.in_ok-check_type.field-0 c.in_ok-check_type.ensures

pub returns-clause-next : goal.returns-clause-next
returns-clause-next c =
    let l = unchanged _ _ (held_of c.self.inside) _ c.self.view_is c.self.invariant in
    let p = held_at l _ _ _ c.requires.th c.index-theorem.ensures c.th.view_is in
    let names_in : AreNames _ c.args.name c.args.abs c.args.rep c.args.vars.now =
    record {
      operator = c.requires.name;
      to = c.requires.abs;
      from = c.requires.rep;
      variables = c.requires.vars;
    } in
    operator_next l c.args.name c.args.abs c.args.rep c.args.vars.now c.args.th c.index-theorem.result.now names_in p
    _ c.deref.ensures.value c.in_ok-check_type.field-0 c.in_ok-check_type.ensures
