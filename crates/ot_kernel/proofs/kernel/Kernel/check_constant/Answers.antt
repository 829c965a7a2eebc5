use Rattle.std.proofs.Common.{length}
use Rattle.ot_logic.specs.Naming.{names}
use Rattle.ot_kernel.specs.Answers.{RefusesBy, IsSymbolIn}
use Rattle.ot_kernel.specs.Defining.{const_definition}
use Rattle.ot_kernel.specs.Refusals.{of_define}
use Rattle.ot_kernel.specs.State.{name_at, term_at}
use Rattle.ot_kernel.proofs.Constants.{constant_passed, constant_next, constant_refused, constant_symbol}
use Rattle.ot_kernel.proofs.Later.{unchanged, held_of}
use Rattle.ot_kernel.proofs.Refusals.{handed_on}
use Rattle.ot_kernel.proofs.kernel.Kernel.check_constant.Goals as goal

pub returns-in_err-checked-clause-refused : goal.returns-in_err-checked-clause-refused
returns-in_err-checked-clause-refused c =
    let s = c.args.self.now in
    let l = unchanged _ _ (held_of c.self.inside) _ c.self.view_is c.self.invariant in
    handed_on c.from_residual.result (of_define c.in_err-checked.field-0.0)
    (λ e. RefusesBy (name_at s) e
    (const_definition names s.definitions (name_at s c.args.name) (term_at s c.args.t))) c.from_residual.ensures.1
    (constant_refused l c.args.name c.args.t c.requires.name c.requires.t _ c.in_err-checked.ensures)

pub returns-in_err-checked-clause-symbols : goal.returns-in_err-checked-clause-symbols
returns-in_err-checked-clause-symbols c =
    let l = unchanged _ _ (held_of c.self.inside) _ c.self.view_is c.self.invariant in
    handed_on c.from_residual.result (of_define c.in_err-checked.field-0.0)
    (λ e. IsSymbolIn (length c.args.self.now.names) e) c.from_residual.ensures.1
    (constant_symbol l c.args.name c.args.t c.requires.name c.requires.t _ c.in_err-checked.ensures)

pub returns-clause-passed : goal.returns-clause-passed
returns-clause-passed c = constant_passed (unchanged _ _ (held_of c.self.inside) _ c.self.view_is c.self.invariant)
    c.args.name c.args.t c.requires.name c.requires.t c.in_ok-checked.field-0 c.in_ok-checked.ensures

pub returns-clause-next : goal.returns-clause-next
returns-clause-next c = constant_next (unchanged _ _ (held_of c.self.inside) _ c.self.view_is c.self.invariant)
    c.args.name c.args.t c.requires.name c.requires.t c.in_ok-checked.field-0 c.in_ok-checked.ensures
