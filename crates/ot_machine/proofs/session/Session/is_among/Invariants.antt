use Rattle.std.proofs.Common.{◌≡◌, drop, map}
use Rattle.ot_kernel.specs.State.{theorem_at}
use Rattle.ot_machine.specs.Rows.{is_exported}
use Rattle.ot_machine.specs.Meaning.{export_of}
use Rattle.ot_machine.proofs.session.Session.is_among.Given as goal

abbrev pub invariant-loop-export : goal.invariant-loop-export
invariant-loop-export l =
    is_exported (theorem_at l.self.kernel l.theorem) (map (export_of l.self) l.exports)
    ≡ is_exported (theorem_at l.self.kernel l.theorem) (map (export_of l.self) (drop l.export-index l.exports))
