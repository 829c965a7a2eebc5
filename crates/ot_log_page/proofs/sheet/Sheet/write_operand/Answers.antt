use Rattle.std.specs.Prelude.{OnOk}
use Rattle.std.proofs.Common.{sym, subst}
use Rattle.ot_log_records.specs.Entries.{operand_nodes}
use Rattle.ot_log_records.specs.Logged.{write_nodes}
use Rattle.ot_log_page.specs.Sheets.{operand_at, Moves}
use Rattle.ot_log_page.proofs.sheet.Sheet.write_operand.Goals as goal

pub returns-in-Type : goal.returns-in-Type
returns-in-Type c = record {
  moves = subst (λ z. OnOk c.write_type.result (Moves c.args.nodes.now c.args.self.now c.write_type.new.self
      (write_nodes (operand_nodes (operand_at c.args.nodes.now z))))) (sym c.in-Type.is) c.write_type.ensures.moves;
}

pub returns-in-Term : goal.returns-in-Term
returns-in-Term c = record {
  moves = subst (λ z. OnOk c.write_term.result (Moves c.args.nodes.now c.args.self.now c.write_term.new.self
      (write_nodes (operand_nodes (operand_at c.args.nodes.now z))))) (sym c.in-Term.is) c.write_term.ensures.moves;
}
