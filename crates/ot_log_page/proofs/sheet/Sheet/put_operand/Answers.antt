use Rattle.std.proofs.Common.{ap, ◌∷◌, []}
use Rattle.ot_log_format.specs.Tokens.{Named}
use Rattle.ot_log_records.specs.Logged.{add_tokens}
use Rattle.ot_log_page.proofs.Showing.{as-operand, moves-as}
use Rattle.ot_log_page.proofs.sheet.Sheet.put_operand.Goals as goal

pub returns-in-Count : goal.returns-in-Count
returns-in-Count c = record {
  moves = as-operand c.args.nodes.now _ _ _ _ c.in-Count.is
      (c.put_number.ensures.moves c.args.nodes.now);
}

pub returns-in-Name : goal.returns-in-Name
returns-in-Name c = record {
  moves = as-operand c.args.nodes.now _ _ _ _ c.in-Name.is
      (moves-as c.args.nodes.now _ _ _ _ (λ x. ap (λ n. add_tokens (Named n ∷ []) x) c.name_of.ensures)
      (c.put_name.ensures.moves c.args.nodes.now));
}

pub returns-in-Type : goal.returns-in-Type
returns-in-Type c = record { moves = as-operand c.args.nodes.now _ _ _ _ c.in-Type.is c.put_type.ensures.moves }

pub returns-in-Term : goal.returns-in-Term
returns-in-Term c = record { moves = as-operand c.args.nodes.now _ _ _ _ c.in-Term.is c.put_term.ensures.moves }

pub returns-in-Sequent : goal.returns-in-Sequent
returns-in-Sequent c = record {
  moves = as-operand c.args.nodes.now _ _ _ _ c.in-Sequent.is
      (c.put_number-in-Sequent.ensures.moves c.args.nodes.now);
}
