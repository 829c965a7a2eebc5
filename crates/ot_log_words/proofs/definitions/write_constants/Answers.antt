use Rattle.std.proofs.Common.{[], subst, ◌∙◌}
use Rattle.ot_logic.specs.Trees.{ListDef}
use Rattle.ot_log_records.specs.Logged.{write_entry}
use Rattle.ot_log_rules.specs.Statements.{sequent_at}
use Rattle.ot_log_rules.specs.Definitions.{pairs_at}
use Rattle.ot_log_page.specs.Sheets.{Moves}
use Rattle.ot_log_words.proofs.Defining.{has-list, constants-is, constants-defined, constants-taken, defines-taken}
use Rattle.ot_log_words.proofs.definitions.write_constants.Goals as goal

pub write-requires : goal.write-requires
write-requires c = record {
  operands = has-list c.args.nodes.now c.args.pairs.now _ c.args.i c.deref.result.now
      (c.deref.ensures.value ∙ c.in_ok-operands.ensures) c.requires.pairs;
}

pub returns-clause-defined : goal.returns-clause-defined
returns-clause-defined c = λ os r.
    let ts = c.args.nodes.now in
    let ps = c.args.pairs.now in
    let d = c.in_ok-theorems.ensures.defines [] (c.new-signature.ensures ts) in
    let entry = constants-is ts ps c.args.i c.deref.result.now (c.deref.ensures.value ∙ c.in_ok-operands.ensures) in
    let moves = subst (λ z. Moves ts c.args.sheet.now c.write.new.self (write_entry z)) entry
    c.in_ok-write.ensures.moves in
    constants-defined ts c.constants.new.nodes c.in_ok-theorems.ensures.extends c.args.sheet.now c.write.new.self
    c.in_ok-theorems.theorems.items d.0 (pairs_at ts ps) (sequent_at ts c.args.premise.now) c.args.i os moves d.1 r

pub returns-in_err-theorems-clause-accepts : goal.returns-in_err-theorems-clause-accepts
returns-in_err-theorems-clause-accepts c = λ os r ds h.
    let ts = c.args.nodes.now in
    let ps = pairs_at ts c.args.pairs.now in
    let q = sequent_at ts c.args.premise.now in
    defines-taken c.from_residual-in_err-theorems.result _ (ListDef ps q) (ListDef ps q) _ c.constants.new.nodes
    c.from_residual-in_err-theorems.ensures.1
    (c.in_err-theorems.ensures.defines [] (c.new-signature.ensures ts)) (constants-taken ps q os r ds h)
