use Rattle.std.proofs.Common.{[], subst, ◌∙◌}
use Rattle.ot_logic.specs.Trees.{TyDef}
use Rattle.ot_log_records.specs.Logged.{write_entry}
use Rattle.ot_log_nodes.specs.Items.{name_at}
use Rattle.ot_log_rules.specs.Statements.{sequent_at}
use Rattle.ot_log_rules.specs.Definitions.{names_at}
use Rattle.ot_log_page.specs.Sheets.{Moves}
use Rattle.ot_log_words.proofs.Defining.{has-type_operator, type_operator-is, type_operator-defined, type_operator-taken}
use Rattle.ot_log_words.proofs.Defining.{defines-taken}
use Rattle.ot_log_words.proofs.definitions.write_type_operator.Goals as goal

pub write-requires : goal.write-requires
write-requires c = record {
  operands = has-type_operator c.args.nodes.now c.args.n c.args.abs c.args.rep _ c.args.i c.args.vars.now
      c.deref.result.now
      (c.deref.ensures.value ∙ c.in_ok-operands.ensures) c.requires.n c.requires.abs c.requires.rep c.requires.vars;
}

pub returns-clause-defined : goal.returns-clause-defined
returns-clause-defined c = λ os r.
    let ts = c.args.nodes.now in
    let vars = c.args.vars.now in
    let d = c.in_ok-theorems.ensures.defines [] (c.new-signature.ensures ts) in
    let entry = type_operator-is ts c.args.n c.args.abs c.args.rep c.args.i vars c.deref.result.now
    (c.deref.ensures.value ∙ c.in_ok-operands.ensures) in
    let moves = subst (λ z. Moves ts c.args.sheet.now c.write.new.self (write_entry z)) entry
    c.in_ok-write.ensures.moves in
    type_operator-defined ts c.type_operator.new.nodes c.in_ok-theorems.ensures.extends c.args.sheet.now
    c.write.new.self
    c.in_ok-theorems.theorems.items d.0 (name_at ts c.args.n) (name_at ts c.args.abs) (name_at ts c.args.rep)
    (names_at ts vars)
    (sequent_at ts c.args.premise.now) c.args.i os moves d.1 r

pub returns-in_err-theorems-clause-accepts : goal.returns-in_err-theorems-clause-accepts
returns-in_err-theorems-clause-accepts c = λ os r ds h.
    let ts = c.args.nodes.now in
    let n = name_at ts c.args.n in
    let abs = name_at ts c.args.abs in
    let rep = name_at ts c.args.rep in
    let vars = names_at ts c.args.vars.now in
    let q = sequent_at ts c.args.premise.now in
    let d = TyDef n abs rep vars q in
    defines-taken c.from_residual-in_err-theorems.result _ d d _ c.type_operator.new.nodes
    c.from_residual-in_err-theorems.ensures.1
    (c.in_err-theorems.ensures.defines [] (c.new-signature.ensures ts))
    (type_operator-taken n abs rep vars q os r ds h)
