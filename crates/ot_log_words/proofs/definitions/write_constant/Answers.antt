use Rattle.std.proofs.Common.{[]}
use Rattle.ot_logic.specs.Trees.{ConDef}
use Rattle.ot_log_nodes.specs.Items.{name_at, term_at}
use Rattle.ot_log_words.proofs.Defining.{constant-defined, constant-taken, defines-taken}
use Rattle.ot_log_words.proofs.definitions.write_constant.Goals as goal

pub returns-clause-defined : goal.returns-clause-defined
returns-clause-defined c =
    let ts = c.args.nodes.now in
    let d = c.in_ok-theorems.ensures.defines [] (c.new-signature.ensures ts) in
    constant-defined ts c.constant.new.nodes c.in_ok-theorems.ensures.extends c.args.sheet.now c.write.new.self
    c.in_ok-theorems.theorems.items d.0 c.args.n c.args.t c.in_ok-write.ensures.moves d.1

pub returns-in_err-theorems-clause-accepts : goal.returns-in_err-theorems-clause-accepts
returns-in_err-theorems-clause-accepts c = λ w ds h.
    let ts = c.args.nodes.now in
    let n = name_at ts c.args.n in
    let t = term_at ts c.args.t in
    let d = ConDef n t in
    defines-taken c.from_residual-in_err-theorems.result _ d d _ c.constant.new.nodes
    c.from_residual-in_err-theorems.ensures.1
    (c.in_err-theorems.ensures.defines [] (c.new-signature.ensures ts)) (constant-taken n t w ds h)
