use Rattle.ot_log_rules.proofs.Staying.{sequent-stays, still-statement}
use Rattle.ot_log_words.proofs.Recorded.{derives-taken, result-of, trans-records}
use Rattle.std.proofs.Common.{◌∙◌}
use Rattle.ot_logic.specs.Naming.{names}
use Rattle.ot_logic.specs.Rules.{trans_rule}
use Rattle.ot_log_rules.specs.Statements.{sequent_at}
use Rattle.ot_log_page.proofs.Deriving.{trans-none, trans-other}
use Rattle.ot_log_words.proofs.words.write_transitive.Goals as goal

pub trans-requires-clause-lower : goal.trans-requires-clause-lower
trans-requires-clause-lower c =
    still-statement c.args.nodes.now c.write_chain.new.nodes c.in_ok-number.ensures.extends
    c.args.a.now c.requires.a

pub trans-requires-clause-top : goal.trans-requires-clause-top
trans-requires-clause-top c = still-statement c.args.nodes.now c.write_chain.new.nodes c.in_ok-number.ensures.extends
    c.args.b.now
    c.requires.b

pub returns-clause-records : goal.returns-clause-records
returns-clause-records c =
    trans-records c.args.nodes.now c.write_chain.new.nodes c.trans.new.nodes c.in_ok-number.ensures.extends
    c.in_ok-statement.ensures.extends c.args.sheet.now c.write_chain.new.sheet c.in_ok-number.number
    c.in_ok-statement.statement
    c.args.a.now c.args.b.now c.in-Some.e c.in-Some-as_equation.f c.args.i c.args.j c.requires.a c.requires.b
    c.in-Some.ensures
    c.in-Some-as_equation.ensures c.in_ok-number.ensures.adds c.requires.value c.in_ok-statement.ensures.made

pub unreachable-requires : goal.unreachable-requires
unreachable-requires c =
    let q = sequent_at c.args.nodes.now c.args.a.now in
    let p = sequent_at c.args.nodes.now c.args.b.now in
    let r = result-of (trans_rule names q p) c.requires.value in
    trans-none q p r.0 c.in_default.ensures r.1

pub unreachable-requires-in_default-as_equation : goal.unreachable-requires-in_default-as_equation
unreachable-requires-in_default-as_equation c =
    let q = sequent_at c.args.nodes.now c.args.a.now in
    let p = sequent_at c.args.nodes.now c.args.b.now in
    let r = result-of (trans_rule names q p) c.requires.value in
    trans-other q p r.0 c.in_default-as_equation.ensures r.1

pub returns-in_err-statement-clause-accepts : goal.returns-in_err-statement-clause-accepts
returns-in_err-statement-clause-accepts c =
    let ts = c.args.nodes.now in
    let mid = c.write_chain.new.nodes in
    let e = c.in_ok-number.ensures.extends in
    let q = sequent_at ts c.args.a.now in
    let p = sequent_at ts c.args.b.now in
    let r = result-of (trans_rule names q p) c.requires.value in
    let stay = sequent-stays ts mid e c.args.a.now c.requires.a in
    let stays = sequent-stays ts mid e c.args.b.now c.requires.b in
    derives-taken c.from_residual-in_err-statement.result _ c.trans.new.nodes r.0
    c.from_residual-in_err-statement.ensures.1
    (c.in_err-statement.ensures.made r.0 ((λ i. trans_rule names (stay i) (stays i)) ∙ r.1))
