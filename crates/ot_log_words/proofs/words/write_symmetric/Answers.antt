use Rattle.ot_log_rules.proofs.Staying.{sequent-stays, still-statement}
use Rattle.ot_log_words.proofs.Recorded.{derives-taken, result-of, sym-records}
use Rattle.std.proofs.Common.{ap, ◌∙◌}
use Rattle.ot_logic.specs.Naming.{names}
use Rattle.ot_logic.specs.Rules.{sym_rule}
use Rattle.ot_log_rules.specs.Statements.{sequent_at}
use Rattle.ot_log_page.proofs.Deriving.{sym-none}
use Rattle.ot_log_words.proofs.words.write_symmetric.Goals as goal

pub sym-requires : goal.sym-requires
sym-requires c = record {
  a = still-statement c.args.nodes.now c.write_sym.new.nodes c.in_ok-number.ensures.extends c.args.a.now
      c.requires.a;
}

pub returns-clause-records : goal.returns-clause-records
returns-clause-records c =
    sym-records c.args.nodes.now c.write_sym.new.nodes c.sym.new.nodes c.in_ok-number.ensures.extends
    c.in_ok-statement.ensures.extends c.args.sheet.now c.write_sym.new.sheet c.in_ok-number.number
    c.in_ok-statement.statement
    c.args.a.now c.in-Some.sides c.args.i c.requires.a c.in-Some.ensures c.in_ok-number.ensures.adds c.requires.value
    c.in_ok-statement.ensures.made

pub unreachable-requires : goal.unreachable-requires
unreachable-requires c =
    let q = sequent_at c.args.nodes.now c.args.a.now in
    let r = result-of (sym_rule names q) c.requires.value in
    sym-none q r.0 c.in_default.ensures r.1

pub returns-in_err-statement-clause-accepts : goal.returns-in_err-statement-clause-accepts
returns-in_err-statement-clause-accepts c =
    let ts = c.args.nodes.now in
    let q = sequent_at ts c.args.a.now in
    let r = result-of (sym_rule names q) c.requires.value in
    let stay = sequent-stays ts c.write_sym.new.nodes c.in_ok-number.ensures.extends c.args.a.now c.requires.a in
    derives-taken c.from_residual-in_err-statement.result _ c.sym.new.nodes r.0
    c.from_residual-in_err-statement.ensures.1
    (c.in_err-statement.ensures.made r.0 (ap (sym_rule names) stay ∙ r.1))
