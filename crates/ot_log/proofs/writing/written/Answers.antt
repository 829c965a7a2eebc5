use Rattle.std.proofs.Common.{map, sym, subst, take}
use Rattle.ot_machine.specs.Meaning.{origin_of}
use Rattle.std.proofs.lemmas.List.{take_all}
use Rattle.ot_log_law.specs.Writing.{log, nothing_written, write_definitions, write_results}
use Rattle.ot_log.specs.Keeping.{Holds, IsDefinable}
use Rattle.ot_log.specs.Logs.{HasProof}
use Rattle.ot_log.proofs.Numbered.{define-ready, result-ready}
use Rattle.ot_log.proofs.Whole.{definitions-more, results-more}
use Rattle.ot_log.proofs.writing.written.Goals as goal

pub define-requires-clause-definable : goal.define-requires-clause-definable
define-requires-clause-definable c =
    subst (λ i. IsDefinable (origin_of c.args.session.now i)) (sym c.definition-item.is)
    (c.requires.definable c.loop-definition.definition-index c.definition-item.result c.loop-definition-test.true)

pub define-requires-clause-ready : goal.define-requires-clause-ready
define-requires-clause-ready c =
    let s = c.args.session.now in
    let ds = c.args.definitions.now in (
      c.args.max,
      write_definitions (map (origin_of s) (take c.loop-definition.definition-index ds)) nothing_written,
      c.loop-definition.invariant.holds,
      define-ready (origin_of s) ds nothing_written c.requires.definitions c.loop-definition.definition-index
          c.definition-item.result c.definition-item.is c.loop-definition-test.true,
    )

pub result-requires-clause-ready : goal.result-requires-clause-ready
result-requires-clause-ready c =
    let s = c.args.session.now in
    let es = c.args.exports.now in
    let x = write_definitions (map (origin_of s) c.args.definitions.now) nothing_written in (
      c.args.max,
      write_results (map (λ e. origin_of s e.theorem) (take c.loop-export.export-index es)) x,
      c.loop-export.invariant.holds,
      result-ready (λ e. origin_of s e.theorem) es x c.requires.results c.loop-export.export-index
          c.export-item.result c.export-item.is c.loop-export-test.true,
    )

pub result-requires-clause-proof : goal.result-requires-clause-proof
result-requires-clause-proof c = subst (HasProof c.args.session.now) (sym c.export-item.is)
    (c.requires.proofs c.loop-export.export-index c.export-item.result c.loop-export-test.true)

pub loop-definition-preserved : goal.loop-definition-preserved
loop-definition-preserved c =
    let s = c.args.session.now in
    record {
      writer = c.in_ok-define.ensures.writer;
      holds = subst (Holds s c.args.max c.define.new.self)
          (definitions-more (origin_of s) c.args.definitions.now c.loop-definition.definition-index
          c.definition-item.result
          nothing_written c.definition-item.is c.loop-definition-test.true)
          (c.in_ok-define.ensures.moves c.args.max _ c.loop-definition.invariant.holds);
    }

pub loop-export-preserved : goal.loop-export-preserved
loop-export-preserved c =
    let s = c.args.session.now in
    record {
      writer = c.in_ok-result.ensures.writer;
      holds = subst (Holds s c.args.max c.result.new.self)
          (results-more (λ e. origin_of s e.theorem) c.args.exports.now c.loop-export.export-index
          c.export-item.result
          (write_definitions (map (origin_of s) c.args.definitions.now) nothing_written) c.export-item.is
          c.loop-export-test.true)
          (c.in_ok-result.ensures.moves c.args.max _ c.loop-export.invariant.holds);
    }

pub returns : goal.returns
returns c =
    let s = c.args.session.now in
    subst (λ l. Holds s c.args.max c.loop-export.writer
    (log (map (origin_of s) c.args.definitions.now) (map (λ e. origin_of s e.theorem) l)))
    (take_all c.loop-export.export-index c.args.exports.now c.loop-export-test.false) c.loop-export.invariant.holds
