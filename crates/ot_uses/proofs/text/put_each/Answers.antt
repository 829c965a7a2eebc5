use Rattle.std.proofs.Common.{arith}
use Rattle.ot_text.proofs.Putting.{leaves-more, leaves-all, nothing}
use Rattle.ot_uses.proofs.Exports.{rest-more, rest-end, ready-one}
use Rattle.ot_uses.proofs.text.put_each.Goals as goal

pub put_export-requires-clause-ready : goal.put_export-requires-clause-ready
put_export-requires-clause-ready c =
    ready-one c.args.session.now c.args.exports.now c.loop-i.leads c.loop-i.i c.index-exports-i.result (omega arith)
    c.index-exports-i.is c.loop-i.invariant.ready

pub loop-i-preserved : goal.loop-i-preserved
loop-i-preserved c = record {
  put = leaves-more c.loop-i.invariant.put
      (rest-more c.args.session.now c.args.exports.now c.loop-i.i c.index-exports-i.result (omega arith)
      c.index-exports-i.is) c.put_export.ensures.put;
  ready = c.put_export.ensures.ready _ c.loop-i.invariant.ready;
}

pub returns : goal.returns
returns c =
    leaves-all c.loop-i.invariant.put (rest-end c.args.session.now c.args.exports.now c.loop-i.i (omega arith))
    (nothing _)
