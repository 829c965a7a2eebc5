use Rattle.std.specs.Prelude.{false}
use Rattle.std.proofs.Common.{◌≡◌, ◌-◌}
use Rattle.ot_io.specs.Keeping.{KeepsSource}
use Rattle.ot_verify.specs.Asking.{CollectsFrom}
use Rattle.ot_verify.specs.Logged.{MeetsNames}
use Rattle.ot_verify.specs.Going.{Advances}
use Rattle.ot_verify.proofs.lists.list.Given as goal

abbrev pub invariant-each : goal.invariant-each
invariant-each g l =
    let o = g.T.Operand in
    record {
      so_far : CollectsFrom l.fn.log.state o.ask (o.stands_for l.log) l.read.items (l.count - l.done)
          l.fn.reader l.reader (g.S.Source.left l.fn.source) (g.S.Source.left l.source);
      meets : MeetsNames l.fn.log l.log;
      unchanged : o.adds_names ≡ false → l.log ≡ l.fn.log;
      advances : Advances l.fn.reader l.reader;
      kept : KeepsSource g.S.Source.folder g.S.Source.faults g.S.Source.misses g.S.Source.at l.fn.source l.source;
    }
