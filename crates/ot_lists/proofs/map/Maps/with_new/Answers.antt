use Rattle.std.proofs.Common.{refl}
use Rattle.ot_lists.proofs.MapLemmas.{new-starts, new-longer}
use Rattle.ot_lists.proofs.map.Maps.with_new.Goals as goal

pub returns-in_default : goal.returns-in_default
returns-in_default c = record {
  is = refl;
  below = c.requires.front;
  longest = (
    c.requires.some,
    new-starts c.args.self.now c.args.front c.node.result.now c.node.ensures.is c.node.ensures.longest
        c.in_default.not-New,
  );
}

pub returns-clause-is : goal.returns-clause-is
returns-clause-is c =
    new-longer c.args.self.now c.args.front c.node.result.now c.node.ensures.is c.in-New.longer
    c.in-New.before c.args.count c.in_ok-count.count c.in_ok-count.ensures c.in-New.is
