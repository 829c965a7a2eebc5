use Rattle.std.proofs.Common.{◌≡◌, false, refl}
use Rattle.std.specs.HashSet.{keys}
use Rattle.ot_theory.specs.Theory.{has_block}
use Rattle.ot_theory.specs.Answers.{tags_of}
use Rattle.ot_theory.specs.Reading.{closed_of}
use Rattle.ot_theory.proofs.Sets.{name_new, names_more}
use Rattle.ot_theory.proofs.reading.Reading.opened.Goals as goal

pub returns-then-branch-clause-step : goal.returns-then-branch-clause-step
returns-then-branch-clause-step c =
    let new : has_block (closed_of c.args.self.now) c.args.name.now ≡ false =
    name_new (keys c.args.self.now.names) (closed_of c.args.self.now) c.args.name.now c.in_ok-insert.field-0
    c.requires.names c.in_ok-insert.ensures.added c.if-branch.true in
    rw (new, c.new.ensures.items) refl

pub returns-then-branch-clause-sets : goal.returns-then-branch-clause-sets
returns-then-branch-clause-sets c = record {
  names = names_more (keys c.args.self.now.names) (keys c.insert.new.self) c.args.name (closed_of c.args.self.now)
      (record { line = c.args.line; name = c.args.name.now; statements = tags_of c.new.result.items })
      c.requires.names refl c.in_ok-insert.ensures.updates.0;
  symbols = rw c.new.ensures.items c.new-symbols.ensures;
}
