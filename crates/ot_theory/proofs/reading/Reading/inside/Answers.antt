use Rattle.std.specs.HashSet.{keys}
use Rattle.ot_theory.specs.Answers.{tag_of, block_of}
use Rattle.ot_theory.specs.Reading.{closed_of}
use Rattle.ot_theory.proofs.Sets.{name_kept}
use Rattle.ot_theory.proofs.reading.Reading.inside.Goals as goal

pub returns-in-Statement-clause-sets : goal.returns-in-Statement-clause-sets
returns-in-Statement-clause-sets c = record {
  names = name_kept (keys c.args.self.now.names) (closed_of c.args.self.now) (block_of c.args.current.block)
      (block_of c.in_ok-add_statement-in-Statement.field-0.block)
      (tag_of (record { line = c.args.line.number; key = c.in-Statement.key; value = c.in-Statement.value }))
      c.requires.names c.in_ok-add_statement-in-Statement.ensures.statement;
  symbols = c.in_ok-add_statement-in-Statement.ensures.symbols;
}
