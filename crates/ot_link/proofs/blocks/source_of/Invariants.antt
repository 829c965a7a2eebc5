use Rattle.std.proofs.Common.{◌≡◌, drop}
use Rattle.ot_theory.specs.Answers.{tags_of}
use Rattle.ot_link.specs.Blocks.{source_at}
use Rattle.ot_link.specs.Running.{first_source}
use Rattle.ot_link.proofs.blocks.source_of.Given as goal

abbrev pub invariant-each : goal.invariant-each
invariant-each l = source_at (first_source (tags_of l.statements))
    ≡ source_at (first_source (tags_of (drop l.statement-index l.statements)))
