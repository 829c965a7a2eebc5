use Rattle.std.proofs.Common.{sym, ◌∙◌}
use Rattle.ot_theory.specs.Values.{key_of}
use Rattle.ot_theory.specs.Answers.{tag_of, tags_of}
use Rattle.ot_theory.proofs.Sets.{renaming_allowed_at, renaming_added}
use Rattle.ot_theory.proofs.statement.check.Goals as goal

pub returns-in-Interpret-clause-allowed : goal.returns-in-Interpret-clause-allowed
returns-in-Interpret-clause-allowed c =
    renaming_allowed_at (key_of c.args.tag.key.now) c.args.tag.value.now (tags_of c.args.earlier.now)
    c.check_renaming.result
    (sym c.key_of.ensures ∙ c.in-Interpret.is)
    (c.check_renaming.ensures.allowed (tags_of c.args.earlier.now) c.requires)

pub returns-in-Interpret-clause-symbols : goal.returns-in-Interpret-clause-symbols
returns-in-Interpret-clause-symbols c =
    renaming_added c.check_renaming.result c.args.symbols.now c.check_renaming.new.symbols
    (tags_of c.args.earlier.now) (tag_of c.args.tag)
    (sym c.key_of.ensures ∙ c.in-Interpret.is) c.requires c.check_renaming.ensures.symbols
