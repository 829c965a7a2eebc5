use Rattle.std.specs.Prelude.{◌≡◌, length}
use Rattle.ot_args.specs.Grammar.{texts_of}
use Rattle.ot_args.specs.Reading.{no_settings, read_after, settings_value}
use Rattle.ot_args.proofs.arguments.Given.read.Given as goal

abbrev pub invariant-loop-rest : goal.invariant-loop-rest
invariant-loop-rest l = read_after l.fn.verb no_settings (texts_of l.fn.words)
    ≡ read_after l.fn.verb (settings_value l.settings) (texts_of l.rest)

abbrev pub decreases-loop-rest : goal.decreases-loop-rest
decreases-loop-rest l = length l.rest
