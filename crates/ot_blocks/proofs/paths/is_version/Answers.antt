use Rattle.std.proofs.Common.{eqb, rules}
use borrow.Author.Tests.{tests}
use Rattle.std.proofs.lemmas.Iterator.Search.{all_from_yields_List}
use Rattle.std.proofs.lemmas.Iterator.Splits.{YieldsList-from_slice_split}
use Rattle.ot_blocks.specs.Paths.{is_digits}
use Rattle.ot_blocks.proofs.paths.is_version.Goals as goal

pub returns : goal.returns
returns c =
    all_from_yields_List is_digits _ _ _ c.all.ensures.ran
    (YieldsList-from_slice_split _ (λ b. eqb b 46) c.args.version.now c.split.ensures.rest c.split.ensures.done
    c.split.ensures.closure (λ x b q k. search (rules, tests)))
    (λ x b q k. search (rules, tests))
