use Rattle.std.specs.List.{All}
use Rattle.std.proofs.Common.{◌≡◌, ◌∙◌, [], replicate, length, None, sym, subst, ap, rules}
use Rattle.std.proofs.lemmas.List.Elements.{All-nil}
use Rattle.ot_log_rules.specs.Statements.{HasStatement}
use Rattle.ot_log.proofs.Placed.{none-placed, none-numbered, replicate-long}
use Rattle.ot_log.proofs.writer.Writer.new.Goals as goal

pub returns-clause-writer : goal.returns-clause-writer
returns-clause-writer c = λ s e.
    let places : c.in_ok-vec.field-0.items ≡ replicate c.args.count None =
    c.in_ok-vec.ensures.items_if_clones_equal (λ y h. search rules) in
    let none : c.new-5.result.items ≡ [] = search rules in
    record {
      known = c.new-3.ensures s c.in_ok-new.field-0;
      typings = c.new-4.ensures c.in_ok-new.field-0;
      statements =
          subst (All (HasStatement c.in_ok-new.field-0)) (sym none) (All-nil (HasStatement c.in_ok-new.field-0));
      long = ap length places ∙ replicate-long c.args.count _ ∙ sym e;
      placed = λ i p h. absurd (none-placed c.in_ok-vec.field-0.items c.args.count i p places h);
    }

pub returns-clause-holds : goal.returns-clause-holds
returns-clause-holds c = λ s e.
    let places : c.in_ok-vec.field-0.items ≡ replicate c.args.count None =
    c.in_ok-vec.ensures.items_if_clones_equal (λ y h. search rules) in
    record {
      log = c.new.ensures c.in_ok-new.field-0;
      numbers = λ i low. none-numbered c.in_ok-vec.field-0.items c.args.count i places;
    }
