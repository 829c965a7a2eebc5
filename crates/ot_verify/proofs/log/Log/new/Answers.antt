use Rattle.ot_verify.proofs.Logging.{nothing-whole}
use Rattle.ot_verify.proofs.log.Log.new.Goals as goal

pub invariant_of-result : goal.invariant_of-result
invariant_of-result c =
    nothing-whole _ _ _ _ _ _ (λ i. record {
      types = c.new-3.ensures.items i;
      terms = c.new-4.ensures.items i;
      sequents = c.new-5.ensures.items i;
      assumptions = c.new-6.ensures.none i;
      definitions = c.new-7.ensures.items i;
      results = c.new-9.ensures.none i;
    }) (c.new-2.ensures _) (c.new-8.ensures _) c.new-6.ensures.kept c.new-9.ensures.kept
