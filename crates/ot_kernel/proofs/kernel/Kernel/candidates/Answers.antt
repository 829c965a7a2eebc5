use Rattle.std.proofs.Common.{subst}
use Rattle.ot_kernel.specs.Candidates.{HaveParts}
use Rattle.ot_kernel.specs.Chains.{AreChained}
use Rattle.ot_kernel.proofs.kernel.Kernel.candidates.Goals as goal

pub returns-clause-found : goal.returns-clause-found
returns-clause-found c = record {
  numbered = c.requires;
  parts = c.in_ok-parts.parts.items;
  have = subst (λ ths. HaveParts c.args.self.now ths c.in_ok-parts.parts.items) c.deref.ensures.value
      c.in_ok-parts.ensures;
  chained = subst (λ parts. AreChained parts c.in_ok-chains.chains) c.deref-2.ensures.value c.in_ok-chains.ensures;
}
