use Rattle.std.proofs.Common.{[], sym, refl, subst}
use Rattle.ot_text.specs.Pages.{Bytes, IsPut}
use Rattle.ot_text.proofs.Putting.{nothing}
use Rattle.ot_find.proofs.search.Search.new.Goals as goal

pub returns-clause-found : goal.returns-clause-found
returns-clause-found c = record {
  text = subst (λ s. IsPut [] (Bytes [] c.args.max) s) (sym c.new-page.ensures) (nothing (Bytes [] c.args.max));
  count = λ h. refl;
}
