-- The needed definitions of a run, as a part of its list.
use Rattle.std.proofs.Common.{◌≡◌, Bool, not, List, [], ◌∷◌, refl, sym, ap, ◌∙◌}
use Rattle.std.specs.Bool.{Decides}
use Rattle.std.specs.List.{filter}
use Rattle.ot_logic.specs.Names.{Name}
use Rattle.ot_trace.specs.Origins.{Origin}
use Rattle.ot_machine.specs.States.{Made}
use Rattle.ot_written.specs.Needed.{firsts, firsts_by, needed_definitions}
use Rattle.ot_written.specs.Needed.{is_among}
use Rattle.ot_article.specs.Article.{origins_made, needed_made}
use Rattle.ot_written.proofs.NeededLaw.{needed-among}
use Rattle.ot_written.proofs.Renaming.{filter-map}

module _ (same : Origin Name → Origin Name → Bool) (same-is : (a b : Origin Name) → Decides (same a b) (a ≡ b)) where
  -- the origins of the first ones are the first origins
  firsts-origins : (ms : List Made) → origins_made (firsts_by same (λ m. m.origin) ms) ≡ firsts same (origins_made ms)
  firsts-origins [] = refl
  firsts-origins (m ∷ ms) =
      ap (λ l. m.origin ∷ l)
      (sym (filter-map (λ (z : Made). z.origin) (λ e. not (same m.origin e)) (λ z. not (same m.origin z.origin))
      (λ z. refl) (firsts_by same (λ z. z.origin) ms)) ∙ ap (filter (λ e. not (same m.origin e))) (firsts-origins ms))

  -- their origins are the needed ones
  pub made-origins : (roots : List (Origin Name)) (ms : List Made) → origins_made (needed_made same roots ms)
      ≡ needed_definitions same roots (origins_made ms)
  made-origins roots ms =
      let found : List (Origin Name) = needed_definitions same roots (origins_made ms) in
      sym (filter-map (λ (z : Made). z.origin) (λ d. is_among same d found) (λ z. is_among same z.origin found)
      (λ z. refl) (firsts_by same (λ z. z.origin) ms))
      ∙ ap (filter (λ d. is_among same d found)) (firsts-origins ms)
      ∙ sym (needed-among same same-is roots (origins_made ms))
