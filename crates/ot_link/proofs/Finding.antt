-- The article or the package among statements, one after another.
use Rattle.std.specs.Prelude.{Some}
use Rattle.std.proofs.Common.{◌≡◌, ◌∙◌, ◌<◌, ◌+◌, ℕ, List, length, drop}
use Rattle.std.proofs.Common.{get_or, if◌then◌else◌, sym, ap, add-one}
use Rattle.std.proofs.Math.Seq.{drop-cons}
use Rattle.ot_theory.specs.Values.{key_of, is_source}
use Rattle.ot_theory.specs.Answers.{tag_of, tags_of}
use Rattle.ot_theory.specs.declared.theory.Tag.{Tag}
use Rattle.ot_theory.specs.declared.keys.Key.TheVariants as keys
use Rattle.ot_link.specs.Blocks.{FromArticle, FromPackage, source_by, source_at}
use Rattle.ot_link.specs.Running.{first_source}

module _ (ss : List Tag) (i : ℕ) (d : Tag) (h : i < length ss) where
  step : first_source (tags_of (drop i ss))
      ≡ (if is_source (key_of (get_or ss i d).key.now) then Some (tag_of (get_or ss i d)) else first_source
      (tags_of (drop (i + 1) ss)))
  step = ap (λ l. first_source (tags_of l)) (drop-cons ss i d h)
      ∙ (λ j. if is_source (key_of (get_or ss i d).key.now) then Some (tag_of (get_or ss i d)) else first_source
      (tags_of (drop (sym (add-one i) j) ss)))

  pub article-found : key_of (get_or ss i d).key.now ≡ keys.Article → source_at (first_source (tags_of (drop i ss)))
      ≡ FromArticle (get_or ss i d).value.now
  article-found e =
      ap source_at step
      ∙ ap (λ k. source_at
      (if is_source k then Some (tag_of (get_or ss i d)) else first_source (tags_of (drop (i + 1) ss)))) e
      ∙ ap (λ k. source_by k (tag_of (get_or ss i d))) e

  pub package-found : key_of (get_or ss i d).key.now ≡ keys.Package → source_at (first_source (tags_of (drop i ss)))
      ≡ FromPackage (get_or ss i d).line (get_or ss i d).value.now
  package-found e =
      ap source_at step
      ∙ ap (λ k. source_at
      (if is_source k then Some (tag_of (get_or ss i d)) else first_source (tags_of (drop (i + 1) ss)))) e
      ∙ ap (λ k. source_by k (tag_of (get_or ss i d))) e
