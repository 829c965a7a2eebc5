-- The values are quoted paths.
use Rattle.std.proofs.Common.{◌≡◌, ℕ, List, ◌∷◌, ◌++◌, [], length, true, false, refl, eqb, ltb}
use Rattle.std.specs.Prelude.{codes}
use Rattle.std.specs.List.{list_all}
use Rattle.std.proofs.lemmas.Bool.{ltb-true}
use Rattle.std.proofs.lemmas.Bool.Decides.{Decides-eqb}
use Rattle.std.proofs.lemmas.Str.{IsUtf8-from_ascii}
use Rattle.ot_theory.specs.Values.{IsPath}
use Rattle.ot_blocks.proofs.FullNames.{ascii_from_all}
use Rattle.ot_walk.specs.Walk.{is_in}
use Rattle.ot_walk.proofs.Members.{apart_from_test}
use Rattle.ot_rows.proofs.blocks.articles.Goals as goal

quoted : (inner : List ℕ) → ltb 0 (length inner) ≡ true → list_all (λ b. ltb b 128) inner ≡ true
    → is_in eqb inner 34 ≡ false → IsPath (34 ∷ (inner ++ 34 ∷ []))
quoted inner some ascii plain = record {
  inner = inner;
  some = ltb-true 0 (length inner) some;
  utf8 = IsUtf8-from_ascii inner (ascii_from_all (λ b. ltb b 128) (λ b. ltb-true b 128) inner ascii);
  plain = apart_from_test eqb Decides-eqb inner 34 plain;
  text = refl;
}

pub article_path-requires : goal.article_path-requires
article_path-requires g c = quoted (codes "eq.art") refl refl refl

pub article_path-requires-2 : goal.article_path-requires-2
article_path-requires-2 g c = quoted (codes "gone.art") refl refl refl
