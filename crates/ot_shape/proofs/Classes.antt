-- Terms differ at most in the names of their binders exactly where their classes are one.
use Rattle.std.proofs.Common.{◌≡◌, ◌↔◌, [], map, sym, ap, ◌∙◌}
use Rattle.ot_logic.specs.Trees.{Alphabet, Named}
use Rattle.ot_logic.specs.NamedTerms.{nameless}
use Rattle.ot_laws.proofs.Tests.{Tells}
use Rattle.ot_laws.proofs.Named.{nameless_in-nil}
use Rattle.ot_shape.specs.Shape.{Class, class_of}
use Rattle.ot_shape.proofs.Leaves.{leaf, form-class, alike-same}
use Rattle.ot_shape.proofs.Filled.{filled, filled-class}

module _ {N : Type 0} (alphabet : Alphabet N) (tells : Tells alphabet) where
  pub class-alpha : (t u : Named N) → (nameless alphabet t ≡ nameless alphabet u)
      ↔ (class_of alphabet t ≡ class_of alphabet u)
  class-alpha t u = (to, from)
    where
      to : nameless alphabet t ≡ nameless alphabet u → class_of alphabet t ≡ class_of alphabet u
      to p =
          let forms = nameless_in-nil alphabet tells t ∙ p ∙ sym (nameless_in-nil alphabet tells u) in
          let (shape, alike) = form-class alphabet tells t u [] [] forms in
          let frees = alike-same alphabet tells _ _ alike in
          λ i. record { shape = shape i; frees = frees i }

      from : class_of alphabet t ≡ class_of alphabet u → nameless alphabet t ≡ nameless alphabet u
      from p =
          sym (nameless_in-nil alphabet tells t) ∙ sym (filled-class alphabet tells t [])
          ∙ ap (λ (c : Class N). filled c.shape (map (leaf alphabet []) c.frees)) p
          ∙ filled-class alphabet tells u [] ∙ nameless_in-nil alphabet tells u
