-- Codes of shapes, which a model's value needs: each shape as a tree of numbers, over names that have a code.
use Rattle.std.specs.Prelude.{◌≡◌, ℕ, List, Option}
use Rattle.std.specs.Coded.{Coded, coded_ℕ, coded_list, coded_option}
use base.Stored.{Gv, gnil, gnum, gcons, num}
use mathlib.Core.Path.{ap, subst}
use lib.Dec.{T, eqb}
use Rattle.ot_logic.specs.Codes.{coded_ty}
use Rattle.ot_shape.specs.Shape.{Shape, Hole, Constant, Apply, Bind}

abbrev first : Gv → Gv
first (gcons a b) = a
first g = gnil

abbrev rest : Gv → Gv
rest (gcons a b) = b
rest g = gnil

abbrev tag : Gv → ℕ
tag g = num (first g)

abbrev pub coded_hole : Coded (Option ℕ)
coded_hole = coded_option coded_ℕ

abbrev pub coded_map : Coded (List (Option ℕ))
coded_map = coded_list coded_hole

module _ {N : Type 0} (letter : Coded N) where
  abbrev pub code_shape : Shape N → Gv
  code_shape Hole = gcons (gnum 0) gnil
  code_shape (Constant n t) = gcons (gnum 1) (gcons (letter.code n) ((coded_ty letter).code t))
  code_shape (Apply f x m) = gcons (gnum 2) (gcons (code_shape f) (gcons (code_shape x) (coded_map.code m)))
  code_shape (Bind t k b) =
      gcons (gnum 3) (gcons ((coded_ty letter).code t) (gcons (coded_hole.code k) (code_shape b)))

  pub shape_inj : (x y : Shape N) → code_shape x ≡ code_shape y → x ≡ y
  shape_inj Hole Hole p = λ i. Hole
  shape_inj (Constant n t) (Constant m u) p =
      λ i. Constant (letter.inj n m (ap (λ g. first (rest g)) p) i)
      ((coded_ty letter).inj t u (ap (λ g. rest (rest g)) p) i)
  shape_inj (Apply f x m) (Apply g y n) p =
      λ i. Apply (shape_inj f g (ap (λ g. first (rest g)) p) i)
      (shape_inj x y (ap (λ g. first (rest (rest g))) p) i) (coded_map.inj m n (ap (λ g. rest (rest (rest g))) p) i)
  shape_inj (Bind t k b) (Bind u j c) p =
      λ i. Bind ((coded_ty letter).inj t u (ap (λ g. first (rest g)) p) i)
      (coded_hole.inj k j (ap (λ g. first (rest (rest g))) p) i)
      (shape_inj b c (ap (λ g. rest (rest (rest g))) p) i)
  shape_inj x y p = absurd (subst (λ g. T (eqb (tag g) (tag (code_shape x)))) p tt)

  abbrev pub coded_shape : Coded (Shape N)
  coded_shape = record { code = code_shape; inj = shape_inj }
