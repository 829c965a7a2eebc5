-- Codes of sets, which a model's value needs.
use Rattle.std.specs.Prelude.{◌≡◌}
use Rattle.std.specs.Coded.{Coded}
use base.Stored.{Gv, gnil, gnum, gcons, num}
use mathlib.Core.Path.{ap, subst}
use lib.Dec.{T, eqb}
use Rattle.ot_sets.specs.Trees.{Tree, Empty, One, Both}

abbrev first : Gv → Gv
first (gcons a b) = a
first g = gnil

abbrev rest : Gv → Gv
rest (gcons a b) = b
rest g = gnil

abbrev code_tree : Tree → Gv
code_tree Empty = gcons (gnum 0) gnil
code_tree (One k) = gcons (gnum 1) (gnum k)
code_tree (Both s t) = gcons (gnum 2) (gcons (code_tree s) (code_tree t))

pub tree_inj : (s t : Tree) → code_tree s ≡ code_tree t → s ≡ t
tree_inj Empty Empty p = λ i. Empty
tree_inj (One j) (One k) p = λ i. One (num (rest (p i)))
tree_inj (Both e o) (Both f p) q =
    λ i. Both (tree_inj e f (ap (λ g. first (rest g)) q) i) (tree_inj o p (ap (λ g. rest (rest g)) q) i)
tree_inj s t p = absurd (subst (λ g. T (eqb (num (first g)) (num (first (code_tree s))))) p tt)

abbrev pub coded_tree : Coded Tree
coded_tree = record { code = code_tree; inj = tree_inj }
