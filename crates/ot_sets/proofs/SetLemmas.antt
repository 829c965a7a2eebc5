-- Lemmas on the table of sets.
use Rattle.std.proofs.Common.{◌≡◌, ℕ, ◌≤◌, Bool, true, nat_eq, eqb-true, eq-eqb, true≢false}
use Rattle.std.proofs.Common.{List, length, refl, sym, ap, arith}
use Rattle.std.proofs.lemmas.Bool.{and_parts}
use Rattle.std.specs.Cmp.Derive.{both_true}
use Rattle.ot_logic.specs.Table.{Extends, IsInjective}
use Rattle.ot_logic.specs.Interned.{NodeLaws}
use Rattle.ot_logic.proofs.TableLemmas.{get_or-Extends, get_or-IsInjective}
use Rattle.ot_sets.specs.Trees as trees
use Rattle.ot_sets.specs.Trees.{Tree}
use Rattle.ot_sets.specs.Table.{tree_of, tree_at, IsBelow, Describes}
use Rattle.ot_sets.specs.declared.table.SetNode.{SetNode}
use Rattle.ot_sets.specs.declared.table.SetNode.TheVariants.{Empty, One, Both}
use Rattle.ot_sets.specs.contracts.table.SetNodePartialEq.TheImpl as derived

abbrev pub node_eq : SetNode → SetNode → Bool
node_eq = derived.ghosts.eq

same_node : (m n : SetNode) → node_eq m n ≡ true → m ≡ n
same_node Empty Empty p = refl
same_node (One j) (One k) p = ap One (eqb-true j k p)
same_node (Both e o) (Both f q) p =
    let parts = and_parts (nat_eq e f) (nat_eq o q) p in
    let first = eqb-true e f parts.0 in
    let second = eqb-true o q parts.1 in
    λ i. Both (first i) (second i)
same_node Empty (One k) p = absurd (true≢false (sym p))
same_node Empty (Both f q) p = absurd (true≢false (sym p))
same_node (One j) Empty p = absurd (true≢false (sym p))
same_node (One j) (Both f q) p = absurd (true≢false (sym p))
same_node (Both e o) Empty p = absurd (true≢false (sym p))
same_node (Both e o) (One k) p = absurd (true≢false (sym p))

more_below : (j k : ℕ) → j ≤ k → (n : SetNode) → IsBelow j n → IsBelow k n
more_below j k le Empty h = tt
more_below j k le (One n) h = tt
more_below j k le (Both e o) h = (omega (arith, le, h.0), omega (arith, le, h.1))

tree_stays : (ts us : List Tree) → Extends ts us → (n : SetNode) → IsBelow (length ts) n → tree_of us n ≡ tree_of ts n
tree_stays ts us x Empty h = refl
tree_stays ts us x (One k) h = refl
tree_stays ts us x (Both e o) h =
    let first = get_or-Extends ts us x e trees.Empty h.0 in
    let second = get_or-Extends ts us x o trees.Empty h.1 in
    λ i. trees.Both (first i) (second i)

same_tree : (ts : List Tree) → IsInjective ts → (m n : SetNode) → IsBelow (length ts) m → IsBelow (length ts) n
    → tree_of ts m ≡ tree_of ts n → node_eq m n ≡ true
same_tree ts one Empty Empty a b p = refl
same_tree ts one (One j) (One k) a b p = let e : j ≡ k = cc in eq-eqb j k e
same_tree ts one (Both e o) (Both f q) a b p =
    let first : tree_at ts e ≡ tree_at ts f = cc in
    let second : tree_at ts o ≡ tree_at ts q = cc in
    both_true (eq-eqb e f (get_or-IsInjective ts one e f trees.Empty a.0 b.0 first))
    (eq-eqb o q (get_or-IsInjective ts one o q trees.Empty a.1 b.1 second))
same_tree ts one Empty (One k) a b p = cc
same_tree ts one Empty (Both f q) a b p = cc
same_tree ts one (One j) Empty a b p = cc
same_tree ts one (One j) (Both f q) a b p = cc
same_tree ts one (Both e o) Empty a b p = cc
same_tree ts one (Both e o) (One k) a b p = cc

pub laws : NodeLaws tree_of IsBelow (λ ts n b. Describes (tree_of ts n) b) node_eq
laws = record {
  more_below = more_below;
  tree_stays = tree_stays;
  fits_stays = λ ts us e n b below h. tt;
  tree_same = λ ts m n p. ap (tree_of ts) (same_node m n p);
  same_tree = λ ts one m n d e below above fits also same. same_tree ts one m n below above same;
}
