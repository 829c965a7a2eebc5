-- Lemmas on the table of shapes.
use Rattle.std.specs.Prelude.{◌&&◌}
use Rattle.std.proofs.Common.{◌≡◌, ℕ, ◌<◌, ◌≤◌, Bool, true, false, nat_eq, eqb-true, eq-eqb, true≢false}
use Rattle.std.proofs.Common.{List, [], length, Option, Some, None, refl, sym, ap, subst, ◌∙◌, arith}
use Rattle.std.proofs.lemmas.Bool.{and_parts}
use Rattle.std.specs.Cmp.Derive.{both_true}
use Rattle.ot_logic.specs.Table.{Extends, IsInjective}
use Rattle.ot_logic.specs.Interned.{NodeLaws}
use Rattle.ot_logic.proofs.TableLemmas.{get_or-Extends, get_or-IsInjective}
use Rattle.ot_shape.specs.Shape.{Shape, Hole, Apply, Bind}
use Rattle.ot_lists.specs.Variables.{numbered}
use Rattle.ot_lists.specs.Maps.{map_at}
use Rattle.ot_class.specs.Class.{shape_at}
use Rattle.ot_class.specs.Table.{shape_of, AreBelow, IsBeside}
use Rattle.ot_class.specs.declared.node.ShapeNode.{ShapeNode}
use Rattle.ot_class.specs.declared.node.ShapeNode.TheVariants.{Var, Const, App, Abs, Unused}
use Rattle.ot_class.specs.contracts.node.ShapeNodePartialEq.TheImpl as derived

abbrev pub node_eq : ShapeNode → ShapeNode → Bool
node_eq = derived.ghosts.eq

same_node : (m n : ShapeNode) → node_eq m n ≡ true → m ≡ n
same_node Var Var p = refl
same_node (Const n t) (Const m u) p =
    let ps = and_parts (nat_eq n m) (nat_eq t u) p in
    λ i. Const (eqb-true n m ps.0 i) (eqb-true t u ps.1 i)
same_node (App f x m) (App g y n) p =
    let ps = and_parts (nat_eq f g) (nat_eq x y && nat_eq m n) p in
    let qs = and_parts (nat_eq x y) (nat_eq m n) ps.1 in
    λ i. App (eqb-true f g ps.0 i) (eqb-true x y qs.0 i) (eqb-true m n qs.1 i)
same_node (Abs t k b) (Abs u j c) p =
    let ps = and_parts (nat_eq t u) (nat_eq k j && nat_eq b c) p in
    let qs = and_parts (nat_eq k j) (nat_eq b c) ps.1 in
    λ i. Abs (eqb-true t u ps.0 i) (eqb-true k j qs.0 i) (eqb-true b c qs.1 i)
same_node (Unused t b) (Unused u c) p =
    let ps = and_parts (nat_eq t u) (nat_eq b c) p in
    λ i. Unused (eqb-true t u ps.0 i) (eqb-true b c ps.1 i)
same_node Var (Const m u) p = absurd (true≢false (sym p))
same_node Var (App g y n) p = absurd (true≢false (sym p))
same_node Var (Abs u j c) p = absurd (true≢false (sym p))
same_node Var (Unused u c) p = absurd (true≢false (sym p))
same_node (Const n t) Var p = absurd (true≢false (sym p))
same_node (Const n t) (App g y k) p = absurd (true≢false (sym p))
same_node (Const n t) (Abs u j c) p = absurd (true≢false (sym p))
same_node (Const n t) (Unused u c) p = absurd (true≢false (sym p))
same_node (App f x m) Var p = absurd (true≢false (sym p))
same_node (App f x m) (Const k u) p = absurd (true≢false (sym p))
same_node (App f x m) (Abs u j c) p = absurd (true≢false (sym p))
same_node (App f x m) (Unused u c) p = absurd (true≢false (sym p))
same_node (Abs t k b) Var p = absurd (true≢false (sym p))
same_node (Abs t k b) (Const m u) p = absurd (true≢false (sym p))
same_node (Abs t k b) (App g y n) p = absurd (true≢false (sym p))
same_node (Abs t k b) (Unused u c) p = absurd (true≢false (sym p))
same_node (Unused t b) Var p = absurd (true≢false (sym p))
same_node (Unused t b) (Const m u) p = absurd (true≢false (sym p))
same_node (Unused t b) (App g y n) p = absurd (true≢false (sym p))
same_node (Unused t b) (Abs u j c) p = absurd (true≢false (sym p))

module _ (ms : List (List (Option ℕ))) where
  more_below : (j k : ℕ) → j ≤ k → (n : ShapeNode) → AreBelow (length ms) j n → AreBelow (length ms) k n
  more_below j k le Var h = tt
  more_below j k le (Const n t) h = tt
  more_below j k le (App f x m) h = (omega (arith, h.0), omega (arith, h.1), h.2)
  more_below j k le (Abs t i b) h = omega arith
  more_below j k le (Unused t b) h = omega arith

  tree_stays : (ss us : List (Shape ℕ)) → Extends ss us → (n : ShapeNode) → AreBelow (length ms) (length ss) n
      → shape_of ms us n ≡ shape_of ms ss n
  tree_stays ss us e Var h = refl
  tree_stays ss us e (Const n t) h = refl
  tree_stays ss us e (App f x m) h =
      let left = get_or-Extends ss us e f Hole h.0 in
      let right = get_or-Extends ss us e x Hole h.1 in
      λ i. Apply (left i) (right i) (map_at ms m)
  tree_stays ss us e (Abs t k b) h = ap (Bind (numbered t) (Some k)) (get_or-Extends ss us e b Hole h)
  tree_stays ss us e (Unused t b) h = ap (Bind (numbered t) None) (get_or-Extends ss us e b Hole h)

  same_tree : IsInjective ms → (ss : List (Shape ℕ)) → IsInjective ss → (m n : ShapeNode)
      → AreBelow (length ms) (length ss) m → AreBelow (length ms) (length ss) n
      → shape_of ms ss m ≡ shape_of ms ss n → node_eq m n ≡ true
  same_tree maps ss one Var Var a b p = refl
  same_tree maps ss one (Const n t) (Const m u) a b p =
      let name : n ≡ m = cc in
      let ty : t ≡ u = cc in
      both_true (eq-eqb n m name) (eq-eqb t u ty)
  same_tree maps ss one (App f x m) (App g y n) a b p =
      let left : shape_at ss f ≡ shape_at ss g = cc in
      let right : shape_at ss x ≡ shape_at ss y = cc in
      let places : map_at ms m ≡ map_at ms n = cc in
      both_true (eq-eqb f g (get_or-IsInjective ss one f g Hole a.0 b.0 left))
      (both_true (eq-eqb x y (get_or-IsInjective ss one x y Hole a.1 b.1 right))
      (eq-eqb m n (get_or-IsInjective ms maps m n [] a.2 b.2 places)))
  same_tree maps ss one (Abs t k x) (Abs u j y) a b p =
      let ty : t ≡ u = cc in
      let hole : k ≡ j = cc in
      let body : shape_at ss x ≡ shape_at ss y = cc in
      both_true (eq-eqb t u ty)
      (both_true (eq-eqb k j hole) (eq-eqb x y (get_or-IsInjective ss one x y Hole a b body)))
  same_tree maps ss one (Unused t x) (Unused u y) a b p =
      let ty : t ≡ u = cc in
      let body : shape_at ss x ≡ shape_at ss y = cc in
      both_true (eq-eqb t u ty) (eq-eqb x y (get_or-IsInjective ss one x y Hole a b body))
  same_tree maps ss one Var (Const m u) a b p = cc
  same_tree maps ss one Var (App g y n) a b p = cc
  same_tree maps ss one Var (Abs u j c) a b p = cc
  same_tree maps ss one Var (Unused u c) a b p = cc
  same_tree maps ss one (Const n t) Var a b p = cc
  same_tree maps ss one (Const n t) (App g y k) a b p = cc
  same_tree maps ss one (Const n t) (Abs u j c) a b p = cc
  same_tree maps ss one (Const n t) (Unused u c) a b p = cc
  same_tree maps ss one (App f x m) Var a b p = cc
  same_tree maps ss one (App f x m) (Const k u) a b p = cc
  same_tree maps ss one (App f x m) (Abs u j c) a b p = cc
  same_tree maps ss one (App f x m) (Unused u c) a b p = cc
  same_tree maps ss one (Abs t k x) Var a b p = cc
  same_tree maps ss one (Abs t k x) (Const m u) a b p = cc
  same_tree maps ss one (Abs t k x) (App g y n) a b p = cc
  same_tree maps ss one (Abs t k x) (Unused u c) a b p =
      let holes : Some k ≡ None = cc in
      cc
  same_tree maps ss one (Unused t x) Var a b p = cc
  same_tree maps ss one (Unused t x) (Const m u) a b p = cc
  same_tree maps ss one (Unused t x) (App g y n) a b p = cc
  same_tree maps ss one (Unused t x) (Abs u j c) a b p =
      let holes : None ≡ Some j = cc in
      cc

  pub laws : IsInjective ms → NodeLaws (shape_of ms) (AreBelow (length ms)) IsBeside node_eq
  laws maps = record {
    more_below = more_below;
    tree_stays = tree_stays;
    fits_stays = λ ss us e n b below h. tt;
    tree_same = λ ss m n p. ap (shape_of ms ss) (same_node m n p);
    same_tree = λ ss one m n d e below above fits also same. same_tree maps ss one m n below above same;
  }
