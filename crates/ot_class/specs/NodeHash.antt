-- What the hash of a shape's node is made of, and of a pair of lists.
use Rattle.std.proofs.Common.{◌≡◌, ◌+◌, ◌*◌, true, ◌&&◌, ◌++◌, refl, ap, sym, eqb-true, nat_eq, true≢false}
use Rattle.std.proofs.lemmas.Bool.{and_parts}
use Rattle.std.specs.Hash as fed
use Rattle.std.specs.Hash.{HashWrites}
use Rattle.ot_class.specs.declared.node.Pair.{Pair}
use Rattle.ot_class.specs.declared.node.ShapeNode.{ShapeNode}
use Rattle.ot_class.specs.declared.node.ShapeNode.TheVariants.{Var, Const, App, Abs, Unused}
use Rattle.ot_class.specs.contracts.node.PairPartialEq.TheImpl as pairs
use Rattle.ot_class.specs.contracts.node.ShapeNodePartialEq.TheImpl as derived

-- the two numbers are one
abbrev pub pair_writes : Pair → HashWrites
pair_writes p = fed.u64 (p.f + p.x * 4294967296)

-- the two shapes of an application are one
abbrev pub node_writes : ShapeNode → HashWrites
node_writes Var = fed.u8 0
node_writes (Const n t) = fed.u8 1 ++ (fed.u32 n ++ fed.u32 t)
node_writes (App f x m) = fed.u64 (f + x * 4294967296) ++ fed.u32 m
node_writes (Abs t k b) = fed.u8 2 ++ (fed.u32 t ++ (fed.u32 k ++ fed.u32 b))
node_writes (Unused t b) = fed.u8 3 ++ (fed.u32 t ++ fed.u32 b)

pub pair_writes-alike : (p q : Pair) → pairs.ghosts.eq p q ≡ true → pair_writes p ≡ pair_writes q
pair_writes-alike p q same =
    let parts = and_parts (nat_eq p.f q.f) (nat_eq p.x q.x) same in
    let left = eqb-true p.f q.f parts.0 in
    let right = eqb-true p.x q.x parts.1 in
    λ i. fed.u64 (left i + right i * 4294967296)

-- nodes that pass the derived test are one
same_node : (m n : ShapeNode) → derived.ghosts.eq m n ≡ true → m ≡ n
same_node Var Var p = refl
same_node (Const n t) (Const o u) p =
    let parts = and_parts (nat_eq n o) (nat_eq t u) p in
    let first = eqb-true n o parts.0 in
    let second = eqb-true t u parts.1 in
    λ i. Const (first i) (second i)
same_node (App f x m) (App g y l) p =
    let parts = and_parts (nat_eq f g) (nat_eq x y && nat_eq m l) p in
    let ends = and_parts (nat_eq x y) (nat_eq m l) parts.1 in
    let first = eqb-true f g parts.0 in
    let second = eqb-true x y ends.0 in
    let third = eqb-true m l ends.1 in
    λ i. App (first i) (second i) (third i)
same_node (Abs t k b) (Abs u j c) p =
    let parts = and_parts (nat_eq t u) (nat_eq k j && nat_eq b c) p in
    let ends = and_parts (nat_eq k j) (nat_eq b c) parts.1 in
    let first = eqb-true t u parts.0 in
    let second = eqb-true k j ends.0 in
    let third = eqb-true b c ends.1 in
    λ i. Abs (first i) (second i) (third i)
same_node (Unused t b) (Unused u c) p =
    let parts = and_parts (nat_eq t u) (nat_eq b c) p in
    let first = eqb-true t u parts.0 in
    let second = eqb-true b c parts.1 in
    λ i. Unused (first i) (second i)
same_node Var (Const o u) p = absurd (true≢false (sym p))
same_node Var (App g y l) p = absurd (true≢false (sym p))
same_node Var (Abs u j c) p = absurd (true≢false (sym p))
same_node Var (Unused u c) p = absurd (true≢false (sym p))
same_node (Const n t) Var p = absurd (true≢false (sym p))
same_node (Const n t) (App g y l) p = absurd (true≢false (sym p))
same_node (Const n t) (Abs u j c) p = absurd (true≢false (sym p))
same_node (Const n t) (Unused u c) p = absurd (true≢false (sym p))
same_node (App f x m) Var p = absurd (true≢false (sym p))
same_node (App f x m) (Const o u) p = absurd (true≢false (sym p))
same_node (App f x m) (Abs u j c) p = absurd (true≢false (sym p))
same_node (App f x m) (Unused u c) p = absurd (true≢false (sym p))
same_node (Abs t k b) Var p = absurd (true≢false (sym p))
same_node (Abs t k b) (Const o u) p = absurd (true≢false (sym p))
same_node (Abs t k b) (App g y l) p = absurd (true≢false (sym p))
same_node (Abs t k b) (Unused u c) p = absurd (true≢false (sym p))
same_node (Unused t b) Var p = absurd (true≢false (sym p))
same_node (Unused t b) (Const o u) p = absurd (true≢false (sym p))
same_node (Unused t b) (App g y l) p = absurd (true≢false (sym p))
same_node (Unused t b) (Abs u j c) p = absurd (true≢false (sym p))

pub node_writes-alike : (m n : ShapeNode) → derived.ghosts.eq m n ≡ true → node_writes m ≡ node_writes n
node_writes-alike m n p = ap node_writes (same_node m n p)
