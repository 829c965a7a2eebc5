-- What the hash of a type's node is made of.
use Rattle.std.proofs.Common.{◌≡◌, ◌+◌, ◌*◌, ℕ, true, List, [], ◌∷◌, ◌++◌, ap, sym, nat_eq, eqb-true, true≢false}
use Rattle.std.specs.Hash as fed
use Rattle.std.specs.Hash.{HashWrites}
use Rattle.std.specs.Cmp.{first_so, second_so}
use Rattle.std.specs.Cmp.Lexicographic.{pointwise}
use Rattle.std.proofs.lemmas.Slice.Eq.{bytes_eq-Decides}
use Rattle.ot_type.specs.declared.node.TypeNode.{TypeNode}
use Rattle.ot_type.specs.declared.node.TypeNode.TheVariants.{Var, Op}
use Rattle.ot_type.specs.contracts.node.TypeNodePartialEq.TheImpl as derived

-- two arguments are one number, others a list
abbrev pub args_writes : List ℕ → HashWrites
args_writes (a ∷ b ∷ []) = fed.u64 (a + b * 4294967296)
args_writes is = fed.slice fed.u32 is

abbrev pub node_writes : TypeNode → HashWrites
node_writes (Var n) = fed.u8 0 ++ fed.u32 n
node_writes (Op n args) = fed.u32 n ++ args_writes args.items

-- nodes that pass the derived test are hashed alike
pub node_writes-alike : (x y : TypeNode) → derived.ghosts.eq x y ≡ true → node_writes x ≡ node_writes y
node_writes-alike (Var m) (Var n) h = ap (λ k. node_writes (Var k)) (eqb-true m n h)
node_writes-alike (Var m) (Op n ys) h = absurd (true≢false (sym h))
node_writes-alike (Op m xs) (Var n) h = absurd (true≢false (sym h))
node_writes-alike (Op m xs) (Op n ys) h =
    let name = eqb-true m n (first_so (nat_eq m n) (pointwise nat_eq xs.items ys.items) h) in
    let args = (bytes_eq-Decides xs.items ys.items).0
    (second_so (nat_eq m n) (pointwise nat_eq xs.items ys.items) h) in
    λ i. fed.u32 (name i) ++ args_writes (args i)
