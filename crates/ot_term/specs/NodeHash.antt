-- What the hash of a term's node is made of.
use Rattle.std.proofs.Common.{◌≡◌, ◌+◌, ◌*◌, true, ◌&&◌, ◌++◌, ap, sym, eqb-true, nat_eq, true≢false}
use Rattle.std.proofs.lemmas.Bool.{and_parts}
use Rattle.std.specs.Hash as fed
use Rattle.std.specs.Hash.{HashWrites}
use Rattle.ot_term.specs.declared.term.VarKey.{VarKey}
use Rattle.ot_term.specs.declared.term.TermNode.{TermNode}
use Rattle.ot_term.specs.declared.term.TermNode.TheVariants.{Var, Const, App, Abs}
use Rattle.ot_term.specs.contracts.term.TermNodePartialEq.TheImpl as derived

-- the two numbers of an application are one, and no writes of two kinds of node agree
abbrev pub node_writes : TermNode → HashWrites
node_writes (Var v) = fed.u8 0 ++ (fed.u32 v.name ++ fed.u32 v.ty)
node_writes (Const n t) = fed.u8 1 ++ (fed.u32 n ++ fed.u32 t)
node_writes (App f x) = fed.u64 (f + x * 4294967296)
node_writes (Abs v b) = (fed.u32 v.name ++ fed.u32 v.ty) ++ fed.u32 b

same_key : (v w : VarKey) → (nat_eq v.name w.name && nat_eq v.ty w.ty) ≡ true → v ≡ w
same_key v w p =
    let parts = and_parts (nat_eq v.name w.name) (nat_eq v.ty w.ty) p in
    let name = eqb-true v.name w.name parts.0 in
    let ty = eqb-true v.ty w.ty parts.1 in
    λ j. record { name = name j; ty = ty j }

-- nodes that pass the derived test are one
pub same_node : (m n : TermNode) → derived.ghosts.eq m n ≡ true → m ≡ n
same_node (Var v) (Var w) p = ap Var (same_key v w p)
same_node (Const n t) (Const m u) p =
    let parts = and_parts (nat_eq n m) (nat_eq t u) p in
    let name = eqb-true n m parts.0 in
    let ty = eqb-true t u parts.1 in
    λ j. Const (name j) (ty j)
same_node (App f x) (App g y) p =
    let parts = and_parts (nat_eq f g) (nat_eq x y) p in
    let left = eqb-true f g parts.0 in
    let right = eqb-true x y parts.1 in
    λ j. App (left j) (right j)
same_node (Abs v b) (Abs w c) p =
    let parts = and_parts (nat_eq v.name w.name && nat_eq v.ty w.ty) (nat_eq b c) p in
    let body = eqb-true b c parts.1 in
    λ j. Abs (same_key v w parts.0 j) (body j)
same_node (Var v) (Const m u) p = absurd (true≢false (sym p))
same_node (Var v) (App g y) p = absurd (true≢false (sym p))
same_node (Var v) (Abs w c) p = absurd (true≢false (sym p))
same_node (Const n t) (Var w) p = absurd (true≢false (sym p))
same_node (Const n t) (App g y) p = absurd (true≢false (sym p))
same_node (Const n t) (Abs w c) p = absurd (true≢false (sym p))
same_node (App f x) (Var w) p = absurd (true≢false (sym p))
same_node (App f x) (Const m u) p = absurd (true≢false (sym p))
same_node (App f x) (Abs w c) p = absurd (true≢false (sym p))
same_node (Abs v b) (Var w) p = absurd (true≢false (sym p))
same_node (Abs v b) (Const m u) p = absurd (true≢false (sym p))
same_node (Abs v b) (App g y) p = absurd (true≢false (sym p))

pub node_writes-alike : (m n : TermNode) → derived.ghosts.eq m n ≡ true → node_writes m ≡ node_writes n
node_writes-alike m n p = ap node_writes (same_node m n p)
