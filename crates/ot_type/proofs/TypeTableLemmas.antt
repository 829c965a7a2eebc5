-- Lemmas on the table of types.
use Rattle.std.proofs.Common.{◌≡◌, ℕ, ◌<◌, ◌≤◌, Bool, true, false, List, [], ◌∷◌}
use Rattle.std.proofs.Common.{length, slice_get, Some, nat_eq, eq-eqb, eqb-true, Option, None}
use Rattle.std.proofs.Common.{MatchOption, ◌≢◌, refl, sym, ap, subst, ◌∙◌, true≢false, arith}
use Rattle.std.specs.List.{All}
use Rattle.std.specs.Cmp.Lexicographic.{pointwise}
use Rattle.std.proofs.lemmas.Option.{get_or_from_slice_get, same_Some}
use Rattle.std.proofs.lemmas.List.Elements.{All-head, All-tail}
use Rattle.std.proofs.lemmas.Slice.Eq.{bytes_eq-Decides}
use Rattle.std.proofs.lemmas.Bool.{and_parts}
use Rattle.smallvec.specs.SmallVec.{SmallVec}
use Rattle.ot_logic.specs.Trees.{Ty, TyVar, TyOp, NoTys, MoreTys}
use Rattle.ot_logic.specs.Hol.{depth_ty, fun_ty, depth_limit}
use Rattle.ot_logic.specs.Naming.{numbers}
use Rattle.ot_logic.specs.Table.{Extends, IsInjective}
use Rattle.ot_logic.proofs.TableLemmas.{get_or-Extends, get_or-IsInjective}
use Rattle.ot_type.specs.TypeTable.{types_at, tree_of, type_at, ArgsBelow, Describes, IsBeside, IsTypeSound}
use Rattle.ot_logic.specs.Interned.{NodeLaws, IsSound}
use Rattle.ot_logic.proofs.InternedLemmas.{entry_at}
use Rattle.ot_type.specs.declared.table.NodeInfo.{NodeInfo}
use Rattle.ot_type.specs.declared.node.TypeNode.{TypeNode}
use Rattle.ot_type.specs.declared.node.TypeNode.TheVariants.{Var, Op}
use Rattle.ot_type.specs.contracts.node.TypeNodePartialEq.TheImpl as derived

-- the derived test
abbrev pub node_eq : TypeNode → TypeNode → Bool
node_eq = derived.ghosts.eq

-- nodes whose names and numbers are the same pass it
node_eq-var : (m n : ℕ) → m ≡ n → node_eq (Var m) (Var n) ≡ true
node_eq-var m n e = eq-eqb m n e

node_eq-op : (m n : ℕ) (xs ys : SmallVec ℕ) → m ≡ n → xs.items ≡ ys.items → node_eq (Op m xs) (Op n ys) ≡ true
node_eq-op m n xs ys e h =
    let name : nat_eq m n ≡ true = eq-eqb m n e in
    rw name ((bytes_eq-Decides xs.items ys.items).1 h)

-- ---- the trees of nodes in a table that grows
pub type_at-Extends : (ts us : List (Ty ℕ)) → Extends ts us → (i : ℕ) → i < length ts → type_at us i ≡ type_at ts i
type_at-Extends ts us e i h = get_or-Extends ts us e i (TyVar 0) h

pub types_at-Extends : (ts us : List (Ty ℕ)) → Extends ts us → (is : List ℕ) → All (λ i. i < length ts) is
    → types_at us is ≡ types_at ts is
types_at-Extends ts us e [] h = refl
types_at-Extends ts us e (i ∷ is) h =
    let head = type_at-Extends ts us e i (All-head (λ i. i < length ts) i is h) in
    let tail = types_at-Extends ts us e is (All-tail (λ i. i < length ts) i is h) in
    cc

pub tree_of-Extends : (ts us : List (Ty ℕ)) → Extends ts us → (n : TypeNode) → ArgsBelow (length ts) n
    → tree_of us n ≡ tree_of ts n
tree_of-Extends ts us e (Var n) h = refl
tree_of-Extends ts us e (Op n args) h = ap (TyOp n) (types_at-Extends ts us e args.items h)

pub ArgsBelow-mono : (j k : ℕ) → j ≤ k → (n : TypeNode) → ArgsBelow j n → ArgsBelow k n
ArgsBelow-mono j k le (Var n) h = tt
ArgsBelow-mono j k le (Op n args) h = λ i d within. let below = h i d within in omega arith

types_at-injective : (ts : List (Ty ℕ)) → IsInjective ts → (is js : List ℕ) → All (λ i. i < length ts) is
    → All (λ i. i < length ts) js → types_at ts is ≡ types_at ts js → is ≡ js
types_at-injective ts one [] [] g h p = refl
types_at-injective ts one [] (j ∷ js) g h p = cc
types_at-injective ts one (i ∷ is) [] g h p = cc
types_at-injective ts one (i ∷ is) (j ∷ js) g h p =
    let heads : type_at ts i ≡ type_at ts j = cc in
    let tails : types_at ts is ≡ types_at ts js = cc in
    let head : i ≡ j = get_or-IsInjective ts one i j (TyVar 0) (All-head (λ i. i < length ts) i is g)
    (All-head (λ i. i < length ts) j js h) heads in
    let tail = types_at-injective ts one is js (All-tail (λ i. i < length ts) i is g)
    (All-tail (λ i. i < length ts) j js h) tails in
    cc

-- nodes with one tree pass the test
pub tree_of-injective : (ts : List (Ty ℕ)) → IsInjective ts → (m n : TypeNode) → ArgsBelow (length ts) m
    → ArgsBelow (length ts) n → tree_of ts m ≡ tree_of ts n → node_eq m n ≡ true
tree_of-injective ts one (Var m) (Var n) g h p = let e : m ≡ n = cc in node_eq-var m n e
tree_of-injective ts one (Var m) (Op n ys) g h p = cc
tree_of-injective ts one (Op m xs) (Var n) g h p = cc
tree_of-injective ts one (Op m xs) (Op n ys) g h p =
    let name : m ≡ n = cc in
    let args : types_at ts xs.items ≡ types_at ts ys.items = cc in
    node_eq-op m n xs ys name (types_at-injective ts one xs.items ys.items g h args)

-- nodes that pass the test stand for one tree
tree_of-node_eq : (ts : List (Ty ℕ)) (m n : TypeNode) → node_eq m n ≡ true → tree_of ts m ≡ tree_of ts n
tree_of-node_eq ts (Var m) (Var n) p = ap TyVar (eqb-true m n p)
tree_of-node_eq ts (Var m) (Op n ys) p = absurd (true≢false (sym p))
tree_of-node_eq ts (Op m xs) (Var n) p = absurd (true≢false (sym p))
tree_of-node_eq ts (Op m xs) (Op n ys) p =
    let parts = and_parts (nat_eq m n) (pointwise nat_eq xs.items ys.items) p in
    λ j. TyOp (eqb-true m n parts.0 j) (types_at ts ((bytes_eq-Decides xs.items ys.items).0 parts.1 j))

-- a table of types meets the laws
pub laws : NodeLaws tree_of ArgsBelow IsBeside node_eq
laws = record {
  more_below = ArgsBelow-mono;
  tree_stays = tree_of-Extends;
  fits_stays = λ ts us e n b below h. subst (λ t. Describes t b) (sym (tree_of-Extends ts us e n below)) h;
  tree_same = tree_of-node_eq;
  same_tree = λ ts one m n d e below above fits also same. tree_of-injective ts one m n below above same;
}

-- the fields' facts, from those of the nodes
pub type_sound : (es : List (TypeNode × NodeInfo)) (ts : List (Ty ℕ)) → IsSound tree_of ArgsBelow IsBeside es ts
    → IsTypeSound es ts
type_sound es ts sound = record {
  nodes = sound;
  table = record {
    injective = sound.injective;
    shallow = λ i t p.
        let e = entry_at tree_of ArgsBelow IsBeside node_eq laws es ts sound i t p in
        let entry = sound.entries i e.0 e.1 e.2 in
        let same : t ≡ tree_of ts e.0 = same_Some _ _ (sym p ∙ entry.tree) in
        subst (λ t. depth_ty numbers t ≤ depth_limit) (sym same)
        (subst (λ k. k ≤ depth_limit) entry.fits.depth entry.fits.shallow);
  };
}

-- what stands beside a number is of the tree at it
pub described_at : (es : List (TypeNode × NodeInfo)) (ts : List (Ty ℕ)) → IsTypeSound es ts
    → (i : ℕ) (n : TypeNode) (b : NodeInfo) → slice_get es i ≡ Some (n, b) → Describes (type_at ts i) b
described_at es ts sound i n b p =
    let entry = sound.nodes.entries i n b p in
    subst (λ t. Describes t b) (sym (get_or_from_slice_get ts i _ (TyVar 0) entry.tree)) entry.fits

-- ---- the tree of a number, by its node
pub node_op : (ts : List (Ty ℕ)) (id : ℕ) (node : TypeNode) (n : ℕ) (a : SmallVec ℕ) (xs : List ℕ) → slice_get ts id
    ≡ Some (tree_of ts node) → node ≡ Op n a → xs ≡ a.items → type_at ts id ≡ TyOp n (types_at ts xs)
node_op ts id node n a xs tree is items =
    get_or_from_slice_get ts id _ (TyVar 0) tree ∙ ap (tree_of ts) is ∙ ap (λ l. TyOp n (types_at ts l)) (sym items)

pub node_var : (ts : List (Ty ℕ)) (id : ℕ) (node : TypeNode) (n : ℕ) → slice_get ts id ≡ Some (tree_of ts node)
    → node ≡ Var n → type_at ts id ≡ TyVar n
node_var ts id node n tree is = get_or_from_slice_get ts id _ (TyVar 0) tree ∙ ap (tree_of ts) is

-- ---- function types
two_args : (ts : List (Ty ℕ)) (xs : List ℕ) (a b : Ty ℕ) → types_at ts xs ≡ MoreTys a (MoreTys b NoTys)
    → (j : ℕ) × (k : ℕ) × (xs ≡ j ∷ k ∷ [])
two_args ts [] a b p = cc
two_args ts (j ∷ []) a b p = cc
two_args ts (j ∷ k ∷ []) a b p = (j, k, refl)
two_args ts (j ∷ k ∷ l ∷ xs) a b p = cc

pub fun_parts : (ts : List (Ty ℕ)) (i n : ℕ) (xs : List ℕ) (node : TypeNode) (args : SmallVec ℕ) → slice_get ts i
    ≡ Some (tree_of ts node) → node ≡ Op n args → args.items ≡ xs → ArgsBelow i node → (r : Option (ℕ × ℕ))
    → MatchOption r ((a b : ℕ) → n ≡ 0 → xs ≢ a ∷ b ∷ []) (λ p. (n ≡ 0) × (xs ≡ p.0 ∷ p.1 ∷ []))
    → MatchOption r ((a b : Ty ℕ) → type_at ts i ≢ fun_ty numbers a b)
    (λ p. (type_at ts i ≡ fun_ty numbers (type_at ts p.0) (type_at ts p.1)) × (p.0 < i) × (p.1 < i))
fun_parts ts i n xs node args tree is items below None m = λ a b e.
    let here : TyOp n (types_at ts xs) ≡ TyOp 0 (MoreTys a (MoreTys b NoTys)) =
    ap (λ l. TyOp n (types_at ts l)) (sym items) ∙ ap (tree_of ts) (sym is)
    ∙ sym (get_or_from_slice_get ts i (tree_of ts node) (TyVar 0) tree) ∙ e in
    let arrow : n ≡ 0 = cc in
    let parts : types_at ts xs ≡ MoreTys a (MoreTys b NoTys) = cc in
    let two = two_args ts xs a b parts in
    m two.0 two.1 arrow two.2
fun_parts ts i n xs node args tree is items below (Some p) m =
    let all : args.items ≡ p.0 ∷ p.1 ∷ [] = items ∙ m.1 in
    let each : All (λ k. k < i) (p.0 ∷ p.1 ∷ []) = subst (All (λ k. k < i)) all (subst (ArgsBelow i) is below) in (
      get_or_from_slice_get ts i (tree_of ts node) (TyVar 0) tree ∙ ap (tree_of ts) is
          ∙ (λ j. TyOp (m.0 j) (types_at ts (all j))),
      each 0 0 (omega arith),
      each 1 0 (omega arith),
    )
