-- What stays when the tables of classes grow, and what a new node leaves.
use Rattle.std.specs.Map.{lookup}
use Rattle.std.proofs.Common.{◌≡◌, ℕ, suc, ◌<◌, Bool, true, false, ◌&&◌, cond, nat_eq, eqb-true, List, [], ◌∷◌, ◌++◌, map}
use Rattle.std.proofs.Common.{length, slice_get, Option, Some, refl, sym, ap, subst, ◌∙◌, arith}
use Rattle.std.proofs.lemmas.Bool.{and_parts}
use Rattle.std.proofs.lemmas.Option.{same_Some, get_or_from_slice_get, slice_get_within}
use Rattle.indexmap.specs.IndexMap.{IndexMap, insert_entry, insert_index}
use Rattle.ot_logic.specs.Trees.{Variable}
use Rattle.ot_logic.specs.NamedTerms.{place}
use Rattle.ot_logic.specs.Naming.{numbers}
use Rattle.ot_logic.specs.Table.{Extends, IsInjective}
use Rattle.ot_logic.specs.Interned.{grow, IsSound}
use Rattle.ot_logic.proofs.TableLemmas.{Extends-refl, get_or-Extends, get_or-IsInjective}
use Rattle.ot_type.proofs.Entering.{Entered, entered}
use Rattle.ot_shape.specs.Shape.{Shape, Hole, Apply, Class, joined}
use Rattle.ot_lists.specs.Variables.{list_at}
use Rattle.ot_lists.specs.Maps.{map_at}
use Rattle.ot_lists.specs.declared.joining.Joined.{Joined}
use Rattle.ot_class.specs.Numbers.{class_number, shape_number, list_number, number-parts}
use Rattle.ot_class.specs.Class.{ClassTable, shape_at, class_at, IsNumber, IsNumberOf, Grows, AreOnce}
use Rattle.ot_class.specs.Joins.{same_pair, IsJoin, AreJoins}
use Rattle.ot_class.specs.Table.{shape_of, shapes_of, AreBelow, Describes, IsBeside, IsClassSound}
use Rattle.ot_class.specs.declared.node.Pair.{Pair}
use Rattle.ot_class.specs.declared.node.ShapeNode.{ShapeNode}
use Rattle.ot_class.specs.declared.node.ShapeNode.TheVariants.{Var, Const, App, Abs, Unused}
use Rattle.ot_class.proofs.ShapeLemmas.{node_eq, laws}

-- ---- the maps grow, and the shapes stay
module _ (ms ns : List (List (Option ℕ))) (e : Extends ms ns) where
  shape_of-maps : (ss : List (Shape ℕ)) (k : ℕ) (n : ShapeNode) → AreBelow (length ms) k n
      → shape_of ns ss n ≡ shape_of ms ss n
  shape_of-maps ss k Var h = refl
  shape_of-maps ss k (Const c t) h = refl
  shape_of-maps ss k (App f x m) h = ap (Apply (shape_at ss f) (shape_at ss x)) (get_or-Extends ms ns e m [] h.2)
  shape_of-maps ss k (Abs t i b) h = refl
  shape_of-maps ss k (Unused t b) h = refl

  below-maps : (k : ℕ) (n : ShapeNode) → AreBelow (length ms) k n → AreBelow (length ns) k n
  below-maps k Var h = tt
  below-maps k (Const c t) h = tt
  below-maps k (App f x m) h = (h.0, h.1, omega (arith, h.2, e.longer))
  below-maps k (Abs t i b) h = h
  below-maps k (Unused t b) h = h

  grow-maps : (es : List (ShapeNode × Unit {0}))
      → ((i : ℕ) (n : ShapeNode) (b : Unit {0}) → slice_get es i ≡ Some (n, b) → (k : ℕ) × AreBelow (length ms) k n)
      → (ss : List (Shape ℕ)) → grow (shape_of ns) ss es ≡ grow (shape_of ms) ss es
  grow-maps [] below ss = refl
  grow-maps (d ∷ es) below ss =
      let h = below 0 d.0 d.1 refl in
      ap (λ t. grow (shape_of ns) (ss ++ t ∷ []) es) (shape_of-maps ss h.0 d.0 h.1)
      ∙ grow-maps es (λ i n b p. below (suc i) n b p) (ss ++ shape_of ms ss d.0 ∷ [])

  shapes_of-maps : (es : List (ShapeNode × Unit {0}))
      → IsSound (shape_of ms) (AreBelow (length ms)) IsBeside es (shapes_of ms es) → shapes_of ns es ≡ shapes_of ms es
  shapes_of-maps es sound = grow-maps es (λ i n b p. (i, (sound.entries i n b p).below)) []

  sound-maps : (es : List (ShapeNode × Unit {0}))
      → IsSound (shape_of ms) (AreBelow (length ms)) IsBeside es (shapes_of ms es)
      → IsSound (shape_of ns) (AreBelow (length ns)) IsBeside es (shapes_of ns es)
  sound-maps es sound =
      let same = sym (shapes_of-maps es sound) in
      subst (IsSound (shape_of ns) (AreBelow (length ns)) IsBeside es) same (record {
        same_length = sound.same_length;
        entries = λ i n b p.
            let d = sound.entries i n b p in
            record {
              tree = d.tree ∙ ap Some (sym (shape_of-maps (shapes_of ms es) i n d.below));
              below = below-maps i n d.below;
              fits = tt;
            };
        injective = sound.injective;
      })

-- ---- what is remembered of joined lists
joins-grown : (ls ks : List (List (Variable ℕ))) (ms ns : List (List (Option ℕ))) (js : List (Pair × Joined))
    → Extends ls ks → Extends ms ns → AreJoins ls ms js → AreJoins ks ns js
joins-grown ls ks ms ns js l m h = record {
  known = λ p j found.
      let (f, x, is) = h.known p j found in
      let left = sym (get_or-Extends ls ks l p.f [] f) in
      let right = sym (get_or-Extends ls ks l p.x [] x) in (
        omega (arith, f, l.longer),
        omega (arith, x, l.longer),
        record {
          list = l.keeps j.list _ is.list ∙ (λ i. Some (joined numbers (left i) (right i)));
          map_is = m.keeps j.map _ is.map_is ∙ (λ i. Some (map (place numbers (left i)) (right i)));
        },
      );
}

pub joins-insert : (ls : List (List (Variable ℕ))) (ms : List (List (Option ℕ))) (old new : List (Pair × Joined))
    (p : Pair) (j : Joined) → AreJoins ls ms old → p.f < length ls → p.x < length ls → IsJoin ls ms p.f p.x j
    → ((q : Pair) → lookup (same_pair q) new ≡ cond (same_pair p q) (Some j) (lookup (same_pair q) old))
    → AreJoins ls ms new
joins-insert ls ms old new p j h f x is after =
    record { known = λ q k found. by q k (same_pair p q) refl (sym (after q) ∙ found) }
  where
    by : (q : Pair) (k : Joined) (b : Bool) → same_pair p q ≡ b
        → cond (same_pair p q) (Some j) (lookup (same_pair q) old) ≡ Some k
        → (q.f < length ls) × (q.x < length ls) × IsJoin ls ms q.f q.x k
    by q k true e found =
        let parts = and_parts (nat_eq p.f q.f) (nat_eq p.x q.x) e in
        let left : p.f ≡ q.f = eqb-true p.f q.f parts.0 in
        let right : p.x ≡ q.x = eqb-true p.x q.x parts.1 in
        let value : j ≡ k = same_Some j k (sym (ap (λ b. cond b (Some j) (lookup (same_pair q) old)) e) ∙ found) in (
          subst (λ n. n < length ls) left f,
          subst (λ n. n < length ls) right x,
          subst (λ v. IsJoin ls ms q.f q.x v) value
              (subst (λ n. IsJoin ls ms q.f n j) right (subst (λ n. IsJoin ls ms n p.x j) left is)),
        )
    by q k false e found = h.known q k (sym (ap (λ b. cond b (Some j) (lookup (same_pair q) old)) e) ∙ found)

-- ---- the whole
abbrev pub table_of : List (List (Variable ℕ)) → List (List (Option ℕ)) → List (ShapeNode × Unit {0}) → ClassTable
table_of ls ms es = record { shapes = shapes_of ms es; lists = ls; maps = ms }

-- the fields after a call that leaves the shapes
pub record Stays (t : ClassTable) (ls : List (List (Variable ℕ))) (ms : List (List (Option ℕ)))
    (js : List (Pair × Joined)) (es : List (ShapeNode × Unit {0})) : Type 0 where
  pub sound : IsClassSound ls ms js es
  pub shapes : shapes_of ms es ≡ t.shapes
  pub grows : Grows t (table_of ls ms es)
  pub once : AreOnce (table_of ls ms es)

module _ (ls : List (List (Variable ℕ))) (ms : List (List (Option ℕ))) (js : List (Pair × Joined))
    (es : List (ShapeNode × Unit {0})) (sound : IsClassSound ls ms js es) (t : ClassTable)
    (view : table_of ls ms es ≡ t) where
  pub stays : (ks : List (List (Variable ℕ))) (ns : List (List (Option ℕ))) (is : List (Pair × Joined))
      → Extends ls ks → Extends ms ns → IsInjective ks → IsInjective ns → AreJoins ks ns is → Stays t ks ns is es
  stays ks ns is l m lists maps joins =
      let shapes = shapes_of-maps ms ns m es sound.nodes in
      subst (λ t. Stays t ks ns is es) view (record {
        sound = record {
          nodes = sound-maps ms ns m es sound.nodes;
          joins = joins;
          lists = lists;
          maps = maps;
        };
        shapes = shapes;
        grows = record {
          shapes = subst (Extends (shapes_of ms es)) (sym shapes) (Extends-refl (shapes_of ms es));
          lists = l;
          maps = m;
        };
        once = record {
          shapes = (sound-maps ms ns m es sound.nodes).injective;
          lists = lists;
          maps = maps;
        };
      })

  -- the lists and the maps grew, and nothing new is remembered
  pub stays-grown : (ks : List (List (Variable ℕ))) (ns : List (List (Option ℕ))) → Extends ls ks → Extends ms ns
      → IsInjective ks → IsInjective ns → Stays t ks ns js es
  stays-grown ks ns l m lists maps = stays ks ns js l m lists maps (joins-grown ls ks ms ns js l m sound.joins)

  -- the same, where no more could be remembered
  pub stays-forgotten : (ks : List (List (Variable ℕ))) (ns : List (List (Option ℕ))) → Extends ls ks → Extends ms ns
      → IsInjective ks → IsInjective ns → (new : List (Pair × Joined)) → new ≡ js → Stays t ks ns new es
  stays-forgotten ks ns l m lists maps new e =
      subst (λ (is : List (Pair × Joined)). Stays t ks ns is es) (sym e) (stays-grown ks ns l m lists maps)

  -- the lists alone
  pub stays-lists : (ks : List (List (Variable ℕ))) → Extends ls ks → IsInjective ks → Stays t ks ms js es
  stays-lists ks l lists = stays-grown ks ms l (Extends-refl ms) lists sound.maps

  -- one more is remembered
  pub stays-joined : (ks : List (List (Variable ℕ))) (ns : List (List (Option ℕ))) → Extends ls ks → Extends ms ns
      → IsInjective ks → IsInjective ns → (new : List (Pair × Joined)) (p : Pair) (j : Joined)
      → p.f < length ks → p.x < length ks → IsJoin ks ns p.f p.x j
      → ((q : Pair) → lookup (same_pair q) new ≡ cond (same_pair p q) (Some j) (lookup (same_pair q) js))
      → Stays t ks ns new es
  stays-joined ks ns l m lists maps new p j f x is after =
      stays ks ns new l m lists maps
      (joins-insert ks ns js new p j (joins-grown ls ks ms ns js l m sound.joins) f x is after)

-- the fields after a node was put in
pub record Put (t : ClassTable) (ls : List (List (Variable ℕ))) (ms : List (List (Option ℕ)))
    (js : List (Pair × Joined)) (n : ShapeNode) (new : List (ShapeNode × Unit {0})) (index : ℕ) : Type 0 where
  pub sound : IsClassSound ls ms js new
  pub found : slice_get (shapes_of ms new) index ≡ Some (shape_of t.maps t.shapes n)
  pub lists : ls ≡ t.lists
  pub grows : Grows t (table_of ls ms new)
  pub once : AreOnce (table_of ls ms new)

pub put : {S : Type 0} (ls : List (List (Variable ℕ))) (ms : List (List (Option ℕ))) (js : List (Pair × Joined))
    (m : IndexMap ShapeNode (Unit {0}) S) → IsClassSound ls ms js m.entries → (t : ClassTable)
    → table_of ls ms m.entries ≡ t
    → (n : ShapeNode) → AreBelow (length t.maps) (length t.shapes) n → (new : List (ShapeNode × Unit {0}))
    → new ≡ insert_entry node_eq m.entries n tt → (index : ℕ) → index ≡ insert_index node_eq m n
    → Put t ls ms js n new index
put ls ms js m sound t view n below new inserted index at =
    subst (λ (t : ClassTable). AreBelow (length t.maps) (length t.shapes) n → Put t ls ms js n new index) view here
    below
  where
    here : AreBelow (length ms) (length (shapes_of ms m.entries)) n
        → Put (table_of ls ms m.entries) ls ms js n new index
    here below =
        let e = entered (shape_of ms) (AreBelow (length ms)) Describes node_eq (laws ms sound.maps) m
        (shapes_of ms m.entries) refl sound.nodes n tt below tt new inserted index at in
        record {
          sound = record { nodes = e.sound; joins = sound.joins; lists = sound.lists; maps = sound.maps };
          found = e.found;
          lists = refl;
          grows = record { shapes = e.extends; lists = Extends-refl ls; maps = Extends-refl ms };
          once = record { shapes = e.sound.injective; lists = sound.lists; maps = sound.maps };
        }

-- ---- classes by number
pub number-of : (t : ClassTable) (k : Class ℕ) (c : ℕ) → IsNumberOf t k c → IsNumber t c
number-of t k c h = record {
  shape = slice_get_within t.shapes (shape_number c) _ h.shape;
  list = slice_get_within t.lists (list_number c) _ h.list;
}

pub class-of : (t : ClassTable) (k : Class ℕ) (c : ℕ) → IsNumberOf t k c → class_at t c ≡ k
class-of t k c h =
    let shape = get_or_from_slice_get t.shapes (shape_number c) k.shape _ h.shape in
    let list = get_or_from_slice_get t.lists (list_number c) k.frees _ h.list in
    λ i. record { shape = shape i; frees = list i }

pub number-grown : (t u : ClassTable) → Grows t u → (c : ℕ) → IsNumber t c → IsNumber u c
number-grown t u g c h = record {
  shape = omega (arith, h.shape, g.shapes.longer);
  list = omega (arith, h.list, g.lists.longer);
}

pub class-grown : (t u : ClassTable) → Grows t u → (c : ℕ) → IsNumber t c → class_at u c ≡ class_at t c
class-grown t u g c h =
    let shape = get_or-Extends t.shapes u.shapes g.shapes (shape_number c) Hole h.shape in
    let list = get_or-Extends t.lists u.lists g.lists (list_number c) [] h.list in
    λ i. record { shape = shape i; frees = list i }

-- each class has one number
pub number-one : (t : ClassTable) → AreOnce t → (c d : ℕ) → IsNumber t c → IsNumber t d → class_at t c ≡ class_at t d
    → c ≡ d
number-one t once c d g h p =
    let shape : shape_number c ≡ shape_number d = get_or-IsInjective t.shapes once.shapes _ _ Hole g.shape h.shape
    (ap (λ (k : Class ℕ). k.shape) p) in
    let list : list_number c ≡ list_number d = get_or-IsInjective t.lists once.lists _ _ [] g.list h.list
    (ap (λ (k : Class ℕ). k.frees) p) in
    sym (number-parts c) ∙ (λ i. class_number (shape i) (list i)) ∙ number-parts d
