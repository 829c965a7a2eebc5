-- Instances of the types of a table, one after another.
use Rattle.std.proofs.Common.{◌≡◌, ℕ, List, [], ◌∷◌, ◌++◌, None, Some, refl, sym, ap, subst, ◌∙◌}
use Rattle.std.specs.Map.{lookup}
use Rattle.std.proofs.lemmas.List.Elements.{All-push}
use Rattle.ot_logic.specs.Names.{Name}
use Rattle.ot_logic.specs.Naming.{names}
use Rattle.ot_logic.specs.Table.{Extends, IsInjective}
use Rattle.ot_logic.specs.Trees.{Ty, Tys, TyVar, TyOp, NoTys, MoreTys}
use Rattle.ot_logic.specs.Hol.{TypeMap, inst, inst_all, type_at as image_of}
use Rattle.std.proofs.Common.{nat_eq}
use Rattle.ot_log_nodes.specs.Items.{Item, TypeItem, HasName, HasType, IsType, name_at, type_at, types_at}
use Rattle.ot_log_nodes.specs.Changing.{type_map, HasTypes, HasInstances}
use Rattle.ot_log_nodes.specs.Table.{type_tree, HasTypeParts}
use Rattle.ot_log_nodes.specs.declared.node.TypeNode.{TypeNode}
use Rattle.ot_log_nodes.specs.declared.node.TypeNode.TheVariants as ty
use Rattle.ot_log_nodes.proofs.ItemLemmas.{type-is, has-type, types-stay, still-types}
use Rattle.ot_log_nodes.proofs.MapLemmas.{image-none, image-some}

-- ---- a variable
module _ (ts : List Item) (one : IsInjective ts) (id : ℕ) (node : TypeNode) (n : ℕ) (es : List (ℕ × ℕ))
    (is : node ≡ ty.Var n) (tree : type_at ts id ≡ type_tree ts node) (parts : HasTypeParts ts node)
    (here : HasType ts id) (pairs : HasTypes ts es) where
  root : type_at ts id ≡ TyVar (name_at ts n)
  root = tree ∙ ap (type_tree ts) is

  named : HasName ts n
  named = subst (HasTypeParts ts) is parts

  pub instance-found : (r : ℕ) → lookup (nat_eq n) es ≡ Some r
      → IsType ts r (inst names (type_map ts es) (type_at ts id))
  instance-found r p =
      let image = image-some ts one n r es named pairs p in
      image.0 ∙ ap (λ t. Some (TypeItem t)) (sym image.1 ∙ ap (inst names (type_map ts es)) (sym root))

  pub instance-kept : lookup (nat_eq n) es ≡ None → IsType ts id (inst names (type_map ts es) (type_at ts id))
  instance-kept p = here ∙ ap (λ t. Some (TypeItem t)) (root ∙ sym (image-none ts one n es named pairs p)
      ∙ ap (inst names (type_map ts es)) (sym root))

-- ---- one type more
one_more : Tys Name → Ty Name → Tys Name
one_more NoTys t = MoreTys t NoTys
one_more (MoreTys u us) t = MoreTys u (one_more us t)

types-push : (ts : List Item) (is : List ℕ) (i : ℕ) → types_at ts (is ++ i ∷ [])
    ≡ one_more (types_at ts is) (type_at ts i)
unfolding one_more
types-push ts [] i = refl
types-push ts (j ∷ is) i = ap (MoreTys (type_at ts j)) (types-push ts is i)

inst-push : (s : TypeMap names) (us : Tys Name) (t : Ty Name) → inst_all names (image_of names s) (one_more us t)
    ≡ one_more (inst_all names (image_of names s) us) (inst names s t)
unfolding one_more
inst-push s NoTys t = refl
inst-push s (MoreTys u us) t = ap (MoreTys (inst names s u)) (inst-push s us t)

pub instances-push : (ts us ws : List Item) (s : TypeMap names) (ids found : List ℕ) (i r : ℕ)
    → HasInstances ts us s ids found → Extends us ws → IsType ws r (inst names s (type_at ts i))
    → HasInstances ts ws s (ids ++ i ∷ []) (found ++ r ∷ [])
instances-push ts us ws s ids found i r h e is =
    let before : types_at ws found ≡ inst_all names (image_of names s) (types_at ts ids) =
    types-stay us ws e found h.each ∙ h.types in
    let last = type-is ws r _ is in
    record {
      types = types-push ws found r ∙ (λ j. one_more (before j) (last j))
          ∙ sym (inst-push s (types_at ts ids) (type_at ts i))
          ∙ ap (inst_all names (image_of names s)) (sym (types-push ts ids i));
      each = All-push (HasType ws) found r (still-types us ws e found h.each) (has-type ws r _ is);
    }

-- ---- an operator, by the instances of its arguments
pub instance-operator : (ts us : List Item) (s : TypeMap names) (id n : ℕ) (ids found : List ℕ) (m : Name)
    → type_at ts id ≡ TyOp (name_at ts n) (types_at ts ids) → HasInstances ts us s ids found → m ≡ name_at ts n
    → TyOp m (types_at us found) ≡ inst names s (type_at ts id)
instance-operator ts us s id n ids found m tree h is = (λ i. TyOp (is i) (h.types i)) ∙ ap (inst names s) (sym tree)
