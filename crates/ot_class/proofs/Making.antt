-- How classes are made from those of their parts, by number.
use Rattle.std.specs.Option.{is_none}
use Rattle.std.proofs.Common.{◌≡◌, ℕ, ◌<◌, List, [], ◌∷◌, map, length, slice_get, Option, Some, None, refl, sym, ap, subst}
use Rattle.std.proofs.Common.{◌∙◌}
use Rattle.std.proofs.lemmas.Option.{get_or_from_slice_get, slice_get-get_or, slice_get_within}
use Rattle.ot_logic.specs.Lists.{IsMember}
use Rattle.ot_logic.specs.Trees.{Variable}
use Rattle.ot_logic.specs.NamedTerms.{place}
use Rattle.ot_logic.specs.Naming.{numbers}
use Rattle.ot_logic.specs.Table.{Extends}
use Rattle.ot_logic.proofs.TableLemmas.{Extends-trans}
use Rattle.ot_laws.proofs.Tests.{tells_numbers}
use Rattle.ot_shape.specs.Shape.{Shape, Hole, Apply, Bind, Class, joined, without, app_class, abs_class}
use Rattle.ot_shape.proofs.Frees.{place-none, without-absent}
use Rattle.ot_lists.specs.Variables.{variable_of, list_at}
use Rattle.ot_lists.specs.Maps.{map_at}
use Rattle.ot_lists.specs.declared.list.Key.{Key}
use Rattle.ot_class.specs.Numbers.{shape_number, list_number}
use Rattle.ot_class.specs.Class.{ClassTable, shape_at, class_at, IsNumber, IsNumberOf, Grows}
use Rattle.ot_class.specs.Table.{shape_of, AreBelow}
use Rattle.ot_class.specs.declared.node.ShapeNode.TheVariants.{App, Abs, Unused}

pub grows-trans : {t u w : ClassTable} → Grows t u → Grows u w → Grows t w
grows-trans g h = record {
  shapes = Extends-trans g.shapes h.shapes;
  lists = Extends-trans g.lists h.lists;
  maps = Extends-trans g.maps h.maps;
}

-- the number of a shape and a list
pub make-number : (t : ClassTable) (k : Class ℕ) (c shape list : ℕ) → shape_number c ≡ shape → list_number c ≡ list
    → slice_get t.shapes shape ≡ Some k.shape → slice_get t.lists list ≡ Some k.frees → IsNumberOf t k c
make-number t k c shape list s l at is = record {
  shape = ap (slice_get t.shapes) s ∙ at;
  list = ap (slice_get t.lists) l ∙ is;
}

-- an application: the lists were joined, and then the node was put in
module _ (old one new : ClassTable) (f x m list shape c : ℕ) where
  pub app-below : IsNumber old f → IsNumber old x → one.shapes ≡ old.shapes → (places : List (Option ℕ))
      → slice_get one.maps m ≡ Some places
      → AreBelow (length one.maps) (length one.shapes) (App (shape_number f) (shape_number x) m)
  app-below g h same places at = (
    subst (λ ss. shape_number f < length ss) (sym same) g.shape,
    subst (λ ss. shape_number x < length ss) (sym same) h.shape,
    slice_get_within one.maps m places at,
  )

  pub app-number : one.shapes ≡ old.shapes
      → slice_get one.maps m ≡ Some (map (place numbers (list_at old.lists (list_number f)))
      (list_at old.lists (list_number x)))
      → slice_get one.lists list ≡ Some (joined numbers (list_at old.lists (list_number f))
      (list_at old.lists (list_number x)))
      → slice_get new.shapes shape ≡ Some (shape_of one.maps one.shapes (App (shape_number f) (shape_number x) m))
      → Grows one new → shape_number c ≡ shape → list_number c ≡ list
      → IsNumberOf new (app_class numbers (class_at old f) (class_at old x)) c
  app-number same places lists put grown s l =
      let at : map_at one.maps m ≡ map (place numbers (list_at old.lists (list_number f)))
      (list_at old.lists (list_number x)) = get_or_from_slice_get one.maps m _ [] places in
      make-number new (app_class numbers (class_at old f) (class_at old x)) c shape list s l
      (put ∙ (λ i. Some (Apply (shape_at (same i) (shape_number f)) (shape_at (same i) (shape_number x)) (at i))))
      (grown.lists.keeps list _ lists)

-- an abstraction: the node was put in, and then the variable left the list
module _ (old one new : ClassTable) (v : Key) (b hole list shape c : ℕ) where
  pub abs-number : place numbers (list_at old.lists (list_number b)) (variable_of v) ≡ Some hole
      → slice_get one.shapes shape ≡ Some (shape_of old.maps old.shapes (Abs v.ty hole (shape_number b)))
      → one.lists ≡ old.lists
      → slice_get new.lists list ≡ Some (without numbers (variable_of v) (list_at one.lists (list_number b)))
      → Grows one new → shape_number c ≡ shape → list_number c ≡ list
      → IsNumberOf new (abs_class numbers (variable_of v) (class_at old b)) c
  abs-number at put same lists grown s l =
      make-number new (abs_class numbers (variable_of v) (class_at old b)) c shape list s l
      (grown.shapes.keeps shape _ put
      ∙ (λ i. Some (Bind (variable_of v).ty (sym at i) (shape_at old.shapes (shape_number b)))))
      (lists ∙ ap (λ ls. Some (without numbers (variable_of v) (list_at ls (list_number b)))) same)

-- one that binds nothing keeps its body's list
pub unused-number : (old new : ClassTable) (v : Key) (b shape c : ℕ) → IsNumber old b
    → place numbers (list_at old.lists (list_number b)) (variable_of v) ≡ None
    → slice_get new.shapes shape ≡ Some (shape_of old.maps old.shapes (Unused v.ty (shape_number b)))
    → new.lists ≡ old.lists → shape_number c ≡ shape → list_number c ≡ list_number b
    → IsNumberOf new (abs_class numbers (variable_of v) (class_at old b)) c
unused-number old new v b shape c h at put same s l =
    let vs = list_at old.lists (list_number b) in
    let absent = place-none numbers tells_numbers vs (variable_of v) (ap is_none at) in
    make-number new (abs_class numbers (variable_of v) (class_at old b)) c shape (list_number b) s l
    (put ∙ (λ i. Some (Bind (variable_of v).ty (sym at i) (shape_at old.shapes (shape_number b)))))
    (ap (λ ls. slice_get ls (list_number b)) same ∙ slice_get-get_or old.lists (list_number b) [] h.list
    ∙ ap Some (sym (without-absent numbers tells_numbers (variable_of v) vs absent)))
