-- The classes of terms by number.
use Rattle.std.proofs.Common.{◌≡◌, ℕ, zero, suc, ◌<◌, ◌↔◌, Bool, position, None, List, [], ◌∷◌, ◌++◌}
use Rattle.std.proofs.Common.{length, slice_get, get_or, Some, refl, sym, ap, subst, ◌∙◌}
use Rattle.std.proofs.lemmas.Option.{none-some, same_Some}
use Rattle.std.proofs.lemmas.List.{map-append}
use Rattle.ot_logic.specs.Trees.{Ty, Named}
use Rattle.ot_logic.specs.NamedTerms.{nameless}
use Rattle.ot_logic.specs.Naming.{numbers}
use Rattle.ot_logic.specs.Table.{Extends, IsInjective}
use Rattle.ot_logic.proofs.TableLemmas.{Extends-append}
use Rattle.ot_laws.proofs.Tests.{tells_numbers}
use Rattle.indexmap.specs.IndexMap.{IndexMap, keys, insert_entry}
use Rattle.indexmap.proofs.CallerLemmas.{insert_entry-new}
use Rattle.indexmap.proofs.MapLemmas.{Missing-position}
use Rattle.ot_shape.specs.Shape.{class_of, app_class, abs_class}
use Rattle.ot_shape.proofs.Classes.{class-alpha}
use Rattle.ot_lists.specs.Variables.{variable_by}
use Rattle.ot_class.specs.Class.{ClassTable, class_at, IsNumberOf, Grows as ClassesGrow, AreOnce}
use Rattle.ot_class.specs.Spelled.{spelled, IsOver}
use Rattle.ot_class.proofs.Growing.{number-of, class-of, number-grown, class-grown as class_stays, number-one}
use Rattle.ot_class.proofs.Spelling.{number, over-more, spelled-grown, spelled-one}
use Rattle.ot_class.proofs.Spelling.{over-app, over-abs, spelled-app, spelled-abs}
use Rattle.ot_term.specs.Classing.{form_at, form_of}
use Rattle.ot_term.specs.TermTable.{term_at, term_of, variable_of, AreBelow, classes_of, IsClassOf}
use Rattle.ot_term.specs.declared.table.NodeInfo.{NodeInfo}
use Rattle.ot_term.specs.declared.term.TermNode.{TermNode}
use Rattle.ot_term.specs.declared.term.TermNode.TheVariants.{Var, Const, App as AppNode, Abs as AbsNode}

-- ---- what stays when a table grows
pub class-types : (tys us : List (Ty ℕ)) → Extends tys us → (cs : ClassTable) (t : Named ℕ) (c : ℕ)
    → IsClassOf tys cs t c → IsClassOf us cs t c
class-types tys us e cs t c h = record {
  within = h.within;
  over = over-more (length tys) (length us) e.longer (class_at cs c) h.over;
  form = spelled-grown tys us e (class_at cs c) h.over ∙ h.form;
}

pub class-grown : (tys : List (Ty ℕ)) (cs ds : ClassTable) → ClassesGrow cs ds → (t : Named ℕ) (c : ℕ)
    → IsClassOf tys cs t c → IsClassOf tys ds t c
class-grown tys cs ds e t c h =
    let same = class_stays cs ds e c h.within in
    record {
      within = number-grown cs ds e c h.within;
      over = subst (IsOver (length tys)) (sym same) h.over;
      form = ap (spelled tys) same ∙ h.form;
    }

-- ---- the list of classes
pub class_at-entry : (es : List (TermNode × NodeInfo)) (i c : ℕ) → slice_get (classes_of es) i ≡ Some c
    → (n : TermNode) × (b : NodeInfo) × (slice_get es i ≡ Some (n, b)) × (b.class ≡ c)
class_at-entry [] i c p = absurd (none-some c p)
class_at-entry (e ∷ es) zero c p = (e.0, e.1, refl, same_Some e.1.class c p)
class_at-entry (e ∷ es) (suc i) c p = class_at-entry es i c p

pub entry-class : (es : List (TermNode × NodeInfo)) (i : ℕ) (n : TermNode) (b : NodeInfo)
    → slice_get es i ≡ Some (n, b)
    → slice_get (classes_of es) i ≡ Some b.class
entry-class [] i n b p = absurd (none-some (n, b) p)
entry-class (e ∷ es) zero n b p = ap (λ (e : TermNode × NodeInfo). Some e.1.class) (same_Some e (n, b) p)
entry-class (e ∷ es) (suc i) n b p = entry-class es i n b p

pub classes-push : {S : Type 0} (same : TermNode → TermNode → Bool) (m : IndexMap TermNode NodeInfo S) (n : TermNode)
    (b : NodeInfo) → position (same n) (keys m) ≡ None
    → (new : List (TermNode × NodeInfo)) → new ≡ insert_entry same m.entries n b
    → Extends (classes_of m.entries) (classes_of new)
classes-push same m n b absent new inserted =
    let entries : new ≡ m.entries ++ (n, b) ∷ [] =
    inserted ∙ insert_entry-new same m n b (Missing-position (same n) m.entries absent).value in
    let list : classes_of new ≡ classes_of m.entries ++ b.class ∷ [] = ap classes_of entries
    ∙ map-append (λ (e : TermNode × NodeInfo). e.1.class) m.entries ((n, b) ∷ []) in
    subst (Extends (classes_of m.entries)) (sym list) (Extends-append (classes_of m.entries) (b.class ∷ []))

-- ---- two classes are one exactly where the nameless forms are
pub are_alike : (tys : List (Ty ℕ)) (cs : ClassTable) → IsInjective tys → AreOnce cs → (t u : Named ℕ) (c d : ℕ)
    → IsClassOf tys cs t c → IsClassOf tys cs u d → (c ≡ d) ↔ (nameless numbers t ≡ nameless numbers u)
are_alike tys cs types once t u c d g h = (to, back)
  where
    to : c ≡ d → nameless numbers t ≡ nameless numbers u
    to e = (class-alpha numbers tells_numbers t u).1
        (sym g.form ∙ ap (λ i. spelled tys (class_at cs i)) e ∙ h.form)

    back : nameless numbers t ≡ nameless numbers u → c ≡ d
    back e =
        let form = g.form ∙ (class-alpha numbers tells_numbers t u).0 e ∙ sym h.form in
        let one = spelled-one tys types (class_at cs c) (class_at cs d) g.over h.over form in
        number-one cs once c d g.within h.within one

-- ---- the class of a new node
module _ (tys : List (Ty ℕ)) (one : IsInjective tys) (cs : ClassTable) (ks : List ℕ) (ts : List (Named ℕ))
    (classed : (i : ℕ) → i < length ts → IsClassOf tys cs (term_at ts i) (get_or ks i 0)) where
  form-over : (n : TermNode) → AreBelow (length tys) (length ts) n → IsOver (length tys) (form_of cs ks n)
  form-over (Var v) h = record { shape = tt; frees = (number (length tys) v.ty h, tt) }
  form-over (Const n t) h = record { shape = number (length tys) t h; frees = tt }
  form-over (AppNode f x) h =
      over-app tys one (form_at cs ks f) (form_at cs ks x) (classed f h.0).over (classed x h.1).over
  form-over (AbsNode v b) h =
      over-abs tys one (variable_by v.name v.ty) (number (length tys) v.ty h.0) (form_at cs ks b) (classed b h.1).over

  form-is : (n : TermNode) → AreBelow (length tys) (length ts) n → spelled tys (form_of cs ks n)
      ≡ class_of numbers (term_of tys ts n)
  form-is (Var v) h = refl
  form-is (Const n t) h = refl
  form-is (AppNode f x) h =
      let left = (classed f h.0).form in
      let right = (classed x h.1).form in
      spelled-app tys one (form_at cs ks f) (form_at cs ks x) (classed f h.0).over (classed x h.1).over
      ∙ (λ i. app_class numbers (left i) (right i))
  form-is (AbsNode v b) h =
      spelled-abs tys one (variable_by v.name v.ty) (number (length tys) v.ty h.0) (form_at cs ks b)
      (classed b h.1).over
      ∙ ap (abs_class numbers (variable_of tys v)) (classed b h.1).form

  pub class_new : (ds : ClassTable) (n : TermNode) → AreBelow (length tys) (length ts) n → (c : ℕ)
      → IsNumberOf ds (form_of cs ks n) c → IsClassOf tys ds (term_of tys ts n) c
  class_new ds n h c p =
      let is = class-of ds (form_of cs ks n) c p in
      record {
        within = number-of ds (form_of cs ks n) c p;
        over = subst (IsOver (length tys)) (sym is) (form-over n h);
        form = ap (spelled tys) is ∙ form-is n h;
      }
