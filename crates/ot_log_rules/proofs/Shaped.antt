-- Terms and types of a shape, or of none.
use Rattle.std.specs.Prelude.{◌≢◌, MatchOption}
use Rattle.std.specs.Bool.{Decides}
use Rattle.std.proofs.Common.{◌≡◌, length, arith, ℕ, Bool, true, false, List, [], ◌∷◌, Option}
use Rattle.std.proofs.Common.{Some, None, nat_eq, eq-eqb, eqb-true, true≢false, refl, sym, ap, ◌∙◌}
use Rattle.ot_logic.specs.Names.{Name}
use Rattle.ot_logic.specs.Naming.{names}
use Rattle.ot_logic.specs.Trees.{Ty, TyOp, NoTys, MoreTys, Tm, Con, App}
use Rattle.ot_logic.specs.Hol.{fun_ty, bool_ty, equation, as_equation}
use Rattle.ot_logic.specs.Table.{Extends, IsInjective}
use Rattle.ot_laws.proofs.Tests.{tells_names}
use Rattle.ot_laws.proofs.Typing.{as_fun_ty-some}
use Rattle.ot_laws.proofs.Equations.{as_equation-equation, as_equation-some}
use Rattle.ot_log_nodes.specs.Items.{Item, HasName, name_at, type_at, types_at, term_at, first_items}
use Rattle.ot_log_nodes.specs.Shapes.{IsFunction}
use Rattle.ot_log_nodes.proofs.ItemLemmas.{name-is, name-one, has-name}
use Rattle.ot_log_rules.specs.Shapes.{IsApp, equals_at, IsEquals, IsRelation, AreSides}
use Rattle.ot_log_rules.specs.declared.shapes.Sides.{Sides}

-- a term that is no equation
pub no-equation : (t : Tm Name) → ((a : Ty Name) (l r : Tm Name) → t ≢ equation names a l r)
    → as_equation names t ≡ None
no-equation t h = go (as_equation names t) refl
  where
    go : (o : Option (Ty Name × Tm Name × Tm Name)) → as_equation names t ≡ o → as_equation names t ≡ None
    go None e = e
    go (Some p) e = absurd (h p.0 p.1 p.2 (as_equation-some names tells_names t p.0 p.1 p.2 e))

module _ (ts : List Item) where
  -- the sides of an equation, from its parts
  pub sides-made : (id half equals : ℕ) (s : Sides) → IsApp ts id half s.right → IsApp ts half equals s.left
      → IsEquals ts equals s.ty → AreSides ts id s
  sides-made id half equals s a b c =
      let tree : term_at ts id ≡ equation names (type_at ts s.ty) (term_at ts s.left) (term_at ts s.right) =
      a.is ∙ (λ i. App ((b.is ∙ (λ j. App (c.is j) (term_at ts s.left))) i) (term_at ts s.right)) in
      record {
        is = ap (as_equation names) tree ∙ as_equation-equation names tells_names (type_at ts s.ty)
            (term_at ts s.left) (term_at ts s.right);
        ty = c.ty;
        left = b.x;
        right = a.x;
      }

  pub no-equals : (id half right equals left : ℕ) → IsApp ts id half right → IsApp ts half equals left
      → ((t : Ty Name) → term_at ts equals ≢ equals_at t) → as_equation names (term_at ts id) ≡ None
  no-equals id half right equals left a b h =
      no-equation (term_at ts id) (λ t l r e.
      let k : App (term_at ts half) (term_at ts right) ≡ App (App (equals_at t) l) r = sym a.is ∙ e in
      let p : term_at ts half ≡ App (equals_at t) l = cc in
      let q : App (term_at ts equals) (term_at ts left) ≡ App (equals_at t) l = sym b.is ∙ p in
      let r : term_at ts equals ≡ equals_at t = cc in
      h t r)

module _ (ts : List Item) (first : Extends first_items ts) (one : IsInjective ts) where
  abbrev name_equals : name_at ts 2 ≡ names.equals
  name_equals = name-is ts 2 names.equals (first.keeps 2 _ refl)

  abbrev name_bool : name_at ts 1 ≡ names.bool_name
  name_bool = name-is ts 1 names.bool_name (first.keeps 1 _ refl)

  has_equals : HasName ts 2
  has_equals = has-name ts 2 names.equals (first.keeps 2 _ refl)

  has_bool : HasName ts 1
  has_bool = has-name ts 1 names.bool_name (first.keeps 1 _ refl)

  -- ---- the equality relation
  pub equals-made : (id n ty : ℕ) (b : Bool) → term_at ts id ≡ Con (name_at ts n) (type_at ts ty) → b ≡ nat_eq n 2
      → b ≡ true → (r : Option ℕ)
      → MatchOption r ((a : Ty Name) → type_at ts ty ≢ fun_ty names a (fun_ty names a (bool_ty names)))
      (IsRelation ts ty) → MatchOption r ((a : Ty Name) → term_at ts id ≢ equals_at a) (IsEquals ts id)
  equals-made id n ty b tree test so None m = λ a e. let k : Con (name_at ts n) (type_at ts ty) ≡ equals_at a =
      sym tree ∙ e in let p : type_at ts ty ≡ fun_ty names a (fun_ty names a (bool_ty names)) = cc in m a p
  equals-made id n ty b tree test so (Some a) m =
      let two : n ≡ 2 = eqb-true n 2 (sym test ∙ so) in
      let name : name_at ts n ≡ names.equals = ap (name_at ts) two ∙ name_equals in
      record { is = tree ∙ (λ i. Con (name i) (m.is i)); ty = m.ty }

  pub equals-other : (id n ty : ℕ) (b : Bool) → HasName ts n → term_at ts id ≡ Con (name_at ts n) (type_at ts ty)
      → b ≡ nat_eq n 2 → b ≡ false → (a : Ty Name) → term_at ts id ≢ equals_at a
  equals-other id n ty b has tree test contrary a e =
      let k : Con (name_at ts n) (type_at ts ty) ≡ equals_at a = sym tree ∙ e in
      let p : name_at ts n ≡ names.equals = cc in
      true≢false (sym (eq-eqb n 2 (name-one ts one n 2 has has_equals (p ∙ sym name_equals))) ∙ sym test ∙ contrary)

  -- ---- the type of relations
  pub relation-made : (id a predicate b truth : ℕ) → IsFunction ts id a predicate → IsFunction ts predicate b truth
      → a ≡ b → type_at ts truth ≡ bool_ty names → IsRelation ts id a
  relation-made id a predicate b truth f g same truly =
      record {
        is = as_fun_ty-some names tells_names (type_at ts id) (type_at ts a) (type_at ts predicate) f.is
            ∙ ap (fun_ty names (type_at ts a)) (as_fun_ty-some names tells_names (type_at ts predicate) (type_at ts b)
            (type_at ts truth) g.is ∙ (λ i. fun_ty names (type_at ts (sym same i)) (truly i)));
        ty = f.from;
      }

  -- ---- the type of propositions
  pub boolean-made : (id n : ℕ) (is : List ℕ) → type_at ts id ≡ TyOp (name_at ts n) (types_at ts is)
      → nat_eq n 1 ≡ true → (b : Bool) → b ≡ nat_eq (length is) 0 → Decides b (type_at ts id ≡ bool_ty names)
  boolean-made id n is tree so b h = by is refl
    where
      name : name_at ts n ≡ names.bool_name
      name = ap (name_at ts) (eqb-true n 1 so) ∙ name_bool

      by : (js : List ℕ) → is ≡ js → Decides b (type_at ts id ≡ bool_ty names)
      by [] e = (
        (λ p. tree ∙ (λ i. TyOp (name i) (types_at ts (e i)))),
        (λ p. h ∙ ap (λ l. nat_eq (length l) 0) e),
      )
      by (j ∷ js) e = (
        (λ p. let q : length (j ∷ js) ≡ 0 = sym (ap length e) ∙ eqb-true (length is) 0 (sym h ∙ p) in
            absurd (omega arith)),
        (λ p. let q : TyOp (name_at ts n) (MoreTys (type_at ts j) (types_at ts js)) ≡ TyOp names.bool_name NoTys = sym
            (ap (λ l. TyOp (name_at ts n) (types_at ts l)) e) ∙ sym tree ∙ p in cc),
      )

  pub boolean-other : (id n : ℕ) (is : List ℕ) → HasName ts n → type_at ts id ≡ TyOp (name_at ts n) (types_at ts is)
      → nat_eq n 1 ≡ false → (b : Bool) → b ≡ false → Decides b (type_at ts id ≡ bool_ty names)
  boolean-other id n is has tree contrary b e = (
    (λ p. absurd (true≢false (sym p ∙ e))),
    (λ p.
        let q : TyOp (name_at ts n) (types_at ts is) ≡ bool_ty names = sym tree ∙ p in
        let same : name_at ts n ≡ names.bool_name = cc in
        absurd (true≢false (sym (eq-eqb n 1 (name-one ts one n 1 has has_bool (same ∙ sym name_bool))) ∙ contrary))),
  )
