-- The operands of an origin that has a value.
use Rattle.std.specs.Prelude.{◌≡◌, ◌==◌, List, [], ◌∷◌, length, Ok}
use Rattle.std.proofs.Common.{refl, ap, ◌∙◌, arith}
use Rattle.std.proofs.lemmas.Bool.{eqb-true}
use Rattle.ot_logic.specs.Names.{Name}
use Rattle.ot_logic.specs.Faults.{StackEmpty}
use Rattle.ot_logic.specs.Answers.{◌>>=◌, unless}
use Rattle.ot_trace.specs.Origins.{Origin, Origins, NoOrigins, MoreOrigins}
use Rattle.ot_machine.specs.Objects.{Object}
use Rattle.ot_machine.specs.Makers.{Read, of_none, of_top, of_two}
use Rattle.ot_machine.specs.Values.{value, values, value_at, applied}
use Rattle.ot_machine.proofs.Tops.{same-ok}
use Rattle.ot_logic.proofs.Results.{bind-ok, unless-ok}

-- values, one after another
pub record IsFirstValue (os : Origins Name) (v : Object) (vs : List Object) : Type 0 where
  pub first : Origin Name
  pub rest : Origins Name
  pub is : os ≡ MoreOrigins first rest
  pub value_is : value first ≡ Ok v
  pub values_are : values rest ≡ Ok vs

heads : (x y : Object) (xs ys : List Object) → x ∷ xs ≡ y ∷ ys → (x ≡ y) × (xs ≡ ys)
heads x y xs ys p = (cc, cc)

pub first-value : (os : Origins Name) (v : Object) (vs : List Object) → values os ≡ Ok (v ∷ vs) → IsFirstValue os v vs
first-value NoOrigins v vs p = absurd (cc)
first-value (MoreOrigins o os) v vs p =
    let a = bind-ok (value o) _ _ p in
    let b = bind-ok (values os) _ _ a.2 in
    let same = same-ok _ _ _ refl b.2 in
    record {
      first = o;
      rest = os;
      is = refl;
      value_is = a.1 ∙ ap Ok (heads _ _ _ _ same).0;
      values_are = b.1
          ∙ ap Ok (heads _ _ _ _ same).1;
    }

no-cons : (ys : List Object) (x : Object) (xs : List Object) → ys ≡ [] → ys ≡ x ∷ xs → ⊥
no-cons ys x xs p q = cc

pub no-value : (os : Origins Name) → values os ≡ Ok [] → os ≡ NoOrigins
no-value NoOrigins p = refl
no-value (MoreOrigins o os) p =
    let a = bind-ok (value o) _ _ p in
    let b = bind-ok (values os) _ _ a.2 in
    absurd (no-cons (a.0 ∷ b.0) _ _ (same-ok _ _ _ refl b.2) refl)

-- exactly two operands
pub record AreTwo (f : Read → Read → Read) (os : Origins Name) (o : Object) : Type 0 where
  pub lower : Origin Name
  pub upper : Origin Name
  pub below : Object
  pub top : Object
  pub are : os ≡ MoreOrigins lower (MoreOrigins upper NoOrigins)
  pub lower_is : value lower ≡ Ok below
  pub upper_is : value upper ≡ Ok top
  pub made : f (Ok top) (Ok below) ≡ Ok o

pub two-operands : (f : Read → Read → Read) (os : Origins Name) (o : Object) → (values os >>= applied (of_two f))
    ≡ Ok o → AreTwo f os o
two-operands f os o p =
    let a = bind-ok (values os) _ _ p in
    let b = bind-ok (unless StackEmpty (length a.0 == 2)) _ _ a.2 in
    by a.0 a.1 (eqb-true (length a.0) 2 (unless-ok _ _ _ b.1)) b.2
  where
    by : (vs : List Object) → values os ≡ Ok vs → length vs ≡ 2 → f (value_at 0 vs) (value_at 1 vs) ≡ Ok o
        → AreTwo f os o
    by [] v e m = absurd (omega (arith, e))
    by (x ∷ []) v e m = absurd (omega (arith, e))
    by (x ∷ y ∷ []) v e m =
        let g = first-value os x (y ∷ []) v in
        let h = first-value g.rest y [] g.values_are in
        record {
          lower = g.first;
          upper = h.first;
          below = x;
          top = y;
          are = g.is ∙ ap (MoreOrigins g.first) (h.is ∙ ap (MoreOrigins h.first) (no-value h.rest h.values_are));
          lower_is = g.value_is;
          upper_is = h.value_is;
          made = m;
        }
    by (x ∷ y ∷ z ∷ vs) v e m = absurd (omega (arith, e))

-- no operand
pub no-operands : (p : Object) (os : Origins Name) (o : Object) → (values os >>= applied (of_none p)) ≡ Ok o
    → (os ≡ NoOrigins) × (p ≡ o)
no-operands p os o q =
    let a = bind-ok (values os) _ _ q in
    let b = bind-ok (unless StackEmpty (length a.0 == 0)) _ _ a.2 in
    (by a.0 a.1 (eqb-true (length a.0) 0 (unless-ok _ _ _ b.1)), same-ok _ _ _ refl b.2)
  where
    by : (vs : List Object) → values os ≡ Ok vs → length vs ≡ 0 → os ≡ NoOrigins
    by [] v e = no-value os v
    by (x ∷ vs) v e = absurd (omega (arith, e))

-- exactly one
pub record IsOne (f : Read → Read) (os : Origins Name) (o : Object) : Type 0 where
  pub operand : Origin Name
  pub top : Object
  pub is : os ≡ MoreOrigins operand NoOrigins
  pub operand_is : value operand ≡ Ok top
  pub made : f (Ok top) ≡ Ok o

pub one-operand : (f : Read → Read) (os : Origins Name) (o : Object) → (values os >>= applied (of_top f)) ≡ Ok o
    → IsOne f os o
one-operand f os o p =
    let a = bind-ok (values os) _ _ p in
    let b = bind-ok (unless StackEmpty (length a.0 == 1)) _ _ a.2 in
    by a.0 a.1 (eqb-true (length a.0) 1 (unless-ok _ _ _ b.1)) b.2
  where
    by : (vs : List Object) → values os ≡ Ok vs → length vs ≡ 1 → f (value_at 0 vs) ≡ Ok o → IsOne f os o
    by [] v e m = absurd (omega (arith, e))
    by (x ∷ []) v e m =
        let g = first-value os x [] v in
        record {
          operand = g.first;
          top = x;
          is = g.is ∙ ap (MoreOrigins g.first) (no-value g.rest g.values_are);
          operand_is = g.value_is;
          made = m;
        }
    by (x ∷ y ∷ vs) v e m = absurd (omega (arith, e))
