-- What words make of operands that made something.
use Rattle.std.specs.Option.{option_and_then}
use Rattle.std.specs.Prelude.{◌≡◌, ℕ, Bool, true, false, List, [], ◌∷◌, map, Result, Ok, Err, if◌then◌else◌}
use Rattle.std.proofs.Common.{refl, sym, ap, subst, ◌∙◌}
use Rattle.ot_logic.specs.Names.{Name}
use Rattle.ot_logic.specs.Naming.{names}
use Rattle.ot_logic.specs.Trees.{Ty, TyVar, TyOp, MoreTys, Variable, Tm, Free, Con, App, Abs}
use Rattle.ot_logic.specs.Hol.{close, as_fun_ty, type_in}
use Rattle.ot_logic.specs.Rules.{has_type, op_rule, app_rule, abs_rule}
use Rattle.ot_logic.specs.Faults.{Fault, NotFunction, ArgumentType}
use Rattle.ot_logic.specs.Answers.{◌>>=◌, unless, some_or}
use Rattle.ot_logic.specs.declared.command.Cmd.TheVariants as words
use Rattle.ot_log_nodes.specs.Items.{Item, type_at, types_at}
use Rattle.ot_trace.specs.Origins.{Origin, make_one, make_two}
use Rattle.ot_machine.specs.Objects.{Object, name, type_op, a_type, constant, variable, term}
use Rattle.ot_machine.specs.Places.{as_type, as_each, arguments}
use Rattle.ot_machine.specs.Makers.{Read, of_top, of_two, type_op_made, op_type_made, var_type_made, var_made}
use Rattle.ot_machine.specs.Makers.{var_term_made, const_made, const_term_made, app_term_made, abs_term_made}
use Rattle.ot_machine.specs.Values.{value, applied}
use Rattle.ot_machine.proofs.Tops.{same-ok}
use Rattle.ot_log_values.specs.Steps.{Makes}
use Rattle.ot_log_values.specs.Lists.{ReadsAs}
use Rattle.ot_logic.proofs.Results.{bind-ok}

-- ---- the operands of what has a value

pub record IsOfOne (f : Read → Read) (p : Origin Name) (v : Object) : Type 0 where
  pub top : Object
  pub top_is : value p ≡ Ok top
  pub made : f (Ok top) ≡ Ok v

pub one-made : (f : Read → Read) (p : Origin Name) (v : Object)
    → ((value p >>= λ x. Ok (x ∷ [])) >>= applied (of_top f)) ≡ Ok v
    → IsOfOne f p v
one-made f p v h = by (value p) refl h
  where
    by : (r : Read) → value p ≡ r → ((r >>= λ x. Ok (x ∷ [])) >>= applied (of_top f)) ≡ Ok v → IsOfOne f p v
    by (Ok x) e h = record { top = x; top_is = e; made = h }
    by (Err x) e h = absurd (cc)

pub record IsOfTwo (f : Read → Read → Read) (p q : Origin Name) (v : Object) : Type 0 where
  pub below : Object
  pub top : Object
  pub below_is : value p ≡ Ok below
  pub top_is : value q ≡ Ok top
  pub made : f (Ok top) (Ok below) ≡ Ok v

pub two-made : (f : Read → Read → Read) (p q : Origin Name) (v : Object)
    → ((value p >>= λ x. (value q >>= λ y. Ok (y ∷ [])) >>= λ ys. Ok (x ∷ ys)) >>= applied (of_two f)) ≡ Ok v
    → IsOfTwo f p q v
two-made f p q v h = by (value p) (value q) refl refl h
  where
    by : (r t : Read) → value p ≡ r → value q ≡ t
        → ((r >>= λ x. (t >>= λ y. Ok (y ∷ [])) >>= λ ys. Ok (x ∷ ys)) >>= applied (of_two f)) ≡ Ok v
        → IsOfTwo f p q v
    by (Ok x) (Ok y) e g h = record { below = x; top = y; below_is = e; top_is = g; made = h }
    by (Ok x) (Err y) e g h = absurd (cc)
    by (Err x) t e g h = absurd (cc)

-- ---- of operands that are known

one-makes : (f : Read → Read) (o p : Origin Name) (x y : Object)
    → value o ≡ ((value p >>= λ x. Ok (x ∷ [])) >>= applied (of_top f))
    → Makes p x → ((v : Object) → f (Ok x) ≡ Ok v → v ≡ y) → Makes o y
one-makes f o p x y e m made = record {
  is = λ v h.
      let a = one-made f p v (sym e ∙ h) in
      made v (subst (λ z. f (Ok z) ≡ Ok v) (m.is a.top a.top_is) a.made);
}

two-makes : (f : Read → Read → Read) (o p q : Origin Name) (x y z : Object)
    → value o ≡ ((value p >>= λ x. (value q >>= λ y. Ok (y ∷ [])) >>= λ ys. Ok (x ∷ ys)) >>= applied (of_two f))
    → Makes p x
    → Makes q y
    → ((v : Object) → f (Ok y) (Ok x) ≡ Ok v → v ≡ z) → Makes o z
two-makes f o p q x y z e m n made = record {
  is = λ v h.
      let a = two-made f p q v (sym e ∙ h) in
      made v (subst (λ w. f (Ok w) (Ok x) ≡ Ok v) (n.is a.top a.top_is)
      (subst (λ w. f (Ok a.top) (Ok w) ≡ Ok v) (m.is a.below a.below_is) a.made));
}

pub named : (o : Origin Name) (n : Name) → value o ≡ Ok (name n) → Makes o (name n)
named o n e = record { is = λ v h. same-ok _ _ _ h e }

the-same : (x v : Object) → ◌≡◌ {A = Read} (Ok x) (Ok v) → v ≡ x
the-same x v h = sym (same-ok _ _ _ refl h)

-- what a test lets pass
passes : {X E : Type 0} (b : Bool) (e : E) (x y : X) → (if b then Ok x else Err e) ≡ Ok y → y ≡ x
passes true e x y h = sym (same-ok _ _ _ refl h)
passes false e x y h = absurd (cc)

-- ---- the words

pub type_op-makes : (o p : Origin Name) (n : Name) → o ≡ make_one words.TypeOp p → value p ≡ Ok (name n)
    → Makes o (type_op n)
type_op-makes o p n e h =
    one-makes type_op_made o p (name n) (type_op n) (ap value e) (named p n h) (λ v m. the-same (type_op n) v m)

pub const-makes : (o p : Origin Name) (n : Name) → o ≡ make_one words.Const p → value p ≡ Ok (name n)
    → Makes o (constant n)
const-makes o p n e h =
    one-makes const_made o p (name n) (constant n) (ap value e) (named p n h) (λ v m. the-same (constant n) v m)

pub var_type-makes : (o p : Origin Name) (n : Name) → o ≡ make_one words.VarType p → value p ≡ Ok (name n)
    → Makes o (a_type (TyVar n))
var_type-makes o p n e h =
    one-makes var_type_made o p (name n) (a_type (TyVar n)) (ap value e) (named p n h)
    (λ v m. the-same (a_type (TyVar n)) v m)

arguments-at : (ts : List Item) (ids : List ℕ) → arguments (map (type_at ts) ids) ≡ types_at ts ids
arguments-at ts [] = refl
arguments-at ts (i ∷ ids) = ap (MoreTys (type_at ts i)) (arguments-at ts ids)

pub op_type-makes : (ts : List Item) (o p q : Origin Name) (n : Name) (ids : List ℕ) → o ≡ make_two words.OpType p q
    → Makes p (type_op n)
    → ReadsAs (as_each as_type) q (map (type_at ts) ids) → Makes o (a_type (TyOp n (types_at ts ids)))
op_type-makes ts o p q n ids e m r = record {
  is = λ v h.
      let a = two-made op_type_made p q v (sym (ap value e) ∙ h) in
      let b = subst (λ w. op_type_made (Ok a.top) (Ok w) ≡ Ok v) (m.is a.below a.below_is) a.made in
      let c = sym (ap (λ (x : Result (List (Ty Name)) (Fault Name)). x
      >>= λ us. op_rule names n (arguments us) >>= λ t. Ok (a_type t))
      (r.is a.top a.top_is)) ∙ b in
      let d = bind-ok (op_rule names n (arguments (map (type_at ts) ids))) _ _ c in
      the-same (a_type d.0) v d.2 ∙ ap a_type (passes _ _ _ _ d.1)
      ∙ ap (λ us. a_type (TyOp n us)) (arguments-at ts ids);
}

pub var-makes : (o p q : Origin Name) (n : Name) (t : Ty Name) → o ≡ make_two words.Var p q → value p ≡ Ok (name n)
    → Makes q (a_type t) → Makes o (variable (record { name = n; ty = t }))
var-makes o p q n t e h m =
    two-makes var_made o p q (name n) (a_type t) (variable (record { name = n; ty = t })) (ap value e) (named p n h)
    m (λ v i. the-same (variable (record { name = n; ty = t })) v i)

pub var_term-makes : (o p : Origin Name) (w : Variable Name) → o ≡ make_one words.VarTerm p → Makes p (variable w)
    → Makes o (term (Free w))
var_term-makes o p w e m =
    one-makes var_term_made o p (variable w) (term (Free w)) (ap value e) m (λ v i. the-same (term (Free w)) v i)

pub const_term-makes : (o p q : Origin Name) (n : Name) (t : Ty Name) → o ≡ make_two words.ConstTerm p q
    → Makes p (constant n)
    → Makes q (a_type t) → Makes o (term (Con n t))
const_term-makes o p q n t e h m = two-makes const_term_made o p q (constant n) (a_type t) (term (Con n t))
    (ap value e) h m
    (λ v i. the-same (term (Con n t)) v i)

pub app_term-makes : (o p q : Origin Name) (f x : Tm Name) → o ≡ make_two words.AppTerm p q → Makes p (term f)
    → Makes q (term x)
    → Makes o (term (App f x))
app_term-makes o p q f x e m n = two-makes app_term_made o p q (term f) (term x) (term (App f x)) (ap value e) m n
    applied-to
  where
    applied-to : (v : Object) → app_term_made (Ok (term x)) (Ok (term f)) ≡ Ok v → v ≡ term (App f x)
    applied-to v h =
        let a = bind-ok (app_rule names f x) _ _ h in
        let b = bind-ok (some_or NotFunction (option_and_then (as_fun_ty names) (type_in names [] f))) _ _ a.1 in
        let c = bind-ok (unless ArgumentType (has_type names x b.0.0)) _ _ b.2 in
        the-same (term a.0) v a.2 ∙ ap term (passes _ _ _ _ c.2)

pub abs_term-makes : (o p q : Origin Name) (w : Variable Name) (t : Tm Name) → o ≡ make_two words.AbsTerm p q
    → Makes p (variable w)
    → Makes q (term t) → Makes o (term (Abs w.ty (close names w t)))
abs_term-makes o p q w t e m n =
    two-makes abs_term_made o p q (variable w) (term t) (term (Abs w.ty (close names w t))) (ap value e) m n
    abstracted
  where
    abstracted : (v : Object) → abs_term_made (Ok (term t)) (Ok (variable w)) ≡ Ok v
        → v ≡ term (Abs w.ty (close names w t))
    abstracted v h =
        let a = bind-ok (abs_rule names w t) _ _ h in
        the-same (term a.0) v a.2 ∙ ap term (passes _ _ _ _ a.1)
