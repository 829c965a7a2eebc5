-- The readable texts of terms, piece by piece.
use Rattle.std.specs.Prelude.{◌≡◌, ℕ, suc, Bool, true, false, cond, List}
use Rattle.std.specs.Prelude.{◌∷◌, ◌++◌, is_some, codes}
use Rattle.std.proofs.Common.{refl, sym, ◌∙◌, ap, append_assoc, append-nil}
use Rattle.ot_logic.specs.Names.{Name}
use Rattle.ot_logic.specs.Naming.{names}
use Rattle.ot_logic.specs.Trees.{Ty, Tm, Free, Con, Bound, App, Abs, Variable}
use Rattle.ot_logic.specs.Trees.{Named, NConst, NApp, NAbs, Symbol}
use Rattle.ot_logic.specs.Hol.{fun_ty, bool_ty}
use Rattle.ot_logic.specs.NamedTerms.{nameless_in}
use Rattle.ot_laws.proofs.Tests.{tells_names}
use Rattle.ot_laws.proofs.Equations.{as_equation-equation}
use Rattle.ot_forms.specs.Words.{base}
use Rattle.ot_forms.specs.Forms.{Written, Writtens, Equal, Infix, Applied}
use Rattle.ot_forms.specs.Forms.{NoMore, More, term_text, terms_text, type_text}
use Rattle.ot_forms.specs.Printing.{binder_name, is_relation, operator_of, with_last}
use Rattle.ot_forms.specs.Printing.{with_argument, written, written_argument, applied_to}
use Rattle.ot_text.specs.Texts.{is_equation}
use Rattle.ot_print.specs.Equations.{equation_of}
use Rattle.ot_pretty.specs.Spines.{text_at, spine_text, half_text, front_text, is_relation_constant}
use Rattle.ot_text.proofs.TypePieces.{cond-true, cond-false}

regroup : (x t s b : List ℕ) → x ++ (t ++ s ++ b) ≡ (x ++ t) ++ s ++ b
regroup x t s b = sym (append_assoc x (t ++ s) b) ∙ ap (λ z. z ++ b) (sym (append_assoc x t s))

module _ (hidden : List (Symbol Name)) where
  -- one argument more at the end
  last-text : (more : Writtens) (b : Written) → terms_text hidden (with_last more b) ≡ terms_text hidden more
      ++ codes " " ++ term_text hidden b
  last-text NoMore b = append-nil (codes " " ++ term_text hidden b)
  last-text (More a more) b =
      ap (λ z. codes " " ++ term_text hidden a ++ z) (last-text more b)
      ∙ regroup (codes " " ++ term_text hidden a) (terms_text hidden more) (codes " ") (term_text hidden b)

  -- a written application, and its text up to the closing parenthesis
  record IsApplied (w : Written) (x : List ℕ) : Type 0 where
    pub head : Written
    pub argument : Written
    pub more : Writtens
    pub is : w ≡ Applied head argument more
    pub text : codes "(" ++ term_text hidden head ++ codes " " ++ term_text hidden argument ++ terms_text hidden more
        ≡ x

  one-argument : (h b : Written)
      → IsApplied (Applied h b NoMore) (codes "(" ++ (term_text hidden h ++ codes " ") ++ term_text hidden b)
  one-argument h b =
      record {
        head = h;
        argument = b;
        more = NoMore;
        is = refl;
        text = append-nil (codes "(" ++ term_text hidden h ++ codes " " ++ term_text hidden b);
      }

  applied-spine : (k : ℕ) (t : Tm Name) (b : Written)
      → IsApplied (applied_to hidden k t b) (codes "(" ++ (spine_text hidden k t ++ codes " ") ++ term_text hidden b)
  applied-spine k (Free v) b = one-argument (written hidden k (Free v)) b
  applied-spine k (Con n t) b = one-argument (written hidden k (Con n t)) b
  applied-spine k (Bound i) b = one-argument (written hidden k (Bound i)) b
  applied-spine k (Abs t c) b = one-argument (written hidden k (Abs t c)) b
  applied-spine k (App f x) b =
      let w = applied-spine k f (written hidden k x) in
      let front = codes "(" ++ term_text hidden w.head ++ codes " " ++ term_text hidden w.argument in
      record {
        head = w.head;
        argument = w.argument;
        more = with_last w.more b;
        is = ap (λ u. with_argument u b) w.is;
        text =
            ap (λ z. front ++ z) (last-text w.more b)
            ∙ regroup front (terms_text hidden w.more) (codes " ") (term_text hidden b)
            ∙ ap (λ z. z ++ codes " " ++ term_text hidden b) w.text;
      }

  applied-text : (k : ℕ) (t : Tm Name) (b : Written)
      → codes "(" ++ (spine_text hidden k t ++ codes " ") ++ term_text hidden b ++ codes ")"
      ≡ term_text hidden (applied_to hidden k t b)
  applied-text k t b = let w = applied-spine k t b in ap (λ z. z ++ codes ")") (sym w.text)
      ∙ ap (term_text hidden) (sym w.is)

  -- ---- a kernel's terms, under the binders e with k abstractions around
  module _ (k : ℕ) (e : List (Variable Name)) where
    abbrev under : Named Name → List ℕ
    under t = text_at hidden k (nameless_in names e t)

    -- the written forms of an application
    abbrev equal : Tm Name → Tm Name → Written
    equal f x = Equal (written_argument hidden k f) (written hidden k x)

    abbrev infix_form : Tm Name → Tm Name → Written
    infix_form f x = Infix (operator_of f) (written_argument hidden k f) (written hidden k x)

    abbrev applied : Tm Name → Tm Name → Written
    applied f x = applied_to hidden k f (written hidden k x)

    abbrev no_equation : Tm Name → Tm Name → Written
    no_equation f x = cond (is_relation hidden f) (infix_form f x) (applied f x)

    -- the left half of an equation
    abbrev half : Ty Name → Tm Name → Tm Name
    half ty a = App (Con names.equals (fun_ty names ty (fun_ty names ty (bool_ty names)))) a

    pub equation-pieces : (t : Named Name) (ty : Ty Name) (a b : Named Name) → t ≡ equation_of ty a b
        → codes "(" ++ under a ++ codes " = " ++ under b ++ codes ")" ≡ under t
    equation-pieces t ty a b p =
        let left = half ty (nameless_in names e a) in
        let right = nameless_in names e b in
        let test : is_equation names (App left right) ≡ true =
        ap is_some (as_equation-equation names tells_names ty (nameless_in names e a) right) in
        ap (term_text hidden) (cond-true (is_equation names (App left right)) (equal left right)
        (no_equation left right) test) ∙ ap under (sym p)

    pub abstraction-pieces : (j : ℕ) (t : Named Name) (v : Variable Name) (b : Named Name) → j ≡ suc k → t ≡ NAbs v b
        → codes "(\\" ++ binder_name k ++ codes " : " ++ type_text hidden v.ty ++ codes " . "
        ++ text_at hidden j (nameless_in names (v ∷ e) b) ++ codes ")" ≡ under t
    abstraction-pieces j t v b q p =
        ap (λ i. codes "(\\" ++ binder_name k ++ codes " : " ++ type_text hidden v.ty ++ codes " . "
        ++ text_at hidden i (nameless_in names (v ∷ e) b) ++ codes ")") q
        ∙ ap under (sym p)

    -- what stands before the argument, and the argument
    front-text : (f x : Tm Name) → is_equation names (App f x) ≡ false
        → codes "(" ++ front_text hidden k f ++ text_at hidden k x ++ codes ")" ≡ text_at hidden k (App f x)
    front-text f x h = go (is_relation hidden f) refl where
      go : (r : Bool) → is_relation hidden f ≡ r
          → codes "(" ++ cond r (half_text hidden k f) (spine_text hidden k f ++ codes " ") ++ text_at hidden k x
          ++ codes ")" ≡ text_at hidden k (App f x)
      go true q =
          ap (term_text hidden) (cond-true (is_relation hidden f) (infix_form f x) (applied f x) q
          ∙ cond-false (is_equation names (App f x)) (equal f x) (no_equation f x) h)
      go false q =
          applied-text k f (written hidden k x)
          ∙ ap (term_text hidden) (cond-false (is_relation hidden f) (infix_form f x) (applied f x) q
          ∙ cond-false (is_equation names (App f x)) (equal f x) (no_equation f x) h)

    pub application-pieces : (t f x : Named Name) → t ≡ NApp f x → is_equation names (nameless_in names e t) ≡ false
        → codes "(" ++ front_text hidden k (nameless_in names e f) ++ under x ++ codes ")" ≡ under t
    application-pieces t f x p h = front-text (nameless_in names e f) (nameless_in names e x)
        (ap (λ u. is_equation names (nameless_in names e u)) (sym p) ∙ h) ∙ ap under (sym p)

    -- ---- what stands before an argument
    pub relation-front : (t : Named Name) (n : Name) (ty : Ty Name) (y : Named Name) → t ≡ NApp (NConst n ty) y
        → is_relation_constant hidden n ty ≡ true → under y ++ codes " " ++ base n ++ codes " "
        ≡ front_text hidden k (nameless_in names e t)
    relation-front t n ty y p h =
        let f = App (Con n ty) (nameless_in names e y) in
        cond-true (is_relation_constant hidden n ty) (half_text hidden k f) (spine_text hidden k f ++ codes " ") h
        ∙ ap (λ u. front_text hidden k (nameless_in names e u)) (sym p)

    pub spine-front : (f : Tm Name) → is_relation hidden f ≡ false → spine_text hidden k f ++ codes " "
        ≡ front_text hidden k f
    spine-front f h = cond-false (is_relation hidden f) (half_text hidden k f) (spine_text hidden k f ++ codes " ") h

    -- ---- a function and its arguments
    pub application-spine : (t f x : Named Name) → t ≡ NApp f x → spine_text hidden k (nameless_in names e f)
        ++ codes " " ++ under x ≡ spine_text hidden k (nameless_in names e t)
    application-spine t f x p = ap (λ u. spine_text hidden k (nameless_in names e u)) (sym p)
