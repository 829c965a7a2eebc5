-- The written form that the printer chooses for each term, and the readable text of a sequent.
use Rattle.std.specs.Prelude.{ℕ, suc, ◌-◌, Bool, false, cond, ◌&&◌, List, [], ◌∷◌, ◌++◌, map}
use Rattle.ot_logic.specs.Names.{Name}
use Rattle.ot_logic.specs.Naming.{names}
use Rattle.ot_logic.specs.Trees.{Tm, Free, Con, Bound, App, Abs, Sequent, Symbol, ConSymbol}
use Rattle.ot_logic.specs.Hol.{same_ty}
use Rattle.ot_text.specs.Texts.{number_text, is_equation, ascending, hyps_text}
use Rattle.ot_forms.specs.Words.{is_operator, is_hidden, base}
use Rattle.ot_forms.specs.Forms.{Written, Writtens, Place, FreeAs, ConAs, Equal}
use Rattle.ot_forms.specs.Forms.{Infix, Applied, Binding, NoMore, More, term_text}
use Rattle.ot_forms.specs.Meaning.{relation_ty}

-- the name of the variable of an abstraction with k abstractions around it
abbrev pub binder_name : ℕ → List ℕ
binder_name k = 120 ∷ number_text k

-- a hidden constant with an operator word, as a relation between propositions, applied to one term
abbrev pub is_relation : List (Symbol Name) → Tm Name → Bool
is_relation hidden (App (Con n t) x) =
    is_hidden hidden (ConSymbol n) && (is_operator (base n) && same_ty names t relation_ty)
is_relation hidden _ = false

-- the operator word of such a term
abbrev pub operator_of : Tm Name → List ℕ
operator_of (App (Con n t) x) = base n
operator_of _ = []

abbrev pub with_last : Writtens → Written → Writtens
with_last NoMore b = More b NoMore
with_last (More a more) b = More a (with_last more b)

-- one argument more
abbrev pub with_argument : Written → Written → Written
with_argument (Applied f a more) b = Applied f a (with_last more b)
with_argument f b = Applied f b NoMore

abbrev mutual
  -- the written form of a term with k abstractions around it
  pub written : List (Symbol Name) → ℕ → Tm Name → Written
  written hidden k (Free v) = FreeAs v.name v.ty
  written hidden k (Con n t) = ConAs n t
  written hidden k (Bound i) = Place (binder_name (k - suc i))
  written hidden k (App f x) =
      cond (is_equation names (App f x)) (Equal (written_argument hidden k f) (written hidden k x))
      (cond (is_relation hidden f) (Infix (operator_of f) (written_argument hidden k f) (written hidden k x))
      (applied_to hidden k f (written hidden k x)))
  written hidden k (Abs t b) = Binding (binder_name k) t (written hidden (suc k) b)

  -- what a function was applied to
  pub written_argument : List (Symbol Name) → ℕ → Tm Name → Written
  written_argument hidden k (App f x) = written hidden k x
  written_argument hidden k t = Place []

  -- a function with one argument more, which is already written
  pub applied_to : List (Symbol Name) → ℕ → Tm Name → Written → Written
  applied_to hidden k (App f x) b = with_argument (applied_to hidden k f (written hidden k x)) b
  applied_to hidden k (Free v) b = Applied (FreeAs v.name v.ty) b NoMore
  applied_to hidden k (Con n t) b = Applied (ConAs n t) b NoMore
  applied_to hidden k (Bound i) b = Applied (Place (binder_name (k - suc i))) b NoMore
  applied_to hidden k (Abs t c) b = Applied (Binding (binder_name k) t (written hidden (suc k) c)) b NoMore

abbrev pub readable_term : List (Symbol Name) → Tm Name → List ℕ
readable_term hidden t = term_text hidden (written hidden 0 t)

-- the readable text of a sequent
abbrev pub readable_text : List (Symbol Name) → Sequent Name → List ℕ
readable_text hidden q = hyps_text (ascending (map (readable_term hidden) q.hyps)) ++ readable_term hidden q.concl
