-- The texts of types and terms by their parts.
use Rattle.std.specs.Prelude.{◌≡◌, ℕ, zero, suc, ◌-◌, ◌<◌, ◌≤◌, Bool, true, false}
use Rattle.std.specs.Prelude.{cond, List, [], ◌∷◌, ◌++◌, length, codes, None}
use Rattle.std.proofs.Math.ListN.{drop_of_length-le}
use Rattle.std.proofs.Math.Seq.{drop-cons}
use Rattle.std.proofs.Common.{refl, sym, ◌∙◌, ap, arith, append_assoc, length-append, get_or, drop}
use Rattle.ot_logic.specs.Names.{Name}
use Rattle.ot_logic.specs.Naming.{names}
use Rattle.ot_logic.specs.Trees.{Ty, TyVar, TyOp, NoTys, MoreTys, Tm, Free, Con, Bound, App, Abs}
use Rattle.ot_logic.specs.Hol.{as_fun_ty}
use Rattle.ot_log_nodes.specs.Items.{Item, type_at, types_at}
use Rattle.ot_log_text.proofs.Pieces.{operator-pieces}
use Rattle.ot_text.specs.Texts.{name_text, is_function, is_equation, ty_text, spaced_text, tm_text}

pub five : (a b c d e : List ℕ) → a ++ (b ++ (c ++ (d ++ e))) ≡ a ++ b ++ c ++ d ++ e
five a b c d e = simp append_assoc

four : (a b c d : List ℕ) → a ++ (b ++ (c ++ d)) ≡ a ++ b ++ c ++ d
four a b c d = simp append_assoc

-- ---- names
pub some-name : (n : Name) → 0 < length (name_text n)
some-name [] = omega arith
some-name (c ∷ cs) = omega arith

-- ---- types
pub operator-parts : (ts : List Item) (t : Ty Name) (n : Name) (is : List ℕ) → t ≡ TyOp n (types_at ts is)
    → as_fun_ty names t ≡ None → 0 < length is
    → codes "(" ++ (name_text n ++ (spaced_text (types_at ts is) ++ codes ")")) ≡ ty_text t
operator-parts ts t n is p h some =
    four (codes "(") (name_text n) (spaced_text (types_at ts is)) (codes ")") ∙ operator-pieces ts t n is p h some

pub no-types : (ts : List Item) (is : List ℕ) (n : ℕ) → length is ≤ n → [] ≡ spaced_text (types_at ts (drop n is))
no-types ts is n h = ap (λ js. spaced_text (types_at ts js)) (sym (drop_of_length-le is h))

pub spaced-back : (ts : List Item) (is : List ℕ) (j i : ℕ) → 0 < j → j ≤ length is → i ≡ get_or is (j - 1) i
    → codes " " ++ (ty_text (type_at ts i) ++ spaced_text (types_at ts (drop j is)))
    ≡ spaced_text (types_at ts (drop (j - 1) is))
spaced-back ts is j i lt le e =
    let one : j ≡ suc (j - 1) = omega arith in
    ap (λ n. codes " " ++ (ty_text (type_at ts i) ++ spaced_text (types_at ts (drop n is)))) one
    ∙ ap (λ m. codes " " ++ (ty_text (type_at ts m) ++ spaced_text (types_at ts (drop (suc (j - 1)) is)))) e
    ∙ ap (λ js. spaced_text (types_at ts js)) (sym (drop-cons is (j - 1) i (omega arith)))

pub all-types : (ts : List Item) (is : List ℕ) (j : ℕ) → j ≤ 0
    → spaced_text (types_at ts (drop j is)) ≡ spaced_text (types_at ts is)
all-types ts is zero h = refl
all-types ts is (suc j) h = absurd (omega arith)

-- ---- a text has a byte
some-of : (e : Bool) (x y : List ℕ) → 0 < length x → 0 < length y → 0 < length (cond e x y)
some-of true x y p q = p
some-of false x y p q = q

pub some-type : (t : Ty Name) → 0 < length (ty_text t)
some-type (TyVar n) = omega arith
some-type (TyOp n NoTys) = some-name n
some-type (TyOp n (MoreTys a ts)) = some-of (is_function names (TyOp n (MoreTys a ts))) _ _ (omega arith)
    (omega arith)

pub some-term : (t : Tm Name) → 0 < length (tm_text t)
some-term (Free v) =
    omega (
      arith,
      some-name v.name,
      length-append (name_text v.name ++ codes ":") (ty_text v.ty),
      length-append (name_text v.name) (codes ":"),
    )
some-term (Con n t) = omega arith
some-term (Bound k) = omega arith
some-term (App f x) = some-of (is_equation names (App f x)) _ _ (omega arith) (omega arith)
some-term (Abs t b) = omega arith
