-- Readable texts depend on the set of the hidden symbols alone, and these on the set of a run's symbols.
use Rattle.std.specs.Prelude.{◌≡◌, ◌++◌, ℕ, suc, not, ◌||◌, ◌&&◌, Bool, true, false, cond, List, [], ◌∷◌, map, codes}
use Rattle.std.specs.List.{list_all, list_any, filter}
use Rattle.std.proofs.Common.{refl, sym, ◌∙◌, ap, inl, inr}
use Rattle.ot_logic.specs.Names.{Name, spelled}
use Rattle.ot_logic.specs.Naming.{names}
use Rattle.ot_logic.specs.Hol.{same_ty}
use Rattle.ot_logic.specs.Lists.{IsMember, IsSameSet}
use Rattle.ot_logic.specs.Trees.{Ty, Tys, TyVar, TyOp, NoTys, MoreTys, Tm, Free, Con}
use Rattle.ot_logic.specs.Trees.{Bound, App, Abs, Sequent, Symbol, ConSymbol, OpSymbol}
use Rattle.ot_text.specs.Texts.{is_function, is_equation, ascending, hyps_text}
use Rattle.ot_forms.specs.Words.{is_bare, dotted, is_operator, variable_word, symbol_name, same_kind}
use Rattle.ot_forms.specs.Words.{same_text, same_symbol, base, is_short, is_shown, is_alike}
use Rattle.ot_forms.specs.Words.{is_hidden_in, hidden_symbols, is_hidden, word, IsNotation}
use Rattle.ot_forms.specs.Forms.{Written, Writtens, Place, FreeAs, ConAs, Equal, Infix, Applied}
use Rattle.ot_forms.specs.Forms.{Binding, NoMore, More, type_text, types_text, term_text, terms_text}
use Rattle.ot_forms.specs.Meaning.{relation_ty}
use Rattle.ot_forms.specs.Printing.{binder_name, is_relation, operator_of, with_argument, written}
use Rattle.ot_forms.specs.Printing.{written_argument, applied_to, readable_term, readable_text}
use Rattle.ot_logic.proofs.Members.{member_from_any}

-- ---- tests over lists of one set

or-right : (p : Bool) → (p || true) ≡ true
or-right true = refl
or-right false = refl

member-any : {X : Type 0} (p : X → Bool) (xs : List X) (x : X) → p x ≡ true → IsMember x xs → list_any p xs ≡ true
member-any p [] x e m = absurd m
member-any p (y ∷ ys) x e (inl q) = λ i. (ap p q ∙ e) i || list_any p ys
member-any p (y ∷ ys) x e (inr m) = ap (λ b. p y || b) (member-any p ys x e m) ∙ or-right (p y)

both : (a b : Bool) → (a ≡ true → b ≡ true) → (b ≡ true → a ≡ true) → a ≡ b
both true b f g = sym (f refl)
both false true f g = g refl
both false false f g = refl

any-same : {X : Type 0} (p : X → Bool) (xs ys : List X) → IsSameSet xs ys → list_any p xs ≡ list_any p ys
any-same p xs ys s = both _ _
    (λ e. let w = member_from_any p xs e in member-any p ys w.0 w.1 (s.to w.0 w.2))
    (λ e. let w = member_from_any p ys e in member-any p xs w.0 w.1 (s.back w.0 w.2))

all-any : {X : Type 0} (p : X → Bool) (xs : List X) → list_all p xs ≡ not (list_any (λ x. not (p x)) xs)
all-any p [] = refl
all-any p (x ∷ xs) = go (p x) (all-any p xs) where
  go : (t : Bool) → list_all p xs ≡ not (list_any (λ x. not (p x)) xs)
      → (t && list_all p xs) ≡ not (not t || list_any (λ x. not (p x)) xs)
  go true e = e
  go false e = refl

all-same : {X : Type 0} (p : X → Bool) (xs ys : List X) → IsSameSet xs ys → list_all p xs ≡ list_all p ys
all-same p xs ys s = all-any p xs ∙ ap not (any-same (λ x. not (p x)) xs ys s) ∙ sym (all-any p ys)

-- ---- the hidden symbols

any-filter : {X : Type 0} (test p : X → Bool) (xs : List X) → list_any test (filter p xs)
    ≡ list_any (λ x. p x && test x) xs
any-filter test p [] = refl
any-filter test p (x ∷ xs) = go (p x) (any-filter test p xs) where
  go : (t : Bool) → list_any test (filter p xs) ≡ list_any (λ x. p x && test x) xs
      → list_any test (cond t (x ∷ filter p xs) (filter p xs)) ≡ ((t && test x) || list_any (λ x. p x && test x) xs)
  go true e = ap (λ b. test x || b) e
  go false e = e

-- two lists of hidden symbols that no test tells apart
abbrev pub AreAlike : List (Symbol Name) → List (Symbol Name) → Type 0
AreAlike hs gs = (test : Symbol Name → Bool) → list_any test hs ≡ list_any test gs

pub alike : (shown : List Name) (xs ys : List (Symbol Name)) → IsSameSet xs ys
    → AreAlike (hidden_symbols shown xs) (hidden_symbols shown ys)
alike shown xs ys s test =
    let hides : (x : Symbol Name) → is_hidden_in shown xs x ≡ is_hidden_in shown ys x =
    λ x. ap (λ b. is_shown shown x && (is_short x && b))
    (all-same (λ t. not (is_alike x t && is_shown shown t) || same_symbol x t) xs ys s) in
    any-filter test (is_hidden_in shown xs) xs
    ∙ (λ i. list_any (λ x. hides x i && test x) xs)
    ∙ any-same (λ x. is_hidden_in shown ys x && test x) xs ys s
    ∙ sym (any-filter test (is_hidden_in shown ys) ys)

module _ (hs gs : List (Symbol Name)) (same : AreAlike hs gs) where
  pub same-hidden : (s : Symbol Name) → is_hidden hs s ≡ is_hidden gs s
  same-hidden s = same (same_symbol s)

  pub same-notation : IsNotation hs → IsNotation gs
  same-notation h = record {
    short = λ s e. h.short s (same-hidden s ∙ e);
    inner = λ s e. h.inner s (same-hidden s ∙ e);
    alone = λ s t e f. h.alone s t (same-hidden s ∙ e) (same-hidden t ∙ f);
  }

  -- ---- the texts

  pub same-word : (s : Symbol Name) → word hs s ≡ word gs s
  same-word s =
      let n = symbol_name s in
      let taken = same (λ t. same_kind s t && same_text (dotted n) (base (symbol_name t))) in
      λ i. cond (same-hidden s i) (base n) (cond (is_bare n && not (taken i)) (dotted n) (spelled n))

  mutual
    pub same-type : (t : Ty Name) → type_text hs t ≡ type_text gs t
    same-type (TyVar n) = refl
    same-type (TyOp n NoTys) = same-word (OpSymbol n)
    same-type (TyOp n (MoreTys a ts)) =
        let one = same-type a in
        let further = same-types ts in
        let all = same-types (MoreTys a ts) in
        λ i. cond (is_function names (TyOp n (MoreTys a ts)))
        (codes "(" ++ one i ++ codes " ->" ++ further i ++ codes ")")
        (codes "(" ++ same-word (OpSymbol n) i ++ all i ++ codes ")")

    same-types : (ts : Tys Name) → types_text hs ts ≡ types_text gs ts
    same-types NoTys = refl
    same-types (MoreTys t ts) = let one = same-type t in let further = same-types ts in
        λ i. codes " " ++ one i ++ further i

  mutual
    pub same-term : (w : Written) → term_text hs w ≡ term_text gs w
    same-term (Place x) = refl
    same-term (FreeAs n t) = λ i. codes "(" ++ variable_word n ++ codes " : " ++ same-type t i ++ codes ")"
    same-term (ConAs n t) = λ i. codes "{" ++ same-word (ConSymbol n) i ++ codes " : " ++ same-type t i ++ codes "}"
    same-term (Equal a b) = let x = same-term a in let y = same-term b in
        λ i. codes "(" ++ x i ++ codes " = " ++ y i ++ codes ")"
    same-term (Infix o a b) = let x = same-term a in let y = same-term b in
        λ i. codes "(" ++ x i ++ codes " " ++ o ++ codes " " ++ y i ++ codes ")"
    same-term (Applied f a more) =
        let x = same-term f in
        let y = same-term a in
        let z = same-terms more in
        λ i. codes "(" ++ x i ++ codes " " ++ y i ++ z i ++ codes ")"
    same-term (Binding x t a) = let y = same-term a in
        λ i. codes "(\\" ++ x ++ codes " : " ++ same-type t i ++ codes " . " ++ y i ++ codes ")"

    same-terms : (ws : Writtens) → terms_text hs ws ≡ terms_text gs ws
    same-terms NoMore = refl
    same-terms (More a more) = let x = same-term a in let y = same-terms more in λ i. codes " " ++ x i ++ y i

  same-relation : (t : Tm Name) → is_relation hs t ≡ is_relation gs t
  same-relation (App (Con n t) x) =
      λ i. same-hidden (ConSymbol n) i && (is_operator (base n) && same_ty names t relation_ty)
  same-relation (App (Free v) x) = refl
  same-relation (App (Bound k) x) = refl
  same-relation (App (App f y) x) = refl
  same-relation (App (Abs t b) x) = refl
  same-relation (Free v) = refl
  same-relation (Con n t) = refl
  same-relation (Bound k) = refl
  same-relation (Abs t b) = refl

  mutual
    same-written : (k : ℕ) (t : Tm Name) → written hs k t ≡ written gs k t
    same-written k (Free v) = refl
    same-written k (Con n t) = refl
    same-written k (Bound i) = refl
    same-written k (App f x) =
        let left = same-argument k f in
        let right = same-written k x in
        let front = same-applied k f in
        λ i. cond (is_equation names (App f x)) (Equal (left i) (right i))
        (cond (same-relation f i) (Infix (operator_of f) (left i) (right i)) (front (right i) i))
    same-written k (Abs t b) = ap (Binding (binder_name k) t) (same-written (suc k) b)

    same-argument : (k : ℕ) (t : Tm Name) → written_argument hs k t ≡ written_argument gs k t
    same-argument k (App f x) = same-written k x
    same-argument k (Free v) = refl
    same-argument k (Con n t) = refl
    same-argument k (Bound i) = refl
    same-argument k (Abs t b) = refl

    same-applied : (k : ℕ) (t : Tm Name) (b : Written) → applied_to hs k t b ≡ applied_to gs k t b
    same-applied k (App f x) b =
        let front = same-applied k f in
        let right = same-written k x in
        λ i. with_argument (front (right i) i) b
    same-applied k (Free v) b = refl
    same-applied k (Con n t) b = refl
    same-applied k (Bound i) b = refl
    same-applied k (Abs t c) b = let body = same-written (suc k) c in
        λ i. Applied (Binding (binder_name k) t (body i)) b NoMore

  same-readable_term : (t : Tm Name) → readable_term hs t ≡ readable_term gs t
  same-readable_term t = same-term (written hs 0 t) ∙ ap (term_text gs) (same-written 0 t)

  pub same-readable_text : (q : Sequent Name) → readable_text hs q ≡ readable_text gs q
  same-readable_text q = λ i. hyps_text (ascending (map (λ t. same-readable_term t i) q.hyps))
      ++ same-readable_term q.concl i
