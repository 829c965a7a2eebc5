-- The written form that the printer chooses for a term stands for that term.
use Rattle.std.specs.Prelude.{◌≡◌, ◌≤◌, ◌<◌, ℕ, zero, suc, ◌+◌, ◌-◌, ◌||◌, ◌&&◌, not, nat_le, Bool, true}
use Rattle.std.specs.Prelude.{false, cond, max, List, [], ◌∷◌, length, Option, Some, None, Ok, is_some}
use Rattle.std.specs.Option.{option_map, unwrap_or}
use Rattle.std.proofs.Common.{refl, sym, ◌∙◌, ap, subst, arith}
use Rattle.std.proofs.lemmas.List.{length-map}
use Rattle.std.specs.Bool.{Decides}
use Rattle.std.proofs.lemmas.Slice.Eq.{bytes_eq-Decides}
use Rattle.std.proofs.lemmas.Option.{slice_get_within}
use Rattle.std.proofs.lemmas.Bool.{and_parts, leb-true, le-leb}
use Rattle.ot_logic.specs.Answers.{◌>>=◌, some_or}
use Rattle.ot_logic.specs.Names.{Name}
use Rattle.ot_logic.specs.Naming.{names}
use Rattle.ot_logic.specs.Trees.{Ty, Tm, Free, Con, Bound, App, Abs, Symbol, ConSymbol}
use Rattle.ot_logic.specs.Hol.{fun_ty, bool_ty, type_in, same_ty, equation, as_equation}
use Rattle.ot_logic.specs.Hol.{depth_tm, depth_limit, has_shallow_types, is_shallow_type}
use Rattle.ot_laws.proofs.Tests.{tells_names, same_ty-is}
use Rattle.ot_laws.proofs.Typing.{abs-some, applied-some}
use Rattle.ot_laws.proofs.Equations.{as_equation-some}
use Rattle.ot_forms.specs.declared.fault.TextFault.TheVariants.{Unbound, UnknownOperator, BadTypes, TooDeep}
use Rattle.ot_forms.specs.Words.{same_text, is_operator, is_hidden, base}
use Rattle.ot_forms.specs.Forms.{Written, Writtens, Equal, Infix, Applied, NoMore, More, type_text, term_text}
use Rattle.ot_forms.specs.Meaning.{Around, types_around, place_of, constant_of, has_type, is_typed, fits}
use Rattle.ot_forms.specs.Meaning.{check, whole, relation_ty, equated, are_alike, meaning, meaning_applied}
use Rattle.ot_text.specs.Texts.{number_text, is_equation}
use Rattle.ot_forms.specs.Printing.{binder_name, is_relation, operator_of, with_last}
use Rattle.ot_forms.specs.Printing.{with_argument, written, written_argument, applied_to}
use Rattle.ot_text.proofs.Numbers.{number-same}

abbrev type_under : Around → Tm Name → Option (Ty Name)
type_under l t = type_in names (types_around l) t

-- ---- binders named by their depth
abbrev pub IsNumbered : Around → Type 0
IsNumbered [] = Unit {0}
IsNumbered (b ∷ l) = (b.0 ≡ binder_name (length l)) × IsNumbered l

-- the constants that are read by their operator words
abbrev pub HasConstants : List (Symbol Name) → Type 0
HasConstants hidden = (n : Name) → is_hidden hidden (ConSymbol n) ≡ true → constant_of hidden (base n) ≡ Some n

-- within the nesting limit, with this type
pub record IsFine (l : Around) (t : Tm Name) (ty : Ty Name) : Type 0 where
  pub typed : type_under l t ≡ Some ty
  pub shallow : fits l t ≡ true

-- a proposition where one is wanted
abbrev IsWanted : Bool → Ty Name → Type 0
IsWanted wanted ty = (not wanted || same_ty names ty (bool_ty names)) ≡ true

-- the written form stands for the term wherever it begins
abbrev pub Means : List (Symbol Name) → Around → Written → Tm Name → Ty Name → Type 0
Means hidden l w t ty = (wanted : Bool) (k : ℕ) → IsWanted wanted ty → meaning hidden l wanted k w ≡ Ok t

same-ty : (a b : Ty Name) → a ≡ b → same_ty names a b ≡ true
same-ty a b e = (same_ty-is names tells_names a b).1 e

whole-ok : (l : Around) (wanted : Bool) (k : ℕ) (t : Tm Name) (ty : Ty Name) → IsFine l t ty → IsWanted wanted ty
    → whole l wanted k t ≡ Ok t
whole-ok l wanted k t ty h w =
    let e : (not wanted || has_type l t (bool_ty names)) ≡ true =
    ap (λ o. not wanted || same_ty names (unwrap_or o (bool_ty names)) (bool_ty names)) h.typed ∙ w in
    ap (λ b. check k BadTypes b >>= λ _. (check k TooDeep (fits l t) >>= λ _. Ok t)) e
    ∙ ap (λ b. check k TooDeep b >>= λ _. Ok t) h.shallow

pub shallow-parts : (l : Around) (t : Tm Name) → fits l t ≡ true → (nat_le (depth_tm names t) depth_limit ≡ true)
    × (has_shallow_types names (types_around l) t ≡ true)
shallow-parts l t h = and_parts (nat_le (depth_tm names t) depth_limit) (has_shallow_types names (types_around l) t) h

fits-of : (l : Around) (t : Tm Name) → depth_tm names t ≤ depth_limit → has_shallow_types names (types_around l) t
    ≡ true → fits l t ≡ true
fits-of l t h k = λ i. le-leb (depth_tm names t) depth_limit h i && k i

-- ---- parts of a fine term
pub app-parts : (l : Around) (f x : Tm Name) (c : Ty Name) → IsFine l (App f x) c
    → (a : Ty Name) × IsFine l f (fun_ty names a c) × IsFine l x a
app-parts l f x c h =
    let e = applied-some names tells_names (type_under l f) (type_under l x) c h.typed in
    let p = shallow-parts l (App f x) h.shallow in
    let d : suc (max (depth_tm names f) (depth_tm names x)) ≤ depth_limit =
    leb-true (depth_tm names (App f x)) depth_limit p.0 in
    let q = and_parts (is_shallow_type names (type_under l (App f x)))
    (has_shallow_types names (types_around l) f && has_shallow_types names (types_around l) x) p.1 in
    let r = and_parts (has_shallow_types names (types_around l) f) (has_shallow_types names (types_around l) x) q.1 in (
      e.0,
      record { typed = e.1; shallow = fits-of l f (omega arith) r.0 },
      record { typed = e.2; shallow = fits-of l x (omega arith) r.1 },
    )

pub abs-parts : (l : Around) (name : List ℕ) (t : Ty Name) (b : Tm Name) (c : Ty Name) → IsFine l (Abs t b) c
    → (d : Ty Name) × IsFine ((name, t) ∷ l) b d
abs-parts l name t b c h =
    let e = abs-some names t (type_in names (t ∷ types_around l) b) c h.typed in
    let p = shallow-parts l (Abs t b) h.shallow in
    let d : suc (depth_tm names b) ≤ depth_limit = leb-true (depth_tm names (Abs t b)) depth_limit p.0 in
    let q = and_parts (is_shallow_type names (type_under l (Abs t b)))
    (has_shallow_types names (t ∷ types_around l) b) p.1 in
    (e.0, record { typed = e.1; shallow = fits-of ((name, t) ∷ l) b (omega arith) q.1 })

-- ---- the place of a numbered binder
same-text : (x y : List ℕ) → Decides (same_text x y) (x ≡ y)
same-text x y = bytes_eq-Decides x y

binder-same : (m n : ℕ) → binder_name m ≡ binder_name n → m ≡ n
binder-same m n e = number-same m n (let q : number_text m ≡ number_text n = cc in q)

place-numbered : (l : Around) → IsNumbered l → (i : ℕ) → i < length l → place_of l (binder_name (length l - suc i))
    ≡ Some i
place-numbered [] h i k = absurd (omega arith)
place-numbered (b ∷ l) h zero k =
    let e : length (b ∷ l) - suc zero ≡ length l = omega arith in
    let q : same_text b.0 (binder_name (length (b ∷ l) - suc zero)) ≡ true =
    (same-text b.0 (binder_name (length (b ∷ l) - suc zero))).1 (h.0 ∙ ap binder_name (sym e)) in
    ap (λ t. cond t (Some 0) (option_map suc (place_of l (binder_name (length (b ∷ l) - suc zero))))) q
place-numbered (b ∷ l) h (suc i) k =
    let n = length (b ∷ l) - suc (suc i) in
    let e : n ≡ length l - suc i = omega arith in
    ap (λ t. cond t (Some 0) (option_map suc (place_of l (binder_name n))))
    (other (same_text b.0 (binder_name n)) refl)
    ∙ ap (λ m. option_map suc (place_of l (binder_name m))) e
    ∙ ap (option_map suc) (place-numbered l h.1 i (omega arith))
  where
    other : (t : Bool) → same_text b.0 (binder_name (length (b ∷ l) - suc (suc i))) ≡ t → t ≡ false
    other true q = let w = binder-same (length l) (length (b ∷ l) - suc (suc i))
        (sym h.0 ∙ (same-text b.0 (binder_name (length (b ∷ l) - suc (suc i)))).0 q) in absurd (omega arith)
    other false q = refl

-- ---- a function applied to arguments, one after another
abbrev AppliesTo : List (Symbol Name) → Around → Tm Name → Tm Name → Writtens → Tm Name → Type 0
AppliesTo hidden l g x NoMore f = (f ≡ App g x) × (is_typed l (App g x) ≡ true) × (fits l (App g x) ≡ true)
AppliesTo hidden l g x (More c cs) f = (is_typed l (App g x) ≡ true) × (fits l (App g x) ≡ true) × (y : Tm Name)
    × ((k : ℕ) → meaning hidden l false k c ≡ Ok y) × AppliesTo hidden l (App g x) y cs f

applies-last : (hidden : List (Symbol Name)) (l : Around) (more : Writtens) (g x f y : Tm Name) (b : Written)
    → AppliesTo hidden l g x more f → ((k : ℕ) → meaning hidden l false k b ≡ Ok y) → is_typed l (App f y) ≡ true
    → fits l (App f y) ≡ true
    → AppliesTo hidden l g x (with_last more b) (App f y)
applies-last hidden l NoMore g x f y b h m p q = (
  h.1,
  h.2,
  y,
  m,
  (
    ap (λ z. App z y) h.0,
    subst (λ z. is_typed l (App z y) ≡ true) h.0 p,
    subst
        (λ z. fits l (App z y) ≡ true) h.0 q,
  ),
)
applies-last hidden l (More c cs) g x f y b h m p q =
    (h.0, h.1, h.2, h.3, applies-last hidden l cs (App g x) h.2 f y b h.4 m p q)

-- what is wanted of the whole is asked at the last argument alone
applies-ok : (hidden : List (Symbol Name)) (l : Around) (wanted : Bool) (more : Writtens) (g x f : Tm Name)
    (ty : Ty Name) → AppliesTo hidden l g x more f → type_under l f ≡ Some ty → IsWanted wanted ty → (k i : ℕ)
    → meaning_applied hidden l wanted k i g x more ≡ Ok f
applies-ok hidden l wanted NoMore g x f ty h t w k i =
    ap (λ b. check k BadTypes b >>= λ _. whole l wanted k (App g x)) h.1
    ∙ whole-ok l wanted k (App g x) ty (record { typed = ap (type_under l) (sym h.0) ∙ t; shallow = h.2 }) w
    ∙ ap Ok (sym h.0)
applies-ok hidden l wanted (More c cs) g x f ty h t w k i =
    ap (λ b. check k BadTypes b
    >>= λ _. (whole l false k (App g x)
    >>= λ z. (meaning hidden l false i c >>= λ y. meaning_applied hidden l wanted k
    (i + 1 + length (term_text hidden c)) z y cs))) h.0
    ∙ ap (λ o. o
    >>= λ z. (meaning hidden l false i c >>= λ y. meaning_applied hidden l wanted k
    (i + 1 + length (term_text hidden c)) z y cs)) (ap (λ b. check k TooDeep b >>= λ _. Ok (App g x)) h.1)
    ∙ ap (λ o. o >>= λ y. meaning_applied hidden l wanted k (i + 1 + length (term_text hidden c)) (App g x) y cs)
    (h.3 i)
    ∙ applies-ok hidden l wanted cs (App g x) h.2 f ty h.4 t w k (i + 1 + length (term_text hidden c))

-- a written application: its head and its first argument, and the term that it makes
pub record IsSpine (hidden : List (Symbol Name)) (l : Around) (w : Written) (f : Tm Name) : Type 0 where
  pub head : Written
  pub argument : Written
  pub more : Writtens
  pub g : Tm Name
  pub x : Tm Name
  pub is : w ≡ Applied head argument more
  pub head_means : (k : ℕ) → meaning hidden l false k head ≡ Ok g
  pub argument_means : (k : ℕ) → meaning hidden l false k argument ≡ Ok x
  pub makes : AppliesTo hidden l g x more f

spine-last : (hidden : List (Symbol Name)) (l : Around) (w b : Written) (f y : Tm Name) → IsSpine hidden l w f
    → ((k : ℕ) → meaning hidden l false k b ≡ Ok y) → is_typed l (App f y) ≡ true → fits l (App f y) ≡ true
    → IsSpine hidden l (with_argument w b) (App f y)
spine-last hidden l w b f y h m p q = record {
  head = h.head;
  argument = h.argument;
  more = with_last h.more b;
  g = h.g;
  x = h.x;
  is = ap (λ z. with_argument z b) h.is;
  head_means = h.head_means;
  argument_means = h.argument_means;
  makes = applies-last hidden l h.more h.g h.x f y b h.makes m p q;
}

spine-means : (hidden : List (Symbol Name)) (l : Around) (w : Written) (f : Tm Name) (ty : Ty Name)
    → IsSpine hidden l w f → type_under l f ≡ Some ty → Means hidden l w f ty
spine-means hidden l w f ty h t wanted k q =
    ap (meaning hidden l wanted k) h.is
    ∙ ap (λ o. o
    >>= λ g. (meaning hidden l false (k + 2 + length (term_text hidden h.head)) h.argument
    >>= λ x. meaning_applied hidden l wanted k (k + 3 + length (term_text hidden h.head)
    + length (term_text hidden h.argument)) g x h.more)) (h.head_means (k + 1))
    ∙ ap (λ o. o >>= λ x. meaning_applied hidden l wanted k
    (k + 3 + length (term_text hidden h.head) + length (term_text hidden h.argument)) h.g x h.more)
    (h.argument_means (k + 2 + length (term_text hidden h.head)))
    ∙ applies-ok hidden l wanted h.more h.g h.x f ty h.makes t q k
    (k + 3 + length (term_text hidden h.head) + length (term_text hidden h.argument))

typed-is : (l : Around) (t : Tm Name) (ty : Ty Name) → type_under l t ≡ Some ty → is_typed l t ≡ true
typed-is l t ty h = ap (λ o. elim o [ None ↦ false | Some u ↦ true ]) h

-- ---- equations
equation-means : (hidden : List (Symbol Name)) (l : Around) (v w : Written) (a b : Tm Name) (ty : Ty Name)
    → IsFine l a ty → IsFine l b ty → Means hidden l v a ty → Means hidden l w b ty → IsFine l (equation names ty a b)
    (bool_ty names) → Means hidden l (Equal v w) (equation names ty a b) (bool_ty names)
equation-means hidden l v w a b ty fa fb ha hb h wanted k q =
    ap (λ o. o
    >>= λ x. (meaning hidden l false (k + 4 + length (term_text hidden v)) w >>= λ y.
    (check k BadTypes (are_alike l x y) >>= λ _. whole l wanted k (equated l x y)))) (ha false (k + 1) refl)
    ∙ ap (λ o. o >>= λ y. (check k BadTypes (are_alike l a y) >>= λ _. whole l wanted k (equated l a y)))
    (hb false (k + 4 + length (term_text hidden v)) refl)
    ∙ ap (λ t. check k BadTypes t >>= λ _. whole l wanted k (equated l a b)) alike
    ∙ ap (λ o. whole l wanted k (equation names (unwrap_or o (bool_ty names)) a b)) fa.typed
    ∙ whole-ok l wanted k (equation names ty a b) (bool_ty names) h q
  where
    alike : are_alike l a b ≡ true
    alike = (λ i. same_ty names (unwrap_or (fb.typed i) (bool_ty names)) (unwrap_or (fa.typed i) (bool_ty names)))
        ∙ same-ty ty ty refl

-- ---- relations
relation-means : (hidden : List (Symbol Name)) (l : Around) (v w : Written) (n : Name) (a b : Tm Name)
    → HasConstants hidden → is_hidden hidden (ConSymbol n) ≡ true → Means hidden l v a (bool_ty names)
    → Means hidden l w b (bool_ty names)
    → IsFine l (App (App (Con n relation_ty) a) b) (bool_ty names)
    → Means hidden l (Infix (base n) v w) (App (App (Con n relation_ty) a) b) (bool_ty names)
relation-means hidden l v w n a b hc hn ha hb h wanted k q =
    ap (λ o. o
    >>= λ x. (meaning hidden l true (k + 3 + length (term_text hidden v) + length (base n)) w
    >>= λ y. (some_or (k, UnknownOperator) (constant_of hidden (base n))
    >>= λ m. whole l wanted k (App (App (Con m relation_ty) x) y)))) (ha true (k + 1) refl)
    ∙ ap (λ o. o >>= λ y. (some_or (k, UnknownOperator) (constant_of hidden (base n)) >>= λ m. whole l wanted k
    (App (App (Con m relation_ty) a) y))) (hb true (k + 3 + length (term_text hidden v) + length (base n)) refl)
    ∙ ap (λ o. some_or (k, UnknownOperator) o >>= λ m. whole l wanted k (App (App (Con m relation_ty) a) b)) (hc n hn)
    ∙ whole-ok l wanted k (App (App (Con n relation_ty) a) b) (bool_ty names) h q

-- ---- every term
module _ (hidden : List (Symbol Name)) (constants : HasConstants hidden) where
  -- what a function was applied to is fine, and its written form stands for it
  abbrev ArgumentMeans : Around → Tm Name → Type 0
  ArgumentMeans l (App g a) = (ty : Ty Name) × IsFine l a ty × Means hidden l (written hidden (length l) a) a ty
  ArgumentMeans l _ = Unit {0}

  abbrev equality_ty : Ty Name → Ty Name
  equality_ty u = fun_ty names u (fun_ty names u (bool_ty names))

  one_type : (l : Around) (t : Tm Name) (a b : Ty Name) → type_under l t ≡ Some a → type_under l t ≡ Some b → a ≡ b
  one_type l t a b p q = let e : Some a ≡ Some b = sym p ∙ q in cc

  equals-case : (l : Around) (x a : Tm Name) (u xty ty : Ty Name)
      → ArgumentMeans l (App (Con names.equals (equality_ty u)) a)
      → IsFine l (App (Con names.equals (equality_ty u)) a) (fun_ty names xty ty) → IsFine l x xty
      → Means hidden l (written hidden (length l) x) x xty
      → IsFine l (equation names u a x) ty → Means hidden l
      (Equal (written hidden (length l) a) (written hidden (length l) x)) (equation names u a x) ty
  equals-case l x a u xty ty (aty, af, am) hf xf xm h =
      let p = app-parts l (Con names.equals (equality_ty u)) a (fun_ty names xty ty) hf in
      let e : Some (equality_ty u) ≡ Some (fun_ty names p.0 (fun_ty names xty ty)) = p.1.typed in
      let e0 : u ≡ p.0 = cc in
      let e1 : u ≡ xty = cc in
      let e2 : bool_ty names ≡ ty = cc in
      let ea : aty ≡ u = one_type l a aty p.0 af.typed p.2.typed ∙ sym e0 in
      subst (Means hidden l (Equal (written hidden (length l) a) (written hidden (length l) x))
      (equation names u a x)) e2
      (equation-means hidden l (written hidden (length l) a) (written hidden (length l) x) a x u
      (subst (IsFine l a) ea af) (subst (IsFine l x) (sym e1) xf)
      (subst (Means hidden l (written hidden (length l) a) a) ea am)
      (subst (Means hidden l (written hidden (length l) x) x) (sym e1) xm)
      (subst (IsFine l (equation names u a x)) (sym e2) h))

  relation-case : (l : Around) (f x : Tm Name) (xty ty : Ty Name) → is_relation hidden f ≡ true → ArgumentMeans l f
      → IsFine l f (fun_ty names xty ty) → IsFine l x xty → Means hidden l (written hidden (length l) x) x xty
      → IsFine l (App f x) ty → Means hidden l
      (Infix (operator_of f) (written_argument hidden (length l) f) (written hidden (length l) x)) (App f x) ty
  relation-case l (App (Con n t) a) x xty ty r (aty, af, am) hf xf xm h =
      let p = app-parts l (Con n t) a (fun_ty names xty ty) hf in
      let s = and_parts (is_hidden hidden (ConSymbol n)) (is_operator (base n) && same_ty names t relation_ty) r in
      let q = and_parts (is_operator (base n)) (same_ty names t relation_ty) s.1 in
      let et : t ≡ relation_ty = (same_ty-is names tells_names t relation_ty).0 q.1 in
      let e : Some relation_ty ≡ Some (fun_ty names p.0 (fun_ty names xty ty)) = ap Some (sym et) ∙ p.1.typed in
      let e0 : bool_ty names ≡ p.0 = cc in
      let e1 : bool_ty names ≡ xty = cc in
      let e2 : bool_ty names ≡ ty = cc in
      let ea : aty ≡ bool_ty names = one_type l a aty p.0 af.typed p.2.typed ∙ sym e0 in
      at_type n t et a x ty e2 s.0 (subst (Means hidden l (written hidden (length l) a) a) ea am)
      (subst (Means hidden l (written hidden (length l) x) x) (sym e1) xm) h
    where
      at_type : (n : Name) (t : Ty Name) → t ≡ relation_ty → (a x : Tm Name) (ty : Ty Name) → bool_ty names ≡ ty
          → is_hidden hidden (ConSymbol n) ≡ true → Means hidden l (written hidden (length l) a) a (bool_ty names)
          → Means hidden l (written hidden (length l) x) x (bool_ty names)
          → IsFine l (App (App (Con n t) a) x) ty
          → Means hidden l (Infix (base n) (written hidden (length l) a) (written hidden (length l) x))
          (App (App (Con n t) a) x) ty
      at_type n t et a x ty e2 hn am xm h =
          subst (λ z. Means hidden l (Infix (base n) (written hidden (length l) a) (written hidden (length l) x))
          (App (App (Con n z) a) x) ty) (sym et)
          (subst (Means hidden l (Infix (base n) (written hidden (length l) a) (written hidden (length l) x))
          (App (App (Con n relation_ty) a) x)) e2
          (relation-means hidden l (written hidden (length l) a) (written hidden (length l) x) n a x constants hn am
          xm
          (subst (λ z. IsFine l (App (App (Con n z) a) x) (bool_ty names)) et
          (subst (IsFine l (App (App (Con n t) a) x)) (sym e2) h))))
  relation-case l (Free v) x xty ty r am hf xf xm h = cc
  relation-case l (Con n t) x xty ty r am hf xf xm h = cc
  relation-case l (Bound i) x xty ty r am hf xf xm h = cc
  relation-case l (Abs t b) x xty ty r am hf xf xm h = cc
  relation-case l (App (Free v) a) x xty ty r am hf xf xm h = cc
  relation-case l (App (Bound i) a) x xty ty r am hf xf xm h = cc
  relation-case l (App (App g b) a) x xty ty r am hf xf xm h = cc
  relation-case l (App (Abs t b) a) x xty ty r am hf xf xm h = cc

  app-means : (l : Around) (f x : Tm Name) (xty ty : Ty Name) → ArgumentMeans l f → IsFine l f (fun_ty names xty ty)
      → IsFine l x xty → Means hidden l (written hidden (length l) x) x xty
      → IsSpine hidden l (applied_to hidden (length l) f (written hidden (length l) x)) (App f x)
      → IsFine l (App f x) ty → Means hidden l (written hidden (length l) (App f x)) (App f x) ty
  app-means l f x xty ty am hf xf xm sp h = equals (is_equation names (App f x)) refl where
    relates : (t : Bool) → is_relation hidden f ≡ t
        → Means hidden l
        (cond t (Infix (operator_of f) (written_argument hidden (length l) f) (written hidden (length l) x))
        (applied_to hidden (length l) f (written hidden (length l) x))) (App f x) ty
    relates true e = relation-case l f x xty ty e am hf xf xm h
    relates false e = spine-means hidden l (applied_to hidden (length l) f (written hidden (length l) x)) (App f x) ty
        sp h.typed

    sides : (o : Option (Ty Name × Tm Name × Tm Name)) → as_equation names (App f x) ≡ o → is_some o ≡ true
        → Means hidden l (Equal (written_argument hidden (length l) f) (written hidden (length l) x)) (App f x) ty
    sides None e k = cc
    sides (Some w) e k =
        let whole : App f x ≡ equation names w.0 w.1 w.2 =
        as_equation-some names tells_names (App f x) w.0 w.1 w.2 e in
        let ef : f ≡ App (Con names.equals (equality_ty w.0)) w.1 = cc in
        let ex : x ≡ w.2 = cc in
        let ew : equation names w.0 w.1 x ≡ App f x = ap (λ z. App z x) (sym ef) in
        let base = equals-case l x w.1 w.0 xty ty (subst (ArgumentMeans l) ef am)
        (subst (λ z. IsFine l z (fun_ty names xty ty)) ef hf) xf xm (subst (λ z. IsFine l z ty) (sym ew) h) in
        subst (λ z. Means hidden l (Equal (written_argument hidden (length l) z) (written hidden (length l) x))
        (App z x) ty) (sym ef) base

    equals : (t : Bool) → is_equation names (App f x) ≡ t
        → Means hidden l
        (cond t (Equal (written_argument hidden (length l) f) (written hidden (length l) x))
        (cond (is_relation hidden f) (Infix (operator_of f) (written_argument hidden (length l) f)
        (written hidden (length l) x)) (applied_to hidden (length l) f (written hidden (length l) x)))) (App f x) ty
    equals true e = sides (as_equation names (App f x)) refl e
    equals false e = relates (is_relation hidden f) refl

  within : (l : Around) (i : ℕ) (ty : Ty Name) → type_under l (Bound i) ≡ Some ty → i < length l
  within l i ty h = let k = slice_get_within (types_around l) i ty h in let e = length-map l (λ b. b.1) in
      omega (arith, k, e)

  alone : (l : Around) (f : Tm Name) (ty : Ty Name) → Means hidden l (written hidden (length l) f) f ty
      → (b : Written) (y : Tm Name) → ((k : ℕ) → meaning hidden l false k b ≡ Ok y) → is_typed l (App f y) ≡ true
      → fits l (App f y) ≡ true
      → IsSpine hidden l (Applied (written hidden (length l) f) b NoMore) (App f y)
  alone l f ty fm b y m tp ft =
      record {
        head = written hidden (length l) f;
        argument = b;
        more = NoMore;
        g = f;
        x = y;
        is = refl;
        head_means = λ k. fm false k refl;
        argument_means = m;
        makes = (refl, tp, ft);
      }

  mutual
    pub means : (t : Tm Name) (l : Around) (ty : Ty Name) → IsNumbered l → IsFine l t ty
        → Means hidden l (written hidden (length l) t) t ty
    means (Free v) l ty num h = λ wanted k q. whole-ok l wanted k (Free v) ty h q
    means (Con n t) l ty num h = λ wanted k q. whole-ok l wanted k (Con n t) ty h q
    means (Bound i) l ty num h = λ wanted k q. ap (λ o. some_or (k, Unbound) o >>= λ j. whole l wanted k (Bound j))
        (place-numbered l num i (within l i ty h.typed)) ∙ whole-ok l wanted k (Bound i) ty h q
    means (Abs t b) l ty num h =
        let p = abs-parts l (binder_name (length l)) t b ty h in
        let ih = means b ((binder_name (length l), t) ∷ l) p.0 (refl, num) p.1 in
        λ wanted k q. ap (λ o. o >>= λ c. whole l wanted k (Abs t c))
        (ih false (k + 8 + length (binder_name (length l)) + length (type_text hidden t)) refl)
        ∙ whole-ok l wanted k (Abs t b) ty h q
    means (App f x) l ty num h =
        let p = app-parts l f x ty h in
        let xm = means x l p.0 num p.2 in
        app-means l f x p.0 ty (argument-means f l (fun_ty names p.0 ty) num p.1) p.1 p.2 xm
        (spine f l (fun_ty names p.0 ty) num p.1 (means f l (fun_ty names p.0 ty) num p.1)
        (written hidden (length l) x) x (λ k. xm false k refl) (typed-is l (App f x) ty h.typed) h.shallow) h

    argument-means : (f : Tm Name) (l : Around) (ty : Ty Name) → IsNumbered l → IsFine l f ty → ArgumentMeans l f
    argument-means (App g a) l ty num h = let p = app-parts l g a ty h in (p.0, p.2, means a l p.0 num p.2)
    argument-means (Free v) l ty num h = tt
    argument-means (Con n t) l ty num h = tt
    argument-means (Bound i) l ty num h = tt
    argument-means (Abs t b) l ty num h = tt

    spine : (f : Tm Name) (l : Around) (ty : Ty Name) → IsNumbered l → IsFine l f ty
        → Means hidden l (written hidden (length l) f) f ty → (b : Written) (y : Tm Name)
        → ((k : ℕ) → meaning hidden l false k b ≡ Ok y) → is_typed l (App f y) ≡ true → fits l (App f y) ≡ true
        → IsSpine hidden l (applied_to hidden (length l) f b) (App f y)
    spine (App g z) l ty num h fm b y m tp ft =
        let p = app-parts l g z ty h in
        let zm = means z l p.0 num p.2 in
        spine-last hidden l (applied_to hidden (length l) g (written hidden (length l) z)) b (App g z) y
        (spine g l (fun_ty names p.0 ty) num p.1 (means g l (fun_ty names p.0 ty) num p.1)
        (written hidden (length l) z) z (λ k. zm false k refl) (typed-is l (App g z) ty h.typed) h.shallow) m tp
        ft
    spine (Free v) l ty num h fm b y m tp ft = alone l (Free v) ty fm b y m tp ft
    spine (Con n t) l ty num h fm b y m tp ft = alone l (Con n t) ty fm b y m tp ft
    spine (Bound i) l ty num h fm b y m tp ft = alone l (Bound i) ty fm b y m tp ft
    spine (Abs t c) l ty num h fm b y m tp ft = alone l (Abs t c) ty fm b y m tp ft
