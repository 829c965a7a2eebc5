-- The printer's written forms are of the forms, with at most 8,191 parentheses and braces open.
use Rattle.std.specs.Prelude.{◌≡◌, ◌≤◌, ◌<◌, ℕ, zero, suc, ◌+◌, ◌-◌, ◌&&◌, Bool}
use Rattle.std.specs.Prelude.{true, false, cond, List, [], ◌∷◌, ◌++◌, map, Some, Ok}
use Rattle.std.specs.Option.{option_map}
use Rattle.std.specs.List.{list_all, AllByRecursion}
use Rattle.std.proofs.Common.{refl, sym, ◌∙◌, ap, subst, arith}
use Rattle.std.proofs.lemmas.Bool.{and_parts, leb-true, and_from}
use Rattle.std.proofs.lemmas.Bool.Decides.{nat_tests}
use Rattle.std.proofs.lemmas.Int.Digits.{all_below_base_digits_of}
use Rattle.ot_logic.specs.Names.{Name}
use Rattle.ot_logic.specs.Naming.{names}
use Rattle.ot_logic.specs.Trees.{Ty, Tys, TyVar, TyOp, NoTys, MoreTys, Tm}
use Rattle.ot_logic.specs.Trees.{Free, Con, Bound, App, Abs, Symbol, ConSymbol}
use Rattle.ot_logic.specs.Hol.{fun_ty, same_ty, depth_ty, depth_all, depth_tm}
use Rattle.ot_logic.specs.Hol.{depth_limit, has_shallow_types, is_shallow_type, type_in}
use Rattle.ot_forms.specs.Words.{is_inner, is_part, is_operator, is_hidden, base}
use Rattle.ot_forms.specs.Forms.{HaveTermNames, most_open_type, most_open_types, Written}
use Rattle.ot_forms.specs.Forms.{Writtens, Place, FreeAs, ConAs, Equal, Infix, Applied, Binding}
use Rattle.ot_forms.specs.Forms.{NoMore, More, IsWritten, AreWritten, most_open, most_open_all}
use Rattle.ot_forms.specs.Meaning.{Around, types_around, relation_ty, meaning}
use Rattle.ot_text.specs.Texts.{number_text, is_equation}
use Rattle.ot_forms.specs.Printing.{binder_name, is_relation, operator_of, with_last, with_argument}
use Rattle.ot_forms.specs.Printing.{written, written_argument, applied_to, readable_term}
use Rattle.ot_forms.specs.Reading.{Reading, Got, term_at}
use Rattle.ot_forms.proofs.Readers.{Reads}
use Rattle.ot_forms.proofs.Types.{IsEnd}
use Rattle.ot_forms.proofs.Terms.{SaysConstant, IsConstantEnd}
use Rattle.ot_forms.proofs.WholeTerms.{term-reads}
use Rattle.ot_forms.specs.Words.{IsNotation}
use Rattle.ot_forms.proofs.TypeLaw.{reads}
use Rattle.ot_forms.proofs.RoundTrip.{IsFine, HasConstants, means, app-parts, abs-parts, shallow-parts}

-- ---- binders' names are parts
digit-inner : (d : ℕ) → d < 10 → is_inner (48 + d) ≡ true
digit-inner d h = grind (arith, nat_tests)

digits-inner : (ds : List ℕ) → AllByRecursion (λ d. d < 10) ds → list_all is_inner (map (λ d. 48 + d) ds) ≡ true
digits-inner [] a = refl
digits-inner (d ∷ ds) a = and_from (is_inner (48 + d)) (list_all is_inner (map (λ d. 48 + d) ds)) (digit-inner d a.0)
    (digits-inner ds a.1)

number-inner : (n : ℕ) → list_all is_inner (number_text n) ≡ true
number-inner zero = refl
number-inner (suc k) = digits-inner _ (all_below_base_digits_of 10 (suc k) (omega arith))

pub binder-part : (k : ℕ) → is_part (binder_name k) ≡ true
binder-part k = number-inner k

-- ---- names and types in a term
abbrev TypesWithin : ℕ → Tm Name → Type 0
TypesWithin d (Free v) = depth_ty names v.ty ≤ d
TypesWithin d (Con n t) = depth_ty names t ≤ d
TypesWithin d (Bound i) = Unit {0}
TypesWithin d (App f x) = TypesWithin d f × TypesWithin d x
TypesWithin d (Abs t b) = (depth_ty names t ≤ d) × TypesWithin d b

pub types-within : (l : Around) (t : Tm Name) (ty : Ty Name) → IsFine l t ty → TypesWithin depth_limit t
types-within l (Free v) ty h = leb-true (depth_ty names v.ty) depth_limit (shallow-parts l (Free v) h.shallow).1
types-within l (Con n t) ty h = leb-true (depth_ty names t) depth_limit (shallow-parts l (Con n t) h.shallow).1
types-within l (Bound i) ty h = tt
types-within l (App f x) ty h = let p = app-parts l f x ty h in
    (types-within l f (fun_ty names p.0 ty) p.1, types-within l x p.0 p.2)
types-within l (Abs t b) ty h =
    let p = abs-parts l [] t b ty h in
    let q = and_parts (is_shallow_type names (type_in names (types_around l) (Abs t b)))
    (has_shallow_types names (t ∷ types_around l) b) (shallow-parts l (Abs t b) h.shallow).1 in
    let s : is_shallow_type names (Some (fun_ty names t p.0)) ≡ true =
    ap (λ o. is_shallow_type names o) (sym (abs_type p.1.typed)) ∙ q.0 in
    let k : depth_ty names (fun_ty names t p.0) ≤ depth_limit =
    leb-true (depth_ty names (fun_ty names t p.0)) depth_limit s in
    (omega (arith, k), types-within (([], t) ∷ l) b p.0 p.1)
  where
    abs_type : {d : Ty Name} → type_in names (t ∷ types_around l) b ≡ Some d
        → type_in names (types_around l) (Abs t b) ≡ Some (fun_ty names t d)
    abs_type {d} e = ap (λ o. option_map (fun_ty names t) o) e

-- ---- open parentheses
mutual
  open-depth : (t : Ty Name) → suc (most_open_type t) ≤ depth_ty names t
  open-depth (TyVar n) = omega arith
  open-depth (TyOp n NoTys) = omega arith
  open-depth (TyOp n (MoreTys a ts)) = let p = open-depth a in let q = opens-depth ts in omega (arith, p, q)

  opens-depth : (ts : Tys Name) → most_open_types ts ≤ depth_all names ts - 1
  opens-depth NoTys = omega arith
  opens-depth (MoreTys t ts) = let p = open-depth t in let q = opens-depth ts in omega (arith, p, q)

-- an application with at most so many open
pub record IsApplied (w : Written) (n : ℕ) : Type 0 where
  pub head : Written
  pub argument : Written
  pub more : Writtens
  pub is : w ≡ Applied head argument more
  pub fine : IsWritten (Applied head argument more)
  pub within : most_open (Applied head argument more) ≤ suc n

last-open : (more : Writtens) (b : Written) (n : ℕ) → most_open_all more ≤ n → most_open b ≤ n
    → most_open_all (with_last more b) ≤ n
last-open NoMore b n h k = omega arith
last-open (More a more) b n h k = let w = last-open more b n (omega arith) k in omega (arith, w)

last-fine : (more : Writtens) (b : Written) → AreWritten more → IsWritten b → AreWritten (with_last more b)
last-fine NoMore b h k = (k, tt)
last-fine (More a more) b h k = (h.0, last-fine more b h.1 k)

applied-last : (w b : Written) (n : ℕ) → IsApplied w n → IsWritten b → most_open b ≤ n
    → IsApplied (with_argument w b) n
applied-last w b n h fb kb = let k = h.within in record {
  head = h.head;
  argument = h.argument;
  more = with_last h.more b;
  is = ap (λ z. with_argument z b) h.is;
  fine = (h.fine.0, h.fine.1, last-fine h.more b h.fine.2 fb);
  within = let w = last-open h.more b n (omega (arith, k)) kb in omega (arith, k, w);
}

-- a written form, and how many are open in it for a term of this depth
pub record IsPrinted (w : Written) (t : Tm Name) : Type 0 where
  pub fine : IsWritten w
  pub within : suc (most_open w) ≤ depth_tm names t + depth_limit

applied-printed : (w : Written) (t : Tm Name) (n : ℕ) → IsApplied w n → suc (suc n) ≤ depth_tm names t + depth_limit
    → IsPrinted w t
applied-printed w t n h k = record {
  fine = subst IsWritten (sym h.is) h.fine;
  within = let e = ap most_open h.is in
      let q = h.within in omega (arith, e, q, k);
}

module _ (hidden : List (Symbol Name)) where
  abbrev ArgumentPrinted : ℕ → Tm Name → Type 0
  ArgumentPrinted k (App g a) = IsPrinted (written hidden k a) a
  ArgumentPrinted k _ = Unit {0}

  equal-printed : (k : ℕ) (f x : Tm Name) → is_equation names (App f x) ≡ true → ArgumentPrinted k f
      → IsPrinted (written hidden k x) x → IsPrinted (Equal (written_argument hidden k f) (written hidden k x))
      (App f x)
  equal-printed k (App g a) x e p q =
      record { fine = (p.fine, q.fine); within = let k1 = p.within in let k2 = q.within in omega (arith, k1, k2) }
  equal-printed k (Free v) x e p q = cc
  equal-printed k (Con n t) x e p q = cc
  equal-printed k (Bound i) x e p q = cc
  equal-printed k (Abs t b) x e p q = cc

  infix-printed : (k : ℕ) (f x : Tm Name) → is_relation hidden f ≡ true → ArgumentPrinted k f
      → IsPrinted (written hidden k x) x
      → IsPrinted (Infix (operator_of f) (written_argument hidden k f) (written hidden k x)) (App f x)
  infix-printed k (App (Con n t) a) x e p q =
      let s = and_parts (is_hidden hidden (ConSymbol n)) (is_operator (base n) && same_ty names t relation_ty) e in
      record {
        fine = ((and_parts (is_operator (base n)) (same_ty names t relation_ty) s.1).0, p.fine, q.fine);
        within = let k1 = p.within in let k2 = q.within in omega (arith, k1, k2);
      }
  infix-printed k (Free v) x e p q = cc
  infix-printed k (Con n t) x e p q = cc
  infix-printed k (Bound i) x e p q = cc
  infix-printed k (Abs t b) x e p q = cc
  infix-printed k (App (Free v) a) x e p q = cc
  infix-printed k (App (Bound i) a) x e p q = cc
  infix-printed k (App (App g b) a) x e p q = cc
  infix-printed k (App (Abs t b) a) x e p q = cc

  app-printed : (k : ℕ) (f x : Tm Name) → ArgumentPrinted k f → IsPrinted (written hidden k x) x
      → IsPrinted (applied_to hidden k f (written hidden k x)) (App f x)
      → IsPrinted (written hidden k (App f x)) (App f x)
  app-printed k f x p q r = equals (is_equation names (App f x)) refl where
    relates : (t : Bool) → is_relation hidden f ≡ t
        → IsPrinted (cond t (Infix (operator_of f) (written_argument hidden k f) (written hidden k x))
        (applied_to hidden k f (written hidden k x))) (App f x)
    relates true e = infix-printed k f x e p q
    relates false e = r

    equals : (t : Bool) → is_equation names (App f x) ≡ t
        → IsPrinted (cond t (Equal (written_argument hidden k f) (written hidden k x))
        (cond (is_relation hidden f) (Infix (operator_of f) (written_argument hidden k f) (written hidden k x))
        (applied_to hidden k f (written hidden k x)))) (App f x)
    equals true e = equal-printed k f x e p q
    equals false e = relates (is_relation hidden f) refl

  alone : (w b : Written) (f : Tm Name) (n : ℕ) → IsPrinted w f → IsWritten b → most_open b ≤ n
      → depth_tm names f + depth_limit ≤ suc n → IsApplied (Applied w b NoMore) n
  alone w b f n p fb kb h =
      record {
        head = w;
        argument = b;
        more = NoMore;
        is = refl;
        fine = (p.fine, fb, tt);
        within = let k = p.within in
            omega (arith, k, kb, h);
      }

  mutual
    pub printed : (t : Tm Name) (k : ℕ) → HaveTermNames t → TypesWithin depth_limit t
        → IsPrinted (written hidden k t) t
    printed (Free v) k hn ht = record { fine = hn; within = let p = open-depth v.ty in omega (arith, p, ht) }
    printed (Con n t) k hn ht = record { fine = hn; within = let p = open-depth t in omega (arith, p, ht) }
    printed (Bound i) k hn ht = record { fine = binder-part (k - suc i); within = omega arith }
    printed (Abs t b) k hn ht = let p = printed b (suc k) hn.1 ht.1 in let q = open-depth t in let d = ht.0 in
        record { fine = (binder-part k, hn.0, p.fine); within = let w = p.within in omega (arith, w, q, d) }
    printed (App f x) k hn ht =
        let q = printed x k hn.1 ht.1 in
        let n = (depth_tm names (App f x) + depth_limit) - 2 in
        let w = q.within in
        app-printed k f x (argument-printed f k hn.0 ht.0) q
        (applied-printed (applied_to hidden k f (written hidden k x)) (App f x) n
        (spine f k hn.0 ht.0 (printed f k hn.0 ht.0) (written hidden k x) n q.fine (omega (arith, w))
        (omega arith)) (omega arith))

    argument-printed : (f : Tm Name) (k : ℕ) → HaveTermNames f → TypesWithin depth_limit f → ArgumentPrinted k f
    argument-printed (App g a) k hn ht = printed a k hn.1 ht.1
    argument-printed (Free v) k hn ht = tt
    argument-printed (Con n t) k hn ht = tt
    argument-printed (Bound i) k hn ht = tt
    argument-printed (Abs t b) k hn ht = tt

    spine : (f : Tm Name) (k : ℕ) → HaveTermNames f → TypesWithin depth_limit f → IsPrinted (written hidden k f) f
        → (b : Written) (n : ℕ) → IsWritten b → most_open b ≤ n → depth_tm names f + depth_limit ≤ suc n
        → IsApplied (applied_to hidden k f b) n
    spine (App g z) k hn ht p b n fb kb h =
        let q = printed z k hn.1 ht.1 in let w = q.within in
        applied-last (applied_to hidden k g (written hidden k z)) b n
        (spine g k hn.0 ht.0 (printed g k hn.0 ht.0) (written hidden k z) n q.fine (omega (arith, w, h))
        (omega (arith, h))) fb kb
    spine (Free v) k hn ht p b n fb kb h = alone (FreeAs v.name v.ty) b (Free v) n p fb kb h
    spine (Con m t) k hn ht p b n fb kb h = alone (ConAs m t) b (Con m t) n p fb kb h
    spine (Bound i) k hn ht p b n fb kb h = alone (Place (binder_name (k - suc i))) b (Bound i) n p fb kb h
    spine (Abs t c) k hn ht p b n fb kb h =
        alone (Binding (binder_name k) t (written hidden (suc k) c)) b (Abs t c) n p fb kb h

  -- ---- the readable text of a term is read as its written form, which stands for the term
  module _ (nt : IsNotation hidden) (constants : HasConstants hidden) (constant_at : List ℕ → Reading Name)
      (hc : Reads (SaysConstant hidden) IsConstantEnd constant_at) where
    pub record ReadsBack (t : Tm Name) (r : List ℕ) : Type 0 where
      pub form : Written
      pub read : term_at hidden constant_at 8192 (readable_term hidden t ++ r) ≡ Got form r
      pub meant : (k : ℕ) → meaning hidden [] false k form ≡ Ok t

    pub reads-back : (t : Tm Name) (ty : Ty Name) → HaveTermNames t → IsFine [] t ty → (r : List ℕ) → IsEnd r
        → ReadsBack t r
    reads-back t ty hn h r e =
        let p = printed t 0 hn (types-within [] t ty h) in
        let d : depth_tm names t ≤ depth_limit =
        leb-true (depth_tm names t) depth_limit (shallow-parts [] t h.shallow).0 in
        let w = p.within in
        record {
          form = written hidden 0 t;
          read = (term-reads hidden constant_at hc (reads hidden nt) 8192).complete (written hidden 0 t)
              (readable_term hidden t) r (record { text = refl; fine = p.fine; within = omega (arith, w, d) }) e;
          meant = λ k. means hidden constants t [] ty tt h false k refl;
        }
