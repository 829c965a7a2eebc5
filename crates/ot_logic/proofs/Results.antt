-- What is known of results and options, and of steps that may be refused.
use Rattle.std.specs.Prelude.{IsErrAnd, IfOk, OnOk, is_some}
use Rattle.std.proofs.Common.{◌≡◌, Bool, true, false, Option, Some, None, Result, Ok, Err, refl, sym, ap, ◌∙◌}
use Rattle.ot_logic.specs.Answers.{◌>>=◌, unless, some_or}

pub same_Ok : {A E : Type 0} (x y : A) → ◌≡◌ {A = Result A E} (Ok x) (Ok y) → x ≡ y
same_Ok x y h = cc

pub same_Err : {A E : Type 0} (r : Result A E) (e f : E) → IsErrAnd r (λ x. x ≡ e) → r ≡ Err f → e ≡ f
same_Err (Ok a) e f h p = cc
same_Err (Err x) e f h p = let q : x ≡ f = cc in sym h ∙ q

pub if_ok : {A E : Type 0} (r : Result A E) (P : A → Type 0) → ((x : A) → r ≡ Ok x → P x) → IfOk r P
if_ok (Ok x) P h = h x refl
if_ok (Err e) P h = tt

pub on_ok : {A E P : Type 0} (r : Result A E) → P → OnOk r P
on_ok (Ok x) p = p
on_ok (Err e) p = tt

pub on_ok-then : {A E P Q : Type 0} (r : Result A E) → (P → Q) → OnOk r P → OnOk r Q
on_ok-then (Ok x) f p = f p
on_ok-then (Err e) f p = tt

-- ---- steps one after another
pub bind-ok : {A B E : Type 0} (r : Result A E) (f : A → Result B E) (y : B) → (r >>= f) ≡ Ok y
    → (x : A) × (r ≡ Ok x) × (f x ≡ Ok y)
bind-ok (Ok x) f y h = (x, refl, h)
bind-ok (Err e) f y h = cc

pub bind-to : {A B E : Type 0} (r : Result A E) (f : A → Result B E) (x : A) (s : Result B E) → r ≡ Ok x → f x ≡ s
    → (r >>= f) ≡ s
bind-to r f x s p q = rw p q

pub bind-under : {A B E : Type 0} (r : Result A E) (f g : A → Result B E) (y : B)
    → ((x : A) → f x ≡ Ok y → g x ≡ Ok y) → (r >>= f) ≡ Ok y
    → (r >>= g) ≡ Ok y
bind-under (Ok x) f g y h p = h x p
bind-under (Err e) f g y h p = absurd (cc)

pub unless-ok : {E : Type 0} (e : E) (b : Bool) (u : Unit {0}) → unless e b ≡ Ok u → b ≡ true
unless-ok e true u h = refl
unless-ok e false u h = cc

pub some_or-ok : {A E : Type 0} (e : E) (o : Option A) (x : A) → some_or e o ≡ Ok x → o ≡ Some x
some_or-ok e (Some y) x h = ap Some (same_Ok y x h)
some_or-ok e None x h = cc

-- ---- options
pub none_from : {A : Type 0} (o : Option A) → is_some o ≡ false → o ≡ None
none_from None h = refl
none_from (Some x) h = cc

pub some_from : {A : Type 0} (o : Option A) → is_some o ≡ true → (x : A) × (o ≡ Some x)
some_from None h = cc
some_from (Some x) h = (x, refl)
