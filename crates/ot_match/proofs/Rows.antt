-- Patterns and what they match, over numbers: 0 is bool, 1 the arrow and 2 the equality.
use Rattle.std.proofs.Common.{◌≡◌, ℕ, [], ◌∷◌, Option, Some, None, refl}
use Rattle.ot_logic.specs.Naming.{numbers}
use Rattle.ot_logic.specs.Trees.{Ty, TyVar, Tm, Free, Bound, App, Abs}
use Rattle.ot_logic.specs.Hol.{TypeMap, TermMap, bool_ty, fun_ty, equation}
use Rattle.ot_match.specs.Matching.{matched}

abbrev truth : Ty ℕ
truth = bool_ty numbers

abbrev endo : Ty ℕ
endo = fun_ty numbers truth truth

abbrev var : ℕ → Ty ℕ → Tm ℕ
var n t = Free (record { name = n; ty = t })

abbrev identity : Tm ℕ
identity = Abs truth (Bound 0)

abbrev answer : Type 0
answer = Option (TypeMap numbers × TermMap numbers)

-- x = x, of any type, matches J = J at its type
row-same : ◌≡◌ {A = answer} (matched numbers (equation numbers (TyVar 7) (var 8 (TyVar 7)) (var 8 (TyVar 7)))
    (equation numbers endo identity identity))
    (Some ((7, endo) ∷ [], (record { name = 8; ty = endo }, identity) ∷ []))
row-same = refl

-- it takes no two terms for one variable
row-two : ◌≡◌ {A = answer} (matched numbers (equation numbers (TyVar 7) (var 8 (TyVar 7)) (var 8 (TyVar 7)))
    (equation numbers endo identity (Abs truth (Abs truth (Bound 0))))) None
row-two = refl

-- two variables that the type part makes one take one term
row-joined : ◌≡◌ {A = answer}
    (matched numbers (equation numbers truth (App (var 7 (fun_ty numbers (TyVar 8) truth)) (var 9 (TyVar 8)))
    (App (var 7 (fun_ty numbers truth truth)) (var 9 truth)))
    (equation numbers truth (App identity (var 5 truth)) (App identity (var 6 truth)))) None
row-joined = refl

-- a variable takes no bound place
row-bound : ◌≡◌ {A = answer} (matched numbers (Abs truth (var 8 truth)) identity) None
row-bound = refl

-- but what a bound place stands at is matched with itself
row-place : ◌≡◌ {A = answer} (matched numbers (Abs (TyVar 7) (Bound 0)) identity) (Some ((7, truth) ∷ [], []))
row-place = refl

-- a variable takes a term of its own type alone
row-type : ◌≡◌ {A = answer} (matched numbers (var 8 truth) identity) None
row-type = refl
