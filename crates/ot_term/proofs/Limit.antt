-- The nesting limit of named terms.
use Rattle.std.specs.Prelude.{nat_le}
use Rattle.std.specs.List.{list_all}
use Rattle.std.proofs.Common.{◌≡◌, ℕ, ◌<◌, ◌≤◌, Bool, true, false, ◌++◌, Some, refl, sym, ap, ◌∙◌, arith}
use Rattle.std.proofs.lemmas.Bool.{leb-true, le-leb, and_parts, and_from, both_ways}
use Rattle.std.proofs.lemmas.List.Folds.{list_all-append}
use Rattle.ot_logic.specs.Trees.{Ty, Variable, Named, NVar, NConst, NApp, NAbs}
use Rattle.ot_logic.specs.Hol.{depth_ty, depth_limit, is_shallow_ty, is_shallow_type}
use Rattle.ot_logic.specs.NamedTerms.{named_type, named_depth, parts}
use Rattle.ot_logic.specs.Naming.{numbers}
use Rattle.ot_laws.specs.Limits.{is_shallow_named}
use Rattle.ot_laws.proofs.Limits.{shallow-app, shallow-abs, shallow-nameless}
use Rattle.ot_laws.proofs.Tests.{tells_numbers}
use Rattle.ot_term.specs.TermTable.{is_within_limit}

-- whether the type of a term is within the limit
abbrev has_shallow_type : Named ℕ → Bool
has_shallow_type t = is_shallow_type numbers (named_type numbers t)

shallow_type : (t : Named ℕ) (ty : Ty ℕ) → named_type numbers t ≡ Some ty → depth_ty numbers ty ≤ depth_limit
    → has_shallow_type t ≡ true
shallow_type t ty h d = ap (is_shallow_type numbers) h ∙ le-leb (depth_ty numbers ty) depth_limit d

-- the limit, by the named tree
named : (t : Named ℕ) → is_within_limit t ≡ is_shallow_named numbers t
named t = shallow-nameless numbers tells_numbers t

-- the depth of a term within the limit, and the types of its parts
pub limit_parts : (t : Named ℕ) → is_within_limit t ≡ true → (named_depth numbers t ≤ depth_limit)
    × (list_all has_shallow_type (parts numbers t) ≡ true)
limit_parts t h =
    let p = and_parts (nat_le (named_depth numbers t) depth_limit) (list_all has_shallow_type (parts numbers t))
    (sym (named t) ∙ h) in
    (leb-true (named_depth numbers t) depth_limit p.0, p.1)

-- ---- what is within the limit
pub limit-variable : (v : Variable ℕ) → depth_ty numbers v.ty ≤ depth_limit → is_within_limit (NVar v) ≡ true
limit-variable v d = le-leb (depth_ty numbers v.ty) depth_limit d

pub limit-constant : (n : ℕ) (ty : Ty ℕ) → depth_ty numbers ty ≤ depth_limit → is_within_limit (NConst n ty) ≡ true
limit-constant n ty d = le-leb (depth_ty numbers ty) depth_limit d

pub limit-application : (f x : Named ℕ) (ty : Ty ℕ) → named_type numbers (NApp f x) ≡ Some ty
    → depth_ty numbers ty ≤ depth_limit → named_depth numbers (NApp f x) ≤ depth_limit → is_within_limit f ≡ true
    → is_within_limit x ≡ true → is_within_limit (NApp f x) ≡ true
limit-application f x ty h d n p q =
    named (NApp f x) ∙ shallow-app numbers f x (sym (named f) ∙ p) (sym (named x) ∙ q)
    ∙ and_from (nat_le (named_depth numbers (NApp f x)) depth_limit) _ (le-leb _ _ n)
    (shallow_type (NApp f x) ty h d)

pub limit-abstraction : (v : Variable ℕ) (b : Named ℕ) (ty : Ty ℕ) → named_type numbers (NAbs v b) ≡ Some ty
    → depth_ty numbers ty ≤ depth_limit → named_depth numbers (NAbs v b) ≤ depth_limit → is_within_limit b ≡ true
    → is_within_limit (NAbs v b) ≡ true
limit-abstraction v b ty h d n p =
    named (NAbs v b) ∙ shallow-abs numbers v b (sym (named b) ∙ p)
    ∙ and_from (nat_le (named_depth numbers (NAbs v b)) depth_limit) _ (le-leb _ _ n)
    (shallow_type (NAbs v b) ty h d)

-- ---- what passes the limit
false_from : (b : Bool) → (b ≡ true → ⊥) → b ≡ false
false_from true h = absurd (h refl)
false_from false h = refl

pub past-depth : (t : Named ℕ) → depth_limit < named_depth numbers t → is_within_limit t ≡ false
past-depth t d = false_from (is_within_limit t) (λ h. omega (arith, (limit_parts t h).0))

-- a term is the first of its parts
own_part : (t : Named ℕ) → list_all has_shallow_type (parts numbers t) ≡ true → has_shallow_type t ≡ true
own_part (NVar v) h = (and_parts (has_shallow_type (NVar v)) true h).0
own_part (NConst n t) h = (and_parts (has_shallow_type (NConst n t)) true h).0
own_part (NApp f x) h =
    (and_parts (has_shallow_type (NApp f x)) (list_all has_shallow_type (parts numbers f ++ parts numbers x)) h).0
own_part (NAbs v b) h = (and_parts (has_shallow_type (NAbs v b)) (list_all has_shallow_type (parts numbers b)) h).0

pub past-type : (t : Named ℕ) (ty : Ty ℕ) → named_type numbers t ≡ Some ty → depth_limit < depth_ty numbers ty
    → is_within_limit t ≡ false
past-type t ty h d =
    false_from (is_within_limit t) (λ k.
    let own : is_shallow_ty numbers ty ≡ true = sym (ap (is_shallow_type numbers) h)
    ∙ own_part t (limit_parts t k).1 in
    omega (arith, leb-true (depth_ty numbers ty) depth_limit own))

-- a function that passes it
pub past-function : (f x : Named ℕ) → is_within_limit f ≡ false → is_within_limit (NApp f x) ≡ false
past-function f x h =
    false_from (is_within_limit (NApp f x)) (λ k.
    let p = limit_parts (NApp f x) k in
    let inner =
    (and_parts (has_shallow_type (NApp f x)) (list_all has_shallow_type (parts numbers f ++ parts numbers x))
    p.1).1 in
    let both = and_parts (list_all has_shallow_type (parts numbers f)) (list_all has_shallow_type (parts numbers x))
    (sym (list_all-append has_shallow_type (parts numbers f) (parts numbers x)) ∙ inner) in
    both_ways (is_within_limit f) h
    (named f ∙ and_from (nat_le (named_depth numbers f) depth_limit) _ (le-leb _ _ (omega (arith, p.0))) both.0))
