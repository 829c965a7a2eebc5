-- The values of origins of types and terms.
use Rattle.std.specs.Prelude.{◌≡◌, ◌≤◌, nat_le, Bool, true, List, [], ◌∷◌, ◌++◌, Some, Ok}
use Rattle.std.specs.List.{list_all}
use Rattle.std.proofs.Common.{refl, sym, ap, ◌∙◌, arith}
use Rattle.std.proofs.lemmas.Bool.{leb-true, le-leb, and_parts, and_from}
use Rattle.std.proofs.lemmas.List.Folds.{list_all-append}
use Rattle.ot_logic.specs.Names.{Name}
use Rattle.ot_logic.specs.Naming.{names}
use Rattle.ot_logic.specs.Trees.{Ty, Tys, TyVar, TyOp, NoTys, MoreTys, Variable, Named, NVar, NConst, NApp, NAbs}
use Rattle.ot_logic.specs.Hol.{fun_ty, depth_limit, depth_ty, depth_all, is_shallow_ty, is_shallow_type, is_shallow}
use Rattle.ot_logic.specs.NamedTerms.{nameless, named_type, named_depth, parts}
use Rattle.ot_logic.specs.Answers.{◌>>=◌}
use Rattle.ot_logic.specs.declared.command.Cmd.{Cmd}
use Rattle.ot_logic.specs.declared.command.Cmd.TheVariants as words
use Rattle.ot_laws.proofs.Tests.{tells_names}
use Rattle.ot_laws.proofs.Limits.{shallow-nameless}
use Rattle.ot_laws.proofs.Typing.{applied-some, abs-some}
use Rattle.ot_kernel.proofs.TermRules.{op-made, app-made, abs-made}
use Rattle.ot_trace.specs.Origins.{Origin, Named as NameOrigin, make_one, make_two, constant_origin, type_op_origin}
use Rattle.ot_machine.specs.Objects.{Object, Objects, name, list, type_op, a_type, constant}
use Rattle.ot_machine.specs.Objects.{variable, term, no_objects, more_objects, deepest}
use Rattle.ot_machine.specs.Places.{as_each, as_type, arguments}
use Rattle.ot_machine.specs.Makers.{maker}
use Rattle.ot_machine.specs.Values.{value, applied}
use Rattle.ot_machine.specs.Version5.{canon_ty, canon_tys, var_origin, var_term, const_term, app, lam}

-- what a word makes of operands that have values
pub one-value : (w : Cmd) (o : Origin Name) (x : Object) → value o ≡ Ok x
    → value (make_one w o) ≡ applied (maker w) (x ∷ [])
one-value w o x a = λ i. (a i >>= λ v. Ok (v ∷ [])) >>= applied (maker w)

pub two-value : (w : Cmd) (o p : Origin Name) (x y : Object) → value o ≡ Ok x → value p ≡ Ok y
    → value (make_two w o p) ≡ applied (maker w) (x ∷ y ∷ [])
two-value w o p x y a b = λ i. (a i >>= λ v. (b i >>= λ u. Ok (u ∷ [])) >>= λ us. Ok (v ∷ us)) >>= applied (maker w)

-- ---- types
abbrev pub type_objects : Tys Name → Objects
type_objects NoTys = no_objects
type_objects (MoreTys t ts) = more_objects (a_type t) (type_objects ts)

no-deeper : (ts : Tys Name) → deepest (type_objects ts) ≡ 0
no-deeper NoTys = refl
no-deeper (MoreTys t ts) = let h = no-deeper ts in omega (arith, h)

abbrev list_of : Tys Name → List (Ty Name)
list_of NoTys = []
list_of (MoreTys t ts) = t ∷ list_of ts

each-type : (ts : Tys Name) → as_each as_type (type_objects ts) ≡ Ok (list_of ts)
each-type NoTys = refl
each-type (MoreTys t ts) = ap (λ r. r >>= λ xs. Ok (t ∷ xs)) (each-type ts)

arguments-are : (ts : Tys Name) → arguments (list_of ts) ≡ ts
arguments-are NoTys = refl
arguments-are (MoreTys t ts) = ap (MoreTys t) (arguments-are ts)

op-applied : (n : Name) (ts : Tys Name) → depth_ty names (TyOp n ts) ≤ depth_limit
    → applied (maker words.OpType) (type_op n ∷ list (type_objects ts) ∷ []) ≡ Ok (a_type (TyOp n ts))
op-applied n ts h = rw (each-type ts, arguments-are ts, op-made names n ts h) refl

cons-applied : (t : Ty Name) (ts : Tys Name) → applied (maker words.Cons) (a_type t ∷ list (type_objects ts) ∷ [])
    ≡ Ok (list (type_objects (MoreTys t ts)))
cons-applied t ts = rw (no-deeper ts) refl

mutual
  pub ty-value : (t : Ty Name) → depth_ty names t ≤ depth_limit → value (canon_ty t) ≡ Ok (a_type t)
  ty-value (TyVar n) h = refl
  ty-value (TyOp n ts) h = two-value words.OpType (type_op_origin (NameOrigin n)) (canon_tys ts) (type_op n)
      (list (type_objects ts)) refl (tys-value ts (omega (arith, h))) ∙ op-applied n ts h

  tys-value : (ts : Tys Name) → depth_all names ts ≤ depth_limit → value (canon_tys ts) ≡ Ok (list (type_objects ts))
  tys-value NoTys h = refl
  tys-value (MoreTys t ts) h = two-value words.Cons (canon_ty t) (canon_tys ts) (a_type t) (list (type_objects ts))
      (ty-value t (omega (arith, h))) (tys-value ts (omega (arith, h))) ∙ cons-applied t ts

-- ---- named terms

-- as commands make it
abbrev pub origin_of : Named Name → Origin Name
origin_of (NVar v) = var_term (var_origin v.name v.ty)
origin_of (NConst n t) = const_term n t
origin_of (NApp f x) = app (origin_of f) (origin_of x)
origin_of (NAbs v b) = lam (var_origin v.name v.ty) (origin_of b)

abbrev shallow_parts : List (Named Name) → Bool
shallow_parts = list_all (λ t. is_shallow_type names (named_type names t))

-- the depths and the types of a term within the limit
pub record IsLow (t : Named Name) : Type 0 where
  pub depth : named_depth names t ≤ depth_limit
  pub types : shallow_parts (parts names t) ≡ true

pub low-shallow : (t : Named Name) → IsLow t → is_shallow names (nameless names t) ≡ true
low-shallow t h = shallow-nameless names tells_names t ∙ and_from (nat_le (named_depth names t) depth_limit)
    (shallow_parts (parts names t)) (le-leb (named_depth names t) depth_limit h.depth) h.types

pub shallow-low : (t : Named Name) → is_shallow names (nameless names t) ≡ true → IsLow t
shallow-low t h =
    let (d, p) = and_parts (nat_le (named_depth names t) depth_limit) (shallow_parts (parts names t))
    (sym (shallow-nameless names tells_names t) ∙ h) in
    record { depth = leb-true (named_depth names t) depth_limit d; types = p }

app-low : (f x : Named Name) → IsLow (NApp f x) → IsLow f × IsLow x
app-low f x h =
    let tail =
    (and_parts (is_shallow_type names (named_type names (NApp f x)))
    (shallow_parts (parts names f ++ parts names x)) h.types).1 in
    let (p, q) = and_parts (shallow_parts (parts names f)) (shallow_parts (parts names x))
    (sym (list_all-append (λ t. is_shallow_type names (named_type names t)) (parts names f) (parts names x))
    ∙ tail) in
    (record { depth = omega (arith, h.depth); types = p }, record { depth = omega (arith, h.depth); types = q })

abs-low : (v : Variable Name) (b : Named Name) → IsLow (NAbs v b) → IsLow b
abs-low v b h =
    record {
      depth = omega (arith, h.depth);
      types = (and_parts (is_shallow_type names (named_type names (NAbs v b))) (shallow_parts (parts names b))
          h.types).1;
    }

leaf-depth : (t : Ty Name) → is_shallow_ty names t ≡ true → depth_ty names t ≤ depth_limit
leaf-depth t h = leb-true (depth_ty names t) depth_limit h

pub var-value : (n : Name) (t : Ty Name) → depth_ty names t ≤ depth_limit
    → value (var_origin n t) ≡ Ok (variable (record { name = n; ty = t }))
var-value n t h = two-value words.Var (NameOrigin n) (canon_ty t) (name n) (a_type t) refl (ty-value t h)

-- what the origin of a well typed term within the limit makes
pub term-value : (t : Named Name) (ty : Ty Name) → named_type names t ≡ Some ty → IsLow t
    → value (origin_of t) ≡ Ok (term (nameless names t))
term-value (NVar v) ty e h =
    one-value words.VarTerm (var_origin v.name v.ty) (variable v)
    (var-value v.name v.ty (leaf-depth v.ty ((and_parts (is_shallow_ty names v.ty) true h.types).0)))
term-value (NConst n t) ty e h =
    two-value words.ConstTerm (constant_origin (NameOrigin n)) (canon_ty t) (constant n) (a_type t) refl
    (ty-value t (leaf-depth t ((and_parts (is_shallow_ty names t) true h.types).0)))
term-value (NApp f x) ty e h =
    let (a, p, q) = applied-some names tells_names (named_type names f) (named_type names x) ty e in
    let (l, r) = app-low f x h in
    two-value words.AppTerm (origin_of f) (origin_of x) (term (nameless names f)) (term (nameless names x))
    (term-value f (fun_ty names a ty) p l) (term-value x a q r)
    ∙ ap (λ r. r >>= λ t. Ok (term t)) (app-made names tells_names f x ty e (low-shallow (NApp f x) h))
term-value (NAbs v b) ty e h =
    let (c, p, q) = abs-some names v.ty (named_type names b) ty e in
    let l = abs-low v b h in
    let depth : depth_ty names v.ty ≤ depth_limit = leaf-depth v.ty (binder-shallow v b c p h) in
    two-value words.AbsTerm (var_origin v.name v.ty) (origin_of b) (variable v) (term (nameless names b))
    (var-value v.name v.ty depth) (term-value b c p l)
    ∙ ap (λ r. r >>= λ t. Ok (term t)) (abs-made names tells_names v b (low-shallow (NAbs v b) h))
  where
    binder-shallow : (v : Variable Name) (b : Named Name) (c : Ty Name) → named_type names b ≡ Some c
        → IsLow (NAbs v b) → is_shallow_ty names v.ty ≡ true
    binder-shallow v b c p h =
        let whole =
        (and_parts (is_shallow_type names (named_type names (NAbs v b))) (shallow_parts (parts names b))
        h.types).0 in
        let fun : is_shallow_ty names (fun_ty names v.ty c) ≡ true = rw p at whole in
        let d = leb-true (depth_ty names (fun_ty names v.ty c)) depth_limit fun in
        le-leb (depth_ty names v.ty) depth_limit (omega (arith, d))
