-- The values of the two theorems that a type operator has in version 5.
use Rattle.std.specs.Prelude.{◌≡◌, ◌≤◌, nat_le, ◌&&◌, ℕ, suc, Bool, true, false, cond, [], ◌∷◌, Some, Result, Ok, Err}
use Rattle.std.specs.Option.{option_map}
use Rattle.std.proofs.Common.{refl, sym, ap, ◌∙◌, arith, subst}
use Rattle.std.proofs.lemmas.Bool.{le-leb, and_parts, and_from}
use Rattle.ot_logic.specs.Names.{Name}
use Rattle.ot_logic.specs.Naming.{names}
use Rattle.ot_logic.specs.Trees.{Ty, Variable, Tm, Free, Con, Bound, App, Abs}
use Rattle.ot_logic.specs.Trees.{Named, NVar, NConst, NApp, NAbs, Sequent}
use Rattle.ot_logic.specs.Hol.{depth_limit, fun_ty, bool_ty, type_in, HasType, IsClosed}
use Rattle.ot_logic.specs.Hol.{IsWithin, depth_ty, depth_tm, is_shallow_ty, is_shallow_type}
use Rattle.ot_logic.specs.Hol.{has_shallow_types, is_shallow, same_var, close_at, open_at}
use Rattle.ot_logic.specs.NamedTerms.{nameless, named_type}
use Rattle.ot_logic.specs.Answers.{◌>>=◌}
use Rattle.ot_logic.specs.Faults.{Fault, Nesting}
use Rattle.ot_logic.specs.Rules.{refl_rule, app_thm_rule, beta_conv_rule, sym_rule, trans_rule}
use Rattle.ot_logic.specs.declared.command.Cmd.{Cmd}
use Rattle.ot_logic.specs.declared.command.Cmd.TheVariants as words
use Rattle.ot_laws.proofs.Tests.{tells_names, same_var-is}
use Rattle.ot_laws.proofs.Terms.{close_at_fresh}
use Rattle.ot_laws.proofs.Opened.{place_below}
use Rattle.ot_laws.proofs.Typing.{app-typed, type-more, within-typed, type-nameless}
use Rattle.ot_laws.proofs.Equations.{equation-typed}
use Rattle.ot_trace.specs.Origins.{Origin, make_one}
use Rattle.ot_machine.specs.Objects.{Object, term, theorem}
use Rattle.ot_machine.specs.Makers.{Read, maker}
use Rattle.ot_machine.specs.Values.{value, combined, applied as applied_by}
use Rattle.ot_kernel.specs.Opening.{var_a, var_r}
use Rattle.ot_machine.specs.Version5.{canon, app, lam, var_origin, abs_value, rep_value}
use Rattle.ot_machine.proofs.MadeValue.{one-value, origin_of, shallow-low, term-value}
use Rattle.ot_machine.proofs.CanonValue.{IsNamedForm, named-form}
use Rattle.ot_kernel.proofs.OpenLimits.{Low, low-of, from-low}
use Rattle.ot_machine.proofs.EquationRules.{Eq, Th, sym-eq, trans-eq}
use Rattle.ot_machine.proofs.EquationRules.{refl-eq, app-eq, beta-eq, beta-refused}

-- ---- what a rule's word makes of theorems
abbrev Answer : Type 0
Answer = Result (Sequent Name) (Fault Name)

abbrev as_object : Answer → Result Object (Fault Name)
as_object r = r >>= λ q. Ok (theorem q)

one-read : (w : Cmd) (v : Read) (x : Object) → v ≡ Ok x → combined w (v ∷ []) ≡ applied_by (maker w) (x ∷ [])
one-read w v x a = λ i. (a i >>= λ x. Ok (x ∷ [])) >>= applied_by (maker w)

two-read : (w : Cmd) (v u : Read) (x y : Object) → v ≡ Ok x → u ≡ Ok y → combined w (v ∷ u ∷ [])
    ≡ applied_by (maker w) (x ∷ y ∷ [])
two-read w v u x y a b = λ i. (a i >>= λ x. (b i >>= λ y. Ok (y ∷ [])) >>= λ ys. Ok (x ∷ ys)) >>= applied_by (maker w)

sym-value : (v : Read) (q r : Sequent Name) → v ≡ Ok (theorem q) → sym_rule names q ≡ Ok r
    → combined words.Sym (v ∷ []) ≡ Ok (theorem r)
sym-value v q r h s = one-read words.Sym v (theorem q) h ∙ ap as_object s

trans-value : (v u : Read) (q r z : Sequent Name) → v ≡ Ok (theorem q) → u ≡ Ok (theorem r)
    → trans_rule names q r ≡ Ok z → combined words.Trans (v ∷ u ∷ []) ≡ Ok (theorem z)
trans-value v u q r z h k s = two-read words.Trans v u (theorem q) (theorem r) h k ∙ ap as_object s

app_thm-value : (v u : Read) (q r z : Sequent Name) → v ≡ Ok (theorem q) → u ≡ Ok (theorem r)
    → app_thm_rule names q r ≡ Ok z → combined words.AppThm (v ∷ u ∷ []) ≡ Ok (theorem z)
app_thm-value v u q r z h k s = two-read words.AppThm v u (theorem q) (theorem r) h k ∙ ap as_object s

refl-value : (o : Origin Name) (t : Tm Name) (z : Sequent Name) → value o ≡ Ok (term t) → refl_rule names t ≡ Ok z
    → value (make_one words.Refl o) ≡ Ok (theorem z)
refl-value o t z h s = one-value words.Refl o (term t) h ∙ ap as_object s

beta-value : (o : Origin Name) (t : Tm Name) (z : Sequent Name) → value o ≡ Ok (term t)
    → beta_conv_rule names t ≡ Ok z → value (make_one words.BetaConv o) ≡ Ok (theorem z)
beta-value o t z h s = one-value words.BetaConv o (term t) h ∙ ap as_object s

-- ---- refusals
one-refused : (w : Cmd) (o : Origin Name) (e : Fault Name) → value o ≡ Err e → value (make_one w o) ≡ Err e
one-refused w o e a = λ i. (a i >>= λ v. Ok (v ∷ [])) >>= applied_by (maker w)

two-refused : (w : Cmd) (v u : Read) (e : Fault Name) → v ≡ Err e → combined w (v ∷ u ∷ []) ≡ Err e
two-refused w v u e a = λ i. (a i >>= λ x. (u >>= λ y. Ok (y ∷ [])) >>= λ ys. Ok (x ∷ ys)) >>= applied_by (maker w)

-- ---- closing and opening
same-itself : (v : Variable Name) → same_var names v v ≡ true
same-itself v = (same_var-is names tells_names v v).1 refl

pub open-within : (k : ℕ) (u t : Tm Name) → IsWithin names k t → open_at names k u t ≡ t
open-within k u (Free w) h = refl
open-within k u (Con n t) h = refl
open-within k u (Bound j) h = rw (place_below j k h) refl
open-within k u (App f x) h =
    let p = open-within k u f h.0 in
    let q = open-within k u x h.1 in
    cc
open-within k u (Abs t b) h = ap (Abs t) (open-within (suc k) u b h)

-- a type that leaves room for the equation of functions from it
leaf-low : (t : Ty Name) → depth_ty names t ≤ depth_limit → is_shallow_ty names t ≡ true
leaf-low t h = le-leb (depth_ty names t) depth_limit h

-- a term that is applied within the limit
app-types : (f x : Tm Name) (ty : Ty Name) → HasType names (App f x) ty → depth_ty names ty ≤ depth_limit
    → has_shallow_types names [] f ≡ true → has_shallow_types names [] x ≡ true → has_shallow_types names [] (App f x)
    ≡ true
app-types f x ty h d p q =
    let whole : is_shallow_type names (type_in names [] (App f x)) ≡ true = ap (is_shallow_type names) h
    ∙ leaf-low ty d in
    and_from (is_shallow_type names (type_in names [] (App f x)))
    (has_shallow_types names [] f && has_shallow_types names [] x) whole
    (and_from (has_shallow_types names [] f) (has_shallow_types names [] x) p q)

-- the types of an abstraction's body, with a variable of its type in the place
-- v: the value of a theorem of the definition
module _ (abs rep : Name) (new old : Ty Name) (p : Tm Name) (v : Read) where
  abbrev c : Tm Name
  c = Con abs (fun_ty names old new)

  abbrev g : Tm Name
  g = Con rep (fun_ty names new old)

  abbrev bool : Ty Name
  bool = bool_ty names

  abbrev vr : Variable Name
  vr = record { name = var_r; ty = old }

  abbrev y : Tm Name
  y = Free vr

  -- \r. rep (abs r) = r, and \r. p r
  abbrev same_function : Tm Name
  same_function = Abs old (Eq old (App g (App c (Bound 0))) (Bound 0))

  abbrev holds_function : Tm Name
  holds_function = Abs old (App p (Bound 0))

  abbrev same : Tm Name
  same = Eq old (App g (App c y)) y

  abbrev e3 : Tm Name
  e3 = App same_function y

  abbrev e4 : Tm Name
  e4 = App holds_function y

  pub record IsOpening : Type 0 where
    pub typed : HasType names p (fun_ty names old bool)
    pub closed : IsClosed names p
    -- the definition's second theorem, and its limit
    pub second : v ≡ Ok (theorem (Th (Eq (fun_ty names old bool) same_function holds_function)))
    pub limit : is_shallow names (Eq (fun_ty names old bool) same_function holds_function) ≡ true

  module _ (h : IsOpening) where
    abbrev lows : Low names tells_names (fun_ty names old bool) same_function holds_function
    lows = low-of names tells_names (fun_ty names old bool) same_function holds_function h.limit

    old-depth : suc (suc (suc (depth_ty names old))) ≤ depth_limit
    old-depth = let l = (lows).ty_depth in omega (arith, l)

    y-types : has_shallow_types names [] y ≡ true
    y-types = let l = old-depth in leaf-low old (omega (arith, l))

    trip-typed : HasType names (App g (App c y)) old
    trip-typed =
        app-typed names tells_names [] g (App c y) new old refl (app-typed names tells_names [] c y old new refl refl)

    same-typed : HasType names same bool
    same-typed = equation-typed names tells_names [] old (App g (App c y)) y trip-typed refl

    same_function-typed : HasType names same_function (fun_ty names old bool)
    same_function-typed =
        let l = old ∷ [] in
        ap (option_map (fun_ty names old))
        (equation-typed names tells_names l old (App g (App c (Bound 0))) (Bound 0)
        (app-typed names tells_names l g (App c (Bound 0)) new old refl
        (app-typed names tells_names l c (Bound 0) old new refl refl)) refl)

    e3-typed : HasType names e3 bool
    e3-typed = app-typed names tells_names [] same_function y old bool same_function-typed refl

    holds-typed : HasType names (App p y) bool
    holds-typed = app-typed names tells_names [] p y old bool h.typed refl

    holds_function-typed : HasType names holds_function (fun_ty names old bool)
    holds_function-typed =
        ap (option_map (fun_ty names old)) (app-typed names tells_names (old ∷ []) p (Bound 0) old bool
        (type-more names tells_names [] (old ∷ []) p (fun_ty names old bool) h.typed) refl)

    e4-typed : HasType names e4 bool
    e4-typed = app-typed names tells_names [] holds_function y old bool holds_function-typed refl

    e3-types : has_shallow_types names [] e3 ≡ true
    e3-types = app-types same_function y bool e3-typed (omega arith) (lows).left y-types

    same-types : has_shallow_types names [] same ≡ true
    same-types =
        (and_parts (is_shallow_type names (type_in names [] same_function))
        (has_shallow_types names (old ∷ []) (Eq old (App g (App c (Bound 0))) (Bound 0))) (lows).left).1

    e4-types : has_shallow_types names [] e4 ≡ true
    e4-types = app-types holds_function y bool e4-typed (omega arith) (lows).right y-types

    shallow-of : (t : Tm Name) → depth_tm names t ≤ depth_limit → has_shallow_types names [] t ≡ true
        → is_shallow names t ≡ true
    shallow-of t d q = and_from (nat_le (depth_tm names t) depth_limit) (has_shallow_types names [] t)
        (le-leb (depth_tm names t) depth_limit d) q

    -- ---- the two terms for beta
    abbrev e3-named : Named Name
    e3-named =
        NApp (NAbs vr
        (NApp (NApp (NConst names.equals (fun_ty names old (fun_ty names old bool)))
        (NApp (NConst rep (fun_ty names new old)) (NApp (NConst abs (fun_ty names old new)) (NVar vr)))) (NVar vr)))
        (NVar vr)

    abbrev with_places : Bool → Tm Name
    with_places b = App (Abs old (Eq old (App g (App c (cond b (Bound 0) y))) (cond b (Bound 0) y))) y

    e3-is : nameless names e3-named ≡ e3
    e3-is = ap with_places (same-itself vr)

    pub e3-value : value (origin_of e3-named) ≡ Ok (term e3)
    e3-value =
        let low = shallow-low e3-named (ap (is_shallow names) e3-is ∙ shallow-of e3 (omega arith) e3-types) in
        let ty : named_type names e3-named ≡ Some bool = sym (type-nameless names tells_names e3-named)
        ∙ ap (type_in names []) e3-is ∙ e3-typed in
        term-value e3-named bool ty low ∙ ap (λ t. Ok (term t)) e3-is

    abbrev form : IsNamedForm p (fun_ty names old bool)
    form = named-form p (fun_ty names old bool) h.typed h.closed (let k = (lows).right_depth in omega (arith, k))

    abbrev e4-named : Named Name
    e4-named = NApp (NAbs vr (NApp (form).form (NVar vr))) (NVar vr)

    e4-is : nameless names e4-named ≡ e4
    e4-is =
        let whole : close_at names 0 vr (nameless names (form).form) ≡ p = ap (close_at names 0 vr) (form).is
        ∙ close_at_fresh names tells_names 0 vr p (h.closed vr) in
        let place : cond (same_var names vr vr) (Bound 0) y ≡ Bound 0 =
        ap (λ b. cond b (Bound 0) y) (same-itself vr) in
        λ i. App (Abs old (App (whole i) (place i))) y

    abbrev tr : Origin Name
    tr = origin_of (NVar vr)

    abbrev e4-origin : Origin Name
    e4-origin = app (lam (var_origin var_r old) (app (canon p) tr)) tr

    pub e4-value : value e4-origin ≡ Ok (term e4)
    e4-value =
        let k = (lows).right_depth in
        let low = shallow-low e4-named (ap (is_shallow names) e4-is ∙ shallow-of e4 (omega (arith, k)) e4-types) in
        let ty : named_type names e4-named ≡ Some bool = sym (type-nameless names tells_names e4-named)
        ∙ ap (type_in names []) e4-is ∙ e4-typed in
        ap (λ o. value (app (lam (var_origin var_r old) (app o tr)) tr)) (form).origin
        ∙ term-value e4-named bool ty low ∙ ap (λ t. Ok (term t)) e4-is

    abbrev e3-origin : Origin Name
    e3-origin = origin_of e3-named

    abbrev left : Read
    left = value (make_one words.Sym (make_one words.BetaConv e4-origin))

    abbrev right : Read
    right = combined words.Sym (combined words.AppThm (v ∷ value (make_one words.Refl tr) ∷ []) ∷ [])

    -- what beta gives
    opened-p : open_at names 0 y p ≡ p
    opened-p = open-within 0 y p (within-typed names tells_names [] p (fun_ty names old bool) h.typed)

    abbrev deepest : Bool
    deepest = is_shallow names (Eq bool e4 (App p y))

    opened-limit : is_shallow names (Eq bool e4 (App (open_at names 0 y p) y)) ≡ deepest
    opened-limit = ap (λ z. is_shallow names (Eq bool e4 (App z y))) opened-p

    -- where that passes the limit, there is no value
    pub rep-refused : deepest ≡ false → rep_value abs rep new old p v ≡ Err Nesting
    rep-refused f =
        let b = beta-refused old bool (App p (Bound 0)) y e4-typed (opened-limit ∙ f) in
        let first = one-value words.BetaConv e4-origin (term e4) e4-value ∙ ap as_object b in
        let second = one-refused words.Sym (make_one words.BetaConv e4-origin) Nesting first in
        two-refused words.Trans (combined words.Trans (left ∷ right ∷ [])) (value (make_one words.BetaConv e3-origin))
        Nesting (two-refused words.Trans left right Nesting second)

    y-value : value tr ≡ Ok (term y)
    y-value = let l = old-depth in
        term-value (NVar vr) old refl (shallow-low (NVar vr) (shallow-of y (omega arith) y-types))

    module _ (k : deepest ≡ true) where
      abbrev deep : Low names tells_names bool e4 (App p y)
      deep = low-of names tells_names bool e4 (App p y) k

      -- the equations on the way
      s-y : is_shallow names (Eq old y y) ≡ true
      s-y = let l = old-depth in
          from-low names tells_names old y y refl refl
          (record {
            left_depth = omega arith;
            right_depth = omega arith;
            ty_depth = omega (arith, l);
            left = y-types;
            right = y-types;
          })

      s-sym : is_shallow names (Eq bool (App p y) e4) ≡ true
      s-sym = let k = (deep).left_depth in
          from-low names tells_names bool (App p y) e4 holds-typed e4-typed
          (record {
            left_depth = omega (arith, k);
            right_depth = omega (arith, k);
            ty_depth = omega arith;
            left = (deep).right;
            right = (deep).left;
          })

      s-app : is_shallow names (Eq bool e3 e4) ≡ true
      s-app = let k = (deep).left_depth in
          from-low names tells_names bool e3 e4 e3-typed e4-typed
          (record {
            left_depth = omega arith;
            right_depth = omega (arith, k);
            ty_depth = omega arith;
            left = e3-types;
            right = (deep).left;
          })

      s-back : is_shallow names (Eq bool e4 e3) ≡ true
      s-back = let k = (deep).left_depth in
          from-low names tells_names bool e4 e3 e4-typed e3-typed
          (record {
            left_depth = k;
            right_depth = omega arith;
            ty_depth = omega arith;
            left = (deep).left;
            right = e3-types;
          })

      s-beta : is_shallow names (Eq bool e3 same) ≡ true
      s-beta = from-low names tells_names bool e3 same e3-typed same-typed
          (record {
            left_depth = omega arith;
            right_depth = omega arith;
            ty_depth = omega arith;
            left = e3-types;
            right = same-types;
          })

      e4-beta : beta_conv_rule names e4 ≡ Ok (Th (Eq bool e4 (App p y)))
      e4-beta = subst (λ z. beta_conv_rule names e4 ≡ Ok (Th (Eq bool e4 (App z y)))) opened-p
          (beta-eq old bool (App p (Bound 0)) y e4-typed (opened-limit ∙ k))

      pub rep-value : rep_value abs rep new old p v ≡ Ok (theorem (Th (Eq bool (App p y) same)))
      rep-value =
          let py = App p y in
          let v1 = beta-value e4-origin e4 (Th (Eq bool e4 py)) e4-value e4-beta in
          let v2 = sym-value (value (make_one words.BetaConv e4-origin)) (Th (Eq bool e4 py)) (Th (Eq bool py e4)) v1
          (sym-eq bool e4 py s-sym) in
          let r = refl-value tr y (Th (Eq old y y)) y-value (refl-eq old y refl s-y) in
          let a = app_thm-value v (value (make_one words.Refl tr))
          (Th (Eq (fun_ty names old bool) same_function holds_function)) (Th (Eq old y y)) (Th (Eq bool e3 e4))
          h.second r (app-eq old bool same_function holds_function y y s-app) in
          let v3 = sym-value (combined words.AppThm (v ∷ value (make_one words.Refl tr) ∷ [])) (Th (Eq bool e3 e4))
          (Th (Eq bool e4 e3)) a (sym-eq bool e3 e4 s-back) in
          let v4 = trans-value left right (Th (Eq bool py e4)) (Th (Eq bool e4 e3)) (Th (Eq bool py e3)) v2 v3
          (trans-eq bool py e4 e3) in
          let v5 = beta-value e3-origin e3 (Th (Eq bool e3 same)) e3-value
          (beta-eq old bool (Eq old (App g (App c (Bound 0))) (Bound 0)) y e3-typed s-beta) in
          trans-value (combined words.Trans (left ∷ right ∷ [])) (value (make_one words.BetaConv e3-origin))
          (Th (Eq bool py e3)) (Th (Eq bool e3 same)) (Th (Eq bool py same)) v4 v5 (trans-eq bool py e3 same)

  -- ---- the first theorem
  abbrev va : Variable Name
  va = record { name = var_a; ty = new }

  abbrev x : Tm Name
  x = Free va

  abbrev there : Tm Name
  there = App c (App g x)

  -- \a. abs (rep a), and \a. a
  abbrev trip_function : Tm Name
  trip_function = Abs new (App c (App g (Bound 0)))

  abbrev identity : Tm Name
  identity = Abs new (Bound 0)

  abbrev e1 : Tm Name
  e1 = App trip_function x

  abbrev e2 : Tm Name
  e2 = App identity x

  pub record IsReturn : Type 0 where
    pub first : v ≡ Ok (theorem (Th (Eq (fun_ty names new new) trip_function identity)))
    pub return_limit : is_shallow names (Eq (fun_ty names new new) trip_function identity) ≡ true

  module _ (h : IsReturn) where
    abbrev floors : Low names tells_names (fun_ty names new new) trip_function identity
    floors = low-of names tells_names (fun_ty names new new) trip_function identity h.return_limit

    new-depth : suc (suc (suc (depth_ty names new))) ≤ depth_limit
    new-depth = let l = (floors).ty_depth in omega (arith, l)

    x-types : has_shallow_types names [] x ≡ true
    x-types = let l = new-depth in leaf-low new (omega (arith, l))

    there-typed : HasType names there new
    there-typed =
        app-typed names tells_names [] c (App g x) old new refl (app-typed names tells_names [] g x new old refl refl)

    trip_function-typed : HasType names trip_function (fun_ty names new new)
    trip_function-typed =
        let l = new ∷ [] in
        ap (option_map (fun_ty names new)) (app-typed names tells_names l c (App g (Bound 0)) old new refl
        (app-typed names tells_names l g (Bound 0) new old refl refl))

    e1-typed : HasType names e1 new
    e1-typed = app-typed names tells_names [] trip_function x new new trip_function-typed refl

    e2-typed : HasType names e2 new
    e2-typed = app-typed names tells_names [] identity x new new refl refl

    there-types : has_shallow_types names [] there ≡ true
    there-types =
        (and_parts (is_shallow_type names (type_in names [] trip_function))
        (has_shallow_types names (new ∷ []) (App c (App g (Bound 0)))) (floors).left).1

    e1-types : has_shallow_types names [] e1 ≡ true
    e1-types = let l = new-depth in app-types trip_function x new e1-typed (omega (arith, l)) (floors).left x-types

    e2-types : has_shallow_types names [] e2 ≡ true
    e2-types = let l = new-depth in app-types identity x new e2-typed (omega (arith, l)) (floors).right x-types

    small : (t : Tm Name) → depth_tm names t ≤ depth_limit → has_shallow_types names [] t ≡ true
        → is_shallow names t ≡ true
    small t d q = and_from (nat_le (depth_tm names t) depth_limit) (has_shallow_types names [] t)
        (le-leb (depth_tm names t) depth_limit d) q

    abbrev e1-named : Named Name
    e1-named =
        NApp (NAbs va (NApp (NConst abs (fun_ty names old new)) (NApp (NConst rep (fun_ty names new old)) (NVar va))))
        (NVar va)

    abbrev e2-named : Named Name
    e2-named = NApp (NAbs va (NVar va)) (NVar va)

    abbrev trip_with : Bool → Tm Name
    trip_with b = App (Abs new (App c (App g (cond b (Bound 0) x)))) x

    abbrev same_with : Bool → Tm Name
    same_with b = App (Abs new (cond b (Bound 0) x)) x

    e1-is : nameless names e1-named ≡ e1
    e1-is = ap trip_with (same-itself va)

    e2-is : nameless names e2-named ≡ e2
    e2-is = ap same_with (same-itself va)

    e1-value : value (origin_of e1-named) ≡ Ok (term e1)
    e1-value =
        let low = shallow-low e1-named (ap (is_shallow names) e1-is ∙ small e1 (omega arith) e1-types) in
        let ty : named_type names e1-named ≡ Some new = sym (type-nameless names tells_names e1-named)
        ∙ ap (type_in names []) e1-is ∙ e1-typed in
        term-value e1-named new ty low ∙ ap (λ t. Ok (term t)) e1-is

    e2-value : value (origin_of e2-named) ≡ Ok (term e2)
    e2-value =
        let low = shallow-low e2-named (ap (is_shallow names) e2-is ∙ small e2 (omega arith) e2-types) in
        let ty : named_type names e2-named ≡ Some new = sym (type-nameless names tells_names e2-named)
        ∙ ap (type_in names []) e2-is ∙ e2-typed in
        term-value e2-named new ty low ∙ ap (λ t. Ok (term t)) e2-is

    abbrev ta : Origin Name
    ta = origin_of (NVar va)

    x-value : value ta ≡ Ok (term x)
    x-value = term-value (NVar va) new refl (shallow-low (NVar va) (small x (omega arith) x-types))

    s-there : is_shallow names (Eq new e1 there) ≡ true
    s-there = let l = new-depth in
        from-low names tells_names new e1 there e1-typed there-typed
        (record {
          left_depth = omega arith;
          right_depth = omega arith;
          ty_depth = omega (arith, l);
          left = e1-types;
          right = there-types;
        })

    s-turned : is_shallow names (Eq new there e1) ≡ true
    s-turned = let l = new-depth in
        from-low names tells_names new there e1 there-typed e1-typed
        (record {
          left_depth = omega arith;
          right_depth = omega arith;
          ty_depth = omega (arith, l);
          left = there-types;
          right = e1-types;
        })

    s-x : is_shallow names (Eq new x x) ≡ true
    s-x = let l = new-depth in
        from-low names tells_names new x x refl refl
        (record {
          left_depth = omega arith;
          right_depth = omega arith;
          ty_depth = omega (arith, l);
          left = x-types;
          right = x-types;
        })

    s-applied : is_shallow names (Eq new e1 e2) ≡ true
    s-applied = let l = new-depth in
        from-low names tells_names new e1 e2 e1-typed e2-typed
        (record {
          left_depth = omega arith;
          right_depth = omega arith;
          ty_depth = omega (arith, l);
          left = e1-types;
          right = e2-types;
        })

    s-identity : is_shallow names (Eq new e2 x) ≡ true
    s-identity = let l = new-depth in
        from-low names tells_names new e2 x e2-typed refl
        (record {
          left_depth = omega arith;
          right_depth = omega arith;
          ty_depth = omega (arith, l);
          left = e2-types;
          right = x-types;
        })

    abbrev e1-origin : Origin Name
    e1-origin = origin_of e1-named

    abbrev e2-origin : Origin Name
    e2-origin = origin_of e2-named

    pub abs-value : abs_value abs rep new old p v ≡ Ok (theorem (Th (Eq new there x)))
    abs-value =
        let v1 = beta-value e1-origin e1 (Th (Eq new e1 there)) e1-value
        (beta-eq new new (App c (App g (Bound 0))) x e1-typed s-there) in
        let v2 = sym-value (value (make_one words.BetaConv e1-origin)) (Th (Eq new e1 there)) (Th (Eq new there e1))
        v1 (sym-eq new e1 there s-turned) in
        let r = refl-value ta x (Th (Eq new x x)) x-value (refl-eq new x refl s-x) in
        let a = app_thm-value v (value (make_one words.Refl ta))
        (Th (Eq (fun_ty names new new) trip_function identity)) (Th (Eq new x x)) (Th (Eq new e1 e2)) h.first r
        (app-eq new new trip_function identity x x s-applied) in
        let front = value (make_one words.Sym (make_one words.BetaConv e1-origin)) in
        let back = combined words.AppThm (v ∷ value (make_one words.Refl ta) ∷ []) in
        let v4 = trans-value front back (Th (Eq new there e1)) (Th (Eq new e1 e2)) (Th (Eq new there e2)) v2 a
        (trans-eq new there e1 e2) in
        let v5 = beta-value e2-origin e2 (Th (Eq new e2 x)) e2-value
        (beta-eq new new (Bound 0) x e2-typed s-identity) in
        trans-value (combined words.Trans (front ∷ back ∷ [])) (value (make_one words.BetaConv e2-origin))
        (Th (Eq new there e2)) (Th (Eq new e2 x)) (Th (Eq new there x)) v4 v5 (trans-eq new there e2 x)
