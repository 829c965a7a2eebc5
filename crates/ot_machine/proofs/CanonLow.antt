-- A closed term whose origin has a value is nested within the limit.
use Rattle.std.specs.Prelude.{◌≡◌, ◌≤◌, nat_le, ℕ, suc, max, true, List, [], ◌∷◌, Ok}
use Rattle.std.specs.Option.{option_and_then}
use Rattle.std.proofs.Common.{refl, sym, ap, ◌∙◌, arith, subst}
use Rattle.std.proofs.lemmas.Bool.{leb-true, and_parts}
use Rattle.ot_logic.specs.Names.{Name}
use Rattle.ot_logic.specs.Naming.{names}
use Rattle.ot_logic.specs.Trees.{Ty, Variable, Tm, Free, Con, Bound, App, Abs}
use Rattle.ot_logic.specs.Hol.{depth_limit, depth_tm, is_shallow, close, type_in, as_fun_ty}
use Rattle.ot_logic.specs.Faults.{Nesting, NotFunction, ArgumentType}
use Rattle.ot_logic.specs.Answers.{unless, some_or}
use Rattle.ot_logic.specs.Rules.{has_type, app_rule, abs_rule}
use Rattle.ot_logic.specs.declared.command.Cmd.{Cmd}
use Rattle.ot_logic.specs.declared.command.Cmd.TheVariants as words
use Rattle.ot_laws.proofs.Steps.{limit-ok}
use Rattle.ot_laws.proofs.Tests.{tells_names}
use Rattle.ot_laws.proofs.Typing.{depth-closed}
use Rattle.ot_trace.specs.Origins.{Origin, Origins, Make, NoOrigins, MoreOrigins, make_one, make_two}
use Rattle.ot_machine.specs.Objects.{Object, term}
use Rattle.ot_machine.specs.Places.{as_term, as_variable}
use Rattle.ot_machine.specs.Makers.{Read, app_term_made, abs_term_made}
use Rattle.ot_machine.specs.Values.{value, values}
use Rattle.ot_machine.specs.Version5.{canon_under, canon, numbered_variable, app, lam, cabs}
use Rattle.ot_machine.specs.Version5.{crep, ceq, vr, tr, rep_origin, binders}
use Rattle.ot_machine.proofs.Tops.{same-ok}
use Rattle.ot_machine.proofs.Operands.{two-operands}
use Rattle.ot_machine.proofs.ObjectKinds.{term-is}
use Rattle.ot_logic.proofs.Results.{bind-ok}

-- ---- operands of an origin that has a value
pub first-value : (w : Cmd) (o : Origin Name) (os : Origins Name) (v : Object) → value (Make w (MoreOrigins o os))
    ≡ Ok v → (x : Object) × (value o ≡ Ok x)
first-value w o os v p =
    let vs = bind-ok (values (MoreOrigins o os)) _ _ p in
    let x = bind-ok (value o) _ _ vs.1 in
    (x.0, x.1)

pub second-value : (w : Cmd) (o q : Origin Name) (os : Origins Name) (v : Object)
    → value (Make w (MoreOrigins o (MoreOrigins q os))) ≡ Ok v → (x : Object) × (value q ≡ Ok x)
second-value w o q os v p =
    let vs = bind-ok (values (MoreOrigins o (MoreOrigins q os))) _ _ p in
    let x = bind-ok (value o) _ _ vs.1 in
    let ys = bind-ok (values (MoreOrigins q os)) _ _ x.2 in
    let y = bind-ok (value q) _ _ ys.1 in
    (y.0, y.1)

same-term : (t u : Tm Name) → term t ≡ term u → t ≡ u
same-term t u p = cc

abbrev gives : Object → Read
gives o = Ok o

-- an application and an abstraction are made within the limit
app-parts : (top below o : Object) → app_term_made (Ok top) (Ok below) ≡ gives o → (f x : Tm Name) × (below ≡ term f)
    × (top ≡ term x) × (o ≡ term (App f x)) × (is_shallow names (App f x) ≡ true)
app-parts top below o p =
    let x = bind-ok (as_term top) _ _ p in
    let f = bind-ok (as_term below) _ _ x.2 in
    let t = bind-ok (app_rule names f.0 x.0) _ _ f.2 in
    let fun = bind-ok (some_or NotFunction (option_and_then (as_fun_ty names) (type_in names [] f.0))) _ _ t.1 in
    let arg = bind-ok (unless ArgumentType (has_type names x.0 fun.0.0)) _ _ fun.2 in
    let low = limit-ok (is_shallow names (App f.0 x.0)) Nesting (App f.0 x.0) t.0 arg.2 in (
      f.0,
      x.0,
      term-is below f.0 f.1,
      term-is top x.0 x.1,
      sym
          (ap term low.1 ∙ same-ok (gives (term t.0)) _ o refl t.2),
      low.0,
    )

abs-parts : (top below o : Object) → abs_term_made (Ok top) (Ok below) ≡ gives o → (v : Variable Name) × (b : Tm Name)
    × (top ≡ term b) × (o ≡ term (Abs v.ty (close names v b)))
abs-parts top below o p =
    let b = bind-ok (as_term top) _ _ p in
    let v = bind-ok (as_variable below) _ _ b.2 in
    let t = bind-ok (abs_rule names v.0 b.0) _ _ v.2 in
    let low = limit-ok (is_shallow names (Abs v.0.ty (close names v.0 b.0))) Nesting
    (Abs v.0.ty (close names v.0 b.0)) t.0 t.1 in
    (v.0, b.0, term-is top b.0 b.1, sym (ap term low.1 ∙ same-ok (gives (term t.0)) _ o refl t.2))

first-is : (o q l u : Origin Name) → MoreOrigins o (MoreOrigins q NoOrigins) ≡ MoreOrigins l (MoreOrigins u NoOrigins)
    → (o ≡ l) × (q ≡ u)
first-is o q l u p = (cc, cc)

-- no more binders stand around one another than its value is deep
binders-low : (k : ℕ) (vs : List (Origin Name)) (t u : Tm Name) → value (canon_under k vs t) ≡ gives (term u)
    → binders t ≤ depth_tm names u
binders-low k vs (Free v) u p = omega arith
binders-low k vs (Con n t) u p = omega arith
binders-low k vs (Bound i) u p = omega arith
binders-low k vs (App f x) u p =
    let a = two-operands app_term_made (MoreOrigins (canon_under k vs f) (MoreOrigins (canon_under k vs x) NoOrigins))
    (term u) p in
    let same = first-is _ _ _ _ a.are in
    let m = app-parts a.top a.below (term u) a.made in
    let left = binders-low k vs f m.0 (ap value same.0 ∙ a.lower_is ∙ ap gives m.2) in
    let right = binders-low k vs x m.1 (ap value same.1 ∙ a.upper_is ∙ ap gives m.3) in
    let is : u ≡ App m.0 m.1 = same-term u (App m.0 m.1) m.4 in
    subst (λ u. max (binders f) (binders x) ≤ depth_tm names u) (sym is) (omega (arith, left, right))
binders-low k vs (Abs t c) u p =
    let a = two-operands abs_term_made
    (MoreOrigins (numbered_variable k t) (MoreOrigins (canon_under (suc k) (numbered_variable k t ∷ vs) c) NoOrigins)) (term u) p in
    let same = first-is _ _ _ _ a.are in
    let m = abs-parts a.top a.below (term u) a.made in
    let body = binders-low (suc k) (numbered_variable k t ∷ vs) c m.1 (ap value same.1 ∙ a.upper_is ∙ ap gives m.2) in
    let is : u ≡ Abs m.0.ty (close names m.0 m.1) = same-term u (Abs m.0.ty (close names m.0 m.1)) m.3 in
    let deep = depth-closed names tells_names 0 m.0 m.1 in
    subst (λ u. suc (binders c) ≤ depth_tm names u) (sym is) (omega (arith, body, deep))

shallow-depth : (t : Tm Name) → is_shallow names t ≡ true → depth_tm names t ≤ depth_limit
shallow-depth t h = leb-true _ _ (and_parts (nat_le (depth_tm names t) depth_limit) _ h).0

-- the application at the head of a chain of theorems that has a value
head-value : (v a q b c : Origin Name) (o : Object)
    → value (make_two words.Trans
    (make_two words.Trans (make_one words.Sym (make_one words.BetaConv (app (lam v (app q a)) a))) b) c) ≡ gives o
    → (x : Object) × (value (app q a) ≡ gives x)
head-value v a q b c o p =
    let e = app (lam v (app q a)) a in
    let t = first-value words.Trans (make_two words.Trans (make_one words.Sym (make_one words.BetaConv e)) b)
    (MoreOrigins c NoOrigins) o p in
    let u = first-value words.Trans (make_one words.Sym (make_one words.BetaConv e)) (MoreOrigins b NoOrigins) t.0
    t.1 in
    let s = first-value words.Sym (make_one words.BetaConv e) NoOrigins u.0 u.1 in
    let f = first-value words.BetaConv e NoOrigins s.0 s.1 in
    let g = first-value words.AppTerm (lam v (app q a)) (MoreOrigins a NoOrigins) f.0 f.1 in
    second-value words.AbsTerm v (app q a) NoOrigins g.0 g.1

applied-low : (q a : Origin Name) (p : Tm Name) (o : Object)
    → ((u : Tm Name) → value q ≡ gives (term u) → binders p ≤ depth_tm names u) → value (app q a) ≡ gives o
    → binders p ≤ depth_limit
applied-low q a p o low e =
    let two = two-operands app_term_made (MoreOrigins q (MoreOrigins a NoOrigins)) o e in
    let m = app-parts two.top two.below o two.made in
    let same = first-is _ _ _ _ two.are in
    let here = low m.0 (ap value same.0 ∙ two.lower_is ∙ ap gives m.2) in
    let deep = shallow-depth (App m.0 m.1) m.5 in
    omega (arith, here, deep)

-- where the second theorem of version 5 has a value, the binders of p are within the limit
pub canon-low : (d : Origin Name) (abs rep : Name) (new old : Ty Name) (p : Tm Name) (o : Object)
    → value (rep_origin abs rep new old p d) ≡ gives o → binders p ≤ depth_limit
canon-low d abs rep new old p o e =
    let a = tr abs rep new old p in
    let v = vr abs rep new old p in
    let b = make_one words.Sym (make_two words.AppThm d (make_one words.Refl a)) in
    let c = make_one words.BetaConv
    (app (lam v (app (app (ceq abs rep new old p) (app (crep abs rep new old p) (app (cabs abs rep new old p) a)))
    a)) a) in
    let h = head-value v a (canon p) b c o e in
    applied-low (canon p) a p h.0 (binders-low 0 [] p) h.1
