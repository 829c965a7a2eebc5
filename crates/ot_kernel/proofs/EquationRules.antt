-- What the rules on equations answer, step by step.
use Rattle.std.specs.List.{list_all}
use Rattle.std.proofs.Common.{◌≡◌, ℕ, Bool, true, false, ◌&&◌, if◌then◌else◌, List, [], Option}
use Rattle.std.proofs.Common.{Some, None, Result, Ok, Err, refl, sym, ap, ◌∙◌, subst, inl, inr, ◌⊎◌}
use Rattle.std.proofs.Math.Bool.{and-false}
use Rattle.std.proofs.lemmas.Option.{same_Some}
use Rattle.ot_logic.specs.Trees.{Alphabet, Ty, Variable, Tm, App, Abs, Sequent}
use Rattle.ot_logic.specs.Hol.{same_ty, fun_ty, as_fun_ty, HasType, close, is_shallow, is_shallow_sequent}
use Rattle.ot_logic.specs.Hol.{same_tm, equation, as_equation, union, is_free_in_some}
use Rattle.ot_logic.specs.Faults.{Fault, NotFunction, ArgumentType, NotAlphaEqual, Nesting}
use Rattle.ot_logic.specs.Rules.{has_type, within_limit, app_rule, abs_rule, eq_mp_rule}
use Rattle.ot_logic.specs.Rules.{abs_thm_rule, app_thm_rule, sym_rule, trans_rule}
use Rattle.ot_logic.specs.RanOut.{ran_out}
use Rattle.ot_laws.proofs.Tests.{Tells, cases_of, same_ty-is, has_type-is}
use Rattle.ot_laws.proofs.Typing.{as_fun_ty-some, as_fun_ty-fun, type_of-is, app-typed, type-close_at}
use Rattle.ot_laws.proofs.Steps.{limit-ok, app_rule-ok}
use Rattle.ot_kernel.specs.declared.fault.RuleFault.{RuleFault}
use Rattle.ot_kernel.specs.declared.fault.RuleFault.TheVariants as rules
use Rattle.ot_kernel.specs.Answers.{rule_fault, RefusesRule}
use Rattle.ot_kernel.specs.Equating.{limited, equation_rule}
use Rattle.ot_kernel.proofs.EquationLimits.{shallow-left, shallow-right}

-- ---- refusals
-- a refusal is the stated one
pub refuses_rule : {X N : Type 0} (e : RuleFault) (f : Fault N) (stated : Result X (Fault N))
    → ((read : ℕ → N) → rule_fault read e ≡ Some f) → stated ≡ Err f → RefusesRule e stated
refuses_rule {N = N} e f stated p s read = (
  λ q. let no : ◌≡◌ {A = Option (Fault N)} None (Some f) = subst (λ d. rule_fault read d ≡ Some f) q (p read) in cc,
  λ g q. s ∙ ap Err (same_Some f g (sym (p read) ∙ q)),
)

-- running out of memory may be answered at any point
pub memory_refuses : {X N : Type 0} (stated : Result X (Fault N)) → RefusesRule (rules.Memory ran_out) stated
memory_refuses stated read = (λ q. cc, λ f p. cc)

-- two rules with one refusal
refused-same : {X Y N : Type 0} (e : RuleFault) (f : Fault N) (r : Result X (Fault N)) (s : Result Y (Fault N))
    → r ≡ Err f → s ≡ Err f → RefusesRule e r → RefusesRule e s
refused-same {X = X} {N = N} e f r s p q h read = ((h read).0, λ g k. q ∙ ap Err (same g (sym p ∙ (h read).1 g k)))
  where
    same : (g : Fault N) → ◌≡◌ {A = Result X (Fault N)} (Err f) (Err g) → f ≡ g
    same g first = cc

limit-err : {A E : Type 0} (b : Bool) (e f : E) (x : A) → ◌≡◌ {A = Result A E} (if b then Ok x else Err e) (Err f)
    → (b ≡ false) × (e ≡ f)
limit-err true e f x h = cc
limit-err false e f x h = (refl, cc)

off_back : (a b : Bool) → (b ≡ true → a ≡ true) → a ≡ false → b ≡ false
off_back a true k h = sym (k refl) ∙ h
off_back a false k h = refl

module _ {N : Type 0} (alphabet : Alphabet N) where
  -- ---- the limit
  -- what has a part that passes the limit passes it
  pub limited-refused : (e : RuleFault) (part t : Tm N)
      → (is_shallow alphabet t ≡ true → is_shallow alphabet part ≡ true) → RefusesRule e (limited alphabet part)
      → RefusesRule e (limited alphabet t)
  limited-refused e part t inside h read =
      ((h read).0, λ f p. past f (limit-err (is_shallow alphabet part) Nesting f part ((h read).1 f p)))
    where
      past : (f : Fault N) → (is_shallow alphabet part ≡ false) × (Nesting ≡ f) → limited alphabet t ≡ Err f
      past f (off, same) = rw (off_back (is_shallow alphabet part) (is_shallow alphabet t) inside off) (ap Err same)

  -- what is within the limit is not refused
  pub limited-never : {X : Type 0} (e : RuleFault) (t : Tm N) (stated : Result X (Fault N))
      → is_shallow alphabet t ≡ true → RefusesRule e (limited alphabet t) → RefusesRule e stated
  limited-never {X} e t stated on h read =
      ((h read).0, λ f p. never f (limit-err (is_shallow alphabet t) Nesting f t ((h read).1 f p)))
    where
      never : (f : Fault N) → (is_shallow alphabet t ≡ false) × (Nesting ≡ f) → stated ≡ Err f
      never f (off, same) = let no : true ≡ false = sym on ∙ off in cc

  -- a conclusion that passes the limit
  pub within-refused : (e : RuleFault) (g : List (Tm N)) (t : Tm N) → RefusesRule e (limited alphabet t)
      → RefusesRule e (within_limit alphabet (record { hyps = g; concl = t }))
  within-refused e g t h read =
      ((h read).0, λ f p. past f (limit-err (is_shallow alphabet t) Nesting f t ((h read).1 f p)))
    where
      past : (f : Fault N) → (is_shallow alphabet t ≡ false) × (Nesting ≡ f)
          → within_limit alphabet (record { hyps = g; concl = t }) ≡ Err f
      past f (off, same) = rw (off, and-false (list_all (is_shallow alphabet) g)) (ap Err same)

  -- one within it, under hypotheses within it
  pub within-made : (g : List (Tm N)) (t u : Tm N) → list_all (is_shallow alphabet) g ≡ true → limited alphabet t
      ≡ Ok u → within_limit alphabet (record { hyps = g; concl = t }) ≡ Ok (record { hyps = g; concl = u })
  within-made g t u all h =
      let (on, same) = limit-ok (is_shallow alphabet t) Nesting t u h in
      let both : is_shallow_sequent alphabet (record { hyps = g; concl = t }) ≡ true = λ i. all i && on i in
      rw both (ap (λ p. Ok (record { hyps = g; concl = p })) same)

  -- an equation at the type of its left side
  pub equation_rule-at : (a b : Tm N) (ty : Ty N) → HasType alphabet a ty → equation_rule alphabet a b
      ≡ limited alphabet (equation alphabet ty a b)
  equation_rule-at a b ty h = ap (λ z. limited alphabet (equation alphabet z a b)) (type_of-is alphabet a ty h)

  -- ---- the rules of one equation
  module _ (th : Sequent N) (ty : Ty N) (a b : Tm N) (h : as_equation alphabet th.concl ≡ Some (ty, a, b)) where
    pub sym-is : sym_rule alphabet th
        ≡ within_limit alphabet (record { hyps = th.hyps; concl = equation alphabet ty b a })
    sym-is = rw h refl

    pub abs_thm-is : (v : Variable N) → is_free_in_some alphabet v th.hyps ≡ false → abs_thm_rule alphabet v th
        ≡ within_limit alphabet
        (record {
          hyps = th.hyps;
          concl = equation alphabet (fun_ty alphabet v.ty ty)
              (Abs v.ty (close alphabet v a)) (Abs v.ty (close alphabet v b));
        })
    abs_thm-is v f = rw (h, f) refl

    pub eq_mp-refused : (top : Sequent N) → same_tm alphabet a top.concl ≡ false → eq_mp_rule alphabet th top
        ≡ Err NotAlphaEqual
    eq_mp-refused top f = rw (h, f) refl

    pub eq_mp-made : (top : Sequent N) → same_tm alphabet a top.concl ≡ true → eq_mp_rule alphabet th top
        ≡ Ok (record { hyps = union alphabet th.hyps top.hyps; concl = b })
    eq_mp-made top f = rw (h, f) refl

  -- ---- the rules of two
  module _ (lower top : Sequent N) (ty uy : Ty N) (a b c d : Tm N) (h : as_equation alphabet lower.concl
      ≡ Some (ty, a, b)) (k : as_equation alphabet top.concl ≡ Some (uy, c, d)) where
    pub trans-inner : same_tm alphabet b c ≡ true → trans_rule alphabet lower top
        ≡ Ok (record { hyps = union alphabet lower.hyps top.hyps; concl = equation alphabet ty a d })
    trans-inner p = rw (h, k, p) refl

    pub trans-ends : same_tm alphabet b c ≡ false → same_tm alphabet d a ≡ true → trans_rule alphabet lower top
        ≡ Ok (record { hyps = union alphabet lower.hyps top.hyps; concl = equation alphabet ty c b })
    trans-ends p q = rw (h, k, p, q) refl

    pub trans-refused : same_tm alphabet b c ≡ false → same_tm alphabet d a ≡ false → trans_rule alphabet lower top
        ≡ Err NotAlphaEqual
    trans-refused p q = rw (h, k, p, q) refl

module _ {N : Type 0} (alphabet : Alphabet N) (tells : Tells alphabet) where
  -- ---- applications
  -- what an application of such a function to such an argument answers
  record IsApplied (ty uy : Ty N) (a b : Ty N) : Type 0 where
    function : ty ≡ fun_ty alphabet a b
    argument : uy ≡ a

  applied-is : (f x : Tm N) (ty uy a b : Ty N) → HasType alphabet f ty → HasType alphabet x uy → IsApplied ty uy a b
      → app_rule alphabet f x ≡ limited alphabet (App f x)
  applied-is f x ty uy a b p q s =
      let typed : HasType alphabet f (fun_ty alphabet a b) = p ∙ ap Some s.function in
      let takes = (has_type-is alphabet tells x a).1 (q ∙ ap Some s.argument) in
      rw (typed, as_fun_ty-fun alphabet tells a b, takes) refl

  module _ (lower top : Sequent N) (ty uy : Ty N) (f g x y : Tm N) (h : as_equation alphabet lower.concl
      ≡ Some (ty, f, g)) (k : as_equation alphabet top.concl ≡ Some (uy, x, y)) where
    -- the conclusion of the rule
    abbrev conclusion : Ty N → Tm N
    conclusion b = equation alphabet b (App f x) (App g y)

    abbrev answer : Ty N → Result (Sequent N) (Fault N)
    answer b = within_limit alphabet (record { hyps = union alphabet lower.hyps top.hyps; concl = conclusion b })

    -- the function, or its refusal and that of the rule
    function_cases : HasType alphabet f ty
        → ((app_rule alphabet f x ≡ Err NotFunction) × (app_thm_rule alphabet lower top ≡ Err NotFunction))
        ⊎ ((a b : Ty N) × (ty ≡ fun_ty alphabet a b))
    function_cases p = go (as_fun_ty alphabet ty) refl
      where
        go : (o : Option (Ty N × Ty N)) → as_fun_ty alphabet ty ≡ o
            → ((app_rule alphabet f x ≡ Err NotFunction) × (app_thm_rule alphabet lower top ≡ Err NotFunction))
            ⊎ ((a b : Ty N) × (ty ≡ fun_ty alphabet a b))
        go None e = inl (rw (p, e) refl, rw (h, k, e) refl)
        go (Some (a, b)) e = inr (a, b, as_fun_ty-some alphabet tells ty a b e)

    -- the argument, or its refusal and that of the rule
    argument_cases : HasType alphabet f ty → HasType alphabet x uy → (a b : Ty N) → ty ≡ fun_ty alphabet a b
        → ((app_rule alphabet f x ≡ Err ArgumentType) × (app_thm_rule alphabet lower top ≡ Err ArgumentType))
        ⊎ (IsApplied ty uy a b × (app_thm_rule alphabet lower top ≡ answer b))
    argument_cases p q a b e =
        let parts : as_fun_ty alphabet ty ≡ Some (a, b) = ap (as_fun_ty alphabet) e
        ∙ as_fun_ty-fun alphabet tells a b in
        elim (cases_of (same_ty alphabet a uy) (same_ty-is alphabet tells a uy)) [
          | inl s ↦ inr (record { function = e; argument = sym s.1 }, rw (h, k, parts, s.0) refl)
          | inr s ↦ inl (rw (p, parts, not_taken s.1) refl, rw (h, k, parts, s.0) refl)
        ]
      where
        not_taken : (a ≡ uy → ⊥) → has_type alphabet x a ≡ false
        not_taken n = elim (cases_of (has_type alphabet x a) (has_type-is alphabet tells x a))
            [ inl s ↦ absurd (n (same_Some a uy (sym s.1 ∙ q))) | inr s ↦ s.0 ]

    -- a side that passes the limit
    side_refused : (e : RuleFault) (b : Ty N) (t : Tm N) (r : Result (Tm N) (Fault N)) → r ≡ limited alphabet t
        → app_thm_rule alphabet lower top ≡ answer b
        → (is_shallow alphabet (conclusion b) ≡ true → is_shallow alphabet t ≡ true) → RefusesRule e r
        → RefusesRule e (app_thm_rule alphabet lower top)
    side_refused e b t r p q inside refused =
        let side : RefusesRule e (limited alphabet t) =
        subst (λ (z : Result (Tm N) (Fault N)). RefusesRule e z) p refused in
        subst (λ (z : Result (Sequent N) (Fault N)). RefusesRule e z) (sym q)
        (within-refused alphabet e (union alphabet lower.hyps top.hyps) (conclusion b)
        (limited-refused alphabet e t (conclusion b) inside side))

    -- the refusal of the left application is that of the rule
    pub app_thm-left : (e : RuleFault) → HasType alphabet f ty → HasType alphabet x uy
        → RefusesRule e (app_rule alphabet f x) → RefusesRule e (app_thm_rule alphabet lower top)
    app_thm-left e p q r = elim (function_cases p) [
      | inl s ↦ refused-same e NotFunction (app_rule alphabet f x) (app_thm_rule alphabet lower top) s.0 s.1 r
      | inr s ↦ elim (argument_cases p q s.0 s.1 s.2) [
        | inl t ↦ refused-same e ArgumentType (app_rule alphabet f x) (app_thm_rule alphabet lower top) t.0 t.1 r
        | inr t ↦ side_refused e s.1 (App f x) (app_rule alphabet f x) (applied-is f x ty uy s.0 s.1 p q t.0) t.1
            (shallow-left alphabet s.1 (App f x) (App g y)) r
      ]
    ]

    -- where the left application is made, both are applications, or are refused by the limit alone
    applied_cases : HasType alphabet f ty → HasType alphabet x uy → (l : Tm N) → app_rule alphabet f x ≡ Ok l
        → (a b : Ty N) × IsApplied ty uy a b × (app_thm_rule alphabet lower top ≡ answer b)
    applied_cases p q l r = elim (function_cases p) [
      | inl s ↦ absurd (never NotFunction s.0)
      | inr s ↦ elim (argument_cases p q s.0 s.1 s.2)
          [ inl t ↦ absurd (never ArgumentType t.0) | inr t ↦ (s.0, s.1, t.0, t.1) ]
    ]
      where
        never : (e : Fault N) → app_rule alphabet f x ≡ Err e → ⊥
        never e s = let both : ◌≡◌ {A = Result (Tm N) (Fault N)} (Err e) (Ok l) = sym s ∙ r in cc

    -- the refusal of the right application, after the left one, is that of the rule
    pub app_thm-right : (e : RuleFault) (l : Tm N) → HasType alphabet f ty → HasType alphabet x uy
        → HasType alphabet g ty → HasType alphabet y uy → app_rule alphabet f x ≡ Ok l
        → RefusesRule e (app_rule alphabet g y) → RefusesRule e (app_thm_rule alphabet lower top)
    app_thm-right e l p q u v made r =
        let (a, b, s, t) = applied_cases p q l made in
        side_refused e b (App g y) (app_rule alphabet g y) (applied-is g y ty uy a b u v s) t
        (shallow-right alphabet b (App f x) (App g y)) r

    -- the rule after both applications
    pub record IsApplications (b : Ty N) (l r : Tm N) : Type 0 where
      pub left : HasType alphabet l b
      pub right : HasType alphabet r b
      pub rule : app_thm_rule alphabet lower top ≡ within_limit alphabet
          (record { hyps = union alphabet lower.hyps top.hyps; concl = equation alphabet b l r })

    pub app_thm-is : (l r : Tm N) → HasType alphabet f ty → HasType alphabet x uy → HasType alphabet g ty
        → HasType alphabet y uy → app_rule alphabet f x ≡ Ok l → app_rule alphabet g y ≡ Ok r
        → (b : Ty N) × IsApplications b l r
    app_thm-is l r p q u v made made_right =
        let (a, b, s, t) = applied_cases p q l made in
        let left = (app_rule-ok alphabet tells f x l made).0 in
        let right = (app_rule-ok alphabet tells g y r made_right).0 in
        let typed_left : HasType alphabet (App f x) b =
        app-typed alphabet tells [] f x a b (p ∙ ap Some s.function) (q ∙ ap Some s.argument) in
        let typed_right : HasType alphabet (App g y) b =
        app-typed alphabet tells [] g y a b (u ∙ ap Some s.function) (v ∙ ap Some s.argument) in (
          b,
          record {
            left = subst (λ z. HasType alphabet z b) (sym left) typed_left;
            right = subst (λ z. HasType alphabet z b) (sym right) typed_right;
            rule = t ∙ (λ i. within_limit alphabet
                (record {
                  hyps = union alphabet lower.hyps top.hyps;
                  concl = equation alphabet b (sym left i)
                      (sym right i);
                }));
          },
        )

  -- ---- abstractions
  module _ (v : Variable N) (th : Sequent N) (ty : Ty N) (a b : Tm N)
      (h : as_equation alphabet th.concl ≡ Some (ty, a, b)) (f : is_free_in_some alphabet v th.hyps ≡ false) where
    abbrev abstraction : Tm N → Tm N
    abstraction t = Abs v.ty (close alphabet v t)

    abstraction_refused : (e : RuleFault) (t : Tm N)
        → (is_shallow alphabet (equation alphabet (fun_ty alphabet v.ty ty) (abstraction a) (abstraction b)) ≡ true
        → is_shallow alphabet (abstraction t) ≡ true) → RefusesRule e (abs_rule alphabet v t)
        → RefusesRule e (abs_thm_rule alphabet v th)
    abstraction_refused e t inside r =
        let conclusion = equation alphabet (fun_ty alphabet v.ty ty) (abstraction a) (abstraction b) in
        subst (λ (z : Result (Sequent N) (Fault N)). RefusesRule e z) (sym (abs_thm-is alphabet th ty a b h v f))
        (within-refused alphabet e th.hyps conclusion
        (limited-refused alphabet e (abstraction t) conclusion inside r))

    -- the refusal of an abstraction is that of the rule
    pub abs_thm-left : (e : RuleFault) → RefusesRule e (abs_rule alphabet v a)
        → RefusesRule e (abs_thm_rule alphabet v th)
    abs_thm-left e r =
        abstraction_refused e a (shallow-left alphabet (fun_ty alphabet v.ty ty) (abstraction a) (abstraction b)) r

    pub abs_thm-right : (e : RuleFault) → RefusesRule e (abs_rule alphabet v b)
        → RefusesRule e (abs_thm_rule alphabet v th)
    abs_thm-right e r =
        abstraction_refused e b (shallow-right alphabet (fun_ty alphabet v.ty ty) (abstraction a) (abstraction b)) r

    -- the rule after both abstractions
    pub record IsAbstractions (l r : Tm N) : Type 0 where
      pub left : HasType alphabet l (fun_ty alphabet v.ty ty)
      pub right : HasType alphabet r (fun_ty alphabet v.ty ty)
      pub rule : abs_thm_rule alphabet v th
          ≡ within_limit alphabet (record { hyps = th.hyps; concl = equation alphabet (fun_ty alphabet v.ty ty) l r })

    abstraction_typed : (t l : Tm N) → HasType alphabet t ty → abs_rule alphabet v t ≡ Ok l
        → (l ≡ abstraction t) × HasType alphabet l (fun_ty alphabet v.ty ty)
    abstraction_typed t l typed made =
        let same : abstraction t ≡ l =
        (limit-ok (is_shallow alphabet (abstraction t)) Nesting (abstraction t) l made).1 in
        let is_typed : HasType alphabet (abstraction t) (fun_ty alphabet v.ty ty) =
        rw (type-close_at alphabet tells [] v t ty typed) refl in
        (sym same, subst (λ z. HasType alphabet z (fun_ty alphabet v.ty ty)) same is_typed)

    pub abs_thm-parts : (l r : Tm N) → HasType alphabet a ty → HasType alphabet b ty → abs_rule alphabet v a ≡ Ok l
        → abs_rule alphabet v b ≡ Ok r → IsAbstractions l r
    abs_thm-parts l r p q made made_right =
        let (left, typed_left) = abstraction_typed a l p made in
        let (right, typed_right) = abstraction_typed b r q made_right in
        record {
          left = typed_left;
          right = typed_right;
          rule = abs_thm-is alphabet th ty a b h v f
              ∙ (λ i. within_limit alphabet
              (record {
                hyps = th.hyps;
                concl = equation alphabet (fun_ty alphabet v.ty ty) (sym left i)
                    (sym right i);
              }));
        }
