-- The equation (\v. p v) v = p v as it is made over the table.
use Rattle.std.specs.Option.{option_map}
use Rattle.std.proofs.Common.{◌≡◌, ℕ, ◌<◌, cond, [], ◌∷◌, length, slice_get}
use Rattle.std.proofs.Common.{Some, Result, Ok, refl, sym, ap, ◌∙◌, arith}
use Rattle.ot_logic.specs.Trees.{Ty, Variable, Tm, Free, Con, Bound, App, Abs, NVar, Sequent}
use Rattle.ot_logic.specs.Faults.{Fault, Nesting}
use Rattle.ot_logic.specs.Hol.{fun_ty, bool_ty, type_in, HasType, IsClosed, is_shallow, same_var, close, sequent_of}
use Rattle.ot_logic.specs.NamedTerms.{nameless}
use Rattle.ot_logic.specs.Naming.{numbers}
use Rattle.ot_logic.specs.Rules.{within_limit, app_rule, abs_rule}
use Rattle.ot_laws.proofs.Steps.{limit-ok}
use Rattle.ot_laws.proofs.Terms.{close_at_fresh}
use Rattle.ot_laws.proofs.Tests.{tells_numbers, same_var-is}
use Rattle.ot_laws.proofs.Typing.{app-typed, type-more}
use Rattle.ot_type.specs.TypeTable.{type_at}
use Rattle.ot_term.specs.Term.{TermTable}
use Rattle.ot_term.specs.TermTable.{variable_of, Grows, IsTermTable}
use Rattle.ot_term.specs.declared.term.VarKey.{VarKey}
use Rattle.ot_term.proofs.Growing.{Grows-trans, variable_of-Grows}
use Rattle.ot_kernel.specs.declared.theorem.Theorem.{Theorem}
use Rattle.ot_kernel.specs.declared.fault.RuleFault.{RuleFault}
use Rattle.ot_kernel.specs.Answers.{RefusesRule}
use Rattle.ot_kernel.specs.Numbered.{tm_at, Derives}
use Rattle.ot_kernel.specs.Equating.{limited, equation_rule, IsMadeTerm}
use Rattle.ot_kernel.specs.Opening.{beta_over}
use Rattle.ot_kernel.proofs.NewTerms.{new_at}
use Rattle.ot_kernel.proofs.EquationRules.{equation_rule-at, within-refused}
use Rattle.ot_kernel.proofs.Equating.{tm_at-Grows}
use Rattle.ot_kernel.proofs.NewFunctions.{app_rule-is, left_part_refused, right_part_refused}
use Rattle.ot_kernel.proofs.RoundTrips.{same_refusal, no_hyps_derive}

module _ (t : TermTable) (key : VarKey) (p : ℕ) (below : key.ty < length t.types) (hp : p < length t.terms)
    (predicate : HasType numbers (tm_at t.terms p) (fun_ty numbers (type_at t.types key.ty) (bool_ty numbers)))
    (closed : IsClosed numbers (tm_at t.terms p)) where
  abbrev var : Variable ℕ
  var = variable_of t.types key

  abbrev P : Tm ℕ
  P = tm_at t.terms p

  abbrev holds : Tm ℕ
  holds = App P (Free var)

  abbrev function : Tm ℕ
  function = Abs var.ty (App P (Bound 0))

  abbrev redex : Tm ℕ
  redex = App function (Free var)

  abbrev bool : Ty ℕ
  bool = bool_ty numbers

  abbrev equals : Tm ℕ
  equals = Con numbers.equals (fun_ty numbers bool (fun_ty numbers bool bool))

  abbrev whole : Tm ℕ
  whole = beta_over numbers var P

  abbrev stated : Result (Sequent ℕ) (Fault ℕ)
  stated = within_limit numbers (sequent_of numbers whole)

  holds_typed : HasType numbers holds bool
  holds_typed = app-typed numbers tells_numbers [] P (Free var) var.ty bool predicate refl

  redex_typed : HasType numbers redex bool
  redex_typed =
      app-typed numbers tells_numbers [] function (Free var) var.ty bool
      (ap (option_map (fun_ty numbers var.ty)) (app-typed numbers tells_numbers (var.ty ∷ []) P (Bound 0) var.ty bool
      (type-more numbers tells_numbers [] (var.ty ∷ []) P (fun_ty numbers var.ty bool) predicate) refl)) refl

  function_is : Abs var.ty (close numbers var holds) ≡ function
  function_is =
      let same = close_at_fresh numbers tells_numbers 0 var P (closed var) in
      let place : cond (same_var numbers var var) (Bound 0) (Free var) ≡ Bound 0 =
      ap (λ b. cond b (Bound 0) (Free var)) ((same_var-is numbers tells_numbers var var).1 refl) in
      λ i. Abs var.ty (App (same i) (place i))

  module _ (m : TermTable) (first : Grows t m) (x : ℕ) (is_var : slice_get m.terms x ≡ Some (NVar var)) where
    var_is : tm_at m.terms x ≡ Free var
    var_is = ap (nameless numbers) (new_at m x (NVar var) is_var).1

    x_below : x < length m.terms
    x_below = (new_at m x (NVar var) is_var).0

    holds_rule : app_rule numbers (tm_at m.terms p) (tm_at m.terms x) ≡ limited numbers holds
    holds_rule =
        let same = tm_at-Grows t m first p hp in
        (λ i. app_rule numbers (same i) (var_is i))
        ∙ app_rule-is numbers tells_numbers P (Free var) var.ty bool predicate refl

    pub beta_holds_refused : (e : RuleFault) → RefusesRule e (app_rule numbers (tm_at m.terms p) (tm_at m.terms x))
        → RefusesRule e stated
    beta_holds_refused e r = within-refused numbers e [] whole
        (right_part_refused e (App equals redex) holds (same_refusal e _ _ holds_rule r))

    module _ (n : TermTable) (second : Grows m n) (h : ℕ)
        (made_h : IsMadeTerm (Ok h) (app_rule numbers (tm_at m.terms p) (tm_at m.terms x)) n.terms) where
      holds_is : tm_at n.terms h ≡ holds
      holds_is =
          sym (limit-ok (is_shallow numbers holds) Nesting holds (tm_at n.terms h) (sym holds_rule ∙ made_h.1)).1

      function_rule : abs_rule numbers (variable_of n.types key) (tm_at n.terms h) ≡ limited numbers function
      function_rule =
          let binder = variable_of-Grows t n (Grows-trans first second) key below in
          (λ i. abs_rule numbers (binder i) (holds_is i)) ∙ ap (limited numbers) function_is

      pub beta_function_refused : (e : RuleFault)
          → RefusesRule e (abs_rule numbers (variable_of n.types key) (tm_at n.terms h)) → RefusesRule e stated
      beta_function_refused e r =
          within-refused numbers e [] whole
          (left_part_refused e (App equals redex) holds
          (right_part_refused e equals redex
          (left_part_refused e function (Free var) (same_refusal e _ _ function_rule r))))

      module _ (o : TermTable) (third : Grows n o) (f : ℕ)
          (made_f : IsMadeTerm (Ok f) (abs_rule numbers (variable_of n.types key) (tm_at n.terms h)) o.terms) where
        f_is : tm_at o.terms f ≡ function
        f_is = sym (limit-ok (is_shallow numbers function) Nesting function (tm_at o.terms f)
            (sym function_rule ∙ made_f.1)).1

        x_is : tm_at o.terms x ≡ Free var
        x_is = tm_at-Grows m o (Grows-trans second third) x x_below ∙ var_is

        pub x_there : x < length o.terms
        x_there = let l = (Grows-trans second third).terms.longer in let b = x_below in omega (arith, l, b)

        redex_rule : app_rule numbers (tm_at o.terms f) (tm_at o.terms x) ≡ limited numbers redex
        redex_rule =
            (λ i. app_rule numbers (f_is i) (x_is i))
            ∙ app_rule-is numbers tells_numbers function (Free var) var.ty bool
            (ap (option_map (fun_ty numbers var.ty))
            (app-typed numbers tells_numbers (var.ty ∷ []) P (Bound 0) var.ty bool
            (type-more numbers tells_numbers [] (var.ty ∷ []) P (fun_ty numbers var.ty bool) predicate) refl))
            refl

        pub beta_redex_refused : (e : RuleFault)
            → RefusesRule e (app_rule numbers (tm_at o.terms f) (tm_at o.terms x)) → RefusesRule e stated
        beta_redex_refused e r =
            within-refused numbers e [] whole
            (left_part_refused e (App equals redex) holds
            (right_part_refused e equals redex (same_refusal e _ _ redex_rule r)))

        module _ (q : TermTable) (fourth : Grows o q) (r : ℕ)
            (made_r : IsMadeTerm (Ok r) (app_rule numbers (tm_at o.terms f) (tm_at o.terms x)) q.terms) where
          r_is : tm_at q.terms r ≡ redex
          r_is = sym
              (limit-ok (is_shallow numbers redex) Nesting redex (tm_at q.terms r) (sym redex_rule ∙ made_r.1)).1

          h_is : tm_at q.terms h ≡ holds
          h_is = tm_at-Grows n q (Grows-trans third fourth) h made_h.0 ∙ holds_is

          pub beta_sides : type_in numbers [] (tm_at q.terms r) ≡ type_in numbers [] (tm_at q.terms h)
          beta_sides = ap (type_in numbers []) r_is ∙ redex_typed ∙ sym (ap (type_in numbers []) h_is ∙ holds_typed)

          whole_rule : equation_rule numbers (tm_at q.terms r) (tm_at q.terms h) ≡ limited numbers whole
          whole_rule = (λ i. equation_rule numbers (r_is i) (h_is i))
              ∙ equation_rule-at numbers redex holds bool redex_typed

          pub beta_refused : (e : RuleFault)
              → RefusesRule e (equation_rule numbers (tm_at q.terms r) (tm_at q.terms h)) → RefusesRule e stated
          beta_refused e k = within-refused numbers e [] whole (same_refusal e _ _ whole_rule k)

          pub beta_derived : (u : TermTable) → IsTermTable q → Grows q u → (th : Theorem) → th.hyps ≡ []
              → IsMadeTerm (Ok th.concl) (equation_rule numbers (tm_at q.terms r) (tm_at q.terms h)) u.terms
              → Derives (Ok th) stated u.terms
          beta_derived u table grows th none made =
              no_hyps_derive q u table grows th whole none (made.0, sym whole_rule ∙ made.1)
