-- The two theorems of a type as they are made over the table: there and back again.
use Rattle.std.proofs.Common.{◌≡◌, ℕ, ◌<◌, [], length, slice_get, Some, Result, Ok, refl, sym, ap, subst, ◌∙◌, arith}
use Rattle.ot_logic.specs.Trees.{Variable, Tm, Free, Con, App, NVar, NApp, Sequent}
use Rattle.ot_logic.specs.Faults.{Fault, Nesting}
use Rattle.ot_logic.specs.Hol.{fun_ty, bool_ty, type_in, type_of, HasType, is_shallow, equation, sequent_of}
use Rattle.ot_logic.specs.NamedTerms.{nameless}
use Rattle.ot_logic.specs.Naming.{numbers}
use Rattle.ot_logic.specs.Rules.{within_limit, app_rule}
use Rattle.ot_laws.proofs.Equations.{equation-typed}
use Rattle.ot_laws.proofs.Steps.{app_rule-ok, limit-ok}
use Rattle.ot_laws.proofs.Tests.{tells_numbers}
use Rattle.ot_laws.proofs.Typing.{type_of-is, app-typed}
use Rattle.ot_type.specs.TypeTable.{type_at}
use Rattle.ot_term.specs.Term.{TermTable}
use Rattle.ot_term.specs.TermTable.{term_at, variable_of, Grows, IsTermTable}
use Rattle.ot_kernel.specs.declared.theorem.Theorem.{Theorem}
use Rattle.std.specs.List.{All}
use Rattle.std.proofs.lemmas.List.Elements.{All-nil}
use Rattle.ot_term.specs.declared.term.VarKey.{VarKey}
use Rattle.ot_term.specs.Equality.{named_equation}
use Rattle.ot_term.proofs.Growing.{Grows-trans, variable_of-Grows}
use Rattle.ot_kernel.specs.declared.fault.RuleFault.{RuleFault}
use Rattle.ot_kernel.specs.Answers.{RefusesRule}
use Rattle.ot_kernel.specs.Numbered.{tm_at, tms_at, Derives}
use Rattle.ot_kernel.specs.Equating.{limited, equation_rule, IsMadeTerm}
use Rattle.ot_kernel.specs.Proved.{equal_functions, trip, TurnsBack, MakesTrip}
use Rattle.ot_kernel.proofs.NewTerms.{new_at}
use Rattle.ot_kernel.proofs.EquationRules.{equation_rule-at, within-refused}
use Rattle.ot_kernel.proofs.Equating.{tm_at-Grows, derives_within}
use Rattle.ot_kernel.proofs.NewFunctions.{app_rule-is, left_part_refused, right_part_refused}
use Rattle.ot_kernel.proofs.NewFunctions.{left_function_refused, right_function_refused}

-- a refusal by another rule that answers the same
pub same_refusal : {X : Type 0} (e : RuleFault) (r s : Result X (Fault ℕ)) → r ≡ s → RefusesRule e r → RefusesRule e s
same_refusal {X = X} e r s p h = subst (λ (z : Result X (Fault ℕ)). RefusesRule e z) p h

-- an application that was made
pub applied_is : (f x z : Tm ℕ) → app_rule numbers f x ≡ Ok z → z ≡ App f x
applied_is f x z h = (app_rule-ok numbers tells_numbers f x z h).0

-- g (f v) has the type of v
trip_typed : (f g : Tm ℕ) (v : Variable ℕ) → TurnsBack v.ty f g → HasType numbers (trip f g v) v.ty
trip_typed f g v h = app-typed numbers tells_numbers [] g (App f (Free v)) h.other v.ty h.back
    (app-typed numbers tells_numbers [] f (Free v) v.ty h.other h.there refl)

-- a theorem without hypotheses whose conclusion was made
pub no_hyps_derive : (t u : TermTable) → IsTermTable t → Grows t u → (th : Theorem) (p : Tm ℕ) → th.hyps ≡ []
    → IsMadeTerm (Ok th.concl) (limited numbers p) u.terms
    → Derives (Ok th) (within_limit numbers (sequent_of numbers p)) u.terms
no_hyps_derive t u table grows th p none made =
    derives_within t u table grows th p (within_limit numbers (sequent_of numbers p))
    (subst (All (λ i. i < length t.terms)) (sym none) (All-nil (λ i. i < length t.terms))) made
    (ap (λ is. within_limit numbers (record { hyps = tms_at t.terms is; concl = p })) (sym none))

-- ---- v, f v and g (f v), one after the other
module _ (t : TermTable) (key : VarKey) (f g : ℕ) (hf : f < length t.terms) (hg : g < length t.terms)
    (turns : TurnsBack (type_at t.types key.ty) (tm_at t.terms f) (tm_at t.terms g)) where
  abbrev var : Variable ℕ
  var = variable_of t.types key

  abbrev F : Tm ℕ
  F = tm_at t.terms f

  abbrev G : Tm ℕ
  G = tm_at t.terms g

  module _ (m : TermTable) (first : Grows t m) (x : ℕ) (is_var : slice_get m.terms x ≡ Some (NVar var)) where
    var_is : tm_at m.terms x ≡ Free var
    var_is = ap (nameless numbers) (new_at m x (NVar var) is_var).1

    there_rule : app_rule numbers (tm_at m.terms f) (tm_at m.terms x) ≡ limited numbers (App F (Free var))
    there_rule =
        let function = tm_at-Grows t m first f hf in
        (λ i. app_rule numbers (function i) (var_is i))
        ∙ app_rule-is numbers tells_numbers F (Free var) var.ty turns.other turns.there refl

    pub there_refused : (e : RuleFault) → RefusesRule e (app_rule numbers (tm_at m.terms f) (tm_at m.terms x))
        → RefusesRule e (limited numbers (trip F G var))
    there_refused e r = right_part_refused e G (App F (Free var)) (same_refusal e _ _ there_rule r)

    module _ (n : TermTable) (second : Grows m n) (there : ℕ)
        (made : IsMadeTerm (Ok there) (app_rule numbers (tm_at m.terms f) (tm_at m.terms x)) n.terms) where
      there_is : tm_at n.terms there ≡ App F (Free var)
      there_is =
          let function = tm_at-Grows t m first f hf in
          applied_is (tm_at m.terms f) (tm_at m.terms x) (tm_at n.terms there) made.1
          ∙ (λ i. App (function i) (var_is i))

      back_rule : app_rule numbers (tm_at n.terms g) (tm_at n.terms there) ≡ limited numbers (trip F G var)
      back_rule =
          let function = tm_at-Grows t n (Grows-trans first second) g hg in
          (λ i. app_rule numbers (function i) (there_is i))
          ∙ app_rule-is numbers tells_numbers G (App F (Free var)) turns.other var.ty turns.back
          (app-typed numbers tells_numbers [] F (Free var) var.ty turns.other turns.there refl)

      pub back_refused : (e : RuleFault) → RefusesRule e (app_rule numbers (tm_at n.terms g) (tm_at n.terms there))
          → RefusesRule e (limited numbers (trip F G var))
      back_refused e r = same_refusal e _ _ back_rule r

      pub trip_made : (o : TermTable) → Grows n o → (back : ℕ)
          → IsMadeTerm (Ok back) (app_rule numbers (tm_at n.terms g) (tm_at n.terms there)) o.terms
          → MakesTrip (Ok (x, back)) F G var o.terms
      trip_made o third back made_back =
          let function = tm_at-Grows t n (Grows-trans first second) g hg in
          let within = (new_at m x (NVar var) is_var).0 in
          let later = Grows-trans second third in (
            omega (arith, within, later.terms.longer),
            made_back.0,
            tm_at-Grows m o later x within ∙ var_is,
            applied_is (tm_at n.terms g) (tm_at n.terms there) (tm_at o.terms back) made_back.1
                ∙ (λ i. App (function i) (there_is i)),
          )

  -- ---- |- (\v. g (f v)) = (\v. v)
  pub trip_refused : (e : RuleFault) → RefusesRule e (limited numbers (trip F G var))
      → RefusesRule e (within_limit numbers (equal_functions var var.ty (trip F G var) (Free var)))
  trip_refused e r =
      left_function_refused e var var.ty (NApp (term_at t.terms g) (NApp (term_at t.terms f) (NVar var))) (Free var) r

  module _ (m : TermTable) (first : Grows t m) (below : key.ty < length t.types) (x image : ℕ)
      (made : MakesTrip (Ok (x, image)) F G var m.terms) where
    image_typed : HasType numbers (tm_at m.terms image) var.ty
    image_typed = ap (type_in numbers []) made.3 ∙ trip_typed F G var turns

    pub sides_typed : type_in numbers [] (tm_at m.terms image) ≡ type_in numbers [] (tm_at m.terms x)
    sides_typed = image_typed ∙ sym (ap (type_in numbers []) made.2)

    pub trip_rule : within_limit numbers
        (equal_functions (variable_of m.types key) (type_of numbers (tm_at m.terms image)) (tm_at m.terms image)
        (tm_at m.terms x)) ≡ within_limit numbers (equal_functions var var.ty (trip F G var) (Free var))
    trip_rule =
        let binder = variable_of-Grows t m first key below in
        let at = type_of-is numbers (tm_at m.terms image) var.ty image_typed in
        let left = made.3 in
        let right = made.2 in
        λ i. within_limit numbers (equal_functions (binder i) (at i) (left i) (right i))

    -- ---- |- (\v. g (f v) = v) = (\v. p v)
    abbrev test : Tm ℕ
    test = equation numbers var.ty (trip F G var) (Free var)

    test_rule : equation_rule numbers (tm_at m.terms image) (tm_at m.terms x) ≡ limited numbers test
    test_rule =
        let left = made.3 in
        let right = made.2 in
        (λ i. equation_rule numbers (left i) (right i)) ∙ equation_rule-at numbers (trip F G var) (Free var) var.ty
        (trip_typed F G var turns)

    -- ---- |- g (f v) = v
    pub open_test_refused : (e : RuleFault)
        → RefusesRule e (equation_rule numbers (tm_at m.terms image) (tm_at m.terms x))
        → RefusesRule e (within_limit numbers (sequent_of numbers test))
    open_test_refused e r = within-refused numbers e [] test (same_refusal e _ _ test_rule r)

    pub open_test_derived : (u : TermTable) → IsTermTable m → Grows m u → (th : Theorem) → th.hyps ≡ []
        → IsMadeTerm (Ok th.concl) (equation_rule numbers (tm_at m.terms image) (tm_at m.terms x)) u.terms
        → Derives (Ok th) (within_limit numbers (sequent_of numbers test)) u.terms
    open_test_derived u table grows th none made_concl =
        no_hyps_derive m u table grows th test none (made_concl.0, sym test_rule ∙ made_concl.1)

    module _ (p : ℕ) (hp : p < length t.terms)
        (predicate : HasType numbers (tm_at t.terms p) (fun_ty numbers var.ty (bool_ty numbers))) where
      abbrev holds_tree : Tm ℕ
      holds_tree = App (tm_at t.terms p) (Free var)

      abbrev stated : Result (Sequent ℕ) (Fault ℕ)
      stated = within_limit numbers (equal_functions var (bool_ty numbers) test holds_tree)

      limited_test_refused : (e : RuleFault) → RefusesRule e (limited numbers test) → RefusesRule e stated
      limited_test_refused e r =
          left_function_refused e var (bool_ty numbers)
          (named_equation var.ty (NApp (term_at t.terms g) (NApp (term_at t.terms f) (NVar var))) (NVar var))
          holds_tree r

      pub test_refused : (e : RuleFault)
          → RefusesRule e (equation_rule numbers (tm_at m.terms image) (tm_at m.terms x)) → RefusesRule e stated
      test_refused e r = limited_test_refused e (same_refusal e _ _ test_rule r)

      module _ (n : TermTable) (second : Grows m n) (same : ℕ)
          (made_same : IsMadeTerm (Ok same) (equation_rule numbers (tm_at m.terms image) (tm_at m.terms x)) n.terms) where
        same_is : tm_at n.terms same ≡ test
        same_is =
            sym (limit-ok (is_shallow numbers test) Nesting test (tm_at n.terms same) (sym test_rule ∙ made_same.1)).1

        predicate_is : tm_at n.terms p ≡ tm_at t.terms p
        predicate_is = tm_at-Grows t n (Grows-trans first second) p hp

        argument_is : tm_at n.terms x ≡ Free var
        argument_is = tm_at-Grows m n second x made.0 ∙ made.2

        holds_rule : app_rule numbers (tm_at n.terms p) (tm_at n.terms x) ≡ limited numbers holds_tree
        holds_rule = (λ i. app_rule numbers (predicate_is i) (argument_is i))
            ∙ app_rule-is numbers tells_numbers (tm_at t.terms p) (Free var) var.ty (bool_ty numbers) predicate refl

        pub holds_refused : (e : RuleFault) → RefusesRule e (app_rule numbers (tm_at n.terms p) (tm_at n.terms x))
            → RefusesRule e stated
        holds_refused e r = right_function_refused e var (bool_ty numbers) test (NApp (term_at t.terms p) (NVar var))
            (same_refusal e _ _ holds_rule r)

        module _ (o : TermTable) (third : Grows n o) (holds : ℕ)
            (made_holds : IsMadeTerm (Ok holds) (app_rule numbers (tm_at n.terms p) (tm_at n.terms x)) o.terms) where
          holds_is : tm_at o.terms holds ≡ holds_tree
          holds_is = applied_is (tm_at n.terms p) (tm_at n.terms x) (tm_at o.terms holds) made_holds.1
              ∙ (λ i. App (predicate_is i) (argument_is i))

          same_later : tm_at o.terms same ≡ test
          same_later = tm_at-Grows n o third same made_same.0 ∙ same_is

          test_typed : HasType numbers (tm_at o.terms same) (bool_ty numbers)
          test_typed = ap (type_in numbers []) same_later ∙ equation-typed numbers tells_numbers [] var.ty
              (trip F G var) (Free var) (trip_typed F G var turns) refl

          pub tests_typed : type_in numbers [] (tm_at o.terms same) ≡ type_in numbers [] (tm_at o.terms holds)
          tests_typed = test_typed
              ∙ sym (ap (type_in numbers []) holds_is ∙ app-typed numbers tells_numbers [] (tm_at t.terms p)
              (Free var) var.ty (bool_ty numbers) predicate refl)

          pub tests_rule : within_limit numbers
              (equal_functions (variable_of o.types key) (type_of numbers (tm_at o.terms same)) (tm_at o.terms same)
              (tm_at o.terms holds)) ≡ stated
          tests_rule =
              let binder = variable_of-Grows t o (Grows-trans (Grows-trans first second) third) key
              below in
              let at = type_of-is numbers (tm_at o.terms same) (bool_ty numbers) test_typed in
              λ i. within_limit numbers (equal_functions (binder i) (at i) (same_later i) (holds_is i))

          -- ---- |- p v = (g (f v) = v)
          abbrev open_concl : Tm ℕ
          open_concl = equation numbers (bool_ty numbers) holds_tree test

          open_rule : equation_rule numbers (tm_at o.terms holds) (tm_at o.terms same) ≡ limited numbers open_concl
          open_rule = (λ i. equation_rule numbers (holds_is i) (same_later i))
              ∙ equation_rule-at numbers holds_tree test (bool_ty numbers)
              (app-typed numbers tells_numbers [] (tm_at t.terms p) (Free var) var.ty (bool_ty numbers) predicate
              refl)

          pub open_concl_refused : (e : RuleFault)
              → RefusesRule e (equation_rule numbers (tm_at o.terms holds) (tm_at o.terms same))
              → RefusesRule e (within_limit numbers (sequent_of numbers open_concl))
          open_concl_refused e r = within-refused numbers e [] open_concl (same_refusal e _ _ open_rule r)

          pub open_concl_derived : (u : TermTable) → IsTermTable o → Grows o u → (th : Theorem) → th.hyps ≡ []
              → IsMadeTerm (Ok th.concl) (equation_rule numbers (tm_at o.terms holds) (tm_at o.terms same)) u.terms
              → Derives (Ok th) (within_limit numbers (sequent_of numbers open_concl)) u.terms
          open_concl_derived u table grows th none made_concl =
              no_hyps_derive o u table grows th open_concl none (made_concl.0, sym open_rule ∙ made_concl.1)

        pub open_holds_refused : (e : RuleFault)
            → RefusesRule e (app_rule numbers (tm_at n.terms p) (tm_at n.terms x)) → RefusesRule e
            (within_limit numbers (sequent_of numbers (equation numbers (bool_ty numbers) holds_tree test)))
        open_holds_refused e r =
            let equals =
            Con numbers.equals
            (fun_ty numbers (bool_ty numbers) (fun_ty numbers (bool_ty numbers) (bool_ty numbers))) in
            within-refused numbers e [] (equation numbers (bool_ty numbers) holds_tree test)
            (left_part_refused e (App equals holds_tree) test
            (right_part_refused e equals holds_tree (same_refusal e _ _ holds_rule r)))

      pub open_same_refused : (e : RuleFault)
          → RefusesRule e (equation_rule numbers (tm_at m.terms image) (tm_at m.terms x)) → RefusesRule e
          (within_limit numbers (sequent_of numbers (equation numbers (bool_ty numbers) holds_tree test)))
      open_same_refused e r =
          let equals =
          Con numbers.equals
          (fun_ty numbers (bool_ty numbers) (fun_ty numbers (bool_ty numbers) (bool_ty numbers))) in
          within-refused numbers e [] (equation numbers (bool_ty numbers) holds_tree test)
          (right_part_refused e (App equals holds_tree) test (same_refusal e _ _ test_rule r))

  -- where g (f v) is refused, so are the open theorems
  deep_test_refused : (e : RuleFault) → RefusesRule e (limited numbers (trip F G var))
      → RefusesRule e (limited numbers (equation numbers var.ty (trip F G var) (Free var)))
  deep_test_refused e r =
      let equals = Con numbers.equals (fun_ty numbers var.ty (fun_ty numbers var.ty (bool_ty numbers))) in
      left_part_refused e (App equals (trip F G var)) (Free var) (right_part_refused e equals (trip F G var) r)

  pub open_trip_refused : (e : RuleFault) → RefusesRule e (limited numbers (trip F G var))
      → RefusesRule e (within_limit numbers (sequent_of numbers (equation numbers var.ty (trip F G var) (Free var))))
  open_trip_refused e r = within-refused numbers e [] (equation numbers var.ty (trip F G var) (Free var))
      (deep_test_refused e r)

  pub open_deep_refused : (e : RuleFault) (holds : Tm ℕ) → RefusesRule e (limited numbers (trip F G var))
      → RefusesRule e
      (within_limit numbers
      (sequent_of numbers
      (equation numbers (bool_ty numbers) holds (equation numbers var.ty (trip F G var) (Free var)))))
  open_deep_refused e holds r =
      let equals =
      Con numbers.equals
      (fun_ty numbers (bool_ty numbers) (fun_ty numbers (bool_ty numbers) (bool_ty numbers))) in
      let right = equation numbers var.ty (trip F G var) (Free var) in
      within-refused numbers e [] (equation numbers (bool_ty numbers) holds right)
      (right_part_refused e (App equals holds) right (deep_test_refused e r))

  -- where g (f v) is refused, so is the second theorem
  pub deep_trip_refused : (e : RuleFault) (holds : Tm ℕ) → RefusesRule e (limited numbers (trip F G var))
      → RefusesRule e
      (within_limit numbers
      (equal_functions var (bool_ty numbers) (equation numbers var.ty (trip F G var) (Free var)) holds))
  deep_trip_refused e holds r =
      let equals = Con numbers.equals (fun_ty numbers var.ty (fun_ty numbers var.ty (bool_ty numbers))) in
      left_function_refused e var (bool_ty numbers)
      (named_equation var.ty (NApp (term_at t.terms g) (NApp (term_at t.terms f) (NVar var))) (NVar var)) holds
      (left_part_refused e (App equals (trip F G var)) (Free var) (right_part_refused e equals (trip F G var) r))
