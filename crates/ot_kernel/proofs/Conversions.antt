-- The constants of a new type over the table, and its theorems.
use Rattle.std.proofs.Common.{◌≡◌, ℕ, ◌<◌, List, [], length, Some, Result, Ok, sym, ap, subst, ◌∙◌, arith}
use Rattle.ot_logic.specs.Trees.{Ty, Tm, Named, Free, Con, App, Sequent}
use Rattle.ot_logic.specs.Faults.{Fault, Nesting}
use Rattle.ot_logic.specs.Hol.{fun_ty, bool_ty, type_in, HasType, equation, sequent_of, is_shallow}
use Rattle.ot_logic.specs.Naming.{numbers}
use Rattle.ot_logic.specs.Rules.{within_limit}
use Rattle.ot_laws.proofs.Steps.{limit-ok}
use Rattle.ot_type.specs.TypeTable.{type_at}
use Rattle.ot_term.specs.Term.{TermTable}
use Rattle.ot_term.specs.TermTable.{variable_of, Grows}
use Rattle.ot_term.specs.declared.term.VarKey.{VarKey}
use Rattle.ot_term.proofs.Growing.{Grows-trans, type_at-Grows}
use Rattle.ot_kernel.specs.declared.theorem.Theorem.{Theorem}
use Rattle.ot_kernel.specs.declared.fault.RuleFault.{RuleFault}
use Rattle.ot_kernel.specs.Answers.{RefusesRule}
use Rattle.ot_kernel.specs.Numbered.{tm_at, Derives}
use Rattle.ot_kernel.specs.Equating.{limited, IsMadeTerm}
use Rattle.ot_kernel.specs.Opening.{beta_over}
use Rattle.ot_kernel.specs.Proved.{IsNumberOf, equal_functions, trip, TurnsBack}
use Rattle.ot_kernel.proofs.Equating.{tm_at-Grows}
use Rattle.ot_kernel.proofs.NewTypes as new

-- the numbers of the new type, of the type that it is taken from, and of the constants between them
pub record AreConversions (T U : Ty ℕ) (abs rep : ℕ) (m : TermTable) (ty u to from : ℕ) : Type 0 where
  pub new_below : ty < length m.types
  pub new_is : type_at m.types ty ≡ T
  pub old_below : u < length m.types
  pub old_is : type_at m.types u ≡ U
  pub to_below : to < length m.terms
  pub to_is : tm_at m.terms to ≡ Con abs (fun_ty numbers U T)
  pub from_below : from < length m.terms
  pub from_is : tm_at m.terms from ≡ Con rep (fun_ty numbers T U)

pub conversions_later : {T U : Ty ℕ} {abs rep : ℕ} {m n : TermTable} {ty u to from : ℕ} → Grows m n
    → AreConversions T U abs rep m ty u to from → AreConversions T U abs rep n ty u to from
conversions_later {T} {U} {abs} {rep} {m} {n} {ty} {u} {to} {from} g k = record {
  new_below = omega (arith, k.new_below, g.types.longer);
  new_is = type_at-Grows m n g ty k.new_below ∙ k.new_is;
  old_below = omega (arith, k.old_below, g.types.longer);
  old_is = type_at-Grows m n g u k.old_below ∙ k.old_is;
  to_below = omega (arith, k.to_below, g.terms.longer);
  to_is = tm_at-Grows m n g to k.to_below ∙ k.to_is;
  from_below = omega (arith, k.from_below, g.terms.longer);
  from_is = tm_at-Grows m n g from k.from_below ∙ k.from_is;
}

-- the term that was made
made_is : (x y : Tm ℕ) → limited numbers x ≡ Ok y → x ≡ y
made_is x y h = (limit-ok (is_shallow numbers x) Nesting x y h).1

module _ {t m : TermTable} (first : Grows t m) {T : Ty ℕ} {ty : ℕ} (u abs rep : ℕ) (below : u < length t.types)
    (number : IsNumberOf m.types T ty) where
  abbrev U : Ty ℕ
  U = type_at t.types u

  pub to_tree : Con abs (fun_ty numbers (type_at m.types u) (type_at m.types ty)) ≡ Con abs (fun_ty numbers U T)
  to_tree =
      let old = type_at-Grows t m first u below in
      let new = number.tree in
      λ i. Con abs (fun_ty numbers (old i) (new i))

  module _ {n : TermTable} (second : Grows m n) where
    pub from_tree : Con rep (fun_ty numbers (type_at n.types ty) (type_at n.types u)) ≡ Con rep (fun_ty numbers T U)
    from_tree =
        let old = type_at-Grows t n (Grows-trans first second) u below in
        let new = type_at-Grows m n second ty number.within ∙ number.tree in
        λ i. Con rep (fun_ty numbers (new i) (old i))

    pub conversions_made : (to from : ℕ) {o : TermTable} → Grows n o
        → IsMadeTerm (Ok to) (limited numbers (Con abs (fun_ty numbers (type_at m.types u) (type_at m.types ty)))) n.terms
        → IsMadeTerm (Ok from) (limited numbers (Con rep (fun_ty numbers (type_at n.types ty) (type_at n.types u))))
        o.terms → AreConversions T U abs rep o ty u to from
    conversions_made to from {o} third made made_from =
        let later = Grows-trans second third in
        let all = Grows-trans first later in
        record {
          new_below = let h = number.within in omega (arith, h, later.types.longer);
          new_is = type_at-Grows m o later ty number.within ∙ number.tree;
          old_below = omega (arith, below, all.types.longer);
          old_is = type_at-Grows t o all u below;
          to_below = let h = made.0 in omega (arith, h, third.terms.longer);
          to_is = tm_at-Grows n o third to made.0 ∙ sym (made_is _ _ made.1) ∙ to_tree;
          from_below = made_from.0;
          from_is = sym (made_is _ _ made_from.1) ∙ from_tree;
        }

-- ---- the theorems over such a table
module _ {T U : Ty ℕ} {abs rep : ℕ} {m : TermTable} {ty u to from : ℕ}
    (k : AreConversions T U abs rep m ty u to from) where
  -- the keys of their variables
  abbrev a : VarKey
  a = record { name = 3; ty = ty }

  abbrev r : VarKey
  r = record { name = 4; ty = u }

  pub turns_new : TurnsBack (type_at m.types ty) (tm_at m.terms from) (tm_at m.terms to)
  turns_new = record {
    other = U;
    there = ap (type_in numbers []) k.from_is ∙ (λ i. Some (fun_ty numbers (sym k.new_is i) U));
    back = ap (type_in numbers []) k.to_is ∙ (λ i. Some (fun_ty numbers U (sym k.new_is i)));
  }

  pub turns_old : TurnsBack (type_at m.types u) (tm_at m.terms to) (tm_at m.terms from)
  turns_old = record {
    other = T;
    there = ap (type_in numbers []) k.to_is ∙ (λ i. Some (fun_ty numbers (sym k.old_is i) T));
    back = ap (type_in numbers []) k.from_is ∙ (λ i. Some (fun_ty numbers T (sym k.old_is i)));
  }

  module _ (P : Tm ℕ) where
    new_binder : variable_of m.types a ≡ new.new_variable T U abs rep P
    new_binder = λ i. record { name = 3; ty = k.new_is i }

    old_binder : variable_of m.types r ≡ new.old_variable T U abs rep P
    old_binder = λ i. record { name = 4; ty = k.old_is i }

    pub first_is : within_limit numbers
        (equal_functions (variable_of m.types a) (type_at m.types ty)
        (trip (tm_at m.terms from) (tm_at m.terms to) (variable_of m.types a)) (Free (variable_of m.types a)))
        ≡ within_limit numbers (new.first T U abs rep P)
    first_is =
        let at = new_binder in
        λ i. within_limit numbers
        (equal_functions (at i) (k.new_is i) (trip (k.from_is i) (k.to_is i) (at i)) (Free (at i)))

    -- the open theorem
    pub open_first_is : within_limit numbers
        (sequent_of numbers
        (equation numbers (type_at m.types ty)
        (trip (tm_at m.terms from) (tm_at m.terms to) (variable_of m.types a)) (Free (variable_of m.types a))))
        ≡ within_limit numbers
        (sequent_of numbers
        (equation numbers T
        (trip (new.from T U abs rep P) (new.to T U abs rep P) (new.new_variable T U abs rep P))
        (Free (new.new_variable T U abs rep P))))
    open_first_is =
        let at = new_binder in
        λ i. within_limit numbers
        (sequent_of numbers
        (equation numbers (k.new_is i) (trip (k.from_is i) (k.to_is i) (at i)) (Free (at i))))

    module _ (p : ℕ) (same : tm_at m.terms p ≡ P) where
      pub predicate_typed : HasType numbers P (fun_ty numbers U (bool_ty numbers))
          → HasType numbers (tm_at m.terms p) (fun_ty numbers (type_at m.types u) (bool_ty numbers))
      predicate_typed typed = ap (type_in numbers []) same ∙ typed
          ∙ (λ i. Some (fun_ty numbers (sym k.old_is i) (bool_ty numbers)))

      pub second_is : within_limit numbers
          (equal_functions (variable_of m.types r) (bool_ty numbers)
          (equation numbers (type_at m.types u)
          (trip (tm_at m.terms to) (tm_at m.terms from) (variable_of m.types r)) (Free (variable_of m.types r)))
          (App (tm_at m.terms p) (Free (variable_of m.types r))))
          ≡ within_limit numbers (new.second T U abs rep P)
      second_is =
          let at = old_binder in
          λ i. within_limit numbers
          (equal_functions (at i) (bool_ty numbers)
          (equation numbers (k.old_is i) (trip (k.to_is i) (k.from_is i) (at i)) (Free (at i)))
          (App (same i) (Free (at i))))

      -- the open theorem, and the deepest term on the way
      pub open_second_is : within_limit numbers
          (sequent_of numbers
          (equation numbers (bool_ty numbers) (App (tm_at m.terms p) (Free (variable_of m.types r)))
          (equation numbers (type_at m.types u)
          (trip (tm_at m.terms to) (tm_at m.terms from) (variable_of m.types r)) (Free (variable_of m.types r)))))
          ≡ within_limit numbers
          (sequent_of numbers
          (equation numbers (bool_ty numbers) (App P (Free (new.old_variable T U abs rep P)))
          (equation numbers U
          (trip (new.to T U abs rep P) (new.from T U abs rep P) (new.old_variable T U abs rep P))
          (Free (new.old_variable T U abs rep P)))))
      open_second_is =
          let at = old_binder in
          λ i. within_limit numbers
          (sequent_of numbers (equation numbers (bool_ty numbers) (App (same i) (Free (at i)))
          (equation numbers (k.old_is i) (trip (k.to_is i) (k.from_is i) (at i)) (Free (at i)))))

      pub deepest_is : within_limit numbers
          (sequent_of numbers (beta_over numbers (variable_of m.types r) (tm_at m.terms p)))
          ≡ within_limit numbers (sequent_of numbers (beta_over numbers (new.old_variable T U abs rep P) P))
      deepest_is =
          let at = old_binder in
          λ i. within_limit numbers (sequent_of numbers (beta_over numbers (at i) (same i)))

-- ---- an answer for an equal statement
pub refuses_as : {X : Type 0} (e : RuleFault) {x y : Result X (Fault ℕ)} → x ≡ y → RefusesRule e x → RefusesRule e y
refuses_as {X} e same h = subst (λ (x : Result X (Fault ℕ)). RefusesRule e x) same h

pub derives_as : (th : Theorem) (ts : List (Named ℕ)) {x y : Result (Sequent ℕ) (Fault ℕ)} → x ≡ y
    → Derives (Ok th) x ts → Derives (Ok th) y ts
derives_as th ts same h = (h.0, sym same ∙ h.1)
