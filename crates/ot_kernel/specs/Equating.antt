-- Terms that rules make over the table, and equations by the numbers of their sides.
use Rattle.std.specs.Prelude.{◌≡◌, ℕ, ◌<◌, true, if◌then◌else◌, List, length, Some, Result, Ok, Err}
use Rattle.ot_logic.specs.Trees.{Alphabet, Ty, Tm, Named, Sequent}
use Rattle.ot_logic.specs.Faults.{Fault, Nesting}
use Rattle.ot_logic.specs.Hol.{HasType, type_of, equation, as_equation, is_shallow, union}
use Rattle.ot_logic.specs.Naming.{numbers}
use Rattle.ot_logic.specs.Rules.{trans_rule}
use Rattle.ot_kernel.specs.declared.theorem.Theorem.{Theorem}
use Rattle.ot_kernel.specs.declared.fault.RuleFault.{RuleFault}
use Rattle.ot_kernel.specs.Answers.{RefusesRule}
use Rattle.ot_kernel.specs.Numbered.{tm_at, numbered_sequent}

-- a term, where it is within the nesting limit
abbrev pub limited : {N : Type 0} → Alphabet N → Tm N → Result (Tm N) (Fault N)
limited alphabet t = if is_shallow alphabet t then Ok t else Err Nesting

-- a = b, at the type of a
abbrev pub equation_rule : {N : Type 0} → Alphabet N → Tm N → Tm N → Result (Tm N) (Fault N)
equation_rule alphabet a b = limited alphabet (equation alphabet (type_of alphabet a) a b)

-- the number of a term that is made over the table, or the stated refusal
abbrev pub IsMadeTerm : Result ℕ RuleFault → Result (Tm ℕ) (Fault ℕ) → List (Named ℕ) → Type 0
IsMadeTerm (Ok id) stated ts = (id < length ts) × (stated ≡ Ok (tm_at ts id))
IsMadeTerm (Err e) stated ts = RefusesRule e stated

-- the numbers a and b are of terms of this type
pub record HaveType (ts : List (Named ℕ)) (ty : Ty ℕ) (a b : ℕ) : Type 0 where
  pub left_below : a < length ts
  pub right_below : b < length ts
  pub left : HasType numbers (tm_at ts a) ty
  pub right : HasType numbers (tm_at ts b) ty

-- the term i, which is within the nesting limit, is the equation of a and b
pub record AreSides (ts : List (Named ℕ)) (i : ℕ) (ty : Ty ℕ) (a b : ℕ) : Type 0 where
  pub typed : HaveType ts ty a b
  pub sides : as_equation numbers (tm_at ts i) ≡ Some (ty, tm_at ts a, tm_at ts b)
  pub limit : is_shallow numbers (equation numbers ty (tm_at ts a) (tm_at ts b)) ≡ true

-- the equation of a and b, which is within the nesting limit, follows from two theorems by transitivity
pub record AreOuter (ts : List (Named ℕ)) (lower top : Sequent ℕ) (ty : Ty ℕ) (a b : ℕ) : Type 0 where
  pub typed : HaveType ts ty a b
  pub follows : trans_rule numbers lower top ≡ Ok
      (record { hyps = union numbers lower.hyps top.hyps; concl = equation numbers ty (tm_at ts a) (tm_at ts b) })
  pub limit : is_shallow numbers (equation numbers ty (tm_at ts a) (tm_at ts b)) ≡ true

-- the outer sides of two equations, or the refusal of transitivity
abbrev pub GivesOuter : Result (ℕ × ℕ) RuleFault → List (Named ℕ) → Theorem → Theorem → Type 0
GivesOuter (Ok p) ts lower top = (ty : Ty ℕ) × AreOuter ts (numbered_sequent ts lower) (numbered_sequent ts top) ty
    p.0 p.1
GivesOuter (Err e) ts lower top =
    RefusesRule e (trans_rule numbers (numbered_sequent ts lower) (numbered_sequent ts top))
