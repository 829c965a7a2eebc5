-- The theorems of definitions as they are made over the table.
use Rattle.std.specs.Prelude.{◌≡◌, ℕ, suc, ◌<◌, max, true, List, [], ◌∷◌, length, Result, Ok, Err}
use Rattle.std.specs.List.{list_all}
use Rattle.ot_logic.specs.Trees.{Alphabet, Ty, Variable, Tm, Free, App, Abs, Named, Sequent}
use Rattle.ot_logic.specs.Faults.{Fault, Nesting}
use Rattle.ot_logic.specs.Answers.{unless}
use Rattle.ot_logic.specs.Hol.{fun_ty, bool_ty, HasType, close, equation}
use Rattle.ot_logic.specs.Hol.{sequent_of, is_shallow, is_shallow_sequent, IsClosed}
use Rattle.ot_logic.specs.Naming.{numbers}
use Rattle.ot_type.specs.TypeTable.{type_at}
use Rattle.ot_term.specs.Term.{TermTable}
use Rattle.ot_kernel.specs.declared.theorem.Theorem.{Theorem}
use Rattle.ot_kernel.specs.declared.fault.RuleFault.{RuleFault}
use Rattle.ot_kernel.specs.Answers.{RefusesRule}
use Rattle.ot_kernel.specs.Numbered.{tm_at, numbered_sequent}
use Rattle.ot_kernel.specs.Spelled.{IsInside}
use Rattle.ot_kernel.specs.Equating.{limited}

-- one more than the greatest of the names
abbrev pub bound_of_names : List ℕ → ℕ
bound_of_names [] = 0
bound_of_names (n ∷ ns) = max (suc n) (bound_of_names ns)

-- the number is that of the type
pub record IsNumberOf (tys : List (Ty ℕ)) (ty : Ty ℕ) (id : ℕ) : Type 0 where
  pub within : id < length tys
  pub tree : type_at tys id ≡ ty

-- |- (\v. a) = (\v. b), where a and b have this type
abbrev pub equal_functions : Variable ℕ → Ty ℕ → Tm ℕ → Tm ℕ → Sequent ℕ
equal_functions v ty a b =
    sequent_of numbers
    (equation numbers (fun_ty numbers v.ty ty) (Abs v.ty (close numbers v a)) (Abs v.ty (close numbers v b)))

-- g (f v)
abbrev pub trip : Tm ℕ → Tm ℕ → Variable ℕ → Tm ℕ
trip f g v = App g (App f (Free v))

-- f takes this type to another, and g takes that one back
pub record TurnsBack (ty : Ty ℕ) (f g : Tm ℕ) : Type 0 where
  pub other : Ty ℕ
  pub there : HasType numbers f (fun_ty numbers ty other)
  pub back : HasType numbers g (fun_ty numbers other ty)

-- the numbers of v and of g (f v), or the stated refusal
abbrev pub MakesTrip : Result (ℕ × ℕ) RuleFault → (f g : Tm ℕ) → Variable ℕ → List (Named ℕ) → Type 0
MakesTrip (Ok p) f g v ts = (p.0 < length ts) × (p.1 < length ts) × (tm_at ts p.0 ≡ Free v)
    × (tm_at ts p.1 ≡ trip f g v)
MakesTrip (Err e) f g v ts = RefusesRule e (limited numbers (trip f g v))

-- two theorems, whose sequents are the stated ones; a refusal is that of the nesting limit, where one of these passes
-- it
abbrev pub DerivesBoth : Result (Theorem × Theorem) RuleFault → List (Sequent ℕ) → List (Named ℕ) → Type 0
DerivesBoth (Ok p) stated ts = IsInside (length ts) p.0 × IsInside (length ts) p.1
    × (stated ≡ numbered_sequent ts p.0 ∷ numbered_sequent ts p.1 ∷ [])
DerivesBoth (Err e) stated ts =
    RefusesRule e (unless {E = Fault ℕ} Nesting (list_all (is_shallow_sequent numbers) stated))

-- two theorems, whose sequents are the stated ones, and this term, which stands for those on the way to them, is within
-- the nesting limit; a refusal is that of the limit, where this term passes it
abbrev pub DerivesOpen : Result (Theorem × Theorem) RuleFault → Tm ℕ → List (Sequent ℕ) → List (Named ℕ) → Type 0
DerivesOpen (Ok p) deepest stated ts = IsInside (length ts) p.0 × IsInside (length ts) p.1
    × (stated ≡ numbered_sequent ts p.0 ∷ numbered_sequent ts p.1 ∷ []) × (is_shallow numbers deepest ≡ true)
DerivesOpen (Err e) deepest stated ts = RefusesRule e (unless {E = Fault ℕ} Nesting (is_shallow numbers deepest))

-- ---- the premise of a type operator
-- the term is p x, of the type of propositions, and no variable is free in p
pub record IsPremise {N : Type 0} (alphabet : Alphabet N) (t : Tm N) : Type 0 where
  pub predicate : Tm N
  pub argument : Tm N
  pub parts : t ≡ App predicate argument
  pub closed : IsClosed alphabet predicate
  pub typed : HasType alphabet t (bool_ty alphabet)

-- the numbers of p and of the type of x, where the premise is p x
pub record ArePartsOf (m : TermTable) (t : Tm ℕ) (p u : ℕ) : Type 0 where
  pub predicate_below : p < length m.terms
  pub type_below : u < length m.types
  pub argument : Tm ℕ
  pub parts : t ≡ App (tm_at m.terms p) argument
  pub closed : IsClosed numbers (tm_at m.terms p)
  pub predicate : HasType numbers (tm_at m.terms p) (fun_ty numbers (type_at m.types u) (bool_ty numbers))
  pub own : HasType numbers argument (type_at m.types u)
