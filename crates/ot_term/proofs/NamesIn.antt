-- The numbers of names in a table of terms, and the type of an abstraction.
use Rattle.std.specs.Prelude.{◌≡◌, ℕ, zero, suc, ◌<◌, ◌≤◌, max, Some, List, [], ◌∷◌, ◌++◌, length}
use Rattle.std.proofs.Common.{arith, ap}
use Rattle.ot_logic.specs.Trees.{Ty, Named, NAbs, Variable}
use Rattle.ot_logic.specs.Hol.{fun_ty}
use Rattle.ot_logic.specs.NamedTerms.{named_type}
use Rattle.ot_logic.specs.Naming.{numbers}
use Rattle.ot_logic.specs.Bounds.{bound_named, names_in, names_in_terms}
use Rattle.ot_term.specs.Term.{TermTable}
use Rattle.ot_term.specs.TermTable.{term_at, NamesUpTo}

-- the numbers in a list with one more term are those of both
pub names_in_terms-push : (ts : List (Named ℕ)) (t : Named ℕ) → names_in_terms (ts ++ t ∷ [])
    ≤ max (names_in_terms ts) (bound_named t)
names_in_terms-push [] t = omega arith
names_in_terms-push (x ∷ ts) t = omega (arith, names_in_terms-push ts t)

-- and in a term of the list
pub bound_named-term_at : (ts : List (Named ℕ)) (i : ℕ) → i < length ts → bound_named (term_at ts i)
    ≤ names_in_terms ts
bound_named-term_at [] i h = let no : ⊥ = omega arith in absurd no
bound_named-term_at (t ∷ ts) zero h = omega arith
bound_named-term_at (t ∷ ts) (suc i) h = omega (arith, bound_named-term_at ts i (omega arith))

-- the types grow by names below k, and the terms stay
pub names-types : (k : ℕ) (tys us : List (Ty ℕ)) (ts vs : List (Named ℕ)) (ks : List ℕ) (old : TermTable)
    → ◌≡◌ {A = TermTable} (record { types = tys; terms = ts; classes = ks }) old → names_in us ≤ max (names_in tys) k
    → vs ≡ ts → NamesUpTo k old (record { types = us; terms = vs; classes = ks })
names-types k tys us ts vs ks old view h same = record {
  types = let e = ap (λ (t : TermTable). names_in t.types) view in omega (arith, h, e);
  terms = let e = ap (λ (t : TermTable). names_in_terms t.terms) view in let d = ap names_in_terms same in
      omega (arith, d, e);
}

-- an abstraction has a function type
pub abs-typed : (v : Variable ℕ) (t : Named ℕ) (b : Ty ℕ) → named_type numbers t ≡ Some b
    → named_type numbers (NAbs v t) ≡ Some (fun_ty numbers v.ty b)
abs-typed v t b p = rw p
