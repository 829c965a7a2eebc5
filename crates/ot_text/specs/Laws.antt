-- What one text says.
use Rattle.std.specs.Prelude.{◌≡◌, ℕ, Bool, true, not, ◌&&◌, nat_le, List, [], ◌∷◌, ◌++◌, Some}
use Rattle.ot_logic.specs.Lists.{IsSameSet}
use Rattle.ot_logic.specs.Names.{Name}
use Rattle.ot_logic.specs.Naming.{names}
use Rattle.ot_logic.specs.Trees.{Ty, Tm, Sequent}
use Rattle.ot_logic.specs.Hol.{type_in, IsSequent}
use Rattle.ot_text.specs.Texts.{ty_text, tm_text, sequent_text}

-- two types with one text are equal
abbrev pub OneType : Type 0
OneType = (t u : Ty Name) → ty_text t ≡ ty_text u → t ≡ u

-- two terms with one text, well typed under one list of binder types, are equal
abbrev pub OneTerm : Type 0
OneTerm = (l : List (Ty Name)) (t u : Tm Name) (a b : Ty Name) → type_in names l t ≡ Some a
    → type_in names l u ≡ Some b → tm_text t ≡ tm_text u → t ≡ u

-- two sequents with one text have one set of hypotheses and one conclusion
abbrev pub OneSequent : Type 0
OneSequent = (p q : Sequent Name) → IsSequent names p → IsSequent names q → sequent_text p ≡ sequent_text q
    → IsSameSet p.hyps q.hyps × (p.concl ≡ q.concl)

-- neither the order nor the repetition of hypotheses shows
abbrev pub OneText : Type 0
OneText = (p q : Sequent Name) → IsSameSet p.hyps q.hyps → p.concl ≡ q.concl → sequent_text p ≡ sequent_text q

-- a decimal digit
abbrev pub is_digit : ℕ → Bool
is_digit c = nat_le 48 c && nat_le c 57

-- the further bytes begin with no digit
abbrev pub no_digit : List ℕ → Bool
no_digit [] = true
no_digit (c ∷ cs) = not (is_digit c)

-- a type's text shows where it ends, whatever stands behind it
abbrev pub OneTypeInFront : Type 0
OneTypeInFront = (t u : Ty Name) (r s : List ℕ) → ty_text t ++ r ≡ ty_text u ++ s → (t ≡ u) × (r ≡ s)

-- a term's text shows where it ends, where no digit stands behind it
abbrev pub OneTermInFront : Type 0
OneTermInFront = (l : List (Ty Name)) (t u : Tm Name) (a b : Ty Name) (r s : List ℕ) → type_in names l t ≡ Some a
    → type_in names l u ≡ Some b → no_digit r ≡ true → no_digit s ≡ true → tm_text t ++ r ≡ tm_text u ++ s
    → (t ≡ u) × (r ≡ s)

-- so does a sequent's
abbrev pub OneSequentInFront : Type 0
OneSequentInFront = (p q : Sequent Name) (r s : List ℕ) → IsSequent names p → IsSequent names q → no_digit r ≡ true
    → no_digit s ≡ true → sequent_text p ++ r ≡ sequent_text q ++ s → IsSameSet p.hyps q.hyps × (p.concl ≡ q.concl)
    × (r ≡ s)
