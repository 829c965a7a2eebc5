-- Derivability and acceptance, as assumptions and definitions grow.
use Rattle.std.specs.Prelude.{slice_get}
use Rattle.std.proofs.Common.{◌≡◌, ℕ, zero, suc, List, [], ◌∷◌, ◌++◌, refl, ap, subst, inl, inr, ◌⊎◌, Some, take}
use Rattle.ot_logic.specs.Table.{Extends}
use Rattle.ot_logic.specs.Trees.{Alphabet, Tm, Sequent, Definition, ConDef, ListDef, TyDef}
use Rattle.ot_logic.specs.Hol.{Derivable, Refl, Assume, EqMp, AbsThm, AppThm, DeductAntisym, BetaConv}
use Rattle.ot_logic.specs.Hol.{Subst, Assumption, Defined, SameSet, IsFine, IsNext, Accepted}
use Rattle.ot_logic.proofs.TableLemmas.{Extends-refl}

-- a place of a list with one more entry, and what stands before it
place_cases : {X : Type 0} (xs : List X) (e d : X) (i : ℕ) → slice_get (xs ++ e ∷ []) i ≡ Some d
    → ((slice_get xs i ≡ Some d) × (take i (xs ++ e ∷ []) ≡ take i xs)) ⊎ ((e ≡ d) × (take i (xs ++ e ∷ []) ≡ xs))
place_cases [] e d zero h = inr (cc, refl)
place_cases [] e d (suc i) h = cc
place_cases (x ∷ xs) e d zero h = inl (h, refl)
place_cases (x ∷ xs) e d (suc i) h = elim (place_cases xs e d i h) [
  | inl p ↦ inl (p.0, ap (λ l. x ∷ l) p.1)
  | inr p ↦ inr (p.0, ap (λ l. x ∷ l) p.1)
]

module _ {N : Type 0} (alphabet : Alphabet N) where
  -- what is derivable stays so
  pub grown-derivable : {al bl : List (Sequent N)} {dl el : List (Definition N)} → Extends al bl → Extends dl el
      → {g : List (Tm N)} {p : Tm N} → Derivable alphabet al dl g p → Derivable alphabet bl el g p
  grown-derivable a d (Refl w) = Refl w
  grown-derivable a d (Assume w) = Assume w
  grown-derivable a d (EqMp x y) = EqMp (grown-derivable a d x) (grown-derivable a d y)
  grown-derivable a d (AbsThm v n x) = AbsThm v n (grown-derivable a d x)
  grown-derivable a d (AppThm x y) = AppThm (grown-derivable a d x) (grown-derivable a d y)
  grown-derivable a d (DeductAntisym x y) = DeductAntisym (grown-derivable a d x) (grown-derivable a d y)
  grown-derivable a d (BetaConv w) = BetaConv w
  grown-derivable a d (Subst s m w x) = Subst s m w (grown-derivable a d x)
  grown-derivable a d (Assumption i e) = Assumption i (a.keeps i _ e)
  grown-derivable a d (Defined i j e f) = Defined i j (d.keeps i _ e) f
  grown-derivable a d (SameSet s x) = SameSet s (grown-derivable a d x)

  grown-fine : (al bl : List (Sequent N)) (dl : List (Definition N)) (d : Definition N) → Extends al bl
      → IsFine alphabet al dl d → IsFine alphabet bl dl d
  grown-fine al bl dl (ConDef n t) e f = f
  grown-fine al bl dl (ListDef ps q) e f =
      record {
        distinct = f.distinct;
        once = f.once;
        many = f.many;
        each = f.each;
        frees = f.frees;
        derivable = grown-derivable e (Extends-refl dl) f.derivable;
      }
  grown-fine al bl dl (TyDef n abs rep vs q) e f =
      record {
        no_hyps = f.no_hyps;
        parts = f.parts;
        distinct = f.distinct;
        derivable = grown-derivable e (Extends-refl dl) f.derivable;
      }

  -- more assumptions
  pub grown-accepted : (al bl : List (Sequent N)) (dl : List (Definition N)) → Extends al bl → Accepted alphabet al dl
      → Accepted alphabet bl dl
  grown-accepted al bl dl e a =
      record {
        each = λ i d h. let n = a.each i d h in
            record {
              not_primitive = n.not_primitive;
              distinct = n.distinct;
              fresh = n.fresh;
              not_in_premise = n.not_in_premise;
              unused = n.unused;
              fine = grown-fine al bl (take i dl) d e n.fine;
            };
      }

  -- one more definition
  pub accepted-push : (al : List (Sequent N)) (dl : List (Definition N)) (e : Definition N) → Accepted alphabet al dl
      → IsNext alphabet al dl e → Accepted alphabet al (dl ++ e ∷ [])
  accepted-push al dl e a n = record { each = each }
    where
      each : (i : ℕ) (d : Definition N) → slice_get (dl ++ e ∷ []) i ≡ Some d
          → IsNext alphabet al (take i (dl ++ e ∷ [])) d
      each i d h = elim (place_cases dl e d i h) [
        | inl p ↦ rw p.1 (a.each i d p.0)
        | inr p ↦ rw p.1 (subst (λ x. IsNext alphabet al dl x) p.0 n)
      ]

  pub accepted-nil : (al : List (Sequent N)) → Accepted alphabet al []
  accepted-nil al = record { each = λ i d h. cc }
