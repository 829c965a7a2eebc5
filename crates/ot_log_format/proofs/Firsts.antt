-- Of several pairs for one name or variable the first counts, so the others may be left out.
use Rattle.std.specs.Prelude.{if◌then◌else◌}
use Rattle.std.proofs.Common.{◌≡◌, false, cond, [], ◌∷◌, refl, sym, ap, ◌∙◌, subst, inl, inr}
use Rattle.ot_logic.specs.Trees.{Alphabet, Variable, Tm}
use Rattle.ot_logic.specs.Hol.{same_var, TypeMap, TermMap, type_at, term_at, inst_by, inst_var, bind, subst_tm}
use Rattle.ot_laws.proofs.Tests.{Tells, cases_of, var_cases}
use Rattle.ot_log_format.specs.Steps.{without, first_pairs, without_name, first_types}

module _ {N : Type 0} (alphabet : Alphabet N) (tells : Tells alphabet) where
  -- ---- variables
  without-other : (v w : Variable N) (m : TermMap alphabet) → same_var alphabet v w ≡ false
      → term_at alphabet (without alphabet w m) v ≡ term_at alphabet m v
  without-other v w [] n = refl
  without-other v w (p ∷ m) n = elim (var_cases alphabet tells w p.0) [
    | inl e ↦
        let away : same_var alphabet v p.0 ≡ false = subst (λ z. same_var alphabet v z ≡ false) e.1 n in
        ap (λ b. term_at alphabet (if b then without alphabet w m else p ∷ without alphabet w m) v) e.0
        ∙ without-other v w m n
        ∙ ap (λ b. cond b p.1 (term_at alphabet m v)) (sym away)
    | inr e ↦
        ap (λ b. term_at alphabet (if b then without alphabet w m else p ∷ without alphabet w m) v) e.0
        ∙ ap (cond (same_var alphabet v p.0) p.1) (without-other v w m n)
  ]

  pub term_at-first : (m : TermMap alphabet) (v : Variable N) → term_at alphabet (first_pairs alphabet m) v
      ≡ term_at alphabet m v
  term_at-first [] v = refl
  term_at-first (p ∷ m) v = elim (var_cases alphabet tells v p.0) [
    | inl e ↦
        ap (λ b. cond b p.1 (term_at alphabet (without alphabet p.0 (first_pairs alphabet m)) v)) e.0
        ∙ ap (λ b. cond b p.1 (term_at alphabet m v)) (sym e.0)
    | inr e ↦ ap (cond (same_var alphabet v p.0) p.1) (without-other v p.0 (first_pairs alphabet m) e.0
        ∙ term_at-first m v)
  ]

  -- ---- names
  without_name-other : (n k : N) (s : TypeMap alphabet) → alphabet.same n k ≡ false
      → type_at alphabet (without_name alphabet k s) n ≡ type_at alphabet s n
  without_name-other n k [] d = refl
  without_name-other n k (p ∷ s) d = elim (cases_of (alphabet.same k p.0) (tells k p.0)) [
    | inl e ↦
        let away : alphabet.same n p.0 ≡ false = subst (λ z. alphabet.same n z ≡ false) e.1 d in
        ap (λ b. type_at alphabet (cond b (without_name alphabet k s) (p ∷ without_name alphabet k s)) n) e.0
        ∙ without_name-other n k s d
        ∙ ap (λ b. cond b p.1 (type_at alphabet s n)) (sym away)
    | inr e ↦
        ap (λ b. type_at alphabet (cond b (without_name alphabet k s) (p ∷ without_name alphabet k s)) n) e.0
        ∙ ap (cond (alphabet.same n p.0) p.1) (without_name-other n k s d)
  ]

  pub type_at-first : (s : TypeMap alphabet) (n : N) → type_at alphabet (first_types alphabet s) n
      ≡ type_at alphabet s n
  type_at-first [] n = refl
  type_at-first (p ∷ s) n = elim (cases_of (alphabet.same n p.0) (tells n p.0)) [
    | inl e ↦
        ap (λ b. cond b p.1 (type_at alphabet (without_name alphabet p.0 (first_types alphabet s)) n)) e.0
        ∙ ap (λ b. cond b p.1 (type_at alphabet s n)) (sym e.0)
    | inr e ↦ ap (cond (alphabet.same n p.0) p.1) (without_name-other n p.0 (first_types alphabet s) e.0
        ∙ type_at-first s n)
  ]

  -- ---- so the substitution is one
  pub subst-first : (s : TypeMap alphabet) (m : TermMap alphabet) (t : Tm N)
      → subst_tm alphabet s (first_pairs alphabet m) t ≡ subst_tm alphabet s m t
  subst-first s m t = λ i. bind alphabet (type_at alphabet s) (λ v. term_at-first m (inst_var alphabet s v) i) t

  pub subst-first_types : (s : TypeMap alphabet) (m : TermMap alphabet) (t : Tm N)
      → subst_tm alphabet (first_types alphabet s) m t ≡ subst_tm alphabet s m t
  subst-first_types s m t =
      λ i. bind alphabet (λ n. type_at-first s n i)
      (λ v. term_at alphabet m (record { name = v.name; ty = inst_by alphabet (λ n. type_at-first s n i) v.ty })) t
