-- A session that grew, where what the run stands for stays.
use Rattle.std.specs.Prelude.{◌≡◌, ◌<◌, ℕ, List, [], ◌∷◌, length, map, Result, OnErr}
use Rattle.std.specs.List.{All}
use Rattle.std.proofs.lemmas.List.Elements.{All-head, All-tail}
use Rattle.std.proofs.Common.{refl, ap, ◌∙◌, arith}
use Rattle.ot_logic.specs.Naming.{names}
use Rattle.ot_logic.specs.Trees.{Bound, TyVar, NConst}
use Rattle.ot_logic.specs.NamedTerms.{nameless}
use Rattle.ot_kernel.specs.State as kernel
use Rattle.ot_machine.specs.declared.session.Session.{Session}
use Rattle.ot_machine.specs.Meaning.{origin_of, run_of, IsRun, Traces}
use Rattle.ot_machine.specs.Stays.{Stays, GrowsBeside}
use Rattle.ot_machine.proofs.Kept.{at-Extends, traces-grow, grows-on, origin-kept}
use Rattle.ot_machine.proofs.Stated.{on-err, on-err-map}
use Rattle.ot_machine.proofs.Turning.{grows-same}

pub stays-same : (s : Session) → IsRun s → Stays s s
stays-same s h = record { grown = grows-same s; run = refl; is_run = h }

pub traces-stay : {s t : Session} → Traces s t → Stays s t
traces-stay {s} {t} p = record { grown = traces-grow s t p; run = p.run; is_run = p.is_run }

pub stays-on : {s t u : Session} → Stays s t → Stays t u → Stays s u
stays-on p q =
    record { grown = grows-on p.grown q.grown; run = q.run ∙ p.run; is_run = q.is_run }

-- ---- a call that may add to the run
-- a refusal, where all stays
pub stays-adds : {X E : Type 0} (r : Result X E) {s t : Session} → Stays s t → GrowsBeside r s t
stays-adds r h = record { refused = on-err r h.run; grown = h.grown; is_run = h.is_run }

-- after what leaves all as it was
pub adds-on : {X Y E F : Type 0} (r : Result X E) (q : Result Y F) {s t u : Session} → Stays s t
    → (OnErr r (run_of u ≡ run_of t) → OnErr q (run_of u ≡ run_of t)) → GrowsBeside r t u → GrowsBeside q s u
adds-on r q h same a = record {
  refused = on-err-map q (λ e. e ∙ h.run) (same a.refused);
  grown = grows-on h.grown a.grown;
  is_run = a.is_run;
}

-- ---- what numbers stand for in them
module _ (s t : Session) (h : IsRun s) (stays : Stays s t) where
  pub stays-origin : (i : ℕ) → i < length s.trace → origin_of t i ≡ origin_of s i
  stays-origin i lt = origin-kept s t h stays.grown i lt

  pub stays-theorem : (i : ℕ) → i < length s.kernel.theorems → kernel.theorem_at t.kernel i
      ≡ kernel.theorem_at s.kernel i
  stays-theorem i lt = at-Extends s.kernel.theorems t.kernel.theorems stays.grown.kernel.theorems
      (record { hyps = []; concl = Bound 0 }) i lt

  pub stays-term : (i : ℕ) → i < length s.kernel.terms → kernel.term_at t.kernel i ≡ kernel.term_at s.kernel i
  stays-term i lt =
      ap (nameless names)
      (at-Extends s.kernel.terms t.kernel.terms stays.grown.kernel.terms (NConst [] (TyVar [])) i lt)

  pub stays-terms : (is : List ℕ) → All (λ i. i < length s.kernel.terms) is → map (kernel.term_at t.kernel) is
      ≡ map (kernel.term_at s.kernel) is
  stays-terms [] all = refl
  stays-terms (i ∷ is) all =
      let a = stays-term i (All-head (λ i. i < length s.kernel.terms) i is all) in
      let b = stays-terms is (All-tail (λ i. i < length s.kernel.terms) i is all) in
      λ j. a j ∷ b j

  pub terms-inside : (is : List ℕ) → All (λ i. i < length s.kernel.terms) is → All (λ i. i < length t.kernel.terms) is
  terms-inside is all = λ i d p. let x = all i d p in omega (arith, x, stays.grown.kernel.terms.longer)
