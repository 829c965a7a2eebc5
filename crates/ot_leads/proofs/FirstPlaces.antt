-- The first place of each step, as they are noted one after another.
use Rattle.std.specs.Prelude.{◌↔◌, slice_index, slice_get, slice_set, Some, Bool, true, false}
use Rattle.std.proofs.Common.{◌≡◌, ◌≢◌, ℕ, ◌+◌, ◌<◌, inl, inr, List, [], ◌∷◌, ◌++◌, length, replicate}
use Rattle.std.proofs.Common.{sym, ap, subst, ◌∙◌, arith, true≢false}
use Rattle.std.proofs.lemmas.Bool.Decides.{eqb_tells}
use Rattle.std.proofs.lemmas.List.{length-replicate}
use Rattle.std.proofs.lemmas.Option.{same_Some}
use Rattle.ot_logic.specs.Lists.{IsMember}
use Rattle.ot_logic.proofs.Members.{IsMember-last, IsMember-left, IsMember-push}
use Rattle.ot_leads.specs.Found.{IsFirst}
use Rattle.ot_leads.proofs.MeetLemmas.{set-here, set-only, set-length, copied}

module _ (steps : List ℕ) (count : ℕ) where
  -- so it is before the k-th place
  pub record IsNoting (k : ℕ) (is_new : List Bool) (places : List ℕ) : Type 0 where
    pub long : length is_new ≡ count
    pub unseen : (i q : ℕ) → slice_get is_new i ≡ Some true → q < k → slice_index steps q ≢ i
    pub seen : (i : ℕ) → slice_get is_new i ≡ Some false → (q : ℕ) × (q < k) × (slice_index steps q ≡ i)
    pub firsts : (p : ℕ) → IsMember p places ↔ ((p < k) × IsFirst steps p)

  pub noting-begin : (is_new : List Bool) (places : List ℕ) → is_new ≡ replicate count true → places ≡ []
      → IsNoting 0 is_new places
  noting-begin is_new places copies none = record {
    long = ap length copies ∙ length-replicate count true;
    unseen = λ i q h low. absurd (omega (arith, low));
    seen = λ i h. absurd (true≢false (copied count i true false (subst (λ l. slice_get l i ≡ Some false) copies h)));
    firsts = λ p. (λ m. absurd (subst (IsMember p) none m), λ h. let low = h.0 in absurd (omega (arith, low)));
  }

  module _ (k x : ℕ) (is_new : List Bool) (places : List ℕ) (here : slice_index steps k ≡ x)
      (was : IsNoting k is_new places) where
    -- a place is before the k-th, or it is this one
    below : (p : ℕ) → p < k + 1 → p ≢ k → p < k
    below p h n = omega (arith, h, n)

    pub noting-new : x < count → slice_get is_new x ≡ Some true
        → IsNoting (k + 1) (slice_set is_new x false) (places ++ k ∷ [])
    noting-new inside fresh = record {
      long = set-length is_new x false ∙ was.long;
      unseen = λ i q h low e. elim (eqb_tells i x) [
        | inl same ↦ true≢false (same_Some true false
            (sym h ∙ ap (slice_get (slice_set is_new x false)) same.1 ∙ written))
        | inr other ↦ elim (set-only is_new x i false true h) [
          | inl old ↦ elim (eqb_tells q k) [
            | inl last ↦ other.1 (sym e ∙ ap (slice_index steps) last.1 ∙ here)
            | inr before ↦ was.unseen i q old (below q low before.1) e
          ]
          | inr this ↦ other.1 this.0
        ]
      ];
      seen = λ i h. elim (set-only is_new x i false false h) [
        | inl old ↦ let s = was.seen i old in (s.0, (let low = s.1 in omega (arith, low)), s.2)
        | inr this ↦ (k, omega arith, here ∙ sym this.0)
      ];
      firsts = λ p. (
        λ m. elim (IsMember-push p places k m) [
          | inl old ↦ let f = (was.firsts p).0 old in ((let low = f.0 in omega (arith, low)), f.1)
          | inr e ↦ (
            omega (arith, e),
            λ q low same. was.unseen x q fresh (omega (arith, low, e))
                (same ∙ ap (slice_index steps) (sym e) ∙ here),
          )
        ],
        λ h. elim (eqb_tells p k) [
          | inl e ↦ subst (λ z. IsMember z (places ++ k ∷ [])) (sym e.1) (IsMember-last k places)
          | inr n ↦ IsMember-left p places (k ∷ []) ((was.firsts p).1 (below p h.0 n.1, h.1))
        ],
      );
    }
      where
        written : slice_get (slice_set is_new x false) x ≡ Some false
        written = set-here is_new x false (let long = was.long in omega (arith, long, inside))

    pub noting-old : slice_get is_new x ≡ Some false → IsNoting (k + 1) is_new places
    noting-old known = record {
      long = was.long;
      unseen = λ i q h low e. elim (eqb_tells q k) [
        | inl last ↦ true≢false (same_Some true false (sym h ∙ ap (slice_get is_new)
            (sym e ∙ ap (slice_index steps) last.1 ∙ here) ∙ known))
        | inr before ↦ was.unseen i q h (below q low before.1) e
      ];
      seen = λ i h. let s = was.seen i h in (s.0, (let low = s.1 in omega (arith, low)), s.2);
      firsts = λ p. (
        λ m. let f = (was.firsts p).0 m in ((let low = f.0 in omega (arith, low)), f.1),
        λ h. elim (eqb_tells p k) [
          | inl e ↦
              let s = was.seen x known in
              absurd (h.1 s.0 (let low = s.1 in let same = e.1 in omega (arith, low, same))
              (s.2 ∙ sym here ∙ ap (slice_index steps) (sym e.1)))
          | inr n ↦ (was.firsts p).1 (below p h.0 n.1, h.1)
        ],
      );
    }
