-- What steps lead to is passed on to the steps that they are parts of.
use Rattle.std.specs.Prelude.{slice_get, Option, None, Some}
use Rattle.std.proofs.Common.{◌≡◌, ℕ, ◌+◌, ◌<◌, ◌≤◌, inl, inr, List, length}
use Rattle.std.proofs.Common.{sym, ap, subst, ◌∙◌, arith}
use Rattle.std.proofs.lemmas.Bool.Decides.{eqb_tells}
use Rattle.std.proofs.lemmas.Option.{none-some, same_Some, slice_get_within}
use Rattle.ot_trace.specs.Origins.{Origin}
use Rattle.ot_trace.specs.Trace.{origin_at, IsStepTable}
use Rattle.ot_trace.proofs.TraceLemmas.{origin_at-injective}
use Rattle.ot_leads.specs.Columns.{HasPlace, IsColumn, Gains, HasPart, IsWithin, Itself, Further, PassesUp}
use Rattle.ot_leads.specs.Leads.{IsSpread}
use Rattle.ot_leads.specs.declared.column.Column.{Column}

-- a part of a part
pub within-cons : (ts : List (Origin ℕ)) (i j k : ℕ) → HasPart ts i j → IsWithin ts j k → IsWithin ts i k
within-cons ts i j _ part Itself = Further i j Itself part
within-cons ts i j _ part (Further a b w p) = Further a b (within-cons ts i j a part w) p

-- so it is before the step k
pub record IsPassing (ts : List (Origin ℕ)) (met : List (Option ℕ)) (old now : Column) (k : ℕ) : Type 0 where
  pub column : IsColumn (length ts) now
  pub kept : (i p : ℕ) → i < length ts → HasPlace old i p → HasPlace now i p
  pub closed : (i j p : ℕ) → i < k → i < length ts → slice_get met i ≡ Some (Some i) → HasPart ts i j
      → HasPlace now j p → HasPlace now i p
  pub only : (i p : ℕ) → i < length ts → HasPlace now i p
      → (j : ℕ) × (j < length ts) × IsWithin ts i j × HasPlace old j p

module _ (ts : List (Origin ℕ)) (table : IsStepTable ts) where
  pub part-below : (i j : ℕ) → i < length ts → HasPart ts i j → j < i
  part-below i j h (here, inl part) =
      let k = table.closed i (origin_at ts j) h part in
      let low = k.1 in
      subst (λ z. z < i) (origin_at-injective ts table.injective k.0 j (omega (arith, low, h)) here k.2) low
  part-below i j h (here, inr s) = absurd s.0

  module _ (met : List (Option ℕ)) (long : length met ≡ length ts)
      (own : (i j : ℕ) → slice_get met i ≡ Some (Some j) → j ≡ i) (old : Column) where
    pub passing-begin : IsColumn (length ts) old → IsPassing ts met old old 0
    passing-begin col = record {
      column = col;
      kept = λ i p h m. m;
      closed = λ i j p low h m part has. absurd (omega (arith, low));
      only = λ i p h m. (i, h, Itself, m);
    }

    pub passing-none : (now : Column) (k : ℕ) → slice_get met k ≡ Some None → IsPassing ts met old now k
        → IsPassing ts met old now (k + 1)
    passing-none now k none c = record {
      column = c.column;
      kept = c.kept;
      closed = λ i j p low h m part has. elim (eqb_tells i k) [
        | inl e ↦ absurd (none-some i (same_Some None (Some i) (sym none ∙ ap (slice_get met) (sym e.1) ∙ m)))
        | inr e ↦ c.closed i j p (let ne = e.1 in omega (arith, ne, low)) h m part has
      ];
      only = c.only;
    }

    pub passing-step : (now next : Column) (k : ℕ) → k < length ts → IsPassing ts met old now k
        → Gains (length ts) now next (λ i p. (i ≡ k) × (j : ℕ) × HasPart ts k j × HasPlace now j p)
        → IsPassing ts met old next (k + 1)
    passing-step now next k hk c g = record {
      column = g.column;
      kept = λ i p h m. (g.leads i p h).1 (inl (c.kept i p h m));
      closed = closed;
      only = λ i p h m. elim ((g.leads i p h).0 m) [
        | inl l ↦ c.only i p h l
        | inr new ↦
            let j = new.1 in
            let below = part-below k j hk new.2 in
            let o = c.only j p (omega (arith, below, hk)) new.3 in
            (o.0, o.1, subst (λ z. IsWithin ts z o.0) (sym new.0) (within-cons ts k j o.0 new.2 o.2), o.3)
      ];
    }
      where
        was : (j p : ℕ) → j < k → HasPlace next j p → HasPlace now j p
        was j p low m = elim ((g.leads j p (omega (arith, low, hk))).0 m) [
          | inl l ↦ l
          | inr new ↦ absurd (let e = new.0 in omega (arith, e, low))
        ]

        closed : (i j p : ℕ) → i < k + 1 → i < length ts → slice_get met i ≡ Some (Some i) → HasPart ts i j
            → HasPlace next j p → HasPlace next i p
        closed i j p low h m part has =
            let below = part-below i j h part in
            elim (eqb_tells i k) [
              | inl e ↦ (g.leads i p h).1 (inr (
                e.1,
                j,
                subst (λ z. HasPart ts z j) e.1 part,
                was j p (let q = e.1 in omega (arith, q, below)) has,
              ))
              | inr e ↦
                  let ne = e.1 in
                  let before : i < k = omega (arith, ne, low) in
                  (g.leads i p h).1 (inl (c.closed i j p before h m part (was j p (omega (arith, below, before)) has)))
            ]

    pub passing-end : (now : Column) (k : ℕ) → length ts ≤ k → IsPassing ts met old now k → PassesUp ts met old now
    passing-end now k done c = record {
      column = c.column;
      kept = c.kept;
      closed = λ i j p m part has. c.closed i j p (below i m) (inside i m) m part has;
      only = c.only;
    }
      where
        inside : (i : ℕ) → slice_get met i ≡ Some (Some i) → i < length ts
        inside i m = let a = slice_get_within met i (Some i) m in omega (arith, a, long)

        below : (i : ℕ) → slice_get met i ≡ Some (Some i) → i < k
        below i m = let a = inside i m in omega (arith, a, done)

-- what is passed on from what stands at steps
pub spread : (ts : List (Origin ℕ)) (met : List (Option ℕ)) (IsAt : ℕ → ℕ → Type 0) (new given passed : Column)
    → ((i p : ℕ) → i < length ts → HasPlace new i p → ⊥) → Gains (length ts) new given IsAt
    → PassesUp ts met given passed → IsSpread ts met IsAt passed
spread ts met IsAt new given passed none g h = record {
  column = h.column;
  own = λ i p b at. h.kept i p b ((g.leads i p b).1 (inr at));
  closed = h.closed;
  only = λ i p b has.
      let o = h.only i p b has in
      (o.0, o.1, o.2, elim ((g.leads o.0 p o.1).0 o.3) [ inl never ↦ absurd (none o.0 p o.1 never) | inr at ↦ at ]);
}
