-- Lemmas on the noted definitions of symbols.
use Rattle.std.proofs.Common.{◌≡◌, ℕ, ◌+◌, ◌<◌, ◌⊎◌, inl, inr, Bool, true, false, cond, not, true≢false}
use Rattle.std.proofs.Common.{List, [], ◌∷◌, ◌++◌, length, map, slice_get, get_or, take, Some, None}
use Rattle.std.proofs.Common.{nat_eq, eqb-true, eq-eqb, pos, refl, sym, ap, subst, ◌∙◌, arith}
use Rattle.std.specs.Map.{lookup}
use Rattle.std.proofs.lemmas.Option.{none-some, same_Some, get_or_from_slice_get}
use Rattle.ot_logic.specs.Lists.{IsMember}
use Rattle.ot_logic.specs.Table.{IsInjective}
use Rattle.ot_trace.specs.Origins.{Origin, Number, symbols}
use Rattle.ot_trace.specs.Trace.{origin_at, origin_of, IsBelow, HasSymbols}
use Rattle.ot_trace.specs.Walk.{Notes, IsNoted, AreDefiners, symbol_numbers}
use Rattle.ot_trace.specs.declared.step.Step.{Step}
use Rattle.ot_trace.specs.declared.step.Step.TheVariants as steps
use Rattle.ot_trace.proofs.TraceLemmas.{origin_at-injective}
use Rattle.ot_trace.proofs.WalkLemmas.{taken}
use Rattle.ot_trace.proofs.EdgeLemmas.{map-at, map-from, all-member}
use Rattle.ot_logic.proofs.Members.{IsMember-last, IsMember-left, IsMember-push}

pub not-false : (b : Bool) → false ≡ not b → b ≡ true
not-false true p = refl
not-false false p = absurd (true≢false (sym p))

module _ (symbol d : ℕ) (first further : List (ℕ × ℕ)) where
  -- another definition was first
  pub notes-further : Notes (symbol ∷ []) d first further first (further ++ (symbol, d) ∷ [])
  notes-further = record {
    kept = λ s e n. elim n [ inl p ↦ inl p | inr m ↦ inr (IsMember-left (s, e) further ((symbol, d) ∷ []) m) ];
    noted = λ s m.
        elim m [
          | inl e ↦
              inr (subst (λ p. IsMember p (further ++ (symbol, d) ∷ [])) (λ z. (e z, d))
              (IsMember-last (symbol, d) further))
          | inr never ↦ absurd never
        ];
    only = λ s e n. elim n [
      | inl p ↦ inl (inl p)
      | inr m ↦ elim (IsMember-push (s, e) further (symbol, d) m)
          [ inl a ↦ inl (inr a) | inr q ↦ inr (inl (λ z. (q z).0), λ z. (sym q z).1) ]
    ];
  }

  -- it is the first one itself
  pub notes-same : lookup (nat_eq symbol) first ≡ Some d → Notes (symbol ∷ []) d first further first further
  notes-same p = record {
    kept = λ s e n. n;
    noted = λ s m. elim m [
      | inl e ↦ inl (subst (λ s. lookup (nat_eq s) first ≡ Some d) e p)
      | inr never ↦
          absurd never
    ];
    only = λ s e n. inl n;
  }

  -- there was none
  pub notes-first : (new : List (ℕ × ℕ)) → lookup (nat_eq symbol) first ≡ None
      → ((q : ℕ) → lookup (nat_eq q) new ≡ cond (nat_eq symbol q) (Some d) (lookup (nat_eq q) first))
      → Notes (symbol ∷ []) d first further new further
  notes-first new none after = record {
    kept = λ s e n. elim n [ inl p ↦ inl (still s e (nat_eq symbol s) refl p) | inr m ↦ inr m ];
    noted = λ s m.
        elim m [
          | inl e ↦ inl (after s ∙ ap (λ b. cond b (Some d) (lookup (nat_eq s) first)) (eq-eqb symbol s e))
          | inr
              never ↦ absurd never
        ];
    only = λ s e n. elim n [ inl p ↦ known s e (nat_eq symbol s) refl p | inr m ↦ inl (inr m) ];
  }
    where
      still : (s e : ℕ) (b : Bool) → nat_eq symbol s ≡ b → lookup (nat_eq s) first ≡ Some e
          → lookup (nat_eq s) new ≡ Some e
      still s e true q p =
          absurd (none-some e
          (sym none ∙ subst (λ s. lookup (nat_eq s) first ≡ Some e) (sym (eqb-true symbol s q)) p))
      still s e false q p = after s ∙ ap (λ b. cond b (Some d) (lookup (nat_eq s) first)) q ∙ p

      known : (s e : ℕ) (b : Bool) → nat_eq symbol s ≡ b → lookup (nat_eq s) new ≡ Some e → IsNoted first further s e
          ⊎ (IsMember s (symbol ∷ []) × (e ≡ d))
      known s e true q p =
          inr (
            inl (eqb-true symbol s q),
            sym
                (same_Some d e (sym (ap (λ b. cond b (Some d) (lookup (nat_eq s) first)) q) ∙ sym (after s) ∙ p)),
          )
      known s e false q p =
          inl (inl (sym (ap (λ b. cond b (Some d) (lookup (nat_eq s) first)) q) ∙ sym (after s) ∙ p))

  pub notes-none : Notes [] d first further first further
  notes-none = record { kept = λ s e n. n; noted = λ s m. absurd m; only = λ s e n. inl n }

pub notes-begin : (ss : List ℕ) (d : ℕ) (first further : List (ℕ × ℕ))
    → Notes (take 0 ss) d first further first further
notes-begin [] d first further = notes-none 0 d first further
notes-begin (s ∷ ss) d first further = notes-none 0 d first further

pub notes-more : (ss : List ℕ) (i k d : ℕ) (f g h j l m : List (ℕ × ℕ)) → i < length ss → k ≡ get_or ss i k
    → Notes (take i ss) d f g h j → Notes (k ∷ []) d h j l m → Notes (take (i + 1) ss) d f g l m
notes-more ss i k d f g h j l m within item v w =
    let more = taken ss i k within item in
    record {
      kept = λ s e n. w.kept s e (v.kept s e n);
      noted = λ s n. elim (IsMember-push s (take i ss) k (subst (IsMember s) more n))
          [ inl a ↦ w.kept s d (v.noted s a) | inr e ↦ w.noted s (inl e) ];
      only = λ s e n. elim (w.only s e n) [
        | inl a ↦
            elim (v.only s e a) [
              | inl b ↦ inl b
              | inr b ↦
                  inr (subst (IsMember s) (sym more) (IsMember-left s (take i ss) (k ∷ []) b.0), b.1)
            ]
        | inr a ↦
            inr (
              subst (IsMember s) (sym more)
                  (elim a.0 [
                    | inl e ↦ subst (λ s. IsMember s (take i ss ++ k ∷ [])) e (IsMember-last k (take i ss))
                    | inr
                        never ↦ absurd never
                  ]),
              a.1,
            )
      ];
    }

-- ---- the definitions of a list
symbols-of : (ts : List (Origin ℕ)) (s : Step) → HasSymbols ts s → map (origin_at ts) (symbol_numbers s)
    ≡ symbols (origin_of ts s)
symbols-of ts (steps.Number k) h = refl
symbols-of ts (steps.Name n) h = refl
symbols-of ts (steps.Make w ops) h = refl
symbols-of ts (steps.Define w ops syms) h = h
symbols-of ts (steps.Outcome i d) h = refl

symbols-below : (n : ℕ) (s : Step) (k : ℕ) → IsBelow n s → IsMember k (symbol_numbers s) → k < n
symbols-below n (steps.Number j) k h m = absurd m
symbols-below n (steps.Name j) k h m = absurd m
symbols-below n (steps.Make w ops) k h m = absurd m
symbols-below n (steps.Define w ops syms) k h m = all-member n syms.value.items h.1 k m
symbols-below n (steps.Outcome i d) k h m = absurd m

pub definers-none : (ts : List (Origin ℕ)) → AreDefiners ts [] [] []
definers-none ts =
    record {
      inside = λ d m. absurd m;
      sound = λ s d n. elim n [ inl p ↦ absurd (none-some d p) | inr m ↦ absurd m ];
      all = λ s d w m n. absurd m;
    }

pub definers-more : (ts : List (Origin ℕ)) → IsInjective ts
    → (ds : List ℕ) (i d : ℕ) (s : Step) (f g h j : List (ℕ × ℕ)) → i < length ds → d ≡ get_or ds i d → d < length ts
    → slice_get ts d ≡ Some (origin_of ts s) → IsBelow d s → HasSymbols ts s → AreDefiners ts (take i ds) f g
    → Notes (symbol_numbers s) d f g h j → AreDefiners ts (take (i + 1) ds) h j
definers-more ts one ds i d s f g h j within item here get below has old notes =
    let more = taken ds i d within item in
    let tree : origin_at ts d ≡ origin_of ts s = get_or_from_slice_get ts d _ (Number (pos 0)) get in
    let syms : map (origin_at ts) (symbol_numbers s) ≡ symbols (origin_at ts d) = symbols-of ts s has
    ∙ ap symbols (sym tree) in
    record {
      inside = λ e m. elim (IsMember-push e (take i ds) d (subst (IsMember e) more m))
          [ inl a ↦ old.inside e a | inr q ↦ subst (λ e. e < length ts) q here ];
      sound = λ k e n. elim (notes.only k e n) [
        | inl a ↦ (
          subst (IsMember e) (sym more) (IsMember-left e (take i ds) (d ∷ []) (old.sound k e a).0),
          (old.sound k e a).1,
        )
        | inr a ↦ (
          subst (IsMember e) (sym more)
              (subst (λ e. IsMember e (take i ds ++ d ∷ [])) (sym a.1) (IsMember-last d (take i ds))),
          subst
              (λ e. IsMember (origin_at ts k) (symbols (origin_at ts e))) (sym a.1)
              (subst (IsMember (origin_at ts k)) syms (map-at ts (symbol_numbers s) k a.0)),
        )
      ];
      all = λ k e w m n. elim (IsMember-push e (take i ds) d (subst (IsMember e) more m)) [
        | inl a ↦ notes.kept k e (old.all k e w a n)
        | inr q ↦
            let r = map-from ts (symbol_numbers s) (origin_at ts k)
            (subst (IsMember (origin_at ts k)) (sym syms)
            (subst (λ e. IsMember (origin_at ts k) (symbols (origin_at ts e))) (sym q) n)) in
            let low : r.0 < d = symbols-below d s r.0 below r.1 in
            let same : r.0 ≡ k = origin_at-injective ts one r.0 k (omega (arith, low, here)) w r.2 in
            subst (IsNoted h j k) q (notes.noted k (subst (λ k. IsMember k (symbol_numbers s)) same r.1))
      ];
    }
