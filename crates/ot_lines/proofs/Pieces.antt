-- Laws of cutting at newlines.
use Rattle.std.proofs.Common.{◌≡◌, ◌≢◌, ◌<◌, ◌≤◌, ◌+◌, ◌-◌, ◌==◌, not, inl, inr, ℕ, zero, suc}
use Rattle.std.proofs.Common.{List, [], ◌∷◌, ◌++◌, length}
use Rattle.std.proofs.Common.{take, drop, get_or, append_assoc, append-nil, sym, ap, ◌∙◌, refl, arith}
use Rattle.std.specs.List.{concat, prefix_len}
use Rattle.std.proofs.lemmas.Bool.{false≢true, eq-eqb, eqb-true, cases_lt}
use Rattle.std.proofs.lemmas.Bool.Decides.{eqb_tells}
use Rattle.std.proofs.lemmas.List.{take_all, take-append-le, drop-append-le, length-append}
use Rattle.std.proofs.lemmas.Simd.{run_in_chunk_fails, run_in_chunk_stops}
use Rattle.std.proofs.Math.ListN.{drop_of_length-le, get_or-append}
use Rattle.ot_logic.specs.Lists.{IsMember}
use Rattle.ot_lines.specs.Pieces.{onto_first, pieces, IsWhole, IsOpen, AreWhole, IsCut, IsOpenTo, EndsAt}

-- ---- the pieces are one cut

pub pieces-other : (b : ℕ) (bs : List ℕ) → b ≢ 10 → pieces (b ∷ bs) ≡ onto_first b (pieces bs)
pieces-other b bs n = elim (eqb_tells b 10) [ inl q ↦ absurd (n q.1) | inr q ↦ rw q.0 refl ]

pieces-front : (front rest : List ℕ) → ¬ (IsMember 10 front) → pieces (front ++ 10 ∷ rest) ≡ (front ++ 10 ∷ [])
    ∷ pieces rest
pieces-front [] rest n = refl
pieces-front (b ∷ bs) rest n =
    pieces-other b (bs ++ 10 ∷ rest) (λ e. n (inl e)) ∙ ap (onto_first b) (pieces-front bs rest (λ m. n (inr m)))

pieces-open : (piece : List ℕ) → 0 < length piece → ¬ (IsMember 10 piece) → pieces piece ≡ piece ∷ []
pieces-open [] some n = absurd (omega (arith, some))
pieces-open (b ∷ []) some n = pieces-other b [] (λ e. n (inl e))
pieces-open (b ∷ c ∷ cs) some n =
    pieces-other b (c ∷ cs) (λ e. n (inl e)) ∙ ap (onto_first b) (pieces-open (c ∷ cs) (omega arith) (λ m. n (inr m)))

pieces-concat : (ps : List (List ℕ)) → AreWhole ps → pieces (concat ps) ≡ ps
pieces-concat [] w = refl
pieces-concat (p ∷ []) w = elim w [
  | inl h ↦ ap pieces (append-nil p ∙ h.is) ∙ pieces-front h.front [] h.none ∙ ap (λ z. z ∷ []) (sym h.is)
  | inr h ↦ ap pieces (append-nil p) ∙ pieces-open p h.some h.none
]
pieces-concat (p ∷ q ∷ qs) w =
    ap (λ z. pieces (z ++ concat (q ∷ qs))) w.0.is
    ∙ ap pieces (append_assoc w.0.front (10 ∷ []) (concat (q ∷ qs)))
    ∙ pieces-front w.0.front (concat (q ∷ qs)) w.0.none
    ∙ ap (λ z. z ∷ pieces (concat (q ∷ qs))) (sym w.0.is)
    ∙ ap (λ z. p ∷ z) (pieces-concat (q ∷ qs) w.1)

concat-onto_first : (b : ℕ) (ps : List (List ℕ)) → concat (onto_first b ps) ≡ b ∷ concat ps
concat-onto_first b [] = refl
concat-onto_first b (p ∷ ps) = refl

concat-pieces : (bs : List ℕ) → concat (pieces bs) ≡ bs
concat-pieces [] = refl
concat-pieces (b ∷ bs) = elim (eqb_tells b 10) [
  | inl q ↦ rw q.0 (ap (λ z. b ∷ z) (concat-pieces bs))
  | inr q ↦ rw q.0 (concat-onto_first b (pieces bs) ∙ ap (λ z. b ∷ z) (concat-pieces bs))
]

-- another byte in front
none-more : (b : ℕ) (bs : List ℕ) → b ≢ 10 → ¬ (IsMember 10 bs) → ¬ (IsMember 10 (b ∷ bs))
none-more b bs n h m = elim m [ inl e ↦ n e | inr k ↦ h k ]

whole-more : (b : ℕ) (p : List ℕ) → b ≢ 10 → IsWhole p → IsWhole (b ∷ p)
whole-more b p n h = record { front = b ∷ h.front; is = ap (λ z. b ∷ z) h.is; none = none-more b h.front n h.none }

open-more : (b : ℕ) (p : List ℕ) → b ≢ 10 → ¬ (IsMember 10 p) → IsOpen (b ∷ p)
open-more b p n h = record { some = omega arith; none = none-more b p n h }

whole-onto_first : (b : ℕ) (ps : List (List ℕ)) → b ≢ 10 → AreWhole ps → AreWhole (onto_first b ps)
whole-onto_first b [] n w = inr (open-more b [] n (λ m. m))
whole-onto_first b (p ∷ []) n w = elim w [ inl h ↦ inl (whole-more b p n h) | inr h ↦ inr (open-more b p n h.none) ]
whole-onto_first b (p ∷ q ∷ qs) n w = (whole-more b p n w.0, w.1)

whole-newline : (ps : List (List ℕ)) → AreWhole ps → AreWhole ((10 ∷ []) ∷ ps)
whole-newline [] w = inl (record { front = []; is = refl; none = λ m. m })
whole-newline (q ∷ qs) w = (record { front = []; is = refl; none = λ m. m }, w)

whole-pieces : (bs : List ℕ) → AreWhole (pieces bs)
whole-pieces [] = tt
whole-pieces (b ∷ bs) = elim (eqb_tells b 10) [
  | inl q ↦ rw q.1 (whole-newline (pieces bs) (whole-pieces bs))
  | inr q ↦ rw q.0 (whole-onto_first b (pieces bs) q.1 (whole-pieces bs))
]

pub one_cut-to : (bytes : List ℕ) (ps : List (List ℕ)) → IsCut bytes ps → ps ≡ pieces bytes
one_cut-to bytes ps c = sym (pieces-concat ps c.whole) ∙ ap pieces c.joined

pub one_cut-from : (bytes : List ℕ) (ps : List (List ℕ)) → ps ≡ pieces bytes → IsCut bytes ps
one_cut-from bytes ps e = rw e (record { joined = concat-pieces bytes; whole = whole-pieces bytes })

-- ---- the first piece, by its length

pieces_at : (xs : List ℕ) (n : ℕ) → n < length xs → get_or xs n 0 ≡ 10 → ((k : ℕ) → k < n → get_or xs k 0 ≢ 10)
    → pieces xs ≡ take (suc n) xs ∷ pieces (drop (suc n) xs)
pieces_at [] n lt h none = absurd (omega (arith, lt))
pieces_at (b ∷ bs) zero lt h none = rw h refl
pieces_at (b ∷ bs) (suc n) lt h none =
    pieces-other b bs (none 0 (omega arith))
    ∙ ap (onto_first b) (pieces_at bs n (omega (arith, lt)) h (λ k l. none (suc k) (omega (arith, l))))

pieces_none : (xs : List ℕ) → 0 < length xs → ((k : ℕ) → k < length xs → get_or xs k 0 ≢ 10) → pieces xs ≡ xs ∷ []
pieces_none [] some none = absurd (omega (arith, some))
pieces_none (b ∷ []) some none = pieces-other b [] (none 0 (omega arith))
pieces_none (b ∷ c ∷ cs) some none =
    pieces-other b (c ∷ cs) (none 0 (omega arith))
    ∙ ap (onto_first b) (pieces_none (c ∷ cs) (omega arith) (λ k l. none (suc k) (omega (arith, l))))

-- bytes before the first piece
abbrev pub before_first : List ℕ → List (List ℕ) → List (List ℕ)
before_first front [] = front ∷ []
before_first front (p ∷ ps) = (front ++ p) ∷ ps

before_first-one : (b : ℕ) (ps : List (List ℕ)) → onto_first b ps ≡ before_first (b ∷ []) ps
before_first-one b [] = refl
before_first-one b (p ∷ ps) = refl

before_first-more : (b : ℕ) (front : List ℕ) (ps : List (List ℕ)) → onto_first b (before_first front ps)
    ≡ before_first (b ∷ front) ps
before_first-more b front [] = refl
before_first-more b front (p ∷ ps) = refl

pub pieces_open : (front rest : List ℕ) → 0 < length front → IsOpenTo (length front) front → pieces (front ++ rest)
    ≡ before_first front (pieces rest)
pieces_open [] rest some none = absurd (omega (arith, some))
pieces_open (b ∷ []) rest some none = pieces-other b rest (none 0 (omega arith)) ∙ before_first-one b (pieces rest)
pieces_open (b ∷ c ∷ cs) rest some none =
    pieces-other b (c ∷ (cs ++ rest)) (none 0 (omega arith))
    ∙ ap (onto_first b) (pieces_open (c ∷ cs) rest (omega arith) (λ k l. none (suc k) (omega (arith, l))))
    ∙ before_first-more b (c ∷ cs) (pieces rest)

-- ---- the first piece, by the bytes that are held

pub first-ends : (len : ℕ) (held rest : List ℕ) → EndsAt len held → pieces (held ++ rest) ≡ take len held
    ∷ pieces (drop len held ++ rest)
first-ends len held rest h =
    let one : suc (len - 1) ≡ len = omega (arith, h.some) in
    let below : len - 1 < length held = omega (arith, h.some, h.within) in
    pieces_at (held ++ rest) (len - 1) (omega (arith, below, length-append held rest))
    (get_or-append held rest 0 (len - 1) below ∙ h.newline)
    (λ k l e. h.open_before k l (sym (get_or-append held rest 0 k (omega (arith, l, below))) ∙ e))
    ∙ ap (λ n. take n (held ++ rest) ∷ pieces (drop n (held ++ rest))) one
    ∙ ap (λ z. z ∷ pieces (drop len (held ++ rest))) (take-append-le len held rest h.within)
    ∙ ap (λ z. take len held ∷ pieces z) (drop-append-le len held rest h.within)

pub first-all : (len : ℕ) (held : List ℕ) → 0 < len → length held ≡ len → IsOpenTo len held
    → pieces (held ++ []) ≡ take len held ∷ pieces (drop len held ++ [])
first-all len held some all none =
    ap pieces (append-nil held)
    ∙ pieces_none held (omega (arith, some, all)) (λ k l. none k (omega (arith, l, all)))
    ∙ ap (λ z. z ∷ []) (sym (take_all len held (omega (arith, all))))
    ∙ ap (λ z. take len held ∷ pieces (z ++ [])) (sym (drop_of_length-le held (omega (arith, all))))

-- ---- the first newline among the bytes of a run, behind bytes without one

module _ (bytes : List ℕ) (at n run : ℕ) (room : at + n ≤ length bytes)
    (counted : run ≡ prefix_len (λ b. not (b == 10)) (take n (drop at bytes))) (before : IsOpenTo at bytes) where
  open_so_far : IsOpenTo (at + run) bytes
  open_so_far k l newline = elim (cases_lt k at) [
    | inl early ↦ before k early newline
    | inr late ↦
        false≢true (sym (run_in_chunk_fails (λ b. b == 10) bytes at n run 0 room counted k late l)
        ∙ eq-eqb (get_or bytes k 0) 10 newline)
  ]

  pub open_run : n ≤ run → IsOpenTo (at + n) bytes
  open_run all k l = open_so_far k (omega (arith, all, l))

  pub ends_in_run : run < n → EndsAt (at + run + 1) bytes
  ends_in_run short =
      let place : at + run ≡ at + run + 1 - 1 = omega arith in
      record {
        some = omega arith;
        within = omega (arith, room, short);
        open_before = λ k l. open_so_far k (omega (arith, l));
        newline =
            ap (λ i. get_or bytes i 0) (sym place)
            ∙ eqb-true (get_or bytes (at + run) 0) 10
            (run_in_chunk_stops (λ b. b == 10) bytes at n run 0 room counted short);
      }
