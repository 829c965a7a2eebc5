-- Maps of numbers of names, and the maps of the names that the numbers stand for.
--     at, size     the name of each number, and how many numbers there are
use Rattle.std.specs.Prelude.{not}
use Rattle.std.specs.Option.{option_map}
use Rattle.std.specs.List.{filter}
use Rattle.std.specs.Map.{lookup}
use Rattle.std.proofs.Common.{◌≡◌, ℕ, ◌<◌, ◌≤◌, Bool, true, false, cond, nat_eq, List, [], ◌∷◌, ◌++◌}
use Rattle.std.proofs.Common.{map, Option, Some, None, is_some, unwrap_or, refl, sym, ap, ◌∙◌, arith}
use Rattle.std.proofs.lemmas.Bool.Decides.{Decides-eqb, Decides-like, same_from_decides}
use Rattle.std.proofs.lemmas.List.{map-append}
use Rattle.std.proofs.lemmas.List.Elements.{All-nil, All-head, All-tail, All-cons, All-append, All-weaker}
use Rattle.ot_logic.specs.Names.{Name, same_name, same_name-Decides}
use Rattle.ot_logic.specs.Naming.{names, numbers}
use Rattle.ot_interp.specs.Interpretation.{Interpretation, is_held, renamed, after_pairs, after}
use Rattle.ot_interp.specs.Interpretation.{map_pairs, map_interpretation, AreWithin, IsWithin}

-- ---- the names stay within their table
first : (size : ℕ) (p : ℕ × ℕ) (ps : List (ℕ × ℕ)) → AreWithin size (p ∷ ps) → (p.0 < size) × (p.1 < size)
first size p ps h = All-head (λ q. (q.0 < size) × (q.1 < size)) p ps h

others : (size : ℕ) (p : ℕ × ℕ) (ps : List (ℕ × ℕ)) → AreWithin size (p ∷ ps) → AreWithin size ps
others size p ps h = All-tail (λ q. (q.0 < size) × (q.1 < size)) p ps h

pub renamed-within : (size : ℕ) (pairs : List (ℕ × ℕ)) (n : ℕ) → AreWithin size pairs → n < size
    → renamed numbers pairs n < size
renamed-within size [] n h below = below
renamed-within size (p ∷ ps) n h below = by (nat_eq n p.0) (renamed-within size ps n (others size p ps h) below)
  where
    by : (b : Bool) → renamed numbers ps n < size → unwrap_or (cond b (Some p.1) (lookup (nat_eq n) ps)) n < size
    by true ih = (first size p ps h).1
    by false ih = ih

-- in a larger table too
pub IsWithin-more : (size more : ℕ) → size ≤ more → (i : Interpretation ℕ) → IsWithin size i → IsWithin more i
IsWithin-more size more longer i h =
    record { constants = wider i.constants h.constants; type_ops = wider i.type_ops h.type_ops }
  where
    wider : (pairs : List (ℕ × ℕ)) → AreWithin size pairs → AreWithin more pairs
    wider pairs all = All-weaker (λ q. (q.0 < size) × (q.1 < size)) (λ q. (q.0 < more) × (q.1 < more))
        (λ q p. (omega (arith, p.0, longer), omega (arith, p.1, longer))) pairs all

-- namings that agree within the table make one map of it
module _ {N : Type 0} (f g : ℕ → N) (size : ℕ) (agree : (i : ℕ) → i < size → f i ≡ g i) where
  map_pairs-agree : (pairs : List (ℕ × ℕ)) → AreWithin size pairs → map_pairs f pairs ≡ map_pairs g pairs
  map_pairs-agree [] h = refl
  map_pairs-agree (p ∷ ps) h =
      let from = agree p.0 (first size p ps h).0 in
      let to = agree p.1 (first size p ps h).1 in
      let tail = map_pairs-agree ps (others size p ps h) in
      λ j. (from j, to j) ∷ tail j

  pub map_interpretation-agree : (i : Interpretation ℕ) → IsWithin size i
      → map_interpretation f i ≡ map_interpretation g i
  map_interpretation-agree i h =
      let constants = map_pairs-agree i.constants h.constants in
      let type_ops = map_pairs-agree i.type_ops h.type_ops in
      λ j. record { constants = constants j; type_ops = type_ops j }

after_pairs-within : (size : ℕ) (inner outer : List (ℕ × ℕ)) → AreWithin size inner → AreWithin size outer
    → AreWithin size (after_pairs numbers inner outer)
after_pairs-within size inner outer h k = All-append P (map (λ p. (p.0, renamed numbers outer p.1)) inner)
    (filter (λ p. not (is_held numbers inner p.0)) outer) (images inner h) (missing outer k)
  where
    P : ℕ × ℕ → Type 0
    P q = (q.0 < size) × (q.1 < size)

    images : (ps : List (ℕ × ℕ)) → AreWithin size ps → AreWithin size (map (λ p. (p.0, renamed numbers outer p.1)) ps)
    images [] all = All-nil P
    images (p ∷ ps) all = All-cons P (p.0, renamed numbers outer p.1) (map (λ q. (q.0, renamed numbers outer q.1)) ps)
        ((first size p ps all).0, renamed-within size outer p.1 k (first size p ps all).1)
        (images ps (others size p ps all))

    missing : (ps : List (ℕ × ℕ)) → AreWithin size ps
        → AreWithin size (filter (λ p. not (is_held numbers inner p.0)) ps)
    missing [] all = All-nil P
    missing (p ∷ ps) all = by (not (is_held numbers inner p.0)) (missing ps (others size p ps all))
      where
        by : (b : Bool) → AreWithin size (filter (λ q. not (is_held numbers inner q.0)) ps)
            → AreWithin size (cond b (p ∷ filter (λ q. not (is_held numbers inner q.0)) ps)
            (filter (λ q. not (is_held numbers inner q.0)) ps))
        by true rest = All-cons P p (filter (λ q. not (is_held numbers inner q.0)) ps) (first size p ps all) rest
        by false rest = rest

pub after-within : (size : ℕ) (inner outer : Interpretation ℕ) → IsWithin size inner → IsWithin size outer
    → IsWithin size (after numbers inner outer)
after-within size inner outer h k = record {
  constants = after_pairs-within size inner.constants outer.constants h.constants k.constants;
  type_ops = after_pairs-within size inner.type_ops outer.type_ops h.type_ops k.type_ops;
}

-- ---- what a map does to numbers, its names do to the names
module _ (at : ℕ → Name) (size : ℕ) (injective : (i j : ℕ) → i < size → j < size → at i ≡ at j → i ≡ j) where
  same_at : (i j : ℕ) → i < size → j < size → same_name (at i) (at j) ≡ nat_eq i j
  same_at i j iin jin = same_from_decides (same_name (at i) (at j)) (nat_eq i j) (same_name-Decides (at i) (at j))
      (Decides-like (nat_eq i j) (ap at) (injective i j iin jin) (Decides-eqb i j))

  lookup-at : (pairs : List (ℕ × ℕ)) (n : ℕ) → AreWithin size pairs → n < size
      → lookup (same_name (at n)) (map_pairs at pairs) ≡ option_map at (lookup (nat_eq n) pairs)
  lookup-at [] n h below = refl
  lookup-at (p ∷ ps) n h below =
      ap (λ b. cond b (Some (at p.1)) (lookup (same_name (at n)) (map_pairs at ps)))
      (same_at n p.0 below (first size p ps h).0) ∙ by (nat_eq n p.0) (lookup-at ps n (others size p ps h) below)
    where
      by : (b : Bool) → lookup (same_name (at n)) (map_pairs at ps) ≡ option_map at (lookup (nat_eq n) ps)
          → cond b (Some (at p.1)) (lookup (same_name (at n)) (map_pairs at ps))
          ≡ option_map at (cond b (Some p.1) (lookup (nat_eq n) ps))
      by true ih = refl
      by false ih = ih

  pub is_held-at : (pairs : List (ℕ × ℕ)) (n : ℕ) → AreWithin size pairs → n < size
      → is_held names (map_pairs at pairs) (at n) ≡ is_held numbers pairs n
  is_held-at pairs n h below = ap is_some (lookup-at pairs n h below) ∙ same_some (lookup (nat_eq n) pairs)
    where
      same_some : (o : Option ℕ) → is_some (option_map at o) ≡ is_some o
      same_some None = refl
      same_some (Some x) = refl

  pub renamed-at : (pairs : List (ℕ × ℕ)) (n : ℕ) → AreWithin size pairs → n < size
      → renamed names (map_pairs at pairs) (at n) ≡ at (renamed numbers pairs n)
  renamed-at pairs n h below = ap (λ o. unwrap_or o (at n)) (lookup-at pairs n h below)
      ∙ same_default (lookup (nat_eq n) pairs)
    where
      same_default : (o : Option ℕ) → unwrap_or (option_map at o) (at n) ≡ at (unwrap_or o n)
      same_default None = refl
      same_default (Some x) = refl

  pub after_pairs-at : (inner outer : List (ℕ × ℕ)) → AreWithin size inner → AreWithin size outer
      → map_pairs at (after_pairs numbers inner outer) ≡ after_pairs names (map_pairs at inner) (map_pairs at outer)
  after_pairs-at inner outer h k =
      map-append (λ (p : ℕ × ℕ). (at p.0, at p.1)) (map (λ p. (p.0, renamed numbers outer p.1)) inner)
      (filter (λ p. not (is_held numbers inner p.0)) outer)
      ∙ (λ j. images inner h j ++ missing outer k j)
    where
      images : (ps : List (ℕ × ℕ)) → AreWithin size ps → map_pairs at (map (λ p. (p.0, renamed numbers outer p.1)) ps)
          ≡ map (λ p. (p.0, renamed names (map_pairs at outer) p.1)) (map_pairs at ps)
      images [] all = refl
      images (p ∷ ps) all =
          let head = renamed-at outer p.1 k (first size p ps all).1 in
          let tail = images ps (others size p ps all) in
          λ j. (at p.0, sym head j) ∷ tail j

      missing : (ps : List (ℕ × ℕ)) → AreWithin size ps
          → map_pairs at (filter (λ p. not (is_held numbers inner p.0)) ps)
          ≡ filter (λ p. not (is_held names (map_pairs at inner) p.0)) (map_pairs at ps)
      missing [] all = refl
      missing (p ∷ ps) all =
          by (not (is_held numbers inner p.0)) (missing ps (others size p ps all))
          ∙ ap (λ b. cond (not b)
          ((at p.0, at p.1) ∷ filter (λ q. not (is_held names (map_pairs at inner) q.0)) (map_pairs at ps))
          (filter (λ q. not (is_held names (map_pairs at inner) q.0)) (map_pairs at ps)))
          (sym (is_held-at inner p.0 h (first size p ps all).0))
        where
          by : (b : Bool) → map_pairs at (filter (λ q. not (is_held numbers inner q.0)) ps)
              ≡ filter (λ q. not (is_held names (map_pairs at inner) q.0)) (map_pairs at ps)
              → map_pairs at
              (cond b (p ∷ filter (λ q. not (is_held numbers inner q.0)) ps)
              (filter (λ q. not (is_held numbers inner q.0)) ps))
              ≡ cond b ((at p.0, at p.1) ∷ filter (λ q. not (is_held names (map_pairs at inner) q.0))
              (map_pairs at ps)) (filter (λ q. not (is_held names (map_pairs at inner) q.0)) (map_pairs at ps))
          by true ih = ap (λ rest. (at p.0, at p.1) ∷ rest) ih
          by false ih = ih

  pub after-at : (inner outer : Interpretation ℕ) → IsWithin size inner → IsWithin size outer → map_interpretation at
      (after numbers inner outer) ≡ after names (map_interpretation at inner) (map_interpretation at outer)
  after-at inner outer h k =
      let constants = after_pairs-at inner.constants outer.constants h.constants k.constants in
      let type_ops = after_pairs-at inner.type_ops outer.type_ops h.type_ops k.type_ops in
      λ j. record { constants = constants j; type_ops = type_ops j }
