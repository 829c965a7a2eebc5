-- What a root leads to by the numbers of a trace is what is used.
use Rattle.std.specs.Prelude.{◌↔◌, pos}
use Rattle.std.specs.List.{filter}
use Rattle.std.specs.List.Sorted.{IsStrictlyIncreasing}
use Rattle.std.proofs.Common.{◌≡◌, ◌≢◌, ℕ, ◌<◌, true, List, [], ◌∷◌, map, length, slice_get, slice_index, Some}
use Rattle.std.proofs.Common.{sym, ap, subst, ◌∙◌, get_or, arith}
use Rattle.std.proofs.lemmas.List.{length-map, get_or-map}
use Rattle.std.proofs.lemmas.Option.{slice_get-get_or}
use Rattle.std.proofs.lemmas.Simd.{map-map}
use Rattle.ot_leads.specs.Found.{IsFirst, IsFrom}
use Rattle.ot_logic.specs.Lists.{IsMember}
use Rattle.ot_logic.specs.Table.{IsInjective}
use Rattle.ot_logic.specs.Names.{Name, same_name-Decides}
use Rattle.ot_logic.specs.Naming.{names}
use Rattle.ot_logic.proofs.Members.{IsMember-get_or, IsMember-map}
use Rattle.ot_trace.specs.Origins.{Origin, Number, map_origin}
use Rattle.ot_trace.specs.Trace.{origin_at}
use Rattle.ot_trace.specs.Reach.{IsReached}
use Rattle.ot_written.specs.Needed.{firsts_by, is_among, needed_definitions, needed_origins}
use Rattle.ot_written.specs.Laws.{Tells}
use Rattle.ot_written.proofs.NeededDefinitions.{needed-reached, reached-needed, origin-reached, reached-origin}
use Rattle.ot_written.proofs.NeededLaw.{among-to, among-from}
use Rattle.ot_written.proofs.Renaming.{origin-injective}
use Rattle.ot_written.proofs.Same.{same-origin-law}
use Rattle.ot_uses.specs.Used.{beside_places, places_in, same}
use Rattle.ot_uses.proofs.Placed.{passing-rise, passing-are, first-passing-rise, first-passing-are}
use Rattle.ot_uses.proofs.Renamed.{reached-to, reached-from}
use Rattle.ot_uses.proofs.Rising.{one-rising}

tells : Tells same
tells = same-origin-law names.same same_name-Decides

abbrev pub IsIn : ℕ → List ℕ → Type 0
IsIn n is = (i : ℕ) → IsMember i is → i < n

module _ (ts : List (Origin ℕ)) (once_in : IsInjective ts) (f : ℕ → Name) (injective : (x y : ℕ) → f x ≡ f y → x ≡ y)
    (root : ℕ) (ds : List ℕ) (ds_in : IsIn (length ts) ds) where
  abbrev at : ℕ → Origin Name
  at i = map_origin f (origin_at ts i)

  abbrev none : Origin Name
  none = Number (pos 0)

  abbrev R : List (Origin Name)
  R = at root ∷ []

  abbrev D : List (Origin Name)
  D = map at ds

  D-is : map (map_origin f) (map (origin_at ts) ds) ≡ D
  D-is = map-map (map_origin f) (origin_at ts) ds

  from-reached : (i : ℕ) → IsFrom ts ds root i → IsReached R D (at i)
  from-reached i a =
      subst (λ z. IsReached R z (at i)) D-is
      (reached-to f (origin_at ts root ∷ []) (map (origin_at ts) ds) (origin_at ts i) a)

  reached-is : (i : ℕ) → IsReached R D (at i) → IsFrom ts ds root i
  reached-is i a =
      reached-from f (origin_at ts root ∷ []) (map (origin_at ts) ds) injective (origin_at ts i)
      (subst (λ z. IsReached R z (at i)) (sym D-is) a)

  -- what stands at a place
  item : (is : List ℕ) (p : ℕ) → p < length is → get_or (map at is) p none ≡ at (slice_index is p)
  item is p h = get_or-map at is p 0 none h

  -- ---- assumptions
  abbrev found_origins : List (Origin Name)
  found_origins = needed_origins same R D

  pub assumptions-found : (is places : List ℕ) → IsStrictlyIncreasing places
      → ((p : ℕ) → IsMember p places ↔ ((p < length is) × IsFrom ts ds root (slice_index is p)))
      → places ≡ places_in (filter (λ p. is_among same p.1 found_origins) (beside_places 0 (map at is)))
  assumptions-found is places rise these =
      one-rising places (places_in (filter (λ p. is_among same p.1 found_origins) (beside_places 0 (map at is))))
      (λ p. (p < length is) × IsFrom ts ds root (slice_index is p)) rise these
      (passing-rise (λ o. is_among same o found_origins) (map at is)) are
    where
      are : (p : ℕ)
          → IsMember p (places_in (filter (λ q. is_among same q.1 found_origins) (beside_places 0 (map at is))))
          ↔ ((p < length is) × IsFrom ts ds root (slice_index is p))
      are p =
          let passes = passing-are (λ o. is_among same o found_origins) none (map at is) p in
          let long = length-map is at in (
            λ m.
                let (h, e) = passes.0 m in
                let lt : p < length is = omega (arith, h, long) in (
                  lt,
                  reached-is (slice_index is p) (origin-reached same tells R D (at (slice_index is p))
                      (among-to same tells (at (slice_index is p)) found_origins
                      (subst (λ o. is_among same o found_origins ≡ true) (item is p lt) e))),
                ),
            λ h. passes.1 (
              (let lt = h.0 in omega (arith, lt, long)),
              subst (λ o. is_among same o found_origins ≡ true) (sym (item is p h.0))
                  (among-from same tells (at (slice_index is p)) found_origins
                  (reached-origin same tells R D (at (slice_index is p)) (from-reached (slice_index is p) h.1))),
            ),
          )

  -- ---- definitions
  abbrev found : List (Origin Name)
  found = needed_definitions same R D

  -- numbers with one origin are one
  once : (i j : ℕ) → i < length ts → j < length ts → at i ≡ at j → i ≡ j
  once i j h k e =
      let one : origin_at ts i ≡ origin_at ts j = origin-injective f injective (origin_at ts i) (origin_at ts j) e in
      once_in.same i j (origin_at ts i) (slice_get-get_or ts i (Number (pos 0)) h)
      (slice_get-get_or ts j (Number (pos 0)) k ∙ ap Some (sym one))

  inside : (p : ℕ) → p < length ds → slice_index ds p < length ts
  inside p h = ds_in (slice_index ds p) (IsMember-get_or ds p 0 h)

  -- first of its origin is first of its number
  new-first : (p : ℕ) → p < length ds
      → ((q : ℕ) → q < p → get_or (map at ds) q none ≢ get_or (map at ds) p none) → IsFirst ds p
  new-first p h new q b e =
      new q b (item ds q (omega (arith, b, h)) ∙ ap at e ∙ sym (item ds p h))

  first-new : (p : ℕ) → p < length ds → IsFirst ds p
      → (q : ℕ) → q < p → get_or (map at ds) q none ≢ get_or (map at ds) p none
  first-new p h first q b e =
      let k : q < length ds = omega (arith, b, h) in
      first q b (once (slice_index ds q) (slice_index ds p) (inside q k) (inside p h)
      (sym (item ds q k) ∙ e ∙ item ds p h))

  pub definitions-found : (places : List ℕ) → IsStrictlyIncreasing places
      → ((p : ℕ) → IsMember p places
      ↔ ((p < length ds) × IsFirst ds p × IsFrom ts ds root (slice_index ds p)))
      → places
      ≡ places_in (filter (λ p. is_among same p.1 found) (firsts_by same (λ p. p.1) (beside_places 0 (map at ds))))
  definitions-found places rise these =
      one-rising places
      (places_in (filter (λ p. is_among same p.1 found) (firsts_by same (λ p. p.1) (beside_places 0 (map at ds)))))
      (λ p. (p < length ds) × IsFirst ds p × IsFrom ts ds root (slice_index ds p)) rise these
      (first-passing-rise tells (λ o. is_among same o found) (map at ds)) are
    where
      are : (p : ℕ) → IsMember p
          (places_in (filter (λ q. is_among same q.1 found) (firsts_by same (λ q. q.1) (beside_places 0 (map at ds)))))
          ↔ ((p < length ds) × IsFirst ds p × IsFrom ts ds root (slice_index ds p))
      are p =
          let passes = first-passing-are tells (λ o. is_among same o found) none (map at ds) p in
          let long = length-map ds at in (
            λ m.
                let (h, new, e) = passes.0 m in
                let lt : p < length ds = omega (arith, h, long) in (
                  lt,
                  new-first p lt new,
                  reached-is (slice_index ds p) (needed-reached same tells R D (at (slice_index ds p))
                      (among-to same tells (at (slice_index ds p)) found
                      (subst (λ o. is_among same o found ≡ true) (item ds p lt) e))).1,
                ),
            λ h. passes.1 (
              (let lt = h.0 in omega (arith, lt, long)),
              first-new p h.0 h.1,
              subst (λ o. is_among same o found ≡ true) (sym (item ds p h.0))
                  (among-from same tells (at (slice_index ds p)) found
                  (reached-needed same tells R D (at (slice_index ds p))
                  (IsMember-map at (slice_index ds p) ds (IsMember-get_or ds p 0 h.0))
                  (from-reached (slice_index ds p) h.2))),
            ),
          )
