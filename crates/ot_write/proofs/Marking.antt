-- The uses that are counted by number are those of the needed origins, and the marked definitions are the needed
-- ones.
use Rattle.std.proofs.Common.{◌≡◌, ◌≢◌, ℕ, zero, suc, ◌+◌, ◌<◌, inl, inr, ◌⊎◌, Bool, true, false, not, cond}
use Rattle.std.proofs.Common.{List, [], ◌∷◌, map, set, length, slice_get, Some, refl, sym, ap, subst, ◌∙◌, arith}
use Rattle.std.specs.Prelude.{◌&&◌}
use Rattle.std.specs.List.{flat_map, filter}
use Rattle.ot_logic.specs.Lists.{IsMember, AreDistinct}
use Rattle.ot_trace.specs.Origins.{Origin, Outcome, operands}
use Rattle.ot_trace.specs.Trace.{IsStepTable, origin_at}
use Rattle.ot_trace.specs.Reach.{IsReached, Root, Operand, OfTheorem, OfSymbol, MarksReached}
use Rattle.ot_trace.specs.Uses.{count, uses, marked_from}
use Rattle.ot_written.specs.Needed.{firsts, firsts_by, is_among, needed_definitions, needed_origins}
use Rattle.ot_written.specs.Uses.{use_count}
use Rattle.ot_written.proofs.Filters.{bool_cases, member-flat_map}
use Rattle.ot_written.proofs.Counting.{sum-part}
use Rattle.ot_written.proofs.Kept.{kept, kept-is}
use Rattle.ot_written.proofs.NeededDefinitions.{firsts-distinct, reached-origin, origin-reached}
use Rattle.ot_written.proofs.NeededLaw.{among-to, among-from}
use Rattle.ot_written.proofs.Renaming.{filter-map}
use Rattle.ot_written.proofs.Walk.{marked-to, marked-in, marked-distinct, get-low, needed-by-test}
use Rattle.ot_write.specs.Emitting.{same, is_marked, marked_of}
use Rattle.ot_write.proofs.Keys.{same-is, once-at}
use Rattle.ot_logic.proofs.Elements.{slice_get-set_other, slice_get-set_same}
use Rattle.ot_logic.proofs.Members.{IsMember-map, IsMember-map_back}

abbrev pub IsIn : ℕ → List ℕ → Type 0
IsIn n is = (i : ℕ) → IsMember i is → i < n

module _ (ts : List (Origin ℕ)) (table : IsStepTable ts) (roots ds : List ℕ) (roots_in : IsIn (length ts) roots)
    (ds_in : IsIn (length ts) ds) (marks : List Bool) (w : MarksReached ts roots ds marks) where
  abbrev at : ℕ → Origin ℕ
  at = origin_at ts

  abbrev R : List (Origin ℕ)
  R = map at roots

  abbrev D : List (Origin ℕ)
  D = map at ds

  abbrev Found : Origin ℕ → Type 0
  Found o = (i : ℕ) × (i < length ts) × (at i ≡ o)

  -- what is reached is in the table
  part-in : (i k : ℕ) (p : Origin ℕ) → i < length ts → k < i → at k ≡ p → Found p
  part-in i k p h l e = (k, omega arith, e)

  in-table : (o : Origin ℕ) → IsReached R D o → Found o
  in-table o (Root _ m) = let r = IsMember-map_back at o roots m in (r.0, roots_in r.0 r.1, r.2)
  in-table p (Operand o _ a m) =
      let x = in-table o a in
      let k = table.closed x.0 p x.1 (inl (subst (λ z. IsMember p (operands z)) (sym x.2) m)) in
      part-in x.0 k.0 p x.1 k.1 k.2
  in-table d (OfTheorem j _ a) =
      let x = in-table (Outcome j d) a in
      let k = table.closed x.0 d x.1 (inr (j, x.2)) in
      part-in x.0 k.0 d x.1 k.1 k.2
  in-table d (OfSymbol o _ a m s) = let r = IsMember-map_back at d ds m in (r.0, ds_in r.0 r.1, r.2)

  -- ---- the marked numbers

  abbrev marked : List ℕ
  marked = marked_from 0 marks

  marked-place : (i : ℕ) → IsMember i marked → (slice_get marks i ≡ Some true) × (i < length ts)
  marked-place i m =
      let r = marked-to marks 0 i m in
      let e : i ≡ 0 + r.0 = r.1 in
      let f : r.0 ≡ i = omega arith in
      let g : slice_get marks i ≡ Some true = subst (λ z. slice_get marks z ≡ Some true) f r.2 in
      let low = get-low marks i true g in
      let n : length marks ≡ length ts = w.length_is in
      (g, omega arith)

  marked-member : (i : ℕ) → slice_get marks i ≡ Some true → IsMember i marked
  marked-member i h = let e : 0 + i ≡ i = omega arith in subst (λ z. IsMember z marked) e (marked-in marks 0 i h)

  marked-reached : (o : Origin ℕ) → IsMember o (map at marked) → IsReached R D o
  marked-reached o m = let r = IsMember-map_back at o marked m in let p = marked-place r.0 r.1 in
      subst (IsReached R D) r.2 ((w.marked r.0 p.1).0 p.0)

  reached-marked : (o : Origin ℕ) → IsReached R D o → IsMember o (map at marked)
  reached-marked o a =
      let x = in-table o a in
      subst (λ z. IsMember z (map at marked)) x.2
      (IsMember-map at x.0 marked (marked-member x.0 ((w.marked x.0 x.1).1 (subst (IsReached R D) (sym x.2) a))))

  distinct-origins : (is : List ℕ) → IsIn (length ts) is → AreDistinct is → AreDistinct (map at is)
  distinct-origins [] h d = tt
  distinct-origins (i ∷ is) h d = (
    λ m. let r = IsMember-map_back at (at i) is m in
        d.0 (subst (λ z. IsMember z is) (once-at ts table r.0 i (h r.0 (inr r.1)) (h i (inl refl)) r.2) r.1),
    distinct-origins is (λ j m. h j (inr m)) d.1,
  )

  -- the uses by what is marked are the uses
  pub uses-marked : (o : Origin ℕ) → use_count same R D o ≡ uses same R (map at marked) o
  uses-marked o =
      let needed : List (Origin ℕ) = needed_origins same R D in
      let one = distinct-origins marked (λ i m. (marked-place i m).1) (marked-distinct marks 0) in
      let low = sum-part same same-is operands (map at marked) needed one
      (λ x m. reached-origin same same-is R D x (marked-reached x m)) o in
      let high = sum-part same same-is operands needed (map at marked) (firsts-distinct same same-is _)
      (λ x m. reached-marked x (origin-reached same same-is R D x m)) o in
      omega arith

  count-no : (o : Origin ℕ) (xs : List (Origin ℕ)) → ¬ (IsMember o xs) → count same o xs ≡ 0
  count-no o [] h = refl
  count-no o (x ∷ xs) h = elim (bool_cases (same o x)) [
    | inl e ↦ absurd (h (inl (sym ((same-is o x).0 e))))
    | inr e ↦ rw e (count-no o xs (λ m. h (inr m)))
  ]

  -- what isn't in the table has no use
  pub uses-outside : (o : Origin ℕ) → ((i : ℕ) → i < length ts → at i ≢ o) → use_count same R D o ≡ 0
  uses-outside o none =
      let out : ¬ (IsReached R D o) = λ a. let x = in-table o a in none x.0 x.1 x.2 in
      let a : count same o R ≡ 0 = count-no o R (λ m. out (Root o m)) in
      let b : count same o (flat_map operands (needed_origins same R D)) ≡ 0 =
      count-no o (flat_map operands (needed_origins same R D))
      (λ m. let x = member-flat_map o operands (needed_origins same R D) m in
      out (Operand x.0 o (origin-reached same same-is R D x.0 x.1) x.2)) in
      omega arith

  -- ---- the needed definitions by number

  abbrev found : List (Origin ℕ)
  found = map at marked

  -- what is marked of the table, and wasn't seen
  abbrev Agrees : List Bool → List (Origin ℕ) → Type 0
  Agrees now seen = (length now ≡ length ts)
      × ((i : ℕ) → i < length ts → is_marked now i ≡ (is_among same (at i) found && not (is_among same (at i) seen)))

  marked-is : (now : List Bool) (i : ℕ) → i < length now → slice_get now i ≡ Some (is_marked now i)
  marked-is [] i h = absurd (omega arith)
  marked-is (b ∷ now) zero h = refl
  marked-is (b ∷ now) (suc i) h = marked-is now i (omega arith)

  is-of-get : (now : List Bool) (i : ℕ) (b : Bool) → slice_get now i ≡ Some b → is_marked now i ≡ b
  is-of-get [] i b h = absurd (cc)
  is-of-get (c ∷ now) zero b h = let e : c ≡ b = cc in e
  is-of-get (c ∷ now) (suc i) b h = is-of-get now i b h

  at-first : Agrees marks []
  at-first = (
    w.length_is,
    λ i h. elim (bool_cases (is_among same (at i) found)) [
      | inl e ↦ (let r = marked-reached (at i) (among-to same same-is (at i) found e) in
          is-of-get marks i true ((w.marked i h).1 r) ∙ sym (rw e refl))
      | inr e ↦ elim (bool_cases (is_marked marks i)) [
        | inl f ↦ absurd (let n : length marks ≡ length ts = w.length_is in
            let g : slice_get marks i ≡ Some true = marked-is marks i (omega arith) ∙ ap Some f in
            let z : is_among same (at i) found ≡ true =
            among-from same same-is (at i) found (IsMember-map at i marked (marked-member i g)) in cc)
        | inr f ↦ f ∙ sym (rw e refl)
      ]
    ],
  )

  -- ---- once a definition was met

  seen-other : (i x : ℕ) (seen : List (Origin ℕ)) → i < length ts → x < length ts → i ≢ x
      → is_among same (at i) (at x ∷ seen) ≡ is_among same (at i) seen
  seen-other i x seen h k n = elim (bool_cases (same (at i) (at x))) [
    | inl e ↦ absurd (n (once-at ts table i x h k ((same-is (at i) (at x)).0 e)))
    | inr e ↦ rw e refl
  ]

  seen-self : (x : ℕ) (seen : List (Origin ℕ)) → is_among same (at x) (at x ∷ seen) ≡ true
  seen-self x seen = rw ((same-is (at x) (at x)).1 refl) refl

  set-long : {X : Type 0} (xs : List X) (i : ℕ) (x : X) → length (set xs i x) ≡ length xs
  set-long [] i x = refl
  set-long (y ∷ xs) zero x = refl
  set-long (y ∷ xs) (suc i) x = ap suc (set-long xs i x)

  cases-of : (i x : ℕ) → (i ≡ x) ⊎ (i ≢ x)
  cases-of i x = omega_cases i x
    where
      omega_cases : (i x : ℕ) → (i ≡ x) ⊎ (i ≢ x)
      omega_cases zero zero = inl refl
      omega_cases zero (suc x) = inr (λ e. absurd (omega arith))
      omega_cases (suc i) zero = inr (λ e. absurd (omega arith))
      omega_cases (suc i) (suc x) =
          elim (omega_cases i x) [ inl e ↦ inl (ap suc e) | inr n ↦ inr (λ e. n (let f : i ≡ x = omega arith in f)) ]

  unmarked-next : (now : List Bool) (seen : List (Origin ℕ)) (x : ℕ) → x < length ts → Agrees now seen
      → Agrees (set now x false) (at x ∷ seen)
  unmarked-next now seen x k a = (
    set-long now x false ∙ a.0,
    λ i h. elim (cases-of i x) [
      | inl e ↦
          (let n : length now ≡ length ts = a.0 in is-of-get (set now x false) i false
          (ap (slice_get (set now x false)) e ∙ slice_get-set_same now x false (omega arith))
          ∙ sym (ap (λ z. is_among same (at i) found && not (is_among same (at z) (at x ∷ seen))) e
          ∙ ap (λ b. is_among same (at i) found && not b) (seen-self x seen)
          ∙ never (is_among same (at i) found)))
      | inr n ↦ (let m : length now ≡ length ts = a.0 in
          let s : length (set now x false) ≡ length now = set-long now x false in
          is-of-get (set now x false) i (is_marked now i)
          (slice_get-set_other now x i false n ∙ marked-is now i (omega arith)) ∙ a.1 i h
          ∙ ap (λ b. is_among same (at i) found && not b) (sym (seen-other i x seen h k n)))
    ],
  )
    where
      never : (a : Bool) → (a && false) ≡ false
      never true = refl
      never false = refl

  passed-next : (now : List Bool) (seen : List (Origin ℕ)) (x : ℕ) → x < length ts → is_marked now x ≡ false
      → Agrees now seen → Agrees now (at x ∷ seen)
  passed-next now seen x k f a = (
    a.0,
    λ i h. elim (cases-of i x) [
      | inl e ↦ ap (is_marked now) e ∙ f
          ∙ sym (ap (λ z. is_among same (at i) found && not (is_among same (at z) (at x ∷ seen))) e
          ∙ ap (λ b. is_among same (at i) found && not b) (seen-self x seen) ∙ never (is_among same (at i) found))
      | inr n ↦ a.1 i h ∙ ap (λ b. is_among same (at i) found && not b) (sym (seen-other i x seen h k n))
    ],
  )
    where
      never : (a : Bool) → (a && false) ≡ false
      never true = refl
      never false = refl

  taken-kept : (now : List Bool) (seen : List (Origin ℕ)) (is : List ℕ) → IsIn (length ts) is → Agrees now seen
      → marked_of now is ≡ kept same at found seen is
  taken-kept now seen [] h a = refl
  taken-kept now seen (x ∷ is) h a =
      go (is_marked now x) refl
      (λ p. taken-kept (set now x false) (at x ∷ seen) is (λ i m. h i (inr m))
      (unmarked-next now seen x (h x (inl refl)) a))
      (λ p. taken-kept now (at x ∷ seen) is (λ i m. h i (inr m)) (passed-next now seen x (h x (inl refl)) p a))
    where
      go : (b : Bool) → is_marked now x ≡ b
          → (is_marked now x ≡ true → marked_of (set now x false) is ≡ kept same at found (at x ∷ seen) is)
          → (is_marked now x ≡ false → marked_of now is ≡ kept same at found (at x ∷ seen) is)
          → cond b (x ∷ marked_of (set now x false) is) (marked_of now is)
          ≡ cond (is_among same (at x) found && not (is_among same (at x) seen))
          (x ∷ kept same at found (at x ∷ seen) is) (kept same at found (at x ∷ seen) is)
      go true e met passed = ap (λ l. x ∷ l) (met e)
          ∙ ap (λ c. cond c (x ∷ kept same at found (at x ∷ seen) is) (kept same at found (at x ∷ seen) is))
          (sym e ∙ a.1 x (h x (inl refl)))
      go false e met passed =
          passed e ∙ ap (λ c. cond c (x ∷ kept same at found (at x ∷ seen) is) (kept same at found (at x ∷ seen) is))
          (sym e ∙ a.1 x (h x (inl refl)))

  firsts-at : (is : List ℕ) → map at (firsts_by same at is) ≡ firsts same (map at is)
  firsts-at [] = refl
  firsts-at (i ∷ is) =
      ap (λ l. at i ∷ l)
      (sym (filter-map at (λ e. not (same (at i) e)) (λ j. not (same (at i) (at j))) (λ j. refl)
      (firsts_by same at is)) ∙ ap (filter (λ e. not (same (at i) e))) (firsts-at is))

  -- the marked definitions, each at its first place, are the needed ones
  pub taken-needed : map at (marked_of marks ds) ≡ needed_definitions same R D
  taken-needed =
      ap (map at) (taken-kept marks [] ds ds_in at-first ∙ kept-is same same-is at found ds)
      ∙ sym (filter-map at (λ d. is_among same d found) (λ i. is_among same (at i) found) (λ i. refl)
      (firsts_by same at ds))
      ∙ ap (filter (λ d. is_among same d found)) (firsts-at ds)
      ∙ sym (needed-by-test same same-is R D (λ d. is_among same d found) (λ d m. (
        λ h. marked-reached d (among-to same same-is d found h),
        λ a. among-from same same-is d found (reached-marked d a),
      )))
