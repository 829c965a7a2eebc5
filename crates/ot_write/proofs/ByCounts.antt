-- The text by counts is the article of the names.
use Rattle.std.proofs.Common.{◌≡◌, ◌≢◌, ℕ, zero, suc, ◌<◌, ◌≤◌, ◌⊎◌, inl, inr, Bool, false, List}
use Rattle.std.proofs.Common.{[], ◌∷◌, ◌++◌, length, map, arith, refl, sym, ap, subst, ◌∙◌}
use Rattle.std.specs.Prelude.{min, nat_le}
use Rattle.std.specs.Bool.{Decides}
use Rattle.std.specs.List.{All, flat_map}
use Rattle.std.proofs.lemmas.Bool.Decides.{nat_tests}
use Rattle.std.proofs.lemmas.Bool.{le-leb, lt-leb}
use Rattle.ot_logic.specs.Names.{Name, same_name-Decides}
use Rattle.ot_logic.specs.Naming.{names, name_of}
use Rattle.ot_logic.proofs.Naming.{name_of-injective}
use Rattle.ot_trace.specs.Origins.{Origin}
use Rattle.ot_trace.specs.Trace.{IsStepTable, origin_at}
use Rattle.ot_trace.specs.Reach.{MarksReached}
use Rattle.ot_trace.specs.Uses.{AreCounts}
use Rattle.ot_written.specs.Written as w
use Rattle.ot_written.specs.Written.{Line, roots_of}
use Rattle.ot_written.specs.Same.{same_origin}
use Rattle.ot_written.specs.Needed.{needed_definitions}
use Rattle.ot_written.specs.Uses as u
use Rattle.ot_written.specs.Bytes.{line_bytes, line_with, bytes_of}
use Rattle.ot_written.proofs.Filters.{bool_cases}
use Rattle.ot_written.proofs.Renaming.{renamed-article-law}
use Rattle.ot_written.proofs.Same.{same-origin-law}
use Rattle.ot_write.specs.declared.roots.Roots as code
use Rattle.ot_write.specs.Bytes.{AreRootsInside, article_bytes, roots_at}
use Rattle.ot_write.specs.Emitting.{counted_bytes, count_of, given, number_lines, root_steps, same, marked_of}
use Rattle.ot_write.proofs.Keys.{same-is, once-at, count-at, count-none}
use Rattle.ot_write.proofs.Marking.{IsIn, uses-marked, uses-outside, taken-needed}

-- 2 stands for two or more
told : (n k : ℕ) → n ≤ 2 → nat_le n (min 2 k) ≡ nat_le n k
told n k small = elim (bool_cases (nat_le n k)) [
  | inl e ↦ (let h : n ≤ k = grind (arith, nat_tests) in le-leb n (min 2 k) (omega arith) ∙ sym e)
  | inr e ↦ (let h : k < n = grind (arith, nat_tests) in lt-leb n (min 2 k) (omega arith) ∙ sym e)
]

-- an origin is in the table or it isn't
in-table : (ts : List (Origin ℕ)) (o : Origin ℕ) → ((i : ℕ) × (i < length ts) × (origin_at ts i ≡ o))
    ⊎ ((i : ℕ) → i < length ts → origin_at ts i ≢ o)
in-table [] o = inr (λ i h. absurd (omega arith))
in-table (t ∷ ts) o = elim (bool_cases (same t o)) [
  | inl e ↦ inl (0, omega arith, (same-is t o).0 e)
  | inr e ↦ elim (in-table ts o) [
    | inl r ↦ let h : r.0 < length ts = r.1 in inl (suc r.0, omega (arith, h), r.2)
    | inr n ↦ inr (outside t ts o e n)
  ]
]
  where
    outside : (t : Origin ℕ) (ts : List (Origin ℕ)) (o : Origin ℕ) → same t o ≡ false
        → ((i : ℕ) → i < length ts → origin_at ts i ≢ o) → (i : ℕ) → i < length (t ∷ ts) → origin_at (t ∷ ts) i ≢ o
    outside t ts o e n zero h = λ p. let q = (same-is t o).1 p in absurd (cc)
    outside t ts o e n (suc i) h = n i (omega arith)

-- the origins of the exports' root steps are their roots
pub roots-are : (ts : List (Origin ℕ)) (es : List code.Roots) → map (origin_at ts) (flat_map root_steps es)
    ≡ roots_of (map (roots_at ts) es)
roots-are ts [] = refl
roots-are ts (e ∷ es) = ap (λ l. origin_at ts e.theorem ∷ origin_at ts e.list ∷ origin_at ts e.term ∷ l)
    (roots-are ts es)

-- lines over numbers are the lines over their names
number-names : (ns : List Name) (ls : List (Line ℕ)) → number_lines ns ls ≡ bytes_of (map (line_with (name_of ns)) ls)
number-names ns [] = refl
number-names ns (l ∷ ls) = ap (λ z. line_bytes (line_with (name_of ns) l) ++ z) (number-names ns ls)

tells-names : (a b : Origin Name) → Decides (same_origin names.same a b) (a ≡ b)
tells-names = same-origin-law names.same same_name-Decides

module _ (ns : List Name) (ts : List (Origin ℕ)) (table : IsStepTable ts) (ds : List ℕ) (es : List code.Roots)
    (roots_in : IsIn (length ts) (flat_map root_steps es)) (ds_in : IsIn (length ts) ds)
    (marks : List Bool) (m : MarksReached ts (flat_map root_steps es) ds marks) (counts : List ℕ)
    (c : AreCounts ts (flat_map root_steps es) marks counts) where
  abbrev R : List (Origin ℕ)
  R = map (origin_at ts) (flat_map root_steps es)

  abbrev D : List (Origin ℕ)
  D = map (origin_at ts) ds

  capped : (o : Origin ℕ) → count_of ts counts o ≡ min 2 (u.use_count same R D o)
  capped o = elim (in-table ts o) [
    | inl r ↦ ap (count_of ts counts) (sym r.2)
        ∙ count-at ts counts r.0 _ (once-at ts table) r.1 (c.counted same same-is r.0 r.1)
        ∙ ap (min 2)
        (sym (uses-marked ts table (flat_map root_steps es) ds roots_in ds_in marks m (origin_at ts r.0)))
        ∙ ap (λ z. min 2 (u.use_count same R D z)) r.2
    | inr n ↦ count-none ts counts o n
        ∙ ap (min 2) (sym (uses-outside ts table (flat_map root_steps es) ds roots_in ds_in marks m o n))
  ]

  two : (o : Origin ℕ) → nat_le 2 (count_of ts counts o) ≡ u.is_shared same R D o
  two o = ap (nat_le 2) (capped o) ∙ told 2 (u.use_count same R D o) (omega arith)

  one : (o : Origin ℕ) → nat_le 1 (count_of ts counts o) ≡ u.has_use same R D o
  one o = ap (nat_le 1) (capped o) ∙ told 1 (u.use_count same R D o) (omega arith)

  needed-is : map (origin_at ts) (marked_of marks ds) ≡ needed_definitions same R D
  needed-is = taken-needed ts table (flat_map root_steps es) ds roots_in ds_in marks m

  by-counts : counted_bytes (given ns ts counts) (marked_of marks ds) es
      ≡ number_lines ns (u.article same D (map (roots_at ts) es)).lines
  by-counts =
      (λ i. number_lines ns (w.written same (λ o. two o i) (λ o. one o i) (needed-is i) (map (roots_at ts) es)).lines)
      ∙ ap (λ roots. number_lines ns (w.written same (u.is_shared same roots D) (u.has_use same roots D)
      (needed_definitions same roots D) (map (roots_at ts) es)).lines) (roots-are ts es)

  pub counted-article : counted_bytes (given ns ts counts) (marked_of marks ds) es ≡ article_bytes ns ts ds es
  counted-article = by-counts ∙ number-names ns (u.article same D (map (roots_at ts) es)).lines
      ∙ ap bytes_of
      (sym (renamed-article-law (name_of ns) (name_of-injective ns) (same_origin names.same) same tells-names
      same-is D (map (roots_at ts) es)))

-- ---- numbers inside

pub all-in : (n : ℕ) (is : List ℕ) → All (λ i. i < n) is → IsIn n is
all-in n [] h i m = elim m [ ]
all-in n (x ∷ is) h i (inl e) = subst (λ z. z < n) e (h 0 x (omega arith))
all-in n (x ∷ is) h i (inr m) = all-in n is (λ k d l. h (suc k) d (omega arith)) i m

pub in-all : (n : ℕ) (is : List ℕ) → IsIn n is → All (λ i. i < n) is
in-all n [] h k d l = absurd (omega arith)
in-all n (x ∷ is) h zero d l = h x (inl refl)
in-all n (x ∷ is) h (suc k) d l = in-all n is (λ i m. h i (inr m)) k d (omega arith)

pub roots-in : (n : ℕ) (es : List code.Roots) → All (AreRootsInside n) es → IsIn n (flat_map root_steps es)
roots-in n [] h i m = elim m [ ]
roots-in n (e ∷ es) h i (inl p) = subst (λ z. z < n) p (h 0 e (omega arith)).0
roots-in n (e ∷ es) h i (inr (inl p)) = subst (λ z. z < n) p (h 0 e (omega arith)).1
roots-in n (e ∷ es) h i (inr (inr (inl p))) = subst (λ z. z < n) p (h 0 e (omega arith)).2
roots-in n (e ∷ es) h i (inr (inr (inr m))) = roots-in n es (λ k d l. h (suc k) d (omega arith)) i m
