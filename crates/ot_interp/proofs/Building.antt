-- Pairs of distinct names, put into a map one by one.
use Rattle.std.specs.Prelude.{not}
use Rattle.std.specs.List.{filter, IsDistinct, AllByRecursion}
use Rattle.std.specs.Map.{lookup, keys_of}
use Rattle.std.proofs.Common.{◌≡◌, ℕ, Bool, true, false, cond, nat_eq, List, [], ◌∷◌}
use Rattle.std.proofs.Common.{◌++◌, map, Some, None, is_some, refl, sym, ap, subst, ◌∙◌}
use Rattle.std.proofs.lemmas.Bool.Decides.{Decides-eqb, Decides-like, same_from_decides}
use Rattle.std.proofs.lemmas.List.{map-append, append_assoc}
use Rattle.std.proofs.lemmas.Map.Keys.{IsDistinct-head, IsDistinct-tail}
use Rattle.ot_logic.specs.Naming.{numbers}
use Rattle.ot_interp.specs.Interpretation.{is_held}

-- the test of numbers, turned round
flipped : (i j : ℕ) → nat_eq i j ≡ nat_eq j i
flipped i j = same_from_decides (nat_eq i j) (nat_eq j i) (Decides-eqb i j)
    (Decides-like (nat_eq j i) sym sym (Decides-eqb j i))

-- ---- all pairs, each with another second name
at_middle : (P : ℕ → Type 0) (xs : List ℕ) (y : ℕ) (ys : List ℕ) → AllByRecursion P (xs ++ y ∷ ys) → P y
at_middle P [] y ys h = h.0
at_middle P (x ∷ xs) y ys h = at_middle P xs y ys h.1

not_before : (done : List (ℕ × ℕ)) (k : ℕ) (rest : List ℕ) → IsDistinct nat_eq (keys_of done ++ k ∷ rest)
    → is_held numbers done k ≡ false
not_before [] k rest d = refl
not_before (e ∷ es) k rest d =
    let apart : nat_eq k e.0 ≡ false = flipped k e.0 ∙ at_middle (λ y. nat_eq e.0 y ≡ false) (keys_of es) k rest
    (IsDistinct-head nat_eq e.0 (keys_of es ++ k ∷ rest) d) in
    ap (λ b. is_some (cond b (Some e.1) (lookup (nat_eq k) es))) apart
    ∙ not_before es k rest (IsDistinct-tail nat_eq e.0 (keys_of es ++ k ∷ rest) d)

keys_of_map : (f : ℕ × ℕ → ℕ) (es : List (ℕ × ℕ)) → keys_of (map (λ p. (p.0, f p)) es) ≡ keys_of es
keys_of_map f [] = refl
keys_of_map f (e ∷ es) = ap (λ ks. e.0 ∷ ks) (keys_of_map f es)

-- the first name of what is left isn't there yet
pub next_is_new : (f : ℕ × ℕ → ℕ) (done all left rest : List (ℕ × ℕ)) (p : ℕ × ℕ) → left ≡ p ∷ rest
    → done ++ map (λ q. (q.0, f q)) left ≡ map (λ q. (q.0, f q)) all → IsDistinct nat_eq (keys_of all)
    → is_held numbers done p.0 ≡ false
next_is_new f done all left rest p step same distinct =
    let whole : done ++ map (λ q. (q.0, f q)) (p ∷ rest) ≡ map (λ q. (q.0, f q)) all =
    ap (λ ps. done ++ map (λ q. (q.0, f q)) ps) (sym step) ∙ same in
    let keys : keys_of done ++ p.0 ∷ keys_of (map (λ q. (q.0, f q)) rest) ≡ keys_of all =
    sym (map-append (λ (e : ℕ × ℕ). e.0) done (map (λ q. (q.0, f q)) (p ∷ rest))) ∙ ap keys_of whole
    ∙ keys_of_map f all in
    not_before done p.0 (keys_of (map (λ q. (q.0, f q)) rest)) (subst (IsDistinct nat_eq) (sym keys) distinct)

-- ---- the pairs whose first names aren't there yet
-- of these pairs, those that the map doesn't hold
abbrev pub missing : List (ℕ × ℕ) → List (ℕ × ℕ) → List (ℕ × ℕ)
missing held pairs = filter (λ p. not (is_held numbers held p.0)) pairs

same_filter : (f g : ℕ → Bool) (k : ℕ) → ((n : ℕ) → nat_eq n k ≡ false → f n ≡ g n) → (es : List (ℕ × ℕ))
    → AllByRecursion (λ y. nat_eq k y ≡ false) (keys_of es) → filter (λ p. f p.0) es ≡ filter (λ p. g p.0) es
same_filter f g k same [] h = refl
same_filter f g k same (e ∷ es) h =
    let head = same e.0 (flipped e.0 k ∙ h.0) in
    let tail = same_filter f g k same es h.1 in
    λ j. cond (head j) (e ∷ tail j) (tail j)

held_pushed : (es : List (ℕ × ℕ)) (k v n : ℕ) → nat_eq n k ≡ false → is_held numbers (es ++ (k, v) ∷ []) n
    ≡ is_held numbers es n
held_pushed [] k v n apart = ap (λ b. is_some (cond b (Some v) None)) apart
held_pushed (e ∷ es) k v n apart = by (nat_eq n e.0) (held_pushed es k v n apart)
  where
    by : (b : Bool) → is_held numbers (es ++ (k, v) ∷ []) n ≡ is_held numbers es n
        → is_some (cond b (Some e.1) (lookup (nat_eq n) (es ++ (k, v) ∷ [])))
        ≡ is_some (cond b (Some e.1) (lookup (nat_eq n) es))
    by true ih = refl
    by false ih = ih

-- the first pair of what is left
module _ (done target left rest : List (ℕ × ℕ)) (p : ℕ × ℕ) (step : left ≡ p ∷ rest)
    (same : done ++ missing done left ≡ target) (distinct : IsDistinct nat_eq (keys_of left)) where
  whole : done ++ missing done (p ∷ rest) ≡ target
  whole = ap (λ ps. done ++ missing done ps) (sym step) ∙ same

  apart : IsDistinct nat_eq (p.0 ∷ keys_of rest)
  apart = subst (λ ps. IsDistinct nat_eq (keys_of ps)) step distinct

  pub still_distinct : IsDistinct nat_eq (keys_of rest)
  still_distinct = IsDistinct-tail nat_eq p.0 (keys_of rest) apart

  -- it is there, and is passed over
  pub passed : is_held numbers done p.0 ≡ true → done ++ missing done rest ≡ target
  passed held = ap (λ b. done ++ cond (not b) (p ∷ missing done rest) (missing done rest)) (sym held) ∙ whole

  -- it is missing, and is put in
  pub put_in : is_held numbers done p.0 ≡ false → (new : List (ℕ × ℕ)) → new ≡ done ++ p ∷ []
      → new ++ missing new rest ≡ target
  put_in free new pushed =
      let held : (n : ℕ) → nat_eq n p.0 ≡ false → not (is_held numbers (done ++ p ∷ []) n) ≡ not (is_held numbers done n) = λ n other. ap not (held_pushed done p.0 p.1 n other) in
      let less : missing (done ++ p ∷ []) rest ≡ missing done rest =
      same_filter (λ n. not (is_held numbers (done ++ p ∷ []) n)) (λ n. not (is_held numbers done n)) p.0 held
      rest (IsDistinct-head nat_eq p.0 (keys_of rest) apart) in
      ap (λ ps. ps ++ missing ps rest) pushed
      ∙ append_assoc done (p ∷ []) (missing (done ++ p ∷ []) rest)
      ∙ ap (λ ps. done ++ p ∷ ps) less
      ∙ ap (λ b. done ++ cond (not b) (p ∷ missing done rest) (missing done rest)) (sym free)
      ∙ whole

-- what inner holds, its images hold
held_images : (f : ℕ × ℕ → ℕ) (inner : List (ℕ × ℕ)) (n : ℕ) → is_held numbers (map (λ p. (p.0, f p)) inner) n
    ≡ is_held numbers inner n
held_images f [] n = refl
held_images f (p ∷ ps) n = by (nat_eq n p.0) (held_images f ps n)
  where
    by : (b : Bool) → is_held numbers (map (λ q. (q.0, f q)) ps) n ≡ is_held numbers ps n
        → is_some (cond b (Some (f p)) (lookup (nat_eq n) (map (λ q. (q.0, f q)) ps)))
        ≡ is_some (cond b (Some p.1) (lookup (nat_eq n) ps))
    by true ih = refl
    by false ih = ih

missing_images : (f : ℕ × ℕ → ℕ) (inner outer : List (ℕ × ℕ)) → missing (map (λ p. (p.0, f p)) inner) outer
    ≡ missing inner outer
missing_images f inner [] = refl
missing_images f inner (p ∷ ps) =
    let head = ap not (held_images f inner p.0) in
    let tail = missing_images f inner ps in
    λ j. cond (head j) (p ∷ tail j) (tail j)

-- before the first pair
pub at_start : (f : ℕ × ℕ → ℕ) (inner outer done left : List (ℕ × ℕ)) → done ≡ map (λ p. (p.0, f p)) inner
    → left ≡ outer → done ++ missing done left ≡ map (λ p. (p.0, f p)) inner ++ missing inner outer
at_start f inner outer done left made all = (λ j. made j ++ missing (made j) (all j))
    ∙ ap (λ ps. map (λ p. (p.0, f p)) inner ++ ps) (missing_images f inner outer)
