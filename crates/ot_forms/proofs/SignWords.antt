-- The operator words of hidden constants.
use Rattle.std.specs.Prelude.{◌≡◌, ℕ, ◌==◌, not, Bool, true, false, cond, List, [], ◌∷◌, ◌++◌, Option, Some, None}
use Rattle.std.specs.List.{list_all}
use Rattle.std.proofs.Common.{refl, sym, ◌∙◌, ap, subst, inl, inr, eq-eqb}
use Rattle.std.proofs.lemmas.Bool.{eqb-true, and_parts}
use Rattle.ot_logic.specs.Names.{Name}
use Rattle.ot_logic.specs.Lists.{IsMember}
use Rattle.ot_forms.specs.Words.{is_sign}
use Rattle.ot_forms.specs.Reading.{NoForm, Reading, Got, Halted, mapped, Candidate}
use Rattle.ot_forms.specs.Reading.{narrowed, ended, ended_at, sign_word_at}
use Rattle.ot_forms.proofs.Readers.{Follows, behind, at_byte, at_end, halts_here, ends_here, unchanged, first}

abbrev pub SaysCandidate : List Candidate → Name → List ℕ → Type 0
SaysCandidate cs n x = IsMember (x, n) cs

-- one word, one constant; and words are of signs
abbrev pub AreApart : List Candidate → Type 0
AreApart cs = (x : List ℕ) (n m : Name) → IsMember (x, n) cs → IsMember (x, m) cs → n ≡ m

abbrev pub AreSigns : List Candidate → Type 0
AreSigns cs = (x : List ℕ) (n : Name) → IsMember (x, n) cs → list_all is_sign x ≡ true

-- the byte isn't a sign
abbrev pub ends_signs : List ℕ → Bool
ends_signs [] = true
ends_signs (b ∷ s) = not (is_sign b)

abbrev pub IsSignEnd : List ℕ → Type 0
IsSignEnd r = ends_signs r ≡ true

narrowed-back : (b : ℕ) (cs : List Candidate) (x : List ℕ) (n : Name) → IsMember (x, n) (narrowed b cs)
    → IsMember (b ∷ x, n) cs
narrowed-back b [] x n h = h
narrowed-back b (([], m) ∷ cs) x n h = inr (narrowed-back b cs x n h)
narrowed-back b ((c ∷ y, m) ∷ cs) x n h = go (λ h. narrowed-back b cs x n h) (b == c) refl h where
  go : (IsMember (x, n) (narrowed b cs) → IsMember (b ∷ x, n) cs) → (t : Bool) → (b == c) ≡ t
      → IsMember (x, n) (cond t ((y, m) ∷ narrowed b cs) (narrowed b cs)) → IsMember (b ∷ x, n) ((c ∷ y, m) ∷ cs)
  go ih true e h =
      elim h [
        | inl p ↦ inl (let q = eqb-true b c e in let u : y ≡ x = ap (λ z. z.0) p in
            let v : m ≡ n = ap (λ z. z.1) p in λ i. (sym q i ∷ u i, v i))
        | inr k ↦ inr (ih k)
      ]
  go ih false e h = inr (ih h)

narrowed-to : (b : ℕ) (cs : List Candidate) (x : List ℕ) (n : Name) → IsMember (b ∷ x, n) cs
    → IsMember (x, n) (narrowed b cs)
narrowed-to b [] x n h = h
narrowed-to b (([], m) ∷ cs) x n h =
    elim h [ inl p ↦ absurd (let q : [] ≡ b ∷ x = ap (λ z. z.0) p in no_nil q) | inr k ↦ narrowed-to b cs x n k ]
  where
    no_nil : {b : ℕ} {x : List ℕ} → [] ≡ b ∷ x → ⊥
    no_nil q = cc
narrowed-to b ((c ∷ y, m) ∷ cs) x n h = go (λ k. narrowed-to b cs x n k) (b == c) refl h where
  go : (IsMember (b ∷ x, n) cs → IsMember (x, n) (narrowed b cs)) → (t : Bool) → (b == c) ≡ t
      → IsMember (b ∷ x, n) ((c ∷ y, m) ∷ cs) → IsMember (x, n) (cond t ((y, m) ∷ narrowed b cs) (narrowed b cs))
  go ih true e h =
      elim h [
        | inl p ↦ inl (let u : c ∷ y ≡ b ∷ x = ap (λ z. z.0) p in let v : m ≡ n = ap (λ z. z.1) p in
            let w : y ≡ x = cc in λ i. (w i, v i))
        | inr k ↦ inr (ih k)
      ]
  go ih false e h =
      elim h [
        | inl p ↦ absurd (let u : c ∷ y ≡ b ∷ x = ap (λ z. z.0) p in let w : b ≡ c = cc in
            let z = eq-eqb b c w in clash (b == c) z e)
        | inr k ↦ ih k
      ]
    where
      clash : (t : Bool) → t ≡ true → t ≡ false → ⊥
      clash t p q = cc

ended-member : (cs : List Candidate) (n : Name) → ended cs ≡ Some n → IsMember ([], n) cs
ended-member [] n e = cc
ended-member (([], m) ∷ cs) n e = inl (let q : m ≡ n = cc in λ i. ([], q i))
ended-member ((c ∷ x, m) ∷ cs) n e = inr (ended-member cs n e)

ended-some : (cs : List Candidate) (n : Name) → IsMember ([], n) cs → (m : Name) × (ended cs ≡ Some m)
ended-some [] n h = absurd h
ended-some (([], m) ∷ cs) n h = (m, refl)
ended-some ((c ∷ x, m) ∷ cs) n h =
    elim h [ inl p ↦ absurd (let q : c ∷ x ≡ [] = ap (λ z. z.0) p in no_nil q) | inr k ↦ ended-some cs n k ]
  where
    no_nil : {b : ℕ} {x : List ℕ} → b ∷ x ≡ [] → ⊥
    no_nil q = cc

-- what ends here
ended-is : (cs : List Candidate) (n : Name) → AreApart cs → IsMember ([], n) cs → ended cs ≡ Some n
ended-is cs n ha h = let w = ended-some cs n h in w.1 ∙ ap Some (ha [] w.0 n (ended-member cs w.0 w.1) h)

narrowed-apart : (b : ℕ) (cs : List Candidate) → AreApart cs → AreApart (narrowed b cs)
narrowed-apart b cs h x n m p q = h (b ∷ x) n m (narrowed-back b cs x n p) (narrowed-back b cs x m q)

narrowed-signs : (b : ℕ) (cs : List Candidate) → AreSigns cs → AreSigns (narrowed b cs)
narrowed-signs b cs h x n p = (and_parts (is_sign b) (list_all is_sign x) (h (b ∷ x) n (narrowed-back b cs x n p))).1

-- no word goes on with a byte that isn't a sign
narrowed-none : (b : ℕ) (cs : List Candidate) → AreSigns cs → not (is_sign b) ≡ true → narrowed b cs ≡ []
narrowed-none b cs hs e = go (narrowed b cs) refl where
  go : (ds : List Candidate) → narrowed b cs ≡ ds → ds ≡ []
  go [] q = refl
  go ((x, n) ∷ ds) q =
      let w : IsMember (x, n) (narrowed b cs) = subst (IsMember (x, n)) (sym q) (inl refl) in
      let k = (and_parts (is_sign b) (list_all is_sign x) (hs (b ∷ x) n (narrowed-back b cs x n w))).0 in
      absurd (clash (is_sign b) k e)
    where
      clash : (t : Bool) → t ≡ true → not t ≡ true → ⊥
      clash true p q = cc
      clash false p q = cc

pub sign-complete : (x : List ℕ) (cs : List Candidate) (n : Name) (r : List ℕ) → AreApart cs → AreSigns cs
    → IsMember (x, n) cs → IsSignEnd r → sign_word_at cs (x ++ r) ≡ Got n r
sign-complete [] cs n [] ha hs h e = ap (λ o. ended_at o []) (ended-is cs n ha h)
sign-complete [] cs n (b ∷ r) ha hs h e =
    ap (λ ds. elim ds as (λ _. Reading Name) [ [] ↦ ended_at (ended cs) (b ∷ r) | d ∷ ds ↦ sign_word_at (d ∷ ds) r ])
    (narrowed-none b cs hs e) ∙ ap (λ o. ended_at o (b ∷ r)) (ended-is cs n ha h)
sign-complete (b ∷ x) cs n r ha hs h e =
    go (sign-complete x (narrowed b cs) n r (narrowed-apart b cs ha) (narrowed-signs b cs hs) (narrowed-to b cs x n h)
    e) (narrowed b cs) refl where
      go : sign_word_at (narrowed b cs) (x ++ r) ≡ Got n r → (ds : List Candidate) → narrowed b cs ≡ ds
          → elim ds as (λ _. Reading Name)
          [ [] ↦ ended_at (ended cs) (b ∷ (x ++ r)) | d ∷ ds ↦ sign_word_at (d ∷ ds) (x ++ r) ] ≡ Got n r
      go ih [] q = absurd (subst (IsMember (x, n)) q (narrowed-to b cs x n h))
      go ih (d ∷ ds) q = ap (λ z. sign_word_at z (x ++ r)) (sym q) ∙ ih

ended-follows : (d : Candidate) (ds : List Candidate) (s : List ℕ)
    → ((m : List ℕ) → first m ≡ first s → sign_word_at (d ∷ ds) m ≡ ended_at (ended (d ∷ ds)) m) → (o : Option Name)
    → ended (d ∷ ds) ≡ o → Follows (SaysCandidate (d ∷ ds)) (sign_word_at (d ∷ ds)) s (ended_at o s)
ended-follows d ds s stays (Some n) e = ends_here (SaysCandidate (d ∷ ds)) (sign_word_at (d ∷ ds)) s n
    (ended-member (d ∷ ds) n e) (λ m w. stays m w ∙ ap (λ o. ended_at o m) e)
ended-follows d ds s stays None e = halts_here (SaysCandidate (d ∷ ds)) (sign_word_at (d ∷ ds)) s NoForm d.1 d.0
    (inl refl) (λ m w. stays m w ∙ ap (λ o. ended_at o m) e)

pub sign-follows : (s : List ℕ) (d : Candidate) (ds : List Candidate)
    → Follows (SaysCandidate (d ∷ ds)) (sign_word_at (d ∷ ds)) s (sign_word_at (d ∷ ds) s)
sign-follows [] d ds =
    ended-follows d ds [] (at_end (λ m. sign_word_at (d ∷ ds) m ≡ ended_at (ended (d ∷ ds)) m) refl) (ended (d ∷ ds))
    refl
sign-follows (b ∷ s) d ds = go (λ e es. sign-follows s e es) (narrowed b (d ∷ ds)) refl where
  no_change : (o : Reading Name) → Follows (SaysCandidate (d ∷ ds)) (sign_word_at (d ∷ ds)) (b ∷ s)
      (mapped (λ u. u) o) → Follows (SaysCandidate (d ∷ ds)) (sign_word_at (d ∷ ds)) (b ∷ s) o
  no_change (Got a r) h = h
  no_change (Halted k r) h = h

  go : ((e : Candidate) (es : List Candidate) → Follows (SaysCandidate (e ∷ es)) (sign_word_at (e ∷ es)) s
      (sign_word_at (e ∷ es) s)) → (es : List Candidate) → narrowed b (d ∷ ds) ≡ es
      → Follows (SaysCandidate (d ∷ ds)) (sign_word_at (d ∷ ds)) (b ∷ s)
      (elim es [ [] ↦ ended_at (ended (d ∷ ds)) (b ∷ s) | e ∷ es ↦ sign_word_at (e ∷ es) s ])
  go ih [] q =
      ended-follows d ds (b ∷ s)
      (at_byte b s (λ m. sign_word_at (d ∷ ds) m ≡ ended_at (ended (d ∷ ds)) m)
      (λ t. ap (λ es. elim es as (λ _. Reading Name)
      [ [] ↦ ended_at (ended (d ∷ ds)) (b ∷ t) | e ∷ es ↦ sign_word_at (e ∷ es) t ]) q)) (ended (d ∷ ds)) refl
  go ih (e ∷ es) q =
      no_change (sign_word_at (e ∷ es) s)
      (behind (SaysCandidate (e ∷ es)) (SaysCandidate (d ∷ ds)) (sign_word_at (e ∷ es)) (sign_word_at (d ∷ ds))
      (λ u. u) b
      (λ t. ap (λ es. elim es as (λ _. Reading Name) [
        | [] ↦ ended_at (ended (d ∷ ds)) (b ∷ t)
        | e ∷ es ↦
            sign_word_at (e ∷ es) t
      ]) q ∙ sym (unchanged (sign_word_at (e ∷ es) t)))
      (λ n x h. narrowed-back b (d ∷ ds) x n (subst (IsMember (x, n)) (sym q) h)) s (sign_word_at (e ∷ es) s)
      (ih e es))
