-- Bare words: their reader reads parts with a dot between two.
use Rattle.std.specs.Prelude.{◌≡◌, ℕ, ◌==◌, ◌||◌, ◌&&◌, not, Bool, true, false, cond, List, [], ◌∷◌, ◌++◌, codes}
use Rattle.std.specs.List.{list_all}
use Rattle.std.proofs.Common.{refl, sym, ◌∙◌, ap, subst, append_assoc, lit<, arith}
use Rattle.std.proofs.lemmas.Bool.{eqb-true, and_parts, and_from}
use Rattle.ot_logic.specs.Names.{Name, IsName}
use Rattle.ot_forms.specs.Words.{is_letter, is_inner, is_part, is_bare, dotted}
use Rattle.ot_forms.specs.Reading.{NoForm, Got, Halted, mapped, before, bare_at, bare_on}
use Rattle.ot_forms.proofs.Readers.{Follows, Reads, behind, at_byte, at_end, halts_here, ends_here}
use Rattle.ot_forms.proofs.Types.{IsEnd}

pub record SaysBare (n : Name) (x : List ℕ) : Type 0 where
  pub bare : is_bare n ≡ true
  pub named : IsName n
  pub text : x ≡ dotted n

-- the same behind a byte of the first part
pub record SaysOn (n : Name) (x : List ℕ) : Type 0 where
  pub part : List ℕ
  pub parts : Name
  pub is : n ≡ part ∷ parts
  pub inner : list_all is_inner part ≡ true
  pub bare : is_bare parts ≡ true
  pub text : x ≡ dotted (part ∷ parts)

pub neither : (p q : Bool) → not (p || q) ≡ true → (p ≡ false) × (q ≡ false)
neither true q h = cc
neither false true h = cc
neither false false h = (refl, refl)

-- ---- each bare word is read
on-end : (r : List ℕ) → IsEnd r → bare_on r ≡ Got ([] ∷ []) r
on-end [] e = refl
on-end (b ∷ r) e = let w = neither (is_inner b) (b == 46) e in
    λ i. cond (w.0 i) (mapped (before b) (bare_on r))
    (cond (w.1 i) (mapped (λ n. [] ∷ n) (bare_at r)) (Got ([] ∷ []) (b ∷ r)))

-- the rest of a part before what follows it
on-part : (c k : List ℕ) (n : Name) (r : List ℕ) → list_all is_inner c ≡ true → bare_on k ≡ Got ([] ∷ n) r
    → bare_on (c ++ k) ≡ Got (c ∷ n) r
on-part [] k n r h e = e
on-part (b ∷ c) k n r h e = let w = and_parts (is_inner b) (list_all is_inner c) h in
    (λ i. cond (w.0 i) (mapped (before b) (bare_on (c ++ k)))
    (cond (b == 46) (mapped (λ n. [] ∷ n) (bare_at (c ++ k))) (Got ([] ∷ []) (b ∷ (c ++ k)))))
    ∙ ap (mapped (before b)) (on-part c k n r w.1 e)

at-part : (c k : List ℕ) (n : Name) (r : List ℕ) → is_part c ≡ true → bare_on k ≡ Got ([] ∷ n) r
    → bare_at (c ++ k) ≡ Got (c ∷ n) r
at-part [] k n r h e = cc
at-part (b ∷ c) k n r h e = let w = and_parts (is_letter b) (list_all is_inner c) h in
    (λ i. cond (w.0 i) (mapped (before b) (bare_on (c ++ k))) (Halted NoForm (b ∷ (c ++ k))))
    ∙ ap (mapped (before b)) (on-part c k n r w.1 e)

at-complete : (c : List ℕ) (cs : Name) (r : List ℕ) → is_bare (c ∷ cs) ≡ true → IsEnd r
    → bare_at (dotted (c ∷ cs) ++ r) ≡ Got (c ∷ cs) r
at-complete c [] r h e = at-part c r [] r (and_parts (is_part c) true h).0 (on-end r e)
at-complete c (d ∷ ds) r h e = let w = and_parts (is_part c) (is_bare (d ∷ ds)) h in
    ap bare_at (append_assoc c (46 ∷ dotted (d ∷ ds)) r) ∙ at-part c (46 ∷ (dotted (d ∷ ds) ++ r)) (d ∷ ds) r w.0
    (ap (mapped (λ n. [] ∷ n)) (at-complete d ds r w.1 e))

bare-complete : (n : Name) (x r : List ℕ) → SaysBare n x → IsEnd r → bare_at (x ++ r) ≡ Got n r
bare-complete [] x r h e = absurd (let k = h.named in omega (arith, k))
bare-complete (c ∷ cs) x r h e = ap (λ z. bare_at (z ++ r)) h.text ∙ at-complete c cs r h.bare e

-- ---- nothing else is read
abbrev one_letter : Name
one_letter = codes "a" ∷ []

pub at_front : (b : ℕ) (c : List ℕ) (cs : Name) → b ∷ dotted (c ∷ cs) ≡ dotted ((b ∷ c) ∷ cs)
at_front b c [] = refl
at_front b c (d ∷ ds) = refl

with-letter : (b : ℕ) → is_letter b ≡ true → (n : Name) (x : List ℕ) → SaysOn n x → SaysBare (before b n) (b ∷ x)
with-letter b e n x h = subst (λ m. SaysBare (before b m) (b ∷ x)) (sym h.is) (record {
  bare = and_from (is_letter b && list_all is_inner h.part) (is_bare h.parts)
      (and_from (is_letter b) (list_all is_inner h.part) e h.inner) h.bare;
  named = omega arith;
  text = ap (λ z. b ∷ z) h.text ∙ at_front b h.part h.parts;
})

with-inner : (b : ℕ) → is_inner b ≡ true → (n : Name) (x : List ℕ) → SaysOn n x → SaysOn (before b n) (b ∷ x)
with-inner b e n x h = record {
  part = b ∷ h.part;
  parts = h.parts;
  is = ap (before b) h.is;
  inner = and_from (is_inner b) (list_all is_inner h.part) e h.inner;
  bare = h.bare;
  text = ap (λ z. b ∷ z) h.text ∙ at_front b h.part h.parts;
}

with-dot : (n : Name) (x : List ℕ) → SaysBare n x → SaysOn ([] ∷ n) (46 ∷ x)
with-dot [] x h = absurd (let k = h.named in omega (arith, k))
with-dot (d ∷ ds) x h =
    record { part = []; parts = d ∷ ds; is = refl; inner = refl; bare = h.bare; text = ap (λ z. 46 ∷ z) h.text }

no_part : SaysOn ([] ∷ []) []
no_part = record { part = []; parts = []; is = refl; inner = refl; bare = refl; text = refl }

bare-byte : (b : ℕ) (s : List ℕ) → Follows SaysOn bare_on s (bare_on s) → (t : Bool) → is_letter b ≡ t
    → Follows SaysBare bare_at (b ∷ s) (cond t (mapped (before b) (bare_on s)) (Halted NoForm (b ∷ s)))
bare-byte b s h true e = behind SaysOn SaysBare bare_on bare_at (before b) b
    (λ z i. cond (e i) (mapped (before b) (bare_on z)) (Halted NoForm (b ∷ z))) (with-letter b e) s (bare_on s) h
bare-byte b s h false e = halts_here SaysBare bare_at (b ∷ s) NoForm one_letter (codes "a")
    (record { bare = refl; named = lit< tt; text = refl })
    (at_byte b s (λ m. bare_at m ≡ Halted NoForm m)
    (λ z i. cond (e i) (mapped (before b) (bare_on z)) (Halted NoForm (b ∷ z))))

on-byte : (b : ℕ) (s : List ℕ) → Follows SaysOn bare_on s (bare_on s) → Follows SaysBare bare_at s (bare_at s)
    → (t u : Bool) → is_inner b ≡ t → (b == 46) ≡ u
    → Follows SaysOn bare_on (b ∷ s)
    (cond t (mapped (before b) (bare_on s)) (cond u (mapped (λ n. [] ∷ n) (bare_at s)) (Got ([] ∷ []) (b ∷ s))))
on-byte b s h k true u e d =
    behind SaysOn SaysOn bare_on bare_on (before b) b
    (λ z i. cond (e i) (mapped (before b) (bare_on z))
    (cond (b == 46) (mapped (λ n. [] ∷ n) (bare_at z)) (Got ([] ∷ []) (b ∷ z)))) (with-inner b e) s (bare_on s) h
on-byte b s h k false true e d =
    behind SaysBare SaysOn bare_at bare_on (λ n. [] ∷ n) b
    (λ z i. cond (e i) (mapped (before b) (bare_on z))
    (cond (d i) (mapped (λ n. [] ∷ n) (bare_at z)) (Got ([] ∷ []) (b ∷ z))))
    (λ n x w. subst (λ c. SaysOn ([] ∷ n) (c ∷ x)) (sym (eqb-true b 46 d)) (with-dot n x w)) s (bare_at s) k
on-byte b s h k false false e d = ends_here SaysOn bare_on (b ∷ s) ([] ∷ []) no_part
    (at_byte b s (λ m. bare_on m ≡ Got ([] ∷ []) m)
    (λ z i. cond (e i) (mapped (before b) (bare_on z))
    (cond (d i) (mapped (λ n. [] ∷ n) (bare_at z)) (Got ([] ∷ []) (b ∷ z)))))

mutual
  bare-follows : (s : List ℕ) → Follows SaysBare bare_at s (bare_at s)
  bare-follows [] = halts_here SaysBare bare_at [] NoForm one_letter (codes "a")
      (record { bare = refl; named = lit< tt; text = refl }) (at_end (λ m. bare_at m ≡ Halted NoForm m) refl)
  bare-follows (b ∷ s) = bare-byte b s (on-follows s) (is_letter b) refl

  on-follows : (s : List ℕ) → Follows SaysOn bare_on s (bare_on s)
  on-follows [] = ends_here SaysOn bare_on [] ([] ∷ []) no_part (at_end (λ m. bare_on m ≡ Got ([] ∷ []) m) refl)
  on-follows (b ∷ s) = on-byte b s (on-follows s) (bare-follows s) (is_inner b) (b == 46) refl refl

pub bare-reads : Reads SaysBare IsEnd bare_at
bare-reads = record { complete = bare-complete; follows = bare-follows }
