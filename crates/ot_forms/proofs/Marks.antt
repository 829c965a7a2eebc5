-- Parts and operator words.
use Rattle.std.specs.Prelude.{◌≡◌, ℕ, not, Bool, true, false, cond, List, [], ◌∷◌, ◌++◌}
use Rattle.std.specs.List.{list_all}
use Rattle.std.proofs.Common.{refl, sym, ◌∙◌, ap, subst}
use Rattle.std.proofs.lemmas.Bool.{and_parts, and_from, not-true}
use Rattle.ot_forms.specs.Words.{is_letter, is_inner, is_sign}
use Rattle.ot_forms.specs.Reading.{NoForm, Reading, Got, Halted, mapped, part_at, part_on, signs_at, signs_on}
use Rattle.ot_forms.proofs.Readers.{Follows, Reads, behind, at_byte, at_end, halts_here, ends_here}

-- the longest front of bytes of one kind, where its first byte is of some kind
module _ (starts inner : ℕ → Bool) (on at : List ℕ → Reading (List ℕ)) (on-nil : on [] ≡ Got [] [])
    (on-cons : (b : ℕ) (s : List ℕ) → on (b ∷ s) ≡ cond (inner b) (mapped (λ x. b ∷ x) (on s)) (Got [] (b ∷ s)))
    (at-nil : at [] ≡ Halted NoForm []) (at-cons : (b : ℕ) (s : List ℕ) → at (b ∷ s) ≡ cond (starts b)
    (mapped (λ x. b ∷ x) (on s)) (Halted NoForm (b ∷ s))) (some : ℕ) (some-starts : starts some ≡ true) where
  pub record SaysRest (x y : List ℕ) : Type 0 where
    pub inner_is : list_all inner x ≡ true
    pub text : y ≡ x

  pub record SaysRun (x y : List ℕ) : Type 0 where
    pub first_byte : ℕ
    pub rest : List ℕ
    pub is : x ≡ first_byte ∷ rest
    pub begins : starts first_byte ≡ true
    pub inner_is : list_all inner rest ≡ true
    pub text : y ≡ x

  abbrev pub ends_run : List ℕ → Bool
  ends_run [] = true
  ends_run (b ∷ s) = not (inner b)

  abbrev pub IsRunEnd : List ℕ → Type 0
  IsRunEnd r = ends_run r ≡ true

  on-complete : (x r : List ℕ) → list_all inner x ≡ true → IsRunEnd r → on (x ++ r) ≡ Got x r
  on-complete [] [] h e = on-nil
  on-complete [] (b ∷ r) h e = on-cons b r ∙ ap (λ t. cond t (mapped (λ x. b ∷ x) (on r)) (Got [] (b ∷ r)))
      (not-true (inner b) e)
  on-complete (b ∷ x) r h e = let w = and_parts (inner b) (list_all inner x) h in
      on-cons b (x ++ r) ∙ ap (λ t. cond t (mapped (λ x. b ∷ x) (on (x ++ r))) (Got [] (b ∷ (x ++ r)))) w.0
      ∙ ap (mapped (λ x. b ∷ x)) (on-complete x r w.1 e)

  on-byte : (b : ℕ) (s : List ℕ) → Follows SaysRest on s (on s) → (t : Bool) → inner b ≡ t
      → Follows SaysRest on (b ∷ s) (cond t (mapped (λ x. b ∷ x) (on s)) (Got [] (b ∷ s)))
  on-byte b s h true e = behind SaysRest SaysRest on on (λ x. b ∷ x) b
      (λ z. on-cons b z ∙ ap (λ t. cond t (mapped (λ x. b ∷ x) (on z)) (Got [] (b ∷ z))) e)
      (λ x y w. record {
        inner_is = and_from (inner b) (list_all inner x) e w.inner_is;
        text = ap (λ z. b ∷ z) w.text;
      }) s (on s) h
  on-byte b s h false e = ends_here SaysRest on (b ∷ s) [] (record { inner_is = refl; text = refl })
      (at_byte b s (λ m. on m ≡ Got [] m)
      (λ z. on-cons b z ∙ ap (λ t. cond t (mapped (λ x. b ∷ x) (on z)) (Got [] (b ∷ z))) e))

  on-follows : (s : List ℕ) → Follows SaysRest on s (on s)
  on-follows [] = subst (Follows SaysRest on []) (sym on-nil)
      (ends_here SaysRest on [] [] (record { inner_is = refl; text = refl }) (at_end (λ m. on m ≡ Got [] m) on-nil))
  on-follows (b ∷ s) =
      subst (Follows SaysRest on (b ∷ s)) (sym (on-cons b s)) (on-byte b s (on-follows s) (inner b) refl)

  some-run : SaysRun (some ∷ []) (some ∷ [])
  some-run = record { first_byte = some; rest = []; is = refl; begins = some-starts; inner_is = refl; text = refl }

  at-byte : (b : ℕ) (s : List ℕ) → (t : Bool) → starts b ≡ t
      → Follows SaysRun at (b ∷ s) (cond t (mapped (λ x. b ∷ x) (on s)) (Halted NoForm (b ∷ s)))
  at-byte b s true e = behind SaysRest SaysRun on at (λ x. b ∷ x) b
      (λ z. at-cons b z ∙ ap (λ t. cond t (mapped (λ x. b ∷ x) (on z)) (Halted NoForm (b ∷ z))) e)
      (λ x y w. record {
        first_byte = b;
        rest = x;
        is = refl;
        begins = e;
        inner_is = w.inner_is;
        text = ap (λ z. b ∷ z) w.text;
      }) s (on s) (on-follows s)
  at-byte b s false e = halts_here SaysRun at (b ∷ s) NoForm (some ∷ []) (some ∷ []) some-run
      (at_byte b s (λ m. at m ≡ Halted NoForm m)
      (λ z. at-cons b z ∙ ap (λ t. cond t (mapped (λ x. b ∷ x) (on z)) (Halted NoForm (b ∷ z))) e))

  at-follows : (s : List ℕ) → Follows SaysRun at s (at s)
  at-follows [] = subst (Follows SaysRun at []) (sym at-nil)
      (halts_here SaysRun at [] NoForm (some ∷ []) (some ∷ []) some-run (at_end (λ m. at m ≡ Halted NoForm m) at-nil))
  at-follows (b ∷ s) = subst (Follows SaysRun at (b ∷ s)) (sym (at-cons b s)) (at-byte b s (starts b) refl)

  pub run-reads : Reads SaysRun IsRunEnd at
  run-reads = record {
    complete = λ x y r w e. ap (λ z. at (z ++ r)) (w.text ∙ w.is) ∙ at-cons w.first_byte (w.rest ++ r)
        ∙ ap (λ t. cond t (mapped (λ x. w.first_byte ∷ x) (on (w.rest ++ r)))
        (Halted NoForm (w.first_byte ∷ (w.rest ++ r)))) w.begins
        ∙ ap (mapped (λ x. w.first_byte ∷ x)) (on-complete w.rest r w.inner_is e) ∙ ap (λ z. Got z r) (sym w.is);
    follows = at-follows;
  }

-- ---- parts, and operator words with `=`
abbrev pub SaysPart : List ℕ → List ℕ → Type 0
SaysPart = SaysRun is_letter is_inner part_on part_at refl (λ b s. refl) refl (λ b s. refl) 97 refl

abbrev pub IsPartEnd : List ℕ → Type 0
IsPartEnd = IsRunEnd is_letter is_inner part_on part_at refl (λ b s. refl) refl (λ b s. refl) 97 refl

pub part-reads : Reads SaysPart IsPartEnd part_at
part-reads = run-reads is_letter is_inner part_on part_at refl (λ b s. refl) refl (λ b s. refl) 97 refl

abbrev pub SaysSigns : List ℕ → List ℕ → Type 0
SaysSigns = SaysRun is_sign is_sign signs_on signs_at refl (λ b s. refl) refl (λ b s. refl) 61 refl

abbrev pub IsSignsEnd : List ℕ → Type 0
IsSignsEnd = IsRunEnd is_sign is_sign signs_on signs_at refl (λ b s. refl) refl (λ b s. refl) 61 refl

pub signs-reads : Reads SaysSigns IsSignsEnd signs_at
signs-reads = run-reads is_sign is_sign signs_on signs_at refl (λ b s. refl) refl (λ b s. refl) 61 refl
