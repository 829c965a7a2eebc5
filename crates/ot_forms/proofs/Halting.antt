-- Where reading halts: a law of all readers whose texts are limited by room.
use Rattle.std.specs.Prelude.{◌≡◌, ◌<◌, ℕ, zero, suc, ◌+◌, List, [], ◌∷◌, ◌++◌, length}
use Rattle.std.proofs.Common.{refl, sym, ◌∙◌, ap, subst, append_assoc, append-nil, zero-add, arith}
use Rattle.ot_forms.specs.Reading.{Reason, NoForm, OneTooMany, Reading, Got, Halted}
use Rattle.ot_forms.proofs.Readers.{Follows, IsHalted, Reads, first}
use Rattle.ot_forms.proofs.Types.{IsEnd}
use Rattle.ot_forms.proofs.Growing.{left, Grows}

module _ {A : Type 0} (P : ℕ → A → List ℕ → Type 0) (read : ℕ → List ℕ → Reading A)
    (reads : (n : ℕ) → Reads (P n) IsEnd (read n)) (grows : (n : ℕ) (s : List ℕ) → Grows (read n s) (read (suc n) s))
    (weaker : (n m : ℕ) (a : A) (x : List ℕ) → P n a x → P (n + m) a x) where
  -- with any room more it halts at the same byte, where no text goes on
  pub no-form : (n m : ℕ) (s r : List ℕ) → read n s ≡ Halted NoForm r → read (m + n) s ≡ Halted NoForm r
  no-form n zero s r e = ap (λ k. read k s) (zero-add n) ∙ e
  no-form n (suc m) s r e =
      let ih = no-form n m s r e in
      let k : suc m + n ≡ suc (m + n) = omega arith in
      let g : Grows (Halted NoForm r) (read (suc (m + n)) s) =
      subst (λ o. Grows o (read (suc (m + n)) s)) ih (grows (m + n) s) in
      ap (λ j. read j s) k ∙ sym g

  -- ---- the law
  -- the front of some type's text with at most n parentheses open
  pub record IsStart (n : ℕ) (x : List ℕ) : Type 0 where
    pub rest : List ℕ
    pub value : A
    pub says : P n value (x ++ rest)

  -- it halts behind the longest front that begins a text; the next byte begins none with any number open
  pub record StopsAt (n : ℕ) (s r : List ℕ) : Type 0 where
    pub front : List ℕ
    pub is : s ≡ front ++ r
    pub start : IsStart n front
    pub stop : (b : ℕ) (t : List ℕ) → r ≡ b ∷ t → (m : ℕ) → IsStart m (front ++ b ∷ []) → ⊥

  -- it halts behind the longest front that begins a text; with the next byte the front begins one with one more open,
  -- and none with so many
  pub record OpensTooMany (n : ℕ) (s r : List ℕ) : Type 0 where
    pub front : List ℕ
    pub byte : ℕ
    pub rest : List ℕ
    pub left_is : r ≡ byte ∷ rest
    pub is : s ≡ front ++ r
    pub start : IsStart n front
    pub opens : IsStart (suc n) (front ++ byte ∷ [])
    pub too_many : IsStart n (front ++ byte ∷ []) → ⊥

  -- a front that is halted before its last byte begins no text
  no-start : (n : ℕ) (w : Reason) (x : List ℕ) (b : ℕ)
      → ((m : List ℕ) → first m ≡ first (b ∷ []) → read n (x ++ m) ≡ Halted w m) → IsStart n (x ++ b ∷ []) → ⊥
  no-start n w x b stays h =
      let whole : read n (((x ++ b ∷ []) ++ h.rest) ++ []) ≡ Got h.value [] =
      (reads n).complete h.value ((x ++ b ∷ []) ++ h.rest) [] h.says refl in
      let regrouped : ((x ++ b ∷ []) ++ h.rest) ++ [] ≡ x ++ b ∷ h.rest = append-nil ((x ++ b ∷ []) ++ h.rest)
      ∙ append_assoc x (b ∷ []) h.rest in
      let halted : read n (((x ++ b ∷ []) ++ h.rest) ++ []) ≡ Halted w (b ∷ h.rest) = ap (read n) regrouped
      ∙ stays (b ∷ h.rest) refl in
      cc

  halted : (n : ℕ) (s : List ℕ) (k : Reason) (r : List ℕ) → read n s ≡ Halted k r → IsHalted (P n) (read n) s k r
  halted n s k r e = subst (Follows (P n) (read n) s) e ((reads n).follows s)

  pub stops : (n : ℕ) (s r : List ℕ) → read n s ≡ Halted NoForm r → StopsAt n s r
  stops n s r e = let h = halted n s NoForm r e in record {
    front = h.text;
    is = h.is;
    start = record { rest = h.rest; value = h.value; says = h.says };
    stop = λ b t q m st.
        let more : (z : List ℕ) → first z ≡ first (b ∷ []) → read (m + n) (h.text ++ z) ≡ Halted NoForm z =
        λ z d. no-form n m (h.text ++ z) z (h.stays z (d ∙ ap first (sym q))) in
        no-start (m + n) NoForm h.text b more
        (record {
          rest = st.rest;
          value = st.value;
          says = weaker m n st.value ((h.text ++ b ∷ []) ++ st.rest)
              st.says;
        });
  }

  pub opens : (n : ℕ) (s r : List ℕ) → read n s ≡ Halted OneTooMany r → OpensTooMany n s r
  opens n s r e = go r e refl where
    go : (q : List ℕ) → read n s ≡ Halted OneTooMany q → r ≡ q → OpensTooMany n s r
    go [] e d = let g : length (left (read (suc n) s)) < 0 = subst (λ o. Grows o (read (suc n) s)) e (grows n s) in
        absurd (omega arith)
    go (b ∷ t) e d =
        let h = halted n s OneTooMany (b ∷ t) e in
        let one : read n (h.text ++ b ∷ []) ≡ Halted OneTooMany (b ∷ []) = h.stays (b ∷ []) refl in
        let g : length (left (read (suc n) (h.text ++ b ∷ []))) < 1 =
        subst (λ o. Grows o (read (suc n) (h.text ++ b ∷ []))) one (grows n (h.text ++ b ∷ [])) in
        record {
          front = h.text;
          byte = b;
          rest = t;
          left_is = d;
          is = h.is ∙ ap (λ z. h.text ++ z) (sym d);
          start = record { rest = h.rest; value = h.value; says = h.says };
          opens = passes h.text b (read (suc n) (h.text ++ b ∷ [])) ((reads (suc n)).follows (h.text ++ b ∷ [])) g;
          too_many = no-start n OneTooMany h.text b (λ m w. h.stays m w);
        }
      where
        empty : (q : List ℕ) → length q < 1 → q ≡ []
        empty [] h = refl
        empty (c ∷ q) h = absurd (omega arith)

        passes : (x : List ℕ) (b : ℕ) (o : Reading (A)) → Follows (P (suc n)) (read (suc n)) (x ++ b ∷ []) o
            → length (left o) < 1 → IsStart (suc n) (x ++ b ∷ [])
        passes x b (Got u q) h k =
            record {
              rest = [];
              value = u;
              says = subst (P (suc n) u) (ends h.text q (empty q k) h.is ∙ sym (append-nil (x ++ b ∷ []))) h.says;
            }
          where
            ends : (y q : List ℕ) → q ≡ [] → x ++ b ∷ [] ≡ y ++ q → y ≡ x ++ b ∷ []
            ends y q e d = sym (append-nil y) ∙ ap (λ z. y ++ z) (sym e) ∙ sym d
        passes x b (Halted w q) h k =
            record {
              rest = h.rest;
              value = h.value;
              says = subst (λ z. P (suc n) h.value (z ++ h.rest))
                  (ends h.text q (empty q k) h.is) h.says;
            }
          where
            ends : (y q : List ℕ) → q ≡ [] → x ++ b ∷ [] ≡ y ++ q → y ≡ x ++ b ∷ []
            ends y q e d = sym (append-nil y) ∙ ap (λ z. y ++ z) (sym e) ∙ sym d
