-- What a text is, where its forms have a reader whose texts are limited by how many are open: it stands for one
-- thing, or is refused at one place for one fault.
use Rattle.std.specs.Prelude.{◌≡◌, ◌⊎◌, ◌≤◌, ◌<◌, ℕ, zero, suc, ◌+◌, ◌-◌, List}
use Rattle.std.specs.Prelude.{[], ◌∷◌, ◌++◌, length, take, drop, Result, Ok, Err}
use Rattle.std.proofs.Common.{refl, sym, ◌∙◌, ap, subst, append_assoc, append-nil}
use Rattle.std.proofs.Common.{length-append, inl, inr, arith, zero-add}
use Rattle.std.proofs.lemmas.List.{take-append-drop}
use Rattle.std.proofs.lemmas.Bool.Decides.{leb_tells}
use Rattle.ot_forms.specs.declared.fault.TextFault.{TextFault}
use Rattle.ot_forms.specs.declared.fault.TextFault.TheVariants.{Syntax, TooManyOpen, Unbound}
use Rattle.ot_forms.specs.declared.fault.TextFault.TheVariants.{UnknownOperator, BadTypes, TooDeep}
use Rattle.ot_forms.specs.Meaning.{Refusal}
use Rattle.ot_forms.specs.Refusals.{open_limit, IsStart, IsFront, IsNoForm}
use Rattle.ot_forms.specs.Refusals.{OpensTooMany, StandsFor, IsMeantWrong, IsRefusedAs}
use Rattle.ot_forms.specs.Reading.{Reading, Got, Halted, NoForm, OneTooMany}
use Rattle.ot_forms.proofs.Readers.{Follows, IsRead, Reads}
use Rattle.ot_forms.proofs.Types.{IsEnd}
use Rattle.ot_forms.proofs.Growing.{Grows}
use Rattle.ot_forms.proofs.Halting as halting

-- ---- fronts of lists
take-front : (x r : List ℕ) → take (length x) (x ++ r) ≡ x
take-front [] r = refl
take-front (b ∷ x) r = ap (λ z. b ∷ z) (take-front x r)

take-more : (x : List ℕ) (b : ℕ) (t : List ℕ) → take (suc (length x)) (x ++ b ∷ t) ≡ x ++ b ∷ []
take-more [] b t = refl
take-more (c ∷ x) b t = ap (λ z. c ∷ z) (take-more x b t)

take-shorter : (a b : ℕ) (xs : List ℕ) → a ≤ b → take a (take b xs) ≡ take a xs
take-shorter zero b xs h = refl
take-shorter (suc a) zero xs h = absurd (omega arith)
take-shorter (suc a) (suc b) [] h = refl
take-shorter (suc a) (suc b) (x ∷ xs) h = ap (λ z. x ∷ z) (take-shorter a b xs (omega arith))

-- a text is refused at one place
pub record IsSame (k j : ℕ) (f g : TextFault) : Type 0 where
  pub place : k ≡ j
  pub fault : f ≡ g

module _ {A B : Type 0} (Writes : ℕ → List ℕ → A → Type 0) (meant_at : A → Result B Refusal)
    (read : ℕ → List ℕ → Reading A)
    (reads : (n : ℕ) → Reads (λ a x. Writes n x a) IsEnd (read n))
    (grows : (n : ℕ) (s : List ℕ) → Grows (read n s) (read (suc n) s))
    (more : (n m : ℕ) (a : A) (x : List ℕ) → Writes n x a → Writes (n + m) x a) where
  abbrev Says : ℕ → A → List ℕ → Type 0
  Says n a x = Writes n x a

  abbrev Started : ℕ → List ℕ → Type 0
  Started = halting.IsStart Says read reads grows more

  start-to : (n : ℕ) (x : List ℕ) → Started n x → IsStart Writes n x
  start-to n x h = record { rest = h.rest; value = h.value; text = h.says }

  start-back : (n : ℕ) (x : List ℕ) → IsStart Writes n x → Started n x
  start-back n x h = record { rest = h.rest; value = h.value; says = h.text }

  place-of : (line front r : List ℕ) → line ≡ front ++ r → length line - length r ≡ length front
  place-of line front r e = let q : length line ≡ length front + length r = ap length e ∙ length-append front r in
      omega arith

  take-is : (line front r : List ℕ) → line ≡ front ++ r → take (length front) line ≡ front
  take-is line front r e = ap (take (length front)) e ∙ take-front front r

  take-next : (line front : List ℕ) (b : ℕ) (t : List ℕ) → line ≡ front ++ b ∷ t → take (suc (length front)) line
      ≡ front ++ b ∷ []
  take-next line front b t e = ap (take (suc (length front))) e ∙ take-more front b t

  within : (line front : List ℕ) (b : ℕ) (t : List ℕ) → line ≡ front ++ b ∷ t → length front < length line
  within line front b t e = let q : length line ≡ length front + length (b ∷ t) = ap length e
      ∙ length-append front (b ∷ t) in omega arith

  -- a line that is refused with more room is none
  no-writes : (m : ℕ) (q : A) (line : List ℕ) → read open_limit line ≡ Halted NoForm [] → Writes m line q → ⊥
  no-writes m q line e w =
      let wide : Says (m + open_limit) q line = more m open_limit q line w in
      let got : read (m + open_limit) (line ++ []) ≡ Got q [] =
      (reads (m + open_limit)).complete q line [] wide refl in
      let halted : read (m + open_limit) (line ++ []) ≡ Halted NoForm [] = ap (read (m + open_limit))
      (append-nil line) ∙ halting.no-form Says read reads grows more open_limit m line [] e in
      cc

  -- ---- the four answers
  pub reads-as : (line : List ℕ) (q : A) → read open_limit line ≡ Got q [] → Writes open_limit line q
  reads-as line q e = let h : IsRead (Says open_limit) (read open_limit) line q [] =
      subst (Follows (Says open_limit) (read open_limit) line) e ((reads open_limit).follows line) in
      subst (Says open_limit q) (sym (h.is ∙ append-nil h.text)) h.says

  pub stops : (line r : List ℕ) → read open_limit line ≡ Halted NoForm r
      → IsNoForm Writes line (length line - length r)
  stops line r e =
      let h = halting.stops Says read reads grows more open_limit line r e in
      subst (IsNoForm Writes line) (sym (place-of line h.front r h.is)) (record {
        front = subst (IsStart Writes open_limit) (sym (take-is line h.front r h.is))
            (start-to open_limit h.front h.start);
        stop = end r e h.front h.is (λ b t q m s. h.stop b t q m s);
      })
    where
      end : (r : List ℕ) → read open_limit line ≡ Halted NoForm r → (front : List ℕ) → line ≡ front ++ r
          → ((b : ℕ) (t : List ℕ) → r ≡ b ∷ t → (m : ℕ) → Started m (front ++ b ∷ []) → ⊥)
          → ((length front ≡ length line) × ((limit : ℕ) (q : A) → Writes limit line q → ⊥))
          ⊎ ((length front < length line) × (IsFront Writes (take (suc (length front)) line) → ⊥))
      end [] e front is stop = inl (ap length (sym (is ∙ append-nil front)), λ m q w. no-writes m q line e w)
      end (b ∷ t) e front is stop =
          inr (
            within line front b t is,
            λ f. stop b t refl f.limit
                (start-back f.limit (front ++ b ∷ [])
                (subst (IsStart Writes f.limit) (take-next line front b t is) f.start)),
          )

  pub opens : (line r : List ℕ) → read open_limit line ≡ Halted OneTooMany r
      → OpensTooMany Writes line (length line - length r)
  opens line r e =
      let h = halting.opens Says read reads grows more open_limit line r e in
      let is : line ≡ h.front ++ h.byte ∷ h.rest = h.is ∙ ap (λ z. h.front ++ z) h.left_is in
      let next : take (suc (length h.front)) line ≡ h.front ++ h.byte ∷ [] =
      take-next line h.front h.byte h.rest is in
      subst (OpensTooMany Writes line) (sym (place-of line h.front r h.is)) (record {
        within = within line h.front h.byte h.rest is;
        front = subst (IsStart Writes open_limit) (sym (take-is line h.front r h.is))
            (start-to open_limit h.front h.start);
        opens = record {
          limit = suc open_limit;
          start = subst (IsStart Writes (suc open_limit)) (sym next)
              (start-to (suc open_limit) (h.front ++ h.byte ∷ []) h.opens);
        };
        too_many =
            λ s. h.too_many
            (start-back open_limit (h.front ++ h.byte ∷ []) (subst (IsStart Writes open_limit) next s));
      })

  -- what was read stays with more room
  got-more : (m : ℕ) (s : List ℕ) (q : A) (r : List ℕ) → read open_limit s ≡ Got q r → read (m + open_limit) s
      ≡ Got q r
  got-more zero s q r e = ap (λ k. read k s) (zero-add open_limit) ∙ e
  got-more (suc m) s q r e =
      let ih = got-more m s q r e in
      let k : suc m + open_limit ≡ suc (m + open_limit) = omega arith in
      let g : Grows (Got q r) (read (suc (m + open_limit)) s) =
      subst (λ o. Grows o (read (suc (m + open_limit)) s)) ih (grows (m + open_limit) s) in
      ap (λ j. read j s) k ∙ sym g

  -- bytes behind a whole line
  pub trails : (line : List ℕ) (q : A) (b : ℕ) (t : List ℕ) → read open_limit line ≡ Got q (b ∷ t)
      → IsNoForm Writes line (length line - length (b ∷ t))
  trails line q b t e =
      let h : IsRead (Says open_limit) (read open_limit) line q (b ∷ t) =
      subst (Follows (Says open_limit) (read open_limit) line) e ((reads open_limit).follows line) in
      subst (IsNoForm Writes line) (sym (place-of line h.text (b ∷ t) h.is)) (record {
        front = subst (IsStart Writes open_limit) (sym (take-is line h.text (b ∷ t) h.is))
            (record { rest = []; value = q; text = subst (Says open_limit q) (sym (append-nil h.text)) h.says });
        stop = inr (
          within line h.text b t h.is,
          λ f.
              none h (start-back f.limit (h.text ++ b ∷ [])
              (subst (IsStart Writes f.limit) (take-next line h.text b t h.is) f.start)),
        );
      })
    where
      none : (h : IsRead (Says open_limit) (read open_limit) line q (b ∷ t)) → {m : ℕ} → Started m (h.text ++ b ∷ [])
          → ⊥
      none h {m} s =
          let got : read (m + open_limit) (((h.text ++ b ∷ []) ++ s.rest) ++ []) ≡ Got s.value [] =
          (reads (m + open_limit)).complete s.value ((h.text ++ b ∷ []) ++ s.rest) []
          (more m open_limit s.value ((h.text ++ b ∷ []) ++ s.rest) s.says) refl in
          let regrouped : ((h.text ++ b ∷ []) ++ s.rest) ++ [] ≡ h.text ++ b ∷ s.rest =
          append-nil ((h.text ++ b ∷ []) ++ s.rest) ∙ append_assoc h.text (b ∷ []) s.rest in
          let stays : read (m + open_limit) (((h.text ++ b ∷ []) ++ s.rest) ++ []) ≡ Got q (b ∷ s.rest) =
          ap (read (m + open_limit)) regrouped
          ∙ got-more m (h.text ++ b ∷ s.rest) q (b ∷ s.rest) (h.stays (b ∷ s.rest) refl) in
          cc

  pub one-written : (line : List ℕ) (p q : A) → Writes open_limit line p → Writes open_limit line q → p ≡ q
  one-written line p q h k =
      let a = (reads open_limit).complete p line [] h refl in
      let b = (reads open_limit).complete q line [] k refl in
      let e : Got p [] ≡ Got q [] = sym a ∙ b in cc

  -- a line stands for one sequent
  pub one-reading : (line : List ℕ) (s t : B) → StandsFor Writes meant_at line s → StandsFor Writes meant_at line t
      → s ≡ t
  one-reading line s t h k =
      let e = one-written line h.written k.written h.text_of k.text_of in
      let p : ◌≡◌ {A = Result (B) Refusal} (Ok s) (Ok t) = sym h.meant ∙ ap meant_at e ∙ k.meant in cc

  pub front-of : (line : List ℕ) (n : ℕ) (q : A) → Writes open_limit line q → IsStart Writes open_limit (take n line)
  front-of line n q h =
      record {
        rest = drop n line;
        value = q;
        text = subst (λ z. Writes open_limit z q)
            (sym (take-append-drop n line)) h;
      }

  wrong : (line : List ℕ) (s : B) (k : ℕ) (f : TextFault) → StandsFor Writes meant_at line s
      → IsMeantWrong Writes meant_at line k f → ⊥
  wrong line s k f h w =
      let e = one-written line h.written w.written h.text_of w.text_of in
      let p : ◌≡◌ {A = Result (B) Refusal} (Ok s) (Err (k, f)) = sym h.meant ∙ ap meant_at e ∙ w.meant in cc

  -- a line that stands for a sequent isn't refused
  pub not-refused : (line : List ℕ) (s : B) (k : ℕ) (f : TextFault) → StandsFor Writes meant_at line s
      → IsRefusedAs Writes meant_at line k f → ⊥
  not-refused line s k Syntax h w =
      elim w.stop [
        | inl p ↦ p.1 open_limit h.written h.text_of
        | inr p ↦
            p.1 (record { limit = open_limit; start = front-of line (suc k) h.written h.text_of })
      ]
  not-refused line s k TooManyOpen h w = w.too_many (front-of line (suc k) h.written h.text_of)
  not-refused line s k Unbound h w = wrong line s k Unbound h w
  not-refused line s k UnknownOperator h w = wrong line s k UnknownOperator h w
  not-refused line s k BadTypes h w = wrong line s k BadTypes h w
  not-refused line s k TooDeep h w = wrong line s k TooDeep h w

  shorter : (n a b : ℕ) (line : List ℕ) → a ≤ b → IsStart Writes n (take b line) → IsStart Writes n (take a line)
  shorter n a b line h s = record {
    rest = drop a (take b line) ++ s.rest;
    value = s.value;
    text = subst (λ z. Writes n z s.value)
        (ap (λ z. z ++ s.rest) (sym (take-append-drop a (take b line)) ∙ ap (λ z. z ++ drop a (take b line))
        (take-shorter a b line h)) ∙ append_assoc (take a line) (drop a (take b line)) s.rest) s.text;
  }

  -- where a line is none, no longer front of it begins a line
  none-longer : (line : List ℕ) (k j n : ℕ) → IsNoForm Writes line k → k < j → j ≤ length line
      → IsStart Writes n (take j line) → ⊥
  none-longer line k j n w h b s =
      elim w.stop [
        | inl p ↦ (let e = p.0 in omega (arith, e, h, b))
        | inr p ↦
            p.1 (record { limit = n; start = shorter n (suc k) j line (omega arith) s })
      ]

  bounded : (line : List ℕ) (k : ℕ) → IsNoForm Writes line k → k ≤ length line
  bounded line k w =
      elim w.stop [ inl p ↦ (let e = p.0 in omega (arith, e)) | inr p ↦ (let e = p.0 in omega (arith, e)) ]

  order : (a b : ℕ) → (a < b) ⊎ ((a ≡ b) ⊎ (b < a))
  order a b =
      elim (leb_tells a b) [
        | inl p ↦ elim (leb_tells b a) [
          | inl q ↦ inr (inl (let x = p.1 in let y = q.1 in omega (arith, x, y)))
          | inr q ↦
              inl q.1
        ]
        | inr p ↦ inr (inr p.1)
      ]

  one-none : (line : List ℕ) (k j : ℕ) → IsNoForm Writes line k → IsNoForm Writes line j → k ≡ j
  one-none line k j w v = elim (order k j) [
    | inl h ↦ absurd (none-longer line k j open_limit w h (bounded line j v) v.front)
    | inr e ↦ elim e [ inl p ↦ p | inr h ↦ absurd (none-longer line j k open_limit v h (bounded line k w) w.front) ]
  ]

  one-many : (line : List ℕ) (k j : ℕ) → OpensTooMany Writes line k → OpensTooMany Writes line j → k ≡ j
  one-many line k j w v = elim (order k j) [
    | inl h ↦ absurd (w.too_many (shorter open_limit (suc k) j line (omega arith) v.front))
    | inr e ↦
        elim e [ inl p ↦ p | inr h ↦ absurd (v.too_many (shorter open_limit (suc j) k line (omega arith) w.front)) ]
  ]

  none-many : (line : List ℕ) (k j : ℕ) → IsNoForm Writes line k → OpensTooMany Writes line j → ⊥
  none-many line k j w v = elim (order k j) [
    | inl h ↦ none-longer line k j open_limit w h (let b = v.within in omega (arith, b)) v.front
    | inr e ↦ elim e [
      | inl p ↦ none-longer line k (suc j) v.opens.limit w (omega arith) (let b = v.within in omega (arith, b))
          v.opens.start
      | inr h ↦ v.too_many (shorter open_limit (suc j) k line (omega arith) w.front)
    ]
  ]

  none-wrong : (line : List ℕ) (k j : ℕ) (f : TextFault) → IsNoForm Writes line k
      → IsMeantWrong Writes meant_at line j f → ⊥
  none-wrong line k j f w v =
      elim w.stop [
        | inl p ↦ p.1 open_limit v.written v.text_of
        | inr p ↦
            p.1 (record { limit = open_limit; start = front-of line (suc k) v.written v.text_of })
      ]

  many-wrong : (line : List ℕ) (k j : ℕ) (f : TextFault) → OpensTooMany Writes line k
      → IsMeantWrong Writes meant_at line j f → ⊥
  many-wrong line k j f w v = w.too_many (front-of line (suc k) v.written v.text_of)

  one-wrong : (line : List ℕ) (k j : ℕ) (f g : TextFault) → IsMeantWrong Writes meant_at line k f
      → IsMeantWrong Writes meant_at line j g → IsSame k j f g
  one-wrong line k j f g w v =
      let e = one-written line w.written v.written w.text_of v.text_of in
      let p : ◌≡◌ {A = Result (B) Refusal} (Err (k, f)) (Err (j, g)) = sym w.meant ∙ ap (meant_at) e ∙ v.meant in
      let q : ◌≡◌ {A = Refusal} (k, f) (j, g) = cc in
      record { place = ap (λ z. z.0) q; fault = ap (λ z. z.1) q }

  -- what a refusal is, by its fault
  pub data Cause (line : List ℕ) (k : ℕ) (f : TextFault) : Type 0 where
    NoLine : IsNoForm Writes line k → f ≡ Syntax → Cause line k f
    TooMany : OpensTooMany Writes line k → f ≡ TooManyOpen → Cause line k f
    Wrong : IsMeantWrong Writes meant_at line k f → Cause line k f

  cause : (line : List ℕ) (k : ℕ) (f : TextFault) → IsRefusedAs Writes meant_at line k f → Cause line k f
  cause line k Syntax h = NoLine h refl
  cause line k TooManyOpen h = TooMany h refl
  cause line k Unbound h = Wrong h
  cause line k UnknownOperator h = Wrong h
  cause line k BadTypes h = Wrong h
  cause line k TooDeep h = Wrong h

  -- a line is refused at one place for one fault
  pub one-refusal : (line : List ℕ) (k j : ℕ) (f g : TextFault) → IsRefusedAs Writes meant_at line k f
      → IsRefusedAs Writes meant_at line j g → IsSame k j f g
  one-refusal line k j f g h w = both (cause line k f h) (cause line j g w) where
    both : Cause line k f → Cause line j g → IsSame k j f g
    both (NoLine a e) (NoLine b d) = record { place = one-none line k j a b; fault = e ∙ sym d }
    both (NoLine a e) (TooMany b d) = absurd (none-many line k j a b)
    both (NoLine a e) (Wrong b) = absurd (none-wrong line k j g a b)
    both (TooMany a e) (NoLine b d) = absurd (none-many line j k b a)
    both (TooMany a e) (TooMany b d) = record { place = one-many line k j a b; fault = e ∙ sym d }
    both (TooMany a e) (Wrong b) = absurd (many-wrong line k j g a b)
    both (Wrong a) (NoLine b d) = absurd (none-wrong line j k f b a)
    both (Wrong a) (TooMany b d) = absurd (many-wrong line j k f b a)
    both (Wrong a) (Wrong b) = one-wrong line k j f g a b
