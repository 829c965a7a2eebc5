-- What a reader of a language does, and how readers are joined.
use Rattle.std.specs.Prelude.{◌≡◌, ◌⊎◌, ℕ, ◌==◌, Bool, true, false, cond, List, [], ◌∷◌, ◌++◌, Option, Some, None}
use Rattle.std.proofs.Common.{refl, sym, ◌∙◌, ap, subst, append_assoc, append-nil, inl, inr, eq-eqb}
use Rattle.std.proofs.lemmas.Bool.{eqb-true}
use Rattle.ot_forms.specs.Reading.{Reason, NoForm, Reading, Got, Halted, next, mapped, kept, literal_at}

-- the first byte
abbrev pub first : List ℕ → Option ℕ
first [] = None
first (b ∷ s) = Some b

-- a value with the text x was read; what stands behind the first byte after it makes no difference
pub record IsRead {A : Type 0} (Says : A → List ℕ → Type 0) (read : List ℕ → Reading A) (s : List ℕ) (a : A)
    (r : List ℕ) : Type 0 where
  pub text : List ℕ
  pub says : Says a text
  pub is : s ≡ text ++ r
  pub stays : (m : List ℕ) → first m ≡ first r → read (text ++ m) ≡ Got a m

-- what was passed begins the text of some value, and what stands behind the first byte that is left makes no
-- difference
pub record IsHalted {A : Type 0} (Says : A → List ℕ → Type 0) (read : List ℕ → Reading A) (s : List ℕ) (k : Reason)
    (r : List ℕ) : Type 0 where
  pub text : List ℕ
  pub rest : List ℕ
  pub value : A
  pub says : Says value (text ++ rest)
  pub is : s ≡ text ++ r
  pub stays : (m : List ℕ) → first m ≡ first r → read (text ++ m) ≡ Halted k m

abbrev pub Follows : {A : Type 0} → (A → List ℕ → Type 0) → (List ℕ → Reading A) → List ℕ → Reading A → Type 0
Follows Says read s (Got a r) = IsRead Says read s a r
Follows Says read s (Halted k r) = IsHalted Says read s k r

-- the reader reads each text that is followed by an end, nothing else, and halts where no text goes on
pub record Reads {A : Type 0} (Says : A → List ℕ → Type 0) (IsEnd : List ℕ → Type 0)
    (read : List ℕ → Reading A) : Type 0 where
  pub complete : (a : A) (x r : List ℕ) → Says a x → IsEnd r → read (x ++ r) ≡ Got a r
  pub follows : (s : List ℕ) → Follows Says read s (read s)

-- ---- one reader after another
pub first-append : (x m r : List ℕ) → first m ≡ first r → first (x ++ m) ≡ first (x ++ r)
first-append [] m r h = h
first-append (b ∷ x) m r h = refl

-- the texts of two values one after another
pub record Joined {A B : Type 0} (P : A → List ℕ → Type 0) (Q : A → B → List ℕ → Type 0) (b : B) (z : List ℕ) : Type
    0 where
  pub one : A
  pub front : List ℕ
  pub back : List ℕ
  pub says : P one front
  pub then : Q one b back
  pub is : z ≡ front ++ back

module _ {A B : Type 0} (P : A → List ℕ → Type 0) (Q : A → B → List ℕ → Type 0) (E F : List ℕ → Type 0)
    (f : List ℕ → Reading A) (g : A → List ℕ → Reading B) where
  abbrev both : List ℕ → Reading B
  both s = next (f s) g

  pub second-read : (s : List ℕ) (a : A) (r : List ℕ) → IsRead P f s a r → (o : Reading B) → Follows (Q a) (g a) r o
      → Follows (Joined P Q) both s o
  second-read s a r h (Got b t) k = record {
    text = h.text ++ k.text;
    says = record { one = a; front = h.text; back = k.text; says = h.says; then = k.says; is = refl };
    is = h.is ∙ ap (λ z. h.text ++ z) k.is ∙ sym (append_assoc h.text k.text t);
    stays = λ m e.
        let fits : first (k.text ++ m) ≡ first r = first-append k.text m t e ∙ ap first (sym k.is) in
        ap both (append_assoc h.text k.text m) ∙ ap (λ z. next z g) (h.stays (k.text ++ m) fits) ∙ k.stays m e;
  }
  second-read s a r h (Halted w t) k = record {
    text = h.text ++ k.text;
    rest = k.rest;
    value = k.value;
    says = record {
      one = a;
      front = h.text;
      back = k.text ++ k.rest;
      says = h.says;
      then = k.says;
      is = append_assoc h.text k.text k.rest;
    };
    is = h.is ∙ ap (λ z. h.text ++ z) k.is ∙ sym (append_assoc h.text k.text t);
    stays = λ m e.
        let fits : first (k.text ++ m) ≡ first r = first-append k.text m t e ∙ ap first (sym k.is) in
        ap both (append_assoc h.text k.text m) ∙ ap (λ z. next z g) (h.stays (k.text ++ m) fits) ∙ k.stays m e;
  }

  -- what goes on behind each value has some text
  pub first-halted : ((a : A) → (b : B) × (y : List ℕ) × Q a b y) → (s : List ℕ) (k : Reason) (r : List ℕ)
      → IsHalted P f s k r → Follows (Joined P Q) both s (Halted k r)
  first-halted some s k r h = let w = some h.value in record {
    text = h.text;
    rest = h.rest ++ w.1;
    value = w.0;
    says = record {
      one = h.value;
      front = h.text ++ h.rest;
      back = w.1;
      says = h.says;
      then = w.2;
      is = sym (append_assoc h.text h.rest w.1);
    };
    is = h.is;
    stays = λ m e. ap (λ z. next z g) (h.stays m e);
  }

  first-read : ((a : A) → (b : B) × (y : List ℕ) × Q a b y) → ((a : A) (s : List ℕ) → Follows (Q a) (g a) s (g a s))
      → (s : List ℕ) (o : Reading A) → Follows P f s o → Follows (Joined P Q) both s (next o g)
  first-read some hg s (Got a r) h = second-read s a r h (g a r) (hg a r)
  first-read some hg s (Halted k r) h = first-halted some s k r h

  pub join : Reads P E f → ((a : A) → Reads (Q a) F (g a)) → ((a : A) → (b : B) × (y : List ℕ) × Q a b y)
      → ((a : A) (b : B) (y r : List ℕ) → Q a b y → F r → E (y ++ r)) → Reads (Joined P Q) F both
  join hf hg some ends = record {
    complete = λ b z r w e.
        ap (λ z. both (z ++ r)) w.is ∙ ap both (append_assoc w.front w.back r)
        ∙ ap (λ z. next z g) (hf.complete w.one w.front (w.back ++ r) w.says (ends w.one b w.back r w.then e))
        ∙ (hg w.one).complete b w.back r w.then e;
    follows = λ s. first-read some (λ a. (hg a).follows) s (f s) (hf.follows s);
  }

-- ---- the same reader for another description of its texts
module _ {A : Type 0} (P Q : A → List ℕ → Type 0) (E : List ℕ → Type 0) (f : List ℕ → Reading A) where
  pub told-follows : ((a : A) (x : List ℕ) → P a x → Q a x) → (s : List ℕ) (o : Reading A) → Follows P f s o
      → Follows Q f s o
  told-follows to s (Got a r) h = record { text = h.text; says = to a h.text h.says; is = h.is; stays = h.stays }
  told-follows to s (Halted k r) h =
      record {
        text = h.text;
        rest = h.rest;
        value = h.value;
        says = to h.value (h.text ++ h.rest) h.says;
        is = h.is;
        stays = h.stays;
      }

  pub told : Reads P E f → ((a : A) (x : List ℕ) → P a x → Q a x) → ((a : A) (x : List ℕ) → Q a x → P a x)
      → Reads Q E f
  told h to back =
      record {
        complete = λ a x r q e. h.complete a x r (back a x q) e;
        follows = λ s. told-follows to s (f s) (h.follows s);
      }

pub at_byte : (b : ℕ) (s : List ℕ) (R : List ℕ → Type 0) → ((t : List ℕ) → R (b ∷ t)) → (m : List ℕ)
    → first m ≡ first (b ∷ s) → R m
at_byte b s R h [] e = cc
at_byte b s R h (c ∷ m) e = let q : b ≡ c = cc in subst (λ z. R (z ∷ m)) q (h m)

pub at_end : (R : List ℕ → Type 0) → R [] → (m : List ℕ) → first m ≡ first [] → R m
at_end R h [] e = h
at_end R h (c ∷ m) e = cc

-- behind one byte
module _ {A B : Type 0} (P : A → List ℕ → Type 0) (Q : B → List ℕ → Type 0) (f : List ℕ → Reading A)
    (g : List ℕ → Reading B) (v : A → B) (b : ℕ) where
  pub behind : ((s : List ℕ) → g (b ∷ s) ≡ mapped v (f s)) → ((a : A) (x : List ℕ) → P a x → Q (v a) (b ∷ x))
      → (s : List ℕ) (o : Reading A) → Follows P f s o → Follows Q g (b ∷ s) (mapped v o)
  behind step to s (Got a r) h = record {
    text = b ∷ h.text;
    says = to a h.text h.says;
    is = ap (λ z. b ∷ z) h.is;
    stays = λ m e. step (h.text ++ m) ∙ ap (mapped v) (h.stays m e);
  }
  behind step to s (Halted k r) h = record {
    text = b ∷ h.text;
    rest = h.rest;
    value = v h.value;
    says = to h.value (h.text ++ h.rest) h.says;
    is = ap (λ z. b ∷ z) h.is;
    stays = λ m e. step (h.text ++ m) ∙ ap (mapped v) (h.stays m e);
  }

-- what was read is made into another value
module _ {A B : Type 0} (P : A → List ℕ → Type 0) (Q : B → List ℕ → Type 0) (f : List ℕ → Reading A) (v : A → B) where
  pub mapped-follows : ((a : A) (x : List ℕ) → P a x → Q (v a) x) → (s : List ℕ) (o : Reading A) → Follows P f s o
      → Follows Q (λ z. mapped v (f z)) s (mapped v o)
  mapped-follows to s (Got a r) h =
      record { text = h.text; says = to a h.text h.says; is = h.is; stays = λ m e. ap (mapped v) (h.stays m e) }
  mapped-follows to s (Halted k r) h =
      record {
        text = h.text;
        rest = h.rest;
        value = v h.value;
        says = to h.value (h.text ++ h.rest) h.says;
        is = h.is;
        stays = λ m e. ap (mapped v) (h.stays m e);
      }

-- another reader with the same answers
pub same-follows : {A : Type 0} (P : A → List ℕ → Type 0) (f g : List ℕ → Reading A) → ((s : List ℕ) → g s ≡ f s)
    → (s : List ℕ) (o : Reading A) → Follows P f s o → Follows P g s o
same-follows P f g e s (Got a r) h =
    record { text = h.text; says = h.says; is = h.is; stays = λ m w. e (h.text ++ m) ∙ h.stays m w }
same-follows P f g e s (Halted k r) h =
    record {
      text = h.text;
      rest = h.rest;
      value = h.value;
      says = h.says;
      is = h.is;
      stays = λ m w. e (h.text ++ m)
          ∙ h.stays m w;
    }

-- it halts at once, where some value has a text
pub halts_here : {A : Type 0} (P : A → List ℕ → Type 0) (f : List ℕ → Reading A) (s : List ℕ) (k : Reason) (a : A)
    (x : List ℕ) → P a x → ((m : List ℕ) → first m ≡ first s → f m ≡ Halted k m) → Follows P f s (Halted k s)
halts_here P f s k a x h stays = record { text = []; rest = x; value = a; says = h; is = refl; stays = stays }

-- it is at its end at once, where a value has the empty text
pub ends_here : {A : Type 0} (P : A → List ℕ → Type 0) (f : List ℕ → Reading A) (s : List ℕ) (a : A) → P a []
    → ((m : List ℕ) → first m ≡ first s → f m ≡ Got a m) → Follows P f s (Got a s)
ends_here P f s a h stays = record { text = []; says = h; is = refl; stays = stays }

-- ---- literal bytes
abbrev pub Is : List ℕ → Unit {0} → List ℕ → Type 0
Is w u x = x ≡ w

-- any bytes may follow
abbrev pub Any : List ℕ → Type 0
Any r = Unit {0}

pub unchanged : {A : Type 0} (o : Reading A) → mapped (λ u. u) o ≡ o
unchanged (Got a r) = refl
unchanged (Halted k r) = refl

literal-complete : (w r : List ℕ) → literal_at w (w ++ r) ≡ Got tt r
literal-complete [] r = refl
literal-complete (c ∷ w) r = ap (λ t. cond t (literal_at w (w ++ r)) (Halted NoForm (c ∷ (w ++ r)))) (eq-eqb c c refl)
    ∙ literal-complete w r

literal-follows : (w s : List ℕ) → Follows (Is w) (literal_at w) s (literal_at w s)
literal-follows [] s = ends_here (Is []) (literal_at []) s tt refl (λ m e. refl)
literal-follows (c ∷ w) [] = halts_here (Is (c ∷ w)) (literal_at (c ∷ w)) [] NoForm tt (c ∷ w) refl
    (at_end (λ m. literal_at (c ∷ w) m ≡ Halted NoForm m) refl)
literal-follows (c ∷ w) (b ∷ s) = go (literal-follows w s) (b == c) refl where
  no_change : (o : Reading (Unit {0})) → Follows (Is (c ∷ w)) (literal_at (c ∷ w)) (b ∷ s) (mapped (λ u. u) o)
      → Follows (Is (c ∷ w)) (literal_at (c ∷ w)) (b ∷ s) o
  no_change (Got a r) h = h
  no_change (Halted k r) h = h

  go : Follows (Is w) (literal_at w) s (literal_at w s) → (t : Bool) → (b == c) ≡ t
      → Follows (Is (c ∷ w)) (literal_at (c ∷ w)) (b ∷ s) (cond t (literal_at w s) (Halted NoForm (b ∷ s)))
  go h true e = no_change (literal_at w s) (behind (Is w) (Is (c ∷ w)) (literal_at w) (literal_at (c ∷ w)) (λ u. u) b
      (λ z. ap (λ t. cond t (literal_at w z) (Halted NoForm (b ∷ z))) e ∙ sym (unchanged (literal_at w z)))
      (λ u x q. let p : b ≡ c = eqb-true b c e in cc) s (literal_at w s) h)
  go h false e = halts_here (Is (c ∷ w)) (literal_at (c ∷ w)) (b ∷ s) NoForm tt (c ∷ w) refl
      (at_byte b s (λ m. literal_at (c ∷ w) m ≡ Halted NoForm m)
      (λ t. ap (λ z. cond z (literal_at w t) (Halted NoForm (b ∷ t))) e))

pub literal-reads : (w : List ℕ) → Reads (Is w) Any (literal_at w)
literal-reads w = record {
  complete = λ a x r q e. ap (λ z. literal_at w (z ++ r)) q ∙ literal-complete w r;
  follows = literal-follows w;
}

-- ---- the value made into another
pub record Image {A B : Type 0} (v : A → B) (P : A → List ℕ → Type 0) (b : B) (x : List ℕ) : Type 0 where
  pub from : A
  pub says : P from x
  pub is : b ≡ v from

pub mapped-reads : {A B : Type 0} (v : A → B) (P : A → List ℕ → Type 0) (E : List ℕ → Type 0) (f : List ℕ → Reading A)
    → Reads P E f → Reads (Image v P) E (λ s. mapped v (f s))
mapped-reads v P E f h = record {
  complete = λ b x r w e. ap (mapped v) (h.complete w.from x r w.says e) ∙ ap (λ z. Got z r) (sym w.is);
  follows = λ s. mapped-follows P (Image v P) f v (λ a x p. record { from = a; says = p; is = refl }) s (f s)
      (h.follows s);
}

-- ---- another reader where the first byte is this
pub same_at : {A : Type 0} (P : A → List ℕ → Type 0) (f g : List ℕ → Reading A) (b : ℕ)
    → ((t : List ℕ) → g (b ∷ t) ≡ f (b ∷ t)) → (s : List ℕ) (o : Reading A) → Follows P f (b ∷ s) o
    → Follows P g (b ∷ s) o
same_at P f g b h s (Got a r) w = record {
  text = w.text;
  says = w.says;
  is = w.is;
  stays = λ m e. at_byte b s (λ z. g z ≡ f z) h (w.text ++ m) (first-append w.text m r e ∙ ap first (sym w.is))
      ∙ w.stays m e;
}
same_at P f g b h s (Halted k r) w = record {
  text = w.text;
  rest = w.rest;
  value = w.value;
  says = w.says;
  is = w.is;
  stays = λ m e. at_byte b s (λ z. g z ≡ f z) h (w.text ++ m) (first-append w.text m r e ∙ ap first (sym w.is))
      ∙ w.stays m e;
}

-- ---- what is read is kept only where it is good
pub record Kept {A : Type 0} (P : A → List ℕ → Type 0) (good : A → Bool) (a : A) (x : List ℕ) : Type 0 where
  pub says : P a x
  pub fine : good a ≡ true

-- a text of a bad value goes on to that of a good one
pub record Extends {A : Type 0} (P : A → List ℕ → Type 0) (good : A → Bool) (x : List ℕ) : Type 0 where
  pub value : A
  pub more : List ℕ
  pub says : P value (x ++ more)
  pub fine : good value ≡ true

module _ {A : Type 0} (P : A → List ℕ → Type 0) (E : List ℕ → Type 0) (f : List ℕ → Reading A) (good : A → Bool)
    (extend : (a : A) (x : List ℕ) → P a x → Extends P good x) where
  kept-got : (s : List ℕ) (a : A) (r : List ℕ) → IsRead P f s a r → (t : Bool) → good a ≡ t
      → Follows (Kept P good) (λ z. kept good (f z)) s (cond t (Got a r) (Halted NoForm r))
  kept-got s a r h true e = record {
    text = h.text;
    says = record { says = h.says; fine = e };
    is = h.is;
    stays = λ m w. ap (kept good) (h.stays m w) ∙ ap (λ t. cond t (Got a m) (Halted NoForm m)) e;
  }
  kept-got s a r h false e = let w = extend a h.text h.says in record {
    text = h.text;
    rest = w.more;
    value = w.value;
    says = record { says = w.says; fine = w.fine };
    is = h.is;
    stays = λ m w. ap (kept good) (h.stays m w) ∙ ap (λ t. cond t (Got a m) (Halted NoForm m)) e;
  }

  kept-follows : (s : List ℕ) (o : Reading A) → Follows P f s o
      → Follows (Kept P good) (λ z. kept good (f z)) s (kept good o)
  kept-follows s (Got a r) h = kept-got s a r h (good a) refl
  kept-follows s (Halted k r) h = let w = extend h.value (h.text ++ h.rest) h.says in record {
    text = h.text;
    rest = h.rest ++ w.more;
    value = w.value;
    says = record { says = subst (P w.value) (append_assoc h.text h.rest w.more) w.says; fine = w.fine };
    is = h.is;
    stays = λ m e. ap (kept good) (h.stays m e);
  }

  pub kept-reads : Reads P E f → Reads (Kept P good) E (λ s. kept good (f s))
  kept-reads h = record {
    complete = λ a x r w e. ap (kept good) (h.complete a x r w.says e)
        ∙ ap (λ t. cond t (Got a r) (Halted NoForm r)) w.fine;
    follows = λ s. kept-follows s (f s) (h.follows s);
  }

-- ---- one of two readers, by the first byte
pub record Begins (test : ℕ → Bool) (t : Bool) (x : List ℕ) : Type 0 where
  pub byte : ℕ
  pub rest : List ℕ
  pub is : x ≡ byte ∷ rest
  pub tells : test byte ≡ t

-- a text has a byte
pub record HasByte (x : List ℕ) : Type 0 where
  pub byte : ℕ
  pub rest : List ℕ
  pub is : x ≡ byte ∷ rest

module _ {A : Type 0} (P Q : A → List ℕ → Type 0) (E : List ℕ → Type 0) (f g : List ℕ → Reading A)
    (test : ℕ → Bool) where
  abbrev pub picked : List ℕ → Reading A
  picked [] = Halted NoForm []
  picked (b ∷ s) = cond (test b) (f (b ∷ s)) (g (b ∷ s))

  -- a text of the first language that begins with such a byte, or one of the second that doesn't
  abbrev pub Either : A → List ℕ → Type 0
  Either a x = (P a x × Begins test true x) ⊎ (Q a x × Begins test false x)

  picked-is : (o : List ℕ → Reading A) (t : Bool) (x r : List ℕ)
      → ((b : ℕ) (s : List ℕ) → test b ≡ t → picked (b ∷ s) ≡ o (b ∷ s)) → Begins test t x
      → picked (x ++ r) ≡ o (x ++ r)
  picked-is o t x r h w = ap (λ z. picked (z ++ r)) w.is ∙ h w.byte (w.rest ++ r) w.tells
      ∙ sym (ap (λ z. o (z ++ r)) w.is)

  picked-true : (b : ℕ) (s : List ℕ) → test b ≡ true → picked (b ∷ s) ≡ f (b ∷ s)
  picked-true b s e = ap (λ t. cond t (f (b ∷ s)) (g (b ∷ s))) e

  picked-false : (b : ℕ) (s : List ℕ) → test b ≡ false → picked (b ∷ s) ≡ g (b ∷ s)
  picked-false b s e = ap (λ t. cond t (f (b ∷ s)) (g (b ∷ s))) e

  -- what was passed begins with the byte
  passed : (x r z : List ℕ) (b : ℕ) (s : List ℕ) (t : Bool) → test b ≡ t → b ∷ s ≡ x ++ r → HasByte x
      → Begins test t (x ++ z)
  passed x r z b s t e is w = let q : b ≡ w.byte = let k : b ∷ s ≡ w.byte ∷ (w.rest ++ r) =
      is ∙ ap (λ y. y ++ r) w.is in cc in
      record { byte = w.byte; rest = w.rest ++ z; is = ap (λ y. y ++ z) w.is; tells = ap test (sym q) ∙ e }

  module _ (a0 : A) (x0 : List ℕ) (p0 : Either a0 x0) where
    one_side : (R : A → List ℕ → Type 0) (o : List ℕ → Reading A) (t : Bool)
        → ((a : A) (x : List ℕ) → R a x → HasByte x) → ((a : A) (x : List ℕ) → R a x → Begins test t x → Either a x)
        → (b : ℕ) (s : List ℕ) → test b ≡ t → ((z : List ℕ) → picked (b ∷ z) ≡ o (b ∷ z)) → (w : Reading A)
        → Follows R o (b ∷ s) w → Follows Either o (b ∷ s) w
    one_side R o t some to b s e same (Got a r) h = record {
      text = h.text;
      says = to a h.text h.says
          (subst (λ z. Begins test t z) (append-nil h.text) (passed h.text r [] b s t e h.is (some a h.text h.says)));
      is = h.is;
      stays = h.stays;
    }
    one_side R o t some to b s e same (Halted k r) h = go h.text refl where
      go : (x : List ℕ) → h.text ≡ x → Follows Either o (b ∷ s) (Halted k r)
      go [] q = record {
        text = [];
        rest = x0;
        value = a0;
        says = p0;
        is = h.is ∙ ap (λ z. z ++ r) q;
        stays = λ m e. ap (λ z. o (z ++ m)) (sym q) ∙ h.stays m e;
      }
      go (c ∷ x) q = record {
        text = h.text;
        rest = h.rest;
        value = h.value;
        says = to h.value (h.text ++ h.rest) h.says
            (passed h.text r h.rest b s t e h.is (record { byte = c; rest = x; is = q }));
        is = h.is;
        stays = h.stays;
      }

    pub pick : Reads P E f → Reads Q E g → ((a : A) (x : List ℕ) → P a x → HasByte x)
        → ((a : A) (x : List ℕ) → Q a x → HasByte x) → Reads Either E picked
    pick hf hg bf bg = record { complete = whole; follows = all } where
      whole : (a : A) (x r : List ℕ) → Either a x → E r → picked (x ++ r) ≡ Got a r
      whole a x r w e =
          elim w [
            | inl p ↦ picked-is f true x r picked-true p.1 ∙ hf.complete a x r p.0 e
            | inr q ↦
                picked-is g false x r picked-false q.1 ∙ hg.complete a x r q.0 e
          ]

      by_test : (b : ℕ) (s : List ℕ) (t : Bool) → test b ≡ t
          → Follows Either picked (b ∷ s) (cond t (f (b ∷ s)) (g (b ∷ s)))
      by_test b s true e = same_at Either f picked b (λ z. picked-true b z e) s (f (b ∷ s))
          (one_side P f true bf (λ a x p w. inl (p, w)) b s e (λ z. picked-true b z e) (f (b ∷ s))
          (hf.follows (b ∷ s)))
      by_test b s false e = same_at Either g picked b (λ z. picked-false b z e) s (g (b ∷ s))
          (one_side Q g false bg (λ a x q w. inr (q, w)) b s e (λ z. picked-false b z e) (g (b ∷ s))
          (hg.follows (b ∷ s)))

      all : (s : List ℕ) → Follows Either picked s (picked s)
      all [] = halts_here Either picked [] NoForm a0 x0 p0 (at_end (λ m. picked m ≡ Halted NoForm m) refl)
      all (b ∷ s) = by_test b s (test b) refl

-- ---- a reader that gives the same, and one that is asked less
pub same-reads : {A : Type 0} (P : A → List ℕ → Type 0) (E : List ℕ → Type 0) (f g : List ℕ → Reading A)
    → ((s : List ℕ) → g s ≡ f s) → Reads P E f → Reads P E g
same-reads P E f g e h = record {
  complete = λ a x r p w. e (x ++ r) ∙ h.complete a x r p w;
  follows = λ s. subst (Follows P g s) (sym (e s)) (same-follows P f g e s (f s) (h.follows s));
}

pub weaken : {A : Type 0} (P : A → List ℕ → Type 0) (E F : List ℕ → Type 0) (f : List ℕ → Reading A)
    → ((r : List ℕ) → F r → E r) → Reads P E f → Reads P F f
weaken P E F f to h = record { complete = λ a x r p w. h.complete a x r p (to r w); follows = h.follows }
