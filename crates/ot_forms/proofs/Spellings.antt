-- Spellings, and the words of variables.
use Rattle.std.specs.Prelude.{◌≡◌, ℕ, ◌==◌, ◌||◌, ◌&&◌, not, Bool, true, false, cond, List, [], ◌∷◌, ◌++◌, map, codes}
use Rattle.std.specs.List.{list_all, flat_map}
use Rattle.std.proofs.Common.{refl, sym, ◌∙◌, ap, subst, append_assoc, inl, inr, lit<, arith}
use Rattle.std.proofs.lemmas.Bool.{eqb-true, and_parts}
use Rattle.ot_logic.specs.Names.{Name, IsName, Plain, Escaped, item_of, item_text, joined, spelled}
use Rattle.ot_forms.specs.Words.{is_letter, is_inner, is_part, is_bare, dotted}
use Rattle.ot_forms.specs.Reading.{NoForm, Reading, Got, Halted, next, mapped, kept, before, literal_at}
use Rattle.ot_forms.specs.Reading.{bare_at, is_special, spelled_at, escaped_at, quoted_at, variable_at}
use Rattle.ot_forms.proofs.Readers.{Follows, Reads, Joined, Image, Kept, Extends, Begins, Is, Any, Either}
use Rattle.ot_forms.proofs.Readers.{picked, join, told, mapped-reads, kept-reads, pick, literal-reads, behind}
use Rattle.ot_forms.proofs.Readers.{at_byte, at_end, halts_here, ends_here, unchanged, same-reads, weaken}
use Rattle.ot_forms.proofs.Types.{IsEnd, SaysVariable, differs}
use Rattle.ot_forms.proofs.BareWords.{SaysBare, bare-reads}

-- the component spellings with a dot between two
abbrev pub inside : Name → List ℕ
inside n = joined (map (map item_of) n)

abbrev pub component : List ℕ → List ℕ
component c = flat_map item_text (map item_of c)

pub record SaysInside (n : Name) (x : List ℕ) : Type 0 where
  pub named : IsName n
  pub text : x ≡ inside n

abbrev SaysEscaped : Name → List ℕ → Type 0
SaysEscaped n x = SaysInside n (92 ∷ x)

-- the closing quote follows
pub record IsQuote (r : List ℕ) : Type 0 where
  pub rest : List ℕ
  pub is : r ≡ 34 ∷ rest

-- ---- each spelling is read
special-parts : (b : ℕ) → is_special b ≡ false → ((b == 34) ≡ false) × ((b == 92) ≡ false) × ((b == 46) ≡ false)
special-parts b = go (b == 34) (b == 92) (b == 46) where
  go : (e f g : Bool) → (e || (f || g)) ≡ false → (e ≡ false) × (f ≡ false) × (g ≡ false)
  go false false false h = (refl, refl, refl)
  go true f g h = cc
  go false true g h = cc
  go false false true h = cc

item-read : (b : ℕ) (k : List ℕ) → spelled_at (item_text (item_of b) ++ k) ≡ mapped (before b) (spelled_at k)
item-read b k = go (is_special b) refl where
  go : (t : Bool) → is_special b ≡ t → spelled_at (item_text (cond t (Escaped b) (Plain b)) ++ k)
      ≡ mapped (before b) (spelled_at k)
  go true e = λ i. cond (e i) (mapped (before b) (spelled_at k)) (Halted NoForm (b ∷ k))
  go false e = let w = special-parts b e in
      λ i. cond (w.0 i) (Got ([] ∷ []) (b ∷ k))
      (cond (w.1 i) (escaped_at k)
      (cond (w.2 i) (mapped (λ n. [] ∷ n) (spelled_at k)) (mapped (before b) (spelled_at k))))

component-read : (c k : List ℕ) (n : Name) (r : List ℕ) → spelled_at k ≡ Got ([] ∷ n) r
    → spelled_at (component c ++ k) ≡ Got (c ∷ n) r
component-read [] k n r e = e
component-read (b ∷ c) k n r e = ap spelled_at (append_assoc (item_text (item_of b)) (component c) k)
    ∙ item-read b (component c ++ k) ∙ ap (mapped (before b)) (component-read c k n r e)

inside-read : (c : List ℕ) (cs : Name) (r : List ℕ) → spelled_at (inside (c ∷ cs) ++ 34 ∷ r) ≡ Got (c ∷ cs) (34 ∷ r)
inside-read c [] r = component-read c (34 ∷ r) [] (34 ∷ r) refl
inside-read c (d ∷ ds) r = ap spelled_at (append_assoc (component c) (46 ∷ inside (d ∷ ds)) (34 ∷ r))
    ∙ component-read c (46 ∷ (inside (d ∷ ds) ++ 34 ∷ r)) (d ∷ ds) (34 ∷ r)
    (ap (mapped (λ n. [] ∷ n)) (inside-read d ds r))

spelled-complete : (n : Name) (x r : List ℕ) → SaysInside n x → IsQuote r → spelled_at (x ++ r) ≡ Got n r
spelled-complete [] x r h e = absurd (let k = h.named in omega (arith, k))
spelled-complete (c ∷ cs) x r h e = (λ i. spelled_at (h.text i ++ e.is i)) ∙ inside-read c cs e.rest
    ∙ ap (Got (c ∷ cs)) (sym e.is)

-- ---- nothing else is read
no_bytes : SaysInside ([] ∷ []) []
no_bytes = record { named = lit< tt; text = refl }

with-item : (b : ℕ) (n : Name) (x : List ℕ) → SaysInside n x → SaysInside (before b n) (item_text (item_of b) ++ x)
with-item b [] x h = absurd (let k = h.named in omega (arith, k))
with-item b (c ∷ []) x h = record { named = lit< tt; text = ap (λ z. item_text (item_of b) ++ z) h.text }
with-item b (c ∷ d ∷ ds) x h = record {
  named = omega arith;
  text = ap (λ z. item_text (item_of b) ++ z) h.text
      ∙ sym (append_assoc (item_text (item_of b)) (component c) (46 ∷ inside (d ∷ ds)));
}

with-plain : (b : ℕ) → is_special b ≡ false → (n : Name) (x : List ℕ) → SaysInside n x
    → SaysInside (before b n) (b ∷ x)
with-plain b e n x h = subst (λ t. SaysInside (before b n) (item_text (cond t (Escaped b) (Plain b)) ++ x)) e
    (with-item b n x h)

with-escape : (b : ℕ) → is_special b ≡ true → (n : Name) (x : List ℕ) → SaysInside n x
    → SaysEscaped (before b n) (b ∷ x)
with-escape b e n x h = subst (λ t. SaysInside (before b n) (item_text (cond t (Escaped b) (Plain b)) ++ x)) e
    (with-item b n x h)

with-dot : (n : Name) (x : List ℕ) → SaysInside n x → SaysInside ([] ∷ n) (46 ∷ x)
with-dot [] x h = absurd (let k = h.named in omega (arith, k))
with-dot (d ∷ ds) x h = record { named = omega arith; text = ap (λ z. 46 ∷ z) h.text }

abbrev spelled_by : ℕ → List ℕ → Bool → Bool → Bool → Reading Name
spelled_by b z t u v = cond t (Got ([] ∷ []) (b ∷ z))
    (cond u (escaped_at z) (cond v (mapped (λ n. [] ∷ n) (spelled_at z)) (mapped (before b) (spelled_at z))))

spelled-byte : (b : ℕ) (s : List ℕ) → Follows SaysInside spelled_at s (spelled_at s)
    → Follows SaysEscaped escaped_at s (escaped_at s) → (t u v : Bool) → (b == 34) ≡ t → (b == 92) ≡ u → (b == 46) ≡ v
    → Follows SaysInside spelled_at (b ∷ s) (spelled_by b s t u v)
spelled-byte b s h k true u v e f g = ends_here SaysInside spelled_at (b ∷ s) ([] ∷ []) no_bytes
    (at_byte b s (λ m. spelled_at m ≡ Got ([] ∷ []) m) (λ z i. spelled_by b z (e i) (b == 92) (b == 46)))
spelled-byte b s h k false true v e f g =
    no_change (escaped_at s) (behind SaysEscaped SaysInside escaped_at spelled_at (λ n. n) b
    (λ z. (λ i. spelled_by b z (e i) (f i) (b == 46)) ∙ sym (unchanged (escaped_at z)))
    (λ n x w. subst (λ c. SaysInside n (c ∷ x)) (sym (eqb-true b 92 f)) w) s (escaped_at s) k)
  where
    no_change : (o : Reading Name) → Follows SaysInside spelled_at (b ∷ s) (mapped (λ n. n) o)
        → Follows SaysInside spelled_at (b ∷ s) o
    no_change (Got a r) h = h
    no_change (Halted k r) h = h
spelled-byte b s h k false false true e f g = behind SaysInside SaysInside spelled_at spelled_at (λ n. [] ∷ n) b
    (λ z i. spelled_by b z (e i) (f i) (g i))
    (λ n x w. subst (λ c. SaysInside ([] ∷ n) (c ∷ x)) (sym (eqb-true b 46 g)) (with-dot n x w)) s (spelled_at s) h
spelled-byte b s h k false false false e f g =
    behind SaysInside SaysInside spelled_at spelled_at (before b) b (λ z i. spelled_by b z (e i) (f i) (g i))
    (with-plain b (λ i. e i || (f i || g i))) s (spelled_at s) h

escaped-byte : (b : ℕ) (s : List ℕ) → Follows SaysInside spelled_at s (spelled_at s) → (t : Bool) → is_special b ≡ t
    → Follows SaysEscaped escaped_at (b ∷ s) (cond t (mapped (before b) (spelled_at s)) (Halted NoForm (b ∷ s)))
escaped-byte b s h true e =
    behind SaysInside SaysEscaped spelled_at escaped_at (before b) b
    (λ z i. cond (e i) (mapped (before b) (spelled_at z)) (Halted NoForm (b ∷ z))) (with-escape b e) s (spelled_at s)
    h
escaped-byte b s h false e = halts_here SaysEscaped escaped_at (b ∷ s) NoForm ((34 ∷ []) ∷ []) (34 ∷ [])
    (record { named = lit< tt; text = refl })
    (at_byte b s (λ m. escaped_at m ≡ Halted NoForm m)
    (λ z i. cond (e i) (mapped (before b) (spelled_at z)) (Halted NoForm (b ∷ z))))

mutual
  spelled-follows : (s : List ℕ) → Follows SaysInside spelled_at s (spelled_at s)
  spelled-follows [] = halts_here SaysInside spelled_at [] NoForm ([] ∷ []) [] no_bytes
      (at_end (λ m. spelled_at m ≡ Halted NoForm m) refl)
  spelled-follows (b ∷ s) = spelled-byte b s (spelled-follows s) (escaped-follows s) (b == 34) (b == 92) (b == 46)
      refl refl refl

  escaped-follows : (s : List ℕ) → Follows SaysEscaped escaped_at s (escaped_at s)
  escaped-follows [] = halts_here SaysEscaped escaped_at [] NoForm ((34 ∷ []) ∷ []) (34 ∷ [])
      (record { named = lit< tt; text = refl }) (at_end (λ m. escaped_at m ≡ Halted NoForm m) refl)
  escaped-follows (b ∷ s) = escaped-byte b s (spelled-follows s) (is_special b) refl

pub spelled-reads : Reads SaysInside IsQuote spelled_at
spelled-reads = record { complete = spelled-complete; follows = spelled-follows }

-- ---- a spelling that isn't a name's word goes on to one that is: a space makes the last component no part
abbrev pub with_space : Name → Name
with_space [] = codes " " ∷ []
with_space (c ∷ []) = (c ++ codes " ") ∷ []
with_space (c ∷ d ∷ ds) = c ∷ with_space (d ∷ ds)

pub with_space-named : (n : Name) → IsName (with_space n)
with_space-named [] = lit< tt
with_space-named (c ∷ []) = lit< tt
with_space-named (c ∷ d ∷ ds) = omega arith

component-space : (c : List ℕ) → component (c ++ codes " ") ≡ component c ++ codes " "
component-space [] = refl
component-space (b ∷ c) = ap (λ z. item_text (item_of b) ++ z) (component-space c)
    ∙ sym (append_assoc (item_text (item_of b)) (component c) (codes " "))

inside-with_space : (n : Name) → IsName n → inside n ++ codes " " ≡ inside (with_space n)
inside-with_space [] h = absurd (omega arith)
inside-with_space (c ∷ []) h = sym (component-space c)
inside-with_space (c ∷ d ∷ []) h = append_assoc (component c) (46 ∷ inside (d ∷ [])) (codes " ")
    ∙ ap (λ z. component c ++ 46 ∷ z) (inside-with_space (d ∷ []) (lit< tt))
inside-with_space (c ∷ d ∷ e ∷ es) h = append_assoc (component c) (46 ∷ inside (d ∷ e ∷ es)) (codes " ")
    ∙ ap (λ z. component c ++ 46 ∷ z) (inside-with_space (d ∷ e ∷ es) (omega arith))

pub no_inner_space : (c : List ℕ) → list_all is_inner (c ++ codes " ") ≡ false
no_inner_space [] = refl
no_inner_space (b ∷ c) = ap (λ t. is_inner b && t) (no_inner_space c) ∙ and_false (is_inner b)
  where
    and_false : (p : Bool) → (p && false) ≡ false
    and_false true = refl
    and_false false = refl

pub no_part_space : (c : List ℕ) → is_part (c ++ codes " ") ≡ false
no_part_space [] = refl
no_part_space (b ∷ c) = ap (λ t. is_letter b && t) (no_inner_space c) ∙ and_false (is_letter b)
  where
    and_false : (p : Bool) → (p && false) ≡ false
    and_false true = refl
    and_false false = refl

pub no_bare_space : (n : Name) → is_bare (with_space n) ≡ false
no_bare_space [] = refl
no_bare_space (c ∷ []) = ap (λ t. t && true) (no_part_space c)
no_bare_space (c ∷ d ∷ ds) = ap (λ t. is_part c && t) (no_bare_space (d ∷ ds)) ∙ and_false (is_part c)
  where
    and_false : (p : Bool) → (p && false) ≡ false
    and_false true = refl
    and_false false = refl

-- ---- a spelling behind its opening quote
module _ (good : Name → Bool) (spaced : (n : Name) → good (with_space n) ≡ true) where
  pub record SaysQuoted (n : Name) (x : List ℕ) : Type 0 where
    pub named : IsName n
    pub fine : good n ≡ true
    pub text : 34 ∷ x ≡ spelled n

  extend : (n : Name) (x : List ℕ) → SaysInside n x → Extends SaysInside good x
  extend n x h = record {
    value = with_space n;
    more = codes " ";
    says = record {
      named = with_space-named n;
      text = ap (λ z. z ++ codes " ") h.text
          ∙ inside-with_space n h.named;
    };
    fine = spaced n;
  }

  abbrev Quoted : Name → List ℕ → Type 0
  Quoted = Joined (Kept SaysInside good) (λ n. Image (λ _. n) (Is (codes "\"")))

  pub quoted-reads : Reads SaysQuoted Any (quoted_at good)
  quoted-reads = told Quoted SaysQuoted Any (quoted_at good)
      (join (Kept SaysInside good) (λ n. Image (λ _. n) (Is (codes "\""))) IsQuote Any (λ s. kept good (spelled_at s))
      (λ n r. mapped (λ _. n) (literal_at (codes "\"") r))
      (kept-reads SaysInside IsQuote spelled_at good extend spelled-reads)
      (λ n. mapped-reads (λ _. n) (Is (codes "\"")) Any (literal_at (codes "\"")) (literal-reads (codes "\"")))
      (λ n. (n, codes "\"", record { from = tt; says = refl; is = refl }))
      (λ n m y r h e. record { rest = r; is = ap (λ z. z ++ r) h.says }))
      (λ n x h. subst (λ m. SaysQuoted m x) (sym h.then.is) (record {
        named = h.says.says.named;
        fine = h.says.fine;
        text = ap (λ z. 34 ∷ z) (h.is ∙ (λ i. h.says.says.text i ++ h.then.says i));
      }))
      (λ n x h. record {
        one = n;
        front = inside n;
        back = codes "\"";
        says = record { says = record { named = h.named; text = refl }; fine = h.fine };
        then = record { from = tt; says = refl; is = refl };
        is = let e = h.text in cc;
      })

-- ---- the words of variables
abbrev spelled_word : Name → Bool
spelled_word n = not (is_bare n)

abbrev quote_at : List ℕ → Reading Name
quote_at s = next (literal_at (codes "\"") s) (λ _ r. quoted_at spelled_word r)

spaced-word : (n : Name) → spelled_word (with_space n) ≡ true
spaced-word n = ap not (no_bare_space n)

abbrev Quote : Name → List ℕ → Type 0
Quote = Joined (Is (codes "\"")) (λ _. SaysQuoted spelled_word spaced-word)

abbrev space_name : Name
space_name = codes " " ∷ []

some-quoted : SaysQuoted spelled_word spaced-word space_name (codes " \"")
some-quoted = record { named = lit< tt; fine = refl; text = refl }

quote-reads : Reads Quote IsEnd quote_at
quote-reads =
    weaken Quote Any IsEnd quote_at (λ _ _. tt) (join (Is (codes "\"")) (λ _. SaysQuoted spelled_word spaced-word) Any
    Any (literal_at (codes "\"")) (λ _ r. quoted_at spelled_word r)
    (literal-reads (codes "\"")) (λ _. quoted-reads spelled_word spaced-word)
    (λ _. (space_name, codes " \"", some-quoted)) (λ _ _ _ _ _ _. tt))

abbrev is_quote : ℕ → Bool
is_quote b = b == 34

abbrev Variable_word : Name → List ℕ → Type 0
Variable_word = Either Quote SaysBare IsEnd quote_at bare_at is_quote

pub bare-byte : (n : Name) (x : List ℕ) → SaysBare n x → Begins is_letter true x
bare-byte [] x h = absurd (let k = h.named in omega (arith, k))
bare-byte ([] ∷ cs) x h = cc
bare-byte ((b ∷ c) ∷ []) x h =
    record {
      byte = b;
      rest = c;
      is = h.text;
      tells = (and_parts (is_letter b) (list_all is_inner c)
          (and_parts (is_letter b && list_all is_inner c) true h.bare).0).0;
    }
bare-byte ((b ∷ c) ∷ d ∷ ds) x h =
    record {
      byte = b;
      rest = c ++ 46 ∷ dotted (d ∷ ds);
      is = h.text;
      tells = (and_parts (is_letter b) (list_all is_inner c)
          (and_parts (is_letter b && list_all is_inner c) (is_bare (d ∷ ds)) h.bare).0).0;
    }

quote-byte : (n : Name) (x : List ℕ) → Quote n x → Begins is_quote true x
quote-byte n x h = record { byte = 34; rest = h.back; is = h.is ∙ ap (λ z. z ++ h.back) h.says; tells = refl }

word-says : (n : Name) (x : List ℕ) → Variable_word n x → SaysVariable n x
word-says n x h = elim h [
  | inl q ↦ let w = q.0.then in
      record {
        named = w.named;
        text = q.0.is ∙ ap (λ z. z ++ q.0.back) q.0.says ∙ w.text
            ∙ chosen (is_bare n) w.fine;
      }
  | inr b ↦ let w = b.0 in
      record { named = w.named; text = w.text ∙ (λ i. cond (sym w.bare i) (dotted n) (spelled n)) }
]
  where
    chosen : (t : Bool) → not t ≡ true → spelled n ≡ cond t (dotted n) (spelled n)
    chosen true e = cc
    chosen false e = refl

says-word : (n : Name) (x : List ℕ) → SaysVariable n x → Variable_word n x
says-word n x h = go (is_bare n) refl h.text where
  go : (t : Bool) → is_bare n ≡ t → x ≡ cond t (dotted n) (spelled n) → Variable_word n x
  go true e q = let w : SaysBare n x = record { bare = e; named = h.named; text = q } in let k = bare-byte n x w in
      inr (w, record { byte = k.byte; rest = k.rest; is = k.is; tells = differs is_letter 34 k.byte refl k.tells })
  go false e q = let w : Quote n x =
      record {
        one = tt;
        front = codes "\"";
        back = inside n ++ 34 ∷ [];
        says = refl;
        then = record { named = h.named; fine = ap not e; text = refl };
        is = q;
      } in
      inl (w, quote-byte n x w)

pub variable-reads : Reads SaysVariable IsEnd variable_at
variable-reads = told Variable_word SaysVariable IsEnd variable_at
    (same-reads Variable_word IsEnd (picked Quote SaysBare IsEnd quote_at bare_at is_quote) variable_at same
    (pick Quote SaysBare IsEnd quote_at bare_at is_quote (codes "a" ∷ []) (codes "a")
    (says-word (codes "a" ∷ []) (codes "a") (record { named = lit< tt; text = refl })) quote-reads bare-reads
    (λ n x h. let k = quote-byte n x h in record { byte = k.byte; rest = k.rest; is = k.is })
    (λ n x h. let k = bare-byte n x h in record { byte = k.byte; rest = k.rest; is = k.is })))
    word-says says-word
  where
    same : (s : List ℕ) → variable_at s ≡ picked Quote SaysBare IsEnd quote_at bare_at is_quote s
    same [] = refl
    same (b ∷ s) = go (b == 34) refl where
      go : (t : Bool) → (b == 34) ≡ t → cond t (quoted_at spelled_word s) (bare_at (b ∷ s))
          ≡ cond t (quote_at (b ∷ s)) (bare_at (b ∷ s))
      go true e = λ i. next (cond (sym e i) (Got tt s) (Halted NoForm (b ∷ s))) (λ _ r. quoted_at spelled_word r)
      go false e = refl
