-- The bytes of a written article run as its lines do.
use Rattle.std.proofs.Common.{◌≡◌, ℕ, suc, ◌+◌, ◌<◌, ◌≤◌, ◌^◌, ◌==◌, inl, inr, Bool, true}
use Rattle.std.proofs.Common.{false, List, [], ◌∷◌, ◌++◌, length, reverse, map, None, Result}
use Rattle.std.proofs.Common.{Ok, refl, sym, ap, subst, ◌∙◌, arith, append_assoc, length-append}
use Rattle.std.specs.Prelude.{pos, negsuc, nat_lt, nat_le, ◌||◌}
use Rattle.std.proofs.lemmas.List.{reverse-append, reverse-reverse}
use Rattle.std.specs.List.{list_all}
use Rattle.std.specs.Char.{is_ascii_digit}
use Rattle.std.specs.Fmt.{decimal}
use Rattle.std.proofs.lemmas.Fmt.{digits_decimal, decimal_nonempty, length-decimal-le}
use Rattle.ot_article.proofs.Making.{last_of}
use Rattle.std.proofs.lemmas.Bool.Decides.{nat_tests, eqb_tells}
use Rattle.std.proofs.lemmas.Bool.{and_parts}
use Rattle.ot_logic.specs.Lists.{IsMember}
use Rattle.ot_logic.specs.Names.{Name, spelled, joined, item_of}
use Rattle.ot_logic.specs.Commands.{spelling}
use Rattle.ot_logic.specs.declared.command.Cmd.{Cmd}
use Rattle.ot_logic.specs.declared.command.Cmd.TheVariants as words
use Rattle.ot_lines.specs.Pieces.{pieces, onto_first, without_last, is_blank}
use Rattle.ot_lines.specs.Pieces.{trim_front, trim_back, text_of, is_skipped}
use Rattle.ot_scan.specs.Lines.{Lines, limit_fault, lines_after, lines_of}
use Rattle.ot_scan.specs.Words.{word}
use Rattle.ot_scan.specs.Words as wordings
use Rattle.ot_machine.specs.States.{State, no_context}
use Rattle.ot_machine.specs.Step.{Command, command_of}
use Rattle.ot_written.specs.Written.{Line, Numeral, Spelled, Order}
use Rattle.ot_article.proofs.LineRun.{run, line_step, command, marks, marks_after}
use Rattle.ot_machine.specs.Marks as machine
use Rattle.ot_machine.specs.Marks.{mark, marks_of}
use Rattle.ot_logic.specs.Faults.{Fault}
use Rattle.ot_trace.specs.Origins.{Origin}
use Rattle.ot_logic.specs.Answers.{◌>>=◌}
use Rattle.ot_machine.specs.Run as articles
use Rattle.ot_written.specs.Bytes.{line_text, line_bytes, bytes_of}
use Rattle.ot_article.proofs.LineRun.{IsReadable, AreReadable}
use Rattle.ot_article.proofs.LineTexts.{all_digits, digit-range, decimal-read}
use Rattle.ot_article.proofs.LineTexts.{negative-read, range-pos, range-neg, order-read, name-back, spelled-read}
use Rattle.ot_logic.proofs.Results.{bind-ok}

-- ---- pieces

pub pieces-whole : (front rest : List ℕ) → ¬ (IsMember 10 front) → pieces (front ++ 10 ∷ rest) ≡ (front ++ 10 ∷ [])
    ∷ pieces rest
pieces-whole [] rest h = refl
pieces-whole (b ∷ front) rest h = elim (eqb_tells b 10) [
  | inl e ↦ absurd (h (inl e.1))
  | inr e ↦ rw e.0 (ap (onto_first b) (pieces-whole front rest (λ m. h (inr m))))
]

-- ---- the text of a piece

-- a text that stays as it is: its first and its last byte are no blanks, the first begins no comment, the last is no
-- CR
pub record IsTidy (text : List ℕ) : Type 0 where
  pub first : ℕ
  pub more : List ℕ
  pub begins : text ≡ first ∷ more
  pub solid : is_blank first ≡ false
  pub said : (first == 35) ≡ false
  pub front : List ℕ
  pub last : ℕ
  pub ends : text ≡ front ++ last ∷ []
  pub end_solid : is_blank last ≡ false
  pub no_return : (last == 13) ≡ false

without-newline : (x : ℕ) (xs : List ℕ) → without_last x (xs ++ x ∷ []) ≡ xs
without-newline x [] = let e : (x == x) ≡ true = grind (arith, nat_tests) in rw e refl
without-newline x (y ∷ []) = let e : (x == x) ≡ true = grind (arith, nat_tests) in rw e refl
without-newline x (y ∷ z ∷ xs) = ap (λ l. y ∷ l) (without-newline x (z ∷ xs))

without-other : (x : ℕ) (xs : List ℕ) (z : ℕ) → (z == x) ≡ false → without_last x (xs ++ z ∷ []) ≡ xs ++ z ∷ []
without-other x [] z h = rw h refl
without-other x (y ∷ []) z h = rw h refl
without-other x (y ∷ w ∷ xs) z h = ap (λ l. y ∷ l) (without-other x (w ∷ xs) z h)

tidy-text : (text : List ℕ) → IsTidy text → text_of (text ++ 10 ∷ []) ≡ text
tidy-text text i =
    let a : without_last 10 (text ++ 10 ∷ []) ≡ text = without-newline 10 text in
    let b : without_last 13 text ≡ text = ap (without_last 13) i.ends ∙ without-other 13 i.front i.last i.no_return
    ∙ sym i.ends in
    let c : trim_front text ≡ text = ap trim_front i.begins ∙ rw i.solid refl ∙ sym i.begins in
    let r : reverse (i.front ++ i.last ∷ []) ≡ i.last ∷ reverse i.front = reverse-append i.front (i.last ∷ []) in
    let d : trim_front (i.last ∷ reverse i.front) ≡ i.last ∷ reverse i.front = rw i.end_solid refl in
    let e : trim_back text ≡ text = ap trim_back i.ends ∙ ap (λ l. reverse (trim_front l)) r ∙ ap reverse d
    ∙ ap reverse (sym r) ∙ reverse-reverse (i.front ++ i.last ∷ []) ∙ sym i.ends in
    ap (λ l. trim_back (trim_front (without_last 13 l))) a ∙ ap (λ l. trim_back (trim_front l)) b ∙ ap trim_back c ∙ e

tidy-said : (text : List ℕ) → IsTidy text → is_skipped text ≡ false
tidy-said text i = ap is_skipped i.begins ∙ i.said

-- ---- the text of a line

-- it is the text of its piece, holds a command, and keeps the limit of a line
pub record IsLineText (text : List ℕ) : Type 0 where
  pub stays : text_of (text ++ 10 ∷ []) ≡ text
  pub said : is_skipped text ≡ false
  pub unbroken : ¬ (IsMember 10 text)
  pub short : length text ≤ 65535

abbrev breaks : List ℕ → Bool
breaks [] = false
breaks (b ∷ bs) = (b == 10) || breaks bs

pub unbroken-by : (text : List ℕ) → breaks text ≡ false → ¬ (IsMember 10 text)
unbroken-by [] h m = m
unbroken-by (b ∷ bs) h (inl e) =
    elim (eqb_tells b 10) [ inl p ↦ (let f : (true || breaks bs) ≡ false = rw p.0 at h in cc) | inr p ↦ p.1 e ]
unbroken-by (b ∷ bs) h (inr m) = unbroken-by bs (later (b == 10) h) m
  where
    later : (t : Bool) → (t || breaks bs) ≡ false → breaks bs ≡ false
    later true e = absurd (cc)
    later false e = e

pub tidy-line : (text : List ℕ) → IsTidy text → ¬ (IsMember 10 text) → length text ≤ 65535 → IsLineText text
tidy-line text i h k = record { stays = tidy-text text i; said = tidy-said text i; unbroken = h; short = k }

word-stays : (w : Cmd) → text_of (spelling w ++ 10 ∷ []) ≡ spelling w
word-stays words.Version = refl
word-stays _ = refl

word-said : (w : Cmd) → is_skipped (spelling w) ≡ false
word-said words.Version = refl
word-said _ = refl

word-unbroken : (w : Cmd) → breaks (spelling w) ≡ false
word-unbroken words.Version = refl
word-unbroken _ = refl

word-short : (w : Cmd) → nat_le (length (spelling w)) 65535 ≡ true
word-short words.Version = refl
word-short _ = refl

word-text : (w : Cmd) → IsLineText (spelling w)
word-text w =
    record {
      stays = word-stays w;
      said = word-said w;
      unbroken = unbroken-by (spelling w) (word-unbroken w);
      short = let h = word-short w in grind (arith, nat_tests);
    }

pub name-tidy : (n : Name) → IsTidy (spelled n)
name-tidy n = record {
  first = 34;
  more = joined (map (map item_of) n) ++ 34 ∷ [];
  begins = refl;
  solid = refl;
  said = refl;
  front = 34 ∷ joined (map (map item_of) n);
  last = 34;
  ends = refl;
  end_solid = refl;
  no_return = refl;
}

digit-solid : (d : ℕ) → is_ascii_digit d ≡ true → (is_blank d ≡ false) × ((d == 35) ≡ false) × ((d == 13) ≡ false)
    × ((d == 10) ≡ false)
digit-solid d h =
    let r = digit-range d h in
    let low : 48 ≤ d = r.0 in
    let a : (d == 32) ≡ false = grind (arith, nat_tests) in
    let b : (d == 9) ≡ false = grind (arith, nat_tests) in
    (rw (a, b) refl, grind (arith, nat_tests), grind (arith, nat_tests), grind (arith, nat_tests))

all-last : (f : ℕ → Bool) (xs : List ℕ) (x : ℕ) → list_all f (xs ++ x ∷ []) ≡ true → f x ≡ true
all-last f [] x h = (and_parts (f x) true h).0
all-last f (y ∷ xs) x h = all-last f xs x (and_parts (f y) (list_all f (xs ++ x ∷ [])) h).1

digits-unbroken : (ds : List ℕ) → list_all is_ascii_digit ds ≡ true → breaks ds ≡ false
digits-unbroken [] h = refl
digits-unbroken (d ∷ ds) h =
    let a = digit-solid d (and_parts (is_ascii_digit d) (list_all is_ascii_digit ds) h).0 in
    let b = digits-unbroken ds (and_parts (is_ascii_digit d) (list_all is_ascii_digit ds) h).1 in
    rw (a.3, b) refl

digits-tidy : (ds : List ℕ) → list_all is_ascii_digit ds ≡ true → 0 < length ds → IsTidy ds
digits-tidy [] h some = absurd (omega arith)
digits-tidy (d ∷ ds) h some =
    let l = last_of (d ∷ ds) (length ds) refl in
    let first = digit-solid d (and_parts (is_ascii_digit d) (list_all is_ascii_digit ds) h).0 in
    let last = digit-solid l.1 (all-last is_ascii_digit l.0 l.1 (ap (list_all is_ascii_digit) (sym l.2) ∙ h)) in
    record {
      first = d;
      more = ds;
      begins = refl;
      solid = first.0;
      said = first.1;
      front = l.0;
      last = l.1;
      ends = l.2;
      end_solid = last.0;
      no_return = last.2;
    }

pub number-text : (n : ℕ) → n < 2 ^ 63 → IsLineText (decimal n)
number-text n h =
    let k : n < 2 ^ 64 = omega arith in
    let all = digits_decimal all_digits n k in
    let wide : n < 10 ^ 20 = omega arith in
    let len = length-decimal-le 20 n (omega arith) wide k in
    tidy-line (decimal n) (digits-tidy (decimal n) all (decimal_nonempty n k))
    (unbroken-by (decimal n) (digits-unbroken (decimal n) all)) (omega arith)

minus-tidy : (ds : List ℕ) → IsTidy ds → IsTidy (45 ∷ ds)
minus-tidy ds i = record {
  first = 45;
  more = ds;
  begins = refl;
  solid = refl;
  said = refl;
  front = 45 ∷ i.front;
  last = i.last;
  ends = ap (λ l. 45 ∷ l) i.ends;
  end_solid = i.end_solid;
  no_return = i.no_return;
}

negative-text : (n : ℕ) → n < 2 ^ 63 → IsLineText (45 ∷ decimal (suc n))
negative-text n h =
    let k : suc n < 2 ^ 64 = omega arith in
    let all = digits_decimal all_digits (suc n) k in
    let wide : suc n < 10 ^ 20 = omega arith in
    let len = length-decimal-le 20 (suc n) (omega arith) wide k in
    tidy-line (45 ∷ decimal (suc n))
    (minus-tidy (decimal (suc n)) (digits-tidy (decimal (suc n)) all (decimal_nonempty (suc n) k)))
    (unbroken-by (45 ∷ decimal (suc n)) (digits-unbroken (decimal (suc n)) all)) (omega arith)

-- what a line that is read back says
record IsLine (l : Line Name) : Type 0 where
  text : IsLineText (line_text l)
  says : wordings.WordValue
  read : word (line_text l) ≡ Ok says
  means : command_of says ≡ Ok (command l)

line-is : (l : Line Name) → IsReadable l → IsLine l
line-is (Numeral (pos n)) r =
    record {
      text = number-text n (range-pos n r);
      says = wordings.Numeral (pos n);
      read = decimal-read n (range-pos n r);
      means = refl;
    }
line-is (Numeral (negsuc n)) r =
    record {
      text = negative-text n (range-neg n r);
      says = wordings.Numeral (negsuc n);
      read = negative-read n r;
      means = refl;
    }
line-is (Spelled n) r =
    record {
      text = tidy-line (spelled n) (name-tidy n) r.line.one r.line.short;
      says = wordings.Quoted (spelled n);
      read = spelled-read n r.named;
      means = rw (name-back n r.named) refl;
    }
line-is (Order w) r = record { text = word-text w; says = wordings.Order w; read = order-read w; means = refl }

-- ---- the run

pub pieces-lines : (ls : List (Line Name)) → AreReadable ls → pieces (bytes_of ls) ≡ map line_bytes ls
pieces-lines [] h = refl
pieces-lines (l ∷ ls) h =
    let i = line-is l h.0 in
    ap pieces (append_assoc (line_text l) (10 ∷ []) (bytes_of ls)) ∙ pieces-whole (line_text l) (bytes_of ls)
    i.text.unbroken ∙ ap (λ ps. line_bytes l ∷ ps) (pieces-lines ls h.1)

pub within : (max before : ℕ) (text : List ℕ) → length text ≤ 65535 → before + length (text ++ 10 ∷ []) ≤ max
    → limit_fault max before (text ++ 10 ∷ []) ≡ None
within max before text short fits =
    let a : without_last 10 (text ++ 10 ∷ []) ≡ text = without-newline 10 text in
    let b : nat_le 65536 (length (without_last 10 (text ++ 10 ∷ []))) ≡ false = ap (λ z. nat_le 65536 (length z)) a
    ∙ few in
    let c : nat_lt max (before + length (text ++ 10 ∷ [])) ≡ false = grind (arith, nat_tests) in
    rw (b, c) refl
  where
    few : nat_le 65536 (length text) ≡ false
    few = grind (arith, nat_tests)

-- the lines run, and have their marks
pub record RunAlike (ls : List (Line Name)) (lines : Lines) (s t : State) : Type 0 where
  pub ends : articles.run no_context lines s ≡ articles.Ended t
  pub marks_are : marks_of no_context lines s ≡ marks ls s

one-mark : (l : Line Name) (said : Result Command (Fault Name)) (r q : Result State (Fault Name)) (t : State)
    (later other : State → List (Origin Name)) → said ≡ Ok (command l) → r ≡ Ok t → q ≡ Ok t → later t ≡ other t
    → machine.marks_after said r later ≡ marks_after l q other
one-mark l said r q t later other e f g h = (λ i. machine.marks_after (e i) (f i) later)
    ∙ ap (λ ms. mark (command l) t ++ ms) h ∙ sym (ap (λ z. marks_after l z other) g)

run-lines : (ls : List (Line Name)) (max before number : ℕ) (s t : State) → AreReadable ls → before + length
    (bytes_of ls) ≤ max → run ls s ≡ Ok t → RunAlike ls (lines_after max before number (map line_bytes ls)) s t
run-lines [] max before number s t h fits p = let e : s ≡ t = cc in
    record { ends = ap articles.Ended e; marks_are = refl }
run-lines (l ∷ ls) max before number s t h fits p =
    let i = line-is l h.0 in
    let long = length-append (line_bytes l) (bytes_of ls) in
    let here : limit_fault max before (line_bytes l) ≡ None =
    within max before (line_text l) i.text.short (omega arith) in
    let b = bind-ok (line_step l s) (run ls) t p in
    let stepped : articles.line_step no_context s (line_text l) ≡ Ok b.0 = rw (i.read, i.means) b.1 in
    let said : (word (line_text l) >>= command_of) ≡ Ok (command l) = rw (i.read) i.means in
    let rest = run-lines ls max (before + length (line_bytes l)) (number + 1) b.0 t h.1 (omega arith) b.2 in
    record {
      ends = rw (here, i.text.stays, i.text.said, stepped) rest.ends;
      marks_are = rw (here, i.text.stays, i.text.said)
          (one-mark l _ _ (line_step l s) b.0 _ (marks ls) said stepped b.1 rest.marks_are);
    }

pub bytes-run : (ls : List (Line Name)) (max : ℕ) (s t : State) → AreReadable ls → length (bytes_of ls) ≤ max
    → run ls s ≡ Ok t → RunAlike ls (lines_of max (bytes_of ls)) s t
bytes-run ls max s t h fits p = subst (λ ps. RunAlike ls (lines_after max 0 0 ps) s t) (sym (pieces-lines ls h))
    (run-lines ls max 0 0 s t h (omega arith) p)
