-- A value is split exactly where it is an interpretation.
use Rattle.std.proofs.Common.{◌≡◌, ◌≤◌, ◌+◌, ℕ, suc, List, [], ◌∷◌, ◌++◌, length, take, drop, Bool, true}
use Rattle.std.proofs.Common.{false, ◌==◌, ◌&&◌, refl, sym, ap, ◌∙◌, inl, inr, arith, Some, None, append-nil}
use Rattle.std.specs.Prelude.{Option, codes, is_some, nat_le, IfSome}
use Rattle.std.specs.Borrow.{Bor}
use Rattle.std.specs.List.{list_all}
use Rattle.std.specs.Option.{option_and_then}
use Rattle.std.specs.Str.{bytes_eq}
use Rattle.std.proofs.lemmas.Bool.Decides.{eqb_tells}
use Rattle.std.proofs.lemmas.List.{take-append-drop, take_at, drop_at, length-take}
use Rattle.std.proofs.lemmas.Option.{none-some, same_Some, cond_some, option_and_then_some}
use Rattle.std.proofs.lemmas.Slice.Eq.{bytes_eq-Decides}
use Rattle.std.proofs.lemmas.Bool.{and_parts}
use Rattle.ot_lines.specs.Pieces.{is_blank, trim_front}
use Rattle.ot_logic.specs.Names.{Name}
use Rattle.ot_logic.specs.Reading.{Reading, Done, Unended, Trails, read_from, push, dot, name_read, done_name}
use Rattle.ot_theory.specs.declared.interpretation.SymbolWord.{SymbolWord}
use Rattle.ot_theory.specs.declared.interpretation.SymbolWord.TheVariants.{Con, TyOp}
use Rattle.ot_theory.specs.Interpretations.{◌>>=◌, AreBlanks, IsQuotedName, IsInterpretation, OneInterpretation}
use Rattle.ot_theory.specs.Interpretations.{kind_text, after_word, after_blanks, kind_front, with_kind, longer}
use Rattle.ot_theory.specs.Interpretations.{quote_len, name_at, quoted_front, whole, split_interpret, parts_value}

-- what a step that answers was given
pub bind_some : {A B : Type 0} (o : Option A) (f : A → Option B) (y : B) → (o >>= f) ≡ Some y
    → (x : A) × ((o ≡ Some x) × (f x ≡ Some y))
bind_some None f y e = absurd (none-some y e)
bind_some (Some x) f y e = (x, (refl, e))

-- ---- from left to right

same_bytes : (xs ys : List ℕ) → bytes_eq xs ys ≡ true → xs ≡ ys
same_bytes xs ys e = (bytes_eq-Decides xs ys).0 e

word_before : (word text rest : List ℕ) → after_word word text ≡ Some rest → text ≡ word ++ rest
word_before word text rest e =
    let h = cond_some (bytes_eq (take (length word) text) word) (drop (length word) text) rest e in
    sym (take-append-drop (length word) text) ∙ ap (λ z. z ++ drop (length word) text) (same_bytes _ _ h.0)
    ∙ ap (λ z. word ++ z) h.1

-- the blanks that are dropped from a front
front_blanks : (text : List ℕ) → (gap : List ℕ) × ((list_all is_blank gap ≡ true) × (text ≡ gap ++ trim_front text))
front_blanks [] = ([], (refl, refl))
front_blanks (b ∷ bs) = by_blank b bs (is_blank b) refl (front_blanks bs) where
  by_blank : (b : ℕ) (bs : List ℕ) (t : Bool) → is_blank b ≡ t
      → (gap : List ℕ) × ((list_all is_blank gap ≡ true) × (bs ≡ gap ++ trim_front bs))
      → (gap : List ℕ) × ((list_all is_blank gap ≡ true) × (b ∷ bs ≡ gap ++ trim_front (b ∷ bs)))
  by_blank b bs true e h = (b ∷ h.0, (rw e h.1.0, rw e (ap (λ z. b ∷ z) h.1.1)))
  by_blank b bs false e h = ([], (refl, rw e refl))

blanks_before : (text rest : List ℕ) → after_blanks text ≡ Some rest
    → (gap : List ℕ) × (AreBlanks gap × (text ≡ gap ++ rest))
blanks_before [] rest e = absurd (none-some rest e)
blanks_before (b ∷ bs) rest e =
    let h = cond_some (is_blank b) (trim_front bs) rest e in
    let g = front_blanks bs in
    (b ∷ g.0, (record { some = omega arith; each = rw h.0 g.1.0 }, ap (λ z. b ∷ z) (g.1.1 ∙ ap (λ z. g.0 ++ z) h.1)))

name_inside : (o : Option Name) → is_some o ≡ true → (name : Name) × (o ≡ Some name)
name_inside None e = cc
name_inside (Some name) e = (name, refl)

named : (text : List ℕ) (len : ℕ) (p : List ℕ × List ℕ) → name_at text len ≡ Some p
    → IsQuotedName p.0 × (text ≡ p.0 ++ p.1)
named text len p e =
    let h = cond_some (nat_le len 65535 && is_some (name_read (take len text))) (take len text, drop len text) p e in
    let both = and_parts (nat_le len 65535) (is_some (name_read (take len text))) h.0 in
    let name = name_inside (name_read (take len text)) both.1 in
    let front : take len text ≡ p.0 = ap (λ z. z.0) h.1 in
    let back : drop len text ≡ p.1 = ap (λ z. z.1) h.1 in
    let fits : len ≤ 65535 = grind (arith, both.0) in (
      record {
        name = name.0;
        read = ap name_read (sym front) ∙ name.1;
        limited = rw (← front) (omega (arith, fits, length-take len text));
      },
      sym (take-append-drop len text) ∙ ap (λ z. z ++ drop len text) front ∙ ap (λ z. p.0 ++ z) back,
    )

name_before : (text : List ℕ) (p : List ℕ × List ℕ) → quoted_front text ≡ Some p
    → IsQuotedName p.0 × (text ≡ p.0 ++ p.1)
name_before [] p e = absurd (none-some p e)
name_before (b ∷ bs) p e = elim (eqb_tells b 34) [
  | inl q ↦ option_and_then_some (λ n. name_at (b ∷ bs) (n + 1)) (quote_len bs) p (rw q.0 at e)
      (λ n at is. named (b ∷ bs) (n + 1) p is)
  | inr q ↦ absurd (none-some p (rw q.0 at e))
]

kind_before : (text : List ℕ) (p : SymbolWord × List ℕ) → kind_front text ≡ Some p → text ≡ kind_text p.0 ++ p.1
kind_before text p e = first (after_word (codes "const") text) refl e where
  second : (o : Option (List ℕ)) → after_word (codes "type") text ≡ o → with_kind TyOp o None ≡ Some p
      → text ≡ kind_text p.0 ++ p.1
  second None is e = absurd (none-some p e)
  second (Some rest) is e = word_before (codes "type") text rest is ∙ ap (λ z. kind_text z.0 ++ z.1) (same_Some _ _ e)

  first : (o : Option (List ℕ)) → after_word (codes "const") text ≡ o
      → with_kind Con o (with_kind TyOp (after_word (codes "type") text) None) ≡ Some p → text ≡ kind_text p.0 ++ p.1
  first None is e = second (after_word (codes "type") text) refl e
  first (Some rest) is e = word_before (codes "const") text rest is ∙ ap (λ z. kind_text z.0 ++ z.1) (same_Some _ _ e)

all_read : (kind : SymbolWord) (from to rest : List ℕ) (p : SymbolWord × List ℕ × List ℕ) → whole kind from to rest
    ≡ Some p → (rest ≡ []) × ((kind, from, to) ≡ p)
all_read kind from to [] p e = (refl, same_Some _ _ e)
all_read kind from to (b ∷ bs) p e = absurd (none-some p e)

split_is : (value : List ℕ) (kind : SymbolWord) (from to : List ℕ) → split_interpret value ≡ Some (kind, from, to)
    → IsInterpretation value kind from to
split_is value kind from to e =
    let k = bind_some (kind_front value) _ _ e in
    let a = bind_some (after_blanks k.0.1) _ _ k.1.1 in
    let f = bind_some (quoted_front a.0) _ _ a.1.1 in
    let b = bind_some (after_blanks f.0.1) _ _ f.1.1 in
    let w = bind_some (after_word (codes "as") b.0) _ _ b.1.1 in
    let c = bind_some (after_blanks w.0) _ _ w.1.1 in
    let t = bind_some (quoted_front c.0) _ _ c.1.1 in
    let done = all_read k.0.0 f.0.0 t.0.0 t.0.1 (kind, from, to) t.1.1 in
    let first = blanks_before k.0.1 a.0 a.1.0 in
    let second = blanks_before f.0.1 b.0 b.1.0 in
    let third = blanks_before w.0 c.0 c.1.0 in
    let kind_is : k.0.0 ≡ kind = ap (λ z. z.0) done.1 in
    let from_is : f.0.0 ≡ from = ap (λ z. z.1) done.1 in
    let to_is : t.0.0 ≡ to = ap (λ z. z.2) done.1 in
    let from_name = name_before a.0 f.0 f.1.0 in
    let to_name = name_before c.0 t.0 t.1.0 in
    let last : c.0 ≡ to = to_name.1 ∙ ap (λ z. t.0.0 ++ z) done.0 ∙ append-nil t.0.0 ∙ to_is in
    record {
      first_gap = first.0;
      second_gap = second.0;
      third_gap = third.0;
      first_blanks = first.1.0;
      second_blanks = second.1.0;
      third_blanks = third.1.0;
      from_named = rw from_is at from_name.0;
      to_named = rw to_is at to_name.0;
      text =
          kind_before value k.0 k.1.0
          ∙ ap (λ z. kind_text z ++ k.0.1) kind_is
          ∙ ap (λ z. kind_text kind ++ z) (first.1.1
          ∙ ap (λ z. first.0 ++ z) (from_name.1
          ∙ ap (λ z. z ++ f.0.1) from_is
          ∙ ap (λ z. from ++ z) (second.1.1
          ∙ ap (λ z. second.0 ++ z) (word_before (codes "as") b.0 w.0 w.1.0
          ∙ ap (λ z. codes "as" ++ z) (third.1.1
          ∙ ap (λ z. third.0 ++ z) last)))));
    }

-- ---- and back

-- a quoted name begins with a quote, and its other bytes are read as the name
quote_first : (text : List ℕ) (name : Name) → name_read text ≡ Some name
    → (inner : List ℕ) × ((text ≡ 34 ∷ inner) × (read_from inner ≡ Done name))
quote_first [] name e = absurd (none-some name e)
quote_first (b ∷ bs) name e = elim (eqb_tells b 34) [
  | inl q ↦ (bs, (ap (λ z. z ∷ bs) q.1, is_done (read_from bs) (rw q.0 at e)))
  | inr q ↦ absurd (none-some name (rw q.0 at e))
] where
  is_done : (r : Reading) → done_name r ≡ Some name → r ≡ Done name
  is_done (Done other) e = ap Done (same_Some other name e)
  is_done Unended e = absurd (none-some name e)
  is_done Trails e = absurd (none-some name e)

not_done : (name : Name) → Unended ≡ Done name → ⊥
not_done name e = cc

not_trailing : (name : Name) → Trails ≡ Done name → ⊥
not_trailing name e = cc

push_done : (b : ℕ) (r : Reading) (name : Name) → push b r ≡ Done name → (other : Name) × (r ≡ Done other)
push_done b (Done other) name e = (other, refl)
push_done b Unended name e = absurd (not_done name e)
push_done b Trails name e = absurd (not_trailing name e)

dot_done : (r : Reading) (name : Name) → dot r ≡ Done name → (other : Name) × (r ≡ Done other)
dot_done (Done other) name e = (other, refl)
dot_done Unended name e = absurd (not_done name e)
dot_done Trails name e = absurd (not_trailing name e)

one_more : (o : Option ℕ) (n : ℕ) → o ≡ Some n → longer 1 o ≡ Some (suc n)
one_more o n e = ap (longer 1) e ∙ ap Some (omega arith)

two_more : (o : Option ℕ) (n : ℕ) → o ≡ Some n → longer 2 o ≡ Some (suc (suc n))
two_more o n e = ap (longer 2) e ∙ ap Some (omega arith)

-- the front that ends at the first quote is the name's text, whatever follows
read_len : (inner rest : List ℕ) (name : Name) → read_from inner ≡ Done name → quote_len (inner ++ rest)
    ≡ Some (length inner)
read_len [] rest name e = absurd (not_done name e)
read_len (b ∷ []) rest name e = elim (eqb_tells b 34) [
  | inl q ↦ ending rest q.0
  | inr q ↦ absurd (not_done name (rw q.0 at e))
] where
  ending : (rest : List ℕ) → (b == 34) ≡ true → quote_len (b ∷ rest) ≡ Some 1
  ending [] is = rw is refl
  ending (c ∷ cs) is = rw is refl
read_len (b ∷ c ∷ bs) rest name e = elim (eqb_tells b 34) [
  | inl q ↦ absurd (not_trailing name (rw q.0 at e))
  | inr q ↦ rw q.0 (elim (eqb_tells b 92) [
    | inl h ↦
        let inside = push_done c (read_from bs) name (rw (q.0, h.0) at e) in
        rw h.0 (two_more (quote_len (bs ++ rest)) (length bs) (read_len bs rest inside.0 inside.1))
    | inr h ↦ rw h.0 (one_more (quote_len ((c ∷ bs) ++ rest)) (length (c ∷ bs)) (elim (eqb_tells b 46) [
      | inl d ↦
          let inside = dot_done (read_from (c ∷ bs)) name (rw (q.0, h.0, d.0) at e) in
          read_len (c ∷ bs) rest inside.0 inside.1
      | inr d ↦
          let inside = push_done b (read_from (c ∷ bs)) name (rw (q.0, h.0, d.0) at e) in
          read_len (c ∷ bs) rest inside.0 inside.1
    ]))
  ])
]

named_at : (text rest : List ℕ) (len : ℕ) (n : IsQuotedName text) → length text ≡ len → name_at (text ++ rest) len
    ≡ Some (text, rest)
named_at text rest len n e =
    let front : take len (text ++ rest) ≡ text = take_at text rest len e in
    let back : drop len (text ++ rest) ≡ rest = drop_at text rest len e in
    let fits : nat_le len 65535 ≡ true = grind (arith, e, n.limited) in
    rw (front, back, fits, n.read) refl

name_taken : (text rest : List ℕ) → IsQuotedName text → quoted_front (text ++ rest) ≡ Some (text, rest)
name_taken text rest n =
    let q = quote_first text n.name n.read in
    let len : quote_len (q.0 ++ rest) ≡ Some (length q.0) = read_len q.0 rest n.name q.1.1 in
    let begun : text ++ rest ≡ 34 ∷ (q.0 ++ rest) = ap (λ z. z ++ rest) q.1.0 in
    ap quoted_front begun
    ∙ ap (λ z. option_and_then (λ k. name_at (34 ∷ (q.0 ++ rest)) (k + 1)) z) len
    ∙ ap (λ z. name_at z (length q.0 + 1)) (sym begun)
    ∙ named_at text rest (length q.0 + 1) n (ap length q.1.0 ∙ omega arith)

blanks_dropped : (gap rest : List ℕ) → list_all is_blank gap ≡ true → trim_front rest ≡ rest
    → trim_front (gap ++ rest) ≡ rest
blanks_dropped [] rest all stays = stays
blanks_dropped (b ∷ bs) rest all stays =
    let both = and_parts (is_blank b) (list_all is_blank bs) all in
    rw both.0 (blanks_dropped bs rest both.1 stays)

blanks_taken : (gap rest : List ℕ) → AreBlanks gap → trim_front rest ≡ rest → after_blanks (gap ++ rest) ≡ Some rest
blanks_taken [] rest g stays = absurd (omega (arith, g.some))
blanks_taken (b ∷ bs) rest g stays =
    let both = and_parts (is_blank b) (list_all is_blank bs) g.each in
    rw both.0 (ap Some (blanks_dropped bs rest both.1 stays))

-- no blank stands before a quoted name
name_stays : (text rest : List ℕ) → IsQuotedName text → trim_front (text ++ rest) ≡ text ++ rest
name_stays text rest n =
    let q = quote_first text n.name n.read in
    rw q.1.0 refl

kind_taken : (kind : SymbolWord) (rest : List ℕ) → kind_front (kind_text kind ++ rest) ≡ Some (kind, rest)
kind_taken Con rest = refl
kind_taken TyOp rest = refl

split_from : (value : List ℕ) (kind : SymbolWord) (from to : List ℕ) → IsInterpretation value kind from to
    → split_interpret value ≡ Some (kind, from, to)
split_from value kind from to i =
    let third = i.third_gap ++ to in
    let second = i.second_gap ++ (codes "as" ++ third) in
    let first = i.first_gap ++ (from ++ second) in
    let to_nil : to ++ [] ≡ to = append-nil to in
    let to_stays : trim_front to ≡ to = ap trim_front (sym to_nil) ∙ name_stays to [] i.to_named ∙ to_nil in
    let k : kind_front value ≡ Some (kind, first) = ap kind_front i.text ∙ kind_taken kind first in
    let a : after_blanks first ≡ Some (from ++ second) =
    blanks_taken i.first_gap (from ++ second) i.first_blanks (name_stays from second i.from_named) in
    let f : quoted_front (from ++ second) ≡ Some (from, second) = name_taken from second i.from_named in
    let b : after_blanks second ≡ Some (codes "as" ++ third) =
    blanks_taken i.second_gap (codes "as" ++ third) i.second_blanks refl in
    let c : after_blanks third ≡ Some to = blanks_taken i.third_gap to i.third_blanks to_stays in
    let t : quoted_front to ≡ Some (to, []) = ap quoted_front (sym to_nil) ∙ name_taken to [] i.to_named in
    rw (k, a, f, b, c, t) refl

pub one_interpretation : OneInterpretation
one_interpretation value kind from to = (split_is value kind from to, split_from value kind from to)

-- both names of an answer
pub names_split : (value : List ℕ) (p : SymbolWord × List ℕ × List ℕ) → split_interpret value ≡ Some p
    → IsQuotedName p.1 × IsQuotedName p.2
names_split value p e =
    let i = split_is value p.0 p.1 p.2 e in
    (i.from_named, i.to_named)

pub names_answered : (answer : Option (SymbolWord × Bor (List ℕ) × Bor (List ℕ))) (value : List ℕ)
    → parts_value answer ≡ split_interpret value → IfSome answer (λ p. IsQuotedName p.1.now × IsQuotedName p.2.now)
names_answered None value e = tt
names_answered (Some p) value e = names_split value (p.0, p.1.now, p.2.now) (sym e)
