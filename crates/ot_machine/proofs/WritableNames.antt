-- The names of the logic, of articles of version 5 and of lines can be said by a line.
use Rattle.std.proofs.Common.{◌≡◌, ◌≢◌, ℕ, ◌<◌, ◌≤◌, ◌^◌, ◌==◌, inl, inr, Bool, true, false, List, [], ◌∷◌}
use Rattle.std.proofs.Common.{◌++◌, length, map, refl, sym, ap, subst, arith, length-append, lit≤, rules}
use Rattle.std.specs.Prelude.{codes, not, ◌&&◌, Result, Ok}
use Rattle.std.specs.List.{AllByRecursion, flat_map, list_all}
use Rattle.std.specs.Char.{is_ascii_digit}
use Rattle.std.specs.Str.Parse.{digits_value}
use Rattle.std.specs.Fmt.{decimal}
use Rattle.std.proofs.lemmas.Fmt.{digits_decimal, length-decimal-le}
use Rattle.std.proofs.lemmas.Str.Parse.{IsNumeralModel, numerals_by_value}
use Rattle.std.proofs.lemmas.Bool.Decides.{nat_tests}
use Rattle.ot_logic.specs.Lists.{IsMember}
use Rattle.ot_logic.specs.Names.{Name, Plain, item_text, item_byte, IsItem}
use Rattle.ot_logic.specs.Hol.{depth_limit}
use Rattle.ot_logic.specs.Reading.{name_read}
use Rattle.ot_logic.specs.Faults.{Fault, BadName}
use Rattle.ot_logic.specs.Answers.{some_or}
use Rattle.ot_logic.proofs.Reading.{name_read-spells}
use Rattle.ot_machine.specs.Step.{Command, named}
use Rattle.ot_machine.specs.NamesIn.{HasVersion5}
use Rattle.ot_machine.specs.Writable.{IsWritable}
use Rattle.ot_machine.specs.LawfulLaws.{CanBeNamed}
use Rattle.ot_machine.proofs.Respelled.{name-of-line}
use Rattle.ot_logic.proofs.Members.{IsMember-cases}
use Rattle.ot_logic.proofs.Results.{bind-ok, some_or-ok}

-- ---- names of one component, whose bytes stand for themselves

abbrev is_letter : ℕ → Bool
is_letter b = not (b == 34) && (not (b == 92) && (not (b == 46) && not (b == 10)))

pub record IsLetter (b : ℕ) : Type 0 where
  pub item : IsItem (Plain b)
  pub no_newline : b ≢ 10

letter : (b : ℕ) → is_letter b ≡ true → IsLetter b
letter b h =
    record {
      item = (
        (λ e. grind (arith, nat_tests)),
        (λ e. grind (arith, nat_tests)),
        (λ e. grind (arith, nat_tests)),
      );
      no_newline = λ e. grind (arith, nat_tests);
    }

and-left : (a b : Bool) → (a && b) ≡ true → a ≡ true
and-left true b h = refl
and-left false b h = h

and-right : (a b : Bool) → (a && b) ≡ true → b ≡ true
and-right true b h = h
and-right false b h = absurd (cc)

letters : (cs : List ℕ) → list_all is_letter cs ≡ true → AllByRecursion IsLetter cs
letters [] h = tt
letters (c ∷ cs) h = (
  letter c (and-left (is_letter c) (list_all is_letter cs) h),
  letters cs
      (and-right (is_letter c) (list_all is_letter cs) h),
)

items : (cs : List ℕ) → AllByRecursion IsLetter cs → AllByRecursion IsItem (map Plain cs)
items [] h = tt
items (c ∷ cs) h = (h.0.item, items cs h.1)

plain-text : (cs : List ℕ) → flat_map item_text (map Plain cs) ≡ cs
plain-text [] = refl
plain-text (c ∷ cs) = ap (λ l. c ∷ l) (plain-text cs)

plain-bytes : (cs : List ℕ) → map item_byte (map Plain cs) ≡ cs
plain-bytes [] = refl
plain-bytes (c ∷ cs) = ap (λ l. c ∷ l) (plain-bytes cs)

no-newline : (cs : List ℕ) → AllByRecursion IsLetter cs → IsMember 10 cs → ⊥
no-newline [] h m = m
no-newline (c ∷ cs) h (inl e) = h.0.no_newline e
no-newline (c ∷ cs) h (inr m) = no-newline cs h.1 m

letters-writable : (cs : List ℕ) → AllByRecursion IsLetter cs → length cs ≤ 65533 → IsWritable (cs ∷ [])
letters-writable cs h short =
    name-of-line (34 ∷ cs ++ 34 ∷ []) (cs ∷ [])
    (record {
      items = map Plain cs ∷ [];
      some = lit≤ tt;
      each = (items cs h, tt);
      text_is = ap
          (λ l. 34 ∷ l ++ 34 ∷ []) (sym (plain-text cs));
      name_is = ap (λ l. l ∷ []) (sym (plain-bytes cs));
    })
    (record { short = (let l = length-append cs (34 ∷ []) in omega arith); one = λ m. unbroken m })
  where
    unbroken : IsMember 10 (34 ∷ cs ++ 34 ∷ []) → ⊥
    unbroken (inl e) = omega (arith, e)
    unbroken (inr m) = elim (IsMember-cases 10 cs (34 ∷ []) m)
        [ inl a ↦ no-newline cs h a | inr b ↦ elim b [ inl e ↦ omega (arith, e) | inr n ↦ n ] ]

-- ---- decimal numerals

digit-letter : (d : ℕ) → is_ascii_digit d ≡ true → IsLetter d
digit-letter d h =
    let low : 48 ≤ d = grind (arith, nat_tests) in
    let high : d ≤ 57 = grind (arith, nat_tests) in
    record {
      item = ((λ e. omega (arith, e, low)), (λ e. omega (arith, e, high)), (λ e. omega (arith, e, low)));
      no_newline = λ e. omega (arith, e, low);
    }

digit-letters : (ds : List ℕ) → list_all is_ascii_digit ds ≡ true → AllByRecursion IsLetter ds
digit-letters [] h = tt
digit-letters (d ∷ ds) h = (
  digit-letter d (and-left (is_ascii_digit d) (list_all is_ascii_digit ds) h),
  digit-letters ds
      (and-right (is_ascii_digit d) (list_all is_ascii_digit ds) h),
)

all_digits : IsNumeralModel (λ ds. list_all is_ascii_digit ds ≡ true) (digits_value 10)
all_digits = numerals_by_value (λ ds. list_all is_ascii_digit ds ≡ true) (search rules)

decimal-writable : (k : ℕ) → k < depth_limit → IsWritable (decimal k ∷ [])
decimal-writable k low =
    let fits : k < 2 ^ 64 = omega (arith, low) in
    let four = length-decimal-le 4 k (lit≤ tt) (omega (arith, low)) fits in
    letters-writable (decimal k) (digit-letters (decimal k) (digits_decimal all_digits k fits)) (omega (arith, four))

-- ---- what is needed of them

pub writable-version_5 : HasVersion5 IsWritable
writable-version_5 = record {
  primitives = record {
    arrow = letters-writable (codes "->") (letters (codes "->") refl) (lit≤ tt);
    bool_name = letters-writable (codes "bool") (letters (codes "bool") refl) (lit≤ tt);
    equals = letters-writable (codes "=") (letters (codes "=") refl) (lit≤ tt);
  };
  a = letters-writable (codes "a") (letters (codes "a") refl) (lit≤ tt);
  r = letters-writable (codes "r") (letters (codes "r") refl) (lit≤ tt);
  binders = decimal-writable;
}

abbrev gives : Command → Result Command (Fault Name)
gives c = Ok c

same-name : (m n : Name) → gives (named m) ≡ gives (named n) → m ≡ n
same-name m n e = cc

pub writable-said : CanBeNamed IsWritable
writable-said text n line h =
    let m = bind-ok (some_or BadName (name_read text)) _ _ h in
    let read = some_or-ok BadName (name_read text) m.0 m.1 in
    subst IsWritable (same-name m.0 n m.2) (name-of-line text m.0 (name_read-spells text m.0 read) line)
