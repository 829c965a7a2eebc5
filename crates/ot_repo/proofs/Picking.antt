-- The list of installed packages, line by line, and what values pick.
use Rattle.std.specs.Prelude.{Option, find, not}
use Rattle.std.specs.Borrow.{Bor}
use Rattle.std.specs.List.{list_any}
use Rattle.std.specs.Option.{option_or}
use Rattle.std.specs.Str.{bytes_eq}
use Rattle.std.specs.Cmp.Lexicographic.{bytes_decides}
use Rattle.std.proofs.Common.{◌≡◌, ℕ, Bool, true, false, cond, List, [], ◌∷◌, ◌++◌, map, Err}
use Rattle.std.proofs.Common.{Some, None, inl, inr, refl, sym, ap, subst, ◌∙◌, append_assoc}
use Rattle.std.specs.Prelude.{◌||◌}
use Rattle.std.proofs.lemmas.Bool.{cases_Bool}
use Rattle.std.proofs.lemmas.List.{reverse-append, map-append}
use Rattle.std.proofs.lemmas.List.Folds.{list_any-append, find-append}
use Rattle.ot_theory.specs.Lines.{LineText}
use Rattle.ot_blocks.specs.Paths.{is_package, name_part}
use Rattle.ot_repo.specs.Required.{BadIndex, full_names, names_of, picked_by_name}
use Rattle.ot_repo.specs.Answers.{ArePackages}
use Rattle.ot_repo.specs.Reading.{texts_of}
use Rattle.ot_logic.proofs.Members.{IsMember-push}

-- ---- lines

abbrev is_bad : LineText → Bool
is_bad line = not (is_package line.text)

abbrev pub line_texts : List LineText → List (List ℕ)
line_texts lines = map (λ line. line.text) lines

-- the lines that were read are full names, and these are the others
pub record Listed (all left : List LineText) (names : List (List ℕ)) : Type 0 where
  pub before : List LineText
  pub cut : all ≡ before ++ left
  pub are : names ≡ line_texts before
  pub full : find is_bad before ≡ None

find_none : (lines more : List LineText) → find is_bad lines ≡ None → find is_bad (lines ++ more) ≡ find is_bad more
find_none lines more e = find-append is_bad lines more ∙ ap (λ o. option_or o (find is_bad more)) e

pub listed_more : (all left next : List LineText) (line : LineText) (names : List (List ℕ)) → Listed all left names
    → left ≡ line ∷ next → is_package line.text ≡ true → Listed all next (names ++ line.text ∷ [])
listed_more all left next line names s at good =
    let last : find is_bad (line ∷ []) ≡ None = rw good refl in
    record {
      before = s.before ++ line ∷ [];
      cut = s.cut ∙ ap (λ z. s.before ++ z) at ∙ sym (append_assoc s.before (line ∷ []) next);
      are = ap (λ z. z ++ line.text ∷ []) s.are ∙ sym (map-append (λ l. l.text) s.before (line ∷ []));
      full = find_none s.before (line ∷ []) s.full ∙ last;
    }

pub listed_bad : (path : List ℕ) (all left next : List LineText) (line : LineText) (names : List (List ℕ))
    → Listed all left names → left ≡ line ∷ next → is_package line.text ≡ false
    → names_of path all ≡ Err (BadIndex path line.number)
listed_bad path all left next line names s at bad =
    let first : find is_bad (line ∷ next) ≡ Some line = rw bad refl in
    ap (names_of path) (s.cut ∙ ap (λ z. s.before ++ z) at)
    ∙ ap (full_names path (s.before ++ line ∷ next)) (find_none s.before (line ∷ next) s.full ∙ first)

pub packages_more : (names : List (List ℕ)) (full : List ℕ) → ArePackages names → is_package full ≡ true
    → ArePackages (names ++ full ∷ [])
packages_more names full are good name m = elim (IsMember-push name names full m) [
  | inl h ↦ are name h
  | inr e ↦ subst (λ z. is_package z ≡ true) e good
]

-- ---- values

same_name : (a b : List ℕ) → bytes_eq a b ≡ true → a ≡ b
same_name a b e = (bytes_decides a b).0 e

-- one full name more, by its name
pub by_name_more : (names : List (List ℕ)) (full value : List ℕ) → picked_by_name (names ++ full ∷ []) value
    ≡ cond (bytes_eq (name_part full) value) (Some full) (picked_by_name names value)
by_name_more names full value = ap (find (λ f. bytes_eq (name_part f) value)) (reverse-append names (full ∷ []))

-- the first of these names are those that pick themselves
abbrev pub picked_so_far : List (List ℕ) → List (List ℕ) → List ℕ → Option (List ℕ)
picked_so_far names first value = cond (list_any (bytes_eq value) first) (Some value) (picked_by_name names value)

pub so_far_more : (names first : List (List ℕ)) (full value : List ℕ) → picked_so_far names (first ++ full ∷ []) value
    ≡ cond (bytes_eq full value) (Some full) (picked_so_far names first value)
so_far_more names first full value =
    let more = list_any-append (bytes_eq value) first (full ∷ []) in
    elim (cases_Bool (bytes_eq full value)) [
      | inl e ↦
          let same = same_name full value e in
          rw (more, e, (bytes_decides value full).1 (sym same)) (at_full (list_any (bytes_eq value) first) same)
      | inr e ↦ elim (cases_Bool (bytes_eq value full)) [
        | inl f ↦ let back : bytes_eq full value ≡ true =
            (bytes_decides full value).1 (sym (same_name value full f)) in absurd cc
        | inr f ↦ rw (more, e, f) (at_other (list_any (bytes_eq value) first))
      ]
    ]
  where
    at_full : (b : Bool) → full ≡ value → cond (b || true) (Some value) (picked_by_name names value) ≡ Some full
    at_full true e = ap Some (sym e)
    at_full false e = ap Some (sym e)

    at_other : (b : Bool) → cond (b || false) (Some value) (picked_by_name names value)
        ≡ cond b (Some value) (picked_by_name names value)
    at_other true = refl
    at_other false = refl

-- ---- an item more

pub texts_more : (names : List (Bor (List ℕ))) (full : Bor (List ℕ)) → texts_of (names ++ full ∷ []) ≡ texts_of names
    ++ full.now ∷ []
texts_more names full = map-append (λ f. f.now) names (full ∷ [])
