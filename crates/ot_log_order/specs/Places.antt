-- Where a term is put among others.
use Rattle.std.specs.Prelude.{◌≡◌, ℕ, ◌≤◌, List, map, length, Option, None, Some}
use Rattle.std.specs.List.{insert}
use Rattle.std.specs.List.Sorted.{IsStrictlySortedBy}
use Rattle.ot_log_nodes.specs.Items.{Item, term_at}
use Rattle.ot_text.specs.Texts.{tm_text, order}
use Rattle.ot_log_records.specs.Expansions.{with_term}

-- the text of the term of a number
abbrev pub text_at : List Item → ℕ → List ℕ
text_at ts i = tm_text (term_at ts i)

-- the terms' texts ascend
abbrev pub AreAscending : List Item → List ℕ → Type 0
AreAscending ts is = IsStrictlySortedBy order (map (text_at ts) is)

-- the place at which a term comes in, none where its text is there
abbrev pub IsPlace : List Item → List ℕ → ℕ → Option ℕ → Type 0
IsPlace ts is t (Some i) =
    (i ≤ length is) × (map (term_at ts) (insert is i t) ≡ with_term (term_at ts t) (map (term_at ts) is))
IsPlace ts is t None = map (term_at ts) is ≡ with_term (term_at ts t) (map (term_at ts) is)
