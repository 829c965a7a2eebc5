-- The keys of a block, and the values that are no interpretations.
use Rattle.std.specs.Prelude.{◌≡◌, ◌<◌, ◌++◌, ◌↔◌, ℕ, List, [], ◌∷◌, Bool, true, false, ◌==◌, ◌&&◌, ◌-◌}
use Rattle.std.specs.Prelude.{if◌then◌else◌, length, take, codes, Option, Some, None, position, nat_lt}
use Rattle.std.specs.Str.{bytes_eq, is_utf8, IsUtf8}
use Rattle.ot_logic.specs.Lists.{IsMember}
use Rattle.ot_theory.specs.declared.keys.Key.{Key}
use Rattle.ot_theory.specs.declared.keys.Key.TheVariants.{Import, Article, Package, Interpret, Other}

-- the key that a text is
abbrev pub key_of : List ℕ → Key
key_of text =
    if bytes_eq text (codes "import") then Import
    else (if bytes_eq text (codes "article") then Article
    else (if bytes_eq text (codes "package") then Package
    else (if bytes_eq text (codes "interpret") then Interpret else Other)))

-- the keys of which a block has one statement
abbrev pub is_source : Key → Bool
is_source Article = true
is_source Package = true
is_source Import = false
is_source Interpret = false
is_source Other = false

-- a quote, one byte or more of UTF-8 without a quote, and a quote
pub record IsPath (value : List ℕ) : Type 0 where
  pub inner : List ℕ
  pub some : 0 < length inner
  pub utf8 : IsUtf8 inner
  pub plain : ¬ (IsMember 34 inner)
  pub text : value ≡ 34 ∷ (inner ++ 34 ∷ [])

-- one byte or more of UTF-8, and then the first quote, at the end
abbrev pub is_quoted_rest : List ℕ → Option ℕ → Bool
is_quoted_rest rest None = false
is_quoted_rest rest (Some len) = (nat_lt 0 len && (len == length rest - 1)) && is_utf8 (take len rest)

-- whether a value is such a path
abbrev pub is_path : List ℕ → Bool
is_path [] = false
is_path (b ∷ bs) = if b == 34 then is_quoted_rest bs (position (λ x. x == 34) bs) else false

-- a law: the test tells which values are paths
abbrev pub TellsPaths : Type 0
TellsPaths = (value : List ℕ) → (is_path value ≡ true) ↔ IsPath value
