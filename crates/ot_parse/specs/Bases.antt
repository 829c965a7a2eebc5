-- The shown symbols that have a base name.
use Rattle.std.specs.Prelude.{◌≡◌, ℕ, Bool, true, false, cond, not, ◌&&◌, ◌||◌, List, [], ◌∷◌, Option, Some, None}
use Rattle.std.specs.Borrow.{Bor}
use Rattle.std.specs.HashMap.{HashMap, get_by}
use Rattle.std.specs.Option.{option_map}
use Rattle.std.specs.Str.{bytes_eq}
use Rattle.ot_logic.specs.Names.{Name, same_name}
use Rattle.ot_logic.specs.Trees.{Symbol, ConSymbol, OpSymbol}
use Rattle.ot_forms.specs.Words.{is_alike, is_shown, same_symbol, same_kind, same_text, base, symbol_name}
use Rattle.ot_parse.specs.declared.bases.Holder.{Holder}
use Rattle.ot_parse.specs.declared.bases.Holder.TheVariants as holders
use Rattle.ot_parse.specs.declared.bases.Bases.{Bases}

-- the only name, or none where there are several
abbrev pub holder_of : Holder → Option Name
holder_of (holders.One n) = Some n.now
holder_of holders.Several = None

-- what has a base name, where a further name has it
abbrev pub one_more : Option (Option Name) → Name → Option Name
one_more None n = Some n
one_more (Some None) n = None
one_more (Some (Some m)) n = cond (same_name m n) (Some n) None

-- whether no other name has the base name
abbrev pub is_sole : Name → Option (Option Name) → Bool
is_sole n None = true
is_sole n (Some None) = false
is_sole n (Some (Some m)) = same_name n m

-- what has this base name among the shown symbols of a kind, after one more symbol, and after these
abbrev pub holder_with : List Name → Symbol Name → List ℕ → Option (Option Name) → Symbol Name → Option (Option Name)
holder_with shown s text o t = cond ((same_kind s t && is_shown shown t) && same_text (base (symbol_name t)) text)
    (Some (one_more o (symbol_name t))) o

abbrev pub holders_among : List Name → Symbol Name → List ℕ → Option (Option Name) → List (Symbol Name)
    → Option (Option Name)
holders_among shown s text o [] = o
holders_among shown s text o (t ∷ ts) = holders_among shown s text (holder_with shown s text o t) ts

-- what the code's map has at a base name
abbrev pub held : {S : Type 0} → HashMap (Bor (List ℕ)) Holder S → List ℕ → Option (Option Name)
held m text = option_map holder_of (get_by (λ k. bytes_eq text k.now) m)

-- these are the holders of each base name, by kind
pub record AreBases (shown : List Name) (symbols : List (Symbol Name)) (bases : Bases) : Type 0 where
  pub constants : (text : List ℕ) → held bases.constants text ≡ holders_among shown (ConSymbol []) text None symbols
  pub types : (text : List ℕ) → held bases.types text ≡ holders_among shown (OpSymbol []) text None symbols

-- whether the second isn't another symbol of the kind with the same base name and a shown namespace
abbrev pub is_no_rival : List Name → Symbol Name → Symbol Name → Bool
is_no_rival shown s t = not (is_alike s t && is_shown shown t) || same_symbol s t
