-- The symbols of definitions, by the marks of what occurs.
use Rattle.std.specs.Prelude.{◌≡◌, ◌↔◌, ◌&&◌, ◌||◌, not, nat_eq, Bool, true}
use Rattle.std.specs.Prelude.{false, List, [], ◌∷◌, map, Result, Ok, Err}
use Rattle.std.specs.List.{All, list_any}
use Rattle.ot_logic.specs.Names.{Name}
use Rattle.ot_logic.specs.Naming.{names}
use Rattle.ot_logic.specs.Lists.{IsMember}
use Rattle.ot_logic.specs.Trees.{Symbol, ConSymbol, OpSymbol, Definition}
use Rattle.ot_logic.specs.Hol.{primitives}
use Rattle.ot_laws.specs.Conditions.{is_among}
use Rattle.ot_log_format.specs.Steps.{all_defined, all_used}
use Rattle.ot_log_nodes.specs.Items.{Item, HasName, name_at}
use Rattle.ot_log_rules.specs.Parts.{Occurring, Operator, Constant, HasMark, mark_at}
use Rattle.ot_log_rules.specs.declared.parts.Mark.{Mark}
use Rattle.ot_log_rules.specs.declared.parts.Mark.TheVariants as mark
use Rattle.ot_log_rules.specs.contracts.parts.MarkPartialEq.TheImpl as derived
use Rattle.ot_log_rules.specs.declared.signature.Signature.{Signature}

-- whether a check passes
abbrev pub passes : {A E : Type 0} → Result A E → Bool
passes (Ok x) = true
passes (Err e) = false

-- how a symbol occurs
abbrev pub mark_of : Symbol Name → Occurring
mark_of (ConSymbol n) = Constant n
mark_of (OpSymbol n) = Operator n

-- the marks are those of just these symbols, besides variables
pub record HasSymbols (ss : List (Symbol Name)) (ms : List Occurring) : Type 0 where
  pub is : (s : Symbol Name) → IsMember (mark_of s) ms ↔ IsMember s ss

-- the symbol of a mark that is of one
abbrev pub symbol_of : List Item → Mark → Symbol Name
symbol_of ts (mark.Constant n) = ConSymbol (name_at ts n)
symbol_of ts (mark.Operator n) = OpSymbol (name_at ts n)
symbol_of ts (mark.TypeVar n) = OpSymbol (name_at ts n)
symbol_of ts (mark.Variable v) = OpSymbol (name_at ts v.name)

abbrev pub IsSymbolMark : List Item → Mark → Type 0
IsSymbolMark ts (mark.Constant n) = HasName ts n
IsSymbolMark ts (mark.Operator n) = HasName ts n
IsSymbolMark ts (mark.TypeVar n) = ⊥
IsSymbolMark ts (mark.Variable v) = ⊥

-- what is kept of the definitions: their symbols, and what occurs in them
pub record IsSignature (ts : List Item) (dl : List (Definition Name)) (s : Signature) : Type 0 where
  pub has_defined : All (HasMark ts) s.defined.keys
  pub has_used : All (HasMark ts) s.used.keys
  pub defined : HasSymbols (all_defined names dl) (map (mark_at ts) s.defined.keys)
  pub used : HasSymbols (all_used names dl) (map (mark_at ts) s.used.keys)

-- the same symbols and marks
pub record KeepsSymbols (old new : Signature) : Type 0 where
  pub defined : new.defined.keys ≡ old.defined.keys
  pub used : new.used.keys ≡ old.used.keys

-- whether each symbol may be defined, after those that are: it has no meaning of its own, isn't defined, and occurs
-- neither in the premise nor in a definition
abbrev pub are_fresh : (defined used premise symbols : List (Symbol Name)) → Bool
are_fresh defined used premise [] = true
are_fresh defined used premise (s ∷ ss) =
    (not (is_among names s (primitives names))
    && (not (is_among names s defined) && not (is_among names s premise || is_among names s used)))
    && are_fresh (s ∷ defined) used premise ss

-- ---- by the code's tests

-- the test of marks
abbrev pub mark_eq : Mark → Mark → Bool
mark_eq = derived.ghosts.eq

abbrev pub is_marked : Mark → List Mark → Bool
is_marked m ms = list_any (mark_eq m) ms

-- the marks of the primitive symbols, by the fixed numbers of their names
abbrev pub is_primitive_mark : Mark → Bool
is_primitive_mark (mark.Operator n) = nat_eq n 0 || nat_eq n 1
is_primitive_mark (mark.Constant n) = nat_eq n 2
is_primitive_mark (mark.TypeVar n) = false
is_primitive_mark (mark.Variable v) = false
