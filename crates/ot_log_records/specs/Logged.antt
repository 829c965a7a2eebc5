-- A log that is put together: what was written so far, and what a record adds.
use Rattle.std.specs.Prelude.{ℕ, suc, Bool, if◌then◌else◌, codes, List, [], ◌∷◌, ◌++◌, map}
use Rattle.std.specs.List.{list_any, position_or_len}
use Rattle.ot_logic.specs.Names.{Name}
use Rattle.ot_logic.specs.Naming.{names}
use Rattle.ot_logic.specs.Trees.{Ty, Tm}
use Rattle.ot_logic.specs.Hol.{same_ty, same_tm}
use Rattle.ot_log_format.specs.Tokens.{Token, Number, Named, Word, spelling}
use Rattle.ot_log_records.specs.Entries.{Operand, Count, AName, AType, ATerm, ASequent, Entry}
use Rattle.ot_log_records.specs.Entries.{Node, TypeNode, TermNode, node_entry, nodes_before}

-- its tokens; the types and the terms in the order of their numbers; and how many sequents it has
pub record Log : Type 0 where
  pub tokens : List (Token Name)
  pub types : List (Ty Name)
  pub terms : List (Tm Name)
  pub sequents : ℕ

-- the header
abbrev pub header : Log
header = record { tokens = Word (codes "otlog") ∷ Number 1 ∷ []; types = []; terms = []; sequents = 0 }

abbrev pub add_tokens : List (Token Name) → Log → Log
add_tokens ts x = record x { tokens = x.tokens ++ ts }

-- the token of what a record names: types and terms by their places among these
abbrev pub token_among : List (Ty Name) → List (Tm Name) → Operand → Token Name
token_among types terms (Count k) = Number k
token_among types terms (AName n) = Named n
token_among types terms (AType t) = Number (position_or_len (same_ty names t) types)
token_among types terms (ATerm t) = Number (position_or_len (same_tm names t) terms)
token_among types terms (ASequent i) = Number i

abbrev pub token_of : Log → Operand → Token Name
token_of x = token_among x.types x.terms

-- a record, where what it names is there
abbrev pub put : Entry → Log → Log
put e x = add_tokens (Word (spelling e.word) ∷ map (token_of x) e.operands) x

-- ---- types and terms, each once

abbrev pub is_among : Node → List (Ty Name) → List (Tm Name) → Bool
is_among (TypeNode t) types terms = list_any (same_ty names t) types
is_among (TermNode t) types terms = list_any (same_tm names t) terms

abbrev pub has_node : Node → Log → Bool
has_node n x = is_among n x.types x.terms

abbrev pub with_node : Node → Log → Log
with_node (TypeNode t) x = record x { types = x.types ++ t ∷ [] }
with_node (TermNode t) x = record x { terms = x.terms ++ t ∷ [] }

abbrev pub write_node : Node → Log → Log
write_node n x = if has_node n x then x else with_node n (put (node_entry n) x)

abbrev pub write_nodes : List Node → Log → Log
write_nodes [] x = x
write_nodes (n ∷ ns) x = write_nodes ns (write_node n x)

-- ---- a record, behind the types and terms that it names; and records that each make a sequent

abbrev pub write_entry : Entry → Log → Log
write_entry e x = put e (write_nodes (nodes_before e) x)

abbrev pub count_sequent : Log → Log
count_sequent x = record x { sequents = suc x.sequents }

abbrev pub write_sequents : List Entry → Log → Log
write_sequents [] x = x
write_sequents (e ∷ es) x = write_sequents es (count_sequent (write_entry e x))
