-- Records of a log with what they name: names, counts, and types and terms themselves in place of their numbers.
use Rattle.std.specs.Prelude.{ℕ, zero, suc, List, [], ◌∷◌, ◌++◌}
use Rattle.std.specs.List.{flat_map}
use Rattle.ot_logic.specs.Names.{Name}
use Rattle.ot_logic.specs.Trees.{Ty, Tys, TyVar, TyOp, NoTys, MoreTys, Tm, Free, Con, Bound, App, Abs}
use Rattle.ot_log_format.specs.declared.word.RecordWord.{RecordWord}
use Rattle.ot_log_format.specs.declared.word.RecordWord.TheVariants as words

-- what a record names: a count, a name, a type, a term, or a sequent by its number
pub data Operand : Type 0 where
  Count : ℕ → Operand
  AName : Name → Operand
  AType : Ty Name → Operand
  ATerm : Tm Name → Operand
  ASequent : ℕ → Operand

-- a record: its word, and what it names in the order of its tokens
pub record Entry : Type 0 where
  pub word : RecordWord
  pub operands : List Operand

-- a type or a term, which has a record of its own
pub data Node : Type 0 where
  TypeNode : Ty Name → Node
  TermNode : Tm Name → Node

-- the arguments of a type operator
abbrev pub type_list : Tys Name → List Operand
type_list NoTys = []
type_list (MoreTys t ts) = AType t ∷ type_list ts

abbrev pub type_count : Tys Name → ℕ
type_count NoTys = zero
type_count (MoreTys t ts) = suc (type_count ts)

-- the record of a type, of a term
abbrev pub type_entry : Ty Name → Entry
type_entry (TyVar n) = record { word = words.TyVar; operands = AName n ∷ [] }
type_entry (TyOp n ts) = record { word = words.TyOp; operands = AName n ∷ Count (type_count ts) ∷ type_list ts }

abbrev pub term_entry : Tm Name → Entry
term_entry (Free v) = record { word = words.Free; operands = AName v.name ∷ AType v.ty ∷ [] }
term_entry (Con n t) = record { word = words.Con; operands = AName n ∷ AType t ∷ [] }
term_entry (Bound k) = record { word = words.Bound; operands = Count k ∷ [] }
term_entry (App f x) = record { word = words.App; operands = ATerm f ∷ ATerm x ∷ [] }
term_entry (Abs t b) = record { word = words.Lam; operands = AType t ∷ ATerm b ∷ [] }

abbrev pub node_entry : Node → Entry
node_entry (TypeNode t) = type_entry t
node_entry (TermNode t) = term_entry t

-- ---- types and terms with their parts: each behind its parts, these from left to right

abbrev mutual
  -- the parts of a type
  pub type_parts : Ty Name → List Node
  type_parts (TyVar n) = []
  type_parts (TyOp n ts) = types_nodes ts

  pub types_nodes : Tys Name → List Node
  types_nodes NoTys = []
  types_nodes (MoreTys t ts) = (type_parts t ++ TypeNode t ∷ []) ++ types_nodes ts

abbrev pub type_nodes : Ty Name → List Node
type_nodes t = type_parts t ++ TypeNode t ∷ []

-- the parts of a term, its types among them
abbrev pub term_parts : Tm Name → List Node
term_parts (Free v) = type_nodes v.ty
term_parts (Con n t) = type_nodes t
term_parts (Bound k) = []
term_parts (App f x) = (term_parts f ++ TermNode f ∷ []) ++ (term_parts x ++ TermNode x ∷ [])
term_parts (Abs t b) = type_nodes t ++ (term_parts b ++ TermNode b ∷ [])

abbrev pub term_nodes : Tm Name → List Node
term_nodes t = term_parts t ++ TermNode t ∷ []

abbrev pub operand_nodes : Operand → List Node
operand_nodes (Count k) = []
operand_nodes (AName n) = []
operand_nodes (AType t) = type_nodes t
operand_nodes (ATerm t) = term_nodes t
operand_nodes (ASequent i) = []

-- what has to stand before a record
abbrev pub nodes_before : Entry → List Node
nodes_before e = flat_map operand_nodes e.operands
