-- What the writer's tables stand for.
use Rattle.std.specs.Prelude.{◌≡◌, ◌-◌, ℕ, List, [], map}
use Rattle.std.specs.List.{All}
use Rattle.ot_log_format.specs.declared.word.RecordWord.{RecordWord}
use Rattle.ot_log_nodes.specs.Items.{Item, HasName, HasType, HasTerm, name_at, type_at, term_at}
use Rattle.ot_text.specs.Pages.{Bytes, IsPut, printed}
use Rattle.ot_log_records.specs.Entries.{Operand, Count, AName, AType, ATerm, ASequent, Entry}
use Rattle.ot_log_records.specs.Logged.{Log, write_sequents}
use Rattle.ot_log_records.specs.Closed.{IsClosed}
use Rattle.ot_log_records.specs.Bytes.{bytes_of}
use Rattle.ot_log_page.specs.declared.operand.Operand as code
use Rattle.ot_log_page.specs.declared.operand.Operand.TheVariants as operand
use Rattle.ot_log_page.specs.declared.sheet.Sheet.{Sheet}

-- what a record names
abbrev pub operand_at : List Item → code.Operand → Operand
operand_at ts (operand.Count k) = Count k
operand_at ts (operand.Name n) = AName (name_at ts n)
operand_at ts (operand.Type t) = AType (type_at ts t)
operand_at ts (operand.Term t) = ATerm (term_at ts t)
operand_at ts (operand.Sequent i) = ASequent i

-- its number is of the table
abbrev pub HasOperand : List Item → code.Operand → Type 0
HasOperand ts (operand.Count k) = Unit {0}
HasOperand ts (operand.Name n) = HasName ts n
HasOperand ts (operand.Type t) = HasType ts t
HasOperand ts (operand.Term t) = HasTerm ts t
HasOperand ts (operand.Sequent i) = Unit {0}

-- the record of a word and operands
abbrev pub entry_at : List Item → RecordWord → List code.Operand → Entry
entry_at ts w os = record { word = w; operands = map (operand_at ts) os }

-- the sheet has the log's text, within so many bytes, and its types, terms and sequents
pub record Shows (ts : List Item) (max : ℕ) (s : Sheet) (x : Log) : Type 0 where
  pub text : IsPut (bytes_of x.tokens) (Bytes [] max) (printed s.page)
  pub types : map (type_at ts) s.types.keys ≡ x.types
  pub terms : map (term_at ts) s.terms.keys ≡ x.terms
  pub sequents : s.sequents ≡ x.sequents
  pub has_types : All (HasType ts) s.types.keys
  pub has_terms : All (HasTerm ts) s.terms.keys
  pub closed : IsClosed x

-- the log goes on by f
abbrev pub Moves : List Item → Sheet → Sheet → (Log → Log) → Type 0
Moves ts old new f = (max : ℕ) (x : Log) → Shows ts max old x → Shows ts max new (f x)

-- the log goes on by records that each make a sequent, the last one with this number; the table of nodes may have
-- grown
abbrev pub Adds : (ts us : List Item) → (old new : Sheet) → (Log → List Entry) → ℕ → Type 0
Adds ts us old new es n = (max : ℕ) (x : Log) → Shows ts max old x
    → Shows us max new (write_sequents (es x) x) × (n ≡ (write_sequents (es x) x).sequents - 1)
