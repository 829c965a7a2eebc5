-- Laws of readable text.
use Rattle.std.specs.Prelude.{◌≡◌, ℕ, Bool, List, [], ◌∷◌, true, Result, Ok, Err}
use Rattle.std.specs.List.{AllByRecursion}
use Rattle.ot_logic.specs.Names.{Name, IsName}
use Rattle.ot_logic.specs.Naming.{names}
use Rattle.ot_logic.specs.Lists.{IsMember, IsSameSet}
use Rattle.ot_logic.specs.Trees.{Tm, Sequent, Symbol}
use Rattle.ot_logic.specs.Hol.{bool_ty, HasType, is_shallow}
use Rattle.ot_forms.specs.declared.fault.TextFault.{TextFault}
use Rattle.ot_forms.specs.Words.{IsNotation, hidden_symbols, symbol_name, same_kind, word, variable_word}
use Rattle.ot_forms.specs.Forms.{HaveTermNames, Written, IsWritten, WrittenSequent}
use Rattle.ot_forms.specs.Meaning.{Around, Refusal, meaning, line_meaning}
use Rattle.ot_forms.specs.Refusals.{ReadsAs, IsRefused, ReadsAsTerm, IsTermRefused}
use Rattle.ot_forms.specs.Parts.{Part, parts, line_parts, AreOrdered}
use Rattle.ot_forms.specs.Printing.{readable_text}

-- a proposition within the nesting limit, each of whose names has a component
pub record IsProposition (t : Tm Name) : Type 0 where
  pub named : HaveTermNames t
  pub typed : HasType names t (bool_ty names)
  pub shallow : is_shallow names t ≡ true

pub record ArePropositions (q : Sequent Name) : Type 0 where
  pub hyps : (t : Tm Name) → IsMember t q.hyps → IsProposition t
  pub concl : IsProposition q.concl

-- the hidden symbols of a run are a notation
abbrev pub RunsHaveNotations : Type 0
RunsHaveNotations = (shown : List Name) (symbols : List (Symbol Name)) → ((n : Name) → IsMember n shown → IsName n)
    → IsNotation (hidden_symbols shown symbols)

-- the readable text of a sequent stands for its hypotheses as a set and its conclusion
abbrev pub ReadsBack : Type 0
ReadsBack = (hidden : List (Symbol Name)) → IsNotation hidden → (q : Sequent Name) → ArePropositions q
    → (hs : List (Tm Name)) × IsSameSet hs q.hyps × ReadsAs hidden (readable_text hidden q)
    (record { hyps = hs; concl = q.concl })

-- the words of two symbols of one kind are different, and so are those of two variables
abbrev pub WordsDiffer : Type 0
WordsDiffer = (hidden : List (Symbol Name)) → IsNotation hidden → (s t : Symbol Name) → IsName (symbol_name s)
    → IsName (symbol_name t) → same_kind s t ≡ true → word hidden s ≡ word hidden t → s ≡ t

abbrev pub VariableWordsDiffer : Type 0
VariableWordsDiffer = (n m : Name) → IsName n → IsName m → variable_word n ≡ variable_word m → n ≡ m

-- a line stands for one sequent, a text for one term
abbrev pub OneReading : Type 0
OneReading = (hidden : List (Symbol Name)) → IsNotation hidden → (line : List ℕ) (s t : Sequent Name)
    → ReadsAs hidden line s → ReadsAs hidden line t → s ≡ t

abbrev pub OneTermReading : Type 0
OneTermReading = (hidden : List (Symbol Name)) → IsNotation hidden → (text : List ℕ) (s t : Tm Name)
    → ReadsAsTerm hidden text s → ReadsAsTerm hidden text t → s ≡ t

-- then it isn't refused
abbrev pub NotBoth : Type 0
NotBoth = (hidden : List (Symbol Name)) → IsNotation hidden → (line : List ℕ) (s : Sequent Name) (k : ℕ)
    (f : TextFault) → ReadsAs hidden line s → IsRefused hidden line k f → ⊥

abbrev pub NotBothTerm : Type 0
NotBothTerm = (hidden : List (Symbol Name)) → IsNotation hidden → (text : List ℕ) (t : Tm Name) (k : ℕ)
    (f : TextFault) → ReadsAsTerm hidden text t → IsTermRefused hidden text k f → ⊥

-- it is refused at one place for one fault
abbrev pub OneRefusal : Type 0
OneRefusal = (hidden : List (Symbol Name)) → IsNotation hidden → (line : List ℕ) (k j : ℕ) (f g : TextFault)
    → IsRefused hidden line k f → IsRefused hidden line j g → (k ≡ j) × (f ≡ g)

abbrev pub OneTermRefusal : Type 0
OneTermRefusal = (hidden : List (Symbol Name)) → IsNotation hidden → (text : List ℕ) (k j : ℕ) (f g : TextFault)
    → IsTermRefused hidden text k f → IsTermRefused hidden text j g → (k ≡ j) × (f ≡ g)

-- the refusal is that of the first of the refused parts
abbrev pub IsFirstRefusal : {A : Type 0} → Result A Refusal → List Part → Type 0
IsFirstRefusal (Ok t) ps = ps ≡ []
IsFirstRefusal (Err r) ps = (stop : ℕ) × (rest : List Part) × (ps ≡ record { start = r.0; stop = stop; fault = r.1 } ∷ rest)

-- and these stand in the order in which they count: of a term, and of a line
abbrev pub FirstCounts : Type 0
FirstCounts = (hidden : List (Symbol Name)) (l : Around) (wanted : Bool) (k : ℕ) (w : Written) → IsWritten w
    → IsFirstRefusal (meaning hidden l wanted k w) (parts hidden l wanted k w) × AreOrdered (parts hidden l wanted k w)

abbrev pub FirstOfLineCounts : Type 0
FirstOfLineCounts = (hidden : List (Symbol Name)) (q : WrittenSequent) → AllByRecursion IsWritten q.hyps
    → IsWritten q.concl → IsFirstRefusal (line_meaning hidden q) (line_parts hidden q) × AreOrdered (line_parts hidden q)
