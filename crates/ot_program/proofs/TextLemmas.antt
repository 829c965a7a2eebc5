-- How lines are put together.
use Rattle.std.proofs.Common.{◌≡◌, ℕ, List, [], ◌++◌, codes, refl, sym, ap, ◌∙◌, append_assoc}
use Rattle.std.specs.Prelude.{slice_get, Option, Some, None, IsSomeAnd, Result, Ok, Err, OnOk}
use Rattle.std.proofs.lemmas.Option.{get_or_from_slice_get}
use Rattle.ot_logic.specs.Names.{Name, spelled}
use Rattle.ot_logic.specs.Renamed.{map_symbol}
use Rattle.ot_logic.specs.Faults.{Fault}
use Rattle.ot_kernel.specs.State.{State, name_at}
use Rattle.ot_term.specs.Symbols.{symbol_named}
use Rattle.ot_term.specs.declared.term.SymbolKind.{SymbolKind}
use Rattle.ot_term.specs.declared.term.SymbolKind.TheVariants.{Con, TyOp}
use Rattle.ot_program.specs.Texts.{symbol_text, fault_text, fault_line}
use Rattle.ot_program.specs.Wording.{kind_word, line_start}

symbol_text_is : (kind : SymbolKind) (n : ℕ) (read : ℕ → Name)
    → kind_word kind ++ spelled (read n) ≡ symbol_text (map_symbol read (symbol_named kind n))
symbol_text_is Con n read = refl
symbol_text_is TyOp n read = refl

-- a symbol's word and the spelling of its name
pub symbol_added : {E : Type 0} (r : Result (Unit {0}) E) (k : State)
    (kind : SymbolKind) (n : ℕ) (m : Name) (old mid new : List ℕ)
    → mid ≡ old ++ kind_word kind → slice_get k.names n ≡ Some m → OnOk r (new ≡ mid ++ spelled m)
    → OnOk r (new ≡ old ++ symbol_text (map_symbol (name_at k) (symbol_named kind n)))
symbol_added (Err e) k kind n m old mid new word name all = tt
symbol_added (Ok u) k kind n m old mid new word name all =
    let read : name_at k n ≡ m = get_or_from_slice_get k.names n m [] name in
    let whole : mid ++ spelled m ≡ old ++ (kind_word kind ++ spelled m) =
    ap (λ xs. xs ++ spelled m) word ∙ append_assoc old (kind_word kind) (spelled m) in
    all
    ∙ whole
    ∙ ap (λ xs. old ++ (kind_word kind ++ spelled xs)) (sym read)
    ∙ ap (λ xs. old ++ xs) (symbol_text_is kind n (name_at k))

-- a line's start, the text of its fault, and the end of the line
pub fault_line_is : (o : Option (Fault Name)) (path : List ℕ) (number : ℕ) (start mid line : List ℕ)
    → start ≡ line_start path number → IsSomeAnd o (λ f. mid ≡ start ++ fault_text f) → line ≡ mid ++ codes "\n"
    → IsSomeAnd o (λ f. line ≡ fault_line path number f)
fault_line_is None path number start mid line begins known ends = absurd known
fault_line_is (Some f) path number start mid line begins known ends =
    ends ∙ ap (λ xs. xs ++ codes "\n") (known ∙ ap (λ xs. xs ++ fault_text f) begins) ∙ simp append_assoc
