-- The words of two symbols of one kind are different: each is read as the one.
use Rattle.std.specs.Prelude.{◌≡◌, true, List, [], ◌++◌}
use Rattle.std.proofs.Common.{refl, sym, ◌∙◌, ap}
use Rattle.ot_logic.specs.Names.{Name, IsName}
use Rattle.ot_logic.specs.Trees.{Symbol, ConSymbol, OpSymbol}
use Rattle.ot_forms.specs.Words.{IsNotation, symbol_name, same_kind, word, variable_word}
use Rattle.ot_forms.specs.Reading.{Reading, Got, operator_at, constant_at, variable_at}
use Rattle.ot_forms.proofs.OperatorWords.{operator-reads}
use Rattle.ot_forms.proofs.ConstantWords.{constant-reads}
use Rattle.ot_forms.proofs.Spellings.{variable-reads}

got-same : (n m : Name) → ◌≡◌ {A = Reading Name} (Got n []) (Got m []) → n ≡ m
got-same n m p = cc

pub words-differ : (hidden : List (Symbol Name)) → IsNotation hidden → (s t : Symbol Name) → IsName (symbol_name s)
    → IsName (symbol_name t) → same_kind s t ≡ true → word hidden s ≡ word hidden t → s ≡ t
words-differ hidden nt (ConSymbol n) (ConSymbol m) hn hm k e =
    let a = (constant-reads hidden nt).complete n (word hidden (ConSymbol n)) [] (record { named = hn; text = refl })
    refl in
    let b = (constant-reads hidden nt).complete m (word hidden (ConSymbol m)) [] (record { named = hm; text = refl })
    refl in
    ap ConSymbol (got-same n m (sym a ∙ ap (λ z. constant_at hidden (z ++ [])) e ∙ b))
words-differ hidden nt (OpSymbol n) (OpSymbol m) hn hm k e =
    let a = (operator-reads hidden nt).complete n (word hidden (OpSymbol n)) [] (record { named = hn; text = refl })
    refl in
    let b = (operator-reads hidden nt).complete m (word hidden (OpSymbol m)) [] (record { named = hm; text = refl })
    refl in
    ap OpSymbol (got-same n m (sym a ∙ ap (λ z. operator_at hidden (z ++ [])) e ∙ b))
words-differ hidden nt (ConSymbol n) (OpSymbol m) hn hm k e = cc
words-differ hidden nt (OpSymbol n) (ConSymbol m) hn hm k e = cc

pub variable-words-differ : (n m : Name) → IsName n → IsName m → variable_word n ≡ variable_word m → n ≡ m
variable-words-differ n m hn hm e =
    let a = variable-reads.complete n (variable_word n) [] (record { named = hn; text = refl }) refl in
    let b = variable-reads.complete m (variable_word m) [] (record { named = hm; text = refl }) refl in
    got-same n m (sym a ∙ ap (λ z. variable_at (z ++ [])) e ∙ b)
