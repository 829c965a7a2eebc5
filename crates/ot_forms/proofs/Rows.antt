-- The worked rows, computed by the definitions.
use Rattle.std.specs.Prelude.{◌≡◌, List, [], ◌∷◌, codes, refl, Ok, Err, false}
use Rattle.ot_logic.specs.Names.{Name}
use Rattle.ot_logic.specs.Naming.{names}
use Rattle.ot_logic.specs.Trees.{Ty, TyVar, TyOp, NoTys, MoreTys, Tm, Free, Con, Bound}
use Rattle.ot_logic.specs.Trees.{App, Abs, Sequent, Symbol, ConSymbol, OpSymbol}
use Rattle.ot_logic.specs.Hol.{fun_ty, bool_ty, equation}
use Rattle.ot_forms.specs.declared.fault.TextFault.TheVariants.{Unbound, UnknownOperator, BadTypes}
use Rattle.ot_forms.specs.Words.{hidden_symbols, word}
use Rattle.ot_forms.specs.Forms.{Place, FreeAs, Infix, Binding, type_text}
use Rattle.ot_forms.specs.Meaning.{meaning, line_meaning, relation_ty}
use Rattle.ot_forms.specs.Printing.{readable_text, readable_term}

abbrev truth : Name
truth = codes "Data" ∷ codes "Bool" ∷ codes "T" ∷ []

abbrev conj : Name
conj = codes "Data" ∷ codes "Bool" ∷ codes "/\\" ∷ []

abbrev bool : Ty Name
bool = bool_ty names

abbrev identity : Tm Name
identity = Abs bool (Bound 0)

abbrev theorem : Sequent Name
theorem =
    record {
      hyps = [];
      concl = equation names bool (Con truth bool)
          (equation names (fun_ty names bool bool) identity identity);
    }

abbrev run_symbols : List (Symbol Name)
run_symbols = ConSymbol truth ∷ OpSymbol names.bool_name ∷ OpSymbol names.arrow ∷ ConSymbol names.equals
    ∷ ConSymbol conj ∷ []

abbrev shown : List Name
shown = (codes "Data" ∷ codes "Bool" ∷ []) ∷ []

row_bare : readable_text [] theorem ≡ codes "|- ({Data.Bool.T : bool} = ((\\x0 : bool . x0) = (\\x0 : bool . x0)))"
row_bare = refl

row_hidden : readable_text (hidden_symbols shown run_symbols) theorem
    ≡ codes "|- ({T : bool} = ((\\x0 : bool . x0) = (\\x0 : bool . x0)))"
row_hidden = refl

two_hidden : hidden_symbols shown run_symbols ≡ ConSymbol truth ∷ ConSymbol conj ∷ []
two_hidden = refl

-- a second symbol with this base name in a shown namespace: neither is hidden
none_hidden : hidden_symbols ((codes "A" ∷ []) ∷ (codes "B" ∷ []) ∷ [])
    (ConSymbol (codes "A" ∷ codes "c" ∷ []) ∷ ConSymbol (codes "B" ∷ codes "c" ∷ [])
    ∷ OpSymbol (codes "B" ∷ codes "c" ∷ []) ∷ []) ≡ OpSymbol (codes "B" ∷ codes "c" ∷ []) ∷ []
none_hidden = refl

-- the bare word is replaced by a hidden symbol's
own_word : word (ConSymbol truth ∷ []) (ConSymbol (codes "T" ∷ [])) ≡ codes "\"T\""
own_word = refl

infix_text : readable_term (ConSymbol conj ∷ [])
    (App (App (Con conj relation_ty) (Free (record { name = codes "p" ∷ []; ty = bool }))) (Con truth bool))
    ≡ codes "((p : bool) /\\ {Data.Bool.T : bool})"
infix_text = refl

partial_text : readable_term (ConSymbol conj ∷ []) (App (Con conj relation_ty) (Con truth bool))
    ≡ codes "({/\\ : (bool -> (bool -> bool))} {Data.Bool.T : bool})"
partial_text = refl

arrow_texts : type_text [] (TyOp names.arrow (MoreTys bool NoTys)) ≡ codes "(\"->\" bool)"
arrow_texts = refl

unbound : line_meaning [] (record { hyps = []; concl = Place (codes "y") }) ≡ Err (3, Unbound)
unbound = refl

-- a free variable with the binder's name stays free
stays_free : meaning [] [] false 0 (Binding (codes "x0") bool (FreeAs (codes "x0" ∷ []) bool))
    ≡ Ok (Abs bool (Free (record { name = codes "x0" ∷ []; ty = bool })))
stays_free = refl

-- a side that is no proposition comes before the unknown operator
side_first : meaning [] [] false 0
    (Infix (codes
    "/\\") (FreeAs (codes "p" ∷ []) bool) (FreeAs (codes "q" ∷ []) (TyVar (codes "a" ∷ [])))) ≡ Err (15, BadTypes)
side_first = refl

unknown : meaning [] [] false 0
    (Infix (codes "/\\") (FreeAs (codes "p" ∷ []) bool) (FreeAs (codes "q" ∷ []) bool)) ≡ Err (0, UnknownOperator)
unknown = refl
