-- The records of what a word of an article makes or defines, by the values of its operands.
use Rattle.std.specs.Prelude.{ℕ, Bool, true, false, List, [], ◌∷◌, ◌++◌, map, length, Result, Ok, Err}
use Rattle.std.specs.List.{flat_map}
use Rattle.ot_logic.specs.Names.{Name}
use Rattle.ot_logic.specs.Trees.{Variable, Tm}
use Rattle.ot_logic.specs.Faults.{Fault}
use Rattle.ot_logic.specs.declared.command.Cmd.{Cmd}
use Rattle.ot_logic.specs.declared.command.Cmd.TheVariants as words
use Rattle.ot_log_format.specs.declared.word.RecordWord.TheVariants as records
use Rattle.ot_machine.specs.Objects.{Object, name, list, variable, term, theorem}
use Rattle.ot_machine.specs.Places.{as_each, as_term, as_name}
use Rattle.ot_machine.specs.Substitutions.{maps_of}
use Rattle.ot_machine.specs.DefinitionLists.{pairs_of}
use Rattle.ot_log_records.specs.Entries.{Operand, Count, AName, AType, ATerm, ASequent, Entry}
use Rattle.ot_log_records.specs.Expansions.{of_term, of_two, abs_thm_entry, subst_entry}
use Rattle.ot_log_records.specs.Expansions.{assumption_entry, sides, sym_of, trans_of, prove_hyp_of}

-- the words that make a theorem
abbrev pub makes_theorem : Cmd → Bool
makes_theorem words.Refl = true
makes_theorem words.Assume = true
makes_theorem words.EqMp = true
makes_theorem words.AbsThm = true
makes_theorem words.AppThm = true
makes_theorem words.DeductAntisym = true
makes_theorem words.BetaConv = true
makes_theorem words.Subst = true
makes_theorem words.Sym = true
makes_theorem words.Trans = true
makes_theorem words.ProveHyp = true
makes_theorem words.Axiom = true
makes_theorem _ = false

-- what was read as a whole, as records
abbrev pub read : {A : Type 0} → (A → List Entry) → Result A (Fault Name) → List Entry
read f (Ok x) = f x
read f (Err e) = []

-- the records of a theorem that a word makes of operands with these values, the lowest first; the theorems among
-- these have the numbers `is`, and the next sequent the number `next`
abbrev pub theorem_entries : ℕ → Cmd → List Object → List ℕ → List Entry
theorem_entries next words.Refl (term t ∷ []) [] = of_term records.Refl t ∷ []
theorem_entries next words.Assume (term p ∷ []) [] = of_term records.Assume p ∷ []
theorem_entries next words.BetaConv (term t ∷ []) [] = of_term records.BetaConv t ∷ []
theorem_entries next words.Axiom (list os ∷ term p ∷ []) [] =
    read (λ hyps. assumption_entry hyps p ∷ []) (as_each as_term os)
theorem_entries next words.AbsThm (variable v ∷ theorem a ∷ []) (i ∷ []) = abs_thm_entry v i ∷ []
theorem_entries next words.Subst (list os ∷ theorem a ∷ []) (i ∷ []) =
    read (λ maps. subst_entry maps.0 maps.1 i ∷ []) (maps_of os)
theorem_entries next words.EqMp (theorem a ∷ theorem b ∷ []) (i ∷ j ∷ []) = of_two records.EqMp i j ∷ []
theorem_entries next words.AppThm (theorem a ∷ theorem b ∷ []) (i ∷ j ∷ []) = of_two records.AppThm i j ∷ []
theorem_entries next words.DeductAntisym (theorem a ∷ theorem b ∷ []) (i ∷ j ∷ []) =
    of_two records.DeductAntisym i j ∷ []
theorem_entries next words.Sym (theorem a ∷ []) (i ∷ []) = sym_of next (sides a) i
theorem_entries next words.Trans (theorem a ∷ theorem b ∷ []) (i ∷ j ∷ []) = trans_of next (sides a) (sides b) i j
theorem_entries next words.ProveHyp (theorem a ∷ theorem b ∷ []) (i ∷ j ∷ []) = prove_hyp_of next a b i j
theorem_entries next _ _ _ = []

-- ---- definitions

abbrev pub constant_entry : Name → Tm Name → Entry
constant_entry n t = record { word = records.Constant; operands = AName n ∷ ATerm t ∷ [] }

abbrev pub constant_pair : Name × Variable Name → List Operand
constant_pair p = AName p.0 ∷ AName p.1.name ∷ AType p.1.ty ∷ []

abbrev pub constants_entry : List (Name × Variable Name) → ℕ → Entry
constants_entry ps i = record {
  word = records.Constants;
  operands = Count (length ps) ∷ (flat_map constant_pair ps ++ ASequent i ∷ []);
}

abbrev pub type_operator_entry : (n abs rep : Name) → List Name → ℕ → Entry
type_operator_entry n abs rep vars i = record {
  word = records.TypeOperator;
  operands = AName n ∷ AName abs ∷ AName rep ∷ Count (length vars) ∷ (map AName vars ++ ASequent i ∷ []);
}

-- the record of a definition by a word
abbrev pub definition_entries : Cmd → List Object → List ℕ → List Entry
definition_entries words.DefineConst (name n ∷ term t ∷ []) [] = constant_entry n t ∷ []
definition_entries words.DefineConstList (list os ∷ theorem a ∷ []) (i ∷ []) =
    read (λ ps. constants_entry ps i ∷ []) (pairs_of os)
definition_entries words.DefineTypeOp (name n ∷ name abs ∷ name rep ∷ list os ∷ theorem a ∷ []) (i ∷ []) =
    read (λ vars. type_operator_entry n abs rep vars i ∷ []) (as_each as_name os)
definition_entries _ _ _ = []
