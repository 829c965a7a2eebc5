-- The records of a theorem: those of each word of an article, for theorems with these numbers and a next number.
use Rattle.std.specs.Prelude.{ℕ, ◌+◌, cond, ◌&&◌, not, List, [], ◌∷◌, ◌++◌, map, length, Option, Some, None}
use Rattle.std.specs.List.{flat_map}
use Rattle.std.specs.declared.cmp.Ordering.{Ordering}
use Rattle.std.specs.declared.cmp.Ordering.TheVariants.{Less, Equal, Greater}
use Rattle.ot_logic.specs.Names.{Name}
use Rattle.ot_logic.specs.Naming.{names}
use Rattle.ot_logic.specs.Trees.{Ty, Variable, Tm, Con, App, Sequent}
use Rattle.ot_logic.specs.Hol.{fun_ty, bool_ty, same_tm, is_in, as_equation, TypeMap, TermMap}
use Rattle.ot_text.specs.Texts.{order, tm_text}
use Rattle.ot_log_format.specs.declared.word.RecordWord.{RecordWord}
use Rattle.ot_log_format.specs.declared.word.RecordWord.TheVariants as words
use Rattle.ot_log_records.specs.Entries.{Operand, Count, AName, AType, ATerm, ASequent, Entry}

-- ---- the cases of a derivation, one record each

abbrev pub of_term : RecordWord → Tm Name → Entry
of_term w t = record { word = w; operands = ATerm t ∷ [] }

abbrev pub of_two : RecordWord → ℕ → ℕ → Entry
of_two w i j = record { word = w; operands = ASequent i ∷ ASequent j ∷ [] }

abbrev pub abs_thm_entry : Variable Name → ℕ → Entry
abs_thm_entry v i = record { word = words.AbsThm; operands = AName v.name ∷ AType v.ty ∷ ASequent i ∷ [] }

abbrev pub type_pair : Name × Ty Name → List Operand
type_pair p = AName p.0 ∷ AType p.1 ∷ []

abbrev pub term_pair : Variable Name × Tm Name → List Operand
term_pair p = AName p.0.name ∷ AType p.0.ty ∷ ATerm p.1 ∷ []

abbrev pub subst_entry : TypeMap names → TermMap names → ℕ → Entry
subst_entry s m i = record {
  word = words.Subst;
  operands = ASequent i ∷ Count (length s) ∷ (flat_map type_pair s ++ Count (length m) ∷ flat_map term_pair m);
}

-- ---- an assumption: its hypotheses in the order of the bytes of their texts, each once

-- before the first with a greater text, unless its text is there
abbrev pub put_between : Ordering → Tm Name → Tm Name → List (Tm Name) → List (Tm Name) → List (Tm Name)
put_between Less t u us put = t ∷ u ∷ us
put_between Equal t u us put = u ∷ us
put_between Greater t u us put = u ∷ put

abbrev pub with_term : Tm Name → List (Tm Name) → List (Tm Name)
with_term t [] = t ∷ []
with_term t (u ∷ us) = put_between (order (tm_text t) (tm_text u)) t u us (with_term t us)

abbrev pub by_text : List (Tm Name) → List (Tm Name)
by_text [] = []
by_text (t ∷ ts) = with_term t (by_text ts)

abbrev pub assumption_entry : List (Tm Name) → Tm Name → Entry
assumption_entry hyps p = record {
  word = words.Assumption;
  operands = ATerm p ∷ Count (length (by_text hyps)) ∷ map ATerm (by_text hyps);
}

-- ---- words that stand for several records; `next` is the number of the first one's sequent

-- the constant `=` at a type
abbrev pub equals_at : Ty Name → Tm Name
equals_at ty = Con names.equals (fun_ty names ty (fun_ty names ty (bool_ty names)))

-- of t = u: refl of `=`; appThm of that with the theorem; refl of t; appThm of the two; eqMp of that with the same
-- refl
abbrev pub sym_entries : ℕ → Ty Name → Tm Name → ℕ → List Entry
sym_entries next ty t i =
    of_term words.Refl (equals_at ty) ∷ of_two words.AppThm next i ∷ of_term words.Refl t
    ∷ of_two words.AppThm (next + 1) (next + 2) ∷ of_two words.EqMp (next + 3) (next + 2) ∷ []

-- of the first a = b and the second b = d: refl of `=` applied to a; appThm of that with the second; eqMp of that
-- with the first
abbrev pub trans_entries : ℕ → Ty Name → Tm Name → (first second : ℕ) → List Entry
trans_entries next ty a first second =
    of_term words.Refl (App (equals_at ty) a) ∷ of_two words.AppThm next second ∷ of_two words.EqMp (next + 1) first
    ∷ []

-- deductAntisym of the lemma and the other; eqMp of that with the lemma
abbrev pub prove_hyp_entries : ℕ → (lemma other : ℕ) → List Entry
prove_hyp_entries next lemma other = of_two words.DeductAntisym lemma other ∷ of_two words.EqMp next lemma ∷ []

-- ---- for the theorems themselves, which say what comes first

abbrev pub sides : Sequent Name → Option (Ty Name × Tm Name × Tm Name)
sides q = as_equation names q.concl

abbrev pub sym_of : ℕ → Option (Ty Name × Tm Name × Tm Name) → ℕ → List Entry
sym_of next (Some e) i = sym_entries next e.0 e.1 i
sym_of next None i = []

-- the first theorem is the lower one where its right side is the left side of the top one
abbrev pub trans_of : ℕ → (lower top : Option (Ty Name × Tm Name × Tm Name)) → (i j : ℕ) → List Entry
trans_of next (Some e) (Some f) i j =
    cond (same_tm names e.2 f.1) (trans_entries next e.0 e.1 i j) (trans_entries next f.0 f.1 j i)
trans_of next _ _ i j = []

-- the lemma is the top theorem, but the lower one where that alone fits
abbrev pub prove_hyp_of : ℕ → (lower top : Sequent Name) → (i j : ℕ) → List Entry
prove_hyp_of next lower top i j =
    cond (not (is_in names top.concl lower.hyps) && is_in names lower.concl top.hyps)
    (prove_hyp_entries next i j) (prove_hyp_entries next j i)
