-- What each line keeps of the blocks.
use Rattle.std.proofs.Common.{◌≡◌, ℕ, List, [], ◌∷◌, ◌++◌, map, length, false}
use Rattle.std.proofs.Common.{sym, subst, inl, inr, Some, None, append-nil, arith}
use Rattle.std.specs.Prelude.{Option, Result, Ok, Err, IfOk}
use Rattle.std.specs.List.{AllByRecursion}
use Rattle.std.specs.Option.{option_to_list}
use Rattle.std.specs.Str.{bytes_eq}
use Rattle.std.proofs.lemmas.List.{map-append}
use Rattle.std.proofs.lemmas.Slice.Eq.{bytes_eq-Decides}
use Rattle.ot_lines.specs.Pieces.{pieces}
use Rattle.ot_logic.specs.Lists.{IsMember, AreDistinct}
use Rattle.ot_theory.specs.Lines.{LineText, lines_of}
use Rattle.ot_theory.specs.Values.{key_of}
use Rattle.ot_theory.specs.Theory.{TagText, BlockText, TheoryText, State, has_block}
use Rattle.ot_theory.specs.Theory.{with_statement, read_lines, finish, no_lines, theory}
use Rattle.ot_theory.specs.Answers.{Parses, theory_of}
use Rattle.ot_theory.specs.declared.theory.Theory.{Theory}
use Rattle.ot_theory.specs.declared.fault.TheoryError.{TheoryError}
use Rattle.ot_theory.specs.Sound.{IsRightBlock, IsSound}
use Rattle.ot_theory.proofs.Statements.{all_front, all_last, distinct_last, both_false}
use Rattle.ot_theory.proofs.Statements.{second_false, Allowed, allowed, block_right}
use Rattle.ot_theory.proofs.LineForms.{IsPlainLine, plain_lines, value_plain}
use Rattle.ot_theory.proofs.Steps.{bind_ok, tag_at, OnSteps, kept, ended}
use Rattle.ot_logic.proofs.Elements.{AllByRecursion-append}

abbrev pub all_blocks : State → List BlockText
all_blocks s = s.blocks ++ option_to_list s.open_block

abbrev names_of : List BlockText → List (List ℕ)
names_of blocks = map (λ b. b.name) blocks

pub record AreSound (blocks : List BlockText) : Type 0 where
  pub names : AreDistinct (names_of blocks)
  pub right : AllByRecursion IsRightBlock blocks

no_block : (blocks : List BlockText) (name : List ℕ) → has_block blocks name ≡ false
    → ¬ (IsMember name (names_of blocks))
no_block [] name e = λ m. m
no_block (b ∷ bs) name e = λ m. elim m [
  | inl same ↦ both_false (bytes_eq b.name name) (has_block bs name) ((bytes_eq-Decides b.name name).1 same) e
  | inr k ↦ no_block bs name (second_false (bytes_eq b.name name) (has_block bs name) e) k
]

-- a new block behind the others
block_more : (blocks : List BlockText) (b : BlockText) → AreSound blocks → has_block blocks b.name ≡ false
    → IsRightBlock b → AreSound (blocks ++ b ∷ [])
block_more blocks b p new right = record {
  names = rw (map-append (λ (z : BlockText). z.name) blocks (b ∷ []))
      (distinct_last b.name (names_of blocks) p.names (no_block blocks b.name new));
  right = AllByRecursion-append IsRightBlock blocks (b ∷ []) p.right (right, tt);
}

-- a statement more in the last block
statement_more : (blocks : List BlockText) (b : BlockText) (t : TagText) → AreSound (blocks ++ b ∷ [])
    → ¬ (IsMember 10 t.value) → Allowed (key_of t.key) t.value b.statements
    → AreSound (blocks ++ with_statement b t ∷ [])
statement_more blocks b t p plain a = record {
  names = rw (map-append (λ (z : BlockText). z.name) blocks (with_statement b t ∷ []))
      (rw (map-append (λ (z : BlockText). z.name) blocks (b ∷ [])) at p.names);
  right = AllByRecursion-append IsRightBlock blocks (with_statement b t ∷ [])
      (all_front IsRightBlock blocks (b ∷ []) p.right)
      (block_right b t (all_last IsRightBlock blocks (b ∷ []) p.right).0 plain a, tt);
}

opened_as : (s : State) (o : Option BlockText) → s.open_block ≡ o → AreSound (all_blocks s)
    → AreSound (s.blocks ++ option_to_list o)
opened_as s o e p = subst (λ (z : Option BlockText). AreSound (s.blocks ++ option_to_list z)) e p

empty_right : (line : ℕ) (name : List ℕ) → IsRightBlock (record { line = line; name = name; statements = [] })
empty_right line name = record { lines = tt; values = tt; sources = omega arith; renamings = tt }

sound_steps : (s : State) (line : LineText) → IsPlainLine line → AreSound (all_blocks s)
    → OnSteps s line (λ after. AreSound (all_blocks after))
sound_steps s line plain p = record {
  tagged = λ key value o is. p;
  opened = λ name o is new.
      block_more s.blocks (record { line = line.number; name = name; statements = [] })
      (rw (append-nil s.blocks) at (opened_as s None o p)) new
      (empty_right line.number name);
  added = λ b key value o is ok.
      statement_more s.blocks b (tag_at line.number key value) (opened_as s (Some b) o p)
      (value_plain line key value plain is) (allowed (key_of key) value b.statements ok);
  closed = λ b o is. rw (append-nil (s.blocks ++ b ∷ [])) (opened_as s (Some b) o p);
}

theory_sound : (text : List ℕ) (t : TheoryText) → theory text ≡ Ok t → IsSound t
theory_sound text t e =
    let h = bind_ok (read_lines (lines_of text) no_lines) (finish (length (pieces text))) t e in
    let all = kept IsPlainLine (λ s. AreSound (all_blocks s)) sound_steps (lines_of text) no_lines h.0
    (plain_lines text) h.1.0 (record { names = tt; right = tt }) in
    let end = ended (length (pieces text)) h.0 t h.1.1 in
    let blocks : AreSound h.0.blocks = rw (append-nil h.0.blocks) at (opened_as h.0 None end.closed all) in
    subst IsSound (sym end.is) (record { main = end.main; names = blocks.names; blocks = blocks.right })

-- so is each that was parsed
pub parsed_sound : (answer : Result Theory TheoryError) (text : List ℕ) → Parses answer (theory text)
    → IfOk answer (λ t. IsSound (theory_of t))
parsed_sound (Ok t) text e = theory_sound text (theory_of t) e
parsed_sound (Err d) text e = tt
