-- The lines that pass: what each of them is, and how the state goes on.
use Rattle.std.proofs.Common.{◌≡◌, ℕ, List, [], ◌∷◌, ◌++◌, true, false, refl, sym, ap, ◌∙◌, subst, Some, None}
use Rattle.std.specs.Prelude.{Option, Result, Ok, Err, not, codes, IfOk}
use Rattle.std.specs.List.{AllByRecursion}
use Rattle.std.proofs.lemmas.Bool.{not-true}
use Rattle.ot_logic.specs.Answers.{◌>>=◌, unless}
use Rattle.ot_theory.specs.Lines.{LineText}
use Rattle.ot_theory.specs.Forms.{LineForm, Statement, Opening, Closing, NoForm, form}
use Rattle.ot_theory.specs.Theory.{TagText, BlockText, TheoryText, State, has_block, statement_allowed}
use Rattle.ot_theory.specs.Theory.{statement_added, with_statement, line_outside, line_inside, line_at}
use Rattle.ot_theory.specs.Theory.{line_step, at_line, read_lines, finish, finish_at}
use Rattle.ot_theory.specs.declared.fault.TheoryFault.{TheoryFault}
use Rattle.ot_theory.specs.declared.fault.TheoryFault.TheVariants.{DuplicateBlock, BadBlock, BadLine, NoMain}
use Rattle.ot_logic.proofs.Results.{same_Ok, unless-ok}

pub err_ok : {A E : Type 0} (e : E) (x : A) → ◌≡◌ {A = Result A E} (Err e) (Ok x) → ⊥
err_ok e x h = cc

-- what a step that passes was given
pub bind_ok : {A B E : Type 0} (r : Result A E) (f : A → Result B E) (y : B) → (r >>= f) ≡ Ok y
    → (x : A) × ((r ≡ Ok x) × (f x ≡ Ok y))
bind_ok (Ok x) f y e = (x, (refl, e))
bind_ok (Err d) f y e = absurd (err_ok d y e)

pub at_line_ok : {A : Type 0} (line : ℕ) (r : Result A TheoryFault) (x : A) → at_line line r ≡ Ok x → r ≡ Ok x
at_line_ok line (Ok y) x e = ap Ok (same_Ok y x e)
at_line_ok line (Err fault) x e = absurd (err_ok (line, fault) x e)

abbrev pub tag_at : ℕ → List ℕ → List ℕ → TagText
tag_at line key value = record { line = line; key = key; value = value }

-- what has to be shown of each line that passes
pub record OnSteps (s : State) (line : LineText) (P : State → Type 0) : Type 0 where
  pub tagged : (key value : List ℕ) → s.open_block ≡ None → form line.text ≡ Statement key value
      → P (record s { tags = s.tags ++ tag_at line.number key value ∷ [] })
  pub opened : (name : List ℕ) → s.open_block ≡ None → form line.text ≡ Opening name → has_block s.blocks name ≡ false
      → P (record s { open_block = Some (record { line = line.number; name = name; statements = [] }) })
  pub added : (b : BlockText) (key value : List ℕ) → s.open_block ≡ Some b → form line.text ≡ Statement key value
      → statement_allowed (tag_at line.number key value) b.statements ≡ Ok tt
      → P (record s { open_block = Some (with_statement b (tag_at line.number key value)) })
  pub closed : (b : BlockText) → s.open_block ≡ Some b → form line.text ≡ Closing
      → P (record { tags = s.tags; blocks = s.blocks ++ b ∷ []; open_block = None })

outside_step : (s : State) (line : LineText) (P : State → Type 0) → OnSteps s line P → s.open_block ≡ None
    → (f : LineForm) → form line.text ≡ f → (after : State) → line_outside s line.number f ≡ Ok after → P after
outside_step s line P on o (Statement key value) is after e = subst P (same_Ok _ _ e) (on.tagged key value o is)
outside_step s line P on o (Opening name) is after e =
    let h = bind_ok (unless DuplicateBlock (not (has_block s.blocks name))) _ after e in
    subst P (same_Ok _ _ h.1.1) (on.opened name o is (not-true _ (unless-ok DuplicateBlock _ h.0 h.1.0)))
outside_step s line P on o Closing is after e = absurd (err_ok BadBlock after e)
outside_step s line P on o NoForm is after e = absurd (err_ok BadLine after e)

inside_step : (s : State) (line : LineText) (P : State → Type 0) → OnSteps s line P → (b : BlockText)
    → s.open_block ≡ Some b
    → (f : LineForm) → form line.text ≡ f → (after : State) → line_inside s b line.number f ≡ Ok after → P after
inside_step s line P on b o (Statement key value) is after e =
    let h = bind_ok (statement_added b (tag_at line.number key value)) _ after e in
    let k = bind_ok (statement_allowed (tag_at line.number key value) b.statements) _ h.0 h.1.0 in
    let more : with_statement b (tag_at line.number key value) ≡ h.0 = same_Ok _ _ k.1.1 in
    subst P (ap (λ z. record s { open_block = Some z }) more ∙ same_Ok _ _ h.1.1) (on.added b key value o is k.1.0)
inside_step s line P on b o (Opening name) is after e = absurd (err_ok BadBlock after e)
inside_step s line P on b o Closing is after e = subst P (same_Ok _ _ e) (on.closed b o is)
inside_step s line P on b o NoForm is after e = absurd (err_ok BadLine after e)

-- a line that passes is one of the four
pub by_step : (s : State) (line : LineText) (after : State) (P : State → Type 0) → OnSteps s line P
    → line_step s line ≡ Ok after → P after
by_step s line after P on e = by_block s.open_block refl e where
  by_block : (o : Option BlockText) → s.open_block ≡ o → line_at s o line.number (form line.text) ≡ Ok after → P after
  by_block None o e = outside_step s line P on o (form line.text) refl after e
  by_block (Some b) o e = inside_step s line P on b o (form line.text) refl after e

-- the first of the lines passes, and then the others
pub first_line : (line : LineText) (lines : List LineText) (s after : State) → read_lines (line ∷ lines) s ≡ Ok after
    → (next : State) × ((line_step s line ≡ Ok next) × (read_lines lines next ≡ Ok after))
first_line line lines s after e =
    let h = bind_ok (at_line line.number (line_step s line)) (read_lines lines) after e in
    (h.0, (at_line_ok line.number (line_step s line) h.0 h.1.0, h.1.1))

-- what each of these lines keeps holds behind all of them
pub kept : (Q : LineText → Type 0) (P : State → Type 0)
    → ((s : State) (line : LineText) → Q line → P s → OnSteps s line P)
    → (lines : List LineText) (s after : State) → AllByRecursion Q lines → read_lines lines s ≡ Ok after → P s
    → P after
kept Q P on [] s after q e p = subst P (same_Ok _ _ e) p
kept Q P on (line ∷ lines) s after q e p =
    let h = first_line line lines s after e in
    kept Q P on lines h.0 after q.1 h.1.1 (by_step s line h.0 P (on s line q.0 p) h.1.0)

-- at the end no block is open, one is `main`, and the theory is what was read
pub record Ends (s : State) (t : TheoryText) : Type 0 where
  pub closed : s.open_block ≡ None
  pub is : t ≡ record { tags = s.tags; blocks = s.blocks }
  pub main : has_block s.blocks (codes "main") ≡ true

pub ended : (last : ℕ) (s : State) (t : TheoryText) → finish last s ≡ Ok t → Ends s t
ended last s t e = by_block s.open_block refl e where
  by_block : (o : Option BlockText) → s.open_block ≡ o → finish_at last s o ≡ Ok t → Ends s t
  by_block None o e =
      let h = bind_ok (at_line last (unless NoMain (has_block s.blocks (codes "main")))) _ t e in
      record {
        closed = o;
        is = sym (same_Ok _ _ h.1.1);
        main = unless-ok NoMain _ h.0 (at_line_ok last (unless NoMain (has_block s.blocks (codes "main"))) h.0 h.1.0);
      }
  by_block (Some b) o e = absurd (err_ok (b.line, BadBlock) t e)

-- what holds of each theory that the text may write
pub if_ok : {A E : Type 0} (P : A → Type 0) (r : Result A E) → ((x : A) → r ≡ Ok x → P x) → IfOk r P
if_ok P (Ok x) h = h x refl
if_ok P (Err e) h = tt
