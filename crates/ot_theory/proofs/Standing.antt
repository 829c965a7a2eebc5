-- The keys, values and names of a theory stand in its text, in order.
use Rattle.std.proofs.Common.{◌≡◌, ◌≤◌, ◌+◌, ℕ, List, [], ◌∷◌, ◌++◌, length, Bool, true, false, refl, sym, ap}
use Rattle.std.proofs.Common.{◌∙◌, subst, arith, inl, inr, Some, None, append-nil, append_assoc, length-append}
use Rattle.std.specs.Prelude.{Option, Ok, ◌⊎◌}
use Rattle.std.specs.List.{flat_map, concat}
use Rattle.std.specs.Option.{option_to_list}
use Rattle.std.proofs.lemmas.Grind.{flat_map-append}
use Rattle.ot_lines.specs.Pieces.{pieces, IsWhole, IsOpen, AreWhole, text_of, is_skipped}
use Rattle.ot_lines.proofs.Pieces.{one_cut-from}
use Rattle.ot_theory.specs.Lines.{LineText, numbered_lines, lines_of}
use Rattle.ot_theory.specs.Forms.{LineForm, Statement, Opening, Closing, NoForm, form}
use Rattle.ot_theory.specs.Theory.{TagText, BlockText, TheoryText, State}
use Rattle.ot_theory.specs.Theory.{with_statement, read_lines, finish, no_lines, theory}
use Rattle.ot_theory.specs.Places.{Part, tag_parts, block_parts, newlines, StandsAt, StandInOrder, InPlace}
use Rattle.ot_theory.proofs.Steps.{bind_ok, tag_at, OnSteps, by_step, first_line, ended, if_ok}
use Rattle.ot_theory.proofs.Soundness.{all_blocks}
use Rattle.ot_theory.proofs.Trims.{newlines-append, one_newline, TextIn, text_in}
use Rattle.ot_theory.proofs.LineForms.{FormIn, form_in}
use Rattle.ot_logic.proofs.Results.{same_Ok}

-- ---- lines

abbrev part_of : LineText → Part
part_of line = record { line = line.number; bytes = line.text }

-- the lines stand in the text one behind the other, and none holds a newline
abbrev LinesStand : List ℕ → ℕ → List LineText → Type 0
LinesStand text from [] = Unit {0}
LinesStand text from (line ∷ lines) =
    (place : ℕ)
    × ((from ≤ place)
    × (StandsAt text (part_of line) place
    × ((newlines line.text ≡ 0) × LinesStand text (place + length line.text) lines)))

-- the first piece stands behind the text before it, and the lines of the others where they are said to
line_first : (text before p : List ℕ) (ps : List (List ℕ)) (from : ℕ) → (IsWhole p) ⊎ (IsOpen p)
    → text ≡ (before ++ p) ++ concat ps → from ≤ length before
    → ((k : ℕ) → k ≤ length (before ++ p) → LinesStand text k (numbered_lines (newlines before + 1) ps))
    → LinesStand text from (numbered_lines (newlines before) (p ∷ ps))
line_first text before p ps from w whole le others = by_skip (is_skipped (text_of p)) refl where
  cut : TextIn p
  cut = text_in p w

  start : List ℕ
  start = before ++ cut.front

  stands : StandsAt text (record { line = newlines before + 1; bytes = text_of p }) (length start)
  stands = record {
    before = start;
    after = cut.back ++ concat ps;
    cut = whole ∙ ap (λ z. (before ++ z) ++ concat ps) cut.is ∙ simp append_assoc;
    place_is = refl;
    line_is =
        ap (λ n. n + 1)
        (sym (newlines-append before cut.front ∙ ap (λ n. newlines before + n) cut.front_plain ∙ omega arith));
  }

  size : length p ≡ length cut.front + (length (text_of p) + length cut.back)
  size = ap length cut.is ∙ length-append cut.front (text_of p ++ cut.back)
      ∙ ap (λ n. length cut.front + n) (length-append (text_of p) cut.back)

  by_skip : (b : Bool) → is_skipped (text_of p) ≡ b → LinesStand text from (numbered_lines (newlines before) (p ∷ ps))
  by_skip true skips = rw skips (others from (omega (arith, le, length-append before p)))
  by_skip false skips = rw skips (
    length start,
    (
      omega (arith, le, length-append before cut.front),
      (
        stands,
        (
          cut.text_plain,
          others (length start + length (text_of p))
              (omega (arith, length-append before cut.front, length-append before p, size)),
        ),
      ),
    ),
  )

-- behind the text before them, which has as many newlines as there are lines before
lines_from : (text before : List ℕ) (ps : List (List ℕ)) (from : ℕ) → AreWhole ps → text ≡ before ++ concat ps
    → from ≤ length before → LinesStand text from (numbered_lines (newlines before) ps)
lines_from text before [] from w e le = tt
lines_from text before (p ∷ []) from w e le =
    line_first text before p [] from w (e ∙ sym (append_assoc before p [])) le (λ k at. tt)
lines_from text before (p ∷ q ∷ qs) from w e le =
    let whole : text ≡ (before ++ p) ++ concat (q ∷ qs) = e ∙ sym (append_assoc before p (concat (q ∷ qs))) in
    let count : newlines (before ++ p) ≡ newlines before + 1 = newlines-append before p
    ∙ ap (λ n. newlines before + n) (one_newline p w.0) in
    line_first text before p (q ∷ qs) from (inl w.0) whole le
    (λ k at. subst (λ (n : ℕ). LinesStand text k (numbered_lines n (q ∷ qs))) count
    (lines_from text (before ++ p) (q ∷ qs) k w.1 whole at))

lines_stand : (text : List ℕ) → LinesStand text 0 (lines_of text)
lines_stand text =
    let cut = one_cut-from text (pieces text) refl in
    lines_from text [] (pieces text) 0 cut.whole (sym cut.joined) (omega arith)

-- ---- the parts of a line

abbrev form_parts : ℕ → LineForm → List Part
form_parts line (Statement key value) = record { line = line; bytes = key } ∷ record { line = line; bytes = value }
    ∷ []
form_parts line (Opening name) = record { line = line; bytes = name } ∷ []
form_parts line Closing = []
form_parts line NoForm = []

-- from an earlier place on, too
earlier : (text : List ℕ) (from more : ℕ) (parts : List Part) → from ≤ more → StandInOrder text more parts
    → StandInOrder text from parts
earlier text from more [] le s = tt
earlier text from more (part ∷ parts) le s = (s.0, (omega (arith, le, s.1.0), s.1.1))

-- a part of a line stands where the line stands and what is before it ends
inside : (text : List ℕ) (line : LineText) (place : ℕ) (front bytes back : List ℕ)
    → StandsAt text (part_of line) place → newlines line.text ≡ 0
    → line.text ≡ front ++ (bytes ++ back) → StandsAt text (record { line = line.number; bytes = bytes })
    (place + length front)
inside text line place front bytes back at plain e =
    let total : newlines line.text ≡ newlines front + newlines (bytes ++ back) = ap newlines e
    ∙ newlines-append front (bytes ++ back) in
    let none : newlines front ≡ 0 = omega (arith, total, plain) in
    record {
      before = at.before ++ front;
      after = back ++ at.after;
      cut = at.cut ∙ ap (λ z. at.before ++ (z ++ at.after)) e ∙ simp append_assoc;
      place_is = omega (arith, at.place_is, length-append at.before front);
      line_is = at.line_is ∙ omega (arith, newlines-append at.before front, none);
    }

-- the parts of a line's form stand in it, before what follows the line
parts_stand : (text : List ℕ) (from : ℕ) (line : LineText) (place : ℕ) (f : LineForm) (parts : List Part)
    → FormIn f line.text → from ≤ place → StandsAt text (part_of line) place → newlines line.text ≡ 0
    → StandInOrder text (place + length line.text) parts → StandInOrder text from (form_parts line.number f ++ parts)
parts_stand text from line place (Statement key value) parts h le at plain next =
    let shape : line.text ≡ (key ++ h.0) ++ (value ++ []) = h.1 ∙ sym (append_assoc key h.0 value)
    ∙ ap (λ z. (key ++ h.0) ++ z) (sym (append-nil value)) in
    let size : length line.text ≡ length (key ++ h.0) + length value =
    ap length (h.1 ∙ sym (append_assoc key h.0 value)) ∙ length-append (key ++ h.0) value in (
      place + 0,
      (
        omega (arith, le),
        (
          inside text line place [] key (h.0 ++ value) at plain h.1,
          (
            place + length (key ++ h.0),
            (
              omega (arith, length-append key h.0),
              (
                inside text line place (key ++ h.0) value [] at plain shape,
                subst (λ (k : ℕ). StandInOrder text k parts) (omega (arith, size)) next,
              ),
            ),
          ),
        ),
      ),
    )
parts_stand text from line place (Opening name) parts h le at plain next =
    let size : length line.text ≡ length name + length h.0 = ap length h.1 ∙ length-append name h.0 in (
      place + 0,
      (
        omega (arith, le),
        (
          inside text line place [] name h.0 at plain h.1,
          earlier text (place + 0 + length name)
              (place + length line.text) parts (omega (arith, size)) next,
        ),
      ),
    )
parts_stand text from line place Closing parts h le at plain next =
    earlier text from (place + length line.text) parts (omega (arith, le)) next
parts_stand text from line place NoForm parts h le at plain next =
    earlier text from (place + length line.text) parts (omega (arith, le)) next

-- ---- parts that come from lines

-- the parts are those of some of the lines, in order
abbrev ComeFrom : List LineText → List Part → Type 0
ComeFrom [] parts = parts ≡ []
ComeFrom (line ∷ lines) parts =
    ComeFrom lines parts
    ⊎ ((more : List Part) × ((parts ≡ form_parts line.number (form line.text) ++ more) × ComeFrom lines more))

come_stand : (text : List ℕ) (from : ℕ) (lines : List LineText) (parts : List Part) → LinesStand text from lines
    → ComeFrom lines parts → StandInOrder text from parts
come_stand text from [] parts s h = rw h tt
come_stand text from (line ∷ lines) parts s h = elim h [
  | inl k ↦ earlier text from (s.0 + length line.text) parts (omega (arith, s.1.0))
      (come_stand text (s.0 + length line.text) lines parts s.1.1.1.1 k)
  | inr k ↦ subst (StandInOrder text from) (sym k.1.0)
      (parts_stand text from line s.0 (form line.text) k.0 (form_in line.text) s.1.0 s.1.1.0 s.1.1.1.0
      (come_stand text (s.0 + length line.text) lines k.0 s.1.1.1.1 k.1.1))
]

-- the parts stay, or those of the line come behind them
abbrev GrowsBy : LineText → List Part → List Part → Type 0
GrowsBy line old new = (new ≡ old) ⊎ (new ≡ old ++ form_parts line.number (form line.text))

-- what comes behind the old parts comes from the lines
abbrev GrowsFrom : List LineText → List Part → List Part → Type 0
GrowsFrom lines old new = (more : List Part) × ((new ≡ old ++ more) × ComeFrom lines more)

one_line_more : (line : LineText) (lines : List LineText) (old next new : List Part) → GrowsBy line old next
    → GrowsFrom lines next new → GrowsFrom (line ∷ lines) old new
one_line_more line lines old next new g h = elim g [
  | inl e ↦ (h.0, (h.1.0 ∙ ap (λ z. z ++ h.0) e, inl h.1.1))
  | inr e ↦
      let parts = form_parts line.number (form line.text) in
      (parts ++ h.0, (h.1.0 ∙ ap (λ z. z ++ h.0) e ∙ append_assoc old parts h.0, inr (h.0, (refl, h.1.1))))
]

abbrev state_tags : State → List Part
state_tags s = flat_map tag_parts s.tags

abbrev state_blocks : State → List Part
state_blocks s = flat_map block_parts (all_blocks s)

pub record StateGrows (line : LineText) (old new : State) : Type 0 where
  pub tags : GrowsBy line (state_tags old) (state_tags new)
  pub blocks : GrowsBy line (state_blocks old) (state_blocks new)

opened_parts : (s : State) (o : Option BlockText) → s.open_block ≡ o
    → flat_map block_parts (s.blocks ++ option_to_list o) ≡ state_blocks s
opened_parts s o e = ap (λ z. flat_map block_parts (s.blocks ++ option_to_list z)) (sym e)

-- a statement behind those of the last block
statement_parts : (blocks : List BlockText) (b : BlockText) (t : TagText) → flat_map block_parts
    (blocks ++ with_statement b t ∷ []) ≡ flat_map block_parts (blocks ++ b ∷ []) ++ tag_parts t
statement_parts blocks b t =
    let name : Part = record { line = b.line; bytes = b.name } in
    let last : flat_map block_parts (with_statement b t ∷ []) ≡ flat_map block_parts (b ∷ []) ++ tag_parts t =
    append-nil (name ∷ flat_map tag_parts (b.statements ++ t ∷ []))
    ∙ ap (λ z. name ∷ z) (flat_map-append tag_parts b.statements (t ∷ []))
    ∙ ap (λ z. z ++ tag_parts t) (sym (append-nil (name ∷ flat_map tag_parts b.statements))) in
    flat_map-append block_parts blocks (with_statement b t ∷ [])
    ∙ ap (λ z. flat_map block_parts blocks ++ z) last
    ∙ sym (append_assoc (flat_map block_parts blocks) (flat_map block_parts (b ∷ [])) (tag_parts t))
    ∙ ap (λ z. z ++ tag_parts t) (sym (flat_map-append block_parts blocks (b ∷ [])))

state_steps : (s : State) (line : LineText) → OnSteps s line (StateGrows line s)
state_steps s line = record {
  tagged = λ key value o is. record {
    tags = inr (flat_map-append tag_parts s.tags (tag_at line.number key value ∷ [])
        ∙ ap (λ z. state_tags s ++ form_parts line.number z) (sym is));
    blocks = inl refl;
  };
  opened = λ name o is new. record {
    tags = inl refl;
    blocks = inr
        (flat_map-append block_parts s.blocks (record { line = line.number; name = name; statements = [] } ∷ [])
        ∙ ap (λ z. z ++ form_parts line.number (Opening name)) (ap (flat_map block_parts) (sym (append-nil s.blocks))
        ∙ opened_parts s None o)
        ∙ ap (λ z. state_blocks s ++ form_parts line.number z) (sym is));
  };
  added = λ b key value o is allowed. record {
    tags = inl refl;
    blocks = inr (statement_parts s.blocks b (tag_at line.number key value)
        ∙ ap (λ z. z ++ tag_parts (tag_at line.number key value)) (opened_parts s (Some b) o)
        ∙ ap (λ z. state_blocks s ++ form_parts line.number z) (sym is));
  };
  closed = λ b o is. record {
    tags = inl refl;
    blocks = inl (ap (flat_map block_parts) (append-nil (s.blocks ++ b ∷ [])) ∙ opened_parts s (Some b) o);
  };
}

pub record StateFrom (lines : List LineText) (old new : State) : Type 0 where
  pub tags : GrowsFrom lines (state_tags old) (state_tags new)
  pub blocks : GrowsFrom lines (state_blocks old) (state_blocks new)

state_from : (lines : List LineText) (s after : State) → read_lines lines s ≡ Ok after → StateFrom lines s after
state_from [] s after e =
    let same = same_Ok _ _ e in
    record {
      tags = ([], (ap state_tags (sym same) ∙ sym (append-nil (state_tags s)), refl));
      blocks = ([], (ap state_blocks (sym same) ∙ sym (append-nil (state_blocks s)), refl));
    }
state_from (line ∷ lines) s after e =
    let h = first_line line lines s after e in
    let g = by_step s line h.0 (StateGrows line s) (state_steps s line) h.1.0 in
    let k = state_from lines h.0 after h.1.1 in
    record {
      tags = one_line_more line lines (state_tags s) (state_tags h.0) (state_tags after) g.tags k.tags;
      blocks = one_line_more line lines (state_blocks s) (state_blocks h.0) (state_blocks after) g.blocks k.blocks;
    }

grown_stands : (text : List ℕ) (parts : List Part) → GrowsFrom (lines_of text) [] parts → StandInOrder text 0 parts
grown_stands text parts g =
    subst (StandInOrder text 0) (sym g.1.0) (come_stand text 0 (lines_of text) g.0 (lines_stand text) g.1.1)

theory_in_place : (text : List ℕ) (t : TheoryText) → theory text ≡ Ok t
    → StandInOrder text 0 (flat_map tag_parts t.tags) × StandInOrder text 0 (flat_map block_parts t.blocks)
theory_in_place text t e =
    let h = bind_ok (read_lines (lines_of text) no_lines) (finish (length (pieces text))) t e in
    let from = state_from (lines_of text) no_lines h.0 h.1.0 in
    let end = ended (length (pieces text)) h.0 t h.1.1 in
    let blocks : state_blocks h.0 ≡ flat_map block_parts h.0.blocks =
    sym (opened_parts h.0 None end.closed) ∙ ap (flat_map block_parts) (append-nil h.0.blocks) in (
      subst (λ (z : TheoryText). StandInOrder text 0 (flat_map tag_parts z.tags)) (sym end.is)
          (grown_stands text (state_tags h.0) from.tags),
      subst (λ (z : TheoryText). StandInOrder text 0 (flat_map block_parts z.blocks)) (sym end.is)
          (subst (StandInOrder text 0) blocks (grown_stands text (state_blocks h.0) from.blocks)),
    )

pub in_place : InPlace
in_place text = if_ok _ (theory text) (theory_in_place text)
