-- What a text is read as or refused for, by what its reading is.
use Rattle.std.specs.Prelude.{◌≡◌, ◌+◌, ◌-◌, ℕ, false}
use Rattle.std.specs.Prelude.{length, List, [], ◌∷◌, Result, Ok, Err, IfOk, IfErr}
use Rattle.std.proofs.Common.{sym, ◌∙◌, ap, subst, arith, inl, inr}
use Rattle.ot_logic.specs.Names.{Name}
use Rattle.ot_logic.specs.Trees.{Symbol}
use Rattle.ot_forms.specs.declared.fault.TextFault.{TextFault}
use Rattle.ot_forms.specs.declared.fault.TextFault.TheVariants.{Syntax, TooManyOpen}
use Rattle.ot_forms.specs.Words.{IsNotation}
use Rattle.ot_forms.specs.Forms.{Written}
use Rattle.ot_forms.specs.Meaning.{meaning}
use Rattle.ot_forms.specs.Refusals.{ReadsAs, ReadsAsTerm}
use Rattle.ot_forms.specs.Reading.{NoForm, OneTooMany, Got, Halted, line_at}
use Rattle.ot_parse.specs.declared.halt.Halt.{Halt}
use Rattle.ot_parse.specs.declared.halt.Halt.TheVariants as halts
use Rattle.ot_parse.specs.declared.readable.Readable.{Readable}
use Rattle.ot_parse.specs.declared.refusal.ReadRefusal.{ReadRefusal}
use Rattle.ot_parse.specs.declared.refusal.ReadRefusal.TheVariants as refusals
use Rattle.ot_parse.specs.declared.values.Meant.TheVariants as parts
use Rattle.ot_parse.specs.declared.values.Value.{Value}
use Rattle.ot_logic.specs.PlainTrees.{term_of_tree}
use Rattle.ot_logic.specs.RanOut.{ran_out}
use Rattle.ot_parse.specs.Plain.{sequent_of}
use Rattle.ot_parse.specs.Refused.{IsRefusal, IsTermRefusal}
use Rattle.ot_parse.specs.Meant.{Meaning, place_at}
use Rattle.ot_parse.specs.Values.{meant_of}
use Rattle.ot_parse.specs.ReadLines.{terms, meant_at, IsStop, IsWholeText, IsMeantLine, IsWholeLine, IsAt, IsHaltedAt}
use Rattle.ot_parse.proofs.Causes.{line-halts, line-trails, line-opens, line-reads, line-wrong}
use Rattle.ot_parse.proofs.Causes.{term-halts, term-trails, term-opens, term-reads, term-wrong}
use Rattle.ot_parse.proofs.WholeLines.{was-read, unmapped}

-- a refusal at the wanted place
at-place : (P : ReadRefusal → Type 0) (k : ℕ) (f : TextFault) (r : ReadRefusal) → P (refusals.At (k + 1) f)
    → P (refusals.Memory ran_out) → IsAt k f r → P r
at-place P k f (refusals.At c g) h m e =
    subst (λ z. P (refusals.At c z)) (sym e.1) (subst (λ z. P (refusals.At z f)) (sym e.0) h)
at-place P k f (refusals.Memory memory) h m e = m

module _ (hidden : List (Symbol Name)) (nt : IsNotation hidden) where
  -- ---- a line
  module _ (line : List ℕ) where
    stops-line : (r : List ℕ) → IsStop (line_at (terms hidden) line) r
        → IsRefusal hidden line (refusals.At (length line - length r + 1) Syntax)
    stops-line r h = elim h [
      | inl e ↦ line-halts hidden nt line r e
      | inr a ↦ subst (λ z. IsRefusal hidden line (refusals.At (length line - length z + 1) Syntax)) (sym a.4)
          (line-trails hidden nt line a.0 a.1 a.2 a.3)
    ]

    pub line-refused : (h : Halt) (r : ReadRefusal) → IsWholeLine hidden line (Err h) → IsHaltedAt line h r
        → IsRefusal hidden line r
    line-refused (halts.Syntax q) r w e = at-place (IsRefusal hidden line) (length line - length q.now) Syntax r
        (stops-line q.now w) tt e
    line-refused (halts.TooManyOpen q) r w e = at-place (IsRefusal hidden line) (length line - length q.now)
        TooManyOpen r (line-opens hidden nt line q.now w) tt e
    line-refused (halts.Memory memory) r w e = subst (IsRefusal hidden line) (sym e) tt

    pub line-meant : (r : Result Readable ReadRefusal) → IsMeantLine hidden line r
        → IfOk r (λ x. ReadsAs hidden line (sequent_of x))
    line-meant (Ok r) h = line-reads hidden nt line h.0 (sequent_of r) h.1 h.2
    line-meant (Err e) h = tt

    pub line-meant-wrong : (r : Result Readable ReadRefusal) → IsMeantLine hidden line r
        → IfErr r (IsRefusal hidden line)
    line-meant-wrong (Ok r) h = tt
    line-meant-wrong (Err (refusals.At c f)) h =
        subst (λ z. IsRefusal hidden line (refusals.At z f)) (sym h.4) (line-wrong hidden nt line h.0 h.1 f h.2 h.3)
    line-meant-wrong (Err (refusals.Memory memory)) h = tt

  -- ---- a text of one term
  module _ (text : List ℕ) where
    abbrev means : Written → Meaning
    means = meaning hidden [] false (place_at (length text) text)

    from_start : place_at (length text) text ≡ 0
    from_start = omega arith

    stops-term : (r : List ℕ) → IsStop (meant_at hidden (length text) false text) r
        → IsTermRefusal hidden text (refusals.At (length text - length r + 1) Syntax)
    stops-term r h = elim h [
      | inl e ↦ term-halts hidden nt text r (halted r e)
      | inr a ↦ let w = was-read means (terms hidden text) a.0 (a.1 ∷ a.2) a.3 in
          subst (λ z. IsTermRefusal hidden text (refusals.At (length text - length z + 1) Syntax)) (sym a.4)
          (term-trails hidden nt text w.value a.1 a.2 w.read)
    ] where
      halted : (r : List ℕ) → meant_at hidden (length text) false text ≡ Halted NoForm r
          → terms hidden text ≡ Halted NoForm r
      halted r e = unmapped means (terms hidden text) NoForm r e

    pub term-refused : (h : Halt) (r : ReadRefusal) → IsWholeText (meant_at hidden (length text) false text) (Err h)
        → IsHaltedAt text h r → IsTermRefusal hidden text r
    term-refused (halts.Syntax q) r w e = at-place (IsTermRefusal hidden text) (length text - length q.now) Syntax r
        (stops-term q.now w) tt e
    term-refused (halts.TooManyOpen q) r w e =
        at-place (IsTermRefusal hidden text) (length text - length q.now) TooManyOpen r
        (term-opens hidden nt text q.now (unmapped means (terms hidden text) OneTooMany q.now w)) tt e
    term-refused (halts.Memory memory) r w e = subst (IsTermRefusal hidden text) (sym e) tt

    pub term-meant : (v : Value) → meant_at hidden (length text) false text ≡ Got (meant_of (parts.Value v)) []
        → ReadsAsTerm hidden text (term_of_tree v.term)
    term-meant v e = let w = was-read means (terms hidden text) (meant_of (parts.Value v)) [] e in
        term-reads hidden nt text w.value (term_of_tree v.term) w.read
        (ap (λ k. meaning hidden [] false k w.value) (sym from_start) ∙ w.made)

    pub term-meant-wrong : (k : ℕ) (f : TextFault) (r : ReadRefusal) → meant_at hidden (length text) false text
        ≡ Got (meant_of (parts.Wrong k f)) [] → IsAt k f r → IsTermRefusal hidden text r
    term-meant-wrong k f r e d = let w = was-read means (terms hidden text) (meant_of (parts.Wrong k f)) [] e in
        at-place (IsTermRefusal hidden text) k f r
        (term-wrong hidden nt text w.value k f w.read
        (ap (λ k. meaning hidden [] false k w.value) (sym from_start) ∙ w.made)) tt d
