-- What the functions over whole terms and lines answer.
use Rattle.std.specs.Prelude.{◌≡◌, ◌⊎◌, ◌+◌, ◌-◌, ℕ, Bool, true, false, Some, None, codes}
use Rattle.std.specs.Prelude.{List, [], ◌∷◌, ◌++◌, map, length, cond, Result, Ok, Err}
use Rattle.ot_logic.specs.Answers.{◌>>=◌}
use Rattle.ot_logic.specs.Names.{Name}
use Rattle.ot_logic.specs.Naming.{names}
use Rattle.ot_logic.specs.Trees.{Tm, Sequent, Symbol}
use Rattle.ot_logic.specs.Hol.{same_tm, once_each}
use Rattle.ot_logic.specs.declared.memory.Memory.{Memory}
use Rattle.ot_forms.specs.declared.fault.TextFault.{TextFault}
use Rattle.ot_forms.specs.declared.fault.TextFault.TheVariants.{Syntax, TooManyOpen}
use Rattle.ot_forms.specs.Forms.{Written, WrittenSequent}
use Rattle.ot_forms.specs.Meaning.{Refusal, meaning, meanings, line_meaning}
use Rattle.ot_forms.specs.Refusals.{open_limit}
use Rattle.ot_forms.specs.Reading.{Reading, Got, Halted, NoForm, OneTooMany, mapped}
use Rattle.ot_forms.specs.Reading.{literal_at, constant_at, term_at, hyps_at, line_at}
use Rattle.ot_parse.specs.declared.halt.Halt.{Halt}
use Rattle.ot_parse.specs.declared.halt.Halt.TheVariants as halts
use Rattle.ot_parse.specs.declared.readable.Readable.{Readable}
use Rattle.ot_parse.specs.declared.reader.Hyps.{Hyps}
use Rattle.ot_parse.specs.declared.reader.Hyps.TheVariants as hyps
use Rattle.ot_parse.specs.declared.refusal.ReadRefusal.{ReadRefusal}
use Rattle.ot_parse.specs.declared.refusal.ReadRefusal.TheVariants as refusals
use Rattle.ot_parse.specs.declared.values.Meant.{Meant as Part}
use Rattle.ot_logic.specs.PlainTrees.{term_of_tree}
use Rattle.ot_logic.specs.RanOut.{ran_out}
use Rattle.ot_parse.specs.Plain.{sequent_of}
use Rattle.ot_parse.specs.Symbols.{behind_byte}
use Rattle.ot_parse.specs.Meant.{Meaning, place_at}
use Rattle.ot_parse.specs.Values.{meant_of}

-- hypotheses with their meaning, or the first refusal
abbrev pub Kept : Type 0
Kept = Result (List (Tm Name)) Refusal

abbrev pub kept_of : Hyps → Kept
kept_of (hyps.Terms v) = Ok (map term_of_tree v.items)
kept_of (hyps.Wrong k f) = Err (k, f)

-- the terms that aren't this one
abbrev pub others : Tm Name → List (Tm Name) → List (Tm Name)
others t [] = []
others t (u ∷ us) = cond (same_tm names u t) (others t us) (u ∷ others t us)

-- each of them once, and one more
abbrev pub once : Kept → Kept
once r = do
  ts ← r
  Ok (once_each names ts)

abbrev pub one_more : Kept → Meaning → Kept
one_more r m = do
  ts ← r
  t ← m
  Ok (others t ts ++ t ∷ [])

abbrev pub IsKept : Kept → Result Hyps Memory → Type 0
IsKept r (Ok h) = kept_of h ≡ r
IsKept r (Err e) = Unit {0}

-- terms as they are read with room for all that may be open
abbrev pub terms : List (Symbol Name) → List ℕ → Reading Written
terms hidden = term_at hidden (constant_at hidden) open_limit

-- what a whole term means that begins in a text of so many bytes
abbrev pub meant_at : List (Symbol Name) → ℕ → Bool → List ℕ → Reading Meaning
meant_at hidden n wanted s = mapped (meaning hidden [] wanted (place_at n s)) (terms hidden s)

-- what the hypotheses of a line mean
abbrev pub hyps_meant : List (Symbol Name) → List ℕ → Reading Kept
hyps_meant hidden s = mapped (λ hs. once (meanings hidden 0 hs)) (hyps_at (terms hidden) s)

-- what stands behind a hypothesis, and whether a further one follows
abbrev pub separator_at : List ℕ → Reading Bool
separator_at s =
    elim (behind_byte 44 s) [
      | Some after ↦ mapped (λ _. true) (literal_at (codes " ") after)
      | None ↦
          mapped (λ _. false) (literal_at (codes " |- ") s)
    ]

-- reading halts here, or what was read ends here and bytes follow
abbrev pub IsStop : {A : Type 0} → Reading A → List ℕ → Type 0
IsStop {A} o r = (o ≡ Halted NoForm r) ⊎ ((x : A) × (b : ℕ) × (t : List ℕ) × (o ≡ Got x (b ∷ t)) × (r ≡ b ∷ t))

-- the whole text was read
abbrev pub IsWholeText : Reading Meaning → Result Part Halt → Type 0
IsWholeText o (Ok x) = o ≡ Got (meant_of x) []
IsWholeText o (Err (halts.Syntax r)) = IsStop o r.now
IsWholeText o (Err (halts.TooManyOpen r)) = o ≡ Halted OneTooMany r.now
IsWholeText o (Err (halts.Memory memory)) = Unit {0}

-- the refusal of a part that begins at this place, from 0
abbrev pub IsAt : ℕ → TextFault → ReadRefusal → Type 0
IsAt k f (refusals.At c g) = (c ≡ k + 1) × (g ≡ f)
IsAt k f (refusals.Memory memory) = Unit {0}

-- the refusal of a text where reading halts
abbrev pub IsHaltedAt : List ℕ → Halt → ReadRefusal → Type 0
IsHaltedAt text (halts.Syntax r) e = IsAt (length text - length r.now) Syntax e
IsHaltedAt text (halts.TooManyOpen r) e = IsAt (length text - length r.now) TooManyOpen e
IsHaltedAt text (halts.Memory memory) e = e ≡ refusals.Memory ran_out

-- what these hypotheses and this conclusion mean together
abbrev pub sequent_meant : Kept → Meaning → Result (Sequent Name) Refusal
sequent_meant r m = do
  hs ← r
  c ← m
  Ok (record { hyps = hs; concl = c })

abbrev pub IsSequent : Result (Sequent Name) Refusal → Result Readable ReadRefusal → Type 0
IsSequent m (Ok r) = m ≡ Ok (sequent_of r)
IsSequent m (Err (refusals.At c f)) = (k : ℕ) × (m ≡ Err (k, f)) × (c ≡ k + 1)
IsSequent m (Err (refusals.Memory memory)) = Unit {0}

-- a line was read, with what it means
abbrev pub IsMeantLine : List (Symbol Name) → List ℕ → Result Readable ReadRefusal → Type 0
IsMeantLine hidden line (Ok r) = (q : WrittenSequent) × (line_at (terms hidden) line ≡ Got q [])
    × (line_meaning hidden q ≡ Ok (sequent_of r))
IsMeantLine hidden line (Err (refusals.At c f)) = (q : WrittenSequent) × (k : ℕ)
    × (line_at (terms hidden) line ≡ Got q []) × (line_meaning hidden q ≡ Err (k, f)) × (c ≡ k + 1)
IsMeantLine hidden line (Err (refusals.Memory memory)) = Unit {0}

abbrev pub IsWholeLine : List (Symbol Name) → List ℕ → Result (Result Readable ReadRefusal) Halt → Type 0
IsWholeLine hidden line (Ok r) = IsMeantLine hidden line r
IsWholeLine hidden line (Err (halts.Syntax r)) = IsStop (line_at (terms hidden) line) r.now
IsWholeLine hidden line (Err (halts.TooManyOpen r)) = line_at (terms hidden) line ≡ Halted OneTooMany r.now
IsWholeLine hidden line (Err (halts.Memory memory)) = Unit {0}
