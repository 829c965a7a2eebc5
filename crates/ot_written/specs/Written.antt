-- The written article: what is made of a list of definitions and a list of exports.
use Rattle.std.specs.Prelude.{pos, ℕ, zero, suc, ℤ, Bool, cond, List, [], ◌∷◌, ◌++◌, length, Option, Some, None}
use Rattle.std.specs.Option.{option_map}
use Rattle.ot_logic.specs.declared.command.Cmd.{Cmd}
use Rattle.ot_logic.specs.declared.command.Cmd.TheVariants as words
use Rattle.ot_trace.specs.Origins.{Origin, Origins, Number, Named, Make, Define}
use Rattle.ot_trace.specs.Origins.{Outcome, NoOrigins, MoreOrigins, Roots}

-- a line of the text: a number, a name or a command word
pub data Line (N : Type 0) : Type 0 where
  Numeral : ℤ → Line N
  Spelled : N → Line N
  Order : Cmd → Line N

-- the text so far: its lines, the origins that it stored, key by key, and the origins that it made, in order
pub record Text (N : Type 0) : Type 0 where
  pub lines : List (Line N)
  pub stored : List (Origin N)
  pub made : List (Origin N)

-- the roots of exports, one after another
abbrev pub roots_of : {N : Type 0} → List (Roots N) → List (Origin N)
roots_of [] = []
roots_of (e ∷ es) = e.theorem ∷ e.list ∷ e.term ∷ roots_of es

-- how many theorems a definition by the word pushes, and how many entries with symbols below them
abbrev pub theorem_count : Cmd → ℕ
theorem_count words.DefineTypeOp = 2
theorem_count _ = 1

abbrev pub symbol_count : Cmd → ℕ
symbol_count words.DefineTypeOp = 3
symbol_count _ = 1

module _ {N : Type 0} (same : Origin N → Origin N → Bool) where
  -- the key of an origin
  abbrev pub key_of : Origin N → List (Origin N) → Option ℕ
  key_of o [] = None
  key_of o (p ∷ ps) = cond (same o p) (Some 0) (option_map suc (key_of o ps))

  abbrev pub put : Line N → Text N → Text N
  put l t = record { lines = t.lines ++ l ∷ []; stored = t.stored; made = t.made }

  -- the line that makes o
  abbrev pub make : Origin N → Line N → Text N → Text N
  make o l t = record { lines = t.lines ++ l ∷ []; stored = t.stored; made = t.made ++ o ∷ [] }

  -- o gets the next key
  abbrev pub store : Origin N → Text N → Text N
  store o t = record {
    lines = (t.lines ++ Numeral (pos (length t.stored)) ∷ []) ++ Order words.Def ∷ [];
    stored = t.stored ++ o ∷ [];
    made = t.made;
  }

  -- by its key, where it has one
  abbrev pub recalled : Option ℕ → (Text N → Text N) → Text N → Text N
  recalled None write t = write t
  recalled (Some k) write t = put (Order words.Ref) (put (Numeral (pos k)) t)

  -- keep: whether an origin is stored once it is made
  module _ (keep : Origin N → Bool) where
    abbrev pub keep_made : Origin N → Text N → Text N
    keep_made o t = cond (keep o) (store o t) t

    abbrev mutual
      pub emit : Origin N → Text N → Text N
      emit (Number k) t = recalled (key_of (Number k) t.stored) (λ u. put (Numeral k) u) t
      emit (Named n) t =
          recalled (key_of (Named n) t.stored) (λ u. keep_made (Named n) (make (Named n) (Spelled n) u)) t
      emit (Make c os) t = recalled (key_of (Make c os) t.stored)
          (λ u. keep_made (Make c os) (make (Make c os) (Order c) (emit_all os u))) t
      emit (Define c os) t = recalled (key_of (Define c os) t.stored) (λ u. u) t
      emit (Outcome j d) t = recalled (key_of (Outcome j d) t.stored) (λ u. u) t

      pub emit_all : Origins N → Text N → Text N
      emit_all NoOrigins t = t
      emit_all (MoreOrigins o os) t = emit_all os (emit o t)

    -- used: whether a theorem of a definition has a use
    module _ (used : Origin N → Bool) where
      abbrev pub pops : ℕ → Text N → Text N
      pops zero t = t
      pops (suc k) t = pops k (put (Order words.Pop) t)

      -- the theorems of a definition from the last to the first: one that has a use is stored
      abbrev pub outcomes : Origin N → ℕ → Text N → Text N
      outcomes d zero t = t
      outcomes d (suc j) t =
          outcomes d j (put (Order words.Pop) (cond (used (Outcome (suc j) d)) (store (Outcome (suc j) d) t) t))

      abbrev pub emit_definition : Origin N → Text N → Text N
      emit_definition (Define c os) t =
          pops (symbol_count c)
          (outcomes (Define c os) (theorem_count c) (make (Define c os) (Order c) (emit_all os t)))
      emit_definition _ t = t

      abbrev pub emit_definitions : List (Origin N) → Text N → Text N
      emit_definitions [] t = t
      emit_definitions (d ∷ ds) t = emit_definitions ds (emit_definition d t)

      abbrev pub emit_exports : List (Roots N) → Text N → Text N
      emit_exports [] t = t
      emit_exports (e ∷ es) t = emit_exports es (put (Order words.Thm) (emit e.term (emit e.list (emit e.theorem t))))

      -- the first two lines
      abbrev pub beginning : Text N
      beginning = record { lines = Numeral (pos 6) ∷ Order words.Version ∷ []; stored = []; made = [] }

      abbrev pub written : List (Origin N) → List (Roots N) → Text N
      written ds es = emit_exports es (emit_definitions ds beginning)
