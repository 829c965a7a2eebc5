-- Which origins a text makes and stores, and what is asked of what it is made of.
use Rattle.std.specs.Prelude.{◌≡◌, ℕ, suc, ◌<◌, ◌≤◌, Bool, true, false, List}
use Rattle.ot_logic.specs.Lists.{IsMember}
use Rattle.ot_logic.specs.declared.command.Cmd.{Cmd}
use Rattle.ot_trace.specs.Origins.{Origin, Origins, Number, Named, Make, Define}
use Rattle.ot_trace.specs.Origins.{Outcome, NoOrigins, MoreOrigins, operands, parts}
use Rattle.ot_trace.specs.Uses.{uses}
use Rattle.ot_written.specs.Written.{theorem_count}

-- P of each theorem of a definition that is met before its definition is entered; a definition is no operand
module _ {N : Type 0} (P : Origin N → Type 0) where
  abbrev mutual
    pub EachOutcome : Origin N → Type 0
    EachOutcome (Number k) = Unit {0}
    EachOutcome (Named n) = Unit {0}
    EachOutcome (Make c os) = EachOutcomes os
    EachOutcome (Define c os) = ⊥
    EachOutcome (Outcome j d) = P (Outcome j d)

    pub EachOutcomes : Origins N → Type 0
    EachOutcomes NoOrigins = Unit {0}
    EachOutcomes (MoreOrigins o os) = EachOutcome o × EachOutcomes os

module _ {N : Type 0} where
  -- the origins that may be stored once they are made
  abbrev pub IsMade : Origin N → Type 0
  IsMade (Number k) = ⊥
  IsMade (Named n) = Unit {0}
  IsMade (Make c os) = Unit {0}
  IsMade (Define c os) = ⊥
  IsMade (Outcome j d) = ⊥

  abbrev pub IsDefine : Origin N → Type 0
  IsDefine (Define c os) = Unit {0}
  IsDefine _ = ⊥

  -- the origins that are marks of lines
  abbrev pub IsMark : Origin N → Type 0
  IsMark (Number k) = ⊥
  IsMark (Named n) = Unit {0}
  IsMark (Make c os) = Unit {0}
  IsMark (Define c os) = Unit {0}
  IsMark (Outcome j d) = ⊥

  -- a theorem of one of the definitions, that has a use
  pub record IsTheoremOf (used : Origin N → Bool) (ds : List (Origin N)) (r : Origin N) : Type 0 where
    pub place : ℕ
    pub word : Cmd
    pub operands : Origins N
    pub is : r ≡ Outcome (suc place) (Define word operands)
    pub of : IsMember (Define word operands) ds
    pub within : place < theorem_count word
    pub has_use : used r ≡ true

module _ {N : Type 0} (same : Origin N → Origin N → Bool) (keep : Origin N → Bool) where
  -- whether an origin is stored once it is made
  abbrev pub stores : Origin N → Bool
  stores (Number k) = false
  stores (Named n) = keep (Named n)
  stores (Make c os) = keep (Make c os)
  stores (Define c os) = false
  stores (Outcome j d) = false

  -- a list of all that is needed by the roots, in which what isn't stored has one use at most
  pub record IsNeededList (roots needed : List (Origin N)) : Type 0 where
    pub only : (o : Origin N) → IsMember o needed → (r : Origin N) × IsMember r roots × IsMember o (parts r)
    pub has_roots : (o : Origin N) → IsMember o roots → IsMember o needed
    pub closed : (o p : Origin N) → IsMember o needed → IsMember p (operands o) → IsMember p needed
    pub once : (o : Origin N) → IsMember o needed → IsMade o → stores o ≡ false → uses same roots needed o ≤ 1
