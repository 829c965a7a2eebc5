-- What the readable text of a sequent reads as.
use Rattle.std.specs.Prelude.{List}
use Rattle.ot_logic.specs.Lists.{IsSameSet}
use Rattle.ot_logic.specs.Names.{Name}
use Rattle.ot_logic.specs.Trees.{Tm, Sequent, Symbol}
use Rattle.ot_forms.specs.Refusals.{ReadsAs}
use Rattle.ot_forms.specs.Printing.{readable_text}

-- its hypotheses, as a set, and its conclusion
abbrev pub ReadsBackAs : List (Symbol Name) → Sequent Name → Type 0
ReadsBackAs hidden q = (hs : List (Tm Name)) × IsSameSet hs q.hyps × ReadsAs hidden (readable_text hidden q)
    (record { hyps = hs; concl = q.concl })
