-- The greatest number that a step refers to, by which the table looks for it.
use Rattle.std.proofs.Common.{◌≡◌, ◌&&◌, ℕ, Bool, true, false, Option, Some, None, nat_eq, refl, sym, ap, eqb-true, true≢false}
use Rattle.std.proofs.lemmas.Slice.Eq.{bytes_eq-Decides}
use Rattle.ot_logic.specs.contracts.command.CmdPartialEq.TheImpl as words_test
use Rattle.ot_trace.specs.OperandHash.{same_operands, greatest_operand}
use Rattle.ot_trace.specs.declared.step.Step.{Step}
use Rattle.ot_trace.specs.declared.step.Step.TheVariants.{Number, Name, Make, Define, Outcome}
use Rattle.ot_trace.specs.contracts.step.StepPartialEq.TheImpl as derived

-- of a step that has one operand or two
abbrev pub greatest_part : Step → Option ℕ
greatest_part (Make w ops) = greatest_operand ops
greatest_part (Outcome j d) = Some d
greatest_part (Number k) = None
greatest_part (Name n) = None
greatest_part (Define w ops syms) = None

second : (a b : Bool) → (a && b) ≡ true → b ≡ true
second true b p = p
second false b p = absurd (true≢false (sym p))

-- steps that pass the derived test have one
pub greatest_part-alike : (s t : Step) → derived.ghosts.eq s t ≡ true → greatest_part s ≡ greatest_part t
greatest_part-alike (Number j) (Number k) p = refl
greatest_part-alike (Name m) (Name n) p = refl
greatest_part-alike (Make v xs) (Make w ys) p =
    ap greatest_operand ((bytes_eq-Decides xs ys).0 (second (words_test.ghosts.eq v w) (same_operands xs ys) p))
greatest_part-alike (Define v xs ss) (Define w ys rs) p = refl
greatest_part-alike (Outcome i d) (Outcome j e) p = ap Some (eqb-true d e (second (nat_eq i j) (nat_eq d e) p))
greatest_part-alike s t p = absurd (true≢false (sym p))
