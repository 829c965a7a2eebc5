-- Lemmas on the operands of a step.
use Rattle.std.proofs.Common.{◌≡◌, ℕ, zero, suc, List, [], ◌∷◌, slice_index_or}
use Rattle.std.proofs.Common.{Some, slice_get, pos, refl, sym, ap, ◌∙◌}
use Rattle.std.proofs.lemmas.Option.{get_or_from_slice_get}
use Rattle.ot_trace.specs.Origins.{Origin, Number, listed, at_or, operand, operands}
use Rattle.ot_trace.specs.Trace.{origin_at, origins_at, origin_of, operand_numbers}
use Rattle.ot_trace.specs.declared.step.Step.{Step}
use Rattle.ot_trace.specs.declared.step.Step.TheVariants as steps

-- the operand at a place is the origin of the number there
pub operand-place : (ts : List (Origin ℕ)) (is : List ℕ) (place id : ℕ) → origin_at ts (slice_index_or is place id)
    ≡ at_or (origin_at ts id) place (listed (origins_at ts is))
operand-place ts [] place id = refl
operand-place ts (i ∷ is) zero id = refl
operand-place ts (i ∷ is) (suc place) id = operand-place ts is place id

listed-are : (ts : List (Origin ℕ)) (s : Step) → operands (origin_of ts s)
    ≡ listed (origins_at ts (operand_numbers s))
listed-are ts (steps.Number k) = refl
listed-are ts (steps.Name n) = refl
listed-are ts (steps.Make w ops) = refl
listed-are ts (steps.Define w ops syms) = refl
listed-are ts (steps.Outcome j d) = refl

-- the operand of a step by its number
pub operand-is : (ts : List (Origin ℕ)) (id : ℕ) (s : Step) → slice_get ts id ≡ Some (origin_of ts s) → (is : List ℕ)
    → operand_numbers s ≡ is → (place r : ℕ) → r ≡ slice_index_or is place id
    → origin_at ts r ≡ operand place (origin_at ts id)
operand-is ts id s get is e place r p =
    let tree : origin_at ts id ≡ origin_of ts s = get_or_from_slice_get ts id _ (Number (pos 0)) get in
    ap (origin_at ts) p ∙ operand-place ts is place id ∙ ap (at_or (origin_at ts id) place)
    (ap (λ l. listed (origins_at ts l)) (sym e) ∙ sym (listed-are ts s) ∙ ap operands (sym tree))
