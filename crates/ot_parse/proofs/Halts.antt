-- What goes on behind what was read, and what doesn't.
use Rattle.std.specs.Prelude.{◌≡◌, ℕ, List, Result, Ok, Err, IsErrAnd}
use Rattle.std.proofs.Common.{◌∙◌, ap}
use Rattle.ot_forms.specs.Reading.{Reading, next, mapped}
use Rattle.ot_parse.specs.declared.halt.Halt.{Halt}
use Rattle.ot_parse.specs.declared.halt.Halt.TheVariants as halts
use Rattle.ot_parse.specs.Gives.{IsHalt}

pub halt-next : {A B : Type 0} (h : Halt) (o : Reading A) (f : A → List ℕ → Reading B) → IsHalt h o
    → IsHalt h (next o f)
halt-next (halts.Syntax r) o f e = ap (λ z. next z f) e
halt-next (halts.TooManyOpen r) o f e = ap (λ z. next z f) e
halt-next (halts.Memory memory) o f e = tt

pub halt-mapped : {A B : Type 0} (h : Halt) (o : Reading A) (f : A → B) → IsHalt h o → IsHalt h (mapped f o)
halt-mapped (halts.Syntax r) o f e = ap (mapped f) e
halt-mapped (halts.TooManyOpen r) o f e = ap (mapped f) e
halt-mapped (halts.Memory memory) o f e = tt

-- the same reading
pub halt-same : {A : Type 0} (h : Halt) (o p : Reading A) → p ≡ o → IsHalt h o → IsHalt h p
halt-same (halts.Syntax r) o p q e = q ∙ e
halt-same (halts.TooManyOpen r) o p q e = q ∙ e
halt-same (halts.Memory memory) o p q e = tt

-- what `?` hands on is the refusal that it met
pub handed-on : {A E : Type 0} (r : Result A E) (e : E) → IsErrAnd r (λ x. x ≡ e) → r ≡ Err e
handed-on (Ok x) e h = absurd h
handed-on (Err x) e h = ap Err h
