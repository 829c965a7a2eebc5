-- What holds of a value where there is one.
use Rattle.std.specs.Prelude.{IfOk, IfSome, Result, Ok, Err}
use Rattle.std.proofs.Common.{◌≡◌, Option, Some, None, sym, subst}
use Rattle.ot_program.specs.Command.{HasNoStop}

pub if_some : {X : Type 0} (P Q : X → Type 0) (o : Option X) → ((x : X) → P x → Q x) → IfSome o P → IfSome o Q
if_some P Q None then holds = tt
if_some P Q (Some x) then holds = then x holds

-- what ended didn't stop
pub no_stop : {A S : Type 0} (x : A) (answer : Result A S) → answer ≡ Ok x → HasNoStop answer
no_stop {A} {S} x answer is = subst (λ (a : Result A S). HasNoStop a) (sym is) tt

-- what holds of a result, whatever it is
pub ok_always : {X E : Type 0} (P : Type 0) (r : Result X E) → P → IfOk r (λ x. P)
ok_always P (Ok x) h = h
ok_always P (Err e) h = tt
