-- Steps that may be refused, one after another.
use Rattle.std.specs.Prelude.{Bool, if◌then◌else◌, Option, Some, None, Result, Ok, Err}

infixl 10 ◌>>=◌
-- goes on with what was made; the first refusal counts
abbrev pub ◌>>=◌ : {A B E : Type 0} → Result A E → (A → Result B E) → Result B E
(Ok x) >>= f = f x
(Err e) >>= f = Err e

-- goes on where the test holds
abbrev pub unless : {E : Type 0} → E → Bool → Result (Unit {0}) E
unless e b = if b then Ok tt else Err e

-- what is there
abbrev pub some_or : {A E : Type 0} → E → Option A → Result A E
some_or e None = Err e
some_or e (Some x) = Ok x
