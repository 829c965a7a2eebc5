-- What becomes of a page on which a text is put.
use Rattle.std.specs.Prelude.{◌≡◌, ℕ, ◌-◌, ◌≤◌, Bool, true, false, cond, nat_le}
use Rattle.std.specs.Prelude.{List, ◌++◌, length, Option, Some, None, ◌⊎◌}
use Rattle.ot_text.specs.declared.fault.PrintFault.{PrintFault}
use Rattle.ot_text.specs.declared.fault.PrintFault.TheVariants.{TooLarge, Memory}
use Rattle.ot_text.specs.declared.page.Page.{Page}

-- the bytes so far with the room that is left, or why there are no more
pub data Printed : Type 0 where
  Bytes : List ℕ → ℕ → Printed
  Full : Printed
  NoMemory : Printed

-- a text more, where there is room
abbrev pub put : List ℕ → Printed → Printed
put x (Bytes bs room) = cond (nat_le (length x) room) (Bytes (bs ++ x) (room - length x)) Full
put x Full = Full
put x NoMemory = NoMemory

-- the text was put on the page, or memory ran out
pub record IsPut (x : List ℕ) (old new : Printed) : Type 0 where
  pub state : (new ≡ NoMemory) ⊎ (new ≡ put x old)

-- nothing more is put on it
abbrev pub is_stopped : Printed → Bool
is_stopped (Bytes bs room) = false
is_stopped Full = true
is_stopped NoMemory = true

-- so many bytes more are put on it
abbrev pub HasRoom : Printed → ℕ → Type 0
HasRoom (Bytes bs room) n = n ≡ room
HasRoom Full n = Unit {0}
HasRoom NoMemory n = Unit {0}

-- after a fault, if there was one
abbrev pub stopped : Option PrintFault → Printed → Printed
stopped None s = s
stopped (Some TooLarge) s = Full
stopped (Some (Memory memory)) s = NoMemory

abbrev pub printed : Page → Printed
printed p = stopped p.fault (Bytes p.bytes.items p.room)

-- the bytes so far were appended, of a page that isn't stopped
abbrev pub IsCopied : Printed → List ℕ → List ℕ → Type 0
IsCopied (Bytes bs room) old new = new ≡ old ++ bs
IsCopied Full old new = ⊥
IsCopied NoMemory old new = ⊥

-- the text, which the limit allows, was appended
pub record Appended (x : List ℕ) (max : ℕ) (old new : List ℕ) : Type 0 where
  pub bytes : new ≡ old ++ x
  pub within : length x ≤ max
