-- A text that is put together up to a limit.
use Rattle.std.specs.Prelude.{ℕ, ◌-◌, cond, nat_le, List, ◌++◌, length}
use Rattle.ot_write.specs.declared.text.Text.{Text}

-- the bytes so far with the room that is left, or more bytes than the limit allows
pub data Limited : Type 0 where
  Bytes : List ℕ → ℕ → Limited
  Full : Limited

-- a text more, where there is room
abbrev pub put : List ℕ → Limited → Limited
put x (Bytes bs room) = cond (nat_le (length x) room) (Bytes (bs ++ x) (room - length x)) Full
put x Full = Full

abbrev pub limited : Text → Limited
limited t = cond t.is_full Full (Bytes t.bytes.items t.room)
