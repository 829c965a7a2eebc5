-- One text after another, up to a limit.
use Rattle.std.specs.Prelude.{◌≡◌, ℕ, List, ◌++◌}
use Rattle.std.proofs.Common.{refl}
use Rattle.ot_logic.proofs.Putting.{put-twice}
use Rattle.ot_write.specs.Limited.{Limited, Bytes, Full, put}

pub put-put : (x y : List ℕ) (s : Limited) → put y (put x s) ≡ put (x ++ y) s
put-put x y (Bytes bs room) = put-twice Bytes Full put (λ z. refl) (λ z cs n. refl) x y bs room
put-put x y Full = refl
