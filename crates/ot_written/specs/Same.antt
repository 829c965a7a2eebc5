-- Whether two origins are one.
use Rattle.std.specs.Prelude.{◌&&◌, nat_eq, Bool, true, false}
use Rattle.std.specs.Ordering.{int_eq}
use Rattle.std.specs.Str.{bytes_eq}
use Rattle.ot_logic.specs.Commands.{spelling}
use Rattle.ot_logic.specs.declared.command.Cmd.{Cmd}
use Rattle.ot_trace.specs.Origins.{Origin, Origins, Number, Named, Make, Define, Outcome, NoOrigins, MoreOrigins}

abbrev pub same_word : Cmd → Cmd → Bool
same_word c d = bytes_eq (spelling c) (spelling d)

module _ {N : Type 0} (same_name : N → N → Bool) where
  abbrev mutual
    pub same_origin : Origin N → Origin N → Bool
    same_origin (Number k) (Number j) = int_eq k j
    same_origin (Named n) (Named m) = same_name n m
    same_origin (Make c os) (Make d ps) = same_word c d && same_origins os ps
    same_origin (Define c os) (Define d ps) = same_word c d && same_origins os ps
    same_origin (Outcome j d) (Outcome k e) = nat_eq j k && same_origin d e
    same_origin _ _ = false

    pub same_origins : Origins N → Origins N → Bool
    same_origins NoOrigins NoOrigins = true
    same_origins (MoreOrigins o os) (MoreOrigins p ps) = same_origin o p && same_origins os ps
    same_origins _ _ = false
