-- Equations as named terms, over names.
use Rattle.ot_logic.specs.Names.{Name}
use Rattle.ot_logic.specs.Naming.{names}
use Rattle.ot_logic.specs.Trees.{Ty, Named, NConst, NApp}
use Rattle.ot_logic.specs.Hol.{fun_ty, bool_ty}

-- a = b as a named term, where both have this type
abbrev pub equation_of : Ty Name → Named Name → Named Name → Named Name
equation_of ty a b = NApp (NApp (NConst names.equals (fun_ty names ty (fun_ty names ty (bool_ty names)))) a) b
