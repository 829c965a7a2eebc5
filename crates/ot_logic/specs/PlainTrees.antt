-- What the plain types and terms of the code stand for.
use Rattle.std.specs.Prelude.{List, [], ◌∷◌}
use Rattle.ot_logic.specs.Names.{Name}
use Rattle.ot_logic.specs.Trees.{Ty, Tys, TyVar, TyOp, NoTys, MoreTys, Tm, Free, Con, Bound, App, Abs}
use Rattle.ot_logic.specs.declared.tree.Ty as types
use Rattle.ot_logic.specs.declared.tree.Tm as terms

-- types in a row
abbrev pub tys_of : List (Ty Name) → Tys Name
tys_of [] = NoTys
tys_of (t ∷ ts) = MoreTys t (tys_of ts)

-- one level of a type, with each argument already seen
abbrev pub type_step : types.Ty-F (Ty Name) → Ty Name
type_step (types.Ty-F.Var n) = TyVar n
type_step (types.Ty-F.Op n args) = TyOp n (tys_of args.items)

-- the type that a plain tree writes
abbrev pub type_of_tree : types.Ty → Ty Name
type_of_tree = types.fold-Ty (Ty Name) type_step

-- one level of a term, with each term inside already seen
abbrev pub term_step : terms.Tm-F (Tm Name) → Tm Name
term_step (terms.Tm-F.Free n t) = Free (record { name = n; ty = type_of_tree t })
term_step (terms.Tm-F.Con n t) = Con n (type_of_tree t)
term_step (terms.Tm-F.Bound k) = Bound k
term_step (terms.Tm-F.App f x) = App f.value x.value
term_step (terms.Tm-F.Abs t b) = Abs (type_of_tree t) b.value

-- the term that a plain tree writes
abbrev pub term_of_tree : terms.Tm → Tm Name
term_of_tree = terms.fold-Tm (Tm Name) term_step
