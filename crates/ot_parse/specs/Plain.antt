-- What plain trees of the code stand for.
use Rattle.std.specs.Prelude.{ℕ, Bool, false, cond, List, ◌++◌, map, codes}
use Rattle.ot_logic.specs.Names.{Name}
use Rattle.ot_logic.specs.Trees.{Ty, TyOp, NoTys, MoreTys, Tm, App, Sequent}
use Rattle.ot_logic.specs.Naming.{names}
use Rattle.ot_logic.specs.Hol.{same_ty, fun_ty, bool_ty}
use Rattle.ot_logic.specs.PlainTrees.{term_of_tree}
use Rattle.ot_text.specs.Texts.{tm_text, argument_text, is_equation}
use Rattle.ot_parse.specs.declared.readable.Readable.{Readable}

-- the sequent that was read
abbrev pub sequent_of : Readable → Sequent Name
sequent_of r = record { hyps = map term_of_tree r.hyps.items; concl = term_of_tree r.concl }

-- whether a type is a -> (a -> bool)
abbrev pub equality_test : Ty Name → Bool
equality_test (TyOp m (MoreTys a (MoreTys t NoTys))) =
    same_ty names (TyOp m (MoreTys a (MoreTys t NoTys))) (fun_ty names a (fun_ty names a (bool_ty names)))
equality_test _ = false

-- what stands before an argument in the text of an application
abbrev pub front_text : Tm Name → Tm Name → List ℕ
front_text f x = cond (is_equation names (App f x)) (argument_text f ++ codes " = ") (tm_text f ++ codes " ")
