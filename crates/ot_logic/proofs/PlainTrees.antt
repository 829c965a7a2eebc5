-- The equations of the trees that plain types and terms stand for.
use Rattle.std.specs.Prelude.{◌≡◌, ℕ, map}
use Rattle.std.proofs.Common.{sym, ◌∙◌, ap, Vec, Box, Global}
use Rattle.ot_logic.specs.Names.{Name}
use Rattle.ot_logic.specs.Trees.{Ty, TyVar, TyOp, Tm, Free, Con, Bound, App, Abs}
use Rattle.ot_logic.specs.declared.tree.Ty as types
use Rattle.ot_logic.specs.declared.tree.Ty.TheVariants as type_variants
use Rattle.ot_logic.specs.declared.tree.Tm as terms
use Rattle.ot_logic.specs.declared.tree.Tm.TheVariants as term_variants
use Rattle.ot_logic.specs.PlainTrees.{tys_of, type_step, type_of_tree, term_step, term_of_tree}

pub type_Var : (n : Name) → type_of_tree (type_variants.Var n) ≡ TyVar n
type_Var n = ap type_of_tree (sym (type_variants.rolls-Var n))
    ∙ types.fold-roll-Ty (Ty Name) type_step (types.Ty-F.Var n)

pub type_Op : (n : Name) (args : Vec types.Ty Global) → type_of_tree (type_variants.Op n args)
    ≡ TyOp n (tys_of (map type_of_tree args.items))
type_Op n args = ap type_of_tree (sym (type_variants.rolls-Op n args))
    ∙ types.fold-roll-Ty (Ty Name) type_step (types.Ty-F.Op n args)

pub ruleset type_steps = (type_Var, type_Op)

pub term_Free : (n : Name) (t : types.Ty) → term_of_tree (term_variants.Free n t)
    ≡ Free (record { name = n; ty = type_of_tree t })
term_Free n t = ap term_of_tree (sym (term_variants.rolls-Free n t))
    ∙ terms.fold-roll-Tm (Tm Name) term_step (terms.Tm-F.Free n t)

pub term_Con : (n : Name) (t : types.Ty) → term_of_tree (term_variants.Con n t) ≡ Con n (type_of_tree t)
term_Con n t = ap term_of_tree (sym (term_variants.rolls-Con n t))
    ∙ terms.fold-roll-Tm (Tm Name) term_step (terms.Tm-F.Con n t)

pub term_Bound : (k : ℕ) → term_of_tree (term_variants.Bound k) ≡ Bound k
term_Bound k = ap term_of_tree (sym (term_variants.rolls-Bound k))
    ∙ terms.fold-roll-Tm (Tm Name) term_step (terms.Tm-F.Bound k)

pub term_App : (f x : Box terms.Tm Global) → term_of_tree (term_variants.App f x)
    ≡ App (term_of_tree f.value) (term_of_tree x.value)
term_App f x = ap term_of_tree (sym (term_variants.rolls-App f x))
    ∙ terms.fold-roll-Tm (Tm Name) term_step (terms.Tm-F.App f x)

pub term_Abs : (t : types.Ty) (b : Box terms.Tm Global) → term_of_tree (term_variants.Abs t b)
    ≡ Abs (type_of_tree t) (term_of_tree b.value)
term_Abs t b = ap term_of_tree (sym (term_variants.rolls-Abs t b))
    ∙ terms.fold-roll-Tm (Tm Name) term_step (terms.Tm-F.Abs t b)

pub ruleset term_steps = (term_Free, term_Con, term_Bound, term_App, term_Abs)
