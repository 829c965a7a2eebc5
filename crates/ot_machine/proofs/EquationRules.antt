-- The rules on equations without hypotheses, within the nesting limit.
use Rattle.std.specs.Prelude.{◌≡◌, true, false, Ok, Err}
use Rattle.std.proofs.Common.{refl}
use Rattle.ot_logic.specs.Names.{Name}
use Rattle.ot_logic.specs.Naming.{names}
use Rattle.ot_logic.specs.Trees.{Ty, Tm, App, Abs, Sequent}
use Rattle.ot_logic.specs.Hol.{fun_ty, HasType, is_shallow, same_ty, same_tm, equation, sequent_of, opened}
use Rattle.ot_logic.specs.Faults.{Nesting}
use Rattle.ot_logic.specs.Rules.{refl_rule, app_thm_rule, beta_conv_rule, sym_rule, trans_rule}
use Rattle.ot_laws.proofs.Tests.{tells_names, same_ty-is, same_tm-is}
use Rattle.ot_laws.proofs.Typing.{type_of-is}
use Rattle.ot_laws.proofs.Equations.{as_equation-equation}

abbrev pub Eq : Ty Name → Tm Name → Tm Name → Tm Name
Eq = equation names

abbrev pub Th : Tm Name → Sequent Name
Th = sequent_of names

pub sym-eq : (ty : Ty Name) (a b : Tm Name) → is_shallow names (Eq ty b a) ≡ true → sym_rule names (Th (Eq ty a b))
    ≡ Ok (Th (Eq ty b a))
sym-eq ty a b s = rw (as_equation-equation names tells_names ty a b, s) refl

pub trans-eq : (ty : Ty Name) (a b c : Tm Name) → trans_rule names (Th (Eq ty a b)) (Th (Eq ty b c))
    ≡ Ok (Th (Eq ty a c))
trans-eq ty a b c =
    let same : same_tm names b b ≡ true = (same_tm-is names tells_names b b).1 refl in
    rw (as_equation-equation names tells_names ty a b, as_equation-equation names tells_names ty b c, same) refl

pub refl-eq : (ty : Ty Name) (t : Tm Name) → HasType names t ty → is_shallow names (Eq ty t t) ≡ true
    → refl_rule names t ≡ Ok (Th (Eq ty t t))
refl-eq ty t p s = rw (type_of-is names t ty p, s) refl

pub app-eq : (a b : Ty Name) (f g x y : Tm Name) → is_shallow names (Eq b (App f x) (App g y)) ≡ true
    → app_thm_rule names (Th (Eq (fun_ty names a b) f g)) (Th (Eq a x y)) ≡ Ok (Th (Eq b (App f x) (App g y)))
app-eq a b f g x y s =
    let same : same_ty names a a ≡ true = (same_ty-is names tells_names a a).1 refl in
    rw (
      as_equation-equation names tells_names (fun_ty names a b) f g,
      as_equation-equation names tells_names a x y,
      same,
      s,
    ) refl

pub beta-eq : (a ty : Ty Name) (b u : Tm Name) → HasType names (App (Abs a b) u) ty
    → is_shallow names (Eq ty (App (Abs a b) u) (opened names b u)) ≡ true → beta_conv_rule names (App (Abs a b) u)
    ≡ Ok (Th (Eq ty (App (Abs a b) u) (opened names b u)))
beta-eq a ty b u p s = rw (type_of-is names (App (Abs a b) u) ty p, s) refl

pub beta-refused : (a ty : Ty Name) (b u : Tm Name) → HasType names (App (Abs a b) u) ty → is_shallow names
    (Eq ty (App (Abs a b) u) (opened names b u)) ≡ false → beta_conv_rule names (App (Abs a b) u) ≡ Err Nesting
beta-refused a ty b u p s = rw (type_of-is names (App (Abs a b) u) ty p, s) refl
