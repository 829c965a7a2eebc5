-- A word makes nothing where an operand is wanting.
use Rattle.std.specs.Prelude.{◌≡◌, Ok, Err}
use Rattle.ot_logic.specs.Names.{Name}
use Rattle.ot_logic.specs.Faults.{Fault}
use Rattle.ot_logic.specs.Answers.{◌>>=◌}
use Rattle.ot_logic.specs.declared.command.Cmd.{Cmd}
use Rattle.ot_logic.specs.declared.command.Cmd.TheVariants as words
use Rattle.ot_machine.specs.Objects.{Object}
use Rattle.ot_machine.specs.Places.{as_list, as_type, as_term, as_theorem, as_each}
use Rattle.ot_machine.specs.Makers.{Read, Maker, of_none, of_top, of_two, no_maker, maker}
use Rattle.ot_machine.proofs.Tops.{no-ok}

abbrev pub IsStrict : Maker → Type 0
IsStrict (of_none o) = Unit {0}
IsStrict (of_top f) = (e : Fault Name) (o : Object) → f (Err e) ≡ Ok o → ⊥
IsStrict (of_two f) = ((e : Fault Name) (r : Read) (o : Object) → f (Err e) r ≡ Ok o → ⊥)
    × ((x : Object) (e : Fault Name) (o : Object) → f (Ok x) (Err e) ≡ Ok o → ⊥)
IsStrict no_maker = Unit {0}

pub strict : (w : Cmd) → IsStrict (maker w)
strict words.Version = tt
strict words.Nil = tt
strict words.Cons = (λ e r o p. cc, λ x e o p. no-ok (as_list x) e o p)
strict words.HdTl = tt
strict words.Def = tt
strict words.Ref = tt
strict words.Remove = tt
strict words.Pop = tt
strict words.Pragma = tt
strict words.TypeOp = λ e o p. cc
strict words.OpType = (λ e r o p. cc, λ x e o p. no-ok (as_list x >>= as_each as_type) e o p)
strict words.VarType = λ e o p. cc
strict words.Var = (λ e r o p. cc, λ x e o p. no-ok (as_type x) e o p)
strict words.VarTerm = λ e o p. cc
strict words.Const = λ e o p. cc
strict words.ConstTerm = (λ e r o p. cc, λ x e o p. no-ok (as_type x) e o p)
strict words.AppTerm = (λ e r o p. cc, λ x e o p. no-ok (as_term x) e o p)
strict words.AbsTerm = (λ e r o p. cc, λ x e o p. no-ok (as_term x) e o p)
strict words.Refl = λ e o p. cc
strict words.Assume = λ e o p. cc
strict words.EqMp = (λ e r o p. cc, λ x e o p. no-ok (as_theorem x) e o p)
strict words.AbsThm = (λ e r o p. cc, λ x e o p. no-ok (as_theorem x) e o p)
strict words.AppThm = (λ e r o p. cc, λ x e o p. no-ok (as_theorem x) e o p)
strict words.DeductAntisym = (λ e r o p. cc, λ x e o p. no-ok (as_theorem x) e o p)
strict words.BetaConv = λ e o p. cc
strict words.Subst = (λ e r o p. cc, λ x e o p. no-ok (as_theorem x) e o p)
strict words.Sym = λ e o p. cc
strict words.Trans = (λ e r o p. cc, λ x e o p. no-ok (as_theorem x) e o p)
strict words.ProveHyp = (λ e r o p. cc, λ x e o p. no-ok (as_theorem x) e o p)
strict words.Axiom = (λ e r o p. cc, λ x e o p. no-ok (as_term x) e o p)
strict words.Thm = tt
strict words.DefineConst = tt
strict words.DefineConstList = tt
strict words.DefineTypeOp = tt
