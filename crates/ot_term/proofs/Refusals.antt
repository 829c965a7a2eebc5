-- Refusals that are handed on, and the types that refusals speak of.
use Rattle.std.specs.Result.{IsErrAnd}
use Rattle.std.proofs.Common.{◌≡◌, ℕ, Result, Ok, Err, Some, refl, sym, ap, ◌∙◌}
use Rattle.ot_type.specs.declared.fault.TableFault.{TableFault}
use Rattle.ot_type.specs.declared.fault.TableFault.TheVariants as of_types
use Rattle.ot_logic.specs.Trees.{Ty, Named, NApp}
use Rattle.ot_logic.specs.Hol.{fun_ty, applied}
use Rattle.ot_logic.specs.NamedTerms.{named_type}
use Rattle.ot_logic.specs.Naming.{numbers}
use Rattle.ot_laws.proofs.Tests.{tells_numbers}
use Rattle.ot_laws.proofs.Typing.{result_ty-fun}
use Rattle.ot_term.specs.Fault.{term_fault}
use Rattle.ot_term.specs.declared.term.TermFault.{TermFault}
use Rattle.ot_term.specs.declared.term.TermFault.TheVariants.{Nesting}

-- a refusal that is handed on as `Nesting` was one
pub nesting_from : {T : Type 0} (r : Result T TermFault) (x : TableFault) → IsErrAnd r (λ y. y ≡ term_fault x)
    → r ≡ Err Nesting → x ≡ of_types.Nesting
nesting_from (Ok v) x h p = absurd h
nesting_from (Err y) of_types.Nesting h p = refl
nesting_from (Err y) (of_types.Memory memory) h p = let e : y ≡ Nesting = cc in cc

-- an application whose argument is of the type that the function takes
pub application-typed : (f x : Named ℕ) (tf tx a b : Ty ℕ) → named_type numbers f ≡ Some tf → tf ≡ fun_ty numbers a b
    → named_type numbers x ≡ Some tx → a ≡ tx → named_type numbers (NApp f x) ≡ Some b
application-typed f x tf tx a b p shape q same =
    (λ i. applied numbers ((p ∙ ap Some shape) i) ((q ∙ ap Some (sym same)) i))
    ∙ result_ty-fun numbers tells_numbers a b
