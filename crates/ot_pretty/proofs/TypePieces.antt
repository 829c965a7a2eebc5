-- The readable texts of types, piece by piece.
use Rattle.std.specs.Prelude.{◌≡◌, ℕ, ◌+◌, ◌<◌, false, List, [], ◌∷◌, ◌++◌, length, is_some, codes}
use Rattle.std.proofs.Common.{refl, sym, ◌∙◌, ap, arith, get_or}
use Rattle.ot_logic.specs.Names.{Name}
use Rattle.ot_logic.specs.Naming.{names}
use Rattle.ot_logic.specs.Trees.{Ty, TyOp, NoTys, MoreTys, Symbol, OpSymbol}
use Rattle.ot_logic.specs.Hol.{fun_ty}
use Rattle.ot_laws.proofs.Tests.{tells_names}
use Rattle.ot_laws.proofs.Typing.{as_fun_ty-fun}
use Rattle.ot_kernel.specs.State.{State, type_at, types_at}
use Rattle.ot_forms.specs.Words.{word}
use Rattle.ot_forms.specs.Forms.{type_text, types_text}
use Rattle.ot_text.specs.Texts.{is_function}
use Rattle.ot_text.specs.Pages.{Printed, IsPut}
use Rattle.ot_text.proofs.Putting.{Puts, puts-more, same-text}
use Rattle.ot_text.proofs.TypePieces.{cond-true, cond-false, arrow-pieces}

module _ (hidden : List (Symbol Name)) where
  pub function-pieces : (t a b : Ty Name) → t ≡ fun_ty names a b
      → codes "(" ++ type_text hidden a ++ codes " -> " ++ type_text hidden b ++ codes ")" ≡ type_text hidden t
  function-pieces t a b p =
      arrow-pieces (type_text hidden a) (type_text hidden b)
      ∙ cond-true (is_function names (fun_ty names a b)) _
      (codes "(" ++ word hidden (OpSymbol names.arrow) ++ types_text hidden (MoreTys a (MoreTys b NoTys))
      ++ codes ")") (ap is_some (as_fun_ty-fun names tells_names a b))
      ∙ ap (type_text hidden) (sym p)

  pub operator-pieces : (s : State) (t : Ty Name) (n : Name) (is : List ℕ) → t ≡ TyOp n (types_at s is)
      → is_function names t ≡ false → 0 < length is
      → codes "(" ++ word hidden (OpSymbol n) ++ types_text hidden (types_at s is) ++ codes ")" ≡ type_text hidden t
  operator-pieces s t n [] p h some = absurd (omega arith)
  operator-pieces s t n (i ∷ is) p h some =
      cond-false (is_function names (TyOp n (types_at s (i ∷ is)))) _ _ (ap (is_function names) (sym p) ∙ h)
      ∙ ap (type_text hidden) (sym p)

  pub types-more : (s : State) (is : List ℕ) (k i : ℕ) (p0 p q : Printed) → k < length is → i ≡ get_or is k i
      → Puts (λ js. types_text hidden (types_at s js)) is k p0 p → IsPut (codes " " ++ type_text hidden (type_at s i))
      p q → Puts (λ js. types_text hidden (types_at s js)) is (k + 1) p0 q
  types-more s is k i p0 p q h e before put =
      puts-more (λ js. types_text hidden (types_at s js)) (λ j. codes " " ++ type_text hidden (type_at s j))
      (λ x xs. refl) is k i p0 p q h before
      (same-text (ap (λ j. codes " " ++ type_text hidden (type_at s j)) e) put)
