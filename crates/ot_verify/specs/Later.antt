-- What stands for something in a log stands for it after names were added.
use Rattle.std.proofs.Common.{ℕ, slice_get, ap, ◌∙◌}
use Rattle.ot_logic.specs.Names.{Name}
use Rattle.ot_logic.specs.Trees.{Ty, Tm, Variable}
use Rattle.ot_log_format.specs.State.{LogState}
use Rattle.ot_verify.specs.Asking.{IsAt}
use Rattle.ot_verify.specs.Logged.{LogView, IsNamed, IsVariable, IsTypePair, IsTermPair, IsConstantPair, MeetsNames}
use Rattle.ot_verify.specs.declared.operand.NamedType.{NamedType}
use Rattle.ot_verify.specs.declared.operand.TermPair.{TermPair}
use Rattle.ot_verify.specs.declared.operand.ConstantPair.{ConstantPair}

module _ (l m : LogView) where
  pub named-later : (i : ℕ) (n : Name) → MeetsNames l m → IsNamed l i n → IsNamed m i n
  named-later i n a h = a.items.keeps i _ h

  pub type-later : (i : ℕ) (t : Ty Name) → MeetsNames l m → IsAt l.state.types i t → IsAt m.state.types i t
  type-later i t a h = ap (λ (s : LogState Name). slice_get s.types i) a.state ∙ h

  pub term-later : (i : ℕ) (t : Tm Name) → MeetsNames l m → IsAt l.state.terms i t → IsAt m.state.terms i t
  term-later i t a h = ap (λ (s : LogState Name). slice_get s.terms i) a.state ∙ h

  pub variable-later : (x : NamedType) (v : Variable Name) → MeetsNames l m → IsVariable l x v → IsVariable m x v
  variable-later x v a h = (named-later x.name v.name a h.0, type-later x.ty v.ty a h.1)

  pub type_pair-later : (x : NamedType) (p : Name × Ty Name) → MeetsNames l m → IsTypePair l x p → IsTypePair m x p
  type_pair-later x p a h = (named-later x.name p.0 a h.0, type-later x.ty p.1 a h.1)

  pub term_pair-later : (x : TermPair) (p : Variable Name × Tm Name) → MeetsNames l m → IsTermPair l x p
      → IsTermPair m x p
  term_pair-later x p a h = (variable-later x.variable p.0 a h.0, term-later x.term p.1 a h.1)

  pub constant_pair-later : (x : ConstantPair) (p : Name × Variable Name) → MeetsNames l m → IsConstantPair l x p
      → IsConstantPair m x p
  constant_pair-later x p a h = (named-later x.constant p.0 a h.0, variable-later x.variable p.1 a h.1)
