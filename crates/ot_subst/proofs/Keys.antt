-- Variables by number.
use Rattle.std.specs.Prelude.{◌==◌}
use Rattle.std.specs.Bool.{Decides}
use Rattle.std.proofs.Common.{◌≡◌, ℕ, ◌<◌, List, length, ap}
use Rattle.std.proofs.lemmas.Bool.Decides.{Decides-and, Decides-like, Decides-eqb, same_from_decides}
use Rattle.ot_logic.specs.Trees.{Ty, TyVar, Variable}
use Rattle.ot_logic.specs.Hol.{same_var}
use Rattle.ot_logic.specs.Naming.{numbers}
use Rattle.ot_logic.proofs.TableLemmas.{get_or-IsInjective}
use Rattle.ot_type.specs.TypeTable.{IsTypeTable}
use Rattle.ot_term.specs.TermTable.{variable_of}
use Rattle.ot_term.specs.declared.term.VarKey.{VarKey}
use Rattle.ot_laws.proofs.Tests.{tells_numbers, same_var-is}
use Rattle.ot_subst.specs.Substitution.{same_key}

pub same_key-is : (v w : VarKey) → Decides (same_key v w) (v ≡ w)
same_key-is v w = Decides-like (same_key v w) (λ p. λ i. record { name = p.0 i; ty = p.1 i })
    (λ e. (ap (λ (x : VarKey). x.name) e, ap (λ (x : VarKey). x.ty) e))
    (Decides-and (v.name == w.name) (v.ty == w.ty) (Decides-eqb v.name w.name) (Decides-eqb v.ty w.ty))

module _ (tys : List (Ty ℕ)) (table : IsTypeTable tys) (v w : VarKey) (left : v.ty < length tys)
    (right : w.ty < length tys) where
  -- two numbers of variables are one where the variables are
  pub variable-injective : variable_of tys v ≡ variable_of tys w → v ≡ w
  variable-injective e =
      let name : v.name ≡ w.name = ap (λ (x : Variable ℕ). x.name) e in
      let ty : v.ty ≡ w.ty = get_or-IsInjective tys table.injective v.ty w.ty (TyVar 0) left right
      (ap (λ (x : Variable ℕ). x.ty) e) in
      λ i. record { name = name i; ty = ty i }

  pub same_var-key : same_var numbers (variable_of tys v) (variable_of tys w) ≡ same_key v w
  same_var-key =
      let tree = same_var-is numbers tells_numbers (variable_of tys v) (variable_of tys w) in
      let key = same_key-is v w in
      same_from_decides (same_var numbers (variable_of tys v) (variable_of tys w)) (same_key v w) tree
      (λ p. ap (variable_of tys) (key.0 p), λ e. key.1 (variable-injective e))
