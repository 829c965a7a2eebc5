-- Which variables are known to be free in which terms, one more, and as the kernel grows.
use Rattle.std.specs.Prelude.{◌≡◌, ◌≢◌, ◌&&◌, nat_eq, cond, Bool, true, false, List, [], Some}
use Rattle.std.specs.Bool.{Decides}
use Rattle.std.specs.Map.{lookup}
use Rattle.std.proofs.Common.{refl, sym, ap, subst, ◌∙◌, arith, eqb-true}
use Rattle.std.proofs.lemmas.Bool.{and_parts}
use Rattle.std.proofs.lemmas.Option.{same_Some}
use Rattle.ot_logic.specs.Names.{Name}
use Rattle.ot_logic.specs.Naming.{names}
use Rattle.ot_logic.specs.Trees.{TyVar, Variable, Named, NVar, NConst, NAbs}
use Rattle.ot_logic.specs.Hol.{same_var}
use Rattle.ot_logic.specs.NamedTerms.{IsFreeIn}
use Rattle.ot_laws.proofs.Tests.{tells_names, same_var-is}
use Rattle.ot_kernel.specs.State.{State, name_at, type_at, named_at, Keeps}
use Rattle.ot_machine.specs.Occurrences.{same_occurrence, IsOccurrence, AreOccurrences}
use Rattle.ot_machine.specs.declared.makers.occurrences.Occurrence.{Occurrence}
use Rattle.ot_machine.proofs.Kept.{at-Extends}

-- ---- what decides, node by node
module _ (v : Variable Name) where
  pub free-variable : (w : Variable Name) (b : Bool) → b ≡ same_var names w v → Decides b (IsFreeIn names v (NVar w))
  free-variable w b e = subst (λ c. Decides c (w ≡ v)) (sym e) (same_var-is names tells_names w v)

  pub free-bound : (w : Variable Name) (t : Named Name) → same_var names w v ≡ true
      → Decides false (IsFreeIn names v (NAbs w t))
  free-bound w t e = ((λ p. cc), λ p. absurd (p.0 ((same_var-is names tells_names w v).0 e)))

  pub free-body : (w : Variable Name) (t : Named Name) (b : Bool) → same_var names w v ≡ false
      → Decides b (IsFreeIn names v t) → Decides b (IsFreeIn names v (NAbs w t))
  free-body w t b e d = ((λ p. (other, d.0 p)), λ p. d.1 p.1)
    where
      no : (c : Bool) → c ≡ false → c ≡ true → ⊥
      no true f g = cc
      no false f g = cc

      other : w ≢ v
      other q = no (same_var names w v) e ((same_var-is names tells_names w v).1 q)

-- ---- one more
occurrence-same : (o p : Occurrence) → same_occurrence o p ≡ true → o ≡ p
occurrence-same o p h =
    let a = and_parts (nat_eq o.term p.term)
    (nat_eq o.variable.name p.variable.name && nat_eq o.variable.ty p.variable.ty) h in
    let b = and_parts (nat_eq o.variable.name p.variable.name) (nat_eq o.variable.ty p.variable.ty) a.1 in
    let t = eqb-true o.term p.term a.0 in
    let n = eqb-true o.variable.name p.variable.name b.0 in
    let y = eqb-true o.variable.ty p.variable.ty b.1 in
    λ i. record { term = t i; variable = record { name = n i; ty = y i } }

pub occurrences-insert : (k : State) (old new : List (Occurrence × Bool)) (o : Occurrence) (b : Bool)
    → AreOccurrences k old → IsOccurrence k o b
    → ((p : Occurrence) → lookup (same_occurrence p) new ≡ cond (same_occurrence o p) (Some b)
    (lookup (same_occurrence p) old)) → AreOccurrences k new
occurrences-insert k old new o b h here after =
    record { known = λ p c known. by p c (same_occurrence o p) refl (sym (after p) ∙ known) }
  where
    by : (p : Occurrence) (c d : Bool) → same_occurrence o p ≡ d
        → cond (same_occurrence o p) (Some b) (lookup (same_occurrence p) old) ≡ Some c → IsOccurrence k p c
    by p c true e known =
        let value : b ≡ c =
        same_Some b c (sym (ap (λ x. cond x (Some b) (lookup (same_occurrence p) old)) e) ∙ known) in
        subst (λ x. IsOccurrence k p x) value (subst (λ x. IsOccurrence k x b) (occurrence-same o p e) here)
    by p c false e known = h.known p c (sym (ap (λ x. cond x (Some b) (lookup (same_occurrence p) old)) e) ∙ known)

-- ---- a kernel that grew
pub occurrences-later : (k l : State) → Keeps k l → (es : List (Occurrence × Bool)) → AreOccurrences k es
    → AreOccurrences l es
occurrences-later k l kept es h = record { known = λ o b p. later o b (h.known o b p) }
  where
    later : (o : Occurrence) (b : Bool) → IsOccurrence k o b → IsOccurrence l o b
    later o b x =
        let n : name_at l o.variable.name ≡ name_at k o.variable.name =
        at-Extends k.names l.names kept.names [] o.variable.name x.variable.0 in
        let y : type_at l o.variable.ty ≡ type_at k o.variable.ty =
        at-Extends k.types l.types kept.types (TyVar []) o.variable.ty x.variable.1 in
        let t : named_at l.terms o.term ≡ named_at k.terms o.term =
        at-Extends k.terms l.terms kept.terms (NConst [] (TyVar [])) o.term x.term in
        record {
          term = omega (arith, x.term, kept.terms.longer);
          variable = (omega (arith, x.variable.0, kept.names.longer), omega (arith, x.variable.1, kept.types.longer));
          free = coe 0 1 (i. Decides b (IsFreeIn names (record { name = sym n i; ty = sym y i }) (sym t i))) x.free;
        }
