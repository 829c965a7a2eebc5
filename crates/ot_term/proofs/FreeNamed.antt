-- The free variables of one name.
use Rattle.std.specs.Prelude.{nat_eq}
use Rattle.std.specs.Bool.{Decides}
use Rattle.std.specs.Global.{Vec}
use Rattle.std.specs.List.{All, list_any}
use Rattle.std.proofs.Common.{◌≡◌, ◌↔◌, ℕ, ◌<◌, IfOk, Result, Ok, Err, List}
use Rattle.std.proofs.Common.{[], ◌∷◌, length, map, refl, sym, ap, subst, ◌∙◌}
use Rattle.std.proofs.lemmas.Bool.Decides.{Decides-like, Decides-or, Decides-eqb, same_from_decides}
use Rattle.ot_logic.specs.Lists.{IsMember, AreDistinct}
use Rattle.ot_logic.specs.Trees.{Ty, TyVar, Variable, Named}
use Rattle.ot_logic.specs.Hol.{IsFree, is_free}
use Rattle.ot_logic.specs.NamedTerms.{nameless}
use Rattle.ot_logic.specs.Naming.{numbers}
use Rattle.ot_logic.specs.Table.{IsInjective}
use Rattle.ot_logic.proofs.TableLemmas.{get_or-IsInjective}
use Rattle.ot_laws.proofs.Tests.{tells_numbers, is_free-is}
use Rattle.ot_lists.specs.Variables.{variable_by}
use Rattle.ot_class.specs.Class.{ClassTable, class_at}
use Rattle.ot_term.specs.Free.{key_at, AreTypesOf}
use Rattle.ot_term.specs.TermTable.{variable_of, IsClassOf}
use Rattle.ot_term.proofs.FreeLemmas.{class-below, class-to, class-from, distinct-map}
use Rattle.ot_term.specs.declared.term.VarKey.{VarKey}
use Rattle.ot_logic.proofs.Members.{IsMember-map, IsMember-map_back, All-at_member, All-from_members}

-- ---- the types that stand beside a name
module _ (tys : List (Ty ℕ)) (cs : ClassTable) (t : Named ℕ) (c : ℕ) (class : IsClassOf tys cs t c) (name : ℕ) where
  types_of_class : (ks : List ℕ) → ((k : ℕ) → IsMember k ks ↔ IsMember (variable_by name k) (class_at cs c).frees)
      → AreDistinct ks → AreTypesOf tys name t ks
  types_of_class ks free once = record {
    within = All-from_members (λ k. k < length tys) ks
        (λ k m. class-below tys cs t c class name k ((free k).0 m));
    to = λ k m. class-to tys cs t c class name k ((free k).0 m);
    back = λ w p f.
        let (k, g, e) = class-from tys cs t c class w f in
        (k, (free k).1 (subst (λ n. IsMember (variable_by n k) (class_at cs c).frees) p g), e);
    once = once;
  }

  pub types_of_result : {E : Type 0} (r : Result (Vec ℕ) E)
      → IfOk r (λ ks. (k : ℕ) → IsMember k ks.items ↔ IsMember (variable_by name k) (class_at cs c).frees)
      → IfOk r (λ ks. AreDistinct ks.items) → IfOk r (λ ks. AreTypesOf tys name t ks.items)
  types_of_result (Ok ks) free once = types_of_class ks.items free once
  types_of_result (Err e) free once = tt

module _ (tys : List (Ty ℕ)) (name : ℕ) (t : Named ℕ) (ks : List ℕ) (h : AreTypesOf tys name t ks) where
  pub named-within : All (λ v. v.ty < length tys) (map (key_at name) ks)
  named-within = All-from_members (λ (v : VarKey). v.ty < length tys) (map (key_at name) ks) (λ v m.
      let (k, n, e) = IsMember-map_back (key_at name) v ks m in
      subst (λ (v : VarKey). v.ty < length tys) e (All-at_member (λ k. k < length tys) ks k h.within n))

  pub named-free : (w : Variable ℕ) → IsMember w (map (variable_of tys) (map (key_at name) ks))
      ↔ ((w.name ≡ name) × IsFree numbers w (nameless numbers t))
  named-free w = (to, back)
    where
      to : IsMember w (map (variable_of tys) (map (key_at name) ks))
          → (w.name ≡ name) × IsFree numbers w (nameless numbers t)
      to m =
          let (v, n, e) = IsMember-map_back (variable_of tys) w (map (key_at name) ks) m in
          let (k, i, d) = IsMember-map_back (key_at name) v ks n in
          let same : variable_of tys (key_at name k) ≡ w = ap (variable_of tys) d ∙ e in (
            sym (ap (λ (x : Variable ℕ). x.name) same),
            subst (λ x. IsFree numbers x (nameless numbers t)) same
                (h.to k i),
          )

      back : (w.name ≡ name) × IsFree numbers w (nameless numbers t)
          → IsMember w (map (variable_of tys) (map (key_at name) ks))
      back p =
          let (k, m, e) = h.back w p.0 p.1 in
          let name_of : name ≡ w.name = sym p.0 in
          let same : variable_of tys (key_at name k) ≡ w = λ i. record { name = name_of i; ty = e i } in
          subst (λ x. IsMember x (map (variable_of tys) (map (key_at name) ks))) same
          (IsMember-map (variable_of tys) (key_at name k) (map (key_at name) ks)
          (IsMember-map (key_at name) k ks m))

pub named-once : (tys : List (Ty ℕ)) (name : ℕ) (t : Named ℕ) (ks : List ℕ) → AreTypesOf tys name t ks
    → AreDistinct (map (key_at name) ks)
named-once tys name t ks h = distinct-map (key_at name) (λ j k e. ap (λ (v : VarKey). v.ty) e) ks h.once

-- ---- whether a type is among them
any-number : (k : ℕ) (ks : List ℕ) → Decides (list_any (λ j. nat_eq j k) ks) (IsMember k ks)
any-number k [] = (λ e. cc, λ e. absurd e)
any-number k (j ∷ ks) = Decides-or (nat_eq j k) (list_any (λ j. nat_eq j k) ks) (Decides-eqb j k) (any-number k ks)

pub named-is_free : (tys : List (Ty ℕ)) → IsInjective tys → (v : VarKey) → v.ty < length tys
    → (t : Named ℕ) (ks : List ℕ) → AreTypesOf tys v.name t ks
    → list_any (λ j. nat_eq j v.ty) ks ≡ is_free numbers (variable_of tys v) (nameless numbers t)
named-is_free tys one v below t ks h =
    same_from_decides _ _ (Decides-like (list_any (λ j. nat_eq j v.ty) ks) (h.to v.ty) back (any-number v.ty ks))
    (is_free-is numbers tells_numbers (variable_of tys v) (nameless numbers t))
  where
    back : IsFree numbers (variable_of tys v) (nameless numbers t) → IsMember v.ty ks
    back f =
        let (k, m, e) = h.back (variable_of tys v) refl f in
        subst (λ j. IsMember j ks)
        (get_or-IsInjective tys one k v.ty (TyVar 0) (All-at_member (λ k. k < length tys) ks k h.within m) below e) m
