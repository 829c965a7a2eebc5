-- The free variables of a term, by those of its class.
use Rattle.std.specs.List.{AllByRecursion}
use Rattle.std.specs.Global.{Vec}
use Rattle.std.proofs.Common.{◌≡◌, ◌↔◌, ℕ, ◌<◌, inl, inr, Bool, Decides, IfOk, Result, Ok}
use Rattle.std.proofs.Common.{Err, List, [], ◌∷◌, length, map, refl, sym, ap, subst, ◌∙◌, arith}
use Rattle.ot_logic.specs.Lists.{IsMember, AreDistinct}
use Rattle.ot_logic.specs.Trees.{Ty, Variable, Named}
use Rattle.ot_logic.specs.Hol.{IsClosed, IsFree}
use Rattle.ot_logic.specs.NamedTerms.{nameless}
use Rattle.ot_logic.specs.Naming.{numbers}
use Rattle.ot_logic.proofs.Members.{IsMember-map, IsMember-map_back, All-from_members}
use Rattle.ot_laws.proofs.Named.{free-nameless, nameless-free}
use Rattle.ot_laws.proofs.Tests.{tells_numbers}
use Rattle.ot_type.specs.TypeTable.{type_at}
use Rattle.ot_shape.specs.Shape.{Class}
use Rattle.ot_shape.proofs.Frees.{frees-to, frees-from}
use Rattle.ot_lists.specs.Variables.{variable_by, numbered, variable_of as class_variable}
use Rattle.ot_lists.specs.declared.list.Key.{Key}
use Rattle.ot_class.specs.Class.{ClassTable, class_at}
use Rattle.ot_class.specs.Spelled.{IsNumbered, spelled_ty, spelled_var}
use Rattle.ot_term.specs.Free.{var_key, AreFree}
use Rattle.ot_term.specs.Term.{TermTable}
use Rattle.ot_term.specs.TermTable.{variable_of, terms_of, IsClassOf, IsTermSound}
use Rattle.ot_term.specs.declared.table.NodeInfo.{NodeInfo}
use Rattle.ot_term.specs.declared.term.TermNode.{TermNode}
use Rattle.ot_term.specs.declared.term.VarKey.{VarKey}
use Rattle.ot_term.proofs.TermTableLemmas.{table_of}

-- the images of distinct items by a function that tells them apart
pub distinct-map : {X Y : Type 0} (f : X → Y) → ((x y : X) → f x ≡ f y → x ≡ y) → (xs : List X) → AreDistinct xs
    → AreDistinct (map f xs)
distinct-map f one [] d = tt
distinct-map f one (x ∷ xs) d = (
  λ m.
      let (y, n, e) = IsMember-map_back f (f x) xs m in
      d.0 (subst (λ z. IsMember z xs) (one y x e) n),
  distinct-map f one xs d.1,
)

-- ---- variables over numbers of types, and what they stand for
abbrev AreNumbered : ℕ → List (Variable ℕ) → Type 0
AreNumbered n vs = AllByRecursion (λ (v : Variable ℕ). IsNumbered n v.ty) vs

free-over : (n : ℕ) (vs : List (Variable ℕ)) → AreNumbered n vs → (name k : ℕ) → IsMember (variable_by name k) vs
    → k < n
free-over n [] h name k m = absurd m
free-over n (v ∷ vs) h name k (inl e) =
    let same : numbered h.0.number ≡ numbered k = sym h.0.is ∙ ap (λ (x : Variable ℕ). x.ty) e in
    let number : h.0.number ≡ k = cc in
    omega (arith, h.0.below, number)
free-over n (v ∷ vs) h name k (inr m) = free-over n vs h.1 name k m

free-spelled : (tys : List (Ty ℕ)) (n : ℕ) (vs : List (Variable ℕ)) → AreNumbered n vs → (w : Variable ℕ)
    → IsMember w (map (spelled_var tys) vs) → (k : ℕ) × IsMember (variable_by w.name k) vs × (type_at tys k ≡ w.ty)
free-spelled tys n [] h w m = absurd m
free-spelled tys n (v ∷ vs) h w (inl e) =
    let name : v.name ≡ w.name = ap (λ (x : Variable ℕ). x.name) e in
    let ty : type_at tys h.0.number ≡ w.ty = sym (ap (spelled_ty tys) h.0.is) ∙ ap (λ (x : Variable ℕ). x.ty) e in
    (h.0.number, inl (λ i. record { name = name i; ty = h.0.is i }), ty)
free-spelled tys n (v ∷ vs) h w (inr m) = let (k, g, e) = free-spelled tys n vs h.1 w m in (k, inr g, e)

no-members : {X : Type 0} (xs : List X) → ((x : X) → IsMember x xs → ⊥) → xs ≡ []
no-members [] h = refl
no-members (x ∷ xs) h = absurd (h x (inl refl))

-- ---- the free variables of a term, by those of its class
module _ (tys : List (Ty ℕ)) (cs : ClassTable) (t : Named ℕ) (c : ℕ) (class : IsClassOf tys cs t c) where
  abbrev frees : List (Variable ℕ)
  frees = (class_at cs c).frees

  spelled-is : (w : Variable ℕ) → IsMember w (map (spelled_var tys) frees) → IsFree numbers w (nameless numbers t)
  spelled-is w m =
      nameless-free numbers tells_numbers w t
      (frees-to numbers tells_numbers w t (subst (λ (k : Class ℕ). IsMember w k.frees) class.form m))

  pub class-below : (name k : ℕ) → IsMember (variable_by name k) frees → k < length tys
  class-below name k m = free-over (length tys) frees class.over.frees name k m

  pub class-to : (name k : ℕ) → IsMember (variable_by name k) frees
      → IsFree numbers (variable_of tys (record { name = name; ty = k })) (nameless numbers t)
  class-to name k m = spelled-is _ (IsMember-map (spelled_var tys) (variable_by name k) frees m)

  pub class-from : (w : Variable ℕ) → IsFree numbers w (nameless numbers t)
      → (k : ℕ) × IsMember (variable_by w.name k) frees × (type_at tys k ≡ w.ty)
  class-from w f =
      free-spelled tys (length tys) frees class.over.frees w
      (subst (λ (k : Class ℕ). IsMember w k.frees) (sym class.form)
      (frees-from numbers tells_numbers w t (free-nameless numbers tells_numbers w t f)))

  free_of_class : (ks : List Key) → ((v : Key) → IsMember v ks ↔ IsMember (class_variable v) frees) → AreDistinct ks
      → AreFree tys t (map var_key ks)
  free_of_class ks free once = record {
    within = All-from_members (λ (v : VarKey). v.ty < length tys) (map var_key ks) (λ v m.
        let (k, n, e) = IsMember-map_back var_key v ks m in
        subst (λ (v : VarKey). v.ty < length tys) e (class-below k.name k.ty ((free k).0 n)));
    free = λ w. (to w, back w);
    once = distinct-map var_key (λ v w e. λ i. record { name = (e i).name; ty = (e i).ty }) ks once;
  }
    where
      to : (w : Variable ℕ) → IsMember w (map (variable_of tys) (map var_key ks))
          → IsFree numbers w (nameless numbers t)
      to w m =
          let (v, n, e) = IsMember-map_back (variable_of tys) w (map var_key ks) m in
          let (k, i, d) = IsMember-map_back var_key v ks n in
          let same : variable_of tys (var_key k) ≡ w = ap (variable_of tys) d ∙ e in
          subst (λ x. IsFree numbers x (nameless numbers t)) same (class-to k.name k.ty ((free k).0 i))

      back : (w : Variable ℕ) → IsFree numbers w (nameless numbers t)
          → IsMember w (map (variable_of tys) (map var_key ks))
      back w f =
          let (k, g, e) = class-from w f in
          let v : Key = record { name = w.name; ty = k } in
          let same : variable_of tys (var_key v) ≡ w = λ i. record { name = w.name; ty = e i } in
          subst (λ x. IsMember x (map (variable_of tys) (map var_key ks))) same
          (IsMember-map (variable_of tys) (var_key v) (map var_key ks) (IsMember-map var_key v ks ((free v).1 g)))

  pub free_result : {E : Type 0} (r : Result (Vec Key) E)
      → IfOk r (λ ks. (v : Key) → IsMember v ks.items ↔ IsMember (class_variable v) frees)
      → IfOk r (λ ks. AreDistinct ks.items) → IfOk r (λ ks. AreFree tys t (map var_key ks.items))
  free_result (Ok ks) free once = free_of_class ks.items free once
  free_result (Err e) free once = tt

  -- no variable is free in a term whose class has none
  pub closed_of_class : (b : Bool) → Decides b (frees ≡ []) → Decides b (IsClosed numbers (nameless numbers t))
  closed_of_class b test = (
    λ e w free.
        let (k, found, typed) = class-from w free in
        subst (IsMember (variable_by w.name k)) (test.0 e) found,
    λ none. test.1 (no-members frees (λ v m. none (spelled_var tys v)
        (spelled-is (spelled_var tys v) (IsMember-map (spelled_var tys) v frees m)))),
  )

-- a number of the table is that of an entry
pub entry_within : (tys : List (Ty ℕ)) (cs : ClassTable) (es : List (TermNode × NodeInfo)) → IsTermSound tys cs es
    (terms_of tys es) → (t : TermTable) → table_of tys es ≡ t → (i : ℕ) → i < length t.terms → i < length es
entry_within tys cs es sound t view i h =
    let same : length t.terms ≡ length es = ap (λ (t : TermTable). length t.terms) (sym view)
    ∙ sound.nodes.same_length in
    omega (arith, h, same)
