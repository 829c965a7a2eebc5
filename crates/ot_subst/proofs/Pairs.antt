-- The pairs of a substitution.
use Rattle.std.specs.Prelude.{OnOk, OnErr}
use Rattle.std.proofs.Common.{◌≡◌, ℕ, ◌<◌, Bool, true, false, cond, length, Result, Ok, Err}
use Rattle.std.proofs.Common.{List, [], ◌∷◌, ◌++◌, Some, None, is_some, refl, sym, ap, subst, ◌∙◌}
use Rattle.std.specs.Map.{lookup}
use Rattle.std.proofs.lemmas.List.{append_assoc}
use Rattle.std.proofs.lemmas.List.Elements.{All-push}
use Rattle.std.proofs.lemmas.Option.{none-some}
use Rattle.ot_logic.specs.Trees.{Variable, Tm}
use Rattle.ot_logic.specs.Hol.{TermMap, HasType, IsTyped}
use Rattle.ot_logic.specs.NamedTerms.{nameless, named_type}
use Rattle.ot_logic.specs.Naming.{numbers}
use Rattle.ot_laws.proofs.Tests.{tells_numbers}
use Rattle.ot_laws.proofs.Typing.{type-nameless}
use Rattle.ot_type.specs.TypeTable.{type_at}
use Rattle.ot_term.specs.Term.{TermTable}
use Rattle.ot_term.specs.TermTable.{term_at, variable_of}
use Rattle.indexmap.specs.IndexMap.{IndexMap, insert_entry}
use Rattle.indexmap.proofs.CallerLemmas.{insert_entry-new}
use Rattle.ot_term.specs.declared.term.VarKey.{VarKey}
use Rattle.ot_subst.specs.Substitution.{Substitution, same_key, term_for, with_pair, variable_part, IsSubstOf}
use Rattle.ot_logic.proofs.Results.{none_from}

-- ---- two lists of pairs, of which the first is looked through first
pub lookup-first : {K X : Type 0} (p : K → Bool) (xs ys : List (K × X)) (x : X) → lookup p xs ≡ Some x
    → lookup p (xs ++ ys) ≡ Some x
lookup-first p [] ys x e = absurd (none-some x e)
lookup-first p (d ∷ xs) ys x e = go (p d.0) e (lookup-first p xs ys x)
  where
    go : (b : Bool) → cond b (Some d.1) (lookup p xs) ≡ Some x
        → (lookup p xs ≡ Some x → lookup p (xs ++ ys) ≡ Some x) → cond b (Some d.1) (lookup p (xs ++ ys)) ≡ Some x
    go true e f = e
    go false e f = f e

pub lookup-others : {K X : Type 0} (p : K → Bool) (xs ys : List (K × X)) → lookup p xs ≡ None
    → lookup p (xs ++ ys) ≡ lookup p ys
lookup-others p [] ys e = refl
lookup-others p (d ∷ xs) ys e = go (p d.0) e (lookup-others p xs ys)
  where
    go : (b : Bool) → cond b (Some d.1) (lookup p xs) ≡ None
        → (lookup p xs ≡ None → lookup p (xs ++ ys) ≡ lookup p ys)
        → cond b (Some d.1) (lookup p (xs ++ ys)) ≡ lookup p ys
    go true e f = absurd (none-some d.1 (sym e))
    go false e f = f e

none-others : {K X : Type 0} (p : K → Bool) (xs ys : List (K × X)) → lookup p (xs ++ ys) ≡ None → lookup p ys ≡ None
none-others p [] ys e = e
none-others p (d ∷ xs) ys e = go (p d.0) e (none-others p xs ys)
  where
    go : (b : Bool) → cond b (Some d.1) (lookup p (xs ++ ys)) ≡ None
        → (lookup p (xs ++ ys) ≡ None → lookup p ys ≡ None) → lookup p ys ≡ None
    go true e f = absurd (none-some d.1 (sym e))
    go false e f = f e

-- ---- a pair that is added
pub added-other : {S : Type 0} (tys : List (ℕ × ℕ)) (xs new : List (VarKey × ℕ)) (m : IndexMap VarKey ℕ S)
    (now : Substitution) (v : VarKey) (t : ℕ)
    → ◌≡◌ {A = Substitution} (record { types = tys; terms = xs ++ m.entries }) now
    → is_some (term_for now v) ≡ false → new ≡ insert_entry same_key m.entries v t
    → ◌≡◌ {A = Substitution} (record { types = tys; terms = xs ++ new }) (with_pair now v t)
added-other tys xs new m now v t view absent entries =
    let none = none-others (same_key v) xs m.entries
    (ap (λ (s : Substitution). lookup (same_key v) s.terms) view ∙ none_from _ absent) in
    let after : new ≡ m.entries ++ (v, t) ∷ [] = entries ∙ insert_entry-new same_key m v t none in
    let all : xs ++ new ≡ (xs ++ m.entries) ++ (v, t) ∷ [] = ap (λ zs. xs ++ zs) after
    ∙ sym (append_assoc xs m.entries ((v, t) ∷ [])) in
    (λ i. record { types = tys; terms = all i })
    ∙ (λ i. record { types = (view i).types; terms = (view i).terms ++ (v, t) ∷ [] })
    ∙ sym (ap (λ b. cond b now (record { types = now.types; terms = now.terms ++ (v, t) ∷ [] })) absent)

-- ---- the substitution fits the table
typed-push : (m : TermMap numbers) (p : Variable ℕ × Tm ℕ) → IsTyped numbers m → HasType numbers p.1 p.0.ty
    → IsTyped numbers (m ++ p ∷ [])
typed-push [] p h k = (k, tt)
typed-push (q ∷ m) p h k = (h.0, typed-push m p h.1 k)

part-push : (t : TermTable) (ps : List (VarKey × ℕ)) (v : VarKey) (x : ℕ)
    → variable_part t (record { types = []; terms = ps ++ (v, x) ∷ [] }) ≡ variable_part t
    (record { types = []; terms = ps }) ++ (variable_of t.types v, nameless numbers (term_at t.terms x)) ∷ []
part-push t [] v x = refl
part-push t (p ∷ ps) v x = ap (λ m. (variable_of t.types p.0, nameless numbers (term_at t.terms p.1)) ∷ m)
    (part-push t ps v x)

pub fits_pair : (t : TermTable) (s : Substitution) (v : VarKey) (x : ℕ) → v.ty < length t.types → x < length t.terms
    → named_type numbers (term_at t.terms x) ≡ Some (type_at t.types v.ty) → IsSubstOf t s
    → IsSubstOf t (with_pair s v x)
fits_pair t s v x vin xin typed h = by (is_some (term_for s v))
  where
    by : (b : Bool) → IsSubstOf t (cond b s (record { types = s.types; terms = s.terms ++ (v, x) ∷ [] }))
    by true = h
    by false = record {
      types = h.types;
      variables = All-push (λ (p : VarKey × ℕ). p.0.ty < length t.types) s.terms (v, x) h.variables vin;
      terms = All-push (λ (p : VarKey × ℕ). p.1 < length t.terms) s.terms (v, x) h.terms xin;
      typed = subst (IsTyped numbers) (sym (part-push t s.terms v x))
          (typed-push (variable_part t s) (variable_of t.types v, nameless numbers (term_at t.terms x)) h.typed
          (type-nameless numbers tells_numbers (term_at t.terms x) ∙ typed));
    }

pub fits_either : {U E : Type 0} (res : Result U E) (t : TermTable) (old new more : Substitution)
    → OnOk res (new ≡ more) → OnErr res (new ≡ old) → IsSubstOf t old → IsSubstOf t more → IsSubstOf t new
fits_either (Ok u) t old new more a b h k = subst (IsSubstOf t) (sym a) k
fits_either (Err e) t old new more a b h k = subst (IsSubstOf t) (sym b) h
