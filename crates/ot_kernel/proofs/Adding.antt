-- A pair that is added to a substitution, by number and by name.
use Rattle.std.specs.Prelude.{◌≡◌, ℕ, ◌<◌, Bool, true, false, cond, if◌then◌else◌, ◌||◌, not, OnOk, Result}
use Rattle.std.specs.Prelude.{Ok, Err, nat_eq, is_some, List, [], ◌∷◌, ◌++◌, map, length, Option, Some}
use Rattle.std.specs.List.{All, list_any}
use Rattle.std.specs.Map.{lookup}
use Rattle.std.proofs.Common.{refl, sym, ap, ◌∙◌, subst}
use Rattle.std.proofs.lemmas.List.Elements.{All-head, All-tail, All-push}
use Rattle.ot_logic.specs.Names.{Name}
use Rattle.ot_logic.specs.Trees.{Variable, Tm}
use Rattle.ot_logic.specs.Hol.{same_var, HasType, IsTyped}
use Rattle.ot_logic.specs.Naming.{names}
use Rattle.ot_logic.specs.Rules.{has_type}
use Rattle.ot_laws.proofs.Tests.{tells_names, has_type-is}
use Rattle.ot_term.specs.Term.{TermTable}
use Rattle.ot_term.specs.declared.term.VarKey.{VarKey}
use Rattle.ot_subst.specs.Substitution.{Substitution, same_key, term_for, with_pair}
use Rattle.ot_kernel.specs.State.{State, name_at, type_at, variable_at, term_at}
use Rattle.ot_kernel.specs.Spelled.{Held}
use Rattle.ot_kernel.specs.Pairs.{with_type, with_term, type_pairs, term_pairs, AreTypePairs, IsSubstIn}
use Rattle.ot_kernel.proofs.Later.{Later, same_name-number, same_variable-number}
use Rattle.ot_kernel.proofs.Namings.{map-push}
use Rattle.ot_logic.proofs.Elements.{AllByRecursion-push}

-- ---- lists
-- a key is found just where a test that agrees finds its image
module _ {K X L Y : Type 0} (f : K → L) (g : X → Y) (test : K → Bool) (probe : L → Bool) where
  found_either : (b : Bool) (x : X) (o : Option X) → is_some (cond b (Some x) o) ≡ (b || is_some o)
  found_either true x o = refl
  found_either false x o = refl

  found : (es : List (K × X)) → All (λ e. test e.0 ≡ probe (f e.0)) es → is_some (lookup test es)
      ≡ list_any (λ (p : L × Y). probe p.0) (map (λ e. (f e.0, g e.1)) es)
  found [] h = refl
  found (e ∷ es) h =
      let a = All-head (λ (d : K × X). test d.0 ≡ probe (f d.0)) e es h in
      let b = found es (All-tail (λ (d : K × X). test d.0 ≡ probe (f d.0)) e es h) in
      found_either (test e.0) e.1 (lookup test es) ∙ (λ i. a i || b i)

-- a pair that goes to the end, under a map
pushed_unless : {X Y : Type 0} (f : X → Y) (b c : Bool) (xs : List X) (x : X) → b ≡ c
    → map f (if b then xs else xs ++ x ∷ []) ≡ (if c then map f xs else map f xs ++ f x ∷ [])
pushed_unless f b c xs x e = go b ∙ ap (λ d. cond d (map f xs) (map f xs ++ f x ∷ [])) e
  where
    go : (d : Bool) → map f (if d then xs else xs ++ x ∷ []) ≡ (if d then map f xs else map f xs ++ f x ∷ [])
    go true = refl
    go false = map-push f xs x

module _ {ns : List Name} {t : TermTable} {held : Held} {now : State} (l : Later ns ns t t held now now) where
  pub type_added : (ps : List (ℕ × ℕ)) (n ty : ℕ) → AreTypePairs now ps → n < length now.names
      → type_pairs now (if is_some (lookup (nat_eq n) ps) then ps else ps ++ (n, ty) ∷ [])
      ≡ with_type (type_pairs now ps) (name_at now n) (type_at now ty)
  type_added ps n ty h within =
      let here = found (name_at now) (type_at now) (nat_eq n) (names.same (name_at now n)) ps
      (λ i d m. same_name-number l n _ within (h.names i d m)) in
      pushed_unless (λ (p : ℕ × ℕ). (name_at now p.0, type_at now p.1)) _ _ ps (n, ty) here

  pub term_added : (s : Substitution) (v : VarKey) (x : ℕ) → IsSubstIn now s → v.name < length now.names
      → v.ty < length now.types → term_pairs now (with_pair s v x) ≡ with_term (term_pairs now s) (variable_at now v)
      (term_at now x)
  term_added s v x h name ty =
      let here = found (variable_at now) (term_at now) (same_key v) (same_var names (variable_at now v)) s.terms
      (λ i d m. let w = h.variables i d m in same_variable-number l v _ name ty w.0 w.1) in
      parts (is_some (term_for s v)) ∙ pushed_unless (λ (p : VarKey × ℕ). (variable_at now p.0, term_at now p.1)) _ _
      s.terms (v, x) here
    where
      parts : (b : Bool)
          → term_pairs now (if b then s else record { types = s.types; terms = s.terms ++ (v, x) ∷ [] })
          ≡ map (λ p. (variable_at now p.0, term_at now p.1)) (if b then s.terms else s.terms ++ (v, x) ∷ [])
      parts true = refl
      parts false = refl

-- a test that was negated
pub negated : (b v : Bool) → not b ≡ v → not v ≡ b
negated true v e = ap not (sym e)
negated false v e = ap not (sym e)

-- what was added, where memory allowed
pub on_ok : {U E X : Type 0} (r : Result U E) (new x : X) (P : X → Type 0) → OnOk r (new ≡ x) → P x → OnOk r (P new)
on_ok (Ok u) new x P e h = subst P (sym e) h
on_ok (Err f) new x P e h = e

-- the substitution still fits
pub term_fits : (now : State) (s : Substitution) (v : VarKey) (x : ℕ) → v.name < length now.names
    → v.ty < length now.types → x < length now.terms → true ≡ has_type names (term_at now x) (type_at now v.ty)
    → IsSubstIn now s → IsSubstIn now (with_pair s v x)
term_fits now s v x name ty within typed h = by (is_some (term_for s v))
  where
    pair : VarKey × ℕ → Variable Name × Tm Name
    pair p = (variable_at now p.0, term_at now p.1)

    by : (b : Bool) → IsSubstIn now (cond b s (record { types = s.types; terms = s.terms ++ (v, x) ∷ [] }))
    by true = h
    by false = record {
      type_part = h.type_part;
      variables = All-push (λ (p : VarKey × ℕ). (p.0.name < length now.names) × (p.0.ty < length now.types)) s.terms
          (v, x) h.variables (name, ty);
      terms = All-push (λ (p : VarKey × ℕ). p.1 < length now.terms) s.terms (v, x) h.terms within;
      typed = subst (IsTyped names) (sym (map-push pair s.terms (v, x)))
          (AllByRecursion-push (λ (p : Variable Name × Tm Name). HasType names p.1 p.0.ty) (term_pairs now s)
          (variable_at now v, term_at now x) h.typed
          ((has_type-is names tells_names (term_at now x) (type_at now v.ty)).0 (sym typed)));
    }
