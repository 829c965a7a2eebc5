-- When a binder may stay as it is.
use Rattle.std.specs.Prelude.{◌≢◌, not, IfOk, MatchBool}
use Rattle.std.proofs.Common.{◌≡◌, ℕ, ◌<◌, Bool, Decides, true, false, cond, List, []}
use Rattle.std.proofs.Common.{◌∷◌, length, Some, None, is_some, Result}
use Rattle.std.proofs.Common.{Ok, Err, true≢false, refl, sym, ap, subst, ◌∙◌, ◌⊎◌, inl, inr}
use Rattle.std.specs.Map.{lookup}
use Rattle.ot_logic.specs.Lists.{IsMember}
use Rattle.ot_logic.specs.Trees.{Variable, Free, Named}
use Rattle.ot_logic.specs.Hol.{inst_var, term_at as term_for_variable, TermMap, TypeMap, IsFree}
use Rattle.ot_logic.specs.NamedTerms.{Renaming, image, nameless}
use Rattle.ot_logic.specs.Naming.{numbers}
use Rattle.ot_laws.proofs.Tests.{tells_numbers, var_cases}
use Rattle.ot_laws.proofs.Apply.{term_at-cases}
use Rattle.ot_type.specs.TypeTable.{images}
use Rattle.ot_type.proofs.InstLemmas.{inst-nothing}
use Rattle.ot_term.specs.Term.{TermTable}
use Rattle.ot_term.specs.TermTable.{term_at, variable_of}
use Rattle.ot_term.specs.declared.term.VarKey.{VarKey}
use Rattle.ot_subst.specs.Substitution.{Substitution, same_key, type_part, named_part, variable_part, term_for}
use Rattle.ot_subst.specs.Renamed.{Meets, renaming_of}
use Rattle.ot_subst.specs.Walk.{AreReady}
use Rattle.ot_subst.specs.Clash.{Catches, StaysApart, MayStay, IsUnclashing, IsPutIn}
use Rattle.ot_subst.proofs.Keys.{same_key-is, variable-injective}
use Rattle.ot_subst.proofs.Variables.{image-other, put-none}
use Rattle.ot_logic.proofs.Members.{IsMember-map, IsMember-map_back}
use Rattle.ot_logic.proofs.Results.{none_from}

-- ---- tests
pub pair-found : {X : Type 0} (w : VarKey) (ps : List (VarKey × X)) → is_some (lookup (same_key w) ps) ≡ true
    → (p : VarKey × X) × IsMember p ps × (p.0 ≡ w)
pair-found w [] h = absurd (true≢false (sym h))
pair-found w (p ∷ ps) h = go (same_key w p.0) refl h (pair-found w ps)
  where
    go : (b : Bool) → same_key w p.0 ≡ b → is_some (cond b (Some p.1) (lookup (same_key w) ps)) ≡ true
        → (is_some (lookup (same_key w) ps) ≡ true → (q : VarKey × _) × IsMember q ps × (q.0 ≡ w))
        → (q : VarKey × _) × IsMember q (p ∷ ps) × (q.0 ≡ w)
    go true e h f = (p, inl refl, sym ((same_key-is w p.0).0 e))
    go false e h f = let (q, m, d) = f h in (q, inr m, d)

pub not-renamed : (r : List (VarKey × VarKey)) (v w : VarKey) → ¬ (Meets r v w) → lookup (same_key v) r ≡ None
not-renamed [] v w n = refl
not-renamed (p ∷ r) v w n = go (same_key v p.0) refl (not-renamed r v w (λ m. n (inr (inr m))))
  where
    go : (b : Bool) → same_key v p.0 ≡ b → lookup (same_key v) r ≡ None → cond b (Some p.1) (lookup (same_key v) r)
        ≡ None
    go true e f = absurd (n (inl ((same_key-is v p.0).0 e)))
    go false e f = f

pub not-new : (r : List (VarKey × VarKey)) (v w : VarKey) → ¬ (Meets r v w) → (p : VarKey × VarKey) → IsMember p r
    → p.1 ≢ w
not-new (q ∷ r) v w n p (inl e) d = n (inr (inl (sym (ap (λ (z : VarKey × VarKey). z.1) e ∙ d))))
not-new (q ∷ r) v w n p (inr m) d = not-new r v w (λ z. n (inr (inr z))) p m d
not-new [] v w n p m d = m

-- a renamed binder's variable, or what the substitution has
pub image-cases : (r : Renaming numbers) (s : TypeMap numbers) (m : TermMap numbers) (x : Variable ℕ)
    → ((p : Variable ℕ × Variable ℕ) × IsMember p r × (image numbers r s m x ≡ Free p.1))
    ⊎ (image numbers r s m x ≡ term_for_variable numbers m (inst_var numbers s x))
image-cases [] s m x = inr refl
image-cases (p ∷ r) s m x = elim (var_cases numbers tells_numbers x p.0) [
  | inl q ↦ inl (p, inl refl, rw q.0)
  | inr q ↦ elim (image-cases r s m x) [
    | inl (z, i, e) ↦ inl (z, inr i, rw q.0 e)
    | inr e ↦ inr (rw q.0 e)
  ]
]

-- ---- the answer
-- no variable is captured under the name of no renamed binder
pub apart-uncaught : (t : TermTable) (s : Substitution) (r : List (VarKey × VarKey)) (v w : VarKey) (body : ℕ)
    → AreReady t s r → w.ty < length t.types → ¬ (Meets r v w) → ¬ (Catches t s v w body) → StaysApart t s r v w body
apart-uncaught t s r v w body ready new unmet uncaught x i d f =
    elim (image-cases (renaming_of t.types r) (type_part t s) (variable_part t s) x) [
      | inl (p, j, e) ↦
          let (q, m, c) =
          IsMember-map_back (λ (z : VarKey × VarKey). (variable_of t.types z.0, variable_of t.types z.1)) p r j in
          let same : p.1 ≡ variable_of t.types w = subst (IsFree numbers (variable_of t.types w)) e f in
          not-new r v w unmet q m (variable-injective t.types ready.table.types q.1 w (ready.binders q m).to new
          (ap (λ (z : Variable ℕ × Variable ℕ). z.1) c ∙ same))
      | inr e ↦ uncaught (x, i, d, subst (IsFree numbers (variable_of t.types w)) e f)
    ]

pub apart_answer : (t : TermTable) (s : Substitution) (r : List (VarKey × VarKey)) (v w : VarKey) (body : ℕ)
    → AreReady t s r → w.ty < length t.types → ¬ (Meets r v w) → (b : Bool) → Decides b (Catches t s v w body)
    → not b ≡ true → StaysApart t s r v w body
apart_answer t s r v w body ready new unmet true h e = absurd (true≢false (sym e))
apart_answer t s r v w body ready new unmet false h e =
    apart-uncaught t s r v w body ready new unmet (λ k. true≢false (sym (h.1 k)))

module _ (t : TermTable) (s : Substitution) (r : List (VarKey × VarKey)) (v w : VarKey) (body : ℕ)
    (ready : AreReady t s r) (binder : v.ty < length t.types) (new : w.ty < length t.types)
    (instance : variable_of t.types w ≡ inst_var numbers (type_part t s) (variable_of t.types v)) where
  pub clash-put : is_some (term_for s w) ≡ true → ¬ (IsUnclashing t s v body)
  clash-put h apart =
      let (p, m, e) = pair-found w s.terms h in
      let q = IsMember-map (λ (z : Variable ℕ × Named ℕ). (z.0, nameless numbers z.1)) _ (named_part t s)
      (IsMember-map (λ (z : VarKey × ℕ). (variable_of t.types z.0, term_at t.terms z.1)) p s.terms m) in
      apart.not_put _ q (ap (variable_of t.types) e ∙ instance)

  -- a variable of the body that it captures is one with which it clashes
  clash-catches : Catches t s v w body → ¬ (IsUnclashing t s v body)
  clash-catches (x, i, d, f) apart =
      elim (term_at-cases numbers tells_numbers (variable_part t s) (inst_var numbers (type_part t s) x)) [
        | inl (p, j, e) ↦ apart.not_in p j
            (subst (λ z. IsFree numbers z p.1) instance (subst (IsFree numbers (variable_of t.types w)) e f))
        | inr e ↦
            let same : inst_var numbers (type_part t s) x ≡ variable_of t.types w =
            subst (IsFree numbers (variable_of t.types w)) e f in
            d (apart.alone x i (same ∙ instance))
      ]

  -- where no type changes, it captures only what is put in
  pub uncaught-untyped : s.types ≡ [] → ¬ (IsPutIn t s w) → ¬ (Catches t s v w body)
  uncaught-untyped none not_put (x, i, d, f) =
      elim (term_at-cases numbers tells_numbers (variable_part t s) (inst_var numbers (type_part t s) x)) [
        | inl (p, j, e) ↦ not_put (p, j, subst (IsFree numbers (variable_of t.types w)) e f)
        | inr e ↦
            let same : inst_var numbers (type_part t s) x ≡ variable_of t.types w =
            subst (IsFree numbers (variable_of t.types w)) e f in
            d (sym (unmoved x) ∙ same ∙ instance ∙ unmoved (variable_of t.types v))
      ]
    where
      unmoved : (y : Variable ℕ) → inst_var numbers (type_part t s) y ≡ y
      unmoved y = ap (λ p. inst_var numbers (images t.types p) y) none
          ∙ (λ j. record { name = y.name; ty = inst-nothing y.ty j })

  module _ (unmet : ¬ (Meets r v w)) (no_term : is_some (term_for s w) ≡ false) where
    stays-itself : image numbers (renaming_of t.types r) (type_part t s) (variable_part t s) (variable_of t.types v)
        ≡ Free (inst_var numbers (type_part t s) (variable_of t.types v))
    stays-itself =
        image-other t s ready.table.types (variable_part t s) v binder r ready.binders (not-renamed r v w unmet)
        ∙ subst (λ z. term_for_variable numbers (variable_part t s) z ≡ Free z) instance
        (put-none t ready.table.types w new s.terms ready.subst.variables (none_from (term_for s w) no_term))

    pub may_stay : ¬ (Catches t s v w body) → MayStay t s r v body
    may_stay uncaught = record {
      itself = stays-itself;
      apart = λ x i d f. apart-uncaught t s r v w body ready new unmet uncaught x i d
          (subst (λ z. IsFree numbers z (image numbers (renaming_of t.types r) (type_part t s) (variable_part t s) x))
          (sym instance) f);
    }

    pub clash_answer : {E : Type 0} (res : Result Bool E) → IfOk res (λ b. Decides b (Catches t s v w body))
        → IfOk res (λ b. MatchBool b (r ≡ [] → ¬ (IsUnclashing t s v body)) (MayStay t s r v body))
    clash_answer (Ok true) h = λ _. clash-catches (h.0 refl)
    clash_answer (Ok false) h = may_stay (λ k. true≢false (sym (h.1 k)))
    clash_answer (Err e) h = tt
