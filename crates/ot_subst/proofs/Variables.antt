-- What variables become, by look-ups.
use Rattle.std.specs.Prelude.{◌≢◌}
use Rattle.std.proofs.Common.{◌≡◌, ℕ, ◌<◌, Bool, true, false, cond, List, [], ◌∷◌, map, length}
use Rattle.std.proofs.Common.{slice_get, Some, None, refl, sym, ap, subst, ◌∙◌, inl, inr, arith}
use Rattle.std.specs.List.{All}
use Rattle.std.specs.Map.{lookup}
use Rattle.std.proofs.lemmas.List.Elements.{All-head, All-tail}
use Rattle.std.proofs.lemmas.Option.{get_or_from_slice_get, slice_get_within, slice_get-get_or, none-some, same_Some}
use Rattle.ot_logic.specs.Lists.{IsMember}
use Rattle.ot_logic.specs.Trees.{TyVar, Variable, Tm, Free, Named, NVar, NConst}
use Rattle.ot_logic.specs.Hol.{inst, inst_var, term_at as term_for_variable}
use Rattle.ot_logic.specs.Hol.{TermMap, depth_ty, depth_limit, is_shallow}
use Rattle.ot_logic.specs.NamedTerms.{image, nameless}
use Rattle.ot_logic.specs.Naming.{numbers}
use Rattle.ot_laws.specs.Walk.{nameless_map}
use Rattle.ot_laws.proofs.Tests.{tells_numbers}
use Rattle.ot_laws.proofs.Apply.{term_at-kept}
use Rattle.ot_type.specs.TypeTable.{type_at, IsTypeTable}
use Rattle.ot_term.specs.Term.{TermTable}
use Rattle.ot_term.specs.TermTable.{term_at, variable_of, IsGrownTo}
use Rattle.ot_term.specs.declared.term.VarKey.{VarKey}
use Rattle.ot_subst.specs.Substitution.{Substitution, same_key, type_part, named_part, variable_part, IsSubstOf}
use Rattle.ot_subst.specs.Renamed.{renaming_of}
use Rattle.ot_subst.specs.Walk.{becomes, HasForm, IsRenamed, bound_of, AreReady}
use Rattle.ot_subst.proofs.Keys.{same_var-key}
use Rattle.ot_subst.proofs.Shallow.{deep-free}
use Rattle.ot_subst.proofs.Growing.{named_part-Grows, IsSubstOf-Grows}
use Rattle.ot_logic.proofs.Members.{IsMember-map_back, All-at_member}

-- a term that was made
pub made : (u : TermTable) (id : ℕ) (t : Named ℕ) (x : Tm ℕ) → slice_get u.terms id ≡ Some t → nameless numbers t ≡ x
    → HasForm u id x
made u id t x at e = record {
  within = slice_get_within u.terms id t at;
  form = ap (nameless numbers) (get_or_from_slice_get u.terms id t (NConst 0 (TyVar 0)) at) ∙ e;
}

-- ---- the binders that were renamed
module _ (t : TermTable) (s : Substitution) (types : IsTypeTable t.types) (m : TermMap numbers) (v : VarKey)
    (inside : v.ty < length t.types) where
  pub image-renamed : (r : List (VarKey × VarKey)) → ((p : VarKey × VarKey) → IsMember p r → IsRenamed t s p)
      → (w : VarKey) → lookup (same_key v) r ≡ Some w → image numbers (renaming_of t.types r) (type_part t s) m
      (variable_of t.types v) ≡ Free (variable_of t.types w)
  image-renamed [] h w e = absurd (none-some w e)
  image-renamed (p ∷ r) h w e =
      rw (same_var-key t.types types v p.0 inside (h p (inl refl)).from)
      (go (same_key v p.0) e (image-renamed r (λ q i. h q (inr i)) w))
    where
      go : (b : Bool) → cond b (Some p.1) (lookup (same_key v) r) ≡ Some w
          → (lookup (same_key v) r ≡ Some w → image numbers (renaming_of t.types r) (type_part t s) m
          (variable_of t.types v) ≡ Free (variable_of t.types w))
          → cond b (Free (variable_of t.types p.1))
          (image numbers (renaming_of t.types r) (type_part t s) m (variable_of t.types v))
          ≡ Free (variable_of t.types w)
      go true d f = ap (λ k. Free (variable_of t.types k)) (same_Some p.1 w d)
      go false d f = f d

  pub image-other : (r : List (VarKey × VarKey)) → ((p : VarKey × VarKey) → IsMember p r → IsRenamed t s p)
      → lookup (same_key v) r ≡ None → image numbers (renaming_of t.types r) (type_part t s) m (variable_of t.types v)
      ≡ term_for_variable numbers m (inst_var numbers (type_part t s) (variable_of t.types v))
  image-other [] h e = refl
  image-other (p ∷ r) h e =
      rw (same_var-key t.types types v p.0 inside (h p (inl refl)).from)
      (go (same_key v p.0) e (image-other r (λ q i. h q (inr i))))
    where
      go : (b : Bool) → cond b (Some p.1) (lookup (same_key v) r) ≡ None
          → (lookup (same_key v) r ≡ None → image numbers (renaming_of t.types r) (type_part t s) m
          (variable_of t.types v)
          ≡ term_for_variable numbers m (inst_var numbers (type_part t s) (variable_of t.types v)))
          → cond b (Free (variable_of t.types p.1))
          (image numbers (renaming_of t.types r) (type_part t s) m (variable_of t.types v))
          ≡ term_for_variable numbers m (inst_var numbers (type_part t s) (variable_of t.types v))
      go true d f = absurd (none-some p.1 (sym d))
      go false d f = f d

pub bound-lookup : (v w : VarKey) (r : List (VarKey × VarKey)) → lookup (same_key v) r ≡ Some w → w.name < bound_of r
bound-lookup v w [] e = absurd (none-some w e)
bound-lookup v w (p ∷ r) e = go (same_key v p.0) e (bound-lookup v w r)
  where
    go : (b : Bool) → cond b (Some p.1) (lookup (same_key v) r) ≡ Some w
        → (lookup (same_key v) r ≡ Some w → w.name < bound_of r) → w.name < bound_of (p ∷ r)
    go true d f = let n = ap (λ (k : VarKey). k.name) (same_Some p.1 w d) in omega (arith, n)
    go false d f = omega (arith, f d)

pub renamed-lookup : (t : TermTable) (s : Substitution) (v w : VarKey) (r : List (VarKey × VarKey))
    → ((p : VarKey × VarKey) → IsMember p r → IsRenamed t s p) → lookup (same_key v) r ≡ Some w
    → w.ty < length t.types
renamed-lookup t s v w [] h e = absurd (none-some w e)
renamed-lookup t s v w (p ∷ r) h e = go (same_key v p.0) e (renamed-lookup t s v w r (λ q i. h q (inr i)))
  where
    go : (b : Bool) → cond b (Some p.1) (lookup (same_key v) r) ≡ Some w
        → (lookup (same_key v) r ≡ Some w → w.ty < length t.types) → w.ty < length t.types
    go true d f = subst (λ (k : VarKey). k.ty < length t.types) (same_Some p.1 w d) (h p (inl refl)).to
    go false d f = f d

-- ---- the variable part
abbrev pairs : TermTable → List (VarKey × ℕ) → TermMap numbers
pairs t ps = nameless_map numbers (map (λ p. (variable_of t.types p.0, term_at t.terms p.1)) ps)

module _ (t : TermTable) (types : IsTypeTable t.types) (v : VarKey) (inside : v.ty < length t.types) where
  pub put-found : (ps : List (VarKey × ℕ)) → All (λ p. p.0.ty < length t.types) ps
      → All (λ p. p.1 < length t.terms) ps → (id : ℕ) → lookup (same_key v) ps ≡ Some id
      → HasForm t id (term_for_variable numbers (pairs t ps) (variable_of t.types v))
  put-found [] h k id e = absurd (none-some id e)
  put-found (p ∷ ps) h k id e =
      rw (same_var-key t.types types v p.0 inside (All-head (λ (p : VarKey × ℕ). p.0.ty < length t.types) p ps h))
      (go (same_key v p.0) e (put-found ps (All-tail (λ (p : VarKey × ℕ). p.0.ty < length t.types) p ps h)
      (All-tail (λ (p : VarKey × ℕ). p.1 < length t.terms) p ps k) id))
    where
      go : (b : Bool) → cond b (Some p.1) (lookup (same_key v) ps) ≡ Some id
          → (lookup (same_key v) ps ≡ Some id
          → HasForm t id (term_for_variable numbers (pairs t ps) (variable_of t.types v)))
          → HasForm t id
          (cond b (nameless numbers (term_at t.terms p.1))
          (term_for_variable numbers (pairs t ps) (variable_of t.types v)))
      go true d f = subst (λ i. HasForm t i (nameless numbers (term_at t.terms p.1))) (same_Some p.1 id d)
          (record { within = All-head (λ (p : VarKey × ℕ). p.1 < length t.terms) p ps k; form = refl })
      go false d f = f d

  pub put-none : (ps : List (VarKey × ℕ)) → All (λ p. p.0.ty < length t.types) ps → lookup (same_key v) ps ≡ None
      → term_for_variable numbers (pairs t ps) (variable_of t.types v) ≡ Free (variable_of t.types v)
  put-none [] h e = refl
  put-none (p ∷ ps) h e =
      rw (same_var-key t.types types v p.0 inside (All-head (λ (p : VarKey × ℕ). p.0.ty < length t.types) p ps h))
      (go (same_key v p.0) e (put-none ps (All-tail (λ (p : VarKey × ℕ). p.0.ty < length t.types) p ps h)))
    where
      go : (b : Bool) → cond b (Some p.1) (lookup (same_key v) ps) ≡ None
          → (lookup (same_key v) ps ≡ None → term_for_variable numbers (pairs t ps) (variable_of t.types v)
          ≡ Free (variable_of t.types v)) → cond b (nameless numbers (term_at t.terms p.1))
          (term_for_variable numbers (pairs t ps) (variable_of t.types v)) ≡ Free (variable_of t.types v)
      go true d f = absurd (none-some p.1 (sym d))
      go false d f = f d

-- ---- a variable that no renamed binder binds
module _ (t : TermTable) (s : Substitution) (r : List (VarKey × VarKey)) (v : VarKey) (ready : AreReady t s r)
    (inside : v.ty < length t.types) where
  -- a binder of it was renamed
  pub becomes-renamed : (u : TermTable) (w : VarKey) (id : ℕ) → lookup (same_key v) r ≡ Some w → slice_get u.terms id
      ≡ Some (NVar (variable_of t.types w)) → HasForm u id (becomes t s r (Free (variable_of t.types v)))
  becomes-renamed u w id e at =
      made u id (NVar (variable_of t.types w)) (becomes t s r (Free (variable_of t.types v))) at
      (sym (image-renamed t s ready.table.types (variable_part t s) v inside r ready.binders w e))

  module _ (absent : lookup (same_key v) r ≡ None) where
    -- what the variable part has for it
    other : becomes t s r (Free (variable_of t.types v)) ≡ term_for_variable numbers (variable_part t s)
        (inst_var numbers (type_part t s) (variable_of t.types v))
    other = image-other t s ready.table.types (variable_part t s) v inside r ready.binders absent

    -- no term is put in for a variable whose type is not in the table
    pub becomes-outside : depth_limit < depth_ty numbers (inst numbers (type_part t s) (type_at t.types v.ty))
        → becomes t s r (Free (variable_of t.types v)) ≡ Free (inst_var numbers (type_part t s) (variable_of t.types v))
    becomes-outside deep =
        other ∙ term_at-kept numbers tells_numbers (variable_part t s)
        (inst_var numbers (type_part t s) (variable_of t.types v)) away
      where
        away : (p : Variable ℕ × Tm ℕ) → IsMember p (variable_part t s)
            → p.0 ≢ inst_var numbers (type_part t s) (variable_of t.types v)
        away p i e =
            let (q, j, d) = IsMember-map_back (λ (z : Variable ℕ × Named ℕ). (z.0, nameless numbers z.1)) p
            (named_part t s) i in
            let (k, l, c) = IsMember-map_back (λ (z : VarKey × ℕ). (variable_of t.types z.0, term_at t.terms z.1)) q
            s.terms j in
            let within : k.0.ty < length t.types =
            All-at_member (λ (z : VarKey × ℕ). z.0.ty < length t.types) s.terms k ready.subst.variables l in
            let low = ready.table.types.shallow k.0.ty (type_at t.types k.0.ty)
            (slice_get-get_or t.types k.0.ty (TyVar 0) within) in
            let same : type_at t.types k.0.ty ≡ inst numbers (type_part t s) (type_at t.types v.ty) =
            ap (λ (z : Variable ℕ × Named ℕ). z.0.ty) c ∙ ap (λ (z : Variable ℕ × Tm ℕ). z.0.ty) d
            ∙ ap (λ (z : Variable ℕ). z.ty) e in
            let depth = ap (depth_ty numbers) same in
            omega (arith, deep, low, depth)

    pub becomes-deep : depth_limit < depth_ty numbers (inst numbers (type_part t s) (type_at t.types v.ty))
        → is_shallow numbers (becomes t s r (Free (variable_of t.types v))) ≡ false
    becomes-deep deep = ap (is_shallow numbers) (becomes-outside deep)
        ∙ deep-free (inst_var numbers (type_part t s) (variable_of t.types v)) deep

    -- u is the table after the type was instantiated, and ty the number of the instance
    module _ (u : TermTable) (ty : ℕ) (grown : IsGrownTo 0 t u)
        (instance : slice_get u.types ty ≡ Some (inst numbers (type_part t s) (type_at t.types v.ty))) where
      key : VarKey
      key = record { name = v.name; ty = ty }

      same_variable : variable_of u.types key ≡ inst_var numbers (type_part t s) (variable_of t.types v)
      unfolding key
      same_variable = λ i. record { name = v.name; ty = get_or_from_slice_get u.types ty _ (TyVar 0) instance i }

      now : becomes t s r (Free (variable_of t.types v)) ≡ term_for_variable numbers (variable_part u s)
          (variable_of u.types key)
      now = other
          ∙ (λ i. term_for_variable numbers
          (nameless_map numbers (sym (named_part-Grows t u grown.grows s ready.subst) i))
          (sym same_variable i))

      later : IsSubstOf u s
      later = IsSubstOf-Grows t u grown.grows s ready.subst

      pub becomes-found : (id : ℕ) → lookup (same_key (record { name = v.name; ty = ty })) s.terms ≡ Some id
          → HasForm u id (becomes t s r (Free (variable_of t.types v)))
      unfolding key
      becomes-found id e =
          subst (HasForm u id) (sym now)
          (put-found u grown.table.types key (slice_get_within u.types ty _ instance) s.terms
          later.variables later.terms id e)

      pub becomes-itself : lookup (same_key (record { name = v.name; ty = ty })) s.terms ≡ None
          → becomes t s r (Free (variable_of t.types v))
          ≡ Free (variable_of u.types (record { name = v.name; ty = ty }))
      unfolding key
      becomes-itself e = now
          ∙ put-none u grown.table.types key (slice_get_within u.types ty _ instance) s.terms later.variables e

      pub becomes-kept : (w : TermTable) (id : ℕ) → lookup (same_key (record { name = v.name; ty = ty })) s.terms
          ≡ None → slice_get w.terms id ≡ Some (NVar (variable_of u.types (record { name = v.name; ty = ty })))
          → HasForm w id (becomes t s r (Free (variable_of t.types v)))
      becomes-kept w id e at =
          made w id (NVar (variable_of u.types (record { name = v.name; ty = ty })))
          (becomes t s r (Free (variable_of t.types v))) at (sym (becomes-itself e))
