-- Substitution on named terms: a walk that renames each binder by some rule.
use Rattle.std.specs.Prelude.{◌≡◌, ◌≢◌, List, [], ◌∷◌, cond, map}
use Rattle.ot_logic.specs.Trees.{Alphabet, Variable, Named, NVar, NConst, NApp, NAbs}
use Rattle.ot_logic.specs.Hol.{same_var, TypeMap, TermMap, inst, inst_var, IsFree}
use Rattle.ot_logic.specs.NamedTerms.{nameless, IsFreeIn, Renaming, image}

module _ {N : Type 0} (alphabet : Alphabet N) where
  -- the variable part of a substitution, of named terms
  abbrev pub NamedMap : Type 0
  NamedMap = List (Variable N × Named N)

  abbrev pub nameless_map : NamedMap → TermMap alphabet
  nameless_map = map (λ p. (p.0, nameless alphabet p.1))

  -- what a variable stands for: itself, where the map has no term for it
  abbrev pub named_at : NamedMap → Variable N → Named N
  named_at [] v = NVar v
  named_at (p ∷ m) v = cond (same_var alphabet v p.0) p.1 (named_at m v)

  -- the image of each variable under the binders that were renamed
  abbrev pub named_image : Renaming alphabet → TypeMap alphabet → NamedMap → Variable N → Named N
  named_image [] s m x = named_at m (inst_var alphabet s x)
  named_image (p ∷ r) s m x = cond (same_var alphabet x p.0) (NVar p.1) (named_image r s m x)

  -- a rule for the new binder, by the binders that were renamed so far, the binder and its body
  abbrev pub BinderRule : Type 0
  BinderRule = Renaming alphabet → Variable N → Named N → Variable N

  -- the substitution with these new binders
  abbrev pub apply_by : BinderRule → TypeMap alphabet → NamedMap → Renaming alphabet → Named N → Named N
  apply_by pick s m r (NVar v) = named_image r s m v
  apply_by pick s m r (NConst n t) = NConst n (inst alphabet s t)
  apply_by pick s m r (NApp f x) = NApp (apply_by pick s m r f) (apply_by pick s m r x)
  apply_by pick s m r (NAbs v b) = NAbs (pick r v b) (apply_by pick s m ((v, pick r v b) ∷ r) b)

  -- a new binder has the type that it should have, and captures no image of another free variable of the body
  pub record Picks (s : TypeMap alphabet) (m : TermMap alphabet) (pick : BinderRule) : Type 0 where
    pub typed : (r : Renaming alphabet) (v : Variable N) (b : Named N) → (pick r v b).ty ≡ inst alphabet s v.ty
    pub apart : (r : Renaming alphabet) (v : Variable N) (b : Named N) (x : Variable N) → IsFreeIn alphabet x b
        → x ≢ v → ¬ (IsFree alphabet (pick r v b) (image alphabet r s m x))
