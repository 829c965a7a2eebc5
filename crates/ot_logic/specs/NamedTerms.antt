-- Named terms, as provers write them, over any alphabet of names: their nameless forms, free variables, types and
-- sizes, and when no binder clashes with a substitution.
use Rattle.std.specs.Prelude.{◌≡◌, ◌≢◌, ℕ, suc, Bool, false, cond, ◌&&◌, ◌||◌, List}
use Rattle.std.specs.Prelude.{[], ◌∷◌, ◌++◌, length, max, Option, Some, None, ◌⊎◌}
use Rattle.std.specs.Option.{option_map}
use Rattle.ot_logic.specs.Lists.{IsMember}
use Rattle.ot_logic.specs.Trees.{Alphabet, Ty, Variable, Tm, Free, Con, Bound}
use Rattle.ot_logic.specs.Trees.{App, Abs, Named, NVar, NConst, NApp, NAbs}
use Rattle.ot_logic.specs.Hol.{same_ty, fun_ty, TypeMap, same_var, applied, close, TermMap, term_at, inst_var, IsFree}

module _ {N : Type 0} (alphabet : Alphabet N) where
  -- ---- terms and their nameless forms

  -- the nameless form
  abbrev pub nameless : Named N → Tm N
  nameless (NVar v) = Free v
  nameless (NConst n t) = Con n t
  nameless (NApp f x) = App (nameless f) (nameless x)
  nameless (NAbs v b) = Abs v.ty (close alphabet v (nameless b))

  -- two named terms differ only in the names of their binders
  abbrev pub IsAlphaEqual : Named N → Named N → Type 0
  IsAlphaEqual a b = nameless a ≡ nameless b

  -- v is free in the term
  abbrev pub IsFreeIn : Variable N → Named N → Type 0
  IsFreeIn v (NVar w) = w ≡ v
  IsFreeIn v (NConst n t) = ⊥
  IsFreeIn v (NApp f x) = IsFreeIn v f ⊎ IsFreeIn v x
  IsFreeIn v (NAbs w b) = (w ≢ v) × IsFreeIn v b

  -- the place of v among binders, the innermost first
  abbrev pub place : List (Variable N) → Variable N → Option ℕ
  place [] v = None
  place (w ∷ e) v = cond (same_var alphabet v w) (Some 0) (option_map suc (place e v))

  -- a variable, or the place that binds it
  abbrev pub at_place : Variable N → Option ℕ → Tm N
  at_place v None = Free v
  at_place v (Some k) = Bound k

  -- the nameless form under binders
  abbrev pub nameless_in : List (Variable N) → Named N → Tm N
  nameless_in e (NVar v) = at_place v (place e v)
  nameless_in e (NConst n t) = Con n t
  nameless_in e (NApp f x) = App (nameless_in e f) (nameless_in e x)
  nameless_in e (NAbs v b) = Abs v.ty (nameless_in (v ∷ e) b)

  -- the type of a named term: variables carry theirs
  abbrev pub named_type : Named N → Option (Ty N)
  named_type (NVar v) = Some v.ty
  named_type (NConst n t) = Some t
  named_type (NApp f x) = applied alphabet (named_type f) (named_type x)
  named_type (NAbs v b) = option_map (fun_ty alphabet v.ty) (named_type b)

  -- the depth of a named term is that of its nameless form
  abbrev pub named_depth : Named N → ℕ
  named_depth (NVar v) = 1
  named_depth (NConst n t) = 1
  named_depth (NApp f x) = suc (max (named_depth f) (named_depth x))
  named_depth (NAbs v b) = suc (named_depth b)

  -- whether two named terms are one tree
  abbrev pub same_named : Named N → Named N → Bool
  same_named (NVar v) (NVar w) = same_var alphabet v w
  same_named (NConst n t) (NConst m u) = alphabet.same n m && same_ty alphabet t u
  same_named (NApp f x) (NApp g y) = same_named f g && same_named x y
  same_named (NAbs v b) (NAbs w c) = same_var alphabet v w && same_named b c
  same_named _ _ = false

  -- the parts of a named term, the term included, with repetition
  abbrev pub parts : Named N → List (Named N)
  parts (NVar v) = NVar v ∷ []
  parts (NConst n t) = NConst n t ∷ []
  parts (NApp f x) = NApp f x ∷ (parts f ++ parts x)
  parts (NAbs v b) = NAbs v b ∷ parts b

  abbrev pub has_named : Named N → List (Named N) → Bool
  has_named t [] = false
  has_named t (u ∷ us) = same_named t u || has_named t us

  abbrev pub distinct_named : List (Named N) → List (Named N)
  distinct_named [] = []
  distinct_named (t ∷ ts) = cond (has_named t ts) (distinct_named ts) (t ∷ distinct_named ts)

  -- the number of distinct trees among the parts of a named term
  abbrev pub size : Named N → ℕ
  size t = length (distinct_named (parts t))

  -- ---- substitution on named terms: the binders that were renamed so far, the innermost first

  abbrev pub Renaming : Type 0
  Renaming = List (Variable N × Variable N)

  -- the image of each variable: those that are renamed first, then the substitution
  abbrev pub image : Renaming → TypeMap alphabet → TermMap alphabet → Variable N → Tm N
  image [] s m x = term_at alphabet m (inst_var alphabet s x)
  image (p ∷ r) s m x = cond (same_var alphabet x p.0) (Free p.1) (image r s m x)

  -- the binder v of the body b doesn't clash: after the type part it is no variable of the variable part,
  -- is free in no term that is put in, and is the image of no other free variable of the body
  pub record IsApart (s : TypeMap alphabet) (m : TermMap alphabet) (v : Variable N) (b : Named N) : Type 0 where
    pub not_put : (p : Variable N × Tm N) → IsMember p m → p.0 ≢ inst_var alphabet s v
    pub not_in : (p : Variable N × Tm N) → IsMember p m → ¬ (IsFree alphabet (inst_var alphabet s v) p.1)
    pub alone : (x : Variable N) → IsFreeIn x b → inst_var alphabet s x ≡ inst_var alphabet s v → x ≡ v

  -- no binder of the term clashes with the substitution
  abbrev pub HasNoClash : TypeMap alphabet → TermMap alphabet → Named N → Type 0
  HasNoClash s m (NVar v) = Unit {0}
  HasNoClash s m (NConst n t) = Unit {0}
  HasNoClash s m (NApp f x) = HasNoClash s m f × HasNoClash s m x
  HasNoClash s m (NAbs v b) = IsApart s m v b × HasNoClash s m b
