-- The terms that hypotheses give variables.
use Rattle.std.specs.Prelude.{◌≢◌, is_some}
use Rattle.std.specs.Option.{option_map, option_and_then}
use Rattle.std.proofs.Common.{◌≡◌, ℕ, ◌<◌, Bool, true, false, cond, if◌then◌else◌, List, []}
use Rattle.std.proofs.Common.{◌∷◌, ◌++◌, map, length, Option, Some, None, refl, sym, ap, subst}
use Rattle.std.proofs.Common.{◌∙◌, ◌+◌, append_assoc, get_or, drop, drop-cons, add-one}
use Rattle.std.proofs.lemmas.List.{append-nil, map-append}
use Rattle.std.proofs.lemmas.Option.{same_Some}
use Rattle.ot_logic.specs.Trees.{Ty, Variable, Tm, Free, Con, Bound, App as TmApp, Abs as TmAbs, Named, NConst, NApp}
use Rattle.ot_logic.specs.Hol.{same_var, equation, as_equation}
use Rattle.ot_logic.specs.NamedTerms.{nameless}
use Rattle.ot_logic.specs.Naming.{numbers}
use Rattle.ot_logic.specs.Table.{IsInjective}
use Rattle.ot_laws.proofs.Tests.{tells_numbers}
use Rattle.ot_laws.proofs.Equations.{as_equation-some, as_equation-equation}
use Rattle.ot_term.specs.Equality.{named_equation, equality_ty}
use Rattle.ot_term.specs.TermTable.{variable_of}
use Rattle.ot_term.specs.declared.term.VarKey.{VarKey}
use Rattle.ot_term.proofs.Distinct.{key_eq, key-is}
use Rattle.ot_laws.specs.Conditions.{given_by, given, only, terms_given}
use Rattle.ot_define.specs.Answers.{tm_at}
use Rattle.ot_define.specs.Given.{as_variable, gives, kept_of, kept, only_kept, Keeps}
use Rattle.ot_define.proofs.Keys.{same-key}

-- ---- a hypothesis
named-equation : (t : Named ℕ) (ty : Ty ℕ) (a b : Tm ℕ) → nameless numbers t ≡ equation numbers ty a b
    → (x y : Named ℕ) × (t ≡ named_equation ty x y)
named-equation (NApp (NApp (NConst n u) x) y) ty a b e =
    let name : n ≡ numbers.equals = cc in
    let type : u ≡ equality_ty ty = cc in
    (x, y, λ i. NApp (NApp (NConst (name i) (type i)) x) y)
named-equation _ ty a b e = cc

-- a term that is no equation gives nothing
pub gives-none : (t : Named ℕ) → ((ty : Ty ℕ) (a b : Named ℕ) → t ≢ named_equation ty a b)
    → gives (as_equation numbers (nameless numbers t)) ≡ None
gives-none t h = by (as_equation numbers (nameless numbers t)) refl
  where
    by : (o : Option (Ty ℕ × Tm ℕ × Tm ℕ)) → as_equation numbers (nameless numbers t) ≡ o
        → gives (as_equation numbers (nameless numbers t)) ≡ None
    by None e = ap gives e
    by (Some p) e = let (x, y, is) = named-equation t p.0 p.1 p.2
        (as_equation-some numbers tells_numbers (nameless numbers t) p.0 p.1 p.2 e) in absurd (h p.0 x y is)

-- an equation gives its right side to the variable on its left
pub gives-sides : (t : Named ℕ) (ty : Ty ℕ) (a b : Named ℕ) → t ≡ named_equation ty a b
    → gives (as_equation numbers (nameless numbers t))
    ≡ option_map (λ v. (v, nameless numbers b)) (as_variable (nameless numbers a))
gives-sides t ty a b e =
    ap (λ u. gives (as_equation numbers (nameless numbers u))) e
    ∙ ap gives (as_equation-equation numbers tells_numbers ty (nameless numbers a) (nameless numbers b))

-- what a variable is given by what an equation gives
abbrev given_to : Variable ℕ → Option (Variable ℕ × Tm ℕ) → List (Tm ℕ)
given_to v None = []
given_to v (Some p) = cond (same_var numbers p.0 v) (p.1 ∷ []) []

given_by-gives : (v : Variable ℕ) (o : Option (Ty ℕ × Tm ℕ × Tm ℕ)) → given_by numbers v o ≡ given_to v (gives o)
given_by-gives v None = refl
given_by-gives v (Some (ty, Free w, r)) = refl
given_by-gives v (Some (ty, Con n t, r)) = refl
given_by-gives v (Some (ty, Bound k, r)) = refl
given_by-gives v (Some (ty, TmApp f x, r)) = refl
given_by-gives v (Some (ty, TmAbs t b, r)) = refl

-- ---- one more hypothesis
given-append : (g h : List (Tm ℕ)) (v : Variable ℕ) → given numbers (g ++ h) v ≡ given numbers g v
    ++ given numbers h v
given-append [] h v = refl
given-append (t ∷ g) h v = ap (λ l. given_by numbers v (as_equation numbers t) ++ l) (given-append g h v)
    ∙ sym (append_assoc (given_by numbers v (as_equation numbers t)) (given numbers g v) (given numbers h v))

given-more : (ts : List (Named ℕ)) (hyps : List ℕ) (hyp : ℕ) (v : Variable ℕ)
    → given numbers (map (tm_at ts) (hyps ++ hyp ∷ [])) v ≡ given numbers (map (tm_at ts) hyps) v
    ++ given_to v (gives (as_equation numbers (tm_at ts hyp)))
given-more ts hyps hyp v =
    ap (λ l. given numbers l v) (map-append (tm_at ts) hyps (hyp ∷ []))
    ∙ given-append (map (tm_at ts) hyps) (tm_at ts hyp ∷ []) v
    ∙ (λ j. given numbers (map (tm_at ts) hyps) v
    ++ (append-nil (given_by numbers v (as_equation numbers (tm_at ts hyp)))
    ∙ given_by-gives v (as_equation numbers (tm_at ts hyp))) j)

-- what is kept after one more term
kept_of-more : {X : Type 0} (xs : List X) (x : X) → kept_of (xs ++ x ∷ [])
    ≡ Some (if is_some (kept_of xs) then None else Some x)
kept_of-more [] x = refl
kept_of-more (y ∷ []) x = refl
kept_of-more (y ∷ z ∷ zs) x = refl

only-kept_of : {X : Type 0} (xs : List X) → option_and_then (λ o. o) (kept_of xs) ≡ only xs
only-kept_of [] = refl
only-kept_of (x ∷ []) = refl
only-kept_of (x ∷ y ∷ zs) = refl

is_some-map : {X Y : Type 0} (f : X → Y) (o : Option X) → is_some (option_map f o) ≡ is_some o
is_some-map f None = refl
is_some-map f (Some x) = refl

module _ (tys : List (Ty ℕ)) (ts : List (Named ℕ)) where
  pub keeps-start : (entries : List (VarKey × Option ℕ)) → entries ≡ [] → Keeps tys ts [] entries
  keeps-start entries e = subst (Keeps tys ts []) (sym e) (record { terms = λ v below. refl; inside = λ v i h. cc })

  module _ (hyps : List ℕ) (hyp : ℕ) (old : List (VarKey × Option ℕ)) (keeps : Keeps tys ts hyps old) where
    -- a hypothesis that gives nothing
    pub keeps-none : gives (as_equation numbers (tm_at ts hyp)) ≡ None → Keeps tys ts (hyps ++ hyp ∷ []) old
    keeps-none none = record {
      terms = λ v below. keeps.terms v below
          ∙ ap kept_of (sym (append-nil (given numbers (map (tm_at ts) hyps) (variable_of tys v)))
          ∙ ap (λ o. given numbers (map (tm_at ts) hyps) (variable_of tys v) ++ given_to (variable_of tys v) o)
          (sym none) ∙ sym (given-more ts hyps hyp (variable_of tys v)));
      inside = keeps.inside;
    }

    -- a hypothesis that gives the variable a term
    module _ (inj : IsInjective tys) (v : VarKey) (t : ℕ) (known : v.ty < length tys) (within : t < length ts)
        (some : gives (as_equation numbers (tm_at ts hyp)) ≡ Some (variable_of tys v, tm_at ts t))
        (new : List (VarKey × Option ℕ)) (w : Option ℕ)
        (is : w ≡ (if is_some (kept old v) then None else Some t))
        (at : (q : VarKey) → kept new q ≡ cond (key_eq v q) (Some w) (kept old q)) where
      more : (q : VarKey) → q.ty < length tys → given numbers (map (tm_at ts) (hyps ++ hyp ∷ [])) (variable_of tys q)
          ≡ given numbers (map (tm_at ts) hyps) (variable_of tys q) ++ cond (key_eq v q) (tm_at ts t ∷ []) []
      more q below =
          given-more ts hyps hyp (variable_of tys q)
          ∙ ap (λ l. given numbers (map (tm_at ts) hyps) (variable_of tys q) ++ l)
          (ap (given_to (variable_of tys q)) some
          ∙ ap (λ b. cond b (tm_at ts t ∷ []) []) (sym (same-key tys inj v q known below)))

      one-alone : (b : Bool) → option_map (tm_at ts) (if b then None else Some t)
          ≡ (if b then None else Some (tm_at ts t))
      one-alone true = refl
      one-alone false = refl

      here : (q : VarKey) → q.ty < length tys → v ≡ q
          → option_map (option_map (tm_at ts)) (Some w)
          ≡ kept_of (given numbers (map (tm_at ts) hyps) (variable_of tys q) ++ tm_at ts t ∷ [])
      here q below e =
          let before = given numbers (map (tm_at ts) hyps) (variable_of tys q) in
          let kind : is_some (kept old v) ≡ is_some (kept_of before) =
          ap (λ k. is_some (kept old k)) e ∙ sym (is_some-map (option_map (tm_at ts)) (kept old q))
          ∙ ap is_some (keeps.terms q below) in
          ap (λ o. Some (option_map (tm_at ts) o)) is ∙ ap Some (one-alone (is_some (kept old v)))
          ∙ ap (λ b. Some (if b then None else Some (tm_at ts t))) kind ∙ sym (kept_of-more before (tm_at ts t))

      terms-more : (q : VarKey) → q.ty < length tys → option_map (option_map (tm_at ts)) (kept new q)
          ≡ kept_of (given numbers (map (tm_at ts) (hyps ++ hyp ∷ [])) (variable_of tys q))
      terms-more q below = ap (option_map (option_map (tm_at ts))) (at q) ∙ by (key_eq v q) refl
          ∙ ap kept_of (sym (more q below))
        where
          by : (b : Bool) → key_eq v q ≡ b → option_map (option_map (tm_at ts)) (cond b (Some w) (kept old q))
              ≡ kept_of (given numbers (map (tm_at ts) hyps) (variable_of tys q) ++ cond b (tm_at ts t ∷ []) [])
          by true e = here q below ((key-is v q).0 e)
          by false e = keeps.terms q below
              ∙ ap kept_of (sym (append-nil (given numbers (map (tm_at ts) hyps) (variable_of tys q))))

      inside-more : (q : VarKey) (i : ℕ) → kept new q ≡ Some (Some i) → i < length ts
      inside-more q i h = by (key_eq v q) refl (sym (at q) ∙ h)
        where
          one : (b : Bool) → (if b then None else Some t) ≡ Some i → i < length ts
          one true e = cc
          one false e = subst (λ k. k < length ts) (same_Some t i e) within

          by : (b : Bool) → key_eq v q ≡ b → cond b (Some w) (kept old q) ≡ Some (Some i) → i < length ts
          by true e f = one (is_some (kept old v)) (sym is ∙ same_Some w (Some i) f)
          by false e f = keeps.inside q i f

      pub keeps-more : Keeps tys ts (hyps ++ hyp ∷ []) new
      keeps-more = record { terms = terms-more; inside = inside-more }

  -- the term of a variable that is given one alone
  pub only-given : (hyps : List ℕ) (entries : List (VarKey × Option ℕ)) → Keeps tys ts hyps entries → (v : VarKey)
      → v.ty < length tys → option_map (tm_at ts) (only_kept entries v)
      ≡ only (given numbers (map (tm_at ts) hyps) (variable_of tys v))
  only-given hyps entries keeps v below = by (kept entries v)
      ∙ ap (option_and_then (λ o. o)) (keeps.terms v below)
      ∙ only-kept_of (given numbers (map (tm_at ts) hyps) (variable_of tys v))
    where
      by : (o : Option (Option ℕ)) → option_map (tm_at ts) (option_and_then (λ o. o) o)
          ≡ option_and_then (λ o. o) (option_map (option_map (tm_at ts)) o)
      by None = refl
      by (Some o) = refl

  pub only-inside : (hyps : List ℕ) (entries : List (VarKey × Option ℕ)) → Keeps tys ts hyps entries → (v : VarKey)
      (t : ℕ) → only_kept entries v ≡ Some t → t < length ts
  only-inside hyps entries keeps v t h = by (kept entries v) refl h
    where
      by : (o : Option (Option ℕ)) → kept entries v ≡ o → option_and_then (λ o. o) o ≡ Some t → t < length ts
      by None e f = cc
      by (Some o) e f = keeps.inside v t (e ∙ ap Some f)

-- a variable's term comes after those before it
pub terms-next : (hs done : List (Tm ℕ)) (v : Variable ℕ) (t : Tm ℕ) (vs : List (Variable ℕ))
    → only (given numbers hs v) ≡ Some t → option_map (λ ts. done ++ ts) (terms_given numbers hs (v ∷ vs))
    ≡ option_map (λ ts. (done ++ t ∷ []) ++ ts) (terms_given numbers hs vs)
terms-next hs done v t vs e =
    ap (λ o. option_map (λ ts. done ++ ts)
    (option_and_then (λ t. option_map (λ ts. t ∷ ts) (terms_given numbers hs vs)) o)) e
    ∙ by (terms_given numbers hs vs)
  where
    by : (o : Option (List (Tm ℕ))) → option_map (λ ts. done ++ ts) (option_map (λ ts. t ∷ ts) o)
        ≡ option_map (λ ts. (done ++ t ∷ []) ++ ts) o
    by None = refl
    by (Some ts) = ap Some (sym (append_assoc done (t ∷ []) ts))

pub left-from : {X : Type 0} (xs : List X) (i : ℕ) (x : X) → i < length xs → x ≡ get_or xs i x
    → drop i xs ≡ x ∷ drop (i + 1) xs
left-from xs i x within here = rw (drop-cons xs i x, ← here, add-one) refl
