-- What is gathered from a term: its subterms, and the types that it mentions.
use Rattle.std.specs.Prelude.{◌≡◌, ℕ, ◌<◌, List, length, Option, Some, None, ◌⊎◌}
use Rattle.ot_logic.specs.Lists.{IsMember}
use Rattle.ot_logic.specs.Trees.{Ty, Named, NVar, NConst, NApp, NAbs}
use Rattle.ot_type.specs.TypeTable.{type_at}
use Rattle.ot_type.specs.Subtypes.{IsSubtype}
use Rattle.ot_term.specs.Term.{TermTable}
use Rattle.ot_term.specs.TermTable.{term_at}

-- u is the term, or stands inside it
abbrev pub IsSubterm : Named ℕ → Named ℕ → Type 0
IsSubterm u (NVar v) = u ≡ NVar v
IsSubterm u (NConst n t) = u ≡ NConst n t
IsSubterm u (NApp f x) = (u ≡ NApp f x) ⊎ (IsSubterm u f ⊎ IsSubterm u x)
IsSubterm u (NAbs v b) = (u ≡ NAbs v b) ⊎ IsSubterm u b

-- the type that stands at the root of a term: a variable's, a constant's or a binder's
abbrev pub own_type : Named ℕ → Option (Ty ℕ)
own_type (NVar v) = Some v.ty
own_type (NConst n t) = Some t
own_type (NApp f x) = None
own_type (NAbs v b) = Some v.ty

-- the type stands inside the own type of one of the terms
abbrev pub IsMentioned : TermTable → List ℕ → Ty ℕ → Type 0
IsMentioned t ids u = (i : ℕ) × (ty : Ty ℕ) × IsMember i ids × (own_type (term_at t.terms i) ≡ Some ty)
    × IsSubtype u ty

-- the numbers of types stand for exactly the own types of the terms
pub record AreOwnTypes (t : TermTable) (ids ks : List ℕ) : Type 0 where
  pub each : (k : ℕ) → IsMember k ks
      → (k < length t.types) × ((i : ℕ) × IsMember i ids × (own_type (term_at t.terms i) ≡ Some (type_at t.types k)))
  pub all : (i : ℕ) (ty : Ty ℕ) → IsMember i ids → own_type (term_at t.terms i) ≡ Some ty → (k : ℕ) × IsMember k ks
      × (type_at t.types k ≡ ty)
