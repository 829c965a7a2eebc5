-- Alpha classes of named terms: what is left of a term without the names of its variables, and its free variables in
-- the order in which they first occur. No part is renamed, so a part that is shared stays shared.
use Rattle.std.specs.Prelude.{ℕ, List, [], ◌∷◌, ◌++◌, Option, map, not}
use Rattle.std.specs.List.{filter}
use Rattle.std.specs.Option.{is_none}
use Rattle.ot_logic.specs.Trees.{Alphabet, Ty, Variable, Named, NVar, NConst, NApp, NAbs}
use Rattle.ot_logic.specs.Hol.{same_var}
use Rattle.ot_logic.specs.NamedTerms.{place}

-- a term with numbered holes in the places of its free variables, in the order in which these first occur
pub data Shape (N : Type 0) : Type 0 where
  -- one hole
  Hole : Shape N
  Constant : N → Ty N → Shape N
  -- a function, an argument, and for each hole of the argument the hole of the function that is the same variable
  Apply : Shape N → Shape N → List (Option ℕ) → Shape N
  -- the type of a binder, the hole of the body that it binds, and the body
  Bind : Ty N → Option ℕ → Shape N → Shape N

-- a shape, and the variable of each hole
pub record Class (N : Type 0) : Type 0 where
  pub shape : Shape N
  pub frees : List (Variable N)

module _ {N : Type 0} (alphabet : Alphabet N) where
  -- the variables of a function, then those that an argument adds
  abbrev pub joined : List (Variable N) → List (Variable N) → List (Variable N)
  joined fs xs = fs ++ filter (λ v. is_none (place alphabet fs v)) xs

  -- the list without a variable
  abbrev pub without : Variable N → List (Variable N) → List (Variable N)
  without v vs = filter (λ w. not (same_var alphabet v w)) vs

  -- the class of a variable
  abbrev pub var_class : Variable N → Class N
  var_class v = record { shape = Hole; frees = v ∷ [] }

  -- the class of a constant
  abbrev pub const_class : N → Ty N → Class N
  const_class n t = record { shape = Constant n t; frees = [] }

  -- the class of an application, from those of its parts
  abbrev pub app_class : Class N → Class N → Class N
  app_class f x = record {
    shape = Apply f.shape x.shape (map (place alphabet f.frees) x.frees);
    frees = joined f.frees x.frees;
  }

  -- the class of an abstraction, from that of its body
  abbrev pub abs_class : Variable N → Class N → Class N
  abs_class v b = record { shape = Bind v.ty (place alphabet b.frees v) b.shape; frees = without v b.frees }

  -- the class of a term
  abbrev pub class_of : Named N → Class N
  class_of (NVar v) = var_class v
  class_of (NConst n t) = const_class n t
  class_of (NApp f x) = app_class (class_of f) (class_of x)
  class_of (NAbs v b) = abs_class v (class_of b)
