-- What the parts of the matcher answer.
use Rattle.std.specs.Prelude.{◌≡◌, Bool, true, false, List, [], Option, Some, None, is_some}
use Rattle.std.specs.List.{list_any}
use Rattle.ot_logic.specs.Names.{Name}
use Rattle.ot_logic.specs.Naming.{names}
use Rattle.ot_logic.specs.Trees.{Variable, Named}
use Rattle.ot_logic.specs.Hol.{type_in}
use Rattle.ot_logic.specs.NamedTerms.{place, nameless, nameless_in}

-- the new maps, where the answer is that there are some
abbrev pub answered : {M : Type 0} → Bool → M → Option M
answered true m = Some m
answered false m = None

-- whether one of the binders binds one of these variables
abbrev pub any_bound : List (Variable Name) → List (Variable Name) → Bool
any_bound e vs = list_any (λ v. is_some (place names e v)) vs

-- what it says of a term whether a binder around binds a free variable of it: the term has no type by itself, or the
-- binders change nothing
abbrev pub Meets : Bool → List (Variable Name) → Named Name → Type 0
Meets true e t = type_in names [] (nameless_in names e t) ≡ None
Meets false e t = nameless_in names e t ≡ nameless names t
