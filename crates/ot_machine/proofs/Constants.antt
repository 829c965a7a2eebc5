-- A list of constants, made from its end.
use Rattle.std.specs.Prelude.{◌≡◌, ℕ, List, [], ◌∷◌, ◌++◌, map, Result, Ok}
use Rattle.std.specs.Prelude.{Err, nat_le, Bool, true, false, if◌then◌else◌}
use Rattle.std.proofs.Common.{refl, sym, ap, ◌∙◌, arith, lit≤}
use Rattle.ot_logic.specs.Names.{Name}
use Rattle.ot_logic.specs.Faults.{Fault, Nesting}
use Rattle.ot_logic.specs.Hol.{depth_limit}
use Rattle.ot_machine.specs.Objects.{Object, Objects, list, constant, no_objects, more_objects, nesting, deepest}
use Rattle.ot_machine.specs.Makers.{consed}
use Rattle.ot_logic.specs.declared.command.Cmd.TheVariants as words
use Rattle.ot_trace.specs.Origins.{Named, Make, NoOrigins, make_one, make_two, constant_origin}
use Rattle.ot_machine.specs.Rows.{constants_of, constants_origin}
use Rattle.ot_machine.specs.RenamedLists.{list_onto}
use Rattle.ot_machine.proofs.Cells.{made-list}

-- constants before other objects
abbrev pub constants_onto : List Name → Objects → Objects
constants_onto [] os = os
constants_onto (n ∷ ns) os = more_objects (constant n) (constants_onto ns os)

pub constants_onto-start : (ns : List Name) → constants_onto ns no_objects ≡ constants_of ns
constants_onto-start [] = refl
constants_onto-start (n ∷ ns) = ap (more_objects (constant n)) (constants_onto-start ns)

pub constants_onto-push : (ns : List Name) (n : Name) (os : Objects) → constants_onto (ns ++ n ∷ []) os
    ≡ constants_onto ns (more_objects (constant n) os)
constants_onto-push [] n os = refl
constants_onto-push (m ∷ ns) n os = ap (more_objects (constant m)) (constants_onto-push ns n os)

-- a list that was made is its head and its tail
pub consed-made : (o : Object) (os xs : Objects) → consed o os ≡ Ok (list xs) → xs ≡ more_objects o os
consed-made o os xs e = by (nat_le (nesting (list (more_objects o os))) depth_limit) e
  where
    by : (b : Bool) → ◌≡◌ {A = Result Object (Fault Name)} (if b then Ok (list (more_objects o os)) else Err Nesting)
        (Ok (list xs)) → xs ≡ more_objects o os
    by true e = cc
    by false e = cc

-- ---- its origin
pub constants-listed : (f : ℕ → Name) (is : List ℕ)
    → list_onto (map (λ i. make_one words.Const (Named (f i))) is) (Make words.Nil NoOrigins)
    ≡ constants_origin (map f is)
constants-listed f [] = refl
constants-listed f (i ∷ is) = ap (make_two words.Cons (constant_origin (Named (f i)))) (constants-listed f is)

-- ---- such a list is never nested too deep
onto-deepest : (ns : List Name) (os : Objects) → deepest (constants_onto ns os) ≡ deepest os
onto-deepest [] os = refl
onto-deepest (n ∷ ns) os = let e = onto-deepest ns os in omega (arith, e)

constants-deepest : (ns : List Name) → deepest (constants_of ns) ≡ 0
constants-deepest [] = refl
constants-deepest (n ∷ ns) = let e = constants-deepest ns in omega (arith, e)

-- one more constant makes a list
pub longer-made : (ns ms : List Name) (n : Name) (os : Objects) → constants_onto ns os ≡ constants_of ms
    → consed (constant n) os ≡ Ok (list (more_objects (constant n) os))
longer-made ns ms n os e =
    let d : deepest os ≡ 0 = sym (onto-deepest ns os) ∙ ap deepest e ∙ constants-deepest ms in
    made-list (constant n) os 1 (omega (arith, d)) (lit≤ tt)
