-- What the makers and the definition words read of exactly their operands.
use Rattle.std.proofs.Common.{◌≡◌, ◌==◌, Bool, true, false, List, [], ◌∷◌, length, map, Result, Ok, Err, arith}
use Rattle.std.proofs.lemmas.Bool.Decides.{nat_tests}
use Rattle.ot_logic.specs.Names.{Name}
use Rattle.ot_logic.specs.Naming.{names}
use Rattle.ot_logic.specs.Trees.{Definition}
use Rattle.ot_logic.specs.Faults.{Fault, StackEmpty}
use Rattle.ot_logic.specs.Answers.{◌>>=◌, unless}
use Rattle.ot_logic.specs.declared.command.Cmd.{Cmd}
use Rattle.ot_logic.specs.declared.command.Cmd.TheVariants as words
use Rattle.ot_machine.specs.Objects.{Object}
use Rattle.ot_machine.specs.Places.{as_name, as_list, as_term, as_theorem, as_each}
use Rattle.ot_kernel.specs.Defining.{Defining, const_definition, list_definition, type_definition}
use Rattle.ot_machine.specs.DefinitionLists.{pairs_of}
use Rattle.ot_machine.specs.Makers.{Read, Maker, of_none, of_top, of_two, no_maker, made_by}
use Rattle.ot_machine.specs.Values.{applied, value_at, defines, const_defined, list_defined, type_defined}

-- what a maker makes of these objects, from the bottom of the stack up
abbrev pub made_of : Maker → List Object → Read
made_of (of_none o) [] = Ok o
made_of (of_top f) (x ∷ []) = f (Ok x)
made_of (of_two f) (y ∷ x ∷ []) = f (Ok x) (Ok y)
made_of _ _ = Err StackEmpty

abbrev pub const_given : List (Definition Name) → List Object → Defining names
const_given ds (n ∷ t ∷ []) = do
  p ← as_term t
  m ← as_name n
  const_definition names ds m p
const_given ds _ = Err StackEmpty

abbrev pub list_given : List (Definition Name) → List Object → Defining names
list_given ds (l ∷ th ∷ []) = do
  q ← as_theorem th
  os ← as_list l
  pairs ← pairs_of os
  list_definition names ds (map (λ p. p.0) pairs) (map (λ p. p.1) pairs) q
list_given ds _ = Err StackEmpty

abbrev pub type_given : List (Definition Name) → List Object → Defining names
type_given ds (n ∷ abs ∷ rep ∷ vars ∷ th ∷ []) = do
  q ← as_theorem th
  vs ← as_list vars >>= as_each as_name
  r ← as_name rep
  a ← as_name abs
  m ← as_name n
  type_definition names ds m a r vs q
type_given ds _ = Err StackEmpty

abbrev pub given_by : Cmd → List (Definition Name) → List Object → Defining names
given_by words.DefineConst ds vs = const_given ds vs
given_by words.DefineConstList ds vs = list_given ds vs
given_by words.DefineTypeOp ds vs = type_given ds vs
given_by _ ds vs = Err StackEmpty

-- a list of another length gives nothing
refused : {A : Type 0} (b : Bool) (next : Result A (Fault Name)) (x : A) → b ≡ false
    → (unless StackEmpty b >>= λ _. next) ≡ Ok x → ⊥
refused false next x e p = cc
refused true next x e p = cc

pub made-of : (m : Maker) (vs : List Object) (v : Object) → applied m vs ≡ Ok v → made_of m vs ≡ Ok v
made-of (of_none o) [] v p = p
made-of (of_none o) (x ∷ vs) v p = absurd (refused (length (x ∷ vs) == 0) (Ok o) v (grind (arith, nat_tests)) p)
made-of (of_top f) [] v p = absurd (cc)
made-of (of_top f) (x ∷ []) v p = p
made-of (of_top f) (x ∷ y ∷ vs) v p =
    absurd (refused (length (x ∷ y ∷ vs) == 1) (f (value_at 0 (x ∷ y ∷ vs))) v (grind (arith, nat_tests)) p)
made-of (of_two f) [] v p = absurd (cc)
made-of (of_two f) (x ∷ []) v p = absurd (cc)
made-of (of_two f) (x ∷ y ∷ []) v p = p
made-of (of_two f) (x ∷ y ∷ z ∷ vs) v p =
    absurd (refused (length (x ∷ y ∷ z ∷ vs) == 2) (f (value_at 0 (x ∷ y ∷ z ∷ vs)) (value_at 1 (x ∷ y ∷ z ∷ vs))) v
    (grind (arith, nat_tests)) p)
made-of no_maker vs v p = absurd (none (length vs == 0) p)
  where
    none : (b : Bool) → (unless StackEmpty b >>= λ _. made_by no_maker (λ n. value_at n vs)) ≡ Ok v → ⊥
    none true e = cc
    none false e = cc

const-of : (ds : List (Definition Name)) (vs : List Object) (x : Definition Name) → defines words.DefineConst ds vs
    ≡ Ok x → const_given ds vs ≡ Ok x
const-of ds [] x p = absurd (cc)
const-of ds (a ∷ []) x p = absurd (cc)
const-of ds (a ∷ b ∷ []) x p = p
const-of ds (a ∷ b ∷ c ∷ vs) x p =
    absurd (refused (length (a ∷ b ∷ c ∷ vs) == 2) (const_defined ds (λ n. value_at n (a ∷ b ∷ c ∷ vs))) x
    (grind (arith, nat_tests)) p)

list-of : (ds : List (Definition Name)) (vs : List Object) (x : Definition Name) → defines words.DefineConstList ds vs
    ≡ Ok x → list_given ds vs ≡ Ok x
list-of ds [] x p = absurd (cc)
list-of ds (a ∷ []) x p = absurd (cc)
list-of ds (a ∷ b ∷ []) x p = p
list-of ds (a ∷ b ∷ c ∷ vs) x p =
    absurd (refused (length (a ∷ b ∷ c ∷ vs) == 2) (list_defined ds (λ n. value_at n (a ∷ b ∷ c ∷ vs))) x
    (grind (arith, nat_tests)) p)

type-of : (ds : List (Definition Name)) (vs : List Object) (x : Definition Name) → defines words.DefineTypeOp ds vs
    ≡ Ok x → type_given ds vs ≡ Ok x
type-of ds [] x p = absurd (cc)
type-of ds (a ∷ []) x p = absurd (cc)
type-of ds (a ∷ b ∷ []) x p = absurd (cc)
type-of ds (a ∷ b ∷ c ∷ []) x p = absurd (cc)
type-of ds (a ∷ b ∷ c ∷ d ∷ []) x p = absurd (cc)
type-of ds (a ∷ b ∷ c ∷ d ∷ e ∷ []) x p = p
type-of ds (a ∷ b ∷ c ∷ d ∷ e ∷ f ∷ vs) x p =
    absurd (refused (length (a ∷ b ∷ c ∷ d ∷ e ∷ f ∷ vs) == 5)
    (type_defined ds (λ n. value_at n (a ∷ b ∷ c ∷ d ∷ e ∷ f ∷ vs))) x (grind (arith, nat_tests)) p)

abbrev nothing : Bool → Defining names
nothing b = unless StackEmpty b >>= λ _. Err StackEmpty

none : (b : Bool) (x : Definition Name) → nothing b ≡ Ok x → ⊥
none true x e = cc
none false x e = cc

pub given-of : (w : Cmd) (ds : List (Definition Name)) (vs : List Object) (x : Definition Name)
    → defines w ds vs ≡ Ok x → given_by w ds vs ≡ Ok x
given-of words.DefineConst ds vs x p = const-of ds vs x p
given-of words.DefineConstList ds vs x p = list-of ds vs x p
given-of words.DefineTypeOp ds vs x p = type-of ds vs x p
given-of _ ds vs x p = absurd (none (length vs == 2) x p)
