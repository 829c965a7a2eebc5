-- Constants for variables with a comma between two, pair by pair.
use Rattle.std.specs.Prelude.{◌≡◌, ℕ, ◌+◌, ◌<◌, ◌≤◌, Bool, true, false, List, [], ◌∷◌, ◌++◌, length, codes}
use Rattle.std.proofs.Common.{refl, ap, drop, get_or}
use Rattle.std.proofs.Math.ListN.{drop_of_length-le}
use Rattle.ot_logic.specs.Names.{Name}
use Rattle.ot_logic.specs.Trees.{Variable}
use Rattle.ot_term.specs.declared.term.VarKey.{VarKey}
use Rattle.ot_kernel.specs.State.{State, name_at, variable_at}
use Rattle.ot_kernel.specs.Definitions.{pairs_at}
use Rattle.ot_text.specs.Sections.{pair_text, pairs_text, further_pairs}
use Rattle.ot_text.specs.Separated.{separator}
use Rattle.ot_logic.proofs.Elements.{drop-item}

-- the pairs from the first or from a further one on
abbrev pub pairs_from : Bool → List (Name × Variable Name) → List ℕ
pairs_from true ps = pairs_text ps
pairs_from false ps = further_pairs ps

pub pairs-first : (b : Bool) (p : Name × Variable Name) (ps : List (Name × Variable Name))
    → pairs_from b (p ∷ ps) ≡ separator b (codes ",") ++ pair_text p ++ further_pairs ps
pairs-first true p ps = refl
pairs-first false p ps = refl

pub pairs-none : (b : Bool) → pairs_from b [] ≡ []
pairs-none true = refl
pairs-none false = refl

-- ---- the rest of a list

pub pairs-rest : (s : State) (ns : List ℕ) (vs : List VarKey) (i n : ℕ) (v : VarKey) → i < length ns → i < length vs
    → n ≡ get_or ns i n → v ≡ get_or vs i v
    → pairs_at s (drop i ns) (drop i vs) ≡ (name_at s n, variable_at s v) ∷ pairs_at s (drop (i + 1) ns)
    (drop (i + 1) vs)
pairs-rest s ns vs i n v h g p q =
    let a = drop-item ns i n h p in
    let b = drop-item vs i v g q in
    λ j. pairs_at s (a j) (b j)

pub pairs-end : (s : State) (ns : List ℕ) (vs : List VarKey) (i : ℕ) → length ns ≤ i
    → pairs_at s (drop i ns) (drop i vs) ≡ []
pairs-end s ns vs i h = ap (λ is. pairs_at s is (drop i vs)) (drop_of_length-le ns h)
