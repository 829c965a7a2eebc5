-- The theorems of a definition that the kernel accepts.
use Rattle.std.specs.Prelude.{◌≡◌, ◌<◌, ◌+◌, ℕ, suc, List, [], ◌∷◌, ◌++◌, length, slice_index_or, Result, Ok, Err}
use Rattle.std.proofs.Common.{refl, sym, ap, ◌∙◌, arith, length-append}
use Rattle.std.proofs.lemmas.List.{get_or_at, get_or-append-add, length_push}
use Rattle.ot_logic.specs.Names.{Name}
use Rattle.ot_logic.specs.Trees.{Tm, Variable, Sequent, Free, Con, Bound, App}
use Rattle.ot_logic.specs.Trees.{Abs, Definition, ConDef, ListDef, TyDef}
use Rattle.ot_logic.specs.Hol.{theorems, theorems_at}
use Rattle.ot_logic.specs.Naming.{names}
use Rattle.ot_logic.specs.Faults as faults
use Rattle.ot_logic.specs.Answers.{◌>>=◌, some_or}
use Rattle.ot_laws.specs.Conditions.{function_of}
use Rattle.ot_kernel.specs.Defining.{zipped, const_definition, list_definition, type_definition}
use Rattle.ot_kernel.specs.State as kernel

-- ---- the theorem of a constant

pub twice-ok : {Y E : Type 0} (r s : Result (Unit {0}) E) (x d : Y) → (r >>= λ _. s >>= λ _. Ok x) ≡ Ok d → x ≡ d
twice-ok (Ok u) (Ok v) x d e = cc
twice-ok (Ok u) (Err f) x d e = cc
twice-ok (Err f) s x d e = cc

once-ok : {Y E : Type 0} (r : Result (Unit {0}) E) (x d : Y) → (r >>= λ _. Ok x) ≡ Ok d → x ≡ d
once-ok (Ok u) x d e = cc
once-ok (Err f) x d e = cc

pub first-ok : {Y E : Type 0} (r : Result (Unit {0}) E) (rest : Unit {0} → Result Y E) (d : Y) → (r >>= rest) ≡ Ok d
    → r ≡ Ok tt
first-ok (Ok u) rest d e = refl
first-ok (Err f) rest d e = cc

-- one theorem more, at the end
single : (k l : kernel.State) (qs : List (Sequent Name)) (q : Sequent Name) (id : ℕ) → qs ≡ q ∷ [] → l.theorems
    ≡ k.theorems ++ qs → id ≡ length k.theorems → (qs ≡ kernel.theorem_at l id ∷ []) × (id < length l.theorems)
single k l qs q id e there at =
    let grown : l.theorems ≡ k.theorems ++ q ∷ [] = there ∙ ap (λ z. k.theorems ++ z) e in
    let last : Sequent Name = record { hyps = []; concl = Bound 0 } in
    let top : kernel.theorem_at l id ≡ q = ap (λ ts. slice_index_or ts id last) grown
    ∙ get_or_at k.theorems q [] last id (sym at) in
    let longer = ap length grown ∙ length_push k.theorems q in
    (e ∙ ap (λ z. z ∷ []) (sym top), omega (arith, longer, at))

-- the kernel's theorem of a constant is the stated one
pub const-theorem : (k l : kernel.State) (n : Name) (t : Tm Name) (d : Definition Name) (id : ℕ)
    → const_definition names k.definitions n t ≡ Ok d → l.theorems ≡ k.theorems ++ theorems names d
    → id ≡ length k.theorems → (theorems names d ≡ kernel.theorem_at l id ∷ []) × (id < length l.theorems)
const-theorem k l n t d id given there at =
    let is : ConDef n t ≡ d = twice-ok _ _ _ _ given in
    single k l (theorems names d) _ id (ap (theorems names) (sym is)) there at

-- the kernel's theorem of a list of constants is the stated one
pub list-theorem : (k l : kernel.State) (ns : List Name) (vs : List (Variable Name)) (p : Sequent Name)
    (d : Definition Name) (id : ℕ) → list_definition names k.definitions ns vs p ≡ Ok d → l.theorems ≡ k.theorems
    ++ theorems names d → id ≡ length k.theorems → (theorems names d ≡ kernel.theorem_at l id ∷ [])
    × (id < length l.theorems)
list-theorem k l ns vs p d id given there at =
    let is : ListDef (zipped names ns vs) p ≡ d = once-ok _ _ _ given in
    single k l (theorems names d) _ id (ap (theorems names) (sym is)) there at

-- ---- the theorems of a type

-- two theorems more, at the end
pub double : (k l : kernel.State) (qs : List (Sequent Name)) (q r : Sequent Name) (i j : ℕ) → qs ≡ q ∷ r ∷ []
    → l.theorems ≡ k.theorems ++ qs → i ≡ length k.theorems → j ≡ suc (length k.theorems)
    → (qs ≡ kernel.theorem_at l i ∷ kernel.theorem_at l j ∷ []) × (i < length l.theorems) × (j < length l.theorems)
double k l qs q r i j e there at next =
    let last : Sequent Name = record { hyps = []; concl = Bound 0 } in
    let grown : l.theorems ≡ k.theorems ++ q ∷ r ∷ [] = there ∙ ap (λ z. k.theorems ++ z) e in
    let place : i ≡ length k.theorems + 0 = omega (arith, at) in
    let place_next : j ≡ length k.theorems + 1 = omega (arith, next) in
    let first : kernel.theorem_at l i ≡ q = (λ z. slice_index_or (grown z) (place z) last)
    ∙ get_or-append-add k.theorems (q ∷ r ∷ []) 0 last in
    let second : kernel.theorem_at l j ≡ r = (λ z. slice_index_or (grown z) (place_next z) last)
    ∙ get_or-append-add k.theorems (q ∷ r ∷ []) 1 last in
    let longer = ap length grown ∙ length-append k.theorems (q ∷ r ∷ []) in
    (e ∙ (λ z. sym first z ∷ sym second z ∷ []), omega (arith, longer, at), omega (arith, longer, next))

-- a type's premise is an application, so there are two theorems
record HasTwo (qs : List (Sequent Name)) : Type 0 where
  first : Sequent Name
  second : Sequent Name
  are : qs ≡ first ∷ second ∷ []

two-theorems : (n abs rep : Name) (vs : List Name) (c : Tm Name) (before : Result (Unit {0}) (faults.Fault Name))
    (after : Tm Name → Result (Unit {0}) (faults.Fault Name))
    → (before >>= λ _. some_or faults.NotApplication (function_of c) >>= after) ≡ Ok tt
    → HasTwo (theorems_at names n abs rep vs c)
two-theorems n abs rep vs (App p t) before after e = record { first = _; second = _; are = refl }
two-theorems n abs rep vs (Free v) (Ok u) after e = cc
two-theorems n abs rep vs (Free v) (Err f) after e = cc
two-theorems n abs rep vs (Con m t) (Ok u) after e = cc
two-theorems n abs rep vs (Con m t) (Err f) after e = cc
two-theorems n abs rep vs (Bound i) (Ok u) after e = cc
two-theorems n abs rep vs (Bound i) (Err f) after e = cc
two-theorems n abs rep vs (Abs t b) (Ok u) after e = cc
two-theorems n abs rep vs (Abs t b) (Err f) after e = cc

-- the kernel's theorems of a type are the stated ones
pub type-theorems : (k l : kernel.State) (n abs rep : Name) (vs : List Name) (p : Sequent Name) (d : Definition Name)
    (i j : ℕ) → type_definition names k.definitions n abs rep vs p ≡ Ok d → l.theorems ≡ k.theorems
    ++ theorems names d → i ≡ length k.theorems → j ≡ suc (length k.theorems)
    → (theorems names d ≡ kernel.theorem_at l i ∷ kernel.theorem_at l j ∷ []) × (i < length l.theorems)
    × (j < length l.theorems)
type-theorems k l n abs rep vs p d i j given there at next =
    let is : TyDef n abs rep vs p ≡ d = twice-ok _ _ _ _ given in
    let two = two-theorems n abs rep vs p.concl _ _ (first-ok _ _ _ given) in
    double k l (theorems names d) two.first two.second i j (ap (theorems names) (sym is) ∙ two.are) there at next
