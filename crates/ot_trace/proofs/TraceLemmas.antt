-- Lemmas on the table of steps.
use Rattle.std.proofs.Common.{◌≡◌, ℕ, ◌<◌, ◌≤◌, Bool, true, false, ◌&&◌, List, [], ◌∷◌, length, map}
use Rattle.std.proofs.Common.{nat_eq, eq-eqb, eqb-true, pos, refl, sym, ap, subst, ◌∙◌, true≢false, arith}
use Rattle.std.specs.List.{All}
use Rattle.std.specs.Cmp.Lexicographic.{pointwise}
use Rattle.std.proofs.lemmas.Bool.Decides.{Decides-int_eq}
use Rattle.std.proofs.lemmas.List.Elements.{All-head, All-tail}
use Rattle.std.proofs.lemmas.Slice.Eq.{bytes_eq-Decides}
use Rattle.ot_logic.specs.Table.{Extends, IsInjective}
use Rattle.ot_trace.specs.Origins.{Origin, Number, Named, Make, Define, Outcome, symbols}
use Rattle.ot_logic.specs.Interned.{NodeLaws}
use Rattle.ot_logic.proofs.TableLemmas.{get_or-Extends, get_or-IsInjective}
use Rattle.ot_trace.specs.Trace.{origin_at, origins_at, origin_of, IsBelow, HasSymbols}
use Rattle.ot_trace.specs.declared.step.Step.{Step}
use Rattle.ot_trace.specs.declared.step.Step.TheVariants as steps
use Rattle.ot_trace.specs.contracts.step.StepPartialEq.TheImpl as derived
use Rattle.ot_logic.specs.declared.command.Cmd.{Cmd}
use Rattle.ot_logic.specs.declared.command.Cmd.TheVariants as words
use Rattle.ot_logic.specs.contracts.command.CmdPartialEq.TheImpl as words_test

-- the derived test
abbrev pub step_eq : Step → Step → Bool
step_eq = derived.ghosts.eq

-- ---- the origins of steps in a table that grows
pub origin_at-Extends : (ts us : List (Origin ℕ)) → Extends ts us → (i : ℕ) → i < length ts
    → origin_at us i ≡ origin_at ts i
origin_at-Extends ts us e i h = get_or-Extends ts us e i (Number (pos 0)) h

pub origins_at-Extends : (ts us : List (Origin ℕ)) → Extends ts us → (is : List ℕ) → All (λ i. i < length ts) is
    → origins_at us is ≡ origins_at ts is
origins_at-Extends ts us e [] h = refl
origins_at-Extends ts us e (i ∷ is) h =
    let head = origin_at-Extends ts us e i (All-head (λ i. i < length ts) i is h) in
    let tail = origins_at-Extends ts us e is (All-tail (λ i. i < length ts) i is h) in
    cc

pub map-Extends : (ts us : List (Origin ℕ)) → Extends ts us → (is : List ℕ) → All (λ i. i < length ts) is
    → map (origin_at us) is ≡ map (origin_at ts) is
map-Extends ts us e [] h = refl
map-Extends ts us e (i ∷ is) h =
    let head = origin_at-Extends ts us e i (All-head (λ i. i < length ts) i is h) in
    let tail = map-Extends ts us e is (All-tail (λ i. i < length ts) i is h) in
    cc

pub origin_of-Extends : (ts us : List (Origin ℕ)) → Extends ts us → (s : Step) → IsBelow (length ts) s
    → origin_of us s ≡ origin_of ts s
origin_of-Extends ts us e (steps.Number k) h = refl
origin_of-Extends ts us e (steps.Name n) h = refl
origin_of-Extends ts us e (steps.Make w ops) h = ap (Make w) (origins_at-Extends ts us e ops h)
origin_of-Extends ts us e (steps.Define w ops syms) h = ap (Define w) (origins_at-Extends ts us e ops.value.items h.0)
origin_of-Extends ts us e (steps.Outcome j d) h = ap (Outcome j) (origin_at-Extends ts us e d h)

pub HasSymbols-Extends : (ts us : List (Origin ℕ)) → Extends ts us → (s : Step) → IsBelow (length ts) s
    → HasSymbols ts s → HasSymbols us s
HasSymbols-Extends ts us e (steps.Number k) h p = tt
HasSymbols-Extends ts us e (steps.Name n) h p = tt
HasSymbols-Extends ts us e (steps.Make w ops) h p = tt
HasSymbols-Extends ts us e (steps.Define w ops syms) h p =
    map-Extends ts us e syms.value.items h.1 ∙ p
    ∙ ap (λ os. symbols (Define w os)) (sym (origins_at-Extends ts us e ops.value.items h.0))
HasSymbols-Extends ts us e (steps.Outcome j d) h p = tt

pub IsBelow-mono : (j k : ℕ) → j ≤ k → (s : Step) → IsBelow j s → IsBelow k s
IsBelow-mono j k le (steps.Number n) h = tt
IsBelow-mono j k le (steps.Name n) h = tt
IsBelow-mono j k le (steps.Make w ops) h = λ i d within. let below = h i d within in omega arith
IsBelow-mono j k le (steps.Define w ops syms) h = (
  (λ i d within. let below = h.0 i d within in omega arith),
  (λ i d within. let below = h.1 i d within in omega arith),
)
IsBelow-mono j k le (steps.Outcome i d) h = omega arith

-- ---- numbers of one list of origins
pub origin_at-injective : (ts : List (Origin ℕ)) → IsInjective ts → (i j : ℕ) → i < length ts → j < length ts
    → origin_at ts i ≡ origin_at ts j → i ≡ j
origin_at-injective ts one i j g h p = get_or-IsInjective ts one i j (Number (pos 0)) g h p

origins_at-injective : (ts : List (Origin ℕ)) → IsInjective ts → (is js : List ℕ) → All (λ i. i < length ts) is
    → All (λ i. i < length ts) js → origins_at ts is ≡ origins_at ts js → is ≡ js
origins_at-injective ts one [] [] g h p = refl
origins_at-injective ts one [] (j ∷ js) g h p = cc
origins_at-injective ts one (i ∷ is) [] g h p = cc
origins_at-injective ts one (i ∷ is) (j ∷ js) g h p =
    let heads : origin_at ts i ≡ origin_at ts j = cc in
    let tails : origins_at ts is ≡ origins_at ts js = cc in
    let head : i ≡ j = origin_at-injective ts one i j (All-head (λ i. i < length ts) i is g)
    (All-head (λ i. i < length ts) j js h) heads in
    let tail = origins_at-injective ts one is js (All-tail (λ i. i < length ts) i is g)
    (All-tail (λ i. i < length ts) j js h) tails in
    cc

map-injective : (ts : List (Origin ℕ)) → IsInjective ts → (is js : List ℕ) → All (λ i. i < length ts) is
    → All (λ i. i < length ts) js → map (origin_at ts) is ≡ map (origin_at ts) js → is ≡ js
map-injective ts one [] [] g h p = refl
map-injective ts one [] (j ∷ js) g h p = cc
map-injective ts one (i ∷ is) [] g h p = cc
map-injective ts one (i ∷ is) (j ∷ js) g h p =
    let heads : origin_at ts i ≡ origin_at ts j = cc in
    let tails : map (origin_at ts) is ≡ map (origin_at ts) js = cc in
    let head : i ≡ j = origin_at-injective ts one i j (All-head (λ i. i < length ts) i is g)
    (All-head (λ i. i < length ts) j js h) heads in
    let tail = map-injective ts one is js (All-tail (λ i. i < length ts) i is g)
    (All-tail (λ i. i < length ts) j js h) tails in
    cc

-- ---- the test of words
word-self : (w : Cmd) → words_test.ghosts.eq w w ≡ true
word-self words.Version = refl
word-self w = refl

word-from : (v w : Cmd) → words_test.ghosts.eq v w ≡ true → v ≡ w
word-from words.Version words.Version h = refl
word-from words.Nil words.Nil h = refl
word-from words.Cons words.Cons h = refl
word-from words.HdTl words.HdTl h = refl
word-from words.Def words.Def h = refl
word-from words.Ref words.Ref h = refl
word-from words.Remove words.Remove h = refl
word-from words.Pop words.Pop h = refl
word-from words.Pragma words.Pragma h = refl
word-from words.TypeOp words.TypeOp h = refl
word-from words.OpType words.OpType h = refl
word-from words.VarType words.VarType h = refl
word-from words.Var words.Var h = refl
word-from words.VarTerm words.VarTerm h = refl
word-from words.Const words.Const h = refl
word-from words.ConstTerm words.ConstTerm h = refl
word-from words.AppTerm words.AppTerm h = refl
word-from words.AbsTerm words.AbsTerm h = refl
word-from words.Refl words.Refl h = refl
word-from words.Assume words.Assume h = refl
word-from words.EqMp words.EqMp h = refl
word-from words.AbsThm words.AbsThm h = refl
word-from words.AppThm words.AppThm h = refl
word-from words.DeductAntisym words.DeductAntisym h = refl
word-from words.BetaConv words.BetaConv h = refl
word-from words.Subst words.Subst h = refl
word-from words.Sym words.Sym h = refl
word-from words.Trans words.Trans h = refl
word-from words.ProveHyp words.ProveHyp h = refl
word-from words.Axiom words.Axiom h = refl
word-from words.Thm words.Thm h = refl
word-from words.DefineConst words.DefineConst h = refl
word-from words.DefineConstList words.DefineConstList h = refl
word-from words.DefineTypeOp words.DefineTypeOp h = refl
word-from v w h = absurd (true≢false (sym h))

both : (a b : Bool) → a ≡ true → b ≡ true → (a && b) ≡ true
both true true p q = refl
both true false p q = q
both false b p q = p

parts : (a b : Bool) → (a && b) ≡ true → (a ≡ true) × (b ≡ true)
parts true true p = (refl, refl)
parts true false p = absurd (true≢false (sym p))
parts false b p = absurd (true≢false (sym p))

-- steps with one origin pass the test, where definitions have their symbols
pub same_step : (ts : List (Origin ℕ)) → IsInjective ts → (s t : Step) → IsBelow (length ts) s → IsBelow (length ts) t
    → HasSymbols ts s → HasSymbols ts t → origin_of ts s ≡ origin_of ts t → step_eq s t ≡ true
same_step ts one (steps.Number j) (steps.Number k) g h a b p = let e : j ≡ k = cc in (Decides-int_eq j k).1 e
same_step ts one (steps.Name m) (steps.Name n) g h a b p = let e : m ≡ n = cc in eq-eqb m n e
same_step ts one (steps.Make v xs) (steps.Make w ys) g h a b p =
    let word : v ≡ w = cc in
    let ops : origins_at ts xs ≡ origins_at ts ys = cc in
    both (words_test.ghosts.eq v w) (pointwise nat_eq xs ys)
    (subst (λ w. words_test.ghosts.eq v w ≡ true) word (word-self v))
    ((bytes_eq-Decides xs ys).1 (origins_at-injective ts one xs ys g h ops))
same_step ts one (steps.Define v xs ss) (steps.Define w ys rs) g h a b p =
    let word : v ≡ w = cc in
    let ops : origins_at ts xs.value.items ≡ origins_at ts ys.value.items = cc in
    let same : symbols (Define v (origins_at ts xs.value.items)) ≡ symbols (Define w (origins_at ts ys.value.items)) =
    ap symbols p in
    let syms : ss.value.items ≡ rs.value.items = map-injective ts one ss.value.items rs.value.items g.1 h.1 (a ∙ same ∙ sym b) in
    both (words_test.ghosts.eq v w) (pointwise nat_eq xs.value.items ys.value.items && pointwise nat_eq ss.value.items rs.value.items)
    (subst (λ w. words_test.ghosts.eq v w ≡ true) word (word-self v))
    (both (pointwise nat_eq xs.value.items ys.value.items) (pointwise nat_eq ss.value.items rs.value.items)
    ((bytes_eq-Decides xs.value.items ys.value.items).1 (origins_at-injective ts one xs.value.items ys.value.items g.0 h.0 ops))
    ((bytes_eq-Decides ss.value.items rs.value.items).1 syms))
same_step ts one (steps.Outcome i d) (steps.Outcome j e) g h a b p =
    let place : i ≡ j = cc in
    let of : origin_at ts d ≡ origin_at ts e = cc in
    both (nat_eq i j) (nat_eq d e) (eq-eqb i j place) (eq-eqb d e (origin_at-injective ts one d e g h of))
same_step ts one (steps.Number j) (steps.Name n) g h a b p = cc
same_step ts one (steps.Number j) (steps.Make w ys) g h a b p = cc
same_step ts one (steps.Number j) (steps.Define w ys rs) g h a b p = cc
same_step ts one (steps.Number j) (steps.Outcome k e) g h a b p = cc
same_step ts one (steps.Name m) (steps.Number n) g h a b p = cc
same_step ts one (steps.Name m) (steps.Make w ys) g h a b p = cc
same_step ts one (steps.Name m) (steps.Define w ys rs) g h a b p = cc
same_step ts one (steps.Name m) (steps.Outcome k e) g h a b p = cc
same_step ts one (steps.Make v xs) (steps.Number n) g h a b p = cc
same_step ts one (steps.Make v xs) (steps.Name n) g h a b p = cc
same_step ts one (steps.Make v xs) (steps.Define w ys rs) g h a b p = cc
same_step ts one (steps.Make v xs) (steps.Outcome k e) g h a b p = cc
same_step ts one (steps.Define v xs ss) (steps.Number n) g h a b p = cc
same_step ts one (steps.Define v xs ss) (steps.Name n) g h a b p = cc
same_step ts one (steps.Define v xs ss) (steps.Make w ys) g h a b p = cc
same_step ts one (steps.Define v xs ss) (steps.Outcome k e) g h a b p = cc
same_step ts one (steps.Outcome i d) (steps.Number n) g h a b p = cc
same_step ts one (steps.Outcome i d) (steps.Name n) g h a b p = cc
same_step ts one (steps.Outcome i d) (steps.Make w ys) g h a b p = cc
same_step ts one (steps.Outcome i d) (steps.Define w ys rs) g h a b p = cc

-- steps that pass the test have one origin
pub same_origin : (ts : List (Origin ℕ)) (s t : Step) → step_eq s t ≡ true → origin_of ts s ≡ origin_of ts t
same_origin ts (steps.Number j) (steps.Number k) p = ap Number ((Decides-int_eq j k).0 p)
same_origin ts (steps.Name m) (steps.Name n) p = ap Named (eqb-true m n p)
same_origin ts (steps.Make v xs) (steps.Make w ys) p =
    let q = parts (words_test.ghosts.eq v w) (pointwise nat_eq xs ys) p in
    λ j. Make (word-from v w q.0 j) (origins_at ts ((bytes_eq-Decides xs ys).0 q.1 j))
same_origin ts (steps.Define v xs ss) (steps.Define w ys rs) p =
    let q = parts (words_test.ghosts.eq v w)
    (pointwise nat_eq xs.value.items ys.value.items && pointwise nat_eq ss.value.items rs.value.items) p in
    let r = parts (pointwise nat_eq xs.value.items ys.value.items) (pointwise nat_eq ss.value.items rs.value.items) q.1 in
    λ j. Define (word-from v w q.0 j) (origins_at ts ((bytes_eq-Decides xs.value.items ys.value.items).0 r.0 j))
same_origin ts (steps.Outcome i d) (steps.Outcome j e) p =
    let q = parts (nat_eq i j) (nat_eq d e) p in
    λ k. Outcome (eqb-true i j q.0 k) (origin_at ts (eqb-true d e q.1 k))
same_origin ts s t p = absurd (true≢false (sym p))

-- a table of steps meets the laws
pub laws : NodeLaws origin_of IsBelow (λ ts s (u : Unit {0}). HasSymbols ts s) step_eq
laws = record {
  more_below = IsBelow-mono;
  tree_stays = origin_of-Extends;
  fits_stays = λ ts us e s d below h. HasSymbols-Extends ts us e s below h;
  tree_same = same_origin;
  same_tree = λ ts one s t d e g h a b p. same_step ts one s t g h a b p;
}
