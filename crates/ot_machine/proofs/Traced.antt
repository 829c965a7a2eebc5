-- What the calls of the trace make.
use Rattle.std.specs.Prelude.{◌≡◌, ◌<◌, ◌≤◌, ◌⊎◌, ◌++◌, ◌∷◌, [], ℕ, zero, suc, ℤ, pos}
use Rattle.std.specs.Prelude.{List, length, map, slice_get, Option, Some, None, Result, Ok, Err}
use Rattle.std.specs.List.{All}
use Rattle.std.proofs.Common.{refl, sym, ◌∙◌, ap, subst}
use Rattle.std.proofs.lemmas.Option.{get_or_from_slice_get}
use Rattle.std.proofs.lemmas.List.Elements.{All-head, All-tail}
use Rattle.ot_logic.specs.Names.{Name}
use Rattle.ot_logic.specs.declared.command.Cmd.{Cmd}
use Rattle.ot_logic.proofs.TableLemmas.{Extends-refl, Extends-trans}
use Rattle.ot_kernel.specs.State as kernel
use Rattle.ot_trace.specs.Origins.{Origin, Origins, Number, Named, Make, Define, Outcome, NoOrigins}
use Rattle.ot_trace.specs.Origins.{MoreOrigins, listed, from_list, at_or, operand, map_origin, map_origins}
use Rattle.ot_trace.specs.Trace.{origins_at}
use Rattle.ot_trace.specs.Trace as trace
use Rattle.ot_machine.specs.Objects.{Objects}
use Rattle.ot_machine.specs.States.{Entry}
use Rattle.ot_machine.specs.Places.{entry_at, top, pushed, replaced, origins_of}
use Rattle.ot_machine.specs.Rows.{origin_at}
use Rattle.ot_machine.specs.declared.object.Object as object
use Rattle.ot_machine.specs.declared.object.Object.TheVariants as objects
use Rattle.ot_machine.specs.declared.object.Entry as code_entry
use Rattle.ot_machine.specs.declared.machine.Machine.{Machine}
use Rattle.ot_machine.specs.declared.session.Session.{Session}
use Rattle.ot_machine.specs.Meaning.{object_of, cells_of, origin_of, origin_or, AreNamesBelow, AreAllNamesBelow}
use Rattle.ot_machine.specs.Meaning.{entry_of, lists_of, article_of, IsNumber, HasStep, IsRun, IsOf, Traces}
use Rattle.ot_machine.specs.Stays.{ReplacesTop}
use Rattle.ot_machine.proofs.Tops.{top-one, top-two}
use Rattle.ot_machine.proofs.Kept.{at-Extends, origin-kept, article-kept, of-kept, traces-grow}
use Rattle.ot_machine.proofs.Kept.{with_trace, added-extends, added-named, traces}

-- the operands of a word have names of the kernel
pub operands-named : (n : ℕ) (os : List (Origin ℕ)) (is : List ℕ) → All (AreNamesBelow n) os
    → All (λ i. i < length os) is → AreAllNamesBelow n (origins_at os is)
operands-named n os [] named h = tt
operands-named n os (j ∷ is) named h = (
  named j (Number (pos 0)) (All-head (λ i. i < length os) j is h),
  operands-named n os is named
      (All-tail (λ i. i < length os) j is h),
)

pub operands-read : (f : ℕ → Name) (os : List (Origin ℕ)) (is : List ℕ) → map_origins f (origins_at os is)
    ≡ from_list (map (λ i. map_origin f (trace.origin_at os i)) is)
operands-read f os [] = refl
operands-read f os (j ∷ is) = ap (MoreOrigins (map_origin f (trace.origin_at os j))) (operands-read f os is)

-- ---- an origin that was added
module _ (s : Session) (o : Origin ℕ) (os : List (Origin ℕ)) where
  pub traces-added : IsRun s → AreNamesBelow (length s.kernel.names) o → (os ≡ s.trace) ⊎ (os ≡ s.trace ++ o ∷ [])
      → Traces s (with_trace s os)
  traces-added h named grown = traces s os h (added-extends s.trace os o grown)
      (added-named (length s.kernel.names) s.trace os o grown h.named named)

  pub origin-added : (i : ℕ) → slice_get os i ≡ Some o → origin_of (with_trace s os) i
      ≡ map_origin (kernel.name_at s.kernel) o
  origin-added i e = ap (map_origin (kernel.name_at s.kernel)) (get_or_from_slice_get os i o (Number (pos 0)) e)

-- what a word makes
module _ (s : Session) (word : Cmd) (is : List ℕ) (os : List (Origin ℕ)) where
  abbrev new : Origin ℕ
  new = Make word (origins_at s.trace is)

  pub traces-made : IsRun s → All (λ i. i < length s.trace) is → (os ≡ s.trace) ⊎ (os ≡ s.trace ++ new ∷ [])
      → Traces s (with_trace s os)
  traces-made h inside =
      traces-added s new os h (operands-named (length s.kernel.names) s.trace is h.named inside)

  pub origin-made : (i : ℕ) → slice_get os i ≡ Some new → origin_of (with_trace s os) i
      ≡ Make word (from_list (map (origin_of s) is))
  origin-made i e = origin-added s new os i e ∙ ap (Make word) (operands-read (kernel.name_at s.kernel) s.trace is)

-- what a word defines
module _ (s : Session) (word : Cmd) (is : List ℕ) (os : List (Origin ℕ)) where
  abbrev defining : Origin ℕ
  defining = Define word (origins_at s.trace is)

  pub traces-defined : IsRun s → All (λ i. i < length s.trace) is → (os ≡ s.trace) ⊎ (os ≡ s.trace ++ defining ∷ [])
      → Traces s (with_trace s os)
  traces-defined h inside =
      traces-added s defining os h (operands-named (length s.kernel.names) s.trace is h.named inside)

  pub origin-defined : (i : ℕ) → slice_get os i ≡ Some defining → origin_of (with_trace s os) i
      ≡ Define word (from_list (map (origin_of s) is))
  origin-defined i e = origin-added s defining os i e
      ∙ ap (Define word) (operands-read (kernel.name_at s.kernel) s.trace is)

-- nothing was added
pub traces-none : (s : Session) → IsRun s → Traces s s
traces-none s h = record { kernel = refl; grown = Extends-refl s.trace; run = refl; is_run = h }

-- ---- two after one another
pub traces-on : (s t u : Session) → Traces s t → Traces t u → Traces s u
traces-on s t u p q =
    record {
      kernel = q.kernel ∙ p.kernel;
      grown = Extends-trans p.grown q.grown;
      run = q.run ∙ p.run;
      is_run = q.is_run;
    }

-- an origin of the trace, after more were added
pub traced-origin : (s t : Session) → IsRun s → Traces s t → (i : ℕ) → i < length s.trace
    → origin_of t i ≡ origin_of s i
traced-origin s t h traced i lt = origin-kept s t h (traces-grow s t traced) i lt

-- over numbers of names
pub number-later : (s t : Session) → Traces s t → (i : ℕ) → i < length s.trace
    → trace.origin_at t.trace i ≡ trace.origin_at s.trace i
number-later s t traced i lt = at-Extends s.trace t.trace traced.grown (Number (pos 0)) i lt

-- by the names of the numbers
pub origin-number : (s t : Session) → Traces s t → (i : ℕ) (o : Origin ℕ) → trace.origin_at t.trace i
    ≡ o → origin_of t i ≡ map_origin (kernel.name_at s.kernel) o
origin-number s t traced i o e = ap (map_origin (kernel.name_at t.kernel)) e
    ∙ ap (λ k. map_origin (kernel.name_at k) o) traced.kernel

-- ---- what a machine of the session stands for, where the trace alone grew
module _ (s t : Session) (m : Machine) (h : IsOf s m) (traced : Traces s t) where
  pub traced-article : article_of t m ≡ article_of s m
  traced-article = article-kept s t m h (traces-grow s t traced)

  pub traced-of : IsOf t m
  traced-of = of-kept s t m h (traces-grow s t traced) traced.is_run

-- ---- an object that was made, with its step
pub entry-made : (s t : Session) (m : Machine) (o : object.Object) (i : ℕ) (p : Origin Name) → t.kernel ≡ s.kernel
    → origin_of t i ≡ p → entry_of t (lists_of t m) (record { object = o; step = Some i })
    ≡ record { object = object_of s.kernel (lists_of s m) o; origin = p }
entry-made s t m o i p same is =
    let a : object_of t.kernel (lists_of t m) o ≡ object_of s.kernel (lists_of s m) o =
    λ j. object_of (same j) (cells_of (same j) m.cells.items) o in
    λ j. record { object = a j; origin = is j }

-- the origins of the top one and of the top two
pub one-origin : (stack : List Entry) → 1 ≤ length stack → origins_of (top 1 stack)
    ≡ MoreOrigins (origin_at 0 stack) NoOrigins
one-origin stack le = let t = top-one (λ e. Unit {0}) stack (λ i e p. tt) le in rw t.1 (ap origins_of t.3)

pub two-origins : (stack : List Entry) → 2 ≤ length stack → origins_of (top 2 stack) ≡ MoreOrigins (origin_at 1 stack)
    (MoreOrigins (origin_at 0 stack) NoOrigins)
two-origins stack le = let t = top-two (λ e. Unit {0}) stack (λ i e p. tt) le in rw (t.2, t.3) (ap origins_of t.6)

-- what a word made, in the place of the top n
pub article-made : (s t : Session) (m n : Machine) (count : ℕ) (o : object.Object) (i : ℕ) (p q : Origin Name)
    → IsOf s m → Traces s t → origin_of t i ≡ p → q ≡ p
    → article_of t n
    ≡ (let a = article_of t m in
    record a {
      stack = replaced count (entry_of t (lists_of t m) (record { object = o; step = Some i }))
          a.stack;
    })
    → article_of t n
    ≡ (let a = article_of s m in
    record a {
      stack = replaced count (record { object = object_of s.kernel (lists_of s m) o; origin = q })
          a.stack;
    })
article-made s t m n count o i p q h traced is same changed =
    let e = entry-made s t m o i q traced.kernel (is ∙ sym same) in
    changed ∙ (λ j. let a = traced-article s t m h traced j in record a { stack = replaced count (e j) a.stack })

-- and on top of it
pub article-pushed : (s t : Session) (m n : Machine) (o : object.Object) (i : ℕ) (p : Origin Name)
    → IsOf s m → Traces s t → origin_of t i ≡ p
    → article_of t n
    ≡ (let a = article_of t m in
    record a { stack = pushed (entry_of t (lists_of t m) (record { object = o; step = Some i })) a.stack })
    → article_of t n
    ≡ (let a = article_of s m in
    record a { stack = pushed (record { object = object_of s.kernel (lists_of s m) o; origin = p }) a.stack })
article-pushed s t m n o i p h traced is changed =
    let e = entry-made s t m o i p traced.kernel is in
    changed ∙ (λ j. let a = traced-article s t m h traced j in record a { stack = pushed (e j) a.stack })

-- nothing is put on it after a refusal
pub not-replaced : {E : Type 0} (r : Result (Unit {0}) E) (e : E) → r ≡ Err e → (count : ℕ) (o : object.Object)
    (p : Origin Name) (s t : Session) (m : Machine) → IsOf s m → Traces s t → ReplacesTop r count o p s m t m
not-replaced r e is count o p s t m h traced =
    subst (λ r. ReplacesTop r count o p s m t m) (sym is) (record {
      ok = tt;
      err = traced-article s t m h traced;
      kernel = traced.kernel;
      run = traced.run;
      trace = traced.grown;
      of = traced-of s t m h traced;
    })

-- ---- the origin at a place of the stack
is-number : (o : object.Object) → ((k : ℤ) → o ≡ objects.Number k → ⊥) → IsNumber o → ⊥
is-number (objects.Number m) other h = other m refl
is-number (objects.Name m) other h = h
is-number (objects.List x) other h = h
is-number (objects.TypeOp m) other h = h
is-number (objects.Type m) other h = h
is-number (objects.Const m) other h = h
is-number (objects.Var v) other h = h
is-number (objects.Term m) other h = h
is-number (objects.Theorem th) other h = h

-- an object that is no number has a step
pub no-step : (os : List (Origin ℕ)) (o : object.Object) (i : Option ℕ) → HasStep os o i → (IsNumber o → ⊥) → i ≡ None
    → ⊥
no-step os o (Some i) h made e = cc
no-step os o None h made e = made h

pub none-other : (os : List (Origin ℕ)) (o : object.Object) (i : Option ℕ) → HasStep os o i → i ≡ None
    → ((k : ℤ) → o ≡ objects.Number k → ⊥) → ⊥
none-other os o i h e other = no-step os o i h (is-number o other) e

module _ (s : Session) (cs : List Objects) (stack : List Entry) (place : ℕ) (e : code_entry.Entry)
    (at : entry_at place stack ≡ Ok (entry_of s cs e)) where
  pub origin-there : origin_at place stack ≡ origin_or s e.object e.step
  origin-there = rw at refl

  pub step-there : (i : ℕ) → e.step ≡ Some i → origin_at place stack ≡ origin_of s i
  step-there i is = origin-there ∙ ap (origin_or s e.object) is

pub step-inside : (os : List (Origin ℕ)) (o : object.Object) (i : Option ℕ) (j : ℕ) → HasStep os o i → i ≡ Some j
    → j < length os
step-inside os o (Some i) j h e = let same : i ≡ j = cc in subst (λ k. k < length os) same h
step-inside os o None j h e = cc

-- ---- operands under other names
module _ {M N : Type 0} (f : M → N) where
  listed-read : (os : Origins M) → listed (map_origins f os) ≡ map (map_origin f) (listed os)
  listed-read NoOrigins = refl
  listed-read (MoreOrigins o os) = ap (λ ps. map_origin f o ∷ ps) (listed-read os)

  at-read : (o : Origin M) (n : ℕ) (ps : List (Origin M)) → map_origin f (at_or o n ps)
      ≡ at_or (map_origin f o) n (map (map_origin f) ps)
  at-read o n [] = refl
  at-read o zero (p ∷ ps) = refl
  at-read o (suc n) (p ∷ ps) = at-read o n ps

  pub operand-read : (n : ℕ) (o : Origin M) → map_origin f (operand n o) ≡ operand n (map_origin f o)
  operand-read n (Number k) = refl
  operand-read n (Named m) = refl
  operand-read n (Make w os) = at-read (Make w os) n (listed os)
      ∙ ap (at_or (Make w (map_origins f os)) n) (sym (listed-read os))
  operand-read n (Define w os) = at-read (Define w os) n (listed os)
      ∙ ap (at_or (Define w (map_origins f os)) n) (sym (listed-read os))
  operand-read n (Outcome j d) = refl
