-- Checks of definitions as tests.
use Rattle.std.specs.Prelude.{if◌then◌else◌}
use Rattle.std.specs.List.{list_any}
use Rattle.std.proofs.Common.{◌≡◌, Bool, true, false, ◌&&◌, ◌||◌, not, List, [], ◌∷◌, Result, Ok, Err, refl, ap, ◌∙◌}
use Rattle.ot_logic.specs.Names.{Name}
use Rattle.ot_logic.specs.Naming.{names}
use Rattle.ot_logic.specs.Trees.{Symbol}
use Rattle.ot_logic.specs.Hol.{primitives}
use Rattle.ot_logic.specs.Answers.{◌>>=◌, unless}
use Rattle.ot_logic.specs.Faults.{Fault, Primitive, AlreadyDefined, SymbolInUse}
use Rattle.ot_log_format.specs.Tokens.{LogFault, BadStep}
use Rattle.ot_log_format.specs.Steps.{or_bad}
use Rattle.ot_laws.specs.Conditions.{is_among, refuse_first, refuse_defined, checked_symbols}
use Rattle.ot_log_rules.specs.Symbols.{passes, are_fresh}

pub passes-then : {E : Type 0} (r s : Result (Unit {0}) E) → passes (r >>= λ _. s) ≡ (passes r && passes s)
passes-then (Ok u) s = refl
passes-then (Err e) s = refl

pub passes-unless : {E : Type 0} (e : E) (b : Bool) → passes (unless e b) ≡ b
passes-unless e true = refl
passes-unless e false = refl

pub passes-first : (fault : Symbol Name → Fault Name) (test : Symbol Name → Bool) (ss : List (Symbol Name))
    → passes (refuse_first names fault test ss) ≡ not (list_any test ss)
passes-first fault test [] = refl
passes-first fault test (s ∷ ss) = by (test s) (passes-first fault test ss)
  where
    by : (b : Bool) → passes (refuse_first names fault test ss) ≡ not (list_any test ss)
        → passes (if b then Err (fault s) else refuse_first names fault test ss) ≡ not (b || list_any test ss)
    by true e = refl
    by false e = e

-- three tests of each, one test after another
rearranged : (a b c p q r : Bool) → (not (a || p) && ((not b && q) && not (c || r)))
    ≡ ((not a && (not b && not c)) && (not p && (q && not r)))
rearranged true b c p q r = refl
rearranged false true c p q r = turned (not p)
  where
    turned : (x : Bool) → (x && false) ≡ false
    turned true = refl
    turned false = refl
rearranged false false true p q r = outer (not p) q
  where
    outer : (x y : Bool) → (x && (y && false)) ≡ false
    outer true true = refl
    outer true false = refl
    outer false y = refl
rearranged false false false p q r = refl

pub passes-symbols : (defined used premise ss : List (Symbol Name))
    → passes (checked_symbols names defined used premise ss) ≡ are_fresh defined used premise ss
passes-symbols defined used premise ss =
    passes-then (refuse_first names Primitive (λ s. is_among names s (primitives names)) ss)
    (refuse_defined names defined ss >>= λ _. refuse_first names SymbolInUse
    (λ s. is_among names s premise || is_among names s used) ss)
    ∙ (λ i. passes-first Primitive (λ s. is_among names s (primitives names)) ss i
    && (passes-then (refuse_defined names defined ss)
    (refuse_first names SymbolInUse (λ s. is_among names s premise || is_among names s used) ss)
    ∙ ap (λ b. passes (refuse_defined names defined ss) && b)
    (passes-first SymbolInUse (λ s. is_among names s premise || is_among names s used) ss)) i)
    ∙ all defined ss
  where
    all : (ds ss : List (Symbol Name))
        → (not (list_any (λ s. is_among names s (primitives names)) ss)
        && (passes (refuse_defined names ds ss)
        && not (list_any (λ s. is_among names s premise || is_among names s used) ss))) ≡ are_fresh ds used premise ss
    all ds [] = refl
    all ds (s ∷ ss) = by (is_among names s ds)
        ∙ ap (λ b. (not (is_among names s (primitives names))
        && (not (is_among names s ds) && not (is_among names s premise || is_among names s used))) && b)
        (all (s ∷ ds) ss)
      where
        by : (b : Bool)
            → (not (is_among names s (primitives names) || list_any (λ s. is_among names s (primitives names)) ss)
            && (passes (if b then Err (AlreadyDefined s) else refuse_defined names (s ∷ ds) ss)
            && not ((is_among names s premise || is_among names s used)
            || list_any (λ s. is_among names s premise || is_among names s used) ss)))
            ≡ ((not (is_among names s (primitives names))
            && (not b && not (is_among names s premise || is_among names s used)))
            && (not (list_any (λ s. is_among names s (primitives names)) ss)
            && (passes (refuse_defined names (s ∷ ds) ss)
            && not (list_any (λ s. is_among names s premise || is_among names s used) ss))))
        by true =
            rearranged (is_among names s (primitives names)) true (is_among names s premise || is_among names s used)
            (list_any (λ s. is_among names s (primitives names)) ss) (passes (refuse_defined names (s ∷ ds) ss))
            (list_any (λ s. is_among names s premise || is_among names s used) ss)
        by false =
            rearranged (is_among names s (primitives names)) false (is_among names s premise || is_among names s used)
            (list_any (λ s. is_among names s (primitives names)) ss) (passes (refuse_defined names (s ∷ ds) ss))
            (list_any (λ s. is_among names s premise || is_among names s used) ss)

-- a check within a step
pub step-passed : {A E : Type 0} (r : Result (Unit {0}) E) (s : Result A LogFault) → passes r ≡ true
    → (or_bad r >>= λ _. s) ≡ s
step-passed (Ok u) s h = refl
step-passed (Err e) s h = cc

pub step-refused : {A E : Type 0} (r : Result (Unit {0}) E) (s : Result A LogFault) → passes r ≡ false
    → (or_bad r >>= λ _. s) ≡ Err BadStep
step-refused (Ok u) s h = cc
step-refused (Err e) s h = refl
