-- Refusals: which comes first, and what carries them from the code's lists to the stated ones.
use Rattle.std.specs.List.{find, list_all}
use Rattle.std.specs.Prelude.{◌||◌, ◌&&◌}
use Rattle.std.proofs.Common.{◌≡◌, ℕ, ◌+◌, ◌<◌, length, get_or, drop, drop-cons}
use Rattle.std.proofs.Common.{add-one, Bool, true, false, List, [], ◌∷◌, map, Option, Some}
use Rattle.std.proofs.Common.{None, Result, Ok, Err, if◌then◌else◌, refl, sym, ap, subst, ◌∙◌}
use Rattle.std.proofs.lemmas.Option.{same_Some}
use Rattle.ot_logic.specs.Lists.{IsSameSet}
use Rattle.ot_logic.specs.Trees.{Alphabet, Symbol}
use Rattle.ot_logic.specs.Hol.{primitives}
use Rattle.ot_logic.specs.Faults.{Fault, Primitive, AlreadyDefined, SymbolInUse}
use Rattle.ot_logic.specs.Answers.{◌>>=◌, unless, some_or}
use Rattle.std.proofs.lemmas.List.Folds.{list_all_at}
use Rattle.ot_laws.proofs.Tests.{Tells}
use Rattle.ot_laws.specs.Conditions.{same_symbol, is_among, refuse_first, refuse_defined, checked_symbols}
use Rattle.ot_define.specs.Answers.{Checks, define_fault}
use Rattle.ot_define.specs.declared.fault.DefineFault.{DefineFault}
use Rattle.ot_laws.proofs.Membership.{is_among-same_set}

module _ {N : Type 0} (alphabet : Alphabet N) where
  pub refuse_first-agree : (fault : Symbol N → Fault N) (p q : Symbol N → Bool) → ((s : Symbol N) → p s ≡ q s)
      → (ss : List (Symbol N)) → refuse_first alphabet fault p ss ≡ refuse_first alphabet fault q ss
  refuse_first-agree fault p q h [] = refl
  refuse_first-agree fault p q h (s ∷ ss) = λ i. if h s i then Err (fault s) else refuse_first-agree fault p q h ss i

  -- the first of a list is found by its own test
  module _ {X : Type 0} (f : X → Symbol N) (fault : Symbol N → Fault N) (p : Symbol N → Bool) where
    pub first-some : (xs : List X) (x : X) → find (λ x. p (f x)) xs ≡ Some x
        → refuse_first alphabet fault p (map f xs) ≡ Err (fault (f x))
    first-some [] x h = cc
    first-some (y ∷ ys) x h = by (p (f y)) (first-some ys x) h
      where
        by : (b : Bool)
            → (find (λ x. p (f x)) ys ≡ Some x → refuse_first alphabet fault p (map f ys) ≡ Err (fault (f x)))
            → (if b then Some y else find (λ x. p (f x)) ys) ≡ Some x
            → (if b then Err (fault (f y)) else refuse_first alphabet fault p (map f ys)) ≡ Err (fault (f x))
        by true rest e = ap (λ z. Err (fault (f z))) (same_Some y x e)
        by false rest e = rest e

    pub first-none : (xs : List X) → find (λ x. p (f x)) xs ≡ None → refuse_first alphabet fault p (map f xs) ≡ Ok tt
    first-none [] h = refl
    first-none (y ∷ ys) h = by (p (f y)) (first-none ys) h
      where
        by : (b : Bool) → (find (λ x. p (f x)) ys ≡ None → refuse_first alphabet fault p (map f ys) ≡ Ok tt)
            → (if b then Some y else find (λ x. p (f x)) ys) ≡ None
            → (if b then Err (fault (f y)) else refuse_first alphabet fault p (map f ys)) ≡ Ok tt
        by true rest e = cc
        by false rest e = rest e

  pub refuse_defined-agree : (ds es : List (Symbol N))
      → ((s : Symbol N) → is_among alphabet s ds ≡ is_among alphabet s es) → (ss : List (Symbol N))
      → refuse_defined alphabet ds ss ≡ refuse_defined alphabet es ss
  refuse_defined-agree ds es h [] = refl
  refuse_defined-agree ds es h (s ∷ ss) =
      λ i. if h s i then Err (AlreadyDefined s) else refuse_defined-agree (s ∷ ds) (s ∷ es)
      (λ t. λ j. same_symbol alphabet t s || h t j) ss i

  -- the symbols that are left in a list
  module _ {X : Type 0} (f : X → Symbol N) (ds : List (Symbol N)) (xs : List X) (i : ℕ) (x : X)
      (within : i < length xs) (here : x ≡ get_or xs i x) where
    left : map f (drop i xs) ≡ f x ∷ map f (drop (i + 1) xs)
    left = rw (drop-cons xs i x, ← here, add-one) refl

    pub defined-taken : is_among alphabet (f x) ds ≡ true → refuse_defined alphabet ds (map f (drop i xs))
        ≡ Err (AlreadyDefined (f x))
    defined-taken h = rw (left, h) refl

    pub defined-next : is_among alphabet (f x) ds ≡ false → refuse_defined alphabet ds (map f (drop i xs))
        ≡ refuse_defined alphabet (f x ∷ ds) (map f (drop (i + 1) xs))
    defined-next h = rw (left, h) refl

  -- only the members of the premise's symbols count
  pub checked-agree : (tells : Tells alphabet) (ds us ps qs ss : List (Symbol N)) → IsSameSet ps qs
      → checked_symbols alphabet ds us ps ss ≡ checked_symbols alphabet ds us qs ss
  checked-agree tells ds us ps qs ss h =
      λ i. refuse_first alphabet Primitive (λ s. is_among alphabet s (primitives alphabet)) ss
      >>= λ _. refuse_defined alphabet ds ss >>= λ _. used i
    where
      used : refuse_first alphabet SymbolInUse (λ s. is_among alphabet s ps || is_among alphabet s us) ss
          ≡ refuse_first alphabet SymbolInUse (λ s. is_among alphabet s qs || is_among alphabet s us) ss
      used = refuse_first-agree SymbolInUse (λ s. is_among alphabet s ps || is_among alphabet s us)
          (λ s. is_among alphabet s qs || is_among alphabet s us)
          (λ s. λ i. is_among-same_set alphabet tells s ps qs h i || is_among alphabet s us) ss

-- ---- one check after another
abbrev pub Stated : Type 0
Stated = Result (Unit {0}) (Fault ℕ)

-- what comes after a check that passed
pub checks-then : (r : Result (Unit {0}) DefineFault) (a b : Stated) → a ≡ Ok tt → Checks r b
    → Checks r (a >>= λ _. b)
checks-then r a b e h = subst (λ (x : Stated). Checks r (x >>= λ _. b)) (sym e) h

-- a check that refused ends all
pub checks-stop : (e : DefineFault) (a b : Stated) → Checks (Err e) a → Checks (Err e) (a >>= λ _. b)
checks-stop e a b h f is = ap (λ (x : Stated). x >>= λ _. b) (h f is)

-- a test of the code for a stated one
pub checks-unless : (r : Result (Unit {0}) DefineFault) (a b : Bool) (e : DefineFault) (f : Fault ℕ)
    → define_fault e ≡ Some f → a ≡ b → r ≡ (if a then Ok tt else Err e) → Checks r (unless f b)
checks-unless r a b e f fault same is = subst (λ x. Checks x (unless f b)) (sym is)
    (subst (λ x. Checks (if a then Ok tt else Err e) (unless f x)) same (by a))
  where
    by : (a : Bool) → Checks (if a then Ok tt else Err e) (unless f a)
    by true = refl
    by false = λ g h. ap Err (same_Some f g (sym fault ∙ h))

-- one fault for two tests
pub unless-both : {E : Type 0} (e : E) (a b : Bool) → unless e (a && b) ≡ (unless e a >>= λ _. unless e b)
unless-both e true b = refl
unless-both e false b = refl

-- a refusal by one element refuses all
pub checks-one : {X : Type 0} (p : X → Bool) (xs : List X) (i : ℕ) (x : X) (e : DefineFault) (fault : Fault ℕ)
    → i < length xs → x ≡ get_or xs i x → Checks (Err e) (unless fault (p x))
    → Checks (Err e) (unless fault (list_all p xs))
checks-one p xs i x e fault within here h = λ f is. by (p x) refl f (h f is)
  where
    by : (b : Bool) → p x ≡ b → (f : Fault ℕ) → unless fault b ≡ Err f → unless fault (list_all p xs) ≡ Err f
    by true same f k = cc
    by false same f k = ap (unless fault) (list_all_at p xs i x within (subst (λ y. p y ≡ false) here same)) ∙ k

-- what comes after something that is there
pub checks-some : {A : Type 0} (r : Result (Unit {0}) DefineFault) (e : Fault ℕ) (o : Option A) (x : A)
    (f : A → Stated) → o ≡ Some x → Checks r (f x) → Checks r (some_or e o >>= f)
checks-some r e o x f is h = subst (λ o. Checks r (some_or e o >>= f)) (sym is) h
