-- The test of origins decides whether they are one.
use Rattle.std.proofs.Common.{◌≡◌, ℕ, Bool, true, Some, arith, refl, sym, ap, ◌∙◌}
use Rattle.std.specs.Prelude.{nat_eq}
use Rattle.std.specs.Bool.{Decides}
use Rattle.std.proofs.lemmas.Bool.Decides.{nat_tests, Decides-int_eq}
use Rattle.std.proofs.lemmas.Slice.Eq.{bytes_eq-Decides}
use Rattle.std.proofs.lemmas.Bool.{and_from}
use Rattle.ot_logic.specs.Commands.{spelling, command_of}
use Rattle.ot_logic.specs.declared.command.Cmd.{Cmd}
use Rattle.ot_logic.specs.declared.command.Cmd.TheVariants as words
use Rattle.ot_trace.specs.Origins.{Origin, Origins, Number, Named, Make, Define, Outcome, NoOrigins, MoreOrigins}
use Rattle.ot_written.specs.Same.{same_word, same_origin, same_origins}
use Rattle.ot_written.specs.Laws.{SameOriginLaw}
use Rattle.ot_written.proofs.Filters.{and-left, and-right}

command-back : (c : Cmd) → command_of (spelling c) ≡ Some c
command-back words.Version = refl
command-back _ = refl

word-is : (c d : Cmd) → Decides (same_word c d) (c ≡ d)
word-is c d = (
  λ h. let e = sym (command-back c) ∙ ap command_of ((bytes_eq-Decides (spelling c) (spelling d)).0 h)
      ∙ command-back d in cc,
  λ e. (bytes_eq-Decides (spelling c) (spelling d)).1 (ap spelling e),
)

eq-is : (a b : ℕ) → Decides (nat_eq a b) (a ≡ b)
eq-is a b = (λ h. grind (arith, nat_tests), λ h. grind (arith, nat_tests))

module _ {N : Type 0} (same_name : N → N → Bool) (name-is : (a b : N) → Decides (same_name a b) (a ≡ b)) where
  mutual
    origin-to : (a b : Origin N) → same_origin same_name a b ≡ true → a ≡ b
    origin-to (Number k) (Number j) h = ap Number ((Decides-int_eq k j).0 h)
    origin-to (Named n) (Named m) h = ap Named ((name-is n m).0 h)
    origin-to (Make c os) (Make d ps) h =
        let p = (word-is c d).0 (and-left (same_word c d) (same_origins same_name os ps) h) in
        let q = origins-to os ps (and-right (same_word c d) (same_origins same_name os ps) h) in
        λ i. Make (p i) (q i)
    origin-to (Define c os) (Define d ps) h =
        let p = (word-is c d).0 (and-left (same_word c d) (same_origins same_name os ps) h) in
        let q = origins-to os ps (and-right (same_word c d) (same_origins same_name os ps) h) in
        λ i. Define (p i) (q i)
    origin-to (Outcome j a) (Outcome k b) h =
        let p = (eq-is j k).0 (and-left (nat_eq j k) (same_origin same_name a b) h) in
        let q = origin-to a b (and-right (nat_eq j k) (same_origin same_name a b) h) in
        λ i. Outcome (p i) (q i)
    origin-to a b h = absurd (cc)

    origins-to : (os ps : Origins N) → same_origins same_name os ps ≡ true → os ≡ ps
    origins-to NoOrigins NoOrigins h = refl
    origins-to (MoreOrigins a os) (MoreOrigins b ps) h =
        let p = origin-to a b (and-left (same_origin same_name a b) (same_origins same_name os ps) h) in
        let q = origins-to os ps (and-right (same_origin same_name a b) (same_origins same_name os ps) h) in
        λ i. MoreOrigins (p i) (q i)
    origins-to os ps h = absurd (cc)

  mutual
    origin-self : (a : Origin N) → same_origin same_name a a ≡ true
    origin-self (Number k) = (Decides-int_eq k k).1 refl
    origin-self (Named n) = (name-is n n).1 refl
    origin-self (Make c os) = and_from (same_word c c) (same_origins same_name os os) ((word-is c c).1 refl)
        (origins-self os)
    origin-self (Define c os) = and_from (same_word c c) (same_origins same_name os os) ((word-is c c).1 refl)
        (origins-self os)
    origin-self (Outcome j d) = and_from (nat_eq j j) (same_origin same_name d d) ((eq-is j j).1 refl) (origin-self d)

    origins-self : (os : Origins N) → same_origins same_name os os ≡ true
    origins-self NoOrigins = refl
    origins-self (MoreOrigins o os) = and_from (same_origin same_name o o) (same_origins same_name os os)
        (origin-self o) (origins-self os)

pub same-origin-law : {N : Type 0} → SameOriginLaw N
same-origin-law same_name name-is a b =
    (origin-to same_name name-is a b, λ e. ap (same_origin same_name a) (sym e) ∙ origin-self same_name name-is a)
