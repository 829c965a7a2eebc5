-- A log's step of `subst`, whose pairs are of one each, does what the rule of an article does.
use Rattle.std.specs.Prelude.{if◌then◌else◌, ◌&&◌}
use Rattle.std.specs.List.{list_all}
use Rattle.std.proofs.Common.{◌≡◌, Bool, true, false, [], ◌∷◌, map, Ok, refl, ap, ◌∙◌}
use Rattle.ot_logic.specs.Trees.{Alphabet, Variable, Tm, Sequent}
use Rattle.ot_logic.specs.Hol.{same_var, TypeMap, TermMap, subst_tm, once_each, IsTyped}
use Rattle.ot_logic.specs.Answers.{◌>>=◌, unless}
use Rattle.ot_logic.specs.Rules.{has_type, subst_rule}
use Rattle.ot_laws.proofs.Tests.{Tells, has_type-is}
use Rattle.ot_laws.proofs.Steps.{within_limit-ok}
use Rattle.ot_log_format.specs.Tokens.{BadStep}
use Rattle.ot_log_format.specs.Steps.{without, first_pairs, subst_step}
use Rattle.ot_log_format.proofs.Firsts.{subst-first}

module _ {N : Type 0} (alphabet : Alphabet N) (tells : Tells alphabet) where
  typed-without : (w : Variable N) (m : TermMap alphabet) → IsTyped alphabet m
      → IsTyped alphabet (without alphabet w m)
  typed-without w [] h = tt
  typed-without w (p ∷ m) h = by (same_var alphabet w p.0) (typed-without w m h.1)
    where
      by : (b : Bool) → IsTyped alphabet (without alphabet w m)
          → IsTyped alphabet (if b then without alphabet w m else p ∷ without alphabet w m)
      by true k = k
      by false k = (h.0, k)

  typed-first : (m : TermMap alphabet) → IsTyped alphabet m → IsTyped alphabet (first_pairs alphabet m)
  typed-first [] h = tt
  typed-first (p ∷ m) h = (h.0, typed-without p.0 (first_pairs alphabet m) (typed-first m h.1))

  tested : (m : TermMap alphabet) → IsTyped alphabet m → list_all (λ p. has_type alphabet p.1 p.0.ty) m ≡ true
  tested [] h = refl
  tested (p ∷ m) h = let e = (has_type-is alphabet tells p.1 p.0.ty).1 h.0 in λ i. e i && tested m h.1 i

  pub subst-ruled : (s : TypeMap alphabet) (m : TermMap alphabet) (a q : Sequent N) → IsTyped alphabet m
      → subst_rule alphabet s m a ≡ Ok q → subst_step alphabet s m a ≡ Ok q
  subst-ruled s m a q w h =
      let made : (Tm N → Tm N) → Sequent N =
      λ f. record { hyps = once_each alphabet (map f a.hyps); concl = f a.concl } in
      let same : subst_tm alphabet s (first_pairs alphabet m) ≡ subst_tm alphabet s m =
      λ i t. subst-first alphabet tells s m t i in
      ap (λ b. unless BadStep b >>= λ _. Ok (made (subst_tm alphabet s (first_pairs alphabet m))))
      (tested (first_pairs alphabet m) (typed-first m w))
      ∙ ap (λ f. Ok (made f)) same
      ∙ ap Ok (within_limit-ok alphabet tells (made (subst_tm alphabet s m)) q h).1
