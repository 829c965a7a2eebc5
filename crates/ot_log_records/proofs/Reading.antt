-- The tokens of a record, read back.
use Rattle.std.proofs.Common.{◌≡◌, ℕ, suc, List, [], ◌∷◌, ◌++◌, refl, sym, ap, ◌∙◌}
use Rattle.ot_logic.specs.Trees.{Alphabet}
use Rattle.ot_log_format.specs.Tokens.{Token, Tokens, Then}
use Rattle.ot_log_format.specs.State.{LogState}
use Rattle.ot_log_format.specs.Check.{Between, check}

module _ {N : Type 0} (alphabet : Alphabet N) where
  -- tokens on the lines after this one, and more
  abbrev pub lined : ℕ → List (Token N) → Tokens N → Tokens N
  lined line [] rest = rest
  lined line (t ∷ ts) rest = Then (suc line) t (lined (suc line) ts rest)

  -- the line of the last
  abbrev pub line_after : ℕ → List (Token N) → ℕ
  line_after line [] = line
  line_after line (t ∷ ts) = line_after (suc line) ts

  -- the records that these tokens are make now of st, whatever follows
  abbrev pub Reads : LogState N → List (Token N) → LogState N → Type 0
  Reads st ts now =
      (line : ℕ) (rest : Tokens N)
      → check alphabet line (Between st) (lined line ts rest) ≡ check alphabet (line_after line ts) (Between now) rest

  lined-append : (line : ℕ) (ts us : List (Token N)) (rest : Tokens N)
      → lined line (ts ++ us) rest ≡ lined line ts (lined (line_after line ts) us rest)
  lined-append line [] us rest = refl
  lined-append line (t ∷ ts) us rest = ap (Then (suc line) t) (lined-append (suc line) ts us rest)

  after-append : (line : ℕ) (ts us : List (Token N)) → line_after line (ts ++ us) ≡ line_after (line_after line ts) us
  after-append line [] us = refl
  after-append line (t ∷ ts) us = after-append (suc line) ts us

  -- records one after another
  pub reads-then : (st mid now : LogState N) (ts us : List (Token N)) → Reads st ts mid → Reads mid us now
      → Reads st (ts ++ us) now
  reads-then st mid now ts us a b = λ line rest.
      ap (check alphabet line (Between st)) (lined-append line ts us rest)
      ∙ a line (lined (line_after line ts) us rest)
      ∙ b (line_after line ts) rest
      ∙ ap (λ l. check alphabet l (Between now) rest) (sym (after-append line ts us))
