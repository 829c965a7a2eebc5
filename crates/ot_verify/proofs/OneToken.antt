-- One token of the check.
use Rattle.std.specs.Prelude.{Result, Ok, Err, Some, None}
use Rattle.std.proofs.Common.{◌≡◌, ℕ, ap, sym, ◌∙◌}
use Rattle.ot_logic.specs.Names.{Name}
use Rattle.ot_logic.specs.Naming.{names}
use Rattle.ot_log_format.specs.Tokens.{LogFault, LogEnds, Token}
use Rattle.ot_log_format.specs.Check.{Place, Stops, check, ended, go_on, token_step}
use Rattle.ot_verify.specs.Taking.{Rest, Takes, IsTaken, fault_of}
use Rattle.ot_verify.specs.declared.reader.Taken.{Taken}
use Rattle.ot_verify.specs.declared.fault.LogFault as code
use Rattle.ot_verify.specs.declared.fault.VerifyFault.TheVariants as verify

module _ (p : Place names) (o r : Rest) where
  -- the check goes on, or stops, as the token says
  pub token-next : (x : Taken) (z : Result (Place names) (ℕ × LogFault))
      → ((t : Token Name) → IsTaken x t → token_step names r.last p t ≡ z) → Takes (Ok (Some x)) o r
      → check names o.last p o.tokens ≡ go_on names z (λ q. check names r.last q r.tokens)
  token-next x z step t =
      ap (check names o.last p) t.1
      ∙ ap (λ z. go_on names z (λ q. check names r.last q r.tokens)) (step t.0 t.2)

  -- the log ends too early
  pub token-none : ((last : ℕ) → ended names last p ≡ Stops last LogEnds) → Takes (Ok None) o r
      → check names o.last p o.tokens ≡ Stops r.last LogEnds
  token-none early t =
      ap (check names o.last p) t.0 ∙ early o.last ∙ ap (λ l. Stops l LogEnds) (sym t.1)

  -- the tokens stop
  pub token-stopped : (line : ℕ) (f : code.LogFault) → Takes (Err (verify.At line f)) o r
      → check names o.last p o.tokens ≡ Stops line (fault_of f)
  token-stopped line f t = ap (check names o.last p) t
