-- A name that was read, by its number.
use Rattle.std.specs.Prelude.{◌≡◌, Result, Ok, Err, IsErrAnd, Option, Some}
use Rattle.std.proofs.Common.{ℕ, List, ap, sym, subst, ◌∙◌}
use Rattle.ot_logic.specs.Names.{Name}
use Rattle.ot_logic.specs.RanOut.{ran_out}
use Rattle.ot_log_format.specs.State.{LogState}
use Rattle.ot_log_format.specs.Records.{AskName}
use Rattle.ot_log_nodes.specs.Items.{NameItem}
use Rattle.ot_verify.specs.Asking.{AnsweredFrom, IsValue}
use Rattle.ot_verify.specs.Logged.{LogView, IsNamed}
use Rattle.ot_verify.specs.declared.reader.Reader.{Reader}
use Rattle.ot_verify.specs.declared.fault.VerifyFault.{VerifyFault}
use Rattle.ot_verify.specs.declared.fault.VerifyFault.TheVariants as verify
use Rattle.ot_verify.proofs.Tokens.{tokens-map}

module _ {st : LogState Name} (view : LogView) {old new : Reader} {l m : Option (List ℕ)} where
  pub numbered : {n : Name} {id : ℕ} → AnsweredFrom st AskName IsValue (Ok n) old new l m → IsNamed view id n
      → AnsweredFrom st AskName (IsNamed view) (Ok id) old new l m
  numbered a e =
      let (x, same, reads) = a.answer in
      record { answer = (x, e ∙ ap (λ m. Some (NameItem m)) same, reads); stop = tt }

  -- the answer is the fault that was handed on
  pub numbered-stop : {e : VerifyFault} (q : Result ℕ VerifyFault) → IsErrAnd q (λ f. f ≡ e)
      → AnsweredFrom {X = Name} st AskName IsValue (Err e) old new l m
      → AnsweredFrom st AskName (IsNamed view) q old new l m
  numbered-stop (Ok id) handed a = absurd handed
  numbered-stop (Err f) handed a =
      subst (λ d. AnsweredFrom {X = ℕ} st AskName (IsNamed view) (Err d) old new l m) (sym handed)
      (record { answer = tt; stop = a.stop })

  pub numbered-memory : {n : Name} (q : Result ℕ VerifyFault) → IsErrAnd q (λ f. f ≡ verify.Memory ran_out)
      → AnsweredFrom st AskName IsValue (Ok n) old new l m → AnsweredFrom st AskName (IsNamed view) q old new l m
  numbered-memory (Ok id) handed a = absurd handed
  numbered-memory (Err f) handed a =
      subst (λ d. AnsweredFrom {X = ℕ} st AskName (IsNamed view) (Err d) old new l m) (sym handed)
      (record { answer = tt; stop = tokens-map a.answer.2 (λ o r h. tt) })
