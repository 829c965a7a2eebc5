use Rattle.std.specs.Prelude.{if◌then◌else◌}
use Rattle.std.proofs.Common.{◌++◌, ◌∷◌, [], sym, ap, ◌∙◌}
use Rattle.ot_log_rules.proofs.Substituting.{absent-insert}
use Rattle.ot_log_rules.proofs.put.add_new.Goals as goal

pub returns-then-contains_key : goal.returns-then-contains_key
returns-then-contains_key g c =
    let es = c.args.first.now.entries in
    sym (ap (λ b. if b then es else es ++ c.args.pair ∷ []) (sym c.contains_key.ensures ∙ c.if-contains_key.true))

pub returns : goal.returns
returns g c =
    let es = c.args.first.now.entries in
    let none = sym c.contains_key.ensures ∙ c.if-contains_key.false in
    c.in_ok-insert.ensures.entries ∙ absent-insert g.K.PartialEq.eq es c.args.pair.0 c.args.pair.1 none
    ∙ sym (ap (λ b. if b then es else es ++ c.args.pair ∷ []) none)
