use Rattle.std.specs.Prelude.{OnOk, Err}
use Rattle.std.proofs.Common.{◌≡◌, ◌<◌, List, ℕ, length, subst}
use Rattle.std.specs.List.{All}
use Rattle.std.proofs.lemmas.Result.{on_ok_weaker}
use Rattle.ot_text.specs.Pages.{Appended}
use Rattle.ot_text.specs.declared.fault.PrintFault.TheVariants.{TooLarge}
use Rattle.ot_pretty.specs.Back.{ReadsBackAs}
use Rattle.ot_pretty.specs.Summary.{hidden_at}
use Rattle.ot_pretty.proofs.SameSymbols.{stated-summary, stated-notation}
use Rattle.ot_pretty.proofs.summary.readable_summary.Goals as goal

pub returns-in-Ok-clause-ok : goal.returns-in-Ok-clause-ok
returns-in-Ok-clause-ok c =
    subst (λ (x : List ℕ). OnOk c.summary_text.result
    (Appended x c.args.max c.args.out.now.items c.summary_text.new.out.items))
    (stated-summary c.args.kernel.now c.args.shown.now c.args.theorems.now c.in-Ok.notation c.in-Ok.ensures)
    c.summary_text.ensures.ok

pub returns-in-Ok-clause-too_large : goal.returns-in-Ok-clause-too_large
returns-in-Ok-clause-too_large c =
    subst (λ (x : List ℕ). c.summary_text.result ≡ Err TooLarge → c.args.max < length x)
    (stated-summary c.args.kernel.now c.args.shown.now c.args.theorems.now c.in-Ok.notation c.in-Ok.ensures)
    c.summary_text.ensures.too_large

pub returns-in-Ok-clause-reads_back : goal.returns-in-Ok-clause-reads_back
returns-in-Ok-clause-reads_back c =
    let is = stated-notation c.args.kernel.now c.args.shown.now c.args.theorems.now c.in-Ok.notation c.in-Ok.ensures
    c.sound.ensures in
    on_ok_weaker c.summary_text.result
    (λ _. record {
      assumptions_are = subst (All (ReadsBackAs (hidden_at c.args.kernel.now c.args.shown.now c.args.theorems.now)))
          c.assumptions.ensures.sequents (c.each_reads_back.ensures _ is);
      theorems_are = c.each_reads_back-in-Ok.ensures _ is;
    })
    c.summary_text.ensures.ok
