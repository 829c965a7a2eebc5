use Rattle.std.proofs.Common.{rules, ◌∙◌, map, sym, ap}
use Rattle.std.specs.Prelude.{Ok}
use Rattle.ot_logic.specs.Answers.{◌>>=◌}
use Rattle.ot_kernel.specs.State.{term_at}
use Rattle.ot_machine.specs.Places.{replaced}
use Rattle.ot_machine.specs.Rows.{theorem_entry}
use Rattle.ot_machine.specs.Discharge.{axiom_row}
use Rattle.ot_machine.specs.Contexts.{context_of, given_of}
use Rattle.ot_machine.specs.Meaning.{run_of, machine_state}
use Rattle.ot_machine.proofs.Kept.{article-kept, of-kept}
use Rattle.ot_machine.proofs.Turning.{refused-turn, axiom-read}
use Rattle.ot_machine.proofs.rows.theorems.axiom.Goals as goal

pub returns-in_err-given : goal.returns-in_err-given
returns-in_err-given c =
    let s = c.args.session.now in
    let k = s.kernel in
    let t = c.axiom.new.self in
    let m = c.args.machine.now in
    let st = machine_state s m in
    let there = c.in_err-given.ensures in
    let row = axiom-read (context_of s c.args.context.now) st _ _ _ (map (term_at k) c.deref.result.now)
    c.in_ok-concl.ensures.found c.in_ok-list.ensures.entry
    (c.in_ok-hyps.ensures.found ∙ ap (λ is. Ok (map (term_at k) is)) (sym c.deref.ensures.value)) in
    refused-turn _ c.in_err-given.field-0.0 (axiom_row (context_of s c.args.context.now)) s m t m (search rules)
    (λ i. record { article = article-kept s t m c.requires.of there.adds.grown i; run = there.adds.refused i }) (
      there.made.0,
      λ f p. row
          ∙ ap (λ r. r >>= λ e.
          Ok (record { article = record st.article { stack = replaced 2 e.0 st.article.stack }; run = e.1 }))
          (there.made.1 f p),
    )
    there.adds.grown (of-kept s t m c.requires.of there.adds.grown there.adds.is_run)

pub replace-requires-clause-of : goal.replace-requires-clause-of
replace-requires-clause-of c =
    let adds = c.in_ok-given.ensures.adds in
    of-kept c.args.session.now c.axiom.new.self c.args.machine.now c.requires.of adds.grown adds.is_run

pub returns : goal.returns
returns c =
    let s = c.args.session.now in
    let k = s.kernel in
    let t = c.axiom.new.self in
    let m = c.args.machine.now in
    let st = machine_state s m in
    let there = c.in_ok-given.ensures in
    let row = axiom-read (context_of s c.args.context.now) st _ _ _ (map (term_at k) c.deref.result.now)
    c.in_ok-concl.ensures.found c.in_ok-list.ensures.entry
    (c.in_ok-hyps.ensures.found ∙ ap (λ is. Ok (map (term_at k) is)) (sym c.deref.ensures.value)) in
    let e = theorem_entry (given_of t c.in_ok-given.given) in
    record {
      moves = row
          ∙ ap (λ r. r
          >>= λ e. Ok (record {
            article = record st.article { stack = replaced 2 e.0 st.article.stack };
            run = e.1;
          })) there.made
          ∙ sym (ap (λ a. Ok (record { article = a; run = run_of t })) (c.replace.ensures.changed
          ∙ (λ i. let a = article-kept s t m c.requires.of there.adds.grown i in
          record a { stack = replaced 2 e a.stack })));
      grown = there.adds.grown;
      of = c.replace.ensures.of;
    }
