use Rattle.std.proofs.Common.{◌≡◌, ◌∙◌, ap, sym, subst, List, map}
use Rattle.std.specs.Prelude.{Ok}
use Rattle.ot_logic.specs.Names.{Name}
use Rattle.ot_logic.specs.PlainTrees.{term_of_tree}
use Rattle.ot_parse.specs.Refused.{IsTermRefusal}
use Rattle.ot_parse.specs.declared.refusal.ReadRefusal.TheVariants.{At}
use Rattle.ot_read.specs.Lines.{term_read}
use Rattle.ot_program.specs.Runs.{notation}
use Rattle.ot_program.specs.FindPattern.{pattern_path}
use Rattle.ot_program.specs.Texts.{column_line}
use Rattle.ot_program.specs.Endings.{noted_from, noted_of}
use Rattle.ot_program.specs.Verdicts.{IsSaid}
use Rattle.ot_program.specs.Searches.{HasEndedPattern, IsPattern}
use Rattle.ot_program.specs.declared.status.Status.TheVariants.{Refused}
use Rattle.ot_program.specs.declared.report.Verdict.{Verdict}
use Rattle.ot_program.proofs.RunLemmas.{exported_within}
use Rattle.ot_program.proofs.ReadingLemmas.{same_term, term_stands}
use Rattle.ot_program.proofs.FindingLemmas.{ends_by, pattern_ended}
use Rattle.ot_program.proofs.finding.pattern_term.Goals as goal

pub run_notation-requires : goal.run_notation-requires
run_notation-requires c =
    let are : c.deref-3.result.now ≡ map (λ e. e.th) c.args.run.now.exports.items =
    c.deref-3.ensures.value ∙ c.in_ok-theorems.ensures ∙ ap (map (λ e. e.th)) c.deref.ensures.value in
    rw c.kernel.ensures (exported_within c.args.session.now
    c.args.run.now.exports.items c.deref-3.result.now are c.requires.exports)

pub returns-in-Ok-clause-is_pattern : goal.returns-in-Ok-clause-is_pattern
returns-in-Ok-clause-is_pattern c =
    let are : c.deref-3.result.now ≡ map (λ e. e.th) c.args.run.now.exports.items =
    c.deref-3.ensures.value ∙ c.in_ok-theorems.ensures ∙ ap (map (λ e. e.th)) c.deref.ensures.value in
    let s = c.args.session.now in
    let es = c.args.run.now.exports.items in
    let text = c.args.pattern.now in
    let p = term_of_tree c.in-Ok.term in
    let hidden = c.in_ok-notation.notation in
    let forms = c.as_the_forms_say.ensures.terms in
    let here = ((forms hidden c.sound.ensures text).stands p).1 (rw c.as_bytes.ensures.value at c.in-Ok.ensures.ok) in
    let there : term_read (notation (noted_from c.deref-2.result.now s es)) text ≡ Ok p =
    sym (same_term c.deref-2.result.now s c.kernel.result.now es c.deref-3.result.now c.requires.session
    c.kernel.ensures are hidden c.in_ok-notation.ensures c.sound.ensures forms text)
    ∙ here in
    let stands = term_stands c.deref-2.result.now s c.kernel.result.now es c.deref-3.result.now c.requires.session
    c.kernel.ensures are hidden c.in_ok-notation.ensures c.sound.ensures forms text p there in
    subst (λ (ns : List Name). IsPattern (noted_from ns s es) text p)
    c.deref-2.ensures.value (record { is_read = there; reads = stands })

pub returns-in-Err-At-clause-ended : goal.returns-in-Err-At-clause-ended
returns-in-Err-At-clause-ended c =
    let are : c.deref-3.result.now ≡ map (λ e. e.th) c.args.run.now.exports.items =
    c.deref-3.ensures.value ∙ c.in_ok-theorems.ensures ∙ ap (map (λ e. e.th)) c.deref.ensures.value in
    let s = c.args.session.now in
    let es = c.args.run.now.exports.items in
    let text = c.args.pattern.now in
    let hidden = c.in_ok-notation.notation in
    let forms = c.as_the_forms_say.ensures.terms in
    let column = c.in-Err-At.column in
    let fault = c.in-Err-At.fault in
    let refused : IsTermRefusal hidden text (At column fault) =
    subst (IsTermRefusal hidden text) c.in-Err-At.field-0-is
    (rw c.as_bytes.ensures.value at c.in-Err-At.ensures.refused) in
    let here = ((forms hidden c.sound.ensures text).refused _ fault).1 refused.1 in
    let there = sym (same_term c.deref-2.result.now s c.kernel.result.now es c.deref-3.result.now
    c.requires.session c.kernel.ensures are hidden c.in_ok-notation.ensures c.sound.ensures forms text)
    ∙ here in
    rw c.ending_of.ensures (ends_by (λ v. IsSaid v Refused (column_line pattern_path 1 column fault))
    (HasEndedPattern (noted_of s c.args.run.now) text) c.pattern_verdict.result
    (subst (λ (ns : List Name). (v : Verdict) → IsSaid v Refused (column_line pattern_path 1 column fault)
    → HasEndedPattern (noted_from ns s es) text v)
    c.deref-2.ensures.value
    (pattern_ended (noted_from c.deref-2.result.now s es) text column fault refused.0 hidden c.sound.ensures refused.1
    there))
    c.pattern_verdict.ensures)
