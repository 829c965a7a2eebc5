use Rattle.std.specs.Prelude.{Result, Ok, IfOk, IfErr}
use Rattle.std.proofs.Common.{◌≡◌, ◌∙◌, ap, subst, List, map}
use Rattle.ot_logic.specs.Names.{Name}
use Rattle.ot_logic.specs.Trees.{Sequent}
use Rattle.ot_theory.specs.Lines.{lines_of}
use Rattle.ot_parse.specs.Plain.{sequent_of}
use Rattle.ot_read.specs.Lines.{RefusedLine, lines_read, IsLineRefusal}
use Rattle.ot_read.specs.Laws.{StandFor}
use Rattle.ot_program.specs.Runs.{notation}
use Rattle.ot_program.specs.Endings.{noted_from}
use Rattle.ot_program.proofs.RunLemmas.{exported_within}
use Rattle.ot_program.proofs.ReadingLemmas.{same_lines, they_stand, all_stand, they_refuse, line_refused}
use Rattle.ot_program.proofs.reading.read_bytes.Goals as goal

pub run_notation-requires : goal.run_notation-requires
run_notation-requires c =
    let are : c.deref-3.result.now ≡ map (λ e. e.th) c.args.run.now.exports.items =
    c.deref-3.ensures.value ∙ c.in_ok-theorems.ensures ∙ ap (map (λ e. e.th)) c.deref.ensures.value in
    rw c.kernel.ensures (exported_within c.args.session.now
    c.args.run.now.exports.items c.deref-3.result.now are c.requires.exports)

pub returns-clause-ok : goal.returns-clause-ok
returns-clause-ok c =
    let are : c.deref-3.result.now ≡ map (λ e. e.th) c.args.run.now.exports.items =
    c.deref-3.ensures.value ∙ c.in_ok-theorems.ensures ∙ ap (map (λ e. e.th)) c.deref.ensures.value in
    let s = c.args.session.now in
    let es = c.args.run.now.exports.items in
    let ls = lines_of c.args.text.now in
    let e = same_lines c.deref-2.result.now s c.kernel.result.now es c.deref-3.result.now c.requires.session
    c.kernel.ensures
    are c.in_ok-notation.notation c.in_ok-notation.ensures c.sound.ensures c.as_the_forms_say.ensures.lines ls
    ∙ ap (λ ns. lines_read (notation (noted_from ns s es)) ls) c.deref-2.ensures.value in
    subst
    (λ (o : Result (List (Sequent Name)) RefusedLine). IfOk c.read_lines.result
    (λ read. o ≡ Ok (map sequent_of read.items))) e
    c.read_lines.ensures.ok

pub returns-clause-stand : goal.returns-clause-stand
returns-clause-stand c =
    let are : c.deref-3.result.now ≡ map (λ e. e.th) c.args.run.now.exports.items =
    c.deref-3.ensures.value ∙ c.in_ok-theorems.ensures ∙ ap (map (λ e. e.th)) c.deref.ensures.value in
    let s = c.args.session.now in
    let es = c.args.run.now.exports.items in
    let ls = lines_of c.args.text.now in
    let e = same_lines c.deref-2.result.now s c.kernel.result.now es c.deref-3.result.now c.requires.session
    c.kernel.ensures
    are c.in_ok-notation.notation c.in_ok-notation.ensures c.sound.ensures c.as_the_forms_say.ensures.lines
    ls in
    let stated = notation (noted_from c.deref-2.result.now s es) in
    let stand = all_stand stated ls c.read_lines.result
    (they_stand c.deref-2.result.now s c.kernel.result.now es c.deref-3.result.now c.requires.session c.kernel.ensures
    are c.in_ok-notation.notation c.in_ok-notation.ensures c.sound.ensures c.as_the_forms_say.ensures.texts
    ls)
    (subst
    (λ (o : Result (List (Sequent Name)) RefusedLine). IfOk c.read_lines.result
    (λ read. o ≡ Ok (map sequent_of read.items))) e
    c.read_lines.ensures.ok)
    in
    subst (λ (ns : List Name). IfOk c.read_lines.result
    (λ read. StandFor (notation (noted_from ns s es)) ls (map sequent_of read.items)))
    c.deref-2.ensures.value stand

pub returns-clause-refused : goal.returns-clause-refused
returns-clause-refused c =
    let are : c.deref-3.result.now ≡ map (λ e. e.th) c.args.run.now.exports.items =
    c.deref-3.ensures.value ∙ c.in_ok-theorems.ensures ∙ ap (map (λ e. e.th)) c.deref.ensures.value in
    let s = c.args.session.now in
    let es = c.args.run.now.exports.items in
    let ls = lines_of c.args.text.now in
    let e = same_lines c.deref-2.result.now s c.kernel.result.now es c.deref-3.result.now c.requires.session
    c.kernel.ensures
    are c.in_ok-notation.notation c.in_ok-notation.ensures c.sound.ensures c.as_the_forms_say.ensures.lines ls
    ∙ ap (λ ns. lines_read (notation (noted_from ns s es)) ls) c.deref-2.ensures.value in
    subst (λ (o : Result (List (Sequent Name)) RefusedLine). IfErr c.read_lines.result (IsLineRefusal o))
    e c.read_lines.ensures.refused

pub returns-clause-first : goal.returns-clause-first
returns-clause-first c =
    let are : c.deref-3.result.now ≡ map (λ e. e.th) c.args.run.now.exports.items =
    c.deref-3.ensures.value ∙ c.in_ok-theorems.ensures ∙ ap (map (λ e. e.th)) c.deref.ensures.value in
    let s = c.args.session.now in
    let es = c.args.run.now.exports.items in
    let ls = lines_of c.args.text.now in
    let hidden = c.in_ok-notation.notation in
    let e = same_lines c.deref-2.result.now s c.kernel.result.now es c.deref-3.result.now c.requires.session
    c.kernel.ensures are hidden c.in_ok-notation.ensures c.sound.ensures c.as_the_forms_say.ensures.lines ls in
    line_refused (lines_read (notation (noted_from c.deref-2.result.now s es)) ls) c.read_lines.result
    (they_refuse c.deref-2.result.now s c.kernel.result.now es c.deref-3.result.now c.requires.session c.kernel.ensures
    are hidden c.in_ok-notation.ensures c.sound.ensures c.as_the_forms_say.ensures.texts ls)
    (subst (λ (o : Result (List (Sequent Name)) RefusedLine). IfErr c.read_lines.result (IsLineRefusal o)) e
    c.read_lines.ensures.refused)
