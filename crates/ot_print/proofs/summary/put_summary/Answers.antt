use Rattle.std.proofs.Common.{◌++◌, map, refl}
use Rattle.std.specs.Prelude.{codes}
use Rattle.ot_kernel.specs.State.{theorem_at}
use Rattle.ot_kernel.specs.Definitions.{definition_at}
use Rattle.ot_text.specs.Texts.{ascending, sequent_text}
use Rattle.ot_text.specs.Sections.{definition_text, section_text}
use Rattle.ot_text.proofs.Putting.{then, same-text}
use Rattle.ot_text.proofs.Gathering.{texts-through}
use Rattle.ot_print.proofs.summary.put_summary.Goals as goal

pub returns : goal.returns
returns c =
    let s = c.args.kernel.now in
    let assumptions = texts-through sequent_text (theorem_at s) c.assumptions.result.now s.assumptions
    c.assumptions.ensures.sequents in
    let definitions = texts-through definition_text (definition_at s) c.definitions.result.now s.definitions
    c.definitions.ensures.definitions in
    let theorems =
    texts-through sequent_text (theorem_at s) c.args.theorems.now (map (theorem_at s) c.args.theorems.now) refl in
    same-text
    (λ j. section_text c.args.sections.assumptions (codes "assumptions") (ascending (assumptions j))
    ++ section_text c.args.sections.definitions (codes "definitions") (definitions j)
    ++ section_text c.args.sections.theorems (codes "theorems") (theorems j))
    (then (then c.put_sorted_section.ensures c.put_section.ensures) c.put_section-2.ensures)
