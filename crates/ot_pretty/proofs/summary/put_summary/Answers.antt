use Rattle.std.proofs.Common.{◌++◌, map, refl}
use Rattle.std.specs.Prelude.{codes, true}
use Rattle.ot_kernel.specs.State.{theorem_at}
use Rattle.ot_forms.specs.Printing.{readable_text}
use Rattle.ot_text.specs.Texts.{ascending}
use Rattle.ot_text.specs.Sections.{section_text}
use Rattle.ot_text.proofs.Putting.{then, same-text}
use Rattle.ot_text.proofs.Gathering.{texts-through}
use Rattle.ot_pretty.proofs.summary.put_summary.Goals as goal

pub returns : goal.returns
returns c =
    let s = c.args.kernel.now in
    let text_of = readable_text c.args.notation.now in
    let assumptions = texts-through text_of (theorem_at s) c.assumptions.result.now s.assumptions
    c.assumptions.ensures.sequents in
    let theorems =
    texts-through text_of (theorem_at s) c.args.theorems.now (map (theorem_at s) c.args.theorems.now) refl in
    same-text
    (λ j. section_text true (codes "assumptions") (ascending (assumptions j))
    ++ section_text true (codes "theorems") (theorems j))
    (then c.put_sorted_section.ensures c.put_section.ensures)
