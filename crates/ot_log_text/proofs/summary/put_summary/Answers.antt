use Rattle.std.proofs.Common.{◌++◌, map, refl}
use Rattle.std.specs.Prelude.{codes, true}
use Rattle.ot_log_rules.specs.Statements.{sequent_at}
use Rattle.ot_log_rules.specs.Accepting.{accepted_at}
use Rattle.ot_text.specs.Texts.{ascending, sequent_text}
use Rattle.ot_text.specs.Sections.{definition_text, section_text}
use Rattle.ot_text.proofs.Putting.{then, same-text}
use Rattle.ot_text.proofs.Gathering.{texts-through}
use Rattle.ot_log_text.proofs.summary.put_summary.Goals as goal

pub returns : goal.returns
returns c =
    let ts = c.args.nodes.now in
    let assumptions = texts-through sequent_text (sequent_at ts) c.args.assumptions.now
    (map (sequent_at ts) c.args.assumptions.now) refl in
    let definitions = texts-through definition_text (accepted_at ts) c.args.definitions.now
    (map (accepted_at ts) c.args.definitions.now) refl in
    let results =
    texts-through sequent_text (sequent_at ts) c.args.results.now (map (sequent_at ts) c.args.results.now) refl in
    same-text
    (λ j. section_text true (codes "assumptions") (ascending (assumptions j)) ++ section_text true
    (codes "definitions") (definitions j) ++ section_text true (codes "theorems") (results j))
    (then (then c.put_sorted_section.ensures c.put_section.ensures) c.put_section-2.ensures)
