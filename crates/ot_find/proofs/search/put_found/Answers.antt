use Rattle.std.specs.Prelude.{ℕ}
use Rattle.std.proofs.Common.{map, ap}
use Rattle.ot_logic.specs.Names.{Name}
use Rattle.ot_kernel.specs.State.{type_at, term_at}
use Rattle.ot_text.specs.Texts.{ascending}
use Rattle.ot_text.specs.Sections.{indented_text}
use Rattle.ot_text.proofs.Putting.{then, same-text}
use Rattle.ot_text.proofs.Gathering.{texts-through}
use Rattle.ot_match.specs.Found.{types_of, terms_of}
use Rattle.ot_find.specs.Texts.{type_line, variable_line}
use Rattle.ot_find.proofs.search.put_found.Goals as goal

pub returns : goal.returns
returns c =
    let k = c.args.kernel.now in
    let maps = c.args.maps.now in
    let types = texts-through type_line (λ (p : Name × ℕ). (p.0, type_at k p.1)) c.deref.result.now
    (types_of k maps.types.items) (ap (types_of k) c.deref.ensures.value) in
    let vars = texts-through variable_line
    (λ (p : Name × ℕ × ℕ). (record { name = p.0; ty = type_at k p.1 }, term_at k p.2)) c.deref-2.result.now
    (terms_of k maps.vars.items) (ap (terms_of k) c.deref-2.ensures.value) in
    then c.put.ensures
    (then (then (then (then (then c.put-2.ensures c.put-3.ensures) c.put-4.ensures) c.put-5.ensures)
    (same-text (ap (λ ls. indented_text (ascending ls)) types) c.put_pairs.ensures))
    (same-text (ap (λ ls. indented_text (ascending ls)) vars) c.put_pairs-2.ensures))
