use Rattle.std.proofs.Common.{◌≡◌, ◌∙◌, map}
use Rattle.ot_logic.specs.PlainTrees.{term_of_tree}
use Rattle.ot_program.proofs.RunLemmas.{exported_within}
use Rattle.ot_program.proofs.FindingLemmas.{found_exports, more_found}
use Rattle.ot_program.proofs.finding.search_exports.Goals as goal

pub add-requires : goal.add-requires
add-requires c =
    let are : c.deref.result.now ≡ map (λ e. e.th) c.args.exports.now = c.deref.ensures.value
    ∙ c.in_ok-theorems.ensures in
    rw c.kernel.ensures
    (exported_within c.args.session.now c.args.exports.now c.deref.result.now are c.requires.exports)

pub returns-clause-found : goal.returns-clause-found
returns-clause-found c = λ fs h.
    let are : c.deref.result.now ≡ map (λ e. e.th) c.args.exports.now = c.deref.ensures.value
    ∙ c.in_ok-theorems.ensures in
    let is = found_exports c.args.session.now c.kernel.result.now c.args.exports.now c.deref.result.now
    c.kernel.ensures are in
    let found = rw c.as_bytes.ensures.value at (c.add.ensures.found fs h.has) in
    more_found (term_of_tree c.args.pattern.now) c.args.source.now
    c.args.search.now c.add.new.self _ _ fs is c.add.ensures.max h found
