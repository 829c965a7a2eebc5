use Rattle.std.proofs.Common.{ℕ, ◌<◌, map, sym, ap, subst, ◌∙◌, length, arith}
use Rattle.std.specs.List.{All}
use Rattle.ot_logic.specs.Naming.{names}
use Rattle.ot_interp.specs.Interpretation.{renamed}
use Rattle.ot_trace.specs.Origins.{elements, renamed_first, operand, constant_origin}
use Rattle.ot_trace.specs.Trace.{origin_at}
use Rattle.ot_machine.specs.Contexts.{context_of}
use Rattle.ot_machine.specs.Meaning.{origin_of}
use Rattle.ot_machine.specs.RenamedLists.{list_onto}
use Rattle.ot_machine.proofs.Traced.{traces-none, traces-on, traced-origin, number-later}
use Rattle.ot_machine.proofs.RenamedLists.{list-renamed, list-made, constants-made}
use Rattle.ot_machine.proofs.session.Session.renamed_list.Goals as goal

pub renamed_each-requires-clause-inside : goal.renamed_each-requires-clause-inside
renamed_each-requires-clause-inside c =
    subst (All (λ i. i < length c.args.self.now.trace)) (sym c.deref.ensures.value)
    c.in_ok-found.ensures.inside

pub list_step-requires-clause-inside : goal.list_step-requires-clause-inside
list_step-requires-clause-inside c = subst (All (λ i. i < length c.renamed_each.new.self.trace))
    (sym c.deref-2.ensures.value) c.in_ok-pairs.ensures.inside

pub list_step-requires-clause-end : goal.list_step-requires-clause-end
list_step-requires-clause-end c =
    omega (arith, c.in_ok-found.ensures.end_inside, c.in_ok-pairs.ensures.kept.grown.longer)

pub symbols_of-requires-clause-inside : goal.symbols_of-requires-clause-inside
symbols_of-requires-clause-inside c =
    let P = λ (i : ℕ). i < length c.list_step.new.self.trace in
    let found = c.in_ok-found.ensures.inside in
    let pairs = c.in_ok-pairs.ensures in
    let longer = c.in_ok-list.ensures.kept.grown.longer in
    subst (All P) (sym c.deref-3.ensures.value)
    (λ k d q. omega (arith, found k d, pairs.inside k d, pairs.kept.grown.longer, longer))

pub returns-in_err-found-clause-kept : goal.returns-in_err-found-clause-kept
returns-in_err-found-clause-kept c = traces-none c.args.self.now c.requires.run

pub returns-in_err-list-clause-kept : goal.returns-in_err-list-clause-kept
returns-in_err-list-clause-kept c = traces-on c.args.self.now c.renamed_each.new.self c.list_step.new.self
    c.in_ok-pairs.ensures.kept c.in_err-list.ensures.kept

pub returns-in_err-symbols-clause-kept : goal.returns-in_err-symbols-clause-kept
returns-in_err-symbols-clause-kept c =
    traces-on c.args.self.now c.renamed_each.new.self c.symbols_of.new.self
    c.in_ok-pairs.ensures.kept
    (traces-on c.renamed_each.new.self c.list_step.new.self c.symbols_of.new.self
    c.in_ok-list.ensures.kept c.in_err-symbols.ensures.kept)

pub returns-clause-kept : goal.returns-clause-kept
returns-clause-kept c =
    traces-on c.args.self.now c.renamed_each.new.self c.symbols_of.new.self
    c.in_ok-pairs.ensures.kept
    (traces-on c.renamed_each.new.self c.list_step.new.self c.symbols_of.new.self
    c.in_ok-list.ensures.kept c.in_ok-symbols.ensures.kept)

pub returns-clause-list_step : goal.returns-clause-list_step
returns-clause-list_step c = omega (arith, c.in_ok-list.ensures.inside, c.in_ok-symbols.ensures.kept.grown.longer)

pub returns-clause-made : goal.returns-clause-made
returns-clause-made c =
    let s = c.args.self.now in
    let t1 = c.renamed_each.new.self in
    let t2 = c.list_step.new.self in
    let t = c.symbols_of.new.self in
    let one = c.in_ok-pairs.ensures.kept in
    let two = c.in_ok-list.ensures.kept in
    let three = c.in_ok-symbols.ensures.kept in
    let f = renamed names (context_of s c.args.context.now).interpretation.constants in
    let found = c.in_ok-found.found.items in
    let end = c.in_ok-found.end in
    let pairs = c.in_ok-pairs.pairs.items in
    let list = c.in_ok-list.list in
    let at = origin_at t1.trace in
    let made = c.in_ok-list.ensures.made ∙ ap (λ ps. list_onto (map at ps) (at end)) c.deref-2.ensures.value in
    let each = c.in_ok-pairs.ensures.made ∙ ap (map (λ i. renamed_first f (origin_of s i))) c.deref.ensures.value in
    let last = traced-origin s t1 c.requires.run one end c.in_ok-found.ensures.end_inside in
    traced-origin t2 t two.is_run three list c.in_ok-list.ensures.inside
    ∙ list-made t1 t2 two list end pairs made
    ∙ (λ i. list_onto (each i) (last i))
    ∙ sym (list-renamed s f c.args.list end found c.in_ok-found.ensures.read c.in_ok-found.ensures.end)

pub returns-clause-symbols : goal.returns-clause-symbols
returns-clause-symbols c =
    let s = c.args.self.now in
    let t1 = c.renamed_each.new.self in
    let t2 = c.list_step.new.self in
    let t = c.symbols_of.new.self in
    let one = c.in_ok-pairs.ensures.kept in
    let two = c.in_ok-list.ensures.kept in
    let end = c.in_ok-found.end in
    let pairs = c.in_ok-pairs.pairs.items in
    let list = c.in_ok-list.list in
    let at = origin_at t1.trace in
    let made = number-later t2 t c.in_ok-symbols.ensures.kept list c.in_ok-list.ensures.inside
    ∙ c.in_ok-list.ensures.made ∙ ap (λ ps. list_onto (map at ps) (at end)) c.deref-2.ensures.value in
    let ends = ap elements (number-later s t1 one end c.in_ok-found.ensures.end_inside)
    ∙ c.in_ok-found.ensures.end in
    let symbols = c.in_ok-symbols.ensures.made
    ∙ ap (map (λ i. constant_origin (operand 0 (origin_at t2.trace i)))) c.deref-3.ensures.value in
    constants-made t1 t2 one.is_run two end pairs (map (origin_at t.trace) c.in_ok-symbols.symbols.items)
    (origin_at t.trace list) c.in_ok-pairs.ensures.inside ends made symbols
