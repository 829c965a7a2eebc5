use Rattle.std.specs.Prelude.{Ok}
use Rattle.std.proofs.Common.{sym, ap, ◌∙◌, refl}
use Rattle.ot_logic.specs.PlainTrees.{term_of_tree}
use Rattle.ot_kernel.specs.State.{term_at, theorem_at}
use Rattle.ot_find.proofs.Pieces.{stopped-step, none-step, some-step}
use Rattle.ot_find.proofs.search.Search.add_theorem.Goals as goal

pub returns-then-is_stopped-clause-found : goal.returns-then-is_stopped-clause-found
returns-then-is_stopped-clause-found c =
    λ fs h. stopped-step c.args.self.now fs _ (sym c.is_stopped.ensures ∙ c.if-is_stopped.true) h

pub returns-in-Ok-Some-clause-found : goal.returns-in-Ok-Some-clause-found
returns-in-Ok-Some-clause-found c = λ fs h.
    some-step c.args.kernel.now (term_of_tree c.args.pattern.now) c.args.source.now
    (theorem_at c.args.kernel.now c.args.th) (term_at c.args.kernel.now c.concl.result) c.find_match.result
    c.find_match.ensures.matched c.concl.ensures.concl c.args.self.now fs h
    c.in-Ok-Some.maps (c.in-Ok-Some.is ∙ ap Ok c.in-Ok-Some.field-0-is)
    (record { page = c.put_found.new.page; count = c.one_more-self.result; max = c.args.self.now.max })
    refl c.put_found.ensures c.one_more-self.ensures

pub returns-in-Ok-None-clause-found : goal.returns-in-Ok-None-clause-found
returns-in-Ok-None-clause-found c = λ fs h.
    none-step c.args.kernel.now (term_of_tree c.args.pattern.now) c.args.source.now
    (theorem_at c.args.kernel.now c.args.th) (term_at c.args.kernel.now c.concl.result) c.find_match.result
    c.find_match.ensures.matched c.concl.ensures.concl c.args.self.now fs h
    (c.in-Ok-None.is ∙ ap Ok c.in-Ok-None.field-0-is)
