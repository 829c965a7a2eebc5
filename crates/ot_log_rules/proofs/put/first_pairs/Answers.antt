use Rattle.std.proofs.Common.{◌++◌, ◌∷◌, ◌+◌, drop, drop-cons, add-one, sym, ap, ◌∙◌, arith}
use Rattle.std.proofs.lemmas.List.{drop_all}
use Rattle.ot_log_rules.specs.Putting.{firsts}
use Rattle.ot_log_rules.proofs.Substituting.{outside, outside-none, outside-end, first-next}
use Rattle.ot_log_rules.proofs.put.first_pairs.Goals as goal

pub loop-pair-init : goal.loop-pair-init
loop-pair-init g c =
    ap (λ es. es ++ outside g.K.PartialEq.eq es (firsts g.K.PartialEq.eq c.args.pairs.now)) c.new-first.ensures.empty
    ∙ outside-none g.K.PartialEq.eq c.requires (firsts g.K.PartialEq.eq c.args.pairs.now)

pub loop-pair-preserved : goal.loop-pair-preserved
loop-pair-preserved g c =
    let same = g.K.PartialEq.eq in
    let es = c.loop-pair.first.entries in
    let i = c.loop-pair.pair-index in
    let p = c.pair-item.result in
    let next = drop-cons c.args.pairs.now i p c.loop-pair-test.true
    ∙ (λ j. sym c.pair-item.is j ∷ drop (sym (add-one i) j) c.args.pairs.now) in
    ap (λ fs. fs ++ outside same fs (firsts same (drop (i + 1) c.args.pairs.now))) c.in_ok-add_new.ensures
    ∙ sym (first-next same c.requires es p (drop (i + 1) c.args.pairs.now))
    ∙ sym (ap (λ l. es ++ outside same es (firsts same l)) next)
    ∙ c.loop-pair.invariant

pub returns : goal.returns
returns g c =
    let same = g.K.PartialEq.eq in
    let es = c.loop-pair.first.entries in
    sym (outside-end same c.requires es)
    ∙ sym (ap (λ l. es ++ outside same es (firsts same l))
    (drop_all c.loop-pair.pair-index c.args.pairs.now (omega arith))) ∙ c.loop-pair.invariant
