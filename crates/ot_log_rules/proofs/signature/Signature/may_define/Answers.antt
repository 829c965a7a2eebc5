use Rattle.std.proofs.Common.{◌+◌, ◌&&◌, ◌∷◌, drop, drop-cons, add-one, sym, ap, ◌∙◌, arith}
use Rattle.std.proofs.lemmas.List.{drop_all}
use Rattle.indexmap.specs.IndexSet.{insert_key}
use Rattle.ot_log_rules.specs.Symbols.{mark_eq}
use Rattle.ot_log_rules.proofs.Freshness.{fresh_marks, fresh-all}
use Rattle.ot_log_rules.proofs.signature.Signature.may_define.Goals as goal

pub returns-then-not-is_fresh : goal.returns-then-not-is_fresh
returns-then-not-is_fresh c = λ dl ss sig symbols.
    let s = c.args.self.now in
    let premise = c.args.premise.now.marks.keys in
    let before = c.loop-symbol.before.keys in
    let i = c.loop-symbol.symbol-index in
    let m = c.symbol-item.result in
    let ms = c.args.symbols.now in
    let next = drop-cons ms i m c.loop-symbol-test.true
    ∙ (λ j. sym c.symbol-item.is j ∷ drop (sym (add-one i) j) ms) in
    let rest = fresh_marks s premise (insert_key mark_eq before m) (drop (i + 1) ms) in
    sym (sym (fresh-all c.args.nodes.now c.primitives.ensures.once c.primitives.ensures.first s premise dl ss ms sig
    c.requires.premise symbols c.requires.symbols)
    ∙ c.loop-symbol.invariant ∙ ap (fresh_marks s premise before) next
    ∙ ap (λ b. b && rest) (sym c.is_fresh.ensures ∙ c.if-not-is_fresh.true))

pub returns : goal.returns
returns c = λ dl ss sig symbols.
    let s = c.args.self.now in
    let premise = c.args.premise.now.marks.keys in
    let ms = c.args.symbols.now in
    sym (sym (fresh-all c.args.nodes.now c.primitives.ensures.once c.primitives.ensures.first s premise dl ss ms sig
    c.requires.premise symbols c.requires.symbols)
    ∙ c.loop-symbol.invariant
    ∙ ap (fresh_marks s premise c.loop-symbol.before.keys) (drop_all c.loop-symbol.symbol-index ms (omega arith)))
