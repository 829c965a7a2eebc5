use Rattle.std.proofs.Common.{cond, true, false, sym, subst, ◌∙◌}
use Rattle.std.proofs.lemmas.Result.{IfOk-weaker}
use Rattle.ot_log_records.specs.Expansions.{trans_entries, trans_of}
use Rattle.std.specs.Prelude.{Some}
use Rattle.ot_log_nodes.specs.Items.{type_at, term_at}
use Rattle.ot_log_page.specs.Sheets.{Adds}
use Rattle.ot_log_words.specs.Recording.{sides_at}
use Rattle.ot_log_words.proofs.Recorded.{chain-by}
use Rattle.ot_log_words.proofs.words.write_chain.Goals as goal

pub returns-then-eq-clause-adds : goal.returns-then-eq-clause-adds
returns-then-eq-clause-adds c =
    let ts = c.args.nodes.now in
    let e = c.args.e in
    let f = c.args.f in
    let old = c.args.sheet.now in
    let new = c.write_trans.new.sheet in
    IfOk-weaker c.write_trans.result _ (λ n. Adds ts c.write_trans.new.nodes old new
    (λ x. trans_of x.sequents (Some (sides_at ts e)) (Some (sides_at ts f)) c.args.i c.args.j) n)
    (λ n A. subst (λ b. Adds ts c.write_trans.new.nodes old new
    (λ x. cond b (trans_entries x.sequents (type_at ts e.ty) (term_at ts e.left) c.args.i c.args.j)
    (trans_entries x.sequents (type_at ts f.ty) (term_at ts f.left) c.args.j c.args.i)) n)
    (sym (chain-by ts c.primitives.ensures.once e f true c.requires.e c.requires.f (sym c.eq.ensures ∙ c.if-eq.true)))
    A)
    c.write_trans.ensures.adds

pub returns-else-eq-clause-adds : goal.returns-else-eq-clause-adds
returns-else-eq-clause-adds c =
    let ts = c.args.nodes.now in
    let e = c.args.e in
    let f = c.args.f in
    let old = c.args.sheet.now in
    let new = c.write_trans-else-eq.new.sheet in
    IfOk-weaker c.write_trans-else-eq.result _ (λ n. Adds ts c.write_trans-else-eq.new.nodes old new
    (λ x. trans_of x.sequents (Some (sides_at ts e)) (Some (sides_at ts f)) c.args.i c.args.j) n)
    (λ n A. subst (λ b. Adds ts c.write_trans-else-eq.new.nodes old new
    (λ x. cond b (trans_entries x.sequents (type_at ts e.ty) (term_at ts e.left) c.args.i c.args.j)
    (trans_entries x.sequents (type_at ts f.ty) (term_at ts f.left) c.args.j c.args.i)) n)
    (sym (chain-by ts c.primitives.ensures.once e f false c.requires.e c.requires.f
    (sym c.eq.ensures ∙ c.if-eq.false))) A)
    c.write_trans-else-eq.ensures.adds
