use Rattle.std.proofs.Common.{◌≡◌, ◌∙◌, Some, eqb-true, sym, ap, subst}
use Rattle.ot_log_nodes.specs.Items.{TermItem, IsTerm, term_at}
use Rattle.ot_log_nodes.specs.Changing.{changed, changing}
use Rattle.ot_log_nodes.proofs.ItemLemmas.{term-is}
use Rattle.ot_log_nodes.proofs.MapLemmas.{close-kept_at}
use Rattle.ot_log_nodes.proofs.table.change.kept_at.Goals as goal

pub returns-then-eq : goal.returns-then-eq
returns-then-eq c = λ ts h.
    let t = term_at ts c.args.id in
    let w = changing ts c.args.change.now in
    let same : c.args.made ≡ c.args.id = eqb-true c.args.made c.args.id (sym c.eq.ensures ∙ c.if-eq.true) in
    let here = subst (λ r. IsTerm ts r (changed w c.args.depth t)) same h in
    h ∙ ap (λ u. Some (TermItem u)) (sym (term-is ts c.args.id _ here)
    ∙ sym (close-kept_at ts c.args.change.now _ c.args.depth 0 c.args.id c.in-Close.is here))
