use Rattle.std.proofs.Common.{length}
use Rattle.ot_leads.proofs.ColumnLemmas.{listed}
use Rattle.ot_leads.proofs.column.Column.places.Goals as goal

pub returns-clause-all : goal.returns-clause-all
returns-clause-all c = λ p.
    let all = listed (length c.args.self.now.of.items) c.args.self.now c.requires.column c.args.set _
    c.push_added.new.out.items c.new-places.ensures.items c.in_ok-push_added.ensures p in
    let same = c.rising.ensures.same p in
    (λ m. all.0 (same.0 m), λ has. same.1 (all.1 has))
