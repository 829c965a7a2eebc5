use Rattle.std.proofs.Common.{◌<◌, Decides, length, sym, subst}
use Rattle.ot_logic.specs.Hol.{IsClosed}
use Rattle.ot_logic.specs.NamedTerms.{nameless}
use Rattle.ot_logic.specs.Naming.{numbers}
use Rattle.ot_class.specs.Class.{IsNumber}
use Rattle.ot_term.specs.Term.{TermTable}
use Rattle.ot_term.specs.TermTable.{term_at, terms_of, IsClassOf}
use Rattle.ot_term.proofs.TermTableLemmas.{class_at-number, classes_within}
use Rattle.ot_term.proofs.FreeLemmas.{closed_of_class, entry_within}
use Rattle.ot_term.proofs.table.Terms.is_closed.Goals as goal

pub class_beside-requires : goal.class_beside-requires
class_beside-requires c = entry_within _ _ _ c.self.invariant c.args.self.now c.self.view_is c.args.id c.requires

pub is_closed-requires : goal.is_closed-requires
is_closed-requires c =
    let within = entry_within _ _ _ c.self.invariant c.args.self.now c.self.view_is c.args.id c.requires in
    subst (IsNumber c.self.inside.classes) (sym c.class_beside.ensures)
    (classes_within _ _ _ c.self.invariant c.args.id within)

pub returns : goal.returns
returns c =
    let tys = c.self.inside.types in
    let es = c.self.inside.nodes.entries in
    let within = entry_within _ _ _ c.self.invariant c.args.self.now c.self.view_is c.args.id c.requires in
    let class = subst (IsClassOf tys c.self.inside.classes (term_at (terms_of tys es) c.args.id))
    (sym c.class_beside.ensures) (class_at-number _ _ _ c.self.invariant c.args.id within) in
    subst (λ (t : TermTable). Decides c.is_closed.result
    (IsClosed numbers (nameless numbers (term_at t.terms c.args.id)))) c.self.view_is
    (closed_of_class tys c.self.inside.classes _ _ class c.is_closed.result c.is_closed.ensures)
