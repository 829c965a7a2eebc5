use Rattle.std.proofs.Common.{◌<◌, length, IfOk, sym, subst}
use Rattle.ot_term.specs.Free.{AreTypesOf}
use Rattle.ot_class.specs.Class.{IsNumber}
use Rattle.ot_term.specs.Term.{TermTable}
use Rattle.ot_term.specs.TermTable.{term_at, terms_of, IsClassOf}
use Rattle.ot_term.proofs.TermTableLemmas.{class_at-number, classes_within}
use Rattle.ot_term.proofs.FreeNamed.{types_of_result}
use Rattle.ot_term.proofs.FreeLemmas.{entry_within}
use Rattle.ot_term.proofs.table.Terms.types_of_name.Goals as goal

pub class_beside-class-requires : goal.class_beside-class-requires
class_beside-class-requires c = entry_within _ _ _ c.self.invariant c.args.self.now c.self.view_is c.args.id
    c.requires

pub types_of-requires : goal.types_of-requires
types_of-requires c =
    let within = entry_within _ _ _ c.self.invariant c.args.self.now c.self.view_is c.args.id c.requires in
    subst (IsNumber c.self.inside.classes) (sym c.class_beside-class.ensures)
    (classes_within _ _ _ c.self.invariant c.args.id within)

pub returns-clause-types : goal.returns-clause-types
returns-clause-types c =
    let tys = c.self.inside.types in
    let es = c.self.inside.nodes.entries in
    let within = entry_within _ _ _ c.self.invariant c.args.self.now c.self.view_is c.args.id c.requires in
    let class = subst (IsClassOf tys c.self.inside.classes (term_at (terms_of tys es) c.args.id))
    (sym c.class_beside-class.ensures) (class_at-number _ _ _ c.self.invariant c.args.id within) in
    subst (λ (t : TermTable). IfOk c.types_of.result
    (λ ks. AreTypesOf t.types c.args.name (term_at t.terms c.args.id) ks.items)) c.self.view_is
    (types_of_result tys c.self.inside.classes _ _ class c.args.name c.types_of.result c.types_of.ensures.free
    c.types_of.ensures.once)
