use Rattle.std.proofs.Common.{◌<◌, length, map, IfOk, sym, subst}
use Rattle.ot_term.specs.Free.{var_key, AreFree}
use Rattle.ot_class.specs.Class.{IsNumber}
use Rattle.ot_term.specs.Term.{TermTable}
use Rattle.ot_term.specs.TermTable.{term_at, terms_of, IsClassOf}
use Rattle.ot_term.proofs.TermTableLemmas.{class_at-number, classes_within}
use Rattle.ot_term.proofs.FreeLemmas.{free_result, entry_within}
use Rattle.ot_term.proofs.table.Terms.free_keys.Goals as goal

pub class_beside-class-requires : goal.class_beside-class-requires
class_beside-class-requires c = entry_within _ _ _ c.self.invariant c.args.self.now c.self.view_is c.args.id
    c.requires

pub free_vars-requires : goal.free_vars-requires
free_vars-requires c =
    let within = entry_within _ _ _ c.self.invariant c.args.self.now c.self.view_is c.args.id c.requires in
    subst (IsNumber c.self.inside.classes) (sym c.class_beside-class.ensures)
    (classes_within _ _ _ c.self.invariant c.args.id within)

pub returns : goal.returns
returns c =
    let tys = c.self.inside.types in
    let es = c.self.inside.nodes.entries in
    let within = entry_within _ _ _ c.self.invariant c.args.self.now c.self.view_is c.args.id c.requires in
    let class = subst (IsClassOf tys c.self.inside.classes (term_at (terms_of tys es) c.args.id))
    (sym c.class_beside-class.ensures) (class_at-number _ _ _ c.self.invariant c.args.id within) in
    subst (λ (t : TermTable). IfOk c.free_vars.result
    (λ ks. AreFree t.types (term_at t.terms c.args.id) (map var_key ks.items))) c.self.view_is
    (free_result tys c.self.inside.classes _ _ class c.free_vars.result c.free_vars.ensures.free
    c.free_vars.ensures.once)
