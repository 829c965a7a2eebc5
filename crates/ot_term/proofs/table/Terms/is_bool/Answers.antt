use Rattle.std.specs.Prelude.{◌↔◌, IsTrue}
use Rattle.std.proofs.Common.{◌≡◌, ℕ, List, ap, sym, subst, ◌∙◌}
use Rattle.ot_logic.specs.Trees.{Ty}
use Rattle.ot_logic.specs.Hol.{bool_ty}
use Rattle.ot_logic.specs.Naming.{numbers}
use Rattle.ot_type.specs.TypeTable.{type_at}
use Rattle.ot_type.proofs.TypeTableLemmas.{node_op, node_var}
use Rattle.ot_term.proofs.EqualityTests.{bool_op, not_so}
use Rattle.ot_term.proofs.table.Terms.is_bool.Goals as goal

pub returns-in-Op : goal.returns-in-Op
returns-in-Op c =
    let tys = c.self.inside.types in
    let types : tys ≡ c.args.self.now.types = ap (λ t. t.types) c.self.view_is in
    let root = node_op tys c.args.ty c.node.result.now c.in-Op.name c.in-Op.args c.as_slice.result.now
    c.node.ensures.tree c.in-Op.is c.as_slice.ensures in
    subst (λ (ts : List (Ty ℕ)). IsTrue c.names_bool.result ↔ (type_at ts c.args.ty ≡ bool_ty numbers)) types
    (subst (λ (t : Ty ℕ). IsTrue c.names_bool.result ↔ (t ≡ bool_ty numbers)) (sym root)
    (bool_op tys c.in-Op.name c.as_slice.result.now c.names_bool.result c.names_bool.ensures))

pub returns-in-Var : goal.returns-in-Var
returns-in-Var c =
    let types : c.self.inside.types ≡ c.args.self.now.types = ap (λ t. t.types) c.self.view_is in
    let root = node_var c.self.inside.types c.args.ty c.node.result.now c.in-Var.field-0 c.node.ensures.tree
    c.in-Var.is in
    not_so (λ e. let shape = sym root ∙ ap (λ ts. type_at ts c.args.ty) types ∙ e in cc)
