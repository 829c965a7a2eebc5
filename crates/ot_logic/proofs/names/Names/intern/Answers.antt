use Rattle.std.proofs.Common.{Some, subst, sym, ap, ◌∙◌}
use Rattle.std.specs.List.{IsDistinct}
use Rattle.ot_logic.specs.Names.{IsName, same_name, same_name-Decides}
use Rattle.ot_logic.specs.Naming.{IsNameTable}
use Rattle.ot_logic.proofs.TableLemmas.{Extends-insert_key}
use Rattle.ot_logic.proofs.NameLemmas.{name_table-insert}
use Rattle.ot_logic.proofs.names.Names.intern.Goals as goal

grown : (c : goal.In_ok-index) → IsNameTable c.insert_full.new.self.keys
grown c =
    let keys = c.in_ok-index.ensures.keys in
    subst IsNameTable (sym keys)
    (name_table-insert _ _ c.self.invariant.1 (subst (λ n. IsName n) c.name.view_is c.name.invariant)
    (subst (IsDistinct same_name) keys c.insert_full.ensures.unique))

pub invariant_of-self-2 : goal.invariant_of-self-2
invariant_of-self-2 c = (c.insert_full.ensures.unique, grown c)

-- the entry that the number leads to passes the test with the name, so it is the name
pub returns-clause-ok : goal.returns-clause-ok
returns-clause-ok c =
    let s = c.in_ok-index.ensures.stored in
    s.1 ∙ ap Some (sym ((same_name-Decides _ _).0 s.2))

pub returns-clause-extends : goal.returns-clause-extends
returns-clause-extends c = rw (c.in_ok-index.ensures.keys, c.self.view_is) (Extends-insert_key same_name _ _)

pub returns-clause-table : goal.returns-clause-table
returns-clause-table c = grown c
