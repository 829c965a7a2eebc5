-- A table whose types grow: its terms stay.
use Rattle.std.specs.Prelude.{◌≡◌, ℕ, ◌≤◌, max, List}
use Rattle.std.proofs.Common.{refl, sym, subst}
use Rattle.ot_logic.specs.Trees.{Ty}
use Rattle.ot_class.specs.Class.{ClassTable}
use Rattle.ot_logic.specs.Table.{Extends}
use Rattle.ot_logic.specs.Bounds.{names_in}
use Rattle.ot_logic.proofs.TableLemmas.{Extends-refl}
use Rattle.ot_type.specs.TypeTable.{IsTypeTable}
use Rattle.ot_term.specs.Term.{TermTable}
use Rattle.ot_term.specs.TermTable.{terms_of, classes_of, IsTermSound, IsGrownTo}
use Rattle.ot_term.specs.declared.term.TermNode.{TermNode}
use Rattle.ot_term.specs.declared.table.NodeInfo.{NodeInfo}
use Rattle.ot_term.proofs.TermTableLemmas.{terms_of-types, sound-types, table_of}
use Rattle.ot_term.proofs.NamesIn.{names-types}

-- what a call on types leaves of the table `old`, by what it leaves of the types
pub record TypesGrown (tys : List (Ty ℕ)) (cs : ClassTable) (es : List (TermNode × NodeInfo)) (old : TermTable)
    (us : List (Ty ℕ)) : Type 0 where
  pub sound : IsTermSound us cs es (terms_of us es)
  pub terms : terms_of us es ≡ old.terms
  pub grown : (k : ℕ) → names_in us ≤ max (names_in tys) k → IsGrownTo k old (table_of us es)

pub types_grown : (tys us : List (Ty ℕ)) (cs : ClassTable) (es : List (TermNode × NodeInfo)) (old : TermTable)
    → table_of tys es ≡ old → IsTermSound tys cs es (terms_of tys es) → Extends tys us → IsTypeTable us
    → TypesGrown tys cs es old us
types_grown tys us cs es old view sound e types =
    subst (λ (t : TermTable). TypesGrown tys cs es t us) view
    (let kept = terms_of-types tys us e cs es (terms_of tys es) sound.nodes in
    let now = subst (IsTermSound us cs es) (sym kept) (sound-types tys us e cs es (terms_of tys es) sound types) in
    record {
      sound = now;
      terms = kept;
      grown = λ k h. record {
        grows = record {
          types = e;
          terms = subst (Extends (terms_of tys es)) (sym kept)
              (Extends-refl (terms_of tys es));
          classes = Extends-refl (classes_of es);
        };
        names = names-types k tys us (terms_of tys es) (terms_of us es) (classes_of es) (table_of tys es) refl h kept;
        table = now.table;
      };
    })
