use Rattle.std.proofs.Common.{◌≡◌, ◌∙◌, List, [], ◌∷◌, codes, subst, sym}
use Rattle.std.specs.List.{IsDistinct}
use Rattle.indexmap.specs.IndexSet.{insert_key}
use Rattle.ot_logic.specs.Names.{Name, same_name}
use Rattle.ot_logic.specs.Naming.{IsNameTable, first_names}
use Rattle.ot_logic.proofs.NameLemmas.{first_table}
use Rattle.ot_logic.proofs.names.Names.new.Goals as goal

-- one insert after another
next : (old mid new : List Name) (n m : Name) → mid ≡ old → new ≡ insert_key same_name mid n → n ≡ m
    → new ≡ insert_key same_name old m
next old mid new n m p q r = q ∙ (λ i. insert_key same_name (p i) (r i))

pub invariant_of-result : goal.invariant_of-result
invariant_of-result c =
    let one = next [] _ _ _ (codes "->" ∷ []) c.new-entries.ensures.empty c.in_ok-insert.ensures.keys
    c.in_ok-of_text.ensures in
    let two = next _ _ _ _ (codes "bool" ∷ []) one c.in_ok-insert-2.ensures.keys c.in_ok-of_text-2.ensures in
    let three = next _ _ _ _ (codes "=" ∷ []) two c.in_ok-insert-3.ensures.keys c.in_ok-of_text-3.ensures in
    let four = next _ _ _ _ (codes "a" ∷ []) three c.in_ok-insert-4.ensures.keys c.in_ok-of_text-4.ensures in
    let keys : c.insert-5.new.self.keys ≡ first_names =
    next _ _ _ _ (codes "r" ∷ []) four c.in_ok-insert-5.ensures.keys c.in_ok-of_text-5.ensures in (
      c.insert-5.ensures.unique,
      subst IsNameTable (sym keys)
          (first_table (subst (IsDistinct same_name) keys c.insert-5.ensures.unique)),
    )
