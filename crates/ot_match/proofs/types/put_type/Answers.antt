use Rattle.std.specs.Option.{option_map}
use Rattle.std.proofs.Common.{◌<◌, ◌++◌, ◌∷◌, [], ◌∙◌, sym, ap, length, Some, ℕ}
use Rattle.std.proofs.lemmas.List.{map-append}
use Rattle.ot_logic.specs.Names.{Name, same_name}
use Rattle.ot_logic.specs.Naming.{names}
use Rattle.ot_logic.specs.Hol.{same_ty}
use Rattle.ot_kernel.specs.State.{type_at}
use Rattle.ot_match.specs.Found.{types_of}
use Rattle.ot_match.specs.Steps.{answered}
use Rattle.ot_match.proofs.Holding.{put_found, put_new, lookup_all, lookup_values}
use Rattle.ot_match.proofs.types.put_type.Goals as goal

pub same_type-requires-clause-right : goal.same_type-requires-clause-right
same_type-requires-clause-right c =
    let held = rw c.deref.ensures.value at c.in-Some.ensures in
    lookup_all (same_name c.args.name.now) (λ i. i < length c.args.kernel.now.types) c.args.types.now.items
    c.in-Some.held c.requires.types (sym held)

pub returns-in-Some-clause-put : goal.returns-in-Some-clause-put
returns-in-Some-clause-put c =
    let k = c.args.kernel.now in
    let m = types_of k c.args.types.now.items in
    let held = rw c.deref.ensures.value at c.in-Some.ensures in
    let at = lookup_values (same_name c.args.name.now) (type_at k) c.args.types.now.items
    ∙ ap (option_map (type_at k)) (sym held) in
    put_found same_name (same_ty names) c.args.name.now (type_at k c.args.id) m (type_at k c.in-Some.held) at
    ∙ ap (λ b. answered b m) (sym c.same_type.ensures)

pub returns-in_ok-push-in-None-clause-put : goal.returns-in_ok-push-in-None-clause-put
returns-in_ok-push-in-None-clause-put c =
    let k = c.args.kernel.now in
    let m = types_of k c.args.types.now.items in
    let held = rw c.deref.ensures.value at c.in-None.ensures in
    let at = lookup_values (same_name c.args.name.now) (type_at k) c.args.types.now.items
    ∙ ap (option_map (type_at k)) (sym held) in
    let more =
    ap (types_of k) c.in_ok-push-in-None.ensures.items
    ∙ map-append (λ (p : Name × ℕ). (p.0, type_at k p.1)) c.args.types.now.items
    ((c.in_ok-name-in-None.name, c.args.id) ∷ [])
    ∙ ap (λ n. m ++ (n, type_at k c.args.id) ∷ []) c.in_ok-name-in-None.ensures
    in
    put_new same_name (same_ty names) c.args.name.now (type_at k c.args.id) m at ∙ ap Some (sym more)
