use Rattle.std.proofs.Common.{ℕ, ◌++◌, ◌∷◌, [], ◌∙◌, sym, ap, Some}
use Rattle.std.proofs.lemmas.List.{map-append}
use Rattle.ot_logic.specs.Names.{Name}
use Rattle.ot_logic.specs.Naming.{names}
use Rattle.ot_logic.specs.Trees.{Variable}
use Rattle.ot_logic.specs.Hol.{same_var, same_tm}
use Rattle.ot_kernel.specs.State.{type_at, term_at}
use Rattle.ot_match.specs.Found.{terms_of}
use Rattle.ot_match.specs.Steps.{answered}
use Rattle.ot_match.proofs.Holding.{put_found, put_new}
use Rattle.ot_match.proofs.terms.put_term.Goals as goal

pub returns-in-Some-clause-put : goal.returns-in-Some-clause-put
returns-in-Some-clause-put c =
    let k = c.args.kernel.now in
    let key : Variable Name = record { name = c.args.name.now; ty = type_at k c.args.ty } in
    let m = terms_of k c.args.vars.now.items in
    let held = rw c.deref.ensures.value at c.in-Some.ensures.held in
    put_found (same_var names) (same_tm names) key (term_at k c.args.id) m (term_at k c.in-Some.held) (sym held)
    ∙ ap (λ b. answered b m) (sym c.same_term.ensures)

pub returns-in_ok-push-in-None-clause-put : goal.returns-in_ok-push-in-None-clause-put
returns-in_ok-push-in-None-clause-put c =
    let k = c.args.kernel.now in
    let key : Variable Name = record { name = c.args.name.now; ty = type_at k c.args.ty } in
    let m = terms_of k c.args.vars.now.items in
    let held = rw c.deref.ensures.value at c.in-None.ensures.held in
    let more =
    ap (terms_of k) c.in_ok-push-in-None.ensures.items
    ∙ map-append (λ (p : Name × ℕ × ℕ). (record { name = p.0; ty = type_at k p.1 }, term_at k p.2))
    c.args.vars.now.items ((c.in_ok-name-in-None.name, c.args.ty, c.args.id) ∷ [])
    ∙ ap (λ n. m ++ (record { name = n; ty = type_at k c.args.ty }, term_at k c.args.id) ∷ [])
    c.in_ok-name-in-None.ensures
    in
    put_new (same_var names) (same_tm names) key (term_at k c.args.id) m (sym held) ∙ ap Some (sym more)
