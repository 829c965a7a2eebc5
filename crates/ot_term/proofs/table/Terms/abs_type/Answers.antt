use Rattle.std.proofs.Common.{Some, ap, sym, ◌∙◌}
use Rattle.std.proofs.lemmas.Option.{slice_get_within, get_or_from_slice_get}
use Rattle.std.proofs.lemmas.Result.{IfOk-weaker}
use Rattle.ot_logic.specs.Trees.{TyVar, NAbs}
use Rattle.ot_term.specs.TermTable.{term_at, variable_of}
use Rattle.ot_term.proofs.Limit.{past-type}
use Rattle.ot_term.proofs.NamesIn.{abs-typed}
use Rattle.ot_term.proofs.table.Terms.abs_type.Goals as goal

pub returns-clause-below : goal.returns-clause-below
returns-clause-below c = IfOk-weaker c.type_fun.result _ _
    (λ ty is. slice_get_within c.type_fun.new.self.types ty _ is) c.type_fun.ensures.ok

pub returns-clause-typed : goal.returns-clause-typed
returns-clause-typed c =
    let t = c.args.self.now in
    let typed =
    abs-typed (variable_of t.types c.args.v) (term_at t.terms c.args.body) _ c.type_of-of_body.ensures.typed in
    IfOk-weaker c.type_fun.result _ _ (λ ty is. typed
    ∙ ap Some (sym (get_or_from_slice_get c.type_fun.new.self.types ty _ (TyVar 0) is))) c.type_fun.ensures.ok

pub returns-clause-nesting : goal.returns-clause-nesting
returns-clause-nesting c =
    let t = c.args.self.now in
    let typed =
    abs-typed (variable_of t.types c.args.v) (term_at t.terms c.args.body) _ c.type_of-of_body.ensures.typed in
    λ p. past-type (NAbs (variable_of t.types c.args.v) (term_at t.terms c.args.body)) _ typed
    (c.type_fun.ensures.nesting p)
