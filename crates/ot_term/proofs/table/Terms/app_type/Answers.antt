use Rattle.std.proofs.Common.{◌≡◌, eqb-true, Some, ap, sym, subst}
use Rattle.std.proofs.lemmas.Bool.{not-false}
use Rattle.ot_logic.specs.Hol.{fun_ty}
use Rattle.ot_logic.specs.NamedTerms.{named_type}
use Rattle.ot_logic.specs.Naming.{numbers}
use Rattle.ot_logic.specs.Trees.{NApp}
use Rattle.ot_type.specs.TypeTable.{type_at}
use Rattle.ot_term.specs.TermTable.{term_at}
use Rattle.ot_term.proofs.Refusals.{application-typed}
use Rattle.ot_term.proofs.table.Terms.app_type.Goals as goal
use Rattle.ot_term.proofs.table.Terms.app_type.Goals.{Else-ne}

-- the argument is of the type that the function takes
typed : (c : Else-ne)
    → named_type numbers (NApp (term_at c.args.self.now.terms c.args.f) (term_at c.args.self.now.terms c.args.x))
    ≡ Some (type_at c.args.self.now.types c.in-Some.parts.1)
typed c =
    let types : c.self.inside.types ≡ c.args.self.now.types = ap (λ t. t.types) c.self.view_is in
    let shape =
    subst (λ ts. type_at ts c.type_of.result ≡ fun_ty numbers (type_at ts c.in-Some.parts.0)
    (type_at ts c.in-Some.parts.1)) types c.in-Some.ensures.0 in
    let same = eqb-true c.in-Some.parts.0 c.type_of-2.result (not-false _ (sym c.if-ne.ensures)) in
    application-typed (term_at c.args.self.now.terms c.args.f) (term_at c.args.self.now.terms c.args.x) _ _ _ _
    c.type_of.ensures.typed shape c.type_of-2.ensures.typed (ap (type_at c.args.self.now.types) same)

pub returns-clause-typed : goal.returns-clause-typed
returns-clause-typed c = typed (goal.at.returns-clause-typed c).Else-ne
