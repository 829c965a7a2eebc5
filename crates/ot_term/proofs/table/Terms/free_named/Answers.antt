use Rattle.std.specs.List.{All}
use Rattle.std.specs.Prelude.{◌<◌, ◌↔◌, length, map}
use Rattle.std.proofs.Common.{◌≡◌, List, sym, subst, ap, ◌∙◌}
use Rattle.std.proofs.lemmas.Result.{IfOk-weaker}
use Rattle.ot_logic.specs.Hol.{IsFree}
use Rattle.ot_logic.specs.NamedTerms.{nameless}
use Rattle.ot_logic.specs.Lists.{IsMember, AreDistinct}
use Rattle.ot_logic.specs.Naming.{numbers}
use Rattle.ot_term.specs.Free.{key_at}
use Rattle.ot_term.specs.TermTable.{term_at, variable_of}
use Rattle.ot_term.specs.declared.term.VarKey.{VarKey}
use Rattle.ot_term.proofs.FreeNamed.{named-within, named-free, named-once}
use Rattle.ot_term.proofs.table.Terms.free_named.Goals as goal

pub returns-clause-within : goal.returns-clause-within
returns-clause-within c =
    let t = c.args.self.now in
    IfOk-weaker c.keys_of.result _ _
    (λ vs p. subst (All (λ (v : VarKey). v.ty < length t.types))
    (sym (p ∙ ap (map (key_at c.args.name)) c.deref.ensures.value))
    (named-within t.types c.args.name (term_at t.terms c.args.id) c.in_ok-types.types.items
    c.in_ok-types.ensures.types)) c.keys_of.ensures

pub returns-clause-free : goal.returns-clause-free
returns-clause-free c =
    let t = c.args.self.now in
    IfOk-weaker c.keys_of.result _ _
    (λ vs p w. subst (λ (us : List VarKey). IsMember w (map (variable_of t.types) us)
    ↔ ((w.name ≡ c.args.name) × IsFree numbers w (nameless numbers (term_at t.terms c.args.id))))
    (sym (p ∙ ap (map (key_at c.args.name)) c.deref.ensures.value))
    (named-free t.types c.args.name (term_at t.terms c.args.id) c.in_ok-types.types.items
    c.in_ok-types.ensures.types w)) c.keys_of.ensures

pub returns-clause-once : goal.returns-clause-once
returns-clause-once c =
    let t = c.args.self.now in
    IfOk-weaker c.keys_of.result _ _
    (λ vs p. subst AreDistinct (sym (p ∙ ap (map (key_at c.args.name)) c.deref.ensures.value))
    (named-once t.types c.args.name (term_at t.terms c.args.id) c.in_ok-types.types.items
    c.in_ok-types.ensures.types)) c.keys_of.ensures
