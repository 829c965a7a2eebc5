use Rattle.std.specs.List.{All}
use Rattle.std.specs.Prelude.{◌<◌, ◌↔◌, length, map}
use Rattle.std.proofs.Common.{List, sym, ap, subst, ◌∙◌}
use Rattle.std.proofs.lemmas.Result.{IfOk-weaker}
use Rattle.ot_logic.specs.Hol.{IsFree}
use Rattle.ot_logic.specs.NamedTerms.{nameless}
use Rattle.ot_logic.specs.Lists.{IsMember, AreDistinct}
use Rattle.ot_logic.specs.Naming.{numbers}
use Rattle.ot_term.specs.Free.{var_key}
use Rattle.ot_term.specs.TermTable.{term_at, variable_of}
use Rattle.ot_term.specs.declared.term.VarKey.{VarKey}
use Rattle.ot_term.proofs.table.Terms.free_vars.Goals as goal

pub returns-clause-within : goal.returns-clause-within
returns-clause-within c =
    IfOk-weaker c.var_keys.result _ _ (λ vs p. subst (All (λ (v : VarKey). v.ty < length c.args.self.now.types))
    (sym (p ∙ ap (map var_key) c.as_slice.ensures.value)) c.in_ok-keys.ensures.within) c.var_keys.ensures

pub returns-clause-free : goal.returns-clause-free
returns-clause-free c =
    let t = c.args.self.now in
    IfOk-weaker c.var_keys.result _ _
    (λ vs p w. subst (λ (us : List VarKey). IsMember w (map (variable_of t.types) us) ↔ IsFree numbers w
    (nameless numbers (term_at t.terms c.args.id))) (sym (p ∙ ap (map var_key) c.as_slice.ensures.value)) (c.in_ok-keys.ensures.free w)) c.var_keys.ensures

pub returns-clause-once : goal.returns-clause-once
returns-clause-once c =
    IfOk-weaker c.var_keys.result _ _ (λ vs p. subst AreDistinct (sym (p ∙ ap (map var_key) c.as_slice.ensures.value)) c.in_ok-keys.ensures.once) c.var_keys.ensures
