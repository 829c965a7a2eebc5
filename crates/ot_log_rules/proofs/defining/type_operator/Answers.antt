use Rattle.std.proofs.Common.{[], sym, subst, ◌∙◌}
use Rattle.ot_logic.specs.Naming.{names}
use Rattle.ot_logic.specs.Trees.{TyOp}
use Rattle.ot_logic.specs.Hol.{tys_of_vars, type_theorems}
use Rattle.ot_log_nodes.specs.Items.{name_at, type_at, term_at}
use Rattle.ot_log_nodes.specs.Typing.{IsTyping}
use Rattle.ot_log_nodes.proofs.ItemLemmas.{name-stays, term-stays, still-name, still-term}
use Rattle.ot_log_nodes.proofs.TypingLemmas.{typings-grown}
use Rattle.ot_log_rules.specs.Definitions.{names_at}
use Rattle.ot_log_rules.specs.Statements.{sequent_at}
use Rattle.ot_log_rules.proofs.Cases.{no-typing}
use Rattle.ot_log_rules.proofs.Giving.{no-function_of}
use Rattle.ot_log_rules.proofs.Staying.{names-stay, still-names}
use Rattle.ot_log_rules.proofs.Defined.{type_operator-refused, type_operator-passed}
use Rattle.ot_log_rules.proofs.Defined.{type_operator-no_app, type-theorems, argument-typed}
use Rattle.ot_log_rules.proofs.defining.type_operator.Goals as goal

pub returns-then-not-may-clause-defines : goal.returns-then-not-may-clause-defines
returns-then-not-may-clause-defines c = λ dl sig.
    let ts = c.args.nodes.now in
    type_operator-refused dl (name_at ts c.args.name) (name_at ts c.args.abs) (name_at ts c.args.rep)
    (names_at ts c.args.vars.now) (sequent_at ts c.args.premise.now)
    (sym (c.in_ok-may.ensures dl sig) ∙ c.if-not-may.true)

pub returns-in_default-clause-defines : goal.returns-in_default-clause-defines
returns-in_default-clause-defines c = λ dl sig.
    let ts = c.args.nodes.now in
    type_operator-no_app dl (name_at ts c.args.name) (name_at ts c.args.abs) (name_at ts c.args.rep)
    (names_at ts c.args.vars.now) (sequent_at ts c.args.premise.now)
    (no-function_of (term_at ts c.args.premise.now.concl) c.in_default.ensures)

pub returns-in_default-typing-clause-defines : goal.returns-in_default-typing-clause-defines
returns-in_default-typing-clause-defines c = λ dl sig.
    let ts = c.args.nodes.now in
    let t = term_at ts c.in-Some.parts.1 in
    absurd (argument-typed (term_at ts c.args.premise.now.concl) (term_at ts c.in-Some.parts.0) t
    c.requires.typed.concl c.in-Some.ensures.is
    (no-typing c.typing_of.new.nodes [] t c.in_ok-typing.typing c.in_ok-typing.ensures.ok
    c.in_default-typing.not-Some))

pub type_theorems-requires-clause-name : goal.type_theorems-requires-clause-name
type_theorems-requires-clause-name c =
    still-name c.args.nodes.now c.typing_of.new.nodes c.in_ok-typing.ensures.extends c.args.name c.requires.name

pub type_theorems-requires-clause-abs : goal.type_theorems-requires-clause-abs
type_theorems-requires-clause-abs c = still-name c.args.nodes.now c.typing_of.new.nodes c.in_ok-typing.ensures.extends
    c.args.abs c.requires.abs

pub type_theorems-requires-clause-rep : goal.type_theorems-requires-clause-rep
type_theorems-requires-clause-rep c = still-name c.args.nodes.now c.typing_of.new.nodes c.in_ok-typing.ensures.extends
    c.args.rep c.requires.rep

pub type_theorems-requires-clause-vars : goal.type_theorems-requires-clause-vars
type_theorems-requires-clause-vars c =
    still-names c.args.nodes.now c.typing_of.new.nodes c.in_ok-typing.ensures.extends c.args.vars.now c.requires.vars

pub type_theorems-requires-clause-old : goal.type_theorems-requires-clause-old
type_theorems-requires-clause-old c =
    (subst (IsTyping c.typing_of.new.nodes [] (term_at c.args.nodes.now c.in-Some.parts.1)) c.in-Some-typing.is
    c.in_ok-typing.ensures.ok).number

pub type_theorems-requires-clause-predicate : goal.type_theorems-requires-clause-predicate
type_theorems-requires-clause-predicate c = still-term c.args.nodes.now c.typing_of.new.nodes
    c.in_ok-typing.ensures.extends c.in-Some.parts.0 c.in-Some.ensures.f

pub returns-clause-defines : goal.returns-clause-defines
returns-clause-defines c = λ dl sig.
    let ts = c.args.nodes.now in
    let us = c.typing_of.new.nodes in
    let e = c.in_ok-typing.ensures.extends in
    let n = name_at ts c.args.name in
    let abs = name_at ts c.args.abs in
    let rep = name_at ts c.args.rep in
    let vs = names_at ts c.args.vars.now in
    let q = sequent_at ts c.args.premise.now in
    let p = term_at ts c.in-Some.parts.0 in
    let t = term_at ts c.in-Some.parts.1 in
    let typing = subst (IsTyping us [] t) c.in-Some-typing.is c.in_ok-typing.ensures.ok in
    let ty = type_at us c.in-Some-typing.old.ty in
    let name = name-stays ts us e c.args.name c.requires.name in
    let to = name-stays ts us e c.args.abs c.requires.abs in
    let from = name-stays ts us e c.args.rep c.requires.rep in
    let vars = names-stay ts us e c.args.vars.now c.requires.vars in
    let predicate = term-stays ts us e c.in-Some.parts.0 c.in-Some.ensures.f in (
      c.in_ok-made.ensures.has,
      c.in_ok-made.ensures.ok
          ∙ (λ i. type_theorems names (TyOp (name i) (tys_of_vars names (vars i))) ty (to i) (from i) (predicate i))
          ∙ type-theorems n abs rep vs q p t ty c.in-Some.ensures.is typing.type,
      type_operator-passed dl n abs rep vs q (sym (c.in_ok-may.ensures dl sig) ∙ c.if-not-may.false),
    )

pub returns-in_err-made-clause-known : goal.returns-in_err-made-clause-known
returns-in_err-made-clause-known c = typings-grown c.typing_of.new.nodes c.type_theorems.new.nodes
    c.type_theorems.ensures.extends c.typing_of.new.typings.known.entries c.typing_of.ensures.known

pub returns-clause-known : goal.returns-clause-known
returns-clause-known c = typings-grown c.typing_of.new.nodes c.type_theorems.new.nodes c.type_theorems.ensures.extends
    c.typing_of.new.typings.known.entries c.typing_of.ensures.known
