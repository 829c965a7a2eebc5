use Rattle.std.proofs.Common.{sym, ◌∙◌, ◌<◌, ap, arith}
use Rattle.std.proofs.lemmas.Result.{IfOk-weaker}
use Rattle.ot_logic.specs.Naming.{names}
use Rattle.ot_logic.specs.Trees.{Free, Con, App, Abs}
use Rattle.ot_logic.specs.Hol.{close}
use Rattle.ot_logic.specs.declared.command.Cmd.TheVariants as words
use Rattle.ot_log_nodes.specs.Items.{name_at, type_at, term_at}
use Rattle.ot_log_nodes.specs.Changing.{variable_at}
use Rattle.ot_log_nodes.proofs.ItemLemmas.{still-name, still-term}
use Rattle.ot_log_nodes.proofs.MapLemmas.{still-variable}
use Rattle.ot_trace.specs.Origins.{Make}
use Rattle.ot_machine.specs.Meaning.{origin_of}
use Rattle.ot_log_values.specs.Steps.{origins_of, IsTermOf}
use Rattle.ot_log_values.proofs.Later.{known-later, symbol-later, variable-later, term-later}
use Rattle.ot_log_values.proofs.Memory.{kept-insert}
use Rattle.ot_log_values.proofs.Making.{const-makes, var_term-makes, const_term-makes, app_term-makes, abs_term-makes}
use Rattle.ot_log_values.proofs.Gathered.{term-made}
use Rattle.ot_machine.specs.Places.{as_term}
use Rattle.ot_log_values.proofs.Stepping.{two-below}
use Rattle.ot_log_values.proofs.Taking.{term-kind, term-word, is-make, has-value, word-is, step-long}
use Rattle.ot_log_values.proofs.Taking.{var_term-takes, const_term-takes, app_term-takes, abs_term-takes}
use Rattle.ot_logic.specs.declared.kind.Kind.TheVariants as kinds
use Rattle.ot_log_values.proofs.values.Values.+term.Goals as goal

-- ---- what is remembered
pub term-returns-in-Some-clause-made : goal.term-returns-in-Some-clause-made
term-returns-in-Some-clause-made t c =
    c.requires.known.terms.each c.args.id c.in-Some.known.now (sym c.in-Some.ensures.value)

pub term-returns-clause-known : goal.term-returns-clause-known
term-returns-clause-known t c =
    let s = c.args.session.now in
    let us = c.new_term.new.nodes in
    record {
      types = c.in_ok-term.ensures.known.types;
      terms = kept-insert (IsTermOf s us) c.new_term.new.self.terms.entries c.insert.new.self.entries c.args.id
          c.in_ok-term.term
          c.in_ok-term.ensures.known.terms c.in_ok-term.ensures.made c.in_ok-insert.ensures.updates.0;
    }

-- ---- a variable
pub new_term-returns-in_ok-v-in-VarTerm-clause-made : goal.new_term-returns-in_ok-v-in-VarTerm-clause-made
new_term-returns-in_ok-v-in-VarTerm-clause-made t c =
    let s = c.args.session.now in
    let us = c.variable.new.nodes in
    let variable = c.one-variable.result in
    let v = variable_at us c.in_ok-v-in-VarTerm.v in
    let is = c.making-word.ensures.made
    ∙ (λ i. Make (c.in-VarTerm.is i) (origins_of s (c.one-variable.ensures i))) in
    let made =
    var_term-makes (origin_of s c.args.id) (origin_of s variable) v is c.in_ok-v-in-VarTerm.ensures.made.made in
    IfOk-weaker c.free.result _ _ (λ r h. term-made s c.free.new.self c.args.id r (Free v) h made) c.free.ensures.ok

pub new_term-returns-in_ok-v-in-VarTerm-clause-known : goal.new_term-returns-in_ok-v-in-VarTerm-clause-known
new_term-returns-in_ok-v-in-VarTerm-clause-known t c =
    known-later c.args.session.now c.variable.new.nodes c.free.new.self
    c.free.ensures.extends c.variable.new.self c.in_ok-v-in-VarTerm.ensures.known

-- ---- a constant
pub new_term-returns-in_err-name-in-ConstTerm-clause-known : goal.new_term-returns-in_err-name-in-ConstTerm-clause-known
new_term-returns-in_err-name-in-ConstTerm-clause-known t c =
    known-later c.args.session.now c.args.nodes.now c.constant.new.nodes
    c.in_err-name-in-ConstTerm.ensures.extends c.args.self.now c.requires.known

pub new_term-ty-requires-clause-known : goal.new_term-ty-requires-clause-known
new_term-ty-requires-clause-known t c = known-later c.args.session.now c.args.nodes.now c.constant.new.nodes
    c.in_ok-name-in-ConstTerm.ensures.extends c.args.self.now c.requires.known

pub new_term-constant-requires-in-ConstTerm-clause-name : goal.new_term-constant-requires-in-ConstTerm-clause-name
new_term-constant-requires-in-ConstTerm-clause-name t c = still-name c.constant.new.nodes c.ty.new.nodes
    c.in_ok-ty-in-ConstTerm.ensures.extends c.in_ok-name-in-ConstTerm.name c.in_ok-name-in-ConstTerm.ensures.made.has

pub new_term-returns-in_ok-ty-in-ConstTerm-clause-made : goal.new_term-returns-in_ok-ty-in-ConstTerm-clause-made
new_term-returns-in_ok-ty-in-ConstTerm-clause-made t c =
    let s = c.args.session.now in
    let us = c.constant.new.nodes in
    let ws = c.ty.new.nodes in
    let step = c.two-symbol.result.0 in
    let id = c.in_ok-name-in-ConstTerm.name in
    let n = name_at ws id in
    let ty = type_at ws c.in_ok-ty-in-ConstTerm.ty in
    let symbol = symbol-later s us ws c.in_ok-ty-in-ConstTerm.ensures.extends
    words.Const step id c.in_ok-name-in-ConstTerm.ensures.made in
    let is = c.making-word.ensures.made
    ∙ (λ i. Make (c.in-ConstTerm.is i) (origins_of s (c.two-symbol.ensures i))) in
    let constant = const-makes (origin_of s step) symbol.spelled n symbol.is symbol.name_is in
    let made = const_term-makes (origin_of s c.args.id) (origin_of s step)
    (origin_of s c.two-symbol.result.1) n ty is constant
    c.in_ok-ty-in-ConstTerm.ensures.made.made in
    IfOk-weaker c.constant-in-ConstTerm.result _ _
    (λ r h. term-made s c.constant-in-ConstTerm.new.self c.args.id r (Con n ty) h made)
    c.constant-in-ConstTerm.ensures.ok

pub new_term-returns-in_ok-ty-in-ConstTerm-clause-known : goal.new_term-returns-in_ok-ty-in-ConstTerm-clause-known
new_term-returns-in_ok-ty-in-ConstTerm-clause-known t c =
    known-later c.args.session.now c.ty.new.nodes c.constant-in-ConstTerm.new.self
    c.constant-in-ConstTerm.ensures.extends c.ty.new.self c.in_ok-ty-in-ConstTerm.ensures.known

-- ---- an application
pub new_term-app-requires-clause-f : goal.new_term-app-requires-clause-f
new_term-app-requires-clause-f t c =
    still-term c.term.new.nodes c.term-in-AppTerm.new.nodes c.in_ok-x-in-AppTerm.ensures.extends
    c.in_ok-f-in-AppTerm.f c.in_ok-f-in-AppTerm.ensures.made.has

pub new_term-returns-in_ok-x-in-AppTerm-clause-made : goal.new_term-returns-in_ok-x-in-AppTerm-clause-made
new_term-returns-in_ok-x-in-AppTerm-clause-made t c =
    let s = c.args.session.now in
    let us = c.term.new.nodes in
    let ws = c.term-in-AppTerm.new.nodes in
    let function = c.two-function.result.0 in
    let argument = c.two-function.result.1 in
    let f = term-later s us ws c.in_ok-x-in-AppTerm.ensures.extends
    function c.in_ok-f-in-AppTerm.f c.in_ok-f-in-AppTerm.ensures.made in
    let left = term_at ws c.in_ok-f-in-AppTerm.f in
    let right = term_at ws c.in_ok-x-in-AppTerm.x in
    let is = c.making-word.ensures.made
    ∙ (λ i. Make (c.in-AppTerm.is i) (origins_of s (c.two-function.ensures i))) in
    let made = app_term-makes (origin_of s c.args.id) (origin_of s function) (origin_of s argument) left right is
    f.made
    c.in_ok-x-in-AppTerm.ensures.made.made in
    IfOk-weaker c.app.result _ _ (λ r h. term-made s c.app.new.self c.args.id r (App left right) h made)
    c.app.ensures.ok

pub new_term-returns-in_ok-x-in-AppTerm-clause-known : goal.new_term-returns-in_ok-x-in-AppTerm-clause-known
new_term-returns-in_ok-x-in-AppTerm-clause-known t c =
    known-later c.args.session.now c.term-in-AppTerm.new.nodes c.app.new.self
    c.app.ensures.extends c.term-in-AppTerm.new.self c.in_ok-x-in-AppTerm.ensures.known

-- ---- an abstraction
pub new_term-abstraction-requires-clause-v : goal.new_term-abstraction-requires-clause-v
new_term-abstraction-requires-clause-v t c =
    still-variable c.variable-in-AbsTerm.new.nodes c.term-in-AbsTerm.new.nodes
    c.in_ok-body-in-AbsTerm.ensures.extends c.in_ok-v-in-AbsTerm.v c.in_ok-v-in-AbsTerm.ensures.made.has

pub new_term-returns-in_ok-body-in-AbsTerm-clause-made : goal.new_term-returns-in_ok-body-in-AbsTerm-clause-made
new_term-returns-in_ok-body-in-AbsTerm-clause-made t c =
    let s = c.args.session.now in
    let us = c.variable-in-AbsTerm.new.nodes in
    let ws = c.term-in-AbsTerm.new.nodes in
    let variable = c.two-variable.result.0 in
    let w = variable-later s us ws c.in_ok-body-in-AbsTerm.ensures.extends
    variable c.in_ok-v-in-AbsTerm.v c.in_ok-v-in-AbsTerm.ensures.made in
    let v = variable_at ws c.in_ok-v-in-AbsTerm.v in
    let body = term_at ws c.in_ok-body-in-AbsTerm.body in
    let is = c.making-word.ensures.made
    ∙ (λ i. Make (c.in-AbsTerm.is i) (origins_of s (c.two-variable.ensures i))) in
    let made = abs_term-makes (origin_of s c.args.id) (origin_of s variable)
    (origin_of s c.two-variable.result.1) v body is w.made
    c.in_ok-body-in-AbsTerm.ensures.made.made in
    IfOk-weaker c.abstraction.result _ _ (λ r h. term-made s
    c.abstraction.new.nodes c.args.id r (Abs v.ty (close names v body)) h made)
    c.abstraction.ensures.ok

pub new_term-returns-in_ok-body-in-AbsTerm-clause-known : goal.new_term-returns-in_ok-body-in-AbsTerm-clause-known
new_term-returns-in_ok-body-in-AbsTerm-clause-known t c =
    known-later c.args.session.now c.term-in-AbsTerm.new.nodes c.abstraction.new.nodes
    c.abstraction.ensures.extends c.term-in-AbsTerm.new.self c.in_ok-body-in-AbsTerm.ensures.known

-- ---- what its word takes
pub new_term-making-word-requires-clause-make : goal.new_term-making-word-requires-clause-make
new_term-making-word-requires-clause-make t c =
    is-make as_term (origin_of c.args.session.now c.args.id) c.requires.value kinds.Tm term-kind tt

pub new_term-unreachable-requires : goal.new_term-unreachable-requires
new_term-unreachable-requires t c =
    let s = c.args.session.now in
    term-word c.making-word.result.0
    (word-is as_term (origin_of s c.args.id) c.requires.value kinds.Tm term-kind c.making-word.result.0
    (origins_of s c.making-word.result.1.now) c.making-word.ensures.made) c.in_default.not-VarTerm
    c.in_default.not-ConstTerm c.in_default.not-AppTerm c.in_default.not-AbsTerm

pub new_term-variable-requires-clause-value : goal.new_term-variable-requires-clause-value
new_term-variable-requires-clause-value t c =
    let s = c.args.session.now in
    var_term-takes (origin_of s c.args.id) (origin_of s c.one-variable.result)
    (has-value as_term (origin_of s c.args.id) c.requires.value)
    (c.making-word.ensures.made ∙ (λ i. Make (c.in-VarTerm.is i) (origins_of s (c.one-variable.ensures i))))

pub new_term-one-variable-requires : goal.new_term-one-variable-requires
new_term-one-variable-requires t c =
    let s = c.args.session.now in
    let is = c.making-word.result.1.now in
    step-long s (origin_of s c.args.id) words.VarTerm is
    (c.making-word.ensures.made ∙ ap (λ w. Make w (origins_of s is)) c.in-VarTerm.is)
    (has-value as_term (origin_of s c.args.id) c.requires.value)

pub new_term-two-symbol-requires : goal.new_term-two-symbol-requires
new_term-two-symbol-requires t c =
    let s = c.args.session.now in
    let is = c.making-word.result.1.now in
    step-long s (origin_of s c.args.id) words.ConstTerm is
    (c.making-word.ensures.made ∙ ap (λ w. Make w (origins_of s is)) c.in-ConstTerm.is)
    (has-value as_term (origin_of s c.args.id) c.requires.value)

pub new_term-two-function-requires : goal.new_term-two-function-requires
new_term-two-function-requires t c =
    let s = c.args.session.now in
    let is = c.making-word.result.1.now in
    step-long s (origin_of s c.args.id) words.AppTerm is
    (c.making-word.ensures.made ∙ ap (λ w. Make w (origins_of s is)) c.in-AppTerm.is)
    (has-value as_term (origin_of s c.args.id) c.requires.value)

pub new_term-two-variable-requires : goal.new_term-two-variable-requires
new_term-two-variable-requires t c =
    let s = c.args.session.now in
    let is = c.making-word.result.1.now in
    step-long s (origin_of s c.args.id) words.AbsTerm is
    (c.making-word.ensures.made ∙ ap (λ w. Make w (origins_of s is)) c.in-AbsTerm.is)
    (has-value as_term (origin_of s c.args.id) c.requires.value)

pub new_term-constant-requires-clause-value : goal.new_term-constant-requires-clause-value
new_term-constant-requires-clause-value t c =
    let s = c.args.session.now in
    (const_term-takes (origin_of s c.args.id) (origin_of s c.two-symbol.result.0)
    (has-value as_term (origin_of s c.args.id) c.requires.value) (origin_of s c.two-symbol.result.1)
    (c.making-word.ensures.made ∙ (λ i. Make (c.in-ConstTerm.is i) (origins_of s (c.two-symbol.ensures i))))).0

pub new_term-ty-requires-clause-value : goal.new_term-ty-requires-clause-value
new_term-ty-requires-clause-value t c =
    let s = c.args.session.now in
    (const_term-takes (origin_of s c.args.id) (origin_of s c.two-symbol.result.0)
    (has-value as_term (origin_of s c.args.id) c.requires.value) (origin_of s c.two-symbol.result.1)
    (c.making-word.ensures.made ∙ (λ i. Make (c.in-ConstTerm.is i) (origins_of s (c.two-symbol.ensures i))))).1

pub new_term-variable-requires-in-AbsTerm-clause-value : goal.new_term-variable-requires-in-AbsTerm-clause-value
new_term-variable-requires-in-AbsTerm-clause-value t c =
    let s = c.args.session.now in
    (abs_term-takes (origin_of s c.args.id) (origin_of s c.two-variable.result.0)
    (has-value as_term (origin_of s c.args.id) c.requires.value) (origin_of s c.two-variable.result.1)
    (c.making-word.ensures.made ∙ (λ i. Make (c.in-AbsTerm.is i) (origins_of s (c.two-variable.ensures i))))).0

pub new_term-term-requires : goal.new_term-term-requires
new_term-term-requires t c =
    let s = c.args.session.now in
    let below = two-below (λ i. i < c.args.id) c.making-word.result.1.now c.two-function.result.0 c.two-function.result.1
    c.making-word.ensures.below c.two-function.ensures in (
      omega (arith, c.decreases, below.0),
      (
        c.requires.run,
        (
          omega (arith, below.0, c.requires.id),
          (
            c.requires.known,
            (app_term-takes (origin_of s c.args.id) (origin_of s c.two-function.result.0)
                (has-value as_term (origin_of s c.args.id) c.requires.value) (origin_of s c.two-function.result.1)
                (c.making-word.ensures.made ∙ (λ i. Make (c.in-AppTerm.is i) (origins_of s (c.two-function.ensures i))))).0,
          ),
        ),
      ),
    )

pub new_term-term-requires-in-AppTerm : goal.new_term-term-requires-in-AppTerm
new_term-term-requires-in-AppTerm t c =
    let s = c.args.session.now in
    let below = two-below (λ i. i < c.args.id) c.making-word.result.1.now c.two-function.result.0 c.two-function.result.1
    c.making-word.ensures.below c.two-function.ensures in (
      omega (arith, c.decreases, below.1),
      (
        c.requires.run,
        (
          omega (arith, below.1, c.requires.id),
          (
            c.in_ok-f-in-AppTerm.ensures.known,
            (app_term-takes (origin_of s c.args.id) (origin_of s c.two-function.result.0)
                (has-value as_term (origin_of s c.args.id) c.requires.value) (origin_of s c.two-function.result.1)
                (c.making-word.ensures.made ∙ (λ i. Make (c.in-AppTerm.is i) (origins_of s (c.two-function.ensures i))))).1,
          ),
        ),
      ),
    )

pub new_term-term-requires-in-AbsTerm : goal.new_term-term-requires-in-AbsTerm
new_term-term-requires-in-AbsTerm t c =
    let s = c.args.session.now in
    let below = two-below (λ i. i < c.args.id) c.making-word.result.1.now c.two-variable.result.0 c.two-variable.result.1
    c.making-word.ensures.below c.two-variable.ensures in (
      omega (arith, c.decreases, below.1),
      (
        c.requires.run,
        (
          omega (arith, below.1, c.requires.id),
          (
            c.in_ok-v-in-AbsTerm.ensures.known,
            (abs_term-takes (origin_of s c.args.id) (origin_of s c.two-variable.result.0)
                (has-value as_term (origin_of s c.args.id) c.requires.value) (origin_of s c.two-variable.result.1)
                (c.making-word.ensures.made ∙ (λ i. Make (c.in-AbsTerm.is i) (origins_of s (c.two-variable.ensures i))))).1,
          ),
        ),
      ),
    )
