use Rattle.std.specs.List.{All}
use Rattle.std.proofs.Common.{[], map, subst, sym, ap, ◌∙◌}
use Rattle.ot_logic.specs.Names.{Name}
use Rattle.ot_logic.specs.Naming.{names}
use Rattle.ot_logic.specs.Trees.{Tm, Con}
use Rattle.ot_logic.specs.Hol.{type_in, equation}
use Rattle.ot_laws.specs.Conditions.{checked_const}
use Rattle.ot_log_format.specs.Steps.{all_defined, all_used}
use Rattle.ot_log_nodes.specs.Items.{IsTerm, name_at, type_at, term_at}
use Rattle.ot_log_nodes.specs.Typing.{IsTyping}
use Rattle.ot_log_nodes.proofs.ItemLemmas.{has-term, term-is, name-stays, type-stays}
use Rattle.ot_log_nodes.proofs.ItemLemmas.{term-stays, still-name, still-type, still-term}
use Rattle.ot_log_nodes.proofs.TypingLemmas.{typings-grown}
use Rattle.ot_logic.proofs.TableLemmas.{Extends-trans}
use Rattle.ot_log_rules.specs.Statements.{sequent_at, HasStatement}
use Rattle.ot_log_rules.specs.Symbols.{passes}
use Rattle.ot_log_rules.proofs.Cases.{no-typing, well-typed, concluding}
use Rattle.ot_log_rules.proofs.Defined.{constant-ill, constant-refused, constant-passed, constant-theorem, one-statement}
use Rattle.ot_log_rules.proofs.Freshness.{signature-grown}
use Rattle.ot_log_rules.proofs.defining.constant.Goals as goal

pub returns-in_default-clause-defines : goal.returns-in_default-clause-defines
returns-in_default-clause-defines c = λ dl sig.
    let t = term_at c.args.nodes.now c.args.term in
    constant-ill dl (name_at c.args.nodes.now c.args.name) t
    (no-typing c.typing_of.new.nodes [] t c.in_ok-typing.typing c.in_ok-typing.ensures.ok c.in_default.not-Some)

pub may_be_constant-requires-clause-name : goal.may_be_constant-requires-clause-name
may_be_constant-requires-clause-name c =
    still-name c.args.nodes.now c.typing_of.new.nodes c.in_ok-typing.ensures.extends c.args.name c.requires.name

pub may_be_constant-requires-clause-term : goal.may_be_constant-requires-clause-term
may_be_constant-requires-clause-term c =
    still-term c.args.nodes.now c.typing_of.new.nodes c.in_ok-typing.ensures.extends c.args.term c.requires.term

pub may_be_constant-requires-clause-ty : goal.may_be_constant-requires-clause-ty
may_be_constant-requires-clause-ty c =
    (subst (IsTyping c.typing_of.new.nodes [] (term_at c.args.nodes.now c.args.term)) c.in-Some.is
    c.in_ok-typing.ensures.ok).number

pub may_be_constant-requires-clause-typed : goal.may_be_constant-requires-clause-typed
may_be_constant-requires-clause-typed c =
    let us = c.typing_of.new.nodes in
    let typing = subst (IsTyping us [] (term_at c.args.nodes.now c.args.term)) c.in-Some.is
    c.in_ok-typing.ensures.ok in
    ap (type_in names []) (term-stays c.args.nodes.now us c.in_ok-typing.ensures.extends c.args.term c.requires.term)
    ∙ typing.type

pub returns-then-not-may-clause-defines : goal.returns-then-not-may-clause-defines
returns-then-not-may-clause-defines c = λ dl sig.
    let ts = c.args.nodes.now in
    let us = c.typing_of.new.nodes in
    let e = c.in_ok-typing.ensures.extends in
    let t = term_at ts c.args.term in
    let typing = subst (IsTyping us [] t) c.in-Some.is c.in_ok-typing.ensures.ok in
    let name = name-stays ts us e c.args.name c.requires.name in
    let term = term-stays ts us e c.args.term c.requires.term in
    let may = c.in_ok-may.ensures dl (signature-grown ts us e dl c.args.signature.now sig)
    ∙ (λ i. passes (checked_const names (all_defined names dl) (all_used names dl) (name i) (term i))) in
    constant-refused dl (name_at ts c.args.name) t (well-typed us t c.in-Some.typed typing)
    (sym may ∙ c.if-not-may.true)

pub equation-requires-clause-ty : goal.equation-requires-clause-ty
equation-requires-clause-ty c =
    let us = c.typing_of.new.nodes in
    let typing = subst (IsTyping us [] (term_at c.args.nodes.now c.args.term)) c.in-Some.is
    c.in_ok-typing.ensures.ok in
    still-type us c.constant.new.self c.in_ok-defined.ensures.extends c.in-Some.typed.ty typing.number

pub equation-requires-clause-a : goal.equation-requires-clause-a
equation-requires-clause-a c = has-term c.constant.new.self c.in_ok-defined.defined _ c.in_ok-defined.ensures.ok

pub returns-clause-defines : goal.returns-clause-defines
returns-clause-defines c = λ dl sig.
    let ts = c.args.nodes.now in
    let us = c.typing_of.new.nodes in
    let vs = c.constant.new.self in
    let ws = c.equation.new.self in
    let e = c.in_ok-typing.ensures.extends in
    let f = c.in_ok-defined.ensures.extends in
    let n = name_at ts c.args.name in
    let t = term_at ts c.args.term in
    let typing = subst (IsTyping us [] t) c.in-Some.is c.in_ok-typing.ensures.ok in
    let name = name-stays ts us e c.args.name c.requires.name in
    let term = term-stays ts us e c.args.term c.requires.term in
    let may = c.in_ok-may.ensures dl (signature-grown ts us e dl c.args.signature.now sig)
    ∙ (λ i. passes (checked_const names (all_defined names dl) (all_used names dl) (name i) (term i))) in
    let ty = type-stays us vs f c.in-Some.typed.ty typing.number in
    let left = term-is vs c.in_ok-defined.defined _ c.in_ok-defined.ensures.ok in
    let whole = term-stays us vs f c.args.term (still-term ts us e c.args.term c.requires.term) ∙ term in
    let a = type_at us c.in-Some.typed.ty in
    let made = subst (λ (u : Tm Name). IsTerm ws c.in_ok-concl.concl u)
    (λ i. equation names (ty i) ((left ∙ (λ j. Con (name j) a)) i) (whole i)) c.in_ok-concl.ensures.ok in
    let q = concluding ws c.without_hyps-theorem.result (equation names a (Con n a) t) c.in_ok-concl.concl
    c.without_hyps-theorem.ensures.hyps c.without_hyps-theorem.ensures.concl made in (
      subst (All (HasStatement ws)) (sym c.in_ok-theorems.ensures)
          (one-statement ws c.without_hyps-theorem.result q.0),
      ap (map (sequent_at ws)) c.in_ok-theorems.ensures
          ∙ constant-theorem n t a (sequent_at ws c.without_hyps-theorem.result) typing.type q.1,
      constant-passed dl n t (well-typed us t c.in-Some.typed typing) (sym may ∙ c.if-not-may.false),
    )

pub constant-requires-clause-name : goal.constant-requires-clause-name
constant-requires-clause-name c = still-name c.args.nodes.now c.typing_of.new.nodes c.in_ok-typing.ensures.extends
    c.args.name c.requires.name

pub constant-requires-clause-ty : goal.constant-requires-clause-ty
constant-requires-clause-ty c =
    (subst (IsTyping c.typing_of.new.nodes [] (term_at c.args.nodes.now c.args.term)) c.in-Some.is
    c.in_ok-typing.ensures.ok).number

pub equation-requires-clause-b : goal.equation-requires-clause-b
equation-requires-clause-b c = still-term c.args.nodes.now c.constant.new.self
    (Extends-trans c.in_ok-typing.ensures.extends c.constant.ensures.extends) c.args.term c.requires.term

pub without_hyps-theorem-requires : goal.without_hyps-theorem-requires
without_hyps-theorem-requires c = has-term c.equation.new.self c.in_ok-concl.concl _ c.in_ok-concl.ensures.ok

pub returns-in_err-defined-clause-known : goal.returns-in_err-defined-clause-known
returns-in_err-defined-clause-known c = typings-grown c.typing_of.new.nodes c.constant.new.self
    c.constant.ensures.extends c.typing_of.new.typings.known.entries c.typing_of.ensures.known

pub returns-in_err-concl-clause-known : goal.returns-in_err-concl-clause-known
returns-in_err-concl-clause-known c =
    typings-grown c.typing_of.new.nodes c.equation.new.self
    (Extends-trans c.constant.ensures.extends c.equation.ensures.extends) c.typing_of.new.typings.known.entries
    c.typing_of.ensures.known

pub returns-in_err-theorems-clause-known : goal.returns-in_err-theorems-clause-known
returns-in_err-theorems-clause-known c =
    typings-grown c.typing_of.new.nodes c.equation.new.self
    (Extends-trans c.constant.ensures.extends c.equation.ensures.extends) c.typing_of.new.typings.known.entries
    c.typing_of.ensures.known

pub returns-clause-known : goal.returns-clause-known
returns-clause-known c =
    typings-grown c.typing_of.new.nodes c.equation.new.self
    (Extends-trans c.constant.ensures.extends c.equation.ensures.extends) c.typing_of.new.typings.known.entries
    c.typing_of.ensures.known
