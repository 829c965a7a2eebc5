use Rattle.std.proofs.Common.{◌≡◌, rules, ◌∙◌, ◌∷◌, [], ap}
use Rattle.std.specs.Prelude.{Ok}
use Rattle.ot_logic.specs.Answers.{◌>>=◌}
use Rattle.ot_kernel.specs.State.{name_at, term_at, theorem_at}
use Rattle.ot_machine.specs.Objects.{constant, theorem}
use Rattle.ot_machine.specs.States.{Entry}
use Rattle.ot_machine.specs.Rows.{define_const_row, with_defined, constant_entry}
use Rattle.ot_machine.specs.Contexts.{context_of}
use Rattle.ot_machine.specs.Meaning.{origin_of, machine_state}
use Rattle.ot_machine.proofs.Kept.{article-kept, of-kept}
use Rattle.ot_machine.proofs.Turning.{state-defined, refused-turn, const_after, const-read}
use Rattle.ot_machine.proofs.rows.definitions.define_const.Goals as goal
use Rattle.ot_machine.proofs.rows.definitions.define_const.Goals.{After-constant_named-named}

-- the row, after what it reads
read : (c : After-constant_named-named) → (let s = c.args.session.now in
    let st = machine_state s c.args.machine.now in
    define_const_row (context_of s c.args.context.now) st
    ≡ const_after st (term_at s.kernel c.in_ok-term.term) (name_at s.kernel c.constant_named-named.result))
read c =
    let s = c.args.session.now in
    const-read (context_of s c.args.context.now) (machine_state s c.args.machine.now) _ _ _
    c.in_ok-term.ensures.found c.in_ok-name.ensures.found c.constant_named-named.ensures.renamed

pub returns-in_err-defined : goal.returns-in_err-defined
returns-in_err-defined c =
    let s = c.args.session.now in
    let m = c.args.machine.now in
    let t = c.constant_definition.new.self in
    let n = name_at s.kernel c.constant_named-named.result in
    let adds = c.in_err-defined.ensures.adds in
    let made = c.in_err-defined.ensures.made in
    refused-turn _ c.in_err-defined.field-0.0 (define_const_row (context_of s c.args.context.now)) s m t m (search rules)
    (λ i. record { article = article-kept s t m c.requires.of adds.grown i; run = adds.refused i }) (
      made.0,
      λ f p. read (goal.at.returns-in_err-defined c).After-constant_named-named
          ∙ ap (λ r. r >>= λ d. Ok (with_defined 2 (constant_entry n ∷ []) d (machine_state s m))) (made.1 f p),
    )
    adds.grown (of-kept s t m c.requires.of adds.grown adds.is_run)

pub exchange-requires-clause-of : goal.exchange-requires-clause-of
exchange-requires-clause-of c =
    let adds = c.in_ok-defined.ensures.adds in
    of-kept c.args.session.now c.constant_definition.new.self c.args.machine.now c.requires.of adds.grown adds.is_run

pub returns : goal.returns
returns c =
    let s = c.args.session.now in
    let m = c.args.machine.now in
    let t = c.constant_definition.new.self in
    let n = name_at s.kernel c.constant_named-named.result in
    let there = c.in_ok-defined.ensures in
    let d = c.in_ok-defined.defined in
    let q : Entry = record { object = theorem (theorem_at t.kernel d.theorem); origin = origin_of t d.step } in
    record {
      moves = read (goal.at.returns c).After-constant_named-named
          ∙ ap (λ r. r >>= λ d. Ok (with_defined 2 (constant_entry n ∷ []) d (machine_state s m))) there.made
          ∙ ap Ok (state-defined s t m m c.exchange.new.machine 2 _ (constant_entry n ∷ []) (q ∷ [])
          (article-kept s t m c.requires.of there.adds.grown) c.exchange.ensures.changed
          (λ i. record { object = constant (there.name i); origin = there.symbol i } ∷ q ∷ []));
      grown = there.adds.grown;
      of = c.exchange.ensures.of;
    }
