use Rattle.std.proofs.Common.{◌≡◌, rules, ◌∙◌, List, ◌∷◌, [], map, sym, ap}
use Rattle.std.specs.Prelude.{Ok}
use Rattle.ot_logic.specs.Answers.{◌>>=◌}
use Rattle.ot_kernel.specs.State.{name_at, theorem_at}
use Rattle.ot_machine.specs.Objects.{type_op, constant, theorem}
use Rattle.ot_machine.specs.States.{Entry}
use Rattle.ot_machine.specs.Rows.{with_defined, type_op_entry, constant_entry}
use Rattle.ot_machine.specs.Defining.{operator_theorems}
use Rattle.ot_machine.specs.Meaning.{origin_of, machine_state, version_of}
use Rattle.ot_machine.specs.Contexts.{context_of}
use Rattle.ot_machine.specs.Step.{define_type_row}
use Rattle.ot_machine.proofs.Kept.{article-kept, of-kept}
use Rattle.ot_machine.proofs.Turning.{name-kept, state-defined, refused-turn, type_op_after, type_op-read}
use Rattle.ot_machine.proofs.rows.definitions.define_type.Goals as goal
use Rattle.ot_machine.proofs.rows.definitions.define_type.Goals.{After-deref}

-- the entries of the symbols
abbrev Symbols : After-deref → List Entry
Symbols c =
    let k = c.args.session.now.kernel in
    type_op_entry (name_at k c.type_op_named-name.result) ∷ constant_entry (name_at k c.constant_named-abs.result)
    ∷ constant_entry (name_at k c.constant_named-rep.result) ∷ []

-- the row, after what it reads
read : (c : After-deref) → (let s = c.args.session.now in
    let k = s.kernel in
    let st = machine_state s c.args.machine.now in
    define_type_row (version_of c.args.version) (context_of s c.args.context.now) st
    ≡ type_op_after (version_of c.args.version) st (theorem_at k c.in_ok-premise.premise)
    (map (name_at k) c.deref.result.now) (name_at k c.constant_named-rep.result)
    (name_at k c.constant_named-abs.result) (name_at k c.type_op_named-name.result))
read c =
    let s = c.args.session.now in
    type_op-read (context_of s c.args.context.now) (machine_state s c.args.machine.now) _
    (map (name_at s.kernel) c.deref.result.now) _ _ _ _ _ _ c.in_ok-premise.ensures.found
    (c.in_ok-variables.ensures.found ∙ ap (λ is. Ok (map (name_at s.kernel) is)) (sym c.deref.ensures.value))
    c.in_ok-rep.ensures.found c.in_ok-abs.ensures.found c.in_ok-name.ensures.found
    c.constant_named-rep.ensures.renamed c.constant_named-abs.ensures.renamed
    c.type_op_named-name.ensures.renamed (version_of c.args.version)

pub returns-in_err-defined : goal.returns-in_err-defined
returns-in_err-defined c =
    let at = (goal.at.returns-in_err-defined c).After-deref in
    let s = c.args.session.now in
    let m = c.args.machine.now in
    let there = c.in_err-defined.ensures in
    refused-turn _ c.in_err-defined.field-0.0
    (define_type_row (version_of c.args.version) (context_of s c.args.context.now)) s m c.type_definition.new.self m
    (search rules)
    (λ i. record {
      article = article-kept s c.type_definition.new.self m c.requires.of there.adds.grown i;
      run = there.adds.refused i;
    }) (
      there.made.0,
      λ f p. read at ∙ ap (λ r. r >>= λ d. Ok (with_defined 5 (Symbols at) d (machine_state s m))) (there.made.1 f p),
    )
    there.adds.grown (of-kept s c.type_definition.new.self m c.requires.of there.adds.grown there.adds.is_run)

pub exchange-requires-clause-of : goal.exchange-requires-clause-of
exchange-requires-clause-of c =
    let adds = c.in_ok-defined.ensures.adds in
    of-kept c.args.session.now c.type_definition.new.self c.args.machine.now c.requires.of adds.grown adds.is_run

pub returns : goal.returns
returns c =
    let at = (goal.at.returns c).After-deref in
    let s = c.args.session.now in
    let t = c.type_definition.new.self in
    let k = s.kernel in
    let l = t.kernel in
    let m = c.args.machine.now in
    let there = c.in_ok-defined.ensures in
    let d = c.in_ok-defined.defined in
    let rep = name-kept k l there.adds.grown.kernel c.constant_named-rep.result c.constant_named-rep.ensures.inside in
    let abs = name-kept k l there.adds.grown.kernel c.constant_named-abs.result c.constant_named-abs.ensures.inside in
    let name =
    name-kept k l there.adds.grown.kernel c.type_op_named-name.result c.type_op_named-name.ensures.inside in
    let first : Entry = record { object = theorem (theorem_at l d.abs_rep); origin = origin_of t d.abs_rep_step } in
    let second : Entry = record { object = theorem (theorem_at l d.rep_abs); origin = origin_of t d.rep_abs_step } in
    record {
      moves = read at ∙ ap (λ r. r >>= λ d. Ok (with_defined 5 (Symbols at) d (machine_state s m))) there.made
          ∙ ap Ok (state-defined s t m m c.exchange.new.machine 5 _ (Symbols at) (operator_theorems t d)
          (article-kept s t m c.requires.of there.adds.grown)
          c.exchange.ensures.changed
          (λ i.
          record { object = type_op (name i); origin = there.operator.op i }
          ∷ record { object = constant (abs i); origin = there.operator.abs i }
          ∷ record { object = constant (rep i); origin = there.operator.rep i }
          ∷ first ∷ second ∷ []));
      grown = there.adds.grown;
      of = c.exchange.ensures.of;
    }
