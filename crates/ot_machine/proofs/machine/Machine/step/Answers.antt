use Rattle.std.proofs.Common.{rules, ◌≡◌, ◌∙◌, ◌+◌, ◌-◌, ◌^◌, sym, ap}
use Rattle.std.specs.Prelude.{min, Result, Ok}
use Rattle.ot_logic.specs.Names.{Name}
use Rattle.ot_logic.specs.Faults as faults
use Rattle.ot_scan.specs.Words.{word_value}
use Rattle.ot_machine.specs.States.{State}
use Rattle.ot_machine.specs.Meaning.{article_of, machine_state, command_at, version_of}
use Rattle.ot_machine.specs.Contexts.{context_of}
use Rattle.ot_machine.specs.Step.{row, step}
use Rattle.ot_machine.proofs.Kept.{trace-same}
use Rattle.ot_machine.proofs.InContext.{context-kept, of_context-kept}
use Rattle.ot_machine.proofs.Turning.{with_count, stepped, refused-moves}
use Rattle.ot_machine.proofs.machine.Machine.step.Goals as goal
use Rattle.ot_machine.proofs.machine.Machine.step.Goals.{In_ok-version}

-- the command and the state as they were before the command's name was interned
abbrev stated : In_ok-version → Result State (faults.Fault Name)
stated c =
    row (version_of c.in_ok-version.version) (context_of c.args.session.now c.args.context.now)
    (command_at c.command.new.self.kernel c.in_ok-command.command) (machine_state c.args.session.now c.args.self.now)

by_row : (c : In_ok-version)
    → step (context_of c.args.session.now c.args.context.now) (machine_state c.args.session.now c.args.self.now)
    (word_value c.args.word) ≡ with_count (version_of c.in_ok-version.version) (stated c)
by_row c =
    stepped (context_of c.args.session.now c.args.context.now) (machine_state c.args.session.now c.args.self.now)
    (word_value c.args.word) (command_at c.command.new.self.kernel c.in_ok-command.command)
    (version_of c.in_ok-version.version) c.in_ok-command.ensures.made
    (c.in_ok-version.ensures c.command.new.self.kernel)

as_stated : (c : In_ok-version)
    → row (version_of c.in_ok-version.version) (context_of c.command.new.self c.args.context.now)
    (command_at c.command.new.self.kernel c.in_ok-command.command) (machine_state c.command.new.self c.args.self.now)
    ≡ stated c
as_stated c =
    let there = c.in_ok-command.ensures.kept in
    let context = context-kept c.args.session.now c.command.new.self c.requires.of.run
    (record { kernel = there.machine.grown; trace = trace-same _ _ there.machine.trace }) c.args.context.now
    c.requires.context in
    λ i. row (version_of c.in_ok-version.version) (context i)
    (command_at c.command.new.self.kernel c.in_ok-command.command)
    (record { article = there.machine.article i; run = there.run i })

pub returns-in_err-row-clause-moves : goal.returns-in_err-row-clause-moves
returns-in_err-row-clause-moves c =
    let l = c.row.new.session.kernel in
    let before = (goal.at.returns-in_err-row-clause-moves c).In_ok-version in
    let m = c.in_err-row.ensures.moves in
    let there = c.in_ok-command.ensures.kept in
    let same : machine_state c.command.new.self c.args.self.now ≡ machine_state c.args.session.now c.args.self.now =
    λ i. record { article = there.machine.article i; run = there.run i } in
    refused-moves c.from_residual-in_err-row.result c.in_err-row.field-0.0 l _
    (machine_state c.args.session.now c.args.self.now) (machine_state c.row.new.session c.row.new.self) (search rules)
    (m.0 ∙ same) (
      m.1.0,
      λ f p. by_row before ∙ ap (with_count (version_of c.in_ok-version.version))
          (sym (as_stated before) ∙ m.1.1 f p),
    )

pub returns-clause-moves : goal.returns-clause-moves
returns-clause-moves c =
    let before = (goal.at.returns-clause-moves c).In_ok-version in
    let next = c.row.new.self in
    let counts : min (next.count + 1) (2 ^ 64 - 1) ≡ c.saturating_add-self.result = search rules in
    by_row before
    ∙ ap (with_count (version_of c.in_ok-version.version)) (sym (as_stated before) ∙ c.in_ok-row.ensures.moves)
    ∙ ap (λ n.
    Ok (record (machine_state c.row.new.session next) {
      article = record (article_of c.row.new.session next)
          { count = n; version = version_of c.in_ok-version.version };
    })) counts

pub row-requires-clause-context : goal.row-requires-clause-context
row-requires-clause-context c =
    let there = c.in_ok-command.ensures.kept in
    of_context-kept c.args.session.now c.command.new.self c.requires.of.run
    (record { kernel = there.machine.grown; trace = trace-same _ _ there.machine.trace }) c.args.context.now
    c.requires.context
