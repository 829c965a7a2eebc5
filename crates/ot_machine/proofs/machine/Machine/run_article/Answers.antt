use Rattle.std.specs.Prelude.{Ok}
use Rattle.std.proofs.Common.{◌≡◌, ◌∙◌, sym, ap, subst}
use Rattle.ot_io.proofs.Keeping.{KeepsSource-then}
use Rattle.ot_scan.specs.Lines.{TakesFrom}
use Rattle.ot_machine.specs.Meaning.{machine_state}
use Rattle.ot_machine.specs.Contexts.{context_of}
use Rattle.ot_machine.specs.Run.{line_step}
use Rattle.ot_machine.specs.Answers.{Refuses}
use Rattle.ot_machine.specs.declared.fault.Fault.TheVariants.{Memory}
use Rattle.ot_machine.specs.declared.fault.ArticleFault.TheVariants.{At}
use Rattle.ot_machine.proofs.Kept.{grows-on}
use Rattle.ot_machine.proofs.InContext.{context-kept, of_context-kept}
use Rattle.ot_machine.proofs.Followed.{follows-none, follows-end, follows-line, follows-refused}
use Rattle.ot_machine.proofs.Followed.{follows-stopped, refused-apart, stopped-apart}
use Rattle.ot_machine.proofs.machine.Machine.run_article.Goals as goal
use Rattle.ot_logic.specs.RanOut.{ran_out}

pub returns-in-Ok-None-clause-runs : goal.returns-in-Ok-None-clause-runs
returns-in-Ok-None-clause-runs g c =
    let before = g.S.Source.left c.lines.source in
    let after = g.S.Source.left c.next.new.source in
    let taken = subst (λ r. TakesFrom r c.lines.lines c.next.follows.lender-at-none before after)
    (c.in-Ok-None.is ∙ ap Ok c.in-Ok-None.field-0-is) c.next.follows.holds-at-none.0 in
    follows-end (context_of c.args.session.now c.args.context.now) c.args.max_bytes
    (machine_state c.args.session.now c.args.self.now) c.lines.session.kernel (machine_state c.lines.session c.lines.self)
    c.lines.lines c.next.follows.lender-at-none (g.S.Source.left c.args.source.now) before after
    c.lines.invariant.so_far taken

pub returns-in-Err-line-clause-runs : goal.returns-in-Err-line-clause-runs
returns-in-Err-line-clause-runs g c =
    let before = g.S.Source.left c.lines.source in
    let after = g.S.Source.left c.next.new.source in
    let taken = subst (λ r. TakesFrom r c.lines.lines c.next.follows.lender-at-none before after)
    (c.in-Ok-Some.is ∙ ap Ok c.in-Ok-Some.field-0-is) c.next.follows.holds-at-none.0 in
    let now = machine_state c.lines.session c.lines.self in
    let next = machine_state c.line.new.session c.line.new.self in
    let same = context-kept c.args.session.now c.lines.session c.requires.of.run c.lines.invariant.grown
    c.args.context.now c.requires.context in
    rw c.refusal.ensures
    (follows-refused (context_of c.args.session.now c.args.context.now) c.args.max_bytes
    (machine_state c.args.session.now c.args.self.now) c.line.new.session.kernel c.in-Err-line.fault
    (machine_state c.lines.session c.lines.self) (machine_state c.line.new.session c.line.new.self) c.lines.lines
    c.next.follows.lender-at-none c.in-Ok-Some.line (g.S.Source.left c.args.source.now) before after
    c.lines.invariant.so_far taken
    (subst (λ x. (next ≡ now) × Refuses c.line.new.session.kernel c.in-Err-line.fault
    (line_step x now c.in-Ok-Some.line.text.now)) same c.in-Err-line.ensures.moves))

pub lines-preserved : goal.lines-preserved
lines-preserved g c =
    let before = g.S.Source.left c.lines.source in
    let after = g.S.Source.left c.next.new.source in
    let taken = subst (λ r. TakesFrom r c.lines.lines c.next.follows.lender-at-none before after)
    (c.in-Ok-Some.is ∙ ap Ok c.in-Ok-Some.field-0-is) c.next.follows.holds-at-none.0 in
    let same = context-kept c.args.session.now c.lines.session c.requires.of.run c.lines.invariant.grown
    c.args.context.now c.requires.context in
    record {
      so_far = follows-line (context_of c.args.session.now c.args.context.now) c.args.max_bytes
          (machine_state c.args.session.now c.args.self.now) (machine_state c.lines.session c.lines.self)
          (machine_state c.line.new.session c.line.new.self) c.lines.lines c.next.follows.lender-at-none c.in-Ok-Some.line
          (g.S.Source.left c.args.source.now) before after c.lines.invariant.so_far taken
          (ap (λ x. line_step x (machine_state c.lines.session c.lines.self) c.in-Ok-Some.line.text.now) (sym same)
          ∙ c.in_default.ensures.moves);
      of = c.line.ensures.of;
      grown = grows-on c.lines.invariant.grown c.line.ensures.grown;
      kept = KeepsSource-then c.lines.invariant.kept c.next.ensures.kept;
    }

pub returns-in-Err-clause-runs : goal.returns-in-Err-clause-runs
returns-in-Err-clause-runs g c =
    let before = g.S.Source.left c.lines.source in
    let after = g.S.Source.left c.next.new.source in
    let taken = subst (λ r. TakesFrom r c.lines.lines c.next.follows.lender-at-none before after) c.in-Err.is
    c.next.follows.holds-at-none.0 in
    rw c.from.ensures
    (follows-stopped (context_of c.args.session.now c.args.context.now) c.args.max_bytes
    (machine_state c.args.session.now c.args.self.now) c.lines.session.kernel c.in-Err.fault
    (machine_state c.lines.session c.lines.self) c.lines.lines c.next.follows.lender-at-none
    (g.S.Source.left c.args.source.now) before after c.lines.invariant.so_far taken)

pub line-requires-clause-context : goal.line-requires-clause-context
line-requires-clause-context g c = of_context-kept c.args.session.now c.lines.session c.requires.of.run
    c.lines.invariant.grown c.args.context.now c.requires.context

pub returns-in-Err-line-clause-grown : goal.returns-in-Err-line-clause-grown
returns-in-Err-line-clause-grown g c = grows-on c.lines.invariant.grown c.in-Err-line.ensures.grown

pub returns-in-Err-line-clause-apart : goal.returns-in-Err-line-clause-apart
returns-in-Err-line-clause-apart g c =
    λ line e.
    let is : c.refusal.result ≡ At line (Memory ran_out) = cc in
    refused-apart c.in-Ok-Some.line.number line c.in-Err-line.fault (sym c.refusal.ensures ∙ is)

pub returns-in-Err-clause-apart : goal.returns-in-Err-clause-apart
returns-in-Err-clause-apart g c =
    λ line e.
    let is : c.from.result ≡ At line (Memory ran_out) = cc in
    stopped-apart line c.in-Err.fault (sym c.from.ensures ∙ is)
