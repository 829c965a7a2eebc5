use Rattle.std.specs.Prelude.{IfOk, ◌&&◌}
use Rattle.std.specs.List.{All, list_all}
use Rattle.std.proofs.Common.{◌≡◌, ℕ, Bool, List, sym, ap, ◌∙◌, subst}
use Rattle.ot_logic.specs.Naming.{names}
use Rattle.ot_logic.specs.Hol.{IsWellTyped}
use Rattle.ot_log_format.specs.Steps.{is_within}
use Rattle.ot_log_nodes.specs.Items.{term_at}
use Rattle.ot_log_nodes.proofs.ItemLemmas.{still-term, term-stays}
use Rattle.ot_log_rules.specs.Statements.{terms_at}
use Rattle.ot_log_rules.proofs.Numbers.{All-unmap}
use Rattle.ot_log_rules.proofs.typing.is_statement_within.Goals as goal

pub are_within-requires-clause-typed : goal.are_within-requires-clause-typed
are_within-requires-clause-typed c =
    let ts = c.args.nodes.now in
    subst (All (λ i. IsWellTyped names (term_at ts i))) (sym c.deref.ensures.value)
    (All-unmap (IsWellTyped names) (term_at ts) c.args.statement.now.hyps.items c.requires.typed.hyps)

pub is_within-requires-clause-id : goal.is_within-requires-clause-id
is_within-requires-clause-id c = still-term c.args.nodes.now c.are_within.new.nodes c.in_ok-within.ensures.extends
    c.args.statement.now.concl c.requires.has.concl

pub is_within-requires-clause-typed : goal.is_within-requires-clause-typed
is_within-requires-clause-typed c =
    subst (IsWellTyped names)
    (sym (term-stays c.args.nodes.now c.are_within.new.nodes c.in_ok-within.ensures.extends
    c.args.statement.now.concl c.requires.has.concl)) c.requires.typed.concl

pub returns-clause-ok : goal.returns-clause-ok
returns-clause-ok c =
    let ts = c.args.nodes.now in
    let q = c.args.statement.now in
    let concl = is_within names (term_at ts q.concl) in
    let hyps = c.in_ok-within.ensures.ok ∙ ap (λ (l : List ℕ). list_all (is_within names) (terms_at ts l))
    c.deref.ensures.value in
    let same =
    ap (is_within names) (term-stays ts c.are_within.new.nodes c.in_ok-within.ensures.extends q.concl
    c.requires.has.concl) ∙ sym (ap (λ b. b && concl) (sym hyps ∙ c.if-not-within.false)) in
    subst (λ (x : Bool). IfOk c.is_within.result (λ b. b ≡ x)) same c.is_within.ensures.ok
