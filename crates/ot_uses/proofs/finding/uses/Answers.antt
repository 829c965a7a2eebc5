use Rattle.std.proofs.Common.{List, ℕ, [], ◌∷◌, sym, subst}
use Rattle.ot_leads.specs.Found.{AreUses}
use Rattle.ot_leads.specs.Leads.{AreLeads}
use Rattle.ot_leads.specs.declared.finding.Leads.{Leads}
use Rattle.ot_logic.specs.Naming.{IsNameTable}
use Rattle.ot_logic.specs.Table.{IsInjective}
use Rattle.ot_machine.specs.declared.session.Session.{Session}
use Rattle.ot_trace.specs.Origins.{Origin}
use Rattle.ot_uses.proofs.Found.{assumptions-are, definitions-are}
use Rattle.ot_uses.specs.Ready.{IsReady}
use Rattle.ot_uses.proofs.finding.uses.Goals as goal
use Rattle.ot_uses.proofs.finding.uses.Goals.{After-definition_steps, In_ok-used}

-- what is ready of the session is so of what its calls give
given : (c : After-definition_steps) (roots : List ℕ) (l : Leads) → IsReady c.args.session.now roots l
    → AreLeads c.trace-trace.result.now roots c.args.session.now.assumption_steps.items
    c.definition_steps.result.now l
given c roots l r =
    let gs = c.args.session.now.assumption_steps.items in
    subst (λ ts. AreLeads ts roots gs c.definition_steps.result.now l) (sym c.trace-trace.ensures)
    (subst (λ ds. AreLeads c.args.session.now.trace roots gs ds l) (sym c.definition_steps.ensures) r)

back : (c : After-definition_steps) (roots : List ℕ) (l : Leads)
    → AreLeads c.trace-trace.result.now roots c.args.session.now.assumption_steps.items
    c.definition_steps.result.now l → IsReady c.args.session.now roots l
back c roots l r =
    let gs = c.args.session.now.assumption_steps.items in
    subst (λ ds. AreLeads c.args.session.now.trace roots gs ds l) c.definition_steps.ensures
    (subst (λ ts. AreLeads ts roots gs c.definition_steps.result.now l) c.trace-trace.ensures r)

pub uses-requires : goal.uses-requires
uses-requires c = (
  c.args.session.now.assumption_steps.items,
  given ((goal.at.uses-requires c).After-definition_steps) (c.args.root ∷ []) c.args.leads.now c.requires.ready,
)

-- what the root leads to
found : (c : In_ok-used) → AreUses c.args.session.now.trace c.args.session.now.assumption_steps.items
    c.args.session.now.definition_steps.items c.args.root c.in_ok-used.used
found c =
    let gs = c.args.session.now.assumption_steps.items in
    let uses = c.in_ok-used.ensures.uses gs
    (given ((goal.at.In_ok-used c).After-definition_steps) (c.args.root ∷ []) c.args.leads.now c.requires.ready) in
    subst (λ ds. AreUses c.args.session.now.trace gs ds c.args.root c.in_ok-used.used) c.definition_steps.ensures
    (subst (λ ts. AreUses ts gs c.definition_steps.result.now c.args.root c.in_ok-used.used) c.trace-trace.ensures uses)

-- each name has one number, and each origin one step
named : (c : In_ok-used) → IsNameTable c.args.session.now.kernel.names
named c = subst (λ k. IsNameTable k.names) c.kernel.ensures c.sound.ensures.names

once : (c : In_ok-used) → IsInjective c.args.session.now.trace
once c = subst IsInjective c.trace-trace.ensures c.count-count.ensures.table.injective

pub returns-clause-assumptions : goal.returns-clause-assumptions
returns-clause-assumptions c =
    let here = (goal.at.returns-clause-assumptions c).In_ok-used in
    assumptions-are c.args.session.now c.requires.run (named here) (once here) c.args.root c.requires.root
    c.in_ok-used.used (found here)

pub returns-clause-definitions : goal.returns-clause-definitions
returns-clause-definitions c =
    let here = (goal.at.returns-clause-definitions c).In_ok-used in
    definitions-are c.args.session.now c.requires.run (named here) (once here) c.args.root c.requires.root
    c.in_ok-used.used (found here)

pub returns-clause-ready : goal.returns-clause-ready
returns-clause-ready c =
    let at = (goal.at.returns-clause-ready c).After-definition_steps in
    λ roots r. back at roots c.uses.new.self
    (c.in_ok-used.ensures.stays roots c.args.session.now.assumption_steps.items (given at roots c.args.leads.now r))
