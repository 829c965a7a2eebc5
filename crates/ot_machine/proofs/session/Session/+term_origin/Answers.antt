use Rattle.std.proofs.Common.{◌≡◌, [], ◌∷◌, ◌+◌, sym, ap, subst, ◌∙◌, suc, arith}
use Rattle.std.specs.Fmt.{decimal}
use Rattle.std.specs.List.{All}
use Rattle.std.proofs.lemmas.List.Elements.{All-cons}
use Rattle.ot_logic.specs.declared.command.Cmd.TheVariants as words
use Rattle.ot_kernel.specs.State.{name_at, named_at}
use Rattle.ot_trace.specs.Origins.{Named, make_two, constant_origin}
use Rattle.ot_machine.specs.Version5.{var_term, app, lam}
use Rattle.ot_machine.specs.Canonical.{canon_in, binders_at, IsBinderIn}
use Rattle.ot_machine.specs.declared.makers.canonical.Part.{Part}
use Rattle.ot_machine.specs.declared.makers.canonical.Binder.{Binder}
use Rattle.ot_machine.proofs.Kept.{origin-kept, traces-grow}
use Rattle.ot_machine.proofs.Traced.{traces-on}
use Rattle.ot_machine.proofs.Staying.{traces-stay, stays-on}
use Rattle.ot_machine.proofs.Canonical.{canon-agree, binders-inside}
use Rattle.ot_machine.proofs.Canonical.{binders-later, named-later, type-later, name-later, key-later}
use Rattle.ot_machine.proofs.Canonical.{types-later, terms-later, known-later, terms-insert}
use Rattle.ot_machine.proofs.Occurrences.{occurrences-later}
use Rattle.ot_machine.proofs.session.Session.+term_origin.Goals as goal

pub term_origin-returns-in-Some-clause-made : goal.term_origin-returns-in-Some-clause-made
term_origin-returns-in-Some-clause-made t c =
    let s = c.args.self.now in
    let part : Part = record { id = c.args.id; depth = c.args.depth; binders = c.in_ok-binders.binders } in
    (c.requires.known.terms.known part c.in-Some.step.now (sym c.in-Some.ensures.value)).origin
    ∙ canon-agree c.args.depth (binders_at s c.in_ok-binders.binders.items) (binders_at s c.args.binders.now)
    (named_at s.kernel.terms c.args.id) c.in_ok-binders.ensures.same

pub term_origin-returns-in-Some-clause-inside : goal.term_origin-returns-in-Some-clause-inside
term_origin-returns-in-Some-clause-inside t c =
    let part : Part = record { id = c.args.id; depth = c.args.depth; binders = c.in_ok-binders.binders } in
    (c.requires.known.terms.known part c.in-Some.step.now (sym c.in-Some.ensures.value)).step

pub term_origin-returns-clause-made : goal.term_origin-returns-clause-made
term_origin-returns-clause-made t c =
    let s = c.args.self.now in
    c.in_ok-step.ensures.made
    ∙ (λ k. canon_in c.args.depth (binders_at s (c.deref.ensures.value k)) (named_at s.kernel.terms c.args.id))
    ∙ canon-agree c.args.depth (binders_at s c.in_ok-binders.binders.items) (binders_at s c.args.binders.now)
    (named_at s.kernel.terms c.args.id) c.in_ok-binders.ensures.same

pub term_origin-returns-clause-known : goal.term_origin-returns-clause-known
term_origin-returns-clause-known t c =
    let s = c.args.self.now in
    let u = c.node_origin.new.self in
    let grown = c.in_ok-step.ensures.kept.grown in
    let inside = c.in_ok-binders.ensures.inside in
    let items = c.in_ok-binders.binders.items in
    let bs = binders-later s u grown c.requires.run items inside in
    let here = named-later s u grown c.args.id c.requires.id in
    record {
      types = c.in_ok-step.ensures.known.types;
      terms = terms-insert u c.node_origin.new.known.terms.entries c.insert.new.self.entries
          (record { id = c.args.id; depth = c.args.depth; binders = c.in_ok-binders.binders }) c.in_ok-step.step
          c.in_ok-step.ensures.known.terms
          (record {
            id = omega (arith, c.requires.id, grown.kernel.terms.longer);
            step = c.in_ok-step.ensures.inside;
            binders = binders-inside s u grown items inside;
            origin = c.in_ok-step.ensures.made
                ∙ (λ k. canon_in c.args.depth (binders_at s (c.deref.ensures.value k))
                (named_at s.kernel.terms c.args.id)) ∙ (λ k. canon_in c.args.depth (sym bs k) (sym here k));
          }) c.in_ok-insert.ensures.updates.0;
      free = c.in_ok-step.ensures.known.free;
    }

-- ---- a variable
pub node_origin-returns-in_ok-made_of-in-Var-clause-made : goal.node_origin-returns-in_ok-made_of-in-Var-clause-made
node_origin-returns-in_ok-made_of-in-Var-clause-made t c =
    let s = c.args.self.now in
    let tree = rw c.in-Var.is at c.term_node.ensures.tree in
    c.in_ok-made_of-in-Var.ensures.made ∙ ap var_term c.in_ok-variable-in-Var.ensures.made
    ∙ ap (canon_in c.args.depth (binders_at s c.args.binders.now)) (sym tree)

pub node_origin-returns-in_ok-made_of-in-Var-clause-known : goal.node_origin-returns-in_ok-made_of-in-Var-clause-known
node_origin-returns-in_ok-made_of-in-Var-clause-known t c =
    let t1 = c.variable_origin.new.self in
    let t2 = c.made_of.new.self in
    known-later t1 t2 (traces-grow t1 t2 c.in_ok-made_of-in-Var.ensures.kept)
    c.in_ok-variable-in-Var.ensures.kept.is_run c.variable_origin.new.known c.in_ok-variable-in-Var.ensures.known

-- ---- a constant
pub node_origin-returns-in_ok-constant_step-in-Const-clause-made : goal.node_origin-returns-in_ok-constant_step-in-Const-clause-made
node_origin-returns-in_ok-constant_step-in-Const-clause-made t c =
    let s = c.args.self.now in
    let tree = rw c.in-Const.is at c.term_node.ensures.tree in
    let one = c.in_ok-ty-in-Const.ensures.kept in
    c.in_ok-constant_step-in-Const.ensures.made
    ∙ (λ i. make_two words.ConstTerm (constant_origin (Named (name_at (one.kernel i) c.in-Const.name)))
    (c.in_ok-ty-in-Const.ensures.made i)) ∙ ap (canon_in c.args.depth (binders_at s c.args.binders.now))
    (sym tree)

pub node_origin-returns-in_ok-constant_step-in-Const-clause-known : goal.node_origin-returns-in_ok-constant_step-in-Const-clause-known
node_origin-returns-in_ok-constant_step-in-Const-clause-known t c =
    let s = c.args.self.now in
    let t1 = c.type_origin.new.self in
    let t2 = c.constant_step.new.self in
    let one = c.in_ok-ty-in-Const.ensures.kept in
    let two = c.in_ok-constant_step-in-Const.ensures.kept in
    record {
      types = types-later t1 t2 (traces-grow t1 t2 two) one.is_run c.type_origin.new.known.entries
          c.in_ok-ty-in-Const.ensures.known;
      terms = terms-later s t2 (traces-grow s t2 (traces-on s t1 t2 one two)) c.requires.run
          c.args.known.now.terms.entries c.requires.known.terms;
      free = occurrences-later s.kernel t2.kernel (traces-grow s t2 (traces-on s t1 t2 one two)).kernel
          c.args.known.now.free.entries c.requires.known.free;
    }

-- ---- an application
pub node_origin-returns-in_ok-made_of-in-App-clause-made : goal.node_origin-returns-in_ok-made_of-in-App-clause-made
node_origin-returns-in_ok-made_of-in-App-clause-made t c =
    let s = c.args.self.now in
    let t1 = c.term_origin.new.self in
    let t2 = c.term_origin-in-App.new.self in
    let one = c.in_ok-f-in-App.ensures.kept in
    let two = c.in_ok-x-in-App.ensures.kept in
    let tree = rw c.in-App.is at c.term_node.ensures.tree in
    let below = rw c.in-App.is at c.term_node.ensures.inside in
    let bs = binders-later s t1 one.grown c.requires.run c.args.binders.now c.requires.binders in
    let x = named-later s t1 one.grown c.in-App.x (omega (arith, below.1, c.requires.id)) in
    let left = origin-kept t1 t2 one.is_run two.grown c.in_ok-f-in-App.f c.in_ok-f-in-App.ensures.inside
    ∙ c.in_ok-f-in-App.ensures.made in
    let right = c.in_ok-x-in-App.ensures.made ∙ (λ i. canon_in c.args.depth (bs i) (x i)) in
    c.in_ok-made_of-in-App.ensures.made ∙ (λ i. app (left i) (right i))
    ∙ ap (canon_in c.args.depth (binders_at s c.args.binders.now)) (sym tree)

pub node_origin-returns-in_ok-made_of-in-App-clause-known : goal.node_origin-returns-in_ok-made_of-in-App-clause-known
node_origin-returns-in_ok-made_of-in-App-clause-known t c =
    let t2 = c.term_origin-in-App.new.self in
    let t3 = c.made_of-in-App.new.self in
    known-later t2 t3 (traces-grow t2 t3 c.in_ok-made_of-in-App.ensures.kept)
    c.in_ok-x-in-App.ensures.kept.is_run c.term_origin-in-App.new.known c.in_ok-x-in-App.ensures.known

-- ---- an abstraction
pub node_origin-returns-in_ok-made_of-in-Abs-clause-made : goal.node_origin-returns-in_ok-made_of-in-Abs-clause-made
node_origin-returns-in_ok-made_of-in-Abs-clause-made t c =
    let s = c.args.self.now in
    let t1 = c.type_origin-in-Abs.new.self in
    let t2 = c.binder_step.new.self in
    let t3 = c.term_origin-in-Abs.new.self in
    let one = c.in_ok-ty-in-Abs.ensures.kept in
    let two = c.in_ok-step-in-Abs.ensures.kept in
    let three = c.in_ok-body-in-Abs.ensures.kept in
    let grown = (stays-on (traces-stay one) two).grown in
    let v = c.in-Abs.v in
    let tree = rw c.in-Abs.is at c.term_node.ensures.tree in
    let below = rw c.in-Abs.is at c.term_node.ensures.inside in
    let step = c.in_ok-step-in-Abs.ensures.made ∙ ap (λ o. make_two words.Var (Named (decimal c.args.depth ∷ [])) o)
    c.in_ok-ty-in-Abs.ensures.made in
    let n = name-later s t2 grown v.name below.0.0 in
    let y = type-later s t2 grown v.ty below.0.1 in
    let rest = binders-later s t2 grown c.requires.run c.args.binders.now c.requires.binders in
    let items = c.deref.ensures.value ∙ c.in_ok-inner-in-Abs.ensures in
    let bs = ap (binders_at t2) items ∙ (λ i. (record { name = n i; ty = y i }, step i) ∷ rest i) in
    let b = named-later s t2 grown c.in-Abs.body (omega (arith, below.1, c.requires.id)) in
    let deeper : c.args.depth + 1 ≡ suc c.args.depth = omega arith in
    let binder = origin-kept t2 t3 two.is_run three.grown c.in_ok-step-in-Abs.step c.in_ok-step-in-Abs.ensures.inside
    ∙ step in
    let inner = c.in_ok-body-in-Abs.ensures.made ∙ (λ i. canon_in (deeper i) (bs i) (b i)) in
    c.in_ok-made_of-in-Abs.ensures.made ∙ (λ i. lam (binder i) (inner i))
    ∙ ap (canon_in c.args.depth (binders_at s c.args.binders.now)) (sym tree)

pub node_origin-returns-in_ok-made_of-in-Abs-clause-known : goal.node_origin-returns-in_ok-made_of-in-Abs-clause-known
node_origin-returns-in_ok-made_of-in-Abs-clause-known t c =
    let t3 = c.term_origin-in-Abs.new.self in
    let t4 = c.made_of-in-Abs.new.self in
    known-later t3 t4 (traces-grow t3 t4 c.in_ok-made_of-in-Abs.ensures.kept)
    c.in_ok-body-in-Abs.ensures.kept.is_run c.term_origin-in-Abs.new.known c.in_ok-body-in-Abs.ensures.known

pub node_origin-term_origin-requires-in-Abs : goal.node_origin-term_origin-requires-in-Abs
node_origin-term_origin-requires-in-Abs t c =
    let s = c.args.self.now in
    let t1 = c.type_origin-in-Abs.new.self in
    let t2 = c.binder_step.new.self in
    let one = c.in_ok-ty-in-Abs.ensures.kept in
    let two = c.in_ok-step-in-Abs.ensures.kept in
    let grown = (stays-on (traces-stay one) two).grown in
    let below = rw c.in-Abs.is at c.term_node.ensures.inside in
    let items = c.deref.ensures.value ∙ c.in_ok-inner-in-Abs.ensures in
    let binder : Binder = record { variable = c.in-Abs.v; step = c.in_ok-step-in-Abs.step } in
    let here : IsBinderIn t2 binder = (key-later s t2 grown c.in-Abs.v below.0, c.in_ok-step-in-Abs.ensures.inside) in (
      omega (arith, c.decreases, below.1),
      (
        two.is_run,
        (
          omega (arith, below.1, c.requires.id, grown.kernel.terms.longer),
          (
            omega (arith, below.1, c.requires.room),
            (
              subst (All (IsBinderIn t2)) (sym items)
                  (All-cons (IsBinderIn t2) binder c.args.binders.now here
                  (binders-inside s t2 grown c.args.binders.now c.requires.binders)),
              record {
                types = types-later t1 t2 two.grown one.is_run c.type_origin-in-Abs.new.known.entries
                    c.in_ok-ty-in-Abs.ensures.known;
                terms = terms-later s t2 grown c.requires.run c.args.known.now.terms.entries
                    c.requires.known.terms;
                free = occurrences-later s.kernel t2.kernel grown.kernel c.args.known.now.free.entries
                    c.requires.known.free;
              },
            ),
          ),
        ),
      ),
    )
