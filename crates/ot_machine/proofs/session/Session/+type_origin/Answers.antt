use Rattle.std.proofs.Common.{◌<◌, ℕ, [], ◌∷◌, map, refl, sym, ap, subst, ◌∙◌, length, arith}
use Rattle.std.specs.List.{All}
use Rattle.std.proofs.lemmas.List.{take_at}
use Rattle.std.proofs.lemmas.List.Elements.{All-take, All-nil, All-cons}
use Rattle.ot_logic.specs.declared.command.Cmd.TheVariants as words
use Rattle.ot_kernel.specs.State.{type_at, types_at}
use Rattle.ot_trace.specs.Origins.{Named, make_two, type_op_origin}
use Rattle.ot_machine.specs.RenamedLists.{list_onto}
use Rattle.ot_machine.specs.Version5.{canon_ty, canon_tys}
use Rattle.ot_machine.specs.Meaning.{origin_of}
use Rattle.ot_machine.proofs.Kept.{traces-grow}
use Rattle.ot_machine.proofs.RenamedLists.{All-last, onto-push}
use Rattle.ot_machine.proofs.Traced.{traces-on, traced-origin, origin-number}
use Rattle.ot_machine.proofs.Canonical.{types-later, types-insert, types-listed, rest-empty}
use Rattle.ot_machine.proofs.session.Session.+type_origin.Goals as goal

pub type_origin-returns-in-Some-clause-inside : goal.type_origin-returns-in-Some-clause-inside
type_origin-returns-in-Some-clause-inside t c =
    (c.requires.known.known c.args.id c.in-Some.step.now (sym c.in-Some.ensures.value)).1

pub type_origin-returns-clause-known : goal.type_origin-returns-clause-known
type_origin-returns-clause-known t c =
    let s = c.args.self.now in
    let u = c.type_node_origin.new.self in
    let kept = c.in_ok-step.ensures.kept in
    let same = λ (i : ℕ). ap (λ k. type_at k c.args.id) (sym kept.kernel) in
    types-insert u c.type_node_origin.new.known.entries c.insert.new.self.entries c.args.id c.in_ok-step.step
    c.in_ok-step.ensures.known
    (subst (λ k. c.args.id < length k.types) (sym kept.kernel) c.requires.id) c.in_ok-step.ensures.inside
    (c.in_ok-step.ensures.made ∙ ap canon_ty (ap (λ k. type_at k c.args.id) (sym kept.kernel)))
    c.in_ok-insert.ensures.updates.0

pub type_node_origin-types_origin-requires : goal.type_node_origin-types_origin-requires
type_node_origin-types_origin-requires t c =
    let s = c.args.self.now in
    let u = c.symbol_steps-in-Op.new.self in
    let kept = c.in_ok-op-in-Op.ensures.kept in
    let inside = rw c.in-Op.is at c.type_node.ensures.inside in
    let items = c.deref.ensures.value ∙ c.in_ok-args-in-Op.ensures.items ∙ c.as_slice.ensures in (
      omega (arith, c.decreases),
      (
        kept.is_run,
        (
          subst (λ k. c.args.id < length k.types) (sym kept.kernel) c.requires.id,
          (
            subst (All (λ i. i < c.args.id)) (sym items) inside.1,
            types-later s u
                (traces-grow s u kept) c.requires.run c.args.known.now.entries c.requires.known,
          ),
        ),
      ),
    )

pub type_node_origin-returns-in_ok-step-in-Var-clause-known : goal.type_node_origin-returns-in_ok-step-in-Var-clause-known
type_node_origin-returns-in_ok-step-in-Var-clause-known t c =
    let s = c.args.self.now in
    let u = c.symbol_steps.new.self in
    types-later s u (traces-grow s u c.in_ok-step-in-Var.ensures.kept) c.requires.run
    c.args.known.now.entries c.requires.known

pub type_node_origin-returns-in_ok-made_of-in-Op-clause-made : goal.type_node_origin-returns-in_ok-made_of-in-Op-clause-made
type_node_origin-returns-in_ok-made_of-in-Op-clause-made t c =
    let s = c.args.self.now in
    let u = c.symbol_steps-in-Op.new.self in
    let w = c.types_origin.new.self in
    let one = c.in_ok-op-in-Op.ensures.kept in
    let two = c.in_ok-list-in-Op.ensures.kept in
    let node = c.in-Op.name in
    let tree = rw c.in-Op.is at c.type_node.ensures.tree in
    let items = c.deref.ensures.value ∙ c.in_ok-args-in-Op.ensures.items ∙ c.as_slice.ensures in
    let op = traced-origin u w one.is_run two c.in_ok-op-in-Op.op c.in_ok-op-in-Op.ensures.symbol_step
    ∙ origin-number s u one c.in_ok-op-in-Op.op (type_op_origin (Named node)) c.in_ok-op-in-Op.ensures.symbol in
    let list = c.in_ok-list-in-Op.ensures.made ∙ (λ i. canon_tys (types_at (one.kernel i) (items i))) in
    c.in_ok-made_of-in-Op.ensures.made ∙ (λ i. make_two words.OpType (op i) (list i)) ∙ ap canon_ty (sym tree)

pub type_node_origin-returns-in_ok-made_of-in-Op-clause-known : goal.type_node_origin-returns-in_ok-made_of-in-Op-clause-known
type_node_origin-returns-in_ok-made_of-in-Op-clause-known t c =
    let w = c.types_origin.new.self in
    let u = c.made_of.new.self in
    types-later w u (traces-grow w u c.in_ok-made_of-in-Op.ensures.kept)
    c.in_ok-list-in-Op.ensures.kept.is_run c.types_origin.new.known.entries c.in_ok-list-in-Op.ensures.known

pub types_origin-types-init : goal.types_origin-types-init
types_origin-types-init t c =
    let s = c.args.self.now in
    let kept = c.in_ok-list.ensures.kept in
    record {
      kept = kept;
      known = types-later s c.made_of.new.self (traces-grow s c.made_of.new.self kept)
          c.requires.run c.args.known.now.entries c.requires.known;
      inside = c.in_ok-list.ensures.inside;
      below = c.requires.below;
      so_far = ap (list_onto (map (λ i. canon_ty (type_at s.kernel i)) c.args.ids.now)) c.in_ok-list.ensures.made
          ∙ types-listed s.kernel c.args.ids.now;
    }

pub types_origin-type_origin-requires : goal.types_origin-type_origin-requires
types_origin-type_origin-requires t c =
    let split = c.in-Some.ensures.cases.0 in
    let kept = c.types.invariant.kept in
    let P = λ (i : ℕ). i < c.args.bound in
    let low = All-last P c.in-Some.front.now c.in-Some.id.now (subst (All P) split c.types.invariant.below) in (
      omega (arith, c.decreases, low),
      (
        kept.is_run,
        (
          omega (arith, low, subst (λ k. c.args.bound < length k.types) (sym kept.kernel) c.requires.bound),
          c.types.invariant.known,
        ),
      ),
    )

pub types_origin-returns-in_err-head-clause-kept : goal.types_origin-returns-in_err-head-clause-kept
types_origin-returns-in_err-head-clause-kept t c = traces-on c.args.self.now c.types.self c.type_origin.new.self
    c.types.invariant.kept c.in_err-head.ensures.kept

pub types_origin-made_of-requires-in-Some-clause-inside : goal.types_origin-made_of-requires-in-Some-clause-inside
types_origin-made_of-requires-in-Some-clause-inside t c =
    let P = λ (i : ℕ). i < length c.type_origin.new.self.trace in
    All-cons P c.in_ok-head.head (c.types.list ∷ []) c.in_ok-head.ensures.inside
    (All-cons P c.types.list [] (omega (arith, c.types.invariant.inside, c.in_ok-head.ensures.kept.grown.longer))
    (All-nil P))

pub types_origin-returns-in_err-list-2-clause-kept : goal.types_origin-returns-in_err-list-2-clause-kept
types_origin-returns-in_err-list-2-clause-kept t c =
    let s = c.args.self.now in
    traces-on s c.type_origin.new.self c.made_of-in-Some.new.self
    (traces-on s c.types.self c.type_origin.new.self c.types.invariant.kept c.in_ok-head.ensures.kept)
    c.in_err-list-2.ensures.kept

pub types_origin-types-preserved : goal.types_origin-types-preserved
types_origin-types-preserved t c =
    let s = c.args.self.now in
    let k = s.kernel in
    let t0 = c.types.self in
    let t1 = c.type_origin.new.self in
    let t2 = c.made_of-in-Some.new.self in
    let before = c.types.invariant.kept in
    let one = c.in_ok-head.ensures.kept in
    let two = c.in_ok-list-2.ensures.kept in
    let split = c.in-Some.ensures.cases.0 in
    let P = λ (i : ℕ). i < c.args.bound in
    let front = c.in-Some.front.now in
    let id = c.in-Some.id.now in
    let at = λ (i : ℕ). canon_ty (type_at k i) in
    let head = c.in_ok-head.ensures.made ∙ ap (λ k. canon_ty (type_at k id)) before.kernel in
    let list = traced-origin t0 t1 before.is_run one c.types.list c.types.invariant.inside in
    record {
      kept = traces-on s t1 t2 (traces-on s t0 t1 before one) two;
      known = types-later t1 t2 (traces-grow t1 t2 two) one.is_run c.type_origin.new.known.entries
          c.in_ok-head.ensures.known;
      inside = c.in_ok-list-2.ensures.inside;
      below = subst (All P) (take_at front (id ∷ []) _ refl)
          (All-take P (length front) _ (subst (All P) split c.types.invariant.below));
      so_far = ap (list_onto (map at front))
          (c.in_ok-list-2.ensures.made ∙ (λ i. make_two words.Cons (head i) (list i)))
          ∙ sym (onto-push at front id (origin_of t0 c.types.list))
          ∙ ap (λ is. list_onto (map at is) (origin_of t0 c.types.list)) (sym split)
          ∙ c.types.invariant.so_far;
    }

pub types_origin-returns-clause-made : goal.types_origin-returns-clause-made
types_origin-returns-clause-made t c =
    ap (λ is. list_onto (map (λ i. canon_ty (type_at c.args.self.now.kernel i)) is)
    (origin_of c.types.self c.types.list))
    (sym (rest-empty c.types.rest.now c.in_default.ensures.cases)) ∙ c.types.invariant.so_far

pub types_origin-returns-clause-inside : goal.types_origin-returns-clause-inside
types_origin-returns-clause-inside t c = c.types.invariant.inside

pub types_origin-returns-clause-kept : goal.types_origin-returns-clause-kept
types_origin-returns-clause-kept t c = c.types.invariant.kept

pub types_origin-returns-clause-known : goal.types_origin-returns-clause-known
types_origin-returns-clause-known t c = c.types.invariant.known
