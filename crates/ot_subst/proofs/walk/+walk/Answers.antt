use Rattle.std.proofs.Common.{◌≡◌, ℕ, suc, ◌+◌, ◌<◌, ◌≤◌, max, false, length}
use Rattle.std.proofs.Common.{Err, IfOk, sym, ap, subst, ◌∙◌, arith}
use Rattle.ot_logic.specs.Lists.{IsMember}
use Rattle.ot_logic.specs.Trees.{Tm, Named, App}
use Rattle.ot_logic.specs.Hol.{is_shallow}
use Rattle.ot_logic.specs.NamedTerms.{nameless}
use Rattle.ot_logic.specs.Naming.{numbers}
use Rattle.ot_logic.proofs.Results.{same_Err}
use Rattle.ot_term.specs.Term.{TermTable}
use Rattle.ot_term.specs.TermTable.{term_at, term_of, Grows, IsGrownTo}
use Rattle.ot_term.specs.declared.term.TermNode.{TermNode}
use Rattle.ot_term.proofs.Growing.{Grows-trans, grown_further}
use Rattle.ot_subst.specs.Renamed.{pairs_of}
use Rattle.ot_subst.specs.Walk.{becomes, HasForm, IsLater}
use Rattle.ot_subst.specs.Memory.{above, keys, IsWalked, IsCounted}
use Rattle.ot_subst.proofs.Abstraction.{IsInstantiated, ready-then, instance-in, instance-then, none-counted}
use Rattle.ot_subst.proofs.Abstraction.{set_up-then, memory-then, body-then, type-then, deep-type, deep-kept}
use Rattle.ot_subst.proofs.Abstraction.{form-kept, whole-kept, form-renamed, whole-renamed, set_up-new}
use Rattle.ot_subst.proofs.Abstraction.{deep-new, CapturesNone, apart-before, IsMemory-nil}
use Rattle.ot_subst.proofs.Growing.{IsSetUp-Grows, becomes_at-Grows, IsLater-table, IsLater-trans}
use Rattle.ot_subst.proofs.Shallow.{deep-right}
use Rattle.ot_subst.proofs.Unchanged.{walked-unchanged}
use Rattle.ot_subst.proofs.Walked.{ArePartsWalked, walked_left, walked_right, walked-app}
use Rattle.ot_subst.proofs.Walked.{walked-leaf, walked-recalled, still_absent, walked-whole}
use Rattle.ot_subst.proofs.Taken.{if_ok, above-below, more-below, node-tree, node-bound, parts-typed}
use Rattle.ot_subst.proofs.Taken.{recalled, absent-member, absent-lookup, on_err}
use Rattle.ot_subst.proofs.Counting.{counts-walked, counts-left, counts-right, counts-body, counts-whole}
use Rattle.ot_subst.proofs.walk.+walk.Given as given
use Rattle.ot_subst.proofs.walk.+walk.Goals as goal
use Rattle.ot_subst.proofs.walk.+walk.Goals.{abstraction-In_ok-ty, abstraction-In_ok-name}
use Rattle.ot_subst.proofs.walk.+walk.Goals.{application-In_ok-x, image_of_node-Start}
use Rattle.ot_subst.proofs.walk.+walk.Goals.{walk-After-take-node}

-- ---- an abstraction
-- its type was instantiated
instantiated : (g : given.Over) (t : ℕ) (c : abstraction-In_ok-ty g t)
    → IsInstantiated (length c.args.names.now) (g.N.Nodes.table c.args.terms.now)
    (g.N.Nodes.table c.type_inst.new.self) c.args.work.now.subst.now (pairs_of c.args.work.now.renamed.now) c.args.v
    c.in_ok-ty.ty c.args.body
instantiated g t c = record {
  set_up = c.requires.set_up;
  type_within = c.requires.v;
  body_within = c.requires.body;
  grown = c.in_ok-ty.ensures.grown;
  instance = rw c.types.ensures at c.in_ok-ty.ensures.ok;
}

-- its binder has another name
named : (g : given.Over) (t : ℕ) (c : abstraction-In_ok-name g t)
    → IsLater c.args.names.now c.new_name.new.names (g.N.Nodes.table c.args.terms.now)
    (g.N.Nodes.table c.new_name.new.terms)
named g t c =
    let typed = c.in_ok-ty.ensures.grown in
    let once = IsLater-table 0 c.args.names.now _ _ c.requires.set_up.names typed (omega arith) in
    let twice = IsLater-table 0 c.args.names.now _ _ once.names c.in_ok-clashes.ensures.grown (omega arith) in
    IsLater-trans _ _ _ _ _ _ (IsLater-trans _ _ _ _ _ _ once twice) c.in_ok-name.ensures.later

-- the table has grown
grown : (g : given.Over) (t : ℕ) (c : abstraction-In_ok-name g t)
    → IsGrownTo 0 (g.N.Nodes.table c.type_inst.new.self) (g.N.Nodes.table c.new_name.new.terms)
grown g t c = grown_further 0 0 0 _ _ _ c.in_ok-clashes.ensures.grown (omega arith) c.in_ok-name.ensures.grown
    (omega arith)

-- under it, the binder captures nothing
apart : (g : given.Over) (t : ℕ) (c : abstraction-In_ok-name g t)
    → CapturesNone (instantiated g t (goal.at.abstraction-In_ok-name g t c).In_ok-ty) c.in_ok-name.name
apart g t c = apart-before (instantiated g t (goal.at.abstraction-In_ok-name g t c).In_ok-ty)
    c.in_ok-clashes.ensures.grown c.in_ok-name.name c.in_ok-name.ensures.apart

pub abstraction-returns-in_err-ty-clause-nesting : goal.abstraction-returns-in_err-ty-clause-nesting
abstraction-returns-in_err-ty-clause-nesting g t c p =
    deep-type c.args.v c.args.body c.requires.set_up c.requires.typed.0 c.requires.typed.1
    (rw c.types.ensures at
    (c.in_err-ty.ensures.nesting (ap Err (same_Err c.from_residual.result _ _ c.from_residual.ensures.1 p))))

pub abstraction-clashes-requires-clause-ready : goal.abstraction-clashes-requires-clause-ready
abstraction-clashes-requires-clause-ready g t c =
    ready-then (instantiated g t (goal.at.abstraction-clashes-requires-clause-ready g t c).In_ok-ty)

pub abstraction-clashes-requires-clause-new : goal.abstraction-clashes-requires-clause-new
abstraction-clashes-requires-clause-new g t c =
    instance-in (instantiated g t (goal.at.abstraction-clashes-requires-clause-new g t c).In_ok-ty)

pub abstraction-clashes-requires-clause-instance : goal.abstraction-clashes-requires-clause-instance
abstraction-clashes-requires-clause-instance g t c =
    instance-then (instantiated g t (goal.at.abstraction-clashes-requires-clause-instance g t c).In_ok-ty)

pub abstraction-walk-requires : goal.abstraction-walk-requires
abstraction-walk-requires g t c κs h =
    let had = instantiated g t (goal.at.abstraction-walk-requires g t c).In_ok-ty in
    let tested = c.in_ok-clashes.ensures in
    let set_up = set_up-then had tested.grown in
    let memory = memory-then had tested.grown c.requires.remembered in
    let body = body-then had tested.grown in
    (omega (arith, c.decreases), (h.0, (h.1, (set_up, (memory, body)))))

pub abstraction-returns-in_err-body-clause-nesting : goal.abstraction-returns-in_err-body-clause-nesting
abstraction-returns-in_err-body-clause-nesting g t c p =
    let had = instantiated g t (goal.at.abstraction-returns-in_err-body-clause-nesting g t c).In_ok-ty in
    deep-kept had c.in_ok-clashes.ensures.grown (rw c.if-not-branch.true at c.in_ok-clashes.ensures.ok)
    (c.in_err-body.ensures.nesting
    (ap Err (same_Err c.from_residual-in_err-body.result _ _ c.from_residual-in_err-body.ensures.1 p)))

pub abstraction-abs-requires-clause-ty : goal.abstraction-abs-requires-clause-ty
abstraction-abs-requires-clause-ty g t c =
    let had = instantiated g t (goal.at.abstraction-abs-requires-clause-ty g t c).In_ok-ty in
    omega (arith, type-then had c.in_ok-clashes.ensures.grown, c.in_ok-body.ensures.later.grows.types.longer)

pub abstraction-returns-then-not-branch-clause-ok : goal.abstraction-returns-then-not-branch-clause-ok
abstraction-returns-then-not-branch-clause-ok g t c =
    let had = instantiated g t (goal.at.abstraction-returns-then-not-branch-clause-ok g t c).In_ok-ty in
    if_ok c.abs.result _ _
    (whole-kept had c.in_ok-clashes.ensures.grown c.in_ok-body.ensures.later c.in_ok-body.ensures.ok
    (rw c.if-not-branch.true at c.in_ok-clashes.ensures.ok) c.abs.ensures.grown.grows) c.abs.ensures.ok

pub abstraction-returns-then-not-branch-clause-nesting : goal.abstraction-returns-then-not-branch-clause-nesting
abstraction-returns-then-not-branch-clause-nesting g t c p =
    let had = instantiated g t (goal.at.abstraction-returns-then-not-branch-clause-nesting g t c).In_ok-ty in
    sym (ap (is_shallow numbers)
    (form-kept had c.in_ok-clashes.ensures.grown c.in_ok-body.ensures.later c.in_ok-body.ensures.ok
    (rw c.if-not-branch.true at c.in_ok-clashes.ensures.ok))) ∙ c.abs.ensures.nesting p

pub abstraction-new_name-requires-clause-set_up : goal.abstraction-new_name-requires-clause-set_up
abstraction-new_name-requires-clause-set_up g t c =
    set_up-then (instantiated g t (goal.at.abstraction-new_name-requires-clause-set_up g t c).In_ok-ty)
    c.in_ok-clashes.ensures.grown

pub abstraction-new_name-requires-clause-new : goal.abstraction-new_name-requires-clause-new
abstraction-new_name-requires-clause-new g t c =
    type-then (instantiated g t (goal.at.abstraction-new_name-requires-clause-new g t c).In_ok-ty)
    c.in_ok-clashes.ensures.grown

pub abstraction-walk-requires-2 : goal.abstraction-walk-requires-2
abstraction-walk-requires-2 g t c κs h =
    let had = instantiated g t (goal.at.abstraction-walk-requires-2 g t c).In_ok-ty in
    let new = (goal.at.abstraction-walk-requires-2 g t c).In_ok-name in
    let set_up = set_up-new had (grown g t new) c.in_ok-name.name (apart g t new) (length c.new_name.new.names)
    c.in_ok-name.ensures.later.extends.longer c.in_ok-name.ensures.within in
    let memory = c.hashed-results.ensures in
    let body = body-then had (grown g t new) in
    (omega (arith, c.decreases), (h.0, (h.1, (set_up, (IsMemory-nil memory, body)))))

pub abstraction-returns-in_err-body-2-clause-nesting : goal.abstraction-returns-in_err-body-2-clause-nesting
abstraction-returns-in_err-body-2-clause-nesting g t c p =
    let had = instantiated g t (goal.at.abstraction-returns-in_err-body-2-clause-nesting g t c).In_ok-ty in
    let new = (goal.at.abstraction-returns-in_err-body-2-clause-nesting g t c).In_ok-name in
    deep-new had (grown g t new) c.in_ok-name.name (apart g t new) (c.in_err-body-2.ensures.nesting
    (ap Err (same_Err c.from_residual-in_err-body-2.result _ _ c.from_residual-in_err-body-2.ensures.1 p)))

pub abstraction-returns-in_err-body-2-clause-later : goal.abstraction-returns-in_err-body-2-clause-later
abstraction-returns-in_err-body-2-clause-later g t c =
    let name = named g t (goal.at.abstraction-returns-in_err-body-2-clause-later g t c).In_ok-name in
    IsLater-trans _ _ _ _ _ _ name c.in_err-body-2.ensures.later

pub abstraction-abs-requires-2-clause-ty : goal.abstraction-abs-requires-2-clause-ty
abstraction-abs-requires-2-clause-ty g t c =
    let had = instantiated g t (goal.at.abstraction-abs-requires-2-clause-ty g t c).In_ok-ty in
    let new = (goal.at.abstraction-abs-requires-2-clause-ty g t c).In_ok-name in
    omega (arith, type-then had (grown g t new), c.in_ok-body-2.ensures.later.grows.types.longer)

pub abstraction-returns-clause-ok : goal.abstraction-returns-clause-ok
abstraction-returns-clause-ok g t c =
    let had = instantiated g t (goal.at.abstraction-returns-clause-ok g t c).In_ok-ty in
    let new = (goal.at.abstraction-returns-clause-ok g t c).In_ok-name in
    if_ok c.abs-2.result _ _
    (whole-renamed had (grown g t new) c.in_ok-name.name (apart g t new)
    c.in_ok-body-2.ensures.later c.requires.remembered c.in_ok-body-2.ensures.ok
    (rw c.if-not-branch.false at c.in_ok-clashes.ensures.ok) c.abs-2.ensures.grown.grows) c.abs-2.ensures.ok

pub abstraction-returns-clause-nesting : goal.abstraction-returns-clause-nesting
abstraction-returns-clause-nesting g t c p =
    let had = instantiated g t (goal.at.abstraction-returns-clause-nesting g t c).In_ok-ty in
    let new = (goal.at.abstraction-returns-clause-nesting g t c).In_ok-name in
    sym (ap (is_shallow numbers)
    (form-renamed had (grown g t new) c.in_ok-name.name (apart g t new)
    c.in_ok-body-2.ensures.later c.requires.remembered c.in_ok-body-2.ensures.ok))
    ∙ c.abs-2.ensures.nesting p

pub abstraction-returns-clause-later : goal.abstraction-returns-clause-later
abstraction-returns-clause-later g t c =
    let name = named g t (goal.at.abstraction-returns-clause-later g t c).In_ok-name in
    IsLater-trans _ _ _ _ _ _ (IsLater-trans _ _ _ _ _ _ name c.in_ok-body-2.ensures.later)
    (IsLater-table (max (c.in_ok-name.name + 1) 1) c.walk-2.new.names _ _ c.in_ok-body-2.ensures.later.names
    c.abs-2.ensures.grown
    (omega (arith, c.in_ok-name.ensures.within, c.in_ok-body-2.ensures.later.extends.longer)))

pub abstraction-returns-in_err-body-clause-refused : goal.abstraction-returns-in_err-body-clause-refused
abstraction-returns-in_err-body-clause-refused g t c =
    on_err c.from_residual-in_err-body.result _
    (counts-body (Grows-trans c.in_ok-ty.ensures.grown.grows c.in_ok-clashes.ensures.grown.grows)
    c.requires.set_up.ready c.args.v c.requires.body c.in_err-body.ensures.refused)

pub abstraction-returns-then-not-branch-clause-refused : goal.abstraction-returns-then-not-branch-clause-refused
abstraction-returns-then-not-branch-clause-refused g t c =
    on_err c.abs.result _
    (counts-body (Grows-trans c.in_ok-ty.ensures.grown.grows c.in_ok-clashes.ensures.grown.grows)
    c.requires.set_up.ready c.args.v c.requires.body (counts-walked c.in_ok-body.ensures.ok))

pub abstraction-returns-in_err-body-2-clause-refused : goal.abstraction-returns-in_err-body-2-clause-refused
abstraction-returns-in_err-body-2-clause-refused g t c =
    on_err c.from_residual-in_err-body-2.result _
    (none-counted (instantiated g t (goal.at.abstraction-returns-in_err-body-2-clause-refused g t c).In_ok-ty)
    (rw c.if-not-branch.false at c.in_ok-clashes.ensures.ok))

pub abstraction-returns-clause-refused : goal.abstraction-returns-clause-refused
abstraction-returns-clause-refused g t c =
    on_err c.abs-2.result _
    (none-counted (instantiated g t (goal.at.abstraction-returns-clause-refused g t c).In_ok-ty)
    (rw c.if-not-branch.false at c.in_ok-clashes.ensures.ok))

-- ---- an application
-- its parts were walked
parts_walked : (g : given.Over) (t : ℕ) (c : application-In_ok-x g t)
    → ArePartsWalked (g.N.Nodes.table c.args.terms.now) (g.N.Nodes.table c.walk.new.terms)
    (g.N.Nodes.table c.walk-2.new.terms) c.args.work.now.subst.now (pairs_of c.args.work.now.renamed.now)
    c.args.memory.now c.walk.new.memory c.walk-2.new.memory c.args.steps.now c.walk.new.steps c.walk-2.new.steps
    c.args.f c.args.x c.in_ok-f.f c.in_ok-x.x
parts_walked g t c = record {
  ready = c.requires.set_up.ready;
  first_grown = c.in_ok-f.ensures.later.grows;
  then_grown = c.in_ok-x.ensures.later.grows;
  table = c.in_ok-x.ensures.later.table;
  argument_within = c.requires.x;
  first = c.in_ok-f.ensures.ok;
  second = c.in_ok-x.ensures.ok;
}

pub application-returns-in_err-x-clause-nesting : goal.application-returns-in_err-x-clause-nesting
application-returns-in_err-x-clause-nesting g t c p =
    let image : ℕ → Tm ℕ = λ x. becomes (g.N.Nodes.table c.args.terms.now) c.args.work.now.subst.now
    (pairs_of c.args.work.now.renamed.now)
    (nameless numbers (term_at (g.N.Nodes.table c.args.terms.now).terms x)) in
    deep-right (image c.args.f) (image c.args.x)
    (ap (is_shallow numbers)
    (sym (becomes_at-Grows _ _ c.in_ok-f.ensures.later.grows _ c.requires.set_up.ready.subst
    (pairs_of c.args.work.now.renamed.now) c.requires.set_up.ready.binders c.args.x c.requires.x))
    ∙ c.in_err-x.ensures.nesting
    (ap Err (same_Err c.from_residual-in_err-x.result _ _ c.from_residual-in_err-x.ensures.1 p)))

pub application-join-requires-clause-typed : goal.application-join-requires-clause-typed
application-join-requires-clause-typed g t c =
    let had = parts_walked g t (goal.at.application-join-requires-clause-typed g t c).In_ok-x in
    parts-typed _ (g.N.Nodes.table c.walk-2.new.terms) _ _ c.requires.set_up.ready
    (term_at (g.N.Nodes.table c.args.terms.now).terms c.args.f)
    (term_at (g.N.Nodes.table c.args.terms.now).terms c.args.x) c.requires.typed.0 c.requires.typed.1 c.in_ok-f.f
    c.in_ok-x.x (walked_left had) (walked_right had)

pub application-returns-clause-ok : goal.application-returns-clause-ok
application-returns-clause-ok g t c =
    if_ok c.join.result _ _
    (walked-app (parts_walked g t (goal.at.application-returns-clause-ok g t c).In_ok-x) c.join.ensures.grown.grows)
    c.join.ensures.ok

pub application-returns-clause-nesting : goal.application-returns-clause-nesting
application-returns-clause-nesting g t c p =
    let had = parts_walked g t (goal.at.application-returns-clause-nesting g t c).In_ok-x in
    sym (ap (is_shallow numbers) (λ i. App (walked_left had i) (walked_right had i))) ∙ c.join.ensures.nesting p

pub application-returns-clause-later : goal.application-returns-clause-later
application-returns-clause-later g t c =
    IsLater-trans _ _ _ _ _ _ (IsLater-trans _ _ _ _ _ _ c.in_ok-f.ensures.later c.in_ok-x.ensures.later)
    (IsLater-table 0 c.walk-2.new.names _ _ c.in_ok-x.ensures.later.names c.join.ensures.grown (omega arith))

pub application-walk-requires-2 : goal.application-walk-requires-2
application-walk-requires-2 g t c κs h =
    let f = c.in_ok-f.ensures in
    let set_up = IsSetUp-Grows _ _ f.later.grows _ c.requires.set_up.ready.subst (length c.args.names.now)
    (length c.walk.new.names) _ c.requires.set_up f.later.extends.longer f.later.table f.later.names in
    let x : c.args.x < length (g.N.Nodes.table c.walk.new.terms).terms =
    omega (arith, c.requires.x, f.later.grows.terms.longer) in
    (omega (arith, c.decreases), (h.0, (h.1, (set_up, (f.ok.memory, x)))))

pub application-returns-in_err-f-clause-refused : goal.application-returns-in_err-f-clause-refused
application-returns-in_err-f-clause-refused g t c =
    on_err c.from_residual.result _
    (counts-left c.args.work.now.subst.now c.args.f c.args.x c.in_err-f.ensures.refused)

pub application-returns-in_err-x-clause-refused : goal.application-returns-in_err-x-clause-refused
application-returns-in_err-x-clause-refused g t c =
    on_err c.from_residual-in_err-x.result _ (counts-right c.in_ok-f.ensures.later.grows c.requires.set_up.ready
    c.requires.x c.in_ok-f.ensures.ok c.in_err-x.ensures.refused)

pub application-returns-clause-refused : goal.application-returns-clause-refused
application-returns-clause-refused g t c =
    on_err c.join.result _ (counts-right c.in_ok-f.ensures.later.grows c.requires.set_up.ready c.requires.x
    c.in_ok-f.ensures.ok (counts-walked c.in_ok-x.ensures.ok))

-- ---- a node
-- what the term of a node becomes
abbrev image_tree : (g : given.Over) (t : ℕ) → image_of_node-Start g t → TermNode → Tm ℕ
image_tree g t c n =
    becomes (g.N.Nodes.table c.args.terms.now) c.args.work.now.subst.now (pairs_of c.args.work.now.renamed.now)
    (nameless numbers
    (term_of (g.N.Nodes.table c.args.terms.now).types (g.N.Nodes.table c.args.terms.now).terms n))

-- a node without parts
leaf : (g : given.Over) (t : ℕ) (c : image_of_node-Start g t) (u : TermTable)
    → Grows (g.N.Nodes.table c.args.terms.now) u → (q : ℕ) → HasForm u q (image_tree g t c c.args.node)
    → IsWalked (g.N.Nodes.table c.args.terms.now) u c.args.work.now.subst.now
    (pairs_of c.args.work.now.renamed.now) c.args.memory.now c.args.memory.now c.args.steps.now c.args.steps.now
    (term_of (g.N.Nodes.table c.args.terms.now).types (g.N.Nodes.table c.args.terms.now).terms c.args.node)
    (above c.args.node) q
leaf g t c u grows q form =
    walked-leaf _ u grows _ c.requires.set_up.ready.subst _ c.requires.set_up.ready.binders c.args.memory.now
    c.args.steps.now _ (above c.args.node) q c.requires.remembered form

pub image_of_node-returns-in-Var-clause-ok : goal.image_of_node-returns-in-Var-clause-ok
image_of_node-returns-in-Var-clause-ok g t c =
    let s = (goal.at.image_of_node-returns-in-Var-clause-ok g t c).Start in
    let u = g.N.Nodes.table c.image_of.new.terms in
    if_ok c.image_of.result _ _ (leaf g t s u c.image_of.ensures.grown.grows)
    (subst (λ n. IfOk c.image_of.result (λ q. HasForm u q (image_tree g t s n)))
    (sym c.in-Var.is) c.image_of.ensures.ok)

pub image_of_node-returns-in-Const-clause-ok : goal.image_of_node-returns-in-Const-clause-ok
image_of_node-returns-in-Const-clause-ok g t c =
    let s = (goal.at.image_of_node-returns-in-Const-clause-ok g t c).Start in
    let u = g.N.Nodes.table c.constant_of.new.terms in
    if_ok c.constant_of.result _ _ (leaf g t s u c.constant_of.ensures.grown.grows)
    (subst (λ n. IfOk c.constant_of.result (λ q. HasForm u q (image_tree g t s n)))
    (sym c.in-Const.is) c.constant_of.ensures.ok)

pub image_of_node-returns-in-Const-clause-nesting : goal.image_of_node-returns-in-Const-clause-nesting
image_of_node-returns-in-Const-clause-nesting g t c p =
    let s = (goal.at.image_of_node-returns-in-Const-clause-nesting g t c).Start in
    subst (λ n. is_shallow numbers (image_tree g t s n) ≡ false) (sym c.in-Const.is)
    (c.constant_of.ensures.nesting p)

-- ---- a term
-- the tree of the node that was taken
abbrev node_tree : (g : given.Over) (t : ℕ) → walk-After-take-node g t → Named ℕ
node_tree g t c =
    term_of (g.N.Nodes.table c.args.terms.now).types (g.N.Nodes.table c.args.terms.now).terms c.take-node.result

-- it is the term's, its parts are below the term, and of the term nothing is remembered
tree : (g : given.Over) (t : ℕ) (c : walk-After-take-node g t)
    → term_at (g.N.Nodes.table c.args.terms.now).terms c.args.id ≡ node_tree g t c
tree g t c = node-tree (g.N.Nodes.table c.args.terms.now) c.args.id c.take-node.result c.take-node.ensures.tree

below : (g : given.Over) (t : ℕ) (c : walk-After-take-node g t) → above c.take-node.result ≤ c.args.id
below g t c = above-below (length (g.N.Nodes.table c.args.terms.now).types) c.args.id c.take-node.result
    c.take-node.ensures.below

absent : (g : given.Over) (t : ℕ) (c : walk-After-take-node g t) → ¬ (IsMember c.args.id (keys c.args.memory.now))
absent g t c = absent-member c.args.memory.now c.args.id (sym c.in_default.ensures)

-- the steps from the node on
counted : (g : given.Over) (t : ℕ) (c : walk-After-take-node g t) {n : ℕ}
    → IsCounted (g.N.Nodes.table c.args.terms.now) c.args.work.now.subst.now
    (pairs_of c.args.work.now.renamed.now) c.args.memory.now c.take-node.new.steps n (node_tree g t c)
    (above c.take-node.result)
    → IsCounted (g.N.Nodes.table c.args.terms.now) c.args.work.now.subst.now
    (pairs_of c.args.work.now.renamed.now) c.args.memory.now c.args.steps.now n
    (term_at (g.N.Nodes.table c.args.terms.now).terms c.args.id) (suc c.args.id)
counted g t c {n} h =
    counts-whole (g.N.Nodes.table c.args.terms.now) c.args.work.now.subst.now (pairs_of c.args.work.now.renamed.now)
    c.args.memory.now c.args.steps.now c.take-node.new.steps n c.args.id (above c.take-node.result)
    (node_tree g t c) (tree g t c) (below g t c) (absent g t c) (omega (arith, c.take-node.ensures.counted)) h

pub walk-returns-then-is_closed-clause-ok : goal.walk-returns-then-is_closed-clause-ok
walk-returns-then-is_closed-clause-ok g t c =
    walked-unchanged _ c.args.work.now.subst.now _ c.args.memory.now c.args.steps.now c.args.id c.requires.inside
    c.requires.remembered
    (sym c.types.ensures ∙ c.is_empty.ensures.0 c.if-is_empty.true) (c.is_closed.ensures.0 c.if-is_closed.true)

pub walk-returns-in-Some-clause-ok : goal.walk-returns-in-Some-clause-ok
walk-returns-in-Some-clause-ok g t c =
    walked-recalled _ _ _ c.args.memory.now c.args.steps.now c.args.id c.in-Some.done c.requires.remembered
    (recalled c.args.memory.now c.args.id c.in-Some.done (sym c.in-Some.ensures))

pub walk-returns-in_err-image-clause-nesting : goal.walk-returns-in_err-image-clause-nesting
walk-returns-in_err-image-clause-nesting g t c p =
    ap (λ x. is_shallow numbers
    (becomes (g.N.Nodes.table c.args.terms.now) c.args.work.now.subst.now (pairs_of c.args.work.now.renamed.now)
    (nameless numbers x))) (tree g t (goal.at.walk-returns-in_err-image-clause-nesting g t c).After-take-node)
    ∙ c.in_err-image.ensures.nesting (ap Err (same_Err c.from_residual.result _ _ c.from_residual.ensures.1 p))

pub walk-keep-requires : goal.walk-keep-requires
walk-keep-requires g t c =
    let taken = (goal.at.walk-keep-requires g t c).After-take-node in
    absent-lookup c.image_of_node.new.memory c.args.id
    (still_absent {x = node_tree g t taken} (below g t taken) c.in_ok-image.ensures.ok (absent g t taken))

pub walk-returns-clause-ok : goal.walk-returns-clause-ok
walk-returns-clause-ok g t c =
    let taken = (goal.at.walk-returns-clause-ok g t c).After-take-node in
    walked-whole {m2 = c.keep.new.self} {n2 = c.image_of_node.new.steps} c.requires.inside (tree g t taken)
    (below g t taken) c.in_ok-image.ensures.later.grows c.requires.set_up.ready.subst
    c.requires.set_up.ready.binders (absent g t taken)
    (omega (arith, c.take-node.ensures.counted)) c.in_ok-keep.ensures.1
    (subst (IsWalked (g.N.Nodes.table c.args.terms.now) (g.N.Nodes.table c.image_of_node.new.terms)
    c.args.work.now.subst.now (pairs_of c.args.work.now.renamed.now) c.args.memory.now c.image_of_node.new.memory
    c.take-node.new.steps c.image_of_node.new.steps (node_tree g t taken) (above c.take-node.result))
    (sym c.in_ok-keep.ensures.0) c.in_ok-image.ensures.ok)

pub walk-image_of_node-requires : goal.walk-image_of_node-requires
walk-image_of_node-requires g t c κs h =
    let taken = (goal.at.walk-image_of_node-requires g t c).After-take-node in
    let now = g.N.Nodes.table c.args.terms.now in
    let r = c.requires in
    let within = more-below (length now.types) c.args.id (length now.terms) (omega (arith, r.inside))
    c.take-node.result c.take-node.ensures.below in
    let typed = r.set_up.ready.table.typed c.args.id (node_tree g t taken) c.take-node.ensures.tree in
    let bound = node-bound now c.args.id c.take-node.result c.take-node.ensures.tree (length c.args.names.now)
    r.inside r.set_up.names in (
      omega (arith, c.decreases, below g t taken),
      (h.0, (h.1, (r.set_up, (r.remembered, (within, (typed, bound)))))),
    )

pub walk-returns-in_err-image-clause-refused : goal.walk-returns-in_err-image-clause-refused
walk-returns-in_err-image-clause-refused g t c =
    on_err c.from_residual.result _
    (counted g t (goal.at.walk-returns-in_err-image-clause-refused g t c).After-take-node
    c.in_err-image.ensures.refused)

pub walk-returns-in_err-keep-clause-refused : goal.walk-returns-in_err-keep-clause-refused
walk-returns-in_err-keep-clause-refused g t c =
    on_err c.from_residual-in_err-keep.result _
    (counted g t (goal.at.walk-returns-in_err-keep-clause-refused g t c).After-take-node
    (counts-walked c.in_ok-image.ensures.ok))
