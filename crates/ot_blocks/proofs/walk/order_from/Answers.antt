use Rattle.std.proofs.Common.{◌≡◌, ◌∷◌, length, sym, ap, ◌∙◌, reverse, arith, refl}
use Rattle.std.proofs.Math.ListN.{replicate}
use Rattle.std.proofs.lemmas.List.{length-map}
use Rattle.ot_blocks.specs.Answers.{lists_of}
use Rattle.ot_blocks.specs.declared.walk.Mark.TheVariants.{New, Open, Done}
use Rattle.ot_blocks.proofs.Steps.{start, step_known, step_back, step_new, step_done, step_last, smaller_import}
use Rattle.ot_blocks.proofs.Steps.{smaller_new, smaller_done, mark_read, inside_at, pushed, no_path}
use Rattle.ot_blocks.proofs.walk.order_from.Goals as goal

pub walk-init : goal.walk-init
walk-init c =
    let g = lists_of c.args.imports.now in
    let size : length g ≡ length c.args.imports.now = length-map c.args.imports.now (λ v. v.items) in
    let new = c.in_ok-marks.ensures.items_if_clones_equal (λ y e. e) ∙ ap (λ n. replicate n New) (sym size) in
    rw (c.new-path.ensures.items, c.new-done.ensures.items)
    (start g c.in_ok-marks.marks.items c.args.main (omega (arith, size, c.requires.main)) new)

pub index-requires : goal.index-requires
index-requires c =
    let inside = inside_at (lists_of c.args.imports.now) c.walk.block c.walk.next c.in-Some.import c.requires.inside
    (sym c.in-Some.ensures.import) in
    omega (arith, inside, c.walk.invariant.marked.size, c.walk.marks.ok.0)

pub index_mut-requires-in-New : goal.index_mut-requires-in-New
index_mut-requires-in-New c =
    let inside = inside_at (lists_of c.args.imports.now) c.walk.block c.walk.next c.in-Some.import c.requires.inside
    (sym c.in-Some.ensures.import) in
    omega (arith, inside, c.walk.invariant.marked.size, c.walk.marks.ok.0)

pub walk-smaller-in-Done : goal.walk-smaller-in-Done
walk-smaller-in-Done c = smaller_import c.in-Some.import c.walk.invariant (sym c.in-Some.ensures.import)

pub walk-preserved-in-Done : goal.walk-preserved-in-Done
walk-preserved-in-Done c =
    let i = c.in-Some.import in
    let at = sym c.in-Some.ensures.import in
    let inside = inside_at (lists_of c.args.imports.now) c.walk.block c.walk.next i c.requires.inside at in
    step_known i c.walk.invariant at
    (mark_read i.block Done c.index.result.now c.walk.invariant inside c.index.ensures c.in-Done.is) inside

pub returns-in-Open : goal.returns-in-Open
returns-in-Open c =
    let i = c.in-Some.import in
    let at = sym c.in-Some.ensures.import in
    let inside = inside_at (lists_of c.args.imports.now) c.walk.block c.walk.next i c.requires.inside at in (
      step_back i c.walk.invariant at
          (mark_read i.block Open c.index.result.now c.walk.invariant inside c.index.ensures c.in-Open.is) inside,
      refl,
    )

pub walk-smaller-in-New : goal.walk-smaller-in-New
walk-smaller-in-New c =
    let i = c.in-Some.import in
    let at = sym c.in-Some.ensures.import in
    let inside = inside_at (lists_of c.args.imports.now) c.walk.block c.walk.next i c.requires.inside at in
    rw (pushed c.walk.path.items c.push.new.self.items _ c.in_ok-push-in-New.ensures.items)
    (smaller_new i c.walk.invariant at
    (mark_read i.block New c.index.result.now c.walk.invariant inside c.index.ensures c.in-New.is) inside)

pub walk-preserved-in-New : goal.walk-preserved-in-New
walk-preserved-in-New c =
    let i = c.in-Some.import in
    let at = sym c.in-Some.ensures.import in
    let inside = inside_at (lists_of c.args.imports.now) c.walk.block c.walk.next i c.requires.inside at in
    rw (pushed c.walk.path.items c.push.new.self.items _ c.in_ok-push-in-New.ensures.items)
    (step_new i c.walk.invariant at
    (mark_read i.block New c.index.result.now c.walk.invariant inside c.index.ensures c.in-New.is) inside)

pub walk-smaller : goal.walk-smaller
walk-smaller c =
    smaller_done (c.in-Some-pop.below ∷ reverse c.pop.new.self.items)
    (pushed c.pop.new.self.items c.walk.path.items c.in-Some-pop.below c.in-Some-pop.ensures.items) c.walk.invariant

pub walk-preserved : goal.walk-preserved
walk-preserved c =
    rw c.in_ok-push-in-None.ensures.items
    (rw (pushed c.pop.new.self.items c.walk.path.items c.in-Some-pop.below c.in-Some-pop.ensures.items) at
    (step_done c.walk.invariant (sym c.in-None.ensures.import)))

pub returns-in-None-pop : goal.returns-in-None-pop
returns-in-None-pop c =
    let none : length c.walk.path.items ≡ 0 = omega (arith, c.walk.path.ok.0, c.in-None-pop.ensures.cases.0) in
    rw c.in_ok-push-in-None.ensures.items
    (step_last (no_path c.walk.path.items none) c.walk.invariant (sym c.in-None.ensures.import))
