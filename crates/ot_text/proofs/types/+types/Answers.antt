use Rattle.std.proofs.Common.{rules, arith, sym, ◌∙◌, map, subst}
use Rattle.std.proofs.lemmas.Bool.Decides.{nat_tests}
use Rattle.std.proofs.lemmas.List.{length-map}
use Rattle.ot_logic.specs.PlainTrees.{tys_of}
use Rattle.ot_text.specs.Texts.{spaced_text}
use Rattle.ot_text.specs.Pages.{printed}
use Rattle.ot_text.proofs.Putting.{then, same-text, puts-all, nothing}
use Rattle.ot_text.proofs.TypePieces.{operator-pieces, spaced-more, argument-depth}
use Rattle.ot_text.proofs.types.+types.Goals as goal

pub put_operator-returns : goal.put_operator-returns
put_operator-returns g t c =
    let at = g.T.Types.type_at c.args.table.now in
    let types = map at c.args.args.now in
    same-text
    (operator-pieces at c.args.name.now c.args.args.now
    (sym (c.is_arrow.ensures.function types (length-map c.args.args.now at)) ∙ c.if-is_arrow.false)
    (grind (arith, nat_tests, c.is_empty.ensures, c.if-is_empty.false)))
    (then (then (then c.put-2.ensures c.put_name-2.ensures) c.put_types.ensures) c.put-3.ensures)

pub put_types-put_type-requires : goal.put_types-put_type-requires
put_types-put_type-requires g t c κs within =
    let below = argument-depth (g.T.Types.type_at c.args.table.now) c.args.types.now c.loop-ty.ty-index c.ty-item.result
    c.loop-ty-test.true c.ty-item.is in
    let inside = subst (g.T.Types.has_type c.args.table.now) (sym c.ty-item.is)
    (c.requires c.loop-ty.ty-index c.ty-item.result c.loop-ty-test.true) in
    search rules

pub put_types-loop-ty-preserved : goal.put_types-loop-ty-preserved
put_types-loop-ty-preserved g t c =
    spaced-more (g.T.Types.type_at c.args.table.now) c.args.types.now c.loop-ty.ty-index c.ty-item.result
    (printed c.args.page.now) (printed c.loop-ty.page) (printed c.put_type.new.page)
    (omega arith) c.ty-item.is c.loop-ty.invariant (then c.put.ensures c.put_type.ensures)

pub put_types-returns : goal.put_types-returns
put_types-returns g t c =
    puts-all (λ ts. spaced_text (tys_of (map (g.T.Types.type_at c.args.table.now) ts))) c.args.types.now
    c.loop-ty.ty-index (printed c.args.page.now) (printed c.loop-ty.page) (printed c.loop-ty.page)
    (omega arith) c.loop-ty.invariant (nothing (printed c.loop-ty.page))
