use Rattle.std.proofs.Common.{List, ◌∷◌, [], ◌++◌, ◌∙◌, sym, subst}
use Rattle.ot_log_order.specs.declared.pieces.Piece.{Piece}
use Rattle.ot_log_order.specs.Pieces.{Goes}
use Rattle.ot_log_order.proofs.Stepping.{passed, compared-bytes, opened-left, opened-right}
use Rattle.ot_log_order.proofs.comparing.step.Goals as goal

pub returns-then-is_same : goal.returns-then-is_same
returns-then-is_same c =
    passed c.args.nodes.now c.args.left.now.items c.args.right.now.items
    c.args.x.now c.args.y.now (sym c.is_same.ensures ∙ c.if-is_same.true)

pub returns-in-Byte-y : goal.returns-in-Byte-y
returns-in-Byte-y c =
    compared-bytes c.args.nodes.now c.args.left.now.items c.args.right.now.items c.args.x.now c.args.y.now _ _
    c.cmp.result
    c.in-Byte.is c.in-Byte-y.is c.cmp.ensures

pub returns-in_ok-open-in_default-y : goal.returns-in_ok-open-in_default-y
returns-in_ok-open-in_default-y c =
    let ts = c.args.nodes.now in
    let l = c.args.left.now.items in
    let r = c.args.right.now.items in
    let x = c.args.x.now in
    let y = c.args.y.now in
    let m = c.open.new.pieces.items in
    subst (λ (n : List Piece). Goes ts (l ++ x ∷ []) (r ++ y ∷ []) n m) (sym c.in_ok-push-in_default-y.ensures.items)
    (opened-right ts l r m x y c.in_default-y.not-Byte c.in_ok-open-in_default-y.ensures)

pub returns-in_ok-open-in_default : goal.returns-in_ok-open-in_default
returns-in_ok-open-in_default c =
    let ts = c.args.nodes.now in
    let l = c.args.left.now.items in
    let r = c.args.right.now.items in
    let x = c.args.x.now in
    let y = c.args.y.now in
    let m = c.open-in_default.new.pieces.items in
    subst (λ (n : List Piece). Goes ts (l ++ x ∷ []) (r ++ y ∷ []) m n) (sym c.in_ok-push-in_default.ensures.items)
    (opened-left ts l r m x y c.in_default.not-Byte c.in_ok-open-in_default.ensures)
