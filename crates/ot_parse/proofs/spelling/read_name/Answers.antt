use Rattle.ot_parse.proofs.Gluing.{start, goes, ends, stops}
use Rattle.ot_parse.proofs.spelling.read_name.Goals as goal

pub pieces-init : goal.pieces-init
pieces-init c = start _ _ c.new-parts.ensures

pub pieces-preserved-in-Byte : goal.pieces-preserved-in-Byte
pieces-preserved-in-Byte c = goes _ _ _ _ _ _ c.pieces.invariant c.in-Byte.ensures.read c.in_ok-push-in-Byte.ensures

pub pieces-preserved : goal.pieces-preserved
pieces-preserved c = goes _ _ _ _ _ _ c.pieces.invariant c.in-Dot.ensures.read c.in_ok-end-in-Dot.ensures

pub returns-in-End : goal.returns-in-End
returns-in-End c = ends _ _ _ _ _ _ c.pieces.invariant c.in-End.ensures.read c.in_ok-finish-in-End.ensures

pub returns-in-Stop : goal.returns-in-Stop
returns-in-Stop c = stops _ _ _ _ _ c.pieces.invariant c.in-Stop.ensures.read
