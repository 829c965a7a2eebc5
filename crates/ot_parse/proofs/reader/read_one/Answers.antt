use Rattle.std.proofs.Common.{[]}
use Rattle.ot_forms.specs.Refusals.{open_limit}
use Rattle.ot_parse.specs.Gives.{IsReadAs}
use Rattle.ot_parse.specs.Values.{meant_of}
use Rattle.ot_parse.specs.ReadLines.{meant_at}
use Rattle.ot_parse.proofs.Handing.{handed}
use Rattle.ot_parse.proofs.TermLoops.{begun-shorter}
use Rattle.ot_parse.proofs.WholeLines.{term-read, term-halts}
use Rattle.ot_parse.proofs.reader.read_one.Goals as goal

pub returns-in_err-part-clause-read : goal.returns-in_err-part-clause-read
returns-in_err-part-clause-read c =
    handed c.from_residual.result c.in_err-part.field-0.0
    (λ r. IsReadAs (λ x. meant_of x.0) (λ x. x.1.now) r
    (meant_at c.args.notation.now c.args.total c.args.wanted c.args.text.now)) c.from_residual.ensures.1
    (term-halts c.args.notation.now c.args.total c.args.wanted c.args.text.now c.in_err-part.field-0.0
    c.in_err-part.ensures.read)

pub returns-clause-read : goal.returns-clause-read
returns-clause-read c =
    term-read c.args.notation.now c.args.total c.args.wanted c.args.text.now c.place_of.result c.in_ok-part.part
    c.whole.result c.in_ok-part.rest.now c.place_of.ensures c.in_ok-part.ensures.read
    (c.whole.ensures [] c.in_ok-part.ensures.kept)

pub returns-clause-shorter : goal.returns-clause-shorter
returns-clause-shorter c = begun-shorter c.args.total c.args.notation.now c.sound.ensures open_limit []
    c.args.text.now c.in_ok-part.rest.now (meant_of c.in_ok-part.part) c.in_ok-part.ensures.read
