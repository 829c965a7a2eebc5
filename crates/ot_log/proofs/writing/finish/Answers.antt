use Rattle.std.proofs.Common.{◌≡◌, Err, subst}
use Rattle.std.specs.Prelude.{OnErr}
use Rattle.ot_text.specs.declared.fault.PrintFault.TheVariants as faults
use Rattle.ot_log.proofs.writing.finish.Goals as goal

pub returns-in-Ok : goal.returns-in-Ok
returns-in-Ok c = λ ts max x h. let a = c.in-Ok.ensures.ok ts max x h in (a.bytes, a.within)

pub returns-in-Err-TooLarge : goal.returns-in-Err-TooLarge
returns-in-Err-TooLarge c = λ ts max x h.
    let p = c.in-Err-TooLarge.is in
    let q = c.in-Err-TooLarge.field-0-is in
    let e : c.finish.result ≡ Err faults.TooLarge = cc in (
      subst (λ r. OnErr r (c.finish.new.out.items ≡ c.args.out.now.items)) e c.finish.ensures.err,
      c.finish.ensures.too_large ts max x h e,
    )
