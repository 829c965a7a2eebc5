use Rattle.std.specs.Prelude.{string_bytes}
use Rattle.std.proofs.Common.{inl, refl}
use Rattle.ot_io.proofs.Reading.{HasRead-map}
use Rattle.ot_link.proofs.Ending.{exports-come, fault-comes}
use Rattle.ot_link.proofs.article.run_named.Goals as goal

pub returns-in-Ok-clause-ends : goal.returns-in-Ok-clause-ends
returns-in-Ok-clause-ends g c =
    HasRead-map c.in-Ok.ensures.ends (λ ok. ok)
    (λ bytes rest h. exports-come (string_bytes c.args.path) c.article_exports.new.session c.in-Ok.exports _ h)

pub returns-in-Err-At-clause-ends : goal.returns-in-Err-At-clause-ends
returns-in-Err-At-clause-ends g c =
    HasRead-map (rw c.in-Err-At.field-0-is at c.in-Err-At.ensures.ends) (λ ok. ok)
    (λ bytes rest h. fault-comes c.args.path c.article_exports.new.session c.in-Err-At.line c.in-Err-At.fault _ h)

pub returns-in-Err-ReadFault-clause-ends : goal.returns-in-Err-ReadFault-clause-ends
returns-in-Err-ReadFault-clause-ends g c =
    HasRead-map c.in-Err-ReadFault.ensures.ends (λ ok. ok) (λ bytes rest h. inl refl)

pub returns-in-Err-Memory-clause-ends : goal.returns-in-Err-Memory-clause-ends
returns-in-Err-Memory-clause-ends g c = HasRead-map c.in-Err-Memory.ensures.ends (λ ok. ok) (λ bytes rest h. tt)
