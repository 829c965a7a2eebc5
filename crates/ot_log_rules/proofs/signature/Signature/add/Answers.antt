use Rattle.std.proofs.Common.{length, take, ap, ◌∙◌}
use Rattle.ot_log_rules.specs.Symbols.{mark_eq}
use Rattle.ot_laws.proofs.Hashed.{all-kept}
use Rattle.ot_log_rules.proofs.signature.Signature.add.Goals as goal

pub returns-in-Err-clause-err : goal.returns-in-Err-clause-err
returns-in-Err-clause-err c =
    let old = c.args.self.now.defined.keys in
    record {
      defined = c.truncate.ensures.keys ∙ ap (λ n. take n c.add_all.new.set.keys) c.len-before.ensures.len
          ∙ ap (take (length old)) c.in_ok-add_all.ensures.ok ∙ all-kept mark_eq old c.args.defined.now;
      used = c.in-Err.ensures.err;
    }
