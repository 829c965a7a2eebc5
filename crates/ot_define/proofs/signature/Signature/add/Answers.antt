use Rattle.std.proofs.Common.{◌≡◌, length, map, take, ap, ◌∙◌}
use Rattle.ot_term.specs.Symbols.{symbol_of}
use Rattle.ot_term.proofs.Distinct.{symbol_eq}
use Rattle.ot_define.specs.Signature.{Symbols, with_symbols}
use Rattle.ot_laws.proofs.Hashed.{all-kept}
use Rattle.ot_define.proofs.Keys.{recorded}
use Rattle.ot_define.proofs.signature.Signature.add.Goals as goal

pub returns-in-Err-clause-err : goal.returns-in-Err-clause-err
returns-in-Err-clause-err c =
    let old = c.self.inside.defined.keys in
    let defined : c.truncate.new.self.keys ≡ old =
    c.truncate.ensures.keys ∙ ap (λ n. take n c.add_all.new.set.keys) c.len-before.ensures.len
    ∙ ap (take (length old)) c.in_ok-add_all.ensures.ok ∙ all-kept symbol_eq old c.args.defined.now in
    let used : c.add_all-2.new.set.keys ≡ c.self.inside.used.keys = c.in-Err.ensures.err in
    (λ i. record { defined = map symbol_of (defined i); used = map symbol_of (used i) }) ∙ c.self.view_is

pub returns-clause-ok : goal.returns-clause-ok
returns-clause-ok c =
    let defined = ap (map symbol_of) c.in_ok-add_all.ensures.ok
    ∙ recorded c.self.inside.defined.keys c.args.defined.now
    ∙ ap (λ (s : Symbols). with_symbols s.defined (map symbol_of c.args.defined.now)) c.self.view_is in
    let used = ap (map symbol_of) c.in_default.ensures.ok ∙ recorded c.self.inside.used.keys c.args.used.now
    ∙ ap (λ (s : Symbols). with_symbols s.used (map symbol_of c.args.used.now)) c.self.view_is in
    λ i. record { defined = defined i; used = used i }
