use Rattle.std.proofs.Common.{◌≡◌, ◌∙◌, ap, sym, subst, length, map}
use Rattle.std.specs.List.{All}
use Rattle.ot_machine.specs.Meaning.{run_of, export_of}
use Rattle.ot_logic.specs.Naming.{IsNameTable}
use Rattle.ot_write.specs.Bytes.{AreRootsInside, Writes, article_bytes}
use Rattle.ot_minimise.specs.Minimised.{roots_in}
use Rattle.ot_minimise.proofs.OverNames.{roots-inside, bytes-are}
use Rattle.ot_minimise.proofs.Alone.{alone}
use Rattle.ot_minimise.proofs.minimising.minimise.Goals as goal

pub write_article-requires-clause-exports : goal.write_article-requires-clause-exports
write_article-requires-clause-exports c =
    subst (λ ts. All (AreRootsInside (length ts)) c.deref.result.now) (sym c.trace.ensures)
    (subst (λ es. All (AreRootsInside (length c.args.session.now.trace)) es)
    (sym (c.deref.ensures.value ∙ c.in_ok-roots.ensures))
    (roots-inside c.args.session.now c.requires.run c.args.exports.now c.requires.exports))

pub returns-clause-writes : goal.returns-clause-writes
returns-clause-writes c =
    let s = c.args.session.now in
    let ns : c.names.result.now ≡ s.kernel.names = c.names.ensures ∙ ap (λ k. k.names) c.kernel-2.ensures in
    let roots : c.deref.result.now ≡ map roots_in c.args.exports.now = c.deref.ensures.value
    ∙ c.in_ok-roots.ensures in
    subst (λ x. Writes c.write_article.result x c.args.max c.args.out.now.items c.write_article.new.out.items)
    ((λ i. article_bytes (ns i) (c.trace.ensures i) (c.definition_steps.ensures i) (roots i))
    ∙ bytes-are s c.requires.run (subst (λ k. IsNameTable k.names) c.kernel.ensures c.sound.ensures.names)
    c.args.exports.now c.requires.exports)
    c.write_article.ensures

pub returns-clause-minimised : goal.returns-clause-minimised
returns-clause-minimised c =
    alone c.written_article_law.ensures c.same_origin_law.ensures.of_names c.stored_enough_law.ensures.of_names
    (run_of c.args.session.now) (map (export_of c.args.session.now) c.args.exports.now) c.requires.lawful
    c.write_article.result c.args.max c.args.out.now.items c.write_article.new.out.items c.requires.max
    (returns-clause-writes c)
