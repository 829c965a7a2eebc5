use Rattle.ot_io.proofs.Reading.{HasRead-map}
use Rattle.ot_scan.specs.Lines.{lines_of}
use Rattle.std.proofs.Common.{◌≡◌, refl}
use Rattle.std.specs.Prelude.{Ok, Err}
use Rattle.ot_machine.specs.Contexts.{context_of}
use Rattle.ot_machine.specs.Meaning.{machine_state}
use Rattle.ot_machine.proofs.Led.{read-leads}
use Rattle.ot_link.proofs.Ending.{article-ended, article-stopped}
use Rattle.ot_link.proofs.Lawful.{article-left, article-refused}
use Rattle.ot_link.proofs.article.article_exports.Goals as goal

pub run_article-requires-clause-of : goal.run_article-requires-clause-of
run_article-requires-clause-of g c = c.new-machine.ensures.of c.args.session.now c.requires.ready.session

pub returns-in-Ok-clause-ends : goal.returns-in-Ok-clause-ends
returns-in-Ok-clause-ends g c =
    let s0 = c.args.session.now in
    HasRead-map c.in-Ok.ensures.runs (λ ok. refl)
    (λ bytes rest h. article-ended s0 c.run_article.new.session c.new-machine.result c.run_article.new.self
    (context_of s0 c.args.context.now) (lines_of c.args.setting.limits.now.article_bytes bytes)
    (c.new-machine.ensures.fresh s0) c.into_exports.result h c.into_exports.ensures)

pub returns-in-Err-clause-ends : goal.returns-in-Err-clause-ends
returns-in-Err-clause-ends g c =
    let s0 = c.args.session.now in
    HasRead-map c.in-Err.ensures.runs (λ ok. ok)
    (λ bytes rest h. article-stopped s0 c.run_article.new.session c.new-machine.result c.run_article.new.self
    (context_of s0 c.args.context.now) (lines_of c.args.setting.limits.now.article_bytes bytes)
    (c.new-machine.ensures.fresh s0) c.in-Err.fault h)

pub returns-in-Ok-clause-left : goal.returns-in-Ok-clause-left
returns-in-Ok-clause-left g c =
    let s0 = c.args.session.now in
    article-left s0 c.run_article.new.session c.new-machine.result c.run_article.new.self c.args.context.now
    c.fresh_law.ensures.written c.lines_law.ensures.written c.lines_law.ensures.said
    (c.new-machine.ensures.fresh s0) c.requires.ready
    (read-leads (context_of s0 c.args.context.now) (machine_state s0 c.new-machine.result) c.run_article.new.session.kernel (Ok (tt {0}))
    c.args.setting.limits.now.article_bytes (machine_state c.run_article.new.session c.run_article.new.self) _ _
    c.in-Ok.ensures.runs) c.in-Ok.ensures.grown c.in-Ok.ensures.of
    c.into_exports.result c.into_exports.ensures

pub returns-in-Err-clause-left : goal.returns-in-Err-clause-left
returns-in-Err-clause-left g c =
    let s0 = c.args.session.now in
    article-refused s0 c.run_article.new.session c.new-machine.result c.run_article.new.self c.args.context.now
    c.fresh_law.ensures.written c.lines_law.ensures.written c.lines_law.ensures.said
    (c.new-machine.ensures.fresh s0) c.requires.ready
    (read-leads (context_of s0 c.args.context.now) (machine_state s0 c.new-machine.result) c.run_article.new.session.kernel (Err c.in-Err.fault)
    c.args.setting.limits.now.article_bytes (machine_state c.run_article.new.session c.run_article.new.self) _ _
    c.in-Err.ensures.runs) c.in-Err.ensures.grown c.in-Err.ensures.of
    c.in-Err.fault c.in-Err.ensures.symbols
