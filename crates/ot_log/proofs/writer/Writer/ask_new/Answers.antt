use Rattle.std.proofs.Common.{◌++◌, ap, ◌∙◌, map, reverse}
use Rattle.ot_log_words.proofs.Defining.{on-ok}
use Rattle.ot_log.specs.declared.worklist.Task.TheVariants as task
use Rattle.ot_log.proofs.Worked.{asked-tasks, asked-cheaper, replaces-asked, replaces-none, cheaper-same}
use Rattle.ot_log.proofs.writer.Writer.ask_new.Goals as goal

pub returns-in_ok-push-in-Some-clause-work : goal.returns-in_ok-push-in-Some-clause-work
returns-in_ok-push-in-Some-clause-work c =
    let t = c.in-Some.ensures.some in
    let ops = c.in-Some.operands.now in
    let old = c.args.work.now.items in
    on-ok c.push_back.result
    (λ e. asked-tasks c.args.session.now old c.push_back.new.work.items c.args.id t.word ops t.is
    (e ∙ ap (λ l. l ++ reverse (map task.Write ops)) c.in_ok-push-in-Some.ensures.items) c.requires.work
    c.requires.task
    t.inside t.makes) c.push_back.ensures

pub returns-in_ok-push-in-Some-clause-moves : goal.returns-in_ok-push-in-Some-clause-moves
returns-in_ok-push-in-Some-clause-moves c =
    let t = c.in-Some.ensures.some in
    let ops = c.in-Some.operands.now in
    let old = c.args.work.now.items in
    on-ok c.push_back.result
    (λ e. replaces-asked c.args.session.now c.args.self.now old c.push_back.new.work.items c.args.id
    t.word ops c.requires.task.inside c.requires.first t.is t.makes
    (e ∙ ap (λ l. l ++ reverse (map task.Write ops)) c.in_ok-push-in-Some.ensures.items)) c.push_back.ensures

pub returns-in_ok-push-in-Some-clause-cheaper : goal.returns-in_ok-push-in-Some-clause-cheaper
returns-in_ok-push-in-Some-clause-cheaper c =
    let t = c.in-Some.ensures.some in
    let ops = c.in-Some.operands.now in
    let old = c.args.work.now.items in
    on-ok c.push_back.result
    (λ e. asked-cheaper c.args.session.now old c.push_back.new.work.items c.args.id t.word ops t.numbered
    (e ∙ ap (λ l. l ++ reverse (map task.Write ops)) c.in_ok-push-in-Some.ensures.items)) c.push_back.ensures

pub returns-in-None-clause-cheaper : goal.returns-in-None-clause-cheaper
returns-in-None-clause-cheaper c = cheaper-same c.args.session.now c.args.work.now.items c.args.id

pub returns-in-None-clause-moves : goal.returns-in-None-clause-moves
returns-in-None-clause-moves c =
    replaces-none c.args.session.now c.args.self.now c.args.work.now.items c.args.id c.in-None.ensures.none
