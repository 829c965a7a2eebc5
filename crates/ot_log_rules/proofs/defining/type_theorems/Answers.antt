use Rattle.std.specs.List.{All}
use Rattle.std.proofs.Common.{[], ◌∷◌, map, subst, sym, ap, ◌∙◌}
use Rattle.std.proofs.lemmas.List.Elements.{All-nil, All-cons}
use Rattle.ot_logic.specs.Names.{Name}
use Rattle.ot_logic.specs.Naming.{names}
use Rattle.ot_logic.specs.Trees.{Tm, Con, Bound, App, Abs}
use Rattle.ot_logic.specs.Hol.{fun_ty, bool_ty, equation}
use Rattle.ot_logic.proofs.TableLemmas.{Extends-trans}
use Rattle.ot_log_nodes.specs.Items.{IsTerm}
use Rattle.ot_log_nodes.proofs.ItemLemmas.{has-type, has-term, type-is, term-is, name-stays}
use Rattle.ot_log_nodes.proofs.ItemLemmas.{type-stays, term-stays, still-name, still-type, still-term}
use Rattle.ot_log_rules.specs.Statements.{sequent_at, HasStatement}
use Rattle.ot_log_rules.proofs.Cases.{concluding}
use Rattle.ot_log_rules.proofs.Growing.{later-term, later-has, later-type, later-typed}
use Rattle.ot_log_rules.proofs.defining.type_theorems.Goals as goal

pub constant_between-requires-clause-name : goal.constant_between-requires-clause-name
constant_between-requires-clause-name c =
    still-name c.args.nodes.now c.operator_over.new.nodes c.in_ok-new.ensures.extends c.args.abs c.requires.abs

pub constant_between-requires-clause-from : goal.constant_between-requires-clause-from
constant_between-requires-clause-from c =
    still-type c.args.nodes.now c.operator_over.new.nodes c.in_ok-new.ensures.extends c.args.old c.requires.old

pub constant_between-requires-clause-to : goal.constant_between-requires-clause-to
constant_between-requires-clause-to c = has-type c.operator_over.new.nodes c.in_ok-new.new _ c.in_ok-new.ensures.ok

pub constant_between-requires-2-clause-name : goal.constant_between-requires-2-clause-name
constant_between-requires-2-clause-name c = still-name c.args.nodes.now c.constant_between.new.nodes
    (Extends-trans c.in_ok-new.ensures.extends c.in_ok-to.ensures.extends) c.args.rep c.requires.rep

pub constant_between-requires-2-clause-from : goal.constant_between-requires-2-clause-from
constant_between-requires-2-clause-from c = later-typed c.operator_over.new.nodes c.constant_between.new.nodes
    c.in_ok-to.ensures.extends c.in_ok-new.new _ c.in_ok-new.ensures.ok

pub constant_between-requires-2-clause-to : goal.constant_between-requires-2-clause-to
constant_between-requires-2-clause-to c = still-type c.args.nodes.now c.constant_between.new.nodes
    (Extends-trans c.in_ok-new.ensures.extends c.in_ok-to.ensures.extends) c.args.old c.requires.old

pub there_and_back-requires-clause-new : goal.there_and_back-requires-clause-new
there_and_back-requires-clause-new c = later-typed c.operator_over.new.nodes c.constant_between-2.new.nodes
    (Extends-trans c.in_ok-to.ensures.extends c.in_ok-from.ensures.extends) c.in_ok-new.new _ c.in_ok-new.ensures.ok

pub there_and_back-requires-clause-abs : goal.there_and_back-requires-clause-abs
there_and_back-requires-clause-abs c = later-has c.constant_between.new.nodes c.constant_between-2.new.nodes
    c.in_ok-from.ensures.extends c.in_ok-to.to _ c.in_ok-to.ensures.ok

pub there_and_back-requires-clause-rep : goal.there_and_back-requires-clause-rep
there_and_back-requires-clause-rep c =
    has-term c.constant_between-2.new.nodes c.in_ok-from.from _ c.in_ok-from.ensures.ok

pub back_and_there-requires-clause-old : goal.back_and_there-requires-clause-old
back_and_there-requires-clause-old c =
    still-type c.args.nodes.now c.there_and_back.new.nodes
    (Extends-trans (Extends-trans (Extends-trans c.in_ok-new.ensures.extends c.in_ok-to.ensures.extends)
    c.in_ok-from.ensures.extends) c.in_ok-first.ensures.extends) c.args.old c.requires.old

pub back_and_there-requires-clause-abs : goal.back_and_there-requires-clause-abs
back_and_there-requires-clause-abs c = later-has c.constant_between.new.nodes c.there_and_back.new.nodes
    (Extends-trans c.in_ok-from.ensures.extends c.in_ok-first.ensures.extends) c.in_ok-to.to _ c.in_ok-to.ensures.ok

pub back_and_there-requires-clause-rep : goal.back_and_there-requires-clause-rep
back_and_there-requires-clause-rep c = later-has c.constant_between-2.new.nodes c.there_and_back.new.nodes
    c.in_ok-first.ensures.extends c.in_ok-from.from _ c.in_ok-from.ensures.ok

pub back_and_there-requires-clause-predicate : goal.back_and_there-requires-clause-predicate
back_and_there-requires-clause-predicate c =
    still-term c.args.nodes.now c.there_and_back.new.nodes
    (Extends-trans (Extends-trans (Extends-trans c.in_ok-new.ensures.extends c.in_ok-to.ensures.extends)
    c.in_ok-from.ensures.extends) c.in_ok-first.ensures.extends) c.args.predicate c.requires.predicate

pub without_hyps-there-requires : goal.without_hyps-there-requires
without_hyps-there-requires c = later-has c.there_and_back.new.nodes c.back_and_there.new.nodes
    c.in_ok-second.ensures.extends c.in_ok-first.first _ c.in_ok-first.ensures.ok

pub without_hyps-back-requires : goal.without_hyps-back-requires
without_hyps-back-requires c = has-term c.back_and_there.new.nodes c.in_ok-second.second _ c.in_ok-second.ensures.ok

pub returns-clause-has : goal.returns-clause-has
returns-clause-has c =
    let P = HasStatement c.back_and_there.new.nodes in
    subst (All P) (sym c.in_ok-theorems.ensures)
    (All-cons P c.without_hyps-there.result (c.without_hyps-back.result ∷ []) c.without_hyps-there.ensures.has
    (All-cons P c.without_hyps-back.result [] c.without_hyps-back.ensures.has (All-nil P)))

pub returns-clause-ok : goal.returns-clause-ok
returns-clause-ok c =
    let t0 = c.args.nodes.now in
    let t1 = c.operator_over.new.nodes in
    let t2 = c.constant_between.new.nodes in
    let t3 = c.constant_between-2.new.nodes in
    let t4 = c.there_and_back.new.nodes in
    let t5 = c.back_and_there.new.nodes in
    let e1 = c.in_ok-new.ensures.extends in
    let e2 = c.in_ok-to.ensures.extends in
    let e3 = c.in_ok-from.ensures.extends in
    let e4 = c.in_ok-first.ensures.extends in
    let e5 = c.in_ok-second.ensures.extends in
    let new1 = type-is t1 c.in_ok-new.new _ c.in_ok-new.ensures.ok in
    let new2 = later-type t1 t2 e2 c.in_ok-new.new _ c.in_ok-new.ensures.ok in
    let new3 = later-type t1 t3 (Extends-trans e2 e3) c.in_ok-new.new _ c.in_ok-new.ensures.ok in
    let old1 = type-stays t0 t1 e1 c.args.old c.requires.old in
    let old2 = type-stays t0 t2 (Extends-trans e1 e2) c.args.old c.requires.old in
    let old4 = type-stays t0 t4 (Extends-trans (Extends-trans (Extends-trans e1 e2) e3) e4) c.args.old
    c.requires.old in
    let abs = name-stays t0 t1 e1 c.args.abs c.requires.abs in
    let rep = name-stays t0 t2 (Extends-trans e1 e2) c.args.rep c.requires.rep in
    let to3 = later-term t2 t3 e3 c.in_ok-to.to _ c.in_ok-to.ensures.ok
    ∙ (λ i. Con (abs i) (fun_ty names (old1 i) (new1 i))) in
    let to4 = later-term t2 t4 (Extends-trans e3 e4) c.in_ok-to.to _ c.in_ok-to.ensures.ok
    ∙ (λ i. Con (abs i) (fun_ty names (old1 i) (new1 i))) in
    let from3 = term-is t3 c.in_ok-from.from _ c.in_ok-from.ensures.ok
    ∙ (λ i. Con (rep i) (fun_ty names (new2 i) (old2 i))) in
    let from4 = later-term t3 t4 e4 c.in_ok-from.from _ c.in_ok-from.ensures.ok
    ∙ (λ i. Con (rep i) (fun_ty names (new2 i) (old2 i))) in
    let predicate = term-stays t0 t4 (Extends-trans (Extends-trans (Extends-trans e1 e2) e3) e4) c.args.predicate
    c.requires.predicate in
    let first =
    subst (λ (t : Tm Name). IsTerm t5 c.in_ok-first.first t)
    (λ i. equation names (fun_ty names (new3 i) (new3 i)) (Abs (new3 i) (App (to3 i) (App (from3 i) (Bound 0))))
    (Abs (new3 i) (Bound 0))) (e5.keeps c.in_ok-first.first _ c.in_ok-first.ensures.ok) in
    let second = subst (λ (t : Tm Name). IsTerm t5 c.in_ok-second.second t)
    (λ i. equation names (fun_ty names (old4 i) (bool_ty names))
    (Abs (old4 i) (equation names (old4 i) (App (from4 i) (App (to4 i) (Bound 0))) (Bound 0)))
    (Abs (old4 i) (App (predicate i) (Bound 0)))) c.in_ok-second.ensures.ok in
    let p = concluding t5 c.without_hyps-there.result _ c.in_ok-first.first c.without_hyps-there.ensures.hyps
    c.without_hyps-there.ensures.concl first in
    let q = concluding t5 c.without_hyps-back.result _ c.in_ok-second.second c.without_hyps-back.ensures.hyps
    c.without_hyps-back.ensures.concl second in
    ap (map (sequent_at t5)) c.in_ok-theorems.ensures ∙ (λ i. p.1 i ∷ q.1 i ∷ [])

pub returns-in_err-theorems-clause-extends : goal.returns-in_err-theorems-clause-extends
returns-in_err-theorems-clause-extends c =
    Extends-trans
    (Extends-trans (Extends-trans (Extends-trans c.in_ok-new.ensures.extends c.in_ok-to.ensures.extends)
    c.in_ok-from.ensures.extends) c.in_ok-first.ensures.extends) c.in_ok-second.ensures.extends

pub returns-clause-extends : goal.returns-clause-extends
returns-clause-extends c =
    Extends-trans
    (Extends-trans (Extends-trans (Extends-trans c.in_ok-new.ensures.extends c.in_ok-to.ensures.extends)
    c.in_ok-from.ensures.extends) c.in_ok-first.ensures.extends) c.in_ok-second.ensures.extends
