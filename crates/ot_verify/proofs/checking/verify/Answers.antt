use Rattle.std.specs.Prelude.{Result, Ok, Err}
use Rattle.std.proofs.Common.{◌≡◌, ap, subst, arith}
use Rattle.std.proofs.lemmas.Result.{err_from_is_err_and}
use Rattle.ot_io.proofs.Keeping.{KeepsSource-then}
use Rattle.ot_logic.specs.Naming.{names}
use Rattle.ot_log_format.specs.Records.{form}
use Rattle.ot_verify.specs.Logged.{RecordedFrom}
use Rattle.ot_verify.specs.declared.fault.VerifyFault.TheVariants.{ReadFault}
use Rattle.ot_verify.specs.Going.{BeginsFrom}
use Rattle.ot_verify.proofs.Following.{none-checked, follows-header, header-refused, word-refused, follows-end}
use Rattle.ot_verify.proofs.Following.{follows-record, record-refused}
use Rattle.ot_verify.proofs.checking.verify.Goals as goal

-- ---- the answer is that of the check of the bytes that were read

pub returns-in_err-log-clause-checked : goal.returns-in_err-log-clause-checked
returns-in_err-log-clause-checked g c =
    let p = err_from_is_err_and c.from_residual.result c.from_residual.ensures.1 in
    rw (p.1, p.2) (none-checked c.args.max_bytes (g.S.Source.left c.args.source.now))

pub returns-in_err-header-clause-checked : goal.returns-in_err-header-clause-checked
returns-in_err-header-clause-checked g c =
    let p = err_from_is_err_and c.from_residual-in_err-header.result c.from_residual-in_err-header.ensures.1 in
    rw (p.1, p.2) (header-refused c.args.max_bytes c.new-reader.ensures c.in_err-header.ensures.heads)

pub returns-in_err-word-clause-checked : goal.returns-in_err-word-clause-checked
returns-in_err-word-clause-checked g c =
    let p = err_from_is_err_and c.from_residual-in_err-word.result c.from_residual-in_err-word.ensures.1 in
    rw (p.1, p.2) (word-refused c.records.invariant.so_far c.in_err-word.ensures.begins)

pub returns-in_default-clause-checked : goal.returns-in_default-clause-checked
returns-in_default-clause-checked g c =
    follows-end c.records.invariant.so_far
    (subst
    (λ o. BeginsFrom (Ok o) c.records.reader c.begin.new.self (g.S.Source.left c.records.source)
    (g.S.Source.left c.begin.new.source))
    c.in_default.is c.in_ok-word.ensures.begins)

pub returns-in_err-take_record-clause-checked : goal.returns-in_err-take_record-clause-checked
returns-in_err-take_record-clause-checked g c =
    let p = err_from_is_err_and c.from_residual-in_err-take_record.result
    c.from_residual-in_err-take_record.ensures.1 in
    let l = g.S.Source.left c.records.source in
    let m = g.S.Source.left c.begin.new.source in
    let n = g.S.Source.left c.take_record.new.source in
    rw (p.1, p.2)
    (record-refused c.records.invariant.so_far
    (subst (λ o. BeginsFrom (Ok o) c.records.reader c.begin.new.self l m) c.in-Some.is c.in_ok-word.ensures.begins)
    (subst (λ first. RecordedFrom (Err c.in_err-take_record.field-0.0) (form names c.in-Some.word) first
    c.records.log.state c.take_record.new.log.state c.begin.new.self c.take_record.new.reader m n)
    c.last-first.ensures c.in_err-take_record.ensures.recorded))

-- ---- a read fault is answered only where the source failed

same-refusal : {A B E : Type 0} (e f : E) → ◌≡◌ {A = Result A E} (Err e) (Err f)
    → ◌≡◌ {A = Result B E} (Err e) (Err f)
same-refusal {A} {B} {E} e f h = ap (λ r. elim r as (λ _. Result B E) [ Ok x ↦ Err e | Err y ↦ Err y ]) h

pub returns-in_err-take_record-clause-cause : goal.returns-in_err-take_record-clause-cause
returns-in_err-take_record-clause-cause g c =
    let p = err_from_is_err_and c.from_residual-in_err-take_record.result
    c.from_residual-in_err-take_record.ensures.1 in
    rw (p.1, p.2)
    (λ is.
    let rose = c.in_err-take_record.ensures.reads.cause
    (same-refusal c.in_err-take_record.field-0.0 ReadFault is) in
    omega (arith, rose, c.records.invariant.kept.later, c.begin.ensures.kept.later))

-- ---- the loop

pub records-init : goal.records-init
records-init g c = record {
  so_far = follows-header c.args.max_bytes c.new-reader.ensures c.in_ok-log.ensures c.in_ok-header.ensures.heads;
  kept = c.header.ensures.reads.kept;
}

pub records-preserved : goal.records-preserved
records-preserved g c =
    let l = g.S.Source.left c.records.source in
    let m = g.S.Source.left c.begin.new.source in
    let n = g.S.Source.left c.take_record.new.source in
    record {
      so_far =
          follows-record c.records.invariant.so_far
          (subst (λ o. BeginsFrom (Ok o) c.records.reader c.begin.new.self l m) c.in-Some.is
          c.in_ok-word.ensures.begins)
          (subst (λ first. RecordedFrom (Ok (tt {0})) (form names c.in-Some.word) first c.records.log.state
          c.take_record.new.log.state c.begin.new.self c.take_record.new.reader m n)
          c.last-first.ensures c.in_ok-take_record.ensures.recorded);
      kept = KeepsSource-then c.records.invariant.kept
          (KeepsSource-then c.begin.ensures.kept c.take_record.ensures.reads.kept);
    }
