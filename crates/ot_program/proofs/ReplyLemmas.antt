-- How a verdict, and the way the program ends with it, stand to the stated reply.
use Rattle.std.proofs.Common.{◌≡◌, ℕ, List, refl, ap, sym, subst, inl, inr, ◌⊎◌, ◌∙◌}
use Rattle.std.specs.Prelude.{Bool, true, false, MatchBool, Option, Some, None, ◌↔◌}
use Rattle.std.specs.Option.{option_map}
use Rattle.std.specs.Io.KnownBytes.{Appends}
use Rattle.ot_io.specs.Causes.{CountRose}
use Rattle.ot_io.specs.Sinks.{AppendsFront}
use Rattle.ot_args.specs.Grammar.{command_of}
use Rattle.ot_program.specs.Texts.{usage_line, write_fault_line, memory_line}
use Rattle.ot_program.specs.Tasks.{TaskValue, ReadLines, FindPattern, task, task_of, RunInput, RunSample, MakeSample}
use Rattle.ot_program.specs.Tasks.{CheckLog, ShowReadable, command}
use Rattle.ot_program.specs.Reply.{Reply, accepted, fails, reply_to, answer}
use Rattle.ot_program.specs.Answer.{MatchesReply, IsReport, IsStopLine, IsLargeLine, FileFailed, IsFailureLine}
use Rattle.ot_program.specs.Answer.{WritesLine, SomeText, Outputs, IsOutput, SaysWhy, IsErrorLine, Failures, IsAnswered}
use Rattle.ot_program.specs.World.{World, Every, is_standard}
use Rattle.ot_program.specs.Verdicts.{IsTextOf, Ends, said_line}
use Rattle.ot_program.specs.declared.status.Status.{Status}
use Rattle.ot_program.specs.declared.status.Status.TheVariants.{Accepted, Refused, Usage, NoFile}
use Rattle.ot_program.specs.declared.status.Status.TheVariants.{ReadFault, WriteFault, Memory}
use Rattle.ot_program.specs.Samples.{sample_path}
use Rattle.ot_program.proofs.TaskEnds.{IsReadPath}

-- ---- a verdict and the stated reply

-- the reply that a status and a text make; an input that failed has none
abbrev IsReplyOf : Status → List ℕ → Reply → Type 0
IsReplyOf Accepted text reply = reply ≡ accepted text
IsReplyOf Refused line reply = reply ≡ fails Refused line
IsReplyOf NoFile line reply = reply ≡ fails NoFile line
IsReplyOf ReadFault line reply = Unit {0}
IsReplyOf Usage line reply = ⊥
IsReplyOf WriteFault line reply = ⊥
IsReplyOf Memory line reply = ⊥

report_reply : (t : TaskValue) (May : World → Type 0) (text : List ℕ) → IsReport t May text
    → Every May (λ world. IsReplyOf Accepted text (reply_to (command t) ((command t).result world)))
report_reply t May text report =
    λ world may. ap (reply_to (command t)) (report.ended world may)
    ∙ rw report.fits_is (ap accepted (sym report.text_is))

stop_reply : (t : TaskValue) (status : Status) (May : World → Type 0) (line : List ℕ) → IsStopLine status t May line
    → Every May (λ world. reply_to (command t) ((command t).result world) ≡ fails status line)
stop_reply t status May line stop =
    λ world may. ap (reply_to (command t)) (stop.stopped world may)
    ∙ (λ i. fails (stop.status_is i) (sym stop.line_is i))

large_reply : (t : TaskValue) (May : World → Type 0) (line : List ℕ) → IsLargeLine t May line
    → Every May (λ world. reply_to (command t) ((command t).result world) ≡ fails Refused line)
large_reply t May line large =
    λ world may. ap (reply_to (command t)) (large.ended world may)
    ∙ rw large.large (ap (fails Refused) (sym large.line_is))

replies : (t : TaskValue) (May : World → Type 0) (I : Type 0) (F : List ℕ → Type 0) (status : Status) (text : List ℕ)
    → IsTextOf status t May I F text
    → Every May (λ world. IsReplyOf status text (reply_to (command t) ((command t).result world)))
replies t May I F Accepted text says = report_reply t May text says
replies t May I F Refused text (inl stop) = stop_reply t Refused May text stop
replies t May I F Refused text (inr large) = large_reply t May text large
replies t May I F NoFile text says = stop_reply t NoFile May text says
replies t May I F ReadFault text says = λ world may. tt
replies t May I F Usage text says = absurd says
replies t May I F WriteFault text says = absurd says
replies t May I F Memory text says = absurd says

-- what holds of the verdict's reply holds of the answer to the words
replied : (words : List (List ℕ)) (t : TaskValue) (May : World → Type 0) (I : Type 0) (F : List ℕ → Type 0)
    (status : Status) (text : List ℕ) (P : Reply → Type 0)
    → task_of words ≡ Some t → IsTextOf status t May I F text
    → ((reply : Reply) → IsReplyOf status text reply → P reply) → Every May (λ world. P (answer words world))
replied words t May I F status text P read says then =
    λ world may. rw read (then (reply_to (command t) ((command t).result world)) (replies t May I F status text says world may))

-- ---- status, output and the line

-- what was put out is the verdict's text, and what was said is its line, or that of a write fault
module _ {O E : Type 0} (written : O → Option (List ℕ)) (flushed : O → Option ℕ) (out out' : O)
    (said : E → Option (List ℕ)) (faults : E → ℕ) (err err' : E) where
  abbrev pub IsPutOut : Status → List ℕ → Type 0
  IsPutOut status text = Outputs status written flushed out out' (λ x. x ≡ text)

  abbrev pub IsSaidSo : Status → List ℕ → Type 0
  IsSaidSo status text = SaysWhy status said faults err err' (λ line. line ≡ said_line status text)

  abbrev AnswersTo : Status → Reply → Type 0
  AnswersTo status reply =
      MatchesReply status reply (written out) (written out') (WritesLine said faults err err')

  line_said : (text : List ℕ) (status : Status) → SomeText (λ line. line ≡ text) (WritesLine said faults err err')
      → (reply : Reply) → reply ≡ fails status text
      → (reply.status ≡ status) × WritesLine said faults err err' reply.error
  line_said text status line reply is = (
    ap (λ r. r.status) is,
    subst (WritesLine said faults err err') (line.is_one ∙ sym (ap (λ r. r.error) is)) line.is_put,
  )

  same_matches : (status : Status) (text : List ℕ) → IsPutOut status text → IsSaidSo status text → (reply : Reply)
      → IsReplyOf status text reply → AnswersTo status reply
  same_matches Accepted text put line reply is = (
    ap (λ r. r.status) is,
    subst (Appends (written out) (written out')) (put.is_one ∙ sym (ap (λ r. r.output) is)) put.is_put.0,
  )
  same_matches Refused text put line reply is = line_said text Refused line reply is
  same_matches NoFile text put line reply is = line_said text NoFile line reply is
  same_matches ReadFault text put line reply is = tt
  same_matches Usage text put line reply is = absurd is
  same_matches WriteFault text put line reply is = absurd is
  same_matches Memory text put line reply is = absurd is

  matches : (verdict status : Status) (text : List ℕ) → Ends verdict status → IsPutOut status text
      → IsSaidSo status text → (reply : Reply) → IsReplyOf verdict text reply → AnswersTo status reply
  matches verdict status text (inl same) put line reply is =
      subst (λ (s : Status). AnswersTo s reply) (sym same)
      (same_matches verdict text (subst (λ (s : Status). IsPutOut s text) same put)
      (subst (λ (s : Status). IsSaidSo s text) same line) reply is)
  matches verdict status text (inr failed) put line reply is =
      let front : IsPutOut WriteFault text = subst (λ (s : Status). IsPutOut s text) failed.1 put in
      let by : reply ≡ accepted text = subst (λ (s : Status). IsReplyOf s text reply) failed.0 is in
      subst (λ (s : Status). AnswersTo s reply) (sym failed.1) (
        ap (λ r. r.status) by,
        subst (AppendsFront (written out) (written out')) (front.is_one ∙ sym (ap (λ r. r.output) by)) front.is_put,
      )

  pub answers : (words : List (List ℕ)) (t : TaskValue) (May : World → Type 0) (I : Type 0) (F : List ℕ → Type 0)
      (verdict status : Status) (text : List ℕ) → task_of words ≡ Some t → IsTextOf verdict t May I F text
      → Ends verdict status → IsPutOut status text → IsSaidSo status text
      → Every May (λ world. AnswersTo status (answer words world))
  answers words t May I F verdict status text read says ends put line =
      replied words t May I F verdict text (AnswersTo status) read says (matches verdict status text ends put line)

  -- ---- what is written, and what is said

  module _ (t : TaskValue) (May : World → Type 0) (d : Failures) where
    abbrev PutsOut : Status → Type 0
    PutsOut status = Outputs status written flushed out out' (IsOutput (Some t) May)

    same_outputs : (status : Status) (text : List ℕ) → IsTextOf status t May d.input d.file text
        → IsPutOut status text → PutsOut status
    same_outputs Accepted text says put = record {
      text = put.text;
      is_one = subst (IsReport t May) (sym put.is_one) says;
      is_put = put.is_put;
    }
    same_outputs Refused text says put = put
    same_outputs NoFile text says put = put
    same_outputs ReadFault text says put = put
    same_outputs Usage text says put = absurd says
    same_outputs WriteFault text says put = absurd says
    same_outputs Memory text says put = absurd says

    outputs : (verdict status : Status) (text : List ℕ) → IsTextOf verdict t May d.input d.file text
        → Ends verdict status → IsPutOut status text → PutsOut status
    outputs verdict status text says (inl same) put =
        subst PutsOut (sym same) (same_outputs verdict text says (subst (λ (s : Status). IsPutOut s text) same put))
    outputs verdict status text says (inr failed) put =
        let front : IsPutOut WriteFault text = subst (λ (s : Status). IsPutOut s text) failed.1 put in
        let report : IsReport t May text =
        subst (λ (s : Status). IsTextOf s t May d.input d.file text) failed.0 says in
        subst PutsOut (sym failed.1) (record {
          text = front.text;
          is_one = subst (IsReport t May) (sym front.is_one) report;
          is_put = front.is_put;
        })

    abbrev SaysOf : Status → Type 0
    SaysOf status = SaysWhy status said faults err err' (IsErrorLine status (Some t) May d)

    why_said : (P : List ℕ → Type 0) (text : List ℕ) → P text
        → SomeText (λ line. line ≡ text) (WritesLine said faults err err')
        → SomeText P (WritesLine said faults err err')
    why_said P text is line = record {
      text = line.text;
      is_one = subst P (sym line.is_one) is;
      is_put = line.is_put;
    }

    same_why : (status : Status) (text : List ℕ) → IsTextOf status t May d.input d.file text
        → (status ≡ NoFile → d.missing) → IsSaidSo status text → SaysOf status
    same_why Accepted text says missing line = line
    same_why Refused text says missing line = why_said (IsErrorLine Refused (Some t) May d) text says line
    same_why NoFile text says missing line =
        why_said (IsErrorLine NoFile (Some t) May d) text (says, missing refl) line
    same_why ReadFault text says missing line = why_said (IsErrorLine ReadFault (Some t) May d) text says line
    same_why Usage text says missing line = absurd says
    same_why WriteFault text says missing line = absurd says
    same_why Memory text says missing line = absurd says

    why : (verdict status : Status) (text : List ℕ) → IsTextOf verdict t May d.input d.file text
        → (verdict ≡ NoFile → d.missing) → Ends verdict status → IsSaidSo status text
        → (status ≡ WriteFault → d.output) → SaysOf status
    why verdict status text says missing (inl same) line unwritten =
        subst SaysOf (sym same) (same_why verdict text says missing (subst (λ (s : Status). IsSaidSo s text) same line))
    why verdict status text says missing (inr failed) line unwritten =
        subst SaysOf (sym failed.1)
        (why_said (IsErrorLine WriteFault (Some t) May d) write_fault_line (refl, unwritten failed.1)
        (subst (λ (s : Status). IsSaidSo s text) failed.1 line))

-- ---- a read fault where no count rose

no_read_path : (path : List ℕ) (N : Type 0) (at : Option (List ℕ)) (i j f g : ℕ)
    (failed : List ℕ) → ¬ CountRose i j → ¬ CountRose f g
    → ¬ IsReadPath path N (CountRose i j) (FileFailed at f g) failed
no_read_path path N at i j f g failed input all is = go (is_standard path) is where
  go : (b : Bool) → ¬ MatchBool b ((failed ≡ path) × CountRose i j) (N × FileFailed at f g failed)
  go true is = input is.1
  go false is = all is.1.0

no_failed_path : (t : TaskValue) (May : World → Type 0) (at : Option (List ℕ)) (i j f g : ℕ)
    (failed : List ℕ) → ¬ CountRose i j → ¬ CountRose f g
    → ¬ (command t).IsFailed May (CountRose i j) (FileFailed at f g) failed
no_failed_path (RunInput packages path view) May at i j f g failed no_input no_file is =
    no_read_path path _ at i j f g failed no_input no_file is
no_failed_path (RunSample n) May at i j f g failed no_input no_file is =
    no_read_path sample_path _ at i j f g failed no_input no_file is
no_failed_path (MakeSample n) May at i j f g failed no_input no_file is =
    no_read_path sample_path _ at i j f g failed no_input no_file is
no_failed_path (CheckLog path) May at i j f g failed no_input no_file is =
    no_read_path path _ at i j f g failed no_input no_file is
no_failed_path (ShowReadable packages path) May at i j f g failed no_input no_file is =
    no_read_path path _ at i j f g failed no_input no_file is
no_failed_path (ReadLines packages path text) May at i j f g failed no_input no_file (inl is) =
    no_read_path path _ at i j f g failed no_input no_file is
no_failed_path (ReadLines packages path text) May at i j f g failed no_input no_file (inr is) = no_file is.2.0
no_failed_path (FindPattern packages pattern path) May at i j f g failed no_input no_file (inl is) =
    no_read_path path _ at i j f g failed no_input no_file is.0
no_failed_path (FindPattern packages pattern path) May at i j f g failed no_input no_file (inr is) = no_file is.2.0

no_read_fault : (t : TaskValue) (May : World → Type 0) (at : Option (List ℕ)) (verdict : Status)
    (text : List ℕ) (i j f g : ℕ) → ¬ CountRose i j → ¬ CountRose f g
    → IsTextOf verdict t May (CountRose i j) (FileFailed at f g) text → ¬ (verdict ≡ ReadFault)
no_read_fault t May at verdict text i j f g no_input no_file says is =
    let line : IsFailureLine t May (CountRose i j) (FileFailed at f g) text =
    subst (λ (s : Status). IsTextOf s t May (CountRose i j) (FileFailed at f g) text) is says in
    no_failed_path t May at i j f g line.failed no_input no_file line.path

-- ---- completeness

-- memory ran out, or the status is the known one
abbrev pub IsMemoryOr : Status → Status → Type 0
IsMemoryOr status known = (status ≡ Memory) ⊎ (status ≡ known)

same_stated : (verdict : Status) (text : List ℕ) → ¬ (verdict ≡ ReadFault) → (reply : Reply)
    → IsReplyOf verdict text reply
    → verdict ≡ reply.status
same_stated Accepted text read reply is = sym (ap (λ r. r.status) is)
same_stated Refused text read reply is = sym (ap (λ r. r.status) is)
same_stated NoFile text read reply is = sym (ap (λ r. r.status) is)
same_stated ReadFault text read reply is = absurd (read refl)
same_stated Usage text read reply is = absurd is
same_stated WriteFault text read reply is = absurd is
same_stated Memory text read reply is = absurd is

completes : (verdict status : Status) (text : List ℕ) → Ends verdict status → ¬ (status ≡ WriteFault)
    → ¬ (verdict ≡ ReadFault)
    → (reply : Reply) → IsReplyOf verdict text reply → IsMemoryOr status reply.status
completes verdict status text (inl same) written read reply is = inr (same ∙ same_stated verdict text read reply is)
completes verdict status text (inr failed) written read reply is = absurd (written failed.1)

pub complete : (words : List (List ℕ)) (t : TaskValue) (May : World → Type 0) (at : Option (List ℕ))
    (verdict status : Status) (text : List ℕ) (i j f g : ℕ) (O : Type 0)
    → task_of words ≡ Some t → IsTextOf verdict t May (CountRose i j) (FileFailed at f g) text
    → Ends verdict status
    → (status ≡ WriteFault → O)
    → Every May (λ world. ¬ CountRose i j → ¬ CountRose f g → ¬ O → IsMemoryOr status (answer words world).status)
complete words t May at verdict status text i j f g O read says ends unwritten =
    replied words t May (CountRose i j) (FileFailed at f g) verdict text
    (λ reply. ¬ CountRose i j → ¬ CountRose f g → ¬ O → IsMemoryOr status reply.status) read says
    (λ reply is no_input no_file written. completes verdict status text ends (λ w. written (unwritten w))
    (no_read_fault t May at verdict text i j f g no_input no_file says) reply is)

-- ---- other statuses

-- with another status than these two nothing is written, and the verdict's line is said
module _ {O E : Type 0} (written : O → Option (List ℕ)) (flushed : O → Option ℕ) (out : O)
    (said : E → Option (List ℕ)) (faults : E → ℕ) (err err' : E) where
  pub nothing_written : (status : Status) (text : List ℕ) → ¬ (status ≡ Accepted) → ¬ (status ≡ WriteFault)
      → Outputs status written flushed out out (λ x. x ≡ text)
  nothing_written Accepted text loud written = absurd (loud refl)
  nothing_written WriteFault text loud written = absurd (written refl)
  nothing_written Refused text loud written = refl
  nothing_written Usage text loud written = refl
  nothing_written NoFile text loud written = refl
  nothing_written ReadFault text loud written = refl
  nothing_written Memory text loud written = refl

  pub other_line : (status : Status) (text : List ℕ) → ¬ (status ≡ Accepted) → ¬ (status ≡ WriteFault)
      → WritesLine said faults err err' text → SaysWhy status said faults err err' (λ line. line ≡ said_line status text)
  other_line Accepted text loud unwritten line = absurd (loud refl)
  other_line WriteFault text loud unwritten line = absurd (unwritten refl)
  other_line Refused text loud unwritten line = record { text = text; is_one = refl; is_put = line }
  other_line Usage text loud unwritten line = record { text = text; is_one = refl; is_put = line }
  other_line NoFile text loud unwritten line = record { text = text; is_one = refl; is_put = line }
  other_line ReadFault text loud unwritten line = record { text = text; is_one = refl; is_put = line }
  other_line Memory text loud unwritten line = record { text = text; is_one = refl; is_put = line }

-- the status of a task's verdict is neither of these, and there is a command
pub no_write_fault : (t : TaskValue) (May : World → Type 0) (I : Type 0) (F : List ℕ → Type 0) (status : Status)
    (text : List ℕ) → IsTextOf status t May I F text → ¬ (status ≡ WriteFault)
no_write_fault t May I F status text says is = subst (λ (s : Status). IsTextOf s t May I F text) is says

no_usage : (t : TaskValue) (May : World → Type 0) (I : Type 0) (F : List ℕ → Type 0) (status : Status)
    (text : List ℕ) → IsTextOf status t May I F text → ¬ (status ≡ Usage)
no_usage t May I F status text says is = subst (λ (s : Status). IsTextOf s t May I F text) is says

pub used_right : (words : List (List ℕ)) (t : TaskValue) (May : World → Type 0) (I : Type 0) (F : List ℕ → Type 0)
    (verdict status : Status) (text : List ℕ) → task_of words ≡ Some t → IsTextOf verdict t May I F text
    → Ends verdict status → (status ≡ Usage) ↔ (command_of words ≡ None)
used_right words t May I F verdict status text read says ends = (never ends, is_command) where
  never : Ends verdict status → status ≡ Usage → command_of words ≡ None
  never (inl same) is = absurd (no_usage t May I F verdict text says (sym same ∙ is))
  never (inr failed) is = let other : WriteFault ≡ Usage = sym failed.1 ∙ is in cc

  is_command : command_of words ≡ None → status ≡ Usage
  is_command none = let other : Some t ≡ None = sym read ∙ ap (option_map task) none in cc

-- ---- all that is said of what was read

module _ {O E : Type 0} (written : O → Option (List ℕ)) (flushed : O → Option ℕ) (out out' : O)
    (said : E → Option (List ℕ)) (faults : E → ℕ) (err err' : E) (words : List (List ℕ)) where
  -- of a task with this verdict
  pub is_answered : (t : TaskValue) (May : World → Type 0) (at : Option (List ℕ)) (verdict status : Status)
      (text : List ℕ) (i j f g : ℕ) (M P : Type 0)
      → task_of words ≡ Some t → IsTextOf verdict t May (CountRose i j) (FileFailed at f g) text
      → (verdict ≡ NoFile → M) → Ends verdict status
      → Outputs status written flushed out out' (λ x. x ≡ text)
      → SaysWhy status said faults err err' (λ line. line ≡ said_line status text) → (status ≡ WriteFault → P)
      → IsAnswered words status (record {
        input = CountRose i j;
        file = FileFailed at f g;
        files = CountRose f g;
        missing = M;
        output = P;
      }) written flushed out out' said faults err err' May
  is_answered t May at verdict status text i j f g M P read says missing ends put line unwritten =
      let I : Type 0 = CountRose i j in
      let F : List ℕ → Type 0 = FileFailed at f g in
      let d : Failures = record { input = I; file = F; files = CountRose f g; missing = M; output = P } in
      record {
        reply =
            answers written flushed out out' said faults err err' words t May I F verdict status text read says ends
            put line;
        complete = complete words t May at verdict status text i j f g P read says ends unwritten;
        output =
            rw read (outputs written flushed out out' said faults err err' t May d verdict status text says ends put);
        error =
            rw read
            (why written flushed out out' said faults err err' t May d verdict status text says missing ends line
            unwritten);
      }

  -- where memory ran out
  pub memory_answered : (May : World → Type 0) (d : Failures) → out' ≡ out → WritesLine said faults err err' memory_line
      → IsAnswered words Memory d written flushed out out' said faults err err' May
  memory_answered May d same line = record {
    reply = λ world may. tt;
    complete = λ world may no_input no_files no_output. inl refl;
    output = same;
    error = record { text = memory_line; is_one = refl; is_put = line };
  }

  -- of words that are no command
  pub usage_answered : (May : World → Type 0) (d : Failures) → task_of words ≡ None → out' ≡ out
      → WritesLine said faults err err' usage_line
      → IsAnswered words Usage d written flushed out out' said faults err err' May
  usage_answered May d none same line = record {
    reply = λ world may. rw none (refl, line);
    complete = λ world may no_input no_files no_output. rw none (inr refl);
    output = same;
    error = record { text = usage_line; is_one = refl; is_put = line };
  }
