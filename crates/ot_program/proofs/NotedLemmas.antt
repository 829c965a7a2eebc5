-- The run of an input with its notation.
use Rattle.std.proofs.Common.{◌≡◌, ℕ, ◌<◌, ◌≤◌, List, [], ◌∷◌, ◌++◌, length, map, refl}
use Rattle.std.proofs.Common.{sym, ap, subst, ◌∙◌, inl, inr, ◌⊎◌, append-nil, arith}
use Rattle.std.specs.Prelude.{min, ◌+◌, Bool, true, false, if◌then◌else◌, nat_le, MatchBool, Option, Some}
use Rattle.std.specs.Prelude.{None, IfSome, IsSomeAnd, Result, Ok, Err, IfOk, IfErr, OnOk, string_bytes}
use Rattle.std.specs.Option.{option_map}
use Rattle.std.proofs.lemmas.Simd.{map-map}
use Rattle.std.proofs.Math.Nat.{min-le_left, min-le_right, le-min}
use Rattle.std.proofs.lemmas.Bool.{lt-leb}
use Rattle.ot_logic.specs.Names.{Name}
use Rattle.ot_logic.specs.Faults.{Fault}
use Rattle.ot_logic.specs.Trees.{Sequent, Definition}
use Rattle.ot_logic.specs.Lists.{IsMember}
use Rattle.ot_logic.specs.declared.limits.Limits.{Limits}
use Rattle.ot_logic.proofs.Members.{IsMember-left, IsMember-right}
use Rattle.ot_logic.specs.Limits.{summary_limit}
use Rattle.ot_io.specs.Causes.{CountRose}
use Rattle.ot_io.specs.Folder.{Folder}
use Rattle.ot_io.specs.Readings.{HasReadFiles}
use Rattle.ot_io.proofs.Keeping.{KeepsFiles-then}
use Rattle.ot_args.specs.Grammar.{is_theory}
use Rattle.ot_theory.specs.Theory.{TheoryText}
use Rattle.ot_kernel.specs.State.{State, theorem_at}
use Rattle.ot_machine.specs.Meaning.{IsRun}
use Rattle.ot_machine.specs.declared.machine.Export.{Export}
use Rattle.ot_machine.specs.declared.session.Session.{Session}
use Rattle.ot_link.specs.Stops.{Stop, InArticle, InTheory, InStructure, TooLarge, Missing, Linked, Setting}
use Rattle.ot_link.specs.Stops.{answered, go_on, ◌>>=◌}
use Rattle.ot_link.specs.Blocks.{Ran}
use Rattle.ot_link.specs.Link.{theory_at, link_theory}
use Rattle.ot_link.specs.Shown.{shown_by_all}
use Rattle.ot_link.specs.Answers.{Stops, Comes, HasCause as HasLinkCause}
use Rattle.ot_link.specs.declared.fault.LinkFault.{LinkFault}
use Rattle.ot_link.specs.declared.fault.LinkFault.TheVariants as faults
use Rattle.ot_link.proofs.Parts.{rest-next, stops-first}
use Rattle.ot_text.specs.Pages.{Appended}
use Rattle.ot_print.specs.Laws.{TextsNameOne}
use Rattle.ot_pretty.specs.Summary.{ReadBack, hidden_in_run, readable_summary, hidden_at, summary_at}
use Rattle.ot_program.specs.Texts.{large_line}
use Rattle.ot_program.specs.World.{World, Every, HasReadWorld, is_standard}
use Rattle.ot_program.specs.Tasks.{RunInput, ShowReadable, command}
use Rattle.ot_program.specs.Runs.{Noted, limits, theory_run, theory_shown, shown_at, noted, noted_at, run_at, opened_at}
use Rattle.ot_program.specs.Runs.{opened_noted, notation, assumptions_of, definitions_of, exports_of, stop_status}
use Rattle.ot_program.specs.Runs.{IsInputStop}
use Rattle.ot_program.specs.Command.{run_lists, IsProved, LeavesOther, LastInput, End, Finished, Stopped, Failed}
use Rattle.ot_program.specs.Command.{IsAnswer, HasCause}
use Rattle.ot_program.specs.ShowReadable.{readable, AreReadBack}
use Rattle.ot_program.specs.Answer.{FileFailed, ClosesFiles}
use Rattle.ot_program.specs.Endings.{ran_from, noted_from, noted_end, end_at, noted_of, noted_end_of, theory_noted}
use Rattle.ot_program.specs.Endings.{HasTaskCause, HasTaskEnd}
use Rattle.ot_program.specs.Verdicts.{IsSaid, IsStopVerdict, IsVerdictOf, IsPrinted}
use Rattle.ot_program.specs.declared.noted.NotedRun.{NotedRun}
use Rattle.ot_program.specs.declared.report.Verdict.{Verdict}
use Rattle.ot_program.specs.declared.status.Status.TheVariants.{Accepted, Refused}
use Rattle.ot_program.specs.declared.task.View.{View}
use Rattle.ot_program.proofs.RunLemmas.{assumptions_are, definitions_are, exports_are}
use Rattle.ot_program.proofs.LimitLemmas.{text_printed, text_too_large}
use Rattle.ot_program.proofs.InputLemmas.{theory_stop, no_standard, theory_is}
use Rattle.ot_program.proofs.TaskEnds.{task_ended, file_path}
use Rattle.ot_program.proofs.Worlds.{world_of_files}

-- ---- a theory file with what it shows

abbrev with_shown : TheoryText → Ran → Linked Noted
with_shown t r = answered (Ok (record { shown = shown_by_all t.tags; ran = r }))

-- what goes on with the file
abbrev pub noted_from_theory : Setting → List ℕ → TheoryText → Linked Noted
noted_from_theory e path t = link_theory e path t >>= with_shown t

module _ (e : Setting) (path : List ℕ) (t : TheoryText) where
  -- its run stops
  pub noted_stopped : (k : State) (err : LinkFault) → Stops k err (link_theory e path t)
      → Stops k err (noted_from_theory e path t)
  noted_stopped k err h = stops-first k (link_theory e path t) (with_shown t) err h

  -- it ends
  pub noted_ended : (ns : List Name) (r : Ran) → ns ≡ shown_by_all t.tags → (link_theory e path t).answer ≡ Ok r
      → (noted_from_theory e path t).answer ≡ Ok (record { shown = ns; ran = r })
  noted_ended ns r same h =
      (rest-next (link_theory e path t) (with_shown t) r h).answer
      ∙ ap (λ xs. Ok (record { shown = xs; ran = r })) (sym same)

-- under the limits of the program
pub program_limits : {X : Type 0} (k : State) (view : X → Noted) (r : Result X LinkFault) (packages path : List ℕ)
    (folder : Folder) (l : Limits) → l ≡ limits
    → Comes k view r (theory_noted (record { folder = folder; packages = packages; limits = l }) path)
    → Comes k view r (theory_noted (record { folder = folder; packages = packages; limits = limits }) path)
program_limits k view r packages path folder l same comes =
    subst (λ (m : Limits). Comes k view r
    (theory_noted (record { folder = folder; packages = packages; limits = m }) path)) same comes

-- ---- its end

abbrev names_shown : TheoryText → Linked (List Name)
names_shown t = answered (Ok (shown_by_all t.tags))

-- it is that of what the file shows and of its run, and needs what these do
module _ (ps : List (List ℕ)) (next : TheoryText → Linked Ran) where
  abbrev both : Result TheoryText Stop → Linked Noted
  both a = go_on ps a (λ t. next t >>= with_shown t)

  both_answer : (a : Result TheoryText Stop)
      → (both a).answer ≡ noted (go_on ps a names_shown).answer (go_on ps a next).answer
  both_answer (Err stop) = refl
  both_answer (Ok t) = by (next t).paths (next t).answer
    where
      by : (qs : List (List ℕ)) (b : Result Ran Stop)
          → (go_on qs b (with_shown t)).answer ≡ noted (Ok (shown_by_all t.tags)) b
      by qs (Ok r) = refl
      by qs (Err stop) = refl

  both_needed : (a : Result TheoryText Stop) (file : List ℕ) → IsMember file (both a).paths
      → IsMember file ((go_on ps a names_shown).paths ++ (go_on ps a next).paths)
  both_needed (Err stop) file m = IsMember-left file ps ps m
  both_needed (Ok t) file m =
      IsMember-right file (ps ++ []) (ps ++ (next t).paths) (by (next t).paths (next t).answer m)
    where
      by : (qs : List (List ℕ)) (b : Result Ran Stop) → IsMember file (ps ++ (go_on qs b (with_shown t)).paths)
          → IsMember file (ps ++ qs)
      by qs (Ok r) m = subst (λ xs. IsMember file (ps ++ xs)) (append-nil qs) m
      by qs (Err stop) m = m

-- a stop is answered
stop_answer : (k : State) (e : LinkFault) (l : Linked Noted) → Stops k e l
    → IfSome (option_map (noted_end []) (end_at k e)) (IsAnswer l.answer)
stop_answer k (faults.Article p line fault) l stops = rw stops.1 stops.2
stop_answer k (faults.Theory p line fault) l stops = stops
stop_answer k (faults.Structure p line fault) l stops = stops
stop_answer k (faults.TheoryTooLarge p) l stops = stops
stop_answer k (faults.NoFile p) l stops = stops
stop_answer k (faults.ReadFault p) l stops = tt
stop_answer k (faults.Memory memory) l stops = tt

noted_answer : (s : Session) (r : Result NotedRun LinkFault) (l : Linked Noted)
    → Comes s.kernel (noted_of s) r l → IfSome (noted_end_of s r) (IsAnswer l.answer)
noted_answer s (Ok run) l comes = comes
noted_answer s (Err e) l comes = stop_answer s.kernel e l comes

-- the stop of an article has its cause
article_cause : (P : Stop → Type 0) (Q : List ℕ → Type 0) (M : Type 0) (p : List ℕ) (line : ℕ)
    (o : Option (Fault Name)) → ((f : Fault Name) → P (InArticle p line f))
    → let e : Option (End Ran Stop) = option_map (λ f. Stopped (InArticle p line f)) o in
    IfSome (option_map (noted_end []) e) (HasCause stop_status P Q M)
article_cause P Q M p line None own = tt
article_cause P Q M p line (Some f) own = (own f, λ is. absurd cc)

module _ (packages path : List ℕ) (is : is_theory path ≡ true) where
  abbrev setting : Folder → Setting
  setting folder = record { folder = folder; packages = packages; limits = limits }

  theory_answer : (world : World) → (theory_noted (setting world.folder) path).answer ≡ noted_at packages path world
  unfolding theory_shown theory_run
  theory_answer world =
      let e = setting world.folder in
      both_answer (theory_at e path).paths (link_theory e path) (theory_at e path).answer
      ∙ (λ i. noted (if sym is i then theory_shown path world.folder else answered (Ok [])).answer
      (sym (theory_is packages path world is) i).answer)

  theory_opens : (folder : Folder) → (theory_shown path folder).paths ++ (theory_run packages path folder).paths
      ≡ opened_noted packages path folder
  theory_opens folder =
      λ i. (if sym is i then theory_shown path folder else answered (Ok [])).paths
      ++ (if sym (no_standard path is) i then [] else if sym is i then (theory_run packages path folder).paths
      else path ∷ [])

  theory_needed : (folder : Folder) (file : List ℕ) → IsMember file (theory_noted (setting folder) path).paths
      → IsMember file (opened_noted packages path folder)
  unfolding theory_shown theory_run
  theory_needed folder file m =
      let e = setting folder in
      subst (λ (files : List (List ℕ)). IsMember file files) (theory_opens folder)
      (both_needed (theory_at e path).paths (link_theory e path) (theory_at e path).answer file m)

  -- it has its cause
  module _ (May : World → Type 0) (I : Type 0) (at : Option (List ℕ)) (m m' f f' : ℕ) where
    abbrev HasOne : Option (End Noted Stop) → Type 0
    HasOne o = IfSome o (HasTaskCause (ShowReadable packages path) May I (FileFailed at f f') (CountRose m m'))

    stop_cause : (k : State) (e : LinkFault)
        → Every May (λ world. Stops k e (theory_noted (setting world.folder) path)) → HasLinkCause e m m' f f' at
        → HasOne (option_map (noted_end []) (end_at k e))
    stop_cause k (faults.Article p line fault) stops cause =
        article_cause (IsInputStop path) ((command (ShowReadable packages path)).IsFailed May I (FileFailed at f f'))
        (CountRose m m') (string_bytes p) line _ (λ g. theory_stop path (InArticle (string_bytes p) line g) is)
    stop_cause k (faults.Theory p line fault) stops cause =
        (theory_stop path (InTheory (string_bytes p) line fault) is, λ none. absurd cc)
    stop_cause k (faults.Structure p line fault) stops cause =
        (theory_stop path (InStructure (string_bytes p) line fault) is, λ none. absurd cc)
    stop_cause k (faults.TheoryTooLarge p) stops cause =
        (theory_stop path (TooLarge (string_bytes p)) is, λ none. absurd cc)
    stop_cause k (faults.NoFile p) stops cause = (theory_stop path (Missing (string_bytes p)) is, λ none. cause)
    stop_cause k (faults.ReadFault p) stops cause =
        file_path path _ I (FileFailed at f f') (string_bytes p) (no_standard path is)
        (λ world may. theory_needed world.folder (string_bytes p) (stops world may)) cause
    stop_cause k (faults.Memory memory) stops cause = tt

    noted_cause : (s : Session) (r : Result NotedRun LinkFault)
        → Every May (λ world. Comes s.kernel (noted_of s) r (theory_noted (setting world.folder) path))
        → IfErr r (λ e. HasLinkCause e m m' f f' at) → HasOne (noted_end_of s r)
    noted_cause s (Ok run) comes cause = tt
    noted_cause s (Err e) comes cause = stop_cause s.kernel e comes cause

  -- it ends as is stated of each world that may be
  pub theory_noted_ran : (told : Option Folder) (left : Option (List ℕ)) (s : Session) (r : Result NotedRun LinkFault)
      (I : Type 0) (at : Option (List ℕ)) (m m' f f' : ℕ)
      → HasReadFiles told (λ folder. Comes s.kernel (noted_of s) r (theory_noted (setting folder) path))
      → IfErr r (λ e. HasLinkCause e m m' f f' at)
      → HasReadWorld told left left (λ May. IfSome (noted_end_of s r)
      (λ e. HasTaskEnd (ShowReadable packages path) I (FileFailed at f f') (CountRose m m') e May))
  theory_noted_ran told left s r I at m m' f f' comes cause =
      world_of_files told left _ _ (λ May comes.
      task_ended (ShowReadable packages path) I (FileFailed at f f') (CountRose m m') May (noted_end_of s r)
      (λ world may. subst (λ a. IfSome (noted_end_of s r) (IsAnswer a)) (theory_answer world)
      (noted_answer s r (theory_noted (setting world.folder) path) (comes world may)))
      (noted_cause May I at m m' f f' s r comes cause)) comes

-- ---- failures

-- a device that failed later failed since
pub rose_later : (a b c : ℕ) → a ≤ b → CountRose b c → CountRose a c
rose_later a b c h r =
    let first : min (a + 1) 18446744073709551615 ≤ a + 1 = min-le_left (a + 1) 18446744073709551615 in
    let next : min (a + 1) 18446744073709551615 ≤ b + 1 = omega arith in
    let most : min (a + 1) 18446744073709551615 ≤ min (b + 1) 18446744073709551615 =
    le-min next (min-le_right (a + 1) 18446744073709551615) in
    let later : min (b + 1) 18446744073709551615 ≤ c = r in
    omega arith

pub file_later : (at : Option (List ℕ)) (a b c : ℕ) → a ≤ b → (file : List ℕ) → FileFailed at b c file
    → FileFailed at a c file
file_later at a b c h file failed = (rose_later a b c h failed.0, failed.1)

-- at one more of the files that are needed, or for a further reason
pub more_path : (b : Bool) (X P Q A B : Type 0) → (P → Q) → (A → B) → MatchBool b X (P × A) → MatchBool b X (Q × B)
more_path true X P Q A B needed failed is = is
more_path false X P Q A B needed failed is = (needed is.0, failed is.1)

-- ---- an article, which shows nothing

module _ (packages path : List ℕ) (view : View) (is : is_theory path ≡ false) (I : Type 0) (F : List ℕ → Type 0)
    (M : Type 0) (May : World → Type 0) where
  shows_none : (folder : Folder) → shown_at path folder ≡ answered (Ok [])
  shows_none folder = λ i. if is i then theory_shown path folder else answered (Ok [])

  same_answer : (world : World) (e : End Ran Stop) → IsAnswer (run_at packages path world).answer e
      → IsAnswer (noted_at packages path world) (noted_end [] e)
  same_answer world (Finished r) ended = λ i. noted (shows_none world.folder i).answer (ended i)
  same_answer world (Stopped s) ended = λ i. noted (shows_none world.folder i).answer (ended i)
  same_answer world (Failed p) ended = tt

  same_cause : (e : End Ran Stop) → HasTaskCause (RunInput packages path view) May I F M e
      → HasTaskCause (ShowReadable packages path) May I F M (noted_end [] e)
  same_cause (Finished r) cause = tt
  same_cause (Stopped s) cause = cause
  same_cause (Failed p) cause =
      more_path (is_standard path) ((p ≡ path) × I) _ _ (F p) (F p)
      (λ needed world may. IsMember-right p (shown_at path world.folder).paths
      (opened_at packages path world.folder) (needed world may)) (λ failed. failed) cause

  -- it ends as its run does
  pub article_noted : (o : Option (End Ran Stop))
      → IfSome o (λ e. HasTaskEnd (RunInput packages path view) I F M e May)
      → IfSome (option_map (noted_end []) o) (λ e. HasTaskEnd (ShowReadable packages path) I F M e May)
  article_noted None ended = tt
  article_noted (Some e) ended = record {
    end = λ world may. same_answer world e (ended.end world may);
    cause = same_cause e ended.cause;
  }

-- ---- its verdict

-- on a stop
stop_verdict_on : (packages path : List ℕ) (names : List Name) (v : Verdict) (o : Option (End Ran Stop))
    → IsSomeAnd o (IsStopVerdict v) → IsVerdictOf (ShowReadable packages path) (option_map (noted_end names) o) v
stop_verdict_on packages path names v None said = said
stop_verdict_on packages path names v (Some (Finished r)) said = absurd said
stop_verdict_on packages path names v (Some (Stopped s)) said = said
stop_verdict_on packages path names v (Some (Failed p)) said = said

pub stop_verdict : {E : Type 0} (packages path : List ℕ) (names : List Name) (a : Result Verdict E)
    (o : Option (End Ran Stop))
    → IfOk a (λ v. IsSomeAnd o (IsStopVerdict v))
    → IfOk a (IsVerdictOf (ShowReadable packages path) (option_map (noted_end names) o))
stop_verdict packages path names (Err e) o said = tt
stop_verdict packages path names (Ok v) o said = stop_verdict_on packages path names v o said

-- on a run that ended
pub end_verdict : {E : Type 0} (packages path : List ℕ) (n : Noted) (a : Result Verdict E)
    → IfOk a (IsPrinted summary_limit (readable n) (large_line path))
    → OnOk a (nat_le (length (readable n)) summary_limit ≡ true → AreReadBack n)
    → IsProved (run_lists n.ran) → TextsNameOne
    → IfOk a (IsVerdictOf (ShowReadable packages path) (Some (Finished n)))
end_verdict packages path n (Err e) said back proved one = tt
end_verdict packages path n (Ok v) said back proved one = record {
  ends = said;
  proved = proved;
  promised = back;
  one_text = one;
}

-- ---- its text

module _ (names : List Name) (s : Session) (seen : State) (es : List Export) (ths : List ℕ)
    (r : IsRun s) (same : seen ≡ s.kernel) (are : ths ≡ map (λ e. e.th) es) where
  exports : map (theorem_at seen) ths ≡ exports_of (ran_from s es)
  exports = (λ i. map (theorem_at (same i)) (are i)) ∙ map-map (theorem_at s.kernel) (λ e. e.th) es
      ∙ sym (exports_are s es)

  assumptions : seen.assumptions ≡ assumptions_of (ran_from s es)
  assumptions = ap (λ k. k.assumptions) same ∙ sym (assumptions_are s es r)

  definitions : seen.definitions ≡ definitions_of (ran_from s es)
  definitions = ap (λ k. k.definitions) same ∙ sym (definitions_are s es r)

  -- its notation is the stated one
  pub notation_is : hidden_at seen names ths ≡ notation (noted_from names s es)
  notation_is = λ i. hidden_in_run names (assumptions i) (exports i) (definitions i)

  text_is : summary_at seen (hidden_at seen names ths) ths ≡ readable (noted_from names s es)
  text_is = λ i. readable_summary (hidden_in_run names (assumptions i) (exports i) (definitions i)) (assumptions i)
      (exports i)

  pub read_back : ReadBack (hidden_at seen names ths) seen.assumptions (map (theorem_at seen) ths)
      → AreReadBack (noted_from names s es)
  read_back back =
      subst (λ (l : List (Sequent Name) × List (Sequent Name) × List (Definition Name)).
      ReadBack (hidden_in_run names l.0 l.1 l.2) l.0 l.1)
      (λ i. (assumptions i, exports i, definitions i)) back

  -- where it was printed it is accepted
  pub printed : (path : List ℕ) (max : ℕ) (old : List ℕ) (v : Verdict) → max ≡ summary_limit → old ≡ []
      → v.status ≡ Accepted
      → Appended (summary_at seen (hidden_at seen names ths) ths) max old v.text.items
      → IsPrinted summary_limit (readable (noted_from names s es)) (large_line path) v
  printed path max old v limit empty status put =
      text_printed (readable (noted_from names s es)) (large_line path) max old v limit
      empty status (subst (λ (t : List ℕ). Appended t max old v.text.items) text_is put)

  -- and where its bytes are past the limit it is refused
  pub refused : {E : Type 0} (path : List ℕ) (max : ℕ) (a : Result Verdict E) → max ≡ summary_limit
      → max < length (summary_at seen (hidden_at seen names ths) ths)
      → IfOk a (λ v. IsSaid v Refused (large_line path))
      → IfOk a (IsPrinted summary_limit (readable (noted_from names s es)) (large_line path))
  refused path max a limit past said =
      text_too_large (readable (noted_from names s es)) (large_line path)
      max a limit (subst (λ (t : List ℕ). max < length t) text_is past) said

  -- and then nothing is promised
  pub unpromised : {E : Type 0} (max : ℕ) (a : Result Verdict E) → max ≡ summary_limit
      → max < length (summary_at seen (hidden_at seen names ths) ths)
      → OnOk a (nat_le (length (readable (noted_from names s es))) summary_limit ≡ true
      → AreReadBack (noted_from names s es))
  unpromised max (Err e) limit past = tt
  unpromised max (Ok v) limit past =
      λ fit. absurd (not_both _ (subst (λ (t : List ℕ). max < length t) text_is past) fit) where
        not_both : (n : ℕ) → max < n → nat_le n summary_limit ≡ true → ⊥
        not_both n h fit =
            let k : nat_le n summary_limit ≡ false =
            lt-leb n summary_limit (omega arith) in
            let e : true ≡ false = sym fit ∙ k in cc

-- ---- the devices

-- a theory file leaves standard input alone, and any path may have been asked for last
pub theory_leaves : {F S : Type 0} (path : List ℕ) (f g : F) (i : S) → is_theory path ≡ true
    → LeavesOther path f g i i
theory_leaves path f g i theory = rw (no_standard path theory) refl

pub theory_last : {X : Type 0} (path : List ℕ) (o : Option X) (folder : Option Folder) (at : Option (List ℕ))
    → is_theory path ≡ true → IfSome o (λ _. LastInput path folder at)
theory_last path None folder at theory = tt
theory_last path (Some x) folder at theory = rw (no_standard path theory, theory) tt

pub leaves : {F S : Type 0} (path : List ℕ) (f g h : F) (i j : S) → (is_theory path ≡ true) ⊎ (g ≡ f)
    → LeavesOther path g h i j
    → LeavesOther path f h i j
leaves path f g h i j (inl theory) other = rw (no_standard path theory) (rw (no_standard path theory) at other)
leaves path f g h i j (inr same) other = subst (λ x. LeavesOther path x h i j) same other

closes : {F : Type 0} (left : F → Option (List ℕ)) (f g h : F) → (g ≡ f) ⊎ (left g ≡ Some [])
    → (h ≡ g) ⊎ (left h ≡ Some [])
    → (h ≡ f) ⊎ (left h ≡ Some [])
closes left f g h (inl a) (inl b) = inl (b ∙ a)
closes left f g h (inr a) (inl b) = inr (ap left b ∙ a)
closes left f g h first (inr b) = inr b

pub keeps : {F : Type 0} (folder : F → Option Folder) (faults misses : F → ℕ) (left : F → Option (List ℕ)) (f g h : F)
    → ClosesFiles folder faults misses left f g → ClosesFiles folder faults misses left g h
    → ClosesFiles folder faults misses left f h
keeps folder faults misses left f g h a b = record {
  keeps = KeepsFiles-then a.keeps b.keeps;
  closed = closes left f g h a.closed b.closed;
}
