-- What the stated run of a theory file leaves is lawful, from block to block.
use Rattle.std.specs.Prelude.{◌==◌, ◌++◌, Option, Some, None, Result, Ok, Err, IfOk, flat_map, slice_get}
use Rattle.std.specs.Prelude.{codes, slice_index_or, if◌then◌else◌}
use Rattle.std.specs.List.{All, list_any}
use Rattle.std.specs.Str.{bytes_eq}
use Rattle.std.proofs.Common.{ℕ, zero, suc, List, [], ◌∷◌, map, Bool, true, false}
use Rattle.std.proofs.lemmas.List.Elements.{All-nil, All-append}
use Rattle.ot_scan.specs.Lines.{Lines, Finished, Broken, Next, lines_of}
use Rattle.ot_theory.specs.Theory.{BlockText, TheoryText}
use Rattle.ot_blocks.specs.Structure.{source_of, block_places, plan}
use Rattle.ot_blocks.specs.Paths.{article_path, package_path}
use Rattle.ot_machine.specs.States.{Export, RunState, State, Context, fresh_article, fresh_run, no_context}
use Rattle.ot_machine.specs.Run as articles
use Rattle.ot_machine.specs.Run.{Outcome, Ended, Stopped}
use Rattle.ot_machine.specs.Lawful.{IsLarger, IsLawfulExport, IsLawfulRun, GivenFits, Keeps}
use Rattle.ot_machine.specs.Lawful.{AreLawfulGivens, IsNaming, run_basis}
use Rattle.ot_machine.specs.LawfulLaws.{AreNamed, left}
use Rattle.ot_machine.proofs.Growing.{same-basis, larger-then}
use Rattle.ot_machine.proofs.NamedAll.{all-named}
use Rattle.ot_machine.proofs.RunLawful.{fresh-lawful, run-lawful, lawful-stays}
use Rattle.ot_blocks.specs.declared.fault.StructureFault.TheVariants.{PackageCycle, PackageDepth}
use Rattle.ot_link.specs.Stops.{Stop, InStructure, Linked, answered, go_on, ◌>>=◌, Setting, file_at}
use Rattle.ot_link.specs.Planned.{Planned, in_structure}
use Rattle.ot_link.specs.Blocks.{Ran, Opener, Source, FromArticle, FromPackage, FromImports, article_end}
use Rattle.ot_link.specs.Blocks.{context_in, run_article, run_source, source_at, run_block, given_by}
use Rattle.ot_link.specs.Link.{Done, none_done, with_done, imported, run_at, run_blocks, exports_at}
use Rattle.ot_link.specs.Link.{run_planned, theory_at, run_theory, run_file, opener, link}
use Rattle.ot_link.specs.Laws.{IsAnyName, IsLawfulRan, EndsAreLawful}
use Rattle.ot_link.proofs.Lawful.{given-lawful, once-all}

-- ---- an answer and what goes on from it

bind : {A B : Type 0} (l : Linked A) (f : A → Linked B) (P : A → Type 0) (Q : B → Type 0) → IfOk l.answer P
    → ((x : A) → P x → IfOk (f x).answer Q) → IfOk (l >>= f).answer Q
bind {A} {B} l f P Q p next = by l.answer p
  where
    by : (r : Result A Stop) → IfOk r P → IfOk (go_on l.paths r f).answer Q
    by (Ok x) p = next x p
    by (Err stop) p = tt

bind-any : {A B : Type 0} (l : Linked A) (f : A → Linked B) (Q : B → Type 0) → ((x : A) → IfOk (f x).answer Q)
    → IfOk (l >>= f).answer Q
bind-any {A} {B} l f Q next = by l.answer
  where
    by : (r : Result A Stop) → IfOk (go_on l.paths r f).answer Q
    by (Ok x) = next x
    by (Err stop) = tt

more : {A E : Type 0} (r : Result A E) (P Q : A → Type 0) → IfOk r P → ((x : A) → P x → Q x) → IfOk r Q
more (Ok x) P Q p f = f x p
more (Err e) P Q p f = tt

-- ---- names are free

any-lines : (lines : Lines) → AreNamed IsAnyName lines
any-lines Finished = tt
any-lines (Broken number fault) = tt
any-lines (Next number text lines) = ((λ n e. tt), any-lines lines)

any-naming : (c : Context) → IsNaming IsAnyName c
any-naming c = record { constants = λ n u. tt; type_ops = λ n u. tt }

-- ---- what goes on from a lawful run

abbrev AreLawful : RunState → List Export → Type 0
AreLawful r = All (IsLawfulExport (run_basis IsAnyName r))

-- a lawful run, over which is lawful what was so over the one before, and exports that are lawful over it
record Leaves (r : RunState) (ran : Ran) : Type 0 where
  run : IsLawfulRun IsAnyName ran.run
  larger : IsLarger (run_basis IsAnyName r) (run_basis IsAnyName ran.run)
  exports : AreLawful ran.run ran.exports

-- from a lawful run and theorems that are lawful over it
record IsReady (c : Context) (r : RunState) : Type 0 where
  run : IsLawfulRun IsAnyName r
  theorems : AreLawfulGivens IsAnyName r c.theorems

abbrev RunLeaves : (Context → RunState → Linked Ran) → Type 0
RunLeaves f = (c : Context) (r : RunState) → IsReady c r → IfOk (f c r).answer (Leaves r)

abbrev OpenerLeaves : Opener → Type 0
OpenerLeaves opener = (line : ℕ) (full : List ℕ) → RunLeaves (opener line full)

-- the run stays as it is
stays : (r : RunState) (es : List Export) → IsLawfulRun IsAnyName r → AreLawful r es
    → Leaves r (record { exports = es; run = r })
stays r es lawful exports =
    record { run = lawful; larger = same-basis (run_basis IsAnyName r); exports = exports }

ready-more : (c : Context) (r q : RunState) → IsLawfulRun IsAnyName q
    → IsLarger (run_basis IsAnyName r) (run_basis IsAnyName q) → IsReady c r → IsReady c q
ready-more c r q lawful larger ready =
    record { run = lawful; theorems = (lawful-stays IsAnyName r q larger).0 c.theorems ready.theorems }

-- ---- an article

article-leaves : (path : List ℕ) (lines : Lines) (c : Context) (r : RunState) → IsReady c r
    → IfOk (article_end path (articles.run c lines (record { article = fresh_article; run = r }))) (Leaves r)
article-leaves path lines c r ready =
    by (articles.run c lines start)
    (run-lawful IsAnyName all-named c lines start (any-naming c) (any-lines lines) ready.theorems
    ((fresh-lawful IsAnyName).1 r ready.run))
  where
    start : State
    start = record { article = fresh_article; run = r }

    by : (o : Outcome) → Keeps IsAnyName start (left o) → IfOk (article_end path o) (Leaves r)
    by (Ended s) k = record { run = k.0.run; larger = k.1; exports = k.0.article.exports }
    by (Stopped number fault s) k = tt

file-leaves : (e : Setting) (path : List ℕ) → RunLeaves (run_article e path)
file-leaves e path c r ready =
    bind-any (file_at e path)
    (λ bytes. answered (article_end path
    (articles.run c (lines_of e.limits.article_bytes bytes) (record { article = fresh_article; run = r }))))
    (Leaves r) (λ bytes. article-leaves path (lines_of e.limits.article_bytes bytes) c r ready)

-- ---- blocks

module _ (e : Setting) (opener : Opener) (opens : OpenerLeaves opener) (path : List ℕ) where
  source-leaves : (imports : List Export) (s : Source) (c : Context) (r : RunState) → IsReady c r
      → AreLawful r imports → IfOk (run_source e opener path imports s c r).answer (Leaves r)
  source-leaves imports (FromArticle value) c r ready lawful = file-leaves e (article_path path value) c r ready
  source-leaves imports (FromPackage line full) c r ready lawful = opens line full c r ready
  source-leaves imports FromImports c r ready lawful =
      let P = IsLawfulExport (run_basis IsAnyName r) in
      stays r _ ready.run (once-all P [] imports (All-nil P) lawful)

  block-leaves : (outer : Context) (b : BlockText) (imports : List Export) (r : RunState) → IsReady outer r
      → AreLawful r imports → IfOk (run_block e opener path outer b imports r).answer (Leaves r)
  block-leaves outer b imports r ready lawful =
      source-leaves imports (source_at (source_of b)) (context_in outer b.statements imports) r
      (record {
        run = ready.run;
        theorems = All-append (GivenFits (run_basis IsAnyName r)) (map given_by imports) outer.theorems
            (given-lawful (run_basis IsAnyName r) imports lawful) ready.theorems;
      }) lawful

  at-leaves : (outer : Context) (imports : List Export) (o : Option BlockText) (r : RunState) → IsReady outer r
      → AreLawful r imports → IfOk (run_at e opener path outer imports o r).answer (Leaves r)
  at-leaves outer imports None r ready lawful =
      stays r [] ready.run (All-nil (IsLawfulExport (run_basis IsAnyName r)))
  at-leaves outer imports (Some b) r ready lawful = block-leaves outer b imports r ready lawful

  -- the exports of the blocks that have run are lawful
  abbrev AreDone : RunState → Done → Type 0
  AreDone r done = (b : ℕ) → AreLawful r (done b)

  imports-lawful : (r : RunState) (done : Done) → AreDone r done → (places : List ℕ)
      → AreLawful r (flat_map done places)
  imports-lawful r done lawful [] = All-nil (IsLawfulExport (run_basis IsAnyName r))
  imports-lawful r done lawful (b ∷ places) =
      All-append (IsLawfulExport (run_basis IsAnyName r)) (done b) (flat_map done places) (lawful b)
      (imports-lawful r done lawful places)

  done-more : (r : RunState) (done : Done) (b : ℕ) (ran : Ran) → AreDone r done → Leaves r ran
      → AreDone ran.run (with_done done b ran.exports)
  done-more r done b ran lawful k c = by (b == c)
    where
      by : (x : Bool) → AreLawful ran.run (if x then ran.exports else done c)
      by true = k.exports
      by false = (lawful-stays IsAnyName r ran.run k.larger).1 (done c) (lawful c)

  record LeavesDone (r : RunState) (ended : Done × RunState) : Type 0 where
    run : IsLawfulRun IsAnyName ended.1
    larger : IsLarger (run_basis IsAnyName r) (run_basis IsAnyName ended.1)
    done : AreDone ended.1 ended.0

  blocks-leave : (outer : Context) (f : Planned) (bs : List ℕ) (done : Done) (r : RunState) → IsReady outer r
      → AreDone r done → IfOk (run_blocks e opener path outer f bs done r).answer (LeavesDone r)
  blocks-leave outer f [] done r ready lawful =
      record { run = ready.run; larger = same-basis (run_basis IsAnyName r); done = lawful }
  blocks-leave outer f (b ∷ bs) done r ready lawful =
      bind (run_at e opener path outer (imported f.plan.imports done b) (slice_get f.blocks b) r)
      (λ ran. run_blocks e opener path outer f bs (with_done done b ran.exports) ran.run) (Leaves r) (LeavesDone r)
      (at-leaves outer (imported f.plan.imports done b) (slice_get f.blocks b) r ready
      (imports-lawful r done lawful (slice_index_or f.plan.imports b [])))
      (λ ran k. more (run_blocks e opener path outer f bs (with_done done b ran.exports) ran.run).answer
      (LeavesDone ran.run) (LeavesDone r)
      (blocks-leave outer f bs (with_done done b ran.exports) ran.run
      (ready-more outer r ran.run k.run k.larger ready) (done-more r done b ran lawful k))
      (λ ended h. record {
        run = h.run;
        larger = larger-then (run_basis IsAnyName r) (run_basis IsAnyName ran.run) (run_basis IsAnyName ended.1)
            k.larger h.larger;
        done = h.done;
      }))

  place-lawful : (r : RunState) (done : Done) (place : Option ℕ) → AreDone r done → AreLawful r (exports_at done place)
  place-lawful r done None lawful = All-nil (IsLawfulExport (run_basis IsAnyName r))
  place-lawful r done (Some b) lawful = lawful b

  plan-leaves : (f : Planned) (outer : Context) (r : RunState) → IsReady outer r
      → IfOk (run_planned e opener path outer r f).answer (Leaves r)
  plan-leaves f outer r ready =
      bind (run_blocks e opener path outer f f.plan.order none_done r)
      (λ ended. answered (Ok (record { exports = exports_at ended.0 (block_places f.blocks (codes "main")); run = ended.1 })))
      (LeavesDone r) (Leaves r)
      (blocks-leave outer f f.plan.order none_done r ready
      (λ b. All-nil (IsLawfulExport (run_basis IsAnyName r))))
      (λ ended h. record {
        run = h.run;
        larger = h.larger;
        exports = place-lawful ended.1 ended.0 (block_places f.blocks (codes "main")) h.done;
      })

  -- ---- a theory file

  read-leaves : (t : TheoryText) → RunLeaves (λ outer r. run_theory e opener path outer r t)
  read-leaves t outer r ready =
      bind-any (answered (in_structure path (plan t.blocks)))
      (λ p. run_planned e opener path outer r (record { blocks = t.blocks; plan = p })) (Leaves r)
      (λ p. plan-leaves (record { blocks = t.blocks; plan = p }) outer r ready)

  theory-leaves : RunLeaves (run_file e opener path)
  theory-leaves outer r ready =
      bind-any (theory_at e path) (run_theory e opener path outer r) (Leaves r) (λ t. read-leaves t outer r ready)

-- ---- packages

unless-open : (r : RunState) (b : Bool) (stop : Stop) (inside : Linked Ran) → IfOk inside.answer (Leaves r)
    → IfOk (if b then answered (Err stop) else inside).answer (Leaves r)
unless-open r true stop inside h = tt
unless-open r false stop inside h = h

opens : (left : ℕ) (e : Setting) (chain : List (List ℕ)) (path : List ℕ) → OpenerLeaves (opener left e chain path)
opens zero e chain path line full c r ready =
    unless-open r (list_any (bytes_eq full) chain) (InStructure path line PackageCycle)
    (answered (Err (InStructure path line PackageDepth))) tt
opens (suc left) e chain path line full c r ready =
    let inner = package_path e.packages full in
    unless-open r (list_any (bytes_eq full) chain) (InStructure path line PackageCycle)
    (run_file e (opener left e (chain ++ full ∷ []) inner) inner c r)
    (theory-leaves e (opener left e (chain ++ full ∷ []) inner) (opens left e (chain ++ full ∷ []) inner) inner c r
    ready)

-- ---- the law

fresh-ready : IsReady no_context fresh_run
fresh-ready = record {
  run = (fresh-lawful IsAnyName).0;
  theorems = All-nil (GivenFits (run_basis IsAnyName fresh_run));
}

leaves-lawful : (ran : Ran) → Leaves fresh_run ran → IsLawfulRan ran
leaves-lawful ran h = record { run = h.run; exports = h.exports }

pub ends_are_lawful : EndsAreLawful
ends_are_lawful = record {
  articles = λ path lines. more
      (article_end path (articles.run no_context lines (record { article = fresh_article; run = fresh_run })))
      (Leaves fresh_run) IsLawfulRan (article-leaves path lines no_context fresh_run fresh-ready) leaves-lawful;
  theories = λ e path. more (link e path).answer (Leaves fresh_run) IsLawfulRan
      (theory-leaves e (opener e.limits.package_depth e [] path) (opens e.limits.package_depth e [] path) path
      no_context fresh_run fresh-ready) leaves-lawful;
}
