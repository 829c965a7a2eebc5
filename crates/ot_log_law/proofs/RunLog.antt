-- The law of the log of a run.
use Rattle.std.specs.List.{All}
use Rattle.std.proofs.Common.{◌≡◌, ℕ, ◌≤◌, ◌<◌, ◌^◌, Bool, true, List, [], ◌∷◌, map}
use Rattle.std.proofs.Common.{length, take, Ok, refl, sym, ap, subst, ◌∙◌, inl, inr}
use Rattle.ot_logic.specs.Lists.{IsMember}
use Rattle.ot_logic.specs.Names.{Name}
use Rattle.ot_logic.specs.Naming.{names}
use Rattle.ot_logic.specs.Trees.{Sequent}
use Rattle.ot_logic.specs.Hol.{same_sequent}
use Rattle.ot_log_format.specs.State.{LogState, nothing_made}
use Rattle.ot_log_format.specs.Check.{Ends, check_log}
use Rattle.ot_trace.specs.Origins.{Origin, Define, Outcome}
use Rattle.ot_trace.specs.Reach.{IsReached, Root}
use Rattle.ot_written.specs.Needed.{needed_definitions}
use Rattle.ot_written.specs.Uses.{has_use}
use Rattle.ot_written.proofs.NeededDefinitions.{needed-reached, reached-needed}
use Rattle.ot_machine.specs.Objects.{list, term, theorem}
use Rattle.ot_machine.specs.States.{Export, Given, Made, RunState}
use Rattle.ot_machine.specs.Rows.{definitions_of}
use Rattle.ot_machine.specs.Values.{value, values, definition_of, defines}
use Rattle.ot_machine.specs.Lawful.{Fits, RestsOn, IsAxiom, IsLawfulRun, IsLawfulExport, AreApart, run_basis}
use Rattle.ot_machine.specs.Writable.{IsWritable}
use Rattle.ot_article.specs.Article.{needed_made}
use Rattle.ot_article.proofs.Operands.{given-of}
use Rattle.ot_article.proofs.KeptDefinitions.{made-origins}
use Rattle.ot_article.proofs.FromLawful.{are-writable, root-settled, export-roots, roots-exports}
use Rattle.ot_article.proofs.Rests.{define-of, at-of, reached-rests, taken-axiom}
use Rattle.ot_log_records.specs.Bytes.{bytes_of}
use Rattle.ot_log_records.proofs.Ending.{header-stands, stands-ends}
use Rattle.ot_verify.specs.Reading.{log_check}
use Rattle.ot_log_law.specs.Writing.{Written, nothing_written, write_definitions, write_results, log}
use Rattle.ot_print.specs.Laws.{IsSequentOf}
use Rattle.ot_log_law.specs.Checked.{origins_made, export_roots, run_log, IsNeeded, IsLogOf, RunLogLaw}
use Rattle.ot_log_law.proofs.Defining.{defining-of}
use Rattle.ot_log_law.proofs.Told.{header-told}
use Rattle.ot_log_law.proofs.Holds.{is_one, one-is, all-kept, Holds}
use Rattle.ot_log_law.proofs.WroteDefinitions.{Defined, definitions-defined}
use Rattle.ot_log_law.proofs.WroteDefinitions as made_log
use Rattle.ot_log_law.proofs.WroteResults as result_log
use Rattle.ot_log_law.proofs.WroteResults.{AreResults, CanResult, results-resulted}
use Rattle.ot_log_law.proofs.Free.{defining-plain, terms-free}
use Rattle.ot_log_law.proofs.AxiomsReached.{AxiomsReached, definitions-reached, results-reached}
use Rattle.ot_log_law.proofs.AllWritten.{IsPremised, IsGood, theorem-written}
use Rattle.ot_log_law.proofs.LogBytes.{bytes-read}
use Rattle.ot_logic.proofs.Members.{All-at_member, IsMember-map, IsMember-map_back}
use Rattle.ot_logic.proofs.Results.{bind-ok}

nothing-holds : Holds nothing_written nothing_made
nothing-holds = record {
  stands = header-stands;
  told = header-told IsWritable;
  proved = λ o k m. absurd m;
  only = λ r m. absurd m;
  all = λ o k q m a e. absurd m;
  apart = λ i j x y g h s. absurd (cc);
  closed = λ w os k m. absurd m;
}

theorems-of : (es : List Export)
    → map (λ e. e.theorem) (map (λ (e : Export). e.roots) es) ≡ map (λ (e : Export). e.roots.theorem) es
theorems-of [] = refl
theorems-of (e ∷ es) = ap (λ l. e.roots.theorem ∷ l) (theorems-of es)

module _ (r : RunState) (es : List Export) (lawful : IsLawfulRun IsWritable r)
    (exports : All (IsLawfulExport (run_basis IsWritable r)) es)
    (apart : AreApart (λ (e : Export). e.sequent) es) where
  abbrev roots : List (Origin Name)
  roots = export_roots es

  abbrev ds : List (Origin Name)
  ds = origins_made r

  abbrev found : List (Origin Name)
  found = needed_definitions is_one roots ds

  abbrev ms : List Made
  ms = needed_made is_one roots r.definitions

  abbrev axioms : List (Origin Name)
  axioms = map (λ (g : Given). g.origin) r.assumptions

  abbrev used : Origin Name → Bool
  used = has_use is_one roots ds

  abbrev E : List (Origin Name)
  E = map (λ (m : Made). m.origin) ms

  its : E ≡ found
  its = made-origins is_one one-is roots r.definitions

  lawful-of : (e : Export) → IsMember e es → IsLawfulExport (run_basis IsWritable r) e
  lawful-of e m = All-at_member (IsLawfulExport (run_basis IsWritable r)) es e exports m

  rooted : (o : Origin Name) → IsMember o roots → RestsOn (run_basis IsWritable r) o
  rooted =
      roots-exports (RestsOn (run_basis IsWritable r)) es
      (λ e m. let x = lawful-of e m in (x.proved.rests, x.listed.rests, x.stated.rests))

  rests : (o : Origin Name) → IsReached roots ds o → RestsOn (run_basis IsWritable r) o
  rests = reached-rests IsWritable r lawful roots rooted

  found-reached : (d : Origin Name) → IsMember d found → IsReached roots ds d
  found-reached d m = (needed-reached is_one one-is roots ds d m).1

  made-rests : (m : Made) → IsMember m ms → RestsOn (run_basis IsWritable r) m.origin
  made-rests m i =
      rests m.origin
      (found-reached m.origin (subst (IsMember m.origin) its (IsMember-map (λ (z : Made). z.origin) m ms i)))

  -- ---- what is written

  start : Defined axioms ds used nothing_written []
  start = record {
    now = nothing_made;
    holds = nothing-holds;
    made = tt;
    has = λ o t. absurd t.of;
    results = refl;
    premises = λ w os m. absurd m;
  }

  abbrev middle : Written
  middle = write_definitions E nothing_written

  defined : made_log.Goes axioms ds used nothing_written middle ms
  defined =
      definitions-defined axioms ds used ms [] nothing_written
      (are-writable is_one one-is IsWritable r lawful roots) made-rests start

  can : (e : Export) → IsMember e es → CanResult axioms ds used E ms e
  can e m =
      let x = lawful-of e m in
      record {
        value_is = x.proved.value_is;
        rests = x.proved.rests;
        settled =
            root-settled is_one one-is IsWritable r lawful roots e.roots.theorem
            (theorem e.sequent) x.proved (export-roots es e m).0;
      }

  abbrev last : Written
  last = write_results (map (λ (e : Export). e.roots.theorem) es) middle

  resulted : result_log.Goes axioms ds used E ms middle last es
  resulted = results-resulted axioms ds used E ms es es [] middle refl apart can
      (record {
        now = defined.defined.now;
        holds = defined.defined.holds;
        made = defined.defined.made;
        has = defined.defined.has;
        results = subst (λ l. AreResults l []) (sym defined.defined.results) tt;
        written = λ e m. absurd m;
      })

  abbrev now : LogState Name
  now = resulted.resulted.now

  holds : Holds last now
  holds = resulted.resulted.holds

  -- ---- assumptions

  reached : AxiomsReached roots ds last
  reached = results-reached roots ds (map (λ (e : Export). e.roots.theorem) es) middle
      (λ o m. let x = IsMember-map_back (λ (e : Export). e.roots.theorem) o es m in
      subst (IsReached roots ds) x.2 (Root x.0.roots.theorem (export-roots es x.0 x.1).0))
      (definitions-reached roots ds E nothing_written (λ d m. found-reached d (subst (IsMember d) its m))
      (λ o k m a. absurd m))

  only : (q : Sequent Name) → IsMember q now.assumptions → (g : Given) × IsNeeded r es g × IsSequentOf q g.sequent
  only q m =
      let a = holds.only q m in
      let at = reached a.origin a.number a.there a.is_axiom in
      let t = taken-axiom IsWritable r lawful roots rooted a.origin a.of at a.is_axiom a.value_is in (
        t.0,
        (t.1, subst (IsReached roots ds) (sym t.2) at),
        subst (λ z. same_sequent names q z ≡ true)
            (sym t.3) a.same,
      )

  premised : (d : Origin Name) → IsMember d found → IsPremised last d
  premised d m =
      let a = at-of IsWritable r lawful d (needed-reached is_one one-is roots ds d m).0 in
      let before = definitions_of (take a.place r.definitions) in
      let f = define-of before a.made.origin a.made.definition a.lawful_is.accepted in
      let is : d ≡ Define f.0 f.1 = sym a.origin_is ∙ f.2 in
      let accepted : definition_of before (Define f.0 f.1) ≡ Ok a.made.definition =
      ap (definition_of before) (sym f.2) ∙ a.lawful_is.accepted in
      let vs = bind-ok (values f.1) (defines f.0 before) a.made.definition accepted in
      let defining =
      defining-of f.0 before vs.0 a.made.definition (given-of f.0 before vs.0 a.made.definition vs.2) in
      record {
        word = f.0;
        operands = f.1;
        is = is;
        objects = vs.0;
        values_are = vs.1;
        plain = defining-plain f.0 before vs.0 a.made.definition defining;
        has =
            all-kept middle last f.1 resulted.kept
            (defined.defined.premises f.0 f.1
            (subst (IsMember (Define f.0 f.1)) (sym its) (subst (λ z. IsMember z found) is m)));
      }

  root-good : (o : Origin Name) → IsMember o roots → IsGood last o
  root-good = roots-exports (IsGood last) es (λ e m. let x = lawful-of e m in (
    (theorem e.sequent, x.proved.value_is, inr (e.sequent, refl), λ q f. resulted.resulted.written e m),
    (
      list x.objects,
      x.listed.value_is,
      inl (terms-free x.objects x.hyps x.are_terms),
      λ q f. absurd (let c = sym x.listed.value_is ∙ f in cc),
    ),
    (term x.concl, x.stated.value_is, inl tt, λ q f. absurd (let c = sym x.stated.value_is ∙ f in cc)),
  ))

  all : (g : Given) → IsNeeded r es g → (q : Sequent Name) × IsMember q now.assumptions × IsSequentOf q g.sequent
  all g (m, at) =
      let fits = All-at_member (λ (h : Given). Fits (run_basis IsWritable r) h.origin (theorem h.sequent))
      r.assumptions g lawful.assumptions m in
      let is_axiom : IsAxiom g.origin = All-at_member (λ (h : Given). IsAxiom h.origin) r.assumptions g lawful.axioms
      m in
      let made = subst (IsReached roots ds) is_axiom.1 at in
      let written = theorem-written last roots ds found holds.closed premised root-good
      (λ j d a. (rests (Outcome j d) a).0) (reached-needed is_one one-is roots ds) _ is_axiom.0 made in
      let has = written g.sequent (ap value (sym is_axiom.1) ∙ fits.value_is) in
      holds.all g.origin has.0 g.sequent
      (subst (λ z. IsMember (z, has.0) last.theorems) (sym is_axiom.1) has.1) is_axiom fits.value_is

  -- ---- the bytes

  whole : log found (map (λ e. e.theorem) (map (λ (e : Export). e.roots) es)) ≡ last
  whole = λ i. write_results (theorems-of es i) (write_definitions (sym its i) nothing_written)

  ends : (max : ℕ) → length (bytes_of last.log.tokens) ≤ max → max < 2 ^ 63 → log_check max (bytes_of last.log.tokens)
      ≡ Ends now
  ends max fits small =
      ap (check_log names) (bytes-read last.log.tokens max holds.told.tokens fits small)
      ∙ stands-ends last.log now holds.stands

pub run-log-law : RunLogLaw
run-log-law r es max lawful exports apart fits small =
    let x = resulted r es lawful exports apart in
    let same : run_log r es ≡ bytes_of (last r es lawful exports apart).log.tokens =
    ap (λ (w : Written). bytes_of w.log.tokens) (whole r es lawful exports apart) in
    subst (IsLogOf max r es) (sym same) (record {
      now = now r es lawful exports apart;
      ends = ends r es lawful exports apart max (subst (λ z. length z ≤ max) same fits) small;
      results = x.resulted.results;
      definitions = x.resulted.made;
      only = only r es lawful exports apart;
      all = all r es lawful exports apart;
      apart = (holds r es lawful exports apart).apart;
    })
