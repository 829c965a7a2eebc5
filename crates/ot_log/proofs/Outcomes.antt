-- The theorems of definitions, and their numbers.
use Rattle.std.specs.Prelude.{IfNone}
use Rattle.std.specs.List.{All}
use Rattle.std.proofs.Common.{◌≡◌, ◌≢◌, ℕ, suc, ◌<◌, List, [], ◌∷◌}
use Rattle.std.proofs.Common.{map, length, get_or, slice_get, Option, None}
use Rattle.std.proofs.Common.{Some, Ok, refl, sym, ap, subst, ◌∙◌, arith}
use Rattle.std.proofs.lemmas.List.{length-map}
use Rattle.ot_logic.specs.Names.{Name}
use Rattle.ot_logic.specs.Naming.{names, name_of}
use Rattle.ot_logic.specs.Hol.{theorems}
use Rattle.ot_logic.specs.Faults.{StackEmpty}
use Rattle.ot_logic.specs.Answers.{◌>>=◌, some_or}
use Rattle.ot_logic.specs.declared.command.Cmd.{Cmd}
use Rattle.ot_logic.proofs.Naming.{name_of-injective}
use Rattle.ot_logic.proofs.TableLemmas.{Extends-refl}
use Rattle.ot_log_rules.specs.Statements.{sequent_at, HasStatement}
use Rattle.ot_log_rules.specs.declared.statement.Statement.{Statement}
use Rattle.ot_trace.specs.Origins.{Origin, Origins, Define, Outcome, map_origin}
use Rattle.ot_trace.specs.Trace.{origin_at, origin_of as step_origin}
use Rattle.ot_trace.specs.declared.step.Step.{Step}
use Rattle.ot_trace.specs.declared.step.Step.TheVariants as step
use Rattle.ot_kernel.specs.State.{name_at}
use Rattle.ot_written.proofs.Renaming.{origin-injective}
use Rattle.ot_machine.specs.Objects.{theorem}
use Rattle.ot_machine.specs.Values.{value, values, definition_of, defines, theorem_of}
use Rattle.ot_machine.specs.Meaning.{origin_of}
use Rattle.ot_machine.specs.declared.session.Session.{Session}
use Rattle.ot_log_records.specs.Logged.{count_sequent}
use Rattle.ot_log_law.specs.Writing.{Written, mark, add_outcomes, outcomes, put_definition, write_all}
use Rattle.ot_log_law.specs.Writing.{write_definition}
use Rattle.ot_log_page.specs.Sheets.{Moves as SheetMoves}
use Rattle.ot_log_page.specs.declared.sheet.Sheet.{Sheet}
use Rattle.ot_log_values.specs.Steps.{Makes, origins_of}
use Rattle.ot_log_words.specs.Recording.{HasResult}
use Rattle.ot_log_words.specs.declared.words.Made.{Made}
use Rattle.ot_log.specs.Keeping.{AreTheorems, Holds, IsDefinable, IsNumbered}
use Rattle.ot_log.specs.Keeping.{IsWriter, Marks, Moves, PutsDefinition}
use Rattle.ot_log.specs.declared.writer.Writer.{Writer}
use Rattle.ot_log.proofs.Closed.{defined, step-origin}
use Rattle.ot_log.proofs.Placed.{naming-is, origin-here, number-other, marked-holds, marked-writer, writer-grown}
use Rattle.ot_article.proofs.Fewer.{definition-less}
use Rattle.ot_article.proofs.Operands.{given-of}
use Rattle.ot_log_law.proofs.Defining.{defining-of}
use Rattle.ot_log_law.proofs.Outcomes.{outcome-values, values-long}
use Rattle.ot_logic.proofs.Elements.{slice_get-map}
use Rattle.ot_logic.proofs.Results.{bind-ok, same_Ok, some_or-ok}

-- ---- what the theorems are

pub theorems-made : (s : Session) (old new : Writer) (w : Cmd) (id : ℕ) (ids : List ℕ) (qs : List Statement)
    → PutsDefinition s old new w ids qs → origin_of s id ≡ Define w (origins_of s ids)
    → AreTheorems new.nodes (origin_of s id) qs
theorems-made s old new w id ids qs p e j q at = record {
  is = λ v h.
      let os = origins_of s ids in
      let g : value (Outcome (suc j) (Define w os)) ≡ Ok v = ap (λ o. value (Outcome (suc j) o)) (sym e) ∙ h in
      let d = bind-ok (definition_of [] (Define w os)) (theorem_of (suc j)) v g in
      let defined : defines w [] p.objects ≡ Ok d.0 = sym (ap (λ r. r >>= defines w []) p.values_are) ∙ d.1 in
      let are : map (sequent_at new.nodes) qs ≡ theorems names d.0 = p.defined.theorems_are [] d.0 defined in
      let t = bind-ok (some_or StackEmpty (slice_get (theorems names d.0) j)) (λ q. Ok (theorem q)) v d.2 in
      let there : slice_get (theorems names d.0) j ≡ Some t.0 =
      some_or-ok StackEmpty (slice_get (theorems names d.0) j) t.0 t.1 in
      let here : slice_get (theorems names d.0) j ≡ Some (sequent_at new.nodes q) = ap (λ l. slice_get l j) (sym are)
      ∙ slice_get-map (sequent_at new.nodes) qs j q at in
      let same : Some t.0 ≡ Some (sequent_at new.nodes q) = sym there ∙ here in
      let one : t.0 ≡ sequent_at new.nodes q = cc in
      sym (same_Ok (theorem t.0) v t.2) ∙ ap theorem one;
}

-- ---- their numbers

module _ (s : Session) (num : IsNumbered s) (old : Writer) (b : Sheet) (w : IsWriter s old) where
  abbrev mid : Writer
  mid = record old { sheet = b }

  pub counted-writer : IsWriter s mid
  counted-writer = writer-grown s old mid w (Extends-refl old.nodes) w.known w.typings refl refl

  counted-holds : SheetMoves old.nodes old.sheet b count_sequent → (max : ℕ) (x : Written) → Holds s max old x
      → Holds s max mid (record x { log = count_sequent x.log })
  counted-holds m max x h = record { log = m max x.log h.log; numbers = h.numbers }

  -- the step of the theorem is of the trace
  pub outcome-marked : (new : Writer) (step : ℕ) (m : Made) (o : Origin Name)
      → SheetMoves old.nodes old.sheet b count_sequent
      → step < length s.trace → origin_of s step ≡ o → m.number ≡ old.sheet.sequents → Marks step m mid new
      → Moves s old new (add_outcomes (o ∷ []))
  outcome-marked new step m o c low e n k = λ max x h.
      let y : Written = record x { log = count_sequent x.log } in
      subst (Holds s max new) (λ i. mark (e i) ((n ∙ h.log.sequents) i) y)
      (marked-holds s num mid new counted-writer step m k low max y (counted-holds c max x h))

  pub outcome-writer : (new : Writer) (step : ℕ) (m : Made) (o : Origin Name) → step < length s.trace
      → origin_of s step ≡ o
      → Marks step m mid new → HasStatement old.nodes m.statement
      → Makes o (theorem (sequent_at old.nodes m.statement))
      → IsWriter s new
  outcome-writer new step m o low e k has makes =
      marked-writer s num mid new counted-writer step m k low has
      (subst (λ z. Makes z (theorem (sequent_at old.nodes m.statement))) (sym e) makes)

  -- it isn't
  pub outcome-unmarked : (o : Origin Name) → SheetMoves old.nodes old.sheet b count_sequent
      → ((i : ℕ) → i < length s.trace → origin_of s i ≢ o) → Moves s old mid (add_outcomes (o ∷ []))
  outcome-unmarked o c none = λ max x h. record {
    log = c max x.log h.log;
    numbers = λ i l. number-other (origin_of s i) o x.log.sequents x.theorems (none i l) ∙ h.numbers i l;
  }

-- an outcome whose step isn't found has no step
pub no-step : (s : Session) (num : IsNumbered s) (j id : ℕ) → id < length s.trace
    → ((i : ℕ) → slice_get s.trace i ≢ Some (Outcome j (origin_at s.trace id))) → (i : ℕ) → i < length s.trace
    → origin_of s i ≢ Outcome j (origin_of s id)
no-step s num j id low none i l e =
    let naming = name_of s.kernel.names in
    let same : map_origin naming (origin_at s.trace i)
    ≡ map_origin naming (Outcome j (origin_at s.trace id)) = naming-is s num i l ∙ e
    ∙ ap (Outcome j) (sym (naming-is s num id low)) in
    let one = origin-injective naming (name_of-injective s.kernel.names) (origin_at s.trace i)
    (Outcome j (origin_at s.trace id))
    same in
    none i (origin-here s.trace i l ∙ ap Some one)

-- definitions have values of their operands
pub definable-values : (o : Origin Name) (w : Cmd) (os : Origins Name) → o ≡ Define w os → IsDefinable o
    → HasResult (values os)
definable-values o w os e h =
    let d : definition_of h.0 (Define w os) ≡ Ok h.1.0 = ap (definition_of h.0) (sym e) ∙ h.1.1 in
    let (vs, p, k) = bind-ok (values os) _ h.1.0 d in (vs, p)

-- no other step is a definition
pub not-defined : (s : Session) (id : ℕ) (ts : List (Origin ℕ)) (r : Step) → ts ≡ s.trace
    → slice_get ts id ≡ Some (step_origin ts r)
    → ((w : Cmd) (ops : _) (syms : _) → r ≡ step.Define w ops syms → ⊥) → IsDefinable (origin_of s id) → ⊥
not-defined s id ts r a at lacks h = other r lacks (subst IsDefinable (step-origin s id r r here refl) h)
  where
    here : slice_get s.trace id ≡ Some (step_origin s.trace r)
    here = subst (λ ts. slice_get ts id ≡ Some (step_origin ts r)) a at

    other : (t : Step) → ((w : Cmd) (ops : _) (syms : _) → t ≡ step.Define w ops syms → ⊥)
        → IsDefinable (map_origin (name_at s.kernel) (step_origin s.trace t)) → ⊥
    other (step.Define w ops syms) lacks h = lacks w ops syms refl
    other (step.Number k) lacks h = let e = h.1.1 in cc
    other (step.Name n) lacks h = let e = h.1.1 in cc
    other (step.Make w ops) lacks h = let e = h.1.1 in cc
    other (step.Outcome j d) lacks h = let e = h.1.1 in cc

pub if-none : {X P Q : Type 0} (r : Option X) → (P → Q) → IfNone r P → IfNone r Q
if-none None f h = f h
if-none (Some x) f h = tt

-- five operands
pub five-are : (xs : List ℕ) (a b c d e : ℕ) → length xs ≡ 5 → a ≡ get_or xs 0 a → b ≡ get_or xs 1 b
    → c ≡ get_or xs 2 c
    → d ≡ get_or xs 3 d → e ≡ get_or xs 4 e → xs ≡ a ∷ b ∷ c ∷ d ∷ e ∷ []
five-are (p ∷ q ∷ r ∷ s ∷ t ∷ []) a b c d e n ha hb hc hd he = λ i. sym ha i ∷ sym hb i ∷ sym hc i ∷ sym hd i
    ∷ sym he i ∷ []
five-are (p ∷ q ∷ r ∷ s ∷ t ∷ u ∷ xs) a b c d e n ha hb hc hd he = absurd (omega arith)
five-are _ a b c d e n ha hb hc hd he = absurd (omega arith)

-- a definition behind its premise
pub define-moves : (s : Session) (a b c d : Writer) (w : Cmd) (id : ℕ) (is ids : List ℕ) (qs : List Statement)
    (outs : List (Origin Name)) → origin_of s id ≡ Define w (origins_of s ids) → is ≡ ids
    → Moves s a b (write_all (origins_of s is)) → PutsDefinition s b c w ids qs → All (λ i. i < length s.trace) ids
    → outcomes w (origin_of s id) ≡ outs → Moves s c d (add_outcomes outs)
    → Moves s a d (write_definition (origin_of s id))
define-moves s a b c d w id is ids qs outs e l first p inside o last = λ max x h.
    let os = origins_of s ids in
    let y = write_all os x in
    let begun = subst (λ l. Holds s max b (write_all (origins_of s l) x)) l (first max x h) in
    let done = last max (put_definition w os y) (defined s b c w ids qs p inside max y begun) in
    subst (λ o. Holds s max d (write_definition o x)) (sym e)
    (subst (λ l. Holds s max d (add_outcomes l (put_definition w os y))) (sym (ap (outcomes w) (sym e) ∙ o)) done)

-- how many theorems a definition has
pub outcomes-long : (s : Session) (old new : Writer) (w : Cmd) (ids : List ℕ) (qs : List Statement)
    → IsDefinable (Define w (origins_of s ids)) → PutsDefinition s old new w ids qs
    → length qs ≡ length (outcomes w (Define w (origins_of s ids)))
outcomes-long s old new w ids qs h p =
    let os = origins_of s ids in
    let vs = bind-ok (values os) (defines w h.0) h.1.0 h.1.1 in
    let alone = definition-less [] h.0 (λ z k. absurd k) (Define w os) h.1.0 h.1.1 in
    let defining = defining-of w h.0 vs.0 h.1.0 (given-of w h.0 vs.0 h.1.0 vs.2) in
    let have = outcome-values w os h.0 vs.0 h.1.0 defining alone in
    let same : p.objects ≡ vs.0 = same_Ok p.objects vs.0 (sym p.values_are ∙ vs.1) in
    let are = p.defined.theorems_are h.0 h.1.0 (ap (defines w h.0) same ∙ vs.2) in
    sym (length-map qs (sequent_at new.nodes)) ∙ ap length are
    ∙ sym (values-long (outcomes w (Define w os)) (theorems names h.1.0) have)
