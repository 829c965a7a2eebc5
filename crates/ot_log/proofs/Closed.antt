-- The records of a theorem whose operands are written, and of definitions.
use Rattle.std.specs.Prelude.{◌-◌, pos}
use Rattle.std.specs.List.{All}
use Rattle.std.proofs.Common.{◌≡◌, ℕ, ◌<◌, List, [], ◌∷◌, ◌++◌, length}
use Rattle.std.proofs.Common.{slice_get, slice_index_or, Some, refl, sym}
use Rattle.std.proofs.Common.{ap, subst, ◌∙◌, arith}
use Rattle.std.proofs.lemmas.Option.{get_or_from_slice_get}
use Rattle.std.proofs.lemmas.List.Elements.{All-head, All-tail}
use Rattle.ot_logic.specs.declared.command.Cmd.{Cmd}
use Rattle.ot_kernel.specs.State.{name_at}
use Rattle.ot_trace.specs.Origins.{Origin, Number, Make, Define}
use Rattle.ot_trace.specs.Origins.{MoreOrigins, map_origin, map_origins}
use Rattle.ot_trace.specs.Trace.{IsBelow, origin_at, origins_at, origin_of as step_origin}
use Rattle.ot_trace.specs.declared.step.Step.{Step}
use Rattle.ot_trace.specs.declared.step.Step.TheVariants as step
use Rattle.ot_machine.specs.Values.{value, values, applied}
use Rattle.ot_machine.specs.Meaning.{origin_of}
use Rattle.ot_machine.specs.declared.session.Session.{Session}
use Rattle.ot_log_records.specs.Logged.{write_entry, write_sequents}
use Rattle.ot_log.specs.declared.writer.Place.{Place}
use Rattle.ot_log_law.specs.Derived.{theorem_entries, definition_entries, read}
use Rattle.ot_log_law.specs.Writing.{Written, listed, number_of, numbers_of, mark}
use Rattle.ot_log_law.specs.Writing.{put_theorem, put_definition, put_result}
use Rattle.ot_log_law.specs.Writing.{result_entry, write, write_entries}
use Rattle.ot_log_page.specs.Sheets.{Shows, Moves as SheetMoves}
use Rattle.ot_log_page.specs.declared.sheet.Sheet.{Sheet}
use Rattle.ot_log_rules.specs.declared.statement.Statement.{Statement}
use Rattle.ot_log_values.specs.Steps.{origins_of}
use Rattle.ot_log_words.specs.declared.words.Made.{Made}
use Rattle.ot_log.specs.Keeping.{Holds, IsNumbered, IsWriter, Marks, Moves}
use Rattle.ot_log.specs.Keeping.{Puts, PutsDefinition, number_in, number_at}
use Rattle.ot_log.specs.Keeping.{numbers_at}
use Rattle.ot_log.specs.Working.{close}
use Rattle.ot_log.specs.declared.writer.Writer.{Writer}
use Rattle.ot_logic.specs.Answers.{◌>>=◌}
use Rattle.ot_machine.specs.Makers.{maker}
use Rattle.ot_log.proofs.Placed.{marked-holds, marked-writer}

-- ---- the origins of steps

pub origins-are : (s : Session) (is : List ℕ) → map_origins (name_at s.kernel) (origins_at s.trace is)
    ≡ origins_of s is
origins-are s [] = refl
origins-are s (i ∷ is) = ap (MoreOrigins (origin_of s i)) (origins-are s is)

pub step-origin : (s : Session) (id : ℕ) (r t : Step) → slice_get s.trace id ≡ Some (step_origin s.trace r) → r ≡ t
    → origin_of s id ≡ map_origin (name_at s.kernel) (step_origin s.trace t)
step-origin s id r t at e = ap (map_origin (name_at s.kernel))
    (get_or_from_slice_get s.trace id (step_origin s.trace r) (Number (pos 0)) at ∙ ap (step_origin s.trace) e)

each-lower : (is : List ℕ) (n id : ℕ) → All (λ i. i < id) is → id < n → All (λ i. i < n) is
each-lower is n id h low j d l = let g : slice_index_or is j d < id = h j d l in omega arith

-- by the word and the operands that are read
pub made-origin : (s : Session) (id : ℕ) (ts : List (Origin ℕ)) (r : Step) (w : Cmd) (ops : _) (is : List ℕ)
    → ts ≡ s.trace
    → slice_get ts id ≡ Some (step_origin ts r) → r ≡ step.Make w ops → is ≡ ops
    → origin_of s id ≡ Make w (origins_of s is)
made-origin s id ts r w ops is t at e l =
    step-origin s id r (step.Make w ops) (subst (λ ts. slice_get ts id ≡ Some (step_origin ts r)) t at) e
    ∙ ap (Make w) (origins-are s ops ∙ ap (origins_of s) (sym l))

pub defined-origin : (s : Session) (id : ℕ) (ts : List (Origin ℕ)) (r : Step) (w : Cmd) (ops : _) (syms : _)
    (is : List ℕ)
    → ts ≡ s.trace → slice_get ts id ≡ Some (step_origin ts r) → r ≡ step.Define w ops syms → is ≡ ops.value.items
    → origin_of s id ≡ Define w (origins_of s is)
defined-origin s id ts r w ops syms is t at e l =
    step-origin s id r (step.Define w ops syms) (subst (λ ts. slice_get ts id ≡ Some (step_origin ts r)) t at) e
    ∙ ap (Define w) (origins-are s ops.value.items ∙ ap (origins_of s) (sym l))

pub made-numbered : (s : Session) (id : ℕ) (ts : List (Origin ℕ)) (r : Step) (w : Cmd) (ops : _) (is : List ℕ)
    → ts ≡ s.trace
    → slice_get ts id ≡ Some (step_origin ts r) → r ≡ step.Make w ops → is ≡ ops
    → origin_at s.trace id ≡ Make w (origins_at s.trace is)
made-numbered s id ts r w ops is t at e l =
    get_or_from_slice_get s.trace id (step_origin s.trace r) (Number (pos 0))
    (subst (λ ts. slice_get ts id ≡ Some (step_origin ts r)) t at) ∙ ap (step_origin s.trace) e
    ∙ ap (λ l. Make w (origins_at s.trace l)) (sym l)

-- a step's operands are of the trace
pub made-inside : (n id : ℕ) (r : Step) (w : Cmd) (ops : _) (is : List ℕ) → IsBelow id r → r ≡ step.Make w ops
    → is ≡ ops
    → id < n → All (λ i. i < n) is
made-inside n id r w ops is below e l low = subst (All (λ i. i < n)) (sym l)
    (each-lower ops n id (subst (IsBelow id) e below) low)

pub defined-inside : (n id : ℕ) (r : Step) (w : Cmd) (ops : _) (syms : _) (is : List ℕ) → IsBelow id r
    → r ≡ step.Define w ops syms → is ≡ ops.value.items → id < n → All (λ i. i < n) is
defined-inside n id r w ops syms is below e l low =
    subst (All (λ i. i < n)) (sym l) (each-lower ops.value.items n id (subst (IsBelow id) e below).0 low)

-- ---- the numbers of operands

pub numbers-agree : (s : Session) (max : ℕ) (w : Writer) (x : Written) (is : List ℕ) → Holds s max w x
    → All (λ i. i < length s.trace) is → numbers_of (origins_of s is) x.theorems ≡ numbers_at w.places.items is
numbers-agree s max w x [] h a = refl
numbers-agree s max w x (i ∷ is) h a =
    let here = ap listed (h.numbers i (All-head (λ i. i < length s.trace) i is a)) in
    let rest = numbers-agree s max w x is h (All-tail (λ i. i < length s.trace) i is a) in
    λ k. here k ++ rest k

-- ---- a theorem

module _ (s : Session) (num : IsNumbered s) (old mid new : Writer) (w : Cmd) (ids : List ℕ) (m : Made)
    (p : Puts s old mid w ids m) (inside : All (λ i. i < length s.trace) ids) where
  closed-one : (id : ℕ) → id < length s.trace → origin_of s id ≡ Make w (origins_of s ids) → Marks id m mid new
      → (max : ℕ) (x : Written) → Holds s max old x → Holds s max new (put_theorem w (origins_of s ids) x)
  closed-one id low e k max x h =
      let os = origins_of s ids in
      let is = numbers_at old.places.items ids in
      let es = theorem_entries x.log.sequents w p.objects is in
      let added = p.records.adds max x.log h.log in
      let y : Written = record x { log = write_sequents es x.log } in
      let holds : Holds s max mid y = record {
        log = added.0;
        numbers = λ i l. h.numbers i l ∙ ap (λ ps. number_at ps i) (sym p.places);
      } in
      let marked = marked-holds s num mid new p.writer id m k low max y holds in
      let reads : read (λ vs. theorem_entries x.log.sequents w vs (numbers_of os x.theorems)) (values os) ≡ es =
      ap (read (λ vs. theorem_entries x.log.sequents w vs (numbers_of os x.theorems))) p.values_are
      ∙ ap (theorem_entries x.log.sequents w p.objects) (numbers-agree s max old x ids h inside) in
      subst (Holds s max new) (ap (λ o. mark o m.number y) e ∙ ap (λ n. mark (Make w os) n y) added.1
      ∙ ap (λ es. mark (Make w os) ((write_sequents es x.log).sequents - 1)
      (record x { log = write_sequents es x.log }))
      (sym reads)) marked

  pub closed : (id : ℕ) → id < length s.trace → origin_of s id ≡ Make w (origins_of s ids) → Marks id m mid new
      → Moves s old new (close (origin_of s id))
  closed id low e k = λ max x h. subst (λ o. Holds s max new (close o x)) (sym e) (closed-one id low e k max x h)

-- ---- a definition

pub defined : (s : Session) (old new : Writer) (w : Cmd) (ids : List ℕ) (qs : List Statement)
    → PutsDefinition s old new w ids qs
    → All (λ i. i < length s.trace) ids → Moves s old new (put_definition w (origins_of s ids))
defined s old new w ids qs p inside = λ max x h.
    let os = origins_of s ids in
    let is = numbers_at old.places.items ids in
    let es = definition_entries w p.objects is in
    let reads : read (λ vs. definition_entries w vs (numbers_of os x.theorems)) (values os) ≡ es =
    ap (read (λ vs. definition_entries w vs (numbers_of os x.theorems))) p.values_are
    ∙ ap (definition_entries w p.objects) (numbers-agree s max old x ids h inside) in
    let holds : Holds s max new (record x { log = write_entries es x.log }) =
    record {
      log = p.defined.adds max x.log h.log;
      numbers = λ i l. h.numbers i l ∙ ap (λ ps. number_at ps i) (sym p.places);
    } in
    subst (λ es. Holds s max new (record x { log = write_entries es x.log })) (sym reads) holds

-- the theorem of a step that was put has its place
pub put-writer : (s : Session) (num : IsNumbered s) (old mid new : Writer) (w : Cmd) (ids : List ℕ) (m : Made)
    (p : Puts s old mid w ids m) (id : ℕ) → id < length s.trace → origin_of s id ≡ Make w (origins_of s ids)
    → Marks id m mid new
    → IsWriter s new
put-writer s num old mid new w ids m p id low e k =
    marked-writer s num mid new p.writer id m k low p.records.has (record {
      is = λ v h.
          p.records.value v (sym (ap (λ r. r >>= applied (maker w)) p.values_are) ∙ ap value (sym e) ∙ h);
    })

-- a result behind its theorem
pub result-moves : (s : Session) (old mid : Writer) (b : Sheet) (id : ℕ) (p : Place) → id < length s.trace
    → slice_get mid.places.items id ≡ Some (Some p) → Moves s old mid (write (origin_of s id))
    → SheetMoves mid.nodes mid.sheet b (write_entry (result_entry (p.number ∷ [])))
    → Moves s old (record mid { sheet = b }) (λ x. put_result (origin_of s id) (write (origin_of s id) x))
result-moves s old mid b id p low at m k = λ max x h.
    let y = write (origin_of s id) x in
    let holds = m max x h in
    let number : number_of (origin_of s id) y.theorems ≡ Some p.number = holds.numbers id low ∙ ap number_in at in
    record {
      log = subst (λ l. Shows mid.nodes max b (write_entry (result_entry (listed l)) y.log)) (sym number)
          (k max y.log holds.log);
      numbers = holds.numbers;
    }
