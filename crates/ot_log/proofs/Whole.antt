-- The log by steps is the log of the run.
use Rattle.std.specs.Prelude.{nat_eq}
use Rattle.std.specs.Bool.{Decides}
use Rattle.std.specs.List.{All}
use Rattle.std.proofs.Common.{◌≡◌, ℕ, suc, ◌+◌, ◌<◌, ◌≤◌, ◌^◌, inl, inr}
use Rattle.std.proofs.Common.{true, false, List, [], ◌∷◌, ◌++◌, map, take}
use Rattle.std.proofs.Common.{length, slice_get, get_or, Some, Result, Ok}
use Rattle.std.proofs.Common.{Err, OnOk, refl, sym, ap, subst, ◌∙◌, arith}
use Rattle.std.proofs.Common.{true≢false}
use Rattle.std.proofs.lemmas.Bool.Decides.{nat_tests}
use Rattle.std.proofs.lemmas.List.{take_more, map-append}
use Rattle.std.proofs.lemmas.List.Elements.{All-nil, All-cons, All-head, All-tail}
use Rattle.ot_logic.specs.Lists.{IsMember, IsPart}
use Rattle.ot_logic.specs.Names.{Name}
use Rattle.ot_logic.specs.Naming.{names, name_of}
use Rattle.ot_logic.specs.Trees.{Definition}
use Rattle.ot_logic.proofs.Naming.{name_of-injective}
use Rattle.ot_trace.specs.Origins.{Origin, map_origin}
use Rattle.ot_trace.specs.Trace.{origin_at}
use Rattle.ot_written.specs.Laws.{roots_with}
use Rattle.ot_written.specs.Needed.{needed_definitions}
use Rattle.ot_written.specs.Same.{same_origin}
use Rattle.ot_written.specs.Written.{roots_of}
use Rattle.ot_written.proofs.Filters.{bool_cases}
use Rattle.ot_written.proofs.Renaming.{origin-injective}
use Rattle.ot_written.proofs.Same.{same-origin-law}
use Rattle.ot_write.specs.Bytes.{AreRootsInside, roots_at}
use Rattle.ot_write.specs.Emitting.{same}
use Rattle.ot_machine.specs.Lawful.{IsLawfulRun, IsLawfulExport, Basis}
use Rattle.ot_machine.specs.Rows.{definitions_of}
use Rattle.ot_machine.specs.States.{Export, Made, RunState}
use Rattle.ot_machine.specs.Writable.{IsWritable}
use Rattle.ot_machine.specs.Meaning.{origin_of, export_of, made_of, run_of, IsExportIn}
use Rattle.ot_machine.specs.declared.session.Session.{Session}
use Rattle.ot_machine.specs.declared.machine.Export as code
use Rattle.ot_log_records.specs.Bytes.{bytes_of}
use Rattle.ot_log_law.specs.Checked.{export_roots, origins_made, run_log, IsLogOf, RunLogLaw}
use Rattle.ot_log_law.specs.Writing.{Written, log, write, write_definition}
use Rattle.ot_log_law.specs.Writing.{write_definitions, write_results, put_result}
use Rattle.ot_log.specs.Keeping.{IsDefinable, IsNumbered}
use Rattle.ot_minimise.specs.Minimised.{roots_in}
use Rattle.ot_log.specs.Logs.{AreLawful, HasProof, Writes, steps_log}
use Rattle.ot_log.specs.declared.writing.LogRefusal.{LogRefusal}
use Rattle.ot_log.proofs.Placed.{naming-is, origin-tells}
use Rattle.ot_written.proofs.Renaming.{definitions-map, roots-map}
use Rattle.ot_logic.proofs.Members.{All-at_member, All-from_members}

-- ---- one more

writes-append : (xs ys : List (Origin Name)) (x : Written)
    → write_definitions (xs ++ ys) x ≡ write_definitions ys (write_definitions xs x)
writes-append [] ys x = refl
writes-append (o ∷ xs) ys x = writes-append xs ys (write_definition o x)

pub definitions-more : (f : ℕ → Origin Name) (is : List ℕ) (n i : ℕ) (x : Written) → i ≡ get_or is n i → n < length is
    → write_definition (f i) (write_definitions (map f (take n is)) x) ≡ write_definitions (map f (take (n + 1) is)) x
definitions-more f is n i x h low =
    sym (ap (λ l. write_definitions (map f l) x) (take_more is n i low)
    ∙ ap (λ z. write_definitions (map f (take n is ++ z ∷ [])) x) (sym h)
    ∙ ap (λ l. write_definitions l x) (map-append f (take n is) (i ∷ []))
    ∙ writes-append (map f (take n is)) (f i ∷ []) x)

results-append : (xs ys : List (Origin Name)) (x : Written) → write_results (xs ++ ys) x
    ≡ write_results ys (write_results xs x)
results-append [] ys x = refl
results-append (o ∷ xs) ys x = results-append xs ys (put_result o (write o x))

pub results-more : {X : Type 0} (f : X → Origin Name) (es : List X) (n : ℕ) (e : X) (x : Written) → e ≡ get_or es n e
    → n < length es → put_result (f e) (write (f e) (write_results (map f (take n es)) x))
    ≡ write_results (map f (take (n + 1) es)) x
results-more f es n e x h low =
    sym (ap (λ l. write_results (map f l) x) (take_more es n e low)
    ∙ ap (λ z. write_results (map f (take n es ++ z ∷ [])) x) (sym h)
    ∙ ap (λ l. write_results l x) (map-append f (take n es) (e ∷ []))
    ∙ results-append (map f (take n es)) (f e ∷ []) x)

-- ---- members

made-member : (s : Session) (ds : List (Definition Name)) (is : List ℕ) → length is ≡ length ds → (i : ℕ)
    → IsMember i is
    → (k : ℕ) × ((m : Made) × ((slice_get (made_of s ds is) k ≡ Some m) × (m.origin ≡ origin_of s i)))
made-member s ds [] n i m = elim m [ ]
made-member s [] (j ∷ is) n i m = absurd (omega arith)
made-member s (d ∷ ds) (j ∷ is) n i (inl e) =
    (0, (record { definition = d; origin = origin_of s j }, (refl, ap (origin_of s) e)))
made-member s (d ∷ ds) (j ∷ is) n i (inr m) = let r = made-member s ds is (omega arith) i m in
    (suc r.0, (r.1.0, r.1.1))

-- each definition of a lawful run is accepted
pub lawful-definable : (s : Session) → length s.definition_steps.items ≡ length s.kernel.definitions
    → IsLawfulRun IsWritable (run_of s) → (i : ℕ) → IsMember i s.definition_steps.items → IsDefinable (origin_of s i)
lawful-definable s n h i m =
    let r = made-member s s.kernel.definitions s.definition_steps.items n i m in
    let d = h.definitions r.0 r.1.0 r.1.1.0 in
    subst IsDefinable r.1.1.1 (definitions_of (take r.0 (run_of s).definitions), (r.1.0.definition, d.accepted))

pub lawful-proofs : (s : Session) (b : Basis) (es : List code.Export) → All (IsLawfulExport b) (map (export_of s) es)
    → All (HasProof s) es
lawful-proofs s b [] h = All-nil (HasProof s)
lawful-proofs s b (e ∷ es) h =
    All-cons (HasProof s) e es (
      (export_of s e).sequent,
      (All-head (IsLawfulExport b) (export_of s e) (map (export_of s) es) h).proved.value_is,
    )
    (lawful-proofs s b es (All-tail (IsLawfulExport b) (export_of s e) (map (export_of s) es) h))

pub roots-inside : (s : Session) (es : List code.Export) → All (IsExportIn s) es
    → All (AreRootsInside (length s.trace)) (map roots_in es)
roots-inside s [] h = All-nil (AreRootsInside (length s.trace))
roots-inside s (e ∷ es) h =
    let x = All-head (IsExportIn s) e es h in
    All-cons (AreRootsInside (length s.trace)) (roots_in e) (map roots_in es) (x.theorem, x.list, x.term)
    (roots-inside s es (All-tail (IsExportIn s) e es h))

-- ---- over names

eq-decides : (a b : ℕ) → Decides (nat_eq a b) (a ≡ b)
eq-decides a b = (λ h. grind (arith, nat_tests), λ h. grind (arith, nat_tests))

number-tells : (a b : Origin ℕ) → Decides (same a b) (a ≡ b)
number-tells = same-origin-law nat_eq eq-decides

module _ (s : Session) (num : IsNumbered s) where
  abbrev naming : ℕ → Name
  naming = name_of s.kernel.names

  abbrev to : Origin ℕ → Origin Name
  to = map_origin naming

  tells : (a b : Origin ℕ) → same_origin names.same (to a) (to b) ≡ same a b
  tells a b = elim (bool_cases (same a b)) [
    | inl e ↦ (origin-tells (to a) (to b)).1 (ap to ((number-tells a b).0 e)) ∙ sym e
    | inr e ↦ elim (bool_cases (same_origin names.same (to a) (to b))) [
      | inl g ↦ absurd (true≢false (sym ((number-tells a b).1
          (origin-injective naming (name_of-injective s.kernel.names) a b ((origin-tells (to a) (to b)).0 g))) ∙ e))
      | inr g ↦ g ∙ sym e
    ]
  ]

  steps-are : (is : List ℕ) → All (λ i. i < length s.trace) is → map to (map (origin_at s.trace) is)
      ≡ map (origin_of s) is
  steps-are [] h = refl
  steps-are (i ∷ is) h =
      let here = naming-is s num i (All-head (λ i. i < length s.trace) i is h) in
      let more = steps-are is (All-tail (λ i. i < length s.trace) i is h) in
      λ z. here z ∷ more z

  made-are : (ds : List (Definition Name)) (is : List ℕ) → length is ≡ length ds
      → map (origin_of s) is ≡ map (λ m. m.origin) (made_of s ds is)
  made-are [] [] n = refl
  made-are [] (i ∷ is) n = absurd (omega arith)
  made-are (d ∷ ds) [] n = absurd (omega arith)
  made-are (d ∷ ds) (i ∷ is) n = ap (λ l. origin_of s i ∷ l) (made-are ds is (omega arith))

  exports-are : (es : List code.Export) → All (IsExportIn s) es
      → map (roots_with naming) (map (roots_at s.trace) (map roots_in es)) ≡ map (λ e. e.roots) (map (export_of s) es)
  exports-are [] h = refl
  exports-are (e ∷ es) h =
      let x = All-head (IsExportIn s) e es h in
      let a = naming-is s num e.theorem x.theorem in
      let b = naming-is s num e.list x.list in
      let c = naming-is s num e.term x.term in
      let more = exports-are es (All-tail (IsExportIn s) e es h) in
      λ z. record { theorem = a z; list = b z; term = c z } ∷ more z

  pub tops-are : (es : List code.Export) → map (λ e. origin_of s e.theorem) es
      ≡ map (λ (e : Export). e.roots.theorem) (map (export_of s) es)
  tops-are [] = refl
  tops-are (e ∷ es) = ap (λ l. origin_of s e.theorem ∷ l) (tops-are es)

  theorems-are : (es : List code.Export) → map (λ e. origin_of s e.theorem) es
      ≡ map (λ e. e.theorem) (map (λ e. e.roots) (map (export_of s) es))
  theorems-are [] = refl
  theorems-are (e ∷ es) = ap (λ l. origin_of s e.theorem ∷ l) (theorems-are es)

  pub needed-is : (es : List code.Export) (needed : List ℕ) → All (IsExportIn s) es
      → IsPart needed s.definition_steps.items
      → map (origin_at s.trace) needed ≡ needed_definitions same (roots_of (map (roots_at s.trace) (map roots_in es)))
      (map (origin_at s.trace) s.definition_steps.items)
      → map (origin_of s) needed
      ≡ needed_definitions (same_origin names.same) (export_roots (map (export_of s) es)) (origins_made (run_of s))
  needed-is es needed h part e =
      let steps = s.definition_steps.items in
      let inside = num.run.definitions in
      let low = All-from_members (λ i. i < length s.trace) needed
      (λ i m. All-at_member (λ i. i < length s.trace) steps i inside (part i m)) in
      let roots = roots_of (map (roots_at s.trace) (map roots_in es)) in
      let ds = sym (steps-are needed low) ∙ ap (map to) e
      ∙ sym (definitions-map naming (same_origin names.same) same tells roots (map (origin_at s.trace) steps)) in
      let rs = sym (roots-map naming (map (roots_at s.trace) (map roots_in es))) ∙ ap roots_of (exports-are es h) in
      let all = steps-are steps inside ∙ made-are s.kernel.definitions steps num.run.each_definition in
      ds ∙ (λ i. needed_definitions (same_origin names.same) (rs i) (all i))

  pub log-is : (es : List code.Export) (needed : List ℕ) → All (IsExportIn s) es
      → IsPart needed s.definition_steps.items
      → map (origin_at s.trace) needed ≡ needed_definitions same (roots_of (map (roots_at s.trace) (map roots_in es)))
      (map (origin_at s.trace) s.definition_steps.items)
      → steps_log s needed es ≡ run_log (run_of s) (map (export_of s) es)
  log-is es needed h part e =
      let ds = needed-is es needed h part e in
      let ts = theorems-are es in
      λ i. bytes_of (log (ds i) (ts i)).log.tokens

-- ---- its check

within : {P : Type 0} (a : Result (Unit {0}) LogRefusal) (bytes : List ℕ) (max : ℕ) (old new : List ℕ)
    → Writes a bytes max old new → (length bytes ≤ max → P) → OnOk a P
within (Ok u) bytes max old new h f = f h.1
within (Err e) bytes max old new h f = tt

pub checked : RunLogLaw → (r : RunState) (es : List Export) → AreLawful r es
    → (a : Result (Unit {0}) LogRefusal) (max : ℕ) (old new : List ℕ) → max < 2 ^ 63
    → Writes a (run_log r es) max old new
    → OnOk a (IsLogOf max r es (run_log r es))
checked law r es h a max old new small writes =
    within a (run_log r es) max old new writes (λ fits. law r es max h.run h.exports h.apart fits small)
