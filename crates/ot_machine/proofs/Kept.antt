-- What a machine stands for stays as its session and its cells grow.
use Rattle.std.specs.Prelude.{◌≡◌, ◌<◌, ◌≤◌, ◌⊎◌, ℕ, suc, ℤ, pos, List, [], ◌∷◌, ◌++◌, length}
use Rattle.std.specs.Prelude.{map, slice_get, slice_index_or, Option, Some, None, cond}
use Rattle.std.specs.List.{All}
use Rattle.std.specs.Map.{lookup}
use Rattle.std.specs.Ordering.{int_cmp, int_eq, is_eq}
use Rattle.std.specs.Cmp.{int_cmp_total}
use Rattle.std.specs.Option.{option_map}
use Rattle.std.specs.FinMap.{find, get, get-from_entries, same_map, int_cmp-IsAntisymmetric}
use Rattle.std.proofs.Common.{refl, sym, ◌∙◌, ap, subst, arith, true, false, inl, inr}
use Rattle.std.proofs.lemmas.Option.{slice_get-get_or, get_or_from_slice_get}
use Rattle.std.proofs.lemmas.List.Elements.{All-nil, All-cons, All-head, All-tail, All-append}
use Rattle.ot_logic.specs.Table.{Extends}
use Rattle.ot_logic.specs.Names.{Name}
use Rattle.ot_logic.specs.Trees.{TyVar, NConst, Bound, Sequent, Definition}
use Rattle.ot_logic.specs.NamedTerms.{nameless}
use Rattle.ot_logic.specs.Naming.{names}
use Rattle.ot_logic.proofs.TableLemmas.{Extends-refl, Extends-trans, Extends-append}
use Rattle.ot_kernel.specs.State as kernel
use Rattle.ot_kernel.specs.Alike.{AreFirstPlaces}
use Rattle.ot_trace.specs.Trace.{origin_at}
use Rattle.ot_trace.specs.Origins.{Origin, Origins, Number, Named, Make, Define, Outcome}
use Rattle.ot_trace.specs.Origins.{NoOrigins, MoreOrigins, map_origin, map_origins}
use Rattle.ot_machine.specs.Objects.{Objects, name, list, type_op, a_type, constant}
use Rattle.ot_machine.specs.Objects.{variable, term, theorem, more_objects, nesting}
use Rattle.ot_machine.specs.declared.object.Object as object
use Rattle.ot_machine.specs.declared.object.Object.TheVariants as objects
use Rattle.ot_machine.specs.declared.object.Cell as cell
use Rattle.ot_machine.specs.declared.object.Entry as code_entry
use Rattle.ot_machine.specs.declared.session.Session.{Session}
use Rattle.ot_machine.specs.declared.machine.Export as code
use Rattle.ot_machine.specs.declared.machine.Machine.{Machine}
use Rattle.ot_machine.specs.Meaning.{list_at, object_of, cell_of, cells_onto, cells_of, IsIn, IsCell, AreCells}
use Rattle.ot_machine.specs.Meaning.{origin_of, origin_or, AreNamesBelow, AreAllNamesBelow, givens_of, made_of}
use Rattle.ot_kernel.proofs.Placed.{places-later}
use Rattle.ot_machine.specs.Meaning.{IsRun, entry_of, dictionary_of, export_of, exported_by, version_of, lists_of}
use Rattle.ot_machine.specs.Meaning.{article_of, HasStep, IsEntryIn, IsExportIn, IsOf, Grows, Leaves, Traces}
use Rattle.ot_machine.specs.Stays.{Stays}

-- ---- kernels that grow
pub keeps-same : (k : kernel.State) → kernel.Keeps k k
keeps-same k =
    record {
      names = Extends-refl _;
      types = Extends-refl _;
      terms = Extends-refl _;
      classes = Extends-refl _;
      theorems = Extends-refl _;
      assumptions = Extends-refl _;
      definitions = Extends-refl _;
    }

pub keeps-on : {a b c : kernel.State} → kernel.Keeps a b → kernel.Keeps b c → kernel.Keeps a c
keeps-on p q = record {
  names = Extends-trans p.names q.names;
  types = Extends-trans p.types q.types;
  terms = Extends-trans p.terms q.terms;
  classes = Extends-trans p.classes q.classes;
  theorems = Extends-trans p.theorems q.theorems;
  assumptions = Extends-trans p.assumptions q.assumptions;
  definitions = Extends-trans p.definitions q.definitions;
}

-- ---- places of lists that grow
module _ {X : Type 0} (xs ys : List X) (e : Extends xs ys) (d : X) where
  pub at-Extends : (i : ℕ) → i < length xs → slice_index_or ys i d ≡ slice_index_or xs i d
  at-Extends i h = get_or_from_slice_get ys i _ d (e.keeps i _ (slice_get-get_or xs i d h))

-- ---- an object over a kernel that grew
module _ (k l : kernel.State) (kept : kernel.Keeps k l) where
  object-kept : (cs : List Objects) (n : ℕ) (o : object.Object) → IsIn k n o → object_of l cs o ≡ object_of k cs o
  object-kept cs n (objects.Number m) h = refl
  object-kept cs n (objects.Name m) h = ap name (at-Extends k.names l.names kept.names [] m h)
  object-kept cs n (objects.List x) h = refl
  object-kept cs n (objects.TypeOp m) h = ap type_op (at-Extends k.names l.names kept.names [] m h)
  object-kept cs n (objects.Type t) h = ap a_type (at-Extends k.types l.types kept.types (TyVar []) t h)
  object-kept cs n (objects.Const m) h = ap constant (at-Extends k.names l.names kept.names [] m h)
  object-kept cs n (objects.Var v) h =
      let a = at-Extends k.names l.names kept.names [] v.name h.0 in
      let b = at-Extends k.types l.types kept.types (TyVar []) v.ty h.1 in
      λ i. variable (record { name = a i; ty = b i })
  object-kept cs n (objects.Term t) h =
      ap (λ x. term (nameless names x)) (at-Extends k.terms l.terms kept.terms (NConst [] (TyVar [])) t h)
  object-kept cs n (objects.Theorem th) h =
      ap theorem (at-Extends k.theorems l.theorems kept.theorems (record { hyps = []; concl = Bound 0 }) th h)

  pub in-kept : (n : ℕ) (o : object.Object) → IsIn k n o → IsIn l n o
  in-kept n (objects.Number m) h = tt
  in-kept n (objects.Name m) h = omega (arith, h, kept.names.longer)
  in-kept n (objects.List x) h = h
  in-kept n (objects.TypeOp m) h = omega (arith, h, kept.names.longer)
  in-kept n (objects.Type t) h = omega (arith, h, kept.types.longer)
  in-kept n (objects.Const m) h = omega (arith, h, kept.names.longer)
  in-kept n (objects.Var v) h = (omega (arith, h.0, kept.names.longer), omega (arith, h.1, kept.types.longer))
  in-kept n (objects.Term t) h = omega (arith, h, kept.terms.longer)
  in-kept n (objects.Theorem th) h = omega (arith, h, kept.theorems.longer)

  cells-kept : (cs : List Objects) (more : List cell.Cell)
      → ((i : ℕ) (c : cell.Cell) → slice_get more i ≡ Some c → (n : ℕ) × IsIn k n c.head)
      → cells_onto l cs more ≡ cells_onto k cs more
  cells-kept cs [] h = refl
  cells-kept cs (c ∷ more) h =
      let first = h 0 c refl in
      ap (λ o. cells_onto l (cs ++ more_objects o (list_at cs c.tail) ∷ []) more)
      (object-kept cs first.0 c.head first.1)
      ∙ cells-kept (cs ++ cell_of k cs c ∷ []) more (λ i d p. h (suc i) d p)

  pub lists-kept : (cells : List cell.Cell) → AreCells k cells → cells_of l cells ≡ cells_of k cells
  lists-kept cells are = cells-kept [] cells (λ i c p. (i, (are i c p).head))

  cells-of_kept : (cells : List cell.Cell) → AreCells k cells → AreCells l cells
  cells-of_kept cells are i c p =
      let h = are i c p in
      let same = lists-kept cells are in
      let there = object-kept (cells_of k cells) i c.head h.head in
      subst (λ cs. IsCell l cs i c) (sym same) (record {
        list_is = h.list_is ∙ sym (ap (λ o. Some (more_objects o (list_at (cells_of k cells) c.tail))) there);
        head = in-kept i c.head h.head;
        tail = h.tail;
        nesting_is = h.nesting_is ∙ ap (λ o. nesting (list (more_objects o (list_at (cells_of k cells) c.tail))))
            (sym there);
        shallow = h.shallow;
      })

-- ---- origins over a session that grew
-- more names
mutual
  pub named-more : (m n : ℕ) → m ≤ n → (o : Origin ℕ) → AreNamesBelow m o → AreNamesBelow n o
  named-more m n le (Number k) h = tt
  named-more m n le (Named i) h = omega (arith, h, le)
  named-more m n le (Make w os) h = all-more m n le os h
  named-more m n le (Define w os) h = all-more m n le os h
  named-more m n le (Outcome j d) h = named-more m n le d h

  all-more : (m n : ℕ) → m ≤ n → (os : Origins ℕ) → AreAllNamesBelow m os → AreAllNamesBelow n os
  all-more m n le NoOrigins h = tt
  all-more m n le (MoreOrigins o os) h = (named-more m n le o h.0, all-more m n le os h.1)

-- two readings that agree on the first n names
module _ {X : Type 0} (f g : ℕ → X) (n : ℕ) (same : (i : ℕ) → i < n → f i ≡ g i) where
  mutual
    pub origin-agree : (o : Origin ℕ) → AreNamesBelow n o → map_origin f o ≡ map_origin g o
    origin-agree (Number k) h = refl
    origin-agree (Named i) h = ap Named (same i h)
    origin-agree (Make w os) h = ap (Make w) (origins-agree os h)
    origin-agree (Define w os) h = ap (Define w) (origins-agree os h)
    origin-agree (Outcome j d) h = ap (Outcome j) (origin-agree d h)

    origins-agree : (os : Origins ℕ) → AreAllNamesBelow n os → map_origins f os ≡ map_origins g os
    origins-agree NoOrigins h = refl
    origins-agree (MoreOrigins o os) h = let a = origin-agree o h.0 in let b = origins-agree os h.1 in
        λ i. MoreOrigins (a i) (b i)

module _ (s t : Session) (run : IsRun s) (grown : Grows s t) where
  pub origin-kept : (i : ℕ) → i < length s.trace → origin_of t i ≡ origin_of s i
  origin-kept i h =
      ap (map_origin (kernel.name_at t.kernel)) (at-Extends s.trace t.trace grown.trace (Number (pos 0)) i h)
      ∙ origin-agree (kernel.name_at t.kernel) (kernel.name_at s.kernel) (length s.kernel.names)
      (at-Extends s.kernel.names t.kernel.names grown.kernel.names []) (origin_at s.trace i)
      (run.named i (Number (pos 0)) h)

  step_in-kept : (o : object.Object) (i : Option ℕ) → HasStep s.trace o i → HasStep t.trace o i
  step_in-kept o (Some i) h = omega (arith, h, grown.trace.longer)
  step_in-kept o None h = h

  origin_or-kept : (o : object.Object) (i : Option ℕ) → HasStep s.trace o i → origin_or t o i ≡ origin_or s o i
  origin_or-kept o (Some i) h = origin-kept i h
  origin_or-kept o None h = refl

  entry-kept : (cs : List Objects) (n : ℕ) (e : code_entry.Entry) → IsEntryIn s n e
      → entry_of t cs e ≡ entry_of s cs e
  entry-kept cs n e h =
      let a = object-kept s.kernel t.kernel grown.kernel cs n e.object h.object in
      let b = origin_or-kept e.object e.step h.step in
      λ i. record { object = a i; origin = b i }

  pub entry_in-kept : (n : ℕ) (e : code_entry.Entry) → IsEntryIn s n e → IsEntryIn t n e
  entry_in-kept n e h =
      record {
        object = in-kept s.kernel t.kernel grown.kernel n e.object h.object;
        step = step_in-kept e.object e.step h.step;
      }

  stack-kept : (cs : List Objects) (n : ℕ) (es : List code_entry.Entry) → All (IsEntryIn s n) es
      → map (entry_of t cs) es ≡ map (entry_of s cs) es
  stack-kept cs n [] h = refl
  stack-kept cs n (e ∷ es) h =
      let a = entry-kept cs n e (All-head (IsEntryIn s n) e es h) in
      let b = stack-kept cs n es (All-tail (IsEntryIn s n) e es h) in
      λ i. a i ∷ b i

  export-kept : (e : code.Export) → IsExportIn s e → export_of t e ≡ export_of s e
  export-kept e h =
      let q = at-Extends s.kernel.theorems t.kernel.theorems grown.kernel.theorems
      (record { hyps = []; concl = Bound 0 }) e.th h.th in
      let a = origin-kept e.theorem h.theorem in
      let b = origin-kept e.list h.list in
      let c = origin-kept e.term h.term in
      λ i. record { sequent = q i; roots = record { theorem = a i; list = b i; term = c i } }

  exports-kept : (es : List code.Export) → All (IsExportIn s) es → map (export_of t) es ≡ map (export_of s) es
  exports-kept [] h = refl
  exports-kept (e ∷ es) h =
      let a = export-kept e (All-head (IsExportIn s) e es h) in
      let b = exports-kept es (All-tail (IsExportIn s) e es h) in
      λ i. a i ∷ b i

  -- the steps of the run
  pub givens-kept : (qs : List (Sequent Name)) (is : List ℕ) → All (λ i. i < length s.trace) is
      → givens_of t qs is ≡ givens_of s qs is
  givens-kept [] is h = refl
  givens-kept (q ∷ qs) [] h = refl
  givens-kept (q ∷ qs) (j ∷ is) h =
      let a = origin-kept j (All-head (λ i. i < length s.trace) j is h) in
      let b = givens-kept qs is (All-tail (λ i. i < length s.trace) j is h) in
      λ i. record { sequent = q; origin = a i } ∷ b i

  pub made-kept : (ds : List (Definition Name)) (is : List ℕ) → All (λ i. i < length s.trace) is
      → made_of t ds is ≡ made_of s ds is
  made-kept [] is h = refl
  made-kept (d ∷ ds) [] h = refl
  made-kept (d ∷ ds) (j ∷ is) h =
      let a = origin-kept j (All-head (λ i. i < length s.trace) j is h) in
      let b = made-kept ds is (All-tail (λ i. i < length s.trace) j is h) in
      λ i. record { definition = d; origin = a i } ∷ b i

-- ---- dictionaries by what they give
find-entry : (s : Session) (cs : List Objects) (es : List (ℤ × code_entry.Entry)) (q : ℤ)
    → find int_cmp q (map (λ e. (e.0, entry_of s cs e.1)) es) ≡ option_map (entry_of s cs) (lookup (int_eq q) es)
find-entry s cs [] q = refl
find-entry s cs (e ∷ es) q =
    elim (is_eq (int_cmp q e.0)) as
    (λ b. cond b (Some (entry_of s cs e.1)) (find int_cmp q (map (λ e. (e.0, entry_of s cs e.1)) es))
    ≡ option_map (entry_of s cs) (cond b (Some e.1) (lookup (int_eq q) es))) [
      | true ↦ refl
      | false ↦ find-entry s cs es q
    ]

pub get-dictionary : (s : Session) (cs : List Objects) (es : List (ℤ × code_entry.Entry)) (q : ℤ)
    → get (dictionary_of s cs es) q ≡ option_map (entry_of s cs) (lookup (int_eq q) es)
get-dictionary s cs es q = get-from_entries int_cmp_total _ q ∙ find-entry s cs es q

-- where each entry that is stored stands for the same, the dictionaries are one
pub dictionary-same : (s t : Session) (cs ds : List Objects) (es : List (ℤ × code_entry.Entry))
    → ((q : ℤ) (e : code_entry.Entry) → lookup (int_eq q) es ≡ Some e → entry_of t ds e ≡ entry_of s cs e)
    → dictionary_of t ds es ≡ dictionary_of s cs es
dictionary-same s t cs ds es same = same_map int_cmp_total int_cmp-IsAntisymmetric _ _
    (λ q. get-dictionary t ds es q ∙ at q (lookup (int_eq q) es) refl ∙ sym (get-dictionary s cs es q))
  where
    at : (q : ℤ) (r : Option code_entry.Entry) → lookup (int_eq q) es ≡ r
        → option_map (entry_of t ds) (lookup (int_eq q) es) ≡ option_map (entry_of s cs) (lookup (int_eq q) es)
    at q None e = rw e refl
    at q (Some o) e = rw e (ap Some (same q o e))

-- the sequents of exports, over a session that grew
pub exported-kept : (s t : Session) → Grows s t → (es : List code.Export) → All (IsExportIn s) es
    → exported_by t.kernel es ≡ exported_by s.kernel es
exported-kept s t grown [] h = refl
exported-kept s t grown (e ∷ es) h =
    let a = at-Extends s.kernel.theorems t.kernel.theorems grown.kernel.theorems (record { hyps = []; concl = Bound 0 })
    e.th (All-head (IsExportIn s) e es h).th in
    let b = exported-kept s t grown es (All-tail (IsExportIn s) e es h) in
    λ i. a i ∷ b i

-- ---- a machine over a session that grew
module _ (s t : Session) (m : Machine) (h : IsOf s m) (grown : Grows s t) where
  pub lists : lists_of t m ≡ lists_of s m
  lists = lists-kept s.kernel t.kernel grown.kernel m.cells.items h.cells

  pub article-kept : article_of t m ≡ article_of s m
  article-kept = λ i. record {
    stack = (ap (λ cs. map (entry_of t cs) m.stack.items) lists
        ∙ stack-kept s t h.run grown (lists_of s m) (length m.cells.items) m.stack.items h.stack) i;
    dictionary =
        (ap (λ cs. dictionary_of t cs m.dictionary.entries) lists
        ∙ dictionary-same s t (lists_of s m) (lists_of s m) m.dictionary.entries
        (λ q e p. entry-kept s t h.run grown (lists_of s m) (length m.cells.items) e (h.dictionary q e p))) i;
    exports = exports-kept s t h.run grown m.exports.items h.exports i;
    count = m.count;
    version = version_of m.version;
  }

  pub of-kept : IsRun t → IsOf t m
  of-kept run = record {
    run = run;
    stack = λ i o p. entry_in-kept s t h.run grown (length m.cells.items) _ (h.stack i o p);
    dictionary = λ q o p. entry_in-kept s t h.run grown (length m.cells.items) o (h.dictionary q o p);
    exports = λ i e p. let x = h.exports i e p in record {
      th = omega (arith, x.th, grown.kernel.theorems.longer);
      theorem = omega (arith, x.theorem, grown.trace.longer);
      list = omega (arith, x.list, grown.trace.longer);
      term = omega (arith, x.term, grown.trace.longer);
    };
    placed = subst (λ qs. AreFirstPlaces t.kernel qs m.places)
        (sym (exported-kept s t grown m.exports.items h.exports))
        (places-later s.kernel t.kernel grown.kernel (exported_by s.kernel m.exports.items) m.places h.placed);
    cells = cells-of_kept s.kernel t.kernel grown.kernel m.cells.items h.cells;
  }

-- ---- the kernel alone grew
abbrev pub with_kernel : Session → kernel.State → Session
with_kernel s k = record s { kernel = k }

kernel-grows : (s : Session) (l : kernel.State) → kernel.Keeps s.kernel l → Grows s (with_kernel s l)
kernel-grows s l kept = record { kernel = kept; trace = Extends-refl _ }

module _ (s : Session) (l : kernel.State) (h : IsRun s) (kept : kernel.Keeps s.kernel l)
    (same : kernel.SameBasis s.kernel l) where
  kernel-run : IsRun (with_kernel s l)
  kernel-run = record {
    named = λ i o p. named-more (length s.kernel.names) (length l.names) kept.names.longer
        (slice_index_or s.trace i o) (h.named i o p);
    assumptions = h.assumptions;
    each_assumption = h.each_assumption ∙ ap length (sym same.assumptions);
    definitions = h.definitions;
    each_definition = h.each_definition ∙ ap length (sym same.definitions);
  }

  -- the run stands for what it stood for
  pub kernel-stays : Stays s (with_kernel s l)
  kernel-stays =
      let t = with_kernel s l in
      let grown = kernel-grows s l kept in
      record {
        grown = grown;
        run = λ i. record {
          assumptions =
              (ap (λ qs. givens_of t qs s.assumption_steps.items) same.assumptions
              ∙ givens-kept s t h grown s.kernel.assumptions s.assumption_steps.items h.assumptions) i;
          definitions =
              (ap (λ ds. made_of t ds s.definition_steps.items) same.definitions
              ∙ made-kept s t h grown s.kernel.definitions s.definition_steps.items h.definitions) i;
        };
        is_run = kernel-run;
      }

pub leaves : (s : Session) (l : kernel.State) (m : Machine) → IsOf s m → kernel.Keeps s.kernel l
    → kernel.SameBasis s.kernel l → Leaves s (with_kernel s l) m
leaves s l m h kept same =
    let t = with_kernel s l in
    let grown = kernel-grows s l kept in
    record {
      machine =
          record {
            grown = kept;
            trace = refl;
            article = article-kept s t m h grown;
            lists = lists s t m h grown;
            of = of-kept s t m h grown (kernel-run s l h.run kept same);
          };
      run = (kernel-stays s l h.run kept same).run;
    }

-- ---- the trace alone grew
abbrev pub with_trace : Session → List (Origin ℕ) → Session
with_trace s os = record s { trace = os }

-- a trace with one origin more at the most extends it, and its names are of the kernel where that one's are
pub added-extends : (os ps : List (Origin ℕ)) (o : Origin ℕ) → (ps ≡ os) ⊎ (ps ≡ os ++ o ∷ []) → Extends os ps
added-extends os ps o (inl e) = subst (λ z. Extends os z) (sym e) (Extends-refl os)
added-extends os ps o (inr e) = subst (λ z. Extends os z) (sym e) (Extends-append os (o ∷ []))

pub added-named : (n : ℕ) (os ps : List (Origin ℕ)) (o : Origin ℕ) → (ps ≡ os) ⊎ (ps ≡ os ++ o ∷ [])
    → All (AreNamesBelow n) os → AreNamesBelow n o → All (AreNamesBelow n) ps
added-named n os ps o (inl e) all one = subst (All (AreNamesBelow n)) (sym e) all
added-named n os ps o (inr e) all one = subst (All (AreNamesBelow n)) (sym e)
    (All-append (AreNamesBelow n) os (o ∷ []) all (All-cons (AreNamesBelow n) o [] one (All-nil (AreNamesBelow n))))

pub traces : (s : Session) (os : List (Origin ℕ)) → IsRun s → Extends s.trace os
    → All (AreNamesBelow (length s.kernel.names)) os → Traces s (with_trace s os)
traces s os h longer named =
    let t = with_trace s os in
    let grown : Grows s t = record { kernel = keeps-same s.kernel; trace = longer } in
    let run : IsRun t = record {
      named = named;
      assumptions = λ i j p. let x = h.assumptions i j p in omega (arith, x, longer.longer);
      each_assumption = h.each_assumption;
      definitions = λ i j p. let x = h.definitions i j p in omega (arith, x, longer.longer);
      each_definition = h.each_definition;
    } in
    record {
      kernel = refl;
      grown = longer;
      run = λ i. record {
        assumptions = givens-kept s t h grown s.kernel.assumptions s.assumption_steps.items h.assumptions i;
        definitions = made-kept s t h grown s.kernel.definitions s.definition_steps.items h.definitions i;
      };
      is_run = run;
    }

-- one growth after another
pub grows-on : {a b c : Session} → Grows a b → Grows b c → Grows a c
grows-on p q = record { kernel = keeps-on p.kernel q.kernel; trace = Extends-trans p.trace q.trace }

pub trace-same : (os ps : List (Origin ℕ)) → ps ≡ os → Extends os ps
trace-same os ps e = subst (λ z. Extends os z) (sym e) (Extends-refl os)

pub traces-grow : (s t : Session) → Traces s t → Grows s t
traces-grow s t traced =
    record { kernel = subst (kernel.Keeps s.kernel) (sym traced.kernel) (keeps-same s.kernel); trace = traced.grown }
