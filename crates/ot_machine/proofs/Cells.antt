-- One more cell: the lists that stood stay, and so does all that refers to them.
use Rattle.std.specs.Global.{Global}
use Rattle.std.specs.Prelude.{Vec, Ok, ◌≡◌, ◌<◌, ◌≤◌, ◌+◌, ℕ, List, [], ◌∷◌, ◌++◌}
use Rattle.std.specs.Prelude.{length, map, slice_get, slice_index_or, Some, ◌⊎◌}
use Rattle.std.specs.List.{All}
use Rattle.std.proofs.Common.{refl, sym, ◌∙◌, ap, subst, arith, inl, inr, length-append}
use Rattle.std.proofs.lemmas.Option.{slice_get_within, slice_get-get_or, get_or_from_slice_get}
use Rattle.std.proofs.lemmas.Bool.{le-leb}
use Rattle.std.proofs.lemmas.List.Elements.{All-head, All-tail}
use Rattle.ot_logic.specs.Table.{Extends}
use Rattle.ot_logic.specs.Hol.{depth_limit}
use Rattle.ot_logic.proofs.TableLemmas.{Extends-append}
use Rattle.ot_logic.proofs.InternedLemmas.{slice_get-last, slice_get-push}
use Rattle.ot_kernel.specs.State as kernel
use Rattle.ot_machine.specs.Objects.{Object, Objects, list, no_objects, more_objects, nesting}
use Rattle.ot_machine.specs.declared.object.Object as object
use Rattle.ot_machine.specs.declared.object.Object.TheVariants as objects
use Rattle.ot_machine.specs.declared.object.List as items
use Rattle.ot_machine.specs.declared.object.List.TheVariants as lists
use Rattle.ot_machine.specs.declared.object.Cell as cell
use Rattle.ot_machine.specs.declared.object.Entry as code_entry
use Rattle.ot_machine.specs.declared.session.Session.{Session}
use Rattle.ot_machine.specs.declared.machine.Machine.{Machine}
use Rattle.ot_machine.specs.Meaning.{list_at, object_of, cell_of, cells_onto, cells_of, IsListIn}
use Rattle.ot_machine.specs.Meaning.{IsIn, IsCell, AreCells, origin_or, entry_of, dictionary_of}
use Rattle.ot_machine.specs.Meaning.{export_of, version_of, lists_of, article_of, IsEntryIn, IsOf}
use Rattle.ot_machine.specs.Makers.{consed}
use Rattle.ot_machine.proofs.Kept.{dictionary-same}

cells_onto-push : (k : kernel.State) (cs : List Objects) (more : List cell.Cell) (c : cell.Cell)
    → cells_onto k cs (more ++ c ∷ []) ≡ cells_onto k cs more ++ cell_of k (cells_onto k cs more) c ∷ []
cells_onto-push k cs [] c = refl
cells_onto-push k cs (d ∷ more) c = cells_onto-push k (cs ++ cell_of k cs d ∷ []) more c

length-cells_onto : (k : kernel.State) (cs : List Objects) (more : List cell.Cell) → length (cells_onto k cs more)
    ≡ length cs + length more
length-cells_onto k cs [] = omega arith
length-cells_onto k cs (d ∷ more) =
    omega (arith, length-cells_onto k (cs ++ cell_of k cs d ∷ []) more, length-append cs (cell_of k cs d ∷ []))

pub length-cells_of : (k : kernel.State) (cells : List cell.Cell) → length (cells_of k cells) ≡ length cells
length-cells_of k cells = omega (arith, length-cells_onto k [] cells)

-- ---- lists that grow
module _ (k : kernel.State) (cs ds : List Objects) (e : Extends cs ds) where
  pub list-Extends : (l : items.List) → IsListIn (length cs) l → list_at ds l ≡ list_at cs l
  list-Extends lists.Nil h = refl
  list-Extends (lists.Cell i) h =
      get_or_from_slice_get ds i _ no_objects (e.keeps i _ (slice_get-get_or cs i no_objects h))

  pub object-Extends : (o : object.Object) → IsIn k (length cs) o → object_of k ds o ≡ object_of k cs o
  object-Extends (objects.Number m) h = refl
  object-Extends (objects.Name m) h = refl
  object-Extends (objects.List x) h = ap list (list-Extends x h)
  object-Extends (objects.TypeOp m) h = refl
  object-Extends (objects.Type t) h = refl
  object-Extends (objects.Const m) h = refl
  object-Extends (objects.Var v) h = refl
  object-Extends (objects.Term t) h = refl
  object-Extends (objects.Theorem th) h = refl

-- ---- entries
module _ (s : Session) (cs ds : List Objects) (e : Extends cs ds) where
  entry-Extends : (x : code_entry.Entry) → IsEntryIn s (length cs) x → entry_of s ds x ≡ entry_of s cs x
  entry-Extends x h =
      λ i. record {
        object = object-Extends s.kernel cs ds e x.object h.object i;
        origin = origin_or s x.object x.step;
      }

  pub stack-Extends : (es : List code_entry.Entry) → All (IsEntryIn s (length cs)) es → map (entry_of s ds) es
      ≡ map (entry_of s cs) es
  stack-Extends [] h = refl
  stack-Extends (x ∷ es) h =
      let a = entry-Extends x (All-head (IsEntryIn s (length cs)) x es h) in
      let b = stack-Extends es (All-tail (IsEntryIn s (length cs)) x es h) in
      λ i. a i ∷ b i

-- more cells
pub list-more : (m n : ℕ) → m ≤ n → (l : items.List) → IsListIn m l → IsListIn n l
list-more m n le lists.Nil h = tt
list-more m n le (lists.Cell i) h = omega (arith, h, le)

pub in-more : (k : kernel.State) (m n : ℕ) → m ≤ n → (o : object.Object) → IsIn k m o → IsIn k n o
in-more k m n le (objects.Number i) h = tt
in-more k m n le (objects.Name i) h = h
in-more k m n le (objects.List x) h = list-more m n le x h
in-more k m n le (objects.TypeOp i) h = h
in-more k m n le (objects.Type t) h = h
in-more k m n le (objects.Const i) h = h
in-more k m n le (objects.Var v) h = h
in-more k m n le (objects.Term t) h = h
in-more k m n le (objects.Theorem th) h = h

pub entry_in-more : (s : Session) (m n : ℕ) → m ≤ n → (x : code_entry.Entry) → IsEntryIn s m x → IsEntryIn s n x
entry_in-more s m n le x h = record { object = in-more s.kernel m n le x.object h.object; step = h.step }

-- ---- one more cell
module _ (k : kernel.State) (cells : List cell.Cell) (c : cell.Cell) (are : AreCells k cells) where
  abbrev before : List Objects
  before = cells_of k cells

  abbrev after : List Objects
  after = before ++ cell_of k before c ∷ []

  pub cells-push : cells_of k (cells ++ c ∷ []) ≡ after
  cells-push = cells_onto-push k [] cells c

  pub cells-extend : Extends before after
  cells-extend = Extends-append before (cell_of k before c ∷ [])

  -- what refers to the cells that stood stands for what it stood for
  pub list-pushed : (l : items.List) → IsListIn (length cells) l → list_at after l ≡ list_at before l
  list-pushed l h =
      list-Extends k before after cells-extend l (subst (λ n. IsListIn n l) (sym (length-cells_of k cells)) h)

  pub object-pushed : (o : object.Object) → IsIn k (length cells) o → object_of k after o ≡ object_of k before o
  object-pushed o h =
      object-Extends k before after cells-extend o (subst (λ n. IsIn k n o) (sym (length-cells_of k cells)) h)

  pub cell-pushed : (d : cell.Cell) → IsIn k (length cells) d.head → IsListIn (length cells) d.tail
      → cell_of k after d ≡ cell_of k before d
  cell-pushed d h t = let a = object-pushed d.head h in let b = list-pushed d.tail t in λ i. more_objects (a i) (b i)

  cell-stays : (i : ℕ) (d : cell.Cell) → i < length cells → IsCell k before i d → IsCell k after i d
  cell-stays i d lt h =
      let same = cell-pushed d (in-more k i (length cells) (omega arith) d.head h.head)
      (list-more i (length cells) (omega arith) d.tail h.tail) in
      record {
        list_is = cells-extend.keeps i _ h.list_is ∙ ap Some (sym same);
        head = h.head;
        tail = h.tail;
        nesting_is = h.nesting_is ∙ ap (λ os. nesting (list os)) (sym same);
        shallow = h.shallow;
      }

  pub are-pushed : IsIn k (length cells) c.head → IsListIn (length cells) c.tail
      → c.nesting ≡ nesting (list (cell_of k before c)) → c.nesting ≤ depth_limit → AreCells k (cells ++ c ∷ [])
  are-pushed head tail nest shallow i d p =
      subst (λ cs. IsCell k cs i d) (sym cells-push) (by (slice_get-push cells c i d p))
    where
      by : (slice_get cells i ≡ Some d) ⊎ ((i ≡ length cells) × (c ≡ d)) → IsCell k after i d
      by (inl q) = cell-stays i d (slice_get_within cells i d q) (are i d q)
      by (inr q) = subst (λ x. IsCell k after i x) q.1 (subst (λ j. IsCell k after j c) (sym q.0) (record {
        list_is = ap (slice_get after) (sym (length-cells_of k cells)) ∙ slice_get-last before (cell_of k before c)
            ∙ ap Some (sym (cell-pushed c head tail));
        head = head;
        tail = tail;
        nesting_is = nest ∙ ap (λ os. nesting (list os)) (sym (cell-pushed c head tail));
        shallow = shallow;
      }))

  -- the new list
  pub list-new : list_at (cells_of k (cells ++ c ∷ [])) (lists.Cell (length cells)) ≡ cell_of k before c
  list-new =
      ap (λ cs. list_at cs (lists.Cell (length cells))) cells-push
      ∙ get_or_from_slice_get after (length cells) _ no_objects (ap (slice_get after) (sym (length-cells_of k cells))
      ∙ slice_get-last before (cell_of k before c))

-- the nesting beside a cell
pub nesting_at : (k : kernel.State) (cells : List cell.Cell) → AreCells k cells → (i : ℕ) (d : cell.Cell)
    → i < length cells → d ≡ slice_index_or cells i d
    → (d.nesting ≡ nesting (list (list_at (cells_of k cells) (lists.Cell i)))) × (d.nesting ≤ depth_limit)
nesting_at k cells are i d lt e =
    let h = are i d (slice_get-get_or cells i d lt ∙ ap Some (sym e)) in (
      h.nesting_is ∙ ap (λ os. nesting (list os))
          (sym (get_or_from_slice_get (cells_of k cells) i _ no_objects h.list_is)),
      h.shallow,
    )

-- ---- the machine with one more cell
-- what a machine is with other cells
abbrev pub with_cells : Machine → Vec cell.Cell Global → Machine
with_cells m v = record m { cells = v }

-- as many cells as before, and the same
pub of-same_cells : (s : Session) (m : Machine) (v : Vec cell.Cell Global) → v.items ≡ m.cells.items → IsOf s m
    → IsOf s (with_cells m v)
of-same_cells s m v same h =
    let longer : length m.cells.items ≤ length v.items = omega (arith, ap length same) in
    record {
      run = h.run;
      stack = λ i o p. entry_in-more s (length m.cells.items) (length v.items) longer _ (h.stack i o p);
      dictionary = λ q o p. entry_in-more s (length m.cells.items) (length v.items) longer o (h.dictionary q o p);
      exports = h.exports;
      placed = h.placed;
      cells = subst (AreCells s.kernel) (sym same) h.cells;
    }

module _ (s : Session) (m : Machine) (v : Vec cell.Cell Global) (c : cell.Cell) (h : IsOf s m)
    (grown : v.items ≡ m.cells.items ++ c ∷ []) where
  abbrev cells : List cell.Cell
  cells = m.cells.items

  abbrev k : kernel.State
  k = s.kernel

  lists-grown : cells_of k v.items ≡ after k cells c h.cells
  lists-grown = ap (cells_of k) grown ∙ cells-push k cells c h.cells

  entry-pushed : (x : code_entry.Entry) → IsEntryIn s (length cells) x → entry_of s (after k cells c h.cells) x
      ≡ entry_of s (cells_of k cells) x
  entry-pushed x e =
      λ i. record {
        object = object-pushed k cells c h.cells x.object e.object i;
        origin = origin_or s x.object x.step;
      }

  pub article-grown : article_of s (with_cells m v) ≡ article_of s m
  article-grown = λ i. record {
    stack = (ap (λ cs. map (entry_of s cs) m.stack.items) lists-grown ∙ stack) i;
    dictionary = (ap (λ cs. dictionary_of s cs m.dictionary.entries) lists-grown ∙ dictionary) i;
    exports = map (export_of s) m.exports.items;
    count = m.count;
    version = version_of m.version;
  }
    where
      stack : map (entry_of s (after k cells c h.cells)) m.stack.items
          ≡ map (entry_of s (cells_of k cells)) m.stack.items
      stack = stack-Extends s (cells_of k cells) (after k cells c h.cells) (cells-extend k cells c h.cells)
          m.stack.items (subst (λ n. All (IsEntryIn s n) m.stack.items) (sym (length-cells_of k cells)) h.stack)

      dictionary : dictionary_of s (after k cells c h.cells) m.dictionary.entries
          ≡ dictionary_of s (cells_of k cells) m.dictionary.entries
      dictionary = dictionary-same s s (cells_of k cells) (after k cells c h.cells) m.dictionary.entries
          (λ q o p. entry-pushed o (h.dictionary q o p))

  pub of-grown : IsIn k (length cells) c.head → IsListIn (length cells) c.tail → c.nesting
      ≡ nesting (list (cell_of k (cells_of k cells) c)) → c.nesting ≤ depth_limit → IsOf s (with_cells m v)
  of-grown head tail nest shallow = record {
    run = h.run;
    stack = λ i o p. entry_in-more s (length cells) (length v.items) longer _ (h.stack i o p);
    dictionary = λ q o p. entry_in-more s (length cells) (length v.items) longer o (h.dictionary q o p);
    exports = h.exports;
    placed = h.placed;
    cells = subst (AreCells k) (sym grown) (are-pushed k cells c h.cells head tail nest shallow);
  }
    where
      longer : length cells ≤ length v.items
      longer = omega (arith, ap length grown, length-append cells (c ∷ []))

  -- the list that the new cell stands for
  pub list-grown : list_at (lists_of s (with_cells m v)) (lists.Cell (length cells)) ≡ cell_of k (cells_of k cells) c
  list-grown = ap (λ xs. list_at (cells_of k xs) (lists.Cell (length cells))) grown ∙ list-new k cells c h.cells

-- a list that is made is within the limit
pub made-list : (o : Object) (os : Objects) (n : ℕ) → n ≡ nesting (list (more_objects o os)) → n ≤ depth_limit
    → consed o os ≡ Ok (list (more_objects o os))
made-list o os n e le = rw (le-leb (nesting (list (more_objects o os))) depth_limit (omega (arith, e, le))) refl
