-- What the writer's code stands for.
use Rattle.std.specs.Prelude.{◌≡◌, ℕ, suc, ◌+◌, ◌<◌, Bool, cond, List, [], ◌∷◌, map, set, length}
use Rattle.std.specs.Prelude.{nat_eq, nat_le, Option, Some, slice_get, slice_index_or, false}
use Rattle.std.specs.List.{AllByRecursion, flat_map}
use Rattle.ot_logic.specs.Names.{Name}
use Rattle.ot_logic.specs.Naming.{name_of}
use Rattle.ot_trace.specs.Origins as o
use Rattle.ot_trace.specs.Origins.{Origin, Origins, Roots}
use Rattle.ot_trace.specs.Trace.{IsStepTable, origin_at}
use Rattle.ot_written.specs.Written as w
use Rattle.ot_written.specs.Written.{Text, Line}
use Rattle.ot_written.specs.Same.{same_origin}
use Rattle.ot_written.specs.Bytes.{line_bytes, line_with}
use Rattle.ot_write.specs.Limited as limit
use Rattle.ot_write.specs.Bytes.{roots_at}
use Rattle.ot_logic.specs.declared.command.Cmd.{Cmd}
use Rattle.ot_write.specs.declared.roots.Roots as code
use Rattle.ot_write.specs.declared.writer.Task.{Task}
use Rattle.ot_write.specs.declared.writer.Task.TheVariants as task
use Rattle.ot_write.specs.declared.writer.Writer.{Writer}

abbrev pub same : Origin ℕ → Origin ℕ → Bool
same = same_origin nat_eq

-- the bytes of a line, and of lines, over numbers of names
abbrev pub number_line : List Name → Line ℕ → List ℕ
number_line ns l = line_bytes (line_with (name_of ns) l)

abbrev pub number_lines : List Name → List (Line ℕ) → List ℕ
number_lines ns = flat_map (number_line ns)

-- ---- what is stored

-- the uses of a tree, by the counts of the trees; none where it isn't there
abbrev pub count_of : List (Origin ℕ) → List ℕ → Origin ℕ → ℕ
count_of [] cs o = 0
count_of (t ∷ ts) [] o = 0
count_of (t ∷ ts) (c ∷ cs) o = cond (same t o) c (count_of ts cs o)

-- what the writer is given: names, trees, and how often each is used
pub record Given : Type 0 where
  pub names : List Name
  pub trees : List (Origin ℕ)
  pub counts : List ℕ

abbrev pub given : List Name → List (Origin ℕ) → List ℕ → Given
given ns ts cs = record { names = ns; trees = ts; counts = cs }

-- an origin that is made is stored where it has two uses or more, a theorem of a definition where it has one
abbrev pub keep : Given → Origin ℕ → Bool
keep g o = nat_le 2 (count_of g.trees g.counts o)

abbrev pub used : Given → Origin ℕ → Bool
used g o = nat_le 1 (count_of g.trees g.counts o)

-- an origin is stored where it has so many uses
abbrev pub stored_from : Given → ℕ → Origin ℕ → Text ℕ → Text ℕ
stored_from g least x t = cond (nat_le least (count_of g.trees g.counts x)) (w.store same x t) t

-- the steps of an export's roots
abbrev pub root_steps : code.Roots → List ℕ
root_steps e = e.theorem ∷ e.list ∷ e.term ∷ []

-- ---- the writer

-- the writer has the text's bytes, and stored what the text stored
pub record Shows (g : Given) (max : ℕ) (x : Writer) (t : Text ℕ) : Type 0 where
  pub bytes : limit.limited x.text ≡ limit.put (number_lines g.names t.lines) (limit.Bytes [] max)
  pub stored : map (origin_at g.trees) x.stored.items ≡ t.stored

-- the key of each step
pub record HasKeys (ts : List (Origin ℕ)) (keys : List (Option ℕ)) (stored : List ℕ) : Type 0 where
  pub long : length keys ≡ length ts
  pub each : (i : ℕ) → i < length ts
      → slice_get keys i ≡ Some (w.key_of same (origin_at ts i) (map (origin_at ts) stored))

-- the steps are a table, each with a count of its uses and the key that the writer gave it
pub record IsReady (ts : List (Origin ℕ)) (counts : List ℕ) (x : Writer) : Type 0 where
  pub table : IsStepTable ts
  pub counted : length counts ≡ length ts
  pub keys : HasKeys ts x.keys.items x.stored.items

-- the end of a definition: its word, its theorems, and what it pushed below them
abbrev pub end_definition : Given → Cmd → Origins ℕ → Text ℕ → Text ℕ
end_definition g c os t =
    w.pops same (keep g) (used g) (w.symbol_count c)
    (w.outcomes same (keep g) (used g) (o.Define c os) (w.theorem_count c)
    (w.make same (o.Define c os) (w.Order c) t))

-- what a task does to a text
abbrev pub close : Given → Origin ℕ → Text ℕ → Text ℕ
close g (o.Make c os) t = w.keep_made same (keep g) (o.Make c os) (w.make same (o.Make c os) (w.Order c) t)
close g (o.Define c os) t = end_definition g c os t
close g _ t = t

abbrev pub perform : Given → Task → Text ℕ → Text ℕ
perform g (task.Write i) t = w.emit same (keep g) (origin_at g.trees i) t
perform g (task.Close i) t = close g (origin_at g.trees i) t

-- the tasks that are left: the last is the next
abbrev pub rest : Given → List Task → Text ℕ → Text ℕ
rest g [] t = t
rest g (k ∷ ks) t = perform g k (rest g ks t)

abbrev pub task_place : Task → ℕ
task_place (task.Write i) = i
task_place (task.Close i) = i

abbrev pub ArePlacesBelow : ℕ → List Task → Type 0
ArePlacesBelow n = AllByRecursion (λ k. task_place k < n)

abbrev mutual
  pub cost : Origin ℕ → ℕ
  cost (o.Number k) = 1
  cost (o.Named n) = 1
  cost (o.Make c os) = suc (suc (cost_all os))
  cost (o.Define c os) = 1
  cost (o.Outcome j d) = 1

  pub cost_all : Origins ℕ → ℕ
  cost_all o.NoOrigins = 0
  cost_all (o.MoreOrigins p ps) = cost p + cost_all ps

abbrev pub task_cost : List (Origin ℕ) → Task → ℕ
task_cost ts (task.Write i) = cost (origin_at ts i)
task_cost ts (task.Close i) = 1

abbrev pub total : List (Origin ℕ) → List Task → ℕ
total ts [] = 0
total ts (k ∷ ks) = task_cost ts k + total ts ks

-- the text moves by f
abbrev pub Moves : Given → Writer → Writer → (Text ℕ → Text ℕ) → Type 0
Moves g old new f = (max : ℕ) (t : Text ℕ) → Shows g max old t → Shows g max new (f t)

-- one task is done: the tasks that were put in its place do the same
abbrev pub Replaces : Given → Writer → Writer → List Task → List Task → (Text ℕ → Text ℕ) → Type 0
Replaces g old new before after f = (max : ℕ) (t : Text ℕ) → Shows g max old t → (u : Text ℕ) × Shows g max new u
    × (rest g after u ≡ rest g before (f t))

-- what is done for an origin without a key
abbrev pub begin : Given → Origin ℕ → Text ℕ → Text ℕ
begin g (o.Number k) t = w.put same (w.Numeral k) t
begin g (o.Named n) t = w.keep_made same (keep g) (o.Named n) (w.make same (o.Named n) (w.Spelled n) t)
begin g (o.Make c os) t =
    w.keep_made same (keep g) (o.Make c os) (w.make same (o.Make c os) (w.Order c) (w.emit_all same (keep g) os t))
begin g (o.Define c os) t = t
begin g (o.Outcome j d) t = t

-- ---- the article by number

-- the bytes of an article with these definitions, of these exports
abbrev pub counted_bytes : Given → List ℕ → List code.Roots → List ℕ
counted_bytes g ds es =
    number_lines g.names
    (w.written same (keep g) (used g) (map (origin_at g.trees) ds) (map (roots_at g.trees) es)).lines

-- ---- which definitions are written

abbrev pub is_marked : List Bool → ℕ → Bool
is_marked marks i = slice_index_or marks i false

-- of these numbers those that are marked, each at its first place
abbrev pub marked_of : List Bool → List ℕ → List ℕ
marked_of marks [] = []
marked_of marks (i ∷ is) = cond (is_marked marks i) (i ∷ marked_of (set marks i false) is) (marked_of marks is)
