-- The records of a theorem make its sequent, in a log that has its operands'.
use Rattle.std.specs.Prelude.{slice_get}
use Rattle.std.specs.List.{AllByRecursion, list_all}
use Rattle.std.proofs.Common.{◌≡◌, ◌≢◌, ℕ, ◌≤◌, true, ◌&&◌, List, [], ◌∷◌}
use Rattle.std.proofs.Common.{◌++◌, Some, Ok, refl, subst, inl, ◌⊎◌, arith}
use Rattle.ot_logic.specs.Lists.{AreDistinct}
use Rattle.ot_logic.specs.Names.{Name}
use Rattle.ot_logic.specs.Naming.{names}
use Rattle.ot_logic.specs.Trees.{Ty, Tm, Sequent}
use Rattle.ot_logic.specs.Hol.{depth_limit, depth_ty, bool_ty, HasType}
use Rattle.ot_logic.specs.declared.command.Cmd.{Cmd}
use Rattle.ot_logic.specs.declared.command.Cmd.TheVariants as words
use Rattle.ot_laws.proofs.Tests.{tells_names}
use Rattle.ot_laws.proofs.Typing.{within-typed}
use Rattle.ot_laws.proofs.Sets.{same_set-self, all-member, all-from_members}
use Rattle.ot_log_format.specs.Steps.{Step, log_depth, is_within, is_sequent_within}
use Rattle.ot_log_format.specs.State.{LogState, kept_once, makes_sequent}
use Rattle.ot_machine.specs.Objects.{Object, number, name, list, type_op, a_type, constant, variable, term, theorem}
use Rattle.ot_machine.specs.Writable.{IsWritable}
use Rattle.ot_machine.specs.NamesIn.{TyNamed, TmNamed, ObjectNamed}
use Rattle.ot_log_records.specs.Entries.{Entry, type_nodes, term_nodes, nodes_before}
use Rattle.ot_log_records.specs.Same.{IsSame}
use Rattle.ot_log_records.specs.Logged.{Log, write_sequents}
use Rattle.ot_log_records.proofs.Fitting.{Fits, within-fits}
use Rattle.ot_log_records.proofs.Standing.{Stands, AreWithin}
use Rattle.ot_log_records.proofs.Within.{type-within, term-within}
use Rattle.ot_log_records.proofs.Sequents.{Feeds, sequent-stands}
use Rattle.ot_log_records.proofs.Several.{MakesAll}
use Rattle.ot_log_law.proofs.Kept.{IsKept, fit-part}
use Rattle.ot_log_law.proofs.Told.{AreNodes, IsEntry, AreEntries, term-told, type-told}
use Rattle.ot_logic.proofs.Elements.{slice_get-low}

-- ---- kept sequents are within the limit of a log

all-within : (n : ℕ) → n ≤ log_depth → (ts : List (Tm Name)) → AllByRecursion (Fits names n) ts
    → list_all (is_within names) ts ≡ true
all-within n b [] h = refl
all-within n b (t ∷ ts) h = λ i. within-fits names n b t h.0 i && all-within n b ts h.1 i

pub sequent-within : (n : ℕ) → n ≤ log_depth → (q : Sequent Name) → AllByRecursion (Fits names n) q.hyps
    → Fits names n q.concl
    → is_sequent_within names q ≡ true
sequent-within n b q g c = λ i. all-within n b q.hyps g i && within-fits names n b q.concl c i

pub same-refl : (q : Sequent Name) → AreDistinct q.hyps → IsSame names q q
same-refl q d = record { hyps = same_set-self q.hyps; concl = refl; left = d; right = d }

-- a sequent that is the same is kept too
pub kept-same : (q r : Sequent Name) → IsSame names q r → IsKept q → IsKept r
kept-same q r s k = record {
  sequent = record {
    hyps =
        all-from_members (λ z. HasType names z (bool_ty names)) r.hyps
        (λ x m. all-member (λ z. HasType names z (bool_ty names)) q.hyps k.sequent.hyps x (s.hyps.back x m));
    concl = subst (λ z. HasType names z (bool_ty names)) s.concl k.sequent.concl;
  };
  distinct = s.right;
  hyps = fit-part r.hyps q.hyps s.hyps.back k.hyps;
  concl = subst (Fits names depth_limit) s.concl k.concl;
}

pub kept-within : (q : Sequent Name) → IsKept q → is_sequent_within names q ≡ true
kept-within q k = sequent-within depth_limit (omega arith) q k.hyps k.concl

-- ---- what a record names

pub type-named : (t : Ty Name) → depth_ty names t ≤ depth_limit → TyNamed IsWritable t
    → AreWithin (type_nodes t) × AreNodes IsWritable (type_nodes t)
type-named t d h = (type-within t (omega (arith, d)), type-told IsWritable t h)

pub term-named : (t : Tm Name) (ty : Ty Name) → HasType names t ty → Fits names log_depth t → TmNamed IsWritable t
    → AreWithin (term_nodes t) × AreNodes IsWritable (term_nodes t)
term-named t ty w f h = (
  term-within t ty w (within-fits names log_depth (omega arith) t f),
  term-told IsWritable t (within-typed names tells_names [] t ty w) f.depth h,
)

-- ---- theorems among the operands

-- the log's sequents of these numbers are those of the theorems among these values
abbrev pub Numbers : LogState Name → List Object → List ℕ → Type 0
Numbers st [] is = is ≡ []
Numbers st (theorem a ∷ vs) is =
    (i : ℕ) × (js : List ℕ) × (r : Sequent Name) × (is ≡ i ∷ js) × (slice_get st.sequents i ≡ Some r)
    × IsSame names a r
    × Numbers st vs js
Numbers st (number k ∷ vs) is = Numbers st vs is
Numbers st (name n ∷ vs) is = Numbers st vs is
Numbers st (list os ∷ vs) is = Numbers st vs is
Numbers st (type_op n ∷ vs) is = Numbers st vs is
Numbers st (a_type t ∷ vs) is = Numbers st vs is
Numbers st (constant n ∷ vs) is = Numbers st vs is
Numbers st (variable v ∷ vs) is = Numbers st vs is
Numbers st (term t ∷ vs) is = Numbers st vs is

abbrev pub AllNamed : List Object → Type 0
AllNamed = AllByRecursion (ObjectNamed IsWritable)

pub number-low : (x : Log) (st : LogState Name) (i : ℕ) (q : Sequent Name) → Stands x st → slice_get st.sequents i
    ≡ Some q
    → i ≤ x.sequents
number-low x st i q s h = let a = slice_get-low st.sequents i q h in let b = s.sequents in omega (arith, a, b)

-- ---- what the records make

-- what the assumptions become: that of an axiom is kept once
abbrev pub Assumes : Cmd → List (Sequent Name) → List (Sequent Name) → Sequent Name → Type 0
Assumes w old new last = ((w ≢ words.Axiom) × (new ≡ old)) ⊎ ((w ≡ words.Axiom) × (new ≡ kept_once names old last))

-- the log with the records stands for sequents more, of which the last is q
pub record Makes (w : Cmd) (x : Log) (st : LogState Name) (es : List Entry) (q : Sequent Name) : Type 0 where
  pub now : LogState Name
  pub stands : Stands (write_sequents es x) now
  pub front : List (Sequent Name)
  pub last : Sequent Name
  pub sequents : now.sequents ≡ st.sequents ++ (front ++ last ∷ [])
  pub same : IsSame names q last
  pub assumptions : Assumes w st.assumptions now.assumptions last
  pub definitions : now.definitions ≡ st.definitions
  pub results : now.results ≡ st.results
  pub told : AreEntries IsWritable x.sequents es

-- one record
pub makes-one : (w : Cmd) (x : Log) (st : LogState Name) (e : Entry) (step : Step names) (q r : Sequent Name)
    → w ≢ words.Axiom
    → Stands x st → IsKept q → AreWithin (nodes_before e) → IsEntry IsWritable x.sequents e
    → Feeds st e (makes_sequent names step)
    → step ≡ Ok r → IsSame names q r → Makes w x st (e ∷ []) q
makes-one w x st e step q r n s k within told f h same =
    let o = sequent-stands x st e step r s within f h (kept-within r (kept-same q r same k)) in
    record {
      now = o.now;
      stands = o.stands;
      front = [];
      last = r;
      sequents = o.sequents;
      same = same;
      assumptions = inl (n, o.assumptions);
      definitions = o.definitions;
      results = o.results;
      told = (told, tt);
    }

-- several records, the last of which makes the sequent
pub makes-all : (w : Cmd) (x : Log) (st : LogState Name) (es : List Entry) (q r : Sequent Name)
    (front : List (Sequent Name))
    → w ≢ words.Axiom → MakesAll x st es (front ++ r ∷ []) → IsSame names q r → AreEntries IsWritable x.sequents es
    → Makes w x st es q
makes-all w x st es q r front n a same told = record {
  now = a.now;
  stands = a.stands;
  front = front;
  last = r;
  sequents = a.sequents;
  same = same;
  assumptions = inl (n, a.assumptions);
  definitions = a.definitions;
  results = a.results;
  told = told;
}
