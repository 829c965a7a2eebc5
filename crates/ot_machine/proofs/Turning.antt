-- What rows answer, from what they read.
use Rattle.std.specs.Prelude.{◌≡◌, ◌-◌, ◌<◌, ℕ, List, [], ◌∷◌, ◌++◌, length, map, take, Result, Ok, Err}
use Rattle.std.proofs.Common.{refl, sym, ap, subst, ◌∙◌, arith}
use Rattle.std.proofs.lemmas.List.{length_push, take-append-le}
use Rattle.ot_logic.specs.Names.{Name}
use Rattle.ot_logic.specs.Trees.{TyOp, Variable, Tm, Sequent}
use Rattle.ot_logic.specs.Hol.{tys_of_vars}
use Rattle.ot_logic.specs.Faults.{Fault}
use Rattle.ot_logic.specs.Answers.{◌>>=◌}
use Rattle.ot_logic.specs.Naming.{names}
use Rattle.ot_logic.specs.declared.command.Cmd.TheVariants as words
use Rattle.ot_logic.specs.Table.{Extends}
use Rattle.ot_logic.proofs.TableLemmas.{Extends-refl}
use Rattle.ot_interp.specs.Interpretation.{renamed}
use Rattle.ot_kernel.specs.State as kernel
use Rattle.ot_kernel.specs.Axioms.{axiom_rule}
use Rattle.ot_kernel.specs.Defining.{const_definition, list_definition}
use Rattle.ot_scan.specs.Words.{WordValue}
use Rattle.ot_trace.specs.Origins.{Origin, Make, operand}
use Rattle.ot_machine.specs.declared.fault.Fault as code
use Rattle.ot_machine.specs.declared.machine.Machine.{Machine}
use Rattle.ot_machine.specs.declared.context.Context as code_context
use Rattle.ot_term.specs.declared.term.VarKey.{VarKey}
use Rattle.ot_machine.specs.Contexts.{context_of}
use Rattle.ot_machine.specs.declared.session.Session.{Session}
use Rattle.ot_machine.specs.Objects.{Object, Objects, list}
use Rattle.ot_machine.specs.Objects.{no_objects, more_objects}
use Rattle.ot_machine.specs.States.{Entry, Version, open_version, version_5}
use Rattle.ot_machine.specs.States.{version_6, ArticleState, RunState, State, Context}
use Rattle.ot_machine.specs.Places.{as_each, as_term, list_entry, list_on, name_on, names_on, term_on}
use Rattle.ot_machine.specs.Places.{theorem_on, top, pushed, dropped, replaced, exchanged, origins_of}
use Rattle.ot_machine.specs.DefinitionLists.{pairs_of}
use Rattle.ot_machine.specs.Rows.{Row, first_of, hd_tl_row, defined, with_defined}
use Rattle.ot_machine.specs.Rows.{constant_entry, type_op_entry, constants_entry, type_defining}
use Rattle.ot_machine.specs.Rows.{const_defining, list_defining, define_const_row, define_const_list_row}
use Rattle.ot_machine.specs.Rows.{define_type_op_row}
use Rattle.ot_machine.specs.Discharge.{element_entries, discharged, axiom_row}
use Rattle.ot_machine.specs.Version5.{open_theorems, define_type_op_5_row}
use Rattle.ot_machine.specs.Assumptions.{term_entries, used}
use Rattle.ot_machine.specs.Defining.{closed_defined, defined_in}
use Rattle.ot_machine.specs.Step.{Command, command_of, version_rule, define_type_row, on_stack, row, counted, step}
use Rattle.ot_machine.specs.Meaning.{article_of, run_of, machine_state, IsOf, Grows, Leaves}
use Rattle.ot_machine.specs.Answers.{Refuses, StepsTo, TakesRow}
use Rattle.ot_machine.proofs.Kept.{at-Extends, keeps-same, trace-same}
use Rattle.ot_machine.proofs.Tops.{same-ok}
use Rattle.ot_machine.proofs.ObjectKinds.{term-is}
use Rattle.ot_logic.proofs.Results.{bind-ok, bind-to}

-- nothing grew
pub grows-same : (s : Session) → Grows s s
grows-same s = record { kernel = keeps-same s.kernel; trace = Extends-refl s.trace }

-- a row of the stack alone
pub stacked : (row : List Entry → Row) (s : State) (stack : List Entry) → row s.article.stack ≡ Ok stack
    → on_stack row s ≡ Ok (record s { article = record s.article { stack = stack } })
stacked row s stack e =
    ap (λ r. (r >>= λ stack. Ok (record s.article { stack = stack }))
    >>= λ article. Ok (record s { article = article })) e

-- one command more, and the version behind it
abbrev pub behind : Version → ArticleState → ArticleState
behind v s = record (counted s) { version = v }

abbrev pub with_count : Version → Result State (Fault Name) → Result State (Fault Name)
with_count v r = r >>= λ next. Ok (record next { article = behind v next.article })

-- a command that is read, and that the version rule lets pass: its row decides
pub stepped : (c : Context) (s : State) (w : WordValue) (command : Command) (v : Version) → command_of w ≡ Ok command
    → version_rule s.article.version s.article.count command ≡ Ok v → step c s w ≡ with_count v (row v c command s)
stepped c s w command v p q = bind-to _ _ command _ p (bind-to _ _ v _ q refl)

-- ---- a list in the place of its parts
dropped-pushed : (e : Entry) (stack : List Entry) → dropped 2 (pushed e stack) ≡ dropped 1 stack
dropped-pushed e stack =
    let longer = length_push stack e in
    let place : length (pushed e stack) - 2 ≡ length stack - 1 = omega (arith, longer) in
    ap (λ n. take n (pushed e stack)) place ∙ take-append-le (length stack - 1) stack (e ∷ []) (omega arith)

abbrev head_entry : Object → Origin Name → Entry
head_entry o p = record { object = o; origin = p }

abbrev tail_entry : Objects → Origin Name → Entry
tail_entry os p = record { object = list os; origin = p }

abbrev parts_row : List Entry → Objects × Origin Name → Row
parts_row stack l = first_of l.0
    >>= λ parts. Ok (exchanged 1 (head_entry parts.0 (operand 0 l.1) ∷ tail_entry parts.1 (operand 1 l.1) ∷ []) stack)

-- the head and the tail, over a stack that has grown by one already
pub parts-exchanged : (stack : List Entry) (os : Objects) (p : Origin Name) (o : Object) (rest : Objects)
    (q r : Origin Name) → list_entry 0 stack ≡ Ok (os, p) → os ≡ more_objects o rest → q ≡ operand 0 p
    → r ≡ operand 1 p
    → hd_tl_row stack ≡ Ok (exchanged 2 (head_entry o q ∷ tail_entry rest r ∷ []) (pushed (tail_entry rest r) stack))
parts-exchanged stack os p o rest q r there is first last =
    ap (λ l. l >>= parts_row stack) there
    ∙ ap (λ os. parts_row stack (os, p)) is
    ∙ (λ i. Ok (sym (dropped-pushed (tail_entry rest r) stack) i ++ head_entry o (sym first i)
    ∷ tail_entry rest (sym last i) ∷ []))

-- ---- rows of definitions
pub name-kept : (k l : kernel.State) → kernel.Keeps k l → (n : ℕ) → n < length k.names
    → kernel.name_at l n ≡ kernel.name_at k n
name-kept k l kept n h = at-Extends k.names l.names kept.names [] n h

-- the state with a definition more, over a machine o that stands for the same
pub state-defined : (s t : Session) (m o n : Machine) (count : ℕ) (view symbols theorems : List Entry)
    → article_of t o ≡ article_of s m
    → article_of t n ≡ (let a = article_of t o in record a { stack = exchanged count view a.stack })
    → view ≡ symbols ++ theorems → with_defined count symbols (theorems, run_of t) (machine_state s m) ≡ machine_state t n
state-defined s t m o n count view symbols theorems kept changed same =
    sym (ap (λ a. record { article = a; run = run_of t })
    (changed ∙ (λ i. let a = kept i in record a { stack = exchanged count (same i) a.stack })))

-- a refusal that is handed on
pub refused-moves : (result : Result (Unit {0}) code.Fault) (e : code.Fault) (l : kernel.State)
    (stated : Result State (Fault Name)) (old new : State) → result ≡ Err e → new ≡ old → Refuses l e stated
    → StepsTo l result stated old new
refused-moves result e l stated old new is same refuses =
    subst (λ r. StepsTo l r stated old new) (sym is) (same, refuses)

pub refused-turn : (result : Result (Unit {0}) code.Fault) (e : code.Fault) (row : State → Result State (Fault Name))
    (s : Session) (m : Machine) (t : Session) (n : Machine) → result ≡ Err e → machine_state t n ≡ machine_state s m
    → Refuses t.kernel e (row (machine_state s m)) → Grows s t → IsOf t n → TakesRow result row s m t n
refused-turn result e row s m t n is same refuses grown of =
    subst (λ r. TakesRow r row s m t n) (sym is) (record { moves = (same, refuses); grown = grown; of = of })

-- the row of a type operator, after what it reads
abbrev pub type_op_after : Version → State → Sequent Name → List Name → (rep abs n : Name) → Result State (Fault Name)
type_op_after version s th vars rep abs n =
    defined_in version n abs rep vars th (type_defining n abs rep s.article.stack) s.run
    >>= λ made. Ok (with_defined 5 (type_op_entry n ∷ constant_entry abs ∷ constant_entry rep ∷ []) made s)

joined : {A B C E : Type 0} (r : Result A E) (f : A → Result B E) (g : B → Result C E)
    → (r >>= λ x. f x >>= g) ≡ ((r >>= f) >>= g)
joined (Ok x) f g = refl
joined (Err e) f g = refl

open-joined : (r : Result (List Entry × RunState) (Fault Name))
    (opened : List Entry → Result (List Entry) (Fault Name)) (s : State) (symbols : List Entry)
    → (r >>= λ made. opened made.0 >>= λ ths. Ok (with_defined 5 symbols (ths, made.1) s))
    ≡ ((r >>= λ made. opened made.0 >>= λ ths. Ok (ths, made.1)) >>= λ made. Ok (with_defined 5 symbols made s))
open-joined (Ok made) opened s symbols =
    joined (opened made.0) (λ ths. Ok (ths, made.1)) (λ made. Ok (with_defined 5 symbols made s))
open-joined (Err e) opened s symbols = refl

module _ (c : Context) (s : State) (th : Sequent Name) (vars : List Name) (rep abs n r a op : Name)
    (p : theorem_on 0 s.article.stack ≡ Ok th) (q : names_on 1 s.article.stack ≡ Ok vars)
    (x : name_on 2 s.article.stack ≡ Ok rep) (y : name_on 3 s.article.stack ≡ Ok abs)
    (z : name_on 4 s.article.stack ≡ Ok n) (u : r ≡ renamed names c.interpretation.constants rep)
    (v : a ≡ renamed names c.interpretation.constants abs) (w : op ≡ renamed names c.interpretation.type_ops n) where
  closed-read : define_type_op_row c s ≡ type_op_after version_6 s th vars r a op
  closed-read = bind-to _ _ th _ p
      (bind-to _ _ vars _ q
      (bind-to _ _ rep _ x
      (bind-to _ _ abs _ y
      (bind-to _ _ n _ z (λ i. type_op_after version_6 s th vars (sym u i) (sym v i) (sym w i))))))

  open-read : define_type_op_5_row c s ≡ type_op_after version_5 s th vars r a op
  open-read =
      let b = renamed names c.interpretation.constants rep in
      let d = renamed names c.interpretation.constants abs in
      let o = renamed names c.interpretation.type_ops n in
      bind-to _ _ th _ p (bind-to _ _ vars _ q (bind-to _ _ rep _ x (bind-to _ _ abs _ y (bind-to _ _ n _ z (
      open-joined (closed_defined o d b vars th (type_defining o d b s.article.stack) s.run)
      (open_theorems d b (TyOp o (tys_of_vars names vars)) th.concl) s
      (type_op_entry o ∷ constant_entry d ∷ constant_entry b ∷ [])
      ∙ (λ i. type_op_after version_5 s th vars (sym u i) (sym v i) (sym w i)))))))

  pub type_op-read : (version : Version) → define_type_row version c s ≡ type_op_after version s th vars r a op
  type_op-read version_6 = closed-read
  type_op-read version_5 = open-read
  type_op-read open_version = open-read

-- what is stated of a list of constants, over numbers
abbrev pub list_stated : Session → Machine → code_context.Context → List ℕ → List VarKey → ℕ
    → Result (List Entry × RunState) (Fault Name)
list_stated s m c is vs th =
    defined (λ ds. list_definition names ds (map (kernel.name_at s.kernel) is) (map (kernel.variable_at s.kernel) vs)
    (kernel.theorem_at s.kernel th)) (list_defining (context_of s c) (article_of s m).stack) (run_of s)

pub list_stated-same : (s t : Session) (m n : Machine) (c : code_context.Context) (is : List ℕ) (vs : List VarKey)
    (th : ℕ) → t.kernel ≡ s.kernel → context_of t c ≡ context_of s c → article_of t n ≡ article_of s m
    → run_of t ≡ run_of s → list_stated t n c is vs th ≡ list_stated s m c is vs th
list_stated-same s t m n c is vs th k x a r =
    λ i. defined (λ ds. list_definition names ds (map (kernel.name_at (k i)) is) (map (kernel.variable_at (k i)) vs)
    (kernel.theorem_at (k i) th)) (list_defining (x i) (a i).stack) (r i)

-- the row of a constant, after what it reads
abbrev pub const_after : State → Tm Name → Name → Result State (Fault Name)
const_after s t m = defined (λ ds. const_definition names ds m t) (const_defining m s.article.stack) s.run
    >>= λ made. Ok (with_defined 2 (constant_entry m ∷ []) made s)

pub const-read : (c : Context) (s : State) (t : Tm Name) (n m : Name) → term_on 0 s.article.stack ≡ Ok t
    → name_on 1 s.article.stack ≡ Ok n → m ≡ renamed names c.interpretation.constants n
    → define_const_row c s ≡ const_after s t m
const-read c s t n m p q e = bind-to _ _ t _ p (bind-to _ _ n _ q (λ i. const_after s t (sym e i)))

-- the row of a list of constants, after what it reads
abbrev pub const_list_after : Context → State → List Name → List (Variable Name) → Sequent Name
    → Result State (Fault Name)
const_list_after c s ns vs th = defined (λ ds. list_definition names ds ns vs th) (list_defining c s.article.stack)
    s.run >>= λ made. Ok (with_defined 2 (constants_entry ns ∷ []) made s)

pub const_list-read : (c : Context) (s : State) (th : Sequent Name) (os : Objects)
    (pairs : List (Name × Variable Name)) (ns : List Name) (vs : List (Variable Name)) → theorem_on 0 s.article.stack
    ≡ Ok th → list_on 1 s.article.stack ≡ Ok os → pairs_of os ≡ Ok pairs
    → map (λ p. renamed names c.interpretation.constants p.0) pairs ≡ ns → map (λ p. p.1) pairs ≡ vs
    → define_const_list_row c s ≡ const_list_after c s ns vs th
const_list-read c s th os pairs ns vs p q r x y =
    bind-to _ _ th _ p (bind-to _ _ os _ q (bind-to _ _ pairs _ r (λ i. const_list_after c s (x i) (y i) th)))

-- ---- growth
pub leaves-grow : (s t : Session) (m : Machine) → Leaves s t m → Grows s t
leaves-grow s t m l = record { kernel = l.machine.grown; trace = trace-same s.trace t.trace l.machine.trace }

pub made-grow : (s t : Session) → t.kernel ≡ s.kernel → Extends s.trace t.trace → Grows s t
made-grow s t same longer =
    record { kernel = subst (kernel.Keeps s.kernel) (sym same) (keeps-same s.kernel); trace = longer }

-- ---- the row of an axiom, after what it reads
elements-terms : (os : Objects) (o : Origin Name) (hyps : List (Tm Name)) → as_each as_term os ≡ Ok hyps
    → element_entries os o ≡ term_entries hyps o
elements-terms no_objects o [] e = refl
elements-terms no_objects o (h ∷ hs) e = cc
elements-terms (more_objects x xs) o hyps e =
    let a = bind-ok (as_term x) _ _ e in
    let b = bind-ok (as_each as_term xs) _ _ a.2 in
    let same : a.0 ∷ b.0 ≡ hyps = same-ok _ _ _ refl b.2 in
    (λ i. record { object = term-is x a.0 a.1 i; origin = operand 0 o } ∷ elements-terms xs (operand 1 o) b.0 b.1 i)
    ∙ ap (λ ts. term_entries ts o) same

abbrev pub axiom_after : Context → State → List (Tm Name) → Tm Name → Origin Name → Result State (Fault Name)
axiom_after c s hyps p o = used c hyps p o (origins_of (top 2 s.article.stack)) s.run
    >>= λ t. Ok (record { article = record s.article { stack = replaced 2 t.0 s.article.stack }; run = t.1 })

pub axiom-read : (c : Context) (s : State) (p : Tm Name) (os : Objects) (o : Origin Name) (hyps : List (Tm Name))
    → term_on 0 s.article.stack ≡ Ok p → list_entry 1 s.article.stack ≡ Ok (os, o) → as_each as_term os ≡ Ok hyps
    → axiom_row c s ≡ axiom_after c s hyps p o
axiom-read c s p os o hyps x y z =
    bind-to _ _ p _ x (bind-to _ _ (os, o) _ y (bind-to _ _ hyps _ z (
    (λ i. axiom_rule hyps p >>= λ q. discharged c (elements-terms os o hyps z i)
    (record { sequent = q; origin = Make words.Axiom (origins_of (top 2 s.article.stack)) }) s.run
    >>= λ t. Ok (record { article = record s.article { stack = replaced 2 t.0 s.article.stack }; run = t.1 }))
    ∙ joined (axiom_rule hyps p)
    (λ q. discharged c (term_entries hyps o)
    (record { sequent = q; origin = Make words.Axiom (origins_of (top 2 s.article.stack)) }) s.run) _)))
