-- Definitions and their theorems.
use Rattle.std.specs.List.{All, flat_map, list_all}
use Rattle.std.specs.Prelude.{IsErrAnd, is_some}
use Rattle.std.proofs.Common.{◌≡◌, ℕ, List, [], ◌∷◌, ◌++◌, map, length}
use Rattle.std.proofs.Common.{Result, Ok, Err, OnOk, refl, sym, ap, subst, ◌∙◌}
use Rattle.std.proofs.lemmas.List.{map-append, length-map}
use Rattle.std.proofs.lemmas.List.Elements.{All-nil, All-cons, All-head, All-tail, All-append}
use Rattle.ot_logic.specs.Names.{Name}
use Rattle.ot_logic.specs.Naming.{names}
use Rattle.ot_logic.specs.Table.{Extends}
use Rattle.ot_logic.specs.Trees.{Tm, Variable, Sequent, Definition, ConDef, ListDef, TyDef}
use Rattle.ot_logic.specs.Hol.{IsWellTyped, theorems, is_shallow_sequent}
use Rattle.ot_logic.specs.Faults.{Fault, Nesting}
use Rattle.ot_logic.specs.Answers.{◌>>=◌, unless}
use Rattle.ot_logic.specs.declared.command.Cmd.TheVariants as words
use Rattle.ot_laws.specs.Conditions.{checked_const, checked_list, checked_type}
use Rattle.ot_kernel.specs.Defining.{all_defined, all_used, limited_definition, const_definition, list_definition}
use Rattle.ot_kernel.specs.Defining.{type_definition, zipped}
use Rattle.ot_log_format.specs.Tokens.{LogFault, BadStep}
use Rattle.ot_log_format.specs.Steps.{or_bad, constant_step, constants_step, type_operator_step}
use Rattle.ot_log_format.specs.declared.word.RecordWord.TheVariants as records
use Rattle.ot_log_records.specs.Entries.{AName, AType, Count, ASequent}
use Rattle.ot_log_records.specs.Logged.{Log, write_entry}
use Rattle.ot_log_nodes.specs.Items.{Item, HasName, name_at, type_at, term_at}
use Rattle.ot_log_nodes.specs.Changing.{variable_at, HasVariable}
use Rattle.ot_log_nodes.specs.declared.node.VariableNode.{VariableNode}
use Rattle.ot_log_rules.specs.Statements.{sequent_at, HasStatement}
use Rattle.ot_log_rules.specs.Definitions.{pairs_at, names_at, Defines, HasPairs}
use Rattle.ot_log_rules.specs.declared.statement.Statement.{Statement}
use Rattle.ot_log_rules.specs.declared.statement.StepFault.{StepFault}
use Rattle.ot_log_rules.specs.declared.statement.StepFault.TheVariants as fault
use Rattle.ot_log_page.specs.Sheets.{HasOperand, Moves, Shows, operand_at, entry_at}
use Rattle.ot_log_page.specs.declared.sheet.Sheet.{Sheet}
use Rattle.ot_log_page.specs.declared.operand.Operand as code
use Rattle.ot_log_page.specs.declared.operand.Operand.TheVariants as operand
use Rattle.ot_log_page.proofs.Adding.{shows-grown}
use Rattle.ot_machine.specs.Objects.{Objects, list, name, term, theorem}
use Rattle.ot_machine.specs.Places.{as_each, as_name}
use Rattle.ot_machine.specs.DefinitionLists.{pairs_of}
use Rattle.ot_machine.specs.Values.{defines}
use Rattle.ot_machine.proofs.Fewer.{none-fewer, const_definition-fewer, list_definition-fewer, type_definition-fewer}
use Rattle.ot_log_law.specs.Derived.{constant_entry, constant_pair, constants_entry, type_operator_entry, read}
use Rattle.ot_log_law.specs.Writing.{write_entries}
use Rattle.ot_log_words.specs.Listing.{constant_operands}
use Rattle.ot_log_words.specs.Recording.{Defined, HasResult, IsNotRefused}
use Rattle.ot_log_words.proofs.Recorded.{err-ok, handed}
use Rattle.ot_logic.proofs.Results.{bind-ok, same_Ok}
use Rattle.ot_logic.specs.RanOut.{ran_out}

-- ---- what is accepted

limited-is : (d e : Definition Name) → limited_definition names d ≡ Ok e → d ≡ e
limited-is d e h = let (u, p, k) = bind-ok (unless Nesting (list_all (is_shallow_sequent names) (theorems names d))) _
    e h in
    same_Ok d e k

const-is : (ds : List (Definition Name)) (n : Name) (t : Tm Name) (d : Definition Name)
    → const_definition names ds n t ≡ Ok d
    → ConDef n t ≡ d
const-is ds n t d h = let (u, p, k) = bind-ok (checked_const names (all_defined names ds) (all_used names ds) n t) _ d
    h in
    limited-is (ConDef n t) d k

zipped-pairs : (ps : List (Name × Variable Name)) → zipped names (map (λ p. p.0) ps) (map (λ p. p.1) ps) ≡ ps
zipped-pairs [] = refl
zipped-pairs (p ∷ ps) = ap (λ l. p ∷ l) (zipped-pairs ps)

list-is : (ds : List (Definition Name)) (ps : List (Name × Variable Name)) (q : Sequent Name) (d : Definition Name)
    → list_definition names ds (map (λ p. p.0) ps) (map (λ p. p.1) ps) q ≡ Ok d → ListDef ps q ≡ d
list-is ds ps q d h =
    let ns = map (λ (p : Name × Variable Name). p.0) ps in
    let vs = map (λ (p : Name × Variable Name). p.1) ps in
    let (u, p, k) = bind-ok (checked_list names (all_defined names ds) (all_used names ds) ns vs q) _ d h in
    ap (λ l. ListDef l q) (sym (zipped-pairs ps)) ∙ same_Ok (ListDef (zipped names ns vs) q) d k

type-is : (ds : List (Definition Name)) (n abs rep : Name) (vars : List Name) (q : Sequent Name) (d : Definition Name)
    → type_definition names ds n abs rep vars q ≡ Ok d → TyDef n abs rep vars q ≡ d
type-is ds n abs rep vars q d h = let (u, p, k) =
    bind-ok (checked_type names (all_defined names ds) (all_used names ds) n abs rep vars q) _ d h in limited-is
    (TyDef n abs rep vars q) d k

-- ---- what isn't refused: what is accepted after some definitions is a case after none

defines-memory : (e : StepFault) (d x : Definition Name) (step : Result (Definition Name) LogFault) (ts : List Item)
    → Defines (Err e) d step ts → step ≡ Ok x → e ≡ fault.Memory ran_out
defines-memory fault.BadStep d x step ts g k = absurd (err-ok x (sym g ∙ k))
defines-memory (fault.Memory memory) d x step ts g k = refl

pub defines-taken : {A : Type 0} (r : Result A StepFault) (e : StepFault) (d x : Definition Name)
    (step : Result (Definition Name) LogFault) (ts : List Item)
    → IsErrAnd r (λ x. x ≡ e) → Defines (Err e) d step ts → step ≡ Ok x → IsNotRefused r
defines-taken r e d x step ts h g k = handed r e h (defines-memory e d x step ts g k)

pub constant-taken : (n : Name) (t : Tm Name) → IsWellTyped names t → (ds : List (Definition Name))
    → HasResult (defines words.DefineConst ds (name n ∷ term t ∷ [])) → constant_step names [] n t ≡ Ok (ConDef n t)
constant-taken n t w ds h =
    let after : Result (Unit {0}) (Fault Name) → Result (Definition Name) LogFault =
    λ r. or_bad r >>= λ _. Ok (ConDef n t) in
    let checked = checked_const names [] [] n t in
    let (u, p, k) = bind-ok checked _ h.0 (const_definition-fewer [] ds (none-fewer ds) n t h.0 h.1) in
    ap (λ b. unless BadStep b >>= λ _. after checked) (ap is_some w.1) ∙ ap after p

pub constants-taken : (ps : List (Name × Variable Name)) (q : Sequent Name) (os : Objects) → pairs_of os ≡ Ok ps
    → (ds : List (Definition Name)) → HasResult (defines words.DefineConstList ds (list os ∷ theorem q ∷ []))
    → constants_step names [] ps q ≡ Ok (ListDef ps q)
constants-taken ps q os r ds h =
    let ns = map (λ (p : Name × Variable Name). p.0) ps in
    let vs = map (λ (p : Name × Variable Name). p.1) ps in
    let accepted =
    sym (ap (λ z. z >>= λ pairs. list_definition names ds (map (λ p. p.0) pairs) (map (λ p. p.1) pairs) q) r)
    ∙ h.1 in
    let (u, p, k) = bind-ok (checked_list names [] [] ns vs q) _ h.0
    (list_definition-fewer [] ds (none-fewer ds) ns vs q h.0 accepted) in
    let after : Result (Unit {0}) (Fault Name) → Result (Definition Name) LogFault =
    λ r. or_bad r >>= λ _. Ok (ListDef ps q) in
    ap after p

pub type_operator-taken : (n abs rep : Name) (vars : List Name) (q : Sequent Name) (os : Objects)
    → as_each as_name os ≡ Ok vars
    → (ds : List (Definition Name))
    → HasResult (defines words.DefineTypeOp ds (name n ∷ name abs ∷ name rep ∷ list os ∷ theorem q ∷ []))
    → type_operator_step names [] n abs rep vars q ≡ Ok (TyDef n abs rep vars q)
type_operator-taken n abs rep vars q os r ds h =
    let accepted = sym (ap (λ z. z >>= λ vars. type_definition names ds n abs rep vars q) r) ∙ h.1 in
    let (u, p, k) = bind-ok (checked_type names [] [] n abs rep vars q) _ h.0
    (type_definition-fewer [] ds (none-fewer ds) n abs rep vars q h.0 accepted) in
    let after : Result (Unit {0}) (Fault Name) → Result (Definition Name) LogFault = λ r. or_bad r
    >>= λ _. Ok (TyDef n abs rep vars q) in
    ap after p

-- ---- numbers of the table

module _ (ts : List Item) where
  has-constants : (ps : List (ℕ × VariableNode)) → HasPairs ts ps
      → All (HasOperand ts) (flat_map constant_operands ps)
  has-constants [] h = All-nil (HasOperand ts)
  has-constants (p ∷ ps) h =
      let P : ℕ × VariableNode → Type 0 = λ p. HasName ts p.0 × HasVariable ts p.1 in
      let here = All-head P p ps h in
      let rest = has-constants ps (All-tail P p ps h) in
      All-cons (HasOperand ts) (operand.Name p.0)
      (operand.Name p.1.name ∷ operand.Type p.1.ty ∷ flat_map constant_operands ps)
      here.0
      (All-cons (HasOperand ts) (operand.Name p.1.name) (operand.Type p.1.ty ∷ flat_map constant_operands ps) here.1.0
      (All-cons (HasOperand ts) (operand.Type p.1.ty) (flat_map constant_operands ps) here.1.1 rest))

  has-names : (is : List ℕ) → All (HasName ts) is → All (HasOperand ts) (map operand.Name is)
  has-names [] h = All-nil (HasOperand ts)
  has-names (i ∷ is) h =
      All-cons (HasOperand ts) (operand.Name i) (map operand.Name is) (All-head (HasName ts) i is h)
      (has-names is (All-tail (HasName ts) i is h))

  last : (i : ℕ) → All (HasOperand ts) (operand.Sequent i ∷ [])
  last i = All-cons (HasOperand ts) (operand.Sequent i) [] tt (All-nil (HasOperand ts))

  pub has-list : (ps : List (ℕ × VariableNode)) (k i : ℕ) (ops : List code.Operand)
      → ops ≡ operand.Count k ∷ (flat_map constant_operands ps ++ operand.Sequent i ∷ []) → HasPairs ts ps
      → All (HasOperand ts) ops
  has-list ps k i ops e h =
      let front = flat_map constant_operands ps in
      subst (All (HasOperand ts)) (sym e)
      (All-cons (HasOperand ts) (operand.Count k) (front ++ operand.Sequent i ∷ []) tt
      (All-append (HasOperand ts) front (operand.Sequent i ∷ []) (has-constants ps h) (last i)))

  pub has-type_operator : (n abs rep k i : ℕ) (vars : List ℕ) (ops : List code.Operand)
      → ops ≡ operand.Name n ∷ operand.Name abs ∷ operand.Name rep ∷ operand.Count k
      ∷ (map operand.Name vars ++ operand.Sequent i ∷ [])
      → HasName ts n → HasName ts abs → HasName ts rep → All (HasName ts) vars → All (HasOperand ts) ops
  has-type_operator n abs rep k i vars ops e hn ha hr hv =
      let front = map operand.Name vars in
      let rest = front ++ operand.Sequent i ∷ [] in
      subst (All (HasOperand ts)) (sym e)
      (All-cons (HasOperand ts) (operand.Name n) (operand.Name abs ∷ operand.Name rep ∷ operand.Count k ∷ rest) hn
      (All-cons (HasOperand ts) (operand.Name abs) (operand.Name rep ∷ operand.Count k ∷ rest) ha
      (All-cons (HasOperand ts) (operand.Name rep) (operand.Count k ∷ rest) hr
      (All-cons (HasOperand ts) (operand.Count k) rest tt
      (All-append (HasOperand ts) front (operand.Sequent i ∷ []) (has-names vars hv) (last i))))))

  -- ---- what they stand for

  constants-operands : (ps : List (ℕ × VariableNode))
      → map (operand_at ts) (flat_map constant_operands ps) ≡ flat_map constant_pair (pairs_at ts ps)
  constants-operands [] = refl
  constants-operands (p ∷ ps) =
      ap (λ l. AName (name_at ts p.0) ∷ AName (name_at ts p.1.name) ∷ AType (type_at ts p.1.ty) ∷ l)
      (constants-operands ps)

  names-operands : (is : List ℕ) → map (operand_at ts) (map operand.Name is) ≡ map AName (names_at ts is)
  names-operands [] = refl
  names-operands (i ∷ is) = ap (λ l. AName (name_at ts i) ∷ l) (names-operands is)

  pub constants-is : (ps : List (ℕ × VariableNode)) (i : ℕ) (ops : List code.Operand)
      → ops ≡ operand.Count (length ps) ∷ (flat_map constant_operands ps ++ operand.Sequent i ∷ [])
      → entry_at ts records.Constants ops ≡ constants_entry (pairs_at ts ps) i
  constants-is ps i ops e =
      ap (entry_at ts records.Constants) e
      ∙ (λ j. record { word = records.Constants; operands = Count (long j) ∷ all j })
    where
      long : length ps ≡ length (pairs_at ts ps)
      long = sym (length-map {B = Name × Variable Name} ps (λ p. (name_at ts p.0, variable_at ts p.1)))

      all : map (operand_at ts) (flat_map constant_operands ps ++ operand.Sequent i ∷ [])
          ≡ flat_map constant_pair (pairs_at ts ps) ++ ASequent i ∷ []
      all = map-append (operand_at ts) (flat_map constant_operands ps) (operand.Sequent i ∷ [])
          ∙ ap (λ l. l ++ ASequent i ∷ []) (constants-operands ps)

  pub type_operator-is : (n abs rep i : ℕ) (vars : List ℕ) (ops : List code.Operand)
      → ops ≡ operand.Name n ∷ operand.Name abs ∷ operand.Name rep ∷ operand.Count (length vars)
      ∷ (map operand.Name vars ++ operand.Sequent i ∷ [])
      → entry_at ts records.TypeOperator ops ≡ type_operator_entry (name_at ts n) (name_at ts abs) (name_at ts rep)
      (names_at ts vars) i
  type_operator-is n abs rep i vars ops e =
      ap (entry_at ts records.TypeOperator) e
      ∙ (λ j. record {
        word = records.TypeOperator;
        operands = AName (name_at ts n) ∷ AName (name_at ts abs) ∷ AName (name_at ts rep)
            ∷ Count (sym (length-map vars (name_at ts)) j) ∷ all j;
      })
    where
      all : map (operand_at ts) (map operand.Name vars ++ operand.Sequent i ∷ [])
          ≡ map AName (names_at ts vars) ++ ASequent i ∷ []
      all = map-append (operand_at ts) (map operand.Name vars) (operand.Sequent i ∷ [])
          ∙ ap (λ l. l ++ ASequent i ∷ []) (names-operands vars)

-- ---- the records

module _ (ts us : List Item) (e : Extends ts us) (a b : Sheet) (qs : List Statement)
    (has : All (HasStatement us) qs) where
  grown : (f : Log → Log) → Moves ts a b f → (max : ℕ) (x : Log) → Shows ts max a x → Shows us max b (f x)
  grown f m = λ max x s. shows-grown ts us max b (f x) e (m max x s)

  pub constant-defined : (n t : ℕ) → Moves ts a b (write_entry (constant_entry (name_at ts n) (term_at ts t)))
      → map (sequent_at us) qs ≡ theorems names (ConDef (name_at ts n) (term_at ts t))
      → Defined ts us a b words.DefineConst (name (name_at ts n) ∷ term (term_at ts t) ∷ []) [] qs
  constant-defined n t m are = record {
    adds = grown (write_entry (constant_entry (name_at ts n) (term_at ts t))) m;
    has = has;
    theorems_are = λ ds d h. are ∙ ap (theorems names) (const-is ds (name_at ts n) (term_at ts t) d h);
  }

  pub constants-defined : (ps : List (Name × Variable Name)) (q : Sequent Name) (i : ℕ) (os : Objects)
      → Moves ts a b (write_entry (constants_entry ps i)) → map (sequent_at us) qs ≡ theorems names (ListDef ps q)
      → pairs_of os ≡ Ok ps
      → Defined ts us a b words.DefineConstList (list os ∷ theorem q ∷ []) (i ∷ []) qs
  constants-defined ps q i os m are r = record {
    adds = subst (λ z. (max : ℕ) (x : Log) → Shows ts max a x
        → Shows us max b (write_entries (read (λ ps. constants_entry ps i ∷ []) z) x)) (sym r)
        (grown (write_entry (constants_entry ps i)) m);
    has = has;
    theorems_are = λ ds d h. are ∙ ap (theorems names)
        (list-is ds ps q d
        (sym (ap (λ z. z >>= λ pairs. list_definition names ds (map (λ p. p.0) pairs) (map (λ p. p.1) pairs) q)
        r) ∙ h));
  }

  pub type_operator-defined : (n abs rep : Name) (vars : List Name) (q : Sequent Name) (i : ℕ) (os : Objects)
      → Moves ts a b (write_entry (type_operator_entry n abs rep vars i))
      → map (sequent_at us) qs ≡ theorems names (TyDef n abs rep vars q) → as_each as_name os ≡ Ok vars
      → Defined ts us a b words.DefineTypeOp (name n ∷ name abs ∷ name rep ∷ list os ∷ theorem q ∷ []) (i ∷ []) qs
  type_operator-defined n abs rep vars q i os m are r = record {
    adds = subst (λ z. (max : ℕ) (x : Log) → Shows ts max a x
        → Shows us max b (write_entries (read (λ vars. type_operator_entry n abs rep vars i ∷ []) z) x)) (sym r)
        (grown (write_entry (type_operator_entry n abs rep vars i)) m);
    has = has;
    theorems_are = λ ds d h. are ∙ ap (theorems names)
        (type-is ds n abs rep vars q d (sym (ap (λ z. z >>= λ vars. type_definition names ds n abs rep vars q) r)
        ∙ h));
  }

pub on-ok : {E : Type 0} {P Q : Type 0} (r : Result (Unit {0}) E) → (P → Q) → OnOk r P → OnOk r Q
on-ok (Ok u) f h = f h
on-ok (Err e) f h = tt
