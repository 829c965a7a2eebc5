-- The record of a definition makes it, in a log that has the definitions before it and the premise.
use Rattle.std.specs.Prelude.{slice_get, is_some}
use Rattle.std.specs.List.{AllByRecursion, flat_map, list_all}
use Rattle.std.proofs.Common.{◌≡◌, ℕ, suc, ◌≤◌, true, ◌&&◌, List, [], ◌∷◌, map, length, Some}
use Rattle.std.proofs.Common.{Result, Ok, refl, sym, ap, subst, ◌∙◌, inl, arith, length-append}
use Rattle.ot_logic.specs.Lists.{IsSameSet}
use Rattle.ot_logic.specs.Names.{Name}
use Rattle.ot_logic.specs.Naming.{names}
use Rattle.ot_logic.specs.Trees.{Variable, Tm, Sequent, Definition, ConDef, ListDef, TyDef}
use Rattle.ot_logic.specs.Hol.{theorems}
use Rattle.ot_logic.specs.Faults.{Fault, HypothesesPresent}
use Rattle.ot_logic.specs.Answers.{◌>>=◌, unless}
use Rattle.ot_logic.specs.declared.command.Cmd.{Cmd}
use Rattle.ot_logic.specs.declared.command.Cmd.TheVariants as words
use Rattle.ot_laws.specs.Conditions.{checked_const, checked_list, checked_type, is_empty}
use Rattle.ot_kernel.specs.Defining.{all_defined, all_used}
use Rattle.ot_log_format.specs.Tokens.{LogFault, BadStep}
use Rattle.ot_log_format.specs.Steps.{is_sequent_within, is_well_typed, or_bad}
use Rattle.ot_log_format.specs.Steps.{constant_step, constants_step, type_operator_step}
use Rattle.ot_log_format.specs.State.{LogState}
use Rattle.ot_machine.specs.Objects.{Object, name, list, term, theorem}
use Rattle.ot_machine.specs.Places.{as_name}
use Rattle.ot_machine.specs.States.{Made}
use Rattle.ot_machine.specs.Rows.{definitions_of}
use Rattle.ot_machine.specs.Writable.{IsWritable}
use Rattle.ot_machine.specs.NamesIn.{ObjectNamed, ObjectsNamed}
use Rattle.ot_machine.proofs.ObjectKinds.{name-is}
use Rattle.ot_log_records.specs.Entries.{Entry, AName, ASequent, type_nodes, term_nodes, operand_nodes}
use Rattle.ot_log_records.specs.Same.{IsSame}
use Rattle.ot_log_records.specs.Logged.{Log}
use Rattle.ot_log_records.proofs.Standing.{Stands}
use Rattle.ot_log_records.proofs.Definitions.{MakesDefinition, definition-stands, constant-feeds}
use Rattle.ot_log_records.proofs.Definitions.{constants-feeds, type_operator-feeds}
use Rattle.ot_print.specs.Laws.{IsDefinitionOf}
use Rattle.ot_log_law.specs.Derived.{read, constant_entry, constant_pair, constants_entry}
use Rattle.ot_log_law.specs.Derived.{type_operator_entry, definition_entries}
use Rattle.ot_log_law.proofs.Kept.{IsKept}
use Rattle.ot_log_law.proofs.KeptObjects.{IsKeptObject, IsSound, AreSound, opened, first}
use Rattle.ot_log_law.proofs.Read.{each-holds, pairs-hold}
use Rattle.ot_log_law.proofs.Read as parts
use Rattle.ot_log_law.proofs.Values.{Each}
use Rattle.ot_log_law.proofs.Defining.{IsDefining, ByConst, ByList, ByType}
use Rattle.ot_log_law.proofs.Told.{AreOperands, IsEntry}
use Rattle.ot_log_law.proofs.Texts.{is-same, same-back}
use Rattle.ot_log_law.proofs.Makes.{kept-within, type-named, term-named, number-low, Numbers, AllNamed}
use Rattle.ot_log_law.proofs.Singles.{Nodes, nodes-then, no-nodes, more-fits, flat-append}
use Rattle.ot_log_law.proofs.SameDefinitions.{AreMade, const-same, list-same, type-same}
use Rattle.ot_log_law.proofs.SameDefinitions.{theorems-same, all-defined-same, all-used-same}
use Rattle.ot_logic.proofs.Elements.{AllByRecursion-append}
use Rattle.ot_logic.proofs.Results.{bind-ok, unless-ok}

-- the record e of a definition d, which is the same as x
pub record Defines (log : Log) (st : LogState Name) (es : List Entry) (x : Definition Name) : Type 0 where
  pub entry : Entry
  pub is : es ≡ entry ∷ []
  pub definition : Definition Name
  pub makes : MakesDefinition log st entry definition
  pub same : IsDefinitionOf definition x
  pub told : IsEntry IsWritable log.sequents entry
  pub long : 1 ≤ length entry.operands

theorems-within : (qs : List (Sequent Name)) → AllByRecursion IsKept qs → list_all (is_sequent_within names) qs ≡ true
theorems-within [] h = refl
theorems-within (q ∷ qs) h = λ i. kept-within q h.0 i && theorems-within qs h.1 i

-- ---- names and variables

abbrev Pair : Name × Variable Name → Type 0
Pair = parts.ConstantPair IsSound AreSound opened first

pairs-nodes : (ps : List (Name × Variable Name)) → AllByRecursion Pair ps
    → Nodes (flat_map operand_nodes (flat_map constant_pair ps))
pairs-nodes [] h = no-nodes
pairs-nodes (p ∷ ps) h =
    nodes-then (type_nodes p.1.ty) (flat_map operand_nodes (flat_map constant_pair ps))
    (type-named p.1.ty h.0.1.0 h.0.1.1.1) (pairs-nodes ps h.1)

pairs-told : (s n : ℕ) (ps : List (Name × Variable Name)) → AllByRecursion Pair ps
    → AreOperands IsWritable s n (flat_map constant_pair ps)
pairs-told s n [] h = tt
pairs-told s n (p ∷ ps) h = (h.0.0.1, (h.0.1.1.0, (tt, pairs-told s n ps h.1)))

pairs-long : (ps : List (Name × Variable Name)) → length ps ≤ length (flat_map constant_pair ps)
pairs-long [] = omega arith
pairs-long (p ∷ ps) = let h = pairs-long ps in omega (arith, h)

names-nodes : (ns : List Name) → Nodes (flat_map operand_nodes (map AName ns))
names-nodes [] = no-nodes
names-nodes (n ∷ ns) = names-nodes ns

names-told : (s k : ℕ) (ns : List Name) → AllByRecursion IsWritable ns → AreOperands IsWritable s k (map AName ns)
names-told s k [] h = tt
names-told s k (n ∷ ns) h = (h.0, names-told s k ns h.1)

names-long : (ns : List Name) → length (map AName ns) ≡ length ns
names-long [] = refl
names-long (n ∷ ns) = ap suc (names-long ns)

-- ---- each word

module _ (log : Log) (st : LogState Name) (earlier : List Made)
    (stand : Stands log st) (made : AreMade st.definitions earlier) where
  abbrev ds : List (Definition Name)
  ds = definitions_of earlier

  abbrev Records : Cmd → Definition Name → List Object → List ℕ → Type 0
  Records w x vs is = Defines log st (definition_entries w vs is) x

  at : (w : Cmd) (x : Definition Name) (vs us : List Object) (is js : List ℕ) → vs ≡ us → is ≡ js → Records w x us js
      → Records w x vs is
  at w x vs us is js e f m = subst (λ z. Records w x z is) (sym e) (subst (λ z. Records w x us z) (sym f) m)

  uses : IsSameSet (all_used names ds) (all_used names st.definitions)
  uses = let s = all-used-same st.definitions earlier made in record { to = s.back; back = s.to }

  defs : all_defined names st.definitions ≡ all_defined names ds
  defs = all-defined-same st.definitions earlier made

  const-defines : (n : Name) (t : Tm Name) (x : Definition Name) → IsWritable n → IsKeptObject (term t)
      → ObjectNamed IsWritable (term t) → x ≡ ConDef n t
      → checked_const names (all_defined names ds) (all_used names ds) n t ≡ Ok tt
      → AllByRecursion IsKept (theorems names x) → Defines log st (constant_entry n t ∷ []) x
  const-defines n t x hn kt nt e c kept =
      let d = ConDef n t in
      let checked = subst (λ z. checked_const names z (all_used names st.definitions) n t ≡ Ok tt) (sym defs)
      (const-same (all_defined names ds) (all_used names ds) (all_used names st.definitions) uses n t c) in
      let typed : is_well_typed names t ≡ true = ap is_some kt.typed.1 in
      let after : Result (Unit {0}) (Fault Name) → Result (Definition Name) LogFault = λ r. or_bad r >>= λ _. Ok d in
      let step : constant_step names st.definitions n t ≡ Ok d =
      ap (λ b. unless BadStep b
      >>= λ _. after (checked_const names (all_defined names st.definitions) (all_used names st.definitions) n t))
      typed
      ∙ ap after checked in
      let nodes = nodes-then (term_nodes t) [] (term-named t kt.typed.0 kt.typed.1 (more-fits t kt.fits) nt)
      no-nodes in
      record {
        entry = constant_entry n t;
        is = refl;
        definition = d;
        makes =
            definition-stands log st (constant_entry n t) (λ dl. constant_step names dl n t) d stand
            nodes.0 (constant-feeds st n t) step (theorems-within (theorems names d)
            (subst (λ z. AllByRecursion IsKept (theorems names z)) e kept));
        same = sym e;
        told = record { nodes = nodes.1; operands = (hn, (tt, tt)) };
        long = omega arith;
      }

  list-defines : (ps : List (Name × Variable Name)) (q r : Sequent Name) (i : ℕ) (x : Definition Name)
      → AllByRecursion Pair ps
      → IsSame names q r → slice_get st.sequents i ≡ Some r → x ≡ ListDef ps q
      → checked_list names (all_defined names ds) (all_used names ds) (map (λ p. p.0) ps) (map (λ p. p.1) ps) q
      ≡ Ok tt
      → AllByRecursion IsKept (theorems names x) → Defines log st (constants_entry ps i ∷ []) x
  list-defines ps q r i x hp same get e c kept =
      let d = ListDef ps r in
      let ns = map (λ p. p.0) ps in
      let vs = map (λ p. p.1) ps in
      let checked = subst (λ z. checked_list names z (all_used names st.definitions) ns vs r ≡ Ok tt) (sym defs)
      (list-same (all_defined names ds) (all_used names ds) (all_used names st.definitions)
      uses ns vs q r same.hyps same.concl same.left same.right c) in
      let step : constants_step names st.definitions ps r ≡ Ok d = ap (λ z. or_bad z >>= λ _. Ok d) checked in
      let is_it : IsDefinitionOf d (ListDef ps q) = (refl, same-back q r (is-same q r same)) in
      let is_x : IsDefinitionOf d x = subst (IsDefinitionOf d) (sym e) is_it in
      let entry = constants_entry ps i in
      let nodes = flat-append (flat_map constant_pair ps) (ASequent i ∷ []) (pairs-nodes ps hp) no-nodes in
      let n = length entry.operands in
      let long = length-append (flat_map constant_pair ps) (ASequent i ∷ []) in
      let some = pairs-long ps in
      record {
        entry = entry;
        is = refl;
        definition = d;
        makes =
            definition-stands log st entry (λ dl. constants_step names dl ps r) d stand nodes.0
            (constants-feeds st ps i r get)
            step (theorems-within (theorems names d)
            (subst (AllByRecursion IsKept) (sym (theorems-same d x is_x)) kept));
        same = is_x;
        told = record {
          nodes = nodes.1;
          operands = (
            omega (arith, long, some),
            AllByRecursion-append _ (flat_map constant_pair ps) (ASequent i ∷ [])
                (pairs-told log.sequents n ps hp) (number-low log st i r stand get, tt),
          );
        };
        long = omega (arith, long);
      }

  type-defines : (n abs rep : Name) (vars : List Name) (q r : Sequent Name) (i : ℕ) (x : Definition Name)
      → IsWritable n
      → IsWritable abs → IsWritable rep → AllByRecursion IsWritable vars → IsSame names q r → slice_get st.sequents i
      ≡ Some r
      → x ≡ TyDef n abs rep vars q
      → checked_type names (all_defined names ds) (all_used names ds) n abs rep vars q ≡ Ok tt
      → AllByRecursion IsKept (theorems names x) → Defines log st (type_operator_entry n abs rep vars i ∷ []) x
  type-defines n abs rep vars q r i x hn ha hr hv same get e c kept =
      let d = TyDef n abs rep vars r in
      let (u, a, b) = bind-ok (unless HypothesesPresent (is_empty q.hyps)) _ tt c in
      let one : q ≡ r = no-hyps q.hyps r.hyps (unless-ok HypothesesPresent (is_empty q.hyps) u a) same.hyps
      same.concl in
      let on_r = subst (λ z. checked_type names (all_defined names ds) (all_used names ds) n abs rep vars z ≡ Ok tt)
      one c in
      let checked = subst (λ z. checked_type names z (all_used names st.definitions) n abs rep vars r ≡ Ok tt)
      (sym defs)
      (type-same (all_defined names ds) (all_used names ds) (all_used names st.definitions) uses n abs rep vars r
      on_r) in
      let step : type_operator_step names st.definitions n abs rep vars r ≡ Ok d =
      ap (λ z. or_bad z >>= λ _. Ok d) checked in
      let is_it : IsDefinitionOf d (TyDef n abs rep vars q) =
      (refl, refl, refl, refl, same-back q r (is-same q r same)) in
      let is_x : IsDefinitionOf d x = subst (IsDefinitionOf d) (sym e) is_it in
      let entry = type_operator_entry n abs rep vars i in
      let nodes = flat-append (map AName vars) (ASequent i ∷ []) (names-nodes vars) no-nodes in
      let k = length entry.operands in
      let long = length-append (map AName vars) (ASequent i ∷ []) in
      let some = names-long vars in
      record {
        entry = entry;
        is = refl;
        definition = d;
        makes =
            definition-stands log st entry (λ dl. type_operator_step names dl n abs rep vars r) d stand nodes.0
            (type_operator-feeds st n abs rep vars i r get) step
            (theorems-within (theorems names d) (subst (AllByRecursion IsKept) (sym (theorems-same d x is_x)) kept));
        same = is_x;
        told = record {
          nodes = nodes.1;
          operands = (
            hn,
            (
              ha,
              (
                hr,
                (
                  omega (arith, long, some),
                  AllByRecursion-append _ (map AName vars) (ASequent i ∷ [])
                      (names-told log.sequents k vars hv) (number-low log st i r stand get, tt),
                ),
              ),
            ),
          );
        };
        long = omega (arith, long);
      }
    where
      no-hyps : (g h : List (Tm Name)) {c' d' : Tm Name} → is_empty g ≡ true → IsSameSet g h → c' ≡ d'
          → ◌≡◌ {A = Sequent Name} (record { hyps = g; concl = c' }) (record { hyps = h; concl = d' })
      no-hyps [] [] p s f = λ j. record { hyps = []; concl = f j }
      no-hyps [] (t ∷ h) p s f = absurd (s.back t (inl refl))
      no-hyps (t ∷ g) h p s f = absurd (cc)

  pub word-defines : (w : Cmd) (vs : List Object) (x : Definition Name) (is : List ℕ) → IsDefining ds vs x w → Each vs
      → AllNamed vs → AllByRecursion IsKept (theorems names x) → Numbers st vs is → Records w x vs is
  word-defines w vs x is (ByConst n t s e c h) k nm kept num =
      at words.DefineConst x vs (name n ∷ term t ∷ []) is [] s (subst (λ us. Numbers st us is) s num)
      (const-defines n t x (subst AllNamed s nm).0 (subst Each s k).1.0 (subst AllNamed s nm).1.0 e c kept)
  word-defines w vs x is (ByList os ps q s f e c) k nm kept num =
      let (i, js, r, g, get, same, rest) = subst (λ us. Numbers st us is) s num in
      let hp = pairs-hold IsSound AreSound opened first os ps ((subst Each s k).0, (subst AllNamed s nm).0) f in
      at words.DefineConstList x vs (list os ∷ theorem q ∷ []) is (i ∷ []) s (g ∙ ap (λ l. i ∷ l) rest)
      (subst (λ z. Defines log st (read (λ qs. constants_entry qs i ∷ []) z) x)
      (sym f) (list-defines ps q r i x hp same get e c kept))
  word-defines w vs x is (ByType n abs rep os vars q s f e c h) k nm kept num =
      let (i, js, r, g, get, same, rest) = subst (λ us. Numbers st us is) s num in
      let named = subst AllNamed s nm in
      let hv = each-holds (ObjectNamed IsWritable) (ObjectsNamed IsWritable) (λ us z. z) (λ o us z. z) as_name
      IsWritable (λ o m z y. subst (ObjectNamed IsWritable) (name-is o m y) z) os vars named.1.1.1.0 f in
      at words.DefineTypeOp x vs (name n ∷ name abs ∷ name rep ∷ list os ∷ theorem q ∷ [])
      is (i ∷ []) s (g ∙ ap (λ l. i ∷ l) rest)
      (subst (λ z. Defines log st (read (λ us. type_operator_entry n abs rep us i ∷ []) z) x) (sym f)
      (type-defines n abs rep vars q r i x named.0 named.1.0 named.1.1.0 hv same get e c kept))
