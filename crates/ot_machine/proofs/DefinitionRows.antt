-- The rows that add a definition keep a state lawful.
use Rattle.std.specs.Prelude.{◌≡◌, ◌⊎◌, ◌+◌, ℕ, suc, List, [], ◌∷◌, ◌++◌, length}
use Rattle.std.specs.Prelude.{map, take, Some, Result, Ok, slice_get}
use Rattle.std.specs.List.{All}
use Rattle.std.proofs.Common.{refl, sym, ap, ◌∙◌, arith, subst, inl, inr}
use Rattle.std.proofs.lemmas.Option.{slice_get_within}
use Rattle.std.proofs.lemmas.Simd.{map-map}
use Rattle.std.proofs.lemmas.List.{map-append, take-append-le}
use Rattle.std.proofs.Math.Seq.{take-append_seam}
use Rattle.std.proofs.lemmas.List.Elements.{All-nil, All-cons, All-head, All-tail, All-append}
use Rattle.ot_logic.proofs.InternedLemmas.{slice_get-push}
use Rattle.ot_logic.specs.Lists.{IsMember}
use Rattle.ot_logic.specs.Names.{Name}
use Rattle.ot_logic.specs.Naming.{names}
use Rattle.ot_logic.specs.Trees.{Variable, Sequent, Definition}
use Rattle.ot_logic.specs.Hol.{theorems}
use Rattle.ot_logic.specs.Faults.{Fault, BadDefinitionList}
use Rattle.ot_logic.specs.Answers.{◌>>=◌}
use Rattle.ot_logic.specs.declared.command.Cmd.TheVariants as words
use Rattle.ot_interp.specs.Interpretation.{renamed}
use Rattle.ot_kernel.specs.Defining.{Defining, const_definition, list_definition, type_definition}
use Rattle.ot_trace.specs.Origins.{Origin, Named, Define, Outcome, from_list, renamed_first, renamed_pairs, make_two}
use Rattle.ot_machine.specs.Objects.{Object, Objects, name, list, theorem}
use Rattle.ot_machine.specs.Objects.{variable, no_objects, more_objects, deepest}
use Rattle.ot_machine.specs.States.{Entry, Made, RunState, State, Context}
use Rattle.ot_machine.specs.Parts.{or_bad, two_of}
use Rattle.ot_machine.specs.DefinitionLists.{definition_pair, pairs_of}
use Rattle.ot_machine.specs.Places.{dropped, term_on, theorem_on, list_on, name_on}
use Rattle.ot_machine.specs.Places.{names_on, as_each, as_name, as_list, as_variable}
use Rattle.ot_machine.specs.Makers.{Read}
use Rattle.ot_machine.specs.Rows.{definitions_of, theorem_entries, defined, with_defined, origin_at}
use Rattle.ot_machine.specs.Rows.{constant_entry, type_op_entry, constants_of, constants_origin}
use Rattle.ot_machine.specs.Rows.{constants_entry, define_const_row, define_type_op_row, define_const_list_row}
use Rattle.ot_machine.specs.Values.{value, definition_of, defines}
use Rattle.ot_machine.specs.Lawful.{Basis, RestsOn, Fits, EntryFits, basis_of, run_basis}
use Rattle.ot_machine.specs.Lawful.{IsLawfulDefinition, IsLawfulRun, IsLawful, Keeps}
use Rattle.ot_machine.proofs.Tops.{same-ok}
use Rattle.ot_machine.proofs.Growing.{rests-more, entries-more, givens-more}
use Rattle.ot_machine.proofs.Fewer.{none-fewer, const_definition-fewer, list_definition-fewer, type_definition-fewer}
use Rattle.ot_machine.proofs.WordKinds.{name-origin}
use Rattle.ot_machine.proofs.ListOrigin.{list-tree}
use Rattle.ot_machine.proofs.StackRows.{AllFit, dropped-fits, name-held, constant-fits, type_op-fits}
use Rattle.ot_machine.proofs.ArticleRows.{theorem-at, term-at, list-at}
use Rattle.ot_machine.proofs.RunRows.{answer, larger-definitions, article-more}
use Rattle.ot_machine.proofs.ObjectKinds.{name-is, list-is, variable-is, or_bad-is}
use Rattle.ot_logic.proofs.Results.{bind-ok}
use Rattle.ot_logic.proofs.Members.{IsMember-last}

abbrev okay : List Entry → Result (List Entry) (Fault Name)
okay es = Ok es

abbrev made : List Entry × RunState → Result (List Entry × RunState) (Fault Name)
made z = Ok z

-- the theorems of a definition, with their places
entries-fit : (b : Basis) (d : Origin Name) (x : Definition Name) → definition_of [] d ≡ Ok x
    → IsMember d b.definitions → RestsOn b d → (j : ℕ) (qs : List (Sequent Name))
    → ((i : ℕ) (q : Sequent Name) → slice_get qs i ≡ Some q → slice_get (theorems names x) (j + i) ≡ Some q)
    → AllFit b (theorem_entries d j qs)
entries-fit b d x e is rests j [] at = All-nil (EntryFits b)
entries-fit b d x e is rests j (q ∷ qs) at =
    let here : slice_get (theorems names x) j ≡ Some q = ap (slice_get (theorems names x)) (omega arith)
    ∙ at 0 q refl in
    All-cons (EntryFits b) (record { object = theorem q; origin = Outcome (suc j) d }) (theorem_entries d (suc j) qs)
    (record { value_is = rw (e, here) refl; rests = (is, rests) })
    (entries-fit b d x e is rests (suc j) qs (λ i r p. ap (slice_get (theorems names x)) (omega arith)
    ∙ at (suc i) r p))

abbrev values_from : Read → Read → Name → Name → Name → Result (List Object) (Fault Name)
values_from o p n x r =
    Ok (name n) >>= λ a.
    (Ok (name x) >>= λ b. (Ok (name r) >>= λ c. (p >>= λ d. (o >>= λ e. Ok (e ∷ [])) >>= λ z. Ok (d ∷ z))
    >>= λ z. Ok (c ∷ z)) >>= λ z. Ok (b ∷ z)) >>= λ z. Ok (a ∷ z)

-- what the operands of a definition define
pub type-read : (p o : Origin Name) (n x r : Name) (os : Objects) (vs : List Name) (q : Sequent Name)
    (ds : List (Definition Name)) → value p ≡ Ok (list os) → value o ≡ Ok (theorem q) → as_each as_name os ≡ Ok vs
    → definition_of ds (Define words.DefineTypeOp (from_list (Named n ∷ Named x ∷ Named r ∷ p ∷ o ∷ [])))
    ≡ type_definition names ds n x r vs q
type-read p o n x r os vs q ds e f g =
    (λ i. values_from (f i) (e i) n x r >>= defines words.DefineTypeOp ds)
    ∙ (λ i. g i >>= λ vs. type_definition names ds n x r vs q)

list-read : (p o : Origin Name) (os : Objects) (ps : List (Name × Variable Name)) (q : Sequent Name)
    (ds : List (Definition Name)) → value p ≡ Ok (list os) → value o ≡ Ok (theorem q) → pairs_of os ≡ Ok ps
    → definition_of ds (Define words.DefineConstList (from_list (p ∷ o ∷ [])))
    ≡ list_definition names ds (map (λ p. p.0) ps) (map (λ p. p.1) ps) q
list-read p o os ps q ds e f g =
    (λ i. (e i >>= λ d. (f i >>= λ e. Ok (e ∷ [])) >>= λ z. Ok (d ∷ z)) >>= defines words.DefineConstList ds)
    ∙ (λ i. g i >>= λ ps. list_definition names ds (map (λ p. p.0) ps) (map (λ p. p.1) ps) q)

module _ (P : Name → Type 0) where
  -- a definition more
  abbrev with_made : RunState → Made → RunState
  with_made run m = record run { definitions = run.definitions ++ m ∷ [] }

  made-lawful : (run : RunState) (m : Made) → IsLawfulRun P run → definition_of (definitions_of run.definitions)
      m.origin ≡ Ok m.definition → RestsOn (run_basis P run) m.origin → IsLawfulRun P (with_made run m)
  made-lawful run m h accepted rests =
      let larger = larger-definitions P run.assumptions run.definitions (m ∷ []) in
      record {
        assumptions = givens-more _ _ larger run.assumptions h.assumptions;
        axioms = h.axioms;
        apart = h.apart;
        definitions = λ i n p. by i n (slice_get-push run.definitions m i n p);
      }
    where
      here : (ms : List Made) → ms ≡ run.definitions → (definition_of (definitions_of ms) m.origin ≡ Ok m.definition)
          × RestsOn (basis_of P run.assumptions ms) m.origin
      here ms e = rw e (accepted, rests)

      by : (i : ℕ) (n : Made) → (slice_get run.definitions i ≡ Some n) ⊎ ((i ≡ length run.definitions) × (m ≡ n))
          → IsLawfulDefinition P (with_made run m) i n
      by i n (inl p) =
          let d = h.definitions i n p in
          let inside = slice_get_within run.definitions i n p in
          let same = take-append-le i run.definitions (m ∷ []) (omega (arith, inside)) in
          record {
            accepted = ap (λ ms. definition_of (definitions_of ms) n.origin) same ∙ d.accepted;
            rests = subst (λ ms. RestsOn (basis_of P run.assumptions ms) n.origin) (sym same) d.rests;
          }
      by i n (inr p) =
          let same : take i (run.definitions ++ m ∷ []) ≡ run.definitions =
          ap (λ j. take j (run.definitions ++ m ∷ [])) p.0 ∙ take-append_seam run.definitions (m ∷ []) in
          let x = here (take i (run.definitions ++ m ∷ [])) same in
          subst (λ (n : Made). IsLawfulDefinition P (with_made run m) i n) p.1
          (record { accepted = x.0; rests = x.1 })

  -- what a row pushes for the theorems of its definition d fits where they do
  abbrev pub PushFits : Origin Name → (List Entry → Result (List Entry) (Fault Name)) → Type 1
  PushFits d push = (b : Basis) → b.IsNamed ≡ P → IsMember d b.definitions → RestsOn b d → (qs ths : List Entry)
      → AllFit b qs → push qs ≡ Ok ths → AllFit b ths

  -- a definition's row
  pub defined-pushes : (n : ℕ) (s t : State) (symbols : List Entry) (rule : List (Definition Name) → Defining names)
      (d : Origin Name) (push : List Entry → Result (List Entry) (Fault Name)) → PushFits d push
      → IsLawful P s → ((ds : List (Definition Name)) → definition_of ds d ≡ rule ds)
      → ((x : Definition Name) (es : List (Definition Name)) → rule es ≡ Ok x → rule [] ≡ Ok x)
      → RestsOn (run_basis P s.run) d → AllFit (run_basis P s.run) symbols
      → (defined rule d s.run >>= λ made. push made.0 >>= λ ths. Ok (with_defined n symbols (ths, made.1) s))
      ≡ answer t → Keeps P s t
  defined-pushes n s t symbols rule d push pushes h of fewer rests fit p =
      let a = bind-ok (defined rule d s.run) _ _ p in
      let x = bind-ok (rule (definitions_of s.run.definitions)) _ _ a.1 in
      let m : Made = record { definition = x.0; origin = d } in
      let run = with_made s.run m in
      let qs = theorem_entries d 0 (theorems names x.0) in
      let larger = larger-definitions P s.run.assumptions s.run.definitions (m ∷ []) in
      let b = run_basis P run in
      let is : IsMember d b.definitions =
      subst (IsMember d) (sym (map-append (λ (m : Made). m.origin) s.run.definitions (m ∷ [])))
      (IsMember-last d (map (λ (m : Made). m.origin) s.run.definitions)) in
      let made-is : a.0 ≡ (qs, run) = sym (same-ok (made (qs, run)) (qs, run) a.0 refl x.2) in
      let y = bind-ok (push a.0.0) _ _ a.2 in
      let given = entries-fit b d x.0 (of [] ∙ fewer x.0 (definitions_of s.run.definitions) x.1) is
      (rests-more _ _ larger d rests) 0 (theorems names x.0)
      (λ i q e. ap (slice_get (theorems names x.0)) (omega arith) ∙ e) in
      let outcomes = pushes b refl is (rests-more _ _ larger d rests) qs y.0 given
      (ap (λ (z : List Entry × RunState). push z.0) (sym made-is) ∙ y.1) in
      let article = article-more P s.run run s.article larger h.article in
      let stack = All-append (EntryFits b) (dropped n s.article.stack) (symbols ++ y.0)
      (dropped-fits b n s.article.stack article.stack)
      (All-append (EntryFits b) symbols y.0 (entries-more _ _ larger symbols fit) outcomes) in
      let now : State = with_defined n symbols (y.0, run) s in
      let ends : now ≡ t = ap (λ (z : List Entry × RunState). with_defined n symbols (y.0, z.1) s) (sym made-is)
      ∙ same-ok (answer (with_defined n symbols (y.0, a.0.1) s)) _ t refl y.2 in
      subst (Keeps P s) ends (
        record {
          run = made-lawful s.run m h.run (of (definitions_of s.run.definitions) ∙ x.1) rests;
          article = record {
            stack = stack;
            dictionary = article.dictionary;
            exports = article.exports;
            stated = article.stated;
            apart = article.apart;
          };
        },
        larger,
      )

  -- the theorems themselves
  pub defined-keeps : (n : ℕ) (s t : State) (symbols : List Entry) (rule : List (Definition Name) → Defining names)
      (d : Origin Name)
      → IsLawful P s → ((ds : List (Definition Name)) → definition_of ds d ≡ rule ds)
      → ((x : Definition Name) (es : List (Definition Name)) → rule es ≡ Ok x → rule [] ≡ Ok x)
      → RestsOn (run_basis P s.run) d → AllFit (run_basis P s.run) symbols
      → (defined rule d s.run >>= λ made. Ok (with_defined n symbols made s)) ≡ answer t → Keeps P s t
  defined-keeps n s t symbols rule d = defined-pushes n s t symbols rule d okay
      (λ b e i r qs ths all q. subst (AllFit b) (same-ok (okay qs) qs ths refl q) all)

  -- ---- defineConst
  pub const-keeps : (c : Context) (s t : State) → ((n : Name) → P n → P (renamed names c.interpretation.constants n))
      → IsLawful P s → define_const_row c s ≡ answer t → Keeps P s t
  const-keeps c s t held h p =
      let stack = s.article.stack in
      let b = run_basis P s.run in
      let a = bind-ok (term_on 0 stack) _ _ p in
      let n = bind-ok (name_on 1 stack) _ _ a.2 in
      let m = renamed names c.interpretation.constants n.0 in
      let f = term-at b 0 stack a.0 h.article.stack a.1 in
      let ok : P m = held n.0 (name-held b 1 stack n.0 h.article.stack n.1) in
      let d = Define words.DefineConst (from_list (Named m ∷ origin_at 0 stack ∷ [])) in
      defined-keeps 2 s t (constant_entry m ∷ []) (λ ds. const_definition names ds m a.0) d h
      (λ ds. rw f.value_is refl)
      (λ x es. const_definition-fewer [] es (none-fewer es) m a.0 x)
      (ok, (f.rests, tt))
      (All-cons (EntryFits b) (constant_entry m) [] (constant-fits b m ok) (All-nil (EntryFits b)))
      n.2

  -- ---- defineTypeOp
  pub type_op-keeps : (c : Context) (s t : State)
      → ((n : Name) → P n → P (renamed names c.interpretation.constants n))
      → ((n : Name) → P n → P (renamed names c.interpretation.type_ops n)) → IsLawful P s
      → define_type_op_row c s ≡ answer t → Keeps P s t
  type_op-keeps c s t held ops h p =
      let stack = s.article.stack in
      let b = run_basis P s.run in
      let th = bind-ok (theorem_on 0 stack) _ _ p in
      let vs = bind-ok (names_on 1 stack) _ _ th.2 in
      let rep = bind-ok (name_on 2 stack) _ _ vs.2 in
      let abs = bind-ok (name_on 3 stack) _ _ rep.2 in
      let n = bind-ok (name_on 4 stack) _ _ abs.2 in
      let l = bind-ok (list_on 1 stack) (as_each as_name) vs.0 vs.1 in
      let op = renamed names c.interpretation.type_ops n.0 in
      let x = renamed names c.interpretation.constants abs.0 in
      let r = renamed names c.interpretation.constants rep.0 in
      let f = theorem-at b 0 stack th.0 h.article.stack th.1 in
      let g = list-at b 1 stack l.0 h.article.stack l.1 in
      let op-ok : P op = ops n.0 (name-held b 4 stack n.0 h.article.stack n.1) in
      let x-ok : P x = held abs.0 (name-held b 3 stack abs.0 h.article.stack abs.1) in
      let r-ok : P r = held rep.0 (name-held b 2 stack rep.0 h.article.stack rep.1) in
      let d = Define words.DefineTypeOp
      (from_list (Named op ∷ Named x ∷ Named r ∷ origin_at 1 stack ∷ origin_at 0 stack ∷ [])) in
      defined-keeps 5 s t (type_op_entry op ∷ constant_entry x ∷ constant_entry r ∷ [])
      (λ ds. type_definition names ds op x r vs.0 th.0) d h
      (λ ds. type-read (origin_at 1 stack) (origin_at 0 stack) op x r l.0 vs.0 th.0 ds g.value_is f.value_is l.2)
      (λ z es. type_definition-fewer [] es (none-fewer es) op x r vs.0 th.0 z)
      (op-ok, (x-ok, (r-ok, (g.rests, (f.rests, tt)))))
      (All-cons (EntryFits b) (type_op_entry op) (constant_entry x ∷ constant_entry r ∷ []) (type_op-fits b op op-ok)
      (All-cons (EntryFits b) (constant_entry x) (constant_entry r ∷ []) (constant-fits b x x-ok)
      (All-cons (EntryFits b) (constant_entry r) [] (constant-fits b r r-ok) (All-nil (EntryFits b)))))
      n.2

  -- ---- defineConstList
  -- a list of constants fits the cons tree of their origins
  flat-constants : (ns : List Name) → deepest (constants_of ns) ≡ 0
  flat-constants [] = refl
  flat-constants (n ∷ ns) = rw (flat-constants ns) refl

  constants-value : (ns : List Name) → value (constants_origin ns) ≡ Ok (list (constants_of ns))
  constants-value [] = refl
  constants-value (n ∷ ns) = rw (constants-value ns, flat-constants ns) refl

  constants-rest : (b : Basis) (ns : List Name) → All b.IsNamed ns → RestsOn b (constants_origin ns)
  constants-rest b [] h = (tt, tt)
  constants-rest b (n ∷ ns) h =
      ((((All-head b.IsNamed n ns h, tt), tt), (constants-rest b ns (All-tail b.IsNamed n ns h), tt)), tt)

  two-is : (os : Objects) (q : Object × Object) → two_of BadDefinitionList os ≡ Ok q
      → os ≡ more_objects q.0 (more_objects q.1 no_objects)
  two-is (more_objects x (more_objects y no_objects)) q p =
      ap (λ (z : Object × Object). more_objects z.0 (more_objects z.1 no_objects)) (same-ok _ _ _ refl p)
  two-is _ q p = absurd (cc)

  pair-is : (o : Object) (p : Name × Variable Name) → definition_pair o ≡ Ok p
      → o ≡ list (more_objects (name p.0) (more_objects (variable p.1) no_objects))
  pair-is o p e =
      let os = bind-ok (or_bad BadDefinitionList (as_list o)) _ _ e in
      let q = bind-ok (two_of BadDefinitionList os.0) _ _ os.2 in
      let n = bind-ok (or_bad BadDefinitionList (as_name q.0.0)) _ _ q.2 in
      let v = bind-ok (or_bad BadDefinitionList (as_variable q.0.1)) _ _ n.2 in
      let a = list-is o os.0 (or_bad-is _ _ _ os.1) in
      let c = two-is os.0 q.0 q.1 in
      let x = name-is q.0.0 n.0 (or_bad-is _ _ _ n.1) in
      let y = variable-is q.0.1 v.0 (or_bad-is _ _ _ v.1) in
      let same : (n.0, v.0) ≡ p = same-ok _ _ _ refl v.2 in
      a ∙ ap list (c ∙ (λ i. more_objects (x i) (more_objects (y i) no_objects)))
      ∙ ap (λ (z : Name × Variable Name). list (more_objects (name z.0) (more_objects (variable z.1) no_objects)))
      same

  module _ (b : Basis) (f : Name → Name) (held : (n : Name) → b.IsNamed n → b.IsNamed (f n)) where
    abbrev pub renamed_pair : Name × Variable Name → Name × Variable Name
    renamed_pair p = (f p.0, p.1)

    abbrev pub pair_object : Name → Variable Name → Object
    pair_object n v = list (more_objects (name n) (more_objects (variable v) no_objects))

    -- the first name of a pair, renamed
    first-renamed : (o : Origin Name) (n : Name) (v : Variable Name) → Fits b o (pair_object n v)
        → Fits b (renamed_first f o) (pair_object (f n) v) × b.IsNamed (f n)
    first-renamed o n v h =
        let t = list-tree o (more_objects (name n) (more_objects (variable v) no_objects)) h.value_is in
        let is-name = name-origin t.first n t.head_is in
        let is : o ≡ make_two words.Cons (Named n) t.rest = t.is ∙ ap (λ z. make_two words.Cons z t.rest) is-name in
        let on = subst (RestsOn b) is h.rests in
        let ok = held n on.0.0 in (
          subst (λ z. Fits b (renamed_first f z) (pair_object (f n) v)) (sym is)
              (record { value_is = rw t.tail_is refl; rests = ((ok, (on.0.1.0, tt)), tt) }),
          ok,
        )

    -- the pairs, renamed
    pub record AreRenamed (o : Origin Name) (pairs : List (Name × Variable Name)) : Type 0 where
      pub objects : Objects
      pub fits : Fits b (renamed_pairs f o) (list objects)
      pub read : pairs_of objects ≡ Ok (map renamed_pair pairs)
      pub flat : (deepest objects ≡ 0) ⊎ (deepest objects ≡ 1)
      pub names-held : All b.IsNamed (map (λ (p : Name × Variable Name). f p.0) pairs)

    cons-renamed : (o : Origin Name) (first rest : Origin Name) (p : Name × Variable Name)
        (ps : List (Name × Variable Name)) → o ≡ make_two words.Cons first rest → Fits b (renamed_first f first)
        (pair_object (f p.0) p.1) × b.IsNamed (f p.0) → AreRenamed rest ps → AreRenamed o (p ∷ ps)
    cons-renamed o first rest p ps is h r = record {
      objects = more_objects (pair_object (f p.0) p.1) r.objects;
      fits = subst (λ z. Fits b (renamed_pairs f z) (list (more_objects (pair_object (f p.0) p.1) r.objects)))
          (sym is) (record { value_is = by r.flat; rests = ((h.0.rests, (r.fits.rests, tt)), tt) });
      read = rw r.read refl;
      flat = deep r.flat;
      names-held = All-cons b.IsNamed (f p.0) (map (λ (p : Name × Variable Name). f p.0) ps) h.1 r.names-held;
    }
      where
        by : (deepest r.objects ≡ 0) ⊎ (deepest r.objects ≡ 1)
            → value (make_two words.Cons (renamed_first f first) (renamed_pairs f rest))
            ≡ Ok (list (more_objects (pair_object (f p.0) p.1) r.objects))
        by (inl e) = rw (h.0.value_is, r.fits.value_is, e) refl
        by (inr e) = rw (h.0.value_is, r.fits.value_is, e) refl

        deep : (deepest r.objects ≡ 0) ⊎ (deepest r.objects ≡ 1)
            → (deepest (more_objects (pair_object (f p.0) p.1) r.objects) ≡ 0)
            ⊎ (deepest (more_objects (pair_object (f p.0) p.1) r.objects) ≡ 1)
        deep (inl e) = inr (rw e refl)
        deep (inr e) = inr (rw e refl)

    pub pairs-renamed : (os : Objects) (o : Origin Name) (pairs : List (Name × Variable Name)) → Fits b o (list os)
        → pairs_of os ≡ Ok pairs → AreRenamed o pairs
    pairs-renamed no_objects o pairs h e =
        let is = list-tree o no_objects h.value_is in
        let none : [] ≡ pairs = same-ok _ _ _ refl e in
        subst (AreRenamed o) none (record {
          objects = no_objects;
          fits = subst (λ z. Fits b (renamed_pairs f z) (list no_objects)) (sym is)
              (record { value_is = refl; rests = (tt, tt) });
          read = refl;
          flat = inl refl;
          names-held = All-nil b.IsNamed;
        })
    pairs-renamed (more_objects head tail) o pairs h e =
        let t = list-tree o (more_objects head tail) h.value_is in
        let on = subst (RestsOn b) t.is h.rests in
        let p = bind-ok (definition_pair head) _ _ e in
        let ps = bind-ok (pairs_of tail) _ _ p.2 in
        let same : p.0 ∷ ps.0 ≡ pairs = same-ok _ _ _ refl ps.2 in
        let q = pair-is head p.0 p.1 in
        let rest = pairs-renamed tail t.rest ps.0 (record { value_is = t.tail_is; rests = on.0.1.0 }) ps.1 in
        subst (AreRenamed o) same
        (cons-renamed o t.first t.rest p.0 ps.0 t.is
        (first-renamed t.first p.0.0 p.0.1 (record { value_is = t.head_is ∙ ap Ok q; rests = on.0.0 })) rest)

  pub const_list-keeps : (c : Context) (s t : State)
      → ((n : Name) → P n → P (renamed names c.interpretation.constants n)) → IsLawful P s → define_const_list_row c s
      ≡ answer t → Keeps P s t
  const_list-keeps c s t held h p =
      let stack = s.article.stack in
      let b = run_basis P s.run in
      let f = renamed names c.interpretation.constants in
      let th = bind-ok (theorem_on 0 stack) _ _ p in
      let os = bind-ok (list_on 1 stack) _ _ th.2 in
      let pairs = bind-ok (pairs_of os.0) _ _ os.2 in
      let ns = map (λ (p : Name × Variable Name). f p.0) pairs.0 in
      let vs = map (λ (p : Name × Variable Name). p.1) pairs.0 in
      let g = theorem-at b 0 stack th.0 h.article.stack th.1 in
      let r = pairs-renamed b f held os.0 (origin_at 1 stack) pairs.0 (list-at b 1 stack os.0 h.article.stack os.1)
      pairs.1 in
      let d = Define words.DefineConstList
      (from_list (renamed_pairs f (origin_at 1 stack) ∷ origin_at 0 stack ∷ [])) in
      defined-keeps 2 s t (constants_entry ns ∷ []) (λ ds. list_definition names ds ns vs th.0) d h
      (λ ds. list-read (renamed_pairs f (origin_at 1 stack)) (origin_at 0 stack) r.objects
      (map (renamed_pair b f held) pairs.0) th.0 ds r.fits.value_is g.value_is r.read
      ∙ (λ i. list_definition names ds
      (map-map (λ (p : Name × Variable Name). p.0) (renamed_pair b f held) pairs.0 i)
      (map-map (λ (p : Name × Variable Name). p.1) (renamed_pair b f held) pairs.0 i) th.0))
      (λ z es. list_definition-fewer [] es (none-fewer es) ns vs th.0 z)
      (r.fits.rests, (g.rests, tt))
      (All-cons (EntryFits b) (constants_entry ns) []
      (record { value_is = constants-value ns; rests = constants-rest b ns r.names-held })
      (All-nil (EntryFits b)))
      pairs.2
