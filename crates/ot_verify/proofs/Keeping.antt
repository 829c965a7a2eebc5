-- What a log is after each addition, over a table that grew.
use Rattle.std.specs.Prelude.{◌&&◌}
use Rattle.std.specs.List.{All, list_all}
use Rattle.std.proofs.Common.{◌≡◌, ℕ, Bool, true, Some, List, [], ◌∷◌, ◌++◌}
use Rattle.std.proofs.Common.{map, slice_get, Result, Ok, sym, ap, ◌∙◌, subst, inl, inr}
use Rattle.std.proofs.lemmas.Bool.{and_parts}
use Rattle.ot_logic.specs.Names.{Name}
use Rattle.ot_logic.specs.Naming.{names}
use Rattle.ot_logic.specs.Lists.{IsMember}
use Rattle.ot_logic.specs.Table.{Extends}
use Rattle.ot_logic.specs.Trees.{Tm, Sequent}
use Rattle.ot_logic.specs.Hol.{bool_ty, IsWellTyped, once_each}
use Rattle.ot_logic.specs.Answers.{unless}
use Rattle.ot_laws.specs.Theorem.{IsTheorem}
use Rattle.ot_laws.proofs.Hypotheses.{IsMember-once_each}
use Rattle.ot_laws.proofs.Tests.{tells_names}
use Rattle.ot_log_format.specs.Tokens as stated
use Rattle.ot_log_format.specs.Steps.{is_proposition, is_sequent_within, assumption_step}
use Rattle.ot_log_format.specs.State.{LogState, Change, kept_once}
use Rattle.ot_log_format.specs.State.{makes_sequent, makes_assumption, makes_definition, makes_result}
use Rattle.ot_log_format.proofs.StepSound.{proposition-is}
use Rattle.ot_log_nodes.specs.Items.{Item, HasTerm, term_at}
use Rattle.ot_log_nodes.specs.Typing.{AreTypings}
use Rattle.ot_log_nodes.specs.declared.table.typing.Entries.{Entries}
use Rattle.ot_log_nodes.proofs.ItemLemmas.{term-stays}
use Rattle.ot_log_rules.specs.Limits.{AreWellTyped}
use Rattle.ot_log_rules.specs.Statements.{sequent_at, terms_at, HasStatement, Gives}
use Rattle.ot_log_rules.specs.Keeping.{AreKeyed}
use Rattle.ot_log_rules.specs.Symbols.{IsSignature}
use Rattle.ot_log_rules.specs.Definitions.{definition_at, HasDefinition}
use Rattle.ot_log_rules.specs.declared.signature.Signature.{Signature}
use Rattle.ot_log_rules.specs.Accepting.{accepted_at, HasAccepted}
use Rattle.ot_log_rules.specs.declared.definition.Accepted.{Accepted}
use Rattle.ot_log_rules.specs.declared.kept.Kept.{Kept}
use Rattle.ot_log_rules.specs.declared.statement.Statement.{Statement}
use Rattle.ot_log_rules.proofs.Staying.{map-agree, terms-stay, sequent-stays, still-statement}
use Rattle.ot_verify.specs.Logged.{LogView, MadeBy}
use Rattle.ot_verify.specs.Held.{Held, state_of, view_of, IsAcceptable, IsWhole, Supports, Establishes}
use Rattle.ot_verify.specs.declared.log.Log.TheInside.{Inside}
use Rattle.ot_verify.specs.declared.log.Refusal.{Refusal}
use Rattle.ot_verify.proofs.Adding.{sequent-typed, theorems-typed, assumption-made, with-assumption}
use Rattle.ot_verify.proofs.Adding.{definition-made, with-definition, result-made, with-result}
use Rattle.ot_verify.proofs.Logging.{held_of, IsKept, accepted-stays, still-accepted, state-stays, log-grown}
use Rattle.ot_verify.proofs.Logging.{log-kept, sequent-here, theorem-now, state-then}
use Rattle.ot_verify.proofs.Logging.{with-sequent, sequent-made}
use Rattle.ot_logic.proofs.Members.{All-from_members}
use Rattle.ot_logic.proofs.Results.{bind-ok, same_Ok, unless-ok}
use Rattle.std.proofs.lemmas.List.{map_push}

-- a change of the same thing
pub made-by : {A : Type 0} (f : A → Change names) (x y : A) (r : Result (Unit {0}) Refusal)
    (old mid new : LogState Name)
    → mid ≡ old → y ≡ x → MadeBy r (f y) mid new → MadeBy r (f x) old new
made-by f x y r old mid new e s m = subst (λ z. MadeBy r (f x) z new) e (subst (λ z. MadeBy r (f z) mid new) s m)

-- ---- sequents
module _ (l : Inside) (k : IsKept l.nodes l) (now : LogView) (is : view_of l.nodes (held_of l) ≡ now)
    (q : Statement) where
  module _ (s : Supports now (Ok q)) where
    here : Supports (view_of l.nodes (held_of l)) (Ok q)
    here = subst (λ (v : LogView). Supports v (Ok q)) (sym is) s

    pub statement-typed : AreWellTyped (sequent_at l.nodes q)
    statement-typed = sequent-typed (sequent_at l.nodes q) here.1.sequent

    module _ (us : List Item) (e : Extends l.nodes us) where
      there : IsTheorem names (state_of us (held_of l)).assumptions (state_of us (held_of l)).definitions
          (sequent_at us q)
      there =
          subst (λ (st : LogState Name). IsTheorem names st.assumptions st.definitions (sequent_at us q))
          (sym (state-stays l.nodes us e (held_of l) k.log))
          (subst (IsTheorem names (state_of l.nodes (held_of l)).assumptions
          (state_of l.nodes (held_of l)).definitions)
          (sym (sequent-stays l.nodes us e q here.0)) here.1)

      pub statement-kept : (es : Entries) (xs : List Statement) → AreTypings us es
          → xs ≡ l.sequents.items ++ q ∷ []
          → IsWhole us (record (held_of l) { sequents = xs }) es l.signature l.assumptions l.results
      statement-kept es xs t p =
          subst (λ zs. IsWhole us (record (held_of l) { sequents = zs }) es l.signature l.assumptions l.results)
          (sym p)
          (record {
            log =
                with-sequent us (held_of l) (log-grown l.nodes us e (held_of l) k.log)
                q (still-statement l.nodes us e q here.0) there;
            typings = t;
            signature = (log-kept l us e k).signature;
            assumptions = k.assumptions;
            results = k.results;
          })

      same : sequent_at us q ≡ sequent_at now.items q
      same = sequent-stays l.nodes us e q here.0 ∙ ap (λ (v : LogView). sequent_at v.items q) is

      within : (b c : Bool) → b ≡ is_sequent_within names (sequent_at l.nodes q) → b ≡ c
          → is_sequent_within names (sequent_at us q) ≡ c
      within b c p t = ap (is_sequent_within names) (sequent-stays l.nodes us e q here.0) ∙ sym p ∙ t

      pub statement-added : (b : Bool) (xs : List Statement) → b ≡ is_sequent_within names (sequent_at l.nodes q)
          → b ≡ true
          → xs ≡ l.sequents.items ++ q ∷ []
          → MadeBy (Ok (tt {0})) (makes_sequent names (Ok (sequent_at now.items q)))
          now.state (state_of us (record (held_of l) { sequents = xs }))
      statement-added b xs p t x =
          made-by (λ z. makes_sequent names (Ok z)) (sequent_at now.items q) (sequent_at us q)
          (Ok (tt {0})) now.state (state_of us (held_of l)) _ (state-then l us now is e k) same
          (sequent-made us (held_of l) (log-grown l.nodes us e (held_of l) k.log) q (within b true p t)
          ∙ ap (λ zs. Ok (state_of us (record (held_of l) { sequents = zs }))) (sym x))

-- ---- the same lists, and what is kept beside them anew
pub whole-same : (l : Inside) (us : List Item) (h : Held) (es : Entries) (s : Signature)
    (al ql : Kept)
    → h ≡ held_of l → IsKept us l → AreTypings us es → IsSignature us (map (accepted_at us) l.definitions.items) s
    → AreKeyed al
    → AreKeyed ql → IsWhole us h es s al ql
whole-same l us h es s al ql e k t g a q =
    subst (λ z. IsWhole us z es s al ql) (sym e)
    (record { log = k.log; typings = t; signature = g; assumptions = a; results = q })

-- ---- assumptions
-- terms that are propositions are well typed
hyps-typed : (hs : List (Tm Name)) → list_all (is_proposition names) hs ≡ true → (x : Tm Name) → IsMember x hs
    → IsWellTyped names x
hyps-typed (y ∷ hs) h x (inl e) =
    subst (IsWellTyped names) e (
      bool_ty names,
      proposition-is names tells_names y
          (and_parts (is_proposition names y) (list_all (is_proposition names) hs) h).0,
    )
hyps-typed (y ∷ hs) h x (inr m) =
    hyps-typed hs (and_parts (is_proposition names y) (list_all (is_proposition names) hs) h).1 x m
hyps-typed [] h x m = absurd m

step-typed : (hyps : List (Tm Name)) (p : Tm Name) (q : Sequent Name) → assumption_step names hyps p ≡ Ok q
    → AreWellTyped q
step-typed hyps p q h =
    let test : Bool = is_proposition names p && list_all (is_proposition names) hyps in
    let (u, e, k) = bind-ok (unless stated.BadStep test) _ q h in
    let both = and_parts (is_proposition names p) (list_all (is_proposition names) hyps)
    (unless-ok stated.BadStep test u e) in
    let made : Sequent Name = record { hyps = once_each names hyps; concl = p } in
    let typed : AreWellTyped made = record {
      hyps =
          All-from_members (IsWellTyped names) (once_each names hyps)
          (λ x m. hyps-typed hyps both.1 x ((IsMember-once_each names tells_names x hyps).0 m));
      concl = (bool_ty names, proposition-is names tells_names p both.0);
    } in
    subst AreWellTyped (same_Ok made q k) typed

module _ (l : Inside) (k : IsKept l.nodes l) (now : LogView) (is : view_of l.nodes (held_of l) ≡ now)
    (hyps : List ℕ) (concl : ℕ) (q : Statement) (hs : All (HasTerm now.items) hyps) (hc : HasTerm now.items concl)
    (g : Gives (Ok q) (assumption_step names (terms_at now.items hyps) (term_at now.items concl)) now.items) where
  gives : Gives (Ok q) (assumption_step names (terms_at l.nodes hyps) (term_at l.nodes concl)) l.nodes
  gives =
      subst (λ (v : LogView). Gives (Ok q) (assumption_step names (terms_at v.items hyps) (term_at v.items concl))
      v.items)
      (sym is) g

  pub assumed-typed : AreWellTyped (sequent_at l.nodes q)
  assumed-typed = step-typed (terms_at l.nodes hyps) (term_at l.nodes concl) (sequent_at l.nodes q) gives.1

  module _ (us : List Item) (e : Extends l.nodes us) where
    pub assumed-there : HasStatement us q
    assumed-there = still-statement l.nodes us e q gives.0

    step-there : assumption_step names (terms_at us hyps) (term_at us concl) ≡ Ok (sequent_at us q)
    step-there =
        let has = subst (λ (v : LogView). All (HasTerm v.items) hyps) (sym is) hs in
        let one = subst (λ (v : LogView). HasTerm v.items concl) (sym is) hc in
        let a = terms-stay l.nodes us e hyps has in
        let b = term-stays l.nodes us e concl one in
        (λ i. assumption_step names (a i) (b i)) ∙ gives.1 ∙ ap Ok (sym (sequent-stays l.nodes us e q gives.0))

    assumed-same : sequent_at us q ≡ sequent_at now.items q
    assumed-same = sequent-stays l.nodes us e q gives.0 ∙ ap (λ (v : LogView). sequent_at v.items q) is

    module _ (b : Bool) (p : b ≡ is_sequent_within names (sequent_at l.nodes q)) where
      assumed-within : (c : Bool) → b ≡ c → is_sequent_within names (sequent_at us q) ≡ c
      assumed-within c t = ap (is_sequent_within names) (sequent-stays l.nodes us e q gives.0) ∙ sym p ∙ t

      module _ (al : Kept) (xs : List Statement) (t : b ≡ true) (x : xs ≡ l.sequents.items ++ q ∷ [])
          (once : map (sequent_at us) al.statements.items
          ≡ kept_once names (map (sequent_at us) l.assumptions.statements.items) (sequent_at us q)) where
        pub assumption-kept : (es : Entries) → AreTypings us es → AreKeyed al
            → All (HasStatement us) al.statements.items
            → IsWhole us (record (held_of l) { sequents = xs; assumptions = al.statements.items }) es l.signature al
            l.results
        assumption-kept es t' a all =
            subst (λ zs. IsWhole us (record (held_of l) { sequents = zs; assumptions = al.statements.items })
            es l.signature al l.results)
            (sym x)
            (record {
              log =
                  with-assumption us (held_of l) (log-grown l.nodes us e (held_of l) k.log) q
                  al.statements.items hyps concl assumed-there all step-there (assumed-within true t) once;
              typings = t';
              signature = (log-kept l us e k).signature;
              assumptions = a;
              results = k.results;
            })

        pub assumption-added : MadeBy (Ok (tt {0})) (makes_assumption names (Ok (sequent_at now.items q)))
            now.state (state_of us (record (held_of l) { sequents = xs; assumptions = al.statements.items }))
        assumption-added =
            made-by (λ z. makes_assumption names (Ok z)) (sequent_at now.items q) (sequent_at us q)
            (Ok (tt {0})) now.state (state_of us (held_of l)) _ (state-then l us now is e k) assumed-same
            (assumption-made us (held_of l) (log-grown l.nodes us e (held_of l) k.log)
            q al.statements.items (assumed-within true t) once
            ∙ ap (λ zs. Ok (state_of us (record (held_of l) { sequents = zs; assumptions = al.statements.items })))
            (sym x))

-- ---- results
module _ (l : Inside) (k : IsKept l.nodes l) (now : LogView) (is : view_of l.nodes (held_of l) ≡ now)
    (i : ℕ) (q : Statement) (at : slice_get l.sequents.items i ≡ Some q) (ql : Kept)
    (once : map (sequent_at l.nodes) ql.statements.items
    ≡ kept_once names (map (sequent_at l.nodes) l.results.statements.items) (sequent_at l.nodes q)) where
  pub result-kept : AreKeyed ql → All (HasStatement l.nodes) ql.statements.items
      → IsWhole l.nodes (record (held_of l) { results = ql.statements.items })
      l.typings.known.entries l.signature l.assumptions ql
  result-kept a all = record {
    log = with-result l.nodes (held_of l) k.log q ql.statements.items once all (theorem-now l k i q at);
    typings = k.typings;
    signature = k.signature;
    assumptions = k.assumptions;
    results = a;
  }

  pub result-added : (s : Sequent Name) → slice_get now.state.sequents i ≡ Some s
      → MadeBy (Ok (tt {0})) (makes_result names s) now.state
      (state_of l.nodes (record (held_of l) { results = ql.statements.items }))
  result-added s h =
      made-by (makes_result names) s (sequent_at l.nodes q) (Ok (tt {0})) now.state
      (state_of l.nodes (held_of l)) _ (ap (λ (v : LogView). v.state) is) (sequent-here l now is i q s at h)
      (result-made l.nodes (held_of l) k.log q ql.statements.items once)

-- ---- definitions
module _ (l : Inside) (k : IsKept l.nodes l) (now : LogView) (is : view_of l.nodes (held_of l) ≡ now) (a : Accepted)
    (hd : HasDefinition now.items a.definition)
    (g : Establishes now (definition_at now.items a.definition) (Ok a.theorems)) where
  given : Establishes (view_of l.nodes (held_of l)) (definition_at l.nodes a.definition) (Ok a.theorems)
  given = subst (λ (v : LogView). Establishes v (definition_at v.items a.definition) (Ok a.theorems)) (sym is) g

  pub accepted-has : HasAccepted l.nodes a
  accepted-has = record {
    definition = subst (λ (v : LogView). HasDefinition v.items a.definition) (sym is) hd;
    has = given.0;
    are = given.1;
  }

  pub accepted-typed : All (λ q. AreWellTyped (sequent_at l.nodes q)) a.theorems.items
  accepted-typed =
      theorems-typed (state_of l.nodes (held_of l)).assumptions (state_of l.nodes (held_of l)).definitions
      (accepted_at l.nodes a) l.nodes a.theorems.items given.2 given.1

  module _ (us : List Item) (e : Extends l.nodes us) where
    pub accepted-there : HasAccepted us a
    accepted-there = still-accepted l.nodes us e a accepted-has

    acceptable-there : IsAcceptable (state_of us (held_of l)).assumptions (state_of us (held_of l)).definitions
        (accepted_at us a)
    acceptable-there =
        subst (λ (st : LogState Name). IsAcceptable st.assumptions st.definitions (accepted_at us a))
        (sym (state-stays l.nodes us e (held_of l) k.log))
        (subst (IsAcceptable (state_of l.nodes (held_of l)).assumptions (state_of l.nodes (held_of l)).definitions)
        (sym (accepted-stays l.nodes us e a accepted-has)) given.2)

    accepted-same : accepted_at us a ≡ definition_at now.items a.definition
    accepted-same = accepted-stays l.nodes us e a accepted-has
        ∙ ap (λ (v : LogView). definition_at v.items a.definition) is

    module _ (b : Bool) (p : b ≡ list_all (is_sequent_within names) (map (sequent_at l.nodes) a.theorems.items)) where
      accepted-within : (c : Bool) → b ≡ c → list_all (is_sequent_within names) (map (sequent_at us) a.theorems.items)
          ≡ c
      accepted-within c t =
          ap (list_all (is_sequent_within names)) (map-agree (HasStatement l.nodes)
          (sequent_at l.nodes) (sequent_at us) (sequent-stays l.nodes us e) a.theorems.items given.0)
          ∙ sym p
          ∙ t

      module _ (t : b ≡ true) (qs : List Statement)
          (same' : map (sequent_at us) qs ≡ map (sequent_at us) a.theorems.items) (xs : List Statement)
          (ds : List Accepted) (x : xs ≡ l.sequents.items ++ qs) (y : ds ≡ l.definitions.items ++ a ∷ []) where
        pub definition-kept : (es : Entries) (s : Signature) → AreTypings us es
            → All (HasStatement us) qs
            → IsSignature us (map (accepted_at us) l.definitions.items ++ accepted_at us a ∷ []) s
            → IsWhole us (record (held_of l) { sequents = xs; definitions = ds }) es s l.assumptions l.results
        definition-kept es s t' all sig =
            subst (λ (z : List Statement × List Accepted). IsWhole us
            (record (held_of l) { sequents = z.0; definitions = z.1 }) es s l.assumptions l.results)
            (λ i. (sym x i, sym y i))
            (record {
              log =
                  with-definition us (held_of l) (log-grown l.nodes us e (held_of l) k.log)
                  a accepted-there qs same' all acceptable-there (accepted-within true t);
              typings = t';
              signature = subst (λ dl. IsSignature us dl s) (sym (map_push (accepted_at us) l.definitions.items a))
                  sig;
              assumptions = k.assumptions;
              results = k.results;
            })

        pub definition-added : MadeBy (Ok (tt {0}))
            (makes_definition names (λ dl. Ok (definition_at now.items a.definition)))
            now.state (state_of us (record (held_of l) { sequents = xs; definitions = ds }))
        definition-added =
            made-by (λ z. makes_definition names (λ dl. Ok z)) (definition_at now.items a.definition)
            (accepted_at us a)
            (Ok (tt {0})) now.state (state_of us (held_of l)) _ (state-then l us now is e k) accepted-same
            (definition-made us (held_of l) (log-grown l.nodes us e (held_of l) k.log)
            a accepted-there qs same' (accepted-within true t)
            ∙ (λ i. Ok (state_of us (record (held_of l) { sequents = sym x i; definitions = sym y i }))))
