-- A log whose table grows, and what is added to it.
use Rattle.std.specs.Prelude.{◌≢◌}
use Rattle.std.proofs.Common.{◌≡◌, ℕ, true, List, [], ◌∷◌, ◌++◌, map, slice_get, Option}
use Rattle.std.proofs.Common.{Some, None, Result, Ok, Err, sym, ap, ◌∙◌, subst, zero, suc, inl, inr}
use Rattle.std.proofs.lemmas.Option.{same_Some}
use Rattle.std.proofs.lemmas.List.Elements.{All-nil, All-push, All-weaker}
use Rattle.ot_logic.specs.Names.{Name}
use Rattle.ot_logic.specs.Naming.{names}
use Rattle.ot_logic.specs.Lists.{IsMember}
use Rattle.ot_logic.specs.Trees.{Ty, Tm, Sequent}
use Rattle.ot_logic.specs.Hol.{theorems}
use Rattle.ot_logic.specs.Answers.{◌>>=◌, unless}
use Rattle.ot_logic.specs.Table.{Extends}
use Rattle.ot_laws.specs.Theorem.{IsTheorem}
use Rattle.ot_log_format.specs.Tokens as stated
use Rattle.ot_log_format.specs.Steps.{Step, is_sequent_within}
use Rattle.ot_log_format.specs.State.{LogState, nothing_made, makes_type, makes_term, makes_sequent}
use Rattle.ot_log_format.proofs.StateSound.{nothing-sound}
use Rattle.ot_log_nodes.specs.Items.{Item, IsName, HasType, HasTerm, type_at, term_at}
use Rattle.ot_log_nodes.specs.Typing.{AreTypings}
use Rattle.ot_log_nodes.specs.declared.table.typing.Entries.{Entries}
use Rattle.ot_log_nodes.proofs.TypingLemmas.{typings-grown}
use Rattle.ot_log_nodes.proofs.ItemLemmas.{type-stays, term-stays, still-type, still-term}
use Rattle.ot_log_rules.specs.Statements.{sequent_at, HasStatement, Gives}
use Rattle.ot_log_rules.specs.declared.statement.Statement.{Statement}
use Rattle.ot_log_rules.specs.declared.statement.StepFault.{StepFault}
use Rattle.ot_log_rules.specs.declared.statement.StepFault.TheVariants as step
use Rattle.ot_log_rules.specs.Accepting.{accepted_at, HasAccepted}
use Rattle.ot_log_rules.specs.declared.definition.Accepted.{Accepted}
use Rattle.ot_log_rules.specs.Symbols.{IsSignature}
use Rattle.ot_log_rules.specs.Keeping.{AreKeyed}
use Rattle.ot_log_rules.specs.declared.signature.Signature.{Signature}
use Rattle.ot_log_rules.specs.declared.kept.Kept.{Kept}
use Rattle.ot_log_rules.proofs.Freshness.{signature-grown}
use Rattle.ot_log_rules.proofs.Staying.{map-agree, sequent-stays, still-statement, definition-stays, still-definition}
use Rattle.ot_verify.specs.Logged.{LogView, IsNamed, MeetsNames, MadeBy}
use Rattle.ot_verify.specs.Held.{Held, state_of, view_of, IsSound, IsLog, IsWhole, Supports, AddsSequent}
use Rattle.ot_verify.proofs.Sound.{sound-here}
use Rattle.ot_verify.specs.declared.log.Log.TheInside.{Inside}
use Rattle.ot_verify.specs.declared.log.Refusal.{Refusal}
use Rattle.ot_logic.proofs.Elements.{All-slice_get, slice_get-map}
use Rattle.ot_logic.proofs.Members.{IsMember-at, IsMember-cases}
use Rattle.std.proofs.lemmas.List.{map_push}

-- ---- places
pub map-none : {X A : Type 0} (f : X → A) (xs : List X) (i : ℕ) (a : A) → slice_get xs i ≡ None
    → slice_get (map f xs) i ≢ Some a
map-none f [] i a h e = cc
map-none f (y ∷ xs) zero a h e = cc
map-none f (y ∷ xs) (suc i) a h e = map-none f xs i a h e

-- what stands at a place is what the number there stands for
pub found-at : {X A : Type 0} (f : X → A) (xs : List X) (i : ℕ) (x : X) (a : A) → slice_get xs i ≡ Some x
    → slice_get (map f xs) i ≡ Some a → f x ≡ a
found-at f xs i x a h e = same_Some (f x) a (sym (slice_get-map f xs i x h) ∙ e)

-- a place of a list that is another
pub at-same : {X : Type 0} (xs ys : List X) (i : ℕ) (o : Option X) → xs ≡ ys → slice_get xs i ≡ o → slice_get ys i ≡ o
at-same xs ys i o e h = subst (λ s. slice_get s i ≡ o) e h

-- ---- a table that grows
module _ (ts us : List Item) (e : Extends ts us) where
  pub accepted-stays : (a : Accepted) → HasAccepted ts a → accepted_at us a ≡ accepted_at ts a
  accepted-stays a h = definition-stays ts us e a.definition h.definition

  pub still-accepted : (a : Accepted) → HasAccepted ts a → HasAccepted us a
  still-accepted a h = record {
    definition = still-definition ts us e a.definition h.definition;
    has = All-weaker (HasStatement ts) (HasStatement us) (still-statement ts us e) a.theorems.items h.has;
    are =
        map-agree (HasStatement ts) (sequent_at ts) (sequent_at us) (sequent-stays ts us e) a.theorems.items h.has
        ∙ h.are
        ∙ ap (theorems names) (sym (accepted-stays a h));
  }

module _ (ts us : List Item) (e : Extends ts us) (h : Held) (l : IsLog ts h) where
  pub state-stays : state_of us h ≡ state_of ts h
  state-stays =
      let types = map-agree (HasType ts) (type_at ts) (type_at us) (type-stays ts us e) h.types l.types in
      let terms = map-agree (HasTerm ts) (term_at ts) (term_at us) (term-stays ts us e) h.terms l.terms in
      let sequents = map-agree (HasStatement ts) (sequent_at ts) (sequent_at us) (sequent-stays ts us e) h.sequents
      l.sequents in
      let assumptions = map-agree (HasStatement ts) (sequent_at ts)
      (sequent_at us) (sequent-stays ts us e) h.assumptions l.assumptions in
      let definitions = map-agree (HasAccepted ts) (accepted_at ts)
      (accepted_at us) (accepted-stays ts us e) h.definitions l.definitions in
      let results = map-agree (HasStatement ts) (sequent_at ts) (sequent_at us) (sequent-stays ts us e) h.results
      l.results in
      λ i. record {
        types = types i;
        terms = terms i;
        sequents = sequents i;
        assumptions = assumptions i;
        definitions = definitions i;
        results = results i;
      }

  pub log-grown : IsLog us h
  log-grown = record {
    types = All-weaker (HasType ts) (HasType us) (still-type ts us e) h.types l.types;
    terms = All-weaker (HasTerm ts) (HasTerm us) (still-term ts us e) h.terms l.terms;
    sequents = All-weaker (HasStatement ts) (HasStatement us) (still-statement ts us e) h.sequents l.sequents;
    assumptions = All-weaker (HasStatement ts) (HasStatement us) (still-statement ts us e) h.assumptions
        l.assumptions;
    definitions = All-weaker (HasAccepted ts) (HasAccepted us) (still-accepted ts us e) h.definitions l.definitions;
    results = All-weaker (HasStatement ts) (HasStatement us) (still-statement ts us e) h.results l.results;
    sound = subst IsSound (sym state-stays) l.sound;
  }

-- ---- what is added
module _ (ts : List Item) (h : Held) (l : IsLog ts h) where
  -- a sequent that follows, within the limit
  pub with-sequent : (q : Statement) → HasStatement ts q
      → IsTheorem names (map (sequent_at ts) h.assumptions) (map (accepted_at ts) h.definitions) (sequent_at ts q)
      → IsLog ts (record h { sequents = h.sequents ++ q ∷ [] })
  with-sequent q has follows =
      let T : Sequent Name → Type 0 =
      IsTheorem names (map (sequent_at ts) h.assumptions) (map (accepted_at ts) h.definitions) in
      let more : (r : Sequent Name) → IsMember r (map (sequent_at ts) h.sequents ++ sequent_at ts q ∷ []) → T r =
      λ r m. elim (IsMember-cases r (map (sequent_at ts) h.sequents) (sequent_at ts q ∷ []) m)
      [ inl i ↦ l.sound.sequents r i | inr i ↦ elim i [ inl same ↦ subst T same follows | inr j ↦ absurd j ] ] in
      record {
        types = l.types;
        terms = l.terms;
        sequents = All-push (HasStatement ts) h.sequents q l.sequents has;
        assumptions = l.assumptions;
        definitions = l.definitions;
        results = l.results;
        sound = record {
          sequents = subst (λ ys. (r : Sequent Name) → IsMember r ys → T r)
              (sym (map_push (sequent_at ts) h.sequents q)) more;
          assumptions = l.sound.assumptions;
          accepted = l.sound.accepted;
          results = l.sound.results;
        };
      }

  pub sequent-made : (q : Statement) → is_sequent_within names (sequent_at ts q) ≡ true
      → makes_sequent names (Ok (sequent_at ts q)) (state_of ts h)
      ≡ Ok (state_of ts (record h { sequents = h.sequents ++ q ∷ [] }))
  sequent-made q e =
      ap (λ b. unless stated.LogNesting b
      >>= λ _. Ok (record (state_of ts h) { sequents = map (sequent_at ts) h.sequents ++ sequent_at ts q ∷ [] }))
      e
      ∙ ap (λ ys. Ok (record (state_of ts h) { sequents = ys })) (sym (map_push (sequent_at ts) h.sequents q))

-- ---- a record's change over a table that grew
pub made-type : (t u : Ty Name) (r : Result (Unit {0}) Refusal) (old mid new : LogState Name) → mid ≡ old → u ≡ t
    → MadeBy r (makes_type names u) mid new → MadeBy r (makes_type names t) old new
made-type t u r old mid new e s m =
    subst (λ z. MadeBy r (makes_type names t) z new) e (subst (λ z. MadeBy r (makes_type names z) mid new) s m)

pub made-term : (t u : Tm Name) (r : Result (Unit {0}) Refusal) (old mid new : LogState Name) → mid ≡ old → u ≡ t
    → MadeBy r (makes_term names u) mid new → MadeBy r (makes_term names t) old new
made-term t u r old mid new e s m =
    subst (λ z. MadeBy r (makes_term names t) z new) e (subst (λ z. MadeBy r (makes_term names z) mid new) s m)

pub made-sequent : (made : Result Statement StepFault) (case : Step names)
    (r : Result (Unit {0}) Refusal) (old : LogState Name) (mid new : LogView)
    → mid.state ≡ old → Gives made case mid.items → AddsSequent r made mid new
    → MadeBy r (makes_sequent names case) old new.state
made-sequent (Ok q) case r old mid new e g a =
    subst (λ z. MadeBy r (makes_sequent names z) old new.state) (sym g.1)
    (subst (λ z. MadeBy r (makes_sequent names (Ok (sequent_at mid.items q))) z new.state) e a)
made-sequent (Err step.BadStep) case r old mid new e g a =
    subst (λ z. MadeBy z (makes_sequent names case) old new.state) (sym a) (ap (λ z. makes_sequent names z old) g)
made-sequent (Err (step.Memory memory)) case r old mid new e g a =
    subst (λ z. MadeBy z (makes_sequent names case) old new.state) (sym a) tt

-- a sequent that a case gives follows where the case is sound
pub supported : (made : Result Statement StepFault) (case : Step names) (l : LogView) → Gives made case l.items
    → ((q : Sequent Name) → case ≡ Ok q → IsTheorem names l.state.assumptions l.state.definitions q) → Supports l made
supported (Ok q) case l g s = (g.0, s (sequent_at l.items q) g.1)
supported (Err step.BadStep) case l g s = tt
supported (Err (step.Memory memory)) case l g s = tt

-- ---- the log of the code, whose table grows
abbrev pub held_of : Inside → Held
held_of l = record {
  types = l.types.items;
  terms = l.terms.items;
  sequents = l.sequents.items;
  assumptions = l.assumptions.statements.items;
  definitions = l.definitions.items;
  results = l.results.statements.items;
}

abbrev pub IsKept : List Item → Inside → Type 0
IsKept ts l = IsWhole ts (held_of l) l.typings.known.entries l.signature l.assumptions l.results

pub log-kept : (l : Inside) (us : List Item) → Extends l.nodes us → IsKept l.nodes l → IsKept us l
log-kept l us e k = record {
  log = log-grown l.nodes us e (held_of l) k.log;
  typings = typings-grown l.nodes us e l.typings.known.entries k.typings;
  signature =
      subst (λ dl. IsSignature us dl l.signature)
      (sym (ap (λ (s : LogState Name). s.definitions) (state-stays l.nodes us e (held_of l) k.log)))
      (signature-grown l.nodes us e (map (accepted_at l.nodes) l.definitions.items) l.signature k.signature);
  assumptions = k.assumptions;
  results = k.results;
}

-- with further typings
pub with-typings : (l : Inside) (us : List Item) (es : Entries) → IsKept us l → AreTypings us es
    → IsWhole us (held_of l) es l.signature l.assumptions l.results
with-typings l us es k t = record {
  log = k.log;
  typings = t;
  signature = k.signature;
  assumptions = k.assumptions;
  results = k.results;
}

-- and what it stands for is the same
pub state-then : (l : Inside) (us : List Item) (now : LogView) → view_of l.nodes (held_of l) ≡ now
    → Extends l.nodes us
    → IsKept l.nodes l → state_of us (held_of l) ≡ now.state
state-then l us now is e k = state-stays l.nodes us e (held_of l) k.log ∙ ap (λ (v : LogView). v.state) is

-- ---- what the old tables say of an operand
module _ (l : Inside) (now : LogView) (is : view_of l.nodes (held_of l) ≡ now) where
  pub named-here : (i : ℕ) (n : Name) → IsNamed now i n → IsName l.nodes i n
  named-here i n h = subst (λ (v : LogView). IsNamed v i n) (sym is) h

  pub type-here : (i id : ℕ) (t : Ty Name) → slice_get l.types.items i ≡ Some id → slice_get now.state.types i
      ≡ Some t
      → type_at l.nodes id ≡ t
  type-here i id t h e =
      found-at (type_at l.nodes) l.types.items i id t h
      (subst (λ (v : LogView). slice_get v.state.types i ≡ Some t) (sym is) e)

  pub term-here : (i id : ℕ) (t : Tm Name) → slice_get l.terms.items i ≡ Some id → slice_get now.state.terms i
      ≡ Some t
      → term_at l.nodes id ≡ t
  term-here i id t h e =
      found-at (term_at l.nodes) l.terms.items i id t h
      (subst (λ (v : LogView). slice_get v.state.terms i ≡ Some t) (sym is) e)

  pub sequent-here : (i : ℕ) (q : Statement) (s : Sequent Name) → slice_get l.sequents.items i ≡ Some q
      → slice_get now.state.sequents i ≡ Some s → sequent_at l.nodes q ≡ s
  sequent-here i q s h e =
      found-at (sequent_at l.nodes) l.sequents.items i q s h
      (subst (λ (v : LogView). slice_get v.state.sequents i ≡ Some s) (sym is) e)

  pub no-type : (i : ℕ) (t : Ty Name) → slice_get l.types.items i ≡ None → slice_get now.state.types i ≢ Some t
  no-type i t h e =
      map-none (type_at l.nodes) l.types.items i t h
      (subst (λ (v : LogView). slice_get v.state.types i ≡ Some t) (sym is) e)

  pub no-term : (i : ℕ) (t : Tm Name) → slice_get l.terms.items i ≡ None → slice_get now.state.terms i ≢ Some t
  no-term i t h e =
      map-none (term_at l.nodes) l.terms.items i t h
      (subst (λ (v : LogView). slice_get v.state.terms i ≡ Some t) (sym is) e)

  pub no-sequent : (i : ℕ) (s : Sequent Name) → slice_get l.sequents.items i ≡ None
      → slice_get now.state.sequents i ≢ Some s
  no-sequent i s h e =
      map-none (sequent_at l.nodes) l.sequents.items i s h
      (subst (λ (v : LogView). slice_get v.state.sequents i ≡ Some s) (sym is) e)

-- a sequent of the log is a theorem, in the table that grew too
pub theorem-here : (l : Inside) (us : List Item) → Extends l.nodes us → IsKept l.nodes l → (i : ℕ) (q : Statement)
    → slice_get l.sequents.items i ≡ Some q
    → IsTheorem names (state_of us (held_of l)).assumptions (state_of us (held_of l)).definitions
    (sequent_at l.nodes q)
theorem-here l us e k i q h =
    subst (λ (s : LogState Name). IsTheorem names s.assumptions s.definitions (sequent_at l.nodes q))
    (sym (state-stays l.nodes us e (held_of l) k.log))
    (k.log.sound.sequents (sequent_at l.nodes q)
    (IsMember-at (map (sequent_at l.nodes) l.sequents.items) i
    (sequent_at l.nodes q) (slice_get-map (sequent_at l.nodes) l.sequents.items i q h)))

-- its numbers are of the table
pub statement-here : (l : Inside) → IsKept l.nodes l → (i : ℕ) (q : Statement) → slice_get l.sequents.items i ≡ Some q
    → HasStatement l.nodes q
statement-here l k i q h = All-slice_get (HasStatement l.nodes) l.sequents.items i q k.log.sequents h

pub typed-here : (l : Inside) → IsKept l.nodes l → (i id : ℕ) → slice_get l.types.items i ≡ Some id
    → HasType l.nodes id
typed-here l k i id h = All-slice_get (HasType l.nodes) l.types.items i id k.log.types h

pub held-here : (l : Inside) → IsKept l.nodes l → (i id : ℕ) → slice_get l.terms.items i ≡ Some id
    → HasTerm l.nodes id
held-here l k i id h = All-slice_get (HasTerm l.nodes) l.terms.items i id k.log.terms h

-- a sequent of the log is a theorem
pub theorem-now : (l : Inside) → IsKept l.nodes l → (i : ℕ) (q : Statement) → slice_get l.sequents.items i ≡ Some q
    → IsTheorem names (state_of l.nodes (held_of l)).assumptions (state_of l.nodes (held_of l)).definitions
    (sequent_at l.nodes q)
theorem-now l k i q h =
    k.log.sound.sequents (sequent_at l.nodes q)
    (IsMember-at (map (sequent_at l.nodes) l.sequents.items) i
    (sequent_at l.nodes q) (slice_get-map (sequent_at l.nodes) l.sequents.items i q h))

-- nothing is made yet
abbrev pub nothing_held : Held
nothing_held = record { types = []; terms = []; sequents = []; assumptions = []; definitions = []; results = [] }

pub nothing-whole : (ts : List Item) (h : Held) (es : Entries) (s : Signature) (al ql : Kept)
    → h ≡ nothing_held → AreTypings ts es → IsSignature ts [] s → AreKeyed al → AreKeyed ql → IsWhole ts h es s al ql
nothing-whole ts h es s al ql e t g a q = record {
  log = subst (IsLog ts) (sym e) (record {
    types = All-nil (HasType ts);
    terms = All-nil (HasTerm ts);
    sequents = All-nil (HasStatement ts);
    assumptions = All-nil (HasStatement ts);
    definitions = All-nil (HasAccepted ts);
    results = All-nil (HasStatement ts);
    sound = sound-here nothing_made (nothing-sound names);
  });
  typings = t;
  signature = subst (λ (h : Held). IsSignature ts (map (accepted_at ts) h.definitions) s) (sym e) g;
  assumptions = a;
  results = q;
}

-- names may have been met
pub met : (l : Inside) (us : List Item) (now : LogView) → view_of l.nodes (held_of l) ≡ now → Extends l.nodes us
    → IsKept l.nodes l → MeetsNames now (view_of us (held_of l))
met l us now is e k =
    record { items = subst (λ (v : LogView). Extends v.items us) is e; state = state-then l us now is e k }
