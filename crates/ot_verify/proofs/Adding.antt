-- What assumptions, definitions and results add to a log.
use Rattle.std.specs.List.{All, AllByRecursion, list_all}
use Rattle.std.proofs.Common.{Result, ◌≡◌, ℕ, Bool, true, List, []}
use Rattle.std.proofs.Common.{◌∷◌, ◌++◌, map, Ok, sym, ap, ◌∙◌, subst}
use Rattle.std.proofs.lemmas.List.{map-append, map_push}
use Rattle.std.proofs.lemmas.List.Elements.{All-nil, All-cons, All-push, All-append}
use Rattle.ot_logic.specs.Names.{Name}
use Rattle.ot_logic.specs.Naming.{names}
use Rattle.ot_logic.specs.Lists.{IsMember}
use Rattle.ot_logic.specs.Trees.{Tm, Sequent, Definition}
use Rattle.ot_logic.specs.Hol.{bool_ty, HasType as IsOfType, IsWellTyped, IsSequent, theorems}
use Rattle.ot_logic.specs.Answers.{◌>>=◌, unless}
use Rattle.ot_laws.specs.Theorem.{IsTheorem}
use Rattle.ot_laws.proofs.Tests.{tells_names}
use Rattle.ot_laws.proofs.Theorems.{defined-theorem}
use Rattle.ot_log_format.specs.Tokens as stated
use Rattle.ot_log_format.specs.Steps.{is_sequent_within, assumption_step}
use Rattle.ot_log_format.specs.State.{kept_once, makes_assumption, makes_definition, makes_result}
use Rattle.ot_log_format.proofs.StateSound.{assumption-sound, definition-sound, result-sound}
use Rattle.ot_log_nodes.specs.Items.{Item, term_at}
use Rattle.ot_log_rules.specs.Limits.{AreWellTyped}
use Rattle.ot_log_rules.specs.Statements.{terms_at, sequent_at, HasStatement}
use Rattle.ot_log_rules.specs.declared.statement.Statement.{Statement}
use Rattle.ot_log_rules.specs.Accepting.{accepted_at, HasAccepted}
use Rattle.ot_log_rules.specs.declared.definition.Accepted.{Accepted}
use Rattle.ot_verify.specs.Held.{Held, state_of, IsAcceptable, IsLog}
use Rattle.ot_verify.proofs.Sound.{sound-stated, sound-here, premise-stated, acceptable-stated}
use Rattle.ot_logic.proofs.Members.{All-from_members, IsMember-map, IsMember-place}
use Rattle.ot_logic.proofs.Results.{same_Ok}

-- ---- terms of theorems are well typed
all-typed : (ts : List (Tm Name)) → AllByRecursion (λ h. IsOfType names h (bool_ty names)) ts
    → All (IsWellTyped names) ts
all-typed [] h = All-nil (IsWellTyped names)
all-typed (t ∷ ts) h = All-cons (IsWellTyped names) t ts (bool_ty names, h.0) (all-typed ts h.1)

pub sequent-typed : (q : Sequent Name) → IsSequent names q → AreWellTyped q
sequent-typed q h = record { hyps = all-typed q.hyps h.hyps; concl = (bool_ty names, h.concl) }

pub theorems-typed : (al : List (Sequent Name)) (dl : List (Definition Name))
    (d : Definition Name) (ts : List Item) (qs : List Statement)
    → IsAcceptable al dl d → map (sequent_at ts) qs ≡ theorems names d → All (λ q. AreWellTyped (sequent_at ts q)) qs
theorems-typed al dl d ts qs a are =
    All-from_members (λ q. AreWellTyped (sequent_at ts q)) qs (λ q m.
    let (j, at) = IsMember-place (sequent_at ts q) (theorems names d)
    (subst (IsMember (sequent_at ts q)) are (IsMember-map (sequent_at ts) q qs m)) in
    sequent-typed (sequent_at ts q) (defined-theorem names tells_names al dl d
    a.next.fine (premise-stated d a.premise) j (sequent_at ts q) at).sequent)

-- ---- what is added
module _ (ts : List Item) (h : Held) (l : IsLog ts h) where
  -- an assumption: its sequent, and it among the assumptions where it is new
  module _ (q : Statement) (al : List Statement) where
    abbrev assumed : Held
    assumed = record h { sequents = h.sequents ++ q ∷ []; assumptions = al }

    assumption-by : (b : Bool) → is_sequent_within names (sequent_at ts q) ≡ b
        → makes_assumption names (Ok (sequent_at ts q)) (state_of ts h)
        ≡ (unless stated.LogNesting b
        >>= λ _. Ok (record (state_of ts h) {
          sequents = map (sequent_at ts) h.sequents ++ sequent_at ts q ∷ [];
          assumptions = kept_once names (map (sequent_at ts) h.assumptions) (sequent_at ts q);
        }))
    assumption-by b e =
        ap (λ b. unless stated.LogNesting b
        >>= λ _. Ok (record (state_of ts h) {
          sequents = map (sequent_at ts) h.sequents ++ sequent_at ts q ∷ [];
          assumptions = kept_once names (map (sequent_at ts) h.assumptions) (sequent_at ts q);
        })) e

    pub assumption-made : is_sequent_within names (sequent_at ts q) ≡ true
        → map (sequent_at ts) al ≡ kept_once names (map (sequent_at ts) h.assumptions) (sequent_at ts q)
        → makes_assumption names (Ok (sequent_at ts q)) (state_of ts h) ≡ Ok (state_of ts assumed)
    assumption-made e k =
        assumption-by true e
        ∙ (λ i. Ok
        (record (state_of ts h) {
          sequents = sym (map_push (sequent_at ts) h.sequents q) i;
          assumptions = sym k i;
        }))

    pub with-assumption : (hyps : List ℕ) (concl : ℕ) → HasStatement ts q → All (HasStatement ts) al
        → assumption_step names (terms_at ts hyps) (term_at ts concl) ≡ Ok (sequent_at ts q)
        → is_sequent_within names (sequent_at ts q) ≡ true
        → map (sequent_at ts) al ≡ kept_once names (map (sequent_at ts) h.assumptions) (sequent_at ts q)
        → IsLog ts assumed
    with-assumption hyps concl has all step e k = record {
      types = l.types;
      terms = l.terms;
      sequents = All-push (HasStatement ts) h.sequents q l.sequents has;
      assumptions = all;
      definitions = l.definitions;
      results = l.results;
      sound =
          sound-here (state_of ts assumed) (assumption-sound names tells_names (terms_at ts hyps)
          (term_at ts concl) (state_of ts h) (state_of ts assumed) (sound-stated (state_of ts h) l.sound)
          (ap (λ z. makes_assumption names z (state_of ts h)) step ∙ assumption-made e k));
    }

  -- a definition with its theorems
  module _ (a : Accepted) (has : HasAccepted ts a) where
    abbrev d : Definition Name
    d = accepted_at ts a

    definition-by : (b : Bool) → list_all (is_sequent_within names) (map (sequent_at ts) a.theorems.items) ≡ b
        → makes_definition names (λ dl. Ok d) (state_of ts h)
        ≡ (unless stated.LogNesting b
        >>= λ _. Ok (record (state_of ts h) {
          sequents = map (sequent_at ts) h.sequents ++ theorems names d;
          definitions = map (accepted_at ts) h.definitions ++ d ∷ [];
        }))
    definition-by b e =
        ap (λ b. unless stated.LogNesting b
        >>= λ _. Ok (record (state_of ts h) {
          sequents = map (sequent_at ts) h.sequents ++ theorems names d;
          definitions = map (accepted_at ts) h.definitions ++ d ∷ [];
        }))
        (ap (list_all (is_sequent_within names)) (sym has.are) ∙ e)

    -- which are copied
    module _ (qs : List Statement) (same : map (sequent_at ts) qs ≡ map (sequent_at ts) a.theorems.items) where
      abbrev established : Held
      established = record h { sequents = h.sequents ++ qs; definitions = h.definitions ++ a ∷ [] }

      pub definition-made : list_all (is_sequent_within names) (map (sequent_at ts) a.theorems.items) ≡ true
          → makes_definition names (λ dl. Ok d) (state_of ts h) ≡ Ok (state_of ts established)
      definition-made e =
          let all = ap (λ z. map (sequent_at ts) h.sequents ++ z) (sym has.are ∙ sym same)
          ∙ sym (map-append (sequent_at ts) h.sequents qs) in
          definition-by true e
          ∙ (λ i. Ok
          (record (state_of ts h)
          { sequents = all i; definitions = sym (map_push (accepted_at ts) h.definitions a) i }))

      pub with-definition : All (HasStatement ts) qs
          → IsAcceptable (map (sequent_at ts) h.assumptions) (map (accepted_at ts) h.definitions) d
          → list_all (is_sequent_within names) (map (sequent_at ts) a.theorems.items) ≡ true → IsLog ts established
      with-definition all fine e = record {
        types = l.types;
        terms = l.terms;
        sequents = All-append (HasStatement ts) h.sequents qs l.sequents all;
        assumptions = l.assumptions;
        definitions = All-push (HasAccepted ts) h.definitions a l.definitions has;
        results = l.results;
        sound =
            sound-here (state_of ts established) (definition-sound names tells_names (λ dl. Ok d) (state_of ts h)
            (state_of ts established)
            (λ c is. acceptable-stated (map (sequent_at ts) h.assumptions) (map (accepted_at ts) h.definitions) c
            (as-given c is))
            (sound-stated (state_of ts h) l.sound) (definition-made e));
      }
        where
          as-given : (c : Definition Name) → ◌≡◌ {A = Result (Definition Name) stated.LogFault} (Ok d) (Ok c)
              → IsAcceptable (map (sequent_at ts) h.assumptions) (map (accepted_at ts) h.definitions) c
          as-given c is =
              subst (IsAcceptable (map (sequent_at ts) h.assumptions) (map (accepted_at ts) h.definitions))
              (same_Ok d c is) fine

  -- a result, where it is new
  module _ (q : Statement) (ql : List Statement)
      (kept : map (sequent_at ts) ql ≡ kept_once names (map (sequent_at ts) h.results) (sequent_at ts q)) where
    abbrev resulting : Held
    resulting = record h { results = ql }

    pub result-made : makes_result names (sequent_at ts q) (state_of ts h) ≡ Ok (state_of ts resulting)
    result-made = λ i. Ok (record (state_of ts h) { results = sym kept i })

    pub with-result : All (HasStatement ts) ql
        → IsTheorem names (map (sequent_at ts) h.assumptions) (map (accepted_at ts) h.definitions) (sequent_at ts q)
        → IsLog ts resulting
    with-result all follows = record {
      types = l.types;
      terms = l.terms;
      sequents = l.sequents;
      assumptions = l.assumptions;
      definitions = l.definitions;
      results = all;
      sound =
          sound-here (state_of ts resulting) (result-sound names tells_names (sequent_at ts q) (state_of ts h)
          (state_of ts resulting) follows (sound-stated (state_of ts h) l.sound) result-made);
    }
