-- What the kernel's open definition of a type operator gives is what the row of version 5 states.
use Rattle.std.specs.Prelude.{◌≡◌, ◌<◌, ◌++◌, ◌⊎◌, ℕ, suc, Bool, true, false}
use Rattle.std.specs.Prelude.{List, [], ◌∷◌, length, map, Result, Ok, Err}
use Rattle.std.proofs.Common.{refl, sym, ap, ◌∙◌, inl, inr, arith, length-append}
use Rattle.ot_logic.specs.Names.{Name}
use Rattle.ot_logic.specs.Naming.{names}
use Rattle.ot_logic.specs.Trees.{Ty, TyOp, Tm, Free, Con, Bound, App, Abs, Sequent, Definition, TyDef}
use Rattle.ot_logic.specs.Hol.{bool_ty, HasType, is_shallow, tys_of_vars, theorems}
use Rattle.ot_logic.specs.Faults.{Fault, Nesting}
use Rattle.ot_logic.specs.Answers.{◌>>=◌, unless}
use Rattle.ot_kernel.specs.Defining.{type_definition}
use Rattle.ot_kernel.specs.Opening.{var_r, beta_at, open_type_definition, opened_by}
use Rattle.ot_kernel.specs.State as kernel
use Rattle.ot_trace.specs.Origins.{Origin}
use Rattle.ot_machine.specs.States.{Entry, RunState}
use Rattle.ot_machine.specs.Rows.{definitions_of, theorem_entries}
use Rattle.ot_machine.specs.Defining as numbers
use Rattle.ot_machine.specs.Defining.{Rule, closed_defined, open_defined, AreOperandsIn}
use Rattle.ot_machine.specs.declared.session.Session.{Session}
use Rattle.ot_machine.specs.Meaning.{origin_of, run_of, IsRun, Grows}
use Rattle.ot_machine.specs.OpenTypes.{first_origin, second_origin, open_entries}
use Rattle.ot_machine.specs.Version5.{open_theorems}
use Rattle.ot_machine.proofs.Tops.{same-ok}
use Rattle.ot_machine.proofs.Defined.{twice-ok, first-ok, double}
use Rattle.ot_machine.proofs.Stepped.{definitions_of-made, with_definition, defined_then, defined-refused}
use Rattle.ot_machine.proofs.OpenRow.{open-pushed, open-refused}
use Rattle.ot_machine.proofs.Canonical.{name-later, names-later, theorem-later, names-inside}
use Rattle.ot_logic.proofs.Results.{bind-ok, unless-ok}

never : {X E : Type 0} (r : Result (Unit {0}) E) (f : E) (x : X) → (r >>= λ _. Err f) ≡ Ok x → ⊥
never (Ok u) f x e = cc
never (Err g) f x e = cc

module _ (dl : List (Definition Name)) (n abs rep : Name) (vars : List Name) (hyps : List (Tm Name))
    (d : Origin Name) where
  abbrev premise : Tm Name → Sequent Name
  premise c = record { hyps = hyps; concl = c }

  abbrev closed : Tm Name → Result (Definition Name) (Fault Name)
  closed c = type_definition names dl n abs rep vars (premise c)

  abbrev new : Ty Name
  new = TyOp n (tys_of_vars names vars)

  abbrev low : Tm Name → Bool
  low c = is_shallow names (beta_at names var_r c)

  abbrev opening : Tm Name → Result (Definition Name) (Fault Name)
  opening c = open_type_definition names var_r dl n abs rep vars (premise c)

  -- accepted: the definition, the two open theorems, and what the row states
  pub record IsAccepted (c : Tm Name) (e : Definition Name) : Type 0 where
    pub accepted : closed c ≡ Ok e
    pub first : Sequent Name
    pub second : Sequent Name
    pub are : opened_by e ≡ first ∷ second ∷ []
    pub two : length (theorems names e) ≡ 2
    pub stated : open_theorems abs rep new c (theorem_entries d 0 (theorems names e))
        ≡ Ok (open_entries (first_origin d abs rep new c) (second_origin d abs rep new c) first second)

  application : (p t : Tm Name) (e : Definition Name) → HasType names (App p t) (bool_ty names)
      → opening (App p t) ≡ Ok e → IsAccepted (App p t) e
  application p t e typed h =
      let a = bind-ok (closed (App p t)) _ _ h in
      let b = bind-ok (unless Nesting (low (App p t))) _ _ a.2 in
      let k = unless-ok Nesting (low (App p t)) _ b.1 in
      let same : a.0 ≡ e = same-ok (Ok a.0) a.0 e refl b.2 in
      let made : TyDef n abs rep vars (premise (App p t)) ≡ a.0 = twice-ok _ _ _ _ a.1 in
      let here : closed (App p t) ≡ Ok (TyDef n abs rep vars (premise (App p t))) = a.1 ∙ ap Ok (sym made) in
      record {
        accepted = a.1 ∙ ap Ok same;
        first = _;
        second = _;
        are = ap opened_by (sym (made ∙ same));
        two = ap (λ e. length (theorems names e)) (sym (made ∙ same));
        stated = (λ i. open_theorems abs rep new (App p t)
            (theorem_entries d 0 (theorems names (sym (made ∙ same) i))))
            ∙ open-pushed dl n abs rep vars hyps p t d typed here k;
      }

  pub is-accepted : (c : Tm Name) (e : Definition Name) → HasType names c (bool_ty names) → opening c ≡ Ok e
      → IsAccepted c e
  is-accepted (App p t) e typed h = application p t e typed h
  is-accepted (Free v) e typed h = absurd (never _ _ _ (first-ok _ _ _ (bind-ok (closed (Free v)) _ _ h).1))
  is-accepted (Con m u) e typed h = absurd (never _ _ _ (first-ok _ _ _ (bind-ok (closed (Con m u)) _ _ h).1))
  is-accepted (Bound i) e typed h = absurd (never _ _ _ (first-ok _ _ _ (bind-ok (closed (Bound i)) _ _ h).1))
  is-accepted (Abs u b) e typed h = absurd (never _ _ _ (first-ok _ _ _ (bind-ok (closed (Abs u b)) _ _ h).1))

  -- refused: by the definition, or by its open theorems
  past : (p t : Tm Name) (e : Definition Name) (f : Fault Name) → HasType names (App p t) (bool_ty names)
      → closed (App p t) ≡ Ok e → opening (App p t) ≡ Err f
      → open_theorems abs rep new (App p t) (theorem_entries d 0 (theorems names e)) ≡ Err f
  past p t e f typed a h =
      let made : TyDef n abs rep vars (premise (App p t)) ≡ e = twice-ok _ _ _ _ a in
      let here : closed (App p t) ≡ Ok (TyDef n abs rep vars (premise (App p t))) = a ∙ ap Ok (sym made) in
      (λ i. open_theorems abs rep new (App p t) (theorem_entries d 0 (theorems names (sym made i))))
      ∙ by here (low (App p t)) refl (sym (ap (λ r. r >>= λ e. unless Nesting (low (App p t)) >>= λ _. Ok e) a)
      ∙ h)
    where
      other : ◌≡◌ {A = Result (Definition Name) (Fault Name)} (Ok e) (Err f) → ⊥
      other q = cc

      as-refused : ◌≡◌ {A = Result (Definition Name) (Fault Name)} (Err Nesting) (Err f)
          → ◌≡◌ {A = Result (List Entry) (Fault Name)} (Err Nesting) (Err f)
      as-refused q = let same : Nesting ≡ f = cc in ap Err same

      by : closed (App p t) ≡ Ok (TyDef n abs rep vars (premise (App p t))) → (b : Bool) → low (App p t) ≡ b
          → (unless Nesting (low (App p t)) >>= λ _. Ok e) ≡ Err f
          → open_theorems abs rep new (App p t)
          (theorem_entries d 0 (theorems names (TyDef n abs rep vars (premise (App p t))))) ≡ Err f
      by here true k q = absurd (other (sym (ap (λ b. unless Nesting b >>= λ _. Ok e) k) ∙ q))
      by here false k q = open-refused dl n abs rep vars hyps p t d typed here k
          ∙ as-refused (sym (ap (λ b. unless Nesting b >>= λ _. Ok e) k) ∙ q)

  pub is-refused : (c : Tm Name) (f : Fault Name) → HasType names c (bool_ty names) → opening c ≡ Err f
      → (closed c ≡ Err f)
      ⊎ ((e : Definition Name) × (closed c ≡ Ok e)
      × (open_theorems abs rep new c (theorem_entries d 0 (theorems names e)) ≡ Err f))
  is-refused c f typed h = by c (closed c) refl typed h
    where
      by : (c : Tm Name) (r : Result (Definition Name) (Fault Name)) → closed c ≡ r → HasType names c (bool_ty names)
          → opening c ≡ Err f
          → (closed c ≡ Err f)
          ⊎ ((e : Definition Name) × (closed c ≡ Ok e)
          × (open_theorems abs rep new c (theorem_entries d 0 (theorems names e)) ≡ Err f))
      by c (Err g) q typed h = inl (q ∙ sym (ap (λ r. r >>= λ e. unless Nesting (low c) >>= λ _. Ok e) q) ∙ h)
      by (App p t) (Ok e) q typed h = inr (e, q, past p t e f typed q h)
      by (Free v) (Ok e) q typed h = absurd (never _ _ _ (first-ok _ _ _ q))
      by (Con m u) (Ok e) q typed h = absurd (never _ _ _ (first-ok _ _ _ q))
      by (Bound i) (Ok e) q typed h = absurd (never _ _ _ (first-ok _ _ _ q))
      by (Abs u b) (Ok e) q typed h = absurd (never _ _ _ (first-ok _ _ _ q))

-- ---- with the run
module _ (s : Session) (run : IsRun s) (n abs rep : Name) (vars : List Name) (q : Sequent Name) (j : ℕ) where
  abbrev d : Origin Name
  d = origin_of s j

  abbrev rule : List (Definition Name) → Result (Definition Name) (Fault Name)
  rule dl = type_definition names dl n abs rep vars q

  abbrev Stated : Type 0
  Stated = Result (List Entry × RunState) (Fault Name)

  abbrev stated : Stated
  stated = open_defined n abs rep vars q d (run_of s)

  abbrev opening_theorems : List Entry → Result (List Entry) (Fault Name)
  opening_theorems = open_theorems abs rep (TyOp n (tys_of_vars names vars)) q.concl

  abbrev opened : Result (List Entry × RunState) (Fault Name) → Stated
  opened r = r >>= λ made. opening_theorems made.0 >>= λ ths. Ok (ths, made.1)

  module _ (typed : HasType names q.concl (bool_ty names)) where
    pub stated-refused : (f : Fault Name) → open_type_definition names var_r s.kernel.definitions n abs rep vars q
        ≡ Err f → stated ≡ Err f
    stated-refused f h = elim (is-refused s.kernel.definitions n abs rep vars q.hyps d q.concl f typed h) [
      | inl r ↦ ap opened (defined-refused s run rule j f r)
      | inr r ↦
          let e = r.0 in
          let known : rule (definitions_of (run_of s).definitions) ≡ Ok e =
          ap rule (definitions_of-made s s.kernel.definitions s.definition_steps.items run.each_definition)
          ∙ r.1 in
          ap (λ a. opened (a >>= defined_then s j)) known
          ∙ ap (λ a. a >>= λ ths. Ok (ths, with_definition s j e)) r.2
    ]

    -- the definition was made, and the run has it
    pub stated-made : (e : Definition Name) (r : RunState)
        (h : open_type_definition names var_r s.kernel.definitions n abs rep vars q ≡ Ok e)
        → closed_defined n abs rep vars q d (run_of s) ≡ Ok (theorem_entries d 0 (theorems names e), r)
        → stated ≡ Ok (
          open_entries (first_origin d abs rep (TyOp n (tys_of_vars names vars)) q.concl)
              (second_origin d abs rep (TyOp n (tys_of_vars names vars)) q.concl)
              (is-accepted s.kernel.definitions n abs rep vars q.hyps d q.concl e typed h).first
              (is-accepted s.kernel.definitions n abs rep vars q.hyps d q.concl e typed h).second,
          r,
        )
    stated-made e r h made = ap opened made ∙ ap (λ a. a >>= λ ths. Ok (ths, r))
        (is-accepted s.kernel.definitions n abs rep vars q.hyps d q.concl e typed h).stated

-- the numbers of the open theorems
pub opened-are : (k l : kernel.State) (e : Definition Name) (p q : Sequent Name) (i j : ℕ) → opened_by e ≡ p ∷ q ∷ []
    → length (theorems names e) ≡ 2 → l.theorems ≡ k.theorems ++ theorems names e ++ opened_by e
    → i ≡ suc (suc (length k.theorems)) → j ≡ suc (suc (suc (length k.theorems)))
    → (p ≡ kernel.theorem_at l i) × (q ≡ kernel.theorem_at l j) × (i < length l.theorems) × (j < length l.theorems)
opened-are k l e p q i j are two there first second =
    let before : kernel.State = record k { theorems = k.theorems ++ theorems names e } in
    let long = length-append k.theorems (theorems names e) in
    let d = double before l (opened_by e) p q i j are there (omega (arith, long, two, first))
    (omega (arith, long, two, second)) in
    let same : ◌≡◌ {A = List (Sequent Name)} (p ∷ q ∷ []) (kernel.theorem_at l i ∷ kernel.theorem_at l j ∷ []) =
    sym are ∙ d.0 in
    (cc, cc, d.1, d.2)

-- ---- over numbers
-- what the numbers of a session stand for stays as it grows
module _ (s t : Session) (grown : Grows s t) (n a r : ℕ) (vs : List ℕ) (th : ℕ)
    (h : AreOperandsIn s.kernel n a r vs th) where
  pub operands-later : AreOperandsIn t.kernel n a r vs th
  operands-later = record {
    name = omega (arith, h.name, grown.kernel.names.longer);
    abs = omega (arith, h.abs, grown.kernel.names.longer);
    rep = omega (arith, h.rep, grown.kernel.names.longer);
    variables = names-inside s t grown vs h.variables;
    premise = omega (arith, h.premise, grown.kernel.theorems.longer);
  }

  same : {X : Type 0} (f : (n a r : Name) → List Name → Sequent Name → X)
      → f (kernel.name_at t.kernel n) (kernel.name_at t.kernel a) (kernel.name_at t.kernel r)
      (map (kernel.name_at t.kernel) vs) (kernel.theorem_at t.kernel th)
      ≡ f (kernel.name_at s.kernel n) (kernel.name_at s.kernel a) (kernel.name_at s.kernel r)
      (map (kernel.name_at s.kernel) vs) (kernel.theorem_at s.kernel th)
  same f =
      let x = name-later s t grown n h.name in
      let y = name-later s t grown a h.abs in
      let z = name-later s t grown r h.rep in
      let v = names-later s t grown vs h.variables in
      let q = theorem-later s t grown th h.premise in
      λ i. f (x i) (y i) (z i) (v i) (q i)

  pub stated-same : (rule : Rule) (o p : Origin Name) → o ≡ p → run_of t ≡ run_of s
      → numbers.stated rule t.kernel n a r vs th o (run_of t) ≡ numbers.stated rule s.kernel n a r vs th p (run_of s)
  stated-same rule o p e f = (λ i. numbers.stated rule t.kernel n a r vs th (e i) (f i))
      ∙ same (λ n a r vs q. rule n a r vs q p (run_of s))

  pub origin-same : (origin : Origin Name → (abs rep : Name) → Ty Name → Tm Name → Origin Name) (o p : Origin Name)
      → o ≡ p
      → origin o (kernel.name_at t.kernel a) (kernel.name_at t.kernel r)
      (TyOp (kernel.name_at t.kernel n) (tys_of_vars names (map (kernel.name_at t.kernel) vs)))
      (kernel.theorem_at t.kernel th).concl
      ≡ origin p (kernel.name_at s.kernel a) (kernel.name_at s.kernel r)
      (TyOp (kernel.name_at s.kernel n) (tys_of_vars names (map (kernel.name_at s.kernel) vs)))
      (kernel.theorem_at s.kernel th).concl
  origin-same origin o p e =
      (λ i. origin (e i) (kernel.name_at t.kernel a) (kernel.name_at t.kernel r)
      (TyOp (kernel.name_at t.kernel n) (tys_of_vars names (map (kernel.name_at t.kernel) vs)))
      (kernel.theorem_at t.kernel th).concl)
      ∙ same (λ n a r vs q. origin p a r (TyOp n (tys_of_vars names vs)) q.concl)
