-- What is used for a sequent: a theorem of the context, an assumption, or a new one.
use Rattle.std.specs.Prelude.{◌≡◌, ◌+◌, ◌<◌, ◌&&◌, ℕ, zero, suc, take, List, [], ◌∷◌, ◌++◌, length, map}
use Rattle.std.specs.Prelude.{find, Bool, true, false, cond, Option, Some, None, Result, Ok, Err, MatchBool}
use Rattle.std.specs.Bool.{Decides}
use Rattle.std.specs.List.{All, list_all}
use Rattle.std.proofs.Common.{refl, sym, ap, ◌∙◌, arith, drop, get_or}
use Rattle.std.proofs.lemmas.List.{drop_more}
use Rattle.std.proofs.lemmas.List.Elements.{All-head, All-tail}
use Rattle.std.proofs.Math.ListN.{get_or-map}
use Rattle.ot_logic.specs.Names.{Name}
use Rattle.ot_logic.specs.Trees.{Tm, Sequent}
use Rattle.ot_logic.specs.Hol.{bool_ty, once_each, same_tm, same_sequent, all_in}
use Rattle.ot_logic.specs.Naming.{names}
use Rattle.ot_logic.specs.Faults.{Fault, NotBool}
use Rattle.ot_logic.specs.Rules.{has_type}
use Rattle.ot_logic.specs.Answers.{◌>>=◌, unless}
use Rattle.ot_logic.specs.declared.command.Cmd.TheVariants as words
use Rattle.ot_laws.proofs.Tests.{tells_names}
use Rattle.ot_laws.proofs.Hypotheses.{all_in-is, same_sequent-is, same_set-once_each}
use Rattle.ot_kernel.specs.Axioms.{axiom_rule}
use Rattle.ot_kernel.specs.Candidates.{is_stronger}
use Rattle.ot_kernel.specs.State as kernel
use Rattle.ot_trace.specs.Origins.{Origin, Origins, Make}
use Rattle.ot_machine.specs.States.{Entry, Given, RunState, Context}
use Rattle.ot_machine.specs.Rows.{given_as, or_assumed, theorem_entry}
use Rattle.ot_machine.specs.Discharge.{weakened, given_for, or_weakened, discharged}
use Rattle.ot_machine.specs.Assumptions.{term_entries, assumed_new, used}
use Rattle.ot_machine.specs.declared.session.Session.{Session}
use Rattle.ot_machine.specs.declared.context.Given as code
use Rattle.ot_machine.specs.Meaning.{origin_of, givens_of}
use Rattle.ot_machine.specs.Contexts.{given_of}

-- ---- a sequent, and the same with each hypothesis once
abbrev pub stated : List (Tm Name) → Tm Name → Sequent Name
stated hyps p = record { hyps = hyps; concl = p }

abbrev pub once : List (Tm Name) → Tm Name → Sequent Name
once hyps p = record { hyps = once_each names hyps; concl = p }

same-test : {P Q : Type 0} (a b : Bool) → Decides a P → Decides b Q → (P → Q) → (Q → P) → a ≡ b
same-test true b d e f g = sym (e.1 (f (d.0 refl)))
same-test false true d e f g = d.1 (g (e.0 refl))
same-test false false d e f g = refl

same-once : (r : Sequent Name) (hyps : List (Tm Name)) (p : Tm Name) → same_sequent names r (stated hyps p)
    ≡ same_sequent names r (once hyps p)
same-once r hyps p =
    let each = same_set-once_each names tells_names hyps in
    same-test (same_sequent names r (stated hyps p)) (same_sequent names r (once hyps p))
    (same_sequent-is names tells_names r (stated hyps p)) (same_sequent-is names tells_names r (once hyps p))
    (λ s. (record { to = λ x i. each.to x (s.0.to x i); back = λ x i. s.0.back x (each.back x i) }, s.1))
    (λ s. (record { to = λ x i. each.back x (s.0.to x i); back = λ x i. s.0.back x (each.to x i) }, s.1))

pub as-once : (gs : List Given) (hyps : List (Tm Name)) (p : Tm Name) → given_as (once hyps p) gs
    ≡ given_as (stated hyps p) gs
as-once gs hyps p = λ i. find (λ (g : Given). sym (same-once g.sequent hyps p) i) gs

within-once : (rs hyps : List (Tm Name)) → all_in names rs hyps ≡ all_in names rs (once_each names hyps)
within-once rs hyps =
    let each = same_set-once_each names tells_names hyps in
    same-test (all_in names rs hyps) (all_in names rs (once_each names hyps)) (all_in-is names tells_names rs hyps)
    (all_in-is names tells_names rs (once_each names hyps)) (λ s x i. each.to x (s x i))
    (λ s x i. each.back x (s x i))

pub for-once : (gs : List Given) (hyps : List (Tm Name)) (p : Tm Name) → given_for (once hyps p) gs
    ≡ given_for (stated hyps p) gs
for-once gs hyps p =
    λ i. find (λ (g : Given). sym (within-once g.sequent.hyps hyps) i && same_tm names g.sequent.concl p) gs

-- ---- propositions
abbrev pub is_proposition : Tm Name → Bool
is_proposition t = has_type names t (bool_ty names)

pub rule-takes : (hyps : List (Tm Name)) (p : Tm Name) → is_proposition p ≡ true → list_all is_proposition hyps ≡ true
    → axiom_rule hyps p ≡ Ok (once hyps p)
rule-takes hyps p a b = (λ i. unless NotBool (a i) >>= λ _. unless NotBool (b i) >>= λ _. Ok (once hyps p))

pub rule-refuses : (hyps : List (Tm Name)) (p : Tm Name) → is_proposition p ≡ false → axiom_rule hyps p ≡ Err NotBool
rule-refuses hyps p a =
    (λ i. unless NotBool (a i) >>= λ _. unless NotBool (list_all is_proposition hyps) >>= λ _. Ok (once hyps p))

pub rule-refuses-some : (hyps : List (Tm Name)) (p : Tm Name) → is_proposition p ≡ true → list_all is_proposition hyps
    ≡ false → axiom_rule hyps p ≡ Err NotBool
rule-refuses-some hyps p a b = (λ i. unless NotBool (a i) >>= λ _. unless NotBool (b i) >>= λ _. Ok (once hyps p))

-- by the test of the conclusion, and then of the hypotheses
pub rule-of : (hyps : List (Tm Name)) (p : Tm Name) (b : Bool) → is_proposition p ≡ true → b ≡ list_all is_proposition
    hyps → MatchBool b (axiom_rule hyps p ≡ Ok (once hyps p)) (axiom_rule hyps p ≡ Err NotBool)
rule-of hyps p true a e = rule-takes hyps p a (sym e)
rule-of hyps p false a e = rule-refuses-some hyps p a (sym e)

module _ (c : Context) (run : RunState) (hyps : List (Tm Name)) (p : Tm Name) (o : Origin Name)
    (os : Origins Name) where
  abbrev new_given : Sequent Name → Given
  new_given q = record { sequent = q; origin = Make words.Axiom os }

  abbrev with_rule : Result (Sequent Name) (Fault Name) → Result (Entry × RunState) (Fault Name)
  with_rule r = r >>= λ q. discharged c (term_entries hyps o) (new_given q) run

  pub used-refused : (f : Fault Name) → axiom_rule hyps p ≡ Err f → used c hyps p o os run ≡ Err f
  used-refused f e = ap with_rule e

  abbrev with_assumed : Option Given → Result (Entry × RunState) (Fault Name)
  with_assumed f = let t = or_assumed f (new_given (once hyps p)) run in Ok (theorem_entry t.0, t.1)

  module _ (rule : axiom_rule hyps p ≡ Ok (once hyps p)) where
    by-find : (f : Option Given) → given_for (stated hyps p) c.theorems ≡ f
        → used c hyps p o os run ≡ or_weakened f (term_entries hyps o) (new_given (once hyps p)) run
    by-find f e = ap with_rule rule ∙ ap (λ f. or_weakened f (term_entries hyps o) (new_given (once hyps p)) run)
        (for-once c.theorems hyps p ∙ e)

    -- a theorem of the context, weakened
    pub used-given : (g : Given) → Some g ≡ given_for (stated hyps p) c.theorems → used c hyps p o os run
        ≡ (weakened (term_entries hyps o) (theorem_entry g) >>= λ e. Ok (e, run))
    used-given g found = by-find (Some g) (sym found)

    -- an assumption that is there
    pub used-there : (g : Given) → None ≡ given_for (stated hyps p) c.theorems
        → Some g ≡ given_as (stated hyps p) run.assumptions → used c hyps p o os run ≡ Ok (theorem_entry g, run)
    used-there g none found =
        by-find None (sym none) ∙ ap with_assumed (as-once run.assumptions hyps p ∙ sym found)

    -- a new one
    pub used-assumes : None ≡ given_for (stated hyps p) c.theorems → None ≡ given_as (stated hyps p) run.assumptions
        → used c hyps p o os run ≡ assumed_new hyps p (Make words.Axiom os) run
    used-assumes none nowhere =
        by-find None (sym none) ∙ ap with_assumed (as-once run.assumptions hyps p ∙ sym nowhere)
        ∙ sym (ap
        (λ r. r >>= λ q.
        Ok (theorem_entry (new_given q), record run { assumptions = run.assumptions ++ new_given q ∷ [] })) rule)

-- along what it is stated of
pub used-same : (c d : Context) (hs ks : List (Tm Name)) (p q : Tm Name) (o u : Origin Name) (os us : Origins Name)
    (r w : RunState) → c ≡ d → hs ≡ ks → p ≡ q → o ≡ u → os ≡ us → r ≡ w → used c hs p o os r ≡ used d ks q u us w
used-same c d hs ks p q o u os us r w x a b e f g = λ i. used (x i) (a i) (b i) (e i) (f i) (g i)

pub assumed-same : (hs ks : List (Tm Name)) (p q : Tm Name) (o u : Origin Name) (r w : RunState) → hs ≡ ks → p ≡ q
    → o ≡ u → r ≡ w → assumed_new hs p o r ≡ assumed_new ks q u w
assumed-same hs ks p q o u r w a b e f = λ i. assumed_new (a i) (b i) (e i) (f i)

-- ---- a search, one given after another
-- the assumptions from a place on
pub givens-from : (s : Session) (qs : List (Sequent Name)) (is : List ℕ) (i : ℕ) (q : Sequent Name) (j : ℕ)
    → i < length qs → length is ≡ length qs → q ≡ get_or qs i q → j ≡ get_or is i j → givens_of s (drop i qs)
    (drop i is) ≡ record { sequent = q; origin = origin_of s j } ∷ givens_of s (drop (i + 1) qs) (drop (i + 1) is)
givens-from s qs is i q j lt same e f =
    (λ k. givens_of s ((drop_more qs i q lt ∙ ap (λ z. z ∷ drop (i + 1) qs) (sym e)) k)
    ((drop_more is i j (omega (arith, lt, same)) ∙ ap (λ z. z ∷ drop (i + 1) is) (sym f)) k))

pub found-here : (q : Sequent Name) (all rest : List Given) (x : Given) → given_as q all ≡ given_as q (x ∷ rest)
    → same_sequent names x.sequent q ≡ true → Some x ≡ given_as q all
found-here q all rest x e same = sym (e ∙ ap (λ b. cond b (Some x) (given_as q rest)) same)

pub not-here : (q : Sequent Name) (all rest : List Given) (x : Given) → given_as q all ≡ given_as q (x ∷ rest)
    → same_sequent names x.sequent q ≡ false → given_as q all ≡ given_as q rest
not-here q all rest x e same = e ∙ ap (λ b. cond b (Some x) (given_as q rest)) same

-- what a number at a place stands for
pub theorem-from : (k : kernel.State) (ths : List ℕ) (i th : ℕ) → map (kernel.theorem_at k) ths ≡ k.assumptions
    → th ≡ get_or ths i th → kernel.theorem_at k th ≡ get_or k.assumptions i (kernel.theorem_at k th)
theorem-from k ths i th all e = ap (kernel.theorem_at k) e ∙ sym (get_or-map (kernel.theorem_at k) ths i th)
    ∙ ap (λ qs. get_or qs i (kernel.theorem_at k th)) all

-- ---- a search that begins at a place before which there is nothing to find
pub assumed-past : (s : Session) (q : Sequent Name) (qs : List (Sequent Name)) (is : List ℕ) (n : ℕ)
    → length is ≡ length qs → All (λ r. same_sequent names r q ≡ false) (take n qs)
    → given_as q (givens_of s qs is) ≡ given_as q (givens_of s (drop n qs) (drop n is))
assumed-past s q qs is zero same none = refl
assumed-past s q [] [] (suc n) same none = refl
assumed-past s q [] (i ∷ is) (suc n) same none = absurd (omega (arith, same))
assumed-past s q (r ∷ qs) [] (suc n) same none = absurd (omega (arith, same))
assumed-past s q (r ∷ qs) (i ∷ is) (suc n) same none =
    let here = All-head (λ (r : Sequent Name). same_sequent names r q ≡ false) r (take n qs) none in
    let rest = assumed-past s q qs is n (omega (arith, same))
    (All-tail (λ (r : Sequent Name). same_sequent names r q ≡ false) r (take n qs) none) in
    ap (λ b. cond b (Some (record { sequent = r; origin = origin_of s i })) (given_as q (givens_of s qs is))) here
    ∙ rest

pub context-past : (s : Session) (q : Sequent Name) (gs : List code.Given) (n : ℕ)
    → All (λ r. is_stronger r q ≡ false) (take n (map (kernel.theorem_at s.kernel) (map (λ g. g.th) gs)))
    → given_for q (map (given_of s) gs) ≡ given_for q (map (given_of s) (drop n gs))
context-past s q gs zero none = refl
context-past s q [] (suc n) none = refl
context-past s q (g ∷ gs) (suc n) none =
    let rest = take n (map (kernel.theorem_at s.kernel) (map (λ g. g.th) gs)) in
    let here = All-head (λ r. is_stronger r q ≡ false) (kernel.theorem_at s.kernel g.th) rest none in
    let others =
    context-past s q gs n (All-tail (λ r. is_stronger r q ≡ false) (kernel.theorem_at s.kernel g.th) rest none) in
    ap (λ b. cond b (Some (given_of s g)) (given_for q (map (given_of s) gs))) here ∙ others
