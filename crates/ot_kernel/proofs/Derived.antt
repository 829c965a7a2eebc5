-- What a rule derives over numbers is what it gives over names, and follows.
use Rattle.std.specs.Prelude.{◌≡◌, ℕ, ◌<◌, List, length, Result, Ok, Err, IfOk}
use Rattle.std.proofs.Common.{sym, ap, ◌∙◌, subst, arith}
use Rattle.std.proofs.lemmas.List.{length-map}
use mathlib.Core.Path.{PathP}
use Rattle.ot_logic.specs.Names.{Name}
use Rattle.ot_logic.specs.Trees.{Alphabet, Variable, Tm, Sequent, Definition}
use Rattle.ot_logic.specs.Faults.{Fault}
use Rattle.ot_logic.specs.Rules.{abs_thm_rule, subst_rule}
use Rattle.ot_logic.specs.Hol.{TypeMap, TermMap, IsSequent, IsTyped, IsWellTyped}
use Rattle.ot_logic.specs.Naming.{names, numbers, name_of}
use Rattle.ot_logic.specs.Renamed.{map_named}
use Rattle.ot_logic.proofs.Line.{over_sequent}
use Rattle.ot_logic.proofs.Naming.{naming}
use Rattle.ot_term.specs.Term.{TermTable}
use Rattle.ot_term.specs.TermTable.{variable_of}
use Rattle.ot_term.specs.declared.term.VarKey.{VarKey}
use Rattle.ot_subst.specs.Substitution.{Substitution, type_part, variable_part, IsSubstOf}
use Rattle.ot_laws.specs.Theorem.{IsTheorem}
use Rattle.ot_laws.proofs.Sound.{abs_thm_rule-sound, subst_rule-sound}
use Rattle.ot_laws.proofs.Tests.{tells_names}
use Rattle.ot_kernel.specs.declared.theorem.Theorem.{Theorem}
use Rattle.ot_kernel.specs.declared.fault.RuleFault.{RuleFault}
use Rattle.ot_kernel.specs.State.{State, variable_at, term_at, theorem_at, Keeps, SameTheorems}
use Rattle.ot_kernel.specs.Spelled.{Held, sequent_of, IsInside}
use Rattle.ot_kernel.specs.Pairs.{type_pairs, term_pairs, IsSubstIn}
use Rattle.ot_kernel.specs.Numbered.{tm_at, numbered_sequent, Derives}
use Rattle.ot_kernel.specs.Answers.{RefusesRule}
use Rattle.ot_kernel.specs.Derived.{Follows, AddsTheorem}
use Rattle.ot_kernel.proofs.Theorems.{real_sequent, Concluded, concluded}
use Rattle.ot_kernel.proofs.Later.{Later, IsHeld, Between, alphabet_at, over-term, over-variable}
use Rattle.ot_kernel.proofs.Later.{over-theorem, over-type_pairs, over-term_pairs, types_within}
use Rattle.ot_kernel.proofs.Later.{terms_within, term_typed, held_sound}

-- ---- what a rule has answered, over names

-- the stated sequent, over the terms that there are by then, or the stated refusal
abbrev pub Made : Result Theorem RuleFault → Result (Sequent Name) (Fault Name) → State → Type 0
Made (Ok th) stated mid = IsInside (length mid.terms) th × (stated ≡ Ok (sequent_of mid.terms th))
Made (Err e) stated mid = RefusesRule e stated

-- and the sequent is a theorem
pub record Ruled (r : Result Theorem RuleFault) (stated : Result (Sequent Name) (Fault Name)) (now mid : State) : Type
    0 where
  made : Made r stated mid
  keeps : Keeps now mid
  same : SameTheorems now mid
  sound : (q : Sequent Name) → stated ≡ Ok q → IsTheorem names now.assumptions now.definitions q

pub ruled-follows : {stated : Result (Sequent Name) (Fault Name)} {now mid : State} (r : Result Theorem RuleFault)
    → Ruled r stated now mid → IfOk r (Follows mid)
ruled-follows {now = now} {mid = mid} (Ok th) d = record {
  inside = d.made.0;
  follows =
      let a = d.same.basis.assumptions in
      let b = d.same.basis.definitions in
      subst (λ (z : List (Sequent Name) × List (Definition Name)). IsTheorem names z.0 z.1 (sequent_of mid.terms th))
      (λ i. (sym a i, sym b i)) (d.sound (sequent_of mid.terms th) d.made.1);
}
ruled-follows (Err e) d = tt

pub ruled-concluded : {stated : Result (Sequent Name) (Fault Name)} {now mid : State} (r : Result Theorem RuleFault)
    (result : Result ℕ RuleFault) (new : State) → Ruled r stated now mid → AddsTheorem result r mid new
    → Concluded result stated now new
ruled-concluded {stated} {now} {mid} (Ok th) (Ok id) new d a =
    concluded (Ok id) stated now mid new (sequent_of mid.terms th) d.keeps d.same d.made.1 a tt
ruled-concluded {stated} {now} {mid} (Ok th) (Err e) new d a =
    concluded (Err e) stated now mid new (sequent_of mid.terms th) d.keeps d.same d.made.1 tt a
ruled-concluded (Err f) (Ok id) new d a = absurd a
ruled-concluded {stated} {now} {mid} (Err f) (Err e) new d a =
    subst (λ (z : State × RuleFault). Concluded (Err z.1) stated now z.0) (λ i. (sym a.0 i, sym a.1 i))
    (record { concludes = (d.same.theorems, d.made); keeps = d.keeps; same = d.same.basis })

module _ {ns ms : List Name} {t u : TermTable} {held : Held} {now mid : State}
    (l : Later ns ms t u held now mid) where
  pub inside_after : (th : Theorem) → IsInside (length u.terms) th → IsInside (length mid.terms) th
  inside_after th h =
      let e = ap (λ (s : State). length s.terms) l.after in
      let n = length-map u.terms (map_named (name_of ms)) in
      record { hyps = λ j d m. let w = h.hyps j d m in omega (arith, e, n); concl = omega (arith, e, n, h.concl) }

  -- ---- operands over the line of alphabets
  pub made : (D : (L : Type 0) → Alphabet L → Type 0) (rule : (L : Type 0) (c : Alphabet L) → D L c
      → Result (Sequent L) (Fault L)) (x : D ℕ numbers) (y : D Name names)
      → PathP (λ i. D (Between l i) (alphabet_at l i)) x y → (r : Result Theorem RuleFault)
      → Derives r (rule ℕ numbers x) u.terms → Made r (rule Name names y) mid
  made D rule x y p (Ok th) h =
      let inside = inside_after th h.0 in
      let named =
      coe 0 1 (i. rule (Between l i) (alphabet_at l i) (p i)
      ≡ Ok (over_sequent (naming ms) (numbered_sequent u.terms th) i)) h.1 in (
        inside,
        named
            ∙ ap Ok (real_sequent ms u held mid l.after l.kernel th.hyps th.concl inside.hyps inside.concl),
      )
  made D rule x y p (Err e) h = coe 0 1 (i. RefusesRule e (rule (Between l i) (alphabet_at l i) (p i))) h

  -- a rule of a term
  pub ruled-term : (rule : (L : Type 0) → Alphabet L → Tm L → Result (Sequent L) (Fault L))
      → ((x : Tm Name) (q : Sequent Name) → IsWellTyped names x → rule Name names x ≡ Ok q
      → IsTheorem names now.assumptions now.definitions q)
      → (i : ℕ) → i < length now.terms → (r : Result Theorem RuleFault)
      → Derives r (rule ℕ numbers (tm_at t.terms i)) u.terms → Ruled r (rule Name names (term_at now i)) now mid
  ruled-term rule sound i h r d = record {
    made = made (λ L c. Tm L) rule (tm_at t.terms i) (term_at now i) (over-term l i h) r d;
    keeps = l.keeps;
    same = l.same;
    sound = λ q e. sound (term_at now i) q (term_typed l i h) e;
  }

  -- of a theorem
  pub ruled-theorem : (rule : (L : Type 0) → Alphabet L → Sequent L → Result (Sequent L) (Fault L))
      → ((p q : Sequent Name) → IsTheorem names now.assumptions now.definitions p → rule Name names p ≡ Ok q
      → IsTheorem names now.assumptions now.definitions q)
      → (i : ℕ) (th : Theorem) → IsHeld l i th → (r : Result Theorem RuleFault)
      → Derives r (rule ℕ numbers (numbered_sequent t.terms th)) u.terms
      → Ruled r (rule Name names (theorem_at now i)) now mid
  ruled-theorem rule sound i th h r d = record {
    made = made (λ L c. Sequent L) rule (numbered_sequent t.terms th) (theorem_at now i) (over-theorem l i th h) r d;
    keeps = l.keeps;
    same = l.same;
    sound = λ q e. sound (theorem_at now i) q (held_sound l i th h) e;
  }

  -- of two theorems
  pub ruled-theorems : (rule : (L : Type 0) → Alphabet L → Sequent L → Sequent L → Result (Sequent L) (Fault L))
      → ((p k q : Sequent Name) → IsTheorem names now.assumptions now.definitions p → IsTheorem names now.assumptions
      now.definitions k → rule Name names p k ≡ Ok q → IsTheorem names now.assumptions now.definitions q)
      → (i : ℕ) (lower : Theorem) → IsHeld l i lower → (j : ℕ) (top : Theorem) → IsHeld l j top
      → (r : Result Theorem RuleFault)
      → Derives r (rule ℕ numbers (numbered_sequent t.terms lower) (numbered_sequent t.terms top)) u.terms
      → Ruled r (rule Name names (theorem_at now i) (theorem_at now j)) now mid
  ruled-theorems rule sound i lower h j top g r d = record {
    made =
        let a = over-theorem l i lower h in
        let b = over-theorem l j top g in
        made (λ L c. Sequent L × Sequent L) (λ L c p. rule L c p.0 p.1)
        (numbered_sequent t.terms lower, numbered_sequent t.terms top) (theorem_at now i, theorem_at now j)
        (λ k. (a k, b k)) r d;
    keeps = l.keeps;
    same = l.same;
    sound = λ q e. sound (theorem_at now i) (theorem_at now j) q (held_sound l i lower h) (held_sound l j top g) e;
  }

  -- of a variable and a theorem
  pub ruled-binder : (v : VarKey) → v.name < length now.names → v.ty < length now.types → (i : ℕ) (th : Theorem)
      → IsHeld l i th
      → (r : Result Theorem RuleFault)
      → Derives r (abs_thm_rule numbers (variable_of t.types v) (numbered_sequent t.terms th)) u.terms
      → Ruled r (abs_thm_rule names (variable_at now v) (theorem_at now i)) now mid
  ruled-binder v n y i th h r d = record {
    made =
        let a = over-variable l v n y in
        let b = over-theorem l i th h in
        made (λ L c. Variable L × Sequent L) (λ L c p. abs_thm_rule c p.0 p.1)
        (variable_of t.types v, numbered_sequent t.terms th) (variable_at now v, theorem_at now i)
        (λ k. (a k, b k)) r d;
    keeps = l.keeps;
    same = l.same;
    sound = λ q e. abs_thm_rule-sound names tells_names now.assumptions now.definitions (variable_at now v)
        (theorem_at now i) q (held_sound l i th h) e;
  }

  -- of a substitution and a theorem
  pub ruled-subst : (s : Substitution) → IsSubstIn now s → (i : ℕ) (th : Theorem) → IsHeld l i th
      → (r : Result Theorem RuleFault)
      → Derives r (subst_rule numbers (type_part t s) (variable_part t s) (numbered_sequent t.terms th)) u.terms
      → Ruled r (subst_rule names (type_pairs now s.types) (term_pairs now s) (theorem_at now i)) now mid
  ruled-subst s fits i th h r d = record {
    made =
        let a = over-type_pairs l s fits.type_part in
        let m = over-term_pairs l s fits in
        let b = over-theorem l i th h in
        made (λ L c. TypeMap c × TermMap c × Sequent L) (λ L c p. subst_rule c p.0 p.1 p.2)
        (type_part t s, variable_part t s, numbered_sequent t.terms th)
        (type_pairs now s.types, term_pairs now s, theorem_at now i) (λ k. (a k, m k, b k)) r d;
    keeps = l.keeps;
    same = l.same;
    sound = λ q e. subst_rule-sound names tells_names now.assumptions now.definitions (type_pairs now s.types)
        (term_pairs now s) (theorem_at now i) q fits.typed (held_sound l i th h) e;
  }

  -- ---- what the rules over numbers ask
  pub numbered_is_sequent : (i : ℕ) (th : Theorem) → IsHeld l i th → IsSequent numbers (numbered_sequent t.terms th)
  numbered_is_sequent i th h = coe 1 0 (j. IsSequent (alphabet_at l j) (over-theorem l i th h j))
      (held_sound l i th h).sequent

  pub numbered_subst : (s : Substitution) → IsSubstIn now s → IsSubstOf t s
  numbered_subst s h = record {
    types = λ j d m. types_within l _ (h.type_part.types j d m);
    variables = λ j d m. types_within l _ ((h.variables j d m).1);
    terms = λ j d m. terms_within l _ (h.terms j d m);
    typed = coe 1 0 (j. IsTyped (alphabet_at l j) (over-term_pairs l s h j)) h.typed;
  }
