-- What a word makes a theorem of: the values of its operands, and the rule.
use Rattle.std.proofs.Common.{◌≡◌, true, List, [], ◌∷◌, Result, Ok, refl, sym, ap, ◌∙◌}
use Rattle.ot_logic.specs.Names.{Name}
use Rattle.ot_logic.specs.Naming.{names}
use Rattle.ot_logic.specs.Trees.{Variable, Tm, Sequent}
use Rattle.ot_logic.specs.Hol.{TypeMap, TermMap}
use Rattle.ot_logic.specs.Faults.{Fault}
use Rattle.ot_logic.specs.Answers.{◌>>=◌}
use Rattle.ot_logic.specs.Rules.{refl_rule, assume_rule, eq_mp_rule, abs_thm_rule, app_thm_rule, deduct_antisym_rule}
use Rattle.ot_logic.specs.Rules.{beta_conv_rule, subst_rule, sym_rule, trans_rule, prove_hyp_rule}
use Rattle.ot_logic.specs.declared.command.Cmd.{Cmd}
use Rattle.ot_logic.specs.declared.command.Cmd.TheVariants as words
use Rattle.ot_kernel.specs.Axioms.{axiom_rule}
use Rattle.ot_machine.specs.Objects.{Object, Objects, list, variable, term, theorem}
use Rattle.ot_machine.specs.Places.{as_list, as_variable, as_term, as_theorem, as_each}
use Rattle.ot_machine.specs.Substitutions.{maps_of}
use Rattle.ot_machine.specs.Makers.{Read, of_top, of_two, maker, abs_thm_made, subst_made}
use Rattle.ot_machine.specs.Makers.{axiom_made, one_theorem_made, two_theorems_made}
use Rattle.ot_machine.proofs.ObjectKinds.{list-is, variable-is, term-is, theorem-is}
use Rattle.ot_article.proofs.Operands.{made_of}
use Rattle.ot_log_law.specs.Derived.{makes_theorem}
use Rattle.ot_logic.proofs.Results.{bind-ok, same_Ok}

-- ---- exactly as many operands

pub one-of : (f : Read → Read) (vs : List Object) (v : Object) → made_of (of_top f) vs ≡ Ok v
    → (x : Object) × (vs ≡ x ∷ []) × (f (Ok x) ≡ Ok v)
one-of f [] v e = absurd (cc)
one-of f (x ∷ []) v e = (x, refl, e)
one-of f (x ∷ y ∷ vs) v e = absurd (cc)

pub two-of : (f : Read → Read → Read) (vs : List Object) (v : Object) → made_of (of_two f) vs ≡ Ok v
    → (y : Object) × (x : Object) × (vs ≡ y ∷ x ∷ []) × (f (Ok x) (Ok y) ≡ Ok v)
two-of f [] v e = absurd (cc)
two-of f (x ∷ []) v e = absurd (cc)
two-of f (y ∷ x ∷ []) v e = (y, x, refl, e)
two-of f (x ∷ y ∷ z ∷ vs) v e = absurd (cc)

-- ---- the steps

pub data IsStep (vs : List Object) (q : Sequent Name) : Cmd → Type 0 where
  ByRefl : (t : Tm Name) → vs ≡ term t ∷ [] → refl_rule names t ≡ Ok q → IsStep vs q words.Refl
  ByAssume : (p : Tm Name) → vs ≡ term p ∷ [] → assume_rule names p ≡ Ok q → IsStep vs q words.Assume
  ByBeta : (t : Tm Name) → vs ≡ term t ∷ [] → beta_conv_rule names t ≡ Ok q → IsStep vs q words.BetaConv
  ByAbsThm : (v : Variable Name) (a : Sequent Name) → vs ≡ variable v ∷ theorem a ∷ [] → abs_thm_rule names v a ≡ Ok q
      → IsStep vs q words.AbsThm
  BySubst : (os : Objects) (maps : TypeMap names × TermMap names) (a : Sequent Name) → vs ≡ list os ∷ theorem a ∷ []
      → maps_of os ≡ Ok maps → subst_rule names maps.0 maps.1 a ≡ Ok q → IsStep vs q words.Subst
  ByAxiom : (os : Objects) (hyps : List (Tm Name)) (p : Tm Name) → vs ≡ list os ∷ term p ∷ []
      → as_each as_term os ≡ Ok hyps
      → axiom_rule hyps p ≡ Ok q → IsStep vs q words.Axiom
  BySym : (a : Sequent Name) → vs ≡ theorem a ∷ [] → sym_rule names a ≡ Ok q → IsStep vs q words.Sym
  ByEqMp : (a b : Sequent Name) → vs ≡ theorem a ∷ theorem b ∷ [] → eq_mp_rule names a b ≡ Ok q
      → IsStep vs q words.EqMp
  ByAppThm : (a b : Sequent Name) → vs ≡ theorem a ∷ theorem b ∷ [] → app_thm_rule names a b ≡ Ok q
      → IsStep vs q words.AppThm
  ByDeductAntisym : (a b : Sequent Name) → vs ≡ theorem a ∷ theorem b ∷ [] → deduct_antisym_rule names a b ≡ Ok q
      → IsStep vs q words.DeductAntisym
  ByTrans : (a b : Sequent Name) → vs ≡ theorem a ∷ theorem b ∷ [] → trans_rule names a b ≡ Ok q
      → IsStep vs q words.Trans
  ByProveHyp : (a b : Sequent Name) → vs ≡ theorem a ∷ theorem b ∷ [] → prove_hyp_rule names a b ≡ Ok q
      → IsStep vs q words.ProveHyp

abbrev pub Steps : Cmd → List Object → Object → Type 0
Steps w vs v = (q : Sequent Name) × (v ≡ theorem q) × IsStep vs q w

abbrev T : Type 0
T = Result (Sequent Name) (Fault Name)

-- a rule on a term
on-term : (w : Cmd) (rule : Tm Name → T)
    → ((vs : List Object) (q : Sequent Name) (t : Tm Name) → vs ≡ term t ∷ [] → rule t ≡ Ok q → IsStep vs q w)
    → (vs : List Object) (v : Object)
    → made_of (of_top (λ top. top >>= as_term >>= λ t. rule t >>= λ q. Ok (theorem q))) vs ≡ Ok v → Steps w vs v
on-term w rule by vs v e =
    let (x, s, h) = one-of (λ top. top >>= as_term >>= λ t. rule t >>= λ q. Ok (theorem q)) vs v e in
    let a = bind-ok (as_term x) _ v h in
    let b = bind-ok (rule a.0) _ v a.2 in
    (b.0, sym (same_Ok (theorem b.0) v b.2), by vs b.0 a.0 (s ∙ ap (λ o. o ∷ []) (term-is x a.0 a.1)) b.1)

on-two : (w : Cmd) (rule : Sequent Name → Sequent Name → T)
    → ((vs : List Object) (q a b : Sequent Name) → vs ≡ theorem a ∷ theorem b ∷ [] → rule a b ≡ Ok q → IsStep vs q w)
    → (vs : List Object) (v : Object) → made_of (of_two (two_theorems_made rule)) vs ≡ Ok v → Steps w vs v
on-two w rule by vs v e =
    let (y, x, s, h) = two-of (two_theorems_made rule) vs v e in
    let a = bind-ok (as_theorem x) _ v h in
    let b = bind-ok (as_theorem y) _ v a.2 in
    let c = bind-ok (rule b.0 a.0) _ v b.2 in (
      c.0,
      sym (same_Ok (theorem c.0) v c.2),
      by vs c.0 b.0 a.0 (s ∙ (λ i. theorem-is y b.0 b.1 i ∷ theorem-is x a.0 a.1 i ∷ [])) c.1,
    )

abs_thm-of : (vs : List Object) (v : Object) → made_of (of_two abs_thm_made) vs ≡ Ok v → Steps words.AbsThm vs v
abs_thm-of vs v e =
    let (y, x, s, h) = two-of abs_thm_made vs v e in
    let a = bind-ok (as_theorem x) _ v h in
    let b = bind-ok (as_variable y) _ v a.2 in
    let c = bind-ok (abs_thm_rule names b.0 a.0) _ v b.2 in (
      c.0,
      sym (same_Ok (theorem c.0) v c.2),
      ByAbsThm b.0 a.0 (s ∙ (λ i. variable-is y b.0 b.1 i ∷ theorem-is x a.0 a.1 i ∷ [])) c.1,
    )

subst-of : (vs : List Object) (v : Object) → made_of (of_two subst_made) vs ≡ Ok v → Steps words.Subst vs v
subst-of vs v e =
    let (y, x, s, h) = two-of subst_made vs v e in
    let a = bind-ok (as_theorem x) _ v h in
    let b = bind-ok (as_list y) _ v a.2 in
    let c = bind-ok (maps_of b.0) _ v b.2 in
    let d = bind-ok (subst_rule names c.0.0 c.0.1 a.0) _ v c.2 in (
      d.0,
      sym (same_Ok (theorem d.0) v d.2),
      BySubst b.0 c.0 a.0 (s ∙ (λ i. list-is y b.0 b.1 i ∷ theorem-is x a.0 a.1 i ∷ [])) c.1 d.1,
    )

axiom-of : (vs : List Object) (v : Object) → made_of (of_two axiom_made) vs ≡ Ok v → Steps words.Axiom vs v
axiom-of vs v e =
    let (y, x, s, h) = two-of axiom_made vs v e in
    let a = bind-ok (as_term x) _ v h in
    let b = bind-ok (as_list y >>= as_each as_term) _ v a.2 in
    let l = bind-ok (as_list y) (as_each as_term) b.0 b.1 in
    let c = bind-ok (axiom_rule b.0 a.0) _ v b.2 in (
      c.0,
      sym (same_Ok (theorem c.0) v c.2),
      ByAxiom l.0 b.0 a.0 (s ∙ (λ i. list-is y l.0 l.1 i ∷ term-is x a.0 a.1 i ∷ [])) l.2 c.1,
    )

sym-of : (vs : List Object) (v : Object) → made_of (of_top (one_theorem_made (sym_rule names))) vs ≡ Ok v
    → Steps words.Sym vs v
sym-of vs v e =
    let (x, s, h) = one-of (one_theorem_made (sym_rule names)) vs v e in
    let a = bind-ok (as_theorem x) _ v h in
    let b = bind-ok (sym_rule names a.0) _ v a.2 in
    (b.0, sym (same_Ok (theorem b.0) v b.2), BySym a.0 (s ∙ ap (λ o. o ∷ []) (theorem-is x a.0 a.1)) b.1)

-- what a word makes that makes a theorem
pub step-of : (w : Cmd) (vs : List Object) (v : Object) → makes_theorem w ≡ true → made_of (maker w) vs ≡ Ok v
    → Steps w vs v
step-of words.Refl vs v m e = on-term words.Refl (refl_rule names) (λ us q t s h. ByRefl t s h) vs v e
step-of words.Assume vs v m e = on-term words.Assume (assume_rule names) (λ us q t s h. ByAssume t s h) vs v e
step-of words.BetaConv vs v m e = on-term words.BetaConv (beta_conv_rule names) (λ us q t s h. ByBeta t s h) vs v e
step-of words.AbsThm vs v m e = abs_thm-of vs v e
step-of words.Subst vs v m e = subst-of vs v e
step-of words.Axiom vs v m e = axiom-of vs v e
step-of words.Sym vs v m e = sym-of vs v e
step-of words.EqMp vs v m e = on-two words.EqMp (eq_mp_rule names) (λ us q a b s h. ByEqMp a b s h) vs v e
step-of words.AppThm vs v m e = on-two words.AppThm (app_thm_rule names) (λ us q a b s h. ByAppThm a b s h) vs v e
step-of words.DeductAntisym vs v m e =
    on-two words.DeductAntisym (deduct_antisym_rule names) (λ us q a b s h. ByDeductAntisym a b s h) vs v e
step-of words.Trans vs v m e = on-two words.Trans (trans_rule names) (λ us q a b s h. ByTrans a b s h) vs v e
step-of words.ProveHyp vs v m e = on-two words.ProveHyp (prove_hyp_rule names) (λ us q a b s h. ByProveHyp a b s h) vs
    v e
step-of _ vs v m e = absurd (cc)
