-- What the values of a run's origins keep: types and terms are well typed and within the limit of an article.
use Rattle.std.specs.Prelude.{not}
use Rattle.std.specs.List.{AllByRecursion, list_all}
use Rattle.std.proofs.Common.{◌≡◌, true, List, [], ◌∷◌, map, Ok, refl, sym, ap, subst, ◌∙◌, inl, inr, arith}
use Rattle.std.proofs.lemmas.Bool.{and_parts}
use Rattle.ot_logic.specs.Lists.{IsPart, AreDistinct}
use Rattle.ot_logic.specs.Names.{Name}
use Rattle.ot_logic.specs.Naming.{names}
use Rattle.ot_logic.specs.Trees.{Ty, Variable, Tm, App, Abs, Sequent}
use Rattle.ot_logic.specs.Hol.{same_ty, fun_ty, as_fun_ty, depth_limit, bool_ty, IsWellTyped, type_of, close}
use Rattle.ot_logic.specs.Hol.{opened, subst_tm, is_free_in_some, sequent_of, is_shallow, is_shallow_sequent}
use Rattle.ot_logic.specs.Hol.{same_tm, equation, minus, union, once_each, IsSequent, IsTyped, TypeMap, TermMap}
use Rattle.ot_logic.specs.Faults.{NotBool, NotAlphaEqual, VarFreeInHyps, NotFunction, ArgumentType}
use Rattle.ot_logic.specs.Answers.{unless, some_or}
use Rattle.ot_logic.specs.Rules.{has_type, within_limit, sides, refl_rule, assume_rule, eq_mp_rule, abs_thm_rule}
use Rattle.ot_logic.specs.Rules.{app_thm_rule, deduct_antisym_rule, beta_conv_rule, subst_rule, sym_rule}
use Rattle.ot_laws.specs.Theorem.{IsTheorem}
use Rattle.ot_laws.proofs.Tests.{tells_names}
use Rattle.ot_laws.proofs.Steps.{limit-ok, within_limit-ok, sides-ok}
use Rattle.ot_laws.proofs.Sets.{all-member, all-from_members}
use Rattle.ot_laws.proofs.Hypotheses.{IsMember-union}
use Rattle.ot_laws.proofs.Theorems.{assumption-theorem}
use Rattle.ot_laws.proofs.Sound.{refl_rule-sound, assume_rule-sound, eq_mp_rule-sound}
use Rattle.ot_laws.proofs.Sound.{abs_thm_rule-sound, app_thm_rule-sound, deduct_antisym_rule-sound}
use Rattle.ot_laws.proofs.Sound.{beta_conv_rule-sound, subst_rule-sound, sym_rule-sound}
use Rattle.ot_log_records.proofs.Fitting.{Fits, fits-shallow, sides-fit}
use Rattle.ot_logic.proofs.Results.{bind-ok, same_Ok}

-- well typed, and within the limit
pub record IsKeptTerm (t : Tm Name) : Type 0 where
  pub typed : IsWellTyped names t
  pub fits : Fits names depth_limit t

abbrev pub AllFit : List (Tm Name) → Type 0
AllFit = AllByRecursion (Fits names depth_limit)

-- of propositions within the limit, no hypothesis twice
pub record IsKept (q : Sequent Name) : Type 0 where
  pub sequent : IsSequent names q
  pub distinct : AreDistinct q.hyps
  pub hyps : AllFit q.hyps
  pub concl : Fits names depth_limit q.concl

-- ---- hypotheses

pub all-shallow : (ts : List (Tm Name)) → list_all (is_shallow names) ts ≡ true → AllFit ts
all-shallow [] h = tt
all-shallow (t ∷ ts) h =
    let p = and_parts (is_shallow names t) (list_all (is_shallow names) ts) h in
    (fits-shallow names t p.0, all-shallow ts p.1)

pub fit-part : (g h : List (Tm Name)) → IsPart g h → AllFit h → AllFit g
fit-part g h p k =
    all-from_members (Fits names depth_limit) g (λ x m. all-member (Fits names depth_limit) h k x (p x m))

pub fit-union : (g h : List (Tm Name)) → AllFit g → AllFit h → AllFit (union names g h)
fit-union g h a b =
    all-from_members (Fits names depth_limit) (union names g h)
    (λ x m. elim ((IsMember-union names tells_names x g h).0 m) [
      | inl i ↦ all-member (Fits names depth_limit) g a x i
      | inr i ↦ all-member (Fits names depth_limit) h b x i
    ])

-- ---- rules

-- a sequent of propositions as an assumption
taken : (a : Sequent Name) → IsKept a → IsTheorem names (a ∷ []) [] a
taken a k = assumption-theorem names (a ∷ []) [] 0 a refl k.sequent k.distinct

pub left : (a b : Sequent Name) → IsKept a → IsTheorem names (a ∷ b ∷ []) [] a
left a b k = assumption-theorem names (a ∷ b ∷ []) [] 0 a refl k.sequent k.distinct

pub right : (a b : Sequent Name) → IsKept b → IsTheorem names (a ∷ b ∷ []) [] b
right a b k = assumption-theorem names (a ∷ b ∷ []) [] 1 b refl k.sequent k.distinct

-- a theorem whose terms are within the limit
pub kept-by : (al : List (Sequent Name)) (q : Sequent Name) → IsTheorem names al [] q → AllFit q.hyps
    → Fits names depth_limit q.concl → IsKept q
kept-by al q t g c = record { sequent = t.sequent; distinct = t.distinct; hyps = g; concl = c }

pub kept-shallow : (q : Sequent Name) → IsSequent names q → AreDistinct q.hyps → is_shallow_sequent names q ≡ true
    → IsKept q
kept-shallow q s d h =
    let p = and_parts (list_all (is_shallow names) q.hyps) (is_shallow names q.concl) h in
    record { sequent = s; distinct = d; hyps = all-shallow q.hyps p.0; concl = fits-shallow names q.concl p.1 }

limited : (al : List (Sequent Name)) (made q : Sequent Name) → IsTheorem names al [] q → within_limit names made
    ≡ Ok q → IsKept q
limited al made q t h =
    let r = within_limit-ok names tells_names made q h in
    kept-shallow q t.sequent t.distinct (ap (is_shallow_sequent names) (sym r.1) ∙ r.0)

pub refl-kept : (t : Tm Name) (q : Sequent Name) → IsKeptTerm t → refl_rule names t ≡ Ok q → IsKept q
refl-kept t q k h =
    limited [] (sequent_of names (equation names (type_of names t) t t))
    q (refl_rule-sound names tells_names [] [] t q k.typed h) h

pub assume-kept : (p : Tm Name) (q : Sequent Name) → IsKeptTerm p → assume_rule names p ≡ Ok q → IsKept q
assume-kept p q k h =
    let e = (limit-ok (has_type names p (bool_ty names)) NotBool (record { hyps = p ∷ []; concl = p }) q h).1 in
    let t = assume_rule-sound names tells_names [] [] p q h in
    record {
      sequent = t.sequent;
      distinct = t.distinct;
      hyps = subst (λ (z : Sequent Name). AllFit z.hyps) e (k.fits, tt);
      concl = subst (λ (z : Sequent Name). Fits names depth_limit z.concl) e k.fits;
    }

-- what a conclusion's sides keep
sides-kept : (a : Sequent Name) (e : Ty Name × Tm Name × Tm Name) → IsKept a → sides names a ≡ Ok e
    → Fits names depth_limit e.1 × Fits names depth_limit e.2
sides-kept a e k h =
    let s = sides-fit names tells_names depth_limit e.0 e.1 e.2
    (subst (Fits names depth_limit) (sides-ok names tells_names a e h) k.concl) in (
      record { depth = omega (arith, s.left_depth); types = s.left },
      record { depth = omega (arith, s.right_depth); types = s.right },
    )

pub eq_mp-kept : (a b q : Sequent Name) → IsKept a → IsKept b → eq_mp_rule names a b ≡ Ok q → IsKept q
eq_mp-kept a b q k l h =
    let (e, p, m) = bind-ok (sides names a) _ q h in
    let (u, r, n) = bind-ok (unless NotAlphaEqual (same_tm names e.1 b.concl)) _ q m in
    let same = same_Ok (record { hyps = union names a.hyps b.hyps; concl = e.2 }) q n in
    kept-by (a ∷ b ∷ []) q (eq_mp_rule-sound names tells_names (a ∷ b ∷ []) [] a b q (left a b k) (right a b l) h)
    (subst (λ (z : Sequent Name). AllFit z.hyps) same (fit-union a.hyps b.hyps k.hyps l.hyps))
    (subst (λ (z : Sequent Name). Fits names depth_limit z.concl) same (sides-kept a e k p).1)

pub abs_thm-kept : (v : Variable Name) (a q : Sequent Name) → IsKept a → abs_thm_rule names v a ≡ Ok q → IsKept q
abs_thm-kept v a q k h =
    let (e, p, m) = bind-ok (sides names a) _ q h in
    let (u, r, n) = bind-ok (unless VarFreeInHyps (not (is_free_in_some names v a.hyps))) _ q m in
    let made : Sequent Name =
    record {
      hyps = a.hyps;
      concl = equation names (fun_ty names v.ty e.0) (Abs v.ty (close names v e.1)) (Abs v.ty (close names v e.2));
    } in
    limited (a ∷ []) made q (abs_thm_rule-sound names tells_names (a ∷ []) [] v a q (taken a k) h) n

pub app_thm-kept : (a b q : Sequent Name) → IsKept a → IsKept b → app_thm_rule names a b ≡ Ok q → IsKept q
app_thm-kept a b q k l h =
    let (f, p, m) = bind-ok (sides names a) _ q h in
    let (x, r, n) = bind-ok (sides names b) _ q m in
    let (c, i, o) = bind-ok (some_or NotFunction (as_fun_ty names f.0)) _ q n in
    let (u, j, w) = bind-ok (unless ArgumentType (same_ty names c.0 x.0)) _ q o in
    let made : Sequent Name =
    record { hyps = union names a.hyps b.hyps; concl = equation names c.1 (App f.1 x.1) (App f.2 x.2) } in
    limited (a ∷ b ∷ []) made q
    (app_thm_rule-sound names tells_names (a ∷ b ∷ []) [] a b q (left a b k) (right a b l) h) w

pub deduct_antisym-kept : (a b q : Sequent Name) → IsKept a → IsKept b → deduct_antisym_rule names a b ≡ Ok q
    → IsKept q
deduct_antisym-kept a b q k l h =
    let made : Sequent Name =
    record {
      hyps = union names (minus names b.concl a.hyps) (minus names a.concl b.hyps);
      concl = equation names (bool_ty names) a.concl b.concl;
    } in
    limited (a ∷ b ∷ []) made q
    (deduct_antisym_rule-sound names tells_names (a ∷ b ∷ []) [] a b q (left a b k) (right a b l) h) h

pub beta-kept : (t : Tm Name) (q : Sequent Name) → IsKeptTerm t → beta_conv_rule names t ≡ Ok q → IsKept q
beta-kept (App (Abs a b) u) q k h =
    limited []
    (sequent_of names (equation names (type_of names (App (Abs a b) u)) (App (Abs a b) u) (opened names b u)))
    q (beta_conv_rule-sound names tells_names [] [] (App (Abs a b) u) q k.typed h) h
beta-kept _ q k h = cc

pub subst-kept : (s : TypeMap names) (m : TermMap names) (a q : Sequent Name) → IsTyped names m → IsKept a
    → subst_rule names s m a ≡ Ok q → IsKept q
subst-kept s m a q w k h =
    let made : Sequent Name =
    record { hyps = once_each names (map (subst_tm names s m) a.hyps); concl = subst_tm names s m a.concl } in
    limited (a ∷ []) made q (subst_rule-sound names tells_names (a ∷ []) [] s m a q w (taken a k) h) h

pub sym-kept : (a q : Sequent Name) → IsKept a → sym_rule names a ≡ Ok q → IsKept q
sym-kept a q k h =
    let (e, p, m) = bind-ok (sides names a) _ q h in
    limited (a ∷ []) (record { hyps = a.hyps; concl = equation names e.0 e.2 e.1 })
    q (sym_rule-sound names tells_names (a ∷ []) [] a q (taken a k) h) m
