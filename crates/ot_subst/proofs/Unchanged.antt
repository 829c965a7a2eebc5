-- What stays as it is: a term with no free variable, where no type changes, and a body with the bound variable put in
-- again.
use Rattle.std.proofs.Common.{◌≡◌, ◌<◌, ℕ, suc, [], List, length, refl, sym, ap, ◌∙◌, inl, inr, eq-eqb, arith}
use Rattle.ot_logic.specs.Trees.{Ty, Variable, Tm, Free, Con, Bound, App, Abs}
use Rattle.ot_logic.specs.Hol.{IsClosed, IsWithin, close_at, open_at, bind, inst, inst_by, type_at as type_for}
use Rattle.ot_logic.specs.NamedTerms.{nameless}
use Rattle.ot_logic.specs.Naming.{numbers}
use Rattle.ot_laws.proofs.Tests.{tells_numbers, var_cases}
use Rattle.ot_laws.proofs.Opened.{place_below}
use Rattle.ot_type.specs.TypeTable.{images}
use Rattle.ot_type.proofs.InstLemmas.{inst-nothing}
use Rattle.ot_term.specs.Term.{TermTable}
use Rattle.ot_term.specs.TermTable.{term_at}
use Rattle.ot_term.specs.declared.term.VarKey.{VarKey}
use Rattle.ot_subst.specs.Substitution.{Substitution, type_part, substituted}
use Rattle.ot_subst.specs.Walk.{HasForm}
use Rattle.ot_subst.specs.Memory.{IsMemory, IsWalked}

bind-closed : (g : ℕ → Ty ℕ) → ((ty : Ty ℕ) → inst_by numbers g ty ≡ ty) → (s : Variable ℕ → Tm ℕ) → (x : Tm ℕ)
    → IsClosed numbers x → bind numbers g s x ≡ x
bind-closed g same s (Free v) closed = absurd (closed v refl)
bind-closed g same s (Con n ty) closed = ap (Con n) (same ty)
bind-closed g same s (Bound k) closed = refl
bind-closed g same s (App f x) closed =
    ap (λ y. App y (bind numbers g s x)) (bind-closed g same s f (λ v i. closed v (inl i)))
    ∙ ap (App f) (bind-closed g same s x (λ v i. closed v (inr i)))
bind-closed g same s (Abs ty b) closed =
    ap (λ u. Abs u (bind numbers g s b)) (same ty) ∙ ap (Abs ty) (bind-closed g same s b closed)

same_type : (t : TermTable) (s : Substitution) → s.types ≡ [] → (ty : Ty ℕ) → inst numbers (type_part t s) ty ≡ ty
same_type t s untyped ty = ap (λ m. inst numbers (images t.types m) ty) untyped ∙ inst-nothing ty

pub unchanged : (t : TermTable) (s : Substitution) (id : ℕ) → id < length t.terms → s.types ≡ []
    → IsClosed numbers (nameless numbers (term_at t.terms id))
    → HasForm t id (substituted t s (nameless numbers (term_at t.terms id)))
unchanged t s id within untyped closed = record {
  within = within;
  form = sym (bind-closed (type_for numbers (type_part t s)) (same_type t s untyped) _
      (nameless numbers (term_at t.terms id)) closed);
}

pub walked-unchanged : (t : TermTable) (s : Substitution) (r : List (VarKey × VarKey)) (es : List (ℕ × ℕ)) (n id : ℕ)
    → id < length t.terms → IsMemory t s r es → s.types ≡ []
    → IsClosed numbers (nameless numbers (term_at t.terms id))
    → IsWalked t t s r es es n n (term_at t.terms id) (suc id) id
walked-unchanged t s r es n id within h untyped closed = record {
  form = record {
    within = within;
    form = sym (bind-closed (type_for numbers (type_part t s)) (same_type t s untyped) _
        (nameless numbers (term_at t.terms id)) closed);
  };
  memory = h;
  known = λ e m. inl m;
  counted = λ _ _. omega arith;
}

-- a variable that is bound and put in again
pub open-self : (k : ℕ) (v : Variable ℕ) (t : Tm ℕ) → IsWithin numbers k t
    → open_at numbers k (Free v) (close_at numbers k v t) ≡ t
open-self k v (Free w) h = elim (var_cases numbers tells_numbers w v) [
  | inl p ↦ rw (p.0, eq-eqb k k refl) (ap Free (sym p.1))
  | inr p ↦ rw p.0
]
open-self k v (Con n ty) h = refl
open-self k v (Bound j) h = rw (place_below j k h)
open-self k v (App f x) h = ap (λ y. App y (open_at numbers k (Free v) (close_at numbers k v x)))
    (open-self k v f h.0) ∙ ap (App f) (open-self k v x h.1)
open-self k v (Abs ty b) h = ap (Abs ty) (open-self (suc k) v b h)
