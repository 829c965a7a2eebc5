-- Sequents by number, and the nesting limit that ends a rule.
use Rattle.std.specs.Prelude.{◌&&◌, Ok, Err}
use Rattle.std.specs.List.{list_all}
use Rattle.std.proofs.Common.{◌≡◌, ℕ, Bool, true, false, List, [], ◌∷◌, length, refl, sym, ap, ◌∙◌, inl, inr}
use Rattle.ot_logic.specs.Lists.{IsMember}
use Rattle.ot_logic.specs.Trees.{Tm, Sequent}
use Rattle.ot_logic.specs.Faults.{Nesting}
use Rattle.ot_logic.specs.Hol.{is_shallow, is_shallow_sequent}
use Rattle.ot_logic.specs.Naming.{numbers}
use Rattle.ot_logic.specs.Rules.{within_limit}
use Rattle.ot_term.specs.Term.{TermTable}
use Rattle.ot_term.specs.TermTable.{IsTermTable}
use Rattle.ot_kernel.specs.declared.theorem.Theorem.{Theorem}
use Rattle.ot_kernel.specs.Numbered.{numbered_sequent, Derives}
use Rattle.ot_kernel.specs.Spelled.{IsInside}
use Rattle.ot_kernel.proofs.Equating.{limit_at, limits_at}

-- ---- the terms of a table are within the limit
module _ (t : TermTable) (table : IsTermTable t) where
  pub sequent-shallow : (th : Theorem) → IsInside (length t.terms) th
      → is_shallow_sequent numbers (numbered_sequent t.terms th) ≡ true
  sequent-shallow th h =
      let a = limits_at t table th.hyps h.hyps in
      let b = limit_at t table th.concl h.concl in
      λ j. a j && b j

  -- a theorem of the stated sequent
  pub within-derives : (th : Theorem) (q : Sequent ℕ) → IsInside (length t.terms) th → numbered_sequent t.terms th ≡ q
      → Derives (Ok th) (within_limit numbers q) t.terms
  within-derives th q h e =
      (h, ap (within_limit numbers) (sym e) ∙ within (numbered_sequent t.terms th) (sequent-shallow th h))
    where
      within : (q : Sequent ℕ) → is_shallow_sequent numbers q ≡ true → within_limit numbers q ≡ Ok q
      within q p = rw p refl

-- ---- refusals
-- a conjunction whose second part fails
both : (a b : Bool) → b ≡ false → (a && b) ≡ false
both true b p = p
both false b p = refl

-- a sequent one of whose terms passes the limit
pub deep_conclusion : (q : Sequent ℕ) → is_shallow numbers q.concl ≡ false → within_limit numbers q ≡ Err Nesting
deep_conclusion q p = rw (both (list_all (is_shallow numbers) q.hyps) (is_shallow numbers q.concl) p) refl

pub deep_hypotheses : (q : Sequent ℕ) → list_all (is_shallow numbers) q.hyps ≡ false
    → within_limit numbers q ≡ Err Nesting
deep_hypotheses q p = rw p refl

pub deep_member : (x : Tm ℕ) (ts : List (Tm ℕ)) → IsMember x ts → is_shallow numbers x ≡ false
    → list_all (is_shallow numbers) ts ≡ false
deep_member x [] m p = absurd m
deep_member x (y ∷ ys) (inl e) p = ap (λ b. b && list_all (is_shallow numbers) ys) (ap (is_shallow numbers) e ∙ p)
deep_member x (y ∷ ys) (inr m) p =
    both (is_shallow numbers y) (list_all (is_shallow numbers) ys) (deep_member x ys m p)
