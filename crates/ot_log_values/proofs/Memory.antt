-- What is remembered, with one number more.
use Rattle.std.specs.Prelude.{◌≡◌, ℕ, Bool, true, false, cond, nat_eq, List, Some}
use Rattle.std.specs.Map.{lookup}
use Rattle.std.proofs.Common.{refl, sym, ap, subst, ◌∙◌, eqb-true}
use Rattle.std.proofs.lemmas.Option.{same_Some}
use Rattle.ot_log_values.specs.Known.{AreKept}

-- one more
pub kept-insert : (P : ℕ → ℕ → Type 0) (old new : List (ℕ × ℕ)) (k v : ℕ) → AreKept P old → P k v
    → ((q : ℕ) → lookup (nat_eq q) new ≡ cond (nat_eq k q) (Some v) (lookup (nat_eq q) old)) → AreKept P new
kept-insert P old new k v h here after = record { each = λ q w p. by q w (nat_eq k q) refl (sym (after q) ∙ p) }
  where
    by : (q w : ℕ) (b : Bool) → nat_eq k q ≡ b → cond (nat_eq k q) (Some v) (lookup (nat_eq q) old) ≡ Some w → P q w
    by q w true e p =
        let same : k ≡ q = eqb-true k q e in
        let value : v ≡ w = same_Some v w (sym (ap (λ b. cond b (Some v) (lookup (nat_eq q) old)) e) ∙ p) in
        subst (P q) value (subst (λ q. P q v) same here)
    by q w false e p = h.each q w (sym (ap (λ b. cond b (Some v) (lookup (nat_eq q) old)) e) ∙ p)
