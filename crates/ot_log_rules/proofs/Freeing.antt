-- A variable is free in a term where closing it changes the term.
use Rattle.std.specs.Prelude.{◌≢◌, not}
use Rattle.std.proofs.Common.{◌≡◌, ℕ, suc, Bool, cond, nat_eq, sym, ap, ◌∙◌, inl, inr}
use Rattle.std.proofs.Common.{List, ◌||◌, ◌+◌, ◌<◌, length, get_or, drop}
use Rattle.ot_logic.specs.Names.{Name}
use Rattle.ot_logic.specs.Naming.{names}
use Rattle.ot_logic.specs.Trees.{Variable, Tm, Free, Con, Bound, App, Abs}
use Rattle.ot_logic.specs.Hol.{same_tm, close, close_at, is_free, is_free_in_some, IsFree}
use Rattle.ot_logic.specs.Table.{Extends, IsInjective}
use Rattle.ot_laws.proofs.Tests.{tells_names, cases_of, var_cases, tm_cases, is_free-is}
use Rattle.ot_laws.proofs.Terms.{close_at_fresh}
use Rattle.ot_log_nodes.specs.Items.{Item, HasTerm, IsTerm, term_at}
use Rattle.ot_log_nodes.proofs.ItemLemmas.{has-term, term-is, term-stays, still-term}
use Rattle.ot_log_rules.proofs.Numbers.{same-terms, terms-drop}
use Rattle.ot_log_rules.specs.Statements.{terms_at}

-- where it is free the term isn't the same
free-changes : (v : Variable Name) (k : ℕ) (t : Tm Name) → IsFree names v t → close_at names k v t ≢ t
free-changes v k (Free w) h e = elim (var_cases names tells_names w v) [
  | inl p ↦ let q : Bound k ≡ Free w = sym (ap (λ b. cond b (Bound k) (Free w)) p.0) ∙ e in cc
  | inr p ↦ p.1 h
]
free-changes v k (Con n t) h e = absurd h
free-changes v k (Bound j) h e = absurd h
free-changes v k (App f x) (inl h) e = let p : close_at names k v f ≡ f = cc in free-changes v k f h p
free-changes v k (App f x) (inr h) e = let p : close_at names k v x ≡ x = cc in free-changes v k x h p
free-changes v k (Abs t b) h e = let p : close_at names (suc k) v b ≡ b = cc in free-changes v (suc k) b h p

pub free-is : (v : Variable Name) (t : Tm Name) → not (same_tm names (close names v t) t) ≡ is_free names v t
free-is v t = elim (cases_of (is_free names v t) (is_free-is names tells_names v t)) [
  | inl h ↦ elim (tm_cases names tells_names (close names v t) t) [
    | inl p ↦ absurd (free-changes v 0 t h.1 p.1)
    | inr p ↦ ap not p.0 ∙ sym h.0
  ]
  | inr h ↦ elim (tm_cases names tells_names (close names v t) t) [
    | inl p ↦ ap not p.0 ∙ sym h.0
    | inr p ↦ absurd (p.1 (close_at_fresh names tells_names 0 v t h.1))
  ]
]

-- by numbers
pub free-numbers : (ts us : List Item) → Extends ts us → IsInjective us → (v : Variable Name) (id r : ℕ) (b : Bool)
    → HasTerm ts id → IsTerm us r (close names v (term_at ts id)) → b ≡ not (nat_eq r id)
    → b ≡ is_free names v (term_at ts id)
free-numbers ts us e one v id r b has is test =
    let still = still-term ts us e id has in
    let tree : term_at us r ≡ close names v (term_at ts id) = term-is us r _ is in
    let kept = term-stays ts us e id has in
    test ∙ ap not (sym (same-terms us one r id (has-term us r _ is) still))
    ∙ (λ i. not (same_tm names (tree i) (kept i))) ∙ free-is v (term_at ts id)

-- in one of several terms: the next one, or the rest
pub free-next : (ts : List Item) (v : Variable Name) (ids : List ℕ) (k i : ℕ) (b : Bool) → k < length ids
    → i ≡ get_or ids k i → b ≡ is_free names v (term_at ts i) → is_free_in_some names v (terms_at ts (drop k ids))
    ≡ (b || is_free_in_some names v (terms_at ts (drop (k + 1) ids)))
free-next ts v ids k i b h e d = ap (is_free_in_some names v) (terms-drop ts ids k i h e)
    ∙ ap (λ c. c || is_free_in_some names v (terms_at ts (drop (k + 1) ids))) (sym d)
