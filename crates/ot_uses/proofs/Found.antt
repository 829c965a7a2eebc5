-- The places of a session that a root leads to are those of what is used.
use Rattle.std.proofs.Common.{◌≡◌, ℕ, suc, ◌<◌, Bool, List, [], ◌∷◌, length, map, sym, subst, ◌∙◌, inl, inr, arith}
use Rattle.std.specs.Prelude.{pos}
use Rattle.std.specs.List.{All, filter}
use Rattle.ot_leads.specs.declared.finding.Uses.{Uses}
use Rattle.ot_leads.specs.Found.{AreUses}
use Rattle.ot_logic.specs.Table.{IsInjective}
use Rattle.ot_logic.specs.Names.{Name}
use Rattle.ot_logic.specs.Naming.{name_of, IsNameTable}
use Rattle.ot_logic.proofs.Naming.{name_of-injective}
use Rattle.ot_kernel.specs.State.{name_at}
use Rattle.ot_kernel.proofs.Namings.{name_of-index}
use Rattle.ot_trace.specs.Origins.{Origin, Number, map_origin}
use Rattle.ot_trace.specs.Trace.{origin_at}
use Rattle.ot_written.specs.Needed.{is_among, firsts_by, needed_definitions, needed_origins}
use Rattle.ot_machine.specs.States.{RunState}
use Rattle.ot_machine.specs.Meaning.{origin_of, run_of, IsRun}
use Rattle.ot_machine.specs.declared.session.Session.{Session}
use Rattle.ot_machine.proofs.Kept.{origin-agree}
use Rattle.ot_uses.specs.Used.{beside_places, places_in, same, assumption_places, definition_places}
use Rattle.ot_uses.proofs.Numbering.{filter-places, firsts-places}
use Rattle.ot_uses.proofs.Leading.{IsIn, assumptions-found, definitions-found}
use Rattle.ot_uses.proofs.Standing.{given-origins, made-origins}
use Rattle.ot_logic.proofs.Members.{map_agree}

members-in : (n : ℕ) (is : List ℕ) → All (λ i. i < n) is → IsIn n is
members-in n [] h i m = absurd m
members-in n (x ∷ is) h i (inl e) = subst (λ z. z < n) e (h 0 x (omega arith))
members-in n (x ∷ is) h i (inr m) = members-in n is (λ k d l. h (suc k) d (omega arith)) i m

module _ (s : Session) (run : IsRun s) (table : IsNameTable s.kernel.names)
    (steps : IsInjective s.trace) (root : ℕ) (root_in : root < length s.trace) (uses : Uses)
    (are : AreUses s.trace s.assumption_steps.items s.definition_steps.items root uses) where
  abbrev naming : ℕ → Name
  naming = name_of s.kernel.names

  abbrev r : RunState
  r = run_of s

  abbrev at : ℕ → Origin Name
  at i = map_origin naming (origin_at s.trace i)

  -- the number of a step stands for its origin
  at-is : (i : ℕ) → i < length s.trace → at i ≡ origin_of s i
  at-is i h =
      origin-agree naming (name_at s.kernel) (length s.kernel.names)
      (name_of-index s.kernel.names table) (origin_at s.trace i) (run.named i (Number (pos 0)) h)

  all-at : (is : List ℕ) → IsIn (length s.trace) is → map at is ≡ map (origin_of s) is
  all-at is h = map_agree at (origin_of s) is (λ i n. at-is i (h i n))

  assumptions_in : IsIn (length s.trace) s.assumption_steps.items
  assumptions_in = members-in (length s.trace) s.assumption_steps.items run.assumptions

  definitions_in : IsIn (length s.trace) s.definition_steps.items
  definitions_in = members-in (length s.trace) s.definition_steps.items run.definitions

  givens-are : map at s.assumption_steps.items ≡ map (λ g. g.origin) r.assumptions
  givens-are =
      all-at s.assumption_steps.items assumptions_in
      ∙ given-origins s s.kernel.assumptions s.assumption_steps.items run.each_assumption

  mades-are : map at s.definition_steps.items ≡ map (λ m. m.origin) r.definitions
  mades-are =
      all-at s.definition_steps.items definitions_in
      ∙ made-origins s s.kernel.definitions s.definition_steps.items run.each_definition

  pub assumptions-are : uses.assumptions.items ≡ assumption_places r (origin_of s root)
  assumptions-are =
      assumptions-found s.trace steps naming (name_of-injective s.kernel.names) root
      s.definition_steps.items definitions_in s.assumption_steps.items uses.assumptions.items are.assumptions_rise
      are.assumptions
      ∙ (λ z. places_in
      (filter (λ p. is_among same p.1 (needed_origins same (at-is root root_in z ∷ []) (mades-are z)))
      (beside_places 0 (givens-are z))))
      ∙ sym (filter-places (λ g. g.origin)
      (λ o. is_among same o (needed_origins same (origin_of s root ∷ []) (map (λ m. m.origin) r.definitions))) 0
      r.assumptions)

  pub definitions-are : uses.definitions.items ≡ definition_places r (origin_of s root)
  definitions-are =
      definitions-found s.trace steps naming (name_of-injective s.kernel.names)
      root s.definition_steps.items definitions_in uses.definitions.items are.definitions_rise are.definitions
      ∙ (λ z. places_in
      (filter (λ p. is_among same p.1 (needed_definitions same (at-is root root_in z ∷ []) (mades-are z)))
      (firsts_by same (λ p. p.1) (beside_places 0 (mades-are z)))))
      ∙ sym (firsts-places (λ m. m.origin) (λ o. is_among same o
      (needed_definitions same (origin_of s root ∷ []) (map (λ m. m.origin) r.definitions)))
      0 r.definitions)
