-- The blocks of a theory file that has a plan.
use Rattle.std.specs.Prelude.{Option, Some, None, find, filter_map, flat_map}
use Rattle.std.specs.List.{All, AllByRecursion, cons_option}
use Rattle.std.specs.Option.{option_map}
use Rattle.std.proofs.Common.{◌≡◌, ◌∙◌, ℕ, List, [], ◌∷◌, ◌++◌, Bool, true, false, if◌then◌else◌, refl, sym, subst}
use Rattle.std.proofs.lemmas.List.Elements.{All-nil, All-cons, filter_map-append}
use Rattle.ot_theory.specs.Theory.{TagText, BlockText, TheoryText}
use Rattle.ot_theory.specs.Values.{key_of, is_source}
use Rattle.ot_theory.specs.Sound.{IsRightValue, IsRightBlock, IsSound}
use Rattle.ot_theory.specs.declared.keys.Key.{Key}
use Rattle.ot_theory.specs.declared.keys.Key.TheVariants as keys
use Rattle.ot_blocks.specs.Paths.{is_package}
use Rattle.ot_blocks.specs.Structure.{Places, PlanText, statement_fault, fault_of, block_places, IsPlan}
use Rattle.ot_blocks.specs.declared.fault.StructureFault.{StructureFault}
use Rattle.ot_blocks.specs.declared.fault.StructureFault.TheVariants.{BadPackageName}
use Rattle.ot_link.specs.Blocks.{source_by, source_at}
use Rattle.ot_link.specs.Running.{IsSourceRight, IsRunnable}

nothing-first : {X : Type 0} (o : Option X) (xs : List X) → cons_option o xs ≡ [] → (o ≡ None) × (xs ≡ [])
nothing-first None xs e = (refl, e)
nothing-first (Some x) xs e = absurd (cc)

nothing-both : {X : Type 0} (xs ys : List X) → xs ++ ys ≡ [] → (xs ≡ []) × (ys ≡ [])
nothing-both [] ys e = (refl, e)
nothing-both (x ∷ xs) ys e = absurd (cc)

no-fault : {A E : Type 0} (o : Option E) (line : A) → option_map {U = A × E} (λ e. (line, e)) o ≡ None → o ≡ None
no-fault None line e = refl
no-fault (Some x) line e = absurd (cc)

package-right : (b : Bool) → (if b then None else Some BadPackageName) ≡ None → b ≡ true
package-right true e = refl
package-right false e = absurd (cc)

module _ (places : Places) where
  -- the source of these statements
  source-right : (ts : List TagText) → AllByRecursion (λ t. IsRightValue (key_of t.key) t.value) ts
      → filter_map (fault_of places) ts ≡ []
      → IsSourceRight (source_at (find (λ t. is_source (key_of t.key)) ts))
  source-right [] values faults = tt
  source-right (t ∷ ts) values faults =
      let here = nothing-first (fault_of places t) (filter_map (fault_of places) ts) faults in
      by (key_of t.key) refl values.0 here.0 (source-right ts values.1 here.1)
    where
      by : (key : Key) → key_of t.key ≡ key → IsRightValue key t.value
          → option_map {U = ℕ × StructureFault} (λ fault. (t.line, fault)) (statement_fault places key t.value) ≡ None
          → IsSourceRight (source_at (find (λ u. is_source (key_of u.key)) ts))
          → IsSourceRight (source_at (if is_source key then Some t else find (λ u. is_source (key_of u.key)) ts))
      by keys.Article e value fault rest = let key : key_of t.key ≡ keys.Article = e in
          subst (λ key. IsSourceRight (source_by key t)) (sym key) value
      by keys.Package e value fault rest = let key : key_of t.key ≡ keys.Package = e in
          subst (λ key. IsSourceRight (source_by key t)) (sym key)
          (package-right (is_package t.value) (no-fault (statement_fault places keys.Package t.value) t.line fault))
      by keys.Import e value fault rest = rest
      by keys.Interpret e value fault rest = rest
      by keys.Other e value fault rest = rest

  each-runnable : (bs : List BlockText) → AllByRecursion IsRightBlock bs
      → filter_map (fault_of places) (flat_map (λ b. b.statements) bs) ≡ [] → All IsRunnable bs
  each-runnable [] right faults = All-nil IsRunnable
  each-runnable (b ∷ bs) right faults =
      let parts = nothing-both (filter_map (fault_of places) b.statements) _
      (sym (filter_map-append (fault_of places) b.statements (flat_map (λ c. c.statements) bs)) ∙ faults) in
      All-cons IsRunnable b bs
      (record {
        statements = record { lines = right.0.lines; values = right.0.values; renamings = right.0.renamings };
        source = source-right b.statements right.0.values parts.0;
      })
      (each-runnable bs right.1 parts.1)

-- where a sound theory file has a plan, each of its blocks may run
pub runnable : (t : TheoryText) (p : PlanText) → IsSound t → IsPlan t.blocks p → All IsRunnable t.blocks
runnable t p sound is = each-runnable (block_places t.blocks) t.blocks sound.blocks is.sound
