-- The context of a block, over a session that grew since its file began.
use Rattle.std.specs.Prelude.{◌<◌, ◌++◌}
use Rattle.std.specs.List.{All}
use Rattle.std.proofs.Common.{◌≡◌, ◌∙◌, ℕ, List, [], ◌∷◌, length, map, refl, ap, arith}
use Rattle.std.proofs.lemmas.List.{map-append}
use Rattle.std.proofs.lemmas.List.Elements.{All-nil, All-head, All-tail, All-cons, All-append}
use Rattle.ot_logic.specs.Naming.{names, numbers, IsNameTable}
use Rattle.ot_logic.specs.Trees.{Bound}
use Rattle.ot_logic.proofs.TableLemmas.{get_or-IsInjective}
use Rattle.ot_interp.specs.Interpretation.{Interpretation, map_interpretation, after, IsWithin}
use Rattle.ot_interp.proofs.Renaming.{after-at}
use Rattle.ot_kernel.specs.State as kernel
use Rattle.ot_theory.specs.Theory.{TagText}
use Rattle.ot_machine.specs.Meaning.{export_of, IsRun, IsExportIn, Grows}
use Rattle.ot_machine.specs.declared.session.Session.{Session}
use Rattle.ot_machine.specs.Contexts.{given_of, context_of, AreCandidatesOf, IsContextOf}
use Rattle.ot_machine.specs.declared.context.Context as code
use Rattle.ot_machine.specs.declared.context.Given as code_given
use Rattle.ot_machine.specs.declared.machine.Export.{Export}
use Rattle.ot_machine.proofs.InContext.{context-kept, of_context-kept}
use Rattle.ot_machine.proofs.Kept.{at-Extends, origin-kept}
use Rattle.ot_link.specs.Renaming.{interpretation_of}
use Rattle.ot_link.specs.Blocks.{given_by, context_in}
use Rattle.ot_link.specs.Holding.{given_to}

module _ (s t : Session) (run : IsRun s) (grown : Grows s t) where
  given-kept : (es : List Export) → All (IsExportIn s) es → map (given_of t) (map given_to es)
      ≡ map given_by (map (export_of s) es)
  given-kept [] h = refl
  given-kept (e ∷ es) h =
      let here = All-head (IsExportIn s) e es h in
      let sequent = at-Extends s.kernel.theorems t.kernel.theorems grown.kernel.theorems
      (record { hyps = []; concl = Bound 0 }) e.th here.th in
      let origin = origin-kept s t run grown e.theorem here.theorem in
      let rest = given-kept es (All-tail (IsExportIn s) e es h) in
      λ i. record { sequent = sequent i; origin = origin i } ∷ rest i

  given-inside : (es : List Export) → All (IsExportIn s) es
      → All (λ g. g.th < length t.kernel.theorems) (map given_to es)
  given-inside [] h = All-nil (λ g. g.th < length t.kernel.theorems)
  given-inside (e ∷ es) h =
      let here = (All-head (IsExportIn s) e es h).th in
      All-cons (λ g. g.th < length t.kernel.theorems) (given_to e) (map given_to es)
      (omega (arith, here, grown.kernel.theorems.longer)) (given-inside es (All-tail (IsExportIn s) e es h))

  steps-inside : (es : List Export) → All (IsExportIn s) es → All (λ g. g.step < length t.trace) (map given_to es)
  steps-inside [] h = All-nil (λ g. g.step < length t.trace)
  steps-inside (e ∷ es) h =
      let here = (All-head (IsExportIn s) e es h).theorem in
      All-cons (λ g. g.step < length t.trace) (given_to e) (map given_to es) (omega (arith, here, grown.trace.longer))
      (steps-inside es (All-tail (IsExportIn s) e es h))

  -- the theorems of a block's context
  pub given-all : (outer : code.Context) (imports : List Export) (gs : List code_given.Given) → IsContextOf s outer
      → All (IsExportIn s) imports → gs ≡ map given_to imports ++ outer.theorems.now
      → All (λ g. g.th < length t.kernel.theorems) gs
  given-all outer imports gs of inside given =
      rw given (All-append (λ g. g.th < length t.kernel.theorems) (map given_to imports) outer.theorems.now
      (given-inside imports inside) (of_context-kept s t run grown outer of).theorems)

  -- the block's own interpretation and imports, before what its file is run in
  module _ (outer c : code.Context) (own : Interpretation ℕ) (statements : List TagText) (imports : List Export)
      (of : IsContextOf s outer) (within : IsWithin (length t.kernel.names) own)
      (named : map_interpretation (kernel.name_at t.kernel) own ≡ interpretation_of statements)
      (both : c.interp.now ≡ after numbers own outer.interp.now)
      (given : c.theorems.now ≡ map given_to imports ++ outer.theorems.now)
      (inside : All (IsExportIn s) imports) where
    pub block-context : IsNameTable t.kernel.names → context_of t c ≡ context_in (context_of s outer) statements
        (map (export_of s) imports)
    block-context table =
        let same = context-kept s t run grown outer of in
        let injective = λ (i j : ℕ). get_or-IsInjective t.kernel.names table.injective i j [] in
        let composed = ap (map_interpretation (kernel.name_at t.kernel)) both
        ∙ after-at (kernel.name_at t.kernel) (length t.kernel.names) injective own outer.interp.now within
        (of_context-kept s t run grown outer of).interpretation
        ∙ (λ i. after names (named i) (same i).interpretation) in
        let theorems = ap (map (given_of t)) given
        ∙ map-append (given_of t) (map given_to imports) outer.theorems.now
        ∙ (λ i. given-kept imports inside i ++ (same i).theorems) in
        λ i. record { interpretation = composed i; theorems = theorems i }

    pub of_block-context : IsWithin (length t.kernel.names) c.interp.now
        → AreCandidatesOf t c.theorems.now c.candidates.now → IsContextOf t c
    of_block-context symbols candidates =
        let kept = of_context-kept s t run grown outer of in
        record {
          interpretation = symbols;
          theorems = given-all outer imports c.theorems.now of inside given;
          steps = rw given (All-append (λ g. g.step < length t.trace) (map given_to imports) outer.theorems.now
              (steps-inside imports inside) kept.steps);
          candidates = candidates;
        }
