-- A context over the kernel of its session.
use Rattle.std.specs.Prelude.{◌≡◌, ◌<◌, ℕ, List, [], ◌∷◌, length, map}
use Rattle.std.specs.List.{All}
use Rattle.std.proofs.Common.{refl, sym, ap, ◌∙◌, arith}
use Rattle.std.proofs.lemmas.List.Elements.{All-head, All-tail}
use Rattle.ot_logic.specs.Naming.{names, numbers, IsNameTable}
use Rattle.ot_logic.specs.Trees.{Bound}
use Rattle.ot_logic.proofs.TableLemmas.{get_or-IsInjective}
use Rattle.ot_interp.specs.Interpretation.{map_pairs, renamed, AreWithin}
use Rattle.ot_interp.proofs.Renaming.{renamed-at, IsWithin-more, map_interpretation-agree}
use Rattle.ot_kernel.specs.State as kernel
use Rattle.ot_kernel.proofs.Seeking.{candidates-later}
use Rattle.ot_machine.specs.declared.context.Context as code
use Rattle.ot_machine.specs.declared.context.Given as code_given
use Rattle.ot_machine.specs.Contexts.{given_of, context_of, IsContextOf}
use Rattle.ot_machine.specs.declared.session.Session.{Session}
use Rattle.ot_machine.specs.Meaning.{IsRun, Grows}
use Rattle.ot_machine.proofs.Kept.{at-Extends, origin-kept}

-- a name that a map of numbers gives, by the names of the numbers
pub name-renamed : (k : kernel.State) (pairs : List (ℕ × ℕ)) (n m : ℕ) → IsNameTable k.names
    → AreWithin (length k.names) pairs → n < length k.names → m ≡ renamed numbers pairs n
    → kernel.name_at k m ≡ renamed names (map_pairs (kernel.name_at k) pairs) (kernel.name_at k n)
name-renamed k pairs n m table within below is =
    ap (kernel.name_at k) is
    ∙ sym (renamed-at (kernel.name_at k) (length k.names)
    (λ i j. get_or-IsInjective k.names table.injective i j []) pairs n within below)

-- ---- a context over a session that grew
module _ (s t : Session) (run : IsRun s) (grown : Grows s t) where
  theorems-kept : (gs : List code_given.Given) → All (λ g. g.th < length s.kernel.theorems) gs
      → All (λ g. g.step < length s.trace) gs → map (given_of t) gs ≡ map (given_of s) gs
  theorems-kept [] h f = refl
  theorems-kept (g ∷ gs) h f =
      let a = at-Extends s.kernel.theorems t.kernel.theorems grown.kernel.theorems
      (record { hyps = []; concl = Bound 0 }) g.th (All-head (λ g. g.th < length s.kernel.theorems) g gs h) in
      let o = origin-kept s t run grown g.step (All-head (λ g. g.step < length s.trace) g gs f) in
      let b = theorems-kept gs (All-tail (λ g. g.th < length s.kernel.theorems) g gs h)
      (All-tail (λ g. g.step < length s.trace) g gs f) in
      λ i. record { sequent = a i; origin = o i } ∷ b i

  pub context-kept : (c : code.Context) → IsContextOf s c → context_of t c ≡ context_of s c
  context-kept c h =
      let symbols = map_interpretation-agree (kernel.name_at t.kernel) (kernel.name_at s.kernel)
      (length s.kernel.names) (at-Extends s.kernel.names t.kernel.names grown.kernel.names []) c.interp.now
      h.interpretation in
      let theorems = theorems-kept c.theorems.now h.theorems h.steps in
      λ i. record { interpretation = symbols i; theorems = theorems i }

  pub of_context-kept : (c : code.Context) → IsContextOf s c → IsContextOf t c
  of_context-kept c h = record {
    interpretation = IsWithin-more (length s.kernel.names) (length t.kernel.names) grown.kernel.names.longer
        c.interp.now h.interpretation;
    theorems = λ i g q. let x = h.theorems i g q in omega (arith, x, grown.kernel.theorems.longer);
    steps = λ i g q. let x = h.steps i g q in omega (arith, x, grown.trace.longer);
    candidates = record {
      theorems = h.candidates.theorems;
      found = candidates-later s.kernel t.kernel grown.kernel c.candidates.now h.candidates.found;
    };
  }
