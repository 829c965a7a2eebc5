-- The exports that are held of the blocks that have run, one block more.
use Rattle.std.specs.Prelude.{◌==◌, Some, Vec}
use Rattle.std.specs.Global.{Global}
use Rattle.std.specs.List.{All}
use Rattle.std.specs.HashMap.{HashMap, get_by}
use Rattle.std.proofs.Common.{◌≡◌, ◌∙◌, ℕ, List, [], ◌∷◌, map, Bool, true, false, cond, refl, sym, ap, subst, arith}
use Rattle.std.proofs.lemmas.List.Elements.{All-head, All-tail}
use Rattle.ot_logic.specs.Trees.{Bound}
use Rattle.ot_machine.specs.Meaning.{export_of, IsRun, IsExportIn, Grows}
use Rattle.ot_machine.specs.declared.machine.Export.{Export}
use Rattle.ot_machine.specs.declared.session.Session.{Session}
use Rattle.ot_machine.proofs.Kept.{at-Extends, origin-kept}
use Rattle.ot_link.specs.Link.{with_done}
use Rattle.ot_link.specs.Holding.{items_of, held_at, done_of}

module _ (s t : Session) (grown : Grows s t) where
  -- an export that is of a session is of one that grew
  pub export-later : (e : Export) → IsExportIn s e → IsExportIn t e
  export-later e x = record {
    th = omega (arith, x.th, grown.kernel.theorems.longer);
    theorem = omega (arith, x.theorem, grown.trace.longer);
    list = omega (arith, x.list, grown.trace.longer);
    term = omega (arith, x.term, grown.trace.longer);
  }

  pub exports-later : (es : List Export) → All (IsExportIn s) es → All (IsExportIn t) es
  exports-later es h i e p = export-later _ (h i e p)

  module _ (run : IsRun s) where
    -- it stands for the same
    export-kept : (e : Export) → IsExportIn s e → export_of t e ≡ export_of s e
    export-kept e h =
        let sequent = at-Extends s.kernel.theorems t.kernel.theorems grown.kernel.theorems
        (record { hyps = []; concl = Bound 0 }) e.th h.th in
        let theorem = origin-kept s t run grown e.theorem h.theorem in
        let list = origin-kept s t run grown e.list h.list in
        let term = origin-kept s t run grown e.term h.term in
        λ i. record { sequent = sequent i; roots = record { theorem = theorem i; list = list i; term = term i } }

    pub exports-kept : (es : List Export) → All (IsExportIn s) es → map (export_of t) es ≡ map (export_of s) es
    exports-kept [] h = refl
    exports-kept (e ∷ es) h =
        let a = export-kept e (All-head (IsExportIn s) e es h) in
        let b = exports-kept es (All-tail (IsExportIn s) e es h) in
        λ i. a i ∷ b i

module _ {S : Type 0} (s t : Session) (run : IsRun s) (grown : Grows s t) (old new : HashMap ℕ (Vec Export Global) S)
    (b : ℕ) (exports : Vec Export Global)
    (updates : (c : ℕ) → get_by (λ key. c == key) new ≡ cond (b == c) (Some exports) (get_by (λ key. c == key) old))
    (inside : (c : ℕ) → All (IsExportIn s) (held_at old c)) where
  pub held-as : (c : ℕ) → held_at new c ≡ cond (b == c) exports.items (held_at old c)
  held-as c = ap items_of (updates c) ∙ by (b == c)
    where
      by : (x : Bool) → items_of (cond x (Some exports) (get_by (λ key. c == key) old))
          ≡ cond x exports.items (held_at old c)
      by true = refl
      by false = refl

  -- they stand for what the blocks export
  pub held-done : done_of t new ≡ with_done (done_of s old) b (map (export_of t) exports.items)
  held-done i c = (ap (map (export_of t)) (held-as c) ∙ by (b == c)) i
    where
      by : (x : Bool) → map (export_of t) (cond x exports.items (held_at old c))
          ≡ cond x (map (export_of t) exports.items) (map (export_of s) (held_at old c))
      by true = refl
      by false = exports-kept s t grown run (held_at old c) (inside c)

  pub held-inside : All (IsExportIn t) exports.items → (c : ℕ) → All (IsExportIn t) (held_at new c)
  held-inside h c = subst (All (IsExportIn t)) (sym (held-as c)) (by (b == c))
    where
      by : (x : Bool) → All (IsExportIn t) (cond x exports.items (held_at old c))
      by true = h
      by false = exports-later s t grown (held_at old c) (inside c)
