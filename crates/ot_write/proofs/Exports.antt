-- The loops over definitions and exports.
use Rattle.std.proofs.Common.{◌≡◌, ℕ, ◌+◌, ◌<◌, List, [], ◌∷◌, ◌++◌, map}
use Rattle.std.proofs.Common.{length, take, refl, sym, ap, subst, ◌∙◌, get_or}
use Rattle.std.proofs.lemmas.List.{take_more, map-append}
use Rattle.ot_written.specs.Written as w
use Rattle.ot_written.specs.Written.{Text}
use Rattle.ot_write.specs.declared.roots.Roots.{Roots as Export}
use Rattle.ot_write.specs.declared.writer.Writer.{Writer}
use Rattle.ot_trace.specs.Origins.{Origin, Roots}
use Rattle.ot_trace.specs.Trace.{origin_at}
use Rattle.ot_write.specs.Bytes.{roots_at}
use Rattle.ot_write.specs.Emitting.{same, Given, Shows, Moves, keep, used}

map-more : {X Y : Type 0} (f : X → Y) (xs : List X) (i : ℕ) (d : X) → i < length xs → map f (take (i + 1) xs)
    ≡ map f (take i xs) ++ f (get_or xs i d) ∷ []
map-more f xs i d h = ap (map f) (take_more xs i d h) ∙ map-append f (take i xs) (get_or xs i d ∷ [])

module _ (g : Given) where
  definitions-more : (ds : List (Origin ℕ)) (d : Origin ℕ) (t : Text ℕ) → w.emit_definitions same (keep g) (used g)
      (ds ++ d ∷ []) t ≡ w.emit_definition same (keep g) (used g) d (w.emit_definitions same (keep g) (used g) ds t)
  definitions-more [] d t = refl
  definitions-more (e ∷ ds) d t = definitions-more ds d (w.emit_definition same (keep g) (used g) e t)

  exports-more : (es : List (Roots ℕ)) (e : Roots ℕ) (t : Text ℕ) → w.emit_exports same (keep g) (used g)
      (es ++ e ∷ []) t ≡ w.emit_exports same (keep g) (used g) (e ∷ []) (w.emit_exports same (keep g) (used g) es t)
  exports-more [] e t = refl
  exports-more (f ∷ es) e t = exports-more es e (w.emit_exports same (keep g) (used g) (f ∷ []) t)

  pub one-definition : (max : ℕ) (ds : List ℕ) (i d : ℕ) (old new : Writer) (t : Text ℕ) → i < length ds
      → d ≡ get_or ds i d
      → Shows g max old (w.emit_definitions same (keep g) (used g) (map (origin_at g.trees) (take i ds)) t)
      → Moves g old new (w.emit_definition same (keep g) (used g) (origin_at g.trees d))
      → Shows g max new (w.emit_definitions same (keep g) (used g) (map (origin_at g.trees) (take (i + 1) ds)) t)
  one-definition max ds i d old new t h here s m =
      subst (λ z. Shows g max new z)
      (sym (ap (λ l. w.emit_definitions same (keep g) (used g) l t) (map-more (origin_at g.trees) ds i d h
      ∙ ap (λ x. map (origin_at g.trees) (take i ds) ++ origin_at g.trees x ∷ []) (sym here))
      ∙ definitions-more (map (origin_at g.trees) (take i ds)) (origin_at g.trees d) t)) (m max _ s)

  pub one-export : (max : ℕ) (es : List Export) (i : ℕ) (d : Export) (old new : Writer) (t : Text ℕ) → i < length es
      → d ≡ get_or es i d
      → Shows g max old (w.emit_exports same (keep g) (used g) (map (roots_at g.trees) (take i es)) t)
      → Moves g old new (w.emit_exports same (keep g) (used g) (roots_at g.trees d ∷ []))
      → Shows g max new (w.emit_exports same (keep g) (used g) (map (roots_at g.trees) (take (i + 1) es)) t)
  one-export max es i d old new t h here s m =
      subst (λ z. Shows g max new z)
      (sym (ap (λ l. w.emit_exports same (keep g) (used g) l t) (map-more (roots_at g.trees) es i d h
      ∙ ap (λ x. map (roots_at g.trees) (take i es) ++ roots_at g.trees x ∷ []) (sym here))
      ∙ exports-more (map (roots_at g.trees) (take i es)) (roots_at g.trees d) t)) (m max _ s)
