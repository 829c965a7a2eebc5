-- The article over the numbers of a session is the article of what these stand for.
use Rattle.std.proofs.Common.{◌≡◌, ℕ, zero, suc, ◌<◌, List, [], ◌∷◌, length, map, refl, arith}
use Rattle.std.specs.Prelude.{pos}
use Rattle.std.specs.List.{All}
use Rattle.ot_logic.specs.Names.{Name}
use Rattle.ot_logic.specs.Trees.{Definition}
use Rattle.ot_logic.specs.Naming.{name_of, IsNameTable}
use Rattle.ot_kernel.specs.State.{name_at}
use Rattle.ot_kernel.proofs.Namings.{name_of-index}
use Rattle.ot_trace.specs.Origins.{Number, map_origin}
use Rattle.ot_trace.specs.Trace.{origin_at}
use Rattle.ot_written.specs.Uses.{article}
use Rattle.ot_written.specs.Bytes.{bytes_of}
use Rattle.ot_written.specs.Laws.{roots_with}
use Rattle.ot_machine.specs.Meaning.{origin_of, export_of, made_of, run_of, IsRun, IsExportIn}
use Rattle.ot_machine.proofs.Kept.{origin-agree}
use Rattle.ot_machine.specs.declared.session.Session.{Session}
use Rattle.ot_machine.specs.declared.machine.Export as code
use Rattle.ot_article.specs.Article.{origins_made}
use Rattle.ot_write.specs.Bytes.{AreRootsInside, article_bytes, roots_at}
use Rattle.ot_minimise.specs.Minimised.{minimised, roots_in, same}

module _ (s : Session) (run : IsRun s) where
  pub roots-inside : (es : List code.Export) → All (IsExportIn s) es
      → All (AreRootsInside (length s.trace)) (map roots_in es)
  roots-inside [] h k d l = absurd (omega arith)
  roots-inside (e ∷ es) h zero d l = let x = h 0 e (omega arith) in (x.theorem, x.list, x.term)
  roots-inside (e ∷ es) h (suc k) d l = roots-inside es (λ j c m. h (suc j) c (omega arith)) k d (omega arith)

  module _ (table : IsNameTable s.kernel.names) where
    abbrev naming : ℕ → Name
    naming = name_of s.kernel.names

    origin-is : (i : ℕ) → i < length s.trace → map_origin naming (origin_at s.trace i) ≡ origin_of s i
    origin-is i h = origin-agree naming (name_at s.kernel) (length s.kernel.names)
        (name_of-index s.kernel.names table) (origin_at s.trace i) (run.named i (Number (pos 0)) h)

    definitions-are : (ds : List (Definition Name)) (is : List ℕ) → All (λ i. i < length s.trace) is
        → length is ≡ length ds
        → map (map_origin naming) (map (origin_at s.trace) is) ≡ origins_made (made_of s ds is)
    definitions-are [] [] h e = refl
    definitions-are [] (i ∷ is) h e = absurd (omega arith)
    definitions-are (d ∷ ds) [] h e = absurd (omega arith)
    definitions-are (d ∷ ds) (i ∷ is) h e =
        let here = origin-is i (h 0 0 (omega arith)) in
        let more = definitions-are ds is (λ k n l. h (suc k) n (omega arith)) (omega arith) in
        λ z. here z ∷ more z

    exports-are : (es : List code.Export) → All (IsExportIn s) es → map (roots_with naming)
        (map (roots_at s.trace) (map roots_in es)) ≡ map (λ e. e.roots) (map (export_of s) es)
    exports-are [] h = refl
    exports-are (e ∷ es) h =
        let x = h 0 e (omega arith) in
        let a = origin-is e.theorem x.theorem in
        let b = origin-is e.list x.list in
        let c = origin-is e.term x.term in
        let more = exports-are es (λ k n l. h (suc k) n (omega arith)) in
        λ z. record { theorem = a z; list = b z; term = c z } ∷ more z

    pub bytes-are : (es : List code.Export) → All (IsExportIn s) es → article_bytes s.kernel.names s.trace
        s.definition_steps.items (map roots_in es) ≡ minimised (run_of s) (map (export_of s) es)
    bytes-are es h =
        let ds = definitions-are s.kernel.definitions s.definition_steps.items run.definitions run.each_definition in
        let roots = exports-are es h in
        λ z. bytes_of (article same (ds z) (roots z)).lines
