-- A list of exports in which each sequent stands once, one more.
use Rattle.std.specs.Prelude.{if◌then◌else◌}
use Rattle.std.proofs.Common.{◌≡◌, ◌∙◌, ◌<◌, ◌+◌, ◌++◌, ◌∷◌, ℕ, List, []}
use Rattle.std.proofs.Common.{length, map, drop, get_or, false, sym, ap}
use Rattle.ot_kernel.specs.State.{theorem_at}
use Rattle.ot_kernel.proofs.Namings.{map-drop, map-push}
use Rattle.ot_machine.specs.Meaning.{export_of}
use Rattle.ot_machine.specs.declared.session.Session.{Session}
use Rattle.ot_machine.specs.Rows.{is_exported}
use Rattle.ot_machine.specs.declared.machine.Export.{Export}
use Rattle.ot_link.specs.Blocks.{each_once}

module _ (s : Session) (once es : List Export) (n : ℕ) (e : Export) (h : n < length es) (is : e ≡ get_or es n e) where
  -- it comes behind the others
  pub once-new : is_exported (theorem_at s.kernel e.th) (map (export_of s) once) ≡ false
      → each_once (map (export_of s) once) (map (export_of s) (drop n es))
      ≡ each_once (map (export_of s) (once ++ e ∷ [])) (map (export_of s) (drop (n + 1) es))
  once-new p =
      ap (each_once (map (export_of s) once)) (map-drop (export_of s) es n e h is)
      ∙ ap (λ b. each_once (if b then map (export_of s) once else map (export_of s) once ++ export_of s e ∷ [])
      (map (export_of s) (drop (n + 1) es))) p
      ∙ ap (λ seen. each_once seen (map (export_of s) (drop (n + 1) es))) (sym (map-push (export_of s) once e))
