use Rattle.std.proofs.Common.{◌≡◌, ◌∙◌, ◌+◌, ◌++◌, ◌∷◌, List, [], drop, false, length, map, ap, subst, sym, arith}
use Rattle.ot_logic.specs.Names.{Name}
use Rattle.ot_logic.specs.Trees.{Sequent}
use Rattle.std.specs.List.{All}
use Rattle.std.proofs.lemmas.List.{drop_all}
use Rattle.std.proofs.lemmas.List.Elements.{All-push}
use Rattle.ot_kernel.specs.State.{theorem_at}
use Rattle.ot_kernel.specs.Alike.{AreFirstPlaces}
use Rattle.ot_machine.specs.Meaning.{export_of, IsExportIn}
use Rattle.ot_machine.specs.Rows.{is_exported}
use Rattle.ot_link.specs.Blocks.{each_once}
use Rattle.ot_machine.proofs.Exported.{placed-more}
use Rattle.ot_link.proofs.Lawful.{once-lawful}
use Rattle.ot_link.proofs.EachOnce.{once-new}
use Rattle.ot_link.proofs.exports.each_once.Goals as goal

pub each-preserved : goal.each-preserved
each-preserved c =
    let s = c.args.session.now in
    let e = c.export-item.result in
    let es = c.args.exports.now in
    let once = c.each.once.items in
    let here = subst (IsExportIn s) (sym c.export-item.is) (c.requires c.each.export-index e c.each-test.true) in
    let absent : is_exported (theorem_at s.kernel e.th) (map (export_of s) once) ≡ false =
    ap (λ xs. is_exported (theorem_at s.kernel e.th) (map (export_of s) xs)) (sym c.deref.ensures.value)
    ∙ sym c.is_exported.ensures ∙ c.if-is_exported.false in
    let pushed : c.push.new.self.items ≡ once ++ e ∷ [] = c.in_ok-push.ensures.items in
    let more =
    subst (λ k. (qs : List (Sequent Name)) → length qs ≡ c.len.result → AreFirstPlaces k qs c.each.places
    → AreFirstPlaces k (qs ++ theorem_at k e.th ∷ []) c.note_theorem.new.places)
    c.kernel-kernel.ensures c.in_ok-note_theorem.ensures.more in
    record {
      once =
          ap (λ xs. each_once (map (export_of s) xs) (map (export_of s) (drop (c.each.export-index + 1) es))) pushed
          ∙ sym (once-new s once es c.each.export-index e c.each-test.true c.export-item.is absent)
          ∙ c.each.invariant.once;
      inside = subst (All (IsExportIn s)) (sym pushed) (All-push (IsExportIn s) once e c.each.invariant.inside here);
      placed = placed-more s.kernel once c.push.new.self.items e c.len.result
          (λ qs. AreFirstPlaces s.kernel qs c.each.places) (λ qs. AreFirstPlaces s.kernel qs c.note_theorem.new.places)
          pushed (omega (arith, c.len.ensures, c.each.once.ok.0)) more c.each.invariant.placed;
    }

pub returns-clause-lawful : goal.returns-clause-lawful
returns-clause-lawful c =
    let s = c.args.session.now in
    let es = c.args.exports.now in
    let once = c.each.once.items in
    let none : drop c.each.export-index es ≡ [] = drop_all c.each.export-index es c.each-test.false in
    λ h. once-lawful s once es (ap (λ xs. each_once (map (export_of s) once) (map (export_of s) xs)) (sym none)
    ∙ c.each.invariant.once) h
