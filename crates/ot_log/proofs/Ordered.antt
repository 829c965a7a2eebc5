-- The definitions and the exports of a lawful run can be written in their order.
use Rattle.std.proofs.Common.{◌≡◌, Bool, List, [], map, subst}
use Rattle.ot_logic.specs.Lists.{IsMember}
use Rattle.ot_logic.specs.Names.{Name}
use Rattle.ot_logic.specs.Naming.{names}
use Rattle.ot_logic.proofs.Members.{All-at_member, IsMember-map_back}
use Rattle.ot_trace.specs.Origins.{Origin}
use Rattle.ot_written.specs.Needed.{needed_definitions}
use Rattle.ot_written.specs.Same.{same_origin}
use Rattle.ot_written.specs.Uses.{has_use}
use Rattle.ot_written.proofs.Settled.{EachOutcome, IsTheoremOf}
use Rattle.ot_machine.specs.Objects.{theorem}
use Rattle.ot_machine.specs.Lawful.{IsLawfulExport, run_basis}
use Rattle.ot_machine.specs.States.{Export, Made, RunState}
use Rattle.ot_machine.specs.Writable.{IsWritable}
use Rattle.ot_article.specs.Article.{needed_made}
use Rattle.ot_article.proofs.FromLawful.{are-writable, export-roots, root-settled}
use Rattle.ot_article.proofs.KeptDefinitions.{made-origins}
use Rattle.ot_log_law.specs.Checked.{export_roots, origins_made}
use Rattle.ot_log_law.specs.Writing.{nothing_written, write_definitions}
use Rattle.ot_log_law.proofs.Holds.{is_one, one-is}
use Rattle.ot_log.specs.Logs.{AreLawful}
use Rattle.ot_log.specs.Ready.{CanDefine, CanResult}
use Rattle.ot_log.proofs.Numbered.{can-define, can-result}

module _ (r : RunState) (es : List Export) (lawful : AreLawful r es) where
  abbrev roots : List (Origin Name)
  roots = export_roots es

  abbrev found : List (Origin Name)
  found = needed_definitions (same_origin names.same) roots (origins_made r)

  abbrev ms : List Made
  ms = needed_made is_one roots r.definitions

  abbrev used : Origin Name → Bool
  used = has_use is_one roots (origins_made r)

  abbrev ds : List (Origin Name)
  ds = map (λ (m : Made). m.origin) ms

  settled : (o : Origin Name) → IsMember o (map (λ (e : Export). e.roots.theorem) es)
      → EachOutcome (IsTheoremOf used ds) o
  settled o m =
      let (e, there, is) = IsMember-map_back (λ (e : Export). e.roots.theorem) o es m in
      let x = All-at_member (IsLawfulExport (run_basis IsWritable r)) es e lawful.exports there in
      subst (EachOutcome (IsTheoremOf used ds)) is
      (root-settled is_one one-is IsWritable r lawful.run roots e.roots.theorem (theorem e.sequent) x.proved
      (export-roots es e there).0)

  pub log-ready : CanDefine found nothing_written
      × CanResult (map (λ (e : Export). e.roots.theorem) es) (write_definitions found nothing_written)
  log-ready =
      let its : ds ≡ found = made-origins is_one one-is roots r.definitions in
      let begun = can-define used ms [] nothing_written
      (are-writable is_one one-is IsWritable r lawful.run roots) (λ o t. absurd t.of) in
      subst (λ l. CanDefine l nothing_written
      × CanResult (map (λ (e : Export). e.roots.theorem) es) (write_definitions l nothing_written)) its (
        begun.0,
        can-result used ds (map (λ (e : Export). e.roots.theorem) es) (write_definitions ds nothing_written) settled
            begun.1,
      )
