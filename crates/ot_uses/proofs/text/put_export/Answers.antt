use Rattle.std.proofs.Common.{◌≡◌, ◌<◌, sym, subst, ◌∙◌, inl}
use Rattle.std.specs.Prelude.{length, map}
use Rattle.std.specs.List.{All}
use Rattle.ot_kernel.specs.State.{theorem_at}
use Rattle.ot_machine.specs.Meaning.{origin_of, run_of}
use Rattle.ot_machine.specs.Rows.{definitions_of}
use Rattle.ot_text.proofs.Putting.{same-text}
use Rattle.ot_uses.specs.Placing.{picked}
use Rattle.ot_uses.specs.Texts.{support_text}
use Rattle.ot_uses.specs.Used.{used_assumptions, used_definitions}
use Rattle.ot_uses.proofs.Standing.{assumptions-inside, definitions-inside, sequents-are, definitions-are}
use Rattle.ot_uses.proofs.text.put_export.Goals as goal

pub put_support-requires-clause-assumptions : goal.put_support-requires-clause-assumptions
put_support-requires-clause-assumptions c =
    let s = c.args.session.now in
    subst (λ k. All (λ i. i < length k.assumptions) c.in-Ok.used.assumptions.items) (sym c.kernel.ensures)
    (subst (λ l. All (λ i. i < length s.kernel.assumptions) l) (sym c.in-Ok.ensures.assumptions)
    (assumptions-inside s c.requires.run (origin_of s c.args.export.now.theorem)))

pub put_support-requires-clause-definitions : goal.put_support-requires-clause-definitions
put_support-requires-clause-definitions c =
    let s = c.args.session.now in
    subst (λ k. All (λ i. i < length k.definitions) c.in-Ok.used.definitions.items) (sym c.kernel.ensures)
    (subst (λ l. All (λ i. i < length s.kernel.definitions) l) (sym c.in-Ok.ensures.definitions)
    (definitions-inside s c.requires.run (origin_of s c.args.export.now.theorem)))

pub returns-in-Ok-clause-put : goal.returns-in-Ok-clause-put
returns-in-Ok-clause-put c =
    let s = c.args.session.now in
    let r = run_of s in
    let o = origin_of s c.args.export.now.theorem in
    let assumptions : picked c.kernel.result.now.assumptions c.in-Ok.used.assumptions.items
    ≡ map (λ g. g.sequent) (used_assumptions r o) =
    (λ z. picked (c.kernel.ensures z).assumptions (c.in-Ok.ensures.assumptions z))
    ∙ sequents-are s c.requires.run o in
    let definitions : picked c.kernel.result.now.definitions c.in-Ok.used.definitions.items
    ≡ definitions_of (used_definitions r o) =
    (λ z. picked (c.kernel.ensures z).definitions (c.in-Ok.ensures.definitions z))
    ∙ definitions-are s c.requires.run o in
    same-text (λ z. support_text c.args.number (record {
      theorem = theorem_at (c.kernel.ensures z) c.args.export.now.th;
      assumptions = assumptions z;
      definitions = definitions z;
    })) c.put_support.ensures

pub returns-in-Err-clause-put : goal.returns-in-Err-clause-put
returns-in-Err-clause-put c = record { state = inl c.stop.ensures }
