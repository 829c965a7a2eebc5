use Rattle.std.proofs.Common.{length, sym, ap, ◌∙◌}
use Rattle.std.proofs.lemmas.List.{length-map}
use Rattle.ot_machine.specs.Meaning.{export_of}
use Rattle.ot_program.proofs.RunLemmas.{counts_are}
use Rattle.ot_program.proofs.report.counts_of.Goals as goal

pub returns : goal.returns
returns c =
    let counts = counts_are c.args.session.now c.args.exports.now c.requires in
    record {
      theorems = sym (length-map c.args.exports.now (export_of c.args.session.now));
      assumptions =
          sym (length-map c.assumptions.result.now _)
          ∙ ap length c.assumptions.ensures.sequents
          ∙ ap (λ k. length k.assumptions) c.kernel-kernel.ensures
          ∙ sym counts.0;
      definitions =
          sym (length-map c.definitions.result.now _)
          ∙ ap length c.definitions.ensures.definitions
          ∙ ap (λ k. length k.definitions) c.kernel-kernel.ensures
          ∙ sym counts.1;
    }
