use Rattle.ot_program.proofs.InputLemmas.{limits_are, theory_ran, lawful_end}
use Rattle.ot_program.proofs.input.run_theory_file.Goals as goal

pub returns-clause-ran : goal.returns-clause-ran
returns-clause-ran g c =
    theory_ran c.link.new.session c.link.result c.args.packages.now c.args.path.now
    (g.F.Source.folder c.args.files.now) c.standard-limits.result (g.F.Source.at c.link.new.files)
    (g.F.Source.misses c.args.files.now) (g.F.Source.misses c.link.new.files) (g.F.Source.faults c.args.files.now)
    (g.F.Source.faults c.link.new.files) (limits_are c.standard-limits.result c.standard-limits.ensures)
    c.link.ensures.reads c.link.ensures.cause

pub returns-clause-lawful : goal.returns-clause-lawful
returns-clause-lawful g c =
    lawful_end c.link.new.session c.link.result c.link.ensures.lawful c.link.ensures.lawful_exports
