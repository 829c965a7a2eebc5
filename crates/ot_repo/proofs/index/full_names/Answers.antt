use Rattle.std.proofs.Common.{◌∙◌, sym, ap, subst, Err}
use Rattle.ot_theory.specs.Lines.{lines_of, lines_at}
use Rattle.ot_repo.specs.Required.{BadIndex}
use Rattle.ot_repo.specs.Answers.{ArePackages}
use Rattle.ot_repo.specs.Reading.{texts_of}
use Rattle.ot_repo.proofs.Picking.{Listed, listed_more, listed_bad, packages_more, texts_more}
use Rattle.ot_repo.proofs.index.full_names.Goals as goal

pub returns-then-not-is_package-clause-names : goal.returns-then-not-is_package-clause-names
returns-then-not-is_package-clause-names c =
    let line = c.in-Some.line in
    listed_bad c.args.path.now (lines_of c.args.text.now) (lines_at c.args.text.now c.lines.at c.lines.number)
    (lines_at c.args.text.now c.next_line.new.at c.next_line.new.number)
    (record { number = line.number; text = line.text.now }) (texts_of c.lines.names.items) c.lines.invariant.listed
    c.in-Some.ensures.line (sym c.if-not-is_package.ensures)
    ∙ ap (λ p. Err (BadIndex p line.number)) (sym c.in_ok-path.ensures.ok)

pub lines-preserved : goal.lines-preserved
lines-preserved c =
    let line = c.in-Some.line in
    let good = sym c.if-not-is_package.ensures in
    let more = ap texts_of c.in_ok-push.ensures.items ∙ texts_more c.lines.names.items line.text in
    record {
      place = c.in-Some.ensures.place;
      numbered = c.in-Some.ensures.numbered;
      listed = subst
          (Listed (lines_of c.args.text.now) (lines_at c.args.text.now c.next_line.new.at c.next_line.new.number))
          (sym more)
          (listed_more (lines_of c.args.text.now) (lines_at c.args.text.now c.lines.at c.lines.number)
          (lines_at c.args.text.now c.next_line.new.at c.next_line.new.number)
          (record { number = line.number; text = line.text.now }) (texts_of c.lines.names.items)
          c.lines.invariant.listed c.in-Some.ensures.line good);
      full = subst ArePackages (sym more)
          (packages_more (texts_of c.lines.names.items) line.text.now c.lines.invariant.full good);
    }
