use Rattle.ot_read.proofs.Telling.{line-by-forms, term-by-forms}
use Rattle.ot_read.proofs.Standing.{texts-by-forms}
use Rattle.ot_read.proofs.laws.as_the_forms_say.Goals as goal

pub returns-clause-lines : goal.returns-clause-lines
returns-clause-lines c = λ hidden nt line.
    line-by-forms hidden nt line (c.one_reading.ensures.line hidden nt line)
    (c.one_reading.ensures.line_not_both hidden nt line) (c.one_reading.ensures.line_refusal hidden nt line)

pub returns-clause-terms : goal.returns-clause-terms
returns-clause-terms c = λ hidden nt text.
    term-by-forms hidden nt text (c.one_reading.ensures.term hidden nt text)
    (c.one_reading.ensures.term_not_both hidden nt text) (c.one_reading.ensures.term_refusal hidden nt text)

pub returns-clause-texts : goal.returns-clause-texts
returns-clause-texts c = λ hidden nt.
    texts-by-forms hidden nt
    (λ hidden nt line. line-by-forms hidden nt line (c.one_reading.ensures.line hidden nt line)
    (c.one_reading.ensures.line_not_both hidden nt line) (c.one_reading.ensures.line_refusal hidden nt line))
