use Rattle.ot_forms.specs.Meaning.{line_meaning, term_meaning}
use Rattle.ot_forms.specs.Refusals.{WritesLine, WritesTerm}
use Rattle.ot_forms.proofs.TermLaw.{term_from, term-grows}
use Rattle.ot_forms.proofs.LineLaw.{line_from, line_readers, line-grows, line-more, term_readers, term-more}
use Rattle.ot_forms.proofs.ForTexts as texts
use Rattle.ot_forms.proofs.FirstRefusal.{agrees, parts-in}
use Rattle.ot_forms.proofs.LineParts.{line-agrees, line-ordered}
use Rattle.ot_forms.proofs.laws.one_reading.Goals as goal

pub returns-clause-line : goal.returns-clause-line
returns-clause-line c = λ hidden nt. texts.one-reading (WritesLine hidden) (line_meaning hidden) (line_from hidden nt)
    (line_readers hidden nt) (line-grows hidden nt) (line-more hidden nt)

pub returns-clause-term : goal.returns-clause-term
returns-clause-term c = λ hidden nt. texts.one-reading (WritesTerm hidden) (term_meaning hidden) (term_from hidden nt)
    (term_readers hidden nt) (term-grows hidden nt) (term-more hidden nt)

pub returns-clause-line_not_both : goal.returns-clause-line_not_both
returns-clause-line_not_both c = λ hidden nt. texts.not-refused (WritesLine hidden) (line_meaning hidden)
    (line_from hidden nt) (line_readers hidden nt) (line-grows hidden nt) (line-more hidden nt)

pub returns-clause-term_not_both : goal.returns-clause-term_not_both
returns-clause-term_not_both c = λ hidden nt. texts.not-refused (WritesTerm hidden) (term_meaning hidden)
    (term_from hidden nt) (term_readers hidden nt) (term-grows hidden nt) (term-more hidden nt)

pub returns-clause-line_refusal : goal.returns-clause-line_refusal
returns-clause-line_refusal c = λ hidden nt line k j f g h w. let r =
    texts.one-refusal (WritesLine hidden) (line_meaning hidden) (line_from hidden nt) (line_readers hidden nt)
    (line-grows hidden nt) (line-more hidden nt) line k j f g h w in (r.place, r.fault)

pub returns-clause-term_refusal : goal.returns-clause-term_refusal
returns-clause-term_refusal c = λ hidden nt line k j f g h w. let r =
    texts.one-refusal (WritesTerm hidden) (term_meaning hidden) (term_from hidden nt) (term_readers hidden nt)
    (term-grows hidden nt) (term-more hidden nt) line k j f g h w in (r.place, r.fault)

pub returns-clause-first : goal.returns-clause-first
returns-clause-first c =
    λ hidden l wanted k w h. (agrees hidden l wanted k w, (parts-in hidden l wanted k w h).ordered)

pub returns-clause-first_of_line : goal.returns-clause-first_of_line
returns-clause-first_of_line c = λ hidden q h k. (line-agrees hidden q, line-ordered hidden q h k)
