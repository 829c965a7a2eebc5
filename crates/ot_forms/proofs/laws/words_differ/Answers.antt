use Rattle.ot_forms.proofs.Notations.{is-notation}
use Rattle.ot_forms.proofs.DifferentWords as words
use Rattle.ot_forms.proofs.laws.words_differ.Goals as goal

pub returns-clause-notations : goal.returns-clause-notations
returns-clause-notations c = λ shown symbols named. is-notation shown named symbols

pub returns-clause-symbols : goal.returns-clause-symbols
returns-clause-symbols c = words.words-differ

pub returns-clause-variables : goal.returns-clause-variables
returns-clause-variables c = words.variable-words-differ
