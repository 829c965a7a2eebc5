use Rattle.std.proofs.Common.{[], ◌++◌, refl, ap}
use Rattle.ot_text.proofs.TermLaw.{ty_text-inj, tm_text-inj}
use Rattle.ot_text.proofs.SequentLaw.{sequent-front, sequent_text-inj, sequent_text-same}
use Rattle.ot_text.proofs.laws.one_text.Goals as goal

pub returns-clause-types : goal.returns-clause-types
returns-clause-types c = λ t u p. (ty_text-inj t u [] [] (ap (λ z. z ++ []) p)).0

pub returns-clause-terms : goal.returns-clause-terms
returns-clause-terms c = λ l t u a b x y p. (tm_text-inj l t u a b [] [] x y refl refl (ap (λ z. z ++ []) p)).0

pub returns-clause-sequents : goal.returns-clause-sequents
returns-clause-sequents c = sequent_text-inj

pub returns-clause-sets : goal.returns-clause-sets
returns-clause-sets c = sequent_text-same

pub returns-clause-types_in_front : goal.returns-clause-types_in_front
returns-clause-types_in_front c = ty_text-inj

pub returns-clause-terms_in_front : goal.returns-clause-terms_in_front
returns-clause-terms_in_front c = tm_text-inj

pub returns-clause-sequents_in_front : goal.returns-clause-sequents_in_front
returns-clause-sequents_in_front c = sequent-front
