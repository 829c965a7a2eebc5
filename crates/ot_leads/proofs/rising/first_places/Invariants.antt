use Rattle.ot_leads.proofs.FirstPlaces.{IsNoting}
use Rattle.ot_leads.proofs.rising.first_places.Given as goal

abbrev pub invariant-loop-place : goal.invariant-loop-place
invariant-loop-place l = IsNoting l.steps l.count l.place l.is_new.items l.places.items
