-- What is proved of the records of a log, as the check says it.
use Rattle.std.proofs.Common.{List}
use Rattle.ot_logic.specs.Names.{Name}
use Rattle.ot_logic.specs.Naming.{names}
use Rattle.ot_logic.specs.Trees.{Sequent, Definition, ConDef, ListDef, TyDef}
use Rattle.ot_laws.proofs.Definitions as laws
use Rattle.ot_log_format.specs.State.{LogState}
use Rattle.ot_log_format.proofs.StateSound as records
use Rattle.ot_log_format.proofs.DefinitionSound as definitions
use Rattle.ot_verify.specs.Held.{IsSound, HasPremise, IsAcceptable}

pub sound-stated : (st : LogState Name) → IsSound st → records.IsSound names st
sound-stated st s =
    record { sequents = s.sequents; assumptions = s.assumptions; accepted = s.accepted; results = s.results }

pub sound-here : (st : LogState Name) → records.IsSound names st → IsSound st
sound-here st s =
    record { sequents = s.sequents; assumptions = s.assumptions; accepted = s.accepted; results = s.results }

pub premise-stated : (d : Definition Name) → HasPremise d → laws.HasPremise names d
premise-stated (ConDef n t) h = h
premise-stated (ListDef ps q) h = h
premise-stated (TyDef n abs rep vs q) h = h

premise-here : (d : Definition Name) → laws.HasPremise names d → HasPremise d
premise-here (ConDef n t) h = h
premise-here (ListDef ps q) h = h
premise-here (TyDef n abs rep vs q) h = h

pub acceptable-stated : (al : List (Sequent Name)) (dl : List (Definition Name)) (d : Definition Name)
    → IsAcceptable al dl d
    → definitions.IsAcceptable names al dl d
acceptable-stated al dl d a = record { next = a.next; premise = premise-stated d a.premise }

pub acceptable-here : (al : List (Sequent Name)) (dl : List (Definition Name)) (d : Definition Name)
    → definitions.IsAcceptable names al dl d → IsAcceptable al dl d
acceptable-here al dl d a = record { next = a.next; premise = premise-here d a.premise }
