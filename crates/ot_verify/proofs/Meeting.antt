-- Names that are met while a record is read.
use Rattle.std.proofs.Common.{◌∙◌, refl}
use Rattle.ot_logic.proofs.TableLemmas.{Extends-refl, Extends-trans}
use Rattle.ot_verify.specs.Logged.{LogView, MeetsNames}

pub meets-nothing : (l : LogView) → MeetsNames l l
meets-nothing l = record { items = Extends-refl l.items; state = refl }

pub meets-then : (k l m : LogView) → MeetsNames k l → MeetsNames l m → MeetsNames k m
meets-then k l m a b = record { items = Extends-trans a.items b.items; state = b.state ∙ a.state }
