-- What an accepted definition speaks of is well typed.
use Rattle.std.specs.Prelude.{◌≡◌, ℕ, List, Some, slice_get, get_or, take, drop}
use Rattle.std.specs.List.{All}
use Rattle.std.proofs.Common.{subst}
use Rattle.std.proofs.lemmas.List.{take-append-drop}
use Rattle.std.proofs.lemmas.Option.{slice_get-get_or, slice_get_within, get_or_from_slice_get}
use Rattle.ot_logic.specs.Names.{Name}
use Rattle.ot_logic.specs.Naming.{names}
use Rattle.ot_logic.specs.Table.{Extends}
use Rattle.ot_logic.specs.Trees.{Sequent, Definition, ConDef, ListDef, TyDef}
use Rattle.ot_logic.specs.Hol.{IsSequent, type_of, Derivable, IsFine, Accepted}
use Rattle.ot_logic.proofs.TableLemmas.{Extends-refl, Extends-append}
use Rattle.ot_laws.specs.Theorem.{AreSequents}
use Rattle.ot_laws.proofs.Tests.{tells_names}
use Rattle.ot_laws.proofs.Grown.{grown-derivable}
use Rattle.ot_laws.proofs.Definitions.{accepted-sound}
use Rattle.ot_print.specs.Laws.{HasTypedPremise}

Extends-take : {X : Type 0} (i : ℕ) (xs : List X) → Extends (take i xs) xs
Extends-take i xs = subst (Extends (take i xs)) (take-append-drop i xs) (Extends-append (take i xs) (drop i xs))

module _ (al : List (Sequent Name)) (dl : List (Definition Name)) (a : AreSequents names al)
    (ok : Accepted names al dl) where
  -- what is derivable over some of the definitions
  earlier-sequent : (i : ℕ) (q : Sequent Name) → Derivable names al (take i dl) q.hyps q.concl → IsSequent names q
  earlier-sequent i q h =
      accepted-sound names tells_names al dl a ok q (grown-derivable names (Extends-refl al) (Extends-take i dl) h)

  fine-typed : (i : ℕ) (d : Definition Name) → IsFine names al (take i dl) d → HasTypedPremise d
  fine-typed i (ConDef n t) f = (type_of names t, f.typed)
  fine-typed i (ListDef ps q) f = earlier-sequent i q f.derivable
  fine-typed i (TyDef n abs rep vs q) f = earlier-sequent i q f.derivable

  pub accepted-typed : (i : ℕ) (d : Definition Name) → slice_get dl i ≡ Some d → HasTypedPremise d
  accepted-typed i d e = fine-typed i d (ok.each i d e).fine

pub accepted-all : (al : List (Sequent Name)) (dl : List (Definition Name)) → All (IsSequent names) al
    → Accepted names al dl → All HasTypedPremise dl
accepted-all al dl a ok i d here =
    accepted-typed al dl
    (λ j q h. subst (IsSequent names) (get_or_from_slice_get al j q q h) (a j q (slice_get_within al j q h)))
    ok i (get_or dl i d) (slice_get-get_or dl i d here)
