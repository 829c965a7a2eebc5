-- Definitions that are accepted as a part of others.
use Rattle.std.specs.Prelude.{slice_get}
use Rattle.std.proofs.Common.{◌≡◌, ℕ, List, Some, take}
use Rattle.ot_logic.specs.Lists.{IsPart}
use Rattle.ot_logic.specs.Trees.{Alphabet, Sequent, Definition, ConDef, ListDef, TyDef}
use Rattle.ot_logic.specs.Hol.{Derivable, IsFine, Accepted}

-- some members of a list, in their old order: what stands before one stood before it
abbrev pub IsInOrder : {X : Type 0} → List X → List X → Type 0
IsInOrder {X} part whole =
    (i : ℕ) (x : X) → slice_get part i ≡ Some x → (k : ℕ) × (slice_get whole k ≡ Some x)
    × IsPart (take i part) (take k whole)

module _ {N : Type 0} (alphabet : Alphabet N) where
  -- the premise of a definition is derivable, where it has one
  abbrev pub HasPremise : List (Sequent N) → List (Definition N) → Definition N → Type 0
  HasPremise al dl (ConDef n t) = Unit {0}
  HasPremise al dl (ListDef ps q) = Derivable alphabet al dl q.hyps q.concl
  HasPremise al dl (TyDef n abs rep vs q) = Derivable alphabet al dl q.hyps q.concl

  -- the premise of each definition is derivable from these assumptions under the definitions before it
  abbrev pub HavePremises : List (Sequent N) → List (Definition N) → Type 0
  HavePremises al dl = (i : ℕ) (d : Definition N) → slice_get dl i ≡ Some d → HasPremise al (take i dl) d

  part-fine : (al bl : List (Sequent N)) (dl el : List (Definition N)) (d : Definition N) → HasPremise bl el d
      → IsFine alphabet al dl d → IsFine alphabet bl el d
  part-fine al bl dl el (ConDef n t) x f = f
  part-fine al bl dl el (ListDef ps q) x f = record {
    distinct = f.distinct;
    once = f.once;
    many = f.many;
    each = f.each;
    frees = f.frees;
    derivable = x;
  }
  part-fine al bl dl el (TyDef n abs rep vs q) x f = record {
    no_hyps = f.no_hyps;
    parts = f.parts;
    distinct = f.distinct;
    derivable = x;
  }

  -- of accepted definitions those are accepted, over any assumptions, that have their premises
  pub accepted_part : (al bl : List (Sequent N)) (dl el : List (Definition N)) → Accepted alphabet al dl
      → IsInOrder el dl
      → HavePremises bl el → Accepted alphabet bl el
  accepted_part al bl dl el a order premises = record {
    each = λ i d h.
        let (k, at, before) = order i d h in
        let n = a.each k d at in
        record {
          not_primitive = n.not_primitive;
          distinct = n.distinct;
          fresh = λ s e m here. n.fresh s e m (before e here);
          not_in_premise = n.not_in_premise;
          unused = λ s e m here. n.unused s e m (before e here);
          fine = part-fine al bl (take k dl) (take i el) d (premises i d h) n.fine;
        };
  }
