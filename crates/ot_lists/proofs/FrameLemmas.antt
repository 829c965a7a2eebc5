-- Sequences with a gap, and how the gap is filled.
use Rattle.std.proofs.Common.{◌≡◌, ℕ, ◌<◌, List, [], ◌∷◌, ◌++◌, length, slice_get, Some, refl, sym, ap, subst, ◌∙◌}
use Rattle.std.proofs.Common.{inl, inr, arith}
use Rattle.std.proofs.lemmas.Option.{get_or_from_slice_get, slice_get-get_or, slice_get_within}
use Rattle.ot_logic.specs.Lists.{IsPart, AreDistinct}
use Rattle.ot_logic.proofs.Members.{IsMember-left, IsMember-right, IsMember-cases}
use Rattle.ot_logic.proofs.TableLemmas.{Extends-refl, Extends-trans, get_or-Extends}
use Rattle.ot_lists.specs.Ranks.{IsTop}
use Rattle.ot_lists.specs.SequenceTable.{SequenceTable, sequence_at, Grows, IsSequenceTable}
use Rattle.ot_lists.specs.Frames.{top_of, side_of, filled, nested, AreTops}
use Rattle.ot_lists.specs.declared.sequence.append.Frame.{Frame}
use Rattle.ot_lists.specs.declared.sequence.append.Frame.TheVariants.{Behind, Before}
use Rattle.ot_lists.proofs.Snoc.{front-distinct}
use Rattle.ot_lists.proofs.Sublists.{back-distinct}

pub grows-refl : (t : SequenceTable) → Grows t t
grows-refl t = record { keys = refl; lists = Extends-refl t.lists }

pub grows-trans : {t u w : SequenceTable} → Grows t u → Grows u w → Grows t w
grows-trans g h = record { keys = h.keys ∙ g.keys; lists = Extends-trans g.lists h.lists }

-- a sequence keeps its number
pub stays : (t u : SequenceTable) → Grows t u → (i : ℕ) → i < length t.lists → sequence_at u i ≡ sequence_at t i
stays t u g i h = get_or-Extends t.lists u.lists g.lists i [] h

-- what a frame has to be that is filled
pub record IsFrame (t : SequenceTable) (f : Frame) (l : List ℕ) : Type 0 where
  pub side : side_of f < length t.lists
  pub key : top_of f < length t.keys
  pub top : IsTop (top_of f) (filled t f l)

module _ (t : SequenceTable) where
  -- ---- one frame more, the innermost
  pub nested-push : (fs : List Frame) (f : Frame) (l : List ℕ) → nested t (fs ++ f ∷ []) l ≡ nested t fs (filled t f l)
  nested-push [] f l = refl
  nested-push (g ∷ fs) f l = ap (filled t g) (nested-push fs f l)

  pub tops-push : (fs : List Frame) (f : Frame) (l : List ℕ) → AreTops t fs (filled t f l) → IsFrame t f l
      → AreTops t (fs ++ f ∷ []) l
  tops-push [] f l h one = (one.side, one.key, one.top, tt)
  tops-push (g ∷ fs) f l h one = (
    h.0,
    h.1,
    subst (λ m. IsTop (top_of g) (filled t g m)) (sym (nested-push fs f l)) h.2,
    tops-push fs f l h.3 one,
  )

  pub tops-pop : (fs : List Frame) (f : Frame) (l : List ℕ) → AreTops t (fs ++ f ∷ []) l
      → AreTops t fs (filled t f l) × IsFrame t f l
  tops-pop [] f l h = (tt, record { side = h.0; key = h.1; top = h.2 })
  tops-pop (g ∷ fs) f l h =
      let (rest, one) = tops-pop fs f l h.3 in
      ((h.0, h.1, subst (λ m. IsTop (top_of g) (filled t g m)) (nested-push fs f l) h.2, rest), one)

  -- ---- with less in the gap
  filled-part : (f : Frame) (l m : List ℕ) → IsPart l m → IsPart (filled t f l) (filled t f m)
  filled-part (Behind a x) l m h y i = elim (IsMember-cases y (sequence_at t a) (x ∷ l) i) [
    | inl p ↦ IsMember-left y (sequence_at t a) (x ∷ m) p
    | inr p ↦ IsMember-right y (sequence_at t a) (x ∷ m) (elim p [ inl e ↦ inl e | inr q ↦ inr (h y q) ])
  ]
  filled-part (Before x b) l m h y i = elim (IsMember-cases y l (x ∷ sequence_at t b) i) [
    | inl p ↦ IsMember-left y m (x ∷ sequence_at t b) (h y p)
    | inr p ↦ IsMember-right y m (x ∷ sequence_at t b) p
  ]

  nested-part : (fs : List Frame) (l m : List ℕ) → IsPart l m → IsPart (nested t fs l) (nested t fs m)
  nested-part [] l m h = h
  nested-part (f ∷ fs) l m h = filled-part f (nested t fs l) (nested t fs m) (nested-part fs l m h)

  pub tops-part : (fs : List Frame) (l m : List ℕ) → IsPart l m → AreTops t fs m → AreTops t fs l
  tops-part [] l m h a = tt
  tops-part (f ∷ fs) l m h a =
      (a.0, a.1, λ y i. a.2 y (filled-part f _ _ (nested-part fs l m h) y i), tops-part fs l m h a.3)

  -- ---- without repetition
  filled-distinct : (f : Frame) (l : List ℕ) → AreDistinct (filled t f l) → AreDistinct l
  filled-distinct (Behind a x) l d = (back-distinct (sequence_at t a) (x ∷ l) d).1
  filled-distinct (Before x b) l d = front-distinct l (x ∷ sequence_at t b) d

  pub nested-distinct : (fs : List Frame) (l : List ℕ) → AreDistinct (nested t fs l) → AreDistinct l
  nested-distinct [] l d = d
  nested-distinct (f ∷ fs) l d = nested-distinct fs l (filled-distinct f (nested t fs l) d)

-- ---- in a table that has grown
module _ (t u : SequenceTable) (g : Grows t u) where
  filled-grown : (f : Frame) (l : List ℕ) → side_of f < length t.lists → filled u f l ≡ filled t f l
  filled-grown (Behind a x) l h = ap (λ s. s ++ x ∷ l) (stays t u g a h)
  filled-grown (Before x b) l h = ap (λ s. l ++ x ∷ s) (stays t u g b h)

  pub nested-grown : (fs : List Frame) (l m : List ℕ) → AreTops t fs m → nested u fs l ≡ nested t fs l
  nested-grown [] l m h = refl
  nested-grown (f ∷ fs) l m h =
      filled-grown f (nested u fs l) h.0 ∙ ap (filled t f) (nested-grown fs l m h.3)

  pub tops-grown : (fs : List Frame) (l : List ℕ) → AreTops t fs l → AreTops u fs l
  tops-grown [] l h = tt
  tops-grown (f ∷ fs) l h = (
    omega (arith, h.0, g.lists.longer),
    subst (λ ks. top_of f < length ks) (sym g.keys) h.1,
    subst (IsTop (top_of f)) (sym (nested-grown (f ∷ fs) l l h)) h.2,
    tops-grown fs l h.3,
  )

-- ---- frames are filled, the innermost first
pub record IsFilling (old now : SequenceTable) (frames : List Frame) (list : ℕ) (goal : List ℕ) : Type 0 where
  pub below : list < length now.lists
  pub whole : nested now frames (sequence_at now list) ≡ goal
  pub tops : AreTops now frames (sequence_at now list)
  pub grown : Grows old now
  pub table : IsSequenceTable now

module _ (old now : SequenceTable) (items rest : List Frame) (frame : Frame) (list : ℕ) (goal : List ℕ)
    (left : items ≡ rest ++ frame ∷ []) (h : IsFilling old now items list goal) where
  abbrev inner : List ℕ
  inner = sequence_at now list

  popped : AreTops now rest (filled now frame inner) × IsFrame now frame inner
  popped = tops-pop now rest frame inner (subst (λ fs. AreTops now fs inner) left h.tops)

  outer : nested now rest (filled now frame inner) ≡ goal
  outer = sym (nested-push now rest frame inner) ∙ ap (λ fs. nested now fs inner) (sym left) ∙ h.whole

  pub filling-frame : IsFrame now frame inner
  filling-frame = popped.1

  pub filling-distinct : AreDistinct goal → AreDistinct (filled now frame inner)
  filling-distinct d = nested-distinct now rest (filled now frame inner) (subst AreDistinct (sym outer) d)

  pub filling-next : (new : SequenceTable) (r : ℕ) → slice_get new.lists r ≡ Some (filled now frame inner)
      → Grows now new → IsSequenceTable new → IsFilling old new rest r goal
  filling-next new r found g table =
      let at : sequence_at new r ≡ filled now frame inner = get_or_from_slice_get new.lists r _ [] found in
      record {
        below = slice_get_within new.lists r _ found;
        whole = ap (nested new rest) at
            ∙ nested-grown now new g rest (filled now frame inner) (filled now frame inner) popped.0 ∙ outer;
        tops = subst (AreTops new rest) (sym at) (tops-grown now new g rest (filled now frame inner) popped.0);
        grown = grows-trans h.grown g;
        table = table;
      }

pub filling-none : (t : SequenceTable) (frames : List Frame) (list : ℕ) → list < length t.lists
    → AreTops t frames (sequence_at t list) → IsSequenceTable t
    → IsFilling t t frames list (nested t frames (sequence_at t list))
filling-none t frames list below tops table =
    record { below = below; whole = refl; tops = tops; grown = grows-refl t; table = table }

pub filling-all : (old now : SequenceTable) (frames : List Frame) (list : ℕ) (goal : List ℕ) → frames ≡ []
    → IsFilling old now frames list goal → slice_get now.lists list ≡ Some goal
filling-all old now frames list goal none h =
    slice_get-get_or now.lists list [] h.below
    ∙ ap Some (ap (λ fs. nested now fs (sequence_at now list)) (sym none) ∙ h.whole)

-- ---- frames of a table, filled in one that has grown
module _ (t u : SequenceTable) (g : Grows t u) (frames : List Frame) (l : List ℕ) (m : ℕ)
    (at : slice_get u.lists m ≡ Some l) (tops : AreTops t frames l) where
  is : sequence_at u m ≡ l
  is = get_or_from_slice_get u.lists m l [] at

  pub within-tops : AreTops u frames (sequence_at u m)
  within-tops = subst (AreTops u frames) (sym is) (tops-grown t u g frames l tops)

  pub within-nested : nested u frames (sequence_at u m) ≡ nested t frames l
  within-nested = ap (nested u frames) is ∙ nested-grown t u g frames l l tops
