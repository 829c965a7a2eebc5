-- Parts of a sequence that are still to be walked.
use Rattle.std.proofs.Common.{◌≡◌, ℕ, suc, ◌+◌, ◌-◌, ◌*◌, ◌<◌, List, [], ◌∷◌, ◌++◌, length, Some, None, sym, ap, subst}
use Rattle.std.proofs.Common.{◌∙◌, inl, inr, ◌⊎◌, arith, append_assoc, length-append, reverse}
use Rattle.std.proofs.Common.{map, slice_get, ◌≢◌}
use Rattle.std.proofs.lemmas.List.{append-nil, map-append}
use Rattle.ot_logic.specs.Lists.{IsMember, AreDistinct}
use Rattle.ot_logic.specs.Trees.{Variable}
use Rattle.ot_logic.proofs.Members.{IsMember-cases, IsMember-left, IsMember-last}
use Rattle.ot_lists.specs.Variables.{variable_of}
use Rattle.ot_lists.specs.SequenceTable.{SequenceTable, sequence_at, IsUnder, IsSequenceTable}
use Rattle.ot_lists.specs.Lists.{variable_at}
use Rattle.ot_lists.specs.declared.list.Key.{Key}
use Rattle.ot_lists.specs.Sequences.{Describes}
use Rattle.ot_lists.specs.declared.sequence.Extent.{Extent}
use Rattle.ot_lists.specs.Places.{place_in}
use Rattle.ot_lists.specs.Parts.{part_of, spread, steps_of, steps, IsPartOf, ArePartsOf, AreLeft}
use Rattle.ot_lists.specs.declared.sequence.walk.Part.{Part}
use Rattle.ot_lists.specs.declared.sequence.walk.Part.TheVariants.{Tree, One}
use Rattle.ot_lists.proofs.Snoc.{moved}
use Rattle.ot_lists.proofs.Sublists.{place-absent, place-middle, middle-before}
use Rattle.ot_lists.proofs.Seams.{under_at}
use Rattle.ot_lists.proofs.Lifting.{key-is}

module _ (t : SequenceTable) where
  -- ---- one part more
  pub spread-push : (ps : List Part) (p : Part) → spread t (ps ++ p ∷ []) ≡ spread t ps ++ part_of t p
  spread-push [] p = append-nil (part_of t p)
  spread-push (q ∷ ps) p = ap (λ l. part_of t q ++ l) (spread-push ps p)
      ∙ sym (append_assoc (part_of t q) (spread t ps) (part_of t p))

  pub steps-push : (ps : List Part) (p : Part) → steps t (ps ++ p ∷ []) ≡ steps t ps + steps_of t p
  steps-push [] p = omega arith
  steps-push (q ∷ ps) p = let rest = steps-push ps p in omega (arith, rest)

  pub parts-push : (ps : List Part) (p : Part) → ArePartsOf t ps → IsPartOf t p → ArePartsOf t (ps ++ p ∷ [])
  parts-push [] p h one = (one, tt)
  parts-push (q ∷ ps) p h one = (h.0, parts-push ps p h.1 one)

  pub parts-pop : (ps : List Part) (p : Part) → ArePartsOf t (ps ++ p ∷ []) → ArePartsOf t ps × IsPartOf t p
  parts-pop [] p h = (tt, h.0)
  parts-pop (q ∷ ps) p h = let (rest, one) = parts-pop ps p h.1 in ((h.0, rest), one)

  -- ---- a tree is opened
  abbrev pub opened : List Part → ℕ → ℕ → ℕ → List Part
  opened ps before x behind = ((ps ++ Tree before ∷ []) ++ One x ∷ []) ++ Tree behind ∷ []

  module _ (ps : List Part) (before x behind : ℕ) where
    pub spread-opened : (tree : ℕ) → sequence_at t tree ≡ sequence_at t before ++ x ∷ sequence_at t behind
        → spread t (opened ps before x behind) ≡ spread t ps ++ sequence_at t tree
    spread-opened tree cut =
        let xs = sequence_at t before in
        let ys = sequence_at t behind in
        spread-push ((ps ++ Tree before ∷ []) ++ One x ∷ []) (Tree behind)
        ∙ ap (λ l. l ++ ys)
        (spread-push (ps ++ Tree before ∷ []) (One x) ∙ ap (λ l. l ++ x ∷ []) (spread-push ps (Tree before)))
        ∙ append_assoc (spread t ps ++ xs) (x ∷ []) ys ∙ append_assoc (spread t ps) xs (x ∷ ys)
        ∙ ap (λ l. spread t ps ++ l) (sym cut)

    pub steps-opened : (n : ℕ) → n ≡ length (sequence_at t before) + suc (length (sequence_at t behind))
        → steps t (opened ps before x behind) < steps t ps + (3 * n + 1)
    steps-opened n e =
        let one = steps-push ((ps ++ Tree before ∷ []) ++ One x ∷ []) (Tree behind) in
        let two = steps-push (ps ++ Tree before ∷ []) (One x) in
        let three = steps-push ps (Tree before) in
        omega (arith, one, two, three, e)

    pub parts-opened : ArePartsOf t ps → before < length t.lists → behind < length t.lists
        → ArePartsOf t (opened ps before x behind)
    parts-opened h a b =
        parts-push ((ps ++ Tree before ∷ []) ++ One x ∷ []) (Tree behind)
        (parts-push (ps ++ Tree before ∷ []) (One x) (parts-push ps (Tree before) h a) tt) b

  -- a part is taken off
  pub steps-left : (items ps : List Part) (p : Part) → items ≡ ps ++ p ∷ [] → steps t items ≡ steps t ps + steps_of t p
  steps-left items ps p left = ap (steps t) left ∙ steps-push ps p

  pub parts-left : (items ps : List Part) (p : Part) → items ≡ ps ++ p ∷ [] → ArePartsOf t items
      → ArePartsOf t ps × IsPartOf t p
  parts-left items ps p left h = parts-pop ps p (subst (ArePartsOf t) left h)

  pub tree-smaller : (items ps new : List Part) (p : Part) (i : ℕ) → items ≡ ps ++ p ∷ [] → p ≡ Tree i
      → steps t new < steps t ps + (3 * length (sequence_at t i) + 1) → steps t new < steps t items
  tree-smaller items ps new p i left e h =
      let n = steps-left items ps p left in
      let m = ap (steps_of t) e in
      omega (arith, n, m, h)

  pub one-smaller : (items ps : List Part) (p : Part) (x : ℕ) → items ≡ ps ++ p ∷ [] → p ≡ One x
      → steps t ps < steps t items
  one-smaller items ps p x left e =
      let n = steps-left items ps p left in
      let m = ap (steps_of t) e in
      omega (arith, n, m)

  -- ---- the variables, from the end to the front
  pub record AreTaken (vs : List (Variable ℕ)) (ps : List Part) (ks : List Key) : Type 0 where
    pub whole : map (variable_at t.keys) (spread t ps) ++ map variable_of (reverse ks) ≡ vs
    pub parts : ArePartsOf t ps
    pub under : IsUnder (length t.keys) (spread t ps)

  pub taken-none : IsSequenceTable t → (ps : List Part) (i : ℕ) (ks : List Key) → ps ≡ Tree i ∷ [] → ks ≡ []
      → i < length t.lists → AreTaken (map (variable_at t.keys) (sequence_at t i)) ps ks
  taken-none table ps i ks e none h =
      let same : spread t ps ≡ sequence_at t i = ap (spread t) e ∙ append-nil (sequence_at t i) in
      record {
        whole = (λ j. map (variable_at t.keys) (same j) ++ map variable_of (reverse (none j)))
            ∙ append-nil (map (variable_at t.keys) (sequence_at t i));
        parts = subst (ArePartsOf t) (sym e) (h, tt);
        under = subst (IsUnder (length t.keys)) (sym same) (λ x m. under_at t table i x h m);
      }

  module _ (vs : List (Variable ℕ)) (items ps : List Part) (p : Part) (ks : List Key) (left : items ≡ ps ++ p ∷ [])
      (h : AreTaken vs items ks) where
    pub taken-parts : ArePartsOf t ps × IsPartOf t p
    taken-parts = parts-left items ps p left h.parts

    same : spread t items ≡ spread t ps ++ part_of t p
    same = ap (spread t) left ∙ spread-push ps p

    pub taken-opened : (new : List Part) → spread t new ≡ spread t ps ++ part_of t p → ArePartsOf t new
        → AreTaken vs new ks
    taken-opened new e parts =
        let one = e ∙ sym same in
        record {
          whole = ap (λ l. map (variable_at t.keys) l ++ map variable_of (reverse ks)) one ∙ h.whole;
          parts = parts;
          under = subst (IsUnder (length t.keys)) (sym one) h.under;
        }

    module _ (x : ℕ) (e : p ≡ One x) where
      last : spread t items ≡ spread t ps ++ x ∷ []
      last = same ∙ ap (λ q. spread t ps ++ part_of t q) e

      pub taken-key : x < length t.keys
      taken-key = h.under x (subst (IsMember x) (sym last) (IsMember-last x (spread t ps)))

      pub taken-one : (k : Key) → slice_get t.keys x ≡ Some k → (ls : List Key) → ls ≡ ks ++ k ∷ [] → AreTaken vs ps ls
      taken-one k at ls more =
          let f = variable_at t.keys in
          record {
            whole = ap (λ zs. map f (spread t ps) ++ map variable_of (reverse zs)) more
                ∙ sym (moved variable_of (map f (spread t ps)) ks k)
                ∙ ap (λ v. (map f (spread t ps) ++ v ∷ []) ++ map variable_of (reverse ks)) (sym (key-is t.keys k x at))
                ∙ ap (λ l. l ++ map variable_of (reverse ks)) (sym (map-append f (spread t ps) (x ∷ [])))
                ∙ ap (λ l. map f l ++ map variable_of (reverse ks)) (sym last) ∙ h.whole;
            parts = taken-parts.0;
            under = λ y m. h.under y (subst (IsMember y) (sym last) (IsMember-left y (spread t ps) (x ∷ []) m));
          }

  pub taken-all : (vs : List (Variable ℕ)) (ps : List Part) (ks : List Key) → ps ≡ [] → AreTaken vs ps ks
      → map variable_of (reverse ks) ≡ vs
  taken-all vs ps ks none h =
      ap (λ qs. map (variable_at t.keys) (spread t qs) ++ map variable_of (reverse ks)) (sym none) ∙ h.whole

  -- ---- the place of a number
  pub left-of : (x : ℕ) (l : List ℕ) (items ps : List Part) (p : Part) (end : ℕ) → items ≡ ps ++ p ∷ []
      → AreLeft t x l items end → AreLeft t x l (ps ++ p ∷ []) end
  left-of x l items ps p end left h = subst (λ qs. AreLeft t x l qs end) left h

  pub left-none : (i x : ℕ) (ps : List Part) → ps ≡ Tree i ∷ [] → (end : ℕ) → end ≡ length (sequence_at t i)
      → AreLeft t x (sequence_at t i) ps end
  left-none i x ps e end n = record {
    walked = [];
    split = ap (λ qs. spread t qs ++ []) e ∙ append-nil (sequence_at t i ++ []) ∙ append-nil (sequence_at t i);
    apart = λ m. m;
    end_is = n ∙ ap length (sym (ap (spread t) e ∙ append-nil (sequence_at t i)));
  }

  module _ (x : ℕ) (l : List ℕ) (ps : List Part) (p : Part) (end : ℕ) (h : AreLeft t x l (ps ++ p ∷ []) end) where
    pub left-end : end ≡ length (spread t ps) + length (part_of t p)
    left-end = h.end_is ∙ ap length (spread-push ps p) ∙ length-append (spread t ps) (part_of t p)

    -- the part is passed over
    pub left-passed : ¬ (IsMember x (part_of t p)) → (n : ℕ) → n ≡ length (part_of t p) → AreLeft t x l ps (end - n)
    left-passed none n e =
        let at = left-end in
        record {
          walked = part_of t p ++ h.walked;
          split = sym (append_assoc (spread t ps) (part_of t p) h.walked)
              ∙ ap (λ m. m ++ h.walked) (sym (spread-push ps p)) ∙ h.split;
          apart = λ m. elim (IsMember-cases x (part_of t p) h.walked m) [ inl i ↦ none i | inr i ↦ h.apart i ];
          end_is = omega arith;
        }

    -- one that is not the number
    pub left-other : (y : ℕ) → p ≡ One y → x ≢ y → AreLeft t x l ps (end - 1)
    left-other y e differ =
        let none : ¬ (IsMember x (y ∷ [])) = λ m. elim m [ inl q ↦ differ (sym q) | inr i ↦ i ] in
        left-passed (subst (λ q. ¬ (IsMember x (part_of t q))) (sym e) none) 1 (ap (λ q. length (part_of t q)) (sym e))

    -- or opened
    pub left-opened : (new : List Part) → spread t new ≡ spread t ps ++ part_of t p → AreLeft t x l new end
    left-opened new e =
        let same = e ∙ sym (spread-push ps p) in
        record {
          walked = h.walked;
          split = ap (λ m. m ++ h.walked) same ∙ h.split;
          apart = h.apart;
          end_is = h.end_is ∙ ap length (sym same);
        }

    -- or it is the number
    pub left-found : p ≡ One x → AreDistinct l → Some (end - 1) ≡ place_in l x
    left-found e distinct =
        let at = left-end in
        let one : length (part_of t p) ≡ 1 = ap (λ q. length (part_of t q)) e in
        let split : spread t ps ++ x ∷ h.walked ≡ l =
        sym (append_assoc (spread t ps) (x ∷ []) h.walked)
        ∙ ap (λ q. (spread t ps ++ part_of t q) ++ h.walked) (sym e)
        ∙ ap (λ m. m ++ h.walked) (sym (spread-push ps p)) ∙ h.split in
        let n : end - 1 ≡ length (spread t ps) = omega arith in
        ap Some n
        ∙ sym (place-middle (spread t ps) h.walked x
        (middle-before (spread t ps) h.walked x (subst AreDistinct (sym split) distinct)))
        ∙ ap (λ m. place_in m x) split

  pub left-all : (x : ℕ) (l : List ℕ) (ps : List Part) (end : ℕ) → ps ≡ [] → AreLeft t x l ps end
      → None ≡ place_in l x
  left-all x l ps end none h =
      let split : h.walked ≡ l = ap (λ qs. spread t qs ++ h.walked) (sym none) ∙ h.split in
      sym (place-absent l x (subst (λ m. ¬ (IsMember x m)) split h.apart))

-- a number that is out of its bounds is not in a sequence
pub out-of-bounds : (l : List ℕ) (x : ℕ) (e : Extent) → Describes l e → (x < e.low) ⊎ (e.high < x) → ¬ (IsMember x l)
out-of-bounds l x e h (inl below) m = let k = h.low x m in omega (arith, below, k)
out-of-bounds l x e h (inr above) m = let k = h.high x m in omega (arith, above, k)
