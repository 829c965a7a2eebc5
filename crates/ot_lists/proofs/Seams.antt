-- How the place is found where two sequences meet, and the place of a number that is taken out.
use Rattle.std.specs.Prelude.{remove}
use Rattle.std.proofs.Common.{◌≡◌, ℕ, suc, ◌+◌, ◌<◌, List, [], ◌∷◌, ◌++◌, length, refl, sym, ap, subst, ◌∙◌}
use Rattle.std.proofs.Common.{inl, arith, append_assoc, length-append}
use Rattle.std.proofs.lemmas.List.{append-nil}
use Rattle.std.proofs.lemmas.Option.{slice_get-get_or}
use Rattle.ot_logic.specs.Lists.{IsMember, AreDistinct}
use Rattle.ot_logic.proofs.Members.{IsMember-right}
use Rattle.ot_lists.specs.Ranks.{rank, IsTop}
use Rattle.ot_lists.specs.SequenceTable.{SequenceTable, sequence_at, IsSequenceTable}
use Rattle.ot_lists.specs.Sequences.{sequence_of, IsBelow, IsCutAtTop}
use Rattle.ot_lists.specs.declared.sequence.SequenceNode.{SequenceNode}
use Rattle.ot_lists.specs.declared.sequence.SequenceNode.TheVariants.{Empty, Cut}
use Rattle.ot_lists.specs.Frames.{filled, nested, AreTops}
use Rattle.ot_lists.specs.declared.sequence.append.Frame.{Frame}
use Rattle.ot_lists.specs.declared.sequence.append.Frame.TheVariants.{Behind, Before}
use Rattle.ot_lists.proofs.Ranks.{top-left, top-right}
use Rattle.ot_lists.proofs.Sublists.{parts-apart, middle-part, middle-distinct}
use Rattle.ot_lists.proofs.Sublists.{removed-middle, removed-before, removed-behind}
use Rattle.ot_lists.proofs.FrameLemmas.{IsFrame, nested-push, tops-push, tops-part, nested-distinct}

module _ (t : SequenceTable) (table : IsSequenceTable t) where
  pub distinct_at : (i : ℕ) → i < length t.lists → AreDistinct (sequence_at t i)
  distinct_at i h = table.distinct i _ (slice_get-get_or t.lists i [] h)

  pub under_at : (i x : ℕ) → i < length t.lists → IsMember x (sequence_at t i) → x < length t.keys
  under_at i x h m = table.under i _ (slice_get-get_or t.lists i [] h) x m

-- the sequence of a node that is cut has its number
cut-member : (xs ys l : List ℕ) (x : ℕ) → l ≡ xs ++ x ∷ ys → IsMember x l
cut-member xs ys l x e = subst (IsMember x) (sym e) (IsMember-right x xs (x ∷ ys) (inl refl))

-- a sequence is cut at a number
pub record IsCut (t : SequenceTable) (list before x behind : ℕ) : Type 0 where
  pub cut : sequence_at t list ≡ sequence_at t before ++ x ∷ sequence_at t behind
  pub top : IsTop x (sequence_at t list)
  pub before_in : before < length t.lists
  pub behind_in : behind < length t.lists

pub cut-of : (t : SequenceTable) (list : ℕ) (n : SequenceNode) (a x b : ℕ)
    → sequence_at t list ≡ sequence_of t.lists n → IsBelow (length t.lists) n
    → IsCutAtTop n (sequence_at t list) → n ≡ Cut a x b → IsCut t list a x b
cut-of t list n a x b is below top e =
    let parts = subst (IsBelow (length t.lists)) e below in
    record {
      cut = is ∙ ap (sequence_of t.lists) e;
      top = subst (λ m. IsCutAtTop m (sequence_at t list)) e top;
      before_in = parts.0;
      behind_in = parts.1;
    }

pub cut-none : (ss : List (List ℕ)) (l : List ℕ) (n : SequenceNode) → l ≡ sequence_of ss n
    → ((a x b : ℕ) → n ≡ Cut a x b → ⊥) → l ≡ []
cut-none ss l Empty is h = is
cut-none ss l (Cut a x b) is h = absurd (h a x b refl)

-- its parts are shorter
module _ (t : SequenceTable) (list before x behind : ℕ) (c : IsCut t list before x behind) where
  pub cut-length : length (sequence_at t list) ≡ length (sequence_at t before) + suc (length (sequence_at t behind))
  cut-length = ap length c.cut ∙ length-append (sequence_at t before) (x ∷ sequence_at t behind)

-- ---- two sequences that meet within frames
pub record IsSeam (t : SequenceTable) (frames : List Frame) (left right : ℕ) (goal : List ℕ) : Type 0 where
  pub left_in : left < length t.lists
  pub right_in : right < length t.lists
  pub whole : nested t frames (sequence_at t left ++ sequence_at t right) ≡ goal
  pub tops : AreTops t frames (sequence_at t left ++ sequence_at t right)

pub seam-none : (t : SequenceTable) (frames : List Frame) (left right : ℕ) → frames ≡ [] → left < length t.lists
    → right < length t.lists → IsSeam t frames left right (sequence_at t left ++ sequence_at t right)
seam-none t frames left right none l r = record {
  left_in = l;
  right_in = r;
  whole = ap (λ fs. nested t fs (sequence_at t left ++ sequence_at t right)) none;
  tops = subst (λ fs. AreTops t fs (sequence_at t left ++ sequence_at t right)) (sym none) tt;
}

module _ (t : SequenceTable) (table : IsSequenceTable t) (frames : List Frame) (left right : ℕ) (goal : List ℕ)
    (h : IsSeam t frames left right goal) (distinct : AreDistinct goal) where
  abbrev ls : List ℕ
  ls = sequence_at t left

  abbrev rs : List ℕ
  rs = sequence_at t right

  pub seam-apart : (x : ℕ) → IsMember x ls → IsMember x rs → ⊥
  seam-apart = parts-apart ls rs (nested-distinct t frames (ls ++ rs) (subst AreDistinct (sym h.whole) distinct))

  -- where one side is empty, the other one is left
  pub seam-right : ls ≡ [] → (nested t frames rs ≡ goal) × AreTops t frames rs
  seam-right e = (
    ap (λ xs. nested t frames (xs ++ rs)) (sym e) ∙ h.whole,
    subst (λ xs. AreTops t frames (xs ++ rs)) e h.tops,
  )

  pub seam-left : rs ≡ [] → (nested t frames ls ≡ goal) × AreTops t frames ls
  seam-left e =
      let same : ls ++ rs ≡ ls = ap (λ xs. ls ++ xs) e ∙ append-nil ls in
      (ap (nested t frames) (sym same) ∙ h.whole, subst (AreTops t frames) same h.tops)

  module _ (first x inner centre y last : ℕ) (l : IsCut t left first x inner) (r : IsCut t right centre y last) where
    pub seam-differ : x ≡ y → ⊥
    seam-differ e =
        seam-apart y (subst (λ z. IsMember z ls) e (cut-member (sequence_at t first) (sequence_at t inner) ls x l.cut))
        (cut-member (sequence_at t centre) (sequence_at t last) rs y r.cut)

    joined-left : ls ++ rs ≡ filled t (Behind first x) (sequence_at t inner ++ rs)
    joined-left = ap (λ xs. xs ++ rs) l.cut ∙ append_assoc (sequence_at t first) (x ∷ sequence_at t inner) rs

    joined-right : ls ++ rs ≡ filled t (Before y last) (ls ++ sequence_at t centre)
    joined-right = ap (λ xs. ls ++ xs) r.cut ∙ sym (append_assoc ls (sequence_at t centre) (y ∷ sequence_at t last))

    next : (f : Frame) (a b : ℕ) → ls ++ rs ≡ filled t f (sequence_at t a ++ sequence_at t b) → a < length t.lists
        → b < length t.lists → IsFrame t f (sequence_at t a ++ sequence_at t b)
        → (items : List Frame) → items ≡ frames ++ f ∷ [] → IsSeam t items a b goal
    next f a b same l_in r_in frame items e =
        let both = sequence_at t a ++ sequence_at t b in
        record {
          left_in = l_in;
          right_in = r_in;
          whole = ap (λ fs. nested t fs both) e ∙ nested-push t frames f both ∙ ap (nested t frames) (sym same) ∙ h.whole;
          tops = subst (λ fs. AreTops t fs both) (sym e)
              (tops-push t frames f both (subst (AreTops t frames) same h.tops) frame);
        }

    pub seam-behind : rank y < rank x → (items : List Frame) → items ≡ frames ++ Behind first x ∷ []
        → IsSeam t items inner right goal
    seam-behind k = next (Behind first x) inner right joined-left l.behind_in h.right_in (record {
      side = l.before_in;
      key = under_at t table left x h.left_in (cut-member (sequence_at t first) (sequence_at t inner) ls x l.cut);
      top = subst (IsTop x) joined-left (top-left x y ls rs l.top r.top k);
    })

    pub seam-before : rank x < rank y → (items : List Frame) → items ≡ frames ++ Before y last ∷ []
        → IsSeam t items left centre goal
    seam-before k = next (Before y last) left centre joined-right h.left_in r.before_in (record {
      side = r.behind_in;
      key = under_at t table right y h.right_in (cut-member (sequence_at t centre) (sequence_at t last) rs y r.cut);
      top = subst (IsTop y) joined-right (top-right x y ls rs l.top r.top k);
    })

-- ---- a place within frames
pub record IsGap (t : SequenceTable) (frames : List Frame) (list at : ℕ) (goal : List ℕ) : Type 0 where
  pub list_in : list < length t.lists
  pub at_in : at < length (sequence_at t list)
  pub whole : nested t frames (remove (sequence_at t list) at) ≡ goal
  pub tops : AreTops t frames (sequence_at t list)

pub gap-none : (t : SequenceTable) (frames : List Frame) (list at : ℕ) → frames ≡ [] → list < length t.lists
    → at < length (sequence_at t list) → IsGap t frames list at (remove (sequence_at t list) at)
gap-none t frames list at none l a = record {
  list_in = l;
  at_in = a;
  whole = ap (λ fs. nested t fs (remove (sequence_at t list) at)) none;
  tops = subst (λ fs. AreTops t fs (sequence_at t list)) (sym none) tt;
}

module _ (t : SequenceTable) (table : IsSequenceTable t) (frames : List Frame) (list at : ℕ) (goal : List ℕ)
    (h : IsGap t frames list at goal) (before x behind : ℕ) (c : IsCut t list before x behind) where
  abbrev xs : List ℕ
  xs = sequence_at t before

  abbrev ys : List ℕ
  ys = sequence_at t behind

  pub gap-distinct : AreDistinct (xs ++ ys)
  gap-distinct = middle-distinct xs ys x (subst AreDistinct c.cut (distinct_at t table list h.list_in))

  -- the place is found
  pub gap-here : at ≡ length xs → (nested t frames (xs ++ ys) ≡ goal) × AreTops t frames (xs ++ ys)
  gap-here e = (
    ap (nested t frames) (sym (ap (λ l. remove l at) c.cut ∙ ap (remove (xs ++ x ∷ ys)) e ∙ removed-middle xs ys x))
        ∙ h.whole,
    tops-part t frames (xs ++ ys) (xs ++ x ∷ ys) (middle-part xs ys x) (subst (AreTops t frames) c.cut h.tops),
  )

  key_in : x < length t.keys
  key_in = under_at t table list x h.list_in (cut-member xs ys (sequence_at t list) x c.cut)

  -- it is before the number
  pub gap-before : at < length xs → (items : List Frame) → items ≡ frames ++ Before x behind ∷ []
      → IsGap t items before at goal
  gap-before k items e = record {
    list_in = c.before_in;
    at_in = k;
    whole = ap (λ fs. nested t fs (remove xs at)) e ∙ nested-push t frames (Before x behind) (remove xs at)
        ∙ ap (nested t frames) (sym (ap (λ l. remove l at) c.cut ∙ removed-before xs ys x at k)) ∙ h.whole;
    tops = subst (λ fs. AreTops t fs xs) (sym e)
        (tops-push t frames (Before x behind) xs (subst (AreTops t frames) c.cut h.tops)
        (record { side = c.behind_in; key = key_in; top = subst (IsTop x) c.cut c.top }));
  }

  -- it is behind the number
  pub gap-behind : (k : ℕ) → at ≡ length xs + suc k → (items : List Frame) → items ≡ frames ++ Behind before x ∷ []
      → IsGap t items behind k goal
  gap-behind k place items e = record {
    list_in = c.behind_in;
    at_in =
        let n : length (sequence_at t list) ≡ length xs + suc (length ys) = ap length c.cut ∙ length-append xs (x ∷ ys) in
        omega (arith, n, place, h.at_in);
    whole = ap (λ fs. nested t fs (remove ys k)) e ∙ nested-push t frames (Behind before x) (remove ys k)
        ∙ ap (nested t frames)
        (sym (ap (λ l. remove l at) c.cut ∙ ap (remove (xs ++ x ∷ ys)) place ∙ removed-behind xs ys x k)) ∙ h.whole;
    tops = subst (λ fs. AreTops t fs ys) (sym e)
        (tops-push t frames (Behind before x) ys (subst (AreTops t frames) c.cut h.tops)
        (record { side = c.before_in; key = key_in; top = subst (IsTop x) c.cut c.top }));
  }
