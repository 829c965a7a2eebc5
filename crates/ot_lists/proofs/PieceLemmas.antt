-- A sequence in pieces, as another one has them.
use Rattle.std.proofs.Common.{◌≡◌, ℕ, ◌+◌, ◌<◌, ◌≤◌, suc, List, [], ◌∷◌, ◌++◌, length, take, drop, Option, None, Some}
use Rattle.std.proofs.Common.{refl, sym, ap, subst, ◌∙◌, inl, inr, append_assoc, length-append, arith, cond, nat_eq}
use Rattle.std.proofs.Common.{Bool, true, false, eqb-true}
use Rattle.std.specs.Option.{option_map}
use Rattle.std.proofs.lemmas.List.{append-nil, take_at, drop_at, drop-drop}
use Rattle.std.proofs.lemmas.Option.{same_Some, none-some}
use Rattle.std.proofs.Math.Seq.{take-add}
use Rattle.ot_logic.specs.Lists.{IsMember}
use Rattle.ot_logic.proofs.Members.{IsMember-left, IsMember-push}
use Rattle.ot_lists.specs.SequenceTable.{SequenceTable, sequence_at}
use Rattle.ot_lists.specs.Places.{place_in}
use Rattle.ot_lists.specs.Parts.{part_of, steps, steps_of, IsPartOf, ArePartsOf}
use Rattle.ot_lists.specs.Pieces.{ahead, whole, piece_of, IsPiece, ArePieces, IsPartAt}
use Rattle.ot_lists.specs.declared.sequence.walk.Part.{Part}
use Rattle.ot_lists.specs.declared.sequence.walk.Part.TheVariants.{Tree, One}
use Rattle.ot_lists.specs.declared.sequence.pieces.Piece.{Piece}
use Rattle.ot_lists.specs.declared.sequence.pieces.Piece.TheVariants.{Same}
use Rattle.ot_lists.proofs.PartLemmas.{opened, parts-left, steps-left}

-- ---- a part of a sequence at a place
pub at-start : (l : List ℕ) → IsPartAt l l 0
at-start l = record { front = []; back = []; split = append-nil l; place_is = refl }

module _ (l xs ys : List ℕ) (x k : ℕ) (h : IsPartAt l (xs ++ x ∷ ys) k) where
  -- all that stands behind the part's front
  split-cut : h.front ++ (xs ++ (x ∷ (ys ++ h.back))) ≡ l
  split-cut = ap (λ m. h.front ++ m) (sym (append_assoc xs (x ∷ ys) h.back)) ∙ h.split

  pub at-before : IsPartAt l xs k
  at-before = record { front = h.front; back = x ∷ (ys ++ h.back); split = split-cut; place_is = h.place_is }

  pub at-number : (n : ℕ) → n ≡ k + length xs → IsPartAt l (x ∷ []) n
  at-number n e = record {
    front = h.front ++ xs;
    back = ys ++ h.back;
    split = append_assoc h.front xs (x ∷ (ys ++ h.back)) ∙ split-cut;
    place_is = let p = h.place_is in let m = length-append h.front xs in omega (arith, p, m, e);
  }

  pub at-behind : (n : ℕ) → n ≡ k + length xs + 1 → IsPartAt l ys n
  at-behind n e = record {
    front = (h.front ++ xs) ++ x ∷ [];
    back = h.back;
    split = append_assoc (h.front ++ xs) (x ∷ []) (ys ++ h.back) ∙ append_assoc h.front xs (x ∷ (ys ++ h.back))
        ∙ split-cut;
    place_is =
        let p = h.place_is in
        let m = length-append h.front xs in
        let o = length-append (h.front ++ xs) (x ∷ []) in
        omega (arith, p, m, o, e);
  }

pub at-within : (l part : List ℕ) (k : ℕ) → IsPartAt l part k → k + length part ≤ length l
at-within l part k h =
    let n = sym (ap length h.split) ∙ length-append h.front (part ++ h.back) in
    let m = length-append part h.back in
    let p = h.place_is in
    omega (arith, n, m, p)

pub at-take : (l part : List ℕ) (k n : ℕ) → IsPartAt l part k → n ≡ length part → take n (drop k l) ≡ part
at-take l part k n h e =
    (λ i. take n (drop k (sym h.split i))) ∙ ap (take n) (drop_at h.front (part ++ h.back) k (sym h.place_is))
    ∙ take_at part h.back n (sym e)

-- the place where a number is found
pub at-found : (l : List ℕ) (x k : ℕ) → Some k ≡ place_in l x → IsPartAt l (x ∷ []) k
at-found [] x k e = absurd (none-some k (sym e))
at-found (y ∷ l) x k e = by (at-found l x) (nat_eq x y) refl (place_in l x) refl e
  where
    by : ((j : ℕ) → Some j ≡ place_in l x → IsPartAt l (x ∷ []) j) → (b : Bool) → nat_eq x y ≡ b → (o : Option ℕ)
        → place_in l x ≡ o → Some k ≡ cond b (Some 0) (option_map suc o) → IsPartAt (y ∷ l) (x ∷ []) k
    by rest true s o p q = record {
      front = [];
      back = l;
      split = ap (λ z. z ∷ l) (eqb-true x y s);
      place_is = same_Some k 0 q;
    }
    by rest false s None p q = absurd (none-some k (sym q))
    by rest false s (Some j) p q =
        let h = rest j (sym p) in
        let n : k ≡ suc j = same_Some k (suc j) q in
        record {
          front = y ∷ h.front;
          back = h.back;
          split = ap (λ m. y ∷ m) h.split;
          place_is = n ∙ ap suc h.place_is;
        }

-- ---- parts that are ahead
module _ (t : SequenceTable) where
  pub ahead-push : (ps : List Part) (p : Part) → ahead t (ps ++ p ∷ []) ≡ part_of t p ++ ahead t ps
  ahead-push [] p = sym (append-nil (part_of t p))
  ahead-push (q ∷ ps) p = ap (λ l. l ++ part_of t q) (ahead-push ps p)
      ∙ append_assoc (part_of t p) (ahead t ps) (part_of t q)

  pub ahead-opened : (ps : List Part) (tree before x behind : ℕ)
      → sequence_at t tree ≡ sequence_at t before ++ x ∷ sequence_at t behind
      → ahead t (opened t ps behind x before) ≡ sequence_at t tree ++ ahead t ps
  ahead-opened ps tree before x behind cut =
      let xs = sequence_at t before in
      let ys = sequence_at t behind in
      ahead-push ((ps ++ Tree behind ∷ []) ++ One x ∷ []) (Tree before)
      ∙ ap (λ l. xs ++ l) (ahead-push (ps ++ Tree behind ∷ []) (One x) ∙ ap (λ l. x ∷ l) (ahead-push ps (Tree behind)))
      ∙ sym (append_assoc xs (x ∷ ys) (ahead t ps)) ∙ ap (λ l. l ++ ahead t ps) (sym cut)

-- ---- pieces
module _ (t : SequenceTable) (fs : List ℕ) where
  pub whole-append : (ps qs : List Piece) → whole t fs (ps ++ qs) ≡ whole t fs ps ++ whole t fs qs
  whole-append [] qs = refl
  whole-append (p ∷ ps) qs = ap (λ l. piece_of t fs p ++ l) (whole-append ps qs)
      ∙ sym (append_assoc (piece_of t fs p) (whole t fs ps) (whole t fs qs))

  pub whole-push : (ps : List Piece) (p : Piece) → whole t fs (ps ++ p ∷ []) ≡ whole t fs ps ++ piece_of t fs p
  whole-push ps p = whole-append ps (p ∷ []) ∙ ap (λ l. whole t fs ps ++ l) (append-nil (piece_of t fs p))

  pub pieces-push : (ps : List Piece) (p : Piece) → ArePieces t fs ps → IsPiece t fs p → ArePieces t fs (ps ++ p ∷ [])
  pieces-push ps p h one q m = elim (IsMember-push q ps p m) [
    | inl i ↦ h q i
    | inr e ↦ subst (IsPiece t fs) e one
  ]

  -- the last one goes on with a piece
  module _ (front old new : List Piece) (last longer p : Piece) (was : old ≡ front ++ last ∷ [])
      (now : new ≡ front ++ longer ∷ []) where
    pub longer-whole : piece_of t fs longer ≡ piece_of t fs last ++ piece_of t fs p
        → whole t fs new ≡ whole t fs old ++ piece_of t fs p
    longer-whole same =
        ap (whole t fs) now ∙ whole-push front longer ∙ ap (λ l. whole t fs front ++ l) same
        ∙ sym (append_assoc (whole t fs front) (piece_of t fs last) (piece_of t fs p))
        ∙ ap (λ l. l ++ piece_of t fs p) (sym (whole-push front last) ∙ ap (whole t fs) (sym was))

    pub longer-pieces : ArePieces t fs old → IsPiece t fs longer → ArePieces t fs new
    longer-pieces h one =
        subst (ArePieces t fs) (sym now)
        (pieces-push front longer
        (λ q m. h q (subst (IsMember q) (sym was) (IsMember-left q front (last ∷ []) m))) one)

  -- the function's numbers behind others
  pub same-longer : (k b s c : ℕ) → k + b ≡ s
      → piece_of t fs (Same k (b + c)) ≡ piece_of t fs (Same k b) ++ piece_of t fs (Same s c)
  same-longer k b s c e =
      take-add b c (drop k fs)
      ∙ ap (λ l. take b (drop k fs) ++ take c l) (drop-drop b k fs ∙ ap (λ n. drop n fs) e)

  -- a part of the function's sequence is a piece, and so is a number of it
  module _ (part : List ℕ) (k n : ℕ) (count : n ≡ length part) (h : IsPartAt fs part k) where
    pub same-is : piece_of t fs (Same k n) ≡ part
    same-is = at-take fs part k n h count

    pub same-piece : IsPiece t fs (Same k n)
    same-piece = let m = at-within fs part k h in omega (arith, m, count)

  -- ---- a sequence that is being cut
  pub record IsCutting (xs : List ℕ) (ps : List Piece) (parts : List Part) : Type 0 where
    pub whole_is : whole t fs ps ++ ahead t parts ≡ xs
    pub pieces : ArePieces t fs ps
    pub parts_in : ArePartsOf t parts

  pub cutting-none : (x : ℕ) (ps : List Piece) (parts : List Part) → x < length t.lists → ps ≡ []
      → parts ≡ Tree x ∷ [] → IsCutting (sequence_at t x) ps parts
  cutting-none x ps parts h none e = record {
    whole_is = λ i. whole t fs (none i) ++ ahead t (e i);
    pieces = λ p m. absurd (subst (IsMember p) none m);
    parts_in = subst (ArePartsOf t) (sym e) (h, tt);
  }

  module _ (xs : List ℕ) (ps : List Piece) (items rest : List Part) (part : Part) (left : items ≡ rest ++ part ∷ [])
      (h : IsCutting xs ps items) where
    pub cutting-parts : ArePartsOf t rest × IsPartOf t part
    cutting-parts = parts-left t items rest part left h.parts_in

    -- the part is cut off
    pub cutting-next : (new : List Part) (qs : List Piece)
        → whole t fs qs ++ ahead t new ≡ whole t fs ps ++ (part_of t part ++ ahead t rest) → ArePieces t fs qs
        → ArePartsOf t new → IsCutting xs qs new
    cutting-next new qs same pieces parts = record {
      whole_is = same
          ∙ ap (λ l. whole t fs ps ++ l) (sym (ahead-push t rest part) ∙ ap (ahead t) (sym left)) ∙ h.whole_is;
      pieces = pieces;
      parts_in = parts;
    }

    pub cutting-smaller : (new : List Part) → steps t new < steps t rest + steps_of t part → steps t new < steps t items
    cutting-smaller new less = let n = steps-left t items rest part left in omega (arith, n, less)

  pub cutting-all : (xs : List ℕ) (ps : List Piece) (parts : List Part) → parts ≡ [] → IsCutting xs ps parts
      → whole t fs ps ≡ xs
  cutting-all xs ps parts none h =
      sym (append-nil (whole t fs ps)) ∙ ap (λ l. whole t fs ps ++ ahead t l) (sym none) ∙ h.whole_is
