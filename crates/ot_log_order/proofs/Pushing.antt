-- Pieces that are put before what is left.
use Rattle.std.specs.Prelude.{◌≡◌, ℕ, zero, suc, ◌+◌, ◌-◌, ◌*◌, ◌<◌, ◌≤◌, List}
use Rattle.std.specs.Prelude.{[], ◌∷◌, ◌++◌, length, Result, Ok, Err, OnOk}
use Rattle.std.specs.List.{All}
use Rattle.std.proofs.lemmas.List.Elements.{All-push}
use Rattle.std.proofs.lemmas.List.Sums.{sum_by-append}
use Rattle.std.proofs.Math.ListN.{drop_of_length-le}
use Rattle.std.proofs.Math.Seq.{drop-cons}
use Rattle.std.proofs.Common.{refl, sym, ◌∙◌, ap, subst, arith, append_assoc, append-nil, length-append, get_or, drop}
use Rattle.ot_log_nodes.specs.Items.{Item}
use Rattle.ot_log_order.specs.declared.pieces.Piece.{Piece}
use Rattle.ot_log_order.specs.declared.pieces.Piece.TheVariants as piece
use Rattle.ot_log_order.specs.Pieces.{piece_text, HasPiece, text_of, work, work_of, Puts, Opens}

pub text-push : (ts : List Item) (ps : List Piece) (p : Piece) → text_of ts (ps ++ p ∷ []) ≡ piece_text ts p
    ++ text_of ts ps
text-push ts [] p = sym (append-nil (piece_text ts p))
text-push ts (q ∷ ps) p =
    ap (λ z. z ++ piece_text ts q) (text-push ts ps p)
    ∙ append_assoc (piece_text ts p) (text_of ts ps) (piece_text ts q)

pub work-push : (ts : List Item) (ps : List Piece) (p : Piece) → work_of ts (ps ++ p ∷ []) ≡ work_of ts ps + work ts p
work-push ts ps p = omega (arith, sum_by-append (work ts) ps (p ∷ []))

work-most : (ts : List Item) (p : Piece) → work ts p ≤ 2 * length (piece_text ts p)
work-most ts (piece.Byte b) = omega arith
work-most ts (piece.Type i) = omega arith
work-most ts (piece.Term i) = omega arith

pub on-ok : {E A B : Type 0} (r : Result (Unit {0}) E) → (A → B) → OnOk r A → OnOk r B
on-ok (Ok u) f a = f a
on-ok (Err e) f a = tt

pub nothing : (ts : List Item) (ps : List Piece) → Puts ts [] ps ps
nothing ts ps = record { text = refl; has = λ h. h; most = omega arith }

pub pushed : (ts : List Item) (p : Piece) (old new : List Piece) → HasPiece ts p → new ≡ old ++ p ∷ []
    → Puts ts (piece_text ts p) old new
pushed ts p old new h e = record {
  text = ap (text_of ts) e ∙ text-push ts old p;
  has = λ all. subst (All (HasPiece ts)) (sym e) (All-push (HasPiece ts) old p all h);
  most = omega (arith, ap (work_of ts) e, work-push ts old p, work-most ts p);
}

pub reads : {ts : List Item} {x y : List ℕ} {old new : List Piece} → x ≡ y → Puts ts x old new → Puts ts y old new
reads {ts} {x} {y} {old} {new} e p = subst (λ z. Puts ts z old new) e p

pub opens-as : {ts : List Item} {x y : List ℕ} {old new : List Piece} → x ≡ y → Opens ts x old new
    → Opens ts y old new
opens-as {ts} {x} {y} {old} {new} e p = subst (λ z. Opens ts z old new) e p

-- the later one comes first in the text
pub then : {ts : List Item} {x y : List ℕ} {old mid new : List Piece} → Puts ts x old mid → Puts ts y mid new
    → Puts ts (y ++ x) old new
then {ts} {x} {y} {old} {mid} {new} p q = record {
  text = q.text ∙ ap (λ z. y ++ z) p.text ∙ sym (append_assoc y x (text_of ts old));
  has = λ h. q.has (p.has h);
  most = omega (arith, length-append y x, p.most, q.most);
}

pub last : {ts : List Item} {x y : List ℕ} {old mid new : List Piece} → Puts ts x old mid → Opens ts y mid new
    → Opens ts (y ++ x) old new
last {ts} {x} {y} {old} {mid} {new} p q = record {
  text = q.text ∙ ap (λ z. y ++ z) p.text ∙ sym (append_assoc y x (text_of ts old));
  has = λ h. q.has (p.has h);
  less = omega (arith, length-append y x, p.most, q.less);
}

pub puts : {ts : List Item} {x : List ℕ} {old new : List Piece} → Opens ts x old new → Puts ts x old new
puts p = record { text = p.text; has = p.has; most = omega (arith, p.less) }

-- ---- bytes
-- the bytes behind some place were put
pub record Bytes (ts : List Item) (x : List ℕ) (old new : List Piece) : Type 0 where
  pub text : text_of ts new ≡ x ++ text_of ts old
  pub has : All (HasPiece ts) old → All (HasPiece ts) new
  pub work : work_of ts new ≡ length x + work_of ts old

pub no-bytes : (ts : List Item) (bs : List ℕ) (n : ℕ) (ps : List Piece) → length bs ≤ n → Bytes ts (drop n bs) ps ps
no-bytes ts bs n ps h =
    subst (λ x. Bytes ts x ps ps) (sym (drop_of_length-le bs h))
    (record { text = refl; has = λ all. all; work = omega arith })

byte-more : (ts : List Item) (b : ℕ) (x : List ℕ) (old mid new : List Piece) → Bytes ts x old mid
    → new ≡ mid ++ piece.Byte b ∷ []
    → Bytes ts (b ∷ x) old new
byte-more ts b x old mid new p e = record {
  text = ap (text_of ts) e ∙ text-push ts mid (piece.Byte b) ∙ ap (λ z. b ∷ z) p.text;
  has = λ all. subst (All (HasPiece ts)) (sym e) (All-push (HasPiece ts) mid (piece.Byte b) (p.has all) tt);
  work = omega (arith, ap (work_of ts) e, work-push ts mid (piece.Byte b), p.work);
}

pub byte-back : (ts : List Item) (bs : List ℕ) (j : ℕ) (old mid new : List Piece) → 0 < j → j ≤ length bs
    → Bytes ts (drop j bs) old mid → new ≡ mid ++ piece.Byte (get_or bs (j - 1) 0) ∷ []
    → Bytes ts (drop (j - 1) bs) old new
byte-back ts bs j old mid new lt le p q =
    let e : j ≡ suc (j - 1) = omega arith in
    subst (λ x. Bytes ts x old new) (sym (drop-cons bs (j - 1) 0 (omega arith)))
    (byte-more ts (get_or bs (j - 1) 0) (drop (suc (j - 1)) bs) old mid new
    (subst (λ n. Bytes ts (drop n bs) old mid) e p) q)

pub all-bytes : (ts : List Item) (bs : List ℕ) (j : ℕ) (old new : List Piece) → j ≤ 0 → Bytes ts (drop j bs) old new
    → Bytes ts bs old new
all-bytes ts bs zero old new h p = p
all-bytes ts bs (suc j) old new h p = absurd (omega arith)

pub bytes-put : {ts : List Item} {x : List ℕ} {old new : List Piece} → Bytes ts x old new → Puts ts x old new
bytes-put p = record { text = p.text; has = p.has; most = omega (arith, p.work) }

pub bytes-open : {ts : List Item} {x : List ℕ} {old new : List Piece} → 0 < length x → Bytes ts x old new
    → Opens ts x old new
bytes-open h p = record { text = p.text; has = p.has; less = omega (arith, p.work) }
