-- How two texts compare, a piece of each at a time.
use Rattle.std.specs.Prelude.{◌≡◌, ℕ, ◌*◌, ◌<◌, Bool, true, false, nat_eq, List, [], ◌∷◌, ◌++◌, length, Some}
use Rattle.std.specs.List.{All}
use Rattle.std.specs.Ordering.{nat_cmp, ordering_then}
use Rattle.std.specs.declared.cmp.Ordering.{Ordering}
use Rattle.std.specs.declared.cmp.Ordering.TheVariants.{Less, Equal, Greater}
use Rattle.std.proofs.lemmas.Bool.Decides.{nat_tests}
use Rattle.std.proofs.lemmas.List.Elements.{All-pop}
use Rattle.std.proofs.Common.{refl, sym, ◌∙◌, ap, subst, arith, eqb-true, length-append}
use Rattle.ot_log_nodes.specs.Items.{Item, type_at, term_at}
use Rattle.ot_text.specs.Texts.{ty_text, tm_text, order}
use Rattle.ot_log_order.specs.declared.pieces.Piece.{Piece}
use Rattle.ot_log_order.specs.declared.pieces.Piece.TheVariants as piece
use Rattle.ot_log_order.specs.Pieces.{piece_text, HasPiece, text_of, work, Opens, Goes, Finds, same_piece}
use Rattle.ot_log_order.proofs.Pushing.{text-push, work-push}
use Rattle.ot_log_order.proofs.Parts.{some-type, some-term}

some-piece : (ts : List Item) (p : Piece) → 0 < length (piece_text ts p)
some-piece ts (piece.Byte b) = omega arith
some-piece ts (piece.Type i) = some-type (type_at ts i)
some-piece ts (piece.Term i) = some-term (term_at ts i)

some-work : (ts : List Item) (p : Piece) → 0 < work ts p
some-work ts (piece.Byte b) = omega arith
some-work ts (piece.Type i) = omega (arith, some-type (type_at ts i))
some-work ts (piece.Term i) = omega (arith, some-term (term_at ts i))

all-front : {A : Type 0} (P : A → Type 0) (xs : List A) (x : A) → All P (xs ++ x ∷ []) → All P xs
all-front P xs x h = (All-pop P (xs ++ x ∷ []) xs (Some x) refl h).0

order-both : (ts : List Item) (l r : List Piece) (x y : Piece)
    → order (text_of ts (l ++ x ∷ [])) (text_of ts (r ++ y ∷ []))
    ≡ order (piece_text ts x ++ text_of ts l) (piece_text ts y ++ text_of ts r)
order-both ts l r x y i = order (text-push ts l x i) (text-push ts r y i)

-- ---- pieces that are one
cmp-self : (a : ℕ) → nat_cmp a a ≡ Equal
cmp-self a = grind (arith, nat_tests)

order-front : (x l r : List ℕ) → order (x ++ l) (x ++ r) ≡ order l r
order-front [] l r = refl
order-front (a ∷ x) l r = ap (λ o. ordering_then o (order (x ++ l) (x ++ r))) (cmp-self a) ∙ order-front x l r

one-text : (ts : List Item) (x y : Piece) → same_piece x y ≡ true → piece_text ts x ≡ piece_text ts y
one-text ts (piece.Byte a) (piece.Byte b) h = ap (λ k. k ∷ []) (eqb-true a b h)
one-text ts (piece.Type a) (piece.Type b) h = ap (λ k. ty_text (type_at ts k)) (eqb-true a b h)
one-text ts (piece.Term a) (piece.Term b) h = ap (λ k. tm_text (term_at ts k)) (eqb-true a b h)
one-text ts (piece.Byte a) (piece.Type b) h = cc
one-text ts (piece.Byte a) (piece.Term b) h = cc
one-text ts (piece.Type a) (piece.Byte b) h = cc
one-text ts (piece.Type a) (piece.Term b) h = cc
one-text ts (piece.Term a) (piece.Byte b) h = cc
one-text ts (piece.Term a) (piece.Type b) h = cc

pub passed : (ts : List Item) (l r : List Piece) (x y : Piece) → same_piece x y ≡ true
    → Goes ts (l ++ x ∷ []) (r ++ y ∷ []) l r
passed ts l r x y h = record {
  same =
      order-both ts l r x y
      ∙ ap (λ z. order (piece_text ts x ++ text_of ts l) (z ++ text_of ts r)) (sym (one-text ts x y h))
      ∙ order-front (piece_text ts x) (text_of ts l) (text_of ts r);
  left = all-front (HasPiece ts) l x;
  right = all-front (HasPiece ts) r y;
  less = omega (arith, work-push ts l x, work-push ts r y, some-work ts x);
}

-- ---- two bytes
compared : (ts : List Item) (l r : List Piece) (a b : ℕ) (o : Ordering) → o ≡ nat_cmp a b
    → Finds ts o (l ++ piece.Byte a ∷ []) (r ++ piece.Byte b ∷ []) l r
compared ts l r a b Less e =
    order-both ts l r (piece.Byte a) (piece.Byte b) ∙ ap (λ o. ordering_then o (order (text_of ts l) (text_of ts r)))
    (sym e)
compared ts l r a b Equal e = record {
  same =
      order-both ts l r (piece.Byte a) (piece.Byte b)
      ∙ ap (λ o. ordering_then o (order (text_of ts l) (text_of ts r))) (sym e);
  left = all-front (HasPiece ts) l (piece.Byte a);
  right = all-front (HasPiece ts) r (piece.Byte b);
  less = omega (arith, work-push ts l (piece.Byte a), work-push ts r (piece.Byte b));
}
compared ts l r a b Greater e =
    order-both ts l r (piece.Byte a) (piece.Byte b) ∙ ap (λ o. ordering_then o (order (text_of ts l) (text_of ts r)))
    (sym e)

pub compared-bytes : (ts : List Item) (l r : List Piece) (x y : Piece) (a b : ℕ) (o : Ordering) → x ≡ piece.Byte a
    → y ≡ piece.Byte b → o ≡ nat_cmp a b
    → Finds ts o (l ++ x ∷ []) (r ++ y ∷ []) l r
compared-bytes ts l r x y a b o p q e =
    subst (λ z. Finds ts o (l ++ x ∷ []) (r ++ z ∷ []) l r) (sym q)
    (subst (λ z. Finds ts o (l ++ z ∷ []) (r ++ piece.Byte b ∷ []) l r) (sym p) (compared ts l r a b o e))

-- ---- one of the two is opened
opened-work : (ts : List Item) (x : Piece) → ((b : ℕ) → x ≡ piece.Byte b → ⊥)
    → work ts x ≡ 2 * length (piece_text ts x)
opened-work ts (piece.Byte b) h = absurd (h b refl)
opened-work ts (piece.Type i) h = refl
opened-work ts (piece.Term i) h = refl

pub opened-left : (ts : List Item) (l r m : List Piece) (x y : Piece) → ((b : ℕ) → x ≡ piece.Byte b → ⊥)
    → Opens ts (piece_text ts x) l m
    → Goes ts (l ++ x ∷ []) (r ++ y ∷ []) m (r ++ y ∷ [])
opened-left ts l r m x y h p = record {
  same = ap (λ z. order z (text_of ts (r ++ y ∷ []))) (text-push ts l x ∙ sym p.text);
  left = λ all. p.has (all-front (HasPiece ts) l x all);
  right = λ all. all;
  less = omega (arith, work-push ts l x, opened-work ts x h, p.less);
}

pub opened-right : (ts : List Item) (l r m : List Piece) (x y : Piece) → ((b : ℕ) → y ≡ piece.Byte b → ⊥)
    → Opens ts (piece_text ts y) r m
    → Goes ts (l ++ x ∷ []) (r ++ y ∷ []) (l ++ x ∷ []) m
opened-right ts l r m x y h p = record {
  same = ap (λ z. order (text_of ts (l ++ x ∷ [])) z) (text-push ts r y ∙ sym p.text);
  left = λ all. all;
  right = λ all. p.has (all-front (HasPiece ts) r y all);
  less = omega (arith, work-push ts r y, opened-work ts y h, p.less);
}

-- ---- where one text has ended
shorter : (xs : List ℕ) → 0 < length xs → order [] xs ≡ Less
shorter [] h = absurd (omega arith)
shorter (x ∷ xs) h = refl

longer : (xs : List ℕ) → 0 < length xs → order xs [] ≡ Greater
longer [] h = absurd (omega arith)
longer (x ∷ xs) h = refl

some-left : (ts : List Item) (ps : List Piece) → 0 < length ps → 0 < length (text_of ts ps)
some-left ts [] h = absurd (omega arith)
some-left ts (p ∷ ps) h = omega (arith, length-append (text_of ts ps) (piece_text ts p), some-piece ts p)

pub both-end : (ts : List Item) (l r : List Piece) → length l ≡ 0 → length r ≡ 0 → order (text_of ts l) (text_of ts r)
    ≡ Equal
both-end ts [] [] e h = refl
both-end ts (p ∷ ps) r e h = absurd (omega arith)
both-end ts [] (p ∷ ps) e h = absurd (omega arith)

pub left-ends : (ts : List Item) (l r : List Piece) → length l ≡ 0 → 0 < length r
    → order (text_of ts l) (text_of ts r) ≡ Less
left-ends ts [] r e h = shorter (text_of ts r) (some-left ts r h)
left-ends ts (p ∷ ps) r e h = absurd (omega arith)

pub right-ends : (ts : List Item) (l r : List Piece) → 0 < length l → length r ≡ 0
    → order (text_of ts l) (text_of ts r) ≡ Greater
right-ends ts l [] h e = longer (text_of ts l) (some-left ts l h)
right-ends ts l (p ∷ ps) h e = absurd (omega arith)

pub empty-is : (n : ℕ) (b : Bool) → b ≡ nat_eq n 0 → b ≡ true → n ≡ 0
empty-is n b e h = grind (arith, nat_tests)

pub some-is : (n : ℕ) (b : Bool) → b ≡ nat_eq n 0 → b ≡ false → 0 < n
some-is n b e h = grind (arith, nat_tests)
