-- A text in pieces, the last piece first: bytes, and the texts of types and terms.
use Rattle.std.specs.Prelude.{◌≡◌, ℕ, ◌+◌, ◌*◌, ◌<◌, ◌≤◌, Bool, false, nat_eq, List, [], ◌∷◌, ◌++◌, length}
use Rattle.std.specs.List.{All, sum_by}
use Rattle.std.specs.declared.cmp.Ordering.{Ordering}
use Rattle.std.specs.declared.cmp.Ordering.TheVariants.{Less, Equal, Greater}
use Rattle.ot_log_nodes.specs.Items.{Item, HasType, HasTerm, type_at, term_at}
use Rattle.ot_text.specs.Texts.{ty_text, tm_text, order}
use Rattle.ot_log_order.specs.declared.pieces.Piece.{Piece}
use Rattle.ot_log_order.specs.declared.pieces.Piece.TheVariants as piece

abbrev pub piece_text : List Item → Piece → List ℕ
piece_text ts (piece.Byte b) = b ∷ []
piece_text ts (piece.Type i) = ty_text (type_at ts i)
piece_text ts (piece.Term i) = tm_text (term_at ts i)

-- its number is of the table
abbrev pub HasPiece : List Item → Piece → Type 0
HasPiece ts (piece.Byte b) = Unit {0}
HasPiece ts (piece.Type i) = HasType ts i
HasPiece ts (piece.Term i) = HasTerm ts i

-- the text of pieces
abbrev pub text_of : List Item → List Piece → List ℕ
text_of ts [] = []
text_of ts (p ∷ ps) = text_of ts ps ++ piece_text ts p

-- the work that a piece makes at most: a byte is read, and the bytes of a type or a term are also made
abbrev pub work : List Item → Piece → ℕ
work ts (piece.Byte b) = 1
work ts (piece.Type i) = 2 * length (ty_text (type_at ts i))
work ts (piece.Term i) = 2 * length (tm_text (term_at ts i))

abbrev pub work_of : List Item → List Piece → ℕ
work_of ts ps = sum_by (work ts) ps

-- pieces of the text x were put before what is left
pub record Puts (ts : List Item) (x : List ℕ) (old new : List Piece) : Type 0 where
  pub text : text_of ts new ≡ x ++ text_of ts old
  pub has : All (HasPiece ts) old → All (HasPiece ts) new
  pub most : work_of ts new ≤ 2 * length x + work_of ts old

-- and a byte among them at least
pub record Opens (ts : List Item) (x : List ℕ) (old new : List Piece) : Type 0 where
  pub text : text_of ts new ≡ x ++ text_of ts old
  pub has : All (HasPiece ts) old → All (HasPiece ts) new
  pub less : work_of ts new < 2 * length x + work_of ts old

-- the order of the texts of a and b is that of l and r, which make less work
pub record Goes (ts : List Item) (a b l r : List Piece) : Type 0 where
  pub same : order (text_of ts a) (text_of ts b) ≡ order (text_of ts l) (text_of ts r)
  pub left : All (HasPiece ts) a → All (HasPiece ts) l
  pub right : All (HasPiece ts) b → All (HasPiece ts) r
  pub less : work_of ts l + work_of ts r < work_of ts a + work_of ts b

-- the order of the texts of a and b is found, or at Equal that of l and r is to be found
abbrev pub Finds : List Item → Ordering → (a b l r : List Piece) → Type 0
Finds ts Less a b l r = order (text_of ts a) (text_of ts b) ≡ Less
Finds ts Equal a b l r = Goes ts a b l r
Finds ts Greater a b l r = order (text_of ts a) (text_of ts b) ≡ Greater

-- whether two pieces are one
abbrev pub same_piece : Piece → Piece → Bool
same_piece (piece.Byte a) (piece.Byte b) = nat_eq a b
same_piece (piece.Type a) (piece.Type b) = nat_eq a b
same_piece (piece.Term a) (piece.Term b) = nat_eq a b
same_piece _ _ = false
