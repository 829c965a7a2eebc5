-- Types that are read with what is open around them kept in a list.
use Rattle.std.specs.Prelude.{◌≡◌, ◌<◌, ◌≤◌, ◌-◌, ◌+◌, ◌==◌, length, ℕ, suc, Bool, false}
use Rattle.std.specs.Prelude.{not, List, [], ◌∷◌, ◌++◌, map, codes, Result, Ok, Err}
use Rattle.ot_logic.specs.Names.{Name}
use Rattle.ot_logic.specs.Naming.{names}
use Rattle.ot_logic.specs.Trees.{Ty, Tys, TyOp, MoreTys, Symbol}
use Rattle.ot_logic.specs.Hol.{fun_ty}
use Rattle.ot_text.specs.Texts.{is_function}
use Rattle.ot_forms.specs.Reading.{Reading, Got, next, mapped, kept, literal_at, operator_at}
use Rattle.ot_forms.specs.Reading.{behind_word_at, range_at, further_at, closed_type_at, type_at}
use Rattle.ot_parse.specs.declared.halt.Halt.{Halt}
use Rattle.ot_parse.specs.declared.types.Open.{Open}
use Rattle.ot_parse.specs.declared.types.Open.TheVariants as opens
use Rattle.ot_parse.specs.declared.types.Front.{Front}
use Rattle.ot_parse.specs.declared.types.Front.TheVariants as fronts
use Rattle.ot_parse.specs.declared.types.Next.{Next}
use Rattle.ot_parse.specs.declared.types.Next.TheVariants as nexts
use Rattle.ot_parse.specs.declared.types.Back.{Back}
use Rattle.ot_parse.specs.declared.types.Back.TheVariants as backs
use Rattle.ot_logic.specs.PlainTrees.{type_of_tree}
use Rattle.ot_parse.specs.Gives.{IsHalt}

-- what is open around a type: a function type before its arrow, one behind this domain, an operator behind these
-- arguments
pub data Frame : Type 0 where
  Domain : Frame
  Range : Ty Name → Frame
  Argument : Name → List (Ty Name) → Frame

abbrev pub frame_of : Open → Frame
frame_of opens.Domain = Domain
frame_of (opens.Range t) = Range (type_of_tree t)
frame_of (opens.Argument n args) = Argument n (map type_of_tree args.items)

-- the text begins with a space
abbrev pub is_spaced : List ℕ → Bool
is_spaced [] = false
is_spaced (b ∷ s) = b == 32

-- these types and the further ones
abbrev pub joined : List (Ty Name) → Tys Name → Tys Name
joined [] us = us
joined (t ∷ ts) us = MoreTys t (joined ts us)

-- what was read and a closing parenthesis
abbrev pub closed : Reading (Ty Name) → Reading (Ty Name)
closed o = next o (λ t r. mapped (λ _. t) (literal_at (codes ")") r))

abbrev pub is_operator_type : Name → Tys Name → Bool
is_operator_type n ts = not (is_function names (TyOp n ts))

-- the type that is closed with what is open, where the type inside was read, and types inside are read so
abbrev pub after : List (Symbol Name) → (List ℕ → Reading (Ty Name)) → Frame → Ty Name → List ℕ → Reading (Ty Name)
after hidden read Domain t s = closed (next (literal_at (codes " ") s) (λ _ q. range_at hidden read t q))
after hidden read (Range a) t s = closed (Got (fun_ty names a t) s)
after hidden read (Argument n ts) t s =
    closed (mapped (TyOp n)
    (kept (is_operator_type n) (mapped (λ us. joined ts (MoreTys t us)) (further_at hidden read 0 s))))

-- the whole type, where this was read inside what is open, the innermost first, with room for so many more
abbrev pub resume : List (Symbol Name) → ℕ → List Frame → Reading (Ty Name) → Reading (Ty Name)
resume hidden m [] o = o
resume hidden m (f ∷ fs) o = resume hidden (suc m) fs (next o (after hidden (type_at hidden m) f))

-- what is open, the innermost first
abbrev pub frames_of : List Open → List Frame
frames_of [] = []
frames_of (f ∷ fs) = frames_of fs ++ frame_of f ∷ []

-- the front of a type that is read with room for so many
abbrev pub IsFrontOf : List (Symbol Name) → ℕ → List ℕ → Result Front Halt → Type 0
IsFrontOf hidden m s (Ok (fronts.Leaf t r)) = type_at hidden m s ≡ Got (type_of_tree t) r.now
IsFrontOf hidden m s (Ok (fronts.Inside f r)) = (0 < m)
    × (type_at hidden m s ≡ next (type_at hidden (m - 1) r.now) (after hidden (type_at hidden (m - 1)) (frame_of f)))
IsFrontOf hidden m s (Err h) = IsHalt h (type_at hidden m s)

-- a type without parentheses, where this is read
abbrev pub IsLeafOf : Reading (Ty Name) → Result Front Halt → Type 0
IsLeafOf o (Ok (fronts.Leaf t r)) = o ≡ Got (type_of_tree t) r.now
IsLeafOf o (Ok (fronts.Inside f r)) = ⊥
IsLeafOf o (Err h) = IsHalt h o

-- behind an opening parenthesis and an operator's word
abbrev pub word_first : List (Symbol Name) → (List ℕ → Reading (Ty Name)) → List ℕ → Reading (Ty Name)
word_first hidden read s =
    next (operator_at hidden s) (λ n r. next (literal_at (codes " ") r) (λ _ q. behind_word_at hidden read n q))

-- what is open, where this is read
abbrev pub IsInsideOf : Reading (Ty Name) → List (Symbol Name) → ℕ → Result Front Halt → Type 0
IsInsideOf o hidden m (Ok (fronts.Leaf t r)) = ⊥
IsInsideOf o hidden m (Ok (fronts.Inside f r)) =
    o ≡ next (type_at hidden m r.now) (after hidden (type_at hidden m) (frame_of f))
IsInsideOf o hidden m (Err h) = IsHalt h o

-- what is open behind a parenthesis
abbrev pub IsTypeFront : List (Symbol Name) → ℕ → List ℕ → Result Front Halt → Type 0
IsTypeFront hidden m s = IsInsideOf (closed_type_at hidden (type_at hidden m) s) hidden m

-- of what is open so much stays open, and what was read goes on so
pub record IsLeft (hidden : List (Symbol Name)) (fs gs : List Frame) (o p : Reading (Ty Name)) : Type 0 where
  pub popped : ℕ
  pub left : length fs ≡ popped + length gs
  pub same : (m : ℕ) → resume hidden m fs o ≡ resume hidden (popped + m) gs p

-- a further type is read inside this and what stays open
pub record OpensType (hidden : List (Symbol Name)) (fs gs : List Frame) (o : Reading (Ty Name)) (f : Frame)
    (r : List ℕ) : Type 0 where
  pub popped : ℕ
  pub left : length fs ≡ popped + suc (length gs)
  pub same : (m : ℕ) → resume hidden m fs o ≡ resume hidden (popped + m) (f ∷ gs) (type_at hidden (popped + m) r)

abbrev pub ClosesType : List (Symbol Name) → List Frame → List Frame → Reading (Ty Name) → Result Back Halt → Type 0
ClosesType hidden fs gs o (Ok (backs.Whole t r)) = (m : ℕ) → resume hidden m fs o ≡ Got (type_of_tree t) r.now
ClosesType hidden fs gs o (Ok (backs.Further f r)) = OpensType hidden fs gs o (frame_of f) r.now
ClosesType hidden fs gs o (Err h) = (m : ℕ) → IsHalt h (resume hidden m fs o)

-- what comes of a type that has ended inside this
abbrev pub IsBackOf : List (Symbol Name) → ℕ → Frame → Ty Name → List ℕ → Result Back Halt → Type 0
IsBackOf hidden m f t s (Ok (backs.Whole u r)) = after hidden (type_at hidden m) f t s ≡ Got (type_of_tree u) r.now
IsBackOf hidden m f t s (Ok (backs.Further g r)) = after hidden (type_at hidden m) f t s
    ≡ next (type_at hidden m r.now) (after hidden (type_at hidden m) (frame_of g))
IsBackOf hidden m f t s (Err h) = IsHalt h (after hidden (type_at hidden m) f t s)

-- ---- the loop over the types of a text
-- so much is open where the rest begins
pub record IsOn (hidden : List (Symbol Name)) (room : ℕ) (start : List ℕ) (fs : List Open) (rest : List ℕ) : Type
    0 where
  pub within : length fs ≤ room
  pub same : resume hidden (room - length fs) (frames_of fs) (type_at hidden (room - length fs) rest)
      ≡ type_at hidden room start

abbrev pub IsNext : List (Symbol Name) → ℕ → List ℕ → List Open → Result Next Halt → Type 0
IsNext hidden room start fs (Ok (nexts.Begins r)) = IsOn hidden room start fs r.now
IsNext hidden room start fs (Ok (nexts.Ended t r)) = type_at hidden room start ≡ Got (type_of_tree t) r.now
IsNext hidden room start fs (Err h) = IsHalt h (type_at hidden room start)

-- ---- each turn passes bytes
-- fewer than so many bytes are left where a type inside is read
abbrev pub OpensWithin : ℕ → Front → Type 0
OpensWithin n (fronts.Leaf t r) = Unit {0}
OpensWithin n (fronts.Inside f r) = length r.now < n

-- no more than so many are left behind a type, and fewer where a further one is read
abbrev pub EndsWithin : ℕ → Back → Type 0
EndsWithin n (backs.Whole t r) = length r.now ≤ n
EndsWithin n (backs.Further f r) = length r.now < n

-- fewer than so many are left where the next type begins
abbrev pub BeginsWithin : ℕ → Next → Type 0
BeginsWithin n (nexts.Begins r) = length r.now < n
BeginsWithin n (nexts.Ended t r) = Unit {0}
