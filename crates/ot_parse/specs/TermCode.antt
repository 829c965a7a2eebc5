-- What the code keeps of terms that are read, and what its answers say.
use Rattle.std.specs.Prelude.{◌≡◌, ◌≤◌, ◌<◌, ◌+◌, ◌-◌, ℕ, suc, true, length, List, [], ◌∷◌, ◌++◌, map, Result, Ok, Err}
use Rattle.ot_logic.specs.Names.{Name}
use Rattle.ot_logic.specs.Trees.{Symbol}
use Rattle.ot_forms.specs.Meaning.{Around}
use Rattle.ot_forms.specs.Refusals.{open_limit}
use Rattle.ot_forms.specs.Reading.{Reading, Got, next}
use Rattle.ot_parse.specs.declared.halt.Halt.{Halt}
use Rattle.ot_parse.specs.declared.terms.Open.{Open}
use Rattle.ot_parse.specs.declared.terms.Open.TheVariants as opens
use Rattle.ot_parse.specs.declared.terms.Front.{Front}
use Rattle.ot_parse.specs.declared.terms.Front.TheVariants as fronts
use Rattle.ot_parse.specs.declared.terms.Back.{Back}
use Rattle.ot_parse.specs.declared.terms.Back.TheVariants as backs
use Rattle.ot_parse.specs.declared.terms.Next.{Next}
use Rattle.ot_parse.specs.declared.terms.Next.TheVariants as nexts
use Rattle.ot_parse.specs.declared.values.Meant.{Meant as Part}
use Rattle.ot_logic.specs.PlainTrees.{type_of_tree}
use Rattle.ot_parse.specs.Gives.{IsHalt}
use Rattle.ot_parse.specs.Meant.{Meaning, is_relation}
use Rattle.ot_parse.specs.Values.{IsMeant, IsProposition, meant_of}
use Rattle.ot_parse.specs.TermFrames.{TermFrame, First, Right, Argument, Body, inner_of, around, begun, after, resume}

-- what the code's frames stand for
abbrev pub frame_of : Open → TermFrame
frame_of (opens.First k p) = First k
frame_of (opens.Right k p o x) = Right k p o.now (meant_of x)
frame_of (opens.Argument k p f) = Argument k p (meant_of f)
frame_of (opens.Body p x t) = Body p x.now (type_of_tree t)

-- what is open, the innermost first
abbrev pub reversed : {A : Type 0} → List A → List A
reversed [] = []
reversed (x ∷ xs) = reversed xs ++ x ∷ []

abbrev pub frames_of : List Open → List TermFrame
frames_of os = map frame_of (reversed os)

-- what is kept of types, under these abstractions: the sides of a relation are propositions
abbrev pub IsKept : Around → Open → Type 0
IsKept l (opens.First k p) = p ≡ k + 1
IsKept l (opens.Right k p o x) = IsMeant l x × (is_relation o.now ≡ true → IsProposition x)
IsKept l (opens.Argument k p f) = IsMeant l f
IsKept l (opens.Body p x t) = Unit {0}

abbrev pub AreKept : List Open → Type 0
AreKept [] = Unit {0}
AreKept (o ∷ os) = IsKept (around (map frame_of os)) o × AreKept os

-- a term without a term inside, where this is read
abbrev pub IsLeaf : Around → Reading Meaning → Result Front Halt → Type 0
IsLeaf l o (Ok (fronts.Leaf x r)) = IsMeant l x × (o ≡ Got (meant_of x) r.now)
IsLeaf l o (Ok (fronts.Inside f r)) = ⊥
IsLeaf l o (Ok (fronts.Head f x r)) = ⊥
IsLeaf l o (Err h) = IsHalt h o

-- what is open behind a parenthesis, where this is read under these abstractions with room for so many
pub record GoesIn (n : ℕ) (hidden : List (Symbol Name)) (m : ℕ) (l : Around) (o : Reading Meaning) (f : Open)
    (r : List ℕ) : Type 0 where
  pub within : length r ≤ n
  pub kept : IsKept l f
  pub same : o ≡ next (begun n hidden m (inner_of (frame_of f) l) r) (after n hidden m l (frame_of f))

pub record HasHead (n : ℕ) (hidden : List (Symbol Name)) (m : ℕ) (l : Around) (o : Reading Meaning) (f : Open)
    (x : Part) (r : List ℕ) : Type 0 where
  pub within : length r ≤ n
  pub kept : IsKept l f
  pub meant : IsMeant (inner_of (frame_of f) l) x
  pub same : o ≡ after n hidden m l (frame_of f) (meant_of x) r

-- the front of a term, where this is read under these abstractions with room for so many inside
abbrev pub IsTermFront : ℕ → List (Symbol Name) → ℕ → Around → Reading Meaning → Result Front Halt → Type 0
IsTermFront n hidden m l o (Ok (fronts.Leaf x r)) = IsMeant l x × (o ≡ Got (meant_of x) r.now)
IsTermFront n hidden m l o (Ok (fronts.Inside f r)) = GoesIn n hidden m l o f r.now
IsTermFront n hidden m l o (Ok (fronts.Head f x r)) = HasHead n hidden m l o f x r.now
IsTermFront n hidden m l o (Err h) = IsHalt h o

abbrev pub IsFront : ℕ → List (Symbol Name) → ℕ → Around → List ℕ → Result Front Halt → Type 0
IsFront n hidden m l s (Ok (fronts.Leaf x r)) = IsMeant l x × (begun n hidden m l s ≡ Got (meant_of x) r.now)
IsFront n hidden m l s (Ok (fronts.Inside f r)) = (0 < m) × GoesIn n hidden (m - 1) l (begun n hidden m l s) f r.now
IsFront n hidden m l s (Ok (fronts.Head f x r)) =
    (0 < m) × HasHead n hidden (m - 1) l (begun n hidden m l s) f x r.now
IsFront n hidden m l s (Err h) = IsHalt h (begun n hidden m l s)

-- what comes of a term that has ended, where this is read
pub record IsWholeTerm (n : ℕ) (l : Around) (o : Reading Meaning) (y : Part) (r : List ℕ) : Type 0 where
  pub within : length r ≤ n
  pub meant : IsMeant l y
  pub same : o ≡ Got (meant_of y) r

abbrev pub IsBack : ℕ → List (Symbol Name) → ℕ → Around → Reading Meaning → Result Back Halt → Type 0
IsBack n hidden m l o (Ok (backs.Whole y r)) = IsWholeTerm n l o y r.now
IsBack n hidden m l o (Ok (backs.Further g r)) = GoesIn n hidden m l o g r.now
IsBack n hidden m l o (Err h) = IsHalt h o

-- of what is open, as the code keeps it, so much stays open, and what was read goes on so
pub record IsLeft (n : ℕ) (hidden : List (Symbol Name)) (os ps : List Open) (o p : Reading Meaning) : Type 0 where
  pub popped : ℕ
  pub left : length os ≡ popped + length ps
  pub same : (m : ℕ) → resume n hidden m (map frame_of os) o ≡ resume n hidden (popped + m) (map frame_of ps) p

-- a further term is read inside this and what stays open
pub record OpensTerm (n : ℕ) (hidden : List (Symbol Name)) (os ps : List Open) (o : Reading Meaning) (g : Open)
    (r : List ℕ) : Type 0 where
  pub popped : ℕ
  pub left : length os ≡ popped + suc (length ps)
  pub within : length r ≤ n
  pub kept : IsKept (around (map frame_of ps)) g
  pub still : AreKept ps
  pub same : (m : ℕ) → resume n hidden m (map frame_of os) o ≡ resume n hidden (popped + m)
      (frame_of g ∷ map frame_of ps)
      (begun n hidden (popped + m) (inner_of (frame_of g) (around (map frame_of ps))) r)

abbrev pub ClosesTerm : ℕ → List (Symbol Name) → List Open → List Open → Reading Meaning → Result Back Halt → Type 0
ClosesTerm n hidden os ps o (Ok (backs.Whole y r)) =
    IsMeant [] y × ((m : ℕ) → resume n hidden m (map frame_of os) o ≡ Got (meant_of y) r.now)
ClosesTerm n hidden os ps o (Ok (backs.Further g r)) = OpensTerm n hidden os ps o g r.now
ClosesTerm n hidden os ps o (Err h) = (m : ℕ) → IsHalt h (resume n hidden m (map frame_of os) o)

-- ---- the loop over the terms of a text
-- so much is open where the rest begins
pub record IsOn (n : ℕ) (hidden : List (Symbol Name)) (start : List ℕ) (fs : List Open) (rest : List ℕ) : Type 0 where
  pub within : length fs ≤ open_limit
  pub short : length rest ≤ n
  pub kept : AreKept (reversed fs)
  pub same : resume n hidden (open_limit - length fs) (frames_of fs)
      (begun n hidden (open_limit - length fs) (around (frames_of fs)) rest) ≡ begun n hidden open_limit [] start

-- a term has ended inside what is open
pub record HasEnded (n : ℕ) (hidden : List (Symbol Name)) (start : List ℕ) (fs : List Open) (x : Part)
    (rest : List ℕ) : Type 0 where
  pub within : length fs ≤ open_limit
  pub short : length rest ≤ n
  pub kept : AreKept (reversed fs)
  pub meant : IsMeant (around (frames_of fs)) x
  pub same : resume n hidden (open_limit - length fs) (frames_of fs) (Got (meant_of x) rest)
      ≡ begun n hidden open_limit [] start

abbrev pub IsNext : ℕ → List (Symbol Name) → List ℕ → List Open → Result Next Halt → Type 0
IsNext n hidden start fs (Ok (nexts.Begins r)) = IsOn n hidden start fs r.now
IsNext n hidden start fs (Ok (nexts.Ended x r)) =
    IsMeant [] x × (begun n hidden open_limit [] start ≡ Got (meant_of x) r.now)
IsNext n hidden start fs (Err h) = IsHalt h (begun n hidden open_limit [] start)

-- ---- each turn passes bytes
-- fewer than so many bytes are left where a term inside is read, or behind the first term inside
abbrev pub OpensWithin : ℕ → Front → Type 0
OpensWithin n (fronts.Leaf x r) = Unit {0}
OpensWithin n (fronts.Inside f r) = length r.now < n
OpensWithin n (fronts.Head f x r) = length r.now < n

-- no more than so many are left behind a term, and fewer where a further one is read
abbrev pub EndsWithin : ℕ → Back → Type 0
EndsWithin n (backs.Whole y r) = length r.now ≤ n
EndsWithin n (backs.Further g r) = length r.now < n

-- fewer than so many are left where the next term begins
abbrev pub BeginsWithin : ℕ → Next → Type 0
BeginsWithin n (nexts.Begins r) = length r.now < n
BeginsWithin n (nexts.Ended x r) = Unit {0}
