-- Terms that are read with what is open around them kept in a list, together with what they mean.
use Rattle.std.specs.Prelude.{◌+◌, ◌==◌, ◌||◌, not, ℕ, suc, Bool, true, false, cond, List, [], ◌∷◌, codes}
use Rattle.ot_logic.specs.Names.{Name}
use Rattle.ot_logic.specs.Trees.{Ty, Symbol}
use Rattle.ot_forms.specs.Words.{is_sign}
use Rattle.ot_forms.specs.Forms.{Written, FreeAs, ConAs}
use Rattle.ot_forms.specs.Meaning.{Around, meaning}
use Rattle.ot_forms.specs.Reading.{Reading, Got, Halted, NoForm, next, mapped, literal_at, part_at}
use Rattle.ot_forms.specs.Reading.{signs_at, variable_at, constant_at, type_at, term_at}
use Rattle.ot_forms.specs.Reading.{further_terms_at, closed_term_at, binding_at, named_at, is_single}
use Rattle.ot_parse.specs.Meant.{Meaning, place_at, wholly, raw}
use Rattle.ot_parse.specs.Meant.{abstracted, applied_of, is_relation, sides_of}

-- what is open around a term, with places from the start of the text
pub data TermFrame : Type 0 where
  -- the first term behind a parenthesis at this place
  First : ℕ → TermFrame
  -- the right side of an operator: the places of the parenthesis and of the term; the operator; the left side
  Right : ℕ → ℕ → List ℕ → Meaning → TermFrame
  -- an argument: the places of the parenthesis and of the term; the function
  Argument : ℕ → ℕ → Meaning → TermFrame
  -- the body of an abstraction: its place; the variable
  Body : ℕ → List ℕ → Ty Name → TermFrame

-- the abstractions around a term inside this, and inside these, the innermost first
abbrev pub inner_of : TermFrame → Around → Around
inner_of (First k) l = l
inner_of (Right k p o x) l = l
inner_of (Argument k p f) l = l
inner_of (Body p x t) l = (x, t) ∷ l

abbrev pub around : List TermFrame → Around
around [] = []
around (f ∷ fs) = inner_of f (around fs)

-- what was read and a closing parenthesis
abbrev pub closed : {A : Type 0} → Reading A → Reading A
closed o = next o (λ r s. mapped (λ _. r) (literal_at (codes ")") s))

module _ (n : ℕ) (hidden : List (Symbol Name)) where
  abbrev pub reads : ℕ → List ℕ → Reading Written
  reads = term_at hidden (constant_at hidden)

  -- what a term means that is read from here on, with room for so many open
  abbrev pub begun : ℕ → Around → List ℕ → Reading Meaning
  begun m l s = mapped (raw hidden l (place_at n s)) (reads m s)

  -- the operator and its right side, behind a first term at place k + 1
  abbrev pub operated : ℕ → Around → ℕ → Meaning → List ℕ → Reading Meaning
  operated m l k x s =
      next (signs_at s)
      (λ o r. next (literal_at (codes " ") r)
      (λ _ q. mapped (λ b. sides_of hidden l k o (wholly l (is_relation o) (k + 1) x)
      (meaning hidden l (is_relation o) (place_at n q) b)) (reads m q)))

  -- the arguments behind it
  abbrev pub applied : ℕ → Around → ℕ → Meaning → List ℕ → Reading Meaning
  applied m l k x s =
      next (reads m s)
      (λ a r. mapped
      (applied_of hidden l k (place_at n r + 1) (wholly l false (k + 1) x) (meaning hidden l false (place_at n s) a))
      (further_terms_at (constant_at hidden) (type_at hidden m) (reads m) 0 r))

  abbrev pub behind : ℕ → Around → ℕ → Meaning → List ℕ → Reading Meaning
  behind m l k x [] = Halted NoForm []
  behind m l k x (b ∷ s) = cond (is_sign b) (operated m l k x (b ∷ s)) (applied m l k x (b ∷ s))

  -- what comes of a term with this meaning inside this
  abbrev pub after : ℕ → Around → TermFrame → Meaning → List ℕ → Reading Meaning
  after m l (First k) x s = closed (next (literal_at (codes " ") s) (λ _ r. behind m l k x r))
  after m l (Right k p o y) x s = closed (Got (sides_of hidden l k o y (wholly l (is_relation o) p x)) s)
  after m l (Argument k p f) x s =
      closed (mapped (applied_of hidden l k (place_at n s + 1) f (wholly l false p x))
      (further_terms_at (constant_at hidden) (type_at hidden m) (reads m) 0 s))
  after m l (Body p x t) y s = closed (Got (abstracted t (wholly ((x, t) ∷ l) false p y)) s)

  -- the whole term, where this was read inside what is open, the innermost first, with room for so many more
  abbrev pub resume : ℕ → List TermFrame → Reading Meaning → Reading Meaning
  resume m [] o = o
  resume m (f ∷ fs) o = resume (suc m) fs (next o (after m (around fs) f))

-- a variable's name and type behind a backslash, and the point
abbrev pub binder_at : List (Symbol Name) → ℕ → List ℕ → Reading (List ℕ × Ty Name)
binder_at hidden m s =
    next (part_at s)
    (λ x r. next (literal_at (codes " : ") r)
    (λ _ q. next (type_at hidden m q) (λ t u. mapped (λ _. (x, t)) (literal_at (codes " . ") u))))

-- a free variable's type and the closing parenthesis
abbrev pub closed_free_at : List (Symbol Name) → ℕ → Name → List ℕ → Reading Written
closed_free_at hidden m v s =
    closed (next (literal_at (codes ": ") s) (λ _ r. mapped (FreeAs v) (type_at hidden m r)))

-- a quoted variable
abbrev pub closed_variable_at : List (Symbol Name) → ℕ → List ℕ → Reading Written
closed_variable_at hidden m s =
    closed (next (variable_at s)
    (λ v r. next (literal_at (codes " ") r)
    (λ _ q. next (literal_at (codes ": ") q) (λ _ u. mapped (FreeAs v) (type_at hidden m u)))))

-- a constant behind its brace
abbrev pub closed_constant_at : List (Symbol Name) → ℕ → List ℕ → Reading Written
closed_constant_at hidden m s =
    next (constant_at hidden s)
    (λ c r. next (literal_at (codes " : ") r)
    (λ _ q. next (type_at hidden m q) (λ t u. mapped (λ _. ConAs c t) (literal_at (codes "}") u))))

-- a term behind its opening parenthesis, with room for so many inside
abbrev pub closed_term : List (Symbol Name) → ℕ → List ℕ → Reading Written
closed_term hidden m s =
    closed_term_at (constant_at hidden) (type_at hidden m) (term_at hidden (constant_at hidden) m) s

-- whether a bare word and a space before this text begin a free variable
abbrev pub is_free_at : Name → List ℕ → Bool
is_free_at n [] = true
is_free_at n (b ∷ s) = (b == 58) || not (is_single n)

-- an abstraction behind its parenthesis and its backslash, and a term that begins with a bare word
abbrev pub binding_reading : List (Symbol Name) → ℕ → List ℕ → Reading Written
binding_reading hidden m s =
    closed (binding_at (constant_at hidden) (type_at hidden m) (term_at hidden (constant_at hidden) m) (92 ∷ s))

abbrev pub named_reading : List (Symbol Name) → ℕ → List ℕ → Reading Written
named_reading hidden m s =
    closed (named_at (constant_at hidden) (type_at hidden m) (term_at hidden (constant_at hidden) m) s)
