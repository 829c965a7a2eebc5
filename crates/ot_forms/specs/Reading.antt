-- The forms read from left to right.
use Rattle.std.specs.Prelude.{ℕ, zero, suc, ◌-◌, Bool, true, false, cond, ◌&&◌, ◌||◌, not}
use Rattle.std.specs.Prelude.{◌==◌, List, [], ◌∷◌, length, codes, Option, Some, None}
use Rattle.std.specs.Option.{unwrap_or}
use Rattle.ot_logic.specs.Names.{Name}
use Rattle.ot_logic.specs.Naming.{names}
use Rattle.ot_logic.specs.Hol.{fun_ty}
use Rattle.ot_logic.specs.Trees.{Ty, Tys, TyVar, TyOp, NoTys, MoreTys, Symbol, ConSymbol, OpSymbol}
use Rattle.ot_text.specs.Texts.{is_function}
use Rattle.ot_forms.specs.Words.{is_letter, is_inner, is_sign, is_operator, same_kind, is_bare}
use Rattle.ot_forms.specs.Words.{is_hidden, is_taken, dotted, same_text, base, symbol_name}
use Rattle.ot_forms.specs.Forms.{Written, Writtens, Place, FreeAs, ConAs, Equal, Infix}
use Rattle.ot_forms.specs.Forms.{Applied, Binding, NoMore, More, WrittenSequent}

-- why reading halts: no text of the forms goes on so, or one parenthesis too many is opened
pub data Reason : Type 0 where
  NoForm : Reason
  OneTooMany : Reason

-- what was read and the bytes behind it, or why reading halts and the bytes from there on
pub data Reading (A : Type 0) : Type 0 where
  Got : A → List ℕ → Reading A
  Halted : Reason → List ℕ → Reading A

-- goes on behind what was read
abbrev pub next : {A B : Type 0} → Reading A → (A → List ℕ → Reading B) → Reading B
next (Got x s) f = f x s
next (Halted k s) f = Halted k s

-- these bytes
abbrev pub literal_at : List ℕ → List ℕ → Reading (Unit {0})
literal_at [] s = Got tt s
literal_at (c ∷ cs) [] = Halted NoForm []
literal_at (c ∷ cs) (b ∷ s) = cond (b == c) (literal_at cs s) (Halted NoForm (b ∷ s))

-- what was read is made into another value
abbrev pub mapped : {A B : Type 0} → (A → B) → Reading A → Reading B
mapped v (Got x s) = Got (v x) s
mapped v (Halted k s) = Halted k s

-- what was read, where it is good; else reading halts behind it
abbrev pub kept : {A : Type 0} → (A → Bool) → Reading A → Reading A
kept good (Got x s) = cond (good x) (Got x s) (Halted NoForm s)
kept good (Halted k s) = Halted k s

-- ---- words

-- a byte more at the front of the first component
abbrev pub before : ℕ → Name → Name
before b [] = []
before b (c ∷ cs) = (b ∷ c) ∷ cs

abbrev mutual
  -- a bare word
  pub bare_at : List ℕ → Reading Name
  bare_at [] = Halted NoForm []
  bare_at (b ∷ s) = cond (is_letter b) (mapped (before b) (bare_on s)) (Halted NoForm (b ∷ s))

  -- a bare word behind a byte of a part
  pub bare_on : List ℕ → Reading Name
  bare_on [] = Got ([] ∷ []) []
  bare_on (b ∷ s) = cond (is_inner b) (mapped (before b) (bare_on s))
      (cond (b == 46) (mapped (λ n. [] ∷ n) (bare_at s)) (Got ([] ∷ []) (b ∷ s)))

-- a quote, a backslash or a dot
abbrev pub is_special : ℕ → Bool
is_special b = (b == 34) || ((b == 92) || (b == 46))

abbrev mutual
  -- the components of a spelling, up to its closing quote
  pub spelled_at : List ℕ → Reading Name
  spelled_at [] = Halted NoForm []
  spelled_at (b ∷ s) =
      cond (b == 34) (Got ([] ∷ []) (b ∷ s))
      (cond (b == 92) (escaped_at s)
      (cond (b == 46) (mapped (λ n. [] ∷ n) (spelled_at s)) (mapped (before b) (spelled_at s))))

  -- a byte behind a backslash, and what follows
  pub escaped_at : List ℕ → Reading Name
  escaped_at [] = Halted NoForm []
  escaped_at (b ∷ s) = cond (is_special b) (mapped (before b) (spelled_at s)) (Halted NoForm (b ∷ s))

-- a spelling behind its opening quote, where it is the word of the name
abbrev pub quoted_at : (Name → Bool) → List ℕ → Reading Name
quoted_at good s = next (kept good (spelled_at s)) (λ n r. mapped (λ _. n) (literal_at (codes "\"") r))

-- the rest of a part
abbrev pub part_on : List ℕ → Reading (List ℕ)
part_on [] = Got [] []
part_on (b ∷ s) = cond (is_inner b) (mapped (λ x. b ∷ x) (part_on s)) (Got [] (b ∷ s))

-- a part
abbrev pub part_at : List ℕ → Reading (List ℕ)
part_at [] = Halted NoForm []
part_at (b ∷ s) = cond (is_letter b) (mapped (λ x. b ∷ x) (part_on s)) (Halted NoForm (b ∷ s))

-- the rest of an operator word, or of `=`
abbrev pub signs_on : List ℕ → Reading (List ℕ)
signs_on [] = Got [] []
signs_on (b ∷ s) = cond (is_sign b) (mapped (λ x. b ∷ x) (signs_on s)) (Got [] (b ∷ s))

-- an operator word, or `=`
abbrev pub signs_at : List ℕ → Reading (List ℕ)
signs_at [] = Halted NoForm []
signs_at (b ∷ s) = cond (is_sign b) (mapped (λ x. b ∷ x) (signs_on s)) (Halted NoForm (b ∷ s))

-- the word of a variable
abbrev pub variable_at : List ℕ → Reading Name
variable_at [] = Halted NoForm []
variable_at (b ∷ s) = cond (b == 34) (quoted_at (λ n. not (is_bare n)) s) (bare_at (b ∷ s))

-- the hidden symbol of this one's kind with this base name
abbrev pub with_base : List (Symbol Name) → Symbol Name → List ℕ → Option Name
with_base [] s x = None
with_base (t ∷ h) s x = cond (same_kind s t && same_text x (base (symbol_name t))) (Some (symbol_name t))
    (with_base h s x)

-- the name of the symbol whose bare word this is: a hidden one's, where there is one with this base name
abbrev pub settled : List (Symbol Name) → (Name → Symbol Name) → Name → Name
settled hidden kind (c ∷ []) = unwrap_or (with_base hidden (kind (c ∷ [])) c) (c ∷ [])
settled hidden kind n = n

-- the bare word of a symbol
abbrev pub bare_symbol_at : List (Symbol Name) → (Name → Symbol Name) → List ℕ → Reading Name
bare_symbol_at hidden kind s = mapped (settled hidden kind) (kept (λ n. not (is_hidden hidden (kind n))) (bare_at s))

-- whether the word of a symbol is its spelling
abbrev pub is_spelled : List (Symbol Name) → Symbol Name → Bool
is_spelled hidden s =
    not (is_hidden hidden s) && not (is_bare (symbol_name s) && not (is_taken hidden s (dotted (symbol_name s))))

-- the word of a type operator
abbrev pub operator_at : List (Symbol Name) → List ℕ → Reading Name
operator_at hidden [] = Halted NoForm []
operator_at hidden (b ∷ s) = cond (b == 34) (quoted_at (λ n. is_spelled hidden (OpSymbol n)) s)
    (bare_symbol_at hidden OpSymbol (b ∷ s))

-- ---- the operator words of hidden constants

-- what is left of a word, and the constant whose word it is
abbrev pub Candidate : Type 0
Candidate = List ℕ × Name

-- the operator words of the hidden constants
abbrev pub operators : List (Symbol Name) → List Candidate
operators [] = []
operators (OpSymbol n ∷ h) = operators h
operators (ConSymbol n ∷ h) = cond (is_operator (base n)) ((base n, n) ∷ operators h) (operators h)

-- those that go on with this byte, behind it
abbrev pub narrowed : ℕ → List Candidate → List Candidate
narrowed b [] = []
narrowed b (([], n) ∷ cs) = narrowed b cs
narrowed b ((c ∷ x, n) ∷ cs) = cond (b == c) ((x, n) ∷ narrowed b cs) (narrowed b cs)

-- one that ends here
abbrev pub ended : List Candidate → Option Name
ended [] = None
ended (([], n) ∷ cs) = Some n
ended ((c ∷ x, n) ∷ cs) = ended cs

abbrev pub ended_at : Option Name → List ℕ → Reading Name
ended_at (Some n) s = Got n s
ended_at None s = Halted NoForm s

-- the longest front of the text that begins one of these words, which is one
abbrev pub sign_word_at : List Candidate → List ℕ → Reading Name
sign_word_at cs [] = ended_at (ended cs) []
sign_word_at cs (b ∷ s) = elim (narrowed b cs) [ [] ↦ ended_at (ended cs) (b ∷ s) | d ∷ ds ↦ sign_word_at (d ∷ ds) s ]

-- the word of a constant
abbrev pub constant_at : List (Symbol Name) → List ℕ → Reading Name
constant_at hidden [] = Halted NoForm []
constant_at hidden (b ∷ s) = cond (b == 34) (quoted_at (λ n. is_spelled hidden (ConSymbol n)) s)
    (cond (is_sign b) (sign_word_at (operators hidden) (b ∷ s)) (bare_symbol_at hidden ConSymbol (b ∷ s)))

-- ---- types

module _ (hidden : List (Symbol Name)) (read : List ℕ → Reading (Ty Name)) where
  -- the arrow and the type behind it
  abbrev pub range_at : Ty Name → List ℕ → Reading (Ty Name)
  range_at a s = next (literal_at (codes "-> ") s) (λ _ r. mapped (fun_ty names a) (read r))

  -- types with a space before each; so many bytes are passed over first
  abbrev pub further_at : ℕ → List ℕ → Reading (Tys Name)
  further_at k [] = Got NoTys []
  further_at (suc k) (b ∷ s) = further_at k s
  further_at zero (b ∷ s) =
      cond (b == 32) (next (read s) (λ t r. mapped (MoreTys t) (further_at (length s - length r) s)))
      (Got NoTys (b ∷ s))

  -- one type or more with a space between two
  abbrev pub arguments_at : List ℕ → Reading (Tys Name)
  arguments_at s = next (read s) (λ t r. mapped (MoreTys t) (further_at 0 r))

  -- an operator's arguments, which make no function type
  abbrev pub operands_at : Name → List ℕ → Reading (Ty Name)
  operands_at n s = mapped (TyOp n) (kept (λ ts. not (is_function names (TyOp n ts))) (arguments_at s))

  -- behind an operator's word and a space
  abbrev pub behind_word_at : Name → List ℕ → Reading (Ty Name)
  behind_word_at n [] = Halted NoForm []
  behind_word_at n (b ∷ s) = cond (b == 45) (range_at (TyOp n NoTys) (b ∷ s)) (operands_at n (b ∷ s))

  -- what stands between parentheses
  abbrev pub inside_at : List ℕ → Reading (Ty Name)
  inside_at [] = Halted NoForm []
  inside_at (b ∷ s) = cond ((b == 39) || (b == 40))
      (next (read (b ∷ s)) (λ a r. next (literal_at (codes " ") r) (λ _ q. range_at a q)))
      (next (operator_at hidden (b ∷ s)) (λ n r. next (literal_at (codes " ") r) (λ _ q. behind_word_at n q)))

  -- a type behind its opening parenthesis
  abbrev pub closed_type_at : List ℕ → Reading (Ty Name)
  closed_type_at s = next (inside_at s) (λ t r. mapped (λ _. t) (literal_at (codes ")") r))

module _ (hidden : List (Symbol Name)) where
  -- a type, by what an opening parenthesis does
  abbrev pub type_by : (List ℕ → Reading (Ty Name)) → List ℕ → Reading (Ty Name)
  type_by opened [] = Halted NoForm []
  type_by opened (b ∷ s) = cond (b == 39) (mapped TyVar (variable_at s))
      (cond (b == 40) (opened s) (mapped (λ n. TyOp n NoTys) (operator_at hidden (b ∷ s))))

  -- a type with room for so many open parentheses
  abbrev pub type_at : ℕ → List ℕ → Reading (Ty Name)
  type_at zero = type_by (λ s. Halted OneTooMany (40 ∷ s))
  type_at (suc n) = type_by (closed_type_at hidden (type_at n))

-- ---- terms

-- one component
abbrev pub is_single : Name → Bool
is_single (c ∷ []) = true
is_single _ = false

abbrev pub first_part : Name → List ℕ
first_part [] = []
first_part (c ∷ cs) = c

-- two terms at the sides of an operator
abbrev pub joined_by : Written → List ℕ → Written → Written
joined_by a o b = cond (same_text o (61 ∷ [])) (Equal a b) (Infix o a b)

-- between parentheses and braces, where terms and types are read so
module _ (word : List ℕ → Reading Name) (type : List ℕ → Reading (Ty Name)) (term : List ℕ → Reading Written) where
  -- the type of a free variable
  abbrev pub free_at : Name → List ℕ → Reading Written
  free_at n s = next (literal_at (codes ": ") s) (λ _ r. mapped (FreeAs n) (type r))

  -- terms with a space before each; so many bytes are passed over first
  abbrev pub further_terms_at : ℕ → List ℕ → Reading Writtens
  further_terms_at k [] = Got NoMore []
  further_terms_at (suc k) (b ∷ s) = further_terms_at k s
  further_terms_at zero (b ∷ s) =
      cond (b == 32) (next (term s) (λ t r. mapped (More t) (further_terms_at (length s - length r) s)))
      (Got NoMore (b ∷ s))

  abbrev pub application_at : Written → List ℕ → Reading Written
  application_at a s = next (term s) (λ x r. mapped (Applied a x) (further_terms_at 0 r))

  abbrev pub operation_at : Written → List ℕ → Reading Written
  operation_at a s =
      next (signs_at s) (λ o r. next (literal_at (codes " ") r) (λ _ q. mapped (joined_by a o) (term q)))

  -- behind the first term and a space
  abbrev pub behind_term_at : Written → List ℕ → Reading Written
  behind_term_at a [] = Halted NoForm []
  behind_term_at a (b ∷ s) = cond (is_sign b) (operation_at a (b ∷ s)) (application_at a (b ∷ s))

  -- behind a bare word and a space: it is a variable's, or one part, a bound place
  abbrev pub behind_bare_at : Name → List ℕ → Reading Written
  behind_bare_at n [] = Halted NoForm []
  behind_bare_at n (b ∷ s) =
      cond ((b == 58) || not (is_single n)) (free_at n (b ∷ s)) (behind_term_at (Place (first_part n)) (b ∷ s))

  abbrev pub spaced_at : {A : Type 0} → (List ℕ → Reading A) → List ℕ → Reading A
  spaced_at f s = next (literal_at (codes " ") s) (λ _ r. f r)

  abbrev pub named_at : List ℕ → Reading Written
  named_at s = next (bare_at s) (λ n r. spaced_at (behind_bare_at n) r)

  abbrev pub quoted_variable_at : List ℕ → Reading Written
  quoted_variable_at s = next (variable_at s) (λ n r. spaced_at (free_at n) r)

  abbrev pub headed_at : List ℕ → Reading Written
  headed_at s = next (term s) (λ a r. spaced_at (behind_term_at a) r)

  abbrev pub binding_at : List ℕ → Reading Written
  binding_at s =
      next (literal_at
      (codes "\\") s) (λ _ p. next (part_at p) (λ x r. next (literal_at (codes " : ") r) (λ _ q. next (type q) (λ t u. next (literal_at (codes " . ") u) (λ _ v. mapped (Binding x t) (term v))))))

  -- between parentheses, by the first byte
  abbrev pub plain_inside_at : List ℕ → Reading Written
  plain_inside_at [] = Halted NoForm []
  plain_inside_at (b ∷ s) = cond ((b == 40) || (b == 123)) (headed_at (b ∷ s)) (named_at (b ∷ s))

  abbrev pub unquoted_inside_at : List ℕ → Reading Written
  unquoted_inside_at [] = Halted NoForm []
  unquoted_inside_at (b ∷ s) = cond (b == 34) (quoted_variable_at (b ∷ s)) (plain_inside_at (b ∷ s))

  abbrev pub inside_term_at : List ℕ → Reading Written
  inside_term_at [] = Halted NoForm []
  inside_term_at (b ∷ s) = cond (b == 92) (binding_at (b ∷ s)) (unquoted_inside_at (b ∷ s))

  -- behind an opening parenthesis
  abbrev pub closed_term_at : List ℕ → Reading Written
  closed_term_at s = next (inside_term_at s) (λ a r. mapped (λ _. a) (literal_at (codes ")") r))

  -- behind an opening brace
  abbrev pub braced_at : List ℕ → Reading Written
  braced_at s =
      next (word s)
      (λ n r. next (literal_at (codes " : ") r)
      (λ _ q. next (type q) (λ t u. mapped (λ _. ConAs n t) (literal_at (codes "}") u))))

-- a term, by what an opening parenthesis and an opening brace do
abbrev pub term_by : (List ℕ → Reading Written) → (List ℕ → Reading Written) → List ℕ → Reading Written
term_by opened braced [] = Halted NoForm []
term_by opened braced (b ∷ s) =
    cond (b == 40) (opened s) (cond (b == 123) (braced s) (mapped Place (part_at (b ∷ s))))

-- a term with room for so many open parentheses and braces
abbrev pub term_at : List (Symbol Name) → (List ℕ → Reading Name) → ℕ → List ℕ → Reading Written
term_at hidden word zero = term_by (λ s. Halted OneTooMany (40 ∷ s)) (λ s. Halted OneTooMany (123 ∷ s))
term_at hidden word (suc n) = term_by (closed_term_at word (type_at hidden n) (term_at hidden word n))
    (braced_at word (type_at hidden n) (term_at hidden word n))

-- ---- lines
module _ (term : List ℕ → Reading Written) where
  -- behind a hypothesis: the further ones and the turnstile; so many bytes are passed over first
  abbrev pub further_hyps_at : ℕ → List ℕ → Reading (List Written)
  further_hyps_at k [] = Halted NoForm []
  further_hyps_at (suc k) (b ∷ s) = further_hyps_at k s
  further_hyps_at zero (b ∷ s) = cond (b == 44)
      (next (literal_at (codes " ") s)
      (λ _ r. next (term r) (λ a q. mapped (λ more. a ∷ more) (further_hyps_at (length s - length q) s))))
      (mapped (λ _. []) (literal_at (codes " |- ") (b ∷ s)))

  -- the hypotheses and the turnstile
  abbrev pub first_hyp_at : List ℕ → Reading (List Written)
  first_hyp_at s = next (term s) (λ a q. mapped (λ more. a ∷ more) (further_hyps_at 0 q))

  abbrev pub turnstile_at : List ℕ → Reading (List Written)
  turnstile_at s = mapped (λ _. []) (literal_at (codes "|- ") s)

  abbrev pub hyps_at : List ℕ → Reading (List Written)
  hyps_at [] = Halted NoForm []
  hyps_at (b ∷ s) = cond (b == 124) (turnstile_at (b ∷ s)) (first_hyp_at (b ∷ s))

  -- a line
  abbrev pub line_at : List ℕ → Reading WrittenSequent
  line_at s = next (hyps_at s) (λ hs r. mapped (λ c. record { hyps = hs; concl = c }) (term r))
