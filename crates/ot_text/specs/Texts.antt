-- The printed texts of types, nameless terms and sequents, over names.
use Rattle.std.specs.Prelude.{ℕ, zero, suc, ◌+◌, Bool, cond, List, [], ◌∷◌, ◌++◌, map, codes, is_some}
use Rattle.std.specs.Int.Digits.{digits_of}
use Rattle.std.specs.BTreeSet.{insert_key}
use Rattle.std.specs.Ordering.{nat_cmp}
use Rattle.std.specs.Cmp.Lexicographic.{slice_cmp}
use Rattle.std.specs.declared.cmp.Ordering.{Ordering}
use Rattle.ot_logic.specs.Names.{Name, spelled}
use Rattle.ot_logic.specs.Naming.{names}
use Rattle.ot_logic.specs.Trees.{Alphabet, Ty, Tys, TyVar, TyOp, NoTys, MoreTys}
use Rattle.ot_logic.specs.Trees.{Tm, Free, Con, Bound, App, Abs, Sequent}
use Rattle.ot_logic.specs.Hol.{as_fun_ty, as_equation}

-- a name's spelling; a list without components, which is no name, has a mark of its own
abbrev pub name_text : Name → List ℕ
name_text [] = 33 ∷ []
name_text (c ∷ cs) = spelled (c ∷ cs)

-- a number in decimal digits
abbrev pub number_text : ℕ → List ℕ
number_text zero = 48 ∷ []
number_text (suc k) = map (λ d. 48 + d) (digits_of 10 (suc k))

module _ {N : Type 0} (alphabet : Alphabet N) where
  -- whether a type is `->` with two arguments
  abbrev pub is_function : Ty N → Bool
  is_function t = is_some (as_fun_ty alphabet t)

  -- whether a term is an equation; `=` counts only between two terms, at a type a -> (a -> bool)
  abbrev pub is_equation : Tm N → Bool
  is_equation t = is_some (as_equation alphabet t)

-- ---- types: 'N, N, (a -> b) and (N a1 .. ak)

abbrev mutual
  pub ty_text : Ty Name → List ℕ
  ty_text (TyVar n) = codes "'" ++ name_text n
  ty_text (TyOp n NoTys) = name_text n
  ty_text (TyOp n (MoreTys a ts)) = cond (is_function names (TyOp n (MoreTys a ts)))
      (codes "(" ++ ty_text a ++ codes " ->" ++ spaced_text ts ++ codes ")")
      (codes "(" ++ name_text n ++ spaced_text (MoreTys a ts) ++ codes ")")

  -- a space before each
  pub spaced_text : Tys Name → List ℕ
  spaced_text NoTys = []
  spaced_text (MoreTys t ts) = codes " " ++ ty_text t ++ spaced_text ts

-- ---- terms: N:T, @N:T, #k, (a = b), (f x) and (\T. b)

abbrev mutual
  pub tm_text : Tm Name → List ℕ
  tm_text (Free v) = name_text v.name ++ codes ":" ++ ty_text v.ty
  tm_text (Con n t) = codes "@" ++ name_text n ++ codes ":" ++ ty_text t
  tm_text (Bound k) = codes "#" ++ number_text k
  tm_text (App f x) = cond (is_equation names (App f x))
      (codes "(" ++ argument_text f ++ codes " = " ++ tm_text x ++ codes ")")
      (codes "(" ++ tm_text f ++ codes " " ++ tm_text x ++ codes ")")
  tm_text (Abs t b) = codes "(\\" ++ ty_text t ++ codes ". " ++ tm_text b ++ codes ")"

  -- the text of what a function was applied to: the left side of an equation
  pub argument_text : Tm Name → List ℕ
  argument_text (App f x) = tm_text x
  argument_text _ = []

-- ---- sequents: the hypotheses in the order of the bytes of their texts, each once, |- and the conclusion

-- the order of texts, byte by byte
abbrev pub order : List ℕ → List ℕ → Ordering
order = slice_cmp nat_cmp

-- the texts in the order of their bytes, each once: each is put at its place unless it is there
abbrev pub ascending : List (List ℕ) → List (List ℕ)
ascending [] = []
ascending (x ∷ xs) = insert_key order (ascending xs) x

-- the further hypotheses, a comma before each, and the turnstile
abbrev pub further_hyps : List (List ℕ) → List ℕ
further_hyps [] = codes " |- "
further_hyps (x ∷ xs) = codes ", " ++ x ++ further_hyps xs

-- the hypotheses and the turnstile
abbrev pub hyps_text : List (List ℕ) → List ℕ
hyps_text [] = codes "|- "
hyps_text (x ∷ xs) = x ++ further_hyps xs

abbrev pub sequent_text : Sequent Name → List ℕ
sequent_text q = hyps_text (ascending (map tm_text q.hyps)) ++ tm_text q.concl
