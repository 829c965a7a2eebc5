-- What a written term means before it is looked at as a whole part.
use Rattle.std.specs.Prelude.{ℕ, ◌+◌, ◌-◌, Bool, true, false, cond, not, List, [], ◌∷◌, length, Result, Ok}
use Rattle.ot_logic.specs.Answers.{◌>>=◌, some_or}
use Rattle.ot_logic.specs.Names.{Name}
use Rattle.ot_logic.specs.Naming.{names}
use Rattle.ot_logic.specs.Trees.{Ty, Tm, Free, Con, Bound, App, Abs, Symbol}
use Rattle.ot_logic.specs.Hol.{fun_ty, bool_ty}
use Rattle.ot_forms.specs.declared.fault.TextFault.TheVariants.{Unbound, UnknownOperator, BadTypes}
use Rattle.ot_forms.specs.Words.{same_text}
use Rattle.ot_forms.specs.Forms.{Written, Writtens, Place, FreeAs, ConAs, Equal, Infix}
use Rattle.ot_forms.specs.Forms.{Applied, Binding, NoMore, More, type_text, term_text}
use Rattle.ot_forms.specs.Meaning.{Around, Refusal, place_of, constant_of, is_typed}
use Rattle.ot_forms.specs.Meaning.{check, whole, relation_ty, equated, are_alike, meaning}

-- the place of what begins these bytes, in a text of so many
abbrev pub place_at : ℕ → List ℕ → ℕ
place_at n s = n - length s

abbrev pub Meaning : Type 0
Meaning = Result (Tm Name) Refusal

-- as a whole part
abbrev pub wholly : Around → Bool → ℕ → Meaning → Meaning
wholly l wanted k r = r >>= whole l wanted k

abbrev pub equal_of : Around → ℕ → Meaning → Meaning → Meaning
equal_of l k x y = do
  a ← x
  b ← y
  _ ← check k BadTypes (are_alike l a b)
  Ok (equated l a b)

abbrev pub infix_of : List (Symbol Name) → Around → ℕ → List ℕ → Meaning → Meaning → Meaning
infix_of hidden l k o x y = do
  a ← x
  b ← y
  n ← some_or (k, UnknownOperator) (constant_of hidden o)
  Ok (App (App (Con n relation_ty) a) b)

abbrev pub apply_of : Around → ℕ → Meaning → Meaning → Meaning
apply_of l k f x = do
  g ← f
  y ← x
  _ ← check k BadTypes (is_typed l (App g y))
  Ok (App g y)

abbrev pub abstracted : Ty Name → Meaning → Meaning
abstracted t r = do
  b ← r
  Ok (Abs t b)

abbrev pub bound_of : Around → ℕ → List ℕ → Meaning
bound_of l k x = do
  i ← some_or (k, Unbound) (place_of l x)
  Ok (Bound i)

-- f, from place k on, at x and the further arguments, the first of them at place i
abbrev pub applied_of : List (Symbol Name) → Around → ℕ → ℕ → Meaning → Meaning → Writtens → Meaning
applied_of hidden l k i f x NoMore = apply_of l k f x
applied_of hidden l k i f x (More b bs) = applied_of hidden l k (i + 1 + length (term_text hidden b))
    (wholly l false k (apply_of l k f x)) (meaning hidden l false i b) bs

abbrev pub raw : List (Symbol Name) → Around → ℕ → Written → Meaning
raw hidden l k (Place x) = bound_of l k x
raw hidden l k (FreeAs n t) = Ok (Free (record { name = n; ty = t }))
raw hidden l k (ConAs n t) = Ok (Con n t)
raw hidden l k (Equal a b) =
    equal_of l k (meaning hidden l false (k + 1) a) (meaning hidden l false (k + 4 + length (term_text hidden a)) b)
raw hidden l k (Infix o a b) = infix_of hidden l k o (meaning hidden l true (k + 1) a)
    (meaning hidden l true (k + 3 + length (term_text hidden a) + length o) b)
raw hidden l k (Applied f a more) =
    applied_of hidden l k (k + 3 + length (term_text hidden f) + length (term_text hidden a))
    (meaning hidden l false (k + 1) f) (meaning hidden l false (k + 2 + length (term_text hidden f)) a) more
raw hidden l k (Binding x t a) =
    abstracted t (meaning hidden ((x, t) ∷ l) false (k + 8 + length x + length (type_text hidden t)) a)

-- the type of a relation between terms of this type, and such a relation at two terms
abbrev pub relation_of : Ty Name → Ty Name
relation_of t = fun_ty names t (fun_ty names t (bool_ty names))

abbrev pub related_at : Name → Ty Name → Tm Name → Tm Name → Tm Name
related_at n t a b = App (App (Con n (relation_of t)) a) b

-- whether the sides of an operator are propositions, and what stands at its sides
abbrev pub is_relation : List ℕ → Bool
is_relation o = not (same_text o (61 ∷ []))

abbrev pub sides_of : List (Symbol Name) → Around → ℕ → List ℕ → Meaning → Meaning → Meaning
sides_of hidden l k o x y = cond (same_text o (61 ∷ [])) (equal_of l k x y) (infix_of hidden l k o x y)
