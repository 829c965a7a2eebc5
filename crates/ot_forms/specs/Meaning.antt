-- What a written term stands for: a nameless term, or the first refusal.
use Rattle.std.specs.Prelude.{ℕ, ◌+◌, suc, Bool, true, false, cond, not, ◌&&◌, ◌||◌, nat_le}
use Rattle.std.specs.Prelude.{List, [], ◌∷◌, map, length, Option, Some, None, Result, Ok, Err}
use Rattle.std.specs.Option.{option_map, unwrap_or}
use Rattle.ot_logic.specs.Answers.{◌>>=◌, some_or}
use Rattle.ot_logic.specs.Names.{Name}
use Rattle.ot_logic.specs.Naming.{names}
use Rattle.ot_logic.specs.Trees.{Ty, Tm, Free, Con, Bound, App, Abs, Sequent, Symbol, ConSymbol, OpSymbol}
use Rattle.ot_logic.specs.Hol.{fun_ty, bool_ty, type_in, same_ty, equation}
use Rattle.ot_logic.specs.Hol.{depth_tm, depth_limit, has_shallow_types, once_each}
use Rattle.ot_forms.specs.declared.fault.TextFault.{TextFault}
use Rattle.ot_forms.specs.declared.fault.TextFault.TheVariants.{Unbound, UnknownOperator, BadTypes, TooDeep}
use Rattle.ot_forms.specs.Words.{same_text, base}
use Rattle.ot_forms.specs.Forms.{Written, Writtens, Place, FreeAs, ConAs, Equal, Infix, Applied}
use Rattle.ot_forms.specs.Forms.{Binding, NoMore, More, WrittenSequent, type_text, term_text, hyps_text}

-- the abstractions around a term, with their names and types, the innermost first
abbrev pub Around : Type 0
Around = List (List ℕ × Ty Name)

abbrev pub types_around : Around → List (Ty Name)
types_around = map (λ b. b.1)

-- the number of the innermost abstraction that names X
abbrev pub place_of : Around → List ℕ → Option ℕ
place_of [] x = None
place_of (b ∷ bs) x = cond (same_text b.0 x) (Some 0) (option_map suc (place_of bs x))

-- the hidden constant with this operator word
abbrev pub constant_of : List (Symbol Name) → List ℕ → Option Name
constant_of [] o = None
constant_of (ConSymbol n ∷ hs) o = cond (same_text (base n) o) (Some n) (constant_of hs o)
constant_of (OpSymbol n ∷ hs) o = constant_of hs o

-- the type of a term under these abstractions is this one
abbrev pub has_type : Around → Tm Name → Ty Name → Bool
has_type l t ty = same_ty names (unwrap_or (type_in names (types_around l) t) (bool_ty names)) ty

-- the term has a type
abbrev pub is_typed : Around → Tm Name → Bool
is_typed l t = elim (type_in names (types_around l) t) [ None ↦ false | Some ty ↦ true ]

-- within the nesting limit, under these abstractions
abbrev pub fits : Around → Tm Name → Bool
fits l t = nat_le (depth_tm names t) depth_limit && has_shallow_types names (types_around l) t

-- a refusal: the place of its byte, from 0, and the fault
abbrev pub Refusal : Type 0
Refusal = ℕ × TextFault

abbrev pub check : ℕ → TextFault → Bool → Result (Unit {0}) Refusal
check k f b = cond b (Ok tt) (Err (k, f))

-- a whole part, which begins at k: a proposition where one is wanted, and within the nesting limit
abbrev pub whole : Around → Bool → ℕ → Tm Name → Result (Tm Name) Refusal
whole l wanted k t = do
  _ ← check k BadTypes (not wanted || has_type l t (bool_ty names))
  _ ← check k TooDeep (fits l t)
  Ok t

-- the type of a relation between propositions
abbrev pub relation_ty : Ty Name
relation_ty = fun_ty names (bool_ty names) (fun_ty names (bool_ty names) (bool_ty names))

-- a = b, at the type of a
abbrev pub equated : Around → Tm Name → Tm Name → Tm Name
equated l a b = equation names (unwrap_or (type_in names (types_around l) a) (bool_ty names)) a b

-- the sides have one type
abbrev pub are_alike : Around → Tm Name → Tm Name → Bool
are_alike l a b = has_type l b (unwrap_or (type_in names (types_around l) a) (bool_ty names))

abbrev mutual
  -- the nameless term of a written one that begins at place k, or the refusal of the first part that is refused: a
  -- part comes after the parts inside it, and what stands on the left first
  pub meaning : List (Symbol Name) → Around → Bool → ℕ → Written → Result (Tm Name) Refusal
  meaning hidden l wanted k (Place x) = do
    i ← some_or (k, Unbound) (place_of l x)
    whole l wanted k (Bound i)
  meaning hidden l wanted k (FreeAs n t) = whole l wanted k (Free (record { name = n; ty = t }))
  meaning hidden l wanted k (ConAs n t) = whole l wanted k (Con n t)
  meaning hidden l wanted k (Equal a b) = do
    x ← meaning hidden l false (k + 1) a
    y ← meaning hidden l false (k + 4 + length (term_text hidden a)) b
    _ ← check k BadTypes (are_alike l x y)
    whole l wanted k (equated l x y)
  meaning hidden l wanted k (Infix o a b) = do
    x ← meaning hidden l true (k + 1) a
    y ← meaning hidden l true (k + 3 + length (term_text hidden a) + length o) b
    n ← some_or (k, UnknownOperator) (constant_of hidden o)
    whole l wanted k (App (App (Con n relation_ty) x) y)
  meaning hidden l wanted k (Applied f a more) = do
    g ← meaning hidden l false (k + 1) f
    x ← meaning hidden l false (k + 2 + length (term_text hidden f)) a
    meaning_applied hidden l wanted k (k + 3 + length (term_text hidden f) + length (term_text hidden a)) g x more
  meaning hidden l wanted k (Binding x t a) = do
    b ← meaning hidden ((x, t) ∷ l) false (k + 8 + length x + length (type_text hidden t)) a
    whole l wanted k (Abs t b)

  -- f, from place k on, applied to x and to the further arguments, the first of them at place i
  pub meaning_applied : List (Symbol Name) → Around → Bool → ℕ → ℕ → Tm Name → Tm Name → Writtens
      → Result (Tm Name) Refusal
  meaning_applied hidden l wanted k i f x NoMore = do
    _ ← check k BadTypes (is_typed l (App f x))
    whole l wanted k (App f x)
  meaning_applied hidden l wanted k i f x (More b bs) = do
    _ ← check k BadTypes (is_typed l (App f x))
    g ← whole l false k (App f x)
    y ← meaning hidden l false i b
    meaning_applied hidden l wanted k (i + 1 + length (term_text hidden b)) g y bs

-- the hypotheses from place k on
abbrev pub meanings : List (Symbol Name) → ℕ → List Written → Result (List (Tm Name)) Refusal
meanings hidden k [] = Ok []
meanings hidden k (a ∷ more) = do
  h ← meaning hidden [] true k a
  hs ← meanings hidden (k + 2 + length (term_text hidden a)) more
  Ok (h ∷ hs)

-- the sequent of a line: each hypothesis once; the conclusion begins behind the hypotheses and the turnstile
abbrev pub line_meaning : List (Symbol Name) → WrittenSequent → Result (Sequent Name) Refusal
line_meaning hidden q = do
  hs ← meanings hidden 0 q.hyps
  c ← meaning hidden [] true (length (hyps_text hidden q.hyps)) q.concl
  Ok (record { hyps = once_each names hs; concl = c })

-- the term of a text of one term
abbrev pub term_meaning : List (Symbol Name) → Written → Result (Tm Name) Refusal
term_meaning hidden w = meaning hidden [] false 0 w
