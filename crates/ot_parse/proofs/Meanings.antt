-- What a written term means is what it means before it is whole, and then the look at the whole.
use Rattle.std.specs.Prelude.{◌≡◌, ℕ, ◌+◌, Bool, true, false, List}
use Rattle.std.specs.Prelude.{◌∷◌, length, Option, Some, None, Result, Ok, Err}
use Rattle.std.proofs.Common.{refl, ◌∙◌, ap}
use Rattle.ot_logic.specs.Answers.{◌>>=◌, some_or}
use Rattle.ot_logic.specs.Names.{Name}
use Rattle.ot_logic.specs.Trees.{Ty, Tm, Con, Bound, App, Abs, Symbol}
use Rattle.ot_forms.specs.declared.fault.TextFault.TheVariants.{Unbound, UnknownOperator, BadTypes}
use Rattle.ot_forms.specs.Forms.{Written, Writtens, Place, FreeAs, ConAs, Equal, Infix}
use Rattle.ot_forms.specs.Forms.{Applied, Binding, NoMore, More, type_text, term_text}
use Rattle.ot_forms.specs.Meaning.{Around, place_of, constant_of, is_typed, check, whole}
use Rattle.ot_forms.specs.Meaning.{relation_ty, equated, are_alike, meaning, meaning_applied}
use Rattle.ot_parse.specs.Meant.{Meaning, wholly, equal_of, infix_of, apply_of, abstracted, bound_of, applied_of, raw}

-- one step after another
pub after-both : {A B C E : Type 0} (o : Result A E) (f : A → Result B E) (g : B → Result C E)
    → o >>= (λ a. f a >>= g) ≡ (o >>= f) >>= g
after-both (Ok a) f g = refl
after-both (Err e) f g = refl

module _ (hidden : List (Symbol Name)) where
  bound : (l : Around) (w : Bool) (k : ℕ) (x : List ℕ) → meaning hidden l w k (Place x)
      ≡ wholly l w k (bound_of l k x)
  bound l w k x = go (place_of l x) where
    go : (o : Option ℕ) → (some_or (k, Unbound) o >>= (λ i. whole l w k (Bound i)))
        ≡ wholly l w k (some_or (k, Unbound) o >>= (λ i. Ok (Bound i)))
    go (Some i) = refl
    go None = refl

  equal : (l : Around) (w : Bool) (k : ℕ) (x y : Meaning)
      → (x >>= (λ a. y >>= (λ b. check k BadTypes (are_alike l a b) >>= (λ _. whole l w k (equated l a b)))))
      ≡ wholly l w k (equal_of l k x y)
  equal l w k (Ok a) (Ok b) = after-both (check k BadTypes (are_alike l a b)) (λ _. Ok (equated l a b)) (whole l w k)
  equal l w k (Ok a) (Err e) = refl
  equal l w k (Err e) y = refl

  infix_is : (l : Around) (w : Bool) (k : ℕ) (o : List ℕ) (x y : Meaning)
      → (x >>= (λ a. y >>= (λ b. some_or (k, UnknownOperator) (constant_of hidden o)
      >>= (λ n. whole l w k (App (App (Con n relation_ty) a) b))))) ≡ wholly l w k (infix_of hidden l k o x y)
  infix_is l w k o (Ok a) (Ok b) = after-both (some_or (k, UnknownOperator) (constant_of hidden o))
      (λ n. Ok (App (App (Con n relation_ty) a) b)) (whole l w k)
  infix_is l w k o (Ok a) (Err e) = refl
  infix_is l w k o (Err e) y = refl

  abstraction : (l : Around) (w : Bool) (k : ℕ) (t : Ty Name) (x : Meaning) → (x >>= (λ b. whole l w k (Abs t b)))
      ≡ wholly l w k (abstracted t x)
  abstraction l w k t (Ok b) = refl
  abstraction l w k t (Err e) = refl

  -- the steps of an application where its function and its argument have meanings
  arguments : (more : Writtens) (l : Around) (w : Bool) (k i : ℕ) (f x : Meaning)
      → (f >>= (λ g. x >>= (λ y. meaning_applied hidden l w k i g y more)))
      ≡ wholly l w k (applied_of hidden l k i f x more)
  arguments NoMore l w k i (Ok g) (Ok y) = after-both (check k BadTypes (is_typed l (App g y))) (λ _. Ok (App g y))
      (whole l w k)
  arguments NoMore l w k i (Ok g) (Err e) = refl
  arguments NoMore l w k i (Err e) x = refl
  arguments (More b bs) l w k i (Ok g) (Ok y) =
      let rest = λ (h : Tm Name). meaning hidden l false i b
      >>= (λ z. meaning_applied hidden l w k (i + 1 + length (term_text hidden b)) h z bs) in
      after-both (check k BadTypes (is_typed l (App g y))) (λ _. whole l false k (App g y)) rest
      ∙ ap (λ m. m >>= rest)
      (after-both (check k BadTypes (is_typed l (App g y))) (λ _. Ok (App g y)) (whole l false k))
      ∙ arguments bs l w k (i + 1 + length (term_text hidden b)) (wholly l false k (apply_of l k (Ok g) (Ok y)))
      (meaning hidden l false i b)
  arguments (More b bs) l w k i (Ok g) (Err e) =
      arguments bs l w k (i + 1 + length (term_text hidden b)) (Err e) (meaning hidden l false i b)
  arguments (More b bs) l w k i (Err e) x =
      arguments bs l w k (i + 1 + length (term_text hidden b)) (Err e) (meaning hidden l false i b)

  pub whole-raw : (l : Around) (w : Bool) (k : ℕ) (t : Written)
      → meaning hidden l w k t ≡ wholly l w k (raw hidden l k t)
  whole-raw l w k (Place x) = bound l w k x
  whole-raw l w k (FreeAs n t) = refl
  whole-raw l w k (ConAs n t) = refl
  whole-raw l w k (Equal a b) =
      equal l w k (meaning hidden l false (k + 1) a) (meaning hidden l false (k + 4 + length (term_text hidden a)) b)
  whole-raw l w k (Infix o a b) = infix_is l w k o (meaning hidden l true (k + 1) a)
      (meaning hidden l true (k + 3 + length (term_text hidden a) + length o) b)
  whole-raw l w k (Applied f a more) =
      arguments more l w k (k + 3 + length (term_text hidden f) + length (term_text hidden a))
      (meaning hidden l false (k + 1) f) (meaning hidden l false (k + 2 + length (term_text hidden f)) a)
  whole-raw l w k (Binding x t a) =
      abstraction l w k t (meaning hidden ((x, t) ∷ l) false (k + 8 + length x + length (type_text hidden t)) a)
