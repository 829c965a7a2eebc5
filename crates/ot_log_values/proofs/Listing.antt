-- The elements of lists, and lists that are read one element after another.
use Rattle.std.specs.Prelude.{◌≡◌, ◌<◌, ◌≤◌, ◌+◌, ℕ, Bool, true, false, List, [], ◌∷◌, ◌++◌}
use Rattle.std.specs.Prelude.{map, length, take, Result, Ok, Err, nat_le, if◌then◌else◌}
use Rattle.std.specs.List.{All}
use Rattle.std.proofs.Common.{refl, sym, ap, subst, ◌∙◌, get_or, add-one, append_assoc, append-nil}
use Rattle.std.proofs.Math.Seq.{take-suc}
use Rattle.std.proofs.lemmas.List.{map-append, take_all}
use Rattle.std.proofs.lemmas.List.Elements.{All-nil, All-cons}
use Rattle.ot_logic.specs.Names.{Name}
use Rattle.ot_logic.specs.Hol.{depth_limit}
use Rattle.ot_logic.specs.Faults.{Fault, Nesting}
use Rattle.ot_logic.specs.Answers.{◌>>=◌}
use Rattle.ot_logic.specs.declared.command.Cmd.TheVariants as words
use Rattle.ot_trace.specs.Origins.{Origin, Origins, Make, make_two}
use Rattle.ot_machine.specs.Objects.{Object, Objects, list, no_objects, more_objects, nesting}
use Rattle.ot_machine.specs.Places.{as_list, as_each}
use Rattle.ot_machine.specs.Makers.{Read, cons_made}
use Rattle.ot_machine.specs.Values.{value}
use Rattle.ot_machine.specs.Meaning.{origin_of}
use Rattle.ot_machine.specs.declared.session.Session.{Session}
use Rattle.ot_machine.proofs.Tops.{same-ok}
use Rattle.ot_machine.proofs.Operands.{no-operands}
use Rattle.ot_log_values.specs.Lists.{ReadsAs, AreValues, AreElementsOf}
use Rattle.ot_log_values.proofs.Making.{two-made}

-- ---- the elements of a list
pub nil-elements : (o : Origin Name) (os : Origins Name) → o ≡ Make words.Nil os → AreElementsOf o []
nil-elements o os e =
    record { are = λ v h. (no_objects, sym (no-operands (list no_objects) os v (sym (ap value e) ∙ h)).1, tt) }

within : (b : Bool) (o v : Object) → ◌≡◌ {A = Read} (if b then Ok o else Err Nesting) (Ok v) → v ≡ o
within true o v p = sym (same-ok _ _ _ refl p)
within false o v p = absurd (cc)

consed-is : (x v : Object) (xs : Objects) → cons_made (Ok (list xs)) (Ok x) ≡ Ok v → v ≡ list (more_objects x xs)
consed-is x v xs h = within (nat_le (nesting (list (more_objects x xs))) depth_limit) (list (more_objects x xs)) v h

pub cons-elements : (o p q : Origin Name) (os : List (Origin Name)) → o ≡ make_two words.Cons p q → AreElementsOf q os
    → AreElementsOf o (p ∷ os)
cons-elements o p q os e rest = record {
  are = λ v h.
      let a = two-made cons_made p q v (sym (ap value e) ∙ h) in
      let b = rest.are a.top a.top_is in (
        more_objects a.below b.0,
        consed-is a.below v b.0 (subst (λ w. cons_made (Ok w) (Ok a.below) ≡ Ok v) b.1 a.made),
        (a.below_is, b.2),
      );
}

-- what is left of a list gives its elements behind those that were found
pub record Leaves (s : Session) (whole : ℕ) (found : List ℕ) (rest : ℕ) : Type 0 where
  pub behind : (os : List (Origin Name)) → AreElementsOf (origin_of s rest) os
      → AreElementsOf (origin_of s whole) (map (origin_of s) found ++ os)

module _ (s : Session) where
  pub leaves-cons : (whole : ℕ) (found more : List ℕ) (rest head tail : ℕ)
      → origin_of s rest ≡ make_two words.Cons (origin_of s head) (origin_of s tail) → more ≡ found ++ head ∷ []
      → Leaves s whole found rest
      → Leaves s whole more tail
  leaves-cons whole found more rest head tail e pushed h = record {
    behind = λ os elements.
        let here = h.behind (origin_of s head ∷ os) (cons-elements _ _ _ os e elements) in
        let same = ap (λ is. map (origin_of s) is ++ os) pushed
        ∙ ap (λ ps. ps ++ os) (map-append (origin_of s) found (head ∷ []))
        ∙ append_assoc (map (origin_of s) found) (origin_of s head ∷ []) os in
        subst (AreElementsOf (origin_of s whole)) (sym same) here;
  }

  pub leaves-nil : (whole : ℕ) (found : List ℕ) (rest : ℕ) (os : Origins Name) → origin_of s rest ≡ Make words.Nil os
      → Leaves s whole found rest → AreElementsOf (origin_of s whole) (map (origin_of s) found)
  leaves-nil whole found rest os e h =
      subst (AreElementsOf (origin_of s whole)) (append-nil (map (origin_of s) found))
      (h.behind [] (nil-elements _ os e))

-- ---- one by one
abbrev pub AreEach : {A : Type 0} → (ℕ → A → Type 0) → List ℕ → List A → Type 0
AreEach R [] [] = Unit {0}
AreEach R [] (x ∷ xs) = ⊥
AreEach R (i ∷ is) [] = ⊥
AreEach R (i ∷ is) (x ∷ xs) = R i x × AreEach R is xs

module _ {A : Type 0} where
  each-later : (R Q : ℕ → A → Type 0) → ((i : ℕ) (x : A) → R i x → Q i x) → (is : List ℕ) (xs : List A)
      → AreEach R is xs
      → AreEach Q is xs
  each-later R Q later [] [] h = tt
  each-later R Q later [] (x ∷ xs) h = absurd h
  each-later R Q later (i ∷ is) [] h = absurd h
  each-later R Q later (i ∷ is) (x ∷ xs) h = (later i x h.0, each-later R Q later is xs h.1)

  each-push : (R : ℕ → A → Type 0) (is : List ℕ) (xs : List A) (i : ℕ) (x : A) → AreEach R is xs → R i x
      → AreEach R (is ++ i ∷ []) (xs ++ x ∷ [])
  each-push R [] [] i x h one = (one, tt)
  each-push R [] (y ∷ xs) i x h one = absurd h
  each-push R (j ∷ is) [] i x h one = absurd h
  each-push R (j ∷ is) (y ∷ xs) i x h one = (h.0, each-push R is xs i x h.1 one)

  -- one more of the steps
  pub each-next : (R Q : ℕ → A → Type 0) → ((i : ℕ) (x : A) → R i x → Q i x)
      → (steps : List ℕ) (k i : ℕ) (xs ys : List A) (x : A)
      → k < length steps → i ≡ get_or steps k i → AreEach R (take k steps) xs → Q i x → ys ≡ xs ++ x ∷ []
      → AreEach Q (take (k + 1) steps) ys
  each-next R Q later steps k i xs ys x h item before one pushed =
      let ids : take (k + 1) steps ≡ take k steps ++ i ∷ [] =
      rw (add-one, take-suc steps k i h) (ap (λ j. take k steps ++ j ∷ []) (sym item)) in
      subst (λ l. AreEach Q l ys) (sym ids)
      (subst (AreEach Q (take k steps ++ i ∷ [])) (sym pushed)
      (each-push Q (take k steps) xs i x (each-later R Q later (take k steps) xs before) one))

  -- all of them
  pub each-whole : (R : ℕ → A → Type 0) (steps : List ℕ) (k : ℕ) (xs : List A) → length steps ≤ k
      → AreEach R (take k steps) xs
      → AreEach R steps xs
  each-whole R steps k xs h each = subst (λ l. AreEach R l xs) (take_all k steps h) each

  pub each-all : (R : ℕ → A → Type 0) (P : A → Type 0) → ((i : ℕ) (x : A) → R i x → P x) → (is : List ℕ) (xs : List A)
      → AreEach R is xs → All P xs
  each-all R P has [] [] h = All-nil P
  each-all R P has [] (x ∷ xs) h = absurd h
  each-all R P has (i ∷ is) [] h = absurd h
  each-all R P has (i ∷ is) (x ∷ xs) h = All-cons P x xs (has i x h.0) (each-all R P has is xs h.1)

module _ (s : Session) {A B : Type 0} (R : ℕ → A → Type 0) (as_one : Object → Result B (Fault Name)) (f : A → B)
    (one : (i : ℕ) (x : A) (v : Object) → R i x → value (origin_of s i) ≡ Ok v → as_one v ≡ Ok (f x)) where
  read-each : (is : List ℕ) (xs : List A) (vs : Objects) → AreEach R is xs → AreValues (map (origin_of s) is) vs
      → as_each as_one vs ≡ Ok (map f xs)
  read-each [] [] no_objects a b = refl
  read-each [] [] (more_objects v vs) a b = absurd b
  read-each [] (x ∷ xs) vs a b = absurd a
  read-each (i ∷ is) [] vs a b = absurd a
  read-each (i ∷ is) (x ∷ xs) no_objects a b = absurd b
  read-each (i ∷ is) (x ∷ xs) (more_objects v vs) a b =
      let p = one i x v a.0 b.0 in
      let q = read-each is xs vs a.1 b.1 in
      (λ k. p k >>= λ y. as_each as_one vs >>= λ ys. Ok (y ∷ ys)) ∙ (λ k. q k >>= λ ys. Ok (f x ∷ ys))

  -- a list of elements that each read as this
  pub reads-each : (o : Origin Name) (is : List ℕ) (xs : List A) → AreElementsOf o (map (origin_of s) is)
      → AreEach R is xs
      → ReadsAs (as_each as_one) o (map f xs)
  reads-each o is xs elements each = record {
    is = λ v h.
        let a = elements.are v h in
        ap (λ w. as_list w >>= as_each as_one) a.1 ∙ read-each is xs a.0 each a.2;
  }

-- ---- lists of two
-- the elements of a list of two
pub record AreTwoOf (p q : Origin Name) (v : Object) : Type 0 where
  pub first : Object
  pub second : Object
  pub is : v ≡ list (more_objects first (more_objects second no_objects))
  pub first_is : value p ≡ Ok first
  pub second_is : value q ≡ Ok second

pub two-of : (o p q : Origin Name) (v : Object) → AreElementsOf o (p ∷ q ∷ []) → value o ≡ Ok v → AreTwoOf p q v
two-of o p q v elements h = let a = elements.are v h in by a.0 a.1 a.2
  where
    by : (vs : Objects) → v ≡ list vs → AreValues (p ∷ q ∷ []) vs → AreTwoOf p q v
    by no_objects e b = absurd b
    by (more_objects x no_objects) e b = absurd b.1
    by (more_objects x (more_objects y no_objects)) e b = record {
      first = x;
      second = y;
      is = e;
      first_is = b.0;
      second_is = b.1.0;
    }
    by (more_objects x (more_objects y (more_objects z vs))) e b = absurd b.1.1
