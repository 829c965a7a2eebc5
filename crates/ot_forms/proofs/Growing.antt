-- More room for open parentheses changes a reading only where it halted for want of room, and there it goes on.
use Rattle.std.specs.Prelude.{◌≡◌, ◌≤◌, ◌<◌, ℕ, zero, suc, ◌-◌, ◌==◌, ◌||◌, not}
use Rattle.std.specs.Prelude.{Bool, true, false, cond, List, [], ◌∷◌, length, codes}
use Rattle.std.proofs.Common.{refl, ◌∙◌, ap, subst, length-append, arith}
use Rattle.ot_logic.specs.Names.{Name}
use Rattle.ot_logic.specs.Naming.{names}
use Rattle.ot_logic.specs.Hol.{fun_ty}
use Rattle.ot_logic.specs.Trees.{Ty, Tys, TyOp, NoTys, MoreTys, Symbol}
use Rattle.ot_text.specs.Texts.{is_function}
use Rattle.ot_forms.specs.Reading.{NoForm, OneTooMany, Reading, Got, Halted, next, mapped, kept}
use Rattle.ot_forms.specs.Reading.{literal_at, operator_at, range_at, further_at, arguments_at}
use Rattle.ot_forms.specs.Reading.{operands_at, behind_word_at, inside_at, closed_type_at}
use Rattle.ot_forms.proofs.Readers.{Follows, Reads}

abbrev pub left : {A : Type 0} → Reading A → List ℕ
left (Got a r) = r
left (Halted k r) = r

abbrev pub Grows : {A : Type 0} → Reading A → Reading A → Type 0
Grows (Got a r) o = Got a r ≡ o
Grows (Halted NoForm r) o = Halted NoForm r ≡ o
Grows (Halted OneTooMany r) o = length (left o) < length r

-- no more is left than there was
abbrev pub Shrinks : {A : Type 0} → (List ℕ → Reading A) → Type 0
Shrinks f = (s : List ℕ) → length (left (f s)) ≤ length s

pub follows-shrinks : {A : Type 0} (P : A → List ℕ → Type 0) (f : List ℕ → Reading A) (s : List ℕ) (o : Reading A)
    → Follows P f s o → length (left o) ≤ length s
follows-shrinks P f s (Got a r) h = let e = ap length h.is ∙ length-append h.text r in omega (arith, e)
follows-shrinks P f s (Halted k r) h = let e = ap length h.is ∙ length-append h.text r in omega (arith, e)

pub reads-shrinks : {A : Type 0} (P : A → List ℕ → Type 0) (E : List ℕ → Type 0) (f : List ℕ → Reading A)
    → Reads P E f → Shrinks f
reads-shrinks P E f h s = follows-shrinks P f s (f s) (h.follows s)

-- ---- readers that have no room to ask for
abbrev pub IsPlain : {A : Type 0} → Reading A → Type 0
IsPlain (Got a r) = Unit {0}
IsPlain (Halted NoForm r) = Unit {0}
IsPlain (Halted OneTooMany r) = ⊥

pub plain-grows : {A : Type 0} (o : Reading A) → IsPlain o → Grows o o
plain-grows (Got a r) h = refl
plain-grows (Halted NoForm r) h = refl
plain-grows (Halted OneTooMany r) h = absurd h

pub literal-plain : (w s : List ℕ) → IsPlain (literal_at w s)
literal-plain [] s = tt
literal-plain (c ∷ w) [] = tt
literal-plain (c ∷ w) (b ∷ s) = go (b == c) (literal-plain w s) where
  go : (t : Bool) → IsPlain (literal_at w s) → IsPlain (cond t (literal_at w s) (Halted NoForm (b ∷ s)))
  go true h = h
  go false h = tt

pub mapped-plain : {A B : Type 0} (v : A → B) (o : Reading A) → IsPlain o → IsPlain (mapped v o)
mapped-plain v (Got a r) h = tt
mapped-plain v (Halted NoForm r) h = tt
mapped-plain v (Halted OneTooMany r) h = h

pub kept-plain : {A : Type 0} (good : A → Bool) (o : Reading A) → IsPlain o → IsPlain (kept good o)
kept-plain good (Got a r) h = go (good a) where
  go : (t : Bool) → IsPlain (cond t (Got a r) (Halted NoForm r))
  go true = tt
  go false = tt
kept-plain good (Halted NoForm r) h = tt
kept-plain good (Halted OneTooMany r) h = h

pub next-plain : {A B : Type 0} (o : Reading A) (g : A → List ℕ → Reading B) → IsPlain o
    → ((a : A) (r : List ℕ) → IsPlain (g a r)) → IsPlain (next o g)
next-plain (Got a r) g h k = k a r
next-plain (Halted NoForm r) g h k = tt
next-plain (Halted OneTooMany r) g h k = h

-- ---- joined readers
pub next-grows : {A B : Type 0} (o p : Reading A) (f g : A → List ℕ → Reading B) → Grows o p
    → ((a : A) (r : List ℕ) → Grows (f a r) (g a r)) → ((a : A) → Shrinks (g a)) → Grows (next o f) (next p g)
next-grows (Got a r) p f g h k s = subst (λ z. Grows (f a r) (next z g)) h (k a r)
next-grows (Halted NoForm r) p f g h k s = ap (λ z. next z g) h
next-grows (Halted OneTooMany r) (Got a q) f g h k s = let w = s a q in omega (arith, w, h)
next-grows (Halted OneTooMany r) (Halted w q) f g h k s = h

pub mapped-grows : {A B : Type 0} (v : A → B) (o p : Reading A) → Grows o p → Grows (mapped v o) (mapped v p)
mapped-grows v (Got a r) p h = ap (mapped v) h
mapped-grows v (Halted NoForm r) p h = ap (mapped v) h
mapped-grows v (Halted OneTooMany r) (Got a q) h = h
mapped-grows v (Halted OneTooMany r) (Halted k q) h = h

pub kept-grows : {A : Type 0} (good : A → Bool) (o p : Reading A) → Grows o p → Grows (kept good o) (kept good p)
kept-grows good (Got a r) p h = subst (λ z. Grows (kept good (Got a r)) (kept good z)) h (itself (good a)) where
  itself : (t : Bool) → Grows (cond t (Got a r) (Halted NoForm r)) (cond t (Got a r) (Halted NoForm r))
  itself true = refl
  itself false = refl
kept-grows good (Halted NoForm r) p h = ap (kept good) h
kept-grows good (Halted OneTooMany r) (Got a q) h = go (good a) where
  go : (t : Bool) → length (left (cond t (Got a q) (Halted NoForm q))) < length r
  go true = h
  go false = h
kept-grows good (Halted OneTooMany r) (Halted k q) h = h

pub mapped-shrinks : {A B : Type 0} (v : A → B) (f : List ℕ → Reading A) → Shrinks f → Shrinks (λ s. mapped v (f s))
mapped-shrinks v f h s = go (f s) (h s) where
  go : (o : Reading _) → length (left o) ≤ length s → length (left (mapped v o)) ≤ length s
  go (Got a r) k = k
  go (Halted k r) q = q

pub next-shrinks : {A B : Type 0} (f : List ℕ → Reading A) (g : A → List ℕ → Reading B) → Shrinks f
    → ((a : A) → Shrinks (g a)) → Shrinks (λ s. next (f s) g)
next-shrinks f g h k s = go (f s) (h s) where
  go : (o : Reading _) → length (left o) ≤ length s → length (left (next o g)) ≤ length s
  go (Got a r) q = let w = k a r in omega (arith, w, q)
  go (Halted w r) q = q

-- ---- types
pub cond-grows : {A : Type 0} (t : Bool) (o p q r : Reading A) → Grows o q → Grows p r
    → Grows (cond t o p) (cond t q r)
cond-grows true o p q r h k = h
cond-grows false o p q r h k = k

pub mapped-left : {A B : Type 0} (v : A → B) (o : Reading A) → length (left (mapped v o)) ≤ length (left o)
mapped-left v (Got a r) = omega arith
mapped-left v (Halted k r) = omega arith

pub literal-shrinks : (w : List ℕ) → Shrinks (literal_at w)
literal-shrinks [] s = omega arith
literal-shrinks (c ∷ w) [] = omega arith
literal-shrinks (c ∷ w) (b ∷ s) = go (b == c) (literal-shrinks w s) where
  go : (t : Bool) → length (left (literal_at w s)) ≤ length s
      → length (left (cond t (literal_at w s) (Halted NoForm (b ∷ s)))) ≤ length (b ∷ s)
  go true h = omega arith
  go false h = omega arith

module _ (hidden : List (Symbol Name)) (read more : List ℕ → Reading (Ty Name))
    (grows : (s : List ℕ) → Grows (read s) (more s)) (shrinks : Shrinks more)
    (words : (s : List ℕ) → IsPlain (operator_at hidden s)) (words_shrink : Shrinks (operator_at hidden)) where
  range-grows : (a : Ty Name) (s : List ℕ) → Grows (range_at hidden read a s) (range_at hidden more a s)
  range-grows a s = next-grows (literal_at (codes "-> ") s) (literal_at (codes "-> ") s)
      (λ _ r. mapped (fun_ty names a) (read r)) (λ _ r. mapped (fun_ty names a) (more r))
      (plain-grows (literal_at (codes "-> ") s) (literal-plain (codes "-> ") s))
      (λ _ r. mapped-grows (fun_ty names a) (read r) (more r) (grows r))
      (λ _. mapped-shrinks (fun_ty names a) more shrinks)

  range-shrinks : (a : Ty Name) → Shrinks (range_at hidden more a)
  range-shrinks a = next-shrinks (literal_at (codes "-> ")) (λ _ r. mapped (fun_ty names a) (more r))
      (literal-shrinks (codes "-> ")) (λ _. mapped-shrinks (fun_ty names a) more shrinks)

  further-left : (s : List ℕ) (k : ℕ) → length (left (further_at hidden more k s)) ≤ length s - k
  further-left [] k = omega arith
  further-left (b ∷ s) (suc k) = let w = further-left s k in omega (arith, w)
  further-left (b ∷ s) zero = go (further-left s) (b == 32) where
    one : ((k : ℕ) → length (left (further_at hidden more k s)) ≤ length s - k) → (o : Reading (Ty Name))
        → length (left o) ≤ length s
        → length (left (next o (λ t r. mapped (MoreTys t) (further_at hidden more (length s - length r) s))))
        ≤ length s
    one ih (Got t r) h = let w = ih (length s - length r) in
        let v = mapped-left (MoreTys t) (further_at hidden more (length s - length r) s) in omega (arith, w, v)
    one ih (Halted k r) h = h

    go : ((k : ℕ) → length (left (further_at hidden more k s)) ≤ length s - k) → (t : Bool)
        → length (left
        (cond t (next (more s) (λ t r. mapped (MoreTys t) (further_at hidden more (length s - length r) s)))
        (Got NoTys (b ∷ s)))) ≤ length (b ∷ s) - zero
    go ih true = let w = one ih (more s) (shrinks s) in omega (arith, w)
    go ih false = omega arith

  further-grows : (s : List ℕ) (k : ℕ) → Grows (further_at hidden read k s) (further_at hidden more k s)
  further-grows [] k = refl
  further-grows (b ∷ s) (suc k) = further-grows s k
  further-grows (b ∷ s) zero =
      cond-grows (b == 32)
      (next (read s) (λ t r. mapped (MoreTys t) (further_at hidden read (length s - length r) s))) (Got NoTys (b ∷ s))
      (next (more s) (λ t r. mapped (MoreTys t) (further_at hidden more (length s - length r) s))) (Got NoTys (b ∷ s))
      (next-grows (read s) (more s) (λ t r. mapped (MoreTys t) (further_at hidden read (length s - length r) s))
      (λ t r. mapped (MoreTys t) (further_at hidden more (length s - length r) s)) (grows s)
      (λ t r. mapped-grows (MoreTys t) (further_at hidden read (length s - length r) s)
      (further_at hidden more (length s - length r) s) (further-grows s (length s - length r)))
      (λ t r. let w = further-left s (length s - length r) in
      let v = mapped-left (MoreTys t) (further_at hidden more (length s - length r) s) in omega (arith, w, v)))
      refl

  arguments-shrinks : Shrinks (arguments_at hidden more)
  arguments-shrinks = next-shrinks more (λ t r. mapped (MoreTys t) (further_at hidden more 0 r)) shrinks
      (λ t. mapped-shrinks (MoreTys t) (further_at hidden more 0) (λ s. let w = further-left s 0 in omega (arith, w)))

  operands-grows : (n : Name) (s : List ℕ) → Grows (operands_at hidden read n s) (operands_at hidden more n s)
  operands-grows n s =
      mapped-grows (TyOp n) (kept (λ ts. not (is_function names (TyOp n ts))) (arguments_at hidden read s))
      (kept (λ ts. not (is_function names (TyOp n ts))) (arguments_at hidden more s))
      (kept-grows (λ ts. not (is_function names (TyOp n ts))) (arguments_at hidden read s)
      (arguments_at hidden more s)
      (next-grows (read s) (more s) (λ t r. mapped (MoreTys t) (further_at hidden read 0 r))
      (λ t r. mapped (MoreTys t) (further_at hidden more 0 r)) (grows s)
      (λ t r. mapped-grows (MoreTys t) (further_at hidden read 0 r) (further_at hidden more 0 r) (further-grows r 0))
      (λ t. mapped-shrinks (MoreTys t) (further_at hidden more 0)
      (λ s. let w = further-left s 0 in omega (arith, w)))))

  operands-shrinks : (n : Name) → Shrinks (operands_at hidden more n)
  operands-shrinks n s = go (arguments_at hidden more s) (arguments-shrinks s) where
    go : (o : Reading (Tys Name)) → length (left o) ≤ length s
        → length (left (mapped (TyOp n) (kept (λ ts. not (is_function names (TyOp n ts))) o))) ≤ length s
    go (Got ts r) h = cases (not (is_function names (TyOp n ts))) where
      cases : (t : Bool) → length (left (mapped (TyOp n) (cond t (Got ts r) (Halted NoForm r)))) ≤ length s
      cases true = h
      cases false = h
    go (Halted k r) h = h

  behind-grows : (n : Name) (s : List ℕ) → Grows (behind_word_at hidden read n s) (behind_word_at hidden more n s)
  behind-grows n [] = refl
  behind-grows n (b ∷ s) = cond-grows (b == 45) _ _ _ _ (range-grows (TyOp n NoTys) (b ∷ s))
      (operands-grows n (b ∷ s))

  behind-shrinks : (n : Name) → Shrinks (behind_word_at hidden more n)
  behind-shrinks n [] = omega arith
  behind-shrinks n (b ∷ s) = go (b == 45) where
    go : (t : Bool)
        → length (left (cond t (range_at hidden more (TyOp n NoTys) (b ∷ s)) (operands_at hidden more n (b ∷ s))))
        ≤ length (b ∷ s)
    go true = range-shrinks (TyOp n NoTys) (b ∷ s)
    go false = operands-shrinks n (b ∷ s)

  space-grows : (f g : List ℕ → Reading (Ty Name)) (r : List ℕ) → ((q : List ℕ) → Grows (f q) (g q)) → Shrinks g
      → Grows (next (literal_at (codes " ") r) (λ _ q. f q)) (next (literal_at (codes " ") r) (λ _ q. g q))
  space-grows f g r h k = next-grows (literal_at (codes " ") r) (literal_at (codes " ") r) (λ _ q. f q) (λ _ q. g q)
      (plain-grows (literal_at (codes " ") r) (literal-plain (codes " ") r)) (λ _. h) (λ _. k)

  space-shrinks : (g : List ℕ → Reading (Ty Name)) → Shrinks g
      → Shrinks (λ r. next (literal_at (codes " ") r) (λ _ q. g q))
  space-shrinks g k = next-shrinks (literal_at (codes " ")) (λ _ q. g q) (literal-shrinks (codes " ")) (λ _. k)

  inside-grows : (s : List ℕ) → Grows (inside_at hidden read s) (inside_at hidden more s)
  inside-grows [] = refl
  inside-grows (b ∷ s) = cond-grows ((b == 39) || (b == 40)) _ _ _ _
      (next-grows (read (b ∷ s)) (more (b ∷ s))
      (λ a r. next (literal_at (codes " ") r) (λ _ q. range_at hidden read a q))
      (λ a r. next (literal_at (codes " ") r) (λ _ q. range_at hidden more a q)) (grows (b ∷ s))
      (λ a r. space-grows (range_at hidden read a) (range_at hidden more a) r (range-grows a) (range-shrinks a))
      (λ a. space-shrinks (range_at hidden more a) (range-shrinks a)))
      (next-grows (operator_at hidden (b ∷ s)) (operator_at hidden (b ∷ s))
      (λ n r. next (literal_at (codes " ") r) (λ _ q. behind_word_at hidden read n q))
      (λ n r. next (literal_at (codes " ") r) (λ _ q. behind_word_at hidden more n q))
      (plain-grows (operator_at hidden (b ∷ s)) (words (b ∷ s)))
      (λ n r. space-grows (behind_word_at hidden read n) (behind_word_at hidden more n) r (behind-grows n)
      (behind-shrinks n)) (λ n. space-shrinks (behind_word_at hidden more n) (behind-shrinks n)))

  pub closed-grows : (s : List ℕ) → Grows (closed_type_at hidden read s) (closed_type_at hidden more s)
  closed-grows s =
      next-grows (inside_at hidden read s) (inside_at hidden more s)
      (λ t r. mapped (λ _. t) (literal_at (codes ")") r)) (λ t r. mapped (λ _. t) (literal_at (codes ")") r))
      (inside-grows s)
      (λ t r. plain-grows (mapped (λ _. t) (literal_at (codes ")") r))
      (mapped-plain (λ _. t) (literal_at (codes ")") r) (literal-plain (codes ")") r)))
      (λ t. mapped-shrinks (λ _. t) (literal_at (codes ")")) (literal-shrinks (codes ")")))
