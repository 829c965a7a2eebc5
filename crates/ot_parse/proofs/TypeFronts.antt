-- The front of a type, and what is closed behind a type.
use Rattle.std.specs.Prelude.{◌≡◌, ◌<◌, ◌+◌, ◌-◌, ◌==◌, ◌||◌, ℕ, zero, suc, Bool, true}
use Rattle.std.specs.Prelude.{false, cond, length, List, [], ◌∷◌, ◌++◌, codes, Result, Ok, Err}
use Rattle.std.proofs.Common.{refl, sym, ◌∙◌, ap, subst, arith, length-append}
use Rattle.std.proofs.lemmas.Bool.{eqb-true}
use Rattle.ot_logic.specs.Names.{Name}
use Rattle.ot_logic.specs.Trees.{Ty, TyVar, TyOp, NoTys, Symbol}
use Rattle.ot_forms.specs.Reading.{NoForm, OneTooMany, Reading, Got, Halted, next, mapped, literal_at}
use Rattle.ot_forms.specs.Reading.{variable_at, operator_at, behind_word_at, closed_type_at, type_at}
use Rattle.ot_parse.specs.declared.halt.Halt.{Halt}
use Rattle.ot_parse.specs.declared.halt.Halt.TheVariants as halts
use Rattle.ot_parse.specs.declared.types.Open.{Open}
use Rattle.ot_parse.specs.declared.types.Front.{Front}
use Rattle.ot_parse.specs.declared.types.Front.TheVariants as fronts
use Rattle.ot_parse.specs.declared.types.Back.{Back}
use Rattle.ot_parse.specs.declared.types.Back.TheVariants as backs
use Rattle.ot_parse.specs.Gives.{IsHalt}
use Rattle.ot_logic.specs.PlainTrees.{type_of_tree}
use Rattle.ot_parse.specs.Frames.{Frame, frame_of, frames_of, closed}
use Rattle.ot_parse.specs.Frames.{word_first, after, resume, IsFrontOf, IsLeafOf, IsTypeFront}
use Rattle.ot_parse.specs.Frames.{IsInsideOf, IsBackOf, IsLeft, OpensType, ClosesType, IsOn}
use Rattle.ot_parse.proofs.Halts.{halt-same}
use Rattle.ot_parse.proofs.FrameLaws.{halts as halts-in, opens-word}

pub not-equal : (a b : ℕ) → (a ≡ b → ⊥) → (a == b) ≡ false
not-equal a b h = go (a == b) refl where
  go : (t : Bool) → (a == b) ≡ t → t ≡ false
  go true e = absurd (h (eqb-true a b e))
  go false e = refl

module _ (hidden : List (Symbol Name)) where
  -- ---- by the first byte
  quote : (m b : ℕ) (s : List ℕ) → b ≡ 39 → type_at hidden m (b ∷ s) ≡ mapped TyVar (variable_at s)
  quote zero b s e = subst (λ c. type_at hidden zero (c ∷ s) ≡ mapped TyVar (variable_at s)) (sym e) refl
  quote (suc m) b s e = subst (λ c. type_at hidden (suc m) (c ∷ s) ≡ mapped TyVar (variable_at s)) (sym e) refl

  word : (m b : ℕ) (s : List ℕ) → (b == 39) ≡ false → (b == 40) ≡ false → type_at hidden m (b ∷ s)
      ≡ mapped (λ n. TyOp n NoTys) (operator_at hidden (b ∷ s))
  word zero b s p q = λ i. cond (p i) (mapped TyVar (variable_at s))
      (cond (q i) (Halted OneTooMany (40 ∷ s)) (mapped (λ n. TyOp n NoTys) (operator_at hidden (b ∷ s))))
  word (suc m) b s p q =
      λ i. cond (p i) (mapped TyVar (variable_at s))
      (cond (q i) (closed_type_at hidden (type_at hidden m) s)
      (mapped (λ n. TyOp n NoTys) (operator_at hidden (b ∷ s))))

  pub empty-front : (m : ℕ) → type_at hidden m [] ≡ Halted NoForm []
  empty-front zero = refl
  empty-front (suc m) = refl

  pub nothing-front : (m : ℕ) (s : List ℕ) → length s ≡ 0 → type_at hidden m s ≡ Halted NoForm s
  nothing-front m [] h = empty-front m
  nothing-front m (b ∷ s) h = absurd (omega (arith, h))

  pub nothing-inside : (m : ℕ) (s : List ℕ) → length s ≡ 0 → closed_type_at hidden (type_at hidden m) s
      ≡ Halted NoForm s
  nothing-inside m [] h = refl
  nothing-inside m (b ∷ s) h = absurd (omega (arith, h))

  leaf : (m : ℕ) (s : List ℕ) (o : Reading (Ty Name)) (r : Result Front Halt) → type_at hidden m s ≡ o → IsLeafOf o r
      → IsFrontOf hidden m s r
  leaf m s o (Ok (fronts.Leaf t q)) e h = e ∙ h
  leaf m s o (Ok (fronts.Inside f q)) e h = absurd h
  leaf m s o (Err k) e h = halt-same k o (type_at hidden m s) e h

  pub quote-front : (m b : ℕ) (s : List ℕ) (r : Result Front Halt) → b ≡ 39
      → IsLeafOf (mapped TyVar (variable_at s)) r → IsFrontOf hidden m (b ∷ s) r
  quote-front m b s r e h = leaf m (b ∷ s) (mapped TyVar (variable_at s)) r (quote m b s e) h

  pub word-front : (m b : ℕ) (s : List ℕ) (r : Result Front Halt) → (b ≡ 39 → ⊥) → (b ≡ 40 → ⊥)
      → IsLeafOf (mapped (λ n. TyOp n NoTys) (operator_at hidden (b ∷ s))) r → IsFrontOf hidden m (b ∷ s) r
  word-front m b s r p q h = leaf m (b ∷ s) (mapped (λ n. TyOp n NoTys) (operator_at hidden (b ∷ s))) r
      (word m b s (not-equal b 39 p) (not-equal b 40 q)) h

  pub full-front : (m b : ℕ) (s : List ℕ) → m ≡ 0 → b ≡ 40 → type_at hidden m (b ∷ s) ≡ Halted OneTooMany (b ∷ s)
  full-front m b s e k = (λ i. type_at hidden (e i) (k i ∷ s)) ∙ ap (λ c. Halted OneTooMany (c ∷ s)) (sym k)

  open_at : (m : ℕ) (b : ℕ) (s : List ℕ) → b ≡ 40 → type_at hidden (suc m) (b ∷ s)
      ≡ closed_type_at hidden (type_at hidden m) s
  open_at m b s e = subst (λ c. type_at hidden (suc m) (c ∷ s) ≡ closed_type_at hidden (type_at hidden m) s)
      (sym e) refl

  pub inside-front : (m b : ℕ) (s : List ℕ) (r : Result Front Halt) → (m ≡ 0 → ⊥) → b ≡ 40
      → ((k : ℕ) → IsTypeFront hidden k s r) → IsFrontOf hidden m (b ∷ s) r
  inside-front zero b s r p e h = absurd (p refl)
  inside-front (suc m) b s (Ok (fronts.Leaf t q)) p e h = absurd (h 0)
  inside-front (suc m) b s (Ok (fronts.Inside f q)) p e h =
      let k : suc m - 1 ≡ m = omega arith in (
        omega arith,
        open_at m b s e ∙ h m
            ∙ (λ i. next (type_at hidden (sym k i) q.now) (after hidden (type_at hidden (sym k i)) (frame_of f))),
      )
  inside-front (suc m) b s (Err k) p e h = halt-same k (closed_type_at hidden (type_at hidden m) s)
      (type_at hidden (suc m) (b ∷ s)) (open_at m b s e) (h m)

  -- ---- behind a parenthesis
  pub word-inside : (m b : ℕ) (s : List ℕ) (r : Result Front Halt) → ((b == 39) || (b == 40)) ≡ false
      → IsInsideOf (closed (word_first hidden (type_at hidden m) (b ∷ s))) hidden m r → IsTypeFront hidden m (b ∷ s) r
  word-inside m b s (Ok (fronts.Leaf t q)) e h = absurd h
  word-inside m b s (Ok (fronts.Inside f q)) e h = opens-word hidden (type_at hidden m) b s e ∙ h
  word-inside m b s (Err k) e h = halt-same k (closed (word_first hidden (type_at hidden m) (b ∷ s)))
      (closed_type_at hidden (type_at hidden m) (b ∷ s)) (opens-word hidden (type_at hidden m) b s e) h

  -- behind a word and a space
  pub behind-inside : (m : ℕ) (s : List ℕ) (n : Name) (end rest : List ℕ) (r : Result Front Halt)
      → operator_at hidden s ≡ Got n end → literal_at (codes " ") end ≡ Got tt rest
      → IsInsideOf (closed (behind_word_at hidden (type_at hidden m) n rest)) hidden m r
      → IsInsideOf (closed (word_first hidden (type_at hidden m) s)) hidden m r
  behind-inside m s n end rest r d e = go r where
    same : closed (word_first hidden (type_at hidden m) s) ≡ closed (behind_word_at hidden (type_at hidden m) n rest)
    same = ap closed
        (ap (λ o. next o
        (λ n r. next (literal_at (codes " ") r) (λ _ q. behind_word_at hidden (type_at hidden m) n q))) d
        ∙ ap (λ o. next o (λ _ q. behind_word_at hidden (type_at hidden m) n q)) e)

    go : (r : Result Front Halt) → IsInsideOf (closed (behind_word_at hidden (type_at hidden m) n rest)) hidden m r
        → IsInsideOf (closed (word_first hidden (type_at hidden m) s)) hidden m r
    go (Ok (fronts.Leaf t q)) h = absurd h
    go (Ok (fronts.Inside f q)) h = same ∙ h
    go (Err k) h = halt-same k (closed (behind_word_at hidden (type_at hidden m) n rest))
        (closed (word_first hidden (type_at hidden m) s)) same h

  -- ---- what is closed
  pub left-step : (fs gs : List Frame) (o : Reading (Ty Name)) (g : Frame) (t u : Ty Name) (s r : List ℕ)
      → IsLeft hidden fs (g ∷ gs) o (Got t s)
      → ((m : ℕ) → after hidden (type_at hidden m) g t s ≡ Got u r) → IsLeft hidden fs gs o (Got u r)
  left-step fs gs o g t u s r h e = record {
    popped = suc h.popped;
    left = (let k = h.left in omega (arith, k));
    same = λ m. let k : suc (h.popped + m) ≡ suc h.popped + m = omega arith in
        h.same m ∙ ap (resume hidden (suc (h.popped + m)) gs) (e (h.popped + m))
        ∙ ap (λ j. resume hidden j gs (Got u r)) k;
  }

  pub left-further : (fs gs : List Frame) (o : Reading (Ty Name)) (g f : Frame) (t : Ty Name) (s r : List ℕ)
      → IsLeft hidden fs (g ∷ gs) o (Got t s)
      → ((m : ℕ) → after hidden (type_at hidden m) g t s
      ≡ next (type_at hidden m r) (after hidden (type_at hidden m) f)) → OpensType hidden fs gs o f r
  left-further fs gs o g f t s r h e = record {
    popped = h.popped;
    left = h.left;
    same = λ m. h.same m ∙ ap (resume hidden (suc (h.popped + m)) gs) (e (h.popped + m));
  }

  pub left-halt : (fs gs : List Frame) (o : Reading (Ty Name)) (g : Frame) (t : Ty Name) (s : List ℕ) (k : Halt)
      → IsLeft hidden fs (g ∷ gs) o (Got t s)
      → ((m : ℕ) → IsHalt k (after hidden (type_at hidden m) g t s)) → (m : ℕ) → IsHalt k (resume hidden m fs o)
  left-halt fs gs o g t s (halts.Syntax r) h e m = h.same m ∙ ap (resume hidden (suc (h.popped + m)) gs)
      (e (h.popped + m)) ∙ halts-in hidden (suc (h.popped + m)) gs NoForm r.now
  left-halt fs gs o g t s (halts.TooManyOpen r) h e m = h.same m ∙ ap (resume hidden (suc (h.popped + m)) gs)
      (e (h.popped + m)) ∙ halts-in hidden (suc (h.popped + m)) gs OneTooMany r.now
  left-halt fs gs o g t s (halts.Memory memory) h e m = tt

  pub frames-push : (fs : List Open) (f : Open) → frames_of (fs ++ f ∷ []) ≡ frame_of f ∷ frames_of fs
  frames-push [] f = refl
  frames-push (g ∷ fs) f = ap (λ z. z ++ frame_of g ∷ []) (frames-push fs f)

  -- what is open after one is popped
  pub popped-left : (fs : List Frame) (xs ys : List Open) (g : Open) (o p : Reading (Ty Name)) → xs ≡ ys ++ g ∷ []
      → IsLeft hidden fs (frames_of xs) o p → IsLeft hidden fs (frame_of g ∷ frames_of ys) o p
  popped-left fs xs ys g o p e h = subst (λ gs. IsLeft hidden fs gs o p) (ap frames_of e ∙ frames-push ys g) h

  -- ---- the loop
  count : (fs : List Open) → length (frames_of fs) ≡ length fs
  count [] = refl
  count (f ∷ fs) = let e = count fs in let a : length (frames_of fs ++ frame_of f ∷ []) ≡ length (frames_of fs) + 1 =
      length-append (frames_of fs) (frame_of f ∷ []) in omega (arith, e, a)

  pub on-inside : (room : ℕ) (text : List ℕ) (fs gs : List Open) (f : Open) (rest after_it : List ℕ)
      → IsOn hidden room text fs rest → gs ≡ fs ++ f ∷ [] → 0 < room - length fs
      → type_at hidden (room - length fs) rest ≡ next (type_at hidden (room - length fs - 1) after_it)
      (after hidden (type_at hidden (room - length fs - 1)) (frame_of f)) → IsOn hidden room text gs after_it
  on-inside room text fs gs f rest q h e p w =
      let a : length gs ≡ suc (length fs) = ap length e ∙ length-append fs (f ∷ []) ∙ omega arith in
      let k : room - length gs ≡ room - length fs - 1 = omega (arith, a) in
      let j : suc (room - length fs - 1) ≡ room - length fs = omega (arith, p) in
      record {
        within = omega (arith, a, p);
        same = (λ i. resume hidden (k i) ((ap frames_of e ∙ frames-push fs f) i) (type_at hidden (k i) q))
            ∙ (λ i. resume hidden (j i) (frames_of fs)
            (next (type_at hidden (room - length fs - 1) q)
            (after hidden (type_at hidden (room - length fs - 1)) (frame_of f))))
            ∙ ap (resume hidden (room - length fs) (frames_of fs)) (sym w) ∙ h.same;
      }

  pub on-further : (room : ℕ) (text : List ℕ) (fs gs hs : List Open) (f : Open) (t : Ty Name) (rest s r : List ℕ)
      → IsOn hidden room text fs rest → type_at hidden (room - length fs) rest ≡ Got t s
      → OpensType hidden (frames_of fs) (frames_of gs) (Got t s) (frame_of f) r → hs ≡ gs ++ f ∷ []
      → IsOn hidden room text hs r
  on-further room text fs gs hs f t rest s r h w g e =
      let a : length hs ≡ suc (length gs) = ap length e ∙ length-append gs (f ∷ []) ∙ omega arith in
      let b = count fs in let c = count gs in let d = g.left in let v = h.within in
      let k : room - length hs ≡ g.popped + (room - length fs) = omega (arith, a, b, c, d, v) in
      record {
        within = omega (arith, a, b, c, d, v);
        same = (λ i. resume hidden (k i) ((ap frames_of e ∙ frames-push gs f) i) (type_at hidden (k i) r))
            ∙ sym (g.same (room - length fs)) ∙ ap (resume hidden (room - length fs) (frames_of fs)) (sym w) ∙ h.same;
      }

  pub on-whole : (room : ℕ) (text : List ℕ) (fs : List Open) (t u : Ty Name) (rest s r : List ℕ)
      → IsOn hidden room text fs rest → type_at hidden (room - length fs) rest ≡ Got t s
      → ((m : ℕ) → resume hidden m (frames_of fs) (Got t s) ≡ Got u r) → type_at hidden room text ≡ Got u r
  on-whole room text fs t u rest s r h w e = sym h.same ∙ ap (resume hidden (room - length fs) (frames_of fs)) w
      ∙ e (room - length fs)

  pub on-halt : (room : ℕ) (text : List ℕ) (fs : List Open) (rest : List ℕ) (k : Halt) → IsOn hidden room text fs rest
      → IsHalt k (type_at hidden (room - length fs) rest) → IsHalt k (type_at hidden room text)
  on-halt room text fs rest (halts.Syntax r) h e = sym h.same ∙ ap (resume hidden (room - length fs) (frames_of fs)) e
      ∙ halts-in hidden (room - length fs) (frames_of fs) NoForm r.now
  on-halt room text fs rest (halts.TooManyOpen r) h e = sym h.same
      ∙ ap (resume hidden (room - length fs) (frames_of fs)) e
      ∙ halts-in hidden (room - length fs) (frames_of fs) OneTooMany r.now
  on-halt room text fs rest (halts.Memory memory) h e = tt

  pub on-closed-halt : (room : ℕ) (text : List ℕ) (fs : List Open) (t : Ty Name) (rest s : List ℕ) (k : Halt)
      → IsOn hidden room text fs rest → type_at hidden (room - length fs) rest ≡ Got t s
      → ((m : ℕ) → IsHalt k (resume hidden m (frames_of fs) (Got t s))) → IsHalt k (type_at hidden room text)
  on-closed-halt room text fs t rest s k h w e =
      halt-same k (resume hidden (room - length fs) (frames_of fs) (Got t s)) (type_at hidden room text)
      (sym h.same ∙ ap (resume hidden (room - length fs) (frames_of fs)) w) (e (room - length fs))

  -- ---- what comes of a type that has ended inside the innermost that is open
  abbrev pub IsClosedTo : List Frame → Reading (Ty Name) → List Open → Back → Type 0
  IsClosedTo fs o ys (backs.Whole u q) = IsLeft hidden fs (frames_of ys) o (Got (type_of_tree u) q.now)
  IsClosedTo fs o ys (backs.Further f q) = OpensType hidden fs (frames_of ys) o (frame_of f) q.now

  pub closing-step : (fs : List Frame) (o : Reading (Ty Name)) (xs ys : List Open) (g : Open) (t : Ty Name)
      (s : List ℕ) (v : Back) → xs ≡ ys ++ g ∷ [] → IsLeft hidden fs (frames_of xs) o (Got t s)
      → ((m : ℕ) → IsBackOf hidden m (frame_of g) t s (Ok v)) → IsClosedTo fs o ys v
  closing-step fs o xs ys g t s (backs.Whole u q) e h b =
      left-step fs (frames_of ys) o (frame_of g) t (type_of_tree u) s q.now (popped-left fs xs ys g o (Got t s) e h) b
  closing-step fs o xs ys g t s (backs.Further f q) e h b =
      left-further fs (frames_of ys) o (frame_of g) (frame_of f) t s q.now (popped-left fs xs ys g o (Got t s) e h) b

  pub closing-halts : (fs : List Frame) (o : Reading (Ty Name)) (xs ys : List Open) (g : Open) (t : Ty Name)
      (s : List ℕ) (k : Halt) → xs ≡ ys ++ g ∷ [] → IsLeft hidden fs (frames_of xs) o (Got t s)
      → ((m : ℕ) → IsBackOf hidden m (frame_of g) t s (Err k)) → (m : ℕ) → IsHalt k (resume hidden m fs o)
  closing-halts fs o xs ys g t s k e h b =
      left-halt fs (frames_of ys) o (frame_of g) t s k (popped-left fs xs ys g o (Got t s) e h) b

  -- ---- what comes of a front, and of a type that has ended
  abbrev pub FrontGoes : ℕ → List ℕ → List Open → List ℕ → Result Front Halt → Type 0
  FrontGoes room text fs rest (Ok (fronts.Leaf t q)) = type_at hidden (room - length fs) rest
      ≡ Got (type_of_tree t) q.now
  FrontGoes room text fs rest (Ok (fronts.Inside f q)) = (gs : List Open) → gs ≡ fs ++ f ∷ []
      → IsOn hidden room text gs q.now
  FrontGoes room text fs rest (Err k) = IsHalt k (type_at hidden room text)

  pub on-front : (room : ℕ) (text : List ℕ) (fs : List Open) (m : ℕ) (rest : List ℕ) (r : Result Front Halt)
      → IsOn hidden room text fs rest → m ≡ room - length fs → IsFrontOf hidden m rest r
      → FrontGoes room text fs rest r
  on-front room text fs m rest r h d w = go r (subst (λ j. IsFrontOf hidden j rest r) d w) where
    go : (r : Result Front Halt) → IsFrontOf hidden (room - length fs) rest r → FrontGoes room text fs rest r
    go (Ok (fronts.Leaf t q)) w = w
    go (Ok (fronts.Inside f q)) w = λ gs k. on-inside room text fs gs f rest q.now h k w.0 w.1
    go (Err k) w = on-halt room text fs rest k h w

  abbrev pub EndGoes : ℕ → List ℕ → List Open → Result Back Halt → Type 0
  EndGoes room text gs (Ok (backs.Whole u q)) = type_at hidden room text ≡ Got (type_of_tree u) q.now
  EndGoes room text gs (Ok (backs.Further f q)) = (hs : List Open) → hs ≡ gs ++ f ∷ []
      → IsOn hidden room text hs q.now
  EndGoes room text gs (Err k) = IsHalt k (type_at hidden room text)

  pub on-end : (room : ℕ) (text : List ℕ) (fs gs : List Open) (t : Ty Name) (rest s : List ℕ) (r : Result Back Halt)
      → IsOn hidden room text fs rest → type_at hidden (room - length fs) rest ≡ Got t s
      → ClosesType hidden (frames_of fs) (frames_of gs) (Got t s) r → EndGoes room text gs r
  on-end room text fs gs t rest s (Ok (backs.Whole u q)) h w e =
      on-whole room text fs t (type_of_tree u) rest s q.now h w e
  on-end room text fs gs t rest s (Ok (backs.Further f q)) h w e =
      λ hs k. on-further room text fs gs hs f t rest s q.now h w e k
  on-end room text fs gs t rest s (Err k) h w e = on-closed-halt room text fs t rest s k h w e
