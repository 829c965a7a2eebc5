-- What is closed behind a term, and the loop over the terms of a text.
use Rattle.std.specs.Prelude.{◌≡◌, ◌<◌, ◌≤◌, ◌+◌, ◌-◌, ℕ, suc, length, List}
use Rattle.std.specs.Prelude.{[], ◌∷◌, ◌++◌, map, Result, Ok, Err, IsErrAnd}
use Rattle.std.proofs.Common.{refl, sym, ◌∙◌, ap, subst, arith, length-append}
use Rattle.ot_logic.specs.Names.{Name}
use Rattle.ot_logic.specs.Trees.{Symbol}
use Rattle.ot_logic.specs.RanOut.{ran_out}
use Rattle.ot_forms.specs.Words.{IsNotation}
use Rattle.ot_forms.specs.Forms.{Written}
use Rattle.ot_forms.specs.Meaning.{Around}
use Rattle.ot_forms.specs.Refusals.{open_limit}
use Rattle.ot_forms.specs.Reading.{Reason, NoForm, OneTooMany, Reading, Got, Halted, next, mapped}
use Rattle.ot_parse.specs.declared.halt.Halt.{Halt}
use Rattle.ot_parse.specs.declared.halt.Halt.TheVariants as halts
use Rattle.ot_parse.specs.declared.terms.Open.{Open}
use Rattle.ot_parse.specs.declared.terms.Next.{Next}
use Rattle.ot_parse.specs.declared.terms.Front.{Front}
use Rattle.ot_parse.specs.declared.terms.Front.TheVariants as fronts
use Rattle.ot_parse.specs.declared.terms.Back.{Back}
use Rattle.ot_parse.specs.declared.terms.Back.TheVariants as backs
use Rattle.ot_parse.specs.declared.values.Meant.{Meant as Part}
use Rattle.ot_parse.specs.Gives.{IsHalt}
use Rattle.ot_parse.specs.Meant.{Meaning, place_at, raw}
use Rattle.ot_parse.specs.Values.{IsMeant, meant_of}
use Rattle.ot_parse.specs.TermFrames.{TermFrame, inner_of, around, reads, begun, after, resume}
use Rattle.ot_parse.specs.TermCode.{frame_of, reversed, frames_of, IsKept, AreKept, GoesIn, HasHead}
use Rattle.ot_parse.specs.TermCode.{IsFront, IsBack, IsLeft, OpensTerm, ClosesTerm, IsOn, HasEnded, IsNext}
use Rattle.ot_parse.proofs.Halts.{halt-same}
use Rattle.ot_parse.proofs.Lengths.{term-length, got-rest}

pub reversed-push : {A : Type 0} (xs : List A) (x : A) → reversed (xs ++ x ∷ []) ≡ x ∷ reversed xs
reversed-push [] x = refl
reversed-push (y ∷ xs) x = ap (λ z. z ++ y ∷ []) (reversed-push xs x)

module _ (n : ℕ) (hidden : List (Symbol Name)) where
  halts-in : (m : ℕ) (fs : List TermFrame) (k : Reason) (r : List ℕ) → resume n hidden m fs (Halted k r) ≡ Halted k r
  halts-in m [] k r = refl
  halts-in m (f ∷ fs) k r = halts-in (suc m) fs k r

  pub halted : (m : ℕ) (fs : List TermFrame) (h : Halt) (o : Reading Meaning) → IsHalt h o
      → IsHalt h (resume n hidden m fs o)
  halted m fs (halts.Syntax r) o e = ap (resume n hidden m fs) e ∙ halts-in m fs NoForm r.now
  halted m fs (halts.TooManyOpen r) o e = ap (resume n hidden m fs) e ∙ halts-in m fs OneTooMany r.now
  halted m fs (halts.Memory memory) o e = tt

  -- ---- what is closed
  pub left-start : (os : List Open) (o : Reading Meaning) → IsLeft n hidden os os o o
  left-start os o = record {
    popped = 0;
    left = omega arith;
    same = λ m. let k : m ≡ 0 + m = omega arith in
        ap (λ j. resume n hidden j (map frame_of os) o) k;
  }

  left-step : (os ps : List Open) (o : Reading Meaning) (g : Open) (x y : Meaning) (s r : List ℕ)
      → IsLeft n hidden os (g ∷ ps) o (Got x s)
      → ((m : ℕ) → after n hidden m (around (map frame_of ps)) (frame_of g) x s ≡ Got y r)
      → IsLeft n hidden os ps o (Got y r)
  left-step os ps o g x y s r h e = record {
    popped = suc h.popped;
    left = (let k = h.left in omega (arith, k));
    same = λ m. let k : suc (h.popped + m) ≡ suc h.popped + m = omega arith in
        h.same m ∙ ap (resume n hidden (suc (h.popped + m)) (map frame_of ps)) (e (h.popped + m))
        ∙ ap (λ j. resume n hidden j (map frame_of ps) (Got y r)) k;
  }

  -- what is open, the innermost last: so much of it stays open around a term that has ended
  pub record IsClosing (os : List Open) (o : Reading Meaning) (fs : List Open) (x : Part) (r : List ℕ) : Type 0 where
    pub left : IsLeft n hidden os (reversed fs) o (Got (meant_of x) r)
    pub kept : AreKept (reversed fs)
    pub meant : IsMeant (around (frames_of fs)) x
    pub within : length r ≤ n

  pub closing-start : (fs : List Open) (x : Part) (r : List ℕ) → AreKept (reversed fs)
      → IsMeant (around (frames_of fs)) x → length r ≤ n → IsClosing (reversed fs) (Got (meant_of x) r) fs x r
  closing-start fs x r h g w =
      record { left = left-start (reversed fs) (Got (meant_of x) r); kept = h; meant = g; within = w }

  -- a term has ended inside these, or a further one begins
  abbrev pub IsClosedTo : List Open → Reading Meaning → List Open → Back → Type 0
  IsClosedTo os o fs (backs.Whole y q) = IsClosing os o fs y q.now
  IsClosedTo os o fs (backs.Further f q) = OpensTerm n hidden os (reversed fs) o f q.now

  -- what comes of the term inside the innermost that is open
  abbrev pub Comes : Open → Part → List ℕ → Result Back Halt → Type 0
  Comes g x s r = (m : ℕ) (l : Around) → IsKept l g → IsMeant (inner_of (frame_of g) l) x → length s ≤ n
      → IsBack n hidden m l (after n hidden m l (frame_of g) (meant_of x) s) r

  module _ (os : List Open) (o : Reading Meaning) (xs ys : List Open) (g : Open) (x : Part) (s : List ℕ)
      (e : xs ≡ ys ++ g ∷ []) (h : IsClosing os o xs x s) where
    turned : reversed xs ≡ g ∷ reversed ys
    turned = ap reversed e ∙ reversed-push ys g

    abbrev outer : Around
    outer = around (frames_of ys)

    popped-left : IsLeft n hidden os (g ∷ reversed ys) o (Got (meant_of x) s)
    popped-left = subst (λ gs. IsLeft n hidden os gs o (Got (meant_of x) s)) turned h.left

    popped-kept : AreKept (g ∷ reversed ys)
    popped-kept = subst AreKept turned h.kept

    popped-meant : IsMeant (around (map frame_of (g ∷ reversed ys))) x
    popped-meant = subst (λ gs. IsMeant (around (map frame_of gs)) x) turned h.meant

    back : (r : Result Back Halt) → Comes g x s r → (m : ℕ) → IsBack n hidden m (around (frames_of ys))
        (after n hidden m (around (frames_of ys)) (frame_of g) (meant_of x) s) r
    back r b m = b m (around (frames_of ys)) popped-kept.0 popped-meant h.within

    pub closing-step : (v : Back) → Comes g x s (Ok v) → IsClosedTo os o ys v
    closing-step (backs.Whole y q) b = record {
      left = left-step os (reversed ys) o g (meant_of x) (meant_of y) s q.now popped-left
          (λ m. (back (Ok (backs.Whole y q)) b m).same);
      kept = popped-kept.1;
      meant = (back (Ok (backs.Whole y q)) b 0).meant;
      within = (back (Ok (backs.Whole y q)) b 0).within;
    }
    closing-step (backs.Further f q) b = record {
      popped = popped-left.popped;
      left = popped-left.left;
      within = (back (Ok (backs.Further f q)) b 0).within;
      kept = (back (Ok (backs.Further f q)) b 0).kept;
      still = popped-kept.1;
      same = λ m. popped-left.same m ∙ ap (resume n hidden (suc (popped-left.popped + m)) (frames_of ys))
          ((back (Ok (backs.Further f q)) b (popped-left.popped + m)).same);
    }

    pub closing-halts : (k : Halt) → Comes g x s (Err k) → (m : ℕ) → IsHalt k (resume n hidden m (map frame_of os) o)
    closing-halts k b m =
        halt-same k (resume n hidden (popped-left.popped + m) (map frame_of (g ∷ reversed ys)) (Got (meant_of x) s))
        (resume n hidden m (map frame_of os) o) (popped-left.same m)
        (halted (suc (popped-left.popped + m)) (frames_of ys) k
        (after n hidden (popped-left.popped + m) outer (frame_of g) (meant_of x) s)
        (back (Err k) b (popped-left.popped + m)))

  -- nothing is open any more
  pub closing-end : (os : List Open) (o : Reading Meaning) (fs : List Open) (x : Part) (s : List ℕ) → length fs ≡ 0
      → IsClosing os o fs x s → IsMeant [] x × ((m : ℕ) → resume n hidden m (map frame_of os) o ≡ Got (meant_of x) s)
  closing-end os o [] x s e h = (h.meant, h.left.same)
  closing-end os o (f ∷ fs) x s e h = absurd (omega (arith, e))

  -- ---- the loop
  count : {A : Type 0} (xs : List A) → length (reversed xs) ≡ length xs
  count [] = refl
  count (x ∷ xs) = let e = count xs in let a : length (reversed xs ++ x ∷ []) ≡ length (reversed xs) + 1 =
      length-append (reversed xs) (x ∷ []) in omega (arith, e, a)

  on-inside : (start : List ℕ) (fs gs : List Open) (f : Open) (rest r : List ℕ) → IsOn n hidden start fs rest
      → gs ≡ fs ++ f ∷ [] → 0 < open_limit - length fs
      → GoesIn n hidden (open_limit - length fs - 1) (around (frames_of fs))
      (begun n hidden (open_limit - length fs) (around (frames_of fs)) rest) f r → IsOn n hidden start gs r
  on-inside start fs gs f rest r h e p w =
      let a : length gs ≡ suc (length fs) = ap length e ∙ length-append fs (f ∷ []) ∙ omega arith in
      let k : open_limit - length gs ≡ open_limit - length fs - 1 = omega (arith, a) in
      let j : suc (open_limit - length fs - 1) ≡ open_limit - length fs = omega (arith, p) in
      let g : reversed gs ≡ f ∷ reversed fs = ap reversed e ∙ reversed-push fs f in
      record {
        within = omega (arith, a, p);
        short = w.within;
        kept = subst AreKept (sym g) (w.kept, h.kept);
        same = (λ i. resume n hidden (k i) (map frame_of (g i))
            (begun n hidden (k i) (around (map frame_of (g i))) r))
            ∙ (λ i. resume n hidden (j i) (frames_of fs)
            (next (begun n hidden (open_limit - length fs - 1) (inner_of (frame_of f) (around (frames_of fs))) r)
            (after n hidden (open_limit - length fs - 1) (around (frames_of fs)) (frame_of f))))
            ∙ ap (resume n hidden (open_limit - length fs) (frames_of fs)) (sym w.same) ∙ h.same;
      }

  -- no more bytes are left than there were
  pub begun-shorter : (nt : IsNotation hidden) (m : ℕ) (l : Around) (s r : List ℕ) (x : Meaning)
      → begun n hidden m l s ≡ Got x r → length r ≤ length s
  begun-shorter nt m l s r x e = go (reads n hidden m s) refl e where
    go : (o : Reading Written) → reads n hidden m s ≡ o → mapped (raw hidden l (place_at n s)) o ≡ Got x r
        → length r ≤ length s
    go (Got a q) d k = let c = term-length hidden nt m s a q d in let b = ap length (got-rest k) in
        omega (arith, b, c)
    go (Halted j q) d k = cc

  on-leaf : (nt : IsNotation hidden) (start : List ℕ) (fs : List Open) (x : Part) (rest r : List ℕ)
      → IsOn n hidden start fs rest → IsMeant (around (frames_of fs)) x
      → begun n hidden (open_limit - length fs) (around (frames_of fs)) rest ≡ Got (meant_of x) r
      → HasEnded n hidden start fs x r
  on-leaf nt start fs x rest r h m e = record {
    within = h.within;
    short = (let a = begun-shorter nt (open_limit - length fs) (around (frames_of fs)) rest r (meant_of x) e in
        let b = h.short in omega (arith, a, b));
    kept = h.kept;
    meant = m;
    same = ap (resume n hidden (open_limit - length fs) (frames_of fs)) (sym e) ∙ h.same;
  }

  on-head : (start : List ℕ) (fs gs : List Open) (f : Open) (x : Part) (rest r : List ℕ) → IsOn n hidden start fs rest
      → gs ≡ fs ++ f ∷ [] → 0 < open_limit - length fs
      → HasHead n hidden (open_limit - length fs - 1) (around (frames_of fs))
      (begun n hidden (open_limit - length fs) (around (frames_of fs)) rest) f x r
      → HasEnded n hidden start gs x r
  on-head start fs gs f x rest r h e p w =
      let a : length gs ≡ suc (length fs) = ap length e ∙ length-append fs (f ∷ []) ∙ omega arith in
      let k : open_limit - length gs ≡ open_limit - length fs - 1 = omega (arith, a) in
      let j : suc (open_limit - length fs - 1) ≡ open_limit - length fs = omega (arith, p) in
      let g : reversed gs ≡ f ∷ reversed fs = ap reversed e ∙ reversed-push fs f in
      record {
        within = omega (arith, a, p);
        short = w.within;
        kept = subst AreKept (sym g) (w.kept, h.kept);
        meant = subst (λ os. IsMeant (around (map frame_of os)) x) (sym g) w.meant;
        same = (λ i. resume n hidden (k i) (map frame_of (g i)) (Got (meant_of x) r))
            ∙ (λ i. resume n hidden (j i) (frames_of fs)
            (after n hidden (open_limit - length fs - 1) (around (frames_of fs)) (frame_of f) (meant_of x) r))
            ∙ ap (resume n hidden (open_limit - length fs) (frames_of fs)) (sym w.same) ∙ h.same;
      }

  on-further : (start : List ℕ) (fs gs hs : List Open) (f : Open) (x : Part) (s r : List ℕ)
      → HasEnded n hidden start fs x s
      → OpensTerm n hidden (reversed fs) (reversed gs) (Got (meant_of x) s) f r → hs ≡ gs ++ f ∷ []
      → IsOn n hidden start hs r
  on-further start fs gs hs f x s r h w e =
      let a : length hs ≡ suc (length gs) = ap length e ∙ length-append gs (f ∷ []) ∙ omega arith in
      let b = count fs in let d = count gs in let v = w.left in let u = h.within in
      let k : open_limit - length hs ≡ w.popped + (open_limit - length fs) = omega (arith, a, b, d, v, u) in
      let g : reversed hs ≡ f ∷ reversed gs = ap reversed e ∙ reversed-push gs f in
      record {
        within = omega (arith, a, b, d, v, u);
        short = w.within;
        kept = subst AreKept (sym g) (w.kept, w.still);
        same = (λ i. resume n hidden (k i) (map frame_of (g i))
            (begun n hidden (k i) (around (map frame_of (g i))) r))
            ∙ sym (w.same (open_limit - length fs)) ∙ h.same;
      }

  on-whole : (start : List ℕ) (fs : List Open) (x y : Part) (s r : List ℕ) → HasEnded n hidden start fs x s
      → ((m : ℕ) → resume n hidden m (frames_of fs) (Got (meant_of x) s) ≡ Got (meant_of y) r)
      → begun n hidden open_limit [] start ≡ Got (meant_of y) r
  on-whole start fs x y s r h e = sym h.same ∙ e (open_limit - length fs)

  on-halt : (start : List ℕ) (fs : List Open) (rest : List ℕ) (k : Halt) → IsOn n hidden start fs rest
      → IsHalt k (begun n hidden (open_limit - length fs) (around (frames_of fs)) rest)
      → IsHalt k (begun n hidden open_limit [] start)
  on-halt start fs rest k h e =
      halt-same k (resume n hidden (open_limit - length fs) (frames_of fs)
      (begun n hidden (open_limit - length fs) (around (frames_of fs)) rest)) (begun n hidden open_limit [] start)
      (sym h.same)
      (halted (open_limit - length fs) (frames_of fs) k
      (begun n hidden (open_limit - length fs) (around (frames_of fs)) rest) e)

  on-closed-halt : (start : List ℕ) (fs : List Open) (x : Part) (s : List ℕ) (k : Halt)
      → HasEnded n hidden start fs x s → ((m : ℕ) → IsHalt k (resume n hidden m (frames_of fs) (Got (meant_of x) s)))
      → IsHalt k (begun n hidden open_limit [] start)
  on-closed-halt start fs x s k h e =
      halt-same k (resume n hidden (open_limit - length fs) (frames_of fs) (Got (meant_of x) s))
      (begun n hidden open_limit [] start) (sym h.same) (e (open_limit - length fs))

  pub on-start : (start : List ℕ) → length start ≤ n → IsOn n hidden start [] start
  on-start start h =
      record {
        within = omega arith;
        short = h;
        kept = tt;
        same = (let k : open_limit - 0 ≡ open_limit = omega arith in ap (λ j. begun n hidden j [] start) k);
      }

  -- memory ran out
  pub no-memory : (start : List ℕ) (fs : List Open) (r : Result Next Halt) → IsErrAnd r (λ x. x ≡ halts.Memory ran_out)
      → IsNext n hidden start fs r
  no-memory start fs (Ok x) h = absurd h
  no-memory start fs (Err k) h = subst (λ z. IsHalt z (begun n hidden open_limit [] start)) (sym h) tt

  -- ---- what comes of a front
  abbrev pub FrontGoes : List ℕ → List Open → Result Front Halt → Type 0
  FrontGoes start fs (Ok (fronts.Leaf x q)) = HasEnded n hidden start fs x q.now
  FrontGoes start fs (Ok (fronts.Inside f q)) = (gs : List Open) → gs ≡ fs ++ f ∷ [] → IsOn n hidden start gs q.now
  FrontGoes start fs (Ok (fronts.Head f x q)) = (gs : List Open) → gs ≡ fs ++ f ∷ []
      → HasEnded n hidden start gs x q.now
  FrontGoes start fs (Err k) = IsHalt k (begun n hidden open_limit [] start)

  pub on-front : (nt : IsNotation hidden) (start : List ℕ) (fs os : List Open) (m : ℕ) (rest : List ℕ)
      (r : Result Front Halt) → IsOn n hidden start fs rest → os ≡ fs → m ≡ open_limit - length fs
      → (length rest ≤ n → IsFront n hidden m (around (frames_of os)) rest r) → FrontGoes start fs r
  on-front nt start fs os m rest r h e d w =
      go r (subst (λ j. IsFront n hidden j (around (frames_of fs)) rest r) d
      (subst (λ gs. IsFront n hidden m (around (frames_of gs)) rest r) e (w h.short))) where
        go : (r : Result Front Halt) → IsFront n hidden (open_limit - length fs) (around (frames_of fs)) rest r
            → FrontGoes start fs r
        go (Ok (fronts.Leaf x q)) w = on-leaf nt start fs x rest q.now h w.0 w.1
        go (Ok (fronts.Inside f q)) w = λ gs k. on-inside start fs gs f rest q.now h k w.0 w.1
        go (Ok (fronts.Head f x q)) w = λ gs k. on-head start fs gs f x rest q.now h k w.0 w.1
        go (Err k) w = on-halt start fs rest k h w

  -- what comes of a term that has ended
  abbrev pub EndGoes : List ℕ → List Open → Result Back Halt → Type 0
  EndGoes start gs (Ok (backs.Whole y q)) =
      IsMeant [] y × (begun n hidden open_limit [] start ≡ Got (meant_of y) q.now)
  EndGoes start gs (Ok (backs.Further f q)) = (hs : List Open) → hs ≡ gs ++ f ∷ [] → IsOn n hidden start hs q.now
  EndGoes start gs (Err k) = IsHalt k (begun n hidden open_limit [] start)

  pub on-end : (start : List ℕ) (fs gs : List Open) (x : Part) (s : List ℕ) (r : Result Back Halt)
      → HasEnded n hidden start fs x s
      → (AreKept (reversed fs) → IsMeant (around (frames_of fs)) x → length s ≤ n
      → ClosesTerm n hidden (reversed fs) (reversed gs) (Got (meant_of x) s) r) → EndGoes start gs r
  on-end start fs gs x s r h w = go r (w h.kept h.meant h.short) where
    go : (r : Result Back Halt) → ClosesTerm n hidden (reversed fs) (reversed gs) (Got (meant_of x) s) r
        → EndGoes start gs r
    go (Ok (backs.Whole y q)) w = (w.0, on-whole start fs x y s q.now h w.1)
    go (Ok (backs.Further f q)) w = λ hs k. on-further start fs gs hs f x s q.now h w k
    go (Err k) w = on-closed-halt start fs x s k h w
