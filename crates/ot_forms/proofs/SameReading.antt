-- What a line is read as depends on the set of the hidden symbols alone.
use Rattle.std.specs.Prelude.{◌≡◌, ◌+◌, ℕ, suc, Bool, true, false, List, [], ◌∷◌}
use Rattle.std.specs.Prelude.{◌++◌, map, length, take, Option, Some, None, Result, Ok}
use Rattle.std.proofs.Common.{refl, sym, ◌∙◌, ap, inl, inr}
use Rattle.ot_logic.specs.Answers.{◌>>=◌, some_or}
use Rattle.ot_logic.specs.Names.{Name}
use Rattle.ot_logic.specs.Naming.{names}
use Rattle.ot_logic.specs.Hol.{once_each}
use Rattle.ot_logic.specs.Trees.{Tm, Con, App, Abs, Sequent, Symbol, ConSymbol}
use Rattle.ot_text.specs.Texts as printed
use Rattle.ot_forms.specs.declared.fault.TextFault.{TextFault}
use Rattle.ot_forms.specs.declared.fault.TextFault.TheVariants.{Syntax, TooManyOpen, Unbound}
use Rattle.ot_forms.specs.declared.fault.TextFault.TheVariants.{UnknownOperator, BadTypes, TooDeep}
use Rattle.ot_forms.specs.Words.{base, is_hidden, IsNotation}
use Rattle.ot_forms.specs.Forms.{Written, Writtens, Place, FreeAs, ConAs, Equal, Infix, Applied, Binding}
use Rattle.ot_forms.specs.Forms.{NoMore, More, WrittenSequent, type_text, term_text, hyps_text, line_text}
use Rattle.ot_forms.specs.Meaning.{Around, Refusal, constant_of, check, whole, is_typed, are_alike, equated}
use Rattle.ot_forms.specs.Meaning.{relation_ty, meaning, meaning_applied, meanings, line_meaning, term_meaning}
use Rattle.ot_forms.specs.Refusals.{open_limit, WritesLine, WritesTerm, IsStart, IsNoForm, OpensTooMany, IsMeantWrong}
use Rattle.ot_forms.specs.Refusals.{IsRefusedAs, StandsFor, ReadsAs, IsRefused, ReadsAsTerm, IsTermRefused}
use Rattle.ot_forms.proofs.SameSymbols.{AreAlike, same-type, same-term}
use Rattle.ot_forms.proofs.SameSymbols.{same-hidden, same-notation}
use Rattle.ot_forms.proofs.ReadBack.{constant_of-some, constant_of-has}

-- ---- what is written, and what it means

module _ (hs gs : List (Symbol Name)) (same : AreAlike hs gs) (nt : IsNotation hs) where
  same-constant : (o : List ℕ) → constant_of hs o ≡ constant_of gs o
  same-constant o = go (constant_of hs o) (constant_of gs o) refl refl where
    has : (ks : List (Symbol Name)) (n : Name) → is_hidden ks (ConSymbol n) ≡ true → base n ≡ o
        → constant_of ks o ≡ None → ⊥
    has ks n h b e = let w = constant_of-has ks n h in let p : ◌≡◌ {A = Option Name} None (Some w.0) =
        sym e ∙ ap (constant_of ks) (sym b) ∙ w.1 in cc

    go : (a b : Option Name) → constant_of hs o ≡ a → constant_of gs o ≡ b → a ≡ b
    go None None p q = refl
    go (Some n) None p q = let w = constant_of-some hs o n p in
        absurd (has gs n (sym (same-hidden hs gs same (ConSymbol n)) ∙ w.0) w.1 q)
    go None (Some m) p q = let w = constant_of-some gs o m q in
        absurd (has hs m (same-hidden hs gs same (ConSymbol m) ∙ w.0) w.1 p)
    go (Some n) (Some m) p q =
        let v = constant_of-some hs o n p in
        let w = constant_of-some gs o m q in
        ap Some (nt.alone (ConSymbol n) (ConSymbol m) v.0 (same-hidden hs gs same (ConSymbol m) ∙ w.0) refl
        (v.1 ∙ sym w.1))

  mutual
    same-meaning : (l : Around) (w : Bool) (k : ℕ) (t : Written) → meaning hs l w k t ≡ meaning gs l w k t
    same-meaning l w k (Place x) = refl
    same-meaning l w k (FreeAs n t) = refl
    same-meaning l w k (ConAs n t) = refl
    same-meaning l w k (Equal a b) =
        let p = same-meaning l false (k + 1) a in
        let q = same-meaning l false (k + 4 + length (term_text hs a)) b
        ∙ ap (λ t. meaning gs l false (k + 4 + length t) b) (same-term hs gs same a) in
        λ i. p i >>= λ x. q i >>= λ y. check k BadTypes (are_alike l x y) >>= λ _. whole l w k (equated l x y)
    same-meaning l w k (Infix o a b) =
        let p = same-meaning l true (k + 1) a in
        let q = same-meaning l true (k + 3 + length (term_text hs a) + length o) b
        ∙ ap (λ t. meaning gs l true (k + 3 + length t + length o) b) (same-term hs gs same a) in
        λ i. p i >>= λ x. q i >>= λ y. some_or (k, UnknownOperator) (same-constant o i)
        >>= λ n. whole l w k (App (App (Con n relation_ty) x) y)
    same-meaning l w k (Applied f a more) =
        let p = same-meaning l false (k + 1) f in
        let q = same-meaning l false (k + 2 + length (term_text hs f)) a
        ∙ ap (λ t. meaning gs l false (k + 2 + length t) a) (same-term hs gs same f) in
        let r = λ (g x : Tm Name). same-applied-meaning l w k
        (k + 3 + length (term_text hs f) + length (term_text hs a)) g x more
        ∙ (λ i. meaning_applied gs l w k
        (k + 3 + length (same-term hs gs same f i) + length (same-term hs gs same a i)) g x more) in
        λ i. p i >>= λ g. q i >>= λ x. r g x i
    same-meaning l w k (Binding x t a) =
        let p = same-meaning ((x, t) ∷ l) false (k + 8 + length x + length (type_text hs t)) a
        ∙ ap (λ s. meaning gs ((x, t) ∷ l) false (k + 8 + length x + length s) a) (same-type hs gs same t) in
        λ i. p i >>= λ b. whole l w k (Abs t b)

    same-applied-meaning : (l : Around) (w : Bool) (k j : ℕ) (f x : Tm Name) (more : Writtens)
        → meaning_applied hs l w k j f x more ≡ meaning_applied gs l w k j f x more
    same-applied-meaning l w k j f x NoMore = refl
    same-applied-meaning l w k j f x (More b bs) =
        let p = same-meaning l false j b in
        let r = λ (g y : Tm Name). same-applied-meaning l w k (j + 1 + length (term_text hs b)) g y bs
        ∙ ap (λ t. meaning_applied gs l w k (j + 1 + length t) g y bs) (same-term hs gs same b) in
        λ i. check k BadTypes (is_typed l (App f x)) >>= λ _. whole l false k (App f x) >>= λ g. p i >>= λ y. r g y i

  same-meanings : (k : ℕ) (ts : List Written) → meanings hs k ts ≡ meanings gs k ts
  same-meanings k [] = refl
  same-meanings k (a ∷ more) =
      let p = same-meaning [] true k a in
      let q = same-meanings (k + 2 + length (term_text hs a)) more
      ∙ ap (λ t. meanings gs (k + 2 + length t) more) (same-term hs gs same a) in
      λ i. p i >>= λ h. q i >>= λ ts. Ok (h ∷ ts)

  same-hyps-text : (ts : List Written) → hyps_text hs ts ≡ hyps_text gs ts
  same-hyps-text ts = λ i. printed.hyps_text (map (λ t. same-term hs gs same t i) ts)

  same-line-meaning : (q : WrittenSequent) → line_meaning hs q ≡ line_meaning gs q
  same-line-meaning q =
      let p = same-meanings 0 q.hyps in
      let c = same-meaning [] true (length (hyps_text hs q.hyps)) q.concl
      ∙ ap (λ t. meaning gs [] true (length t) q.concl) (same-hyps-text q.hyps) in
      λ i. p i >>= λ ts. c i >>= λ t. Ok (record { hyps = once_each names ts; concl = t })

  same-line-text : (q : WrittenSequent) → line_text hs q ≡ line_text gs q
  same-line-text q = λ i. same-hyps-text q.hyps i ++ same-term hs gs same q.concl i

  line-to : (n : ℕ) (x : List ℕ) (q : WrittenSequent) → WritesLine hs n x q → WritesLine gs n x q
  line-to n x q h = record { form = h.form; text = h.text ∙ same-line-text q }

  term-to : (n : ℕ) (x : List ℕ) (w : Written) → WritesTerm hs n x w → WritesTerm gs n x w
  term-to n x w h = record { form = h.form; within = h.within; text = h.text ∙ same-term hs gs same w }

-- ---- readings and refusals, where the same is written with the same meaning

module _ {A B : Type 0} (W V : ℕ → List ℕ → A → Type 0) (m n : A → Result B Refusal)
    (to : (l : ℕ) (x : List ℕ) (a : A) → W l x a → V l x a) (back : (l : ℕ) (x : List ℕ) (a : A) → V l x a → W l x a)
    (means : (a : A) → m a ≡ n a) where
  stands : (x : List ℕ) (b : B) → StandsFor W m x b → StandsFor V n x b
  stands x b h =
      record {
        written = h.written;
        text_of = to open_limit x h.written h.text_of;
        meant = sym (means h.written)
            ∙ h.meant;
      }

  start-to : (l : ℕ) (x : List ℕ) → IsStart W l x → IsStart V l x
  start-to l x h = record { rest = h.rest; value = h.value; text = to l (x ++ h.rest) h.value h.text }

  start-back : (l : ℕ) (x : List ℕ) → IsStart V l x → IsStart W l x
  start-back l x h = record { rest = h.rest; value = h.value; text = back l (x ++ h.rest) h.value h.text }

  no-form : (x : List ℕ) (k : ℕ) → IsNoForm W x k → IsNoForm V x k
  no-form x k h = record {
    front = start-to open_limit (take k x) h.front;
    stop = elim h.stop [
      | inl p ↦ inl (p.0, λ l a w. p.1 l a (back l x a w))
      | inr p ↦
          inr (p.0, λ f. p.1 (record { limit = f.limit; start = start-back f.limit (take (suc k) x) f.start }))
    ];
  }

  opens-many : (x : List ℕ) (k : ℕ) → OpensTooMany W x k → OpensTooMany V x k
  opens-many x k h = record {
    within = h.within;
    front = start-to open_limit (take k x) h.front;
    opens = record { limit = h.opens.limit; start = start-to h.opens.limit (take (suc k) x) h.opens.start };
    too_many = λ s. h.too_many (start-back open_limit (take (suc k) x) s);
  }

  meant-wrong : (x : List ℕ) (k : ℕ) (f : TextFault) → IsMeantWrong W m x k f → IsMeantWrong V n x k f
  meant-wrong x k f h =
      record {
        written = h.written;
        text_of = to open_limit x h.written h.text_of;
        meant = sym (means h.written)
            ∙ h.meant;
      }

  refused : (x : List ℕ) (k : ℕ) (f : TextFault) → IsRefusedAs W m x k f → IsRefusedAs V n x k f
  refused x k Syntax h = no-form x k h
  refused x k TooManyOpen h = opens-many x k h
  refused x k Unbound h = meant-wrong x k Unbound h
  refused x k UnknownOperator h = meant-wrong x k UnknownOperator h
  refused x k BadTypes h = meant-wrong x k BadTypes h
  refused x k TooDeep h = meant-wrong x k TooDeep h

-- ---- lines, and texts of one term

module _ (hs gs : List (Symbol Name)) (same : AreAlike hs gs) (nt : IsNotation hs) where
  back-again : AreAlike gs hs
  back-again test = sym (same test)

  other : IsNotation gs
  other = same-notation hs gs same nt

  pub same-reads-as : (line : List ℕ) (q : Sequent Name) → ReadsAs hs line q → ReadsAs gs line q
  same-reads-as = stands (WritesLine hs) (WritesLine gs) (line_meaning hs) (line_meaning gs) (line-to hs gs same nt)
      (line-to gs hs back-again other) (same-line-meaning hs gs same nt)

  pub same-refused : (line : List ℕ) (k : ℕ) (f : TextFault) → IsRefused hs line k f → IsRefused gs line k f
  same-refused = refused (WritesLine hs) (WritesLine gs) (line_meaning hs) (line_meaning gs) (line-to hs gs same nt)
      (line-to gs hs back-again other) (same-line-meaning hs gs same nt)

  pub same-reads-as-term : (text : List ℕ) (t : Tm Name) → ReadsAsTerm hs text t → ReadsAsTerm gs text t
  same-reads-as-term = stands (WritesTerm hs) (WritesTerm gs) (term_meaning hs) (term_meaning gs)
      (term-to hs gs same nt) (term-to gs hs back-again other) (same-meaning hs gs same nt [] false 0)

  pub same-term-refused : (text : List ℕ) (k : ℕ) (f : TextFault) → IsTermRefused hs text k f
      → IsTermRefused gs text k f
  same-term-refused = refused (WritesTerm hs) (WritesTerm gs) (term_meaning hs) (term_meaning gs)
      (term-to hs gs same nt) (term-to gs hs back-again other) (same-meaning hs gs same nt [] false 0)
