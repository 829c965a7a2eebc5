-- A written term is refused for one of four faults, and what the refusal of a text is.
use Rattle.std.specs.Prelude.{◌≡◌, ℕ, ◌+◌, ◌-◌, Bool, true, false, List}
use Rattle.std.specs.Prelude.{[], ◌∷◌, length, Option, Some, None, Result, Ok, Err}
use Rattle.std.proofs.Common.{sym, subst, arith}
use Rattle.ot_logic.specs.Answers.{◌>>=◌, some_or}
use Rattle.ot_logic.specs.Names.{Name}
use Rattle.ot_logic.specs.Trees.{Tm, Con, Bound, App, Abs, Free, Sequent, Symbol}
use Rattle.ot_forms.specs.declared.fault.TextFault.{TextFault}
use Rattle.ot_forms.specs.declared.fault.TextFault.TheVariants.{Syntax, TooManyOpen, Unbound}
use Rattle.ot_forms.specs.declared.fault.TextFault.TheVariants.{UnknownOperator, BadTypes, TooDeep}
use Rattle.ot_forms.specs.Words.{IsNotation}
use Rattle.ot_forms.specs.Forms.{Written, Writtens, Place, FreeAs, ConAs, Equal, Infix, Applied}
use Rattle.ot_forms.specs.Forms.{Binding, NoMore, More, WrittenSequent, type_text, term_text, hyps_text}
use Rattle.ot_forms.specs.Meaning.{Around, Refusal, place_of, constant_of, is_typed}
use Rattle.ot_forms.specs.Meaning.{fits, check, whole, relation_ty, equated, are_alike, meaning}
use Rattle.ot_forms.specs.Meaning.{meaning_applied, meanings, line_meaning, term_meaning}
use Rattle.ot_forms.specs.Refusals.{open_limit, WritesLine, WritesTerm}
use Rattle.ot_forms.specs.Refusals.{IsMeantWrong, IsRefused, IsTermRefused, ReadsAs, ReadsAsTerm}
use Rattle.ot_forms.specs.Reading.{Got, Halted, NoForm, OneTooMany}
use Rattle.ot_forms.proofs.TermLaw.{term_from, term-grows}
use Rattle.ot_forms.proofs.LineLaw.{line_from, line_readers, line-grows, line-more, term_readers, term-more}
use Rattle.ot_forms.proofs.ForTexts as texts
use Rattle.ot_parse.specs.declared.refusal.ReadRefusal.TheVariants as refusals
use Rattle.ot_parse.specs.Refused.{IsRefusal, IsTermRefusal}

-- one of the four
abbrev pub IsCause : TextFault → Type 0
IsCause Syntax = ⊥
IsCause TooManyOpen = ⊥
IsCause Unbound = Unit {0}
IsCause UnknownOperator = Unit {0}
IsCause BadTypes = Unit {0}
IsCause TooDeep = Unit {0}

abbrev pub HasCause : {A : Type 0} → Result A Refusal → Type 0
HasCause (Ok x) = Unit {0}
HasCause (Err e) = IsCause e.1

andThen : {A B : Type 0} (o : Result A Refusal) (f : A → Result B Refusal) → HasCause o → ((a : A) → HasCause (f a))
    → HasCause (o >>= f)
andThen (Ok x) f h k = k x
andThen (Err e) f h k = h

checked : (k : ℕ) (f : TextFault) (b : Bool) → IsCause f → HasCause (check k f b)
checked k f true h = tt
checked k f false h = h

some : {A : Type 0} (k : ℕ) (f : TextFault) (o : Option A) → IsCause f → HasCause {A = A} (some_or (k, f) o)
some k f (Some x) h = tt
some k f None h = h

wholes : (l : Around) (w : Bool) (k : ℕ) (t : Tm Name) → HasCause (whole l w k t)
wholes l w k t = andThen (check k BadTypes _) _ (checked k BadTypes _ tt)
    (λ _. andThen (check k TooDeep (fits l t)) _ (checked k TooDeep (fits l t) tt) (λ _. tt))

module _ (hidden : List (Symbol Name)) where
  mutual
    caused : (l : Around) (w : Bool) (k : ℕ) (t : Written) → HasCause (meaning hidden l w k t)
    caused l w k (Place x) = andThen (some_or (k, Unbound) (place_of l x)) _ (some k Unbound (place_of l x) tt)
        (λ i. wholes l w k (Bound i))
    caused l w k (FreeAs n t) = wholes l w k (Free (record { name = n; ty = t }))
    caused l w k (ConAs n t) = wholes l w k (Con n t)
    caused l w k (Equal a b) =
        andThen (meaning hidden l false (k + 1) a) _ (caused l false (k + 1) a) (λ x.
        andThen (meaning hidden l false (k + 4 + length (term_text hidden a)) b) _
        (caused l false (k + 4 + length (term_text hidden a)) b) (λ y.
        andThen (check k BadTypes (are_alike l x y)) _ (checked k BadTypes (are_alike l x y) tt)
        (λ _. wholes l w k (equated l x y))))
    caused l w k (Infix o a b) =
        andThen (meaning hidden l true (k + 1) a) _ (caused l true (k + 1) a) (λ x.
        andThen (meaning hidden l true (k + 3 + length (term_text hidden a) + length o) b) _
        (caused l true (k + 3 + length (term_text hidden a) + length o) b) (λ y.
        andThen (some_or (k, UnknownOperator) (constant_of hidden o)) _
        (some k UnknownOperator (constant_of hidden o) tt)
        (λ n. wholes l w k (App (App (Con n relation_ty) x) y))))
    caused l w k (Applied f a more) =
        andThen (meaning hidden l false (k + 1) f) _ (caused l false (k + 1) f) (λ g.
        andThen (meaning hidden l false (k + 2 + length (term_text hidden f)) a) _
        (caused l false (k + 2 + length (term_text hidden f)) a) (λ x.
        caused_more l w k (k + 3 + length (term_text hidden f) + length (term_text hidden a)) g x more))
    caused l w k (Binding x t a) =
        andThen (meaning hidden ((x, t) ∷ l) false (k + 8 + length x + length (type_text hidden t)) a) _
        (caused ((x, t) ∷ l) false (k + 8 + length x + length (type_text hidden t)) a)
        (λ b. wholes l w k (Abs t b))

    caused_more : (l : Around) (w : Bool) (k i : ℕ) (f x : Tm Name) (more : Writtens)
        → HasCause (meaning_applied hidden l w k i f x more)
    caused_more l w k i f x NoMore = andThen (check k BadTypes (is_typed l (App f x))) _
        (checked k BadTypes (is_typed l (App f x)) tt) (λ _. wholes l w k (App f x))
    caused_more l w k i f x (More b bs) =
        andThen (check k BadTypes (is_typed l (App f x))) _ (checked k BadTypes (is_typed l (App f x)) tt) (λ _.
        andThen (whole l false k (App f x)) _ (wholes l false k (App f x)) (λ g.
        andThen (meaning hidden l false i b) _ (caused l false i b) (λ y.
        caused_more l w k (i + 1 + length (term_text hidden b)) g y bs)))

  all-caused : (k : ℕ) (hs : List Written) → HasCause (meanings hidden k hs)
  all-caused k [] = tt
  all-caused k (a ∷ more) =
      andThen (meaning hidden [] true k a) _ (caused [] true k a) (λ h.
      andThen (meanings hidden (k + 2 + length (term_text hidden a)) more) _
      (all-caused (k + 2 + length (term_text hidden a)) more) (λ hs. tt))

  line-caused : (q : WrittenSequent) → HasCause (line_meaning hidden q)
  line-caused q =
      andThen (meanings hidden 0 q.hyps) _ (all-caused 0 q.hyps) (λ hs.
      andThen (meaning hidden [] true (length (hyps_text hidden q.hyps)) q.concl) _
      (caused [] true (length (hyps_text hidden q.hyps)) q.concl) (λ c. tt))

  term-caused : (w : Written) → HasCause (term_meaning hidden w)
  term-caused w = caused [] false 0 w

  -- ---- the refusals of a text
  one-more : (k : ℕ) → k + 1 - 1 ≡ k
  one-more k = omega arith

  module _ (nt : IsNotation hidden) where
    -- a line
    at : (line : List ℕ) (k : ℕ) (f : TextFault) → IsRefused hidden line k f
        → IsRefusal hidden line (refusals.At (k + 1) f)
    at line k f h = (omega arith, subst (λ j. IsRefused hidden line j f) (sym (one-more k)) h)

    pub line-halts : (line r : List ℕ) → line_from hidden nt open_limit line ≡ Halted NoForm r
        → IsRefusal hidden line (refusals.At (length line - length r + 1) Syntax)
    line-halts line r e =
        at line (length line - length r) Syntax
        (texts.stops (WritesLine hidden) (line_meaning hidden) (line_from hidden nt) (line_readers hidden nt)
        (line-grows hidden nt) (line-more hidden nt) line r e)

    pub line-trails : (line : List ℕ) (q : WrittenSequent) (b : ℕ) (t : List ℕ) → line_from hidden nt open_limit line
        ≡ Got q (b ∷ t) → IsRefusal hidden line (refusals.At (length line - length (b ∷ t) + 1) Syntax)
    line-trails line q b t e =
        at line (length line - length (b ∷ t)) Syntax
        (texts.trails (WritesLine hidden) (line_meaning hidden) (line_from hidden nt) (line_readers hidden nt)
        (line-grows hidden nt) (line-more hidden nt) line q b t e)

    pub line-opens : (line r : List ℕ) → line_from hidden nt open_limit line ≡ Halted OneTooMany r
        → IsRefusal hidden line (refusals.At (length line - length r + 1) TooManyOpen)
    line-opens line r e =
        at line (length line - length r) TooManyOpen
        (texts.opens (WritesLine hidden) (line_meaning hidden) (line_from hidden nt) (line_readers hidden nt)
        (line-grows hidden nt) (line-more hidden nt) line r e)

    line-writes : (line : List ℕ) (q : WrittenSequent) → line_from hidden nt open_limit line ≡ Got q []
        → WritesLine hidden open_limit line q
    line-writes = texts.reads-as (WritesLine hidden) (line_meaning hidden) (line_from hidden nt)
        (line_readers hidden nt) (line-grows hidden nt) (line-more hidden nt)

    pub line-reads : (line : List ℕ) (q : WrittenSequent) (s : Sequent Name) → line_from hidden nt open_limit line
        ≡ Got q [] → line_meaning hidden q ≡ Ok s → ReadsAs hidden line s
    line-reads line q s e m = record { written = q; text_of = line-writes line q e; meant = m }

    pub line-wrong : (line : List ℕ) (q : WrittenSequent) (k : ℕ) (f : TextFault) → line_from hidden nt open_limit
        line ≡ Got q [] → line_meaning hidden q ≡ Err (k, f) → IsRefusal hidden line (refusals.At (k + 1) f)
    line-wrong line q k f e m =
        at line k f (go f (subst HasCause m (line-caused q))
        (record { written = q; text_of = line-writes line q e; meant = m })) where
          go : (f : TextFault) → IsCause f → IsMeantWrong (WritesLine hidden) (line_meaning hidden) line k f
              → IsRefused hidden line k f
          go Syntax h w = absurd h
          go TooManyOpen h w = absurd h
          go Unbound h w = w
          go UnknownOperator h w = w
          go BadTypes h w = w
          go TooDeep h w = w

    -- a text of one term
    term-at : (text : List ℕ) (k : ℕ) (f : TextFault) → IsTermRefused hidden text k f
        → IsTermRefusal hidden text (refusals.At (k + 1) f)
    term-at text k f h = (omega arith, subst (λ j. IsTermRefused hidden text j f) (sym (one-more k)) h)

    pub term-halts : (text r : List ℕ) → term_from hidden nt open_limit text ≡ Halted NoForm r
        → IsTermRefusal hidden text (refusals.At (length text - length r + 1) Syntax)
    term-halts text r e =
        term-at text (length text - length r) Syntax
        (texts.stops (WritesTerm hidden) (term_meaning hidden) (term_from hidden nt) (term_readers hidden nt)
        (term-grows hidden nt) (term-more hidden nt) text r e)

    pub term-trails : (text : List ℕ) (w : Written) (b : ℕ) (t : List ℕ) → term_from hidden nt open_limit text
        ≡ Got w (b ∷ t) → IsTermRefusal hidden text (refusals.At (length text - length (b ∷ t) + 1) Syntax)
    term-trails text w b t e =
        term-at text (length text - length (b ∷ t)) Syntax
        (texts.trails (WritesTerm hidden) (term_meaning hidden) (term_from hidden nt) (term_readers hidden nt)
        (term-grows hidden nt) (term-more hidden nt) text w b t e)

    pub term-opens : (text r : List ℕ) → term_from hidden nt open_limit text ≡ Halted OneTooMany r
        → IsTermRefusal hidden text (refusals.At (length text - length r + 1) TooManyOpen)
    term-opens text r e =
        term-at text (length text - length r) TooManyOpen
        (texts.opens (WritesTerm hidden) (term_meaning hidden) (term_from hidden nt) (term_readers hidden nt)
        (term-grows hidden nt) (term-more hidden nt) text r e)

    term-writes : (text : List ℕ) (w : Written) → term_from hidden nt open_limit text ≡ Got w []
        → WritesTerm hidden open_limit text w
    term-writes = texts.reads-as (WritesTerm hidden) (term_meaning hidden) (term_from hidden nt)
        (term_readers hidden nt) (term-grows hidden nt) (term-more hidden nt)

    pub term-reads : (text : List ℕ) (w : Written) (t : Tm Name) → term_from hidden nt open_limit text ≡ Got w []
        → term_meaning hidden w ≡ Ok t → ReadsAsTerm hidden text t
    term-reads text w t e m = record { written = w; text_of = term-writes text w e; meant = m }

    pub term-wrong : (text : List ℕ) (w : Written) (k : ℕ) (f : TextFault) → term_from hidden nt open_limit text
        ≡ Got w [] → term_meaning hidden w ≡ Err (k, f) → IsTermRefusal hidden text (refusals.At (k + 1) f)
    term-wrong text w k f e m =
        term-at text k f
        (go f (subst HasCause m (term-caused w))
        (record { written = w; text_of = term-writes text w e; meant = m })) where
          go : (f : TextFault) → IsCause f → IsMeantWrong (WritesTerm hidden) (term_meaning hidden) text k f
              → IsTermRefused hidden text k f
          go Syntax h w = absurd h
          go TooManyOpen h w = absurd h
          go Unbound h w = w
          go UnknownOperator h w = w
          go BadTypes h w = w
          go TooDeep h w = w
