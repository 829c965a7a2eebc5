-- A type that is read with what is open kept in a list is the one that is read.
use Rattle.std.specs.Prelude.{◌≡◌, ◌==◌, ℕ, suc, Bool, true, false, ◌-◌, length, cond, not}
use Rattle.std.specs.Prelude.{◌||◌, Result, Ok, Err, IsErrAnd, List, [], ◌∷◌, ◌++◌, codes}
use Rattle.std.proofs.Common.{refl, sym, ◌∙◌, ap, subst}
use Rattle.ot_logic.specs.Names.{Name}
use Rattle.ot_logic.specs.Naming.{names}
use Rattle.ot_logic.specs.Trees.{Ty, Tys, TyOp, NoTys, MoreTys, Symbol}
use Rattle.ot_logic.specs.Hol.{fun_ty}
use Rattle.ot_text.specs.Texts.{is_function}
use Rattle.ot_forms.specs.Words.{IsNotation}
use Rattle.ot_forms.specs.Reading.{Reason, NoForm, Reading, Got, Halted, next, mapped, kept}
use Rattle.ot_forms.specs.Reading.{literal_at, operator_at, range_at, further_at}
use Rattle.ot_forms.specs.Reading.{behind_word_at, closed_type_at, type_at}
use Rattle.ot_forms.proofs.Types.{more-step}
use Rattle.ot_forms.proofs.TypeLaw.{reads}
use Rattle.ot_parse.specs.declared.halt.Halt.{Halt}
use Rattle.ot_parse.specs.declared.types.Back.{Back}
use Rattle.ot_parse.specs.Gives.{IsHalt}
use Rattle.ot_logic.specs.PlainTrees.{tys_of}
use Rattle.ot_parse.specs.Frames.{Frame, Domain, Range, Argument, joined, closed}
use Rattle.ot_parse.specs.Frames.{is_operator_type, is_spaced, after, resume, IsBackOf}
use Rattle.ot_parse.proofs.Halts.{halt-next, halt-mapped, halt-same}

-- ---- one reading after another
pub regroup : {A B C : Type 0} (o : Reading A) (f : A → List ℕ → Reading B) (g : B → List ℕ → Reading C)
    → next (next o f) g ≡ next o (λ x s. next (f x s) g)
regroup (Got x s) f g = refl
regroup (Halted k s) f g = refl

pub through : {A B C : Type 0} (v : A → B) (o : Reading A) (g : B → List ℕ → Reading C)
    → next (mapped v o) g ≡ next o (λ x s. g (v x) s)
through v (Got x s) g = refl
through v (Halted k s) g = refl

pub twice : {A B C : Type 0} (v : A → B) (w : B → C) (o : Reading A) → mapped w (mapped v o) ≡ mapped (λ x. w (v x)) o
twice v w (Got x s) = refl
twice v w (Halted k s) = refl

joined-more : (ts : List (Ty Name)) (t : Ty Name) (us : Tys Name) → joined (ts ++ t ∷ []) us
    ≡ joined ts (MoreTys t us)
joined-more [] t us = refl
joined-more (u ∷ ts) t us = ap (MoreTys u) (joined-more ts t us)

pub mapped-same : {A B : Type 0} (v w : A → B) (o : Reading A) → ((x : A) → v x ≡ w x) → mapped v o ≡ mapped w o
mapped-same v w (Got x s) h = ap (λ z. Got z s) (h x)
mapped-same v w (Halted k s) h = refl

module _ (hidden : List (Symbol Name)) where
  -- reading that halts inside halts the whole
  pub halts : (m : ℕ) (fs : List Frame) (k : Reason) (r : List ℕ) → resume hidden m fs (Halted k r) ≡ Halted k r
  halts m [] k r = refl
  halts m (f ∷ fs) k r = halts (suc m) fs k r

  module _ (read : List ℕ → Reading (Ty Name)) where
    -- ---- behind an opening parenthesis
    -- a type that begins with a quote or a parenthesis is a domain
    pub opens-domain : (b : ℕ) (s : List ℕ) → ((b == 39) || (b == 40)) ≡ true → closed_type_at hidden read (b ∷ s)
        ≡ next (read (b ∷ s)) (after hidden read Domain)
    opens-domain b s h =
        ap closed
        (ap (λ t. cond t
        (next (read (b ∷ s)) (λ a r. next (literal_at (codes " ") r) (λ _ q. range_at hidden read a q)))
        (next (operator_at hidden (b ∷ s))
        (λ n r. next (literal_at (codes " ") r) (λ _ q. behind_word_at hidden read n q)))) h)
        ∙ regroup (read (b ∷ s)) (λ a r. next (literal_at (codes " ") r) (λ _ q. range_at hidden read a q))
        (λ t r. mapped (λ _. t) (literal_at (codes ")") r))

    -- behind an operator's word
    pub opens-word : (b : ℕ) (s : List ℕ) → ((b == 39) || (b == 40)) ≡ false → closed_type_at hidden read (b ∷ s)
        ≡ closed (next (operator_at hidden (b ∷ s))
        (λ n r. next (literal_at (codes " ") r) (λ _ q. behind_word_at hidden read n q)))
    opens-word b s h =
        ap closed (ap
        (λ t. cond t (next (read (b ∷ s)) (λ a r. next (literal_at (codes " ") r) (λ _ q. range_at hidden read a q)))
        (next (operator_at hidden (b ∷ s))
        (λ n r. next (literal_at (codes " ") r) (λ _ q. behind_word_at hidden read n q)))) h)

    -- ---- behind a type
    -- a domain: the arrow
    pub after-domain : (t : Ty Name) (s r q : List ℕ) → literal_at (codes " ") s ≡ Got tt r → literal_at (codes "-> ")
        r ≡ Got tt q → after hidden read Domain t s ≡ next (read q) (after hidden read (Range t))
    after-domain t s r q e d =
        ap closed (ap (λ o. next o (λ _ q. range_at hidden read t q)) e
        ∙ ap (λ o. next o (λ _ r. mapped (fun_ty names t) (read r))) d)
        ∙ through (fun_ty names t) (read q) (λ t r. mapped (λ _. t) (literal_at (codes ")") r))

    -- a range: the closing parenthesis
    pub after-range : (a t : Ty Name) (s r : List ℕ) → literal_at (codes ")") s ≡ Got tt r
        → after hidden read (Range a) t s ≡ Got (fun_ty names a t) r
    after-range a t s r e = ap (mapped (λ _. fun_ty names a t)) e

  module _ (nt : IsNotation hidden) (m : ℕ) where
    abbrev read : List ℕ → Reading (Ty Name)
    read = type_at hidden m

    -- an argument: a further one
    pub after-argument : (n : Name) (ts : List (Ty Name)) (t : Ty Name) (b : ℕ) (s : List ℕ) → (b == 32) ≡ true
        → after hidden read (Argument n ts) t (b ∷ s) ≡ next (read s) (after hidden read (Argument n (ts ++ t ∷ [])))
    after-argument n ts t b s h =
        ap (λ o. closed (mapped (TyOp n) (kept (is_operator_type n) (mapped (λ us. joined ts (MoreTys t us)) o))))
        (more-step hidden m read (reads hidden nt m) b s h)
        ∙ go (read s)
      where
        go : (o : Reading (Ty Name))
            → closed (mapped (TyOp n)
            (kept (is_operator_type n)
            (mapped (λ us. joined ts (MoreTys t us))
            (next o (λ u r. mapped (MoreTys u) (further_at hidden read 0 r))))))
            ≡ next o (after hidden read (Argument n (ts ++ t ∷ [])))
        go (Got u r) = ap (λ o. closed (mapped (TyOp n) (kept (is_operator_type n) o)))
            (twice (MoreTys u) (λ us. joined ts (MoreTys t us)) (further_at hidden read 0 r)
            ∙ mapped-same _ _ (further_at hidden read 0 r) (λ us. sym (joined-more ts t (MoreTys u us))))
        go (Halted k r) = refl

-- ---- halts
module _ (hidden : List (Symbol Name)) (m : ℕ) where
  -- a halt that is handed on
  pub handed-back : (f : Frame) (t : Ty Name) (s : List ℕ) (r : Result Back Halt) (e : Halt) → IsErrAnd r (λ x. x ≡ e)
      → IsHalt e (after hidden (type_at hidden m) f t s) → IsBackOf hidden m f t s r
  handed-back f t s (Ok b) e h k = absurd h
  handed-back f t s (Err x) e h k = subst (λ z. IsHalt z (after hidden (type_at hidden m) f t s)) (sym h) k

  pub no-space : (t : Ty Name) (s : List ℕ) (h : Halt) → IsHalt h (literal_at (codes " ") s)
      → IsHalt h (after hidden (type_at hidden m) Domain t s)
  no-space t s h e = halt-next h (next (literal_at (codes " ") s) (λ _ q. range_at hidden (type_at hidden m) t q))
      (λ t r. mapped (λ _. t) (literal_at (codes ")") r))
      (halt-next h (literal_at (codes " ") s) (λ _ q. range_at hidden (type_at hidden m) t q) e)

  pub no-arrow : (t : Ty Name) (s r : List ℕ) (h : Halt) → literal_at (codes " ") s ≡ Got tt r
      → IsHalt h (literal_at (codes "-> ") r) → IsHalt h (after hidden (type_at hidden m) Domain t s)
  no-arrow t s r h d e =
      halt-same h (closed (range_at hidden (type_at hidden m) t r)) (after hidden (type_at hidden m) Domain t s)
      (ap closed (ap (λ o. next o (λ _ q. range_at hidden (type_at hidden m) t q)) d))
      (halt-next h (range_at hidden (type_at hidden m) t r) (λ t r. mapped (λ _. t) (literal_at (codes ")") r))
      (halt-next h (literal_at (codes "-> ") r) (λ _ q. mapped (fun_ty names t) (type_at hidden m q)) e))

  pub no-end : (a t : Ty Name) (s : List ℕ) (h : Halt) → IsHalt h (literal_at (codes ")") s)
      → IsHalt h (after hidden (type_at hidden m) (Range a) t s)
  no-end a t s h e = halt-mapped h (literal_at (codes ")") s) (λ _. fun_ty names a t) e

  whole-row : (ts : List (Ty Name)) (t : Ty Name) → tys_of (ts ++ t ∷ []) ≡ joined ts (MoreTys t NoTys)
  whole-row [] t = refl
  whole-row (u ∷ ts) t = ap (MoreTys u) (whole-row ts t)

  not-true : (b c : Bool) → b ≡ c → b ≡ true → not c ≡ false
  not-true b c e h = ap not (sym e ∙ h)

  not-false : (b c : Bool) → b ≡ c → b ≡ false → not c ≡ true
  not-false b c e h = ap not (sym e ∙ h)

  module _ (n : Name) (all : List (Ty Name)) (ts : List (Ty Name)) (t : Ty Name) (is : all ≡ ts ++ t ∷ [])
      (s : List ℕ) (end : further_at hidden (type_at hidden m) 0 s ≡ Got NoTys s) where
    row : tys_of all ≡ joined ts (MoreTys t NoTys)
    row = ap tys_of is ∙ whole-row ts t

    pub arrow-ends : (b : Bool) → b ≡ is_function names (TyOp n (tys_of all)) → b ≡ true
        → after hidden (type_at hidden m) (Argument n ts) t s ≡ Halted NoForm s
    arrow-ends b e h = no-arguments-at (not-true b _ (e ∙ ap (λ us. is_function names (TyOp n us)) row) h) where
      no-arguments-at : is_operator_type n (joined ts (MoreTys t NoTys)) ≡ false
          → after hidden (type_at hidden m) (Argument n ts) t s ≡ Halted NoForm s
      no-arguments-at k =
          ap (λ o. closed (mapped (TyOp n) (kept (is_operator_type n) (mapped (λ us. joined ts (MoreTys t us)) o))))
          end
          ∙ ap (λ b. closed (mapped (TyOp n) (cond b (Got (joined ts (MoreTys t NoTys)) s) (Halted NoForm s)))) k

    ends : (b : Bool) → b ≡ is_function names (TyOp n (tys_of all)) → b ≡ false → after hidden (type_at hidden m)
        (Argument n ts) t s ≡ mapped (λ _. TyOp n (joined ts (MoreTys t NoTys))) (literal_at (codes ")") s)
    ends b e h =
        ap (λ o. closed (mapped (TyOp n) (kept (is_operator_type n) (mapped (λ us. joined ts (MoreTys t us)) o)))) end
        ∙ ap (λ b. closed (mapped (TyOp n) (cond b (Got (joined ts (MoreTys t NoTys)) s) (Halted NoForm s))))
        (not-false b _ (e ∙ ap (λ us. is_function names (TyOp n us)) row) h)

    pub not-closed : (b : Bool) → b ≡ is_function names (TyOp n (tys_of all)) → b ≡ false → (h : Halt)
        → IsHalt h (literal_at (codes ")") s) → IsHalt h (after hidden (type_at hidden m) (Argument n ts) t s)
    not-closed b e k h w = halt-same h _ (after hidden (type_at hidden m) (Argument n ts) t s) (ends b e k)
        (halt-mapped h (literal_at (codes ")") s) (λ _. TyOp n (joined ts (MoreTys t NoTys))) w)

    pub whole-type : (b : Bool) → b ≡ is_function names (TyOp n (tys_of all)) → b ≡ false → (r : List ℕ)
        → literal_at (codes ")") s ≡ Got tt r → after hidden (type_at hidden m) (Argument n ts) t s
        ≡ Got (TyOp n (tys_of all)) r
    whole-type b e k r w = ends b e k ∙ ap (mapped (λ _. TyOp n (joined ts (MoreTys t NoTys)))) w
        ∙ ap (λ us. Got (TyOp n us) r) (sym row)

  pub no-further : (b : ℕ) (s : List ℕ) → (b == 32) ≡ false → further_at hidden (type_at hidden m) 0 (b ∷ s)
      ≡ Got NoTys (b ∷ s)
  no-further b s h =
      ap (λ t. cond t
      (next (type_at hidden m s)
      (λ t r. mapped (MoreTys t) (further_at hidden (type_at hidden m) (length s - length r) s))) (Got NoTys (b ∷ s)))
      h

  pub no-argument : (s : List ℕ) → is_spaced s ≡ false → further_at hidden (type_at hidden m) 0 s ≡ Got NoTys s
  no-argument [] h = refl
  no-argument (b ∷ s) h = no-further b s h

  pub further-argument : (nt : IsNotation hidden) (n : Name) (all ts : List (Ty Name)) (t : Ty Name) (s r : List ℕ)
      → all ≡ ts ++ t ∷ [] → s ≡ 32 ∷ r
      → after hidden (type_at hidden m) (Argument n ts) t s
      ≡ next (type_at hidden m r) (after hidden (type_at hidden m) (Argument n all))
  further-argument nt n all ts t s r is e =
      ap (after hidden (type_at hidden m) (Argument n ts) t) e ∙ after-argument hidden nt m n ts t 32 r refl
      ∙ ap (λ us. next (type_at hidden m r) (after hidden (type_at hidden m) (Argument n us))) (sym is)
