-- Types, by how many parentheses may be open: the reader with room for so many reads the texts with no more.
use Rattle.std.specs.Prelude.{◌≡◌, ℕ, zero, suc, ◌==◌, Bool, true, false, cond, List, [], ◌∷◌, ◌++◌, codes}
use Rattle.std.proofs.Common.{refl, sym, ◌∙◌, ap, subst, arith}
use Rattle.std.proofs.lemmas.Bool.{eqb-true}
use Rattle.ot_logic.specs.Names.{Name, IsName}
use Rattle.ot_logic.specs.Naming.{names}
use Rattle.ot_logic.specs.Trees.{Ty, TyVar, TyOp, NoTys, MoreTys, Symbol, OpSymbol}
use Rattle.ot_forms.specs.Words.{variable_word, word}
use Rattle.ot_text.specs.Texts.{is_function}
use Rattle.ot_forms.specs.Forms.{type_text, types_text}
use Rattle.ot_forms.specs.Reading.{NoForm, OneTooMany, Reading, Got, Halted, mapped, variable_at, operator_at}
use Rattle.ot_forms.specs.Reading.{closed_type_at, type_by, type_at}
use Rattle.ot_forms.proofs.Readers.{Follows, Reads, Begins, mapped-follows, behind, same_at, at_byte, at_end}
use Rattle.ot_forms.proofs.Readers.{halts_here, unchanged}
use Rattle.ot_forms.proofs.Types.{IsEnd, SaysVariable, SaysWord, SaysType, starts_word, differs, other_byte}
use Rattle.ot_forms.proofs.Types.{some_type, some-says, closed-reads}

module _ (hidden : List (Symbol Name)) where
  module _ (vr : Reads SaysVariable IsEnd variable_at) (wr : Reads (SaysWord hidden) IsEnd (operator_at hidden))
      (wf : (w : Name) → IsName w → Begins starts_word true (word hidden (OpSymbol w))) where
    -- so many may be open, and an opening parenthesis does this
    module _ (n : ℕ) (opened : List ℕ → Reading (Ty Name)) where
      abbrev Behind_open : Ty Name → List ℕ → Type 0
      Behind_open t x = SaysType hidden n t (40 ∷ x)

      variable-text : (v : Name) (x : List ℕ) → SaysVariable v x → SaysType hidden n (TyVar v) (39 ∷ x)
      variable-text v x h = record { text = ap (λ z. 39 ∷ z) h.text; named = h.named; within = omega arith }

      word-text : (w : Name) (x : List ℕ) → SaysWord hidden w x → SaysType hidden n (TyOp w NoTys) x
      word-text w x h = record { text = h.text; named = (h.named, tt); within = omega arith }

      by-complete : ((t : Ty Name) (x r : List ℕ) → Behind_open t x → opened (x ++ r) ≡ Got t r)
          → (t : Ty Name) (x r : List ℕ) → SaysType hidden n t x → IsEnd r → type_by hidden opened (x ++ r) ≡ Got t r
      by-complete ho (TyVar v) x r h e = ap (λ z. type_by hidden opened (z ++ r)) h.text
          ∙ ap (mapped TyVar) (vr.complete v (variable_word v) r (record { named = h.named; text = refl }) e)
      by-complete ho (TyOp w NoTys) x r h e =
          let k = wf w h.named.0 in
          ap (λ z. type_by hidden opened (z ++ r)) (h.text ∙ k.is)
          ∙ (λ i. cond (differs starts_word 39 k.byte refl k.tells i) (mapped TyVar (variable_at (k.rest ++ r)))
          (cond (differs starts_word 40 k.byte refl k.tells i) (opened (k.rest ++ r))
          (mapped (λ m. TyOp m NoTys) (operator_at hidden (k.byte ∷ (k.rest ++ r))))))
          ∙ ap (λ z. mapped (λ m. TyOp m NoTys) (operator_at hidden (z ++ r))) (sym k.is)
          ∙ ap (mapped (λ m. TyOp m NoTys))
          (wr.complete w (word hidden (OpSymbol w)) r (record { named = h.named.0; text = refl }) e)
      by-complete ho (TyOp w (MoreTys a ts)) x r h e = go (is_function names (TyOp w (MoreTys a ts))) h.text where
        go : (b : Bool)
            → x ≡ cond b (codes "(" ++ type_text hidden a ++ codes " ->" ++ types_text hidden ts ++ codes ")")
            (codes "(" ++ word hidden (OpSymbol w) ++ types_text hidden (MoreTys a ts) ++ codes ")")
            → type_by hidden opened (x ++ r) ≡ Got (TyOp w (MoreTys a ts)) r
        go true q = behind_it _ q
          where
            behind_it : (y : List ℕ) → x ≡ 40 ∷ y → type_by hidden opened (x ++ r) ≡ Got (TyOp w (MoreTys a ts)) r
            behind_it y q = ap (λ z. type_by hidden opened (z ++ r)) q
                ∙ ho (TyOp w (MoreTys a ts)) y r (subst (SaysType hidden n (TyOp w (MoreTys a ts))) q h)
        go false q = behind_it _ q
          where
            behind_it : (y : List ℕ) → x ≡ 40 ∷ y → type_by hidden opened (x ++ r) ≡ Got (TyOp w (MoreTys a ts)) r
            behind_it y q = ap (λ z. type_by hidden opened (z ++ r)) q
                ∙ ho (TyOp w (MoreTys a ts)) y r (subst (SaysType hidden n (TyOp w (MoreTys a ts))) q h)

      by-follows : ((s : List ℕ) → Follows (SaysType hidden n) (type_by hidden opened) (40 ∷ s) (opened s))
          → (s : List ℕ)
          → Follows (SaysType hidden n) (type_by hidden opened) s (type_by hidden opened s)
      by-follows ho [] = halts_here (SaysType hidden n) (type_by hidden opened) [] NoForm (some_type hidden)
          (codes "'a")
          (some-says hidden n) (at_end (λ m. type_by hidden opened m ≡ Halted NoForm m) refl)
      by-follows ho (b ∷ s) = variable (b == 39) refl where
        f : List ℕ → Reading (Ty Name)
        f z = mapped (λ m. TyOp m NoTys) (operator_at hidden z)

        other : (t : Bool) → (b == 39) ≡ false → (b == 40) ≡ t
            → Follows (SaysType hidden n) (type_by hidden opened) (b ∷ s)
            (cond t (opened s) (mapped (λ m. TyOp m NoTys) (operator_at hidden (b ∷ s))))
        other true d e = subst (λ c. Follows (SaysType hidden n) (type_by hidden opened) (c ∷ s) (opened s))
            (sym (eqb-true b 40 e)) (ho s)
        other false d e = same_at (SaysType hidden n) (λ z. mapped (λ m. TyOp m NoTys) (operator_at hidden z))
            (type_by hidden opened) b
            (λ t i. cond (d i) (mapped TyVar (variable_at t))
            (cond (e i) (opened t) (mapped (λ m. TyOp m NoTys) (operator_at hidden (b ∷ t)))))
            s (mapped (λ m. TyOp m NoTys) (operator_at hidden (b ∷ s)))
            (mapped-follows (SaysWord hidden) (SaysType hidden n) (operator_at hidden) (λ m. TyOp m NoTys) word-text
            (b ∷ s)
            (operator_at hidden (b ∷ s)) (wr.follows (b ∷ s)))

        variable : (t : Bool) → (b == 39) ≡ t → Follows (SaysType hidden n) (type_by hidden opened) (b ∷ s)
            (cond t (mapped TyVar (variable_at s))
            (cond (b == 40) (opened s) (mapped (λ m. TyOp m NoTys) (operator_at hidden (b ∷ s)))))
        variable true e = behind SaysVariable (SaysType hidden n) variable_at (type_by hidden opened) TyVar b
            (λ t i. cond (e i) (mapped TyVar (variable_at t))
            (cond (b == 40) (opened t) (mapped (λ m. TyOp m NoTys) (operator_at hidden (b ∷ t)))))
            (λ v x h. subst (λ c. SaysType hidden n (TyVar v) (c ∷ x)) (sym (eqb-true b 39 e)) (variable-text v x h))
            s
            (variable_at s) (vr.follows s)
        variable false e = other (b == 40) e refl

    no_parens : (t : Ty Name) (x : List ℕ) → SaysType hidden 0 t (40 ∷ x) → ⊥
    no_parens (TyVar v) x h = other_byte 40 39 x _ refl h.text
    no_parens (TyOp w NoTys) x h = let k = wf w h.named.0 in no_word k (h.text ∙ k.is) where
      no_word : (k : Begins starts_word true (word hidden (OpSymbol w))) → 40 ∷ x ≡ k.byte ∷ k.rest → ⊥
      no_word k e = let q : k.byte ≡ 40 = cc in
          let z : starts_word 40 ≡ true = subst (λ b. starts_word b ≡ true) q k.tells in cc
    no_parens (TyOp w (MoreTys a ts)) x h = let k = h.within in omega (arith, k)

    no_change : (P : Ty Name → List ℕ → Type 0) (f : List ℕ → Reading (Ty Name)) (s : List ℕ) (o : Reading (Ty Name))
        → Follows P f s (mapped (λ u. u) o) → Follows P f s o
    no_change P f s (Got a r) h = h
    no_change P f s (Halted k r) h = h

    -- the reader of types with room for n open parentheses reads exactly the texts of types with at most n open, and
    -- halts where none of them goes on
    pub type-reads : (n : ℕ) → Reads (SaysType hidden n) IsEnd (type_at hidden n)
    type-reads zero = record {
      complete = by-complete 0 (λ s. Halted OneTooMany (40 ∷ s)) (λ t x r h. absurd (no_parens t x h));
      follows =
          by-follows 0 (λ s. Halted OneTooMany (40 ∷ s))
          (λ s. halts_here (SaysType hidden 0) (type_at hidden 0) (40 ∷ s) OneTooMany (some_type hidden) (codes "'a")
          (some-says hidden 0)
          (at_byte 40 s (λ m. type_at hidden 0 m ≡ Halted OneTooMany m) (λ t. refl)));
    }
    type-reads (suc n) =
        let hr = type-reads n in
        let h = closed-reads hidden n (type_at hidden n) hr wr wf in
        record {
          complete =
              by-complete (suc n) (closed_type_at hidden (type_at hidden n)) (λ t x r w. h.complete t x r w tt);
          follows =
              by-follows (suc n) (closed_type_at hidden (type_at hidden n))
              (λ s. no_change (SaysType hidden (suc n)) (type_at hidden (suc n)) (40 ∷ s)
              (closed_type_at hidden (type_at hidden n) s)
              (behind (λ t x. SaysType hidden (suc n) t (40 ∷ x)) (SaysType hidden (suc n))
              (closed_type_at hidden (type_at hidden n)) (type_at hidden (suc n)) (λ u. u) 40
              (λ z. sym (unchanged (closed_type_at hidden (type_at hidden n) z))) (λ t x w. w) s
              (closed_type_at hidden (type_at hidden n) s) (h.follows s)));
        }
