-- The records of a word that stands for several make its sequent.
use Rattle.std.specs.Prelude.{is_some}
use Rattle.std.proofs.Common.{◌≡◌, true, List, [], Ok, refl, ap, ◌∙◌, inl, inr}
use Rattle.ot_logic.specs.Lists.{IsSameSet}
use Rattle.ot_logic.specs.Trees.{Alphabet, Ty, Tm, Con, App, Sequent}
use Rattle.ot_logic.specs.Hol.{same_ty, fun_ty, bool_ty, as_fun_ty, type_of, HasType}
use Rattle.ot_logic.specs.Hol.{same_tm, equation, as_equation, minus, union, sequent_of}
use Rattle.ot_logic.specs.Answers.{◌>>=◌, unless, some_or}
use Rattle.ot_laws.proofs.Tests.{Tells, same_ty-is, same_tm-is}
use Rattle.ot_laws.proofs.Typing.{type_of-is, as_fun_ty-fun}
use Rattle.ot_laws.proofs.Equations.{as_equation-equation}
use Rattle.ot_laws.proofs.Hypotheses.{IsMember-union, IsMember-minus}
use Rattle.ot_log_format.specs.Tokens.{BadStep}
use Rattle.ot_log_format.specs.Steps.{Step, is_well_typed, sides_of, refl_step, eq_mp_step, app_thm_step}

module _ {N : Type 0} (alphabet : Alphabet N) (tells : Tells alphabet) where
  -- ---- steps on equations
  sides-are : (q : Sequent N) (ty : Ty N) (a b : Tm N) → q.concl ≡ equation alphabet ty a b
      → sides_of alphabet q ≡ Ok (ty, a, b)
  sides-are q ty a b e =
      ap (λ z. some_or BadStep (as_equation alphabet z)) e
      ∙ ap (some_or BadStep) (as_equation-equation alphabet tells ty a b)

  same_ty-self : (t : Ty N) → same_ty alphabet t t ≡ true
  same_ty-self t = (same_ty-is alphabet tells t t).1 refl

  same_tm-self : (t : Tm N) → same_tm alphabet t t ≡ true
  same_tm-self t = (same_tm-is alphabet tells t t).1 refl

  pub refl-gives : (t : Tm N) (ty : Ty N) → HasType alphabet t ty
      → refl_step alphabet t ≡ Ok (sequent_of alphabet (equation alphabet ty t t))
  refl-gives t ty h =
      let typed : is_well_typed alphabet t ≡ true = ap is_some h in
      let made : Ty N → Step alphabet = λ z. Ok (sequent_of alphabet (equation alphabet z t t)) in
      ap (λ b. unless BadStep b >>= λ _. made (type_of alphabet t)) typed ∙ ap made (type_of-is alphabet t ty h)

  pub eq_mp-gives : (a b : Sequent N) (ty : Ty N) (p q : Tm N) → a.concl ≡ equation alphabet ty p q → b.concl ≡ p
      → eq_mp_step alphabet a b ≡ Ok (record { hyps = union alphabet a.hyps b.hyps; concl = q })
  eq_mp-gives a b ty p q e f =
      let go : (Ty N × Tm N × Tm N) → Step alphabet =
      λ s. unless BadStep (same_tm alphabet s.1 b.concl)
      >>= λ _. Ok (record { hyps = union alphabet a.hyps b.hyps; concl = s.2 }) in
      let same : same_tm alphabet p b.concl ≡ true = ap (same_tm alphabet p) f ∙ same_tm-self p in
      ap (λ r. r >>= go) (sides-are a ty p q e)
      ∙ ap (λ z. unless BadStep z >>= λ _. Ok (record { hyps = union alphabet a.hyps b.hyps; concl = q })) same

  pub app_thm-gives : (a b : Sequent N) (x y : Ty N) (f g u v : Tm N)
      → a.concl ≡ equation alphabet (fun_ty alphabet x y) f g
      → b.concl ≡ equation alphabet x u v
      → app_thm_step alphabet a b
      ≡ Ok (record { hyps = union alphabet a.hyps b.hyps; concl = equation alphabet y (App f u) (App g v) })
  app_thm-gives a b x y f g u v d e =
      let made : Ty N → Step alphabet =
      λ z. Ok (record { hyps = union alphabet a.hyps b.hyps; concl = equation alphabet z (App f u) (App g v) }) in
      let last : (Ty N × Ty N) → Step alphabet = λ parts. unless BadStep (same_ty alphabet parts.0 x)
      >>= λ _. made parts.1 in
      let second : (Ty N × Tm N × Tm N) → (Ty N × Tm N × Tm N) → Step alphabet =
      λ s t. some_or BadStep (as_fun_ty alphabet s.0)
      >>= λ parts. unless BadStep (same_ty alphabet parts.0 t.0)
      >>= λ _. Ok
      (record {
        hyps = union alphabet a.hyps b.hyps;
        concl = equation alphabet parts.1 (App s.1 t.1)
            (App s.2 t.2);
      }) in
      ap (λ r. r >>= λ s. sides_of alphabet b >>= second s) (sides-are a (fun_ty alphabet x y) f g d)
      ∙ ap (λ r. r >>= second (fun_ty alphabet x y, f, g)) (sides-are b x u v e)
      ∙ ap (λ o. some_or BadStep o >>= last) (as_fun_ty-fun alphabet tells x y)
      ∙ ap (λ z. unless BadStep z >>= λ _. made y) (same_ty-self x)

  -- the constant `=` at a type
  pub equals-typed : (ty : Ty N)
      → HasType alphabet (Con alphabet.equals (fun_ty alphabet ty (fun_ty alphabet ty (bool_ty alphabet))))
      (fun_ty alphabet ty (fun_ty alphabet ty (bool_ty alphabet)))
  equals-typed ty = refl

  -- ---- the hypotheses of the last record are those of the word
  pub sym-hyps : (g : List (Tm N)) → IsSameSet (union alphabet (union alphabet (union alphabet [] g) []) []) g
  sym-hyps g = record {
    to = λ x i. elim ((IsMember-union alphabet tells x (union alphabet (union alphabet [] g) []) []).0 i) [
      | inl j ↦ elim ((IsMember-union alphabet tells x (union alphabet [] g) []).0 j) [
        | inl k ↦ elim ((IsMember-union alphabet tells x [] g).0 k) [ inl n ↦ absurd n | inr m ↦ m ]
        | inr k ↦ absurd k
      ]
      | inr j ↦ absurd j
    ];
    back =
        λ x m. (IsMember-union alphabet tells x (union alphabet (union alphabet [] g) []) []).1
        (inl ((IsMember-union alphabet tells x (union alphabet [] g) []).1
        (inl ((IsMember-union alphabet tells x [] g).1 (inr m)))));
  }

  pub chain-hyps : (g h : List (Tm N)) → IsSameSet (union alphabet (union alphabet [] h) g) (union alphabet g h)
  chain-hyps g h = record {
    to =
        λ x i. (IsMember-union alphabet tells x g h).1
        (elim ((IsMember-union alphabet tells x (union alphabet [] h) g).0 i) [
          | inl j ↦ elim ((IsMember-union alphabet tells x [] h).0 j) [ inl n ↦ absurd n | inr m ↦ inr m ]
          | inr j ↦ inl j
        ]);
    back =
        λ x i. (IsMember-union alphabet tells x (union alphabet [] h) g).1
        (elim ((IsMember-union alphabet tells x g h).0 i)
        [ inl j ↦ inr j | inr j ↦ inl ((IsMember-union alphabet tells x [] h).1 (inr j)) ]);
  }

  -- lemma's hypotheses L, the other's M: the word gives L and M minus a
  pub discharge-hyps : (l m : List (Tm N)) (a b : Tm N)
      → IsSameSet (union alphabet (union alphabet (minus alphabet b l) (minus alphabet a m)) l)
      (union alphabet l (minus alphabet a m))
  discharge-hyps l m a b =
      let inner = union alphabet (minus alphabet b l) (minus alphabet a m) in
      record {
        to = λ x i. (IsMember-union alphabet tells x l (minus alphabet a m)).1
            (elim ((IsMember-union alphabet tells x inner l).0 i) [
              | inl j ↦ elim ((IsMember-union alphabet tells x (minus alphabet b l) (minus alphabet a m)).0 j) [
                | inl k ↦ inl (IsMember-minus alphabet tells x b l k).0
                | inr k ↦ inr k
              ]
              | inr j ↦ inl j
            ]);
        back =
            λ x i. (IsMember-union alphabet tells x inner l).1
            (elim ((IsMember-union alphabet tells x l (minus alphabet a m)).0 i) [
              | inl j ↦ inr j
              | inr j ↦ inl ((IsMember-union alphabet tells x (minus alphabet b l) (minus alphabet a m)).1 (inr j))
            ]);
      }
