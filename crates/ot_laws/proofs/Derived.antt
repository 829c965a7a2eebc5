-- Rules that follow from the primitive ones.
use Rattle.std.proofs.Common.{List, [], ◌++◌, refl}
use Rattle.std.proofs.lemmas.List.{append-nil}
use Rattle.ot_logic.specs.Lists.{IsSameSet}
use Rattle.ot_logic.specs.Trees.{Alphabet, Ty, Tm, Con, App, Sequent, Definition}
use Rattle.ot_logic.specs.Hol.{fun_ty, bool_ty, HasType, equation, minus, Derivable}
use Rattle.ot_logic.specs.Hol.{Refl, EqMp, AppThm, DeductAntisym, SameSet}
use Rattle.ot_laws.proofs.Tests.{Tells}
use Rattle.ot_laws.proofs.Typing.{app-typed}
use Rattle.ot_laws.proofs.Sets.{part-append}
use Rattle.ot_laws.proofs.Hypotheses.{IsMember-minus}
use Rattle.ot_logic.proofs.Members.{IsMember-left, IsMember-right}

-- the constant `=` at a type
abbrev equals_at : {N : Type 0} → Alphabet N → Ty N → Tm N
equals_at alphabet ty = Con alphabet.equals (fun_ty alphabet ty (fun_ty alphabet ty (bool_ty alphabet)))

module _ {N : Type 0} (alphabet : Alphabet N) (tells : Tells alphabet) (al : List (Sequent N))
    (dl : List (Definition N)) where
  pub sym-derivable : (g : List (Tm N)) (a b : Tm N) (ty : Ty N) → HasType alphabet a ty
      → Derivable alphabet al dl g (equation alphabet ty a b) → Derivable alphabet al dl g (equation alphabet ty b a)
  sym-derivable g a b ty w d =
      let e : Derivable alphabet al dl [] (equation alphabet (fun_ty alphabet ty (fun_ty alphabet ty (bool_ty alphabet))) (equals_at alphabet ty) (equals_at alphabet ty)) = Refl refl in
      let r : Derivable alphabet al dl ((g ++ []) ++ []) (equation alphabet ty b a) =
      EqMp (AppThm (AppThm e d) (Refl w)) (Refl w) in
      simp append-nil at r

  pub trans-derivable : (g h : List (Tm N)) (a b c : Tm N) (ty : Ty N) → HasType alphabet a ty
      → Derivable alphabet al dl g (equation alphabet ty a b) → Derivable alphabet al dl h (equation alphabet ty b c)
      → Derivable alphabet al dl (h ++ g) (equation alphabet ty a c)
  trans-derivable g h a b c ty w d k =
      let t : HasType alphabet (App (equals_at alphabet ty) a) (fun_ty alphabet ty (bool_ty alphabet)) =
      app-typed alphabet tells [] (equals_at alphabet ty) a ty (fun_ty alphabet ty (bool_ty alphabet)) refl w in
      EqMp (AppThm (Refl t) k) d

  pub prove_hyp-derivable : (g h : List (Tm N)) (p q : Tm N) → Derivable alphabet al dl g p
      → Derivable alphabet al dl h q → Derivable alphabet al dl (g ++ minus alphabet p h) q
  prove_hyp-derivable g h p q d e = SameSet same (EqMp (DeductAntisym d e) d)
    where
      same : IsSameSet ((minus alphabet q g ++ minus alphabet p h) ++ g) (g ++ minus alphabet p h)
      same = record {
        to = part-append (minus alphabet q g ++ minus alphabet p h) g (g ++ minus alphabet p h)
            (part-append (minus alphabet q g) (minus alphabet p h) (g ++ minus alphabet p h)
            (λ x i. IsMember-left x g (minus alphabet p h) (IsMember-minus alphabet tells x q g i).0)
            (λ x i. IsMember-right x g (minus alphabet p h) i))
            (λ x i. IsMember-left x g (minus alphabet p h) i);
        back = part-append g (minus alphabet p h) ((minus alphabet q g ++ minus alphabet p h) ++ g)
            (λ x i. IsMember-right x (minus alphabet q g ++ minus alphabet p h) g i)
            (λ x i. IsMember-left x (minus alphabet q g ++ minus alphabet p h) g
            (IsMember-right x (minus alphabet q g) (minus alphabet p h) i));
      }
