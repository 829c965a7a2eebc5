-- The parts of origins.
use Rattle.std.proofs.Common.{◌≡◌, ℕ, inl, inr, ◌++◌, refl, sym, subst}
use Rattle.ot_logic.specs.Lists.{IsMember}
use Rattle.ot_trace.specs.Origins.{Origin, Origins, Number, Named, Make, Define, Outcome}
use Rattle.ot_trace.specs.Origins.{NoOrigins, MoreOrigins, listed, operands, parts, parts_all}
use Rattle.ot_logic.proofs.Members.{IsMember-cases, IsMember-left, IsMember-right}

module _ {N : Type 0} where
  pub part-self : (o : Origin N) → IsMember o (parts o)
  part-self (Number k) = inl refl
  part-self (Named n) = inl refl
  part-self (Make c os) = inl refl
  part-self (Define c os) = inl refl
  part-self (Outcome j d) = inl refl

  part-listed : (os : Origins N) (p : Origin N) → IsMember p (listed os) → IsMember p (parts_all os)
  part-listed NoOrigins p m = elim m [ ]
  part-listed (MoreOrigins o os) p (inl e) =
      subst (λ z. IsMember z (parts o ++ parts_all os)) e (IsMember-left o (parts o) (parts_all os) (part-self o))
  part-listed (MoreOrigins o os) p (inr m) = IsMember-right p (parts o) (parts_all os) (part-listed os p m)

  mutual
    -- an operand of a part is a part
    pub part-operand : (r o p : Origin N) → IsMember o (parts r) → IsMember p (operands o) → IsMember p (parts r)
    part-operand (Number k) o p (inl e) m = elim (subst (λ z. IsMember p (operands z)) (sym e) m) [ ]
    part-operand (Number k) o p (inr n) m = elim n [ ]
    part-operand (Named k) o p (inl e) m = elim (subst (λ z. IsMember p (operands z)) (sym e) m) [ ]
    part-operand (Named k) o p (inr n) m = elim n [ ]
    part-operand (Make c os) o p (inl e) m = inr (part-listed os p (subst (λ z. IsMember p (operands z)) (sym e) m))
    part-operand (Make c os) o p (inr n) m = inr (part-operands os o p n m)
    part-operand (Define c os) o p (inl e) m = inr (part-listed os p (subst (λ z. IsMember p (operands z)) (sym e) m))
    part-operand (Define c os) o p (inr n) m = inr (part-operands os o p n m)
    part-operand (Outcome j d) o p (inl e) m = elim (subst (λ z. IsMember p (operands z)) (sym e) m) [ ]
    part-operand (Outcome j d) o p (inr n) m = inr (part-operand d o p n m)

    pub part-operands : (os : Origins N) (o p : Origin N) → IsMember o (parts_all os) → IsMember p (operands o)
        → IsMember p (parts_all os)
    part-operands NoOrigins o p n m = elim n [ ]
    part-operands (MoreOrigins r os) o p n m =
        elim (IsMember-cases o (parts r) (parts_all os) n) [
          | inl a ↦ IsMember-left p (parts r) (parts_all os)
              (part-operand r o p a m)
          | inr b ↦ IsMember-right p (parts r) (parts_all os) (part-operands os o p b m)
        ]

  mutual
    -- the definition of a theorem that is a part
    pub part-theorem : (r d : Origin N) (j : ℕ) → IsMember (Outcome j d) (parts r) → IsMember d (parts r)
    part-theorem (Number k) d j (inl e) = absurd (cc)
    part-theorem (Number k) d j (inr n) = elim n [ ]
    part-theorem (Named k) d j (inl e) = absurd (cc)
    part-theorem (Named k) d j (inr n) = elim n [ ]
    part-theorem (Make c os) d j (inl e) = absurd (cc)
    part-theorem (Make c os) d j (inr n) = inr (part-theorems os d j n)
    part-theorem (Define c os) d j (inl e) = absurd (cc)
    part-theorem (Define c os) d j (inr n) = inr (part-theorems os d j n)
    part-theorem (Outcome i x) d j (inl e) = let f : x ≡ d = cc in
        inr (subst (λ z. IsMember z (parts x)) f (part-self x))
    part-theorem (Outcome i x) d j (inr n) = inr (part-theorem x d j n)

    pub part-theorems : (os : Origins N) (d : Origin N) (j : ℕ) → IsMember (Outcome j d) (parts_all os)
        → IsMember d (parts_all os)
    part-theorems NoOrigins d j n = elim n [ ]
    part-theorems (MoreOrigins r os) d j n =
        elim (IsMember-cases (Outcome j d) (parts r) (parts_all os) n) [
          | inl a ↦ IsMember-left d (parts r) (parts_all os) (part-theorem r d j a)
          | inr b ↦ IsMember-right d (parts r)
              (parts_all os) (part-theorems os d j b)
        ]
