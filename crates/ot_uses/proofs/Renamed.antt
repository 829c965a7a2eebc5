-- What roots lead to, with other names.
use Rattle.std.proofs.Common.{◌≡◌, ℕ, List, map, sym, ap, subst, ◌∙◌}
use Rattle.ot_logic.specs.Lists.{IsMember}
use Rattle.ot_trace.specs.Origins.{Origin, Outcome, operands, symbols, map_origin}
use Rattle.ot_trace.specs.Reach.{IsReached, Root, Operand, OfTheorem, OfSymbol}
use Rattle.ot_written.proofs.Renaming.{operands-map, symbols-map, origin-injective}
use Rattle.ot_logic.proofs.Members.{IsMember-map, IsMember-map_back}

module _ {M N : Type 0} (f : M → N) where
  abbrev to : Origin M → Origin N
  to = map_origin f

  outcome-from : (o : Origin M) (j : ℕ) (d : Origin N) → to o ≡ Outcome j d → (c : Origin M) × (o ≡ Outcome j c)
      × (to c ≡ d)
  outcome-from (Outcome k c) j d e = let a : k ≡ j = cc in let b : to c ≡ d = cc in (c, ap (λ n. Outcome n c) a, b)
  outcome-from _ j d e = absurd cc

  module _ (roots ds : List (Origin M)) where
    abbrev Reached : Origin N → Type 0
    Reached = IsReached (map to roots) (map to ds)

    pub reached-to : (o : Origin M) → IsReached roots ds o → Reached (to o)
    reached-to o (Root _ m) = Root (to o) (IsMember-map to o roots m)
    reached-to p (Operand o _ a m) =
        Operand (to o) (to p) (reached-to o a)
        (subst (IsMember (to p)) (sym (operands-map f o)) (IsMember-map to p (operands o) m))
    reached-to d (OfTheorem j _ a) = OfTheorem j (to d) (reached-to (Outcome j d) a)
    reached-to d (OfSymbol o _ a m s) =
        OfSymbol (to o) (to d) (reached-to o a) (IsMember-map to d ds m)
        (subst (IsMember (to o)) (sym (symbols-map f d)) (IsMember-map to o (symbols d) s))

    module _ (injective : (x y : M) → f x ≡ f y → x ≡ y) where
      comes : (x : Origin N) → Reached x → (o : Origin M) × (to o ≡ x) × IsReached roots ds o
      comes x (Root _ m) = let (o, here, e) = IsMember-map_back to x roots m in (o, e, Root o here)
      comes p (Operand x _ a m) =
          let (o, e, r) = comes x a in
          let (q, here, is) =
          IsMember-map_back to p (operands o) (subst (IsMember p) (ap operands (sym e) ∙ operands-map f o) m) in
          (q, is, Operand o q r here)
      comes d (OfTheorem j _ a) =
          let (o, e, r) = comes (Outcome j d) a in
          let (c, is, to_d) = outcome-from o j d e in
          (c, to_d, OfTheorem j c (subst (IsReached roots ds) is r))
      comes d (OfSymbol x _ a m s) =
          let (o, e, r) = comes x a in
          let (c, here, is) = IsMember-map_back to d ds m in
          let (q, symbol, is_x) =
          IsMember-map_back to x (symbols c) (subst (IsMember x) (ap symbols (sym is) ∙ symbols-map f c) s) in
          let one : q ≡ o = origin-injective f injective q o (is_x ∙ sym e) in
          (c, is, OfSymbol o c r here (subst (λ z. IsMember z (symbols c)) one symbol))

      pub reached-from : (o : Origin M) → Reached (to o) → IsReached roots ds o
      reached-from o a = let (p, e, r) = comes (to o) a in
          subst (IsReached roots ds) (origin-injective f injective p o e) r
