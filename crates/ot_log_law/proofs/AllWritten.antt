-- Each theorem that is needed is written.
use Rattle.std.proofs.Common.{◌≡◌, ℕ, true, List, [], ◌∷◌, Ok, sym, ap, subst, ◌∙◌, inl, inr, ◌⊎◌}
use Rattle.ot_logic.specs.Lists.{IsMember}
use Rattle.ot_logic.specs.Names.{Name}
use Rattle.ot_logic.specs.Trees.{Sequent}
use Rattle.ot_logic.specs.declared.command.Cmd.{Cmd}
use Rattle.ot_trace.specs.Origins.{Origin, Origins, Number, Named, Make, Define}
use Rattle.ot_trace.specs.Origins.{Outcome, NoOrigins, MoreOrigins, listed, operands}
use Rattle.ot_trace.specs.Reach.{IsReached, Root, Operand, OfTheorem, OfSymbol}
use Rattle.ot_written.proofs.Filters.{bool_cases}
use Rattle.ot_machine.specs.Objects.{Object, theorem}
use Rattle.ot_machine.specs.Makers.{Read, maker}
use Rattle.ot_machine.specs.Values.{value, values, applied}
use Rattle.ot_article.proofs.Operands.{made-of}
use Rattle.ot_log_law.specs.Derived.{makes_theorem}
use Rattle.ot_log_law.specs.Writing.{Written}
use Rattle.ot_log_law.proofs.Steps.{step-of}
use Rattle.ot_log_law.proofs.Free.{IsFree, IsPlain, EachFree, EachPlain, step-plain, made-free}
use Rattle.ot_log_law.proofs.Holds.{HasTheorem, HasAll}
use Rattle.ot_log_law.proofs.Wrote.{no-theorem}
use Rattle.ot_logic.proofs.Results.{bind-ok, same_Ok}

-- what has no theorem in it is none
free-all : (x : Written) (os : Origins Name) (vs : List Object) → values os ≡ Ok vs → EachFree vs → HasAll x os
free-all x NoOrigins vs e h = tt
free-all x (MoreOrigins o os) vs e h =
    let a = bind-ok (value o) _ vs e in
    let b = bind-ok (values os) _ vs a.2 in
    let f = subst EachFree (sym (same_Ok (a.0 ∷ b.0) vs b.2)) h in
    (λ q g. absurd (subst IsFree (one (value o) a.0 q a.1 g) f.0), free-all x os b.0 b.1 f.1)
  where
    one : (r : Read) (v : Object) (q : Sequent Name) → r ≡ Ok v → r ≡ Ok (theorem q) → v ≡ theorem q
    one r v q c d = cc

free-plain : (vs : List Object) → EachFree vs → EachPlain vs
free-plain [] h = tt
free-plain (v ∷ vs) h = (inl h.0, free-plain vs h.1)

-- definitions with values of their operands, each plain
pub record IsPremised (x : Written) (d : Origin Name) : Type 0 where
  pub word : Cmd
  pub operands : Origins Name
  pub is : d ≡ Define word operands
  pub objects : List Object
  pub values_are : values operands ≡ Ok objects
  pub plain : EachPlain objects
  pub has : HasAll x operands

-- an origin with a plain value, which was written where that is a theorem
abbrev pub IsGood : Written → Origin Name → Type 0
IsGood x o = (v : Object) × (value o ≡ Ok v) × IsPlain v × HasTheorem x o

module _ (x : Written) (roots ds found : List (Origin Name))
    (closed : (w : Cmd) (os : Origins Name) (k : ℕ) → IsMember (Make w os, k) x.theorems → HasAll x os)
    (premised : (d : Origin Name) → IsMember d found → IsPremised x d)
    (rooted : (o : Origin Name) → IsMember o roots → IsGood x o)
    (of_theorem : (j : ℕ) (d : Origin Name) → IsReached roots ds (Outcome j d) → IsMember d ds)
    (needed : (d : Origin Name) → IsMember d ds → IsReached roots ds d → IsMember d found) where
  abbrev pub Good : Origin Name → Type 0
  Good o = IsMember o found ⊎ IsGood x o

  each-good : (os : Origins Name) (vs : List Object) → values os ≡ Ok vs → EachPlain vs → HasAll x os
      → (p : Origin Name)
      → IsMember p (listed os) → Good p
  each-good NoOrigins vs e h has p m = absurd m
  each-good (MoreOrigins o os) vs e h has p m =
      let a = bind-ok (value o) _ vs e in
      let b = bind-ok (values os) _ vs a.2 in
      let f = subst EachPlain (sym (same_Ok (a.0 ∷ b.0) vs b.2)) h in
      elim m [
        | inl i ↦ subst Good i (inr (a.0, a.1, f.0, has.0))
        | inr i ↦ each-good os b.0 b.1 f.1 has.1 p i
      ]

  make-good : (w : Cmd) (os : Origins Name) (p : Origin Name) → IsGood x (Make w os) → IsMember p (listed os) → Good p
  make-good w os p (v, e, plain, has) m =
      let a = bind-ok (values os) (applied (maker w)) v e in
      let made = made-of (maker w) a.0 v a.2 in
      elim plain [
        | inl f ↦
            (let free = made-free w a.0 v made f in
            each-good os a.0 a.1 (free-plain a.0 free) (free-all x os a.0 a.1 free) p m)
        | inr t ↦ (let value_is : value (Make w os) ≡ Ok (theorem t.0) = e ∙ ap Ok t.1 in
            let there = has t.0 value_is in
            let makes : makes_theorem w ≡ true =
            elim (bool_cases (makes_theorem w)) [ inl y ↦ y | inr n ↦ absurd (no-theorem w os t.0 n value_is) ] in
            let s = step-of w a.0 v makes made in
            each-good os a.0 a.1 (step-plain w a.0 s.0 s.2) (closed w os there.0 there.1) p m)
      ]

  operand-good : (o p : Origin Name) → Good o → IsMember p (operands o) → Good p
  operand-good (Make w os) p (inr g) m = make-good w os p g m
  operand-good (Make w os) p (inl i) m = let d = premised (Make w os) i in absurd (let e = d.is in cc)
  operand-good (Define w os) p (inr g) m = absurd (let e = g.1 in cc)
  operand-good (Define w os) p (inl i) m =
      let d = premised (Define w os) i in
      let same : d.operands ≡ os = let e = d.is in cc in
      each-good d.operands d.objects d.values_are d.plain d.has p (subst (λ z. IsMember p (listed z)) (sym same) m)
  operand-good (Number k) p g m = absurd m
  operand-good (Named n) p g m = absurd m
  operand-good (Outcome j d) p g m = absurd m

  pub all-good : (o : Origin Name) → IsReached roots ds o → Good o
  all-good o (Root _ m) = inr (rooted o m)
  all-good p (Operand o _ a m) = operand-good o p (all-good o a) m
  all-good d (OfTheorem j _ a) = inl (needed d (of_theorem j d a) (OfTheorem j d a))
  all-good d (OfSymbol o _ a m s) = inl (needed d m (OfSymbol o d a m s))

  -- so is each that is a theorem
  pub theorem-written : (w : Cmd) (os : Origins Name) → IsReached roots ds (Make w os) → HasTheorem x (Make w os)
  theorem-written w os r = elim (all-good (Make w os) r) [
    | inl i ↦ (let d = premised (Make w os) i in absurd (let e = d.is in cc))
    | inr g ↦ g.3
  ]
