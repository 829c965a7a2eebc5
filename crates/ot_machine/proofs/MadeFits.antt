-- What a word makes is the value of its origin.
use Rattle.std.specs.Prelude.{◌≡◌, ◌≤◌, ℕ, List, [], ◌∷◌, length, Ok}
use Rattle.std.specs.List.{All}
use Rattle.std.proofs.Common.{refl, sym, ap, ◌∙◌, arith, subst}
use Rattle.ot_logic.specs.Faults.{StackEmpty}
use Rattle.ot_logic.specs.Answers.{◌>>=◌}
use Rattle.ot_logic.specs.declared.command.Cmd.{Cmd}
use Rattle.ot_trace.specs.Origins.{Make, NoOrigins, MoreOrigins}
use Rattle.ot_machine.specs.Objects.{Object}
use Rattle.ot_machine.specs.States.{Entry}
use Rattle.ot_machine.specs.Places.{object_at, top, origins_of}
use Rattle.ot_machine.specs.Makers.{Read, Maker, of_none, of_top, of_two, no_maker, arity, made_by, maker}
use Rattle.ot_machine.specs.Rows.{made}
use Rattle.ot_machine.specs.Values.{values, applied}
use Rattle.ot_machine.specs.Lawful.{Basis, EntryFits, AreOn, IsTaken}
use Rattle.ot_machine.proofs.Tops.{same-ok, top-none, top-one, top-two}
use Rattle.ot_machine.proofs.Strict.{IsStrict, strict}
use Rattle.ot_logic.proofs.Results.{bind-ok}

module _ (b : Basis) where
  -- operands that are values of their origins
  pub record AreOperands (m : Maker) (stack : List Entry) (o : Object) : Type 0 where
    pub is : (values (origins_of (top (arity m) stack)) >>= applied m) ≡ Ok o
    pub on : AreOn b (origins_of (top (arity m) stack))

  abbrev pub read : List Entry → ℕ → Read
  read stack n = object_at n stack

  -- an operand that is there
  one-there : (f : Read → Read) (stack : List Entry) (o : Object) → All (EntryFits b) stack
      → f (object_at 0 stack) ≡ Ok o → 1 ≤ length stack → AreOperands (of_top f) stack o
  one-there f stack o all e le =
      let t = top-one (EntryFits b) stack all le in
      let x = t.0 in
      let there : f (Ok x.object) ≡ Ok o = ap (λ r. f (r >>= λ e. Ok e.object)) (sym t.1) ∙ e in
      let same : origins_of (top 1 stack) ≡ MoreOrigins x.origin NoOrigins = ap origins_of t.3 in
      record {
        is = ap (λ os. values os >>= applied (of_top f)) same
            ∙ ap (λ v. (v >>= λ v. Ok (v ∷ [])) >>= applied (of_top f)) t.2.value_is ∙ there;
        on = subst (AreOn b) (sym same) (t.2.rests, tt);
      }

  two-there : (f : Read → Read → Read) (stack : List Entry) (o : Object) → All (EntryFits b) stack
      → f (object_at 0 stack) (object_at 1 stack) ≡ Ok o → 2 ≤ length stack → AreOperands (of_two f) stack o
  two-there f stack o all e le =
      let t = top-two (EntryFits b) stack all le in
      let x = t.0 in
      let y = t.1 in
      let there : f (Ok x.object) (Ok y.object) ≡ Ok o =
      (λ i. f (sym t.2 i >>= λ e. Ok e.object) (sym t.3 i >>= λ e. Ok e.object)) ∙ e in
      let same : origins_of (top 2 stack) ≡ MoreOrigins y.origin (MoreOrigins x.origin NoOrigins) =
      ap origins_of t.6 in
      record {
        is = ap (λ os. values os >>= applied (of_two f)) same
            ∙ (λ i. (t.5.value_is i >>= λ v. (t.4.value_is i >>= λ u. Ok (u ∷ [])) >>= λ us. Ok (v ∷ us))
            >>= applied (of_two f)) ∙ there;
        on = subst (AreOn b) (sym same) (t.5.rests, (t.4.rests, tt));
      }

  pub operands-of : (m : Maker) → IsStrict m → (stack : List Entry) (o : Object) → All (EntryFits b) stack
      → made_by m (read stack) ≡ Ok o → AreOperands m stack o
  operands-of (of_none p) s stack o all e = let same = ap origins_of (top-none (EntryFits b) stack) in
      record { is = ap (λ os. values os >>= applied (of_none p)) same ∙ e; on = subst (AreOn b) (sym same) tt }
  operands-of (of_top f) s [] o all e = absurd (s StackEmpty o e)
  operands-of (of_top f) s (x ∷ xs) o all e = one-there f (x ∷ xs) o all e (omega arith)
  operands-of (of_two f) s [] o all e = absurd (s.0 StackEmpty _ o e)
  operands-of (of_two f) s (x ∷ []) o all e = absurd (s.1 x.object StackEmpty o e)
  operands-of (of_two f) s (x ∷ y ∷ xs) o all e = two-there f (x ∷ y ∷ xs) o all e (omega arith)
  operands-of no_maker s stack o all e = absurd (cc)

  -- what a word makes of operands that fit, fits; of an axiom, where it is one of the basis
  pub made-fits : (w : Cmd) (stack : List Entry) (e : Entry) → All (EntryFits b) stack → made w stack ≡ Ok e
      → IsTaken b w (origins_of (top (arity (maker w)) stack)) → EntryFits b e
  made-fits w stack e all p taken =
      let q = bind-ok (made_by (maker w) (read stack)) _ e p in
      let a = operands-of (maker w) (strict w) stack q.0 all q.1 in
      let new : Entry = record { object = q.0; origin = Make w (origins_of (top (arity (maker w)) stack)) } in
      subst (EntryFits b) (same-ok (Ok new) new e refl q.2) (record { value_is = a.is; rests = (a.on, taken) })
