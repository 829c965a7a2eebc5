use Rattle.std.proofs.Common.{◌≡◌, ℕ, ◌-◌, List, [], ◌∷◌, take, vec_len, ap, subst, arith, length, sym, ◌∙◌}
use Rattle.std.specs.Result.{is_err}
use Rattle.std.proofs.lemmas.List.{take_at, length-map}
use Rattle.ot_kernel.specs.Keys.{IsKeyOf}
use Rattle.ot_kernel.specs.State.{State}
use Rattle.ot_kernel.specs.Spelled.{sequent_of, state_of, IsKernel}
use Rattle.ot_kernel.proofs.Later.{held_of}
use Rattle.ot_kernel.proofs.Supposed.{Assumed, assumed, noted, pushed_items, unpushed_items}
use Rattle.ot_kernel.proofs.kernel.Kernel.suppose.Goals as goal
use Rattle.ot_kernel.proofs.kernel.Kernel.suppose.Goals.{In_default}

count : (c : In_default) → c.len.result ≡ length c.self.inside.theorems.items
count c = omega (arith, c.len.ensures, c.self.inside.theorems.ok.0)

keyed : (c : In_default) → IsKeyOf c.self.inside.terms.classes c.args.theorem.hyps c.args.theorem.concl c.in_ok-key.key
keyed c = subst (λ hyps. IsKeyOf c.self.inside.terms.classes hyps c.args.theorem.concl c.in_ok-key.key)
    c.deref.ensures.value c.in_ok-key.ensures

added : (c : In_default) → Assumed c.args.self.now c.self.inside.names c.self.inside.terms
    (record {
      theorems = c.push.new.self.items;
      assumptions = c.push-2.new.self.items;
      definitions = c.self.inside.definitions.items;
      signature = c.self.inside.signature;
      places = c.note.new.self;
    })
    c.args.theorem
added c =
    let pushed = pushed_items c.push-2.result _ _ _ (ap is_err c.in_default.is)
    c.push-2.ensures.items in
    let here : c.len-place.result ≡ length c.self.inside.assumptions.items =
    omega (arith, c.len-place.ensures, c.self.inside.assumptions.ok.0) in
    assumed _ _ (held_of c.self.inside) _ c.args.theorem _ _ c.len.result _ c.in_ok-key.key c.len-place.result
    (keyed c) here c.in_ok-note.ensures.ok c.self.view_is c.self.invariant
    c.in_ok-push.ensures.items (count c) pushed c.requires.proposed c.requires.new

pub invariant_of-self-in_err-push : goal.invariant_of-self-in_err-push
invariant_of-self-in_err-push c =
    let here : c.len-place.result ≡ length c.self.inside.assumptions.items =
    omega (arith, c.len-place.ensures, c.self.inside.assumptions.ok.0) in
    noted c.self.inside.names c.self.inside.terms (held_of c.self.inside) c.push.new.self.items c.note.new.self
    c.in_ok-key.key c.len-place.result here c.in_ok-note.ensures.ok c.in_err-push.ensures.items
    c.self.invariant

pub invariant_of-self-in-Err : goal.invariant_of-self-in-Err
invariant_of-self-in-Err c =
    let here : c.len-place.result ≡ length c.self.inside.assumptions.items =
    omega (arith, c.len-place.ensures, c.self.inside.assumptions.ok.0) in
    let kept : c.push-2.new.self.items ≡ c.self.inside.assumptions.items =
    unpushed_items c.push-2.result _ _ _ (ap is_err c.in-Err.is) c.push-2.ensures.items in
    let back : c.pop.new.self.items ≡ c.self.inside.theorems.items =
    c.pop.ensures.rest
    ∙ ap (take (vec_len c.push.new.self - 1)) c.in_ok-push.ensures.items
    ∙ take_at c.self.inside.theorems.items (c.args.theorem ∷ []) (vec_len c.push.new.self - 1)
    (omega (arith, c.in_ok-push.ensures.len, c.self.inside.theorems.ok.0)) in
    subst (λ (is : List ℕ). IsKernel c.self.inside.names c.self.inside.terms
    (record (held_of c.self.inside) {
      theorems = c.pop.new.self.items;
      assumptions = is;
      places = c.note.new.self;
    })) (sym kept)
    (noted c.self.inside.names c.self.inside.terms (held_of c.self.inside) c.pop.new.self.items c.note.new.self
    c.in_ok-key.key c.len-place.result here c.in_ok-note.ensures.ok back c.self.invariant)

pub invariant_of-self-in_default : goal.invariant_of-self-in_default
invariant_of-self-in_default c = (added c).kernel

pub returns-clause-ok : goal.returns-clause-ok
returns-clause-ok c =
    let e = ap (λ (s : State). length s.theorems) c.self.view_is in
    let n = length-map c.self.inside.theorems.items
    (sequent_of (state_of c.self.inside.names c.self.inside.terms (held_of c.self.inside)).terms) in
    (count c ∙ sym n ∙ e, (added c).state)
