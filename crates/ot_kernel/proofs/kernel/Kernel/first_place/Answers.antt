use Rattle.std.specs.Prelude.{Some}
use Rattle.std.specs.Map.{lookup}
use Rattle.std.proofs.Common.{◌≡◌, ℕ, ◌≤◌, sym, ◌∙◌, arith}
use Rattle.std.proofs.lemmas.Option.{same_Some, none-some}
use Rattle.ot_kernel.specs.Keys.{same_key}
use Rattle.ot_kernel.proofs.FirstPlaces.{none_before}
use Rattle.ot_kernel.proofs.Later.{held_of}
use Rattle.ot_kernel.proofs.kernel.Kernel.first_place.Goals as goal

pub returns-in-Some-clause-none : goal.returns-in-Some-clause-none
returns-in-Some-clause-none c =
    let at : lookup (same_key c.in-Ok.key) c.self.inside.places ≡ Some c.in-Some.place = sym c.in-Some.ensures in
    let first : (p : ℕ) → lookup (same_key c.in-Ok.key) c.self.inside.places ≡ Some p → c.in-Some.place ≤ p =
    λ p l. let e = same_Some c.in-Some.place p (sym at ∙ l) in omega (arith, e) in
    none_before c.self.inside.names c.self.inside.terms (held_of c.self.inside) c.args.self.now c.self.view_is
    c.self.invariant c.args.hyps.now c.args.concl c.in-Some.place c.in-Ok.key c.requires.hyps c.requires.concl
    c.in-Ok.ensures first (c.self.invariant.placed.within c.in-Ok.key c.in-Some.place at)

pub returns-clause-none : goal.returns-clause-none
returns-clause-none c =
    let first : (p : ℕ) → lookup (same_key c.in-Ok.key) c.self.inside.places ≡ Some p → c.len.result ≤ p =
    λ p l. absurd (none-some p (c.in-None.ensures ∙ l)) in
    none_before c.self.inside.names c.self.inside.terms (held_of c.self.inside) c.args.self.now c.self.view_is
    c.self.invariant c.args.hyps.now c.args.concl c.len.result c.in-Ok.key c.requires.hyps c.requires.concl
    c.in-Ok.ensures first (omega (arith, c.len.ensures, c.self.inside.assumptions.ok.0))
