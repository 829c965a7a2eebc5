use Rattle.std.proofs.Common.{◌≡◌, ℕ, [], ◌∷◌, ◌++◌, List, map, length, sym, ap, subst, ◌∙◌, arith}
use Rattle.std.proofs.lemmas.List.{length-map}
use Rattle.ot_logic.specs.Trees.{Symbol}
use Rattle.ot_term.specs.Symbols.{symbol_of}
use Rattle.ot_kernel.specs.Accepting.{IsAcceptable}
use Rattle.ot_kernel.specs.declared.definition.Definition.TheVariants as code
use Rattle.ot_kernel.specs.declared.theorem.Theorem.{Theorem}
use Rattle.ot_kernel.specs.Spelled.{sequent_of, state_of}
use Rattle.ot_kernel.specs.State.{State}
use Rattle.ot_kernel.proofs.Constants.{constant_acceptable}
use Rattle.ot_kernel.proofs.Later.{held_of}
use Rattle.ot_kernel.proofs.kernel.Kernel.accept_constant.Goals as goal

pub accept-requires : goal.accept-requires
accept-requires c =
    let e = ap (λ (s : State). length s.theorems) c.self.view_is in
    let d = length-map c.self.inside.theorems.items
    (sequent_of (state_of c.self.inside.names c.self.inside.terms (held_of c.self.inside)).terms) in
    let count : c.len.result ≡ length c.args.self.now.theorems =
    omega (arith, e, d, c.len.ensures, c.self.inside.theorems.ok.0) in
    let ths : c.push.new.self.items ≡ c.args.theorem ∷ [] = c.in_ok-push.ensures.items
    ∙ ap (λ (l : List Theorem). l ++ c.args.theorem ∷ []) c.new-theorems.ensures.items in
    let defs = ap (λ s. symbol_of s ∷ []) c.constant_symbol.ensures in
    let uses = ap (map symbol_of) c.as_slice.ensures.value in
    let made = constant_acceptable c.args.self.now c.args.name c.args.t c.args.theorem
    (map symbol_of c.in_ok-used.used.items) c.requires.name c.requires.inside c.requires.next c.requires.theorem
    c.in_ok-used.ensures.symbols c.in_ok-used.ensures.below in
    subst (λ (z : List Theorem × ℕ × List (Symbol ℕ) × List (Symbol ℕ)). IsAcceptable c.args.self.now z.0
    (code.Con c.args.name z.1) z.2 z.3) (λ j. (sym ths j, sym count j, sym defs j, sym uses j)) made
