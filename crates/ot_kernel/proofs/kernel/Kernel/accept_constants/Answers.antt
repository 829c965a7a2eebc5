use Rattle.std.proofs.Common.{◌≡◌, ℕ, [], ◌∷◌, ◌++◌, List, map, length, sym, ap, subst, ◌∙◌, ◌+◌, arith}
use Rattle.std.proofs.lemmas.List.{length-map}
use Rattle.ot_logic.specs.Trees.{Symbol, ConSymbol, ListDef}
use Rattle.ot_term.specs.Symbols.{symbol_of}
use Rattle.ot_term.specs.declared.term.VarKey.{VarKey}
use Rattle.ot_define.proofs.Keys.{constants-symbols}
use Rattle.ot_kernel.specs.Accepting.{accepting, IsAcceptable}
use Rattle.ot_kernel.specs.declared.definition.Definition as kind
use Rattle.ot_kernel.specs.declared.definition.Definition.TheVariants as code
use Rattle.ot_kernel.specs.declared.theorem.Theorem.{Theorem}
use Rattle.ot_kernel.specs.Definitions.{pairs_at, definition_at, theorems_at, ArePairsIn, IsDefinitionIn}
use Rattle.ot_kernel.specs.Spelled.{sequent_of, state_of}
use Rattle.ot_kernel.specs.State.{State, theorem_at}
use Rattle.ot_kernel.proofs.Later.{held_of}
use Rattle.ot_kernel.proofs.Lists.{constants_acceptable, constants_accepted}
use Rattle.ot_kernel.proofs.kernel.Kernel.accept_constants.Goals as goal
use Rattle.ot_kernel.proofs.kernel.Kernel.accept_constants.Goals.{After-as_slice-2}

count : (c : After-as_slice-2) → c.len.result ≡ length c.args.self.now.theorems
count c =
    let e = ap (λ (s : State). length s.theorems) c.self.view_is in
    let d = length-map c.self.inside.theorems.items
    (sequent_of (state_of c.self.inside.names c.self.inside.terms (held_of c.self.inside)).terms) in
    omega (arith, e, d, c.len.ensures, c.self.inside.theorems.ok.0)

abbrev definition : After-as_slice-2 → kind.Definition
definition c = code.List c.in_ok-from_slice.field-0 c.in_ok-from_slice-2.field-0 c.args.premise c.len.result

added : (c : After-as_slice-2) → c.push.new.self.items ≡ c.args.theorem ∷ []
added c = c.in_ok-push.ensures.items
    ∙ ap (λ (l : List Theorem). l ++ c.args.theorem ∷ []) c.new-theorems.ensures.items

coded : (c : After-as_slice-2) (s : State) → definition_at s (definition c)
    ≡ ListDef (pairs_at s c.args.names.now c.args.vars.now) (theorem_at s c.args.premise)
coded c s = λ j. ListDef (pairs_at s (c.in_ok-from_slice.ensures.items j) (c.in_ok-from_slice-2.ensures.items j))
    (theorem_at s c.args.premise)

at_end : (c : After-as_slice-2) (s : State) → theorems_at s (definition c)
    ≡ theorem_at s (length c.args.self.now.theorems) ∷ []
at_end c s = ap (λ i. theorem_at s i ∷ []) (count c)

within : (c : After-as_slice-2) → IsDefinitionIn (length c.args.self.now.names) (length c.args.self.now.types)
    (length c.args.self.now.theorems + 1) (definition c)
within c =
    let n = length c.args.self.now.names in
    let t = length c.args.self.now.types in
    let a = c.in_ok-from_slice.ensures.items in
    let b = c.in_ok-from_slice-2.ensures.items in
    let pairs : ArePairsIn n t c.args.names.now c.args.vars.now =
    record { names = c.requires.names; variables = c.requires.vars; many = c.requires.pairs } in (
      subst (λ (z : List ℕ × List VarKey). ArePairsIn n t z.0 z.1) (λ j. (sym a j, sym b j)) pairs,
      omega
          (arith, c.requires.premise),
      omega (arith, count c),
    )

acceptable : (c : After-as_slice-2) → IsAcceptable c.args.self.now (c.args.theorem ∷ []) (definition c)
    (map ConSymbol c.args.names.now) (map symbol_of c.in_ok-used.used.items)
acceptable c =
    constants_acceptable c.args.self.now c.args.names.now c.args.vars.now c.args.premise c.args.theorem (definition c)
    (map symbol_of c.in_ok-used.used.items) c.requires.names c.requires.pairs c.requires.premise c.requires.inside
    (coded c) (at_end c) (within c) c.requires.next c.requires.theorem c.in_ok-used.ensures.symbols
    c.in_ok-used.ensures.below

pub accept-requires : goal.accept-requires
accept-requires c =
    let d = (goal.at.accept-requires c).After-as_slice-2 in
    let defs = ap (map symbol_of) (c.as_slice.ensures.value ∙ c.in_ok-defined.ensures)
    ∙ constants-symbols c.args.names.now in
    let uses = ap (map symbol_of) c.as_slice-2.ensures.value in
    let ths = added d in
    subst (λ (z : List Theorem × List (Symbol ℕ) × List (Symbol ℕ)). IsAcceptable c.args.self.now z.0 (definition d)
    z.1 z.2) (λ j. (sym ths j, sym defs j, sym uses j)) (acceptable d)

pub returns-clause-ok : goal.returns-clause-ok
returns-clause-ok c =
    let d = (goal.at.returns-clause-ok c).After-as_slice-2 in
    let made = constants_accepted c.args.self.now c.args.names.now c.args.vars.now c.args.premise c.args.theorem
    (definition d) (map symbol_of c.in_ok-used.used.items) c.requires.names c.requires.pairs c.requires.premise
    c.requires.inside (coded d) (at_end d) (within d) c.requires.next c.requires.theorem
    c.in_ok-used.ensures.symbols c.in_ok-used.ensures.below in (
      count d,
      c.in_ok-accept.ensures.ok ∙ ap (λ (ths : List Theorem). accepting c.args.self.now ths (definition d))
          (added d) ∙ made,
    )
