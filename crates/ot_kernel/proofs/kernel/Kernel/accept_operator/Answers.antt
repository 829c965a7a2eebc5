use Rattle.std.proofs.Common.{◌≡◌, ℕ, ◌<◌, [], ◌∷◌, ◌++◌, List, map, length, sym, ap, subst, ◌∙◌, ◌+◌, arith, length-append}
use Rattle.std.specs.List.{All}
use Rattle.std.proofs.lemmas.List.{length-map}
use Rattle.ot_logic.specs.Trees.{Symbol, ConSymbol, OpSymbol, TyDef}
use Rattle.ot_term.specs.Symbols.{symbol_of}
use Rattle.ot_kernel.specs.Accepting.{accepting, IsAcceptable}
use Rattle.ot_kernel.specs.declared.definition.Definition as kind
use Rattle.ot_kernel.specs.declared.definition.Definition.TheVariants as code
use Rattle.ot_kernel.specs.declared.theorem.Theorem.{Theorem}
use Rattle.ot_kernel.specs.Definitions.{definition_at, theorems_at, IsDefinitionIn}
use Rattle.ot_kernel.specs.Spelled.{sequent_of, state_of}
use Rattle.ot_kernel.specs.State.{State, name_at, theorem_at}
use Rattle.ot_kernel.proofs.Later.{held_of}
use Rattle.ot_kernel.proofs.Operators.{AreNames, operator_at, operator_acceptable, operator_accepted}
use Rattle.ot_kernel.proofs.kernel.Kernel.accept_operator.Goals as goal
use Rattle.ot_kernel.proofs.kernel.Kernel.accept_operator.Goals.{After-as_slice}

count : (c : After-as_slice) → (c.len.result ≡ length c.args.self.now.theorems)
    × (c.len-2.result ≡ length c.args.self.now.theorems)
count c =
    let e = ap (λ (s : State). length s.theorems) c.self.view_is in
    let d = length-map c.self.inside.theorems.items
    (sequent_of (state_of c.self.inside.names c.self.inside.terms (held_of c.self.inside)).terms) in (
      omega (arith, e, d, c.len.ensures, c.self.inside.theorems.ok.0),
      omega
          (arith, e, d, c.len-2.ensures, c.self.inside.theorems.ok.0),
    )

abbrev definition : After-as_slice → kind.Definition
definition c = code.TyOp c.args.name c.args.abs c.args.rep c.in_ok-from_slice.field-0 c.args.premise c.len.result
    (c.len-2.result + 1)

added : (c : After-as_slice) → c.append.new.self.items ≡ c.args.both.0 ∷ c.args.both.1 ∷ c.args.further.items
added c = c.in_ok-append.ensures.items ∙ ap (λ (l : List Theorem). l ++ c.args.further.items) c.in_ok-theorems.ensures

coded : (c : After-as_slice) (s : State) → definition_at s (definition c)
    ≡ operator_at s c.args.name c.args.abs c.args.rep c.args.vars.now c.args.premise
coded c s =
    ap (λ (l : List ℕ). TyDef (name_at s c.args.name) (name_at s c.args.abs) (name_at s c.args.rep)
    (map (name_at s) l) (theorem_at s c.args.premise)) c.in_ok-from_slice.ensures.items

at_end : (c : After-as_slice) (s : State) → theorems_at s (definition c)
    ≡ theorem_at s (length c.args.self.now.theorems) ∷ theorem_at s (length c.args.self.now.theorems + 1) ∷ []
at_end c s =
    let k = count c in
    λ j. theorem_at s (k.0 j) ∷ theorem_at s (k.1 j + 1) ∷ []

named : (c : After-as_slice) → AreNames (length c.args.self.now.names) c.args.name c.args.abs c.args.rep
    c.args.vars.now
named c =
    record { operator = c.requires.name; to = c.requires.abs; from = c.requires.rep; variables = c.requires.vars }

within : (c : After-as_slice) → IsDefinitionIn (length c.args.self.now.names) (length c.args.self.now.types)
    (length c.args.self.now.theorems + length (c.args.both.0 ∷ c.args.both.1 ∷ c.args.further.items)) (definition c)
within c =
    let n = length c.args.self.now.names in
    let k = count c in (
      c.requires.name,
      c.requires.abs,
      c.requires.rep,
      subst (All (λ i. i < n)) (sym c.in_ok-from_slice.ensures.items)
          c.requires.vars,
      omega (arith, c.requires.premise),
      omega (arith, k.0),
      omega (arith, k.1),
    )

acceptable : (c : After-as_slice)
    → IsAcceptable c.args.self.now (c.args.both.0 ∷ c.args.both.1 ∷ c.args.further.items) (definition c)
    (OpSymbol c.args.name ∷ ConSymbol c.args.abs ∷ ConSymbol c.args.rep ∷ []) (map symbol_of c.in_ok-used.used.items)
acceptable c =
    operator_acceptable c.args.self.now c.args.name c.args.abs c.args.rep c.args.vars.now c.args.premise c.args.both.0
    c.args.both.1 c.args.further.items (definition c) (map symbol_of c.in_ok-used.used.items)
    (named c) c.requires.premise c.requires.first c.requires.second c.requires.further (coded c) (at_end c)
    (within c) c.requires.next c.requires.theorems c.requires.follow c.in_ok-used.ensures.symbols
    c.in_ok-used.ensures.below

pub accept-requires : goal.accept-requires
accept-requires c =
    let d = (goal.at.accept-requires c).After-as_slice in
    let symbols = ap (map symbol_of) c.type_symbols-defined.ensures in
    let uses = ap (map symbol_of) c.as_slice.ensures.value in
    let ths = added d in
    subst (λ (z : List Theorem × List (Symbol ℕ) × List (Symbol ℕ)). IsAcceptable c.args.self.now z.0 (definition d)
    z.1 z.2) (λ j. (sym ths j, sym symbols j, sym uses j)) (acceptable d)

pub returns-clause-ok : goal.returns-clause-ok
returns-clause-ok c =
    let d = (goal.at.returns-clause-ok c).After-as_slice in
    let k = count d in
    let made = operator_accepted c.args.self.now c.args.name c.args.abs c.args.rep c.args.vars.now c.args.premise
    c.args.both.0 c.args.both.1 c.args.further.items (definition d) (map symbol_of c.in_ok-used.used.items)
    (named d) c.requires.premise c.requires.first c.requires.second c.requires.further (coded d) (at_end d)
    (within d) c.requires.next c.requires.theorems c.requires.follow c.in_ok-used.ensures.symbols
    c.in_ok-used.ensures.below in (
      k.0,
      omega (arith, k.1),
      c.in_ok-accept.ensures.ok
          ∙ ap (λ (ths : List Theorem). accepting c.args.self.now ths (definition d)) (added d) ∙ made,
    )

pub returns-clause-count : goal.returns-clause-count
returns-clause-count c =
    let d = (goal.at.returns-clause-count c).After-as_slice in
    let s = c.args.self.now in
    let more = map (sequent_of s.terms) c.append.new.self.items in
    omega (
      arith,
      ap (λ (t : State). length t.theorems) c.in_ok-accept.ensures.ok,
      length-append s.theorems more,
      length-map c.append.new.self.items (sequent_of s.terms),
      ap length (added d),
    )
