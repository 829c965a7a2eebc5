use Rattle.std.proofs.Common.{◌≡◌, ◌<◌, ℕ, List, ◌∙◌, ◌∷◌, [], length, map, sym, ap, subst, rules}
use Rattle.std.specs.Prelude.{Ok}
use Rattle.std.specs.List.{All}
use Rattle.std.proofs.lemmas.List.Elements.{All-map}
use Rattle.std.proofs.lemmas.Simd.{map-map}
use Rattle.ot_logic.specs.Names.{Name}
use Rattle.ot_logic.specs.Trees.{Variable}
use Rattle.ot_logic.specs.Answers.{◌>>=◌}
use Rattle.ot_term.specs.declared.term.VarKey.{VarKey}
use Rattle.ot_logic.specs.Naming.{names}
use Rattle.ot_interp.specs.Interpretation.{renamed}
use Rattle.ot_kernel.specs.State.{State, name_at, variable_at, theorem_at}
use Rattle.ot_logic.specs.RanOut.{ran_out}
use Rattle.ot_machine.specs.Objects.{list, theorem}
use Rattle.ot_machine.specs.States.{Entry}
use Rattle.ot_machine.specs.Rows.{constants_of, constants_origin, constants_entry}
use Rattle.ot_machine.specs.Rows.{origin_at, with_defined, define_const_list_row}
use Rattle.ot_machine.specs.Contexts.{context_of}
use Rattle.ot_machine.specs.Meaning.{list_at, origin_of, machine_state}
use Rattle.ot_machine.specs.declared.fault.Fault.TheVariants as code
use Rattle.ot_machine.proofs.Constants.{constants-listed}
use Rattle.ot_machine.proofs.Kept.{lists, article-kept, of-kept, origin-kept, traces-grow, grows-on}
use Rattle.ot_machine.proofs.Traced.{traced-article, traced-of, traced-origin}
use Rattle.ot_machine.proofs.InContext.{context-kept, of_context-kept}
use Rattle.ot_machine.proofs.Turning.{state-defined, refused-turn, list_stated-same, const_list-read}
use Rattle.ot_machine.proofs.rows.definitions.define_const_list.Goals as goal

abbrev variable_of : ℕ × VarKey → VarKey
variable_of p = p.1

abbrev pair_at : State → ℕ × VarKey → Name × Variable Name
pair_at k p = (name_at k p.0, variable_at k p.1)

abbrev IsNameIn : State → ℕ → Type 0
IsNameIn k n = n < length k.names

abbrev IsVariableIn : State → VarKey → Type 0
IsVariableIn k v = (v.name < length k.names) × (v.ty < length k.types)

-- the variables of pairs, by the kernel's names
variables-read : (k : State) (items : List (ℕ × VarKey)) (vs : List VarKey) → vs ≡ map variable_of items
    → map (λ (p : Name × Variable Name). p.1) (map (pair_at k) items) ≡ map (variable_at k) vs
variables-read k items vs e = map-map (λ (p : Name × Variable Name). p.1) (pair_at k) items
    ∙ sym (ap (map (variable_at k)) e ∙ map-map (variable_at k) variable_of items)

abbrev renaming : State → List (Name × Name) → ℕ × VarKey → Name
renaming k ps p = renamed names ps (name_at k p.0)

-- the names of constants that are read from one list
names-read : (k : State) (ps : List (Name × Name)) (items : List (ℕ × VarKey)) (is js : List ℕ)
    → map (name_at k) is ≡ map (renaming k ps) items → js ≡ is
    → map (λ (p : Name × Variable Name). renamed names ps p.0) (map (pair_at k) items) ≡ map (name_at k) js
names-read k ps items is js e same = map-map (λ (p : Name × Variable Name). renamed names ps p.0) (pair_at k) items
    ∙ sym e ∙ ap (map (name_at k)) (sym same)

pub constants-requires-clause-names : goal.constants-requires-clause-names
constants-requires-clause-names c =
    subst (All (IsNameIn c.args.session.now.kernel)) (sym c.deref-3.ensures.value) c.in_ok-names.ensures.inside

pub symbol_list_step-requires-clause-inside : goal.symbol_list_step-requires-clause-inside
symbol_list_step-requires-clause-inside c =
    subst (All (IsNameIn c.args.session.now.kernel)) (sym c.deref-4.ensures.value) c.in_ok-names.ensures.inside

-- the kernel is as it was before the steps of the constants
pub list_definition-requires-clause-constants : goal.list_definition-requires-clause-constants
list_definition-requires-clause-constants c =
    subst (λ k. All (IsNameIn k) c.deref-5.result.now) (sym c.in_ok-step.ensures.kept.kernel)
    (subst (All (IsNameIn c.args.session.now.kernel)) (sym c.deref-5.ensures.value) c.in_ok-names.ensures.inside)

pub list_definition-requires-clause-variables : goal.list_definition-requires-clause-variables
list_definition-requires-clause-variables c =
    let P = IsVariableIn c.args.session.now.kernel in
    subst (λ k. All (IsVariableIn k) c.deref-6.result.now) (sym c.in_ok-step.ensures.kept.kernel)
    (subst (All P)
    (sym (c.deref-6.ensures.value ∙ c.in_ok-variables.ensures ∙ ap (map variable_of) c.deref-2.ensures.value))
    (All-map P variable_of _ c.in_ok-pairs.ensures.variables))

pub list_definition-requires-clause-context : goal.list_definition-requires-clause-context
list_definition-requires-clause-context c =
    of_context-kept c.args.session.now c.symbol_list_step.new.self c.requires.of.run
    (traces-grow _ _ c.in_ok-step.ensures.kept) c.args.context.now c.requires.context

pub list_definition-requires-clause-list_origin : goal.list_definition-requires-clause-list_origin
list_definition-requires-clause-list_origin c =
    let s = c.args.session.now in
    traced-origin s c.symbol_list_step.new.self c.requires.of.run
    c.in_ok-step.ensures.kept c.in_ok-list.list_step c.in_ok-list.ensures.step
    ∙ c.in_ok-list.ensures.origin
    ∙ ap (λ a. origin_at 1 a.stack)
    (sym (traced-article s _ _ c.in_ok-constants.ensures.of c.in_ok-step.ensures.kept
    ∙ c.in_ok-constants.ensures.kept))

pub list_definition-requires-clause-premise_origin : goal.list_definition-requires-clause-premise_origin
list_definition-requires-clause-premise_origin c =
    let s = c.args.session.now in
    traced-origin s c.symbol_list_step.new.self c.requires.of.run
    c.in_ok-step.ensures.kept c.in_ok-premise.premise_step c.in_ok-premise.ensures.step
    ∙ c.in_ok-premise.ensures.origin
    ∙ ap (λ a. origin_at 0 a.stack)
    (sym (traced-article s _ _ c.in_ok-constants.ensures.of c.in_ok-step.ensures.kept
    ∙ c.in_ok-constants.ensures.kept))

pub returns-in_err-step : goal.returns-in_err-step
returns-in_err-step c =
    let s = c.args.session.now in
    let m = c.args.machine.now in
    let t = c.symbol_list_step.new.self in
    let made = c.constants.new.machine in
    let of = c.in_ok-constants.ensures.of in
    let kept = c.in_err-step.ensures.kept in
    refused-turn _ (code.Memory ran_out) _ s m t made (search rules)
    (λ i. record { article = (traced-article s t made of kept ∙ c.in_ok-constants.ensures.kept) i; run = kept.run i })
    (tt, λ f e. cc) (traces-grow s t kept) (traced-of s t made of kept)

pub exchange-requires-clause-of : goal.exchange-requires-clause-of
exchange-requires-clause-of c =
    let adds = c.in_ok-theorem.ensures.adds in
    of-kept c.args.session.now c.list_definition.new.self c.constants.new.machine c.in_ok-constants.ensures.of
    (grows-on (traces-grow _ _ c.in_ok-step.ensures.kept) adds.grown) adds.is_run

pub returns-in_err-theorem : goal.returns-in_err-theorem
returns-in_err-theorem c =
    let s = c.args.session.now in
    let k = s.kernel in
    let t0 = c.symbol_list_step.new.self in
    let t = c.list_definition.new.self in
    let m = c.args.machine.now in
    let made = c.constants.new.machine in
    let st = machine_state s m in
    let traced = c.in_ok-step.ensures.kept in
    let grown = traces-grow s t0 traced in
    let there = c.in_err-theorem.ensures in
    let of = c.in_ok-constants.ensures.of in
    let all = grows-on grown there.adds.grown in
    let is = c.deref-5.result.now in
    let vs = c.deref-6.result.now in
    let context = context_of s c.args.context.now in
    let row = const_list-read context st (theorem_at k c.in_ok-premise.premise) _ _ (map (name_at k) is)
    (map (variable_at k) vs) c.in_ok-premise.ensures.found c.in_ok-list.ensures.found c.in_ok-pairs.ensures.read
    (names-read k context.interpretation.constants _ _ _ (c.in_ok-names.ensures.renamed
    ∙ ap (map (renaming k context.interpretation.constants)) c.deref.ensures.value) c.deref-5.ensures.value)
    (variables-read k _ _ (c.deref-6.ensures.value ∙ c.in_ok-variables.ensures
    ∙ ap (map variable_of) c.deref-2.ensures.value)) in
    let same = list_stated-same s t0 m made c.args.context.now is vs c.in_ok-premise.premise traced.kernel
    (context-kept s t0 c.requires.of.run grown c.args.context.now c.requires.context)
    (traced-article s t0 made of traced ∙ c.in_ok-constants.ensures.kept) traced.run in
    refused-turn _ c.in_err-theorem.field-0.0 (define_const_list_row context) s m t made (search rules)
    (λ i. record {
      article = (article-kept s t made of all ∙ c.in_ok-constants.ensures.kept) i;
      run = (there.adds.refused ∙ traced.run) i;
    }) (
      there.made.0,
      λ f p. row
          ∙ ap (λ r. r >>= λ d. Ok (with_defined 2 (constants_entry (map (name_at k) is) ∷ []) d st))
          (sym same ∙ there.made.1 f p),
    )
    all (of-kept s t made of all there.adds.is_run)

pub returns : goal.returns
returns c =
    let s = c.args.session.now in
    let k = s.kernel in
    let t0 = c.symbol_list_step.new.self in
    let t = c.list_definition.new.self in
    let m = c.args.machine.now in
    let made = c.constants.new.machine in
    let st = machine_state s m in
    let traced = c.in_ok-step.ensures.kept in
    let grown = traces-grow s t0 traced in
    let there = c.in_ok-theorem.ensures in
    let of = c.in_ok-constants.ensures.of in
    let all = grows-on grown there.adds.grown in
    let is = c.deref-5.result.now in
    let vs = c.deref-6.result.now in
    let ns = map (name_at k) is in
    let context = context_of s c.args.context.now in
    let row = const_list-read context st (theorem_at k c.in_ok-premise.premise) _ _ ns (map (variable_at k) vs)
    c.in_ok-premise.ensures.found c.in_ok-list.ensures.found c.in_ok-pairs.ensures.read
    (names-read k context.interpretation.constants _ _ _ (c.in_ok-names.ensures.renamed
    ∙ ap (map (renaming k context.interpretation.constants)) c.deref.ensures.value) c.deref-5.ensures.value)
    (variables-read k _ _ (c.deref-6.ensures.value ∙ c.in_ok-variables.ensures
    ∙ ap (map variable_of) c.deref-2.ensures.value)) in
    let same = list_stated-same s t0 m made c.args.context.now is vs c.in_ok-premise.premise traced.kernel
    (context-kept s t0 c.requires.of.run grown c.args.context.now c.requires.context)
    (traced-article s t0 made of traced ∙ c.in_ok-constants.ensures.kept) traced.run in
    let q : Entry =
    record {
      object = theorem (theorem_at t.kernel c.in_ok-theorem.theorem);
      origin = origin_of t c.in_ok-theorem.theorem_step;
    } in
    let constants =
    ap (λ cs. list_at cs c.in_ok-constants.constants)
    (lists s t made of all) ∙ c.in_ok-constants.ensures.made
    ∙ ap (λ is. constants_of (map (name_at k) is)) (c.deref-3.ensures.value ∙ sym c.deref-5.ensures.value) in
    let origin = origin-kept t0 t traced.is_run there.adds.grown c.in_ok-step.step c.in_ok-step.ensures.inside
    ∙ c.in_ok-step.ensures.made ∙ constants-listed _ _
    ∙ ap (λ is. constants_origin (map (name_at k) is)) (c.deref-4.ensures.value ∙ sym c.deref-5.ensures.value) in
    record {
      moves = row
          ∙ ap (λ r. r >>= λ d. Ok (with_defined 2 (constants_entry ns ∷ []) d st)) (sym same ∙ there.made)
          ∙ ap Ok (state-defined s t m made c.exchange.new.machine 2 _ (constants_entry ns ∷ []) (q ∷ [])
          (article-kept s t made of all ∙ c.in_ok-constants.ensures.kept) c.exchange.ensures.changed
          (λ i. record { object = list (constants i); origin = origin i } ∷ q ∷ []));
      grown = all;
      of = c.exchange.ensures.of;
    }
