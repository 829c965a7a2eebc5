use Rattle.std.specs.Prelude.{◌≡◌, map}
use Rattle.std.proofs.Common.{ap, sym, ◌∙◌}
use Rattle.ot_logic.specs.Names.{Name}
use Rattle.ot_logic.specs.Naming.{names}
use Rattle.ot_logic.specs.Trees.{Ty, TyOp, NApp}
use Rattle.ot_logic.specs.Hol.{type_of, tys_of_vars}
use Rattle.ot_logic.specs.NamedTerms.{nameless}
use Rattle.ot_logic.specs.declared.command.Cmd.TheVariants as words
use Rattle.ot_kernel.specs.State.{name_at, type_at, named_at, theorem_at}
use Rattle.ot_trace.specs.Origins.{Named, make_two, type_op_origin}
use Rattle.ot_machine.specs.OpenTypes.{fun_origin, bool_origin, constant_at, returned_origin}
use Rattle.ot_machine.specs.OpenTypes.{opened_origin, first_origin, second_origin}
use Rattle.ot_machine.specs.Version5.{canon_ty, canon_tys}
use Rattle.ot_machine.specs.declared.session.Session.{Session}
use Rattle.ot_machine.specs.Meaning.{origin_of, Traces}
use Rattle.ot_machine.specs.Stays.{Stays}
use Rattle.ot_machine.proofs.Kept.{origin-kept}
use Rattle.ot_machine.proofs.Traced.{traces-on, traced-origin}
use Rattle.ot_machine.proofs.Staying.{traces-stay, stays-on}
use Rattle.ot_machine.proofs.Canonical.{canon-is, type-is, variables-listed, name-later, names-later, type-later}
use Rattle.ot_machine.proofs.session.Session.open_steps.Goals as goal
use Rattle.ot_machine.proofs.session.Session.open_steps.Goals.{Start, In-App, In_ok-predicate-in-App}
use Rattle.ot_machine.proofs.session.Session.open_steps.Goals.{In_ok-old-in-App, In_ok-list-in-App, In_ok-new-in-App}
use Rattle.ot_machine.proofs.session.Session.open_steps.Goals.{In_ok-constants-in-App, In_ok-first-in-App}

-- ---- the trace alone grows after the predicate's step
since_list : (c : In_ok-list-in-App) → Traces c.term_origin.new.self c.symbol_list_step.new.self
since_list c = traces-on _ _ _ c.in_ok-old-in-App.ensures.kept c.in_ok-list-in-App.ensures.kept

since_new : (c : In_ok-new-in-App) → Traces c.term_origin.new.self c.operated_step.new.self
since_new c = traces-on _ _ _ (since_list (goal.at.In_ok-new-in-App c).In_ok-list-in-App)
    c.in_ok-new-in-App.ensures.kept

since_constants : (c : In_ok-constants-in-App)
    → Traces c.term_origin.new.self c.constants_between.new.self
since_constants c = traces-on _ _ _ (since_new (goal.at.In_ok-constants-in-App c).In_ok-new-in-App)
    c.in_ok-constants-in-App.ensures.kept

since_first : (c : In_ok-first-in-App) → Traces c.term_origin.new.self c.returned_step.new.self
since_first c = traces-on _ _ _ (since_constants (goal.at.In_ok-first-in-App c).In_ok-constants-in-App)
    c.in_ok-first-in-App.ensures.kept

-- and after that of the old type
old_new : (c : In_ok-new-in-App) → Traces c.type_origin.new.self c.operated_step.new.self
old_new c = traces-on _ _ _ c.in_ok-list-in-App.ensures.kept c.in_ok-new-in-App.ensures.kept

-- all stays
stays : (c : In_ok-predicate-in-App) (t : Session) → Traces c.term_origin.new.self t
    → Stays c.args.self.now t
stays c t traced = stays-on c.in_ok-predicate-in-App.ensures.kept (traces-stay traced)

-- ---- what the steps stand for
abbrev Old : In-App → Ty Name
Old c = type_of names (nameless names (named_at c.args.self.now.kernel.terms c.in-App.t))

abbrev New : Start → Ty Name
New c =
    let k = c.args.self.now.kernel in
    TyOp (name_at k c.args.name) (tys_of_vars names (map (name_at k) c.args.variables.now))

concl_is : (c : In-App) → (let k = c.args.self.now.kernel in
    (theorem_at k c.args.premise).concl
    ≡ nameless names (NApp (named_at k.terms c.in-App.p) (named_at k.terms c.in-App.t)))
concl_is c = sym c.concl.ensures.concl ∙ ap (nameless names) (rw c.in-App.is at c.term_node.ensures.tree)

old_is : (c : In_ok-old-in-App)
    → origin_of c.type_origin.new.self c.in_ok-old-in-App.old ≡ canon_ty (Old (goal.at.In_ok-old-in-App c).In-App)
old_is c =
    let k = c.args.self.now.kernel in
    c.in_ok-old-in-App.ensures.made
    ∙ ap canon_ty
    (type-later c.args.self.now c.term_origin.new.self c.in_ok-predicate-in-App.ensures.kept.grown
    c.type_of-ty.result c.type_of-ty.ensures.below
    ∙ type-is (named_at k.terms c.in-App.t) (type_at k c.type_of-ty.result) c.type_of-ty.ensures.typed)

new_is : (c : In_ok-new-in-App)
    → origin_of c.operated_step.new.self c.in_ok-new-in-App.new ≡ canon_ty (New (goal.at.In_ok-new-in-App c).Start)
new_is c =
    let s = c.args.self.now in
    let at = goal.at.In_ok-new-in-App c in
    let grown = λ (t : Session) (h : Traces c.term_origin.new.self t).
    (stays at.In_ok-predicate-in-App t h).grown in
    let name = name-later s _ (grown _ (since_list at.In_ok-list-in-App)) c.args.name c.requires.operands.name in
    let vars = names-later s _ (grown _ c.in_ok-old-in-App.ensures.kept) c.args.variables.now
    c.requires.operands.variables in
    let list = c.in_ok-list-in-App.ensures.made ∙ variables-listed _ _
    ∙ (λ i. canon_tys (tys_of_vars names (vars i))) in
    c.in_ok-new-in-App.ensures.made ∙ (λ i. make_two words.OpType (type_op_origin (Named (name i))) (list i))

-- the constants, over the two types
record AreMade (c : In_ok-constants-in-App) : Type 0 where
  abs : origin_of c.constants_between.new.self c.in_ok-constants-in-App.constants.abs
      ≡ constant_at (name_at c.args.self.now.kernel c.args.abs)
      (fun_origin (canon_ty (Old (goal.at.In_ok-constants-in-App c).In-App))
      (canon_ty (New (goal.at.In_ok-constants-in-App c).Start)))
  rep : origin_of c.constants_between.new.self c.in_ok-constants-in-App.constants.rep
      ≡ constant_at (name_at c.args.self.now.kernel c.args.rep)
      (fun_origin (canon_ty (New (goal.at.In_ok-constants-in-App c).Start))
      (canon_ty (Old (goal.at.In_ok-constants-in-App c).In-App)))
  equality : (let o = canon_ty (Old (goal.at.In_ok-constants-in-App c).In-App) in
      origin_of c.constants_between.new.self c.in_ok-constants-in-App.constants.equality
      ≡ constant_at names.equals (fun_origin o (fun_origin o bool_origin)))

made : (c : In_ok-constants-in-App) → AreMade c
made c =
    let s = c.args.self.now in
    let at = goal.at.In_ok-constants-in-App c in
    let are = c.in_ok-constants-in-App.ensures.made in
    let grown = (stays at.In_ok-predicate-in-App _ (since_new at.In_ok-new-in-App)).grown in
    let abs = name-later s _ grown c.args.abs c.requires.operands.abs in
    let rep = name-later s _ grown c.args.rep c.requires.operands.rep in
    let old = traced-origin _ _ c.in_ok-old-in-App.ensures.kept.is_run (old_new at.In_ok-new-in-App)
    c.in_ok-old-in-App.old c.in_ok-old-in-App.ensures.inside ∙ old_is at.In_ok-old-in-App in
    let new = new_is at.In_ok-new-in-App in
    record {
      abs = are.abs ∙ (λ i. constant_at (abs i) (fun_origin (old i) (new i)));
      rep = are.rep ∙ (λ i. constant_at (rep i) (fun_origin (new i) (old i)));
      equality = are.equality ∙ (λ i. constant_at names.equals (fun_origin (old i) (fun_origin (old i) bool_origin)));
    }

-- ---- the two theorems
pub returns-in_ok-second-in-App-clause-first : goal.returns-in_ok-second-in-App-clause-first
returns-in_ok-second-in-App-clause-first c =
    let at = goal.at.returns-in_ok-second-in-App-clause-first c in
    let s = c.args.self.now in
    let k = s.kernel in
    let constants = made at.In_ok-constants-in-App in
    let new = traced-origin _ _ c.in_ok-new-in-App.ensures.kept.is_run c.in_ok-constants-in-App.ensures.kept
    c.in_ok-new-in-App.new c.in_ok-new-in-App.ensures.inside ∙ new_is at.In_ok-new-in-App in
    let grown = (stays at.In_ok-predicate-in-App _ (since_constants at.In_ok-constants-in-App)).grown in
    let definition = origin-kept s _ c.requires.run grown c.args.definition c.requires.definition in
    traced-origin _ _ c.in_ok-first-in-App.ensures.kept.is_run c.in_ok-second-in-App.ensures.kept
    c.in_ok-first-in-App.first c.in_ok-first-in-App.ensures.inside ∙ c.in_ok-first-in-App.ensures.made
    ∙ (λ i. returned_origin (definition i) (constants.abs i) (constants.rep i) (new i))
    ∙ ap (first_origin (origin_of s c.args.definition) (name_at k c.args.abs) (name_at k c.args.rep) (New at.Start))
    (sym (concl_is at.In-App))

pub returns-in_ok-second-in-App-clause-second : goal.returns-in_ok-second-in-App-clause-second
returns-in_ok-second-in-App-clause-second c =
    let at = goal.at.returns-in_ok-second-in-App-clause-second c in
    let s = c.args.self.now in
    let k = s.kernel in
    let t6 = c.returned_step.new.self in
    let five = c.in_ok-constants-in-App.ensures.kept in
    let six = c.in_ok-first-in-App.ensures.kept in
    let are = c.in_ok-constants-in-App.ensures.made in
    let constants = made at.In_ok-constants-in-App in
    let numbers = c.in_ok-constants-in-App.constants in
    let grown = (stays at.In_ok-predicate-in-App _ (since_first at.In_ok-first-in-App)).grown in
    let definition = origin-kept s _ c.requires.run grown c.args.definition c.requires.definition in
    let abs = traced-origin _ t6 five.is_run six numbers.abs are.abs_step ∙ constants.abs in
    let rep = traced-origin _ t6 five.is_run six numbers.rep are.rep_step ∙ constants.rep in
    let equality = traced-origin _ t6 five.is_run six numbers.equality are.equality_step ∙ constants.equality in
    let predicate = traced-origin _ t6 c.in_ok-predicate-in-App.ensures.kept.is_run (since_first at.In_ok-first-in-App)
    c.in_ok-predicate-in-App.predicate c.in_ok-predicate-in-App.ensures.inside
    ∙ c.in_ok-predicate-in-App.ensures.made ∙ canon-is (named_at k.terms c.in-App.p) in
    let later = traces-on _ _ t6 (traces-on _ _ _ (old_new at.In_ok-new-in-App) five) six in
    let old = traced-origin _ t6 c.in_ok-old-in-App.ensures.kept.is_run later c.in_ok-old-in-App.old
    c.in_ok-old-in-App.ensures.inside ∙ old_is at.In_ok-old-in-App in
    c.in_ok-second-in-App.ensures.made
    ∙ (λ i. opened_origin (definition i) (abs i) (rep i) (equality i) (predicate i) (old i))
    ∙ ap (second_origin (origin_of s c.args.definition) (name_at k c.args.abs) (name_at k c.args.rep) (New at.Start))
    (sym (concl_is at.In-App))

-- ---- the machine stays
pub returns-in_err-new-in-App-clause-kept : goal.returns-in_err-new-in-App-clause-kept
returns-in_err-new-in-App-clause-kept c =
    let at = goal.at.returns-in_err-new-in-App-clause-kept c in
    stays at.In_ok-predicate-in-App _
    (traces-on _ _ _ (since_list at.In_ok-list-in-App) c.in_err-new-in-App.ensures.kept)

pub returns-in_err-constants-in-App-clause-kept : goal.returns-in_err-constants-in-App-clause-kept
returns-in_err-constants-in-App-clause-kept c =
    let at = goal.at.returns-in_err-constants-in-App-clause-kept c in
    stays at.In_ok-predicate-in-App _
    (traces-on _ _ _ (since_new at.In_ok-new-in-App) c.in_err-constants-in-App.ensures.kept)

pub returns-in_err-first-in-App-clause-kept : goal.returns-in_err-first-in-App-clause-kept
returns-in_err-first-in-App-clause-kept c =
    let at = goal.at.returns-in_err-first-in-App-clause-kept c in
    stays at.In_ok-predicate-in-App _
    (traces-on _ _ _ (since_constants at.In_ok-constants-in-App) c.in_err-first-in-App.ensures.kept)

pub returns-in_err-second-in-App-clause-kept : goal.returns-in_err-second-in-App-clause-kept
returns-in_err-second-in-App-clause-kept c =
    let at = goal.at.returns-in_err-second-in-App-clause-kept c in
    stays at.In_ok-predicate-in-App _
    (traces-on _ _ _ (since_first at.In_ok-first-in-App) c.in_err-second-in-App.ensures.kept)

pub returns-in_ok-second-in-App-clause-kept : goal.returns-in_ok-second-in-App-clause-kept
returns-in_ok-second-in-App-clause-kept c =
    let at = goal.at.returns-in_ok-second-in-App-clause-kept c in
    stays at.In_ok-predicate-in-App _
    (traces-on _ _ _ (since_first at.In_ok-first-in-App) c.in_ok-second-in-App.ensures.kept)
