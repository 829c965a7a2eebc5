use Rattle.std.proofs.Common.{◌∷◌, [], ap, sym, ◌∙◌, arith}
use Rattle.ot_logic.specs.declared.command.Cmd.TheVariants as words
use Rattle.ot_trace.specs.Origins.{Named, Define, NoOrigins, MoreOrigins, constant_origin, type_op_origin}
use Rattle.ot_machine.proofs.Traced.{traces-on, traced-origin, number-later, origin-number}
use Rattle.ot_machine.proofs.session.Session.type_defining.Goals as goal

pub defining_step-requires-clause-symbols : goal.defining_step-requires-clause-symbols
defining_step-requires-clause-symbols c =
    let s1 = c.symbol_steps.new.self in
    let s2 = c.symbol_steps-2.new.self in
    let s3 = c.symbol_steps-3.new.self in
    let two = c.in_ok-abs_name.ensures.kept in
    let three = c.in_ok-rep_name.ensures.kept in
    let both = traces-on s1 s2 s3 two three in
    let n = number-later s1 s3 both c.in_ok-name_step.name_step c.in_ok-name_step.ensures.name_step
    ∙ c.in_ok-name_step.ensures.name in
    let op = number-later s1 s3 both c.in_ok-name_step.op c.in_ok-name_step.ensures.symbol_step
    ∙ c.in_ok-name_step.ensures.symbol in
    let a = number-later s2 s3 three c.in_ok-abs_name.abs_name c.in_ok-abs_name.ensures.name_step
    ∙ c.in_ok-abs_name.ensures.name in
    let abs = number-later s2 s3 three c.in_ok-abs_name.abs c.in_ok-abs_name.ensures.symbol_step
    ∙ c.in_ok-abs_name.ensures.symbol in
    let r = c.in_ok-rep_name.ensures.name in
    let rep = c.in_ok-rep_name.ensures.symbol in
    λ i. (op ∙ ap type_op_origin (sym n)) i ∷ (abs ∙ ap constant_origin (sym a)) i
    ∷ (rep ∙ ap constant_origin (sym r)) i ∷ []

pub returns-clause-made : goal.returns-clause-made
returns-clause-made c =
    let s = c.args.self.now in
    let s1 = c.symbol_steps.new.self in
    let s2 = c.symbol_steps-2.new.self in
    let s3 = c.symbol_steps-3.new.self in
    let s4 = c.defining_step.new.self in
    let one = c.in_ok-name_step.ensures.kept in
    let two = c.in_ok-abs_name.ensures.kept in
    let three = c.in_ok-rep_name.ensures.kept in
    let four = c.in_ok-definition.ensures.kept in
    let upto2 = traces-on s s1 s2 one two in
    let upto3 = traces-on s s2 s3 upto2 three in
    let from2 = traces-on s2 s3 s4 three four in
    let from1 = traces-on s1 s2 s4 two from2 in
    let n = traced-origin s1 s3 one.is_run (traces-on s1 s2 s3 two three) c.in_ok-name_step.name_step
    c.in_ok-name_step.ensures.name_step
    ∙ origin-number s s1 one c.in_ok-name_step.name_step (Named c.args.name) c.in_ok-name_step.ensures.name in
    let a = traced-origin s2 s3 two.is_run three c.in_ok-abs_name.abs_name c.in_ok-abs_name.ensures.name_step
    ∙ origin-number s s2 upto2 c.in_ok-abs_name.abs_name (Named c.args.abs) c.in_ok-abs_name.ensures.name in
    let r = origin-number s s3 upto3 c.in_ok-rep_name.rep_name (Named c.args.rep) c.in_ok-rep_name.ensures.name in
    let list = traced-origin s s3 c.requires.run upto3 c.args.list_step c.requires.list_step in
    let premise = traced-origin s s3 c.requires.run upto3 c.args.premise_step c.requires.premise_step in
    record {
      op = traced-origin s1 s4 one.is_run from1 c.in_ok-name_step.op c.in_ok-name_step.ensures.symbol_step
          ∙ origin-number s s1 one c.in_ok-name_step.op (type_op_origin (Named c.args.name))
          c.in_ok-name_step.ensures.symbol;
      abs = traced-origin s2 s4 two.is_run from2 c.in_ok-abs_name.abs c.in_ok-abs_name.ensures.symbol_step
          ∙ origin-number s s2 upto2 c.in_ok-abs_name.abs (constant_origin (Named c.args.abs))
          c.in_ok-abs_name.ensures.symbol;
      rep = traced-origin s3 s4 three.is_run four c.in_ok-rep_name.rep c.in_ok-rep_name.ensures.symbol_step
          ∙ origin-number s s3 upto3 c.in_ok-rep_name.rep (constant_origin (Named c.args.rep))
          c.in_ok-rep_name.ensures.symbol;
      definition = c.in_ok-definition.ensures.made
          ∙ (λ i. Define words.DefineTypeOp
          (MoreOrigins (n i)
          (MoreOrigins (a i) (MoreOrigins (r i) (MoreOrigins (list i) (MoreOrigins (premise i) NoOrigins))))));
      op_step = omega (arith, c.in_ok-name_step.ensures.symbol_step, from1.grown.longer);
      abs_step = omega (arith, c.in_ok-abs_name.ensures.symbol_step, from2.grown.longer);
      rep_step = omega (arith, c.in_ok-rep_name.ensures.symbol_step, four.grown.longer);
      definition_step = c.in_ok-definition.ensures.inside;
    }

pub returns-clause-kept : goal.returns-clause-kept
returns-clause-kept c =
    let s = c.args.self.now in
    traces-on s c.symbol_steps-3.new.self c.defining_step.new.self
    (traces-on s c.symbol_steps-2.new.self c.symbol_steps-3.new.self
    (traces-on s c.symbol_steps.new.self c.symbol_steps-2.new.self c.in_ok-name_step.ensures.kept
    c.in_ok-abs_name.ensures.kept) c.in_ok-rep_name.ensures.kept)
    c.in_ok-definition.ensures.kept
