use Rattle.std.proofs.Common.{[], ◌∷◌, refl}
use Rattle.std.proofs.lemmas.Result.{IfOk-weaker}
use Rattle.ot_logic.proofs.TableLemmas.{Extends-trans}
use Rattle.ot_logic.specs.declared.command.Cmd.TheVariants as words
use Rattle.ot_log_nodes.specs.Items.{name_at, term_at}
use Rattle.ot_log_nodes.proofs.TypingLemmas.{typings-grown}
use Rattle.ot_trace.specs.Origins.{NoOrigins, MoreOrigins}
use Rattle.ot_machine.specs.Meaning.{origin_of}
use Rattle.ot_machine.specs.Objects.{name, term}
use Rattle.ot_log_values.specs.Steps.{origins_of}
use Rattle.ot_log_values.proofs.Later.{known-later, name-later}
use Rattle.ot_log.proofs.Accepted.{defines-something, typed-term}
use Rattle.ot_log.proofs.Outcomes.{definable-values}
use Rattle.ot_log.proofs.Putting.{constant-puts, constant-values}
use Rattle.ot_log.proofs.Valued.{has-first, has-rest}
use Rattle.ot_log.proofs.Taken.{constant-taken}
use Rattle.ot_log.proofs.writer.Writer.put_constant.Goals as goal

pub term-requires-clause-known : goal.term-requires-clause-known
term-requires-clause-known c =
    known-later c.args.session.now c.args.self.now.nodes c.name.new.nodes c.in_ok-constant.ensures.extends
    c.args.self.now.values
    c.requires.writer.known

pub write_constant-requires-clause-n : goal.write_constant-requires-clause-n
write_constant-requires-clause-n c =
    (name-later c.args.session.now c.name.new.nodes c.term.new.nodes c.in_ok-term.ensures.extends
    c.args.n c.in_ok-constant.constant c.in_ok-constant.ensures.made).has

pub write_constant-requires-clause-known : goal.write_constant-requires-clause-known
write_constant-requires-clause-known c =
    typings-grown c.args.self.now.nodes c.term.new.nodes
    (Extends-trans c.in_ok-constant.ensures.extends c.in_ok-term.ensures.extends)
    c.args.self.now.typings.known.entries c.requires.writer.typings

pub returns-clause-puts : goal.returns-clause-puts
returns-clause-puts c =
    let s = c.args.session.now in
    let w = c.args.self.now in
    let ts = c.term.new.nodes in
    let d = c.write_constant in
    let x = d.ensures in
    let t = c.in_ok-term.ensures in
    let n = name-later s c.name.new.nodes ts t.extends c.args.n c.in_ok-constant.constant
    c.in_ok-constant.ensures.made in
    let hs = definable-values _ words.DefineConst (origins_of s (c.args.n ∷ c.args.t ∷ [])) refl
    c.requires.definable in
    IfOk-weaker d.result _ _
    (λ v r. constant-puts s w c.requires.writer ts d.new.nodes c.term.new.self d.new.typings d.new.sheet
    (Extends-trans c.in_ok-constant.ensures.extends t.extends) x.extends t.known x.known
    c.args.n c.args.t c.in_ok-constant.constant c.in_ok-term.term v.items hs n t.made r) x.defined

pub returns-clause-accepts : goal.returns-clause-accepts
returns-clause-accepts c =
    let s = c.args.session.now in
    let ts = c.term.new.nodes in
    let is = c.args.n ∷ c.args.t ∷ [] in
    let o = origin_of s c.args.n in
    let up = origin_of s c.args.t in
    let t = c.in_ok-term.ensures.made in
    let n = name-later s c.name.new.nodes ts c.in_ok-term.ensures.extends c.args.n c.in_ok-constant.constant
    c.in_ok-constant.ensures.made in
    let hs = definable-values _ words.DefineConst (origins_of s is) refl c.requires.definable in
    let has = has-first up NoOrigins (has-rest o (MoreOrigins up NoOrigins) hs) in
    let x = name (name_at ts c.in_ok-constant.constant) in
    let y = term (term_at ts c.in_ok-term.term) in
    let d = defines-something s words.DefineConst is (x ∷ y ∷ []) c.requires.definable
    (constant-values s ts c.args.n c.args.t c.in_ok-constant.constant c.in_ok-term.term hs n t) in
    c.write_constant.ensures.accepts (typed-term up (term_at ts c.in_ok-term.term) has t.made) d.0 d.1

pub name-requires-clause-value : goal.name-requires-clause-value
name-requires-clause-value c = (constant-taken c.args.session.now c.args.n c.args.t c.requires.definable).0

pub term-requires-clause-value : goal.term-requires-clause-value
term-requires-clause-value c = (constant-taken c.args.session.now c.args.n c.args.t c.requires.definable).1
