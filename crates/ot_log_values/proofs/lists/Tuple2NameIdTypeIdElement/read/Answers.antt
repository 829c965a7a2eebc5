use Rattle.ot_log_values.proofs.Later.{known-later, name-later}
use Rattle.ot_log_values.proofs.Mapping.{type_pair-read}
use Rattle.ot_machine.specs.Places.{as_name, as_type}
use Rattle.ot_logic.specs.Faults.{BadSubst}
use Rattle.ot_machine.specs.Substitutions.{type_pair}
use Rattle.ot_log_values.proofs.Taking.{pair-parts, is-pair, first-is, second-is}
use Rattle.ot_log_values.proofs.lists.Tuple2NameIdTypeIdElement.read.Goals as goal

pub returns-in_err-name-clause-known : goal.returns-in_err-name-clause-known
returns-in_err-name-clause-known c =
    known-later c.args.session.now c.args.nodes.now c.name.new.nodes c.in_err-name.ensures.extends
    c.args.values.now c.requires.known

pub ty-requires-clause-known : goal.ty-requires-clause-known
ty-requires-clause-known c =
    known-later c.args.session.now c.args.nodes.now c.name.new.nodes c.in_ok-name.ensures.extends c.args.values.now
    c.requires.known

pub returns-clause-made : goal.returns-clause-made
returns-clause-made c =
    let s = c.args.session.now in
    let us = c.name.new.nodes in
    let ws = c.ty.new.nodes in
    let name = name-later s us ws c.in_ok-ty.ensures.extends
    c.in_ok-spelled.spelled c.in_ok-name.name c.in_ok-name.ensures.made in
    type_pair-read s ws c.args.step c.in_ok-spelled.spelled c.in_ok-spelled.ty
    c.in_ok-name.name c.in_ok-ty.ty c.in_ok-spelled.ensures.made
    name c.in_ok-ty.ensures.made

pub two_elements-requires-clause-pair : goal.two_elements-requires-clause-pair
two_elements-requires-clause-pair c =
    is-pair c.args.session.now as_name as_type type_pair (pair-parts BadSubst as_name as_type)
    c.args.step c.requires.value

pub name-requires-clause-value : goal.name-requires-clause-value
name-requires-clause-value c =
    first-is c.args.session.now as_name as_type type_pair (pair-parts BadSubst as_name as_type)
    c.args.step c.requires.value c.in_ok-spelled.spelled c.in_ok-spelled.ty c.in_ok-spelled.ensures.made

pub ty-requires-clause-value : goal.ty-requires-clause-value
ty-requires-clause-value c =
    second-is c.args.session.now as_name as_type type_pair (pair-parts BadSubst as_name as_type)
    c.args.step c.requires.value c.in_ok-spelled.spelled c.in_ok-spelled.ty c.in_ok-spelled.ensures.made
