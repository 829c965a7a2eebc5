use Rattle.std.proofs.Common.{sym, ◌∙◌, arith}
use Rattle.std.proofs.lemmas.Bool.Decides.{nat_tests}
use Rattle.ot_logic.proofs.Shortlist.{command_of_length, no_command_of}
use Rattle.ot_logic.proofs.command.Cmd.find.Goals as goal

pub returns-in-3 : goal.returns-in-3
returns-in-3 c = c.of_three.ensures ∙ sym (command_of_length c.args.text.now 3 c.in-3.is)

pub returns-in-4 : goal.returns-in-4
returns-in-4 c = c.of_four.ensures ∙ sym (command_of_length c.args.text.now 4 c.in-4.is)

pub returns-in-5 : goal.returns-in-5
returns-in-5 c = c.of_five.ensures ∙ sym (command_of_length c.args.text.now 5 c.in-5.is)

pub returns-in-6 : goal.returns-in-6
returns-in-6 c = c.of_six.ensures ∙ sym (command_of_length c.args.text.now 6 c.in-6.is)

pub returns-in-7 : goal.returns-in-7
returns-in-7 c = c.of_seven.ensures ∙ sym (command_of_length c.args.text.now 7 c.in-7.is)

pub returns-in-8 : goal.returns-in-8
returns-in-8 c = c.of_eight.ensures ∙ sym (command_of_length c.args.text.now 8 c.in-8.is)

pub returns-in-9 : goal.returns-in-9
returns-in-9 c = c.only.ensures ∙ sym (command_of_length c.args.text.now 9 c.in-9.is)

pub returns-in-11 : goal.returns-in-11
returns-in-11 c = c.only-in-11.ensures ∙ sym (command_of_length c.args.text.now 11 c.in-11.is)

pub returns-in-12 : goal.returns-in-12
returns-in-12 c = c.only-in-12.ensures ∙ sym (command_of_length c.args.text.now 12 c.in-12.is)

pub returns-in-13 : goal.returns-in-13
returns-in-13 c = c.only-in-13.ensures ∙ sym (command_of_length c.args.text.now 13 c.in-13.is)

pub returns-in-15 : goal.returns-in-15
returns-in-15 c = c.only-in-15.ensures ∙ sym (command_of_length c.args.text.now 15 c.in-15.is)

pub returns-in_default : goal.returns-in_default
returns-in_default c = no_command_of c.args.text.now (grind (arith, nat_tests))
