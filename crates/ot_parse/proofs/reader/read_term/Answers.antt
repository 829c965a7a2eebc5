use Rattle.std.proofs.Common.{◌≡◌, [], false, length, sym, subst}
use Rattle.ot_logic.specs.PlainTrees.{term_of_tree}
use Rattle.ot_forms.specs.Refusals.{ReadsAsTerm}
use Rattle.ot_forms.specs.Reading.{Got}
use Rattle.ot_parse.specs.Values.{meant_of}
use Rattle.ot_parse.specs.ReadLines.{meant_at}
use Rattle.ot_parse.proofs.Refusing.{term-refused, term-meant, term-meant-wrong}
use Rattle.ot_parse.proofs.reader.read_term.Goals as goal

pub returns-in-Ok-Value-clause-ok : goal.returns-in-Ok-Value-clause-ok
returns-in-Ok-Value-clause-ok c =
    subst (λ t. ReadsAsTerm c.args.notation.now c.args.text.now (term_of_tree t)) (sym c.into_term.ensures)
    (term-meant c.args.notation.now c.sound.ensures c.args.text.now c.in-Ok-Value.value
    (subst (λ v. meant_at c.args.notation.now (length c.args.text.now) false c.args.text.now
    ≡ Got (meant_of v) []) c.in-Ok-Value.field-0-is c.in-Ok-Value.ensures))

pub returns-in-Ok-Wrong-clause-refused : goal.returns-in-Ok-Wrong-clause-refused
returns-in-Ok-Wrong-clause-refused c =
    term-meant-wrong c.args.notation.now c.sound.ensures c.args.text.now c.in-Ok-Wrong.place c.in-Ok-Wrong.fault
    c.wrong_at.result
    (subst (λ v. meant_at c.args.notation.now (length c.args.text.now) false c.args.text.now
    ≡ Got (meant_of v) []) c.in-Ok-Wrong.field-0-is c.in-Ok-Wrong.ensures) c.wrong_at.ensures

pub returns-in-Err-clause-refused : goal.returns-in-Err-clause-refused
returns-in-Err-clause-refused c = term-refused c.args.notation.now c.sound.ensures c.args.text.now c.in-Err.halt
    c.halted_at.result c.in-Err.ensures c.halted_at.ensures
