use Rattle.ot_program.proofs.TextLemmas.{symbol_added}
use Rattle.ot_program.proofs.texts.add_symbol.Goals as goal

pub returns : goal.returns
returns c =
    symbol_added c.spell.result c.args.kernel.now c.args.symbol.kind c.args.symbol.name
    c.get.result.now c.args.out.now.items c.add_text.new.out.items c.spell.new.out.items
    (cc (c.in_ok-add_text.ensures)) (cc (c.get.ensures.name, c.names.ensures)) c.spell.ensures.ok
