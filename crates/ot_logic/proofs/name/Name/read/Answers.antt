use Rattle.std.proofs.Common.{take, drop, length, ◌-◌}
use Rattle.ot_logic.proofs.Reading.{quote_first, gives-ok, gives-unterminated}
use Rattle.ot_logic.proofs.Reading.{gives-trailing, gives-named, gives-found, gives-missing}
use Rattle.ot_logic.proofs.name.Name.read.Goals as goal

pub returns-clause-ok : goal.returns-clause-ok
returns-clause-ok c = rw (quote_first _ c.requires) (gives-ok _ _ c.read_after_quote.ensures)

pub returns-clause-unterminated : goal.returns-clause-unterminated
returns-clause-unterminated c = rw (quote_first _ c.requires) (gives-unterminated _ _ c.read_after_quote.ensures)

pub returns-clause-trailing : goal.returns-clause-trailing
returns-clause-trailing c = rw (quote_first _ c.requires) (gives-trailing _ _ c.read_after_quote.ensures)

pub returns-clause-found : goal.returns-clause-found
returns-clause-found c = rw (quote_first _ c.requires)
    (gives-found _ (take (length c.args.quoted.now - 1) (drop 1 c.args.quoted.now)) c.read_after_quote.ensures)

pub returns-clause-missing : goal.returns-clause-missing
returns-clause-missing c = rw (quote_first _ c.requires)
    (gives-missing _ (take (length c.args.quoted.now - 1) (drop 1 c.args.quoted.now)) c.read_after_quote.ensures)

pub returns-clause-named : goal.returns-clause-named
returns-clause-named c = gives-named _ (take (length c.args.quoted.now - 1) (drop 1 c.args.quoted.now))
    c.read_after_quote.ensures
