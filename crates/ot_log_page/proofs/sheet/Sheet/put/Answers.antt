use Rattle.std.proofs.Common.{◌∷◌, [], map}
use Rattle.ot_log_format.specs.Tokens.{Word, spelling}
use Rattle.ot_log_records.specs.Logged.{token_of}
use Rattle.ot_log_page.specs.Sheets.{operand_at}
use Rattle.ot_log_page.proofs.Showing.{moves-then, moves-as, tokens-more}
use Rattle.ot_log_page.proofs.sheet.Sheet.put.Goals as goal

pub returns : goal.returns
returns c = record {
  moves = moves-as c.args.nodes.now _ _ _ _ (λ x. tokens-more (Word (spelling c.args.word) ∷ [])
      (map (token_of x) (map (operand_at c.args.nodes.now) c.args.operands.now)) x)
      (moves-then c.args.nodes.now _ _ _ _ _ (c.put_word.ensures.moves c.args.nodes.now)
      c.put_operands.ensures.moves);
}
