use Rattle.std.proofs.Common.{◌∙◌, sym}
use Rattle.ot_log_page.proofs.Showing.{no-place}
use Rattle.ot_log_page.proofs.sheet.Sheet.term_number.Goals as goal

pub returns-in-None : goal.returns-in-None
returns-in-None c = c.len.ensures.len
    ∙ no-place _ c.args.self.now.terms.keys (sym c.get_index_of.ensures.index ∙ c.in-None.is)
