use Rattle.std.specs.List.{list_all}
use Rattle.std.proofs.Common.{◌∙◌, ap, sym}
use Rattle.ot_forms.specs.Words.{base}
use Rattle.ot_parse.specs.Bases.{is_sole, is_no_rival}
use Rattle.ot_parse.specs.Symbols.{symbol_of}
use Rattle.ot_parse.proofs.BaseNames.{alone-constant, alone-type}
use Rattle.ot_parse.proofs.bases.Bases.is_alone.Goals as goal

pub returns-in-Con : goal.returns-in-Con
returns-in-Con c = λ shown symbols h.
    c.is_sole.ensures ∙ ap (is_sole c.args.name.now) (h.constants (base c.args.name.now))
    ∙ alone-constant shown c.args.name.now symbols
    ∙ ap (λ k. list_all (is_no_rival shown (symbol_of (k, c.args.name.now))) symbols) (sym c.in-Con.is)

pub returns-in-TyOp : goal.returns-in-TyOp
returns-in-TyOp c = λ shown symbols h.
    c.is_sole-in-TyOp.ensures ∙ ap (is_sole c.args.name.now) (h.types (base c.args.name.now))
    ∙ alone-type shown c.args.name.now symbols
    ∙ ap (λ k. list_all (is_no_rival shown (symbol_of (k, c.args.name.now))) symbols) (sym c.in-TyOp.is)
