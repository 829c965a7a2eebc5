-- By the forms, lines stand for what they are read as, and the first refused line is refused as its forms say.
use Rattle.std.specs.Prelude.{◌≡◌, ◌+◌, ◌-◌, List, [], ◌∷◌, Result, Ok, Err}
use Rattle.std.proofs.Common.{refl, sym, ap, subst, arith}
use Rattle.ot_logic.specs.Answers.{◌>>=◌}
use Rattle.ot_logic.specs.Names.{Name}
use Rattle.ot_logic.specs.Trees.{Sequent, Symbol}
use Rattle.ot_theory.specs.Lines.{LineText}
use Rattle.ot_forms.specs.Meaning.{Refusal}
use Rattle.ot_forms.specs.Words.{IsNotation}
use Rattle.ot_forms.specs.Refusals.{IsRefused}
use Rattle.ot_read.specs.Lines.{line_read, at_line, lines_read, RefusedLine}
use Rattle.ot_read.specs.Laws.{LinesReadByForms, AreRead}

module _ (hidden : List (Symbol Name)) (nt : IsNotation hidden) (forms : LinesReadByForms) where
  first : (l : LineText) (ls : List LineText) (o : Result (Sequent Name) Refusal) → line_read hidden l.text ≡ o
      → (p : Result (List (Sequent Name)) RefusedLine) → AreRead hidden ls p
      → AreRead hidden (l ∷ ls) (at_line l.number o >>= λ q. p >>= λ qs. Ok (q ∷ qs))
  first l ls (Err (k, f)) e p read =
      let column : k + 1 - 1 ≡ k = omega arith in
      record {
        before = [];
        sequents = [];
        line = l;
        after = ls;
        cut = refl;
        stand = tt;
        number_is = refl;
        column_is = omega arith;
        refused = subst (λ j. IsRefused hidden l.text j f) (sym column) (((forms hidden nt l.text).refused k f).0 e);
      }
  first l ls (Ok q) e (Ok qs) read = (((forms hidden nt l.text).stands q).0 e, read)
  first l ls (Ok q) e (Err r) read = record {
    before = l ∷ read.before;
    sequents = q ∷ read.sequents;
    line = read.line;
    after = read.after;
    cut = ap (λ z. l ∷ z) read.cut;
    stand = (((forms hidden nt l.text).stands q).0 e, read.stand);
    number_is = read.number_is;
    column_is = read.column_is;
    refused = read.refused;
  }

  pub texts-by-forms : (ls : List LineText) → AreRead hidden ls (lines_read hidden ls)
  texts-by-forms [] = tt
  texts-by-forms (l ∷ ls) = first l ls (line_read hidden l.text) refl (lines_read hidden ls) (texts-by-forms ls)
