-- Each step keeps a state lawful.
use Rattle.std.specs.Prelude.{◌≡◌, List, Result, Ok}
use Rattle.std.proofs.Common.{refl, ap, ◌∙◌, subst}
use Rattle.ot_logic.specs.Names.{Name}
use Rattle.ot_logic.specs.Faults.{Fault}
use Rattle.ot_logic.specs.Answers.{◌>>=◌}
use Rattle.ot_logic.specs.declared.command.Cmd.{Cmd}
use Rattle.ot_logic.specs.declared.command.Cmd.TheVariants as words
use Rattle.ot_scan.specs.Words.{WordValue}
use Rattle.ot_trace.specs.Origins.{Number, Named}
use Rattle.ot_machine.specs.Objects.{number, name}
use Rattle.ot_machine.specs.States.{Entry, Version, open_version, version_5, version_6, ArticleState, State, Context}
use Rattle.ot_machine.specs.Places.{pushed}
use Rattle.ot_machine.specs.Rows.{Row, making, nil_row, hd_tl_row, pop_row, version_row}
use Rattle.ot_machine.specs.Rows.{type_op_row, const_row, def_row, ref_row, remove_row, thm_row}
use Rattle.ot_machine.specs.Step.{Command, numeral, named, order, command_of, version_rule}
use Rattle.ot_machine.specs.Step.{on_article, on_stack, define_type_row, word_row, row, counted, step}
use Rattle.ot_machine.specs.Lawful.{Basis, run_basis, IsLawfulArticle, IsLawful, AreLawfulGivens, IsNaming, Keeps}
use Rattle.ot_machine.specs.NamesIn.{HasVersion5}
use Rattle.ot_machine.proofs.Tops.{same-ok}
use Rattle.ot_machine.proofs.StackRows.{AllFit, KeepsStack, pushed-fits, making-keeps}
use Rattle.ot_machine.proofs.StackRows.{nil-keeps, hd_tl-keeps, pop-keeps, version-keeps}
use Rattle.ot_machine.proofs.StackRows.{const-keeps as const-row, type_op-keeps as type_op-row}
use Rattle.ot_machine.proofs.ArticleRows.{KeepsArticle, def-keeps, ref-keeps, remove-keeps, thm-keeps}
use Rattle.ot_machine.proofs.Growing.{same-basis}
use Rattle.ot_machine.proofs.RunRows.{answer}
use Rattle.ot_machine.proofs.DischargeRow.{axiom-keeps}
use Rattle.ot_machine.proofs.Version5Names.{type_op_5-keeps}
use Rattle.ot_machine.proofs.DefinitionRows.{const-keeps, const_list-keeps, type_op-keeps}
use Rattle.ot_logic.proofs.Results.{bind-ok}

abbrev ok : ArticleState → Result ArticleState (Fault Name)
ok a = Ok a

abbrev okay : List Entry → Row
okay es = Ok es

module _ (P : Name → Type 0) (has : HasVersion5 P) where
  article-kept : (s t : State) (change : ArticleState → Result ArticleState (Fault Name))
      → KeepsArticle P s.run change → IsLawful P s → on_article change s ≡ answer t → Keeps P s t
  article-kept s t change keeps h p =
      let a = bind-ok (change s.article) _ _ p in
      subst (Keeps P s) (same-ok (answer (record s { article = a.0 })) _ t refl a.2)
      (record { run = h.run; article = keeps s.article a.0 h.article a.1 }, same-basis (run_basis P s.run))

  stack-kept : (s t : State) (change : List Entry → Row) → KeepsStack (run_basis P s.run) change → IsLawful P s
      → on_stack change s ≡ answer t → Keeps P s t
  stack-kept s t change keeps h p =
      article-kept s t (λ a. change a.stack >>= λ stack. Ok (record a { stack = stack })) by h p
    where
      by : KeepsArticle P s.run (λ a. change a.stack >>= λ stack. Ok (record a { stack = stack }))
      by a c l q =
          let x = bind-ok (change a.stack) _ _ q in
          subst (IsLawfulArticle P s.run) (same-ok (ok (record a { stack = x.0 })) _ c refl x.2)
          (record {
            stack = keeps a.stack x.0 l.stack x.1;
            dictionary = l.dictionary;
            exports = l.exports;
            stated = l.stated;
            apart = l.apart;
          })

  module _ (c : Context) (s t : State) (naming : IsNaming P c) (givens : AreLawfulGivens P s.run c.theorems)
      (h : IsLawful P s) where
    abbrev b : Basis
    b = run_basis P s.run

    stack : (change : List Entry → Row) → KeepsStack b change → on_stack change s ≡ answer t → Keeps P s t
    stack change keeps p = stack-kept s t change keeps h p

    article : (change : ArticleState → Result ArticleState (Fault Name)) → KeepsArticle P s.run change
        → on_article change s ≡ answer t → Keeps P s t
    article change keeps p = article-kept s t change keeps h p

    type-kept : (v : Version) → define_type_row v c s ≡ answer t → Keeps P s t
    type-kept open_version p = type_op_5-keeps P has c s t naming h p
    type-kept version_5 p = type_op_5-keeps P has c s t naming h p
    type-kept version_6 p = type_op-keeps P c s t naming.constants naming.type_ops h p

    word-kept : (v : Version) (w : Cmd) → word_row v c w s ≡ answer t → Keeps P s t
    word-kept v words.Version p = stack version_row (version-keeps b) p
    word-kept v words.Nil p = stack nil_row (nil-keeps b) p
    word-kept v words.Cons p = stack (making words.Cons) (making-keeps b words.Cons (λ os. tt)) p
    word-kept v words.HdTl p = stack hd_tl_row (hd_tl-keeps b) p
    word-kept v words.Def p = article def_row (def-keeps P s.run) p
    word-kept v words.Ref p = article ref_row (ref-keeps P s.run) p
    word-kept v words.Remove p = article remove_row (remove-keeps P s.run) p
    word-kept v words.Pop p = stack pop_row (pop-keeps b) p
    word-kept v words.Pragma p = stack pop_row (pop-keeps b) p
    word-kept v words.TypeOp p = stack (type_op_row c) (type_op-row b c naming.type_ops) p
    word-kept v words.OpType p = stack (making words.OpType) (making-keeps b words.OpType (λ os. tt)) p
    word-kept v words.VarType p = stack (making words.VarType) (making-keeps b words.VarType (λ os. tt)) p
    word-kept v words.Var p = stack (making words.Var) (making-keeps b words.Var (λ os. tt)) p
    word-kept v words.VarTerm p = stack (making words.VarTerm) (making-keeps b words.VarTerm (λ os. tt)) p
    word-kept v words.Const p = stack (const_row c) (const-row b c naming.constants) p
    word-kept v words.ConstTerm p = stack (making words.ConstTerm) (making-keeps b words.ConstTerm (λ os. tt)) p
    word-kept v words.AppTerm p = stack (making words.AppTerm) (making-keeps b words.AppTerm (λ os. tt)) p
    word-kept v words.AbsTerm p = stack (making words.AbsTerm) (making-keeps b words.AbsTerm (λ os. tt)) p
    word-kept v words.Refl p = stack (making words.Refl) (making-keeps b words.Refl (λ os. tt)) p
    word-kept v words.Assume p = stack (making words.Assume) (making-keeps b words.Assume (λ os. tt)) p
    word-kept v words.EqMp p = stack (making words.EqMp) (making-keeps b words.EqMp (λ os. tt)) p
    word-kept v words.AbsThm p = stack (making words.AbsThm) (making-keeps b words.AbsThm (λ os. tt)) p
    word-kept v words.AppThm p = stack (making words.AppThm) (making-keeps b words.AppThm (λ os. tt)) p
    word-kept v words.DeductAntisym p =
        stack (making words.DeductAntisym) (making-keeps b words.DeductAntisym (λ os. tt)) p
    word-kept v words.BetaConv p = stack (making words.BetaConv) (making-keeps b words.BetaConv (λ os. tt)) p
    word-kept v words.Subst p = stack (making words.Subst) (making-keeps b words.Subst (λ os. tt)) p
    word-kept v words.Sym p = stack (making words.Sym) (making-keeps b words.Sym (λ os. tt)) p
    word-kept v words.Trans p = stack (making words.Trans) (making-keeps b words.Trans (λ os. tt)) p
    word-kept v words.ProveHyp p = stack (making words.ProveHyp) (making-keeps b words.ProveHyp (λ os. tt)) p
    word-kept v words.Axiom p = axiom-keeps P c s t givens h p
    word-kept v words.Thm p = article thm_row (thm-keeps P s.run) p
    word-kept v words.DefineConst p = const-keeps P c s t naming.constants h p
    word-kept v words.DefineConstList p = const_list-keeps P c s t naming.constants h p
    word-kept v words.DefineTypeOp p = type-kept v p

    row-kept : (v : Version) (command : Command) → ((n : Name) → command ≡ named n → P n)
        → row v c command s ≡ answer t → Keeps P s t
    row-kept v (numeral k) held p =
        stack (λ stack. Ok (pushed (record { object = number k; origin = Number k }) stack))
        (λ es fs all q. subst (AllFit b)
        (same-ok (okay (pushed (record { object = number k; origin = Number k }) es)) _ fs refl q)
        (pushed-fits b (record { object = number k; origin = Number k }) es (record { value_is = refl; rests = tt })
        all)) p
    row-kept v (named n) held p = stack (λ stack. Ok (pushed (record { object = name n; origin = Named n }) stack))
        (λ es fs all q. subst (AllFit b)
        (same-ok (okay (pushed (record { object = name n; origin = Named n }) es)) _ fs refl q)
        (pushed-fits b (record { object = name n; origin = Named n }) es
        (record { value_is = refl; rests = held n refl }) all)) p
    row-kept v (order w) held p = word-kept v w p

  -- a step keeps the state lawful, and what was lawful over its run
  pub step-lawful : (c : Context) (s t : State) (w : WordValue) → IsNaming P c
      → ((n : Name) → command_of w ≡ Ok (named n) → P n) → AreLawfulGivens P s.run c.theorems → IsLawful P s
      → step c s w ≡ Ok t → Keeps P s t
  step-lawful c s t w naming held givens h p =
      let command = bind-ok (command_of w) _ _ p in
      let passed = bind-ok (version_rule s.article.version s.article.count command.0) _ _ command.2 in
      let next = bind-ok (row passed.0 c command.0 s) _ _ passed.2 in
      let k = row-kept c s next.0 naming givens h passed.0 command.0 (λ n e. held n (command.1 ∙ ap Ok e)) next.1 in
      subst (Keeps P s)
      (same-ok (answer (record next.0 { article = record (counted next.0.article) { version = passed.0 } })) _ t
      refl next.2) (
        record {
          run = k.0.run;
          article = record {
            stack = k.0.article.stack;
            dictionary = k.0.article.dictionary;
            exports = k.0.article.exports;
            stated = k.0.article.stated;
            apart = k.0.article.apart;
          };
        },
        k.1,
      )
