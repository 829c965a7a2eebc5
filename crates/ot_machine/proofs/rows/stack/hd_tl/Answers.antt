use Rattle.std.proofs.Common.{◌∙◌, ◌∷◌, [], map, sym, ap}
use Rattle.std.specs.Prelude.{Ok, Some}
use Rattle.ot_machine.specs.declared.object.Object.TheVariants as objects
use Rattle.ot_machine.specs.Meaning.{entry_of, cells_of, run_of, machine_state}
use Rattle.ot_machine.specs.Rows.{hd_tl_row}
use Rattle.ot_machine.specs.Places.{exchanged}
use Rattle.ot_machine.proofs.Turning.{grows-same, stacked, parts-exchanged}
use Rattle.ot_machine.proofs.rows.stack.hd_tl.Goals as goal

pub returns : goal.returns
returns c =
    let s = c.args.session.now in
    let m = c.args.machine.now in
    let st = machine_state s m in
    let es = record { object = c.in-Some.head; step = Some c.operand_of-first.result }
    ∷ record { object = objects.List c.in-Some.tail; step = Some c.operand_of-rest.result } ∷ [] in
    let row = parts-exchanged st.article.stack _ _ _ _ _ _ c.in_ok-list.ensures.entry c.in-Some.ensures.list_is
    c.operand_of-first.ensures.operand c.operand_of-rest.ensures.operand in
    record {
      moves = stacked hd_tl_row st _ row
          ∙ sym (ap (λ a. Ok (record { article = a; run = run_of s })) (c.exchange.ensures.changed
          ∙ (λ i. let a = c.in_ok-push.ensures.ok i in
          record a {
            stack = exchanged 2
                (map (entry_of s (cells_of s.kernel (c.in_ok-push.ensures.cells i).items)) es) a.stack;
          })));
      grown = grows-same s;
      of = c.exchange.ensures.of;
    }
