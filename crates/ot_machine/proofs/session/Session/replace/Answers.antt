use Rattle.std.specs.List.{All}
use Rattle.std.proofs.Common.{◌≡◌, ◌∙◌, ◌-◌, ◌++◌, ◌∷◌, [], length, take, map, sym, ap, subst, arith}
use Rattle.std.proofs.lemmas.List.Elements.{All-nil, All-cons, All-take, All-append}
use Rattle.std.proofs.lemmas.Grind.{common_steps}
use Rattle.std.proofs.lemmas.List.{take_more_set}
use Rattle.ot_machine.specs.Meaning.{lists_of, entry_of, article_of, IsEntryIn}
use Rattle.ot_machine.specs.declared.object.Entry.{Entry}
use Rattle.ot_machine.proofs.Stack.{replaced_view}
use Rattle.ot_machine.proofs.session.Session.replace.Goals as goal

pub returns-clause-changed : goal.returns-clause-changed
returns-clause-changed c =
    let k = c.args.self.now in
    let cs = lists_of k c.args.machine.now in
    let stack = c.args.machine.now.stack in
    let items : c.truncate.new.self.items ≡ take (c.len.result - c.args.count) stack.items ++ record {
      object =
          c.args.object;
      step = c.args.step;
    } ∷ [] = grind (arith, common_steps, take_more_set) in
    let same = ap (map (entry_of k cs)) items ∙ replaced_view k cs stack.items c.args.count c.len.result
    (record { object = c.args.object; step = c.args.step }) (omega (arith, c.len.ensures, stack.ok.0)) in
    λ i. record (article_of k c.args.machine.now) { stack = same i }

pub returns-clause-of : goal.returns-clause-of
returns-clause-of c =
    let stack = c.args.machine.now.stack in
    let P = IsEntryIn c.args.self.now (length c.args.machine.now.cells.items) in
    let e : Entry = record { object = c.args.object; step = c.args.step } in
    let items : c.truncate.new.self.items ≡ take (c.len.result - c.args.count) stack.items ++ e ∷ [] =
    grind (arith, common_steps, take_more_set) in
    record {
      run = c.requires.of.run;
      stack = subst (All P) (sym items)
          (All-append P (take (c.len.result - c.args.count) stack.items) (e ∷ [])
          (All-take P (c.len.result - c.args.count) stack.items c.requires.of.stack)
          (All-cons P e [] (record { object = c.requires.inside; step = c.requires.step }) (All-nil P)));
      dictionary = c.requires.of.dictionary;
      exports = c.requires.of.exports;
      placed = c.requires.of.placed;
      cells = c.requires.of.cells;
    }
