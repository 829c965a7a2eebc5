use Rattle.std.specs.Prelude.{Result, Ok, Err, OnOk, OnErr}
use Rattle.std.specs.List.{All}
use Rattle.std.proofs.Common.{List, [], ◌∷◌, ◌++◌, ◌≡◌, subst, sym, ◌∙◌}
use Rattle.std.proofs.lemmas.List.Elements.{All-push}
use Rattle.ot_log_nodes.specs.Items.{HasTerm, term_at}
use Rattle.ot_log_rules.specs.Statements.{terms_at, sequent_at, HasStatement}
use Rattle.ot_log_rules.specs.Keeping.{ordered}
use Rattle.ot_log_rules.proofs.KeptOnce.{kept-before, kept-there, kept-new}
use Rattle.ot_log_rules.proofs.kept.Kept.keep.Goals as goal
use Rattle.ot_logic.proofs.Results.{on_ok-then}

-- all of a list that has one more, or is as it was
kept-all : {X E : Type 0} (P : X → Type 0) (r : Result (Unit {0}) E) (xs ys : List X) (x : X)
    → OnOk r (ys ≡ xs ++ x ∷ []) → OnErr r (ys ≡ xs) → All P xs → P x → All P ys
kept-all P (Ok u) xs ys x e f h p = subst (All P) (sym e) (All-push P xs x h p)
kept-all P (Err d) xs ys x e f h p = subst (All P) (sym f) h

pub returns-then-contains-clause-ok : goal.returns-then-contains-clause-ok
returns-then-contains-clause-ok c =
    let ts = c.args.nodes.now in
    let k = c.args.self.now in
    kept-there ts c.primitives.ensures.once k.statements.items c.args.statement.now c.contains.result
    (c.contains.ensures ∙ kept-before ts c.primitives.ensures.once k.statements.items k.keys.keys c.in_ok-key.key
    c.args.statement.now c.requires.all c.requires.statement c.requires.kept.keys c.in_ok-key.ensures)
    c.if-contains.true

pub add-requires-clause-key : goal.add-requires-clause-key
add-requires-clause-key c = c.in_ok-key.ensures
    ∙ (λ i. (ordered (sym c.in_ok-copy.ensures.0 i), sym c.in_ok-copy.ensures.1 i))

pub add-requires-clause-fresh : goal.add-requires-clause-fresh
add-requires-clause-fresh c = sym c.contains.ensures ∙ c.if-contains.false

pub returns-clause-all : goal.returns-clause-all
returns-clause-all c =
    let ts = c.args.nodes.now in
    let copy = c.in_ok-copy.copy in
    let has : HasStatement ts copy =
    record {
      hyps = subst (All (HasTerm ts)) (sym c.in_ok-copy.ensures.0) c.requires.statement.hyps;
      concl = subst (HasTerm ts) (sym c.in_ok-copy.ensures.1) c.requires.statement.concl;
    } in
    kept-all (HasStatement ts) c.add.result c.args.self.now.statements.items c.add.new.self.statements.items copy
    c.add.ensures.ok c.add.ensures.err c.requires.all has

pub returns-clause-ok : goal.returns-clause-ok
returns-clause-ok c =
    let ts = c.args.nodes.now in
    let k = c.args.self.now in
    let copy = c.in_ok-copy.copy in
    let same : sequent_at ts copy ≡ sequent_at ts c.args.statement.now =
    (λ i. record {
      hyps = terms_at ts (c.in_ok-copy.ensures.0 i);
      concl = term_at ts (c.in_ok-copy.ensures.1 i);
    }) in
    on_ok-then c.add.result
    (λ e. kept-new ts c.primitives.ensures.once k.statements.items c.add.new.self.statements.items
    c.args.statement.now copy c.contains.result e same
    (c.contains.ensures ∙ kept-before ts c.primitives.ensures.once k.statements.items k.keys.keys c.in_ok-key.key
    c.args.statement.now c.requires.all c.requires.statement c.requires.kept.keys c.in_ok-key.ensures)
    c.if-contains.false) c.add.ensures.ok
