use Rattle.std.specs.List.{All}
use Rattle.std.specs.Option.{option_map}
use Rattle.std.proofs.Common.{◌≡◌, ℕ, ◌+◌, ◌<◌, List, ◌∷◌, [], ◌++◌, Some, length, map, drop, sym, subst, ap, ◌∙◌}
use Rattle.std.proofs.lemmas.List.{map-append}
use Rattle.std.proofs.lemmas.List.Elements.{All-push}
use Rattle.ot_logic.specs.Naming.{numbers}
use Rattle.ot_logic.specs.Trees.{Tm}
use Rattle.ot_term.specs.TermTable.{variable_of}
use Rattle.ot_term.specs.declared.term.VarKey.{VarKey}
use Rattle.ot_laws.specs.Conditions.{given, only, terms_given}
use Rattle.ot_define.specs.Answers.{tm_at}
use Rattle.ot_define.proofs.Giving.{only-given, only-inside, terms-next, left-from}
use Rattle.ot_define.proofs.lists.terms_given.Goals as goal

pub loop-v-preserved : goal.loop-v-preserved
loop-v-preserved c =
    let tys = c.args.terms.now.types in
    let ts = c.args.terms.now.terms in
    let tm = tm_at ts in
    let hs = map tm c.args.hyps.now in
    let v = c.v-item.result in
    let t = c.in-Some.t in
    let done = c.loop-v.given.items in
    let rest = map (variable_of tys) (drop (c.loop-v.v-index + 1) c.args.vars.now) in
    let below : v.ty < length tys =
    subst (λ (x : VarKey). x.ty < length tys) (sym c.v-item.is)
    (c.requires.vars c.loop-v.v-index v c.loop-v-test.true) in
    let one : only (given numbers hs (variable_of tys v)) ≡ Some (tm t) =
    sym (only-given tys ts c.args.hyps.now c.in_ok-all.all.entries c.in_ok-all.ensures v below)
    ∙ ap (option_map tm) (sym c.in-Some.ensures) in
    record {
      given =
          c.loop-v.invariant.given
          ∙ ap (λ (vs : List VarKey). option_map (λ us. map tm done ++ us)
          (terms_given numbers hs (map (variable_of tys) vs)))
          (left-from c.args.vars.now c.loop-v.v-index v c.loop-v-test.true c.v-item.is)
          ∙ terms-next hs (map tm done) (variable_of tys v) (tm t) rest one
          ∙ ap (λ (us : List (Tm ℕ)). option_map (λ ws. us ++ ws) (terms_given numbers hs rest))
          (sym (map-append tm done (t ∷ [])) ∙ ap (map tm) (sym c.in_ok-push.ensures.items));
      inside = subst (All (λ i. i < length ts)) (sym c.in_ok-push.ensures.items)
          (All-push (λ i. i < length ts) done t c.loop-v.invariant.inside
          (only-inside tys ts c.args.hyps.now c.in_ok-all.all.entries c.in_ok-all.ensures v t (sym c.in-Some.ensures)));
    }
