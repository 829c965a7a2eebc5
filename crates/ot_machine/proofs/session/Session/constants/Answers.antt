use Rattle.std.proofs.Common.{◌<◌, [], ◌∷◌, map, refl, sym, ap, subst, ◌∙◌, length}
use Rattle.std.specs.List.{All}
use Rattle.std.proofs.lemmas.List.{map-append, take_at}
use Rattle.std.proofs.lemmas.List.Elements.{All-take}
use Rattle.ot_kernel.specs.State.{name_at}
use Rattle.ot_machine.specs.Meaning.{list_at, lists_of}
use Rattle.ot_machine.specs.Answers.{Makes}
use Rattle.ot_machine.proofs.Constants.{constants_onto, constants_onto-start, constants_onto-push, consed-made}
use Rattle.ot_machine.proofs.Constants.{longer-made}
use Rattle.ot_machine.proofs.Refusals.{refused-for-memory}
use Rattle.ot_machine.proofs.session.Session.constants.Goals as goal

pub names-init : goal.names-init
names-init c = record {
  of = c.requires.of;
  inside = tt;
  numbers = c.requires.names;
  so_far = constants_onto-start (map (name_at c.args.self.now.kernel) c.args.names.now);
  kept = refl;
  stack = refl;
}

pub names-preserved : goal.names-preserved
names-preserved c =
    let k = c.args.self.now.kernel in
    let split = c.in-Some.ensures.cases.0 in
    let made = consed-made _ _ _ c.in-Ok.ensures.made in
    let view = ap (map (name_at k)) split ∙ map-append (name_at k) c.in-Some.front.now (c.in-Some.name.now ∷ []) in
    let os = list_at (lists_of c.args.self.now c.names.machine) c.names.list in
    record {
      of = c.in-Ok.ensures.of;
      inside = c.in-Ok.ensures.inside;
      numbers = subst (All (λ n. n < length k.names)) (take_at c.in-Some.front.now (c.in-Some.name.now ∷ []) _ refl)
          (All-take (λ n. n < length k.names) (length c.in-Some.front.now) _
          (subst (All (λ n. n < length k.names)) split c.names.invariant.numbers));
      so_far = ap (constants_onto (map (name_at k) c.in-Some.front.now)) made
          ∙ sym (constants_onto-push (map (name_at k) c.in-Some.front.now) (name_at k c.in-Some.name.now) os)
          ∙ ap (λ ns. constants_onto ns os) (sym view)
          ∙ c.names.invariant.so_far;
      kept = c.in-Ok.ensures.kept ∙ c.names.invariant.kept;
      stack = c.in-Ok.ensures.stack ∙ c.names.invariant.stack;
    }

pub unreachable-requires : goal.unreachable-requires
unreachable-requires c =
    let k = c.args.self.now.kernel in
    let os = list_at (lists_of c.args.self.now c.names.machine) c.names.list in
    refused-for-memory k _ c.cons.result _ _
    (subst (Makes k _ c.cons.result)
    (longer-made _ _ (name_at k c.in-Some.name.now) os c.names.invariant.so_far) c.cons.ensures.made)
    c.in-Err.is (λ is. c.in_default-fault.not-Memory _ is)
