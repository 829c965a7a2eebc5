-- A definition that is accepted after some is accepted after fewer.
use Rattle.std.specs.Prelude.{◌≡◌, ◌==◌, ℕ, List, length, map, Ok}
use Rattle.ot_logic.specs.Names.{Name}
use Rattle.ot_logic.specs.Trees.{Definition}
use Rattle.ot_logic.specs.Faults.{StackEmpty}
use Rattle.ot_logic.specs.Answers.{◌>>=◌, unless}
use Rattle.ot_logic.specs.declared.command.Cmd.{Cmd}
use Rattle.ot_logic.specs.declared.command.Cmd.TheVariants as words
use Rattle.ot_trace.specs.Origins.{Origin, Number, Named, Make, Define, Outcome}
use Rattle.ot_machine.specs.Places.{as_name, as_list, as_term, as_theorem, as_each}
use Rattle.ot_machine.specs.DefinitionLists.{pairs_of}
use Rattle.ot_machine.specs.Makers.{Read}
use Rattle.ot_machine.specs.Values.{values, defined_by, definition_arity, definition_of, value_at}
use Rattle.ot_machine.proofs.Fewer.{HaveFewer, const_definition-fewer, list_definition-fewer, type_definition-fewer}
use Rattle.ot_logic.proofs.Results.{bind-ok, bind-to}

module _ (ds es : List (Definition Name)) (h : HaveFewer ds es) (x : Definition Name) where
  defined-fewer : (w : Cmd) (at : ℕ → Read) → defined_by w es at ≡ Ok x → defined_by w ds at ≡ Ok x
  defined-fewer words.DefineConst at p =
      let t = bind-ok (at 0 >>= as_term) _ _ p in
      let n = bind-ok (at 1 >>= as_name) _ _ t.2 in
      bind-to (at 0 >>= as_term) _ t.0 _ t.1
      (bind-to (at 1 >>= as_name) _ n.0 _ n.1 (const_definition-fewer ds es h n.0 t.0 x n.2))
  defined-fewer words.DefineConstList at p =
      let th = bind-ok (at 0 >>= as_theorem) _ _ p in
      let os = bind-ok (at 1 >>= as_list) _ _ th.2 in
      let ps = bind-ok (pairs_of os.0) _ _ os.2 in
      bind-to (at 0 >>= as_theorem) _ th.0 _ th.1
      (bind-to (at 1 >>= as_list) _ os.0 _ os.1
      (bind-to (pairs_of os.0) _ ps.0 _ ps.1
      (list_definition-fewer ds es h (map (λ p. p.0) ps.0) (map (λ p. p.1) ps.0) th.0 x ps.2)))
  defined-fewer words.DefineTypeOp at p =
      let th = bind-ok (at 0 >>= as_theorem) _ _ p in
      let vs = bind-ok (at 1 >>= as_list >>= as_each as_name) _ _ th.2 in
      let rep = bind-ok (at 2 >>= as_name) _ _ vs.2 in
      let abs = bind-ok (at 3 >>= as_name) _ _ rep.2 in
      let n = bind-ok (at 4 >>= as_name) _ _ abs.2 in
      bind-to (at 0 >>= as_theorem) _ th.0 _ th.1
      (bind-to (at 1 >>= as_list >>= as_each as_name) _ vs.0 _ vs.1
      (bind-to (at 2 >>= as_name) _ rep.0 _ rep.1
      (bind-to (at 3 >>= as_name) _ abs.0 _ abs.1
      (bind-to (at 4 >>= as_name) _ n.0 _ n.1 (type_definition-fewer ds es h n.0 abs.0 rep.0 vs.0 th.0 x n.2)))))
  defined-fewer w at p = absurd (cc)

  pub definition-fewer : (o : Origin Name) → definition_of es o ≡ Ok x → definition_of ds o ≡ Ok x
  definition-fewer (Define w os) p =
      let vs = bind-ok (values os) _ _ p in
      let u = bind-ok (unless StackEmpty (length vs.0 == definition_arity w)) _ _ vs.2 in
      bind-to (values os) _ vs.0 _ vs.1 (bind-to (unless StackEmpty (length vs.0 == definition_arity w)) _ u.0 _ u.1
      (defined-fewer w (λ n. value_at n vs.0) u.2))
  definition-fewer (Number k) p = absurd (cc)
  definition-fewer (Named n) p = absurd (cc)
  definition-fewer (Make w os) p = absurd (cc)
  definition-fewer (Outcome j d) p = absurd (cc)
