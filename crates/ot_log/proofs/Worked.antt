-- The work list, over plain values.
use Rattle.std.specs.List.{All}
use Rattle.std.proofs.Common.{◌≡◌, ℕ, suc, ◌+◌, ◌<◌, Bool, true, false, cond}
use Rattle.std.proofs.Common.{List, [], ◌∷◌, ◌++◌, map, length, reverse}
use Rattle.std.proofs.Common.{slice_get, None, Some, refl, sym, ap, subst, ◌∙◌, arith}
use Rattle.std.proofs.lemmas.List.{reverse-append}
use Rattle.std.proofs.lemmas.List.Elements.{All-head, All-tail}
use Rattle.ot_logic.specs.Names.{Name}
use Rattle.ot_logic.specs.declared.command.Cmd.{Cmd}
use Rattle.ot_trace.specs.Origins.{Origin, Origins, Number, Named, Make, Define}
use Rattle.ot_trace.specs.Origins.{Outcome, map_origin}
use Rattle.ot_trace.specs.Trace.{origin_at, origins_at, origin_of as step_origin}
use Rattle.ot_machine.specs.Values.{value, values}
use Rattle.ot_machine.specs.Meaning.{origin_of}
use Rattle.ot_machine.specs.declared.session.Session.{Session}
use Rattle.ot_log_law.specs.Derived.{makes_theorem}
use Rattle.ot_log_law.specs.Writing.{Written, number_of, once, put_theorem, write, write_all}
use Rattle.ot_write.specs.Emitting.{cost, cost_all}
use Rattle.ot_log_values.specs.Steps.{origins_of}
use Rattle.ot_log_words.specs.Recording.{HasResult}
use Rattle.ot_log.specs.Keeping.{Holds, Moves, number_at}
use Rattle.ot_log.specs.Ready.{HasOperands, HasOutcomes, HaveOutcomes, Knows}
use Rattle.ot_log.specs.Working.{AreTasks, CanDo, CanDoAll, IsTask, MakesTheorem, Replaces, close, perform}
use Rattle.ot_log.specs.Working.{rest, task_cost, total}
use Rattle.ot_log.specs.declared.worklist.Task.{Task}
use Rattle.ot_log.specs.declared.worklist.Task.TheVariants as task
use Rattle.ot_log.specs.declared.writer.Writer.{Writer}
use Rattle.ot_kernel.specs.State.{name_at}
use Rattle.ot_trace.specs.declared.step.Step.{Step}
use Rattle.ot_trace.specs.declared.step.Step.TheVariants as step
use Rattle.ot_log.proofs.Valued.{has-values, has-first, has-rest}
use Rattle.ot_log.proofs.Closed.{step-origin}
use Rattle.ot_log.proofs.Numbered.{all-outcomes-kept, write-keeps, write_all-there}

-- ---- what leads to the whole: once f is done too
abbrev pub Leads : Session → Writer → Writer → (Written → Written) → (Written → Written) → Type 0
Leads s start now f whole = (max : ℕ) (x : Written) → Holds s max start x → (y : Written) × Holds s max now y
    × (f y ≡ whole x)

module _ (s : Session) where
  pub rest-append : (xs ys : List Task) (x : Written) → rest s (xs ++ ys) x ≡ rest s xs (rest s ys x)
  rest-append [] ys x = refl
  rest-append (k ∷ xs) ys x = ap (perform s k) (rest-append xs ys x)

  -- steps that are asked for from the last to the first
  pub rest-steps : (is : List ℕ) (x : Written) → rest s (reverse (map task.Write is)) x
      ≡ write_all (origins_of s is) x
  rest-steps [] x = refl
  rest-steps (i ∷ is) x =
      ap (λ l. rest s l x) (reverse-append (task.Write i ∷ []) (map task.Write is))
      ∙ rest-append (reverse (map task.Write is)) (task.Write i ∷ []) x ∙ rest-steps is (write (origin_of s i) x)

  pub leads-more : (start mid new : Writer) (whole : Written → Written) (all before after : List Task) (k : Task)
      → all ≡ before ++ k ∷ [] → Leads s start mid (rest s all) whole → Replaces s mid new before after k
      → Leads s start new (rest s after) whole
  leads-more start mid new whole all before after k e h p = λ max x t.
      let a = h max x t in
      let b = p max a.0 a.1 in
      (b.0, b.1, b.2 ∙ sym (rest-append before (k ∷ []) a.0) ∙ ap (λ l. rest s l a.0) (sym e) ∙ a.2)

  -- ---- what can be done
  can-append : (xs ys : List Task) (x : Written) → CanDoAll s xs (rest s ys x) → CanDoAll s ys x
      → CanDoAll s (xs ++ ys) x
  can-append [] ys x h k = k
  can-append (t ∷ xs) ys x h k =
      (subst (CanDo s t) (sym (rest-append xs ys x)) h.0, can-append xs ys x h.1 k)

  can-before : (xs : List Task) (t : Task) (x : Written) → CanDoAll s (xs ++ t ∷ []) x
      → CanDo s t x × CanDoAll s xs (perform s t x)
  can-before [] t x h = (h.0, tt)
  can-before (u ∷ xs) t x h =
      let r = can-before xs t x h.1 in
      (r.0, (subst (CanDo s u) (rest-append xs (t ∷ []) x) h.0, r.1))

  pub can-steps : (is : List ℕ) (x : Written) → HaveOutcomes x (origins_of s is)
      → CanDoAll s (reverse (map task.Write is)) x
  can-steps [] x h = tt
  can-steps (i ∷ is) x h =
      let y = write (origin_of s i) x in
      subst (λ l. CanDoAll s l x) (sym (reverse-append (task.Write i ∷ []) (map task.Write is)))
      (can-append (reverse (map task.Write is)) (task.Write i ∷ []) x
      (can-steps is y (all-outcomes-kept x y (write-keeps (origin_of s i) x) (origins_of s is) h.1)) (h.0, tt))

  pub task-ready : (mid : Writer) (all before : List Task) (k : Task) → all ≡ before ++ k ∷ []
      → Knows s mid (CanDoAll s all) → Knows s mid (CanDo s k)
  task-ready mid all before k e h =
      (h.0, h.1, h.2, (can-before before k h.1 (subst (λ l. CanDoAll s l h.1) e h.3)).0)

  pub more-ready : (mid new : Writer) (all before after : List Task) (k : Task) → all ≡ before ++ k ∷ []
      → Knows s mid (CanDoAll s all) → Replaces s mid new before after k → Knows s new (CanDoAll s after)
  more-ready mid new all before after k e h p =
      let b = p h.0 h.1 h.2 in
      let c = can-before before k h.1 (subst (λ l. CanDoAll s l h.1) e h.3) in
      (h.0, b.0, b.1, b.3 c.0 c.1)

  pub leads-all : (start now : Writer) (whole : Written → Written) (ws : List Task) → ws ≡ []
      → Leads s start now (rest s ws) whole → Moves s start now whole
  leads-all start now whole ws e h = λ max x t. let a =
      h max x t in subst (Holds s max now) (sym (ap (λ l. rest s l a.0) e) ∙ a.2) a.1

  -- ---- how much is left
  pub total-append : (xs ys : List Task) → total s (xs ++ ys) ≡ total s xs + total s ys
  total-append [] ys = omega arith
  total-append (k ∷ xs) ys = let h = total-append xs ys in omega arith

  total-steps : (is : List ℕ) → total s (reverse (map task.Write is)) ≡ cost_all (origins_at s.trace is)
  total-steps [] = refl
  total-steps (i ∷ is) =
      let e = ap (total s) (reverse-append (task.Write i ∷ []) (map task.Write is)) in
      let h = total-append (reverse (map task.Write is)) (task.Write i ∷ []) in
      let k = total-steps is in
      omega (arith, e, h, k)

  pub pop-cheaper : (all before after : List Task) (k : Task) → all ≡ before ++ k ∷ []
      → total s after < total s before + task_cost s k → total s after < total s all
  pop-cheaper all before after k e h =
      let a = ap (total s) e in
      let b = total-append before (k ∷ []) in
      omega (arith, a, b, h)

  cost-some : (o : Origin ℕ) → 0 < cost o
  cost-some (Number k) = omega arith
  cost-some (Named n) = omega arith
  cost-some (Make c os) = omega arith
  cost-some (Define c os) = omega arith
  cost-some (Outcome j d) = omega arith

  pub cheaper-same : (ws : List Task) (id : ℕ) → total s ws < total s ws + task_cost s (task.Write id)
  cheaper-same ws id = let h = cost-some (origin_at s.trace id) in omega arith

  pub asked-cheaper : (old new : List Task) (id : ℕ) (c : Cmd) (ops : List ℕ)
      → origin_at s.trace id ≡ Make c (origins_at s.trace ops) → new ≡ (old ++ task.Close id ∷ [])
      ++ reverse (map task.Write ops)
      → total s new < total s old + task_cost s (task.Write id)
  asked-cheaper old new id c ops e a =
      let p = ap (total s) a in
      let q = total-append (old ++ task.Close id ∷ []) (reverse (map task.Write ops)) in
      let r = total-append old (task.Close id ∷ []) in
      let t = total-steps ops in
      let u : cost (origin_at s.trace id) ≡ suc (suc (cost_all (origins_at s.trace ops))) = ap cost e in
      omega (arith, p, q, r, t, u)

  -- ---- the tasks
  pub tasks-append : (xs ys : List Task) → AreTasks s xs → AreTasks s ys → AreTasks s (xs ++ ys)
  tasks-append [] ys h k = k
  tasks-append (x ∷ xs) ys h k = (h.0, tasks-append xs ys h.1 k)

  pub steps-tasks : (is : List ℕ) → All (λ i. i < length s.trace) is → HasResult (values (origins_of s is))
      → AreTasks s (reverse (map task.Write is))
  steps-tasks [] h v = tt
  steps-tasks (i ∷ is) h v =
      subst (AreTasks s) (sym (reverse-append (task.Write i ∷ []) (map task.Write is)))
      (tasks-append (reverse (map task.Write is)) (task.Write i ∷ [])
      (steps-tasks is (All-tail (λ i. i < length s.trace) i is h) (has-rest (origin_of s i) (origins_of s is) v)) (
        record {
          inside = All-head (λ i. i < length s.trace) i is h;
          value = has-first (origin_of s i) (origins_of s is) v;
          closes = tt;
        },
        tt,
      ))

  pub asked-tasks : (old new : List Task) (id : ℕ) (c : Cmd) (ops : List ℕ)
      → origin_of s id ≡ Make c (origins_of s ops)
      → new ≡ (old ++ task.Close id ∷ []) ++ reverse (map task.Write ops) → AreTasks s old → IsTask s (task.Write id)
      → All (λ i. i < length s.trace) ops
      → makes_theorem c ≡ true → AreTasks s new
  asked-tasks old new id c ops e a h k l m =
      subst (AreTasks s) (sym a) (tasks-append (old ++ task.Close id ∷ []) (reverse (map task.Write ops))
      (tasks-append old (task.Close id ∷ []) h
      (record { inside = k.inside; value = k.value; closes = subst MakesTheorem (sym e) m }, tt))
      (steps-tasks ops l (has-values c (origins_of s ops) (subst (λ o. HasResult (value o)) e k.value))))

  -- ---- one task
  write-known : (o : Origin Name) (x : Written) (n : ℕ) → number_of o x.theorems ≡ Some n → x ≡ write o x
  write-known (Make w os) x n e = go (makes_theorem w)
    where
      go : (b : Bool)
          → x ≡ cond b (once (number_of (Make w os) x.theorems) (λ y. put_theorem w os (write_all os y)) x) x
      go true = sym (ap (λ r. once r (λ y. put_theorem w os (write_all os y)) x) e)
      go false = refl
  write-known (Number k) x n e = refl
  write-known (Named m) x n e = refl
  write-known (Define w os) x n e = refl
  write-known (Outcome j d) x n e = refl

  pub replaces-known : (now : Writer) (ws : List Task) (id n : ℕ) → id < length s.trace
      → number_at now.places.items id ≡ Some n
      → Replaces s now now ws ws (task.Write id)
  replaces-known now ws id n low e = λ max x h.
      let same = write-known (origin_of s id) x n (h.numbers id low ∙ e) in
      (x, h, ap (rest s ws) same, λ a b. subst (CanDoAll s ws) (sym same) b)

  pub replaces-none : (now : Writer) (ws : List Task) (id : ℕ) → ((x : Written) → x ≡ write (origin_of s id) x)
      → Replaces s now now ws ws (task.Write id)
  replaces-none now ws id e = λ max x h. (x, h, ap (rest s ws) (e x), λ a b. subst (CanDoAll s ws) (sym (e x)) b)

  pub replaces-asked : (now : Writer) (old new : List Task) (id : ℕ) (c : Cmd) (ops : List ℕ) → id < length s.trace
      → number_at now.places.items id ≡ None → origin_of s id ≡ Make c (origins_of s ops) → makes_theorem c ≡ true
      → new ≡ (old ++ task.Close id ∷ []) ++ reverse (map task.Write ops)
      → Replaces s now now old new (task.Write id)
  replaces-asked now old new id c ops low none e t a = λ max x h.
      let os = origins_of s ops in
      let asked = reverse (map task.Write ops) in
      let y = write_all os x in
      let done : close (origin_of s id) y ≡ write (origin_of s id) x = ap (λ o. close o y) e
      ∙ sym (writes x (sym (ap (λ o. number_of o x.theorems) e) ∙ h.numbers id low ∙ none))
      ∙ sym (ap (λ o. write o x) e) in (
        x,
        h,
        ap (λ l. rest s l x) a ∙ rest-append (old ++ task.Close id ∷ []) (reverse (map task.Write ops)) x
            ∙ ap (rest s (old ++ task.Close id ∷ [])) (rest-steps ops x)
            ∙ rest-append old (task.Close id ∷ []) (write_all (origins_of s ops) x)
            ∙ ap (rest s old) done,
        λ p q.
            let has : HaveOutcomes x os = subst (HasOutcomes x) e p in
            subst (λ l. CanDoAll s l x) (sym a) (can-append (old ++ task.Close id ∷ []) asked x
            (subst (CanDoAll s (old ++ task.Close id ∷ [])) (sym (rest-steps ops x))
            (can-append old (task.Close id ∷ []) y (subst (CanDoAll s old) (sym done) q)
            (subst (HasOperands y) (sym e) (write_all-there os x has), tt))) (can-steps ops x has)),
      )
    where
      writes : (x : Written) → number_of (Make c (origins_of s ops)) x.theorems ≡ None
          → write (Make c (origins_of s ops)) x ≡ put_theorem c (origins_of s ops) (write_all (origins_of s ops) x)
      writes x n =
          ap (λ b. cond b (once (number_of (Make c (origins_of s ops)) x.theorems)
          (λ y. put_theorem c (origins_of s ops) (write_all (origins_of s ops) y)) x) x) t
          ∙ ap (λ r. once r (λ y. put_theorem c (origins_of s ops) (write_all (origins_of s ops) y)) x) n

  pub write-other : (o : Origin Name) (c : Cmd) (os : Origins Name) → o ≡ Make c os → makes_theorem c ≡ false
      → (x : Written)
      → x ≡ write o x
  write-other o c os e f x = sym (ap (λ o. write o x) e
      ∙ ap (λ b. cond b (once (number_of (Make c os) x.theorems) (λ y. put_theorem c os (write_all os y)) x) x) f)

  abbrev pub IsOther : Step → Type 0
  IsOther (step.Make w ops) = ⊥
  IsOther _ = Unit {0}

  pub write-named : (id : ℕ) (ts : List (Origin ℕ)) (r t : Step) → IsOther t → ts ≡ s.trace
      → slice_get ts id ≡ Some (step_origin ts r) → r ≡ t → (x : Written) → x ≡ write (origin_of s id) x
  write-named id ts r t h a at e x = go t h ∙ ap (λ o. write o x)
      (sym (step-origin s id r t (subst (λ ts. slice_get ts id ≡ Some (step_origin ts r)) a at) e))
    where
      go : (t : Step) → IsOther t → x ≡ write (map_origin (name_at s.kernel) (step_origin s.trace t)) x
      go (step.Make w ops) h = absurd h
      go (step.Number k) h = refl
      go (step.Name n) h = refl
      go (step.Define w ops syms) h = refl
      go (step.Outcome j d) h = refl

-- no other step makes a theorem
pub not-made : (s : Session) (id : ℕ) (ts : List (Origin ℕ)) (r : Step) → ts ≡ s.trace
    → slice_get ts id ≡ Some (step_origin ts r)
    → ((w : Cmd) (ops : _) → r ≡ step.Make w ops → ⊥) → MakesTheorem (origin_of s id) → ⊥
not-made s id ts r a at lacks m = other r lacks (subst MakesTheorem (step-origin s id r r here refl) m)
  where
    here : slice_get s.trace id ≡ Some (step_origin s.trace r)
    here = subst (λ ts. slice_get ts id ≡ Some (step_origin ts r)) a at

    other : (t : Step) → ((w : Cmd) (ops : _) → t ≡ step.Make w ops → ⊥)
        → MakesTheorem (map_origin (name_at s.kernel) (step_origin s.trace t)) → ⊥
    other (step.Make w ops) lacks h = lacks w ops refl
    other (step.Number k) lacks h = h
    other (step.Name n) lacks h = h
    other (step.Define w ops syms) lacks h = h
    other (step.Outcome j d) lacks h = h
