-- Writing the theorem of an origin: the log holds, and has it.
use Rattle.std.specs.Prelude.{◌-◌}
use Rattle.std.specs.List.{AllByRecursion}
use Rattle.std.proofs.Common.{◌≡◌, ℕ, true, false, Bool, cond, List, [], ◌∷◌, ◌++◌, Option}
use Rattle.std.proofs.Common.{Some, None, Result, Ok, refl, sym, ap, subst, ◌∙◌, inl}
use Rattle.ot_logic.specs.Names.{Name}
use Rattle.ot_logic.specs.Naming.{names}
use Rattle.ot_logic.specs.Trees.{Sequent}
use Rattle.ot_logic.specs.declared.command.Cmd.{Cmd}
use Rattle.ot_logic.specs.declared.command.Cmd.TheVariants as words
use Rattle.ot_logic.specs.declared.kind.Kind.TheVariants as kinds
use Rattle.ot_trace.specs.Origins.{Origin, Origins, Number, Named, Make, Define, Outcome, NoOrigins, MoreOrigins}
use Rattle.ot_log_format.specs.State.{LogState}
use Rattle.ot_written.proofs.Settled.{EachOutcome, EachOutcomes, IsTheoremOf}
use Rattle.ot_machine.specs.Objects.{Object, number, name, list, type_op, a_type, constant, variable, term, theorem}
use Rattle.ot_machine.specs.Makers.{Read, maker}
use Rattle.ot_machine.specs.Values.{value, values, applied}
use Rattle.ot_machine.specs.Lawful.{Basis, RestsOn, AreOn}
use Rattle.ot_machine.specs.Writable.{IsWritable}
use Rattle.ot_machine.specs.NamesIn.{ObjectNamed}
use Rattle.ot_machine.proofs.NamedValues.{value-named}
use Rattle.ot_machine.proofs.WritableNames.{writable-version_5}
use Rattle.ot_article.proofs.Operands.{made_of, made-of}
use Rattle.ot_article.proofs.MadeKinds.{made_kind, kind-made}
use Rattle.ot_log_records.specs.Logged.{write_sequents}
use Rattle.ot_log_records.specs.Same.{IsSame}
use Rattle.ot_log_law.specs.Derived.{makes_theorem, read, theorem_entries}
use Rattle.ot_log_law.specs.Writing.{Written, number_of, numbers_of, listed, once, put_theorem, write, write_all}
use Rattle.ot_log_law.proofs.Kept.{IsKept}
use Rattle.ot_log_law.proofs.Steps.{step-of}
use Rattle.ot_log_law.proofs.KeptObjects.{IsKeptObject}
use Rattle.ot_log_law.proofs.Values.{value-kept, values-kept}
use Rattle.ot_log_law.proofs.Makes.{Numbers}
use Rattle.ot_log_law.proofs.Words.{word-makes}
use Rattle.ot_log_law.proofs.Holds.{number-member, member-number, Has, HasTheorem, HasAll}
use Rattle.ot_log_law.proofs.Holds.{theorem-kept, IsProvedAt, Holds, put_as, Goes, goes-none, put-goes}
use Rattle.ot_logic.proofs.Members.{IsMember-right}
use Rattle.ot_logic.proofs.Results.{bind-ok, same_Ok}

-- ---- a word that makes no theorem

pub no-theorem : (w : Cmd) (os : Origins Name) (q : Sequent Name) → makes_theorem w ≡ false
    → value (Make w os) ≡ Ok (theorem q)
    → ⊥
no-theorem w os q n e =
    let a = bind-ok (values os) (applied (maker w)) (theorem q) e in
    by w a.0 n (made-of (maker w) a.0 (theorem q) a.2)
  where
    kind : (v : Cmd) (vs : List Object) → made_of (maker v) vs ≡ Ok (theorem q) → kinds.Thm ≡ made_kind v
    kind v vs h = kind-made v vs (theorem q) h

    by : (v : Cmd) (vs : List Object) → makes_theorem v ≡ false → made_of (maker v) vs ≡ Ok (theorem q) → ⊥
    by words.Nil vs m h = let k = kind words.Nil vs h in cc
    by words.Cons vs m h = let k = kind words.Cons vs h in cc
    by words.TypeOp vs m h = let k = kind words.TypeOp vs h in cc
    by words.OpType vs m h = let k = kind words.OpType vs h in cc
    by words.VarType vs m h = let k = kind words.VarType vs h in cc
    by words.Var vs m h = let k = kind words.Var vs h in cc
    by words.VarTerm vs m h = let k = kind words.VarTerm vs h in cc
    by words.Const vs m h = let k = kind words.Const vs h in cc
    by words.ConstTerm vs m h = let k = kind words.ConstTerm vs h in cc
    by words.AppTerm vs m h = let k = kind words.AppTerm vs h in cc
    by words.AbsTerm vs m h = let k = kind words.AbsTerm vs h in cc
    by _ vs m h = cc

-- ---- the numbers of operands

pub proved-value : (st : LogState Name) (o : Origin Name) (k : ℕ) (q : Sequent Name) (p : IsProvedAt st o k)
    → value o ≡ Ok (theorem q) → p.of ≡ q
proved-value st o k q p e = one (value o) p.value_is e
  where
    one : (r : Read) → r ≡ Ok (theorem p.of) → r ≡ Ok (theorem q) → p.of ≡ q
    one r f g = cc

pub numbers-of : (x : Written) (st : LogState Name) (os : Origins Name) (vs : List Object) → Holds x st → HasAll x os
    → values os ≡ Ok vs → Numbers st vs (numbers_of os x.theorems)
numbers-of x st NoOrigins vs h has e = subst (λ us. Numbers st us []) (same_Ok [] vs e) refl
numbers-of x st (MoreOrigins o os) vs h has e =
    let a = bind-ok (value o) _ vs e in
    let b = bind-ok (values os) _ vs a.2 in
    subst (λ us. Numbers st us (numbers_of (MoreOrigins o os) x.theorems))
    (same_Ok (a.0 ∷ b.0) vs b.2) (by a.0 b.0 a.1 (numbers-of x st os b.0 h has.1 b.1))
  where
    -- what has another kind has no number
    none : (v : Object) (us : List Object) → value o ≡ Ok v → ((q : Sequent Name) → v ≡ theorem q → ⊥) → (js : List ℕ)
        → Numbers st us js → Numbers st us (listed (number_of o x.theorems) ++ js)
    none v us f other js rest = go (number_of o x.theorems) refl
      where
        one : (r : Read) (q : Sequent Name) → r ≡ Ok v → r ≡ Ok (theorem q) → v ≡ theorem q
        one r q c d = cc

        go : (k : Option ℕ) → number_of o x.theorems ≡ k → Numbers st us (listed k ++ js)
        go None c = rest
        go (Some k) c =
            let p = h.proved o k (number-member o k x.theorems c) in
            absurd (other p.of (one (value o) p.of f p.value_is))

    by : (v : Object) (us : List Object) → value o ≡ Ok v → Numbers st us (numbers_of os x.theorems)
        → Numbers st (v ∷ us) (numbers_of (MoreOrigins o os) x.theorems)
    by (theorem q) us f rest =
        let there = has.0 q f in
        let found = member-number o there.0 x.theorems there.1 in
        let p = h.proved o found.0 (number-member o found.0 x.theorems found.1) in (
          found.0,
          numbers_of os x.theorems,
          p.at,
          ap (λ z. listed z ++ numbers_of os x.theorems) found.1,
          p.there,
          subst (λ z. IsSame names z p.at) (proved-value st o found.0 q p f) p.same,
          rest,
        )
    by (number k) us f rest = none (number k) us f (λ q e. cc) (numbers_of os x.theorems) rest
    by (name k) us f rest = none (name k) us f (λ q e. cc) (numbers_of os x.theorems) rest
    by (list k) us f rest = none (list k) us f (λ q e. cc) (numbers_of os x.theorems) rest
    by (type_op k) us f rest = none (type_op k) us f (λ q e. cc) (numbers_of os x.theorems) rest
    by (a_type k) us f rest = none (a_type k) us f (λ q e. cc) (numbers_of os x.theorems) rest
    by (constant k) us f rest = none (constant k) us f (λ q e. cc) (numbers_of os x.theorems) rest
    by (variable k) us f rest = none (variable k) us f (λ q e. cc) (numbers_of os x.theorems) rest
    by (term k) us f rest = none (term k) us f (λ q e. cc) (numbers_of os x.theorems) rest

-- ---- writing

-- the log goes on, and has it
pub record Writes (x y : Written) (st : LogState Name) (P : Written → Type 0) : Type 0 where
  pub goes : Goes x y st
  pub has : P y

pub goes-then : (x y z : Written) (st : LogState Name) (g : Goes x y st) → Goes y z g.now → Goes x z st
goes-then x y z st g k = record {
  now = k.now;
  holds = k.holds;
  definitions = k.definitions ∙ g.definitions;
  results = k.results ∙ g.results;
  kept = λ p m. k.kept p (g.kept p m);
}

module _ (axioms defs : List (Origin Name)) (used : Origin Name → Bool) (E : List (Origin Name)) where
  abbrev pub b : Basis
  b = record { axioms = axioms; definitions = defs; IsNamed = IsWritable }

  pub values-named : (os : Origins Name) (vs : List Object) → AreOn b os → values os ≡ Ok vs
      → AllByRecursion (ObjectNamed IsWritable) vs
  values-named NoOrigins vs on e = subst (AllByRecursion (ObjectNamed IsWritable)) (same_Ok [] vs e) tt
  values-named (MoreOrigins o os) vs on e =
      let a = bind-ok (value o) _ vs e in
      let c = bind-ok (values os) _ vs a.2 in
      subst (AllByRecursion (ObjectNamed IsWritable)) (same_Ok (a.0 ∷ c.0) vs c.2)
      (value-named b writable-version_5.primitives o a.0 on.0 a.1, values-named os c.0 on.1 c.1)

  -- the theorems of the definitions were written
  abbrev pub HasOutcomes : Written → Type 0
  HasOutcomes x = (o : Origin Name) → IsTheoremOf used E o → Has x o

  pub outcomes-kept : (x y : Written) (st : LogState Name) → Goes x y st → HasOutcomes x → HasOutcomes y
  outcomes-kept x y st g h o t = let r = h o t in (r.0, g.kept (o, r.0) r.1)

  theorem-written : (w : Cmd) (os : Origins Name) (vs : List Object) (v : Object) (x : Written) (st : LogState Name)
      → makes_theorem w ≡ true → value (Make w os) ≡ Ok v → values os ≡ Ok vs → AreOn b os → Holds x st → HasAll x os
      → Writes x (put_theorem w os x) st (λ y. HasTheorem y (Make w os))
  theorem-written w os vs v x st m e f on h has =
      let a = bind-ok (values os) (applied (maker w)) v e in
      let same : a.0 ≡ vs = one (values os) a.1 f in
      let made = subst (λ us. made_of (maker w) us ≡ Ok v) same (made-of (maker w) a.0 v a.2) in
      let (q, is, step) = step-of w vs v m made in
      let value_is : value (Make w os) ≡ Ok (theorem q) = e ∙ ap Ok is in
      let kept : IsKept q = subst IsKeptObject is (value-kept (Make w os) v e) in
      let named = values-named os vs on f in
      let es = theorem_entries x.log.sequents w vs (numbers_of os x.theorems) in
      let makes = word-makes w vs q x.log st (numbers_of os x.theorems) step
      (values-kept os vs f) named kept h.stands (numbers-of x st os vs h has f) in
      let goes = put-goes w os x st es q h has value_is makes in
      subst (λ z. Writes x
      (put_as (Make w os) (read (λ us. theorem_entries x.log.sequents w us (numbers_of os x.theorems)) z) x)
      st (λ y. HasTheorem y (Make w os)))
      (sym f)
      (record {
        goes = goes;
        has = λ r g. (
          (write_sequents es x.log).sequents - 1,
          IsMember-right (Make w os, (write_sequents es x.log).sequents - 1) x.theorems
              ((Make w os, (write_sequents es x.log).sequents - 1) ∷ []) (inl refl),
        );
      })
    where
      one : {E : Type 0} (r : Result (List Object) E) {us ws : List Object} → r ≡ Ok us → r ≡ Ok ws → us ≡ ws
      one r c d = cc

  make-written : (w : Cmd) (os : Origins Name) (vs : List Object) (v : Object) (x : Written) (st : LogState Name)
      → value (Make w os) ≡ Ok v → values os ≡ Ok vs → AreOn b os → Holds x st
      → Writes x (write_all os x) st (λ y. HasAll y os)
      → Writes x (write (Make w os) x) st (λ y. HasTheorem y (Make w os))
  make-written w os vs v x st e f on h all = by (makes_theorem w) refl (number_of (Make w os) x.theorems) refl
    where
      y : Written
      y = write_all os x

      by : (t : Bool) → makes_theorem w ≡ t → (k : Option ℕ) → number_of (Make w os) x.theorems ≡ k
          → Writes x (cond t (once k (λ z. put_theorem w os (write_all os z)) x) x) st (λ z. HasTheorem z (Make w os))
      by false m k n = record { goes = goes-none x st h; has = λ q g. absurd (no-theorem w os q m g) }
      by true m (Some k) n =
          record { goes = goes-none x st h; has = λ q g. (k, number-member (Make w os) k x.theorems n) }
      by true m None n =
          let last = theorem-written w os vs v y all.goes.now m e f on all.goes.holds all.has in
          record { goes = goes-then x y (put_theorem w os y) st all.goes last.goes; has = last.has }

  mutual
    pub write-writes : (o : Origin Name) (v : Object) (x : Written) (st : LogState Name) → value o ≡ Ok v
        → RestsOn b o
        → EachOutcome (IsTheoremOf used E) o → Holds x st → HasOutcomes x
        → Writes x (write o x) st (λ y. HasTheorem y o)
    write-writes (Number k) v x st e on out h has = record { goes = goes-none x st h; has = λ q f. absurd (cc) }
    write-writes (Named n) v x st e on out h has = record { goes = goes-none x st h; has = λ q f. absurd (cc) }
    write-writes (Define w os) v x st e on out h has = absurd (cc)
    write-writes (Outcome j d) v x st e on out h has =
        record { goes = goes-none x st h; has = λ q f. has (Outcome j d) out }
    write-writes (Make w os) v x st e on out h has =
        let a = bind-ok (values os) (applied (maker w)) v e in
        make-written w os a.0 v x st e a.1 on.0 h (write-all os a.0 x st a.1 on.0 out h has)

    pub write-all : (os : Origins Name) (vs : List Object) (x : Written) (st : LogState Name) → values os ≡ Ok vs
        → AreOn b os
        → EachOutcomes (IsTheoremOf used E) os → Holds x st → HasOutcomes x
        → Writes x (write_all os x) st (λ y. HasAll y os)
    write-all NoOrigins vs x st e on out h has = record { goes = goes-none x st h; has = tt }
    write-all (MoreOrigins o os) vs x st e on out h has =
        let a = bind-ok (value o) _ vs e in
        let c = bind-ok (values os) _ vs a.2 in
        let first = write-writes o a.0 x st a.1 on.0 out.0 h has in
        let y = write o x in
        let rest = write-all os c.0 y first.goes.now c.1 on.1 out.1 first.goes.holds
        (outcomes-kept x y st first.goes has) in
        record {
          goes = goes-then x y (write_all os y) st first.goes rest.goes;
          has = (theorem-kept y (write_all os y) o rest.goes.kept first.has, rest.has);
        }
