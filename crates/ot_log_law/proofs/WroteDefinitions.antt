-- Writing definitions: the log has each, with its theorems, behind its premise.
use Rattle.std.specs.Prelude.{slice_get}
use Rattle.std.specs.List.{AllByRecursion}
use Rattle.std.proofs.Common.{◌≡◌, ℕ, suc, ◌+◌, ◌<◌, ◌≤◌, Bool, List, [], ◌∷◌, ◌++◌, length, Ok}
use Rattle.std.proofs.Common.{refl, sym, ap, subst, ◌∙◌, inl, inr, arith, append-nil, append_assoc}
use Rattle.ot_logic.specs.Lists.{IsMember}
use Rattle.ot_logic.specs.Names.{Name}
use Rattle.ot_logic.specs.Naming.{names}
use Rattle.ot_logic.specs.Trees.{Sequent, Definition}
use Rattle.ot_logic.specs.Hol.{theorems}
use Rattle.ot_logic.specs.declared.command.Cmd.{Cmd}
use Rattle.ot_logic.specs.declared.command.Cmd.TheVariants as words
use Rattle.ot_laws.proofs.Sets.{all-member}
use Rattle.ot_log_format.specs.State.{LogState}
use Rattle.ot_trace.specs.Origins.{Origin, Origins, Make, Define, Outcome}
use Rattle.ot_written.specs.Written.{theorem_count}
use Rattle.ot_written.proofs.Settled.{EachOutcomes, IsTheoremOf}
use Rattle.ot_machine.specs.Objects.{theorem}
use Rattle.ot_machine.specs.States.{Made}
use Rattle.ot_machine.specs.Rows.{definitions_of}
use Rattle.ot_machine.specs.Values.{value, values, definition_of, defines}
use Rattle.ot_machine.specs.Lawful.{IsAxiom, RestsOn, AreOn, AreApart}
use Rattle.ot_machine.specs.Writable.{IsWritable}
use Rattle.ot_article.specs.Article.{origins_made}
use Rattle.ot_article.proofs.Operands.{given-of}
use Rattle.ot_article.proofs.Fewer.{definition-less}
use Rattle.ot_article.proofs.Writable.{AreWritable}
use Rattle.ot_log_records.specs.Entries.{Entry}
use Rattle.ot_log_records.specs.Logged.{write_entry}
use Rattle.ot_log_records.proofs.Standing.{Stands}
use Rattle.ot_log_records.proofs.Definitions.{with_theorems}
use Rattle.ot_log_law.specs.Derived.{read, definition_entries}
use Rattle.ot_log_law.specs.Writing.{Written, numbers_of, write_all, write_entries, outcomes}
use Rattle.ot_log_law.specs.Writing.{add_outcomes, put_definition, write_definition, write_definitions}
use Rattle.ot_log_law.proofs.Kept.{IsKept}
use Rattle.ot_log_law.proofs.Defining.{defining-of}
use Rattle.ot_log_law.proofs.Values.{values-kept, definition-kept}
use Rattle.ot_log_law.proofs.Told.{IsTold, Puts, entry-told}
use Rattle.ot_log_law.proofs.Makes.{same-refl}
use Rattle.ot_log_law.proofs.Holds.{Has, HasAll, all-kept, IsProvedAt, IsOfAxiom, IsAssumed, Holds}
use Rattle.ot_log_law.proofs.Wrote.{b, HasOutcomes, values-named, numbers-of, write-all}
use Rattle.ot_log_law.proofs.SameDefinitions.{AreMade, theorems-same, made-snoc}
use Rattle.ot_log_law.proofs.Defines.{Defines, word-defines}
use Rattle.ot_log_law.proofs.Outcomes.{numbered, added-theorems, added-log, HaveValues}
use Rattle.ot_log_law.proofs.Outcomes.{values-long, numbered-at, outcome-values, outcome-numbered}
use Rattle.ot_logic.proofs.Members.{IsMember-cases, IsMember-left, IsMember-right}
use Rattle.ot_logic.proofs.Results.{bind-ok}
use Rattle.ot_logic.proofs.TableLemmas.{slice_get-append_left}
use Rattle.std.proofs.lemmas.List.{map_push}

outcomes-short : (w : Cmd) (d : Origin Name) → length (outcomes w d) ≤ 2
outcomes-short words.DefineTypeOp d = omega arith
outcomes-short _ d = omega arith

-- ---- a definition is put

-- the log with the record e, and its theorems' origins
abbrev put_as : Entry → List (Origin Name) → Written → Written
put_as e os x =
    let l = write_entry e x.log in
    record { log = record l { sequents = l.sequents + length os }; theorems = x.theorems ++ numbered l.sequents os }

module _ (x : Written) (st : LogState Name) (es : List Entry) (d : Definition Name) (os : List (Origin Name))
    (h : Holds x st) (m : Defines x.log st es d) (values : HaveValues os (theorems names d))
    (kept : AllByRecursion IsKept (theorems names d)) (short : length os ≤ 2) where
  abbrev new : Written
  new = put_as m.entry os x

  abbrev now : LogState Name
  now = m.makes.now

  own : theorems names m.definition ≡ theorems names d
  own = theorems-same m.definition d m.same

  at-end : now.sequents ≡ st.sequents ++ theorems names d
  at-end = m.makes.sequents ∙ ap (λ l. st.sequents ++ l) own

  put : Puts IsWritable m.entry x.log (write_entry m.entry x.log)
  put = entry-told IsWritable m.entry x.log h.told m.told

  old-length : length st.sequents ≡ (write_entry m.entry x.log).sequents
  old-length = h.stands.sequents ∙ sym put.sequents

  proved-new : (o : Origin Name) (k : ℕ) → IsMember (o, k) new.theorems → IsProvedAt now o k
  proved-new o k i = elim (IsMember-cases (o, k) x.theorems (numbered (write_entry m.entry x.log).sequents os) i) [
    | inl j ↦
        (let a = h.proved o k j in
        record {
          of = a.of;
          at = a.at;
          value_is = a.value_is;
          there = ap (λ l. slice_get l k) at-end
              ∙ slice_get-append_left st.sequents (theorems names d) k a.at a.there;
          same = a.same;
        })
    | inr j ↦
        (let a = numbered-at os (theorems names d) st.sequents (write_entry m.entry x.log).sequents values old-length
        o k j in
        record {
          of = a.of;
          at = a.of;
          value_is = a.value_is;
          there = ap (λ l. slice_get l k) at-end ∙ a.there;
          same = same-refl a.of (all-member IsKept (theorems names d) kept a.of a.member).distinct;
        })
  ]

  only-new : (r : Sequent Name) → IsMember r now.assumptions → IsOfAxiom new r
  only-new r i =
      let a = h.only r (subst (IsMember r) m.makes.assumptions i) in
      record {
        origin = a.origin;
        number = a.number;
        of = a.of;
        there = IsMember-left (a.origin, a.number) x.theorems (numbered (write_entry m.entry x.log).sequents os)
            a.there;
        is_axiom = a.is_axiom;
        value_is = a.value_is;
        same = a.same;
      }

  all-new : (o : Origin Name) (k : ℕ) (p : Sequent Name) → IsMember (o, k) new.theorems → IsAxiom o
      → value o ≡ Ok (theorem p)
      → IsAssumed now p
  all-new o k p i a e = elim (IsMember-cases (o, k) x.theorems (numbered (write_entry m.entry x.log).sequents os) i) [
    | inl j ↦ (let r = h.all o k p j a e in (r.0, subst (IsMember r.0) (sym m.makes.assumptions) r.1, r.2))
    | inr j ↦
        absurd
        ((numbered-at os (theorems names d) st.sequents (write_entry m.entry x.log).sequents values old-length o k
        j).other a)
  ]

  told-new : IsTold IsWritable new.log
  told-new =
      let a = put.longer in let c = put.sequents in let e = m.long in
      record {
        tokens = put.told.tokens;
        types = put.told.types;
        terms = put.told.terms;
        sequents = omega (arith, a, c, e, short);
      }

  stands-new : Stands new.log now
  stands-new =
      let long : length (theorems names m.definition) ≡ length os =
      ap length own ∙ sym (values-long os (theorems names d) values) in
      subst (λ n. Stands (with_theorems (write_entry m.entry x.log) n) now) long m.makes.stands

  closed-new : (c : Cmd) (ps : Origins Name) (k : ℕ) → IsMember (Make c ps, k) new.theorems → HasAll new ps
  closed-new c ps k i =
      elim (IsMember-cases (Make c ps, k) x.theorems (numbered (write_entry m.entry x.log).sequents os) i) [
        | inl j ↦
            all-kept x new ps (λ p n. IsMember-left p x.theorems (numbered (write_entry m.entry x.log).sequents os) n)
            (h.closed c ps k j)
        | inr j ↦
            absurd ((numbered-at os (theorems names d) st.sequents
            (write_entry m.entry x.log).sequents values old-length (Make c ps) k j).made
            c ps refl)
      ]

  pub put-holds : Holds new now
  put-holds = record {
    stands = stands-new;
    told = told-new;
    proved = proved-new;
    only = only-new;
    all = all-new;
    apart = subst (AreApart (λ (z : Sequent Name). z)) (sym m.makes.assumptions) h.apart;
    closed = closed-new;
  }

-- ---- definitions one after another

module _ (axioms defs : List (Origin Name)) (used : Origin Name → Bool) where
  -- the log has these definitions, and no result
  pub record Defined (x : Written) (earlier : List Made) : Type 0 where
    pub now : LogState Name
    pub holds : Holds x now
    pub made : AreMade now.definitions earlier
    pub has : HasOutcomes axioms defs used (origins_made earlier) x
    pub results : now.results ≡ []
    pub premises : (w : Cmd) (os : Origins Name) → IsMember (Define w os) (origins_made earlier) → HasAll x os

  pub record Goes (x y : Written) (earlier : List Made) : Type 0 where
    pub defined : Defined y earlier
    pub kept : (p : Origin Name × ℕ) → IsMember p x.theorems → IsMember p y.theorems

  one-defined : (x : Written) (earlier : List Made) (m : Made) (w : Cmd) (os : Origins Name) → m.origin ≡ Define w os
      → EachOutcomes (IsTheoremOf used (origins_made earlier)) os
      → AreOn (b axioms defs used (origins_made earlier)) os
      → definition_of (definitions_of earlier) (Define w os) ≡ Ok m.definition → Defined x earlier
      → Goes x (write_definition (Define w os) x) (earlier ++ m ∷ [])
  one-defined x earlier m w os is settled on accepted d =
      let ds = definitions_of earlier in
      let E = origins_made earlier in
      let vs = bind-ok (values os) (defines w ds) m.definition accepted in
      let defining = defining-of w ds vs.0 m.definition (given-of w ds vs.0 m.definition vs.2) in
      let all = write-all axioms defs used E os vs.0 x d.now vs.1 on settled d.holds d.has in
      let y = write_all os x in
      let st = all.goes.now in
      let made : AreMade st.definitions earlier = subst (λ l. AreMade l earlier) (sym all.goes.definitions) d.made in
      let alone : definition_of [] (Define w os) ≡ Ok m.definition =
      definition-less [] ds (λ z k. absurd k) (Define w os) m.definition accepted in
      let is_kept = definition-kept (Define w os) m.definition alone in
      let numbers = numbers_of os y.theorems in
      let df = word-defines y.log st earlier all.goes.holds.stands made w vs.0 m.definition numbers
      defining (values-kept os vs.0 vs.1) (values-named axioms defs used E os vs.0 on vs.1) is_kept
      (numbers-of y st os vs.0 all.goes.holds all.has vs.1) in
      let outs = outcomes w (Define w os) in
      let have = outcome-values w os ds vs.0 m.definition defining alone in
      let holds = put-holds y st (definition_entries w vs.0 numbers) m.definition
      outs all.goes.holds df have is_kept (outcomes-short w (Define w os)) in
      let z : Written = record y { log = write_entry df.entry y.log } in
      let new = put_as df.entry outs y in
      let put_is : put_definition w os y ≡ z =
      ap (λ r. record y { log = write_entries (read (λ us. definition_entries w us numbers) r) y.log }) vs.1
      ∙ ap (λ l. record y { log = write_entries l y.log }) df.is in
      let added : add_outcomes outs z ≡ new =
      (λ i. record { log = added-log outs z i; theorems = added-theorems outs z i }) in
      let whole : write_definition (Define w os) x ≡ new = ap (add_outcomes outs) put_is ∙ added in
      let kept_all : (p : Origin Name × ℕ) → IsMember p x.theorems → IsMember p new.theorems =
      λ p k. IsMember-left p y.theorems (numbered (write_entry df.entry y.log).sequents outs) (all.goes.kept p k) in
      let has_new : HasOutcomes axioms defs used (origins_made (earlier ++ m ∷ [])) new = λ o t.
      elim (IsMember-cases (Define t.word t.operands) E (m.origin ∷ [])
      (subst (IsMember (Define t.word t.operands)) (map_push (λ (z : Made). z.origin) earlier m) t.of)) [
        | inl j ↦
            (let r = d.has o (record {
              place = t.place;
              word = t.word;
              operands = t.operands;
              is = t.is;
              of = j;
              within = t.within;
              has_use = t.has_use;
            }) in
            (r.0, kept_all (o, r.0) r.1))
        | inr j ↦ elim j [
          | inl e ↦ (let same : Define t.word t.operands ≡ Define w os = sym e ∙ is in
              let word : t.word ≡ w = cc in
              let r = outcome-numbered w (Define w os) (write_entry df.entry y.log).sequents
              t.place (subst (λ v. t.place < theorem_count v) word t.within) in
              let o_is : o ≡ Outcome (suc t.place) (Define w os) = t.is ∙ ap (Outcome (suc t.place)) same in
              subst (Has new) (sym o_is) (
                r.0,
                IsMember-right (Outcome (suc t.place) (Define w os), r.0) y.theorems
                    (numbered (write_entry df.entry y.log).sequents outs) r.1,
              ))
          | inr n ↦ absurd n
        ]
      ] in
      let new_premises : (v : Cmd) (ps : Origins Name) → IsMember (Define v ps) (origins_made (earlier ++ m ∷ []))
      → HasAll new ps =
      λ v ps i.
      elim (IsMember-cases (Define v ps) E (m.origin ∷ [])
      (subst (IsMember (Define v ps)) (map_push (λ (z : Made). z.origin) earlier m) i)) [
        | inl j ↦ all-kept x new ps kept_all (d.premises v ps j)
        | inr j ↦ elim j [
          | inl e ↦ (let same : Define v ps ≡ Define w os = sym e ∙ is in
              let operands : ps ≡ os = cc in
              subst (HasAll new) (sym operands) (all-kept y new os
              (λ p k. IsMember-left p y.theorems (numbered (write_entry df.entry y.log).sequents outs) k) all.has))
          | inr n ↦ absurd n
        ]
      ] in
      subst (λ v. Goes x v (earlier ++ m ∷ [])) (sym whole) (record {
        defined = record {
          now = df.makes.now;
          holds = holds;
          made =
              subst (λ l. AreMade l (earlier ++ m ∷ [])) (sym df.makes.definitions)
              (made-snoc st.definitions earlier df.definition m made df.same);
          has = has_new;
          results = df.makes.results ∙ all.goes.results ∙ d.results;
          premises = new_premises;
        };
        kept = kept_all;
      })

  pub definitions-defined : (ms earlier : List Made) (x : Written) → AreWritable used earlier ms
      → ((m : Made) → IsMember m ms → RestsOn (b axioms defs used []) m.origin) → Defined x earlier
      → Goes x (write_definitions (origins_made ms) x) (earlier ++ ms)
  definitions-defined [] earlier x w on d =
      record { defined = subst (Defined x) (sym (append-nil earlier)) d; kept = λ p m. m }
  definitions-defined (m ∷ ms) earlier x w on d =
      let f = w.0 in
      let on_os : AreOn (b axioms defs used (origins_made earlier)) f.operands =
      subst (RestsOn (b axioms defs used [])) f.is (on m (inl refl)) in
      let accepted = subst (λ z. definition_of (definitions_of earlier) z ≡ Ok m.definition) f.is f.accepted in
      let one = subst (λ z. Goes x (write_definition z x) (earlier ++ m ∷ [])) (sym f.is)
      (one-defined x earlier m f.word f.operands f.is f.settled on_os accepted d) in
      let y = write_definition m.origin x in
      let rest = definitions-defined ms (earlier ++ m ∷ []) y w.1 (λ n k. on n (inr k)) one.defined in
      record {
        defined = subst (Defined (write_definitions (origins_made ms) y)) (append_assoc earlier (m ∷ []) ms)
            rest.defined;
        kept = λ p k. rest.kept p (one.kept p k);
      }
