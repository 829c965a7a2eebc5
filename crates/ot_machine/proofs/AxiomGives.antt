-- What `axiom` pushes is the stated sequent, and a theorem of the context is refused by the limit alone.
use Rattle.std.specs.Prelude.{◌≡◌, ◌≢◌, ◌⊎◌, ◌↔◌, ◌&&◌, ◌++◌, Bool, true, false, cond, List, []}
use Rattle.std.specs.Prelude.{◌∷◌, find, Option, Some, None, Result, Ok, Err, if◌then◌else◌}
use Rattle.std.specs.List.{list_all}
use Rattle.std.proofs.Common.{refl, sym, ap, ◌∙◌, subst, inl, inr}
use Rattle.ot_logic.specs.Lists.{IsMember, IsSameSet}
use Rattle.ot_logic.specs.Names.{Name}
use Rattle.ot_logic.specs.Naming.{names}
use Rattle.ot_logic.specs.Trees.{Tm, Sequent}
use Rattle.ot_logic.specs.Hol.{bool_ty, equation, same_tm, same_sequent, is_in}
use Rattle.ot_logic.specs.Hol.{all_in, union, minus, once_each, is_shallow_sequent}
use Rattle.ot_logic.specs.Rules.{has_type}
use Rattle.ot_logic.specs.Faults.{Fault, NotBool, Nesting}
use Rattle.ot_logic.specs.Answers.{◌>>=◌, unless}
use Rattle.ot_logic.specs.declared.command.Cmd.TheVariants as words
use Rattle.ot_laws.proofs.Tests.{tells_names, same_tm-is}
use Rattle.ot_laws.proofs.Sets.{same_set-self}
use Rattle.ot_laws.proofs.Hypotheses.{is_in-is, all_in-is, same_sequent-is, IsMember-minus}
use Rattle.ot_laws.proofs.Hypotheses.{IsMember-minus_back, IsMember-union, same_set-once_each}
use Rattle.ot_trace.specs.Origins.{Origin, Make}
use Rattle.ot_machine.specs.Objects.{Objects, term, theorem, no_objects, more_objects}
use Rattle.ot_machine.specs.States.{Entry, Given, RunState}
use Rattle.ot_machine.specs.Places.{as_each, as_term, origins_of}
use Rattle.ot_machine.specs.Rows.{made, given_as, or_assumed, theorem_entry}
use Rattle.ot_machine.specs.Discharge.{element_entries, adding, weakened, given_for, or_weakened}
use Rattle.ot_machine.specs.LawfulLaws.{AxiomGivesItsSequent}
use Rattle.ot_machine.proofs.Tops.{same-ok}
use Rattle.ot_machine.proofs.ObjectKinds.{term-is}
use Rattle.ot_logic.proofs.Results.{bind-ok, unless-ok}

abbrev gives : Entry → Result Entry (Fault Name)
gives e = Ok e

abbrev nests : Result Entry (Fault Name)
nests = Err Nesting

abbrev T : Type 0
T = Tm Name

-- an entry with a theorem, and one with a proposition
abbrev proof : Sequent Name → Origin Name → Entry
proof q o = record { object = theorem q; origin = o }

abbrev stated : T → Origin Name → Entry
stated t o = record { object = term t; origin = o }

-- the theorem with a hypothesis more
abbrev supposed : T → Sequent Name → Sequent Name
supposed t q =
    record {
      hyps = union names (union names (minus names q.concl (t ∷ [])) (minus names t q.hyps)) (t ∷ []);
      concl = q.concl;
    }

-- what the rules answer, by the limit
abbrev antisym : T → Sequent Name → Sequent Name
antisym t q =
    record {
      hyps = union names (minus names q.concl (t ∷ [])) (minus names t q.hyps);
      concl = equation names (bool_ty names) t q.concl;
    }

same-self : (t : T) → same_tm names t t ≡ true
same-self t = (same_tm-is names tells_names t t).1 refl

assumed-entry : (t : T) (o : Origin Name) → has_type names t (bool_ty names) ≡ true
    → made words.Assume (stated t o ∷ [])
    ≡ gives (proof (record { hyps = t ∷ []; concl = t }) (Make words.Assume (origins_of (stated t o ∷ []))))
assumed-entry t o h = rw h refl

-- one hypothesis more, or the limit
abbrev IsSupposed : T → Sequent Name → Result Entry (Fault Name) → Type 0
IsSupposed t q answer = (answer ≡ nests) ⊎ ((o : Origin Name) × (answer ≡ gives (proof (supposed t q) o)))

supposes : (q : Sequent Name) (o : Origin Name) (t : T) (p : Origin Name) → has_type names t (bool_ty names) ≡ true
    → IsSupposed t q (adding (proof q o) (stated t p))
supposes q o t p h = subst (λ r. IsSupposed t q (r >>= after)) (sym (assumed-entry t p h))
    (by (is_shallow_sequent names (antisym t q)) refl)
  where
    after : Entry → Result Entry (Fault Name)
    after a = made words.DeductAntisym (a ∷ proof q o ∷ []) >>= λ d. made words.EqMp (d ∷ a ∷ [])

    by : (b : Bool) → is_shallow_sequent names (antisym t q) ≡ b → IsSupposed t q
        (after (proof (record { hyps = t ∷ []; concl = t }) (Make words.Assume (origins_of (stated t p ∷ [])))))
    by false e = inl (rw e refl)
    by true e =
        let a = proof (record { hyps = t ∷ []; concl = t }) (Make words.Assume (origins_of (stated t p ∷ []))) in
        let d = proof (antisym t q) (Make words.DeductAntisym (origins_of (a ∷ proof q o ∷ []))) in
        inr (Make words.EqMp (origins_of (d ∷ a ∷ [])), rw (e, same-self t) refl)

-- its hypotheses are those of the theorem, and the one more
supposed-hyps : (t : T) (q : Sequent Name) (x : T) → IsMember x (supposed t q).hyps ↔ (IsMember x q.hyps ⊎ (x ≡ t))
supposed-hyps t q x = (to, from)
  where
    both : List T
    both = union names (minus names q.concl (t ∷ [])) (minus names t q.hyps)

    one : IsMember x (t ∷ []) → x ≡ t
    one (inl e) = sym e
    one (inr n) = absurd n

    to : IsMember x (supposed t q).hyps → IsMember x q.hyps ⊎ (x ≡ t)
    to m = elim ((IsMember-union names tells_names x both (t ∷ [])).0 m) [
      | inl a ↦ elim ((IsMember-union names tells_names x (minus names q.concl (t ∷ [])) (minus names t q.hyps)).0 a) [
        | inl b ↦ inr (one (IsMember-minus names tells_names x q.concl (t ∷ []) b).0)
        | inr b ↦ inl (IsMember-minus names tells_names x t q.hyps b).0
      ]
      | inr a ↦ inr (one a)
    ]

    last : x ≡ t → IsMember x (supposed t q).hyps
    last e = (IsMember-union names tells_names x both (t ∷ [])).1 (inr (inl (sym e)))

    old : (b : Bool) → same_tm names x t ≡ b → IsMember x q.hyps → IsMember x (supposed t q).hyps
    old true e m = last ((same_tm-is names tells_names x t).0 e)
    old false e m =
        let n : x ≢ t = λ same. absurd (let f = (same_tm-is names tells_names x t).1 same in cc) in
        (IsMember-union names tells_names x both (t ∷ [])).1
        (inl ((IsMember-union names tells_names x (minus names q.concl (t ∷ [])) (minus names t q.hyps)).1
        (inr (IsMember-minus_back names tells_names x t q.hyps m n))))

    from : IsMember x q.hyps ⊎ (x ≡ t) → IsMember x (supposed t q).hyps
    from (inl m) = old (same_tm names x t) refl m
    from (inr e) = last e

-- ---- the terms of the list, one after another

-- entries with these propositions
abbrev AreStated : List Entry → List T → Type 0
AreStated [] [] = Unit {0}
AreStated [] (t ∷ ts) = ⊥
AreStated (g ∷ gs) [] = ⊥
AreStated (g ∷ gs) (t ∷ ts) = (g.object ≡ term t) × (has_type names t (bool_ty names) ≡ true) × AreStated gs ts

-- a theorem with these hypotheses more, or the limit
abbrev IsWeakened : List T → Sequent Name → Result Entry (Fault Name) → Type 0
IsWeakened ts q answer =
    (answer ≡ nests) ⊎ ((r : Sequent Name) × (o : Origin Name) × (answer ≡ gives (proof r o)) × (r.concl ≡ q.concl)
    × ((x : T) → IsMember x r.hyps ↔ (IsMember x q.hyps ⊎ IsMember x ts)))

weakened-gives : (gs : List Entry) (ts : List T) → AreStated gs ts → (q : Sequent Name) (o : Origin Name)
    → IsWeakened ts q (weakened gs (proof q o))
weakened-gives [] [] h q o = inr (q, o, refl, refl, λ x. (λ m. inl m, λ e. elim e [ inl m ↦ m | inr n ↦ absurd n ]))
weakened-gives [] (t ∷ ts) h q o = absurd h
weakened-gives (g ∷ gs) [] h q o = absurd h
weakened-gives (g ∷ gs) (t ∷ ts) h q o =
    let is : g ≡ stated t g.origin = (λ i. record { object = h.0 i; origin = g.origin }) in
    subst (λ g. IsWeakened (t ∷ ts) q (weakened (g ∷ gs) (proof q o))) (sym is)
    (by (is_in names t q.hyps) refl (λ r u. weakened-gives gs ts h.2 r u))
  where
    by : (b : Bool) → is_in names t q.hyps ≡ b
        → ((r : Sequent Name) (u : Origin Name) → IsWeakened ts r (weakened gs (proof r u))) → IsWeakened (t ∷ ts) q
        ((if b then gives (proof q o) else adding (proof q o) (stated t g.origin)) >>= weakened gs)
    by true e later = elim (later q o) [
      | inl n ↦ inl n
      | inr r ↦ inr (
        r.0,
        r.1,
        r.2,
        r.3,
        λ x. (
          (λ m. elim ((r.4 x).0 m) [ inl a ↦ inl a | inr b ↦ inr (inr b) ]),
          (λ m. elim m [
            | inl a ↦ (r.4 x).1 (inl a)
            | inr b ↦
                elim b [
                  | inl f ↦
                      (r.4 x).1 (inl (subst (λ z. IsMember z q.hyps) f ((is_in-is names tells_names t q.hyps).0 e)))
                  | inr c ↦
                      (r.4 x).1 (inr c)
                ]
          ]),
        ),
      )
    ]
    by false e later = elim (supposes q o t g.origin h.1) [
      | inl n ↦ inl (ap (λ r. r >>= weakened gs) n)
      | inr a ↦ (
          let path = ap (λ r. r >>= weakened gs) a.1 in
          elim (later (supposed t q) a.0) [
            | inl n ↦ inl (path ∙ n)
            | inr r ↦ inr (
              r.0,
              r.1,
              path ∙ r.2,
              r.3,
              λ x. (
                (λ m. elim ((r.4 x).0 m) [
                  | inl b ↦ elim ((supposed-hyps t q x).0 b) [ inl d ↦ inl d | inr f ↦ inr (inl (sym f)) ]
                  | inr b ↦
                      inr (inr b)
                ]),
                (λ m. elim m [
                  | inl b ↦ (r.4 x).1 (inl ((supposed-hyps t q x).1 (inl b)))
                  | inr b ↦
                      elim b [
                        | inl f ↦ (r.4 x).1 (inl ((supposed-hyps t q x).1 (inr (sym f))))
                        | inr d ↦
                            (r.4 x).1 (inr d)
                      ]
                ]),
              ),
            )
          ]
          )
    ]

-- ---- the elements of a list of propositions
and-left : (a b : Bool) → (a && b) ≡ true → a ≡ true
and-left true b h = refl
and-left false b h = h

and-right : (a b : Bool) → (a && b) ≡ true → b ≡ true
and-right true b h = h
and-right false b h = absurd (cc)

abbrev is_proposition : T → Bool
is_proposition t = has_type names t (bool_ty names)

elements-stated : (os : Objects) (o : Origin Name) (ts : List T) → as_each as_term os ≡ Ok ts
    → list_all is_proposition ts ≡ true → AreStated (element_entries os o) ts
elements-stated no_objects o ts p h = subst (AreStated []) (same-ok (as_each as_term no_objects) [] ts refl p) tt
elements-stated (more_objects x xs) o ts p h =
    let t = bind-ok (as_term x) _ _ p in
    let us = bind-ok (as_each as_term xs) _ _ t.2 in
    let is : t.0 ∷ us.0 ≡ ts = same-ok (Ok (t.0 ∷ us.0)) _ ts refl us.2 in
    let all : list_all is_proposition (t.0 ∷ us.0) ≡ true =
    subst (λ l. list_all is_proposition l ≡ true) (sym is) h in
    subst (AreStated (element_entries (more_objects x xs) o)) is (
      term-is x t.0 t.1,
      and-left (is_proposition t.0) (list_all is_proposition us.0) all,
      elements-stated xs _ us.0
          us.1 (and-right (is_proposition t.0) (list_all is_proposition us.0) all),
    )

find-passes : {X : Type 0} (test : X → Bool) (xs : List X) (x : X) → find test xs ≡ Some x → test x ≡ true
find-passes test [] x p = absurd (cc)
find-passes test (y ∷ ys) x p = by (test y) refl p (find-passes test ys x)
  where
    by : (b : Bool) → test y ≡ b → cond b (Some y) (find test ys) ≡ Some x → (find test ys ≡ Some x → test x ≡ true)
        → test x ≡ true
    by true e q go = let same : y ≡ x = cc in ap test (sym same) ∙ e
    by false e q go = go q

-- ---- the law
abbrev Answers : Type 0
Answers = Entry × RunState

abbrev answers : Answers → Result Answers (Fault Name)
answers t = Ok t

-- what is pushed for a sequent
abbrev IsGiven : Sequent Name → Result Answers (Fault Name) → Type 0
IsGiven q answer =
    ((t : Answers) → answer ≡ Ok t → (r : Sequent Name) × (t.0.object ≡ theorem r) × (same_sequent names r q ≡ true))
    × ((f : Fault Name) → answer ≡ Err f → f ≡ Nesting)

given-entry : (q r : Sequent Name) (o : Origin Name) (run : RunState) → same_sequent names r q ≡ true
    → IsGiven q (answers (proof r o, run))
given-entry q r o run same = (
  λ t p. (
    r,
    ap (λ (t : Answers). t.0.object) (sym (same-ok (answers (proof r o, run)) (proof r o, run) t refl p)),
    same,
  ),
  λ f p. absurd (cc),
)

refused-entry : (q : Sequent Name) → IsGiven q (Err Nesting)
refused-entry q = (λ t p. absurd (cc), λ f p. cc)

or-assumed : (q : Sequent Name) (o : Origin Name) (run : RunState) (r : Option Given) → given_as q run.assumptions ≡ r
    → IsGiven q (let t = or_assumed r (record { sequent = q; origin = o }) run in Ok (theorem_entry t.0, t.1))
or-assumed q o run (Some a) e = given-entry q a.sequent a.origin run
    (find-passes (λ (g : Given). same_sequent names g.sequent q) run.assumptions a e)
or-assumed q o run None e =
    given-entry q q o (record run { assumptions = run.assumptions ++ record { sequent = q; origin = o } ∷ [] })
    ((same_sequent-is names tells_names q q).1 (same_set-self q.hyps, refl))

-- the hypotheses of a theorem with all of the list are those of the list, where its own are among them
same-as-stated : (a r q : Sequent Name) (hyps : List T) → IsSameSet hyps q.hyps
    → (all_in names a.hyps q.hyps && same_tm names a.concl q.concl) ≡ true → r.concl ≡ a.concl
    → ((x : T) → IsMember x r.hyps ↔ (IsMember x a.hyps ⊎ IsMember x hyps)) → same_sequent names r q ≡ true
same-as-stated a r q hyps same fits concl members =
    let part = (all_in-is names tells_names a.hyps q.hyps).0
    (and-left (all_in names a.hyps q.hyps) (same_tm names a.concl q.concl) fits) in
    let ends = (same_tm-is names tells_names a.concl q.concl).0
    (and-right (all_in names a.hyps q.hyps) (same_tm names a.concl q.concl) fits) in
    (same_sequent-is names tells_names r q).1 (
      record {
        to = λ x m. elim ((members x).0 m) [ inl b ↦ part x b | inr b ↦ same.to x b ];
        back = λ x m. (members x).1 (inr (same.back x m));
      },
      concl ∙ ends,
    )

pub axiom-gives : AxiomGivesItsSequent
axiom-gives c os o hyps p g run each rule =
    let u = bind-ok (unless NotBool (is_proposition p)) _ _ rule in
    let v = bind-ok (unless NotBool (list_all is_proposition hyps)) _ _ u.2 in
    let is : record { hyps = once_each names hyps; concl = p } ≡ g.sequent =
    same-ok (Ok (record { hyps = once_each names hyps; concl = p })) _ g.sequent refl v.2 in
    let same : IsSameSet hyps g.sequent.hyps =
    subst (λ (q : Sequent Name). IsSameSet hyps q.hyps) is (same_set-once_each names tells_names hyps) in
    by (given_for g.sequent c.theorems) refl same (elements-stated os o hyps each (unless-ok _ _ v.0 v.1))
  where
    by : (r : Option Given) → given_for g.sequent c.theorems ≡ r → IsSameSet hyps g.sequent.hyps
        → AreStated (element_entries os o) hyps → IsGiven g.sequent (or_weakened r (element_entries os o) g run)
    by None e same h = or-assumed g.sequent g.origin run (given_as g.sequent run.assumptions) refl
    by (Some a) e same h =
        let fits =
        find-passes (λ (b : Given). all_in names b.sequent.hyps g.sequent.hyps
        && same_tm names b.sequent.concl g.sequent.concl) c.theorems a e in
        elim (weakened-gives (element_entries os o) hyps h a.sequent a.origin) [
          | inl n ↦ subst (λ w. IsGiven g.sequent (w >>= λ e. Ok (e, run))) (sym n) (refused-entry g.sequent)
          | inr r ↦ subst (λ w. IsGiven g.sequent (w >>= λ e. Ok (e, run))) (sym r.2)
              (given-entry g.sequent r.0 r.1 run (same-as-stated a.sequent r.0 g.sequent hyps same fits r.3 r.4))
        ]
