-- The theorems of a definition get the next numbers.
use Rattle.std.specs.Prelude.{slice_get}
use Rattle.std.proofs.Common.{◌≡◌, ℕ, zero, suc, ◌+◌, ◌<◌, List, [], ◌∷◌, ◌++◌, length, Some, Ok, refl, sym}
use Rattle.std.proofs.Common.{ap, subst, ◌∙◌, inl, inr, arith, append_assoc, append-nil, length-append}
use Rattle.ot_logic.specs.Lists.{IsMember}
use Rattle.ot_logic.specs.Names.{Name}
use Rattle.ot_logic.specs.Naming.{names}
use Rattle.ot_logic.specs.Trees.{Tm, Free, Con, Bound, App, Abs, Sequent, Definition, ConDef, ListDef, TyDef}
use Rattle.ot_logic.specs.Hol.{theorems, theorems_at}
use Rattle.ot_logic.specs.Faults.{StackEmpty, HypothesesPresent, NotApplication}
use Rattle.ot_logic.specs.Answers.{◌>>=◌, unless, some_or}
use Rattle.ot_logic.specs.declared.command.Cmd.{Cmd}
use Rattle.ot_logic.specs.declared.command.Cmd.TheVariants as words
use Rattle.ot_laws.specs.Conditions.{is_empty, function_of}
use Rattle.ot_trace.specs.Origins.{Origin, Origins, Make, Define, Outcome}
use Rattle.ot_written.specs.Written.{theorem_count}
use Rattle.ot_machine.specs.Objects.{Object, theorem}
use Rattle.ot_machine.specs.Values.{value, definition_of, theorem_of}
use Rattle.ot_machine.specs.Lawful.{IsAxiom}
use Rattle.ot_article.proofs.FromLawful.{get-middle}
use Rattle.ot_log_law.specs.Writing.{Written, mark, outcomes, add_outcomes}
use Rattle.ot_log_law.proofs.Defining.{IsDefining, ByConst, ByList, ByType}
use Rattle.ot_logic.proofs.Results.{bind-ok, some_or-ok}

-- ---- the numbers

abbrev pub numbered : ℕ → List (Origin Name) → List (Origin Name × ℕ)
numbered n [] = []
numbered n (o ∷ os) = (o, n) ∷ numbered (suc n) os

more : (a b : ℕ) → suc a + b ≡ a + suc b
more a b = omega arith

pub added-theorems : (os : List (Origin Name)) (x : Written)
    → (add_outcomes os x).theorems ≡ x.theorems ++ numbered x.log.sequents os
added-theorems [] x = sym (append-nil x.theorems)
added-theorems (o ∷ os) x =
    let y = mark o x.log.sequents (record x { log = record x.log { sequents = suc x.log.sequents } }) in
    added-theorems os y ∙ append_assoc x.theorems ((o, x.log.sequents) ∷ []) (numbered (suc x.log.sequents) os)

pub added-log : (os : List (Origin Name)) (x : Written)
    → (add_outcomes os x).log ≡ record x.log { sequents = x.log.sequents + length os }
added-log [] x = let e : x.log.sequents ≡ x.log.sequents + 0 = omega arith in
    ap (λ n. record x.log { sequents = n }) e
added-log (o ∷ os) x =
    let y = mark o x.log.sequents (record x { log = record x.log { sequents = suc x.log.sequents } }) in
    added-log os y ∙ ap (λ n. record x.log { sequents = n }) (more x.log.sequents (length os))

-- these origins have these theorems as values, and no word of theirs makes them
abbrev pub HaveValues : List (Origin Name) → List (Sequent Name) → Type 0
HaveValues [] [] = Unit {0}
HaveValues (o ∷ os) (q ∷ qs) = (value o ≡ Ok (theorem q)) × ((w : Cmd) (ps : Origins Name) → o ≡ Make w ps → ⊥)
    × HaveValues os qs
HaveValues _ _ = ⊥

pub values-long : (os : List (Origin Name)) (qs : List (Sequent Name)) → HaveValues os qs → length os ≡ length qs
values-long [] [] h = refl
values-long (o ∷ os) (q ∷ qs) h = ap suc (values-long os qs h.2)
values-long [] (q ∷ qs) h = absurd h
values-long (o ∷ os) [] h = absurd h

-- the value of an origin that got a number stands at that
pub record IsNumbered (qs : List (Sequent Name)) (all : List (Sequent Name)) (o : Origin Name) (k : ℕ) : Type 0 where
  pub of : Sequent Name
  pub member : IsMember of qs
  pub value_is : value o ≡ Ok (theorem of)
  pub there : slice_get all k ≡ Some of
  pub other : IsAxiom o → ⊥
  pub made : (w : Cmd) (os : Origins Name) → o ≡ Make w os → ⊥

pub numbered-at : (os : List (Origin Name)) (qs front : List (Sequent Name)) (n : ℕ) → HaveValues os qs
    → length front ≡ n
    → (o : Origin Name) (k : ℕ) → IsMember (o, k) (numbered n os) → IsNumbered qs (front ++ qs) o k
numbered-at [] qs front n h l o k m = absurd m
numbered-at (p ∷ os) [] front n h l o k m = absurd h
numbered-at (p ∷ os) (q ∷ qs) front n h l o k (inl e) =
    let eo : p ≡ o = ap (λ (z : Origin Name × ℕ). z.0) e in
    let ek : length front ≡ k = l ∙ ap (λ (z : Origin Name × ℕ). z.1) e in
    record {
      of = q;
      member = inl refl;
      value_is = subst (λ z. value z ≡ Ok (theorem q)) eo h.0;
      there = subst (λ z. slice_get (front ++ q ∷ qs) z ≡ Some q) ek (get-middle front qs q);
      other = λ a. h.1 words.Axiom a.0 (eo ∙ a.1);
      made = λ w ps f. h.1 w ps (eo ∙ f);
    }
numbered-at (p ∷ os) (q ∷ qs) front n h l o k (inr m) =
    let long : length (front ++ q ∷ []) ≡ suc n = let z = length-append front (q ∷ []) in omega (arith, z, l) in
    let r = numbered-at os qs (front ++ q ∷ []) (suc n) h.2 long o k m in
    record {
      of = r.of;
      member = inr r.member;
      value_is = r.value_is;
      there = subst (λ z. slice_get z k ≡ Some r.of) (append_assoc front (q ∷ []) qs) r.there;
      other = r.other;
      made = r.made;
    }

-- ---- the theorems of a definition

theorem-value : (j : ℕ) (d : Origin Name) (x : Definition Name) (q : Sequent Name) → definition_of [] d ≡ Ok x
    → slice_get (theorems names x) j ≡ Some q → value (Outcome (suc j) d) ≡ Ok (theorem q)
theorem-value j d x q e h = ap (λ r. r >>= theorem_of (suc j)) e
    ∙ ap (λ o. some_or StackEmpty o >>= λ z. Ok (theorem z)) h

not-made : (j : ℕ) (d : Origin Name) (w : Cmd) (ps : Origins Name) → Outcome j d ≡ Make w ps → ⊥
not-made j d w ps e = cc

pub outcome-values : (w : Cmd) (os : Origins Name) (ds : List (Definition Name)) (vs : List Object)
    (x : Definition Name)
    → IsDefining ds vs x w → definition_of [] (Define w os) ≡ Ok x
    → HaveValues (outcomes w (Define w os)) (theorems names x)
outcome-values w os ds vs x (ByConst n t s e c h) f =
    subst (λ z. HaveValues (Outcome 1 (Define words.DefineConst os) ∷ []) (theorems names z)) (sym e) (
      theorem-value 0 (Define words.DefineConst os) (ConDef n t) _ (f ∙ ap Ok e) refl,
      not-made 1 (Define words.DefineConst os),
      tt,
    )
outcome-values w os ds vs x (ByList l ps q s g e c) f =
    subst (λ z. HaveValues (Outcome 1 (Define words.DefineConstList os) ∷ []) (theorems names z)) (sym e) (
      theorem-value 0 (Define words.DefineConstList os) (ListDef ps q) _ (f ∙ ap Ok e) refl,
      not-made 1 (Define words.DefineConstList os),
      tt,
    )
outcome-values w os ds vs x (ByType n abs rep l vars q s g e c h) f =
    let a = bind-ok (unless HypothesesPresent (is_empty q.hyps)) _ tt c in
    let b = bind-ok (some_or NotApplication (function_of q.concl)) _ tt a.2 in
    let d = Define words.DefineTypeOp os in
    subst (λ z. HaveValues (Outcome 1 d ∷ Outcome 2 d ∷ []) (theorems names z)) (sym e)
    (by q.concl b.0 (some_or-ok NotApplication (function_of q.concl) b.0 b.1)
    (λ j r k. theorem-value j d (TyDef n abs rep vars q) r (f ∙ ap Ok e) k))
  where
    d : Origin Name
    d = Define words.DefineTypeOp os

    by : (t p : Tm Name) → function_of t ≡ Some p
        → ((j : ℕ) (r : Sequent Name) → slice_get (theorems_at names n abs rep vars t) j ≡ Some r
        → value (Outcome (suc j) d) ≡ Ok (theorem r))
        → HaveValues (Outcome 1 d ∷ Outcome 2 d ∷ []) (theorems_at names n abs rep vars t)
    by (App u v) p k at = (at 0 _ refl, not-made 1 d, (at 1 _ refl, not-made 2 d, tt))
    by (Free v) p k at = absurd (cc)
    by (Con m t) p k at = absurd (cc)
    by (Bound i) p k at = absurd (cc)
    by (Abs t b) p k at = absurd (cc)

-- each theorem of a definition gets a number
pub outcome-numbered : (w : Cmd) (d : Origin Name) (n j : ℕ) → j < theorem_count w
    → (k : ℕ) × IsMember (Outcome (suc j) d, k) (numbered n (outcomes w d))
outcome-numbered words.DefineTypeOp d n zero l = (n, inl refl)
outcome-numbered words.DefineTypeOp d n (suc zero) l = (suc n, inr (inl refl))
outcome-numbered words.DefineTypeOp d n (suc (suc j)) l = absurd (omega arith)
outcome-numbered _ d n zero l = (n, inl refl)
outcome-numbered _ d n (suc j) l = absurd (omega arith)
