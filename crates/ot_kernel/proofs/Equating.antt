-- Rules over the table: what numbers stand for as it grows, and what theorems their answers are.
use Rattle.std.specs.Prelude.{◌≢◌}
use Rattle.std.specs.List.{All, list_all}
use Rattle.std.proofs.Common.{◌≡◌, ℕ, ◌<◌, true, false, List, [], ◌∷◌, length, Option}
use Rattle.std.proofs.Common.{Some, None, Result, Ok, refl, sym, ap, ◌∙◌, subst, arith}
use Rattle.std.proofs.lemmas.List.Elements.{All-head, All-tail}
use Rattle.std.proofs.lemmas.Option.{slice_get-get_or, same_Some}
use Rattle.ot_logic.specs.Trees.{Ty, TyVar, Tm, Named, NVar, NConst, NApp, NAbs, Sequent}
use Rattle.ot_logic.specs.Faults.{Fault}
use Rattle.ot_logic.specs.Hol.{type_in, HasType, equation, as_equation, is_shallow, same_tm, union}
use Rattle.ot_logic.specs.NamedTerms.{nameless}
use Rattle.ot_logic.specs.Naming.{numbers}
use Rattle.ot_logic.specs.Rules.{within_limit, trans_rule}
use Rattle.ot_laws.proofs.Tests.{tells_numbers, same_tm-is}
use Rattle.ot_laws.proofs.Typing.{type-nameless}
use Rattle.ot_laws.proofs.Equations.{as_equation-some, as_equation-equation, equation-sides}
use Rattle.ot_term.specs.Term.{TermTable}
use Rattle.ot_term.specs.TermTable.{term_at, Grows, IsTermTable}
use Rattle.ot_term.specs.Equality.{equality_ty, named_equation}
use Rattle.ot_term.proofs.Growing.{grown_within, grown_further, term_at-Grows}
use Rattle.ot_kernel.specs.declared.theorem.Theorem.{Theorem}
use Rattle.ot_kernel.specs.declared.fault.RuleFault.{RuleFault}
use Rattle.ot_kernel.specs.Answers.{RefusesRule}
use Rattle.ot_kernel.specs.Numbered.{tm_at, tms_at, numbered_sequent, Derives, IsGrownBy, IsGrown}
use Rattle.ot_kernel.specs.Equating.{limited, equation_rule, IsMadeTerm, AreSides, AreOuter}
use Rattle.ot_kernel.proofs.EquationRules.{within-made, within-refused, limited-never}
use Rattle.ot_kernel.proofs.EquationRules.{equation_rule-at, trans-inner, trans-ends}
use Rattle.ot_kernel.proofs.EquationLimits.{shallow-outer}

-- ---- a table
module _ (t : TermTable) (table : IsTermTable t) where
  pub limit_at : (i : ℕ) → i < length t.terms → is_shallow numbers (tm_at t.terms i) ≡ true
  limit_at i h = table.limit i (term_at t.terms i) (slice_get-get_or t.terms i (NConst 0 (TyVar 0)) h)

  pub typed_at : (i : ℕ) → i < length t.terms → (ty : Ty ℕ) × HasType numbers (tm_at t.terms i) ty
  typed_at i h =
      let (ty, typed) = table.typed i (term_at t.terms i) (slice_get-get_or t.terms i (NConst 0 (TyVar 0)) h) in
      (ty, type-nameless numbers tells_numbers (term_at t.terms i) ∙ typed)

  pub limits_at : (is : List ℕ) → All (λ i. i < length t.terms) is → list_all (is_shallow numbers) (tms_at t.terms is)
      ≡ true
  limits_at [] h = refl
  limits_at (i ∷ is) h = rw (limit_at i (All-head (λ j. j < length t.terms) i is h))
      (limits_at is (All-tail (λ j. j < length t.terms) i is h))

  -- the sides of an equation of the table
  pub sides_at : (i a b : ℕ) (ty : Ty ℕ) → i < length t.terms → a < i → b < i
      → term_at t.terms i ≡ named_equation ty (term_at t.terms a) (term_at t.terms b) → AreSides t.terms i ty a b
  sides_at i a b ty h p q e =
      let tree : tm_at t.terms i ≡ equation numbers ty (tm_at t.terms a) (tm_at t.terms b) =
      ap (nameless numbers) e in
      let (u, typed) = typed_at i h in
      let (left, right) = equation-sides numbers tells_numbers ty u (tm_at t.terms a) (tm_at t.terms b)
      (subst (λ z. HasType numbers z u) tree typed) in
      record {
        typed = record { left_below = omega arith; right_below = omega arith; left = left; right = right };
        sides = ap (as_equation numbers) tree ∙ as_equation-equation numbers tells_numbers ty (tm_at t.terms a)
            (tm_at t.terms b);
        limit = subst (λ z. is_shallow numbers z ≡ true) tree (limit_at i h);
      }

-- a named term whose nameless form is an equation
named_sides : (t : Named ℕ) (ty : Ty ℕ) (a b : Tm ℕ) → nameless numbers t ≡ equation numbers ty a b
    → (u v : Named ℕ) × (t ≡ named_equation ty u v)
named_sides (NApp (NApp (NConst n uy) u) v) ty a b h =
    let name : n ≡ numbers.equals = cc in
    let at : uy ≡ equality_ty ty = cc in
    (u, v, λ i. NApp (NApp (NConst (name i) (at i)) u) v)
named_sides (NVar w) ty a b h = cc
named_sides (NConst n uy) ty a b h = cc
named_sides (NAbs w c) ty a b h = cc
named_sides (NApp (NVar w) v) ty a b h = cc
named_sides (NApp (NConst n uy) v) ty a b h = cc
named_sides (NApp (NAbs w c) v) ty a b h = cc
named_sides (NApp (NApp (NVar w) u) v) ty a b h = cc
named_sides (NApp (NApp (NApp f x) u) v) ty a b h = cc
named_sides (NApp (NApp (NAbs w c) u) v) ty a b h = cc

pub no_sides : (t : Named ℕ) → ((ty : Ty ℕ) (u v : Named ℕ) → t ≢ named_equation ty u v)
    → as_equation numbers (nameless numbers t) ≡ None
no_sides t never = go (as_equation numbers (nameless numbers t)) refl
  where
    go : (o : Option (Ty ℕ × Tm ℕ × Tm ℕ)) → as_equation numbers (nameless numbers t) ≡ o
        → as_equation numbers (nameless numbers t) ≡ None
    go None e = e
    go (Some (ty, a, b)) e =
        let (u, v, is) =
        named_sides t ty a b (as_equation-some numbers tells_numbers (nameless numbers t) ty a b e) in
        absurd (never ty u v is)

-- ---- a table that grows
module _ (t u : TermTable) (g : Grows t u) where
  pub tm_at-Grows : (i : ℕ) → i < length t.terms → tm_at u.terms i ≡ tm_at t.terms i
  tm_at-Grows i h = ap (nameless numbers) (term_at-Grows t u g i h)

  pub tms_at-Grows : (is : List ℕ) → All (λ i. i < length t.terms) is → tms_at u.terms is ≡ tms_at t.terms is
  tms_at-Grows [] h = refl
  tms_at-Grows (i ∷ is) h =
      let first = tm_at-Grows i (All-head (λ j. j < length t.terms) i is h) in
      let rest = tms_at-Grows is (All-tail (λ j. j < length t.terms) i is h) in
      λ j. first j ∷ rest j

pub grown_more : (n : ℕ) (t u : TermTable) → IsGrown t u → IsGrownBy n t u
grown_more n t u g = grown_within _ _ t u g (omega arith)

pub grown_then : (n : ℕ) (s t u : TermTable) → IsGrownBy n s t → IsGrownBy n t u → IsGrownBy n s u
grown_then n s t u g h = grown_further _ _ _ s t u g (omega arith) h (omega arith)

-- ---- a theorem whose conclusion is made over the table, under hypotheses that were there
pub derives_within : (t u : TermTable) → IsTermTable t → Grows t u
    → (th : Theorem) (p : Tm ℕ) (stated : Result (Sequent ℕ) (Fault ℕ)) → All (λ i. i < length t.terms) th.hyps
    → IsMadeTerm (Ok th.concl) (limited numbers p) u.terms
    → stated ≡ within_limit numbers (record { hyps = tms_at t.terms th.hyps; concl = p })
    → Derives (Ok th) stated u.terms
derives_within t u table g th p stated inside made rule =
    let hyps = tms_at-Grows t u g th.hyps inside in (
      record { hyps = λ i n q. let h = inside i n q in omega (arith, h, g.terms.longer); concl = made.0 },
      rule
          ∙ within-made numbers (tms_at t.terms th.hyps) p (tm_at u.terms th.concl)
          (limits_at t table th.hyps inside) made.1
          ∙ (λ i. Ok (record { hyps = sym hyps i; concl = tm_at u.terms th.concl })),
    )

pub refused_within : (e : RuleFault) (g : List (Tm ℕ)) (p : Tm ℕ) (stated : Result (Sequent ℕ) (Fault ℕ))
    → RefusesRule e (limited numbers p) → stated ≡ within_limit numbers (record { hyps = g; concl = p })
    → RefusesRule e stated
refused_within e g p stated refused rule = subst (λ (z : Result (Sequent ℕ) (Fault ℕ)). RefusesRule e z) (sym rule)
    (within-refused numbers e g p refused)

-- ---- a theorem whose conclusion is an equation that is made
at_type : (a b : Tm ℕ) (ty : Ty ℕ) → HasType numbers a ty → (P : Result (Tm ℕ) (Fault ℕ) → Type 0)
    → P (equation_rule numbers a b) → P (limited numbers (equation numbers ty a b))
at_type a b ty h P p = subst P (equation_rule-at numbers a b ty h) p

-- the theorem's hypotheses were there
pub equated_derives : (t u : TermTable) → IsTermTable t → Grows t u
    → (th : Theorem) (g : List (Tm ℕ)) (a b : Tm ℕ) (ty : Ty ℕ) (stated : Result (Sequent ℕ) (Fault ℕ))
    → All (λ i. i < length t.terms) th.hyps → tms_at t.terms th.hyps ≡ g → HasType numbers a ty
    → IsMadeTerm (Ok th.concl) (equation_rule numbers a b) u.terms → stated
    ≡ within_limit numbers (record { hyps = g; concl = equation numbers ty a b }) → Derives (Ok th) stated u.terms
equated_derives t u table g th hs a b ty stated inside same typed made rule =
    derives_within t u table g th (equation numbers ty a b) stated inside
    (at_type a b ty typed (λ r. IsMadeTerm (Ok th.concl) r u.terms) made)
    (rule ∙ (λ i. within_limit numbers (record { hyps = sym same i; concl = equation numbers ty a b })))

pub equated_refused : (e : RuleFault) (g : List (Tm ℕ)) (a b : Tm ℕ) (ty : Ty ℕ)
    (stated : Result (Sequent ℕ) (Fault ℕ)) → HasType numbers a ty → RefusesRule e (equation_rule numbers a b)
    → stated ≡ within_limit numbers (record { hyps = g; concl = equation numbers ty a b }) → RefusesRule e stated
equated_refused e g a b ty stated typed refused rule =
    refused_within e g (equation numbers ty a b) stated (at_type a b ty typed (λ r. RefusesRule e r) refused) rule

-- ---- transitivity
module _ (ts : List (Named ℕ)) (lower top : Theorem) (ty uy : Ty ℕ) (a b c d : ℕ) (p : AreSides ts lower.concl ty a b)
    (q : AreSides ts top.concl uy c d) where
  -- the inner sides are one
  pub outer_inner : same_tm numbers (tm_at ts b) (tm_at ts c) ≡ true
      → AreOuter ts (numbered_sequent ts lower) (numbered_sequent ts top) ty a d
  outer_inner h =
      let same : tm_at ts b ≡ tm_at ts c = (same_tm-is numbers tells_numbers (tm_at ts b) (tm_at ts c)).0 h in
      let at : uy ≡ ty = same_Some uy ty (sym q.typed.left ∙ ap (type_in numbers []) (sym same) ∙ p.typed.right) in
      let right : HasType numbers (tm_at ts d) ty = q.typed.right ∙ ap Some at in
      record {
        typed = record {
          left_below = p.typed.left_below;
          right_below = q.typed.right_below;
          left = p.typed.left;
          right = right;
        };
        follows = trans-inner numbers (numbered_sequent ts lower) (numbered_sequent ts top) ty uy (tm_at ts a)
            (tm_at ts b) (tm_at ts c) (tm_at ts d) p.sides q.sides h;
        limit = shallow-outer numbers ty (tm_at ts a) (tm_at ts b) (tm_at ts c) (tm_at ts d) p.typed.right right
            p.limit (subst (λ z. is_shallow numbers (equation numbers z (tm_at ts c) (tm_at ts d)) ≡ true) at
            q.limit);
      }

  -- the ends are one
  pub outer_ends : same_tm numbers (tm_at ts b) (tm_at ts c) ≡ false → same_tm numbers (tm_at ts d) (tm_at ts a)
      ≡ true → AreOuter ts (numbered_sequent ts lower) (numbered_sequent ts top) ty c b
  outer_ends n h =
      let same : tm_at ts d ≡ tm_at ts a = (same_tm-is numbers tells_numbers (tm_at ts d) (tm_at ts a)).0 h in
      let at : uy ≡ ty = same_Some uy ty (sym q.typed.right ∙ ap (type_in numbers []) same ∙ p.typed.left) in
      record {
        typed = record {
          left_below = q.typed.left_below;
          right_below = p.typed.right_below;
          left = q.typed.left
              ∙ ap Some at;
          right = p.typed.right;
        };
        follows = trans-ends numbers (numbered_sequent ts lower) (numbered_sequent ts top) ty uy (tm_at ts a)
            (tm_at ts b) (tm_at ts c) (tm_at ts d) p.sides q.sides n h;
        limit = shallow-outer numbers ty (tm_at ts c) (tm_at ts d) (tm_at ts a) (tm_at ts b)
            (q.typed.right ∙ ap Some at) p.typed.right
            (subst (λ z. is_shallow numbers (equation numbers z (tm_at ts c) (tm_at ts d)) ≡ true) at q.limit)
            p.limit;
      }

-- the equation of the outer sides is never refused by the limit
module _ (t : TermTable) (lower top : Sequent ℕ) (ty : Ty ℕ) (a b : ℕ) (o : AreOuter t.terms lower top ty a b) where
  pub outer_refused : (e : RuleFault) → RefusesRule e (equation_rule numbers (tm_at t.terms a) (tm_at t.terms b))
      → RefusesRule e (trans_rule numbers lower top)
  outer_refused e r =
      limited-never numbers e (equation numbers ty (tm_at t.terms a) (tm_at t.terms b)) (trans_rule numbers lower top)
      o.limit (at_type (tm_at t.terms a) (tm_at t.terms b) ty o.typed.left (λ z. RefusesRule e z) r)

  pub outer_derives : (u : TermTable) → IsTermTable t → Grows t u → (th : Theorem)
      → All (λ i. i < length t.terms) th.hyps → tms_at t.terms th.hyps ≡ union numbers lower.hyps top.hyps
      → IsMadeTerm (Ok th.concl) (equation_rule numbers (tm_at t.terms a) (tm_at t.terms b)) u.terms
      → Derives (Ok th) (trans_rule numbers lower top) u.terms
  outer_derives u table g th inside same made =
      let p = equation numbers ty (tm_at t.terms a) (tm_at t.terms b) in
      let hyps = tms_at t.terms th.hyps in
      let shallow : limited numbers p ≡ Ok p = rw o.limit refl in
      let stated : trans_rule numbers lower top ≡ within_limit numbers (record { hyps = hyps; concl = p }) =
      o.follows ∙ (λ i. Ok (record { hyps = sym same i; concl = p }))
      ∙ sym (within-made numbers hyps p p (limits_at t table th.hyps inside) shallow) in
      equated_derives t u table g th hyps (tm_at t.terms a) (tm_at t.terms b) ty (trans_rule numbers lower top) inside
      refl o.typed.left made stated

-- ---- the hypotheses of two theorems
pub union_of : (ts : List (Named ℕ)) (lower top : Theorem) (is g h : List ℕ)
    → tms_at ts is ≡ union numbers (tms_at ts g) (tms_at ts h) → g ≡ lower.hyps → h ≡ top.hyps
    → tms_at ts is ≡ union numbers (numbered_sequent ts lower).hyps (numbered_sequent ts top).hyps
union_of ts lower top is g h e p q = e ∙ (λ i. union numbers (tms_at ts (p i)) (tms_at ts (q i)))
