-- Sequents of the words that stand for several records, by the numbers of their terms.
use Rattle.std.specs.Prelude.{filter, not}
use Rattle.std.specs.List.{All, list_any}
use Rattle.std.proofs.Common.{◌≡◌, ℕ, Bool, true, false, cond, List, nat_eq}
use Rattle.std.proofs.Common.{Option, None, Some, Ok, Err, refl, sym, ap, subst}
use Rattle.std.proofs.Common.{◌∙◌}
use Rattle.std.proofs.lemmas.List.Elements.{All-filter}
use Rattle.ot_logic.specs.Names.{Name}
use Rattle.ot_logic.specs.Naming.{names}
use Rattle.ot_logic.specs.Trees.{Ty, Tm, Sequent}
use Rattle.ot_logic.specs.Hol.{same_tm, is_in, minus, union, equation, as_equation}
use Rattle.ot_logic.specs.Faults.{NotEquation, NotAlphaEqual}
use Rattle.ot_logic.specs.Answers.{◌>>=◌, some_or}
use Rattle.ot_logic.specs.Rules.{Rule, within_limit, sym_rule, trans_rule, proved_hyp}
use Rattle.ot_logic.specs.Table.{Extends, IsInjective}
use Rattle.ot_laws.proofs.Tests.{tells_names}
use Rattle.ot_laws.proofs.Steps.{within_limit-ok}
use Rattle.ot_log_nodes.specs.Items.{Item, HasTerm, IsTerm, type_at, term_at}
use Rattle.ot_log_nodes.proofs.ItemLemmas.{has-term, term-is}
use Rattle.ot_log_rules.specs.Statements.{terms_at, sequent_at, HasStatement}
use Rattle.ot_log_rules.specs.Shapes.{AreSides}
use Rattle.ot_log_rules.specs.declared.statement.Statement.{Statement}
use Rattle.ot_log_rules.specs.declared.shapes.Sides.{Sides}
use Rattle.ot_log_rules.proofs.Numbers.{same-terms, in-numbers, minus-numbers, union-numbers}
use Rattle.ot_log_rules.proofs.Cases.{joined, has-joined}
use Rattle.ot_log_rules.proofs.Staying.{terms-stay, still-terms}
use Rattle.ot_log_page.specs.Derived.{IsStatementOf, outer_equation}
use Rattle.ot_logic.proofs.Results.{bind-ok, same_Ok}

module _ (ts : List Item) (one : IsInjective ts) where
  -- whether a conclusion is a hypothesis
  pub concluded : (a b : Statement) → HasStatement ts a → HasStatement ts b
      → list_any (λ u. nat_eq u a.concl) b.hyps.items ≡ is_in names (term_at ts a.concl) (terms_at ts b.hyps.items)
  concluded a b g h = sym (in-numbers ts one a.concl b.hyps.items g.concl h.hyps)

  abbrev pub proved_numbers : Statement → Statement → List ℕ
  proved_numbers a b = joined a.hyps.items (filter (λ u. not (nat_eq u a.concl)) b.hyps.items)

  pub proved : (a b q : Statement) → HasStatement ts a → HasStatement ts b → q.hyps.items ≡ proved_numbers a b
      → q.concl ≡ b.concl
      → IsStatementOf ts (proved_hyp names (sequent_at ts a) (sequent_at ts b)) q
  proved a b q g h e f =
      let left = filter (λ u. not (nat_eq u a.concl)) b.hyps.items in
      let has_left = All-filter (λ u. not (nat_eq u a.concl)) (HasTerm ts) b.hyps.items h.hyps in
      let trees : terms_at ts q.hyps.items ≡ union names (terms_at ts a.hyps.items)
      (minus names (term_at ts a.concl) (terms_at ts b.hyps.items)) =
      ap (terms_at ts) e ∙ union-numbers ts one a.hyps.items left g.hyps has_left
      ∙ ap (union names (terms_at ts a.hyps.items)) (minus-numbers ts one a.concl b.hyps.items g.concl h.hyps) in (
        record {
          hyps = subst (All (HasTerm ts)) (sym e) (has-joined ts a.hyps.items left g.hyps has_left);
          concl = subst (HasTerm ts) (sym f) h.concl;
        },
        λ i. record { hyps = trees i; concl = term_at ts (f i) },
      )

-- ---- sym

none-ok : (r : Sequent Name) (after : Ty Name × Tm Name × Tm Name → Rule names)
    (o : Option (Ty Name × Tm Name × Tm Name))
    → o ≡ None → (some_or NotEquation o >>= after) ≡ Ok r → ⊥
none-ok r after None p h = cc
none-ok r after (Some e) p h = cc

sym-is : (a r : Sequent Name) (e : Ty Name × Tm Name × Tm Name) → as_equation names a.concl ≡ Some e
    → sym_rule names a ≡ Ok r
    → record { hyps = a.hyps; concl = equation names e.0 e.2 e.1 } ≡ r
sym-is a r e p h =
    let after : Ty Name × Tm Name × Tm Name → Rule names =
    λ z. within_limit names (record { hyps = a.hyps; concl = equation names z.0 z.2 z.1 }) in
    (within_limit-ok names tells_names (record { hyps = a.hyps; concl = equation names e.0 e.2 e.1 }) r
    (sym (ap (λ o. some_or NotEquation o >>= after) p) ∙ h)).1

pub sym-made : (ts us : List Item) (a q : Statement) (e : Sides) (r : Sequent Name) → Extends ts us
    → HasStatement ts a
    → AreSides ts a.concl e
    → q.hyps.items ≡ a.hyps.items
    → IsTerm us q.concl (equation names (type_at ts e.ty) (term_at ts e.right) (term_at ts e.left))
    → sym_rule names (sequent_at ts a) ≡ Ok r → IsStatementOf us r q
sym-made ts us a q e r x h s p c k =
    let hyps = ap (terms_at us) p ∙ terms-stay ts us x a.hyps.items h.hyps in
    let concl = term-is us q.concl _ c in (
      record {
        hyps = subst (All (HasTerm us)) (sym p) (still-terms ts us x a.hyps.items h.hyps);
        concl = has-term us q.concl _ c;
      },
      (λ i. record { hyps = hyps i; concl = concl i })
          ∙ sym-is (sequent_at ts a) r (type_at ts e.ty, term_at ts e.left, term_at ts e.right) s.is k,
    )

-- the word is refused where the conclusion is no equation
pub sym-none : (a r : Sequent Name) → as_equation names a.concl ≡ None → sym_rule names a ≡ Ok r → ⊥
sym-none a r p h =
    let after : Ty Name × Tm Name × Tm Name → Rule names = λ z.
    within_limit names (record { hyps = a.hyps; concl = equation names z.0 z.2 z.1 }) in
    none-ok r after (as_equation names a.concl) p h

-- ---- trans

-- of two tests the first counts; where neither holds the word is refused
trans-by : (b c : Bool) (q s r : Sequent Name)
    → ◌≡◌ {A = Rule names} (cond b (Ok q) (cond c (Ok s) (Err NotAlphaEqual))) (Ok r)
    → cond b q s ≡ r
trans-by true c q s r h = same_Ok q r h
trans-by false true q s r h = same_Ok s r h
trans-by false false q s r h = cc

abbrev outer : Sequent Name → Sequent Name → Ty Name × Tm Name × Tm Name → Ty Name × Tm Name × Tm Name → Bool
    → Sequent Name
outer a b e f t = cond t (record { hyps = union names a.hyps b.hyps; concl = equation names e.0 e.1 f.2 })
    (record { hyps = union names a.hyps b.hyps; concl = equation names e.0 f.1 e.2 })

trans-is : (a b r : Sequent Name) (e f : Ty Name × Tm Name × Tm Name) → as_equation names a.concl ≡ Some e
    → as_equation names b.concl ≡ Some f → trans_rule names a b ≡ Ok r → outer a b e f (same_tm names e.2 f.1) ≡ r
trans-is a b r e f p q h =
    let last : Ty Name × Tm Name × Tm Name → Ty Name × Tm Name × Tm Name → Rule names = λ y z.
    cond (same_tm names y.2 z.1)
    (Ok (record { hyps = union names a.hyps b.hyps; concl = equation names y.0 y.1 z.2 }))
    (cond (same_tm names z.2 y.1)
    (Ok (record { hyps = union names a.hyps b.hyps; concl = equation names y.0 z.1 y.2 }))
    (Err NotAlphaEqual)) in
    let reads : (some_or NotEquation (as_equation names a.concl) >>= λ y. some_or NotEquation
    (as_equation names b.concl)
    >>= last y) ≡ last e f =
    ap (λ o. some_or NotEquation o >>= λ y. some_or NotEquation (as_equation names b.concl) >>= last y) p
    ∙ ap (λ o. some_or NotEquation o >>= last e) q in
    trans-by (same_tm names e.2 f.1) (same_tm names f.2 e.1) _ _ r (sym reads ∙ h)

outer-as : (a b : Sequent Name) (e f : Ty Name × Tm Name × Tm Name) (t : Bool)
    → outer a b e f t ≡ record {
      hyps = union names a.hyps b.hyps;
      concl = cond t (equation names e.0 e.1 f.2) (equation names e.0 f.1 e.2);
    }
outer-as a b e f true = refl
outer-as a b e f false = refl

pub trans-made : (ts us : List Item) (one : IsInjective ts) (a b q : Statement) (e f : Sides) (r : Sequent Name)
    → Extends ts us
    → HasStatement ts a → HasStatement ts b → AreSides ts a.concl e → AreSides ts b.concl f
    → q.hyps.items ≡ joined a.hyps.items b.hyps.items → IsTerm us q.concl (outer_equation ts e f)
    → trans_rule names (sequent_at ts a) (sequent_at ts b) ≡ Ok r → IsStatementOf us r q
trans-made ts us one a b q e f r x g h s t p c k =
    let whole = joined a.hyps.items b.hyps.items in
    let has = has-joined ts a.hyps.items b.hyps.items g.hyps h.hyps in
    let hyps = ap (terms_at us) p ∙ terms-stay ts us x whole has
    ∙ union-numbers ts one a.hyps.items b.hyps.items g.hyps h.hyps in
    let d : Ty Name × Tm Name × Tm Name = (type_at ts e.ty, term_at ts e.left, term_at ts e.right) in
    let o : Ty Name × Tm Name × Tm Name = (type_at ts f.ty, term_at ts f.left, term_at ts f.right) in
    let concl = term-is us q.concl _ c ∙ ap (λ z. cond z (equation names d.0 d.1 o.2) (equation names d.0 o.1 d.2))
    (sym (same-terms ts one e.right f.left s.right t.left)) in (
      record {
        hyps = subst (All (HasTerm us)) (sym p) (still-terms ts us x whole has);
        concl = has-term us q.concl _ c;
      },
      (λ i. record { hyps = hyps i; concl = concl i })
          ∙ sym (outer-as (sequent_at ts a) (sequent_at ts b) d o (same_tm names d.2 o.1))
          ∙ trans-is (sequent_at ts a) (sequent_at ts b) r d o s.is t.is k,
    )

pub trans-none : (a b r : Sequent Name) → as_equation names a.concl ≡ None → trans_rule names a b ≡ Ok r → ⊥
trans-none a b r p h = none-ok r _ (as_equation names a.concl) p h

pub trans-other : (a b r : Sequent Name) → as_equation names b.concl ≡ None → trans_rule names a b ≡ Ok r → ⊥
trans-other a b r p h = let (e, q, k) = bind-ok (some_or NotEquation (as_equation names a.concl)) _ r h in
    none-ok r _ (as_equation names b.concl) p k
