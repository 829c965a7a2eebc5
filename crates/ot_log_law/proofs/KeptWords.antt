-- What the rules keep that stand for several records of a log, and the rule of assumptions.
use Rattle.std.specs.Prelude.{not, cond, if◌then◌else◌, ◌&&◌}
use Rattle.std.specs.List.{AllByRecursion, list_all}
use Rattle.std.proofs.Common.{◌≡◌, ℕ, Bool, true, false, List, [], ◌∷◌, Some, Result}
use Rattle.std.proofs.Common.{Ok, Err, refl, sym, ap, subst, ◌∙◌, inl, inr, ◌⊎◌}
use Rattle.std.proofs.lemmas.Bool.{and_parts}
use Rattle.std.proofs.lemmas.Option.{same_Some}
use Rattle.ot_logic.specs.Lists.{IsPart}
use Rattle.ot_logic.specs.Names.{Name}
use Rattle.ot_logic.specs.Naming.{names}
use Rattle.ot_logic.specs.Trees.{Ty, Tm, Sequent}
use Rattle.ot_logic.specs.Hol.{depth_limit, bool_ty, HasType, type_in, is_in}
use Rattle.ot_logic.specs.Hol.{equation, minus, union, once_each, as_equation}
use Rattle.ot_logic.specs.Faults.{Fault, NotBool, NotEquation, NotAlphaEqual}
use Rattle.ot_logic.specs.Answers.{unless}
use Rattle.ot_logic.specs.Rules.{has_type, sides, trans_rule, proved_hyp, prove_hyp_rule}
use Rattle.ot_laws.proofs.Tests.{tells_names, tm_cases, has_type-is}
use Rattle.ot_laws.proofs.Equations.{equation-sides}
use Rattle.ot_laws.proofs.Steps.{sides-ok}
use Rattle.ot_laws.proofs.Sets.{all-member, all-from_members}
use Rattle.ot_laws.proofs.Hypotheses.{IsMember-minus, IsMember-once_each, distinct-once_each}
use Rattle.ot_laws.proofs.Sound.{trans_rule-sound, prove_hyp_rule-sound}
use Rattle.ot_kernel.specs.Axioms.{axiom_rule}
use Rattle.ot_log_records.specs.Expansions.{trans_entries, prove_hyp_entries, trans_of, prove_hyp_of}
use Rattle.ot_log_records.proofs.Fitting.{Fits, chain-fits}
use Rattle.ot_log_law.proofs.Kept.{IsKeptTerm, AllFit, IsKept, fit-part, fit-union, left, right, kept-by}
use Rattle.ot_logic.proofs.Results.{bind-ok, same_Ok, some_or-ok, unless-ok}

-- ---- trans: of a = b and b = d, whichever of both is the lower one

-- the first theorem a = b and the second b = d give q
pub record IsChain (first second q : Sequent Name) (g : List (Tm Name)) : Type 0 where
  pub ty : Ty Name
  pub a : Tm Name
  pub b : Tm Name
  pub d : Tm Name
  pub first_is : first.concl ≡ equation names ty a b
  pub second_is : second.concl ≡ equation names ty b d
  pub left_typed : HasType names a ty
  pub middle_typed : HasType names b ty
  pub right_typed : HasType names d ty
  pub is : q ≡ record { hyps = g; concl = equation names ty a d }

pub chain-of : (lower top q : Sequent Name) → IsKept lower → IsKept top → trans_rule names lower top ≡ Ok q
    → ((c : IsChain lower top q (union names lower.hyps top.hyps))
    × ((next i j : ℕ)
    → trans_of next (as_equation names lower.concl) (as_equation names top.concl) i j
    ≡ trans_entries next c.ty c.a i j))
    ⊎ ((c : IsChain top lower q (union names lower.hyps top.hyps))
    × ((next i j : ℕ)
    → trans_of next (as_equation names lower.concl) (as_equation names top.concl) i j
    ≡ trans_entries next c.ty c.a j i))
chain-of lower top q k l h =
    let (e, p, m) = bind-ok (sides names lower) _ q h in
    let (f, r, n) = bind-ok (sides names top) _ q m in
    let pe = sides-ok names tells_names lower e p in
    let pf = sides-ok names tells_names top f r in
    let one = equation-sides names tells_names e.0 (bool_ty names) e.1 e.2
    (subst (λ z. HasType names z (bool_ty names)) pe k.sequent.concl) in
    let two = equation-sides names tells_names f.0 (bool_ty names) f.1 f.2
    (subst (λ z. HasType names z (bool_ty names)) pf l.sequent.concl) in
    let se : as_equation names lower.concl ≡ Some e = some_or-ok NotEquation (as_equation names lower.concl) e p in
    let sf : as_equation names top.concl ≡ Some f = some_or-ok NotEquation (as_equation names top.concl) f r in
    let g = union names lower.hyps top.hyps in
    elim (tm_cases names tells_names e.2 f.1) [
      | inl c ↦
          let same : f.0 ≡ e.0 = same_Some f.0 e.0 (sym two.0 ∙ ap (type_in names []) (sym c.1) ∙ one.1) in
          let made : ◌≡◌ {A = Result (Sequent Name) (Fault Name)}
          (Ok (record { hyps = g; concl = equation names e.0 e.1 f.2 })) (Ok q) =
          rw c.0 at n in
          inl (
            record {
              ty = e.0;
              a = e.1;
              b = e.2;
              d = f.2;
              first_is = pe;
              second_is = pf ∙ (λ i. equation names (same i) (sym c.1 i) f.2);
              left_typed = one.0;
              middle_typed = one.1;
              right_typed = two.1 ∙ ap Some same;
              is = sym (same_Ok (record { hyps = g; concl = equation names e.0 e.1 f.2 }) q made);
            },
            λ next i j. (λ x. trans_of next (se x) (sf x) i j)
                ∙ ap (λ z. cond z (trans_entries next e.0 e.1 i j) (trans_entries next f.0 f.1 j i)) c.0,
          )
      | inr c ↦ elim (tm_cases names tells_names f.2 e.1) [
        | inl d ↦
            let same : e.0 ≡ f.0 = same_Some e.0 f.0 (sym one.0 ∙ ap (type_in names []) (sym d.1) ∙ two.1) in
            let made : ◌≡◌ {A = Result (Sequent Name) (Fault Name)}
            (Ok (record { hyps = g; concl = equation names e.0 f.1 e.2 })) (Ok q) =
            rw (c.0, d.0) at n in
            inr (
              record {
                ty = f.0;
                a = f.1;
                b = f.2;
                d = e.2;
                first_is = pf;
                second_is = pe ∙ (λ i. equation names (same i) (sym d.1 i) e.2);
                left_typed = two.0;
                middle_typed = two.1;
                right_typed = one.1 ∙ ap Some same;
                is =
                    sym (same_Ok (record { hyps = g; concl = equation names e.0 f.1 e.2 }) q made)
                    ∙ ap (λ z. record { hyps = g; concl = equation names z f.1 e.2 }) same;
              },
              λ next i j. (λ x. trans_of next (se x) (sf x) i j)
                  ∙ ap (λ z. cond z (trans_entries next e.0 e.1 i j) (trans_entries next f.0 f.1 j i)) c.0,
            )
        | inr d ↦
            let none : ◌≡◌ {A = Result (Sequent Name) (Fault Name)} (Err NotAlphaEqual) (Ok q) = rw (c.0, d.0) at n in
            absurd (cc)
      ]
    ]

chain-kept : (first second q : Sequent Name) (g : List (Tm Name)) → IsKept first → IsKept second → AllFit g
    → IsChain first second q g → AllFit q.hyps × Fits names depth_limit q.concl
chain-kept first second q g k l hyps c =
    let f = chain-fits names tells_names depth_limit c.ty c.a c.b c.d c.left_typed c.middle_typed c.right_typed
    (subst (Fits names depth_limit) c.first_is k.concl) (subst (Fits names depth_limit) c.second_is l.concl) in (
      subst (λ (z : Sequent Name). AllFit z.hyps) (sym c.is) hyps,
      subst (λ (z : Sequent Name). Fits names depth_limit z.concl) (sym c.is) f.2,
    )

pub trans-kept : (a b q : Sequent Name) → IsKept a → IsKept b → trans_rule names a b ≡ Ok q → IsKept q
trans-kept a b q k l h =
    let g = union names a.hyps b.hyps in
    let fits = fit-union a.hyps b.hyps k.hyps l.hyps in
    let r : AllFit q.hyps × Fits names depth_limit q.concl =
    elim (chain-of a b q k l h)
    [ inl c ↦ chain-kept a b q g k l fits c.0 | inr c ↦ chain-kept b a q g l k fits c.0 ] in
    kept-by (a ∷ b ∷ []) q (trans_rule-sound names tells_names (a ∷ b ∷ []) [] a b q (left a b k) (right a b l) h) r.0
    r.1

-- ---- proveHyp: which theorem is the lemma

pub lemma-of : (lower top q : Sequent Name) → prove_hyp_rule names lower top ≡ Ok q
    → ((q ≡ proved_hyp names lower top)
    × ((next i j : ℕ) → prove_hyp_of next lower top i j ≡ prove_hyp_entries next i j))
    ⊎ ((q ≡ proved_hyp names top lower)
    × ((next i j : ℕ) → prove_hyp_of next lower top i j ≡ prove_hyp_entries next j i))
lemma-of lower top q h = by (not (is_in names top.concl lower.hyps) && is_in names lower.concl top.hyps) refl
  where
    test : Bool
    test = not (is_in names top.concl lower.hyps) && is_in names lower.concl top.hyps

    by : (b : Bool) → test ≡ b
        → ((q ≡ proved_hyp names lower top)
        × ((next i j : ℕ) → prove_hyp_of next lower top i j ≡ prove_hyp_entries next i j))
        ⊎ ((q ≡ proved_hyp names top lower)
        × ((next i j : ℕ) → prove_hyp_of next lower top i j ≡ prove_hyp_entries next j i))
    by true e =
        inl (
          sym (same_Ok _ q h) ∙ ap (λ z. if z then proved_hyp names lower top else proved_hyp names top lower) e,
          λ next i j. ap (λ z. cond z (prove_hyp_entries next i j) (prove_hyp_entries next j i)) e,
        )
    by false e =
        inr (
          sym (same_Ok _ q h) ∙ ap (λ z. if z then proved_hyp names lower top else proved_hyp names top lower) e,
          λ next i j. ap (λ z. cond z (prove_hyp_entries next i j) (prove_hyp_entries next j i)) e,
        )

lemma-fits : (lemma other q : Sequent Name) → IsKept lemma → IsKept other → q ≡ proved_hyp names lemma other
    → AllFit q.hyps × Fits names depth_limit q.concl
lemma-fits lemma other q k l e = (
  subst (λ (z : Sequent Name). AllFit z.hyps) (sym e)
      (fit-union lemma.hyps (minus names lemma.concl other.hyps) k.hyps
      (fit-part (minus names lemma.concl other.hyps) other.hyps
      (λ x m. (IsMember-minus names tells_names x lemma.concl other.hyps m).0) l.hyps)),
  subst (λ (z : Sequent Name). Fits names depth_limit z.concl) (sym e) l.concl,
)

pub prove_hyp-kept : (a b q : Sequent Name) → IsKept a → IsKept b → prove_hyp_rule names a b ≡ Ok q → IsKept q
prove_hyp-kept a b q k l h =
    let r : AllFit q.hyps × Fits names depth_limit q.concl =
    elim (lemma-of a b q h) [ inl c ↦ lemma-fits a b q k l c.0 | inr c ↦ lemma-fits b a q l k c.0 ] in
    kept-by (a ∷ b ∷ []) q (prove_hyp_rule-sound names tells_names (a ∷ b ∷ []) [] a b q (left a b k) (right a b l) h)
    r.0 r.1

-- ---- axiom

pub axiom-is : (hyps : List (Tm Name)) (p : Tm Name) (q : Sequent Name) → axiom_rule hyps p ≡ Ok q
    → (has_type names p (bool_ty names) ≡ true) × (list_all (λ h. has_type names h (bool_ty names)) hyps ≡ true)
    × (q ≡ record { hyps = once_each names hyps; concl = p })
axiom-is hyps p q h =
    let (u, a, k) = bind-ok (unless NotBool (has_type names p (bool_ty names))) _ q h in
    let (v, b, l) = bind-ok (unless NotBool (list_all (λ h. has_type names h (bool_ty names)) hyps)) _ q k in (
      unless-ok NotBool (has_type names p (bool_ty names)) u a,
      unless-ok NotBool (list_all (λ h. has_type names h (bool_ty names)) hyps) v b,
      sym (same_Ok (record { hyps = once_each names hyps; concl = p }) q l),
    )

pub all-typed : (hyps : List (Tm Name)) → list_all (λ h. has_type names h (bool_ty names)) hyps ≡ true
    → AllByRecursion (λ h. HasType names h (bool_ty names)) hyps
all-typed [] h = tt
all-typed (t ∷ ts) h =
    let p = and_parts (has_type names t (bool_ty names)) (list_all (λ h. has_type names h (bool_ty names)) ts) h in
    ((has_type-is names tells_names t (bool_ty names)).0 p.0, all-typed ts p.1)

pub axiom-kept : (hyps : List (Tm Name)) (p : Tm Name) (q : Sequent Name) → AllFit hyps → IsKeptTerm p
    → axiom_rule hyps p ≡ Ok q
    → IsKept q
axiom-kept hyps p q g k h =
    let (a, b, e) = axiom-is hyps p q h in
    let part : IsPart (once_each names hyps) hyps = λ x m. (IsMember-once_each names tells_names x hyps).0 m in
    let typed = all-typed hyps b in
    subst IsKept (sym e) (record {
      sequent = record {
        hyps =
            all-from_members (λ z. HasType names z (bool_ty names)) (once_each names hyps)
            (λ x m. all-member (λ z. HasType names z (bool_ty names)) hyps typed x (part x m));
        concl = (has_type-is names tells_names p (bool_ty names)).0 a;
      };
      distinct = distinct-once_each names tells_names hyps;
      hyps = fit-part (once_each names hyps) hyps part g;
      concl = k.fits;
    })
