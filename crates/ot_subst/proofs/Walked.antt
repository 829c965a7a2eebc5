-- A walk put together from the walks of the parts.
use Rattle.std.specs.Prelude.{max}
use Rattle.std.proofs.Common.{◌≡◌, ℕ, suc, ◌+◌, ◌<◌, ◌≤◌, List, [], ◌∷◌, ◌++◌, length, slice_get}
use Rattle.std.proofs.Common.{Some, sym, ap, subst, ◌∙◌, ◌⊎◌, inl, inr, arith, length-append}
use Rattle.ot_logic.specs.Lists.{IsMember, AreDistinct}
use Rattle.ot_logic.specs.Trees.{Variable, App, Named, NApp, NAbs}
use Rattle.ot_logic.specs.Hol.{inst, inst_var, IsFree}
use Rattle.ot_logic.specs.NamedTerms.{image, nameless, parts, HasNoClash, IsFreeIn}
use Rattle.ot_logic.specs.Naming.{numbers}
use Rattle.ot_laws.specs.Walk.{nameless_map}
use Rattle.ot_laws.proofs.Tests.{tells_numbers}
use Rattle.ot_laws.proofs.Size.{part-self}
use Rattle.ot_laws.proofs.Apply.{abs-kept, abs-renamed}
use Rattle.ot_term.specs.Term.{TermTable}
use Rattle.ot_term.specs.TermTable.{term_at, variable_of, Grows, IsTermTable}
use Rattle.ot_term.specs.declared.term.VarKey.{VarKey}
use Rattle.ot_term.proofs.Growing.{Grows-trans, term_at-Grows, variable_of-Grows}
use Rattle.ot_subst.specs.Substitution.{Substitution, type_part, named_part, variable_part, IsSubstOf}
use Rattle.ot_subst.specs.Renamed.{renaming_of}
use Rattle.ot_subst.specs.Walk.{carried, becomes, HasForm, IsRenamed, AreReady}
use Rattle.ot_subst.specs.Clash.{MayStay, IsUnclashing}
use Rattle.ot_subst.specs.Memory.{keys, IsEntry, IsMemory, IsPartBelow, IsWalked}
use Rattle.ot_subst.proofs.Variables.{made}
use Rattle.ot_subst.proofs.Growing.{renaming_of-Grows, AreReady-Grows}
use Rattle.ot_subst.proofs.Growing.{type_part-Grows, named_part-Grows, becomes_at-Grows, HasForm-Grows}
use Rattle.ot_logic.proofs.Members.{IsMember-cases, IsMember-left, IsMember-map, IsMember-map_back, IsMember-right}

-- ---- what is remembered, as a table grows
module _ (t u : TermTable) (g : Grows t u) (s : Substitution) (inside : IsSubstOf t s) where
  -- the same binders clash
  pub no_clash-Grows : (x : ℕ) → x < length t.terms → HasNoClash numbers (type_part t s) (variable_part t s)
      (term_at t.terms x) → HasNoClash numbers (type_part u s) (variable_part u s) (term_at u.terms x)
  no_clash-Grows x within h =
      let types = type_part-Grows t u g s inside in
      let terms = named_part-Grows t u g s inside in
      let tree = term_at-Grows t u g x within in
      let p : HasNoClash numbers (type_part u s) (variable_part u s) (term_at u.terms x)
      ≡ HasNoClash numbers (type_part t s) (variable_part t s) (term_at t.terms x)
      = λ i. HasNoClash numbers (types i) (nameless_map numbers (terms i)) (tree i) in
      subst (λ (P : Type 0). P) (sym p) h

  module _ (r : List (VarKey × VarKey)) (binders : (p : VarKey × VarKey) → IsMember p r → IsRenamed t s p) where
    pub IsMemory-Grows : (es : List (ℕ × ℕ)) → IsMemory t s r es → IsMemory u s r es
    IsMemory-Grows es h = record {
      right = λ e m.
          let old = h.right e m in
          record {
            within = let w = old.within in omega (arith, w, g.terms.longer);
            form = subst (HasForm u e.1) (sym (becomes_at-Grows t u g s inside r binders e.0 old.within))
                (HasForm-Grows t u g e.1 (becomes t s r (nameless numbers (term_at t.terms e.0))) old.form);
          };
      distinct = h.distinct;
    }

    -- nothing is remembered
    pub walked-leaf : (es : List (ℕ × ℕ)) (n : ℕ) (x : Named ℕ) (k q : ℕ) → IsMemory t s r es
        → HasForm u q (becomes t s r (nameless numbers x)) → IsWalked t u s r es es n n x k q
    walked-leaf es n x k q h form =
        record { form = form; memory = IsMemory-Grows es h; known = λ e m. inl m; counted = λ _ _. omega arith }

-- what was remembered
pub walked-recalled : (t : TermTable) (s : Substitution) (r : List (VarKey × VarKey)) (es : List (ℕ × ℕ)) (n id q : ℕ)
    → IsMemory t s r es → IsMember (id, q) es → IsWalked t t s r es es n n (term_at t.terms id) (suc id) q
walked-recalled t s r es n id q h m =
    record { form = (h.right (id, q) m).form; memory = h; known = λ e i. inl i; counted = λ _ _. omega arith }

-- ---- an application: its parts were walked, and t became u and then w
pub record ArePartsWalked (t u w : TermTable) (s : Substitution) (r : List (VarKey × VarKey))
    (m0 m1 m2 : List (ℕ × ℕ)) (n0 n1 n2 f x g y : ℕ) : Type 0 where
  pub ready : AreReady t s r
  pub first_grown : Grows t u
  pub then_grown : Grows u w
  pub table : IsTermTable w
  pub argument_within : x < length t.terms
  pub first : IsWalked t u s r m0 m1 n0 n1 (term_at t.terms f) (suc f) g
  pub second : IsWalked u w s r m1 m2 n1 n2 (term_at u.terms x) (suc x) y

module _ {t u w : TermTable} {s : Substitution} {r : List (VarKey × VarKey)} {m0 m1 m2 : List (ℕ × ℕ)}
    {n0 n1 n2 f x g y : ℕ} (had : ArePartsWalked t u w s r m0 m1 m2 n0 n1 n2 f x g y) where
  pub walked_left : nameless numbers (term_at w.terms g) ≡ becomes t s r (nameless numbers (term_at t.terms f))
  walked_left = (HasForm-Grows u w had.then_grown g (becomes t s r (nameless numbers (term_at t.terms f)))
      had.first.form).form

  pub walked_right : nameless numbers (term_at w.terms y) ≡ becomes t s r (nameless numbers (term_at t.terms x))
  walked_right = had.second.form.form
      ∙ becomes_at-Grows t u had.first_grown s had.ready.subst r had.ready.binders x had.argument_within

  known_part : (e : ℕ × ℕ) → IsMember e m2
      → IsMember e m0 ⊎ IsPartBelow t (NApp (term_at t.terms f) (term_at t.terms x)) (suc (max f x)) e.0
  known_part e m = elim (had.second.known e m) [
    | inl i ↦ elim (had.first.known e i) [
      | inl j ↦ inl j
      | inr p ↦ inr (record {
        below = let l = p.below in omega (arith, l);
        part = inr (IsMember-left (term_at t.terms e.0) (parts numbers (term_at t.terms f))
            (parts numbers (term_at t.terms x)) p.part);
      })
    ]
    | inr p ↦
        let l = p.below in
        let within : e.0 < length t.terms = omega (arith, l, had.argument_within) in
        let key = term_at-Grows t u had.first_grown e.0 within in
        let tree = term_at-Grows t u had.first_grown x had.argument_within in
        inr (record {
          below = omega (arith, l);
          part = inr
              (IsMember-right (term_at t.terms e.0) (parts numbers (term_at t.terms f))
              (parts numbers (term_at t.terms x)) (subst (λ v. IsMember v (parts numbers (term_at t.terms x))) key
              (subst (λ v. IsMember (term_at u.terms e.0) (parts numbers v)) tree p.part)));
        })
  ]

  last : AreReady w s r
  last = AreReady-Grows t w (Grows-trans had.first_grown had.then_grown) s had.ready.subst r had.ready had.table

  pub walked-app : {z : TermTable} → Grows w z → (q : ℕ)
      → slice_get z.terms q ≡ Some (NApp (term_at w.terms g) (term_at w.terms y))
      → IsWalked t z s r m0 m2 n0 n2 (NApp (term_at t.terms f) (term_at t.terms x)) (suc (max f x)) q
  walked-app {z} wz q at = record {
    form = made z q (NApp (term_at w.terms g) (term_at w.terms y))
        (becomes t s r (nameless numbers (NApp (term_at t.terms f) (term_at t.terms x)))) at
        (λ i. App (walked_left i) (walked_right i));
    memory = IsMemory-Grows w z wz s last.subst r last.binders m2 had.second.memory;
    known = known_part;
    counted =
        λ nil h. omega (
          arith,
          had.first.counted nil h.0,
          had.second.counted nil
              (no_clash-Grows t u had.first_grown s had.ready.subst x had.argument_within h.1),
        );
  }

-- ---- an abstraction: its type is instantiated, and t becomes w; then its body, and it becomes x; then z
module _ (t w x z : TermTable) (tw : Grows t w) (wx : Grows w x) (xz : Grows x z) (s : Substitution)
    (r : List (VarKey × VarKey)) (ready : AreReady t s r) (last : AreReady x s r) (v new : VarKey)
    (m0 m1 : List (ℕ × ℕ)) (n0 n1 body c q : ℕ) (bin : body < length t.terms) (vin : v.ty < length t.types)
    (nin : new.ty < length w.types) where
  module _ (a : IsWalked w x s r m0 m1 n0 n1 (term_at w.terms body) (suc body) c) where
    body_kept : nameless numbers (term_at x.terms c) ≡ becomes t s r (nameless numbers (term_at t.terms body))
    body_kept = a.form.form ∙ becomes_at-Grows t w tw s ready.subst r ready.binders body bin

    known_body : (e : ℕ × ℕ) → IsMember e m1
        → IsMember e m0 ⊎ IsPartBelow t (NAbs (variable_of t.types v) (term_at t.terms body)) (suc body) e.0
    known_body e m = elim (a.known e m) [
      | inl i ↦ inl i
      | inr p ↦
          let l = p.below in
          let within : e.0 < length t.terms = omega (arith, l, bin) in
          let key = term_at-Grows t w tw e.0 within in
          let tree = term_at-Grows t w tw body bin in
          inr (record {
            below = l;
            part = inr (subst (λ y. IsMember y (parts numbers (term_at t.terms body))) key
                (subst (λ y. IsMember (term_at w.terms e.0) (parts numbers y)) tree p.part));
          })
    ]

    -- the binder stays, with the instance of its type
    pub kept_form : variable_of x.types new ≡ inst_var numbers (type_part t s) (variable_of t.types v)
        → MayStay t s r v body
        → nameless numbers (NAbs (variable_of x.types new) (term_at x.terms c))
        ≡ becomes t s r (nameless numbers (NAbs (variable_of t.types v) (term_at t.terms body)))
    kept_form kept stays = ap (λ k. nameless numbers (NAbs k (term_at x.terms c))) kept
        ∙ abs-kept numbers tells_numbers (renaming_of t.types r) (type_part t s) (variable_part t s)
        (variable_of t.types v) (term_at t.terms body) (term_at x.terms c) stays.itself stays.apart body_kept

    pub walked-kept : variable_of x.types new ≡ inst_var numbers (type_part t s) (variable_of t.types v)
        → MayStay t s r v body
        → slice_get z.terms q ≡ Some (NAbs (variable_of x.types new) (term_at x.terms c))
        → IsWalked t z s r m0 m1 n0 n1 (NAbs (variable_of t.types v) (term_at t.terms body)) (suc body) q
    walked-kept kept stays at = record {
      form = made z q (NAbs (variable_of x.types new) (term_at x.terms c))
          (becomes t s r (nameless numbers (NAbs (variable_of t.types v) (term_at t.terms body)))) at
          (kept_form kept stays);
      memory = IsMemory-Grows x z xz s last.subst r last.binders m1 a.memory;
      known = known_body;
      counted = λ nil h. a.counted nil (no_clash-Grows t w tw s ready.subst body bin h.1);
    }

  -- the binder has another name; the body was walked with a memory of its own
  module _ (start inner : List (ℕ × ℕ)) (from : ℕ) (h : IsMemory t s r m0)
      (a : IsWalked w x s ((v, new) ∷ r) start inner from n1 (term_at w.terms body) (suc body) c) where
    body_renamed : nameless numbers (term_at x.terms c) ≡ carried (type_part t s) (named_part t s)
        ((variable_of t.types v, variable_of w.types new) ∷ renaming_of t.types r)
        (nameless numbers (term_at t.terms body))
    body_renamed =
        a.form.form
        ∙ (λ i. carried (type_part-Grows t w tw s ready.subst i) (named_part-Grows t w tw s ready.subst i)
        ((variable_of-Grows t w tw v vin i, variable_of w.types new) ∷ renaming_of-Grows t w tw s ready.subst r
        ready.binders i) (nameless numbers (term_at-Grows t w tw body bin i)))

    module _ (typed : (variable_of w.types new).ty ≡ inst numbers (type_part t s) (variable_of t.types v).ty)
        (apart : (y : Variable ℕ) → IsFreeIn numbers y (term_at t.terms body) → (y ≡ variable_of t.types v → ⊥)
        → ¬ (IsFree numbers (variable_of w.types new)
        (image numbers (renaming_of t.types r) (type_part t s) (variable_part t s) y))) where
      pub renamed_form : nameless numbers (NAbs (variable_of x.types new) (term_at x.terms c))
          ≡ becomes t s r (nameless numbers (NAbs (variable_of t.types v) (term_at t.terms body)))
      renamed_form = ap (λ k. nameless numbers (NAbs k (term_at x.terms c))) (variable_of-Grows w x wx new nin)
          ∙ abs-renamed numbers tells_numbers (renaming_of t.types r) (type_part t s) (variable_part t s)
          (variable_of t.types v) (variable_of w.types new) (term_at t.terms body) (term_at x.terms c) typed apart
          body_renamed

      pub walked-renamed : (r ≡ [] → ¬ (IsUnclashing t s v body))
          → slice_get z.terms q ≡ Some (NAbs (variable_of x.types new) (term_at x.terms c))
          → IsWalked t z s r m0 m0 n0 n1 (NAbs (variable_of t.types v) (term_at t.terms body)) (suc body) q
      walked-renamed clash at = record {
        form = made z q (NAbs (variable_of x.types new) (term_at x.terms c))
            (becomes t s r (nameless numbers (NAbs (variable_of t.types v) (term_at t.terms body)))) at renamed_form;
        memory = IsMemory-Grows t z (Grows-trans tw (Grows-trans wx xz)) s ready.subst r ready.binders m0 h;
        known = λ e m. inl m;
        counted = λ nil k. absurd (clash nil k.0);
      }

-- ---- the term itself, after its parts
distinct-push : (k q : ℕ) (es : List (ℕ × ℕ)) → AreDistinct (keys es) → ¬ (IsMember k (keys es))
    → AreDistinct (keys (es ++ (k, q) ∷ []))
distinct-push k q [] d n = (λ i. i, tt)
distinct-push k q (x ∷ es) d n = (away, distinct-push k q es d.1 (λ i. n (inr i)))
  where
    away : ¬ (IsMember x.0 (keys (es ++ (k, q) ∷ [])))
    away i =
        let (e, j, p) = IsMember-map_back (λ (z : ℕ × ℕ). z.0) x.0 (es ++ (k, q) ∷ []) i in
        elim (IsMember-cases e es ((k, q) ∷ []) j) [
          | inl a ↦ d.0 (subst (λ z. IsMember z (keys es)) p (IsMember-map (λ (z : ℕ × ℕ). z.0) e es a))
          | inr a ↦ elim a [ inl b ↦ n (inl (sym p ∙ sym (ap (λ (z : ℕ × ℕ). z.0) b))) | inr b ↦ b ]
        ]

-- the walk of its parts remembers parts alone
pub still_absent : {t u : TermTable} {s : Substitution} {r : List (VarKey × VarKey)} {m0 m1 : List (ℕ × ℕ)}
    {n1 n2 id k q : ℕ} {x : Named ℕ} → k ≤ id → IsWalked t u s r m0 m1 n1 n2 x k q → ¬ (IsMember id (keys m0))
    → ¬ (IsMember id (keys m1))
still_absent {m0 = m0} {m1} {id = id} le a absent i =
    let (e, j, p) = IsMember-map_back (λ (z : ℕ × ℕ). z.0) id m1 i in
    elim (a.known e j) [
      | inl b ↦ absent (subst (λ z. IsMember z (keys m0)) p (IsMember-map (λ (z : ℕ × ℕ). z.0) e m0 b))
      | inr b ↦ let l = b.below in absurd (omega (arith, l, p, le))
    ]

same_form : (t : TermTable) (s : Substitution) (r : List (VarKey × VarKey)) (id : ℕ) {x : Named ℕ}
    → term_at t.terms id ≡ x → becomes t s r (nameless numbers x)
    ≡ becomes t s r (nameless numbers (term_at t.terms id))
same_form t s r id tree = ap (λ z. becomes t s r (nameless numbers z)) (sym tree)

entry : {t u : TermTable} {s : Substitution} {r : List (VarKey × VarKey)} {id q : ℕ} {x : Named ℕ}
    → id < length t.terms → term_at t.terms id ≡ x → Grows t u → IsSubstOf t s
    → ((p : VarKey × VarKey) → IsMember p r → IsRenamed t s p) → HasForm u q (becomes t s r (nameless numbers x))
    → IsEntry u s r (id, q)
entry {t} {u} {s} {r} {id} {q} within tree g inside binders form = record {
  within = omega (arith, within, g.terms.longer);
  form = subst (HasForm u q) (same_form t s r id tree ∙ sym (becomes_at-Grows t u g s inside r binders id within))
      form;
}

module _ {t u : TermTable} {s : Substitution} {r : List (VarKey × VarKey)} {m0 m1 m2 : List (ℕ × ℕ)}
    {n0 n1 n2 id k q : ℕ} {x : Named ℕ} (within : id < length t.terms) (tree : term_at t.terms id ≡ x)
    (above : k ≤ id) (g : Grows t u) (inside : IsSubstOf t s) (binders : (p : VarKey × VarKey) → IsMember p r
    → IsRenamed t s p) (absent : ¬ (IsMember id (keys m0))) (step : n1 ≤ n0 + 1) (added : m2 ≡ m1 ++ (id, q) ∷ [])
    (a : IsWalked t u s r m0 m1 n1 n2 x k q) where
  pub walked-whole : IsWalked t u s r m0 m2 n0 n2 (term_at t.terms id) (suc id) q
  walked-whole = record {
    form = subst (HasForm u q) (same_form t s r id tree) a.form;
    memory = subst (IsMemory u s r) (sym added) (record {
      right = λ e i. elim (IsMember-cases e m1 ((id, q) ∷ []) i) [
        | inl b ↦ a.memory.right e b
        | inr b ↦ elim b [
          | inl c ↦ subst (IsEntry u s r) c (entry within tree g inside binders a.form)
          | inr c ↦ absurd c
        ]
      ];
      distinct = distinct-push id q m1 a.memory.distinct (still_absent above a absent);
    });
    known = λ e i. elim (IsMember-cases e m1 ((id, q) ∷ []) (subst (IsMember e) added i)) [
      | inl b ↦ elim (a.known e b) [
        | inl c ↦ inl c
        | inr c ↦ let l = c.below in
            inr (record {
              below = omega (arith, l, above);
              part = subst (λ z. IsMember (term_at t.terms e.0) (parts numbers z)) (sym tree) c.part;
            })
      ]
      | inr b ↦ elim b [
        | inl c ↦
            let n : id ≡ e.0 = ap (λ (z : ℕ × ℕ). z.0) c in
            inr (record {
              below = omega arith;
              part = subst (λ z. IsMember (term_at t.terms z) (parts numbers (term_at t.terms id))) n
                  (part-self numbers (term_at t.terms id));
            })
        | inr c ↦ absurd c
      ]
    ];
    counted = λ nil h.
        let walked = a.counted nil (subst (HasNoClash numbers (type_part t s) (variable_part t s)) tree h) in
        let size = ap length added in
        omega (arith, walked, step, size, length-append m1 ((id, q) ∷ []));
  }
