-- The steps of an abstraction: its type's instance, the test whether its binder clashes, the walk of the body.
use Rattle.std.proofs.Common.{◌≡◌, ℕ, suc, ◌<◌, ◌≤◌, false, List, [], ◌∷◌, length, slice_get}
use Rattle.std.proofs.Common.{Some, refl, sym, ap, subst, ◌∙◌, inl, inr, arith}
use Rattle.std.proofs.lemmas.Option.{get_or_from_slice_get, slice_get_within}
use Rattle.ot_logic.specs.Lists.{IsMember}
use Rattle.ot_logic.specs.Names.{Name}
use Rattle.ot_logic.specs.Trees.{Ty, TyVar, Variable, Tm, Free, NAbs}
use Rattle.ot_logic.specs.Hol.{TypeMap, inst, inst_var, type_at as type_for}
use Rattle.ot_logic.specs.Hol.{IsFree, is_shallow, depth_ty, depth_limit}
use Rattle.ot_logic.specs.NamedTerms.{Renaming, image, nameless, named_type, IsFreeIn, IsApart}
use Rattle.ot_logic.specs.Naming.{numbers}
use Rattle.ot_laws.specs.Walk.{NamedMap, nameless_map}
use Rattle.ot_laws.proofs.Tests.{tells_numbers, var_cases}
use Rattle.ot_laws.proofs.Terms.{bind-agree}
use Rattle.ot_type.specs.TypeTable.{type_at}
use Rattle.ot_type.proofs.TypeTableLemmas.{type_at-Extends}
use Rattle.ot_term.specs.Term.{TermTable}
use Rattle.ot_term.specs.TermTable.{term_at, variable_of, Grows, IsGrownTo}
use Rattle.ot_term.specs.declared.term.VarKey.{VarKey}
use Rattle.ot_term.proofs.Growing.{Grows-refl, Grows-trans, term_at-Grows, variable_of-Grows}
use Rattle.ot_subst.specs.Substitution.{Substitution, type_part, named_part, variable_part}
use Rattle.ot_subst.specs.Renamed.{renaming_of}
use Rattle.ot_subst.specs.Walk.{carried, becomes, IsRenamed, AreReady, NamesBelow, IsSetUp, IsLater}
use Rattle.ot_subst.specs.Clash.{StaysApart, MayStay, IsUnclashing}
use Rattle.ot_subst.specs.Memory.{IsMemory, IsWalked, IsCounted}
use Rattle.ot_subst.proofs.Becoming.{AreTyped, deep-abs_type, deep-abs_body}
use Rattle.ot_subst.proofs.Growing.{type_part-Grows, named_part-Grows}
use Rattle.ot_subst.proofs.Growing.{renaming_of-Grows, becomes_at-Grows, AreReady-Grows, IsSetUp-Grows, below-twice}
use Rattle.ot_subst.proofs.Walked.{IsMemory-Grows, kept_form, walked-kept, renamed_form, walked-renamed}
use Rattle.ot_logic.proofs.Members.{IsMember-map_back}

-- the new binders have their types
pub typed-renaming : (t : TermTable) (s : Substitution) (r : List (VarKey × VarKey))
    → ((p : VarKey × VarKey) → IsMember p r → IsRenamed t s p) → AreTyped (type_part t s) (renaming_of t.types r)
typed-renaming t s r h p i =
    let (q, m, e) = IsMember-map_back (λ (z : VarKey × VarKey). (variable_of t.types z.0, variable_of t.types z.1)) p
    r i in
    sym (ap (λ (z : Variable ℕ × Variable ℕ). z.1.ty) e) ∙ (h q m).typed
    ∙ ap (λ (z : Variable ℕ × Variable ℕ). inst numbers (type_part t s) z.0.ty) e

-- a binder that becomes itself need not be among those that were renamed
kept-agree : (s : TypeMap numbers) (m : NamedMap numbers) (r : Renaming numbers) (v w : Variable ℕ) (b : Tm ℕ)
    → image numbers r s (nameless_map numbers m) v ≡ Free w → carried s m ((v, w) ∷ r) b ≡ carried s m r b
kept-agree s m r v w b k = bind-agree numbers (type_for numbers s)
    (image numbers ((v, w) ∷ r) s (nameless_map numbers m)) (image numbers r s (nameless_map numbers m)) b same
  where
    same : (x : Variable ℕ) → IsFree numbers x b → image numbers ((v, w) ∷ r) s (nameless_map numbers m) x
        ≡ image numbers r s (nameless_map numbers m) x
    same x i = elim (var_cases numbers tells_numbers x v) [
      | inl p ↦ rw p.0 (sym (ap (image numbers r s (nameless_map numbers m)) p.1 ∙ k))
      | inr p ↦ rw p.0
    ]

-- the type was instantiated, and t became u; ty is the number of the instance
pub record IsInstantiated (k : ℕ) (t u : TermTable) (s : Substitution) (r : List (VarKey × VarKey)) (v : VarKey)
    (ty body : ℕ) : Type 0 where
  pub set_up : IsSetUp k t s r
  pub type_within : v.ty < length t.types
  pub body_within : body < length t.terms
  pub grown : IsGrownTo 0 t u
  pub instance : slice_get u.types ty ≡ Some (inst numbers (type_part t s) (type_at t.types v.ty))

module _ {k : ℕ} {t u : TermTable} {s : Substitution} {r : List (VarKey × VarKey)} {v : VarKey} {ty body : ℕ}
    (had : IsInstantiated k t u s r v ty body) where
  pub ready-then : AreReady u s r
  ready-then = AreReady-Grows t u had.grown.grows s had.set_up.ready.subst r had.set_up.ready had.grown.table

  pub instance-in : ty < length u.types
  instance-in = slice_get_within u.types ty _ had.instance

  instance-type : type_at u.types ty ≡ inst numbers (type_part t s) (type_at t.types v.ty)
  instance-type = get_or_from_slice_get u.types ty _ (TyVar 0) had.instance

  same_types : type_part u s ≡ type_part t s
  same_types = type_part-Grows t u had.grown.grows s had.set_up.ready.subst

  same_binder : variable_of u.types v ≡ variable_of t.types v
  same_binder = variable_of-Grows t u had.grown.grows v had.type_within

  -- a variable with the instance as its type, in a later table
  module _ (name : ℕ) {x : TermTable} (ux : Grows u x) where
    pub instance-later : variable_of x.types (record { name = name; ty = ty })
        ≡ record { name = name; ty = inst numbers (type_part t s) (type_at t.types v.ty) }
    instance-later =
        λ i. record { name = name; ty = (type_at-Extends u.types x.types ux.types ty instance-in ∙ instance-type) i }

  pub instance-then : variable_of u.types (record { name = v.name; ty = ty }) ≡ inst_var numbers (type_part u s)
      (variable_of u.types v)
  instance-then = (λ i. record { name = v.name; ty = instance-type i })
      ∙ (λ i. inst_var numbers (sym same_types i) (sym same_binder i))

  -- what was found in u holds in t
  same_renaming : renaming_of u.types r ≡ renaming_of t.types r
  same_renaming = renaming_of-Grows t u had.grown.grows s had.set_up.ready.subst r had.set_up.ready.binders

  same_terms : named_part u s ≡ named_part t s
  same_terms = named_part-Grows t u had.grown.grows s had.set_up.ready.subst

  same_body : term_at u.terms body ≡ term_at t.terms body
  same_body = term_at-Grows t u had.grown.grows body had.body_within

  pub stays-before : MayStay u s r v body → MayStay t s r v body
  stays-before h = record {
    itself =
        let p : (image numbers (renaming_of u.types r) (type_part u s) (variable_part u s) (variable_of u.types v)
        ≡ Free (inst_var numbers (type_part u s) (variable_of u.types v)))
        ≡ (image numbers (renaming_of t.types r) (type_part t s) (variable_part t s) (variable_of t.types v)
        ≡ Free (inst_var numbers (type_part t s) (variable_of t.types v)))
        = λ i. image numbers (same_renaming i) (same_types i) (nameless_map numbers (same_terms i)) (same_binder i)
        ≡ Free (inst_var numbers (same_types i) (same_binder i)) in
        subst (λ (P : Type 0). P) p h.itself;
    apart =
        let p : ((x : Variable ℕ) → IsFreeIn numbers x (term_at u.terms body) → (x ≡ variable_of u.types v → ⊥)
        → ¬ (IsFree numbers (inst_var numbers (type_part u s) (variable_of u.types v))
        (image numbers (renaming_of u.types r) (type_part u s) (variable_part u s) x)))
        ≡ ((x : Variable ℕ) → IsFreeIn numbers x (term_at t.terms body) → (x ≡ variable_of t.types v → ⊥)
        → ¬ (IsFree numbers (inst_var numbers (type_part t s) (variable_of t.types v))
        (image numbers (renaming_of t.types r) (type_part t s) (variable_part t s) x)))
        = λ i. (x : Variable ℕ) → IsFreeIn numbers x (same_body i) → (x ≡ same_binder i → ⊥)
        → ¬ (IsFree numbers (inst_var numbers (same_types i) (same_binder i))
        (image numbers (same_renaming i) (same_types i) (nameless_map numbers (same_terms i)) x)) in
        subst (λ (P : Type 0). P) p h.apart;
  }

  clash-before : (r ≡ [] → ¬ (IsUnclashing u s v body)) → r ≡ [] → ¬ (IsUnclashing t s v body)
  clash-before h nil apart =
      let p : IsUnclashing t s v body ≡ IsUnclashing u s v body = λ i. IsApart numbers (sym same_types i)
      (nameless_map numbers (sym same_terms i)) (sym same_binder i) (sym same_body i) in
      h nil (subst (λ (P : Type 0). P) p apart)

  -- the binder, with this name, captures no other variable of the body
  abbrev pub CapturesNone : ℕ → Type 0
  CapturesNone name = (y : Variable ℕ) → IsFreeIn numbers y (term_at t.terms body) → (y ≡ variable_of t.types v → ⊥)
      → ¬ (IsFree numbers (record { name = name; ty = inst numbers (type_part t s) (type_at t.types v.ty) })
      (image numbers (renaming_of t.types r) (type_part t s) (variable_part t s) y))

  pub apart-before : {w : TermTable} → IsGrownTo 0 u w → (name : ℕ)
      → StaysApart w s r v (record { name = name; ty = ty }) body → CapturesNone name
  apart-before {w} uw name h =
      let g = Grows-trans had.grown.grows uw.grows in
      let types = type_part-Grows t w g s had.set_up.ready.subst in
      let terms = named_part-Grows t w g s had.set_up.ready.subst in
      let renaming = renaming_of-Grows t w g s had.set_up.ready.subst r had.set_up.ready.binders in
      let tree = term_at-Grows t w g body had.body_within in
      let binder = variable_of-Grows t w g v had.type_within in
      let new = instance-later name uw.grows in
      let p : StaysApart w s r v (record { name = name; ty = ty }) body ≡ CapturesNone name
      = λ i. (y : Variable ℕ) → IsFreeIn numbers y (tree i) → (y ≡ binder i → ⊥)
      → ¬ (IsFree numbers (new i) (image numbers (renaming i) (types i) (nameless_map numbers (terms i)) y)) in
      subst (λ (P : Type 0). P) p h

  -- where the binder clashes, no number of steps is promised
  pub none-counted : {m0 : List (ℕ × ℕ)} {n0 n1 k : ℕ} → (r ≡ [] → ¬ (IsUnclashing u s v body))
      → IsCounted t s r m0 n0 n1 (NAbs (variable_of t.types v) (term_at t.terms body)) k
  none-counted clash nil h = absurd (clash-before clash nil h.0)

  -- the test was made, and u became w
  module _ {w : TermTable} (uw : IsGrownTo 0 u w) where
    tw : Grows t w
    tw = Grows-trans had.grown.grows uw.grows

    low : NamesBelow k w
    low = below-twice k t u w had.set_up.names had.grown.names uw.names

    pub set_up-then : IsSetUp k w s r
    set_up-then = IsSetUp-Grows t w tw s had.set_up.ready.subst k k r had.set_up (omega arith) uw.table low

    pub memory-then : {es : List (ℕ × ℕ)} → IsMemory t s r es → IsMemory w s r es
    memory-then {es} h = IsMemory-Grows t w tw s had.set_up.ready.subst r had.set_up.ready.binders es h

    pub body-then : body < length w.terms
    body-then = omega (arith, had.body_within, tw.terms.longer)

    pub type-then : ty < length w.types
    type-then = omega (arith, instance-in, uw.grows.types.longer)

    -- the numbers are of a later table too
    module _ {ns ms : List Name} {x : TermTable} (later : IsLater ns ms w x) where
      ready-later : AreReady x s r
      ready-later = AreReady-Grows t x (Grows-trans tw later.grows) s had.set_up.ready.subst r had.set_up.ready
          later.table

      -- the binder stays; the body was walked, and w became x
      module _ {m0 m1 : List (ℕ × ℕ)} {n0 n1 c : ℕ}
          (a : IsWalked w x s r m0 m1 n0 n1 (term_at w.terms body) (suc body) c) (stays : MayStay u s r v body) where
        kept-later : variable_of x.types (record { name = v.name; ty = ty }) ≡ inst_var numbers (type_part t s)
            (variable_of t.types v)
        kept-later = instance-later v.name (Grows-trans uw.grows later.grows)

        pub form-kept : nameless numbers
            (NAbs (variable_of x.types (record { name = v.name; ty = ty })) (term_at x.terms c))
            ≡ becomes t s r (nameless numbers (NAbs (variable_of t.types v) (term_at t.terms body)))
        form-kept =
            kept_form t w x x tw later.grows (Grows-refl x) s r had.set_up.ready ready-later v
            (record { name = v.name; ty = ty }) m0 m1 n0 n1 body c 0 had.body_within had.type_within type-then a
            kept-later (stays-before stays)

        pub whole-kept : {z : TermTable} → Grows x z → (q : ℕ)
            → slice_get z.terms q
            ≡ Some (NAbs (variable_of x.types (record { name = v.name; ty = ty })) (term_at x.terms c))
            → IsWalked t z s r m0 m1 n0 n1 (NAbs (variable_of t.types v) (term_at t.terms body)) (suc body) q
        whole-kept {z} xz q at =
            walked-kept t w x z tw later.grows xz s r had.set_up.ready ready-later v
            (record { name = v.name; ty = ty }) m0 m1 n0 n1 body c q had.body_within had.type_within type-then a
            kept-later (stays-before stays) at

    -- a body that is too deep, where the binder stays
    pub deep-kept : MayStay u s r v body
        → is_shallow numbers (becomes w s r (nameless numbers (term_at w.terms body))) ≡ false → is_shallow numbers
        (becomes t s r (nameless numbers (NAbs (variable_of t.types v) (term_at t.terms body)))) ≡ false
    deep-kept stays deep =
        let h = stays-before stays in
        deep-abs_body (type_part t s) (named_part t s) (renaming_of t.types r) (variable_of t.types v)
        (inst_var numbers (type_part t s) (variable_of t.types v)) (term_at t.terms body) refl h.apart
        (ap (is_shallow numbers)
        (kept-agree (type_part t s) (named_part t s) (renaming_of t.types r) (variable_of t.types v)
        (inst_var numbers (type_part t s) (variable_of t.types v)) (nameless numbers (term_at t.terms body))
        h.itself ∙ sym (becomes_at-Grows t w tw s had.set_up.ready.subst r had.set_up.ready.binders body
        had.body_within)) ∙ deep)

    -- the binder gets another name, under which it captures nothing
    module _ (name : ℕ) (apart : CapturesNone name) where
      pub typed-new : (variable_of w.types (record { name = name; ty = ty })).ty ≡ inst numbers (type_part t s)
          (variable_of t.types v).ty
      typed-new = ap (λ (z : Variable ℕ). z.ty) (instance-later name uw.grows)

      pub apart_new : (y : Variable ℕ) → IsFreeIn numbers y (term_at t.terms body) → (y ≡ variable_of t.types v → ⊥)
          → ¬ (IsFree numbers (variable_of w.types (record { name = name; ty = ty }))
          (image numbers (renaming_of t.types r) (type_part t s) (variable_part t s) y))
      apart_new y i d f =
          apart y i d (subst (λ z. IsFree numbers z (image numbers (renaming_of t.types r) (type_part t s)
          (variable_part t s) y)) (instance-later name uw.grows) f)

      new-binder : IsRenamed w s (v, record { name = name; ty = ty })
      new-binder = record {
        from = omega (arith, had.type_within, tw.types.longer);
        to = omega (arith, instance-in, uw.grows.types.longer);
        typed = typed-new
            ∙ (λ i. inst numbers (sym (type_part-Grows t w tw s had.set_up.ready.subst) i)
            (sym (type_at-Extends t.types w.types tw.types v.ty had.type_within) i));
      }

      pub set_up-new : (j : ℕ) → k ≤ j → name < j → IsSetUp j w s ((v, record { name = name; ty = ty }) ∷ r)
      set_up-new j le within =
          let before = set_up-then in
          record {
            ready = record {
              table = uw.table;
              subst = before.ready.subst;
              binders =
                  λ p i. elim i [ inl e ↦ subst (IsRenamed w s) e new-binder | inr m ↦ before.ready.binders p m ];
            };
            names = let l = low in record { types = omega (arith, l.types); terms = omega (arith, l.terms) };
            bound = let b = had.set_up.bound in omega arith;
          }

      pub deep-new : is_shallow numbers
          (becomes w s ((v, record { name = name; ty = ty }) ∷ r) (nameless numbers (term_at w.terms body))) ≡ false
          → is_shallow numbers
          (becomes t s r (nameless numbers (NAbs (variable_of t.types v) (term_at t.terms body)))) ≡ false
      deep-new deep =
          let same : becomes w s ((v, record { name = name; ty = ty }) ∷ r) (nameless numbers (term_at w.terms body))
          ≡ carried (type_part t s) (named_part t s)
          ((variable_of t.types v, variable_of w.types (record { name = name; ty = ty })) ∷ renaming_of t.types r)
          (nameless numbers (term_at t.terms body))
          = λ i. carried (type_part-Grows t w tw s had.set_up.ready.subst i)
          (named_part-Grows t w tw s had.set_up.ready.subst i)
          ((variable_of-Grows t w tw v had.type_within i, variable_of w.types (record { name = name; ty = ty }))
          ∷ renaming_of-Grows t w tw s had.set_up.ready.subst r had.set_up.ready.binders i)
          (nameless numbers (term_at-Grows t w tw body had.body_within i)) in
          deep-abs_body (type_part t s) (named_part t s) (renaming_of t.types r) (variable_of t.types v)
          (variable_of w.types (record { name = name; ty = ty })) (term_at t.terms body) typed-new apart_new
          (ap (is_shallow numbers) (sym same) ∙ deep)

      -- the body was walked under the new binder, with a memory of its own, and w became x
      module _ {ns ms : List Name} {x : TermTable} {m0 start inner : List (ℕ × ℕ)} {from n1 c : ℕ}
          (later : IsLater ns ms w x) (h : IsMemory t s r m0)
          (a : IsWalked w x s ((v, record { name = name; ty = ty }) ∷ r) start inner from n1 (term_at w.terms body)
          (suc body) c) where
        pub form-renamed : nameless numbers
            (NAbs (variable_of x.types (record { name = name; ty = ty })) (term_at x.terms c))
            ≡ becomes t s r (nameless numbers (NAbs (variable_of t.types v) (term_at t.terms body)))
        form-renamed =
            renamed_form t w x x tw later.grows (Grows-refl x) s r had.set_up.ready (ready-later later) v
            (record { name = name; ty = ty }) m0 [] from n1 body c 0 had.body_within had.type_within type-then start
            inner from h a typed-new apart_new

        pub whole-renamed : (r ≡ [] → ¬ (IsUnclashing u s v body)) → {z : TermTable} → Grows x z → (q : ℕ)
            → slice_get z.terms q
            ≡ Some (NAbs (variable_of x.types (record { name = name; ty = ty })) (term_at x.terms c))
            → IsWalked t z s r m0 m0 from n1 (NAbs (variable_of t.types v) (term_at t.terms body)) (suc body) q
        whole-renamed clash {z} xz q at =
            walked-renamed t w x z tw later.grows xz s r had.set_up.ready (ready-later later) v
            (record { name = name; ty = ty }) m0 [] from n1 body c q had.body_within had.type_within type-then start
            inner from h a typed-new apart_new (clash-before clash) at

-- nothing is remembered yet
pub IsMemory-nil : {t : TermTable} {s : Substitution} {r : List (VarKey × VarKey)} {es : List (ℕ × ℕ)} → es ≡ []
    → IsMemory t s r es
IsMemory-nil {t} {s} {r} e = subst (IsMemory t s r) (sym e) (record { right = λ x i. absurd i; distinct = tt })

-- a type that could not be instantiated
pub deep-type : {k : ℕ} {t : TermTable} {s : Substitution} {r : List (VarKey × VarKey)} (v : VarKey) (body : ℕ)
    → IsSetUp k t s r → (b : Ty ℕ) → named_type numbers (NAbs (variable_of t.types v) (term_at t.terms body)) ≡ Some b
    → depth_limit < depth_ty numbers (inst numbers (type_part t s) (type_at t.types v.ty)) → is_shallow numbers
    (becomes t s r (nameless numbers (NAbs (variable_of t.types v) (term_at t.terms body)))) ≡ false
deep-type {t = t} {s} {r} v body set b typed deep =
    deep-abs_type (type_part t s) (named_part t s) set.ready.subst.typed (renaming_of t.types r)
    (typed-renaming t s r set.ready.binders) (variable_of t.types v) (term_at t.terms body) b typed deep
