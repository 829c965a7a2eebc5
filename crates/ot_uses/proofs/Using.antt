-- What a theorem of a lawful run rests on suffices for it.
use Rattle.std.specs.Prelude.{◌&&◌, not}
use Rattle.std.specs.Bool.{Decides}
use Rattle.std.proofs.Common.{◌≡◌, ℕ, zero, suc, true, false, List, [], ◌∷◌, Some, Ok, refl}
use Rattle.std.proofs.Common.{sym, ap, subst, ◌∙◌, map, take, slice_get, inl, inr, ◌⊎◌}
use Rattle.ot_logic.specs.Names.{Name, same_name-Decides}
use Rattle.ot_logic.specs.Naming.{names}
use Rattle.ot_logic.specs.Lists.{IsMember, IsPart}
use Rattle.ot_logic.specs.Trees.{Sequent}
use Rattle.ot_logic.specs.Hol.{IsSequent}
use Rattle.ot_logic.specs.declared.command.Cmd.TheVariants as words
use Rattle.ot_laws.proofs.Tests.{cases_of}
use Rattle.ot_trace.specs.Origins.{Origin, Origins, Make}
use Rattle.ot_trace.specs.Reach.{IsReached, Root}
use Rattle.ot_written.specs.Needed.{is_among, needed_definitions, needed_origins}
use Rattle.ot_written.specs.Laws.{Tells}
use Rattle.ot_written.proofs.Filters.{filter-to, filter-from}
use Rattle.ot_written.proofs.Kept.{kept, kept-is}
use Rattle.ot_written.proofs.NeededDefinitions.{needed-reached, reached-needed, reached-origin}
use Rattle.ot_written.proofs.NeededLaw.{among-to, among-from}
use Rattle.ot_written.proofs.Same.{same-origin-law}
use Rattle.ot_machine.specs.Objects.{theorem}
use Rattle.ot_machine.specs.States.{Given, Made}
use Rattle.ot_machine.specs.Rows.{definitions_of}
use Rattle.ot_machine.specs.Values.{value, definition_of}
use Rattle.ot_machine.specs.Lawful.{basis_of, run_basis}
use Rattle.ot_uses.specs.Used.{same, is_assumed, used_assumptions, used_definitions}
use Rattle.ot_uses.specs.Suffices.{UsesSuffice}
use Rattle.ot_uses.proofs.Parted.{IsInOrder}
use Rattle.ot_uses.proofs.Reached.{reached-stands}
use Rattle.ot_uses.proofs.Resting.{StandsOn, StandsMade, Suffice}
use Rattle.ot_uses.proofs.Sound.{is-define, own, given-sequent, sequents, taken, accepted}
use Rattle.ot_uses.proofs.Suffices.{parts_suffice}
use Rattle.ot_logic.proofs.Members.{IsMember-at, IsMember-map, IsMember-map_back, IsPart-take, IsMember-place}
use Rattle.ot_logic.proofs.Members.{All-from_members}

pub tells : Tells same
tells = same-origin-law names.same same_name-Decides

-- ---- the definitions that are kept

module _ (found : List (Origin Name)) where
  abbrev origin : Made → Origin Name
  origin m = m.origin

  -- those that are kept behind some
  abbrev rest : List (Origin Name) → List Made → List Made
  rest before ms = kept same origin found before ms

  any-member : (o : Origin Name) (ds : List (Origin Name)) → Decides (is_among same o ds) (IsMember o ds)
  any-member o ds = (among-to same tells o ds, among-from same tells o ds)

  -- what is kept of a front, by its origin
  abbrev HasKept : List (Origin Name) → List Made → List Made → Type 0
  HasKept before front keeps =
      (x : Made) → IsMember x front → IsMember x.origin found → ¬ (IsMember x.origin before)
      → (y : Made) × IsMember y keeps × (y.origin ≡ x.origin)

  abbrev Placed : List (Origin Name) → List Made → List Made → ℕ → Made → Type 0
  Placed before ms es i m =
      (k : ℕ) × (slice_get ms k ≡ Some m) × IsPart (take i es) (take k ms) × HasKept before (take k ms) (take i es)

  -- the two cases of a definition
  test-cases : (before : List (Origin Name)) (o : Origin Name) →
      (((is_among same o found && not (is_among same o before)) ≡ true) × IsMember o found)
      ⊎ (((is_among same o found && not (is_among same o before)) ≡ false)
      × (IsMember o found → ¬ (IsMember o before) → ⊥))
  test-cases before o = elim (cases_of (is_among same o found) (any-member o found)) [
    | inl p ↦ elim (cases_of (is_among same o before) (any-member o before)) [
      | inl q ↦ inr (rw (p.0, q.0) refl, (λ i n. n q.1))
      | inr q ↦ inl (rw (p.0, q.0) refl, p.1)
    ]
    | inr p ↦ inr (rw p.0 refl, (λ i n. p.1 i))
  ]

  more : (before : List (Origin Name)) (n : Made) (front keeps : List Made)
      → ((y : Made) → IsMember n.origin found → ¬ (IsMember n.origin before)
      → (z : Made) × IsMember z keeps × (z.origin ≡ n.origin))
      → HasKept (n.origin ∷ before) front keeps → HasKept before (n ∷ front) keeps
  more before n front keeps own rest x (inl e) i o =
      let a : IsMember n.origin found = subst (λ z. IsMember z.origin found) (sym e) i in
      let b : ¬ (IsMember n.origin before) = λ h. o (subst (λ z. IsMember z.origin before) e h) in
      let (z, m, s) = own n a b in (z, m, s ∙ ap (λ w. w.origin) e)
  more before n front keeps own rest x (inr h) i o =
      elim (cases_of (same n.origin x.origin) (tells n.origin x.origin)) [
        | inl q ↦
            let (z, m, s) =
            own n (subst (λ w. IsMember w found) (sym q.1) i) (λ g. o (subst (λ w. IsMember w before) q.1 g)) in
            (z, m, s ∙ q.1)
        | inr q ↦ rest x h i (λ g. elim g [ inl e ↦ q.1 e | inr j ↦ o j ])
      ]

  wider : (before : List (Origin Name)) (front keeps : List Made) (n : Made) → HasKept before front keeps
      → HasKept before front (n ∷ keeps)
  wider before front keeps n h x i a b = let (z, m, s) = h x i a b in (z, inr m, s)

  kept-place : (before : List (Origin Name)) (ms : List Made) (i : ℕ) (m : Made) → slice_get (rest before ms) i
      ≡ Some m
      → Placed before ms (rest before ms) i m
  kept-place before [] i m e = absurd cc
  kept-place before (n ∷ ns) i m e = elim (test-cases before n.origin) [
    | inl p ↦
        let e' : slice_get (n ∷ rest (n.origin ∷ before) ns) i ≡ Some m = rw p.0 at e in
        rw p.0 (taken i e' (λ j f. kept-place (n.origin ∷ before) ns j m f))
    | inr p ↦
        let e' : slice_get (rest (n.origin ∷ before) ns) i ≡ Some m = rw p.0 at e in
        let (k, at, part, has) = kept-place (n.origin ∷ before) ns i m e' in
        rw p.0 (
          suc k,
          at,
          (λ x h. inr (part x h)),
          more before n (take k ns) (take i (rest (n.origin ∷ before) ns)) (λ y a b. absurd (p.1 a b)) has,
        )
  ]
    where
      taken : (i : ℕ) → slice_get (n ∷ rest (n.origin ∷ before) ns) i ≡ Some m
          → ((j : ℕ) → slice_get (rest (n.origin ∷ before) ns) j ≡ Some m
          → Placed (n.origin ∷ before) ns (rest (n.origin ∷ before) ns) j m)
          → Placed before (n ∷ ns) (n ∷ rest (n.origin ∷ before) ns) i m
      taken zero f ih = (0, f, (λ x h. absurd h), (λ x h. absurd h))
      taken (suc j) f ih =
          let (k, at, part, has) = ih j f in (
            suc k,
            at,
            (λ x h. elim h [ inl q ↦ inl q | inr g ↦ inr (part x g) ]),
            more before n (take k ns) (n ∷ take j (rest (n.origin ∷ before) ns)) (λ y a b. (n, inl refl, refl))
                (wider (n.origin ∷ before) (take k ns) (take j (rest (n.origin ∷ before) ns)) n has),
          )

  kept-all : (before : List (Origin Name)) (ms : List Made) → HasKept before ms (rest before ms)
  kept-all before [] = λ x h. absurd h
  kept-all before (n ∷ ns) = elim (test-cases before n.origin) [
    | inl p ↦
        rw p.0 (more before n ns (n ∷ rest (n.origin ∷ before) ns) (λ y a b. (n, inl refl, refl))
        (wider (n.origin ∷ before) ns (rest (n.origin ∷ before) ns) n (kept-all (n.origin ∷ before) ns)))
    | inr p ↦
        rw p.0 (more before n ns (rest (n.origin ∷ before) ns) (λ y a b. absurd (p.1 a b))
        (kept-all (n.origin ∷ before) ns))
  ]

  kept-found : (before : List (Origin Name)) (ms : List Made) (y : Made) → IsMember y (rest before ms)
      → IsMember y.origin found
  kept-found before [] y h = absurd h
  kept-found before (n ∷ ns) y h = elim (test-cases before n.origin) [
    | inl p ↦
        let g : IsMember y (n ∷ rest (n.origin ∷ before) ns) = rw p.0 at h in
        elim g [ inl e ↦ subst (λ z. IsMember z.origin found) e p.1 | inr j ↦ kept-found (n.origin ∷ before) ns y j ]
    | inr p ↦
        let g : IsMember y (rest (n.origin ∷ before) ns) = rw p.0 at h in kept-found (n.origin ∷ before) ns y g
  ]

pub uses_suffice : (IsNamed : Name → Type 0) → UsesSuffice IsNamed
uses_suffice IsNamed r lawful e law = record {
  assumptions = All-from_members (IsSequent names) bl used-sequent;
  accepted = s.accepted;
  theorem = s.theorems o e.sequent stands law.proved.value_is;
}
  where
    o : Origin Name
    o = e.roots.theorem

    ms : List Made
    ms = r.definitions

    ds : List (Origin Name)
    ds = map (λ m. m.origin) r.definitions

    found : List (Origin Name)
    found = needed_definitions same (o ∷ []) ds

    al : List (Sequent Name)
    al = map (λ g. g.sequent) r.assumptions

    bl : List (Sequent Name)
    bl = map (λ g. g.sequent) (used_assumptions r o)

    used-sequent : (q : Sequent Name) → IsMember q bl → IsSequent names q
    used-sequent q m =
        let (g, here, is) = IsMember-map_back (λ g. g.sequent) q (used_assumptions r o) m in
        subst (IsSequent names) is (given-sequent IsNamed r lawful g (filter-to (is_assumed r o) g r.assumptions here).0)

    held : (g : Given) → IsMember g r.assumptions → IsReached (o ∷ []) ds g.origin → IsMember g.sequent bl
    held g m reach =
        IsMember-map (λ g. g.sequent) g (used_assumptions r o)
        (filter-from (is_assumed r o) g r.assumptions m
        (among-from same tells g.origin (needed_origins same (o ∷ []) ds)
        (reached-origin same tells (o ∷ []) ds g.origin reach)))

    axioms : (os : Origins Name) (p : Sequent Name)
        → IsMember (Make words.Axiom os) (map (λ g. g.origin) r.assumptions)
        → IsReached (o ∷ []) ds (Make words.Axiom os) → value (Make words.Axiom os) ≡ Ok (theorem p) → IsMember p bl
    axioms os p m reach e =
        let (g, here, is, same_sequent) = taken IsNamed r lawful os p m e in
        subst (λ z. IsMember z bl) same_sequent (held g here (subst (IsReached (o ∷ []) ds) (sym is) reach))

    -- the definitions that are kept
    es : List Made
    es = kept same (λ m. m.origin) found [] ms

    es-are : es ≡ used_definitions r o
    es-are = kept-is same tells (λ m. m.origin) found ms

    es-part : IsPart es ms
    es-part y n =
        let (i, at) = IsMember-place y es n in let (k, old, part, has) = kept-place found [] ms i y at in
        IsMember-at ms k y old

    -- of a front of the definitions, each that is reached is kept
    front : (xs keeps : List Made) → IsPart xs ms → IsPart keeps ms → HasKept found [] xs keeps → (d : Origin Name)
        → IsMember d (map (λ m. m.origin) xs) → IsReached (o ∷ []) ds d
        → (m : Made) × IsMember m keeps × (definition_of [] d ≡ Ok m.definition)
    front xs keeps part inner has d m reach =
        let (x, here, is) = IsMember-map_back (λ m. m.origin) d xs m in
        let inside : IsMember d ds =
        subst (λ z. IsMember z ds) is (IsMember-map (λ m. m.origin) x ms (part x here)) in
        let (y, kept_y, same_y) = has x here
        (subst (λ z. IsMember z found) (sym is) (reached-needed same tells (o ∷ []) ds d inside reach)) (λ h. h) in
        (y, kept_y, ap (definition_of []) (sym (same_y ∙ is)) ∙ own IsNamed r lawful y (inner y kept_y))

    order : IsInOrder es ms
    order i m at = let (k, old, part, has) = kept-place found [] ms i m at in (k, old, part)

    made : (i : ℕ) (m : Made) → slice_get es i ≡ Some m → StandsMade bl (take i es) m
    made i m at =
        let (k, old, part, has) = kept-place found [] ms i m at in
        let law = lawful.definitions k m old in
        let (w, os, is) = is-define (definitions_of (take k ms)) m.origin m.definition law.accepted in
        let reach : IsReached (o ∷ []) ds m.origin =
        (needed-reached same tells (o ∷ []) ds m.origin (kept-found found [] ms m (IsMember-at es i m at))).1 in
        let st : StandsOn bl (take i es) m.origin =
        reached-stands bl (o ∷ []) ds (basis_of IsNamed r.assumptions (take k ms)) (take i es)
        (front (take k ms) (take i es) (IsPart-take k ms) (λ x n. es-part x (IsPart-take i es x n)) has)
        axioms m.origin law.rests reach in
        record {
          word = w;
          operands = os;
          before = definitions_of (take k ms);
          origin = is;
          accepted = subst (λ z. definition_of (definitions_of (take k ms)) z ≡ Ok m.definition) is law.accepted;
          stand = subst (λ z. StandsOn bl (take i es) z) is st;
        }

    stands-kept : StandsOn bl es o
    stands-kept =
        reached-stands bl (o ∷ []) ds (run_basis IsNamed r) es
        (front ms es (λ x n. n) es-part (kept-all found [] ms)) axioms o law.proved.rests (Root o (inl refl))

    s : Suffice al bl ms (used_definitions r o)
    s = subst (Suffice al bl ms) es-are (parts_suffice al bl ms es (sequents IsNamed r lawful) (accepted IsNamed r lawful) order made)

    stands : StandsOn bl (used_definitions r o) o
    stands = subst (λ z. StandsOn bl z o) es-are stands-kept
