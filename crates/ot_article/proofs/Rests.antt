-- What roots of a lawful run lead to rests on the run.
use Rattle.std.proofs.Common.{◌≡◌, ℕ, inl, inr, true, List, map, take, slice_get}
use Rattle.std.proofs.Common.{Some, Result, Ok, refl, sym, ap, subst, ◌∙◌}
use Rattle.ot_logic.specs.Names.{Name}
use Rattle.ot_logic.specs.Naming.{names}
use Rattle.ot_logic.specs.Hol.{same_sequent}
use Rattle.ot_logic.specs.Trees.{Sequent, Definition}
use Rattle.ot_logic.specs.Faults.{Fault}
use Rattle.ot_logic.specs.Lists.{IsMember, IsPart}
use Rattle.ot_logic.specs.declared.command.Cmd.{Cmd}
use Rattle.ot_logic.specs.declared.command.Cmd.TheVariants as words
use Rattle.ot_trace.specs.Origins.{Origin, Origins, Number, Named, Make, Define}
use Rattle.ot_trace.specs.Origins.{Outcome, NoOrigins, MoreOrigins, parts, parts_all}
use Rattle.ot_machine.specs.Objects.{Object, theorem}
use Rattle.ot_machine.specs.States.{Given, Made, RunState}
use Rattle.ot_machine.specs.Values.{value, definition_of}
use Rattle.ot_trace.specs.Reach.{IsReached, Root, Operand, OfTheorem, OfSymbol}
use Rattle.ot_machine.specs.Lawful.{Basis, IsTaken, RestsOn, AreOn, Fits, run_basis}
use Rattle.ot_machine.specs.Lawful.{IsAxiom, IsLawfulDefinition, IsLawfulRun}
use Rattle.ot_written.proofs.Settled.{IsDefine}
use Rattle.ot_article.specs.Article.{origins_made}
use Rattle.ot_written.proofs.Parts.{part-self, part-operand}
use Rattle.ot_logic.proofs.Members.{All-at_member, IsMember-cases, IsMember-map}
use Rattle.ot_logic.proofs.Members.{IsMember-map_back, IsMember-place, IsPart-take}

module _ (b : Basis) where
  mutual
    pub rests-part : (o p : Origin Name) → RestsOn b o → IsMember p (parts o) → RestsOn b p
    rests-part (Number k) p h (inl e) = subst (RestsOn b) e h
    rests-part (Number k) p h (inr m) = elim m [ ]
    rests-part (Named k) p h (inl e) = subst (RestsOn b) e h
    rests-part (Named k) p h (inr m) = elim m [ ]
    rests-part (Make w os) p h (inl e) = subst (RestsOn b) e h
    rests-part (Make w os) p h (inr m) = rests-parts os p h.0 m
    rests-part (Define w os) p h (inl e) = subst (RestsOn b) e h
    rests-part (Define w os) p h (inr m) = rests-parts os p h m
    rests-part (Outcome j d) p h (inl e) = subst (RestsOn b) e h
    rests-part (Outcome j d) p h (inr m) = rests-part d p h.1 m

    rests-parts : (os : Origins Name) (p : Origin Name) → AreOn b os → IsMember p (parts_all os) → RestsOn b p
    rests-parts NoOrigins p h m = elim m [ ]
    rests-parts (MoreOrigins o os) p h m = elim (IsMember-cases p (parts o) (parts_all os) m)
        [ inl a ↦ rests-part o p h.0 a | inr c ↦ rests-parts os p h.1 c ]

taken-more : (IsNamed : Name → Type 0) (xs ys ds es : List (Origin Name)) (w : Cmd) (os : Origins Name) → IsPart xs ys
    → IsTaken (record { axioms = xs; definitions = ds; IsNamed = IsNamed }) w os
    → IsTaken (record { axioms = ys; definitions = es; IsNamed = IsNamed }) w os
taken-more IsNamed xs ys ds es words.Axiom os h t = h (Make words.Axiom os) t
taken-more IsNamed xs ys ds es _ os h t = tt

module _ (IsNamed : Name → Type 0) (xs ds es : List (Origin Name)) (more : IsPart ds es) where
  abbrev less : Basis
  less = record { axioms = xs; definitions = ds; IsNamed = IsNamed }

  abbrev larger : Basis
  larger = record { axioms = xs; definitions = es; IsNamed = IsNamed }

  mutual
    pub rests-more : (o : Origin Name) → RestsOn less o → RestsOn larger o
    rests-more (Number k) h = tt
    rests-more (Named k) h = h
    rests-more (Make w os) h = (on-more os h.0, taken-more IsNamed xs xs ds es w os (λ x m. m) h.1)
    rests-more (Define w os) h = on-more os h
    rests-more (Outcome j d) h = (more d h.0, rests-more d h.1)

    on-more : (os : Origins Name) → AreOn less os → AreOn larger os
    on-more NoOrigins h = tt
    on-more (MoreOrigins o os) h = (rests-more o h.0, on-more os h.1)

-- a definition is one by a word
pub define-of : (ds : List (Definition Name)) (d : Origin Name) (x : Definition Name) → definition_of ds d ≡ Ok x
    → (w : Cmd) × (os : Origins Name) × (d ≡ Define w os)
define-of ds (Define w os) x h = (w, os, refl)
define-of ds _ x h = absurd (cc)

module _ (IsNamed : Name → Type 0) (r : RunState) (lawful : IsLawfulRun IsNamed r) where
  abbrev origins : List (Origin Name)
  origins = origins_made r.definitions

  abbrev whole : Basis
  whole = run_basis IsNamed r

  -- a definition of the run, with its place
  pub record IsAt (d : Origin Name) : Type 0 where
    pub made : Made
    pub place : ℕ
    pub there : slice_get r.definitions place ≡ Some made
    pub origin_is : made.origin ≡ d
    pub lawful_is : IsLawfulDefinition IsNamed r place made

  pub at-of : (d : Origin Name) → IsMember d origins → IsAt d
  at-of d m =
      let a = IsMember-map_back (λ (z : Made). z.origin) d r.definitions m in
      let p = IsMember-place a.0 r.definitions a.1 in
      record { made = a.0; place = p.0; there = p.1; origin_is = a.2; lawful_is = lawful.definitions p.0 a.0 p.1 }

  pub is-define : (d : Origin Name) → IsMember d origins → IsDefine d
  is-define d m = let a = at-of d m in let f = define-of _ a.made.origin a.made.definition a.lawful_is.accepted in
      subst IsDefine (sym f.2 ∙ a.origin_is) tt

  definition-rests : (d : Origin Name) → IsMember d origins → RestsOn whole d
  definition-rests d m =
      let a = at-of d m in
      let front : IsPart (origins_made (take a.place r.definitions)) origins = λ x y. let z =
      IsMember-map_back (λ (q : Made). q.origin) x (take a.place r.definitions) y in
      subst (λ q. IsMember q origins) z.2
      (IsMember-map (λ (q : Made). q.origin) z.0 r.definitions (IsPart-take a.place r.definitions z.0 z.1)) in
      subst (RestsOn whole) a.origin_is (rests-more IsNamed (map (λ (g : Given). g.origin) r.assumptions)
      (origins_made (take a.place r.definitions)) origins front a.made.origin a.lawful_is.rests)

  module _ (roots : List (Origin Name)) (rooted : (o : Origin Name) → IsMember o roots → RestsOn whole o) where
    pub reached-rests : (o : Origin Name) → IsReached roots origins o → RestsOn whole o
    reached-rests o (Root _ m) = rooted o m
    reached-rests p (Operand o _ a m) = rests-part whole o p (reached-rests o a) (part-operand o o p (part-self o) m)
    reached-rests d (OfTheorem j _ a) = (reached-rests (Outcome j d) a).1
    reached-rests d (OfSymbol o _ a m s) = definition-rests d m

    pub taken-axiom : (o : Origin Name) (q : Sequent Name) → IsReached roots origins o → IsAxiom o
        → value o ≡ Ok (theorem q) → (g : Given) × IsMember g r.assumptions × (g.origin ≡ o) × (g.sequent ≡ q)
    taken-axiom o q a x h =
        let rests : RestsOn whole (Make words.Axiom x.0) = subst (RestsOn whole) x.1 (reached-rests o a) in
        let m = IsMember-map_back (λ (g : Given). g.origin) (Make words.Axiom x.0) r.assumptions rests.1 in
        let fits = All-at_member (λ g. Fits whole g.origin (theorem g.sequent)) r.assumptions m.0 lawful.assumptions
        m.1 in
        let is : m.0.origin ≡ o = m.2 ∙ sym x.1 in
        (m.0, m.1, is, one (value m.0.origin) (value o) m.0.sequent q (ap value is) fits.value_is h)
      where
        one : (r s : Result Object (Fault Name)) (a b : Sequent Name) → r ≡ s → r ≡ Ok (theorem a)
            → s ≡ Ok (theorem b) → a ≡ b
        one r s a b e p q = cc

    -- two needed axioms that are one sequent are one
    pub reached-apart : (a b : Origin Name) (p q : Sequent Name) → IsReached roots origins a
        → IsReached roots origins b → IsAxiom a → IsAxiom b → value a ≡ Ok (theorem p) → value b ≡ Ok (theorem q)
        → same_sequent names p q ≡ true → a ≡ b
    reached-apart a b p q ra rb xa xb va vb h =
        let f = taken-axiom a p ra xa va in
        let g = taken-axiom b q rb xb vb in
        let i = IsMember-place f.0 r.assumptions f.1 in
        let j = IsMember-place g.0 r.assumptions g.1 in
        let same_one : same_sequent names f.0.sequent g.0.sequent ≡ true = (λ k. same_sequent names (f.3 k) (g.3 k))
        ∙ h in
        let places : i.0 ≡ j.0 = lawful.apart i.0 j.0 f.0 g.0 i.1 j.1 same_one in
        let given : Some f.0 ≡ Some g.0 = sym i.1 ∙ ap (slice_get r.assumptions) places ∙ j.1 in
        let one : f.0 ≡ g.0 = cc in
        sym f.2 ∙ ap (λ (z : Given). z.origin) one ∙ g.2
