-- Candidates that are sought by their parts: none is passed over.
use Rattle.std.specs.Prelude.{slice_get, Some, None, Option}
use Rattle.std.specs.List.{All}
use Rattle.std.specs.Map.{lookup}
use Rattle.std.specs.Option.{unwrap_or}
use Rattle.std.proofs.Common.{◌≡◌, ℕ, ◌+◌, ◌-◌, ◌<◌, ◌≤◌, Bool, true, false, List, [], ◌∷◌, ◌++◌}
use Rattle.std.proofs.Common.{length, map, take, get_or}
use Rattle.std.proofs.Common.{refl, sym, ap, subst, ◌∙◌, inl, inr, arith, length-append}
use Rattle.std.proofs.lemmas.Bool.{and_parts, cases_lt}
use Rattle.std.proofs.lemmas.List.{length-map, length-take, get_or-take, take_more, take_all}
use Rattle.std.proofs.lemmas.Option.{slice_get-get_or, get_or_from_slice_get, same_Some, none-some}
use Rattle.ot_logic.proofs.Elements.{slice_get-low, slice_get-there, All-slice_get}
use Rattle.ot_logic.proofs.InternedLemmas.{slice_get-push}
use Rattle.ot_logic.proofs.Members.{IsMember-place, IsMember-at, IsMember-map, IsMember-map_back}
use Rattle.ot_logic.specs.Lists.{IsMember, IsPart}
use Rattle.ot_logic.specs.Names.{Name}
use Rattle.ot_logic.specs.Trees.{Tm, Bound, Sequent}
use Rattle.ot_logic.specs.Hol.{same_tm, all_in}
use Rattle.ot_logic.specs.Naming.{names, numbers, name_of}
use Rattle.ot_logic.specs.NamedTerms.{nameless}
use Rattle.ot_logic.specs.Renamed.{map_named}
use Rattle.ot_laws.proofs.Hypotheses.{all_in-is}
use Rattle.ot_laws.proofs.Tests.{tells_names, tells_numbers, same_tm-is}
use Rattle.ot_term.specs.Term.{TermTable}
use Rattle.ot_kernel.specs.declared.candidates.Part.{Part}
use Rattle.ot_kernel.specs.declared.candidates.Part.TheVariants.{Bare, With}
use Rattle.ot_kernel.specs.declared.candidates.Candidates.{Candidates}
use Rattle.ot_kernel.specs.State.{State, term_at, terms_at, sequent_at, theorem_at, Keeps}
use Rattle.ot_kernel.specs.Spelled.{Held, state_of, IsKernel}
use Rattle.ot_kernel.specs.Chains.{same_part, next_at}
use Rattle.ot_kernel.specs.Candidates.{is_stronger, HasClass, HasPart, HaveParts, AreCandidates}
use Rattle.ot_kernel.proofs.Growth.{named_at-Extends}
use Rattle.ot_kernel.proofs.Theorems.{same_sequent-real}
use Rattle.ot_kernel.proofs.Namings.{slice_get-map}

-- ---- the walk along a chain
-- the place is of the part, and no candidate of the part before it is stronger
pub record IsOn (s : State) (cs : Candidates) (r : Sequent Name) (part : Part) (end place : ℕ)
    (c : AreCandidates s cs) : Type 0 where
  pub has : place < end → slice_get c.parts place ≡ Some part
  pub none : (j i : ℕ) → j < place → j < end → slice_get c.parts j ≡ Some part → slice_get cs.theorems.items j ≡ Some i
      → is_stronger (theorem_at s i) r ≡ false

module _ (s : State) (cs : Candidates) (r : Sequent Name) (part : Part) (end : ℕ)
    (within : end ≤ length cs.theorems.items) where
  -- no place has the part
  on-none : None ≡ lookup (same_part part) cs.chains.firsts.entries → (c : AreCandidates s cs)
      → IsOn s cs r part end end c
  on-none none c = record {
    has = λ lt. absurd (omega (arith, lt));
    none = λ j i lt short at th. let f = c.chained.first j part (omega arith) at in absurd (none-some f.0 (none ∙ f.1));
  }

  -- the first place that has it
  on-first : (f : ℕ) → Some f ≡ lookup (same_part part) cs.chains.firsts.entries → (c : AreCandidates s cs)
      → IsOn s cs r part end f c
  on-first f some c = record {
    has = λ lt. (c.chained.first_has part f (sym some)).1;
    none = λ j i lt short at th.
        let g = c.chained.first j part (omega arith) at in
        let same = same_Some f g.0 (some ∙ g.1) in
        absurd (omega (arith, lt, same, g.2));
  }

  pub on-start : (o : Option ℕ) → o ≡ lookup (same_part part) cs.chains.firsts.entries → (c : AreCandidates s cs)
      → IsOn s cs r part end (unwrap_or o end) c
  on-start None e c = on-none e c
  on-start (Some f) e c = on-first f e c

  -- the place behind one of the chain
  behind : (place next : ℕ) → place < end → next ≡ get_or cs.chains.nexts.items place next → AreCandidates s cs
      → next ≡ next_at cs.chains.nexts.items place
  behind place next short is c =
      let nexts = cs.chains.nexts.items in
      let low : place < length nexts = omega (arith, short, within, c.have.many, c.chained.many) in
      is ∙ sym (get_or_from_slice_get nexts place (get_or nexts place next) 0 (slice_get-get_or nexts place next low))

  -- the next one
  pub on-next : (place th next : ℕ) → place < end → th ≡ get_or cs.theorems.items place th
      → is_stronger (theorem_at s th) r ≡ false → next ≡ get_or cs.chains.nexts.items place next
      → (c : AreCandidates s cs) → IsOn s cs r part end place c → IsOn s cs r part end next c
  on-next place th next short here weak at-next c on =
      let is = behind place next short at-next c in
      let long : end ≤ length c.parts = omega (arith, within, c.have.many) in
      record {
        has = λ lt.
            subst (λ n. slice_get c.parts n ≡ Some part) (sym is)
            (c.chained.next_has place part (omega arith) (on.has short) (omega (arith, is, lt, long)));
        none = λ j i lt low at found. elim (cases_lt j place) [
          | inl before ↦ on.none j i before low at found
          | inr after ↦
              elim (cases_lt place j) [
                | inl past ↦
                    let late = c.chained.next place j part (omega arith) past (on.has short) at in
                    absurd (omega (arith, is, lt, late))
                | inr ge ↦
                    let same : place ≡ j = omega (arith, after, ge) in
                    let one : th ≡ i =
                    same_Some th i
                    (ap Some here
                    ∙ sym (slice_get-get_or cs.theorems.items place th (omega (arith, short, within)))
                    ∙ ap (slice_get cs.theorems.items) same ∙ found) in
                    subst (λ t. is_stronger (theorem_at s t) r ≡ false) one weak
              ]
        ];
      }

  pub rises : (place next : ℕ) → place < end → next ≡ get_or cs.chains.nexts.items place next → AreCandidates s cs
      → place < next
  rises place next short at-next c =
      let up = c.chained.rises place (omega arith) (omega (arith, short, within, c.have.many)) in
      omega (arith, behind place next short at-next c, up)

-- ---- the parts that were tried
-- the class of one of the first n
abbrev pub IsTriedHyp : List ℕ → List ℕ → ℕ → ℕ → Type 0
IsTriedHyp cs hyps n d = (m : ℕ) × (t : ℕ) × (m < n) × (slice_get hyps m ≡ Some t) × (slice_get cs t ≡ Some d)

-- the part is of the conclusion's class, and has no hypothesis, or one of the first n
abbrev pub IsTried : List ℕ → List ℕ → ℕ → ℕ → Part → Type 0
IsTried cs hyps class n (Bare c) = c ≡ class
IsTried cs hyps class n (With c d) = (c ≡ class) × IsTriedHyp cs hyps n d

-- no candidate before the place whose part was tried is stronger
abbrev pub NoneTried : State → Candidates → List ℕ → ℕ → ℕ → ℕ → ℕ → Type 0
NoneTried s cs hyps concl class n best =
    (c : AreCandidates s cs) (j i : ℕ) (p : Part) → j < best → slice_get c.parts j ≡ Some p
    → IsTried s.classes hyps class n p → slice_get cs.theorems.items j ≡ Some i
    → is_stronger (theorem_at s i) (sequent_at s hyps concl) ≡ false

module _ (s : State) (cs : Candidates) (hyps : List ℕ) (concl class : ℕ) where
  -- what a walk tells
  abbrev pub NoneOf : Part → ℕ → Type 0
  NoneOf part best =
      (c : AreCandidates s cs) (j i : ℕ) → j < best → slice_get c.parts j ≡ Some part
      → slice_get cs.theorems.items j ≡ Some i → is_stronger (theorem_at s i) (sequent_at s hyps concl) ≡ false

  pub tried-bare : (best : ℕ) → NoneOf (Bare class) best → NoneTried s cs hyps concl class 0 best
  tried-bare best none c j i (Bare d) lt at tried th = none c j i lt (at ∙ ap (λ e. Some (Bare e)) tried) th
  tried-bare best none c j i (With d e) lt at (same, (m, t, low, found, class_of)) th = absurd (omega (arith, low))

  pub tried-more : (n t d old best : ℕ) → best ≤ old → n < length hyps → t ≡ get_or hyps n t
      → slice_get s.classes t ≡ Some d → NoneOf (With class d) best
      → NoneTried s cs hyps concl class n old → NoneTried s cs hyps concl class (n + 1) best
  tried-more n t d old best le short here classed none before c j i (Bare e) lt at tried th =
      before c j i (Bare e) (omega (arith, lt, le)) at tried th
  tried-more n t d old best le short here classed none before c j i (With e f) lt at
      (same, (m, u, low, found, class_of)) th = elim (cases_lt m n) [
        | inl earlier ↦
            before c j i (With e f) (omega (arith, lt, le)) at (same, (m, u, earlier, found, class_of)) th
        | inr late ↦
            let is : n ≡ m = omega (arith, late, low) in
            let term : t ≡ u =
            same_Some t u
            (sym (slice_get-get_or hyps n t short ∙ ap Some (sym here)) ∙ ap (slice_get hyps) is ∙ found) in
            let one : d ≡ f = same_Some d f (sym classed ∙ ap (slice_get s.classes) term ∙ class_of) in
            none c j i lt (at ∙ (λ k. Some (With (same k) (sym one k)))) th
      ]

-- ---- when all were tried
module _ (ns : List Name) (t : TermTable) (held : Held) (now : State) (view : state_of ns t held ≡ now)
    (k : IsKernel ns t held) where
  classes_are : now.classes ≡ t.classes
  classes_are = ap (λ (s : State). s.classes) (sym view)

  -- terms that are one have one class
  one_class : (a b c d : ℕ) → a < length now.terms → b < length now.terms → slice_get now.classes a ≡ Some c
      → slice_get now.classes b ≡ Some d → term_at now a ≡ term_at now b → c ≡ d
  one_class a b c d h g p q e =
      let none : All (λ i. i < length now.terms) [] = λ j x m. absurd (omega (arith, m)) in
      let same = (same_tm-is names tells_names (term_at now a) (term_at now b)).1 e in
      let numbered = same_sequent-real ns t held now view k [] [] a b none none h g ∙ same in
      (k.table.alike a b c d (sym (ap (λ cs. slice_get cs a) classes_are) ∙ p)
      (sym (ap (λ cs. slice_get cs b) classes_are) ∙ q)).1
      ((same_tm-is numbers tells_numbers _ _).0 numbered)

  module _ (cs : Candidates) (hyps : List ℕ) (concl class best : ℕ) (within : All (λ i. i < length now.terms) hyps)
      (inside : concl < length now.terms) (classed : slice_get now.classes concl ≡ Some class)
      (tried : NoneTried now cs hyps concl class (length hyps) best) where
    counted : length now.terms ≡ length now.classes
    counted =
        let terms = ap (λ (s : State). length s.terms) view in
        let classes = ap length classes_are in
        omega (arith, terms, classes, k.table.classed, length-map t.terms (map_named (name_of ns)))

    same_class : (p : Tm Name) (c : ℕ) → HasClass now p c → p ≡ term_at now concl → c ≡ class
    same_class p c has is = one_class has.term concl c class has.within inside has.classed classed (has.is ∙ is)

    -- the part of a sequent with this conclusion and hypotheses among these was tried
    was_tried : (q : Sequent Name) (p : Part) → HasPart now q p → q.concl ≡ term_at now concl
        → IsPart q.hyps (terms_at now hyps) → IsTried now.classes hyps class (length hyps) p
    was_tried q (Bare c) (has, none) same all = same_class q.concl c has same
    was_tried q (With c d) (has, (p, member, one)) same all =
        let (u, among, is) = IsMember-map_back (term_at now) p hyps (all p member) in
        let (m, found) = IsMember-place u hyps among in
        let low = All-slice_get (λ i. i < length now.terms) hyps m u within found in
        let (e, class_of) = slice_get-there now.classes u (omega (arith, low, counted)) in
        let equal = one_class u one.term e d low one.within class_of one.classed (is ∙ sym one.is) in (
          same_class q.concl c has same,
          (m, u, slice_get-low hyps m u found, found, class_of ∙ ap Some equal),
        )

    weak : (c : AreCandidates now cs) (j i : ℕ) → j < best → slice_get cs.theorems.items j ≡ Some i
        → (b : Bool) → is_stronger (theorem_at now i) (sequent_at now hyps concl) ≡ b → b ≡ false
    weak c j i lt th false e = refl
    weak c j i lt th true e =
        let q = theorem_at now i in
        let r = sequent_at now hyps concl in
        let (sets, concls) = and_parts (all_in names q.hyps r.hyps) (same_tm names q.concl r.concl) e in
        let low = slice_get-low cs.theorems.items j i th in
        let (p, at) = slice_get-there c.parts j (omega (arith, low, c.have.many)) in
        let tried_part = was_tried q p (c.have.each j i p th at)
        ((same_tm-is names tells_names q.concl r.concl).0 concls)
        ((all_in-is names tells_names q.hyps r.hyps).0 sets) in
        sym e ∙ tried c j i p lt at tried_part th

    pub none-within : AreCandidates now cs → best ≤ length cs.theorems.items
        → All (λ q. is_stronger q (sequent_at now hyps concl) ≡ false)
        (take best (map (theorem_at now) cs.theorems.items))
    none-within c le j d lt =
        let ths = cs.theorems.items in
        let qs = map (theorem_at now) ths in
        let short : j < best = omega (arith, lt, length-take best qs) in
        let (i, th) = slice_get-there ths j (omega (arith, short, le)) in
        let here : get_or qs j d ≡ theorem_at now i =
        same_Some (get_or qs j d) (theorem_at now i)
        (sym (slice_get-get_or qs j d (omega (arith, short, le, length-map ths (theorem_at now))))
        ∙ slice_get-map (theorem_at now) ths j i th) in
        ap (λ q. is_stronger q (sequent_at now hyps concl)) (get_or-take best qs j d short ∙ here)
        ∙ weak c j i short th (is_stronger (theorem_at now i) (sequent_at now hyps concl)) refl

-- ---- the parts of theorems
pub part-with : (s : State) (q : Sequent Name) (hyps : List ℕ) (h c d : ℕ) → terms_at s hyps ≡ q.hyps
    → HasClass s q.concl c → slice_get hyps (length hyps - 1) ≡ Some h → h < length s.terms
    → slice_get s.classes h ≡ Some d → HasPart s q (With c d)
part-with s q hyps h c d are concl last within classed = (
  concl,
  (
    term_at s h,
    subst (IsMember (term_at s h)) are (IsMember-map (term_at s) h hyps (IsMember-at hyps (length hyps - 1) h last)),
    record { term = h; within = within; classed = classed; is = refl },
  ),
)

pub part-bare : (s : State) (q : Sequent Name) (hyps : List ℕ) (c : ℕ) → terms_at s hyps ≡ q.hyps
    → HasClass s q.concl c → slice_get hyps (length hyps - 1) ≡ None → HasPart s q (Bare c)
part-bare s q [] c are concl last = (concl, sym are)
part-bare s q (h ∷ hyps) c are concl last =
    let (g, there) = slice_get-there (h ∷ hyps) (length (h ∷ hyps) - 1) (omega arith) in
    absurd (none-some g (sym last ∙ there))

pub parts-none : (s : State) (parts : List Part) → parts ≡ [] → HaveParts s [] parts
parts-none s parts none = record { many = ap length none; each = λ j i p at found. absurd (none-some i at) }

pub parts-more : (s : State) (ths : List ℕ) (parts more : List Part) (k th : ℕ) (p : Part) → k < length ths
    → th ≡ get_or ths k th → more ≡ parts ++ p ∷ [] → HasPart s (theorem_at s th) p → HaveParts s (take k ths) parts
    → HaveParts s (take (k + 1) ths) more
parts-more s ths parts more k th p h here pushed has before =
    subst (HaveParts s (take (k + 1) ths)) (sym pushed) (subst (λ l. HaveParts s l (parts ++ p ∷ [])) (sym longer)
    (record {
      many =
          omega (
            arith,
            before.many,
            length-append parts (p ∷ []),
            length-append (take k ths) (th ∷ []),
          );
      each = λ j i q at found. elim (slice_get-push (take k ths) th j i at) [
        | inl old ↦ elim (slice_get-push parts p j q found) [
          | inl also ↦ before.each j i q old also
          | inr late ↦
              let low = slice_get-low (take k ths) j i old in absurd (omega (arith, low, late.0, before.many))
        ]
        | inr new ↦ elim (slice_get-push parts p j q found) [
          | inl early ↦
              let low = slice_get-low parts j q early in absurd (omega (arith, low, new.0, before.many))
          | inr also ↦
              subst (λ r. HasPart s (theorem_at s i) r) also.1 (subst (λ m. HasPart s (theorem_at s m) p) new.1 has)
        ]
      ];
    }))
  where
    longer : take (k + 1) ths ≡ take k ths ++ th ∷ []
    longer = take_more ths k th h ∙ ap (λ m. take k ths ++ m ∷ []) (sym here)

pub parts-all : (s : State) (ths : List ℕ) (parts : List Part) (k : ℕ) → length ths ≤ k
    → HaveParts s (take k ths) parts → HaveParts s ths parts
parts-all s ths parts k h all = subst (λ l. HaveParts s l parts) (take_all k ths h) all

-- ---- over a state that grew
module _ (k l : State) (keeps : Keeps k l) where
  class-later : (p : Tm Name) (c : ℕ) → HasClass k p c → HasClass l p c
  class-later p c h = record {
    term = h.term;
    within = omega (arith, h.within, keeps.terms.longer);
    classed = keeps.classes.keeps h.term c h.classed;
    is = ap (nameless names) (named_at-Extends k.terms l.terms keeps.terms h.term h.within) ∙ h.is;
  }

  part-later : (q : Sequent Name) (p : Part) → HasPart k q p → HasPart l q p
  part-later q (Bare c) (concl, none) = (class-later q.concl c concl, none)
  part-later q (With c d) (concl, (p, member, hyp)) =
      (class-later q.concl c concl, (p, member, class-later p d hyp))

  pub candidates-later : (c : Candidates) → AreCandidates k c → AreCandidates l c
  candidates-later c h = record {
    numbered = λ i d w. let x = h.numbered i d w in omega (arith, x, keeps.theorems.longer);
    parts = h.parts;
    have = record {
      many = h.have.many;
      each = λ j i p th at.
          let low = All-slice_get (λ m. m < length k.theorems) c.theorems.items j i h.numbered th in
          let same = at-theorem i low in
          subst (λ q. HasPart l q p) (sym same) (part-later (theorem_at k i) p (h.have.each j i p th at));
    };
    chained = h.chained;
  }
    where
      at-theorem : (i : ℕ) → i < length k.theorems → theorem_at l i ≡ theorem_at k i
      at-theorem i low =
          let dflt : Sequent Name = record { hyps = []; concl = Bound 0 } in
          get_or_from_slice_get l.theorems i (theorem_at k i) dflt
          (keeps.theorems.keeps i (theorem_at k i) (slice_get-get_or k.theorems i dflt low))
