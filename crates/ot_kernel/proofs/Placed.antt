-- Sequents of a list found by their keys: nothing is missed, and one sequent more.
use Rattle.std.specs.Prelude.{slice_get, slice_index_or, Some, None, Option}
use Rattle.std.specs.List.{All}
use Rattle.std.specs.Map.{lookup}
use Rattle.std.proofs.Common.{◌≡◌, ℕ, ◌<◌, ◌≤◌, Bool, true, false, List, [], ◌∷◌, ◌++◌, length}
use Rattle.std.proofs.Common.{refl, sym, ap, subst, ◌∙◌, inl, inr, arith, length-append}
use Rattle.std.proofs.lemmas.List.{length-take, get_or-take, length-map}
use Rattle.std.proofs.lemmas.Option.{slice_get-get_or, same_Some, none-some}
use Rattle.ot_logic.proofs.Elements.{slice_get-low}
use Rattle.ot_logic.proofs.InternedLemmas.{slice_get-push}
use Rattle.ot_logic.specs.Names.{Name}
use Rattle.ot_logic.specs.Trees.{Sequent}
use Rattle.ot_logic.specs.Hol.{same_sequent}
use Rattle.ot_logic.specs.Naming.{names, name_of}
use Rattle.ot_logic.specs.NamedTerms.{nameless}
use Rattle.ot_logic.specs.Renamed.{map_named}
use Rattle.ot_term.specs.Term.{TermTable}
use Rattle.ot_kernel.specs.declared.key.SequentKey.{SequentKey}
use Rattle.ot_kernel.specs.State.{State, sequent_at, Keeps}
use Rattle.ot_kernel.specs.Keys.{same_key, IsKeyOf}
use Rattle.ot_kernel.specs.Spelled.{Held, state_of, IsKernel}
use Rattle.ot_kernel.specs.Places.{IsPlaced}
use Rattle.ot_kernel.specs.Alike.{HasPlace, AreFirstPlaces, IsFirstPlace}
use Rattle.ot_kernel.proofs.Growth.{named_at-Extends, hyps-Extends}
use Rattle.ot_kernel.proofs.Keying.{keyed-same, key-later, one_key}
use Rattle.ot_kernel.proofs.Theorems.{same_sequent-real}

-- no sequents
pub no_sequents : (k : State) (places : List (SequentKey × ℕ)) → places ≡ [] → AreFirstPlaces k [] places
no_sequents k places e = record {
  found = λ j q is. absurd (none-some q is);
  within = λ l place at. absurd (none-some place (sym (ap (lookup (same_key l)) e) ∙ at));
}

module _ (ns : List Name) (t : TermTable) (held : Held) (now : State) (view : state_of ns t held ≡ now)
    (k : IsKernel ns t held) where
  classes_are : now.classes ≡ t.classes
  classes_are = ap (λ (s : State). s.classes) (sym view)

  classed : (is : List ℕ) → All (λ i. i < length now.terms) is → All (λ i. i < length now.classes) is
  classed is h j d w =
      let classes = ap length classes_are in
      let terms = ap (λ (s : State). length s.terms) view in
      let low = h j d w in
      omega (arith, low, classes, terms, k.table.classed, length-map t.terms (map_named (name_of ns)))

  in_table : (i : ℕ) → i < length now.terms → i < length t.terms
  in_table i h =
      let terms = ap (λ (s : State). length s.terms) view in
      omega (arith, h, terms, length-map t.terms (map_named (name_of ns)))

  all_in_table : (is : List ℕ) → All (λ i. i < length now.terms) is → All (λ i. i < length t.terms) is
  all_in_table is h j d w = in_table (slice_index_or is j d) (h j d w)

  -- sequents that are one have one key
  same_keys : (gs hs : List ℕ) (a b : ℕ) (l m : SequentKey) → All (λ i. i < length now.terms) gs
      → All (λ i. i < length now.terms) hs → a < length now.terms → b < length now.terms
      → same_sequent names (sequent_at now gs a) (sequent_at now hs b) ≡ true → IsKeyOf t.classes gs a l
      → IsKeyOf t.classes hs b m → l ≡ m
  same_keys gs hs a b l m within inside left right same keyed other =
      one_key t.classes gs a l m keyed
      (keyed-same t k.table gs hs a b m (all_in_table gs within) (all_in_table hs inside) (in_table a left)
      (in_table b right)
      (same_sequent-real ns t held now view k gs hs a b within inside left right ∙ same) other)

  module _ (qs : List (Sequent Name)) (places : List (SequentKey × ℕ)) (h : AreFirstPlaces now qs places)
      (hyps : List ℕ) (concl : ℕ) (key : SequentKey) (within : All (λ i. i < length now.terms) hyps)
      (inside : concl < length now.terms) (keyed : IsKeyOf t.classes hyps concl key) where
    -- one of the sequents that is this one has a place, no later than it
    found : (j : ℕ) (r : Sequent Name) → slice_get qs j ≡ Some r
        → same_sequent names (sequent_at now hyps concl) r ≡ true
        → (place : ℕ) × (lookup (same_key key) places ≡ Some place) × (place ≤ j)
    found j r is same =
        let here = h.found j r is in
        let one = same_keys hyps here.hyps concl here.concl key here.key within here.hyps_within inside here.within
        (ap (same_sequent names (sequent_at now hyps concl)) here.is ∙ same) keyed
        (subst (λ cs. IsKeyOf cs here.hyps here.concl here.key) classes_are here.keyed) in
        (here.place, subst (λ l. lookup (same_key l) places ≡ Some here.place) (sym one) here.found, here.first)

    -- before a place that is no later than that of the key none is this one
    apart : (n j : ℕ) (r : Sequent Name) → ((p : ℕ) → lookup (same_key key) places ≡ Some p → n ≤ p) → j < n
        → slice_get qs j ≡ Some r → same_sequent names (sequent_at now hyps concl) r ≡ false
    apart n j r first lt is = by (same_sequent names (sequent_at now hyps concl) r) refl
      where
        by : (b : Bool) → same_sequent names (sequent_at now hyps concl) r ≡ b → b ≡ false
        by false e = refl
        by true e =
            let (p, l, le) = found j r is e in
            let late = first p l in
            absurd (omega (arith, late, le, lt))

    pub is_first : (place : Option ℕ) → place ≡ lookup (same_key key) places
        → IsFirstPlace qs (sequent_at now hyps concl) place
    is_first None e = λ j r lt. apart (length qs) j (slice_index_or qs j r) (λ p l. absurd (none-some p (e ∙ l))) lt
        (slice_get-get_or qs j r lt)
    is_first (Some n) e =
        let early = h.within key n (sym e) in (
          early,
          λ j r lt.
              let short : j < n = omega (arith, lt, length-take n qs) in
              subst (λ x. same_sequent names (sequent_at now hyps concl) x ≡ false) (sym (get_or-take n qs j r short))
              (apart n j (slice_index_or qs j r) (λ p l. let s = same_Some n p (e ∙ l) in omega (arith, s)) short
              (slice_get-get_or qs j r (omega (arith, short, early)))),
        )

  module _ (qs : List (Sequent Name)) (old new : List (SequentKey × ℕ)) (hyps : List ℕ) (concl : ℕ)
      (key : SequentKey) (place : ℕ) (within : All (λ i. i < length now.terms) hyps) (inside : concl < length now.terms)
      (keyed : IsKeyOf t.classes hyps concl key) (end : length qs ≡ place) (placed : IsPlaced key place old new) where
    there : (j : ℕ) (q : Sequent Name) → HasPlace now old j q → HasPlace now new j q
    there j q o = record {
      hyps = o.hyps;
      concl = o.concl;
      hyps_within = o.hyps_within;
      within = o.within;
      classed = o.classed;
      is = o.is;
      key = o.key;
      keyed = o.keyed;
      place = o.place;
      found = placed.keeps o.key o.place o.found;
      first = o.first;
    }

    -- the list without the sequent
    pub placed_still : AreFirstPlaces now qs old → AreFirstPlaces now qs new
    placed_still h = record {
      found = λ j q is. there j q (h.found j q is);
      within = λ l p at. elim (placed.within l p at) [ inl o ↦ h.within l p o | inr e ↦ omega (arith, e, end) ];
    }

    -- and with it
    pub placed_more : (q : Sequent Name) → sequent_at now hyps concl ≡ q → AreFirstPlaces now qs old
        → AreFirstPlaces now (qs ++ q ∷ []) new
    placed_more q is h = record {
      found = λ j r at. elim (slice_get-push qs q j r at) [
        | inl o ↦ there j r (h.found j r o)
        | inr e ↦ subst (λ i. HasPlace now new i r) (sym e.0) (here r (sym e.1))
      ];
      within = λ l p at.
          let longer = length-append qs (q ∷ []) in
          elim (placed.within l p at) [
            | inl o ↦ (let w = h.within l p o in omega (arith, w, longer))
            | inr e ↦
                omega (arith, e, end, longer)
          ];
    }
      where
        here : (r : Sequent Name) → r ≡ q → HasPlace now new (length qs) r
        here r e = record {
          hyps = hyps;
          concl = concl;
          hyps_within = within;
          within = inside;
          classed = classed hyps within;
          is = is ∙ sym e;
          key = key;
          keyed = subst (λ cs. IsKeyOf cs hyps concl key) (sym classes_are) keyed;
          place = placed.found.0;
          found = placed.found.1;
          first = elim (placed.within key placed.found.0 placed.found.1)
              [ inl o ↦ h.within key placed.found.0 o | inr e ↦ omega (arith, e, end) ];
        }

-- over a state that grew
module _ (k l : State) (keeps : Keeps k l) where
  sequent-later : (hyps : List ℕ) (concl : ℕ) → All (λ i. i < length k.terms) hyps → concl < length k.terms
      → sequent_at l hyps concl ≡ sequent_at k hyps concl
  sequent-later hyps concl h g =
      let a = hyps-Extends k.terms l.terms keeps.terms hyps h in
      let b = named_at-Extends k.terms l.terms keeps.terms concl g in
      λ i. record { hyps = a i; concl = nameless names (b i) }

  pub places-later : (qs : List (Sequent Name)) (places : List (SequentKey × ℕ)) → AreFirstPlaces k qs places
      → AreFirstPlaces l qs places
  places-later qs places p = record { found = λ j q is. later j q (p.found j q is); within = p.within }
    where
      later : (j : ℕ) (q : Sequent Name) → HasPlace k places j q → HasPlace l places j q
      later j q o = record {
        hyps = o.hyps;
        concl = o.concl;
        hyps_within = λ i d h. let w = o.hyps_within i d h in omega (arith, w, keeps.terms.longer);
        within = omega (arith, o.within, keeps.terms.longer);
        classed = λ i d h. let w = o.classed i d h in omega (arith, w, keeps.classes.longer);
        is = sequent-later o.hyps o.concl o.hyps_within o.within ∙ o.is;
        key = o.key;
        keyed = key-later k.classes l.classes keeps.classes (length k.classes) refl o.hyps o.concl o.key o.classed
            (slice_get-low k.classes o.concl o.key.concl o.keyed.concl) o.keyed;
        place = o.place;
        found = o.found;
        first = o.first;
      }
