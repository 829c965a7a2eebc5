-- The definitions among what was found are followed one after another.
use Rattle.std.specs.Prelude.{◌↔◌, slice_index}
use Rattle.std.proofs.Common.{◌≡◌, ℕ, ◌+◌, ◌<◌, ◌≤◌, ◌⊎◌, inl, inr, List, [], length}
use Rattle.std.proofs.Common.{refl, sym, ap, subst, ◌∙◌, arith}
use Rattle.std.proofs.lemmas.Bool.Decides.{eqb_tells}
use Rattle.std.proofs.lemmas.Option.{slice_get_within, get_or_from_slice_get}
use Rattle.ot_logic.specs.Lists.{IsMember}
use Rattle.ot_logic.proofs.Members.{IsMember-at, IsMember-get_or, IsMember-place}
use Rattle.ot_logic.proofs.TableLemmas.{Extends-refl, Extends-trans, get_or-Extends}
use Rattle.ot_sets.specs.Table.{Has, IsUnionAt}
use Rattle.ot_sets.proofs.UnionLemmas.{has-later, has-sooner}
use Rattle.ot_leads.specs.Columns.{HasPlace, IsColumn}
use Rattle.ot_leads.specs.Closing.{Stays, BothStay, IsFoundIn, FindsAssumption, FindsDefinition, Takes, HasNoted}
use Rattle.ot_leads.specs.Closing.{AreColumns, Closes, IsLed, Start, Next}
use Rattle.ot_leads.specs.declared.closing.Found.{Found}
use Rattle.ot_leads.specs.declared.column.Column.{Column}
use Rattle.ot_leads.specs.declared.finding.Leads as code

-- ---- what stays
pub stays-refl : (c : Column) → Stays c c
stays-refl c = record { sets = Extends-refl c.sets; of_is = refl; empty_is = refl }

pub stays-trans : (c d e : Column) → Stays c d → Stays d e → Stays c e
stays-trans c d e s t = record {
  sets = Extends-trans s.sets t.sets;
  of_is = t.of_is ∙ s.of_is;
  empty_is = t.empty_is ∙ s.empty_is;
}

pub both-trans : (l m n : code.Leads) → BothStay l m → BothStay m n → BothStay l n
both-trans l m n s t = record {
  assumptions = stays-trans l.assumptions m.assumptions n.assumptions s.assumptions t.assumptions;
  definitions = stays-trans l.definitions m.definitions n.definitions s.definitions t.definitions;
}

module _ (n : ℕ) (c d : Column) (s : Stays c d) (col : IsColumn n c) where
  pub column-stays : IsColumn n d
  column-stays = record {
    count = ap length s.of_is ∙ col.count;
    inside = λ i h. subst (λ is. slice_index is i < length d.sets) (sym s.of_is)
        (let a = col.inside i h in let longer = s.sets.longer in omega (arith, a, longer));
    empty_inside = subst (λ e. e < length d.sets) (sym s.empty_is)
        (let a = col.empty_inside in let longer = s.sets.longer in omega (arith, a, longer));
    empty_is = λ p m. col.empty_is p (has-sooner c.sets d.sets s.sets c.empty col.empty_inside p
        (subst (λ e. Has d.sets e p) s.empty_is m));
  }

  pub leads-later : (i p : ℕ) → i < n → HasPlace c i p → HasPlace d i p
  leads-later i p h m = subst (λ is. Has d.sets (slice_index is i) p) (sym s.of_is)
      (has-later c.sets d.sets s.sets (slice_index c.of.items i) (col.inside i h) p m)

  pub leads-sooner : (i p : ℕ) → i < n → HasPlace d i p → HasPlace c i p
  leads-sooner i p h m = has-sooner c.sets d.sets s.sets (slice_index c.of.items i) (col.inside i h) p
      (subst (λ is. Has d.sets (slice_index is i) p) s.of_is m)

pub columns-stay : (n : ℕ) (l m : code.Leads) → AreColumns n l → BothStay l m
    → AreColumns (length m.definitions.of.items) m
columns-stay n l m cols s =
    let given = column-stays n l.assumptions m.assumptions s.assumptions cols.assumptions in
    let made = column-stays n l.definitions m.definitions s.definitions cols.definitions in
    subst (λ k. AreColumns k m) (sym made.count) (record { assumptions = given; definitions = made })

-- ---- what a step has is taken
module _ (n : ℕ) (l m : code.Leads) (cols : AreColumns n l) (stay : BothStay l m) (f g : Found)
    (inside : IsFoundIn l f) (step : ℕ) (h : step < n)
    (given : IsUnionAt m.assumptions.sets f.assumptions (slice_index l.assumptions.of.items step) g.assumptions)
    (made : IsUnionAt m.definitions.sets f.definitions (slice_index l.definitions.of.items step) g.definitions)
    (noted : HasNoted m.definitions.sets f.definitions g.definitions f.places.keys g.places.keys) where
  -- a union in a table that grew
  grown-union : (c d : Column) → Stays c d → IsColumn n c → (a r : ℕ) → a < length c.sets
      → IsUnionAt d.sets a (slice_index c.of.items step) r
      → (p : ℕ) → Has d.sets r p ↔ (Has c.sets a p ⊎ HasPlace c step p)
  grown-union c d s col a r inside u p = (
    λ x. elim ((u.numbers p).0 x) [
      | inl y ↦ inl (has-sooner c.sets d.sets s.sets a inside p y)
      | inr y ↦ inr (has-sooner c.sets d.sets s.sets (slice_index c.of.items step) (col.inside step h) p y)
    ],
    λ e. (u.numbers p).1 (elim e as (λ _. Has d.sets a p ⊎ Has d.sets (slice_index c.of.items step) p) [
      | inl y ↦ inl (has-later c.sets d.sets s.sets a inside p y)
      | inr y ↦ inr (has-later c.sets d.sets s.sets (slice_index c.of.items step) (col.inside step h) p y)
    ]),
  )

  pub takes : Takes l m f g step
  takes = record {
    inside = record { assumptions = given.within; definitions = made.within };
    assumptions = grown-union l.assumptions m.assumptions stay.assumptions cols.assumptions f.assumptions g.assumptions
        inside.assumptions given;
    definitions = grown-union l.definitions m.definitions stay.definitions cols.definitions f.definitions g.definitions
        inside.definitions made;
    places = noted.places;
    noted = λ p x. elim (noted.noted p x) [
      | inl y ↦ inl (has-sooner l.definitions.sets m.definitions.sets stay.definitions.sets f.definitions
          inside.definitions p y)
      | inr y ↦ inr y
    ];
    only = noted.only;
  }

-- ---- the loop
module _ (l : code.Leads) (ds : List ℕ) (root : ℕ) where
  abbrev pub Given : ℕ → Type 0
  Given p = (i : ℕ) × IsLed l ds root i × HasPlace l.assumptions i p

  abbrev pub Made : ℕ → Type 0
  Made p = (i : ℕ) × IsLed l ds root i × HasPlace l.definitions i p

  -- all that a step has is found
  pub record IsFollowed (m : code.Leads) (f : Found) (i : ℕ) : Type 0 where
    pub given : (p : ℕ) → HasPlace l.assumptions i p → FindsAssumption m f p
    pub made : (p : ℕ) → HasPlace l.definitions i p → FindsDefinition m f p

  -- so it is before the definition that was found at a place is followed
  pub record IsClosing (m : code.Leads) (f : Found) (next : ℕ) : Type 0 where
    pub stay : BothStay l m
    pub inside : IsFoundIn m f
    pub root_followed : IsFollowed m f root
    pub followed : (k : ℕ) → k < next → IsFollowed m f (slice_index ds (slice_index f.places.keys k))
    pub noted : (p : ℕ) → FindsDefinition m f p → IsMember p f.places.keys
    pub only_given : (p : ℕ) → FindsAssumption m f p → Given p
    pub only_made : (p : ℕ) → IsMember p f.places.keys → Made p
    pub so_far : next ≤ length f.places.keys

module _ (n : ℕ) (l : code.Leads) (cols : AreColumns n l) (ds : List ℕ)
    (steps : (p : ℕ) → p < length ds → slice_index ds p < n)
    (places : (i p : ℕ) → i < n → HasPlace l.definitions i p → p < length ds) (root : ℕ) (root_in : root < n) where
  led-inside : (i : ℕ) → IsLed l ds root i → i < n
  led-inside _ Start = root_in
  led-inside _ (Next i p led has) = steps p (places i p (led-inside i led) has)

  pub made-inside : (p : ℕ) → Made l ds root p → p < length ds
  made-inside p m = places m.0 p (led-inside m.0 m.1) m.2

  pub closing-begin : (m : code.Leads) (e f : Found) → e.assumptions ≡ l.assumptions.empty
      → e.definitions ≡ l.definitions.empty → e.places.keys ≡ [] → BothStay l m → Takes l m e f root
      → IsClosing l ds root m f 0
  closing-begin m e f ea ed ek stay t = record {
    stay = stay;
    inside = t.inside;
    root_followed = record {
      given = λ p h. (t.assumptions p).1 (inr h);
      made = λ p h. (t.definitions p).1 (inr h);
    };
    followed = λ k h. absurd (omega (arith, h));
    noted = λ p h. elim (t.noted p h) [
      | inl o ↦ absurd (cols.definitions.empty_is p (subst (λ z. Has l.definitions.sets z p) ed o))
      | inr here ↦ here
    ];
    only_given = λ p h. elim ((t.assumptions p).0 h) [
      | inl o ↦ absurd (cols.assumptions.empty_is p (subst (λ z. Has l.assumptions.sets z p) ea o))
      | inr new ↦ (root, Start, new)
    ];
    only_made = λ p h. elim (t.only p h) [
      | inl o ↦ absurd (subst (IsMember p) ek o)
      | inr found ↦ elim ((t.definitions p).0 found) [
        | inl o ↦ absurd (cols.definitions.empty_is p (subst (λ z. Has l.definitions.sets z p) ed o))
        | inr new ↦ (root, Start, new)
      ]
    ];
    so_far = omega arith;
  }

  module _ (m o : code.Leads) (f g : Found) (next : ℕ) (c : IsClosing l ds root m f next)
      (h : next < length f.places.keys)
      (stay : BothStay m o) (t : Takes m o f g (slice_index ds (slice_index f.places.keys next))) where
    abbrev place : ℕ
    place = slice_index f.places.keys next

    abbrev step : ℕ
    step = slice_index ds place

    here : Made l ds root place
    here = c.only_made place (IsMember-get_or f.places.keys next 0 h)

    led : IsLed l ds root step
    led = Next here.0 place here.1 here.2

    step-in : step < n
    step-in = led-inside step led

    -- what the step has, before and now
    given-then : (p : ℕ) → HasPlace m.assumptions step p → HasPlace l.assumptions step p
    given-then p = leads-sooner n l.assumptions m.assumptions c.stay.assumptions cols.assumptions step p step-in

    made-then : (p : ℕ) → HasPlace m.definitions step p → HasPlace l.definitions step p
    made-then p = leads-sooner n l.definitions m.definitions c.stay.definitions cols.definitions step p step-in

    still : (i : ℕ) → IsFollowed l ds root m f i → IsFollowed l ds root o g i
    still i w = record {
      given = λ p a. (t.assumptions p).1 (inl (w.given p a));
      made = λ p a. (t.definitions p).1 (inl (w.made p a));
    }

    step-followed : IsFollowed l ds root o g step
    step-followed = record {
      given = λ p a. (t.assumptions p).1
          (inr (leads-later n l.assumptions m.assumptions c.stay.assumptions cols.assumptions step p step-in a));
      made = λ p a. (t.definitions p).1
          (inr (leads-later n l.definitions m.definitions c.stay.definitions cols.definitions step p step-in a));
    }

    same-key : (k : ℕ) → k < length f.places.keys → slice_index g.places.keys k ≡ slice_index f.places.keys k
    same-key k b = get_or-Extends f.places.keys g.places.keys t.places k 0 b

    definition-then : (p : ℕ) → FindsDefinition o g p → Made l ds root p
    definition-then p a = elim ((t.definitions p).0 a) [
      | inl old ↦ c.only_made p (c.noted p old)
      | inr new ↦ (step, led, made-then p new)
    ]

    old-key : (p : ℕ) → IsMember p f.places.keys → IsMember p g.places.keys
    old-key p a = let at = IsMember-place p f.places.keys a in
        IsMember-at g.places.keys at.0 p (t.places.keeps at.0 p at.1)

    pub closing-step : IsClosing l ds root o g (next + 1)
    closing-step = record {
      stay = both-trans l m o c.stay stay;
      inside = t.inside;
      root_followed = still root c.root_followed;
      followed = λ k b. elim (eqb_tells k next) [
        | inl e ↦ subst (λ z. IsFollowed l ds root o g (slice_index ds z))
            (ap (slice_index f.places.keys) (sym e.1) ∙ sym (same-key k (let q = e.1 in omega (arith, q, h))))
            step-followed
        | inr e ↦
            let ne = e.1 in
            let low : k < next = omega (arith, ne, b) in
            subst (λ z. IsFollowed l ds root o g (slice_index ds z)) (sym (same-key k (omega (arith, low, h))))
            (still _ (c.followed k low))
      ];
      noted = λ p a. elim (t.noted p a) [ inl old ↦ old-key p (c.noted p old) | inr new ↦ new ];
      only_given = λ p a. elim ((t.assumptions p).0 a) [
        | inl old ↦ c.only_given p old
        | inr new ↦ (step, led, given-then p new)
      ];
      only_made = λ p a. elim (t.only p a) [ inl old ↦ c.only_made p old | inr found ↦ definition-then p found ];
      so_far = let longer = t.places.longer in omega (arith, h, longer);
    }

  pub closing-end : (m : code.Leads) (f : Found) (next : ℕ) → IsClosing l ds root m f next → length f.places.keys ≤ next
      → Closes l m ds root f
  closing-end m f next c done = record {
    inside = c.inside;
    assumptions = λ p. (c.only_given p, λ w. (covered w.0 w.1).given p w.2);
    definitions = λ p. (λ h. c.only_made p (c.noted p h), λ w. (covered w.0 w.1).made p w.2);
  }
    where
      covered : (i : ℕ) → IsLed l ds root i → IsFollowed l ds root m f i
      covered _ Start = c.root_followed
      covered _ (Next i p led has) =
          let found = c.noted p ((covered i led).made p has) in
          let at = IsMember-place p f.places.keys found in
          let low = slice_get_within f.places.keys at.0 p at.1 in
          subst (λ z. IsFollowed l ds root m f (slice_index ds z)) (get_or_from_slice_get f.places.keys at.0 p 0 at.1)
          (c.followed at.0 (omega (arith, low, done)))
