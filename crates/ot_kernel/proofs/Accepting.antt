-- A definition that becomes the next of a kernel's definitions.
use Rattle.std.specs.Prelude.{◌≡◌, ℕ, ◌<◌, Bool, true, false, if◌then◌else◌}
use Rattle.std.specs.Prelude.{List, [], ◌∷◌, ◌++◌, map, length, slice_index_or}
use Rattle.std.specs.List.{All}
use Rattle.std.proofs.Common.{◌+◌, refl, sym, ap, ◌∙◌, subst, arith, length-append, inl, inr}
use Rattle.std.proofs.lemmas.Option.{slice_get-get_or, slice_get_within, get_or_from_slice_get}
use Rattle.std.proofs.lemmas.List.{get_or_append_left, map-append, length-map}
use Rattle.std.proofs.lemmas.List.Elements.{All-head, All-tail, All-push, All-append}
use Rattle.ot_logic.specs.Lists.{IsMember, IsSameSet}
use Rattle.ot_logic.specs.Names.{Name}
use Rattle.ot_logic.specs.Table.{Extends}
use Rattle.ot_logic.specs.Trees.{Bound, Sequent, Symbol, ConSymbol, OpSymbol, Definition, ConDef, ListDef, TyDef}
use Rattle.ot_logic.specs.Hol.{IsSequent, IsFine, defined, used, theorems}
use Rattle.ot_logic.specs.Naming.{names, numbers, name_of, IsNameTable}
use Rattle.ot_logic.specs.Renamed.{map_named, map_symbol}
use Rattle.ot_logic.proofs.TableLemmas.{Extends-refl, Extends-append}
use Rattle.ot_laws.specs.Theorem.{IsTheorem}
use Rattle.ot_laws.proofs.Definitions.{HasPremise, accepted-sound}
use Rattle.ot_laws.proofs.Grown.{accepted-push}
use Rattle.ot_laws.proofs.Sets.{same_set-then, same_set-append, same_set-self}
use Rattle.ot_laws.proofs.Tests.{tells_names, tells_numbers}
use Rattle.ot_laws.proofs.Theorems.{grown-theorem, defined-theorem}
use Rattle.ot_term.specs.Term.{TermTable}
use Rattle.ot_term.proofs.GatherLemmas.{same_set-map}
use Rattle.ot_laws.specs.Conditions.{is_among}
use Rattle.ot_define.specs.Signature.{Symbols, with_symbols}
use Rattle.ot_laws.proofs.Membership.{is_among-is}
use Rattle.ot_kernel.specs.declared.theorem.Theorem.{Theorem}
use Rattle.ot_kernel.specs.declared.definition.Definition as code
use Rattle.ot_kernel.specs.State.{State, name_at, IsSoundState}
use Rattle.ot_kernel.specs.Definitions.{definition_at, IsDefinitionIn, IsHeld, number_of, IsSignature}
use Rattle.ot_kernel.specs.Spelled.{Held, sequent_of, sequents_at, undefined_state, state_of, IsInside, IsKernel}
use Rattle.ot_kernel.specs.Accepting.{adding, added_definition, accepting, IsAcceptable}
use Rattle.ot_kernel.proofs.Placing.{places-grown}
use Rattle.ot_kernel.proofs.Accepted.{definition_stays, definitions_kept, held_stays, held_stay}
use Rattle.ot_kernel.proofs.Namings.{map-push, name_of-index}
use Rattle.ot_logic.proofs.Members.{IsMember-cases, IsMember-left, IsMember-right}

-- ---- the symbols of a signature with more of them
with_one : (ss : List (Symbol ℕ)) (t : Symbol ℕ) → IsSameSet (if is_among numbers t ss then ss else ss ++ t ∷ [])
    (ss ++ t ∷ [])
with_one ss t = by (is_among numbers t ss) refl
  where
    by : (b : Bool) → is_among numbers t ss ≡ b → IsSameSet (if b then ss else ss ++ t ∷ []) (ss ++ t ∷ [])
    by true e = record {
      to = λ x m. IsMember-left x ss (t ∷ []) m;
      back = λ x m. elim (IsMember-cases x ss (t ∷ []) m) [
        | inl a ↦ a
        | inr b ↦
            elim b [
              | inl same ↦ subst (λ y. IsMember y ss) same ((is_among-is numbers tells_numbers t ss).0 e)
              | inr z ↦
                  absurd z
            ]
      ];
    }
    by false e = same_set-self (ss ++ t ∷ [])

with_symbols-members : (ss ts : List (Symbol ℕ)) → IsSameSet (with_symbols ss ts) (ss ++ ts)
with_symbols-members ss [] =
    record {
      to = λ x m. IsMember-left x ss [] m;
      back = λ x m. elim (IsMember-cases x ss [] m) [ inl a ↦ a | inr b ↦ absurd b ];
    }
with_symbols-members ss (t ∷ ts) =
    let one = if is_among numbers t ss then ss else ss ++ t ∷ [] in
    same_set-then (with_symbols-members one ts)
    (same_set-then (same_set-append (with_one ss t) (same_set-self ts)) (seam ss t ts))
  where
    seam : (xs : List (Symbol ℕ)) (y : Symbol ℕ) (ys : List (Symbol ℕ))
        → IsSameSet ((xs ++ y ∷ []) ++ ys) (xs ++ y ∷ ys)
    seam [] y ys = same_set-self (y ∷ ys)
    seam (x ∷ xs) y ys = same_set-append (same_set-self (x ∷ [])) (seam xs y ys)

with_symbols-all : (P : Symbol ℕ → Type 0) (ss ts : List (Symbol ℕ)) → All P ss → All P ts
    → All P (with_symbols ss ts)
with_symbols-all P ss [] h g = h
with_symbols-all P ss (t ∷ ts) h g = with_symbols-all P (if is_among numbers t ss then ss else ss ++ t ∷ []) ts
    (by (is_among numbers t ss)) (All-tail P t ts g)
  where
    by : (b : Bool) → All P (if b then ss else ss ++ t ∷ [])
    by true = h
    by false = All-push P ss t h (All-head P t ts g)

-- the names of symbols by number are those of the table
module _ (ns : List Name) (first : IsNameTable ns) where
  symbol_named : (s : State) → s.names ≡ ns → (x : Symbol ℕ) → number_of x < length ns → map_symbol (name_of ns) x
      ≡ map_symbol (name_at s) x
  symbol_named s e (ConSymbol n) h =
      ap ConSymbol (name_of-index ns first n h ∙ ap (λ l. slice_index_or l n []) (sym e))
  symbol_named s e (OpSymbol n) h = ap OpSymbol (name_of-index ns first n h ∙ ap (λ l. slice_index_or l n []) (sym e))

  symbols_named : (s : State) → s.names ≡ ns → (xs : List (Symbol ℕ)) → All (λ x. number_of x < length ns) xs
      → map (map_symbol (name_of ns)) xs ≡ map (map_symbol (name_at s)) xs
  symbols_named s e [] h = refl
  symbols_named s e (x ∷ xs) h =
      let a = symbol_named s e x (All-head (λ (y : Symbol ℕ). number_of y < length ns) x xs h) in
      let b = symbols_named s e xs (All-tail (λ (y : Symbol ℕ). number_of y < length ns) x xs h) in
      λ j. a j ∷ b j

  -- with those of a definition
  named_more : (s : State) → s.names ≡ ns → (old more : List (Symbol ℕ)) (new : List (Symbol Name))
      → All (λ x. number_of x < length ns) more → IsSameSet (map (map_symbol (name_at s)) more) new
      → IsSameSet (map (map_symbol (name_of ns)) (with_symbols old more)) (map (map_symbol (name_of ns)) old ++ new)
  named_more s e old more new below h =
      let f = map_symbol (name_of ns) in
      same_set-then (same_set-map f (with_symbols-members old more))
      (subst (λ l. IsSameSet l (map f old ++ new)) (sym (map-append f old more))
      (same_set-append (same_set-self (map f old))
      (subst (λ l. IsSameSet l new) (sym (symbols_named s e more below)) h)))

-- the members of a list of lists, with one more
members_more : (g : Definition Name → List (Symbol Name)) (dl : List (Definition Name)) (d : Definition Name)
    (old all : List (Symbol Name))
    → ((x : Symbol Name) → (IsMember x old → (e : Definition Name) × IsMember e dl × IsMember x (g e))
    × (((e : Definition Name) × IsMember e dl × IsMember x (g e)) → IsMember x old)) → IsSameSet all (old ++ g d)
    → (x : Symbol Name) → (IsMember x all → (e : Definition Name) × IsMember e (dl ++ d ∷ []) × IsMember x (g e))
    × (((e : Definition Name) × IsMember e (dl ++ d ∷ []) × IsMember x (g e)) → IsMember x all)
members_more g dl d old all h s x = (
  λ m. elim (IsMember-cases x old (g d) (s.to x m)) [
    | inl a ↦ let r = (h x).0 a in (r.0, IsMember-left r.0 dl (d ∷ []) r.1, r.2)
    | inr b ↦ (d, IsMember-right d dl (d ∷ []) (inl refl), b)
  ],
  λ r. s.back x (elim (IsMember-cases r.0 dl (d ∷ []) r.1) [
    | inl a ↦ IsMember-left x old (g d) ((h x).1 (r.0, a, r.2))
    | inr b ↦ elim b [
      | inl same ↦ IsMember-right x old (g d) (subst (λ e. IsMember x (g e)) (sym same) r.2)
      | inr z ↦
          absurd z
    ]
  ]),
)

-- ---- theorems at the end
sequents_at-append : (qs rs : List (Sequent Name)) (is : List ℕ) → All (λ i. i < length qs) is
    → sequents_at (qs ++ rs) is ≡ sequents_at qs is
sequents_at-append qs rs [] h = refl
sequents_at-append qs rs (i ∷ is) h =
    let a = get_or_append_left qs rs (record { hyps = []; concl = Bound 0 }) i
    (All-head (λ i. i < length qs) i is h) in
    let b = sequents_at-append qs rs is (All-tail (λ i. i < length qs) i is h) in
    λ j. a j ∷ b j

-- ---- a new definition
-- what the tables keep, and what they stand for
pub record Defined (now : State) (ns : List Name) (t : TermTable) (more : Held) (ths : List Theorem)
    (c : code.Definition) : Type 0 where
  pub kernel : IsKernel ns t more
  pub state : state_of ns t more ≡ accepting now ths c

abbrev more_of : Held → List Theorem → code.Definition → List (Symbol ℕ) → List (Symbol ℕ) → Held
more_of held ths c defs uses =
    record {
      theorems = held.theorems ++ ths;
      assumptions = held.assumptions;
      definitions = held.definitions ++ c
          ∷ [];
      signature =
          record { defined = with_symbols held.signature.defined defs; used = with_symbols held.signature.used uses };
      places = held.places;
    }

defined_from : (ns : List Name) (t : TermTable) (held : Held) (ths : List Theorem) (c : code.Definition)
    (defs uses : List (Symbol ℕ)) → IsKernel ns t held → IsAcceptable (state_of ns t held) ths c defs uses
    → Defined (state_of ns t held) ns t (more_of held ths c defs uses) ths c
defined_from ns t held ths c defs uses k p = record { kernel = kernel; state = state }
  where
    s : State
    s = state_of ns t held

    f : Theorem → Sequent Name
    f = sequent_of s.terms

    qs : List (Sequent Name)
    qs = map f held.theorems

    more : Held
    more = more_of held ths c defs uses

    u : State
    u = undefined_state ns t more

    d : Definition Name
    d = added_definition s ths c

    theorems_more : map f (held.theorems ++ ths) ≡ qs ++ map f ths
    theorems_more = map-append f held.theorems ths

    longer : Extends qs (map f (held.theorems ++ ths))
    longer = subst (Extends qs) (sym theorems_more) (Extends-append qs (map f ths))

    same_length : length qs ≡ length held.theorems
    same_length = length-map held.theorems f

    assumed : sequents_at (map f (held.theorems ++ ths)) held.assumptions ≡ sequents_at qs held.assumptions
    assumed = ap (λ l. sequents_at l held.assumptions) theorems_more ∙ sequents_at-append qs (map f ths)
        held.assumptions (λ i e h. let l = k.numbered i e h in omega (arith, l, same_length))

    older : map (definition_at u) held.definitions ≡ s.definitions
    older = definitions_kept ns t held u k (Extends-refl _) (Extends-refl _) longer

    -- the theorems of the state with its new ones are those of the tables
    same_theorems : Extends (qs ++ map f ths) (map f (held.theorems ++ ths))
    same_theorems = subst (Extends (qs ++ map f ths)) (sym theorems_more) (Extends-refl _)

    new_held : IsHeld (adding s ths) c
    new_held = record {
      within = subst (λ n. IsDefinitionIn (length s.names) (length s.types) n c)
          (ap (λ n. length qs + n) (sym (length-map ths f)) ∙ sym (length-append qs (map f ths))) p.within;
      theorems = p.numbered;
    }

    new : definition_at u c ≡ d
    new = definition_stays (adding s ths) u (Extends-refl _) (Extends-refl _) same_theorems c new_held.within

    definitions : map (definition_at u) (held.definitions ++ c ∷ []) ≡ s.definitions ++ d ∷ []
    definitions = map-push (definition_at u) held.definitions c ∙ (λ j. older j ++ new j ∷ [])

    state : state_of ns t more ≡ accepting s ths c
    state = λ i. record s { theorems = theorems_more i; assumptions = assumed i; definitions = definitions i }

    premise : (e : Definition Name) → IsFine names s.assumptions s.definitions e → HasPremise names e
    premise (ConDef n x) fine = tt
    premise (ListDef ps q) fine =
        accepted-sound names tells_names s.assumptions s.definitions
        (λ i r h. subst (IsSequent names) (get_or_from_slice_get s.assumptions i r r h)
        (k.sound.assumptions i r (slice_get_within s.assumptions i r h))) k.sound.accepted q fine.derivable
    premise (TyDef n abs rep vs q) fine =
        accepted-sound names tells_names s.assumptions s.definitions
        (λ i r h. subst (IsSequent names) (get_or_from_slice_get s.assumptions i r r h)
        (k.sound.assumptions i r (slice_get_within s.assumptions i r h))) k.sound.accepted q fine.derivable

    own_theorems : All (IsTheorem names s.assumptions (s.definitions ++ d ∷ [])) (theorems names d)
    own_theorems i e h = defined-theorem names tells_names s.assumptions s.definitions d p.next.fine
        (premise d p.next.fine) i _ (slice_get-get_or (theorems names d) i e h)

    new_theorems : All (IsTheorem names s.assumptions (s.definitions ++ d ∷ [])) (map f ths)
    new_theorems =
        subst (All (IsTheorem names s.assumptions (s.definitions ++ d ∷ []))) (sym p.made)
        (All-append (IsTheorem names s.assumptions (s.definitions ++ d ∷ [])) (theorems names d) p.further
        own_theorems (p.follow own_theorems))

    sound : IsSoundState (accepting s ths c)
    sound = record {
      theorems =
          All-append (IsTheorem names s.assumptions (s.definitions ++ d ∷ [])) qs (map f ths)
          (λ i e h. grown-theorem names (Extends-refl s.assumptions) (Extends-append s.definitions (d ∷ [])) _
          (k.sound.theorems i e h))
          new_theorems;
      assumptions = k.sound.assumptions;
      accepted = accepted-push names s.assumptions s.definitions d k.sound.accepted p.next;
      names = k.sound.names;
      apart = k.sound.apart;
    }

    signature : IsSignature ns (s.definitions ++ d ∷ []) more.signature
    signature = record {
      symbols = record {
        defined = members_more (defined names) s.definitions d _ _ k.signature.symbols.defined
            (named_more ns k.names s refl held.signature.defined defs (defined names d) p.defined_below
            p.symbols_defined);
        used = members_more (used names) s.definitions d _ _ k.signature.symbols.used
            (named_more ns k.names s refl held.signature.used uses (used names d) p.used_below p.symbols_used);
      };
      defined = with_symbols-all (λ x. number_of x < length ns) held.signature.defined defs k.signature.defined
          p.defined_below;
      used = with_symbols-all (λ x. number_of x < length ns) held.signature.used uses k.signature.used p.used_below;
    }

    kernel : IsKernel ns t more
    kernel = record {
      names = k.names;
      types = k.types;
      terms = k.terms;
      table = k.table;
      inside = All-append (IsInside (length t.terms)) held.theorems ths k.inside
          (subst (λ n. All (IsInside n) ths) (length-map t.terms (map_named (name_of ns))) p.inside);
      numbered = λ i e h. let l = k.numbered i e h in omega (arith, l, length-append held.theorems ths);
      accepted =
          All-push (IsHeld (state_of ns t more)) held.definitions c
          (held_stay s (state_of ns t more) (Extends-refl _) (Extends-refl _) longer held.definitions k.accepted)
          (held_stays (adding s ths) (state_of ns t more) (Extends-refl _) (Extends-refl _) same_theorems c new_held);
      signature = subst (λ el. IsSignature ns el more.signature) (sym definitions) signature;
      placed = places-grown (length t.terms) t.classes t.classes held.theorems (held.theorems ++ ths) held.assumptions
          held.places k.table.classed (Extends-refl _) (Extends-append held.theorems ths) k.numbered k.inside
          k.placed;
      sound = subst IsSoundState (sym state) sound;
    }

-- the same from the state that contracts see
pub defined_now : (ns : List Name) (t : TermTable) (held : Held) (now : State) (ths new_theorems : List Theorem)
    (c : code.Definition) (new_definitions : List code.Definition) (defs uses : List (Symbol ℕ)) (signature : Symbols)
    → state_of ns t held ≡ now → IsKernel ns t held
    → new_theorems ≡ held.theorems ++ ths → new_definitions ≡ held.definitions ++ c ∷ [] → signature
    ≡ record { defined = with_symbols held.signature.defined defs; used = with_symbols held.signature.used uses }
    → IsAcceptable now ths c defs uses
    → Defined now ns t
    (record {
      theorems = new_theorems;
      assumptions = held.assumptions;
      definitions = new_definitions;
      signature = signature;
      places = held.places;
    }) ths c
defined_now ns t held now ths new_theorems c new_definitions defs uses signature view k a b e p =
    let start = subst (λ s. IsAcceptable s ths c defs uses → Defined s ns t (more_of held ths c defs uses) ths c) view
    (defined_from ns t held ths c defs uses k) p in
    subst (λ (z : List Theorem × List code.Definition × Symbols). Defined now ns t
    (record {
      theorems = z.0;
      assumptions = held.assumptions;
      definitions = z.1;
      signature = z.2;
      places = held.places;
    }) ths c) (λ i. (sym a i, sym b i, sym e i)) start
