-- What a kernel's numbers stand for stays as its tables grow.
use Rattle.std.specs.Prelude.{◌≡◌, ℕ, ◌<◌, ◌≤◌, List, [], ◌∷◌, map, length}
use Rattle.std.specs.List.{All}
use Rattle.std.proofs.Common.{refl, sym, ap, subst, arith}
use Rattle.std.proofs.lemmas.Option.{slice_get-get_or, get_or_from_slice_get}
use Rattle.std.proofs.lemmas.List.Elements.{All-head, All-tail}
use Rattle.std.proofs.lemmas.List.{length-map}
use Rattle.ot_logic.specs.Names.{Name}
use Rattle.ot_logic.specs.Trees.{TyVar, Named, NConst, Sequent, Definition}
use Rattle.ot_logic.specs.Hol.{IsSequent, Accepted}
use Rattle.ot_logic.specs.NamedTerms.{nameless}
use Rattle.ot_logic.specs.Renamed.{map_ty, map_named}
use Rattle.ot_logic.specs.Naming.{names, name_of, IsNameTable}
use Rattle.ot_logic.specs.Bounds.{names_in, names_in_terms}
use Rattle.ot_logic.specs.Table.{Extends}
use Rattle.ot_logic.proofs.TableLemmas.{Extends-refl}
use Rattle.ot_term.specs.Term.{TermTable}
use Rattle.ot_term.specs.TermTable.{Grows, IsTermTable, IsGrownTo}
use Rattle.ot_kernel.specs.declared.theorem.Theorem.{Theorem}
use Rattle.ot_kernel.specs.State.{State, named_at, Keeps, SameTheorems, AreApart}
use Rattle.ot_laws.specs.Theorem.{IsTheorem}
use Rattle.ot_kernel.specs.Spelled.{Held, sequent_of, sequents_at, undefined_state, state_of, IsInside, IsKernel}
use Rattle.ot_kernel.proofs.Placing.{places-grown}
use Rattle.ot_kernel.proofs.Accepted.{held_stay, definitions_kept, signature_kept}
use Rattle.ot_kernel.proofs.Namings.{agree_ty, agree_named, map-Extends}
use Rattle.ot_kernel.proofs.Namings.{bound_ty-get, bound_named-get, name_of-Extends}

-- ---- sequents
module _ (ts us : List (Named Name)) (e : Extends ts us) where
  pub named_at-Extends : (i : ℕ) → i < length ts → named_at us i ≡ named_at ts i
  named_at-Extends i h = get_or_from_slice_get us i _ _ (e.keeps i _ (slice_get-get_or ts i (NConst [] (TyVar [])) h))

  pub hyps-Extends : (is : List ℕ) → All (λ i. i < length ts) is → map (λ i. nameless names (named_at us i)) is
      ≡ map (λ i. nameless names (named_at ts i)) is
  hyps-Extends [] h = refl
  hyps-Extends (i ∷ is) h =
      let a = named_at-Extends i (All-head (λ i. i < length ts) i is h) in
      let b = hyps-Extends is (All-tail (λ i. i < length ts) i is h) in
      λ j. nameless names (a j) ∷ b j

  sequents-Extends : (ths : List Theorem) → All (IsInside (length ts)) ths → map (sequent_of us) ths
      ≡ map (sequent_of ts) ths
  sequents-Extends [] h = refl
  sequents-Extends (th ∷ ths) h =
      let first = All-head (IsInside (length ts)) th ths h in
      let a = hyps-Extends th.hyps first.hyps in
      let b = named_at-Extends th.concl first.concl in
      let c = sequents-Extends ths (All-tail (IsInside (length ts)) th ths h) in
      λ j. record { hyps = a j; concl = nameless names (b j) } ∷ c j

-- ---- the whole state
-- what a call leaves that makes no theorem
pub record Grown (now : State) (ms : List Name) (u : TermTable) (held : Held) : Type 0 where
  pub kernel : IsKernel ms u held
  pub keeps : Keeps now (state_of ms u held)
  pub same : SameTheorems now (state_of ms u held)

-- names, types and terms that grow leave what each number stands for
grown_from : (ns ms : List Name) (t u : TermTable) (held : Held) → IsKernel ns t held → Extends ns ms → IsNameTable ms
    → Grows t u → IsTermTable u → names_in u.types ≤ length ms → names_in_terms u.terms ≤ length ms
    → Grown (state_of ns t held) ms u held
grown_from ns ms t u held k more first g table a b = record {
  kernel = record {
    names = first;
    types = a;
    terms = b;
    table = table;
    inside = λ i th p. let h = k.inside i th p in
        record {
          hyps = λ j n q. let l = h.hyps j n q in omega (arith, g.terms.longer);
          concl = omega (arith, h.concl, g.terms.longer);
        };
    numbered = k.numbered;
    accepted = held_stay (state_of ns t held) (state_of ms u held) more types theorems held.definitions k.accepted;
    signature = signature_kept ns ms k.names first more (state_of ns t held).definitions
        (state_of ms u held).definitions held.signature defined k.signature;
    placed = places-grown (length t.terms) t.classes u.classes held.theorems held.theorems held.assumptions
        held.places k.table.classed g.classes (Extends-refl _) k.numbered k.inside k.placed;
    sound = record {
      theorems =
          subst (λ (z : List (Sequent Name) × List (Definition Name)).
          All (IsTheorem names (sequents_at z.0 held.assumptions) z.1) z.0) (λ i. (sym sequents i, sym defined i))
          k.sound.theorems;
      assumptions = subst (λ qs. All (IsSequent names) (sequents_at qs held.assumptions)) (sym sequents)
          k.sound.assumptions;
      accepted =
          subst (λ (z : List (Sequent Name) × List (Definition Name)). Accepted names
          (sequents_at z.0 held.assumptions) z.1) (λ i. (sym sequents i, sym defined i)) k.sound.accepted;
      names = first;
      apart = subst (λ qs. AreApart (sequents_at qs held.assumptions)) (sym sequents) k.sound.apart;
    };
  };
  keeps = record {
    names = more;
    types = types;
    terms = terms;
    classes = g.classes;
    theorems = theorems;
    assumptions = subst (Extends (sequents_at (map (sequent_of ts) held.theorems) held.assumptions)) (sym assumed)
        (Extends-refl _);
    definitions = subst (Extends (state_of ns t held).definitions) (sym defined) (Extends-refl _);
  };
  same = record { theorems = sequents; basis = record { assumptions = assumed; definitions = defined } };
}
  where
    f : ℕ → Name
    f = name_of ns

    f' : ℕ → Name
    f' = name_of ms

    ts : List (Named Name)
    ts = map (map_named f) t.terms

    us : List (Named Name)
    us = map (map_named f') u.terms

    agree : (i : ℕ) → i < length ns → f i ≡ f' i
    agree i h = name_of-Extends ns ms k.names first more i h

    types : Extends (map (map_ty f) t.types) (map (map_ty f') u.types)
    types = map-Extends (map_ty f) (map_ty f') t.types u.types g.types
        (λ i x p. agree_ty (length ns) f f' agree x (omega (arith, bound_ty-get t.types i x p, k.types)))

    terms : Extends ts us
    terms = map-Extends (map_named f) (map_named f') t.terms u.terms g.terms
        (λ i x p. agree_named (length ns) f f' agree x (omega (arith, bound_named-get t.terms i x p, k.terms)))

    sequents : map (sequent_of us) held.theorems ≡ map (sequent_of ts) held.theorems
    sequents =
        sequents-Extends ts us terms held.theorems
        (λ i th p. let h = k.inside i th p in
        record {
          hyps = λ j n q. let l = h.hyps j n q in omega (arith, length-map t.terms (map_named f));
          concl = omega (arith, h.concl, length-map t.terms (map_named f));
        })

    theorems : Extends (map (sequent_of ts) held.theorems) (map (sequent_of us) held.theorems)
    theorems = subst (Extends (map (sequent_of ts) held.theorems)) (sym sequents) (Extends-refl _)

    assumed : sequents_at (map (sequent_of us) held.theorems) held.assumptions
        ≡ sequents_at (map (sequent_of ts) held.theorems) held.assumptions
    assumed = ap (λ qs. sequents_at qs held.assumptions) sequents

    defined : (state_of ms u held).definitions ≡ (state_of ns t held).definitions
    defined = definitions_kept ns t held (undefined_state ms u held) k more types theorems

-- the same from the state that contracts see
pub grown : (ns ms : List Name) (t u : TermTable) (held : Held) (now : State) → state_of ns t held ≡ now
    → IsKernel ns t held → Extends ns ms → IsNameTable ms → Grows t u → IsTermTable u → names_in u.types ≤ length ms
    → names_in_terms u.terms ≤ length ms → Grown now ms u held
grown ns ms t u held now view k more first g table a b =
    subst (λ s. Grown s ms u held) view (grown_from ns ms t u held k more first g table a b)

-- a new name
pub names_grown : (ns ms : List Name) (t : TermTable) (held : Held) (now : State) → state_of ns t held ≡ now
    → IsKernel ns t held → Extends ns ms → IsNameTable ms → Grown now ms t held
names_grown ns ms t held now view k more first =
    grown ns ms t t held now view k more first
    (record { types = Extends-refl t.types; terms = Extends-refl t.terms; classes = Extends-refl t.classes })
    k.table (omega (arith, k.types, more.longer)) (omega (arith, k.terms, more.longer))

-- new types or terms, of names of the table
pub terms_grown : (j : ℕ) (ns : List Name) (t u : TermTable) (held : Held) (now : State) → state_of ns t held ≡ now
    → IsKernel ns t held → IsGrownTo j t u → j ≤ length now.names → Grown now ns u held
terms_grown j ns t u held now view k g h =
    let e = ap (λ (s : State). length s.names) view in
    grown ns ns t u held now view k (Extends-refl ns) k.names g.grows g.table
    (omega (arith, e, g.names.types, k.types)) (omega (arith, e, g.names.terms, k.types, k.terms))

-- the type of propositions, whose name is a first one
pub bool_grown : (ns : List Name) (t u : TermTable) (held : Held) (now : State) → state_of ns t held ≡ now
    → IsKernel ns t held → IsGrownTo 2 t u → Grown now ns u held
bool_grown ns t u held now view k g =
    let e = ap (λ (s : State). length s.names) view in
    terms_grown 2 ns t u held now view k g (omega (arith, e, k.names.first.longer))
