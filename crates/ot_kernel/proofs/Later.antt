-- A call that leaves a kernel's theorems as they are, and what the numbers that it takes stand for after it.
use Rattle.std.specs.Prelude.{◌≡◌, ℕ, ◌<◌, ◌≤◌, max, suc, List, [], ◌∷◌, map}
use Rattle.std.specs.Prelude.{length, slice_index_or, nat_eq, ◌&&◌, Some}
use Rattle.std.specs.List.{All}
use Rattle.std.proofs.Common.{refl, sym, ap, ◌∙◌, subst, arith}
use mathlib.Core.Path.{PathP}
use Rattle.std.proofs.lemmas.Option.{slice_get-get_or}
use Rattle.std.proofs.lemmas.List.Elements.{All-head, All-tail}
use Rattle.std.proofs.lemmas.List.{length-map}
use Rattle.ot_logic.specs.Names.{Name}
use Rattle.ot_logic.specs.Trees.{Alphabet, Ty, TyVar, Variable, Tm, Bound, Named, NConst, Sequent}
use Rattle.ot_logic.specs.Hol.{same_ty, same_var, IsWellTyped, TypeMap, TermMap}
use Rattle.ot_logic.specs.NamedTerms.{nameless, named_type}
use Rattle.ot_logic.specs.Naming.{names, numbers, name_of, IsNameTable}
use Rattle.ot_logic.specs.Renamed.{map_ty, map_variable, map_tm, map_named, map_sequent}
use Rattle.ot_logic.proofs.Line.{IsLettering, Line, letters, over_list, over_ty, over_tm, over_variable, over_sequent}
use Rattle.ot_logic.proofs.Lift.{map_types, map_terms, over_types, over_terms}
use Rattle.ot_logic.proofs.Naming.{naming, lettering}
use Rattle.ot_logic.proofs.TableLemmas.{Extends-refl, get_or-Extends}
use Rattle.ot_logic.specs.Rules.{has_type}
use Rattle.ot_alpha.proofs.Comparison.{same_type}
use Rattle.ot_type.specs.TypeTable.{type_at as type_tree, images}
use Rattle.ot_term.specs.Term.{TermTable}
use Rattle.ot_term.specs.TermTable as terms
use Rattle.ot_term.specs.declared.term.VarKey.{VarKey}
use Rattle.ot_subst.specs.Substitution.{Substitution, same_key, type_part, variable_part}
use Rattle.ot_subst.specs.Walk.{IsLater}
use Rattle.ot_laws.specs.Theorem.{IsTheorem}
use Rattle.ot_laws.proofs.Tests.{tells_numbers}
use Rattle.ot_laws.proofs.Typing.{type-nameless}
use Rattle.ot_kernel.specs.declared.theorem.Theorem.{Theorem}
use Rattle.ot_kernel.specs.declared.kernel.Kernel.TheInside.{Inside}
use Rattle.ot_kernel.specs.State.{State, name_at, type_at, variable_at, term_at}
use Rattle.ot_kernel.specs.State.{terms_at, theorem_at, Keeps, SameTheorems}
use Rattle.ot_kernel.specs.Spelled.{Held, sequent_of, state_of, IsInside, IsKernel}
use Rattle.ot_kernel.specs.Numbered.{tm_at, tms_at, numbered_sequent, IsGrownBy}
use Rattle.ot_kernel.specs.Pairs.{type_pairs, term_pairs, AreTypePairs, IsSubstIn}
use Rattle.ot_kernel.proofs.Growth.{Grown, grown, terms_grown, names_grown}
use Rattle.ot_kernel.proofs.Namings.{table_names}
use Rattle.ot_kernel.proofs.Numbers.{real_name, real_type}
use Rattle.ot_kernel.proofs.Theorems.{real_tm, real_theorem}

-- the tables before and after, and the states that they stand for
pub record Later (ns ms : List Name) (t u : TermTable) (held : Held) (now mid : State) : Type 0 where
  pub before : state_of ns t held ≡ now
  pub after : state_of ms u held ≡ mid
  pub old : IsKernel ns t held
  pub kernel : IsKernel ms u held
  pub grows : terms.Grows t u
  pub keeps : Keeps now mid
  pub same : SameTheorems now mid

-- the theorems, the assumptions and the definitions of a kernel
abbrev pub held_of : Inside → Held
held_of k =
    record {
      theorems = k.theorems.items;
      assumptions = k.assumptions.items;
      definitions = k.definitions.items;
      signature = k.signature;
      places = k.places;
    }

later_from : (ns ms : List Name) (t u : TermTable) (held : Held) (now : State) → state_of ns t held ≡ now
    → IsKernel ns t held → terms.Grows t u → Grown now ms u held → Later ns ms t u held now (state_of ms u held)
later_from ns ms t u held now view k g w =
    record { before = view; after = refl; old = k; kernel = w.kernel; grows = g; keeps = w.keeps; same = w.same }

-- terms may be new, of names below a bound
pub later_to : (k : ℕ) (ns : List Name) (t u : TermTable) (held : Held) (now : State) → state_of ns t held ≡ now
    → IsKernel ns t held → k ≤ length now.names → terms.IsGrownTo k t u
    → Later ns ns t u held now (state_of ns u held)
later_to k ns t u held now view kernel within g =
    let e = ap (λ (s : State). length s.names) view in
    later_from ns ns t u held now view kernel g.grows
    (terms_grown k ns t u held now view kernel g (omega (arith, within, e)))

-- terms may be new, of names of the table
pub later_terms : (n : ℕ) (ns : List Name) (t u : TermTable) (held : Held) (now : State) → state_of ns t held ≡ now
    → IsKernel ns t held → n < length now.names → IsGrownBy n t u → Later ns ns t u held now (state_of ns u held)
later_terms n ns t u held now view k within g =
    let e = ap (λ (s : State). length s.names) view in
    let first = k.names.first.longer in
    later_from ns ns t u held now view k g.grows
    (terms_grown (max (suc n) 3) ns t u held now view k g (omega (arith, within, e, first)))

-- the same of no name but those of equations
pub later_equations : (ns : List Name) (t u : TermTable) (held : Held) (now : State) → state_of ns t held ≡ now
    → IsKernel ns t held → IsGrownBy 2 t u → Later ns ns t u held now (state_of ns u held)
later_equations ns t u held now view k g =
    let e = ap (λ (s : State). length s.names) view in
    let first = k.names.first.longer in
    later_terms 2 ns t u held now view k (omega (arith, e, first)) g

-- names may be new too
pub later_names : (ns ms : List Name) (t u : TermTable) (held : Held) (now : State) → state_of ns t held ≡ now
    → IsKernel ns t held → IsLater ns ms t u → IsNameTable ms → Later ns ms t u held now (state_of ms u held)
later_names ns ms t u held now view k l first = later_from ns ms t u held now view k l.grows
    (grown ns ms t u held now view k l.extends first l.grows l.table l.names.types l.names.terms)

-- nothing is new
pub unchanged : (ns : List Name) (t : TermTable) (held : Held) (now : State) → state_of ns t held ≡ now
    → IsKernel ns t held → Later ns ns t t held now now
unchanged ns t held now view k =
    let g = names_grown ns ns t held now view k (Extends-refl ns) k.names in
    let p = subst (λ s. Keeps now s × SameTheorems now s) view (g.keeps, g.same) in
    record {
      before = view;
      after = view;
      old = k;
      kernel = k;
      grows = record {
        types = Extends-refl t.types;
        terms = Extends-refl t.terms;
        classes = Extends-refl t.classes;
      };
      keeps = p.0;
      same = p.1;
    }

module _ {ns ms : List Name} {t u : TermTable} {held : Held} {now mid : State}
    (l : Later ns ms t u held now mid) where
  -- ---- lengths
  pub types_within : (i : ℕ) → i < length now.types → i < length t.types
  types_within i h = let e = ap (λ (s : State). length s.types) l.before in
      omega (arith, e, length-map t.types (map_ty (name_of ns)))

  pub terms_within : (i : ℕ) → i < length now.terms → i < length t.terms
  terms_within i h = let e = ap (λ (s : State). length s.terms) l.before in
      omega (arith, e, length-map t.terms (map_named (name_of ns)))

  pub now_within : (i : ℕ) → i < length t.terms → i < length now.terms
  now_within i h = let e = ap (λ (s : State). length s.terms) l.before in
      omega (arith, e, length-map t.terms (map_named (name_of ns)))

  -- ---- what a number stands for, over numbers and over names
  pub spelled_name : (i : ℕ) → i < length now.names → name_of ms i ≡ name_at now i
  spelled_name i h = real_name ms u held mid l.after l.kernel i (omega (arith, l.keeps.names.longer))
      ∙ get_or-Extends now.names mid.names l.keeps.names i [] h

  spelled_type : (i : ℕ) → i < length now.types → map_ty (name_of ms) (type_tree t.types i) ≡ type_at now i
  spelled_type i h =
      ap (map_ty (name_of ms)) (sym (get_or-Extends t.types u.types l.grows.types i (TyVar 0) (types_within i h)))
      ∙ real_type ms u held mid l.after l.kernel i (omega (arith, l.keeps.types.longer))
      ∙ get_or-Extends now.types mid.types l.keeps.types i (TyVar []) h

  spelled_variable : (v : VarKey) → v.name < length now.names → v.ty < length now.types
      → map_variable (name_of ms) (terms.variable_of t.types v) ≡ variable_at now v
  spelled_variable v h g = let a = spelled_name v.name h in let b = spelled_type v.ty g in
      λ i. record { name = a i; ty = b i }

  spelled_tm : (i : ℕ) → i < length now.terms → map_tm (name_of ms) (tm_at t.terms i) ≡ term_at now i
  spelled_tm i h =
      ap (λ (n : Named ℕ). map_tm (name_of ms) (nameless numbers n))
      (sym (get_or-Extends t.terms u.terms l.grows.terms i (NConst 0 (TyVar 0)) (terms_within i h)))
      ∙ real_tm ms u held mid l.after l.kernel i (omega (arith, l.keeps.terms.longer))
      ∙ ap (nameless names) (get_or-Extends now.terms mid.terms l.keeps.terms i (NConst [] (TyVar [])) h)

  spelled_tms : (is : List ℕ) → All (λ i. i < length now.terms) is → map (map_tm (name_of ms)) (tms_at t.terms is)
      ≡ terms_at now is
  spelled_tms [] h = refl
  spelled_tms (i ∷ is) h =
      let a = spelled_tm i (All-head (λ i. i < length now.terms) i is h) in
      let b = spelled_tms is (All-tail (λ i. i < length now.terms) i is h) in
      λ j. a j ∷ b j

  pub term_typed : (i : ℕ) → i < length now.terms → IsWellTyped names (term_at now i)
  term_typed i h =
      let w = terms_within i h in
      let typed = l.old.table.typed i (terms.term_at t.terms i) (slice_get-get_or t.terms i (NConst 0 (TyVar 0)) w) in
      let numbered : IsWellTyped numbers (tm_at t.terms i) =
      (typed.0, type-nameless numbers tells_numbers (terms.term_at t.terms i) ∙ typed.1) in
      subst (IsWellTyped names) (spelled_tm i h)
      (coe 0 1 (j. IsWellTyped (letters (naming ms) numbers names (lettering ms (table_names ms l.kernel.names))
      j) (over_tm (naming ms) (tm_at t.terms i) j)) numbered)

  -- ---- theorems
  -- the theorem of a number
  pub record IsHeld (i : ℕ) (th : Theorem) : Type 0 where
    pub within : i < length now.theorems
    pub at : th ≡ slice_index_or held.theorems i th

  -- read from the list of theorems
  pub held_at : (i n : ℕ) (th : Theorem) → i < length now.theorems → th ≡ slice_index_or held.theorems n th → n ≡ i
      → IsHeld i th
  held_at i n th h p e = record { within = h; at = p ∙ ap (λ j. slice_index_or held.theorems j th) e }

  pub inside_held : (i : ℕ) (th : Theorem) → IsHeld i th → IsInside (length t.terms) th
  inside_held i th h =
      let e = ap (λ (s : State). length s.theorems) l.before in
      let f = length-map held.theorems (sequent_of (state_of ns t held).terms) in
      subst (IsInside (length t.terms)) (sym h.at) (l.old.inside i th (omega (arith, e, f, h.within)))

  spelled_sequent : (i : ℕ) (th : Theorem) → IsHeld i th → map_sequent (name_of ms) (numbered_sequent t.terms th)
      ≡ theorem_at now i
  spelled_sequent i th h =
      let inside = inside_held i th h in
      let a = spelled_tms th.hyps (λ j x m. now_within _ (inside.hyps j x m)) in
      let b = spelled_tm th.concl (now_within th.concl inside.concl) in
      let c : ◌≡◌ {A = Sequent Name} (map_sequent (name_of ms) (numbered_sequent t.terms th))
      (record { hyps = terms_at now th.hyps; concl = term_at now th.concl }) =
      λ j. record { hyps = a j; concl = b j } in
      c ∙ real_theorem ns t held now l.before i th h.within h.at

  pub theorem_sound : (i : ℕ) → i < length now.theorems
      → IsTheorem names now.assumptions now.definitions (theorem_at now i)
  theorem_sound i h =
      (subst (λ s. All (IsTheorem names s.assumptions s.definitions) s.theorems) l.before l.old.sound.theorems) i
      (record { hyps = []; concl = Bound 0 }) h

  pub held_sound : (i : ℕ) (th : Theorem) → IsHeld i th
      → IsTheorem names now.assumptions now.definitions (theorem_at now i)
  held_sound i th h = theorem_sound i h.within

  -- ---- substitutions
  abbrev lettered : IsLettering (name_of ms) numbers names
  lettered = lettering ms (table_names ms l.kernel.names)

  spelled_types : (ps : List (ℕ × ℕ)) → AreTypePairs now ps
      → map_types (naming ms) numbers names lettered (images t.types ps) ≡ type_pairs now ps
  spelled_types [] h = refl
  spelled_types (p ∷ ps) h =
      let a = spelled_name p.0 (All-head (λ (q : ℕ × ℕ). q.0 < length now.names) p ps h.names) in
      let b = spelled_type p.1 (All-head (λ (q : ℕ × ℕ). q.1 < length now.types) p ps h.types) in
      let c = spelled_types ps
      (record {
        names = All-tail (λ (q : ℕ × ℕ). q.0 < length now.names) p ps h.names;
        types = All-tail (λ (q : ℕ × ℕ). q.1 < length now.types) p ps h.types;
      }) in
      λ j. (a j, b j) ∷ c j

  spelled_terms : (tys : List (ℕ × ℕ)) (ps : List (VarKey × ℕ))
      → All (λ p. (p.0.name < length now.names) × (p.0.ty < length now.types)) ps
      → All (λ p. p.1 < length now.terms) ps
      → map_terms (naming ms) numbers names lettered (variable_part t (record { types = tys; terms = ps }))
      ≡ term_pairs now (record { types = tys; terms = ps })
  spelled_terms tys [] h g = refl
  spelled_terms tys (p ∷ ps) h g =
      let w = All-head (λ (q : VarKey × ℕ). (q.0.name < length now.names) × (q.0.ty < length now.types)) p ps h in
      let a = spelled_variable p.0 w.0 w.1 in
      let b = spelled_tm p.1 (All-head (λ (q : VarKey × ℕ). q.1 < length now.terms) p ps g) in
      let c = spelled_terms tys ps
      (All-tail (λ (q : VarKey × ℕ). (q.0.name < length now.names) × (q.0.ty < length now.types)) p ps h)
      (All-tail (λ (q : VarKey × ℕ). q.1 < length now.terms) p ps g) in
      λ j. (a j, b j) ∷ c j

  -- ---- over the line of alphabets from numbers to names
  abbrev pub Between : 𝕀 → Type 0
  Between i = Line (naming ms) i

  abbrev pub alphabet_at : (i : 𝕀) → Alphabet (Between i)
  alphabet_at i = letters (naming ms) numbers names lettered i

  pub over-term : (i : ℕ) → i < length now.terms → PathP (λ j. Tm (Between j)) (tm_at t.terms i) (term_at now i)
  over-term i h = subst (PathP (λ j. Tm (Between j)) (tm_at t.terms i)) (spelled_tm i h)
      (over_tm (naming ms) (tm_at t.terms i))

  pub over-terms : (is : List ℕ) → All (λ i. i < length now.terms) is
      → PathP (λ j. List (Tm (Between j))) (tms_at t.terms is) (terms_at now is)
  over-terms is h = subst (PathP (λ j. List (Tm (Between j))) (tms_at t.terms is)) (spelled_tms is h)
      (over_list (λ j. Tm (Between j)) (map_tm (name_of ms)) (over_tm (naming ms)) (tms_at t.terms is))

  over-type : (i : ℕ) → i < length now.types → PathP (λ j. Ty (Between j)) (type_tree t.types i) (type_at now i)
  over-type i h = subst (PathP (λ j. Ty (Between j)) (type_tree t.types i)) (spelled_type i h)
      (over_ty (naming ms) (type_tree t.types i))

  pub over-variable : (v : VarKey) → v.name < length now.names → v.ty < length now.types
      → PathP (λ j. Variable (Between j)) (terms.variable_of t.types v) (variable_at now v)
  over-variable v h g = subst (PathP (λ j. Variable (Between j)) (terms.variable_of t.types v))
      (spelled_variable v h g) (over_variable (naming ms) (terms.variable_of t.types v))

  pub over-theorem : (i : ℕ) (th : Theorem) → IsHeld i th
      → PathP (λ j. Sequent (Between j)) (numbered_sequent t.terms th) (theorem_at now i)
  over-theorem i th h = subst (PathP (λ j. Sequent (Between j)) (numbered_sequent t.terms th))
      (spelled_sequent i th h) (over_sequent (naming ms) (numbered_sequent t.terms th))

  pub over-type_pairs : (s : Substitution) → AreTypePairs now s.types
      → PathP (λ j. TypeMap (alphabet_at j)) (type_part t s) (type_pairs now s.types)
  over-type_pairs s h = subst (PathP (λ j. TypeMap (alphabet_at j)) (type_part t s)) (spelled_types s.types h)
      (over_types (naming ms) numbers names lettered (type_part t s))

  pub over-term_pairs : (s : Substitution) → IsSubstIn now s
      → PathP (λ j. TermMap (alphabet_at j)) (variable_part t s) (term_pairs now s)
  over-term_pairs s h =
      subst (PathP (λ j. TermMap (alphabet_at j)) (variable_part t s))
      (spelled_terms s.types s.terms h.variables h.terms)
      (over_terms (naming ms) numbers names lettered (variable_part t s))

  -- ---- tests by number
  pub same_name-number : (m n : ℕ) → m < length now.names → n < length now.names
      → nat_eq m n ≡ names.same (name_at now m) (name_at now n)
  same_name-number m n h g = let a = spelled_name m h in let b = spelled_name n g in
      lettered.same m n ∙ (λ i. names.same (a i) (b i))

  same_type-number : (a b : ℕ) → a < length now.types → b < length now.types
      → nat_eq a b ≡ same_ty names (type_at now a) (type_at now b)
  same_type-number a b h g = coe 0 1 (j. nat_eq a b ≡ same_ty (alphabet_at j) (over-type a h j) (over-type b g j))
      (same_type t.types a b l.old.table.types (types_within a h) (types_within b g))

  pub same_variable-number : (v w : VarKey) → v.name < length now.names → v.ty < length now.types
      → w.name < length now.names → w.ty < length now.types
      → same_key v w ≡ same_var names (variable_at now v) (variable_at now w)
  same_variable-number v w h g m n = let a = same_name-number v.name w.name h m in
      let b = same_type-number v.ty w.ty g n in λ i. a i && b i

  -- a term has the type of its number
  pub has_type-number : (i k b : ℕ) → i < length now.terms → b < length now.types → k < length t.types
      → named_type numbers (terms.term_at t.terms i) ≡ Some (type_tree t.types k)
      → nat_eq k b ≡ has_type names (term_at now i) (type_at now b)
  has_type-number i k b h g w typed =
      coe 0 1 (j. nat_eq k b ≡ has_type (alphabet_at j) (over-term i h j) (over-type b g j))
      (same_type t.types k b l.old.table.types w (types_within b g) ∙ sym numbered)
    where
      numbered : has_type numbers (tm_at t.terms i) (type_tree t.types b) ≡ same_ty numbers (type_tree t.types k)
          (type_tree t.types b)
      numbered = rw (type-nameless numbers tells_numbers (terms.term_at t.terms i) ∙ typed) refl
