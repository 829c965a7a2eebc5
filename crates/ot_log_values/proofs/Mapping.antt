-- Lists of pairs, and the maps of a substitution, as they are read.
use Rattle.std.specs.Prelude.{◌≡◌, ◌<◌, ◌+◌, ℕ, length, take, Bool, true, false, nat_eq, ◌||◌}
use Rattle.std.specs.Prelude.{is_some, Option, Some, List, [], ◌∷◌, ◌++◌, map, Ok, if◌then◌else◌}
use Rattle.std.specs.Map.{lookup}
use Rattle.std.specs.List.{All, list_any}
use Rattle.std.proofs.Common.{refl, sym, ap, subst, ◌∙◌, get_or, add-one}
use Rattle.std.proofs.Math.Seq.{take-suc}
use Rattle.std.proofs.lemmas.List.{map-append}
use Rattle.std.proofs.lemmas.List.Elements.{All-nil, All-head, All-tail, All-push}
use Rattle.ot_logic.specs.Names.{Name}
use Rattle.ot_logic.specs.Naming.{names}
use Rattle.ot_logic.specs.Trees.{Ty, Variable, Tm}
use Rattle.ot_logic.specs.Hol.{TypeMap, TermMap, same_var}
use Rattle.ot_logic.specs.Rules.{has_type}
use Rattle.ot_logic.specs.Faults.{BadSubst}
use Rattle.ot_logic.specs.Answers.{◌>>=◌, unless}
use Rattle.ot_logic.specs.Table.{IsInjective}
use Rattle.ot_kernel.specs.Pairs.{with_type, with_term}
use Rattle.ot_log_nodes.specs.Items.{Item, HasName, name_at, type_at, term_at}
use Rattle.ot_log_nodes.specs.Changing.{variable_at, type_map, term_map, HasVariable, HasTypes, HasTerms}
use Rattle.ot_log_nodes.specs.declared.node.VariableNode.{VariableNode}
use Rattle.ot_log_nodes.proofs.MapLemmas.{variable_eq, same-names, same-variables}
use Rattle.ot_machine.specs.Objects.{Object, Objects, name, list, no_objects, more_objects}
use Rattle.ot_machine.specs.Places.{as_list, as_each}
use Rattle.ot_machine.specs.DefinitionLists.{definition_pair}
use Rattle.ot_machine.specs.Substitutions.{type_pair, term_pair, types_onto, terms_onto, maps_of}
use Rattle.ot_machine.specs.Parts.{Reading, or_bad}
use Rattle.ot_machine.specs.Meaning.{origin_of}
use Rattle.ot_machine.specs.declared.session.Session.{Session}
use Rattle.ot_machine.proofs.Tops.{same-ok}
use Rattle.ot_machine.proofs.ObjectKinds.{or_bad-is}
use Rattle.ot_log_values.specs.Steps.{IsNameOf, IsTypeOf, IsVariableOf}
use Rattle.ot_log_values.specs.Lists.{AreElementsOf, AreEachOf, AreMapsOf, HasPair, pair_at}
use Rattle.ot_log_values.specs.Reading.{IsOneOf, HasTypePair, type_pair_at, HasTermPair, term_pair_at}
use Rattle.ot_log_values.specs.Reading.{with_first, add_firsts, all_first}
use Rattle.ot_log_values.proofs.Listing.{two-of}
use Rattle.ot_logic.proofs.Results.{bind-ok}

-- ---- a list of two
abbrev two : Object → Object → Object
two x y = list (more_objects x (more_objects y no_objects))

module _ (s : Session) (ts : List Item) where
  pub pair-read : (step p q n : ℕ) (w : VariableNode)
      → AreElementsOf (origin_of s step) (origin_of s p ∷ origin_of s q ∷ [])
      → IsNameOf s ts p n → IsVariableOf s ts q w → IsOneOf HasPair pair_at definition_pair s ts step (n, w)
  pair-read step p q n w elements a b = record {
    has = (a.has, b.has);
    read = λ v h.
        let t = two-of _ _ _ v elements h in
        let x : t.first ≡ name (name_at ts n) = same-ok _ _ _ t.first_is a.is in
        let y = b.made.is t.second t.second_is in
        ap definition_pair t.is ∙ (λ i. definition_pair (two (x i) (y i)));
  }

  pub type_pair-read : (step p q n y : ℕ) → AreElementsOf (origin_of s step) (origin_of s p ∷ origin_of s q ∷ [])
      → IsNameOf s ts p n
      → IsTypeOf s ts q y → IsOneOf HasTypePair type_pair_at type_pair s ts step (n, y)
  type_pair-read step p q n y elements a b = record {
    has = (a.has, b.has);
    read = λ v h.
        let t = two-of _ _ _ v elements h in
        let x : t.first ≡ name (name_at ts n) = same-ok _ _ _ t.first_is a.is in
        let z = b.made.is t.second t.second_is in
        ap type_pair t.is ∙ (λ i. type_pair (two (x i) (z i)));
  }

-- ---- the first pair for each key
-- two lists that had one and the same, and got one more
pub both-pushed : {X : Type 0} (old new items pushed : List X) (x : X) → new ≡ old ++ x ∷ [] → old ≡ items
    → pushed ≡ items ++ x ∷ [] → new ≡ pushed
both-pushed old new items pushed x p e q = p ∙ ap (λ xs. xs ++ x ∷ []) e ∙ sym q

-- one pair more
module _ {K V : Type 0} (same : K → K → Bool) where
  firsts-push : (ps qs : List (K × V)) (p : K × V) → add_firsts same ps (qs ++ p ∷ [])
      ≡ with_first same (add_firsts same ps qs) p
  firsts-push ps [] p = refl
  firsts-push ps (q ∷ qs) p = firsts-push (with_first same ps q) qs p

  pub firsts-next : (ps : List (K × V)) (k : ℕ) (p : K × V) → k < length ps → p ≡ get_or ps k p
      → with_first same (add_firsts same [] (take k ps)) p ≡ add_firsts same [] (take (k + 1) ps)
  firsts-next ps k p h item =
      let next : take (k + 1) ps ≡ take k ps ++ p ∷ [] =
      rw (add-one, take-suc ps k p h) (ap (λ q. take k ps ++ q ∷ []) (sym item)) in
      sym (ap (add_firsts same []) next ∙ firsts-push [] (take k ps) p)

or-some : {V : Type 0} (b c : Bool) (x : V) (r : Option V) → c ≡ is_some r
    → (b || c) ≡ is_some (if b then Some x else r)
or-some true c x r e = refl
or-some false c x r e = e

map-first : {X Y : Type 0} (f : X → Y) (b : Bool) (ps : List X) (p : X)
    → map f (if b then ps else ps ++ p ∷ []) ≡ (if b then map f ps else map f ps ++ f p ∷ [])
map-first f true ps p = refl
map-first f false ps p = map-append f ps (p ∷ [])

all-first : {X : Type 0} (P : X → Type 0) (b : Bool) (ps : List X) (p : X) → All P ps → P p
    → All P (if b then ps else ps ++ p ∷ [])
all-first P true ps p h one = h
all-first P false ps p h one = All-push P ps p h one

abbrev fold_types : TypeMap names → List (Name × Ty Name) → TypeMap names
fold_types m [] = m
fold_types m (p ∷ ps) = fold_types (with_type m p.0 p.1) ps

abbrev fold_terms : TermMap names → List (Variable Name × Tm Name) → TermMap names
fold_terms m [] = m
fold_terms m (p ∷ ps) = fold_terms (with_term m p.0 p.1) ps

module _ (ts : List Item) (once : IsInjective ts) where
  any-types : (n : ℕ) (ps : List (ℕ × ℕ)) → HasName ts n → HasTypes ts ps
      → list_any (λ p. names.same (name_at ts n) p.0) (type_map ts ps) ≡ is_some (lookup (nat_eq n) ps)
  any-types n [] g h = refl
  any-types n (p ∷ ps) g h =
      let rest = any-types n ps g (All-tail (HasTypePair ts) p ps h) in
      let same = same-names ts once n p.0 g (All-head (HasTypePair ts) p ps h).0 in
      ap (λ b. b || list_any (λ p. names.same (name_at ts n) p.0) (type_map ts ps)) same
      ∙ or-some (nat_eq n p.0) _ p.1 (lookup (nat_eq n) ps) rest

  any-terms : (v : VariableNode) (ps : List (VariableNode × ℕ)) → HasVariable ts v → HasTerms ts ps
      → list_any (λ p. same_var names (variable_at ts v) p.0) (term_map ts ps) ≡ is_some (lookup (variable_eq v) ps)
  any-terms v [] g h = refl
  any-terms v (p ∷ ps) g h =
      let rest = any-terms v ps g (All-tail (HasTermPair ts) p ps h) in
      let same = same-variables ts once v p.0 g (All-head (HasTermPair ts) p ps h).0 in
      ap (λ b. b || list_any (λ p. same_var names (variable_at ts v) p.0) (term_map ts ps)) same
      ∙ or-some (variable_eq v p.0) _ p.1 (lookup (variable_eq v) ps) rest

  type-first : (ps : List (ℕ × ℕ)) (p : ℕ × ℕ) → HasTypes ts ps → HasTypePair ts p
      → type_map ts (with_first nat_eq ps p) ≡ with_type (type_map ts ps) (name_at ts p.0) (type_at ts p.1)
  type-first ps p h one =
      map-first (λ (p : ℕ × ℕ). (name_at ts p.0, type_at ts p.1)) (is_some (lookup (nat_eq p.0) ps)) ps p
      ∙ ap (λ b. if b then type_map ts ps else type_map ts ps ++ (name_at ts p.0, type_at ts p.1) ∷ [])
      (sym (any-types p.0 ps one.0 h))

  term-first : (ps : List (VariableNode × ℕ)) (p : VariableNode × ℕ) → HasTerms ts ps → HasTermPair ts p
      → term_map ts (with_first variable_eq ps p) ≡ with_term (term_map ts ps) (variable_at ts p.0) (term_at ts p.1)
  term-first ps p h one =
      map-first (λ (p : VariableNode × ℕ). (variable_at ts p.0, term_at ts p.1))
      (is_some (lookup (variable_eq p.0) ps)) ps p
      ∙ ap (λ b. if b then term_map ts ps else term_map ts ps ++ (variable_at ts p.0, term_at ts p.1) ∷ [])
      (sym (any-terms p.0 ps one.0 h))

  types-firsts : (qs ps : List (ℕ × ℕ)) → HasTypes ts ps → HasTypes ts qs
      → HasTypes ts (add_firsts nat_eq ps qs)
      × (type_map ts (add_firsts nat_eq ps qs) ≡ fold_types (type_map ts ps) (type_map ts qs))
  types-firsts [] ps h g = (h, refl)
  types-firsts (q ∷ qs) ps h g =
      let one = All-head (HasTypePair ts) q qs g in
      let rest = types-firsts qs (with_first nat_eq ps q)
      (all-first (HasTypePair ts) (is_some (lookup (nat_eq q.0) ps)) ps q h one)
      (All-tail (HasTypePair ts) q qs g) in
      (rest.0, rest.1 ∙ ap (λ m. fold_types m (type_map ts qs)) (type-first ps q h one))

  terms-firsts : (qs ps : List (VariableNode × ℕ)) → HasTerms ts ps → HasTerms ts qs
      → HasTerms ts (add_firsts variable_eq ps qs)
      × (term_map ts (add_firsts variable_eq ps qs) ≡ fold_terms (term_map ts ps) (term_map ts qs))
  terms-firsts [] ps h g = (h, refl)
  terms-firsts (q ∷ qs) ps h g =
      let one = All-head (HasTermPair ts) q qs g in
      let rest = terms-firsts qs (with_first variable_eq ps q)
      (all-first (HasTermPair ts) (is_some (lookup (variable_eq q.0) ps)) ps q h one)
      (All-tail (HasTermPair ts) q qs g) in
      (rest.0, rest.1 ∙ ap (λ m. fold_terms m (term_map ts qs)) (term-first ps q h one))

-- ---- the maps
types-read : (m : TypeMap names) (vs : Objects) (ps : List (Name × Ty Name)) → as_each type_pair vs ≡ Ok ps
    → types_onto m vs ≡ Ok (fold_types m ps)
types-read m no_objects ps e = ap (λ qs. Ok (fold_types m qs)) (same-ok _ _ _ refl e)
types-read m (more_objects v vs) ps e =
    let a = bind-ok (type_pair v) _ _ e in
    let b = bind-ok (as_each type_pair vs) _ _ a.2 in
    ap (λ (r : Reading (Name × Ty Name)). r >>= λ p. types_onto (with_type m p.0 p.1) vs) a.1
    ∙ types-read (with_type m a.0.0 a.0.1) vs b.0 b.1
    ∙ ap (λ qs. Ok (fold_types m qs)) (same-ok _ _ _ refl b.2)

terms-read : (m : TermMap names) (vs : Objects) (ps : List (Variable Name × Tm Name)) (r : TermMap names)
    → as_each term_pair vs ≡ Ok ps
    → terms_onto m vs ≡ Ok r → r ≡ fold_terms m ps
terms-read m no_objects ps r e h = sym (same-ok _ _ _ refl h) ∙ ap (fold_terms m) (same-ok _ _ _ refl e)
terms-read m (more_objects v vs) ps r e h =
    let a = bind-ok (term_pair v) _ _ e in
    let b = bind-ok (as_each term_pair vs) _ _ a.2 in
    let g = sym
    (ap (λ (r : Reading (Variable Name × Tm Name)). r >>= λ p. unless BadSubst (has_type names p.1 p.0.ty)
    >>= λ _. terms_onto
    (with_term m p.0 p.1) vs) a.1) ∙ h in
    let c = bind-ok (unless BadSubst (has_type names a.0.1 a.0.0.ty)) _ _ g in
    terms-read (with_term m a.0.0 a.0.1) vs b.0 r b.1 c.2 ∙ ap (fold_terms m) (same-ok _ _ _ refl b.2)

list-read : {A : Type 0} (read : Objects → Reading A) (v w : Object) (x : A) → v ≡ w → (as_list v >>= read) ≡ Ok x
    → (as_list w >>= read) ≡ Ok x
list-read read v w x e h = subst (λ u. (as_list u >>= read) ≡ Ok x) e h

-- a list that reads as this, by its elements
elements-read : {A : Type 0} (read : Objects → Reading A) (v : Object) (vs : Objects) (x : A) → as_list v ≡ Ok vs
    → (as_list v >>= read) ≡ Ok x → read vs ≡ Ok x
elements-read read v vs x e h = sym (ap (λ r. r >>= read) e) ∙ h

all-types : (ts : List Item) → IsInjective ts → (types : List (ℕ × ℕ)) (m : TypeMap names) (vs : Objects)
    → HasTypes ts types
    → types_onto [] vs ≡ Ok m → as_each type_pair vs ≡ Ok (type_map ts types)
    → m ≡ type_map ts (all_first nat_eq types)
all-types ts once types m vs has onto read =
    let same : type_map ts (add_firsts nat_eq [] types) ≡ fold_types [] (type_map ts types) =
    (types-firsts ts once types []
    (All-nil (HasTypePair ts)) has).1 in
    same-ok _ _ _ onto (types-read [] vs (type_map ts types) read) ∙ sym same

all-terms : (ts : List Item) → IsInjective ts → (terms : List (VariableNode × ℕ)) (m : TermMap names) (vs : Objects)
    → HasTerms ts terms
    → terms_onto [] vs ≡ Ok m → as_each term_pair vs ≡ Ok (term_map ts terms)
    → m ≡ term_map ts (all_first variable_eq terms)
all-terms ts once terms m vs has onto read =
    let same : term_map ts (add_firsts variable_eq [] terms) ≡ fold_terms [] (term_map ts terms) =
    (terms-firsts ts once terms []
    (All-nil (HasTermPair ts)) has).1 in
    terms-read [] vs (term_map ts terms) m read onto ∙ sym same

-- what the maps of a list of two are made of
record AreMade (first second : Object) (maps : TypeMap names × TermMap names) : Type 0 where
  types : Objects
  terms : Objects
  types_are : as_list first ≡ Ok types
  terms_are : as_list second ≡ Ok terms
  types_made : types_onto [] types ≡ Ok maps.0
  terms_made : terms_onto [] terms ≡ Ok maps.1

maps-made : (first second : Object) (maps : TypeMap names × TermMap names)
    → maps_of (more_objects first (more_objects second no_objects)) ≡ Ok maps → AreMade first second maps
maps-made first second maps e =
    let a = bind-ok (or_bad BadSubst (as_list first)) _ _ e in
    let b = bind-ok (or_bad BadSubst (as_list second)) _ _ a.2 in
    let c = bind-ok (types_onto [] a.0) _ _ b.2 in
    let d = bind-ok (terms_onto [] b.0) _ _ c.2 in
    let same : (c.0, d.0) ≡ maps = same-ok (Ok (c.0, d.0)) (c.0, d.0) maps refl d.2 in
    record {
      types = a.0;
      terms = b.0;
      types_are = or_bad-is BadSubst (as_list first) a.0 a.1;
      terms_are = or_bad-is BadSubst (as_list second) b.0 b.1;
      types_made = c.1 ∙ (λ i. Ok (same i).0);
      terms_made = d.1 ∙ (λ i. Ok (same i).1);
    }

pub maps-read : (s : Session) (ts : List Item) → IsInjective ts
    → (step p q : ℕ) (types : List (ℕ × ℕ)) (terms : List (VariableNode × ℕ))
    → AreElementsOf (origin_of s step) (origin_of s p ∷ origin_of s q ∷ [])
    → AreEachOf HasTypePair type_pair_at type_pair s ts p types
    → AreEachOf HasTermPair term_pair_at term_pair s ts q terms
    → AreMapsOf s ts step (all_first nat_eq types) (all_first variable_eq terms)
maps-read s ts once step p q types terms elements h g = record {
  has_types = (types-firsts ts once types [] (All-nil (HasTypePair ts)) h.has).0;
  has_terms = (terms-firsts ts once terms [] (All-nil (HasTermPair ts)) g.has).0;
  read = λ v maps is reads.
      let t = two-of _ _ _ v elements is in
      let m = maps-made t.first t.second maps (list-read maps_of v (two t.first t.second) maps t.is reads) in
      let ps = elements-read (as_each type_pair) t.first m.types (type_map ts types) m.types_are
      (h.read.is t.first t.first_is) in
      let qs = elements-read (as_each term_pair) t.second m.terms
      (term_map ts terms) m.terms_are (g.read.is t.second t.second_is) in
      let x : maps.0 ≡ type_map ts (all_first nat_eq types) =
      all-types ts once types maps.0 m.types h.has m.types_made ps in
      let y : maps.1 ≡ term_map ts (all_first variable_eq terms) =
      all-terms ts once terms maps.1 m.terms g.has m.terms_made qs in
      λ i. (x i, y i);
}
