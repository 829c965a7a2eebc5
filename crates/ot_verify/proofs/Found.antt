-- What the numbers that a record names stand for, against what the record asked for.
use Rattle.std.specs.List.{All}
use Rattle.std.proofs.Common.{◌≡◌, ℕ, List, [], ◌∷◌, map, slice_get, Option, Some, None, refl, sym, ap, ◌∙◌, subst}
use Rattle.std.proofs.lemmas.List.Elements.{All-nil, All-cons}
use Rattle.ot_logic.specs.Names.{Name}
use Rattle.ot_logic.specs.Trees.{Ty, MoreTys, Variable, Tm}
use Rattle.ot_log_format.specs.Records.{arguments}
use Rattle.ot_log_nodes.specs.Items.{Item, HasName, HasType, HasTerm, name_at, type_at, types_at, term_at}
use Rattle.ot_log_nodes.specs.Changing.{variable_at, type_map, term_map, HasVariable, HasTypes, HasTerms}
use Rattle.ot_log_nodes.specs.declared.node.VariableNode.{VariableNode}
use Rattle.ot_log_nodes.proofs.ItemLemmas.{name-is, has-name}
use Rattle.ot_log_rules.specs.Definitions.{pairs_at, HasPairs, names_at}
use Rattle.ot_verify.specs.Asking.{IsAt, AreEach}
use Rattle.ot_verify.specs.Logged.{LogView, IsNamed, IsVariable, IsTypePair, IsTermPair, IsConstantPair}
use Rattle.ot_verify.specs.Finding.{IsFoundVariable, IsFoundTypePair, IsFoundTermPair, IsFoundConstantPair}
use Rattle.ot_verify.specs.Held.{view_of}
use Rattle.ot_verify.specs.declared.log.Log.TheInside.{Inside}
use Rattle.ot_verify.specs.declared.operand.NamedType.{NamedType}
use Rattle.ot_verify.specs.declared.operand.TermPair.{TermPair}
use Rattle.ot_verify.specs.declared.operand.ConstantPair.{ConstantPair}
use Rattle.ot_verify.proofs.Logging.{map-none, held_of, IsKept, named-here}
use Rattle.ot_verify.proofs.Logging.{type-here, term-here, typed-here, held-here}

-- ---- one for one
module _ {X Y A : Type 0} (R : X → Y → Type 0) (S : X → A → Type 0) where
  each-same : (f : Y → A) → ((x : X) (y : Y) (a : A) → R x y → S x a → f y ≡ a)
      → (xs : List X) (ys : List Y) (zs : List A)
      → AreEach R xs ys → AreEach S xs zs → map f ys ≡ zs
  each-same f same [] [] [] g h = refl
  each-same f same [] (y ∷ ys) zs g h = absurd g
  each-same f same [] [] (z ∷ zs) g h = absurd h
  each-same f same (x ∷ xs) [] zs g h = absurd g
  each-same f same (x ∷ xs) (y ∷ ys) [] g h = absurd h
  each-same f same (x ∷ xs) (y ∷ ys) (z ∷ zs) g h =
      let head = same x y z g.0 h.0 in
      let tail = each-same f same xs ys zs g.1 h.1 in
      λ i. head i ∷ tail i

  each-found : ((x : X) (a : A) → S x a → (y : Y) × R x y) → (xs : List X) (zs : List A) → AreEach S xs zs
      → (ys : List Y) × AreEach R xs ys
  each-found found [] [] h = ([], tt)
  each-found found [] (z ∷ zs) h = absurd h
  each-found found (x ∷ xs) [] h = absurd h
  each-found found (x ∷ xs) (z ∷ zs) h =
      let (y, r) = found x z h.0 in
      let (ys, rs) = each-found found xs zs h.1 in
      (y ∷ ys, (r, rs))

each-all : {X Y : Type 0} (R : X → Y → Type 0) (P : Y → Type 0) → ((x : X) (y : Y) → R x y → P y)
    → (xs : List X) (ys : List Y)
    → AreEach R xs ys → All P ys
each-all R P all [] [] g = All-nil P
each-all R P all [] (y ∷ ys) g = absurd g
each-all R P all (x ∷ xs) [] g = absurd g
each-all R P all (x ∷ xs) (y ∷ ys) g = All-cons P y ys (all x y g.0) (each-all R P all xs ys g.1)

-- what stands at a place of the list that a list stands for
at-back : {X A : Type 0} (f : X → A) (xs : List X) (i : ℕ) (a : A) → slice_get (map f xs) i ≡ Some a
    → (x : X) × (slice_get xs i ≡ Some x)
at-back {X} f xs i a h = by (slice_get xs i) refl
  where
    by : (o : Option X) → slice_get xs i ≡ o → (x : X) × (slice_get xs i ≡ Some x)
    by None e = absurd (map-none f xs i a e h)
    by (Some x) e = (x, e)

pub types-as : (ts : List Item) (ids : List ℕ) → types_at ts ids ≡ arguments (map (type_at ts) ids)
types-as ts [] = refl
types-as ts (i ∷ is) = ap (MoreTys (type_at ts i)) (types-as ts is)

module _ (l : Inside) (now : LogView) (is : view_of l.nodes (held_of l) ≡ now) (k : IsKept l.nodes l) where
  abbrev ts : List Item
  ts = l.nodes

  -- the table's types and terms, of those that were made
  type-back : (i : ℕ) (t : Ty Name) → slice_get now.state.types i ≡ Some t
      → (id : ℕ) × (slice_get l.types.items i ≡ Some id)
  type-back i t h =
      at-back (type_at ts) l.types.items i t (subst (λ (v : LogView). slice_get v.state.types i ≡ Some t) (sym is) h)

  term-back : (i : ℕ) (t : Tm Name) → slice_get now.state.terms i ≡ Some t
      → (id : ℕ) × (slice_get l.terms.items i ≡ Some id)
  term-back i t h =
      at-back (term_at ts) l.terms.items i t (subst (λ (v : LogView). slice_get v.state.terms i ≡ Some t) (sym is) h)

  -- ---- types and terms by their places
  pub types-found : (ps : List ℕ) (ids : List ℕ) (us : List (Ty Name)) → AreEach (IsAt l.types.items) ps ids
      → AreEach (IsAt now.state.types) ps us → map (type_at ts) ids ≡ us
  types-found = each-same (IsAt l.types.items) (IsAt now.state.types) (type_at ts)
      (λ i id t g h. type-here l now is i id t g h)

  pub types-there : (ps : List ℕ) (us : List (Ty Name)) → AreEach (IsAt now.state.types) ps us
      → (ids : List ℕ) × AreEach (IsAt l.types.items) ps ids
  types-there = each-found (IsAt l.types.items) (IsAt now.state.types) type-back

  pub types-held : (ps ids : List ℕ) → AreEach (IsAt l.types.items) ps ids → All (HasType ts) ids
  types-held = each-all (IsAt l.types.items) (HasType ts) (λ i id g. typed-here l k i id g)

  pub terms-found : (ps : List ℕ) (ids : List ℕ) (us : List (Tm Name)) → AreEach (IsAt l.terms.items) ps ids
      → AreEach (IsAt now.state.terms) ps us → map (term_at ts) ids ≡ us
  terms-found = each-same (IsAt l.terms.items) (IsAt now.state.terms) (term_at ts)
      (λ i id t g h. term-here l now is i id t g h)

  pub terms-there : (ps : List ℕ) (us : List (Tm Name)) → AreEach (IsAt now.state.terms) ps us
      → (ids : List ℕ) × AreEach (IsAt l.terms.items) ps ids
  terms-there = each-found (IsAt l.terms.items) (IsAt now.state.terms) term-back

  pub terms-held : (ps ids : List ℕ) → AreEach (IsAt l.terms.items) ps ids → All (HasTerm ts) ids
  terms-held = each-all (IsAt l.terms.items) (HasTerm ts) (λ i id g. held-here l k i id g)

  -- ---- names and variables
  pub names-found : (ids : List ℕ) (ns : List Name) → AreEach (IsNamed now) ids ns → names_at ts ids ≡ ns
  names-found [] [] h = refl
  names-found [] (n ∷ ns) h = absurd h
  names-found (i ∷ ids) [] h = absurd h
  names-found (i ∷ ids) (n ∷ ns) h =
      let head = name-is ts i n (named-here l now is i n h.0) in
      let tail = names-found ids ns h.1 in
      λ j. head j ∷ tail j

  pub names-held : (ids : List ℕ) (ns : List Name) → AreEach (IsNamed now) ids ns → All (HasName ts) ids
  names-held [] [] h = All-nil (HasName ts)
  names-held [] (n ∷ ns) h = absurd h
  names-held (i ∷ ids) [] h = absurd h
  names-held (i ∷ ids) (n ∷ ns) h =
      All-cons (HasName ts) i ids (has-name ts i n (named-here l now is i n h.0)) (names-held ids ns h.1)

  pub variable-found : (x : NamedType) (v : VariableNode) (w : Variable Name) → IsFoundVariable ts l.types.items x v
      → IsVariable now x w → variable_at ts v ≡ w
  variable-found x v w g h =
      let name = ap (name_at ts) g.name ∙ name-is ts x.name w.name (named-here l now is x.name w.name h.0) in
      let type = type-here l now is x.ty v.ty w.ty g.ty h.1 in
      λ i. record { name = name i; ty = type i }

  pub variable-there : (x : NamedType) (w : Variable Name) → IsVariable now x w
      → (v : VariableNode) × IsFoundVariable ts l.types.items x v
  variable-there x w h =
      let (id, e) = type-back x.ty w.ty h.1 in (
        record { name = x.name; ty = id },
        record { known = has-name ts x.name w.name (named-here l now is x.name w.name h.0); name = refl; ty = e },
      )

  pub variable-held : (x : NamedType) (v : VariableNode) → IsFoundVariable ts l.types.items x v → HasVariable ts v
  variable-held x v g = (subst (HasName ts) (sym g.name) g.known, typed-here l k x.ty v.ty g.ty)

  -- ---- pairs
  pub type_pairs-found : (xs : List NamedType) (ps : List (ℕ × ℕ)) (s : List (Name × Ty Name))
      → AreEach (IsFoundTypePair ts l.types.items) xs ps → AreEach (IsTypePair now) xs s → type_map ts ps ≡ s
  type_pairs-found =
      each-same (IsFoundTypePair ts l.types.items) (IsTypePair now) (λ p. (name_at ts p.0, type_at ts p.1))
      (λ x p q g h.
      let v = variable-found x (record { name = p.0; ty = p.1 }) (record { name = q.0; ty = q.1 }) g h in
      λ i. ((v i).name, (v i).ty))

  pub type_pairs-there : (xs : List NamedType) (s : List (Name × Ty Name)) → AreEach (IsTypePair now) xs s
      → (ps : List (ℕ × ℕ)) × AreEach (IsFoundTypePair ts l.types.items) xs ps
  type_pairs-there =
      each-found (IsFoundTypePair ts l.types.items) (IsTypePair now)
      (λ x q h. let (v, g) = variable-there x (record { name = q.0; ty = q.1 }) h in ((v.name, v.ty), g))

  pub type_pairs-held : (xs : List NamedType) (ps : List (ℕ × ℕ)) → AreEach (IsFoundTypePair ts l.types.items) xs ps
      → HasTypes ts ps
  type_pairs-held =
      each-all (IsFoundTypePair ts l.types.items) (λ p. HasName ts p.0 × HasType ts p.1)
      (λ x p g. variable-held x (record { name = p.0; ty = p.1 }) g)

  pub term_pairs-found : (xs : List TermPair) (ps : List (VariableNode × ℕ)) (m : List (Variable Name × Tm Name))
      → AreEach (IsFoundTermPair ts l.types.items l.terms.items) xs ps → AreEach (IsTermPair now) xs m
      → term_map ts ps ≡ m
  term_pairs-found =
      each-same (IsFoundTermPair ts l.types.items l.terms.items)
      (IsTermPair now) (λ p. (variable_at ts p.0, term_at ts p.1)) (λ x p q g h.
      let v = variable-found x.variable p.0 q.0 g.0 h.0 in let t = term-here l now is x.term p.1 q.1 g.1 h.1 in
      λ i. (v i, t i))

  pub term_pairs-there : (xs : List TermPair) (m : List (Variable Name × Tm Name)) → AreEach (IsTermPair now) xs m
      → (ps : List (VariableNode × ℕ)) × AreEach (IsFoundTermPair ts l.types.items l.terms.items) xs ps
  term_pairs-there = each-found (IsFoundTermPair ts l.types.items l.terms.items) (IsTermPair now) (λ x q h.
      let (v, g) = variable-there x.variable q.0 h.0 in let (id, e) = term-back x.term q.1 h.1 in ((v, id), (g, e)))

  pub term_pairs-held : (xs : List TermPair) (ps : List (VariableNode × ℕ))
      → AreEach (IsFoundTermPair ts l.types.items l.terms.items) xs ps → HasTerms ts ps
  term_pairs-held =
      each-all (IsFoundTermPair ts l.types.items l.terms.items) (λ p. HasVariable ts p.0 × HasTerm ts p.1)
      (λ x p g. (variable-held x.variable p.0 g.0, held-here l k x.term p.1 g.1))

  pub constant_pairs-found : (xs : List ConstantPair) (ps : List (ℕ × VariableNode))
      (qs : List (Name × Variable Name))
      → AreEach (IsFoundConstantPair ts l.types.items) xs ps → AreEach (IsConstantPair now) xs qs
      → pairs_at ts ps ≡ qs
  constant_pairs-found =
      each-same (IsFoundConstantPair ts l.types.items) (IsConstantPair now)
      (λ p. (name_at ts p.0, variable_at ts p.1)) (λ x p q g h.
      let n = ap (name_at ts) g.1 ∙ name-is ts x.constant q.0 (named-here l now is x.constant q.0 h.0) in
      let v = variable-found x.variable p.1 q.1 g.2 h.1 in λ i. (n i, v i))

  pub constant_pairs-there : (xs : List ConstantPair) (qs : List (Name × Variable Name))
      → AreEach (IsConstantPair now) xs qs
      → (ps : List (ℕ × VariableNode)) × AreEach (IsFoundConstantPair ts l.types.items) xs ps
  constant_pairs-there = each-found (IsFoundConstantPair ts l.types.items) (IsConstantPair now) (λ x q h.
      let (v, g) = variable-there x.variable q.1 h.1 in
      ((x.constant, v), (has-name ts x.constant q.0 (named-here l now is x.constant q.0 h.0), refl, g)))

  pub constant_pairs-held : (xs : List ConstantPair) (ps : List (ℕ × VariableNode))
      → AreEach (IsFoundConstantPair ts l.types.items) xs ps → HasPairs ts ps
  constant_pairs-held =
      each-all (IsFoundConstantPair ts l.types.items) (λ p. HasName ts p.0 × HasVariable ts p.1)
      (λ x p g. (subst (HasName ts) (sym g.1) g.0, variable-held x.variable p.1 g.2))
