-- A changed term, by its node.
use Rattle.std.specs.Prelude.{◌==◌, if◌then◌else◌}
use Rattle.std.specs.Map.{lookup}
use Rattle.std.proofs.Common.{◌≡◌, ℕ, Bool, true, false, cond, List, None, Some}
use Rattle.std.proofs.Common.{BuildHasherDefault, FoldHasher, refl, sym, ap, subst, ◌∙◌}
use Rattle.indexmap.specs.IndexMap.{IndexMap}
use Rattle.ot_logic.specs.Names.{Name}
use Rattle.ot_logic.specs.Naming.{names}
use Rattle.ot_logic.specs.Table.{Extends, IsInjective}
use Rattle.ot_logic.specs.Trees.{Ty, Tm, Free, Con, Bound, App, Abs}
use Rattle.ot_logic.specs.Hol.{inst, same_var, term_at as image_at}
use Rattle.ot_log_nodes.specs.Items.{Item, TermItem, IsType, IsTerm, HasName, HasTerm, name_at, type_at, term_at}
use Rattle.ot_log_nodes.specs.Changing.{Changing, Closing, Opening, Putting, changed, retyped, inner, inner_of}
use Rattle.ot_log_nodes.specs.Changing.{opened_at, variable_at, type_map, term_map, changing, HasVariable}
use Rattle.ot_log_nodes.specs.Changing.{HasTerms, HasChange, AreInstances, AreChanged, AreRetyped, IsDone}
use Rattle.ot_log_nodes.specs.declared.node.VariableNode.{VariableNode}
use Rattle.ot_log_nodes.specs.declared.table.change.Change.{Change}
use Rattle.ot_log_nodes.specs.declared.table.change.Change.TheVariants as change
use Rattle.ot_log_nodes.specs.declared.table.change.Done.{Done}
use Rattle.ot_log_nodes.proofs.ItemLemmas.{name-stays, term-stays, type-is, term-is}
use Rattle.ot_log_nodes.proofs.ItemLemmas.{has-type, still-name}
use Rattle.ot_log_nodes.proofs.MapLemmas.{changing-stays, done-now, term_map-stays, still-terms_of}
use Rattle.ot_log_nodes.proofs.MapLemmas.{variable_eq, same-variables, term-none, term-some}

-- ---- a change goes to the parts
changed-app : (c : Changing) (k : ℕ) (f x : Tm Name) → changed c k (App f x) ≡ App (changed c k f) (changed c k x)
changed-app (Closing v) k f x = refl
changed-app (Opening u) k f x = refl
changed-app (Putting s m) k f x = refl

changed-abs : (c : Changing) (k : ℕ) (t : Ty Name) (b : Tm Name)
    → changed c k (Abs t b) ≡ Abs (retyped c t) (changed c (inner c k) b)
changed-abs (Closing v) k t b = refl
changed-abs (Opening u) k t b = refl
changed-abs (Putting s m) k t b = refl

changed-con : (c : Changing) (k : ℕ) (n : Name) (t : Ty Name) → changed c k (Con n t) ≡ Con n (retyped c t)
changed-con (Closing v) k n t = refl
changed-con (Opening u) k n t = refl
changed-con (Putting s m) k n t = refl

inner-is : (ts : List Item) (c : Change) (k : ℕ) → inner_of c k ≡ inner (changing ts c) k
inner-is ts (change.Close v) k = refl
inner-is ts (change.Open u) k = refl
inner-is ts (change.Put s m) k = refl

module _ (ts us ws : List Item) (c : Change) (has : HasChange ts c) (k id : ℕ) where
  pub changed-application : (f x g y : ℕ) → term_at ts id ≡ App (term_at ts f) (term_at ts x) → HasTerm ts x
      → Extends ts us → Extends us ws → IsTerm us g (changed (changing ts c) k (term_at ts f))
      → IsTerm ws y (changed (changing us c) k (term_at us x))
      → App (term_at ws g) (term_at ws y) ≡ changed (changing ts c) k (term_at ts id)
  changed-application f x g y tree here d e is_f is_x =
      let left : term_at ws g ≡ changed (changing ts c) k (term_at ts f) = term-is ws g _ (e.keeps g _ is_f) in
      let same = changing-stays ts us d c has in
      let part = term-stays ts us d x here in
      let right : term_at ws y ≡ changed (changing ts c) k (term_at ts x) = term-is ws y _ is_x
      ∙ (λ i. changed (same i) k (part i)) in
      (λ i. App (left i) (right i)) ∙ sym (changed-app (changing ts c) k (term_at ts f) (term_at ts x))
      ∙ ap (changed (changing ts c) k) (sym tree)

  pub changed-abstraction : (t b u y : ℕ) → term_at ts id ≡ Abs (type_at ts t) (term_at ts b) → HasTerm ts b
      → Extends ts us → Extends us ws → IsType us u (retyped (changing ts c) (type_at ts t))
      → IsTerm ws y (changed (changing us c) (inner_of c k) (term_at us b))
      → Abs (type_at ws u) (term_at ws y) ≡ changed (changing ts c) k (term_at ts id)
  changed-abstraction t b u y tree here d e is_t is_b =
      let left : type_at ws u ≡ retyped (changing ts c) (type_at ts t) = type-is ws u _ (e.keeps u _ is_t) in
      let same = changing-stays ts us d c has in
      let part = term-stays ts us d b here in
      let depth = inner-is ts c k in
      let right : term_at ws y ≡ changed (changing ts c) (inner (changing ts c) k) (term_at ts b) =
      term-is ws y _ is_b ∙ (λ i. changed (same i) (depth i) (part i)) in
      (λ i. Abs (left i) (right i)) ∙ sym (changed-abs (changing ts c) k (type_at ts t) (term_at ts b))
      ∙ ap (changed (changing ts c) k) (sym tree)

  pub changed-constant : (n t u : ℕ) → term_at ts id ≡ Con (name_at ts n) (type_at ts t) → HasName ts n
      → Extends ts us → IsType us u (retyped (changing ts c) (type_at ts t)) → Con (name_at us n) (type_at us u)
      ≡ changed (changing ts c) k (term_at ts id)
  changed-constant n t u tree here d is_t =
      let name = name-stays ts us d n here in
      let type : type_at us u ≡ retyped (changing ts c) (type_at ts t) = type-is us u _ is_t in
      (λ i. Con (name i) (type i)) ∙ sym (changed-con (changing ts c) k (name_at ts n) (type_at ts t))
      ∙ ap (changed (changing ts c) k) (sym tree)

-- a place
pub changed-place : (ts : List Item) (c : Change) (k j id : ℕ) → HasChange ts c → HasTerm ts id
    → term_at ts id ≡ Bound j → IsTerm ts (opened_at c k j id) (changed (changing ts c) k (term_at ts id))
changed-place ts (change.Close v) k j id has here tree =
    here ∙ ap (λ t. Some (TermItem t)) (tree ∙ ap (changed (changing ts (change.Close v)) k) (sym tree))
changed-place ts (change.Put s m) k j id has here tree =
    here ∙ ap (λ t. Some (TermItem t)) (tree ∙ ap (changed (changing ts (change.Put s m)) k) (sym tree))
changed-place ts (change.Open u) k j id has here tree =
    subst (λ t. IsTerm ts (if j == k then u else id) (changed (Opening (term_at ts u)) k t)) (sym tree) (by (j == k))
  where
    by : (b : Bool) → IsTerm ts (cond b u id) (cond b (term_at ts u) (Bound j))
    by true = has
    by false = here ∙ ap (λ t. Some (TermItem t)) tree

-- ---- a free variable
pub closed-variable : (ts : List Item) → IsInjective ts → (c : Change) (v w : VariableNode) (k : ℕ)
    → c ≡ change.Close w → HasChange ts c → HasVariable ts v → variable_eq v w ≡ true
    → Bound k ≡ changed (changing ts c) k (Free (variable_at ts v))
closed-variable ts one c v w k is has here e =
    let test : same_var names (variable_at ts v) (variable_at ts w) ≡ true =
    same-variables ts one v w here (subst (HasChange ts) is has) ∙ e in
    sym (ap (λ c. changed (changing ts c) k (Free (variable_at ts v))) is
    ∙ ap (λ b. cond b (Bound k) (Free (variable_at ts v))) test)

pub other-variable : (ts : List Item) → IsInjective ts → (c : Change) (v w : VariableNode) (k id : ℕ)
    → c ≡ change.Close w → HasChange ts c → HasVariable ts v → variable_eq v w ≡ false
    → IsTerm ts id (Free (variable_at ts v)) → IsTerm ts id (changed (changing ts c) k (Free (variable_at ts v)))
other-variable ts one c v w k id is has here e term =
    let test : same_var names (variable_at ts v) (variable_at ts w) ≡ false =
    same-variables ts one v w here (subst (HasChange ts) is has) ∙ e in
    term ∙ ap (λ t. Some (TermItem t))
    (sym (ap (λ c. changed (changing ts c) k (Free (variable_at ts v))) is
    ∙ ap (λ b. cond b (Bound k) (Free (variable_at ts v))) test))

-- ---- a free variable that a substitution holds, or not: its type has an instance in the table us
module _ (ts us : List Item) (d : Extends ts us) (one : IsInjective us) (c : Change) (v : VariableNode)
    (types : List (ℕ × ℕ)) (terms : List (VariableNode × ℕ))
    (is : changing ts c ≡ Putting (type_map ts types) (term_map ts terms)) (has : HasTerms ts terms)
    (here : HasVariable ts v) (ty : ℕ)
    (instance : IsType us ty (inst names (type_map ts types) (type_at ts v.ty))) where
  abbrev variable : VariableNode
  variable = record { name = v.name; ty = ty }

  known : HasVariable us variable
  known = (still-name ts us d v.name here.0, has-type us ty _ instance)

  image : variable_at us variable
      ≡ record { name = name_at ts v.name; ty = inst names (type_map ts types) (type_at ts v.ty) }
  image =
      let name = name-stays ts us d v.name here.0 in
      let type = type-is us ty _ instance in
      λ i. record { name = name i; ty = type i }

  map : term_map us terms ≡ term_map ts terms
  map = term_map-stays ts us d terms has

  whole : (k : ℕ) → changed (changing ts c) k (Free (variable_at ts v)) ≡ image_at names (term_map us terms)
      (variable_at us variable)
  whole k = ap (λ c. changed c k (Free (variable_at ts v))) is ∙ (λ i. image_at names (sym map i) (sym image i))

  pub put-variable : (k r : ℕ) → lookup (variable_eq variable) terms ≡ Some r
      → IsTerm us r (changed (changing ts c) k (Free (variable_at ts v)))
  put-variable k r p =
      let found = term-some us one variable r terms known (still-terms_of ts us d terms has) p in
      found.0 ∙ ap (λ t. Some (TermItem t)) (sym (whole k ∙ found.1))

  pub free-variable : (k : ℕ) → lookup (variable_eq variable) terms ≡ None
      → Free (record { name = name_at us v.name; ty = type_at us ty })
      ≡ changed (changing ts c) k (Free (variable_at ts v))
  free-variable k p = sym (whole k ∙ term-none us one variable terms known (still-terms_of ts us d terms has) p)

-- what is remembered after a type was worked on
pub done-retyped : (ts us : List Item) (d : Extends ts us) (c : Change)
    (s : IndexMap ℕ ℕ (BuildHasherDefault FoldHasher)) (m : IndexMap VariableNode ℕ (BuildHasherDefault FoldHasher))
    (old new : Done) → c ≡ change.Put s m → HasChange ts c → IsDone ts (changing ts c) old → new.terms ≡ old.terms
    → AreInstances us (type_map us s.entries) new.types.entries
    → IsDone us (changing us c) new
done-retyped ts us d c s m old new is has h same known =
    let before = done-now ts us d c old has h in
    record {
      types = subst (λ c. AreRetyped us (changing us c) new.types.entries) (sym is) known;
      terms = subst (λ t. AreChanged us (changing us c) t.entries) (sym same) before.terms;
    }
