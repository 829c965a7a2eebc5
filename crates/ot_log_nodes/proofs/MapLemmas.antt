-- A change of terms in a table that grows, and what is remembered of it.
use Rattle.std.specs.Prelude.{nat_le}
use Rattle.std.specs.Map.{lookup}
use Rattle.std.specs.Bool.{OnTrue}
use Rattle.std.proofs.lemmas.Bool.{leb-true, and_parts}
use Rattle.ot_log_format.specs.Walks.{loose, has_free}
use Rattle.ot_log_format.proofs.Walking.{open-kept, close-kept}
use Rattle.std.proofs.Common.{◌≡◌, ℕ, suc, Bool, true, false, ◌&&◌, cond, nat_eq, eqb-true, eq-eqb, true≢false}
use Rattle.std.proofs.Common.{List, [], ◌∷◌, None, Some, refl, sym, ap, subst, ◌∙◌, arith}
use Rattle.std.proofs.lemmas.List.Elements.{All-head, All-tail}
use Rattle.std.proofs.lemmas.Option.{same_Some, none-some}
use Rattle.ot_logic.specs.Names.{Name, same_name, same_name-Decides}
use Rattle.ot_logic.specs.Naming.{names}
use Rattle.ot_logic.specs.Table.{Extends, IsInjective}
use Rattle.ot_logic.specs.Trees.{TyVar, Variable, Tm, Free, Con, Bound, App, Abs}
use Rattle.ot_logic.specs.Hol.{TypeMap, inst, same_ty, same_var, close_at, type_at as image_of, term_at as image_at}
use Rattle.ot_laws.proofs.Tests.{tells_names, same_ty-is}
use Rattle.ot_log_nodes.specs.Items.{Item, TypeItem, TermItem, IsType, IsTerm, HasName}
use Rattle.ot_log_nodes.specs.Items.{HasType, HasTerm, name_at, type_at, term_at}
use Rattle.ot_log_nodes.specs.Changing.{Changing, Closing, Opening, Putting, changed, variable_at, type_map}
use Rattle.ot_log_nodes.specs.Changing.{term_map, changing, HasVariable, HasTypes, HasTerms, HasChange}
use Rattle.ot_log_nodes.specs.Changing.{same_place, AreInstances, AreChanged, AreRetyped, IsDone}
use Rattle.ot_log_nodes.specs.declared.node.VariableNode.{VariableNode}
use Rattle.ot_log_nodes.specs.declared.table.change.Change.{Change}
use Rattle.ot_log_nodes.specs.declared.table.change.Change.TheVariants as change
use Rattle.ot_log_nodes.specs.declared.table.change.Place.{Place}
use Rattle.ot_log_nodes.specs.declared.table.change.Done.{Done}
use Rattle.ot_log_nodes.proofs.ItemLemmas.{name-stays, type-stays, term-stays, term-is, still-name}
use Rattle.ot_log_nodes.proofs.ItemLemmas.{still-type, still-term, name-one, type-one}

module _ (ts us : List Item) (e : Extends ts us) where
  pub variable-stays : (v : VariableNode) → HasVariable ts v → variable_at us v ≡ variable_at ts v
  variable-stays v h =
      let name = name-stays ts us e v.name h.0 in
      let type = type-stays ts us e v.ty h.1 in
      λ j. record { name = name j; ty = type j }

  pub still-variable : (v : VariableNode) → HasVariable ts v → HasVariable us v
  still-variable v h = (still-name ts us e v.name h.0, still-type ts us e v.ty h.1)

  pub type_map-stays : (es : List (ℕ × ℕ)) → HasTypes ts es → type_map us es ≡ type_map ts es
  type_map-stays [] h = refl
  type_map-stays (p ∷ es) h =
      let head = All-head (λ p. HasName ts p.0 × HasType ts p.1) p es h in
      let name = name-stays ts us e p.0 head.0 in
      let type = type-stays ts us e p.1 head.1 in
      let tail = type_map-stays es (All-tail (λ p. HasName ts p.0 × HasType ts p.1) p es h) in
      λ j. (name j, type j) ∷ tail j

  pub still-types_of : (es : List (ℕ × ℕ)) → HasTypes ts es → HasTypes us es
  still-types_of es h = λ k d within. let p = h k d within in (still-name ts us e _ p.0, still-type ts us e _ p.1)

  pub term_map-stays : (es : List (VariableNode × ℕ)) → HasTerms ts es → term_map us es ≡ term_map ts es
  term_map-stays [] h = refl
  term_map-stays (p ∷ es) h =
      let head = All-head (λ p. HasVariable ts p.0 × HasTerm ts p.1) p es h in
      let variable = variable-stays p.0 head.0 in
      let term = term-stays ts us e p.1 head.1 in
      let tail = term_map-stays es (All-tail (λ p. HasVariable ts p.0 × HasTerm ts p.1) p es h) in
      λ j. (variable j, term j) ∷ tail j

  pub still-terms_of : (es : List (VariableNode × ℕ)) → HasTerms ts es → HasTerms us es
  still-terms_of es h = λ k d within. let p = h k d within in (still-variable _ p.0, still-term ts us e _ p.1)

  -- a change stays what it is
  pub changing-stays : (c : Change) → HasChange ts c → changing us c ≡ changing ts c
  changing-stays (change.Close v) h = ap Closing (variable-stays v h)
  changing-stays (change.Open u) h = ap Opening (term-stays ts us e u h)
  changing-stays (change.Put s m) h =
      let types = type_map-stays s.entries h.0 in
      let terms = term_map-stays m.entries h.1 in
      λ j. Putting (types j) (terms j)

  pub still-change : (c : Change) → HasChange ts c → HasChange us c
  still-change (change.Close v) h = still-variable v h
  still-change (change.Open u) h = still-term ts us e u h
  still-change (change.Put s m) h = (still-types_of s.entries h.0, still-terms_of m.entries h.1)

  -- what is remembered stays right
  pub instances-grown : (s : TypeMap names) (es : List (ℕ × ℕ)) → AreInstances ts s es → AreInstances us s es
  instances-grown s es h = record {
    known = λ k v p.
        let r = h.known k v p in (
          still-type ts us e k r.0,
          e.keeps v _ r.1
              ∙ ap (λ t. Some (TypeItem (inst names s t))) (sym (type-stays ts us e k r.0)),
        );
  }

  pub retyped-grown : (c : Changing) (es : List (ℕ × ℕ)) → AreRetyped ts c es → AreRetyped us c es
  retyped-grown (Closing v) es h = tt
  retyped-grown (Opening u) es h = tt
  retyped-grown (Putting s m) es h = instances-grown s es h

  pub changed-grown : (c : Changing) (es : List (Place × ℕ)) → AreChanged ts c es → AreChanged us c es
  changed-grown c es h = record {
    known = λ p r q.
        let k = h.known p r q in (
          still-term ts us e p.id k.0,
          e.keeps r _ k.1
              ∙ ap (λ t. Some (TermItem (changed c p.depth t))) (sym (term-stays ts us e p.id k.0)),
        );
  }

  pub done-grown : (c : Changing) (d : Done) → IsDone ts c d → IsDone us c d
  done-grown c d h =
      record { types = retyped-grown c d.types.entries h.types; terms = changed-grown c d.terms.entries h.terms }

-- one instance more
pub instances-insert : (ts : List Item) (s : TypeMap names) (old new : List (ℕ × ℕ)) (k v : ℕ) → AreInstances ts s old
    → HasType ts k → IsType ts v (inst names s (type_at ts k))
    → ((q : ℕ) → lookup (nat_eq q) new ≡ cond (nat_eq k q) (Some v) (lookup (nat_eq q) old)) → AreInstances ts s new
instances-insert ts s old new k v h here is after =
    record { known = λ q w p. by q w (nat_eq k q) refl (sym (after q) ∙ p) }
  where
    by : (q w : ℕ) (b : Bool) → nat_eq k q ≡ b → cond (nat_eq k q) (Some v) (lookup (nat_eq q) old) ≡ Some w
        → HasType ts q × IsType ts w (inst names s (type_at ts q))
    by q w true e p =
        let same : k ≡ q = eqb-true k q e in
        let value : v ≡ w = same_Some v w (sym (ap (λ b. cond b (Some v) (lookup (nat_eq q) old)) e) ∙ p) in (
          subst (HasType ts) same here,
          subst (λ w. IsType ts w (inst names s (type_at ts q))) value
              (subst (λ q. IsType ts v (inst names s (type_at ts q))) same is),
        )
    by q w false e p = h.known q w (sym (ap (λ b. cond b (Some v) (lookup (nat_eq q) old)) e) ∙ p)

-- one changed term more
pub changed-insert : (ts : List Item) (c : Changing) (old new : List (Place × ℕ)) (p : Place) (r : ℕ)
    → AreChanged ts c old → HasTerm ts p.id → IsTerm ts r (changed c p.depth (term_at ts p.id))
    → ((q : Place) → lookup (same_place q) new ≡ cond (same_place p q) (Some r) (lookup (same_place q) old))
    → AreChanged ts c new
changed-insert ts c old new p r h here is after =
    record { known = λ q s known. by q s (same_place p q) refl (sym (after q) ∙ known) }
  where
    by : (q : Place) (s : ℕ) (b : Bool) → same_place p q ≡ b → cond (same_place p q) (Some r)
        (lookup (same_place q) old) ≡ Some s → HasTerm ts q.id × IsTerm ts s (changed c q.depth (term_at ts q.id))
    by q s true e known =
        let parts = and_parts (nat_eq p.depth q.depth) (nat_eq p.id q.id) e in
        let depth : p.depth ≡ q.depth = eqb-true p.depth q.depth parts.0 in
        let id : p.id ≡ q.id = eqb-true p.id q.id parts.1 in
        let value : r ≡ s = same_Some r s (sym (ap (λ b. cond b (Some r) (lookup (same_place q) old)) e) ∙ known) in (
          subst (HasTerm ts) id here,
          subst (λ s. IsTerm ts s (changed c q.depth (term_at ts q.id))) value
              (is ∙ (λ j. Some (TermItem (changed c (depth j) (term_at ts (id j)))))),
        )
    by q s false e known = h.known q s (sym (ap (λ b. cond b (Some r) (lookup (same_place q) old)) e) ∙ known)

-- the test of variables
abbrev pub variable_eq : VariableNode → VariableNode → Bool
variable_eq v w = nat_eq v.name w.name && nat_eq v.ty w.ty

-- ---- the images of names and variables, by their numbers
module _ (ts : List Item) (one : IsInjective ts) where
  -- tests of numbers are those of what they stand for
  pub same-names : (i j : ℕ) → HasName ts i → HasName ts j → same_name (name_at ts i) (name_at ts j) ≡ nat_eq i j
  same-names i j g h = by (nat_eq i j) refl
    where
      by : (b : Bool) → nat_eq i j ≡ b → same_name (name_at ts i) (name_at ts j) ≡ b
      by true e = (same_name-Decides (name_at ts i) (name_at ts j)).1 (ap (name_at ts) (eqb-true i j e))
      by false e = other (same_name (name_at ts i) (name_at ts j)) refl
        where
          other : (b : Bool) → same_name (name_at ts i) (name_at ts j) ≡ b → b ≡ false
          other true p =
              absurd (true≢false
              (sym (eq-eqb i j (name-one ts one i j g h ((same_name-Decides (name_at ts i) (name_at ts j)).0 p)))
              ∙ e))
          other false p = refl

  pub image-none : (n : ℕ) (es : List (ℕ × ℕ)) → HasName ts n → HasTypes ts es → lookup (nat_eq n) es ≡ None
      → image_of names (type_map ts es) (name_at ts n) ≡ TyVar (name_at ts n)
  image-none n [] g h p = refl
  image-none n (e ∷ es) g h p =
      by (nat_eq n e.0) refl p (image-none n es g (All-tail (λ p. HasName ts p.0 × HasType ts p.1) e es h))
    where
      head : HasName ts e.0 × HasType ts e.1
      head = All-head (λ p. HasName ts p.0 × HasType ts p.1) e es h

      by : (b : Bool) → nat_eq n e.0 ≡ b → cond (nat_eq n e.0) (Some e.1) (lookup (nat_eq n) es) ≡ None
          → (lookup (nat_eq n) es ≡ None → image_of names (type_map ts es) (name_at ts n) ≡ TyVar (name_at ts n))
          → image_of names (type_map ts (e ∷ es)) (name_at ts n) ≡ TyVar (name_at ts n)
      by true t p rest = let impossible : Some e.1 ≡ None = sym (ap (λ b. cond b (Some e.1) (lookup (nat_eq n) es)) t)
          ∙ p in cc
      by false t p rest =
          ap (λ b. cond b (type_at ts e.1) (image_of names (type_map ts es) (name_at ts n)))
          (same-names n e.0 g head.0 ∙ t)
          ∙ rest (sym (ap (λ b. cond b (Some e.1) (lookup (nat_eq n) es)) t) ∙ p)

  pub image-some : (n r : ℕ) (es : List (ℕ × ℕ)) → HasName ts n → HasTypes ts es → lookup (nat_eq n) es ≡ Some r
      → (HasType ts r) × (image_of names (type_map ts es) (name_at ts n) ≡ type_at ts r)
  image-some n r [] g h p = cc
  image-some n r (e ∷ es) g h p =
      by (nat_eq n e.0) refl p (image-some n r es g (All-tail (λ p. HasName ts p.0 × HasType ts p.1) e es h))
    where
      head : HasName ts e.0 × HasType ts e.1
      head = All-head (λ p. HasName ts p.0 × HasType ts p.1) e es h

      by : (b : Bool) → nat_eq n e.0 ≡ b → cond (nat_eq n e.0) (Some e.1) (lookup (nat_eq n) es) ≡ Some r
          → (lookup (nat_eq n) es ≡ Some r
          → (HasType ts r) × (image_of names (type_map ts es) (name_at ts n) ≡ type_at ts r))
          → (HasType ts r) × (image_of names (type_map ts (e ∷ es)) (name_at ts n) ≡ type_at ts r)
      by true t p rest =
          let value : e.1 ≡ r = same_Some e.1 r (sym (ap (λ b. cond b (Some e.1) (lookup (nat_eq n) es)) t) ∙ p) in (
            subst (HasType ts) value head.1,
            ap
                (λ b. cond b (type_at ts e.1) (image_of names (type_map ts es) (name_at ts n)))
                (same-names n e.0 g head.0 ∙ t) ∙ ap (type_at ts) value,
          )
      by false t p rest =
          let r = rest (sym (ap (λ b. cond b (Some e.1) (lookup (nat_eq n) es)) t) ∙ p) in (
            r.0,
            ap (λ b. cond b (type_at ts e.1) (image_of names (type_map ts es) (name_at ts n)))
                (same-names n e.0 g head.0 ∙ t) ∙ r.1,
          )

  pub same-types : (i j : ℕ) → HasType ts i → HasType ts j → same_ty names (type_at ts i) (type_at ts j) ≡ nat_eq i j
  same-types i j g h = by (nat_eq i j) refl
    where
      by : (b : Bool) → nat_eq i j ≡ b → same_ty names (type_at ts i) (type_at ts j) ≡ b
      by true e = (same_ty-is names tells_names (type_at ts i) (type_at ts j)).1 (ap (type_at ts) (eqb-true i j e))
      by false e = other (same_ty names (type_at ts i) (type_at ts j)) refl
        where
          other : (b : Bool) → same_ty names (type_at ts i) (type_at ts j) ≡ b → b ≡ false
          other true p =
              absurd (true≢false
              (sym (eq-eqb i j
              (type-one ts one i j g h ((same_ty-is names tells_names (type_at ts i) (type_at ts j)).0 p))) ∙ e))
          other false p = refl

  pub same-variables : (v w : VariableNode) → HasVariable ts v → HasVariable ts w
      → same_var names (variable_at ts v) (variable_at ts w) ≡ variable_eq v w
  same-variables v w g h = λ i. same-names v.name w.name g.0 h.0 i && same-types v.ty w.ty g.1 h.1 i

  pub term-none : (v : VariableNode) (es : List (VariableNode × ℕ)) → HasVariable ts v → HasTerms ts es
      → lookup (variable_eq v) es ≡ None → image_at names (term_map ts es) (variable_at ts v)
      ≡ Free (variable_at ts v)
  term-none v [] g h p = refl
  term-none v (e ∷ es) g h p =
      by (variable_eq v e.0) refl p (term-none v es g (All-tail (λ p. HasVariable ts p.0 × HasTerm ts p.1) e es h))
    where
      head : HasVariable ts e.0 × HasTerm ts e.1
      head = All-head (λ p. HasVariable ts p.0 × HasTerm ts p.1) e es h

      by : (b : Bool) → variable_eq v e.0 ≡ b → cond (variable_eq v e.0) (Some e.1) (lookup (variable_eq v) es) ≡ None
          → (lookup (variable_eq v) es ≡ None → image_at names (term_map ts es) (variable_at ts v) ≡ Free
          (variable_at ts v)) → image_at names (term_map ts (e ∷ es)) (variable_at ts v) ≡ Free (variable_at ts v)
      by true t p rest = let impossible : Some e.1 ≡ None =
          sym (ap (λ b. cond b (Some e.1) (lookup (variable_eq v) es)) t) ∙ p in cc
      by false t p rest =
          ap (λ b. cond b (term_at ts e.1) (image_at names (term_map ts es) (variable_at ts v)))
          (same-variables v e.0 g head.0 ∙ t)
          ∙ rest (sym (ap (λ b. cond b (Some e.1) (lookup (variable_eq v) es)) t) ∙ p)

  pub term-some : (v : VariableNode) (r : ℕ) (es : List (VariableNode × ℕ)) → HasVariable ts v → HasTerms ts es
      → lookup (variable_eq v) es ≡ Some r
      → (HasTerm ts r) × (image_at names (term_map ts es) (variable_at ts v) ≡ term_at ts r)
  term-some v r [] g h p = cc
  term-some v r (e ∷ es) g h p =
      by (variable_eq v e.0) refl p (term-some v r es g (All-tail (λ p. HasVariable ts p.0 × HasTerm ts p.1) e es h))
    where
      head : HasVariable ts e.0 × HasTerm ts e.1
      head = All-head (λ p. HasVariable ts p.0 × HasTerm ts p.1) e es h

      by : (b : Bool) → variable_eq v e.0 ≡ b → cond (variable_eq v e.0) (Some e.1) (lookup (variable_eq v) es)
          ≡ Some r
          → (lookup (variable_eq v) es ≡ Some r
          → (HasTerm ts r) × (image_at names (term_map ts es) (variable_at ts v) ≡ term_at ts r))
          → (HasTerm ts r) × (image_at names (term_map ts (e ∷ es)) (variable_at ts v) ≡ term_at ts r)
      by true t p rest =
          let value : e.1 ≡ r =
          same_Some e.1 r (sym (ap (λ b. cond b (Some e.1) (lookup (variable_eq v) es)) t) ∙ p) in (
            subst (HasTerm ts) value head.1,
            ap
                (λ b. cond b (term_at ts e.1) (image_at names (term_map ts es) (variable_at ts v)))
                (same-variables v e.0 g head.0 ∙ t) ∙ ap (term_at ts) value,
          )
      by false t p rest =
          let r = rest (sym (ap (λ b. cond b (Some e.1) (lookup (variable_eq v) es)) t) ∙ p) in (
            r.0,
            ap (λ b. cond b (term_at ts e.1) (image_at names (term_map ts es) (variable_at ts v)))
                (same-variables v e.0 g head.0 ∙ t) ∙ r.1,
          )

-- ---- parts that a change leaves as they are
pub close-stays : (ts : List Item) (c : Change) (v : VariableNode) (k : ℕ) (t : Tm Name) → c ≡ change.Close v
    → has_free t ≡ false → changed (changing ts c) k t ≡ t
close-stays ts c v k t is e = ap (λ c. changed (changing ts c) k t) is ∙ close-kept names (variable_at ts v) k t e

-- a variable that isn't closed at one depth isn't at another
close-nowhere : (v : Variable Name) (k j : ℕ) (t : Tm Name) → close_at names k v t ≡ t → close_at names j v t ≡ t
close-nowhere v k j (Free w) h = by (same_var names w v) h
  where
    by : (b : Bool) → cond b (Bound k) (Free w) ≡ Free w → cond b (Bound j) (Free w) ≡ Free w
    by true e = cc
    by false e = refl
close-nowhere v k j (Con n t) h = refl
close-nowhere v k j (Bound i) h = refl
close-nowhere v k j (App f x) h =
    let left : close_at names k v f ≡ f = cc in
    let right : close_at names k v x ≡ x = cc in
    λ i. App (close-nowhere v k j f left i) (close-nowhere v k j x right i)
close-nowhere v k j (Abs t b) h =
    let body : close_at names (suc k) v b ≡ b = cc in
    λ i. Abs t (close-nowhere v (suc k) (suc j) b body i)

-- so a term that closing leaves at one depth is left at another
pub close-kept_at : (ts : List Item) (c : Change) (v : VariableNode) (k j id : ℕ) → c ≡ change.Close v
    → IsTerm ts id (changed (changing ts c) k (term_at ts id))
    → changed (changing ts c) j (term_at ts id) ≡ term_at ts id
close-kept_at ts c v k j id is h =
    let t = term_at ts id in
    let w = variable_at ts v in
    let here : close_at names k w t ≡ t = sym (ap (λ c. changed (changing ts c) k t) is) ∙ sym (term-is ts id _ h) in
    ap (λ c. changed (changing ts c) j t) is ∙ close-nowhere w k j t here

-- as is known of it
pub close-known : (ts : List Item) (c : Change) (v : VariableNode) (k id : ℕ) (d : Done) (b : Bool)
    → c ≡ change.Close v → IsDone ts (changing ts c) d
    → OnTrue b (lookup (same_place (record { depth = 0; id = id })) d.terms.entries ≡ Some id)
    → OnTrue b (changed (changing ts c) k (term_at ts id) ≡ term_at ts id)
close-known ts c v k id d true is done h =
    close-kept_at ts c v 0 k id is (done.terms.known (record { depth = 0; id = id }) id h).1
close-known ts c v k id d false is done h = tt

pub open-stays : (ts : List Item) (c : Change) (u k n : ℕ) (t : Tm Name) → c ≡ change.Open u → n ≡ loose t
    → OnTrue (nat_le n k) (changed (changing ts c) k t ≡ t)
open-stays ts c u k n t is e = by (nat_le n k) refl
  where
    by : (b : Bool) → nat_le n k ≡ b → OnTrue b (changed (changing ts c) k t ≡ t)
    by true p = let le = leb-true n k p in
        ap (λ c. changed (changing ts c) k t) is ∙ open-kept names (term_at ts u) k t (omega (arith, e, le))
    by false p = tt

-- ---- nothing was worked on
pub done-nothing : (ts : List Item) (c : Changing) (d : Done) → d.types.entries ≡ [] → d.terms.entries ≡ []
    → IsDone ts c d
done-nothing ts c d types terms = record {
  types = by c;
  terms = record { known = λ p r h. absurd (none-some r (sym (ap (lookup (same_place p)) terms) ∙ h)) };
}
  where
    by : (c : Changing) → AreRetyped ts c d.types.entries
    by (Closing v) = tt
    by (Opening u) = tt
    by (Putting s m) = record { known = λ k v h. absurd (none-some v (sym (ap (lookup (nat_eq k)) types) ∙ h)) }

-- what is remembered of types, by the table now
pub instances-now : (ts us : List Item) (e : Extends ts us) (es done : List (ℕ × ℕ)) → HasTypes ts es
    → AreInstances ts (type_map ts es) done → AreInstances us (type_map us es) done
instances-now ts us e es done pairs h = subst (λ s. AreInstances us s done) (sym (type_map-stays ts us e es pairs))
    (instances-grown ts us e (type_map ts es) done h)

-- and of a change
pub done-now : (ts us : List Item) (e : Extends ts us) (c : Change) (d : Done) → HasChange ts c
    → IsDone ts (changing ts c) d → IsDone us (changing us c) d
done-now ts us e c d has h =
    subst (λ w. IsDone us w d) (sym (changing-stays ts us e c has)) (done-grown ts us e (changing ts c) d h)
