-- Terms and types that were made while the table grew.
use Rattle.std.specs.List.{All}
use Rattle.std.proofs.Common.{◌≡◌, ℕ, ◌+◌, ◌<◌, List, [], ◌∷◌, ◌++◌, map, length, get_or, take, refl, sym, ap, ◌∙◌}
use Rattle.std.proofs.lemmas.List.{map_more, map-append}
use Rattle.ot_logic.specs.Names.{Name}
use Rattle.ot_logic.specs.Naming.{names}
use Rattle.ot_logic.specs.Table.{Extends}
use Rattle.ot_logic.specs.Trees.{Ty, Tys, TyVar, NoTys, MoreTys, Tm, Con, Variable}
use Rattle.ot_logic.specs.Hol.{tys_of_vars, constants_for}
use Rattle.ot_log_nodes.specs.Items.{Item, HasName, HasType, HasTerm, IsType, IsTerm, name_at, type_at, types_at, term_at}
use Rattle.ot_log_nodes.specs.Changing.{changed, changing, variable_at, term_map, HasVariable, HasTerms, HasChange}
use Rattle.ot_log_nodes.specs.declared.table.change.Change.{Change}
use Rattle.ot_log_nodes.specs.declared.node.VariableNode.{VariableNode}
use Rattle.ot_log_nodes.proofs.ItemLemmas.{type-is, term-is, has-type, has-term}
use Rattle.ot_log_nodes.proofs.ItemLemmas.{name-stays, type-stays, types-stay, term-stays}
use Rattle.ot_log_nodes.proofs.MapLemmas.{variable-stays, still-variable, term_map-stays, changing-stays}
use Rattle.ot_log_rules.specs.Definitions.{pairs_at, names_at}
use Rattle.ot_log_rules.specs.Statements.{terms_at}
use Rattle.ot_log_rules.proofs.Staying.{terms-stay}

module _ (us vs : List Item) (e : Extends us vs) where
  pub later-term : (id : ℕ) (t : Tm Name) → IsTerm us id t → term_at vs id ≡ t
  later-term id t h = term-is vs id t (e.keeps id _ h)

  pub later-has : (id : ℕ) (t : Tm Name) → IsTerm us id t → HasTerm vs id
  later-has id t h = has-term vs id t (e.keeps id _ h)

  pub later-type : (id : ℕ) (t : Ty Name) → IsType us id t → type_at vs id ≡ t
  later-type id t h = type-is vs id t (e.keeps id _ h)

  pub later-typed : (id : ℕ) (t : Ty Name) → IsType us id t → HasType vs id
  later-typed id t h = has-type vs id t (e.keeps id _ h)

-- ---- a type variable more
abbrev join : Tys Name → Ty Name → Tys Name
join NoTys t = MoreTys t NoTys
join (MoreTys u us) t = MoreTys u (join us t)

types-join : (ts : List Item) (is : List ℕ) (i : ℕ) → types_at ts (is ++ i ∷ [])
    ≡ join (types_at ts is) (type_at ts i)
types-join ts [] i = refl
types-join ts (j ∷ is) i = ap (MoreTys (type_at ts j)) (types-join ts is i)

vars-join : (ns : List Name) (n : Name) → tys_of_vars names (ns ++ n ∷ []) ≡ join (tys_of_vars names ns) (TyVar n)
vars-join [] n = refl
vars-join (m ∷ ns) n = ap (MoreTys (TyVar m)) (vars-join ns n)

pub vars-next : (ts us vs : List Item) → Extends ts us → Extends us vs → (ns : List ℕ) (k n i : ℕ) (is js : List ℕ)
    → k < length ns → n ≡ get_or ns k n → HasName ts n → All (HasType us) is
    → types_at us is ≡ tys_of_vars names (names_at ts (take k ns)) → IsType vs i (TyVar (name_at us n))
    → js ≡ is ++ i ∷ [] → types_at vs js ≡ tys_of_vars names (names_at ts (take (k + 1) ns))
vars-next ts us vs e f ns k n i is js h item has kept before made pushed =
    let stay = types-stay us vs f is kept in
    let last : type_at vs i ≡ TyVar (name_at ts n) = type-is vs i _ made ∙ ap TyVar (name-stays ts us e n has) in
    ap (types_at vs) pushed ∙ types-join vs is i ∙ (λ j. join ((stay ∙ before) j) (last j))
    ∙ sym (ap (tys_of_vars names)
    (map_more (name_at ts) ns k n h ∙ ap (λ m. names_at ts (take k ns) ++ name_at ts m ∷ []) (sym item))
    ∙ vars-join (names_at ts (take k ns)) (name_at ts n))

-- ---- a constant for a variable more
pub constants-next : (ts us vs : List Item) → Extends ts us → Extends us vs
    → (ps : List (ℕ × VariableNode)) (k : ℕ) (p : ℕ × VariableNode) (id : ℕ) (es fs : List (VariableNode × ℕ))
    → k < length ps → p ≡ get_or ps k p → HasName ts p.0 → HasVariable ts p.1 → HasTerms us es
    → term_map us es ≡ constants_for names (pairs_at ts (take k ps))
    → IsTerm vs id (Con (name_at us p.0) (type_at us p.1.ty)) → fs ≡ es ++ (p.1, id) ∷ []
    → term_map vs fs ≡ constants_for names (pairs_at ts (take (k + 1) ps))
constants-next ts us vs e f ps k p id es fs h item name variable kept before made pushed =
    let stay = term_map-stays us vs f es kept in
    let var : variable_at vs p.1 ≡ variable_at ts p.1 =
    variable-stays us vs f p.1 (still-variable ts us e p.1 variable) ∙ variable-stays ts us e p.1 variable in
    let con : term_at vs id ≡ Con (name_at ts p.0) (type_at ts p.1.ty) = term-is vs id _ made
    ∙ (λ j. Con (name-stays ts us e p.0 name j) (type-stays ts us e p.1.ty variable.1 j)) in
    ap (term_map vs) pushed ∙ map-append (λ (q : VariableNode × ℕ). (variable_at vs q.0, term_at vs q.1)) es
    ((p.1, id) ∷ []) ∙ (λ j. (stay ∙ before) j ++ (var j, con j) ∷ [])
    ∙ sym (ap (constants_for names)
    (map_more (λ (q : ℕ × VariableNode). (name_at ts q.0, variable_at ts q.1)) ps k p h
    ∙ ap (λ (q : ℕ × VariableNode). pairs_at ts (take k ps) ++ (name_at ts q.0, variable_at ts q.1) ∷ [])
    (sym item)) ∙ map-append (λ (q : Name × Variable Name). (q.1, Con q.0 q.1.ty)) (pairs_at ts (take k ps))
    ((name_at ts p.0, variable_at ts p.1) ∷ []))

-- ---- a changed term more
pub changed-next : (ts us vs : List Item) → Extends ts us → Extends us vs → (c : Change) → HasChange ts c
    → (ids : List ℕ) (k i r : ℕ) (is js : List ℕ) → k < length ids → i ≡ get_or ids k i → HasTerm ts i
    → All (HasTerm us) is
    → terms_at us is ≡ map (changed (changing ts c) 0) (terms_at ts (take k ids))
    → IsTerm vs r (changed (changing us c) 0 (term_at us i)) → js ≡ is ++ r ∷ []
    → terms_at vs js ≡ map (changed (changing ts c) 0) (terms_at ts (take (k + 1) ids))
changed-next ts us vs e f c change ids k i r is js h item has kept before made pushed =
    let stay = terms-stay us vs f is kept in
    let last : term_at vs r ≡ changed (changing ts c) 0 (term_at ts i) = term-is vs r _ made
    ∙ (λ j. changed (changing-stays ts us e c change j) 0 (term-stays ts us e i has j)) in
    ap (terms_at vs) pushed ∙ map-append (term_at vs) is (r ∷ []) ∙ (λ j. (stay ∙ before) j ++ last j ∷ [])
    ∙ sym (ap (map (changed (changing ts c) 0))
    (map_more (term_at ts) ids k i h ∙ ap (λ m. terms_at ts (take k ids) ++ term_at ts m ∷ []) (sym item))
    ∙ map-append (changed (changing ts c) 0) (terms_at ts (take k ids)) (term_at ts i ∷ []))
