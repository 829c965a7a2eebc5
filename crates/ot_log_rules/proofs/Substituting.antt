-- Of several pairs for one key the first: as lists, and as the code collects them.
use Rattle.std.specs.Prelude.{filter, not, is_some, if◌then◌else◌}
use Rattle.std.specs.Bool.{Decides}
use Rattle.std.specs.List.{All}
use Rattle.std.specs.Map.{lookup}
use Rattle.indexmap.specs.IndexMap.{insert_entry}
use Rattle.std.proofs.Common.{◌≡◌, ℕ, Bool, true, false, ◌||◌, cond, List, [], ◌∷◌, ◌++◌}
use Rattle.std.proofs.Common.{Some, None, nat_eq, true≢false, refl, sym, ap, ◌∙◌, subst}
use Rattle.std.proofs.lemmas.List.Elements.{All-head, All-tail, All-nil, All-cons, All-filter}
use Rattle.std.proofs.lemmas.List.{append_assoc}
use Rattle.ot_logic.specs.Naming.{names}
use Rattle.ot_logic.specs.Table.{IsInjective}
use Rattle.ot_log_format.specs.Steps.{without, first_pairs, without_name, first_types}
use Rattle.ot_log_nodes.specs.Items.{Item, HasName, HasType, HasTerm, name_at, type_at, term_at}
use Rattle.ot_log_nodes.specs.Changing.{variable_at, type_map, term_map, HasVariable, HasTypes, HasTerms}
use Rattle.ot_log_nodes.specs.declared.node.VariableNode.{VariableNode}
use Rattle.ot_log_nodes.proofs.MapLemmas.{variable_eq, same-names, same-variables}
use Rattle.ot_log_rules.specs.Putting.{firsts, with_new}

-- ---- numbers and what they stand for
module _ (ts : List Item) (one : IsInjective ts) where
  has-firsts : {K V : Type 0} (P : K × V → Type 0) (same : K → K → Bool) (s : List (K × V)) → All P s
      → All P (firsts same s)
  has-firsts P same [] h = All-nil P
  has-firsts P same (p ∷ s) h = All-cons P p _ (All-head P p s h)
      (All-filter (λ q. not (same p.0 q.0)) P (firsts same s) (has-firsts P same s (All-tail P p s h)))

  pub types-firsts : (s : List (ℕ × ℕ)) → HasTypes ts s → HasTypes ts (firsts nat_eq s)
  types-firsts s h = has-firsts (λ p. HasName ts p.0 × HasType ts p.1) nat_eq s h

  pub terms-firsts : (m : List (VariableNode × ℕ)) → HasTerms ts m → HasTerms ts (firsts variable_eq m)
  terms-firsts m h = has-firsts (λ p. HasVariable ts p.0 × HasTerm ts p.1) variable_eq m h

  without-names : (k : ℕ) (s : List (ℕ × ℕ)) → HasName ts k → HasTypes ts s
      → type_map ts (filter (λ q. not (nat_eq k q.0)) s) ≡ without_name names (name_at ts k) (type_map ts s)
  without-names k [] g h = refl
  without-names k (p ∷ s) g h =
      by (nat_eq k p.0) refl (without-names k s g (All-tail (λ p. HasName ts p.0 × HasType ts p.1) p s h))
    where
      here : HasName ts p.0 × HasType ts p.1
      here = All-head (λ p. HasName ts p.0 × HasType ts p.1) p s h

      by : (b : Bool) → nat_eq k p.0 ≡ b → type_map ts (filter (λ q. not (nat_eq k q.0)) s)
          ≡ without_name names (name_at ts k) (type_map ts s)
          → type_map ts (filter (λ q. not (nat_eq k q.0)) (p ∷ s)) ≡ without_name names (name_at ts k)
          (type_map ts (p ∷ s))
      by true e rest =
          ap (λ b. type_map ts
          (cond (not b) (p ∷ filter (λ q. not (nat_eq k q.0)) s) (filter (λ q. not (nat_eq k q.0)) s))) e ∙ rest
          ∙ sym (ap
          (λ b. cond b (without_name names (name_at ts k) (type_map ts s)) ((name_at ts p.0, type_at ts p.1)
          ∷ without_name names (name_at ts k) (type_map ts s))) (same-names ts one k p.0 g here.0 ∙ e))
      by false e rest =
          ap (λ b. type_map ts
          (cond (not b) (p ∷ filter (λ q. not (nat_eq k q.0)) s) (filter (λ q. not (nat_eq k q.0)) s))) e
          ∙ ap (λ l. (name_at ts p.0, type_at ts p.1) ∷ l) rest
          ∙ sym (ap
          (λ b. cond b (without_name names (name_at ts k) (type_map ts s)) ((name_at ts p.0, type_at ts p.1)
          ∷ without_name names (name_at ts k) (type_map ts s))) (same-names ts one k p.0 g here.0 ∙ e))

  pub first_types-numbers : (s : List (ℕ × ℕ)) → HasTypes ts s → type_map ts (firsts nat_eq s)
      ≡ first_types names (type_map ts s)
  first_types-numbers [] h = refl
  first_types-numbers (p ∷ s) h =
      let tail = All-tail (λ p. HasName ts p.0 × HasType ts p.1) p s h in
      let here = All-head (λ p. HasName ts p.0 × HasType ts p.1) p s h in
      ap (λ l. (name_at ts p.0, type_at ts p.1) ∷ l) (without-names p.0 (firsts nat_eq s) here.0 (types-firsts s tail)
      ∙ ap (without_name names (name_at ts p.0)) (first_types-numbers s tail))

  without-variables : (v : VariableNode) (m : List (VariableNode × ℕ)) → HasVariable ts v → HasTerms ts m
      → term_map ts (filter (λ q. not (variable_eq v q.0)) m) ≡ without names (variable_at ts v) (term_map ts m)
  without-variables v [] g h = refl
  without-variables v (p ∷ m) g h = by (variable_eq v p.0) refl
      (without-variables v m g (All-tail (λ p. HasVariable ts p.0 × HasTerm ts p.1) p m h))
    where
      here : HasVariable ts p.0 × HasTerm ts p.1
      here = All-head (λ p. HasVariable ts p.0 × HasTerm ts p.1) p m h

      by : (b : Bool) → variable_eq v p.0 ≡ b → term_map ts (filter (λ q. not (variable_eq v q.0)) m)
          ≡ without names (variable_at ts v) (term_map ts m)
          → term_map ts (filter (λ q. not (variable_eq v q.0)) (p ∷ m)) ≡ without names (variable_at ts v)
          (term_map ts (p ∷ m))
      by true e rest =
          ap (λ b. term_map ts
          (cond (not b) (p ∷ filter (λ q. not (variable_eq v q.0)) m) (filter (λ q. not (variable_eq v q.0)) m)))
          e ∙ rest
          ∙ sym (ap
          (λ b. cond b (without names (variable_at ts v) (term_map ts m)) ((variable_at ts p.0, term_at ts p.1)
          ∷ without names (variable_at ts v) (term_map ts m))) (same-variables ts one v p.0 g here.0 ∙ e))
      by false e rest =
          ap (λ b. term_map ts
          (cond (not b) (p ∷ filter (λ q. not (variable_eq v q.0)) m) (filter (λ q. not (variable_eq v q.0)) m)))
          e ∙ ap (λ l. (variable_at ts p.0, term_at ts p.1) ∷ l) rest
          ∙ sym (ap
          (λ b. cond b (without names (variable_at ts v) (term_map ts m)) ((variable_at ts p.0, term_at ts p.1)
          ∷ without names (variable_at ts v) (term_map ts m))) (same-variables ts one v p.0 g here.0 ∙ e))

  pub first_pairs-numbers : (m : List (VariableNode × ℕ)) → HasTerms ts m → term_map ts (firsts variable_eq m)
      ≡ first_pairs names (term_map ts m)
  first_pairs-numbers [] h = refl
  first_pairs-numbers (p ∷ m) h =
      let tail = All-tail (λ p. HasVariable ts p.0 × HasTerm ts p.1) p m h in
      let here = All-head (λ p. HasVariable ts p.0 × HasTerm ts p.1) p m h in
      ap (λ l. (variable_at ts p.0, term_at ts p.1) ∷ l)
      (without-variables p.0 (firsts variable_eq m) here.0 (terms-firsts m tail)
      ∙ ap (without names (variable_at ts p.0)) (first_pairs-numbers m tail))

-- ---- the loop that collects them
-- the pairs whose keys aren't there
abbrev pub outside : {K V : Type 0} → (K → K → Bool) → List (K × V) → List (K × V) → List (K × V)
outside same es xs = filter (λ q. not (is_some (lookup (same q.0) es))) xs

module _ {K V : Type 0} (same : K → K → Bool) (decides : (x y : K) → Decides (same x y) (x ≡ y)) where
  -- a pair whose key is there adds nothing
  pub outside-known : (es : List (K × V)) (k : K) (xs : List (K × V)) → is_some (lookup (same k) es) ≡ true
      → outside same es (filter (λ q. not (same k q.0)) xs) ≡ outside same es xs
  outside-known es k [] h = refl
  outside-known es k (x ∷ xs) h = by (same k x.0) refl (outside-known es k xs h)
    where
      rest : List (K × V)
      rest = filter (λ q. not (same k q.0)) xs

      by : (b : Bool) → same k x.0 ≡ b → outside same es (filter (λ q. not (same k q.0)) xs) ≡ outside same es xs
          → outside same es (filter (λ q. not (same k q.0)) (x ∷ xs)) ≡ outside same es (x ∷ xs)
      by true e r =
          let key : k ≡ x.0 = (decides k x.0).0 e in
          let there : is_some (lookup (same x.0) es) ≡ true =
          subst (λ z. is_some (lookup (same z) es) ≡ true) key h in
          ap (λ b. outside same es
          (cond (not b) (x ∷ filter (λ q. not (same k q.0)) xs) (filter (λ q. not (same k q.0)) xs))) e ∙ r
          ∙ sym (ap (λ b. cond (not b) (x ∷ outside same es xs) (outside same es xs)) there)
      by false e r =
          ap (λ b. outside same es
          (cond (not b) (x ∷ filter (λ q. not (same k q.0)) xs) (filter (λ q. not (same k q.0)) xs))) e
          ∙ ap (λ l. cond (not (is_some (lookup (same x.0) es))) (x ∷ l) l) r

  lookup-end : (es : List (K × V)) (k : K) (p : K × V) → is_some (lookup (same k) (es ++ p ∷ []))
      ≡ (is_some (lookup (same k) es) || same k p.0)
  lookup-end [] k p = by (same k p.0)
    where
      by : (b : Bool) → is_some (cond b (Some p.1) None) ≡ (false || b)
      by true = refl
      by false = refl
  lookup-end (e ∷ es) k p = by (same k e.0) (lookup-end es k p)
    where
      by : (b : Bool) → is_some (lookup (same k) (es ++ p ∷ [])) ≡ (is_some (lookup (same k) es) || same k p.0)
          → is_some (cond b (Some e.1) (lookup (same k) (es ++ p ∷ [])))
          ≡ (is_some (cond b (Some e.1) (lookup (same k) es)) || same k p.0)
      by true r = refl
      by false r = r

  -- one that is new goes to the end
  pub outside-new : (es : List (K × V)) (p : K × V) (xs : List (K × V)) → outside same (es ++ p ∷ []) xs
      ≡ outside same es (filter (λ q. not (same p.0 q.0)) xs)
  outside-new es p [] = refl
  outside-new es p (x ∷ xs) = by (same p.0 x.0) refl (outside-new es p xs)
    where
      turned : (b : Bool) → same p.0 x.0 ≡ b → same x.0 p.0 ≡ b
      turned true e = (decides x.0 p.0).1 (sym ((decides p.0 x.0).0 e))
      turned false e = contrary (same x.0 p.0) refl
        where
          contrary : (c : Bool) → same x.0 p.0 ≡ c → c ≡ false
          contrary true f = absurd (true≢false (sym ((decides p.0 x.0).1 (sym ((decides x.0 p.0).0 f))) ∙ e))
          contrary false f = refl

      or-true : (c : Bool) → (c || true) ≡ true
      or-true true = refl
      or-true false = refl

      or-false : (c : Bool) → (c || false) ≡ c
      or-false true = refl
      or-false false = refl

      by : (b : Bool) → same p.0 x.0 ≡ b → outside same (es ++ p ∷ []) xs
          ≡ outside same es (filter (λ q. not (same p.0 q.0)) xs) → outside same (es ++ p ∷ []) (x ∷ xs)
          ≡ outside same es (filter (λ q. not (same p.0 q.0)) (x ∷ xs))
      by true e r =
          let there = lookup-end es x.0 p ∙ ap (λ c. is_some (lookup (same x.0) es) || c) (turned true e)
          ∙ or-true (is_some (lookup (same x.0) es)) in
          ap (λ b. cond (not b) (x ∷ outside same (es ++ p ∷ []) xs) (outside same (es ++ p ∷ []) xs)) there ∙ r
          ∙ sym (ap
          (λ b. outside same es
          (cond (not b) (x ∷ filter (λ q. not (same p.0 q.0)) xs) (filter (λ q. not (same p.0 q.0)) xs))) e)
      by false e r =
          let there = lookup-end es x.0 p ∙ ap (λ c. is_some (lookup (same x.0) es) || c) (turned false e)
          ∙ or-false (is_some (lookup (same x.0) es)) in
          ap (λ b. cond (not b) (x ∷ outside same (es ++ p ∷ []) xs) (outside same (es ++ p ∷ []) xs)) there
          ∙ ap (λ l. cond (not (is_some (lookup (same x.0) es))) (x ∷ l) l) r
          ∙ sym (ap
          (λ b. outside same es
          (cond (not b) (x ∷ filter (λ q. not (same p.0 q.0)) xs) (filter (λ q. not (same p.0 q.0)) xs))) e)

  -- ---- the loop's steps: what is collected, and the firsts of the rest whose keys aren't there
  pub step-known : (es : List (K × V)) (p : K × V) (ps : List (K × V)) → is_some (lookup (same p.0) es) ≡ true
      → es ++ outside same es (firsts same (p ∷ ps)) ≡ es ++ outside same es (firsts same ps)
  step-known es p ps h =
      ap (λ b. es ++ cond (not b) (p ∷ outside same es (filter (λ q. not (same p.0 q.0)) (firsts same ps)))
      (outside same es (filter (λ q. not (same p.0 q.0)) (firsts same ps)))) h
      ∙ ap (λ l. es ++ l) (outside-known es p.0 (firsts same ps) h)

  pub step-new : (es : List (K × V)) (p : K × V) (ps : List (K × V)) → is_some (lookup (same p.0) es) ≡ false
      → es ++ outside same es (firsts same (p ∷ ps)) ≡ (es ++ p ∷ []) ++ outside same (es ++ p ∷ []) (firsts same ps)
  step-new es p ps h =
      ap (λ b. es ++ cond (not b) (p ∷ outside same es (filter (λ q. not (same p.0 q.0)) (firsts same ps)))
      (outside same es (filter (λ q. not (same p.0 q.0)) (firsts same ps)))) h
      ∙ ap (λ l. es ++ (p ∷ l)) (sym (outside-new es p (firsts same ps)))
      ∙ sym (append_assoc es (p ∷ []) (outside same (es ++ p ∷ []) (firsts same ps)))

  pub first-next : (es : List (K × V)) (p : K × V) (ps : List (K × V)) → es ++ outside same es (firsts same (p ∷ ps))
      ≡ with_new same es p ++ outside same (with_new same es p) (firsts same ps)
  first-next es p ps = by (is_some (lookup (same p.0) es)) refl
    where
      by : (b : Bool) → is_some (lookup (same p.0) es) ≡ b → es ++ outside same es (firsts same (p ∷ ps))
          ≡ with_new same es p ++ outside same (with_new same es p) (firsts same ps)
      by true e = step-known es p ps e
          ∙ sym (ap (λ b. (if b then es else es ++ p ∷ []) ++ outside same (if b then es else es ++ p ∷ [])
          (firsts same ps)) e)
      by false e = step-new es p ps e
          ∙ sym (ap (λ b. (if b then es else es ++ p ∷ []) ++ outside same (if b then es else es ++ p ∷ [])
          (firsts same ps)) e)

  pub outside-none : (xs : List (K × V)) → outside same [] xs ≡ xs
  outside-none [] = refl
  outside-none (x ∷ xs) = ap (λ l. x ∷ l) (outside-none xs)

  pub outside-end : (es : List (K × V)) → es ++ outside same es [] ≡ es
  outside-end [] = refl
  outside-end (e ∷ es) = ap (λ l. e ∷ l) (outside-nothing es)
    where
      outside-nothing : (xs : List (K × V)) → xs ++ [] ≡ xs
      outside-nothing [] = refl
      outside-nothing (x ∷ xs) = ap (λ l. x ∷ l) (outside-nothing xs)

-- one that isn't there goes to the end of a map
pub absent-insert : {K V : Type 0} (same : K → K → Bool) (es : List (K × V)) (k : K) (v : V)
    → is_some (lookup (same k) es) ≡ false → insert_entry same es k v ≡ es ++ (k, v) ∷ []
absent-insert same [] k v h = refl
absent-insert same (e ∷ es) k v h = by (same k e.0) refl h (absent-insert same es k v)
  where
    by : (b : Bool) → same k e.0 ≡ b → is_some (lookup (same k) (e ∷ es)) ≡ false
        → (is_some (lookup (same k) es) ≡ false → insert_entry same es k v ≡ es ++ (k, v) ∷ [])
        → insert_entry same (e ∷ es) k v ≡ (e ∷ es) ++ (k, v) ∷ []
    by true p h f = absurd (true≢false (sym (ap (λ b. is_some (if b then Some e.1 else lookup (same k) es)) p) ∙ h))
    by false p h f = ap (λ b. if b then (e.0, v) ∷ es else e ∷ insert_entry same es k v) p
        ∙ ap (λ l. e ∷ l) (f (sym (ap (λ b. is_some (if b then Some e.1 else lookup (same k) es)) p) ∙ h))
